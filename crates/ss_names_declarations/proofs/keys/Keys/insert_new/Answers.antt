use Rattle.std.proofs.Common.{◌≡◌, Bool, true, false, List, ◌++◌, ◌∷◌, [], cond, is_some, refl, ap, ◌∙◌}
use Rattle.ss_names_declarations.proofs.Common.{is_some-lookup, keys_of, list_any, lookup}
use Rattle.std.proofs.lemmas.List.{map-append}
use Rattle.ss_names_declarations.proofs.keys.Keys.insert_new.Goals as goal

keys_beside : {K V : Type 0} → (b : Bool) (es : List (K × V)) (e : K × V) → keys_of (cond b es (es ++ e ∷ [])) ≡ cond b (keys_of es) (keys_of es ++ e.0 ∷ [])
keys_beside true es e = refl
keys_beside false es e = map-append (λ x. x.0) es (e ∷ [])

pub returns-clause-ok : goal.returns-clause-ok
returns-clause-ok g c =
    let test = g.K.PartialEq.eq c.args.key in
    let es = c.self.inside.table in
    ap keys_of c.in_ok-insert_new.ensures.ok ∙ keys_beside (is_some (lookup test es)) es (c.args.key, tt)
    ∙ ap (λ b. cond b (keys_of es) (keys_of es ++ c.args.key ∷ [])) (is_some-lookup test es)
    ∙ ap (λ ks. cond (list_any test ks) ks (ks ++ c.args.key ∷ [])) c.self.view_is
