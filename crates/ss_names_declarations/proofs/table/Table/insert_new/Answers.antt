use Rattle.std.proofs.Common.{◌≡◌, ◌++◌, ◌∷◌, [], false, cond, Option, None, Some, is_some, refl, sym, ap, ◌∙◌}
use Rattle.std.specs.HashMap.{get}
use Rattle.std.specs.Map.{lookup}
use Rattle.indexmap.proofs.CallerLemmas.{insert_entry-new}
use Rattle.ss_names_declarations.proofs.table.Table.insert_new.Goals as goal

none : {X : Type 0} → (o : Option X) → is_some o ≡ false → o ≡ None
none None e = refl
none (Some x) e = absurd cc

pub returns-clause-ok : goal.returns-clause-ok
returns-clause-ok g c =
    let eq = g.K.PartialEq.eq in
    let m = c.self.inside.map in
    let absent : is_some (get eq m c.args.key) ≡ false = sym c.contains_key.ensures ∙ c.if-contains_key.false in
    let there : is_some (lookup (eq c.args.key) c.args.self.now) ≡ false = ap (λ es. is_some (lookup (eq c.args.key) es)) (sym c.self.view_is) ∙ absent in
    c.in_ok-insert.ensures.entries ∙ insert_entry-new eq m c.args.key c.args.value (none (get eq m c.args.key) absent)
    ∙ ap (λ es. es ++ (c.args.key, c.args.value) ∷ []) c.self.view_is
    ∙ sym (ap (λ b. cond b c.args.self.now (c.args.self.now ++ (c.args.key, c.args.value) ∷ [])) there)
