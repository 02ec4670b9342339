use Rattle.std.proofs.Common.{◌≡◌, Option, None, Some, is_some, refl, ap, ◌∙◌}
use Rattle.ss_names_declarations.proofs.Common.{is_some-lookup, list_any}
use Rattle.std.specs.Borrow.{Bor}
use Rattle.std.specs.Option.{option_copied}
use Rattle.ss_names_declarations.proofs.keys.Keys.contains.Goals as goal

copied : {T : Type 0} → (o : Option (Bor T)) → is_some o ≡ is_some (option_copied o)
copied None = refl
copied (Some x) = refl

pub returns : goal.returns
returns g c =
    let test = g.K.PartialEq.eq c.args.key.now in
    c.is_some.ensures ∙ copied c.get.result ∙ ap is_some c.get.ensures ∙ is_some-lookup test c.self.inside.table ∙ ap (list_any test) c.self.view_is
