use Rattle.std.proofs.Common.{rules, ◌≡◌, ◌∷◌, [], length, append_assoc}
use Rattle.ss_names_uses.proofs.Rows.{in_named_listed}
use Rattle.ss_names_uses.proofs.expressions.add_named.Goals as goal

pub returns : goal.returns
returns c =
    let counted : c.len-subscripts.result ≡ length c.args.named.now.subscripts.items = search rules in
    rw (in_named_listed c.args.line c.args.role c.args.number c.args.named.now, ← counted, ← c.deref.ensures.value, ← append_assoc c.args.into.now.items (_ ∷ []) _, ← c.in_ok-add_place.ensures) c.add_numbers.ensures
