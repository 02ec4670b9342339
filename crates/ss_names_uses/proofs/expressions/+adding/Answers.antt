use Rattle.std.proofs.Common.{rules, ◌≡◌, ◌∷◌, [], length, append_assoc}
use Rattle.ss_names_uses.proofs.Rows.{in_named_made, in_call_made, in_product_made, in_sum_made}
use Rattle.ss_names_uses.proofs.expressions.+adding.Goals as goal

pub add_expression-returns-in_ok-add_place-in-Named : goal.add_expression-returns-in_ok-add_place-in-Named
add_expression-returns-in_ok-add_place-in-Named t c =
    let counted : c.len-subscripts.result ≡ length c.in-Named.named.subscripts.items = search rules in
    rw (c.in-Named.is, in_named_made c.args.line c.args.number c.in-Named.named, ← counted, ← c.deref.ensures.value, ← append_assoc c.args.into.now.items (_ ∷ []) _, ← c.in_ok-add_place-in-Named.ensures) c.add_numbers.ensures

pub add_expression-returns-in_ok-add_count-in-Call : goal.add_expression-returns-in_ok-add_count-in-Call
add_expression-returns-in_ok-add_count-in-Call t c =
    let counted : c.len-found.result ≡ length c.in-Call.arguments.items = search rules in
    rw (c.in-Call.is, in_call_made c.args.line c.args.number c.in-Call.function c.in-Call.arguments, ← counted, ← c.deref-in-Call.ensures.value, ← append_assoc c.args.into.now.items (_ ∷ []) _, ← c.in_ok-add_count-in-Call.ensures) c.add_numbers-in-Call.ensures

pub add_expression-returns-in_ok-add_expression-in-Product : goal.add_expression-returns-in_ok-add_expression-in-Product
add_expression-returns-in_ok-add_expression-in-Product t c =
    rw (c.in-Product.is, in_product_made c.args.line c.args.number c.in-Product.first c.in-Product.further, ← append_assoc, ← c.deref-in-Product.ensures, ← c.in_ok-add_expression-in-Product.ensures, ← c.deref-in-Product-2.ensures.value) c.add_numbers-in-Product.ensures

pub add_expression-returns-in_ok-add_expression-in-Sum : goal.add_expression-returns-in_ok-add_expression-in-Sum
add_expression-returns-in_ok-add_expression-in-Sum t c =
    rw (c.in-Sum.is, in_sum_made c.args.line c.args.number c.in-Sum.first c.in-Sum.further, ← append_assoc, ← c.deref-in-Sum.ensures, ← c.in_ok-add_expression-in-Sum.ensures, ← c.deref-in-Sum-2.ensures.value) c.add_terms.ensures
