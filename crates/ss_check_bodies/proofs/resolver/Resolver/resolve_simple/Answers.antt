use Rattle.std.proofs.Common.{map, ap, ◌∙◌}
use Rattle.ss_program.specs.View.{view_item, view_statement as view_resolved}
use Rattle.ss_check_bodies.proofs.Common.{failed}
use Rattle.ss_check_bodies.proofs.Nested.{lines_of, print_fails, print_made}
use Rattle.ss_check_bodies.proofs.Seen.{next_failed, next_made}
use Rattle.ss_check_bodies.proofs.resolver.Resolver.resolve_simple.Goals as goal

pub returns-in_err-pictures-in-Print : goal.returns-in_err-pictures-in-Print
returns-in_err-pictures-in-Print c =
    failed view_resolved c.from_residual-in_err-pictures-in-Print.result c.in_err-pictures-in-Print.field-0.0 _ c.from_residual-in_err-pictures-in-Print.ensures.1
    (print_fails _ c.args.tree.now c.in-Print.line c.in-Print.items c.in-Print.pictures c.deref-in-Print-2.result.now c.in_err-pictures-in-Print.field-0.0
    c.in-Print.is c.deref-in-Print-2.ensures.value (next_failed (λ v. map view_item v.items) c.resolve_items.result _ _ c.resolve_items.ensures c.in_err-pictures-in-Print.ensures))

pub returns-in_ok-pictures-in-Print : goal.returns-in_ok-pictures-in-Print
returns-in_ok-pictures-in-Print c =
    print_made _ c.args.tree.now c.in-Print.line c.in-Print.items c.in-Print.pictures c.deref-in-Print-2.result.now c.deref-in-Print.result.now
    c.in_ok-pictures-in-Print.items c.in_ok-pictures-in-Print.pictures c.in-Print.is c.deref-in-Print-2.ensures.value c.deref-in-Print.ensures.value
    (next_made (λ v. map view_item v.items) c.resolve_items.result _ _ c.resolve_items.ensures c.in_ok-pictures-in-Print.ensures.1)
    (ap lines_of c.in_ok-pictures-in-Print.ensures.0 ∙ c.in_ok-lines-in-Print.ensures)
