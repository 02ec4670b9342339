use Rattle.std.proofs.Common.{slice_get, ap, ◌∙◌, arith}
use Rattle.ss_records_blocks.proofs.Entries.{length_set}
use Rattle.ss_records_blocks.proofs.Paging.{page_few, living_set}
use Rattle.ss_records_blocks.proofs.page.Page.set.Goals as goal

pub overflow_add-self : goal.overflow_add-self
overflow_add-self c = omega (arith, c.self.invariant.1, page_few c.self.inside.places.items c.self.invariant.0)

pub invariant_of-self : goal.invariant_of-self
invariant_of-self c =
    let h = ap (λ l. slice_get l c.args.k) c.self.view_is ∙ c.requires in
    (length_set c.self.inside.places.items c.args.k _ ∙ c.self.invariant.0, omega (arith, c.self.invariant.1, living_set c.self.inside.places.items c.args.k c.args.place h))
