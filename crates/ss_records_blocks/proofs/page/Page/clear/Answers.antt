use Rattle.std.proofs.Common.{slice_get, ap, ◌∙◌, arith}
use Rattle.ss_records_blocks.proofs.Entries.{living_gone, length_set}
use Rattle.ss_records_blocks.proofs.Paging.{some_living}
use Rattle.ss_records_blocks.proofs.page.Page.clear.Goals as goal

pub overflow_sub-self : goal.overflow_sub-self
overflow_sub-self c = let h = ap (λ l. slice_get l c.args.k) c.self.view_is ∙ c.requires.1 in omega (arith, c.self.invariant.1, some_living c.self.inside.places.items c.args.k c.requires.0 h)

pub invariant_of-self : goal.invariant_of-self
invariant_of-self c =
    let h = ap (λ l. slice_get l c.args.k) c.self.view_is ∙ c.requires.1 in
    (length_set c.self.inside.places.items c.args.k _ ∙ c.self.invariant.0, omega (arith, c.self.invariant.1, living_gone c.self.inside.places.items c.args.k c.requires.0 h))
