use Rattle.std.proofs.Common.{rules, ◌≡◌, Some, sym, subst, w64, of_z, to_z}
use Rattle.ss_machine.proofs.Common.{CanShowOne, IsReferenceToSubject, Whole}
use Rattle.ss_code_instructions.specs.declared.item.ItemKind.TheVariants as shows
use Rattle.ss_machine.proofs.Items.{mean_of_first}
use Rattle.ss_machine.proofs.showing.item_of.Goals as goal

pub returns-in-MeanOf-clause-shown : goal.returns-in-MeanOf-clause-shown
returns-in-MeanOf-clause-shown c =
    let s = c.args.state.now in
    let n = c.number_at-entity.result in
    let same : to_z w64 (of_z w64 n) ≡ n = search rules in
    let can = subst (CanShowOne s.world s.rows c.args.at) c.in-MeanOf.is c.requires in
    let refers : IsReferenceToSubject s.world c.in-MeanOf.statistic (Some (Whole n)) (to_z w64 (of_z w64 n)) =
    subst (IsReferenceToSubject s.world c.in-MeanOf.statistic (Some (Whole n))) (sym same) (can.1.1 n) in
    rw c.in-MeanOf.is (mean_of_first s.world s.rows c.args.at c.in-MeanOf.statistic n c.mean_item-in-MeanOf.result c.number_at-entity.ensures (c.mean_item-in-MeanOf.ensures.shown (Some (Whole n)) refers))
