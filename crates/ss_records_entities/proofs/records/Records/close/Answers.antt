use Rattle.std.proofs.Common.{◌<◌, length, sym, subst, ◌∙◌, arith}
use Rattle.ss_records_blocks.specs.Cells.{words_at}
use Rattle.ss_records_entities.proofs.Living.{nothing_left}
use Rattle.ss_records_entities.proofs.records.Records.close.Goals as goal

pub give_all_back-requires : goal.give_all_back-requires
give_all_back-requires c = record { kept = (c.args.self.notes.lists, rw c.deref.ensures.value c.requires.kept) }

pub close-requires : goal.close-requires
close-requires c =
    let some : 0 < length (words_at c.give_all_back.new.blocks.cells c.args.self.system.at) = subst (λ us. 0 < length us) (sym c.give_all_back.ensures.system) (omega (arith, c.requires.kept.system)) in
    c.give_back.ensures.cells ∙ nothing_left c.give_all_back.new.blocks.cells c.args.self.system.at c.give_all_back.ensures.count some
