use Rattle.std.proofs.Common.{◌≡◌, false, sym, ◌∙◌}
use Rattle.ss_machine_world.proofs.Common.{Class, columns, is_home, list_any}
use Rattle.ss_machine_world.proofs.Said.{none_end}
use Rattle.ss_machine_world.proofs.entities.end_histories.Goals as goal

pub returns-then-not-is_watched-clause-ended : goal.returns-then-not-is_watched-clause-ended
returns-then-not-is_watched-clause-ended c =
    let t = c.args.timeline.now in
    let none : list_any (is_home c.args.layout.now (Class c.args.class)) t.histories.statistics ≡ false = sym (c.is_watched.ensures _ _ _ c.requires.said.1) ∙ c.if-not-is_watched.true in
    sym (none_end c.args.layout.now c.args.class c.args.number t.histories.statistics (columns t) none)
