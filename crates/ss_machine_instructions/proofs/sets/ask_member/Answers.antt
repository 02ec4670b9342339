use Rattle.std.proofs.Common.{ap}
use Rattle.ss_world.specs.State.{State}
use Rattle.ss_machine_world.proofs.Said.{said_of_layout}
use Rattle.ss_machine_instructions.proofs.sets.ask_member.Goals as goal

pub invariant_of-world : goal.invariant_of-world
invariant_of-world c = let i = c.world.inside in said_of_layout i.population.layout c.answer_of_member.new.population.layout i.notices.items i.timeline.histories.statistics i.classes.items (ap (λ (h : State). h.layout) c.answer_of_member.ensures.same) c.world.invariant
