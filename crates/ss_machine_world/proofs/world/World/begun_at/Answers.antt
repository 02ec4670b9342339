use Rattle.std.proofs.Common.{ap, ◌∙◌}
use Rattle.ss_world.specs.State.{State}
use Rattle.ss_machine_world.proofs.Said.{said_of_layout}
use Rattle.ss_machine_world.proofs.world.World.begun_at.Goals as goal

pub invariant_of-self : goal.invariant_of-self
invariant_of-self c = let i = c.self.inside in said_of_layout i.population.layout c.is_in.new.self.layout i.notices.items i.timeline.histories.statistics i.classes.items (ap (λ (h : State). h.layout) c.is_in.ensures.same) c.self.invariant

pub invariant_of-self-then-not-after : goal.invariant_of-self-then-not-after
invariant_of-self-then-not-after c = let i = c.self.inside in said_of_layout i.population.layout c.is_in.new.self.layout i.notices.items i.timeline.histories.statistics i.classes.items (ap (λ (h : State). h.layout) c.is_in.ensures.same) c.self.invariant

pub invariant_of-self-then-reverse : goal.invariant_of-self-then-reverse
invariant_of-self-then-reverse c = let i = c.self.inside in said_of_layout i.population.layout c.previous.new.self.layout i.notices.items i.timeline.histories.statistics i.classes.items (ap (λ (h : State). h.layout) (c.previous.ensures.same ∙ c.is_in.ensures.same)) c.self.invariant

pub invariant_of-self-else-reverse : goal.invariant_of-self-else-reverse
invariant_of-self-else-reverse c = let i = c.self.inside in said_of_layout i.population.layout c.next.new.self.layout i.notices.items i.timeline.histories.statistics i.classes.items (ap (λ (h : State). h.layout) (c.next.ensures.same ∙ c.is_in.ensures.same)) c.self.invariant

pub invariant_of-self-in-Ok-false : goal.invariant_of-self-in-Ok-false
invariant_of-self-in-Ok-false c = let i = c.self.inside in said_of_layout i.population.layout c.is_in.new.self.layout i.notices.items i.timeline.histories.statistics i.classes.items (ap (λ (h : State). h.layout) c.is_in.ensures.same) c.self.invariant
