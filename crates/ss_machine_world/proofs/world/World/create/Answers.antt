use Rattle.std.proofs.Common.{◌≡◌, List, true, false, sym, ◌∙◌, subst}
use Rattle.ss_machine_world.proofs.Common.{AreSaid, Class, ClassEntry, columns_of, HasMade, is_home, is_single, list_any, made_one, Seen, slice_get}
use Rattle.ss_machine_world.proofs.Said.{none_start, said_of_layout}
use Rattle.ss_machine_world.proofs.Starting.{one_alone, seen_of}
use Rattle.ss_machine_world.proofs.world.World.create.Goals as goal

pub returns-then-not-is_watched : goal.returns-then-not-is_watched
returns-then-not-is_watched c =
    let i = c.self.inside in let class = c.args.class in
    let e : Seen = seen_of i.disciplines.items i.notices.items i.population i.timeline in
    let said : AreSaid i.population.layout i.notices.items i.timeline.histories.statistics c.deref.result.now =
    subst (λ (entries : List ClassEntry). AreSaid i.population.layout i.notices.items i.timeline.histories.statistics entries) (sym c.deref.ensures.value) c.self.invariant in
    let none : list_any (is_home i.population.layout (Class class)) i.timeline.histories.statistics ≡ false = sym (c.is_watched.ensures _ _ _ said) ∙ c.if-not-is_watched.true in
    let single : is_single (slice_get e.heap.layout.classes class) ≡ true = subst (λ (v : Seen). is_single (slice_get v.heap.layout.classes class) ≡ true) (sym c.self.view_is) c.requires.single in
    subst (λ (old : Seen). HasMade (made_one class) old (record e { heap = c.create.new.self }) c.create.result) c.self.view_is
    (one_alone e class single c.create.new.self c.create.result (λ here now. none_start i.population.layout (Class class) here now i.timeline.histories.statistics (columns_of i.timeline.histories.rows) none) c.create.ensures.done)

pub invariant_of-self : goal.invariant_of-self
invariant_of-self c = let i = c.self.inside in said_of_layout i.population.layout c.create.new.self.layout i.notices.items i.timeline.histories.statistics i.classes.items c.create.ensures.layout c.self.invariant
