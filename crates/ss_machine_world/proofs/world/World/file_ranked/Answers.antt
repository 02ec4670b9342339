use Rattle.std.proofs.Common.{rules, ◌≡◌, List, length, Some, None, refl, ap, sym, ◌∙◌, subst, to_z, of_z, w64}
use Rattle.ss_machine_world.proofs.Common.{Discipline, HasRearranged, Seen, slice_get}
use Rattle.std.proofs.lemmas.Option.{slice_get_read, slice_get_past}
use Rattle.ss_world.specs.Disciplines.{filed}
use Rattle.ss_machine_world.proofs.Ruling.{ruled_by}
use Rattle.ss_machine_world.proofs.Starting.{seen_of}
use Rattle.ss_machine_world.proofs.Said.{said_of_layout}
use Rattle.ss_machine_world.proofs.world.World.file_ranked.Goals as goal

pub returns-in-Some : goal.returns-in-Some
returns-in-Some c = λ d has.
    let o = c.args.owner in let x = c.args.member in
    let same_o : to_z w64 (of_z w64 o) ≡ o = search rules in
    let same_x : to_z w64 (of_z w64 x) ≡ x = search rules in
    let i = c.self.inside in let k = c.in-Some.discipline.now in
    let e : Seen = seen_of i.disciplines.items i.notices.items i.population i.timeline in
    let at = slice_get_read c.deref.result.now (length c.deref.result.now) c.args.set k refl c.in-Some.ensures.lookup.3.0 c.in-Some.ensures.lookup.1 in
    let here : slice_get e.disciplines c.args.set ≡ Some k = subst (λ (ds : List Discipline). slice_get ds c.args.set ≡ Some k) c.deref.ensures.value at in
    let has_here : slice_get e.disciplines c.args.set ≡ Some d = ap (λ (v : Seen). slice_get v.disciplines c.args.set) c.self.view_is ∙ has in
    subst (λ (old : Seen). HasRearranged (λ h. filed h d c.args.set o x) old (record e { heap = c.file.new.self }) c.file.result) c.self.view_is
    (ruled_by e c.args.set o x k d c.file.new.self c.file.result here has_here (simp (same_o, same_x) at c.file.ensures.done))

pub returns-in-None : goal.returns-in-None
returns-in-None c = λ d has.
    let i = c.self.inside in
    let g = rw c.deref.ensures.value at c.in-None.ensures.lookup in
    let none : slice_get i.disciplines.items c.args.set ≡ None = slice_get_past i.disciplines.items c.args.set g.3 in
    absurd (let never : None ≡ Some d = sym none ∙ ap (λ (v : Seen). slice_get v.disciplines c.args.set) c.self.view_is ∙ has in cc)

pub invariant_of-self : goal.invariant_of-self
invariant_of-self c = let i = c.self.inside in said_of_layout i.population.layout c.file.new.self.layout i.notices.items i.timeline.histories.statistics i.classes.items c.file.ensures.layout c.self.invariant
