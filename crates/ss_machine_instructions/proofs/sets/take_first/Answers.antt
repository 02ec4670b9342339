use Rattle.std.proofs.Common.{rules, ◌≡◌, ℤ, subst, to_z, of_z, w64}
use Rattle.ss_machine_instructions.proofs.Common.{IsCountedOut, said_of_layout, Seen, seen_of}
use Rattle.ss_base.specs.declared.words.End.TheVariants as ends
use Rattle.ss_machine_instructions.proofs.Filing.{still_within, end_taken}
use Rattle.ss_machine_instructions.proofs.sets.take_first.Goals as goal

pub invariant_of-world : goal.invariant_of-world
invariant_of-world c = let i = c.world.inside in said_of_layout i.population.layout c.remove_first-taken.new.self.layout i.notices.items i.timeline.histories.statistics i.classes.items c.remove_first-taken.ensures.layout c.world.invariant

pub counted_out-requires : goal.counted_out-requires
counted_out-requires c =
    let i = c.world.inside in
    record { set = still_within c.args.world.now (seen_of i.disciplines.items i.notices.items i.population i.timeline) c.remove_first-taken.new.self.layout c.args.set c.world.view_is c.remove_first-taken.ensures.layout c.requires.set }

pub returns : goal.returns
returns c =
    let set = c.args.set in let m = c.args.owner in let notes = c.args.noted in
    let i = c.world.inside in let h = c.remove_first-taken.new.self in
    let new = c.counted_out.new.world in let q = c.remove_first-taken.result in let r = c.counted_out.result in
    let e : Seen = seen_of i.disciplines.items i.notices.items i.population i.timeline in
    let same : to_z w64 (of_z w64 m) ≡ m = search rules in
    let note = subst (λ (z : ℤ). IsCountedOut set z q notes (record e { heap = h }) new r) same c.counted_out.ensures in
    end_taken e c.args.world.now set m h new notes c.world.view_is c.requires.set ends.First q r (simp same at c.remove_first-taken.ensures.done) note
