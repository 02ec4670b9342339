use Rattle.std.proofs.Common.{rules, ◌≡◌, ℤ, subst, to_z, of_z, w64}
use Rattle.ss_machine_instructions.proofs.Common.{IsCounted, said_of_layout, Seen, seen_of}
use Rattle.ss_machine_instructions.proofs.Filing.{still_within, last_filed}
use Rattle.ss_machine_instructions.proofs.sets.put_last.Goals as goal

pub invariant_of-world : goal.invariant_of-world
invariant_of-world c = let i = c.world.inside in said_of_layout i.population.layout c.file_last-changed.new.self.layout i.notices.items i.timeline.histories.statistics i.classes.items c.file_last-changed.ensures.layout c.world.invariant

pub counted-requires : goal.counted-requires
counted-requires c =
    let i = c.world.inside in
    record { set = still_within c.args.world.now (seen_of i.disciplines.items i.notices.items i.population i.timeline) c.file_last-changed.new.self.layout c.args.set c.world.view_is c.file_last-changed.ensures.layout c.requires.set }

pub returns : goal.returns
returns c =
    let set = c.args.set in let m = c.args.owner in let x = c.args.member in let notes = c.args.noted in
    let i = c.world.inside in let h = c.file_last-changed.new.self in
    let new = c.counted.new.world in let q = c.file_last-changed.result in let r = c.counted.result in
    let e : Seen = seen_of i.disciplines.items i.notices.items i.population i.timeline in
    let same_m : to_z w64 (of_z w64 m) ≡ m = search rules in
    let same_x : to_z w64 (of_z w64 x) ≡ x = search rules in
    let note = subst (λ (z : ℤ). IsCounted set z q notes (record e { heap = h }) new r) same_m c.counted.ensures in
    last_filed e c.args.world.now set m h new notes c.world.view_is c.requires.set x q r (simp (same_m, same_x) at c.file_last-changed.ensures.done) note
