use Rattle.std.proofs.Common.{rules, ◌≡◌, ◌<◌, ℤ, length, sym, ◌∙◌, subst, to_z, of_z, w64}
use Rattle.ss_machine_instructions.proofs.Common.{Discipline, filed, HasMemberKeys, HasRearranged, IsCounted, Layout}
use Rattle.ss_machine_instructions.proofs.Filing.{one, ruled_layout, ruled_filed}
use Rattle.ss_machine_instructions.proofs.sets.put_ranked.Goals as goal

pub file_ranked-changed-requires-clause-keys : goal.file_ranked-changed-requires-clause-keys
file_ranked-changed-requires-clause-keys c = λ d has.
    let k = c.requires.ruled in
    subst (λ (d : Discipline). HasMemberKeys c.args.world.now.heap.layout c.args.set d) (one (sym k.there ∙ has)) k.keys

pub counted-requires : goal.counted-requires
counted-requires c =
    let k = c.requires.ruled in
    let layout = ruled_layout c.args.world.now c.file_ranked-changed.new.self k.discipline c.args.set (to_z w64 (of_z w64 c.args.owner)) (to_z w64 (of_z w64 c.args.member)) c.file_ranked-changed.result (c.file_ranked-changed.ensures k.discipline k.there) in
    record { set = subst (λ (l : Layout). c.args.set < length l.sets) (sym layout) c.requires.set }

pub returns : goal.returns
returns c =
    let set = c.args.set in let m = c.args.owner in let x = c.args.member in let notes = c.args.noted in let k = c.requires.ruled in
    let e = c.args.world.now in let mid = c.file_ranked-changed.new.self in let q = c.file_ranked-changed.result in
    let new = c.counted.new.world in let r = c.counted.result in
    let same_m : to_z w64 (of_z w64 m) ≡ m = search rules in
    let same_x : to_z w64 (of_z w64 x) ≡ x = search rules in
    let re =
    subst (λ (y : ℤ). HasRearranged (λ h. filed h k.discipline set y x) e mid q) same_m
    (subst (λ (z : ℤ). HasRearranged (λ h. filed h k.discipline set (to_z w64 (of_z w64 m)) z) e mid q) same_x (c.file_ranked-changed.ensures k.discipline k.there)) in
    let note = subst (λ (z : ℤ). IsCounted set z q notes mid new r) same_m c.counted.ensures in
    ruled_filed e set m mid new notes c.requires.set k.discipline x q r k.there k.fits re note
