use Rattle.std.proofs.Common.{rules, ◌≡◌, ℤ, Ok, Err, ap, sym, subst, to_z, of_z, w64}
use Rattle.ss_base.specs.declared.words.End.TheVariants.{Last}
use Rattle.ss_code_instructions.specs.declared.instruction.Instruction.TheVariants.{RemoveLast as Runs}
use Rattle.ss_machine_instructions.proofs.Common.{act, as_value, HasTaken, is_due, IsDelivering, on_after}
use Rattle.ss_machine_instructions.proofs.Setwork.{takes_in, takes_delivers, takes, takes_not}
use Rattle.ss_machine_instructions.proofs.state.State.remove_last.Goals as goal

pub number-owner-requires : goal.number-owner-requires
number-owner-requires c = let z = c.requires in (takes_in z.0 z.1 c.args.here c.args.self.now (Runs c.args.set c.args.owner.now c.args.to.now c.args.noted) z.2 Last c.args.set c.args.owner.now c.args.to.now z.2.runs.carries.1).0

pub take_last-requires : goal.take_last-requires
take_last-requires c = let z = c.requires in record { set = (takes_in z.0 z.1 c.args.here c.args.self.now (Runs c.args.set c.args.owner.now c.args.to.now c.args.noted) z.2 Last c.args.set c.args.owner.now c.args.to.now z.2.runs.carries.1).1 }

pub put-requires : goal.put-requires
put-requires c =
    let z = c.requires in let s = c.args.self.now in
    let m = c.number-owner.result in let x = c.in-Ok.member in let e = c.take_last.new.world in
    let l = z.2.placed.line in
    let same : to_z w64 (of_z w64 m) ≡ m = search rules in
    let taken = subst (λ (y : ℤ). HasTaken Last c.args.set c.args.noted s.world e (Ok x) y) same c.in-Ok.ensures in
    let m' = act z.0.code l z.2.placed.instruction z.1 in
    let same_x : to_z w64 (of_z w64 x) ≡ x = search rules in
    let d = takes_delivers z.0 z.1 c.args.here s (Runs c.args.set c.args.owner.now c.args.to.now c.args.noted) z.2 Last c.args.set c.args.owner.now c.args.to.now m x c.args.noted e z.2.runs.carries.0 z.2.runs.carries.1 c.number-owner.ensures taken in
    (z.0, z.1, l, m', subst (λ (y : ℤ). IsDelivering z.0 z.1 l m' c.args.here (record s { world = e }) c.args.to.now (as_value (Ok y))) (sym same_x) d)

pub returns-in-Ok : goal.returns-in-Ok
returns-in-Ok c = λ w core r.
    let s = c.args.self.now in
    let m = c.number-owner.result in let x = c.in-Ok.member in let e = c.take_last.new.world in
    let l = r.placed.line in
    let same : to_z w64 (of_z w64 m) ≡ m = search rules in
    let taken = subst (λ (y : ℤ). HasTaken Last c.args.set c.args.noted s.world e (Ok x) y) same c.in-Ok.ensures in
    let d = takes_delivers w core c.args.here s (Runs c.args.set c.args.owner.now c.args.to.now c.args.noted) r Last c.args.set c.args.owner.now c.args.to.now m x c.args.noted e r.runs.carries.0 r.runs.carries.1 c.number-owner.ensures taken in
    let same_x : to_z w64 (of_z w64 x) ≡ x = search rules in
    let d' = subst (λ (y : ℤ). IsDelivering w core l (act w.code l r.placed.instruction core) c.args.here (record s { world = e }) c.args.to.now (as_value (Ok y))) (sym same_x) d in
    takes w core c.args.here s (Runs c.args.set c.args.owner.now c.args.to.now c.args.noted) r e c.put.new.self (on_after c.args.here c.put.result) (ap is_due r.runs.carries.1.2.2) (c.put.ensures w core l (act w.code l r.placed.instruction core) d')

pub returns-in-Err : goal.returns-in-Err
returns-in-Err c = λ w core r.
    let s = c.args.self.now in
    let m = c.number-owner.result in let e = c.take_last.new.world in
    let same : to_z w64 (of_z w64 m) ≡ m = search rules in
    let taken = subst (λ (y : ℤ). HasTaken Last c.args.set c.args.noted s.world e (Err c.in-Err.kind) y) same c.in-Err.ensures in
    takes_not w core c.args.here s (Runs c.args.set c.args.owner.now c.args.to.now c.args.noted) r Last c.args.set c.args.owner.now c.args.to.now m c.in-Err.kind c.args.noted e c.fault.new.self (on_after c.args.here c.fault.result) r.runs.carries.0 r.runs.carries.1 c.number-owner.ensures taken c.fault.ensures.faulted (ap (on_after c.args.here) c.fault.ensures.none)
