use Rattle.std.proofs.Common.{rules, ◌≡◌, ℤ, subst, to_z, of_z, w64, ap, refl}
use Rattle.ss_machine_instructions.proofs.Common.{as_value, IsDelivering, on_after, on_at, place_at, Whole, with_number}
use Rattle.ss_machine_instructions.proofs.Delivering.{put_within, put_value, put_fault}
use Rattle.ss_machine_instructions.proofs.state.State.put.Goals as goal

pub set_number-requires : goal.set_number-requires
set_number-requires c = let z = c.requires in put_within z.0 z.1 z.2 z.3 c.args.here c.args.self.now c.args.to.now (as_value c.args.answer) z.4

pub returns-in-Ok : goal.returns-in-Ok
returns-in-Ok c = λ w core l m d.
    let d' = subst (λ a. IsDelivering w core l m c.args.here c.args.self.now c.args.to.now (as_value a)) c.in-Ok.is d in
    let same : to_z w64 (of_z w64 c.in-Ok.number) ≡ c.in-Ok.number = search rules in
    let put = subst (λ (z : ℤ). c.set_number.new.self ≡ record c.args.self.now { rows = with_number c.args.self.now.rows (place_at c.args.here.frame c.args.to.now) z }) same c.set_number.ensures in
    put_value w core l m c.args.here c.args.self.now c.args.to.now (Whole c.in-Ok.number) c.set_number.new.self (on_at c.args.here) d' put refl

pub returns-in-Err : goal.returns-in-Err
returns-in-Err c = λ w core l m d.
    let d' = subst (λ a. IsDelivering w core l m c.args.here c.args.self.now c.args.to.now (as_value a)) c.in-Err.is d in
    put_fault w core l m c.args.here c.args.self.now c.args.to.now c.in-Err.kind c.fault.new.self (on_after c.args.here c.fault.result) d' c.fault.ensures.faulted (ap (on_after c.args.here) c.fault.ensures.none)
