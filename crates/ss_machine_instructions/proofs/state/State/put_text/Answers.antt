use Rattle.std.proofs.Common.{subst, ap, refl}
use Rattle.ss_machine_instructions.proofs.Common.{as_text, IsDelivering, on_after, on_at, Text}
use Rattle.ss_machine_instructions.proofs.Delivering.{put_within, put_value, put_fault}
use Rattle.ss_machine_instructions.proofs.state.State.put_text.Goals as goal

pub set_text-requires : goal.set_text-requires
set_text-requires c = let z = c.requires in put_within z.0 z.1 z.2 z.3 c.args.here c.args.self.now c.args.to.now (as_text c.args.answer) z.4

pub returns-in-Ok : goal.returns-in-Ok
returns-in-Ok c = λ w core l m d.
    let d' = subst (λ a. IsDelivering w core l m c.args.here c.args.self.now c.args.to.now (as_text a)) c.in-Ok.is d in
    put_value w core l m c.args.here c.args.self.now c.args.to.now (Text c.in-Ok.text) c.set_text.new.self (on_at c.args.here) d' c.set_text.ensures refl

pub returns-in-Err : goal.returns-in-Err
returns-in-Err c = λ w core l m d.
    let d' = subst (λ a. IsDelivering w core l m c.args.here c.args.self.now c.args.to.now (as_text a)) c.in-Err.is d in
    put_fault w core l m c.args.here c.args.self.now c.args.to.now c.in-Err.kind c.fault.new.self (on_after c.args.here c.fault.result) d' c.fault.ensures.faulted (ap (on_after c.args.here) c.fault.ensures.none)
