use Rattle.std.proofs.Common.{rules, ◌≡◌, ap, ℤ, Ok, sym, subst, to_z, of_z, w64}
use Rattle.ss_code_instructions.specs.declared.instruction.Instruction.TheVariants.{Clock as Runs}
use Rattle.ss_machine_instructions.proofs.Common.{act, is_due, IsDelivering, on_after, Whole}
use Rattle.ss_machine_instructions.proofs.Placing.{calm}
use Rattle.ss_machine_instructions.proofs.Assigning.{clocks}
use Rattle.ss_machine_instructions.proofs.state.State.clock.Goals as goal

pub put-requires : goal.put-requires
put-requires c =
    let z = c.requires in
    let e : c.args.self.now.world.time ≡ c.time-time.result = search rules in
    let l = z.2.placed.line in
    let m = act z.0.code l z.2.placed.instruction z.1 in
    let same : to_z w64 (of_z w64 c.time-time.result) ≡ c.time-time.result = search rules in
    (z.0, z.1, l, m, subst (λ (v : ℤ). IsDelivering z.0 z.1 l m c.args.here c.args.self.now c.args.to.now (Ok (Whole v))) (sym same) (clocks z.0 z.1 c.args.here c.args.self.now (Runs c.args.to.now) z.2 c.args.to.now c.time-time.result z.2.runs.carries e))

pub returns : goal.returns
returns c = λ w core r.
    let e : c.args.self.now.world.time ≡ c.time-time.result = search rules in
    let d = clocks w core c.args.here c.args.self.now (Runs c.args.to.now) r c.args.to.now c.time-time.result r.runs.carries e in
    let l = r.placed.line in
    let m = act w.code l r.placed.instruction core in
    let same : to_z w64 (of_z w64 c.time-time.result) ≡ c.time-time.result = search rules in
    let handed = subst (λ (v : ℤ). IsDelivering w core l m c.args.here c.args.self.now c.args.to.now (Ok (Whole v))) (sym same) d in
    calm w core c.args.here c.args.self.now (Runs c.args.to.now) r c.put.new.self (on_after c.args.here c.put.result) (ap is_due r.runs.carries.2) (c.put.ensures w core l m handed)
