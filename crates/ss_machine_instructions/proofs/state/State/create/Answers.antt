use Rattle.std.proofs.Common.{rules, Ok, Err, ◌≡◌, ℤ, sym, subst, to_z, of_z, w64, ap}
use Rattle.ss_code_instructions.specs.declared.instruction.Instruction.TheVariants.{Create as Runs}
use Rattle.ss_machine_instructions.proofs.Common.{act, HasMade, IsDelivered, IsDelivering, made_one, on_after, Whole}
use Rattle.ss_machine_instructions.proofs.Creating.{creates_within, creates_single, creates, created, creates_not}
use Rattle.ss_machine_instructions.proofs.state.State.create.Goals as goal

pub create-requires-clause-class : goal.create-requires-clause-class
create-requires-clause-class c =
    let z = c.requires in
    let h = creates_within z.0 z.1 c.args.here c.args.self.now (Runs c.args.class c.args.to.now) z.2 c.args.class c.args.to.now z.2.runs.carries in
    search rules

pub create-requires-clause-single : goal.create-requires-clause-single
create-requires-clause-single c =
    let z = c.requires in
    let h = creates_single z.0 z.1 c.args.here c.args.self.now (Runs c.args.class c.args.to.now) z.2 c.args.class c.args.to.now z.2.runs.carries in
    search rules

pub put-requires : goal.put-requires
put-requires c =
    let z = c.requires in
    let made : HasMade (made_one c.args.class) c.args.self.now.world c.create.new.self (Ok c.in-Ok.number) = search rules in
    let l = z.2.placed.line in
    let m = act z.0.code l z.2.placed.instruction z.1 in
    let same : to_z w64 (of_z w64 c.in-Ok.number) ≡ c.in-Ok.number = search rules in
    (z.0, z.1, l, m, subst (λ (v : ℤ). IsDelivering z.0 z.1 l m c.args.here (record c.args.self.now { world = c.create.new.self }) c.args.to.now (Ok (Whole v))) (sym same) (creates z.0 z.1 c.args.here c.args.self.now (Runs c.args.class c.args.to.now) z.2 c.args.class c.args.to.now c.in-Ok.number c.create.new.self z.2.runs.carries made))

pub returns-in-Ok : goal.returns-in-Ok
returns-in-Ok c = λ w core r.
    let made : HasMade (made_one c.args.class) c.args.self.now.world c.create.new.self (Ok c.in-Ok.number) = search rules in
    let same : to_z w64 (of_z w64 c.in-Ok.number) ≡ c.in-Ok.number = search rules in
    let delivered = subst (λ (v : ℤ). IsDelivered c.args.here (record c.args.self.now { world = c.create.new.self }) c.put.new.self c.put.result c.args.to.now (Ok (Whole v))) same c.put.ensures in
    created w core c.args.here c.args.self.now (Runs c.args.class c.args.to.now) r c.args.class c.args.to.now c.in-Ok.number c.create.new.self c.put.new.self c.put.result r.runs.carries made delivered

pub returns-in-Err : goal.returns-in-Err
returns-in-Err c = λ w core r.
    let made : HasMade (made_one c.args.class) c.args.self.now.world c.create.new.self (Err c.in-Err.refused) = search rules in
    creates_not w core c.args.here c.args.self.now (Runs c.args.class c.args.to.now) r c.args.class c.args.to.now c.create.new.self c.in-Err.refused c.refused.new.self (on_after c.args.here c.refused.result) r.runs.carries made c.refused.ensures.state (ap (on_after c.args.here) c.refused.ensures.none)
