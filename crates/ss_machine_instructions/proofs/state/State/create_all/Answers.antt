use Rattle.std.proofs.Common.{rules, ◌≡◌, ℤ, Ok, Err, refl, subst, to_z, of_z, w64, ap}
use Rattle.ss_code_instructions.specs.declared.instruction.Instruction.TheVariants.{CreateAll as Runs}
use Rattle.ss_machine_instructions.proofs.Common.{created_all_known, HasChangedWithMemory, on_after, on_at}
use Rattle.ss_machine_instructions.proofs.Creating.{count_within, all_within, all_permanent, creates_all, creates_all_not}
use Rattle.ss_machine_instructions.proofs.state.State.create_all.Goals as goal

pub number_at-count-requires : goal.number_at-count-requires
number_at-count-requires c =
    let z = c.requires in
    let h = count_within z.0 z.1 c.args.here c.args.self.now (Runs c.args.class c.args.variable) z.2 c.args.class c.args.variable z.2.runs.carries in
    search rules

pub create_all-requires-clause-class : goal.create_all-requires-clause-class
create_all-requires-clause-class c =
    let z = c.requires in
    let h = all_within z.0 z.1 c.args.here c.args.self.now (Runs c.args.class c.args.variable) z.2 c.args.class c.args.variable z.2.runs.carries in
    search rules

pub create_all-requires-clause-permanent : goal.create_all-requires-clause-permanent
create_all-requires-clause-permanent c =
    let z = c.requires in
    let h = all_permanent z.0 z.1 c.args.here c.args.self.now (Runs c.args.class c.args.variable) z.2 c.args.class c.args.variable z.2.runs.carries in
    search rules

pub returns-in-Ok : goal.returns-in-Ok
returns-in-Ok c = λ w core r.
    let same : to_z w64 (of_z w64 c.number_at-count.result) ≡ c.number_at-count.result = search rules in
    let made = subst (λ (x : ℤ). HasChangedWithMemory (created_all_known c.args.class x) c.args.self.now.world c.create_all.new.self (Ok tt)) same c.in-Ok.ensures in
    creates_all w core c.args.here c.args.self.now (Runs c.args.class c.args.variable) r c.args.class c.args.variable c.number_at-count.result c.create_all.new.self _ (on_at c.args.here) r.runs.carries (search rules) made refl refl

pub returns-in-Err : goal.returns-in-Err
returns-in-Err c = λ w core r.
    let same : to_z w64 (of_z w64 c.number_at-count.result) ≡ c.number_at-count.result = search rules in
    let made = subst (λ (x : ℤ). HasChangedWithMemory (created_all_known c.args.class x) c.args.self.now.world c.create_all.new.self (Err c.in-Err.refused)) same c.in-Err.ensures in
    creates_all_not w core c.args.here c.args.self.now (Runs c.args.class c.args.variable) r c.args.class c.args.variable c.number_at-count.result c.create_all.new.self c.in-Err.refused c.refused.new.self (on_after c.args.here c.refused.result) r.runs.carries (search rules) made c.refused.ensures.state (ap (on_after c.args.here) c.refused.ensures.none)
