use Rattle.std.proofs.Common.{refl, ap, rules, ◌≡◌, ℤ, Ok, sym, subst, to_z, of_z, w64}
use Rattle.ss_machine_instructions.proofs.Common.{act, Integer, is_due, IsDelivering, on_after, only_number, place_at, Whole}
use Rattle.ss_code_instructions.specs.declared.instruction.Instruction.TheVariants.{Move as Runs}
use Rattle.ss_machine_instructions.proofs.Placing.{calm}
use Rattle.ss_machine_instructions.proofs.Calculating.{moves_in, moves}
use Rattle.ss_machine_instructions.proofs.state.State.move_number.Goals as goal

pub number-number-requires : goal.number-number-requires
number-number-requires c = let z = c.requires in moves_in z.0 z.1 c.args.here c.args.self.now (Runs c.args.from.now c.args.to.now) z.2 Integer c.args.from.now c.args.to.now z.2.runs.carries

pub put-requires : goal.put-requires
put-requires c =
    let z = c.requires in
    let only = only_number c.args.self.now.rows (place_at c.args.here.frame c.args.from.now) c.number-number.result c.number-number.ensures in
    let l = z.2.placed.line in
    let m = act z.0.code l z.2.placed.instruction z.1 in
    let same : to_z w64 (of_z w64 c.number-number.result) ≡ c.number-number.result = search rules in
    (z.0, z.1, l, m, subst (λ (v : ℤ). IsDelivering z.0 z.1 l m c.args.here c.args.self.now c.args.to.now (Ok (Whole v))) (sym same) (moves z.0 z.1 c.args.here c.args.self.now (Runs c.args.from.now c.args.to.now) z.2 Integer c.args.from.now c.args.to.now (Whole c.number-number.result) z.2.runs.carries refl only))

pub returns : goal.returns
returns c = λ w core r.
    let only = only_number c.args.self.now.rows (place_at c.args.here.frame c.args.from.now) c.number-number.result c.number-number.ensures in
    let d = moves w core c.args.here c.args.self.now (Runs c.args.from.now c.args.to.now) r Integer c.args.from.now c.args.to.now (Whole c.number-number.result) r.runs.carries refl only in
    let l = r.placed.line in
    let m = act w.code l r.placed.instruction core in
    let same : to_z w64 (of_z w64 c.number-number.result) ≡ c.number-number.result = search rules in
    let handed = subst (λ (v : ℤ). IsDelivering w core l m c.args.here c.args.self.now c.args.to.now (Ok (Whole v))) (sym same) d in
    calm w core c.args.here c.args.self.now (Runs c.args.from.now c.args.to.now) r c.put.new.self (on_after c.args.here c.put.result) (ap is_due r.runs.carries.2.1.2) (c.put.ensures w core l m handed)
