use Rattle.std.proofs.Common.{◌≡◌, ◌+◌, ◌≤◌, length, sym, ap, ◌∙◌, subst, arith}
use Rattle.std.proofs.lemmas.List.{length-map}
use Rattle.ss_program.specs.View.{view_program}
use Rattle.ss_code_pieces.specs.declared.piece.LinedInstruction.{LinedInstruction}
use Rattle.ss_code.specs.Running.{Generated, IsFor}
use Rattle.ss_code.proofs.Alike.{all_alike_long}
use Rattle.ss_code.proofs.Made.{all_made, code_long, never_long, made_for}
use Rattle.ss_code.proofs.generating.made.Goals as goal

pub returns-then-len-instruction_limit-clause-too_long : goal.returns-then-len-instruction_limit-clause-too_long
returns-then-len-instruction_limit-clause-too_long c = λ q.
    let all = all_made c.in_ok-main.ensures c.in_ok-routines.ensures c.in_ok-events.ensures c.in_ok-sections.ensures.main c.in_ok-generator.ensures.constants c.new-code.ensures c.new-prints.ensures.items in
    let long = code_long all c.args.program.now c.in_ok-generator.ensures.program c.requires.typed in
    omega (arith, long, c.if-len-instruction_limit.true, c.len.ensures.value, c.instruction_limit.ensures)

pub returns-then-len-instruction_limit-clause-small : goal.returns-then-len-instruction_limit-clause-small
returns-then-len-instruction_limit-clause-small c = λ few q.
    let all = all_made c.in_ok-main.ensures c.in_ok-routines.ensures c.in_ok-events.ensures c.in_ok-sections.ensures.main c.in_ok-generator.ensures.constants c.new-code.ensures c.new-prints.ensures.items in
    let short = never_long all c.args.program.now c.in_ok-generator.ensures.program c.requires.typed c.laws_of_code.ensures.has_size few in
    omega (arith, short, c.if-len-instruction_limit.true, c.len.ensures.value, c.instruction_limit.ensures)

pub new-requires-2 : goal.new-requires-2
new-requires-2 c =
    let all = all_made c.in_ok-main.ensures c.in_ok-routines.ensures c.in_ok-events.ensures c.in_ok-sections.ensures.main c.in_ok-generator.ensures.constants c.new-code.ensures c.new-prints.ensures.items in
    let p = c.args.program.now in
    let made = c.sift_walks.new.code.items in
    let sections = c.in_ok-sections.sections in
    let low : c.len-2.result + c.len-3.result ≡ length c.in_ok-globals.globals.items + length c.put_events.new.generator.constants.items = omega (arith, c.len-2.ensures, c.len-3.ensures, c.in_ok-globals.globals.ok, c.put_events.new.generator.constants.ok) in
    let short : length c.put_events.new.code ≤ 1048576 = omega (arith, c.if-len-instruction_limit.false, c.len.ensures.value, c.instruction_limit.ensures) in
    let for_it = made_for all p c.in_ok-generator.ensures.program c.requires.typed c.in_ok-text.text.instructions.items made c.in_ok-text.text.lines.items sections.depth sections.main sections.routines.items sections.events.items c.in_ok-said.said c.in_ok-globals.globals.items (c.len-2.result + c.len-3.result) c.in_ok-text.ensures.instructions c.in_ok-text.ensures.lines c.in_ok-sections.ensures.depth c.sift_walks.ensures.alike c.sift_walks.ensures.sifts low (c.laws_of_code.ensures.jumps_land (view_program p)) short c.in_ok-sections.ensures.main c.in_ok-sections.ensures.routines c.in_ok-sections.ensures.events c.in_ok-said.ensures (c.in_ok-globals.ensures.items ∙ c.deref.ensures.value) in
    (view_program p, c.requires.typed, for_it)

pub returns-clause-code : goal.returns-clause-code
returns-clause-code c =
    let all = all_made c.in_ok-main.ensures c.in_ok-routines.ensures c.in_ok-events.ensures c.in_ok-sections.ensures.main c.in_ok-generator.ensures.constants c.new-code.ensures c.new-prints.ensures.items in
    let p = c.args.program.now in
    let made = c.sift_walks.new.code.items in
    let sections = c.in_ok-sections.sections in
    let low : c.len-2.result + c.len-3.result ≡ length c.in_ok-globals.globals.items + length c.put_events.new.generator.constants.items = omega (arith, c.len-2.ensures, c.len-3.ensures, c.in_ok-globals.globals.ok, c.put_events.new.generator.constants.ok) in
    let short : length c.put_events.new.code ≤ 1048576 = omega (arith, c.if-len-instruction_limit.false, c.len.ensures.value, c.instruction_limit.ensures) in
    let for_it = made_for all p c.in_ok-generator.ensures.program c.requires.typed c.in_ok-text.text.instructions.items made c.in_ok-text.text.lines.items sections.depth sections.main sections.routines.items sections.events.items c.in_ok-said.said c.in_ok-globals.globals.items (c.len-2.result + c.len-3.result) c.in_ok-text.ensures.instructions c.in_ok-text.ensures.lines c.in_ok-sections.ensures.depth c.sift_walks.ensures.alike c.sift_walks.ensures.sifts low (c.laws_of_code.ensures.jumps_land (view_program p)) short c.in_ok-sections.ensures.main c.in_ok-sections.ensures.routines c.in_ok-sections.ensures.events c.in_ok-said.ensures (c.in_ok-globals.ensures.items ∙ c.deref.ensures.value) in
    subst (λ (k : Generated). IsFor (view_program p) k) (sym c.new-2.ensures) for_it

pub returns-clause-behaves : goal.returns-clause-behaves
returns-clause-behaves c = c.laws_of_meaning.ensures.code_behaves (view_program c.args.program.now)

pub returns-clause-lands : goal.returns-clause-lands
returns-clause-lands c = c.laws_of_code.ensures.jumps_land (view_program c.args.program.now)

pub returns-clause-limit : goal.returns-clause-limit
returns-clause-limit c =
    let same : length c.new-2.result.run.instructions ≡ length c.sift_walks.new.code.items = ap (λ (k : Generated). length k.run.instructions) c.new-2.ensures in
    let long = all_alike_long c.in_ok-text.text.instructions.items c.sift_walks.new.code.items c.sift_walks.ensures.alike in
    let before : length c.in_ok-text.text.instructions.items ≡ length c.put_events.new.code = ap length c.in_ok-text.ensures.instructions ∙ length-map c.put_events.new.code (λ (x : LinedInstruction). x.instruction) in
    omega (arith, same, long, before, c.if-len-instruction_limit.false, c.len.ensures.value, c.instruction_limit.ensures)
