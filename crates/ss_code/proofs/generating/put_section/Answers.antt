use Rattle.std.proofs.Common.{◌≡◌, ◌++◌, length, refl, ap, ◌∙◌, arith}
use Rattle.ss_program.specs.View.{view_body}
use Rattle.ss_code_instructions.specs.Instructions.{EntryPoint}
use Rattle.ss_code.proofs.Sections.{section_put, section_begins}
use Rattle.ss_code.proofs.generating.put_section.Goals as goal

pub returns : goal.returns
returns c =
    let given = c.args.locals.given.items in
    let others = c.args.locals.others.items in
    let e : EntryPoint = record { place = length c.args.code.now; given = given; yielding = c.args.locals.yielding; others = others } in
    let locals : c.in_ok-generator.field-0.items ≡ given ++ others = c.in_ok-generator.ensures ∙ ap (λ l. l ++ c.deref-2.result.now) c.deref.ensures.value ∙ ap (λ l. given ++ l) c.deref-2.ensures.value in
    let same : c.section.new.self.locals.items ≡ c.in_ok-generator.field-0.items = c.in_ok-own.ensures.code.grows.locals in
    let room : c.len-room.result ≡ length (given ++ others) = omega (arith, c.len-room.ensures, c.section.new.self.locals.ok, ap length (same ∙ locals)) in
    section_put c.args.generator.now _ c.section.new.self c.args.code.now c.append.new.self c.in_ok-own.own c.args.prints.now.items c.section.new.prints.items e (view_body c.args.body.now) _ refl refl refl locals c.in_ok-own.ensures c.in_ok-append.ensures
    (section_begins e _ c.len-place.ensures.value refl refl refl room)
