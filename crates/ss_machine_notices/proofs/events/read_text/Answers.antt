use Rattle.std.proofs.Common.{arith, rules, ◌≡◌, Ok, Err, refl, subst, to_z, of_z, w64}
use Rattle.ss_machine_notices.proofs.Common.{Seen, Text, value_in}
use Rattle.ss_machine_notices.proofs.events.read_text.Goals as goal

pub set_text_at-requires : goal.set_text_at-requires
set_text_at-requires c = c.requires.place

pub returns-in-Err : goal.returns-in-Err
returns-in-Err c =
    let same : to_z w64 (of_z w64 c.args.what.notice) ≡ c.args.what.notice = search rules in
    (subst (λ (v : Seen). value_in v.heap c.args.what.class c.args.field c.args.what.notice ≡ Err c.in-Err.kind) c.world.view_is (simp same at c.in-Err.ensures), refl)

pub returns-in-Ok : goal.returns-in-Ok
returns-in-Ok c =
    let same : to_z w64 (of_z w64 c.args.what.notice) ≡ c.args.what.notice = search rules in
    (Text c.in-Ok.text, subst (λ (v : Seen). value_in v.heap c.args.what.class c.args.field c.args.what.notice ≡ Ok (Text c.in-Ok.text)) c.world.view_is (simp same at c.in-Ok.ensures), refl, c.set_text_at.ensures)

pub overflow_add-what : goal.overflow_add-what
overflow_add-what c = omega (arith, c.requires.small)
