use Rattle.std.proofs.Common.{arith, rules, ◌≡◌, ◌+◌, Ok, Err, refl, ap, ◌∙◌, subst, to_z, of_z, w64}
use Rattle.ss_machine_notices.proofs.Common.{Seen, value_in, Whole, with_number}
use Rattle.ss_machine_notices.proofs.events.read_number.Goals as goal

pub set_number_at-requires : goal.set_number_at-requires
set_number_at-requires c = c.requires.place

pub returns-in-Err : goal.returns-in-Err
returns-in-Err c =
    let same : to_z w64 (of_z w64 c.args.what.notice) ≡ c.args.what.notice = search rules in
    (subst (λ (v : Seen). value_in v.heap c.args.what.class c.args.field c.args.what.notice ≡ Err c.in-Err.kind) c.world.view_is (simp same at c.in-Err.ensures), refl)

pub returns-in-Ok : goal.returns-in-Ok
returns-in-Ok c =
    let same : to_z w64 (of_z w64 c.args.what.notice) ≡ c.args.what.notice = search rules in
    let same_x : to_z w64 (of_z w64 c.in-Ok.number) ≡ c.in-Ok.number = search rules in
    (Whole c.in-Ok.number, subst (λ (v : Seen). value_in v.heap c.args.what.class c.args.field c.args.what.notice ≡ Ok (Whole c.in-Ok.number)) c.world.view_is (simp same at c.in-Ok.ensures), refl, c.set_number_at.ensures ∙ ap (with_number c.args.rows.now (c.args.what.from + c.args.field)) same_x)

pub overflow_add-what : goal.overflow_add-what
overflow_add-what c = omega (arith, c.requires.small)
