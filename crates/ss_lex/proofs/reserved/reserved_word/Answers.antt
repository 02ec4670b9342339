use Rattle.std.proofs.Common.{◌≡◌, Some, sym, ap, ◌∙◌, rules}
use Rattle.std.specs.Prelude.{slice_get}
use Rattle.std.specs.Option.{option_copied}
use Rattle.std.proofs.lemmas.List.Sorted.{answers_always}
use Rattle.ss_lex.proofs.Table.{searchable, found_at, none_empty, not_found}
use Rattle.ss_lex.proofs.reserved.reserved_word.Goals as goal

pub returns-in-Ok : goal.returns-in-Ok
returns-in-Ok c =
    let at = c.in-Ok.ensures.position (λ row. row.0) (answers_always _ _ _ (λ f a r g h. search rules)) in
    found_at c.rows_for-rows.result.now c.in-Some.first.now c.args.spelling.now c.in-Ok.i _ c.rows_for-rows.ensures c.in-Ok.ensures.bound (at _)

pub returns-in-Err : goal.returns-in-Err
returns-in-Err c =
    let begun : Some c.in-Some.first.now ≡ slice_get c.args.spelling.now 0 = sym (ap option_copied c.in-Some.is) ∙ c.first.ensures.value in
    let at = c.in-Err.ensures.position (λ row. row.0) (answers_always _ _ _ (λ f a r g h. search rules)) in
    not_found c.rows_for-rows.result.now c.in-Some.first.now c.args.spelling.now c.in-Err.field-0 c.rows_for-rows.ensures begun (at (searchable c.rows_for-rows.result.now c.in-Some.first.now c.args.spelling.now c.rows_for-rows.ensures))

pub returns-in_default : goal.returns-in_default
returns-in_default c = none_empty c.args.spelling.now (sym (ap option_copied c.in_default.is) ∙ c.first.ensures.value)
