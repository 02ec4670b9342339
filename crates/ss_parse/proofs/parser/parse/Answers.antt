use Rattle.std.proofs.Common.{◌≡◌, ℕ, ◌<◌, List, ap, subst, ◌∙◌, Err}
use Rattle.ss_parse.proofs.Common.{Has_no_tree, Is_spelling, ParseFault, Token}
use Rattle.ss_tree.specs.View.{view_program_tree}
use Rattle.ss_parse_expressions.specs.Openers.{nesting_limit, openers}
use Rattle.ss_parse.specs.ReadPrograms.{program_of}
use Rattle.ss_parse.proofs.Whole.{program_sound, none_at_all, none_within, tokens_there}
use Rattle.ss_parse.proofs.parser.parse.Goals as goal

pub line_of-line-requires : goal.line_of-line-requires
line_of-line-requires c = tokens_there nesting_limit _ _ (rw c.in-Err-Refused.field-0-is at c.in-Err-Refused.ensures)

pub returns-in-Ok-clause-found : goal.returns-in-Ok-clause-found
returns-in-Ok-clause-found c = subst (λ (ts : List Token). Is_spelling ts nesting_limit (view_program_tree c.in-Ok.program)) c.list-list.ensures (program_sound nesting_limit _ _ c.in-Ok.ensures)

pub returns-in-Syntax-clause-refused : goal.returns-in-Syntax-clause-refused
returns-in-Syntax-clause-refused c =
    let failed : program_of nesting_limit c.list-list.result.now ≡ Err c.in-Err-Refused.fault = rw c.in-Err-Refused.field-0-is at c.in-Err-Refused.ensures in
    subst (λ (ts : List Token). (levels : ℕ) → Has_no_tree ts levels) c.list-list.ensures (none_at_all nesting_limit _ (failed ∙ ap (λ (f : ParseFault). Err f) c.in-Syntax.is))

pub returns-in-TooDeep-clause-refused : goal.returns-in-TooDeep-clause-refused
returns-in-TooDeep-clause-refused c =
    let failed : program_of nesting_limit c.list-list.result.now ≡ Err c.in-Err-Refused.fault = rw c.in-Err-Refused.field-0-is at c.in-Err-Refused.ensures in
    subst (λ (ts : List Token). Has_no_tree ts nesting_limit × (nesting_limit < openers ts)) c.list-list.ensures (none_within nesting_limit _ (failed ∙ ap (λ (f : ParseFault). Err f) c.in-TooDeep.is))
