use Rattle.std.proofs.Common.{List, sym, ap, ◌∙◌}
use Rattle.ss_check_rules.proofs.Common.{check_error_order, earlier, earlier_of, earlier_of_list, flat_map, fold, PreambleStatement, value_for, view_preamble}
use Rattle.ss_tree.specs.Names.{NameBytes}
use Rattle.ss_check_rules.specs.Refusal.{eventless, in_preamble, subject_breaks}
use Rattle.ss_check_rules.proofs.preamble.statement_breaks.Goals as goal

pub returns-in-EventNotices : goal.returns-in-EventNotices
returns-in-EventNotices c =
    let t = c.args.names.now in
    c.notices_break.ensures
    ∙ ap (λ (names : List NameBytes). fold (earlier check_error_order) c.args.found (flat_map (eventless t c.in-EventNotices.line) names)) c.deref.ensures.value
    ∙ sym (ap (λ (s : PreambleStatement). fold (earlier check_error_order) c.args.found (in_preamble t (view_preamble s))) c.in-EventNotices.is)

pub returns-in-Statistics : goal.returns-in-Statistics
returns-in-Statistics c =
    let t = c.args.names.now in
    let line = c.in-Statistics.line in
    c.earlier_of.ensures
    ∙ ap (earlier_of check_error_order c.args.found) (c.subject_breaks.ensures ∙ ap (subject_breaks line) c.meaning.ensures)
    ∙ earlier_of_list check_error_order c.args.found (subject_breaks line (value_for t.meanings c.in-Statistics.subject))
    ∙ sym (ap (λ (s : PreambleStatement). fold (earlier check_error_order) c.args.found (in_preamble t (view_preamble s))) c.in-Statistics.is)
