-- Statements that break no rule resolve, with those in them, and are well typed.
use Rattle.std.proofs.Common.{List, Some, refl, ap, is_some, ◌∙◌, false, true, ◌≡◌, [], ◌∷◌, ◌++◌, sym, subst}
use Rattle.ss_check_laws.proofs.Conditions.{conditions_resolve}
use Rattle.std.specs.List.{AllByRecursion as Every}
use Rattle.ss_base.specs.declared.words.Sign.TheVariants.{Plus, Minus}
use Rattle.ss_check_laws.proofs.Common.{and_statement, AreValid, BodiesResolve, expression, FindOutcome, guarded, holds_unless, IsLinked, IsResolvedForHead, Line, no_statement, Scope, statement_row, StatementRow}
use Rattle.ss_names_meaning.specs.Answers.{each, ◌>>=◌}
use Rattle.ss_names_meaning.specs.Heads.{phrases_of, resolved_phrase, head}
use Rattle.ss_program.specs.Program.{Done, Statement, Head, Phrase, Find, Return, Simulate, Stop, InputTarget, Restart, ScheduleNew, Schedule, Block, For}
use Rattle.ss_program.specs.WellTyped.{IsTypedStatement, TypedScope as Place, IsTypedHead, IsTypedPhrase, CanTakeMode, is_created_singly, IsTypedRestart, HasMode, IsTypedBlock}
use Rattle.ss_tree.specs.Tree.{call_statement, cancel_statement, create_every, create_statement, destroy_statement, file_statement, find_if_statement, for_head, HeadTree, if_statement, let_statement, loop_statement, print_statement, read_statement, remove_end, remove_statement, reset_statement, schedule_new, schedule_statement, StatementTree, add_statement, subtract_statement, return_statement, stop_statement, start_simulation, find_statement, skip_statement}
use Rattle.ss_names_uses.specs.Uses as uses
use Rattle.ss_tree.specs.declared.statement.FindOutcome.TheVariants as outcomes
use Rattle.ss_names_uses.specs.declared.used.ClassNeed.TheVariants as needs
use Rattle.ss_names_uses.specs.declared.used.Role.TheVariants as roles
use Rattle.ss_check_rules.specs.declared.error.CheckError.TheVariants as errors
use Rattle.ss_names_meaning.specs.Statements.{find_by, reader, restart, simple_statement, statement, statements}
use Rattle.ss_check_laws.proofs.Steps.{after, after_one, after_two, each_resolves, GoesWell, three_parts, two_parts}
use Rattle.ss_check_laws.proofs.Expressions.{expressions_resolve, number_kept}
use Rattle.ss_check_laws.proofs.Heads.{heads_resolve}
use Rattle.ss_check_laws.proofs.Classes.{classes_resolve}
use Rattle.ss_check_laws.proofs.Targets.{restarts_resolve, sets_resolve}
use Rattle.ss_check_laws.proofs.Values.{call_resolves, change_resolves, reader_resolves, takes_number, takes_value}
use Rattle.ss_check_laws.proofs.Entities.{all_counted, new_resolves, old_resolves, position_resolves, single_kind}
use Rattle.ss_check_laws.proofs.Notices.{notice_kind, scheduled}
use Rattle.ss_check_laws.proofs.Printing.{items_shown}

in_row_of : (ts : List StatementTree) → uses.in_row (statement_row ts) ≡ uses.in_body ts
in_row_of [] = refl
in_row_of (t ∷ ts) = ap (λ us. uses.in_statement t ++ us) (in_row_of ts)

module _ (s : Scope) (g : Place) where
  -- what is made of the head of a FOR or a FIND, and its phrases
  over_head : (over : HeadTree) (f : Head → List Phrase → Statement) → IsResolvedForHead s g over → ((x : Head) (ps : List Phrase) → IsTypedHead g x → Every (IsTypedPhrase g) ps → IsTypedStatement g (f x ps)) →
      GoesWell (IsTypedStatement g) (head s over >>= λ x. each (resolved_phrase s) (phrases_of over) >>= λ ps. Some (f x ps))
  over_head over f h good =
      let x : GoesWell (IsTypedHead g) (head s over) = (h.0, h.1, h.2) in
      let ps : GoesWell (Every (IsTypedPhrase g)) (each (resolved_phrase s) (phrases_of over)) = (h.3, h.4, h.5) in
      after_two (IsTypedStatement g) _ _ f x ps good

  by_outcome : (outcome : FindOutcome) (line : Line) (over : HeadTree) (first second : Block) → IsResolvedForHead s g over → IsTypedBlock g first → IsTypedBlock g second → GoesWell (IsTypedStatement g) (find_by outcome line s over first second)
  by_outcome outcomes.Found line over first second h a b = over_head over (λ x ps. Find line x ps first second) h (λ x ps f k. (f, k, a, b))
  by_outcome outcomes.None line over first second h a b = over_head over (λ x ps. Find line x ps second first) h (λ x ps f k. (f, k, b, a))

module _ (s : Scope) (g : Place) (linked : IsLinked s g) where
  mutual
    unfolding statement statements simple_statement

    statement_resolves : (t : StatementTree) → AreValid s g.is_main (uses.in_itself t) → AreValid s g.is_main (uses.in_inner t) → GoesWell (IsTypedStatement g) (statement s t)
    statement_resolves (if_statement line test first second) k j =
        let p = two_parts s g.is_main (uses.in_row first) (uses.in_row second) j in
        let a = row_resolves first p.0 in
        let b = row_resolves second p.1 in
        after (IsTypedStatement g) _ _ a.0 a.1 (after (IsTypedStatement g) _ _ b.0 b.1 (after_one (IsTypedStatement g) _ _ (conditions_resolve s g linked line test k) (λ t h. (h, a.2, b.2))))
    statement_resolves (loop_statement line (for_head over) body) k j =
        let b = row_resolves body j in
        after (IsTypedStatement g) _ _ b.0 b.1 (over_head s g over (λ x ps. For line x ps b.0) (heads_resolve s g linked line (for_head over) k) (λ x ps h f. (h, f, b.2)))
    statement_resolves (loop_statement line (guarded guards) body) k j =
        let b = row_resolves body j in
        after (IsTypedStatement g) _ _ b.0 b.1 (after_one (IsTypedStatement g) _ _ (heads_resolve s g linked line (guarded guards) k) (λ gs h. (h, b.2)))
    statement_resolves (find_if_statement line over outcome first second) k j =
        let p = two_parts s g.is_main (uses.in_row first) (uses.in_row second) j in
        let a = row_resolves first p.0 in
        let b = row_resolves second p.1 in
        after (IsTypedStatement g) _ _ a.0 a.1 (after (IsTypedStatement g) _ _ b.0 b.1 (by_outcome s g outcome line over a.0 b.0 (heads_resolve s g linked line (for_head over) k) a.2 b.2))
    statement_resolves (let_statement line n e) k j =
        let p = two_parts s g.is_main (uses.in_target line (uses.expression_tree_mode e) n) (uses.in_expression line false e) k in
        let y = expressions_resolve s g linked line false e p.1 in
        let value : GoesWell (λ v. HasMode g v y.1) (expression s e) = (y.0, y.2, y.3) in
        after_two (IsTypedStatement g) _ _ _ (takes_value s g linked line (uses.expression_tree_mode e) y.1 n y.4 p.0) value (λ x v h f. (y.1, h, f))
    statement_resolves (add_statement line e n) k j = change_resolves s g linked line Plus e n k
    statement_resolves (subtract_statement line e n) k j = change_resolves s g linked line Minus e n k
    statement_resolves (call_statement line name given yielding) k j = call_resolves s g linked line name given yielding k
    statement_resolves (return_statement line) k j = (Return, refl, tt)
    statement_resolves (stop_statement line) k j = (Stop, refl, tt)
    statement_resolves (read_statement line targets) k j =
        let each_target = each_resolves s g.is_main (reader s) (uses.in_named line roles.Target false) (λ (x : InputTarget). CanTakeMode g x.place x.mode) (reader_resolves s g linked line) targets k in
        after_one (IsTypedStatement g) _ _ each_target (λ xs h. h)
    statement_resolves (start_simulation line) k j = (Simulate, refl, holds_unless g.is_main (errors.StartPlace line) k.0)
    statement_resolves (find_statement line over) k j =
        over_head s g over (λ x ps. Find line x ps Done Done) (heads_resolve s g linked line (for_head over) k) (λ x ps h f. (h, f, tt, tt))
    statement_resolves (create_statement line name called) k j =
        let c = classes_resolve s g linked line needs.Single name (is_some called) (k.0, tt) in
        after (IsTypedStatement g) _ _ c.0 c.2 (after_one (IsTypedStatement g) _ _ (new_resolves s g linked line needs.Single name called c k.1) (λ x h. (ap is_created_singly c.3 ∙ single_kind c.1 c.4, h)))
    statement_resolves (create_every line names) k j = after_one (IsTypedStatement g) _ _ (all_counted s g linked line names k) (λ ys h. h)
    statement_resolves (destroy_statement line name called) k j =
        let c = classes_resolve s g linked line needs.Single name (is_some called) (k.0, tt) in
        after (IsTypedStatement g) _ _ c.0 c.2 (after_one (IsTypedStatement g) _ _ (old_resolves s g linked line needs.Single name called c k.1) (λ x h. (ap is_created_singly c.3 ∙ single_kind c.1 c.4, h)))
    statement_resolves (file_statement line e t n) k j =
        let p = three_parts s g.is_main (uses.in_expression line true e) (uses.in_position line t) (uses.in_named line roles.Set false n) k in
        let x = number_kept s g linked line e p.0 in
        after (IsTypedStatement g) _ _ x.0 x.1 (after_two (IsTypedStatement g) _ _ _ (position_resolves s g linked line t p.1) (sets_resolve s g linked line n p.2) (λ u v h f. (x.2, h, f)))
    statement_resolves (remove_end line end n set) k j =
        let p = two_parts s g.is_main (uses.in_named line roles.Target true n) (uses.in_named line roles.Set false set) k in
        after_two (IsTypedStatement g) _ _ _ (takes_number s g linked line n p.0) (sets_resolve s g linked line set p.1) (λ x v h f. (h, f))
    statement_resolves (remove_statement line e n) k j =
        let p = two_parts s g.is_main (uses.in_expression line true e) (uses.in_named line roles.Set false n) k in
        after_two (IsTypedStatement g) _ _ _ (number_kept s g linked line e p.0) (sets_resolve s g linked line n p.1) (λ x v h f. (h, f))
    statement_resolves (schedule_new line name called given time) k j =
        let p = three_parts s g.is_main (uses.in_new line needs.Notice name called) (uses.in_given line name given) (uses.in_when line time) k in
        let c = classes_resolve s g linked line needs.Notice name (is_some called) (p.0.0, tt) in
        let x = new_resolves s g linked line needs.Notice name called c p.0.1 in
        after (IsTypedStatement g) _ _ c.0 c.2 (after (IsTypedStatement g) _ _ x.0 x.1
        (scheduled s g linked line name (is_some called) c given time (λ xs due. ScheduleNew line c.0.class x.0 xs due) p.1 p.2 (λ xs due h f. (h, x.2, f))))
    statement_resolves (schedule_statement line name called given time) k j =
        let p = three_parts s g.is_main (uses.in_old line needs.Notice name called) (uses.in_given line name given) (uses.in_when line time) k in
        let c = classes_resolve s g linked line needs.Notice name (is_some called) (p.0.0, tt) in
        let x = old_resolves s g linked line needs.Notice name called c p.0.1 in
        after (IsTypedStatement g) _ _ c.0 c.2 (after (IsTypedStatement g) _ _ x.0 x.1
        (scheduled s g linked line name (is_some called) c given time (λ xs due. Schedule line c.0.class x.0 xs due) p.1 p.2 (λ xs due h f. (h, x.2, f))))
    statement_resolves (cancel_statement line name called) k j =
        let c = classes_resolve s g linked line needs.Notice name (is_some called) (k.0, tt) in
        after (IsTypedStatement g) _ _ c.0 c.2 (after_one (IsTypedStatement g) _ _ (old_resolves s g linked line needs.Notice name called c k.1) (λ x h. (c.3 ∙ ap Some (notice_kind c.1 c.4), h)))
    statement_resolves (reset_statement line targets) k j =
        let each_target = each_resolves s g.is_main (restart s) (uses.in_named line roles.Reset false) (λ (x : Restart). IsTypedRestart g x.statistic x.of) (restarts_resolve s g linked line) targets k in
        after_one (IsTypedStatement g) _ _ each_target (λ xs h. h)
    statement_resolves (print_statement line items pictures) k j = after_one (IsTypedStatement g) _ _ (items_shown s g linked line items (uses.fields_of_pictures pictures) k) (λ xs h. h)
    statement_resolves (skip_statement line e) k j = after_one (IsTypedStatement g) _ _ (number_kept s g linked line e k) (λ x h. h)

    row_resolves : (row : StatementRow) → AreValid s g.is_main (uses.in_row row) → GoesWell (IsTypedBlock g) (statements s row)
    row_resolves no_statement k = (Done, refl, tt)
    row_resolves (and_statement t ts) k =
        let p = three_parts s g.is_main (uses.in_itself t) (uses.in_inner t) (uses.in_row ts) k in
        after_two (IsTypedBlock g) _ _ _ (statement_resolves t p.0 p.1) (row_resolves ts p.2) (λ u v h f. (h, f))

pub bodies_resolve : BodiesResolve
bodies_resolve s g linked body k = row_resolves s g linked (statement_row body) (subst (AreValid s g.is_main) (sym (in_row_of body)) k)
