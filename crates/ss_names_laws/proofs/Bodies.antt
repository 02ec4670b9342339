-- Statements declare no local variables: only heads of sections and local DEFINEs do.
use Rattle.std.proofs.Common.{◌≡◌, ℕ, zero, suc, ◌+◌, Bool, true, false, List, [], ◌∷◌, ◌++◌, length, Option, Some, None, refl}
use Rattle.std.specs.Prelude.{◌==◌, nat_le, slice_get, if◌then◌else◌}
use Rattle.std.specs.List.{AllByRecursion as Every, flat_map}
use Rattle.ss_names_laws.proofs.Common.{Line, NameBytes, Role, Use, Used}
use Rattle.ss_names_uses.specs.Uses.{in_body, in_places, as_mean, fields_of_pictures, in_condition, in_expression, in_field, in_given, in_guard, in_head, in_inner, in_item, in_item_at, in_itself, in_named, in_new, in_numbers, in_old, in_option, in_phrase, in_position, in_row, in_start, in_statement, in_target, in_terms, in_test, in_value, in_when, loop_variable, expression_tree_mode, of_fit, with_decimals}
use Rattle.ss_tree.specs.Tree.{ExpressionTree, number, text, named, call, parenthesised, product, signed, sum, ExpressionRow, no_expression, and_expression, TermRow, no_term, and_term, NamedTree, TestTree, compare, empty, member, data_ended, ConditionTree, PhraseTree, GuardTree, StartTree, from_end, from_member, after_member, HeadTree, over_range, over_members, over_class, for_head, guarded, PositionTree, before, after, WhenTree, at_time, in_units, now, StatementTree, let_statement, add_statement, subtract_statement, call_statement, read_statement, start_simulation, if_statement, loop_statement, find_statement, find_if_statement, create_statement, create_every, destroy_statement, file_statement, remove_end, remove_statement, schedule_new, schedule_statement, cancel_statement, reset_statement, print_statement, skip_statement, StatementRow, no_statement, and_statement}
use Rattle.ss_names_uses.specs.declared.used.ModeOf.{ModeOf}
use Rattle.ss_names_uses.specs.declared.used.ModeOf.TheVariants as modes
use Rattle.ss_names_uses.specs.declared.used.Role.TheVariants as roles
use Rattle.ss_names_uses.specs.declared.used.ClassNeed.{ClassNeed}
use Rattle.ss_names_uses.specs.declared.used.ClassNeed.TheVariants.{Single, Notice}
use Rattle.ss_names_uses.specs.declared.used.Used.TheVariants.{Parameter, Local, Unfit}
use Rattle.ss_names_laws.proofs.Each.{joined}

-- whether what is used declares a local variable
abbrev pub declares_local : Used → Bool
declares_local (Parameter name) = true
declares_local (Local name mode) = true
declares_local _ = false

abbrev pub IsSilent : Use → Type 0
IsSilent u = declares_local u.what ≡ false

-- none of these uses declares one
pub record Silent (us : List Use) : Type 0 where
  pub each : Every IsSilent us

-- ---- lists

nothing : Silent []
nothing = record { each = tt }

both : {us ws : List Use} → Silent us → Silent ws → Silent (us ++ ws)
both {us = us} {ws = ws} h g = record { each = joined IsSilent us ws h.each g.each }

pieces : {A : Type 0} (f : A → List Use) (xs : List A) → ((x : A) → Silent (f x)) → Silent (flat_map f xs)
pieces f [] h = nothing
pieces f (x ∷ xs) h = both (h x) (pieces f xs h)

pub places : {A : Type 0} (f : ℕ → A → List Use) (i : ℕ) (xs : List A) → ((k : ℕ) (x : A) → Silent (f k x)) → Silent (in_places f i xs)
places f i [] h = nothing
places f i (x ∷ xs) h = both (h i x) (places f (i + 1) xs h)

option : {A : Type 0} (f : A → List Use) (o : Option A) → ((x : A) → Silent (f x)) → Silent (in_option f o)
option f None h = nothing
option f (Some x) h = h x

-- ---- expressions

mean : (e : ExpressionTree) → declares_local (as_mean e) ≡ false
mean (named designator subscripts) = refl
mean (parenthesised e) = mean e
mean _ = refl

mean_or_unfit : (b : Bool) (e : ExpressionTree) → declares_local (if b then as_mean e else Unfit) ≡ false
mean_or_unfit true e = mean e
mean_or_unfit false e = refl

module _ (line : Line) where
  mutual
    expression : (is_number : Bool) (e : ExpressionTree) → Silent (in_expression line is_number e)
    expression is_number (number z) = nothing
    expression true (text t) = record { each = (refl, tt) }
    expression false (text t) = nothing
    expression is_number (named designator subscripts) = record { each = (refl, (numbers subscripts).each) }
    expression is_number (call function arguments) = record { each = (refl, (numbers arguments).each) }
    expression is_number (parenthesised e) = expression is_number e
    expression is_number (product e further) = both (expression true e) (numbers further)
    expression is_number (signed sign e) = expression true e
    expression is_number (sum e further) = both (expression true e) (terms further)

    numbers : (es : ExpressionRow) → Silent (in_numbers line es)
    numbers no_expression = nothing
    numbers (and_expression e es) = both (expression true e) (numbers es)

    terms : (ts : TermRow) → Silent (in_terms line ts)
    terms no_term = nothing
    terms (and_term sign e ts) = both (expression true e) (terms ts)

  place_named : (role : Role) (is_number : Bool) (n : NamedTree) → Silent (in_named line role is_number n)
  place_named role is_number n = record { each = (refl, (numbers n.subscripts).each) }

  -- ---- conditions and heads of loops

  test : (t : TestTree) → Silent (in_test line t)
  test (compare left relation right) = record { each = (refl, (both (expression false left) (expression false right)).each) }
  test (empty set negated) = place_named roles.Set false set
  test (member x set negated) = both (expression true x) (place_named roles.Set false set)
  test (data_ended negated) = nothing

  condition : (c : ConditionTree) → Silent (in_condition line c)
  condition c = pieces (flat_map (in_test line)) c (λ ts. pieces (in_test line) ts test)

  phrases : (ps : List PhraseTree) → Silent (flat_map (in_phrase line) ps)
  phrases ps = pieces (in_phrase line) ps (λ (p : PhraseTree). condition p.condition)

  start : (s : StartTree) → Silent (in_start line s)
  start from_end = nothing
  start (from_member e) = expression true e
  start (after_member e) = expression true e

  looped : (name : NameBytes) → Silent (loop_variable line name)
  looped name = record { each = (refl, tt) }

  head : (h : HeadTree) → Silent (in_head line h)
  head (over_range variable from to step ps) =
      both (both (both (both (looped variable) (expression true from)) (expression true to)) (option (in_expression line true) step (expression true))) (phrases ps)
  head (over_members variable set begin reverse ps) =
      both (both (both (looped variable) (place_named roles.Set false set)) (start begin)) (phrases ps)
  head (over_class class called ps) =
      record { each = (refl, (both (option (loop_variable line) called looped) (phrases ps)).each) }

  -- ---- parts of statements

  position : (p : PositionTree) → Silent (in_position line p)
  position (before e) = expression true e
  position (after e) = expression true e
  position _ = nothing

  when : (t : WhenTree) → Silent (in_when line t)
  when (at_time e) = expression true e
  when (in_units e) = expression true e
  when now = nothing

  new : (need : ClassNeed) (class : NameBytes) (called : Option NamedTree) → Silent (in_new line need class called)
  new need class called = record { each = (refl, (option (in_named line roles.Target true) called (place_named roles.Target true)).each) }

  old : (need : ClassNeed) (class : NameBytes) (called : Option ExpressionTree) → Silent (in_old line need class called)
  old need class called = record { each = (refl, (option (in_expression line true) called (expression true)).each) }

  value : (wanted : ModeOf) (e : ExpressionTree) → Silent (in_value line wanted e)
  value wanted e = record { each = (refl, (expression false e).each) }

  target : (wanted : ModeOf) (n : NamedTree) → Silent (in_target line wanted n)
  target wanted n = record { each = (refl, (place_named roles.Target false n).each) }

  given_to : (class : NameBytes) (given : List ExpressionTree) → Silent (in_given line class given)
  given_to class given = record { each = (refl, (places (λ (i : ℕ). in_value line (modes.Attribute class i)) 0 given (λ i e. value (modes.Attribute class i) e)).each) }

  -- ---- PRINT

  decimals_of : (e : ExpressionTree) (decimals : ℕ) → Silent (with_decimals line e decimals)
  decimals_of e zero = nothing
  decimals_of e (suc more) = record { each = (mean_or_unfit (nat_le (suc more) 9) e, tt) }

  item : (e : ExpressionTree) → Silent (in_item line e)
  item (named designator subscripts) = place_named roles.Item false (record { designator = designator; subscripts = subscripts })
  item (parenthesised e) = item e
  item e = expression false e

  fit : (b : Bool) → Silent (of_fit line b)
  fit true = nothing
  fit false = record { each = (refl, tt) }

-- ---- statements

every_class : (line : Line) (classes : List NameBytes) → Silent (in_itself (create_every line classes))
every_class line [] = nothing
every_class line (class ∷ classes) = record { each = (refl, (every_class line classes).each) }

itself : (s : StatementTree) → Silent (in_itself s)
itself (let_statement line n e) = both (target line (expression_tree_mode e) n) (expression line false e)
itself (add_statement line e n) = both (expression line true e) (place_named line roles.Target true n)
itself (subtract_statement line e n) = both (expression line true e) (place_named line roles.Target true n)
itself (call_statement line name given yielding) =
    let values = places (λ (i : ℕ). in_value line (modes.Given name i)) 0 given (λ i e. value line (modes.Given name i) e) in
    let targets = places (λ (i : ℕ). in_target line (modes.Yielded name i)) 0 yielding (λ i n. target line (modes.Yielded name i) n) in
    record { each = (refl, (refl, (refl, (both values targets).each))) }
itself (read_statement line targets) = pieces (in_named line roles.Target false) targets (place_named line roles.Target false)
itself (start_simulation line) = record { each = (refl, tt) }
itself (if_statement line c first second) = condition line c
itself (loop_statement line (for_head h) body) = head line h
itself (loop_statement line (guarded guards) body) = pieces (in_guard line) guards (λ (g : GuardTree). condition line g.condition)
itself (find_statement line h) = head line h
itself (find_if_statement line h outcome first second) = head line h
itself (create_statement line class called) = new line Single class called
itself (create_every line classes) = every_class line classes
itself (destroy_statement line class called) = old line Single class called
itself (file_statement line x at set) = both (both (expression line true x) (position line at)) (place_named line roles.Set false set)
itself (remove_end line end n set) = both (place_named line roles.Target true n) (place_named line roles.Set false set)
itself (remove_statement line x set) = both (expression line true x) (place_named line roles.Set false set)
itself (schedule_new line class called given t) = both (both (new line Notice class called) (given_to line class given)) (when line t)
itself (schedule_statement line class called given t) = both (both (old line Notice class called) (given_to line class given)) (when line t)
itself (cancel_statement line class called) = old line Notice class called
itself (reset_statement line targets) = pieces (in_named line roles.Reset false) targets (place_named line roles.Reset false)
itself (print_statement line items pictures) =
    let fields = fields_of_pictures pictures in
    both (fit line (length items == length fields))
    (places (in_item_at line fields) 0 items (λ i e. both (option (in_field line e) (slice_get fields i) (λ field. decimals_of line e field.decimals)) (item line e)))
itself (skip_statement line lines) = expression line true lines
itself _ = nothing

mutual
  inner : (s : StatementTree) → Silent (in_inner s)
  inner (if_statement line c first second) = both (row first) (row second)
  inner (loop_statement line h body) = row body
  inner (find_if_statement line h outcome first second) = both (row first) (row second)
  inner _ = nothing

  row : (ss : StatementRow) → Silent (in_row ss)
  row no_statement = nothing
  row (and_statement s ss) = both (both (itself s) (inner s)) (row ss)

pub body_silent : (body : List StatementTree) → Silent (in_body body)
body_silent body = pieces in_statement body (λ s. both (itself s) (inner s))
