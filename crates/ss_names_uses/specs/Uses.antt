-- The uses of a section, in the order of the text.
use Rattle.std.specs.Prelude.{ℕ, zero, suc, ◌+◌, ◌==◌, nat_le, Bool, true, false, is_some, List, [], ◌∷◌, ◌++◌, map, length, slice_get, Option, if◌then◌else◌}
use Rattle.std.specs.List.{flat_map}
use Rattle.std.specs.Option.{option_map_or}
use Rattle.ss_base.specs.declared.line.Line.{Line}
use Rattle.ss_picture.specs.declared.field.Field.{Field}
use Rattle.ss_picture.specs.Pictures.{picture_fields}
use Rattle.ss_tree.specs.Names.{NameBytes}
use Rattle.ss_tree.specs.declared.expression.Designator.{Designator}
use Rattle.ss_tree.specs.declared.expression.Designator.TheVariants as designators
use Rattle.ss_tree.specs.declared.preamble.ModeWord.{ModeWord}
use Rattle.ss_tree.specs.Tree.{ExpressionTree, number, text, named, call, parenthesised, product, signed, sum, ExpressionRow, no_expression, and_expression, TermRow, no_term, and_term, NamedTree, TestTree, compare, empty, member, data_ended, ConditionTree, PhraseTree, GuardTree, StartTree, from_end, from_member, after_member, HeadTree, over_range, over_members, over_class, LoopHeadTree, for_head, guarded, PositionTree, before, after, WhenTree, at_time, in_units, now, StatementTree, let_statement, add_statement, subtract_statement, call_statement, read_statement, start_simulation, if_statement, loop_statement, find_statement, find_if_statement, create_statement, create_every, destroy_statement, file_statement, remove_end, remove_statement, schedule_new, schedule_statement, cancel_statement, reset_statement, print_statement, skip_statement, StatementRow, no_statement, and_statement, DefinitionTree, SectionKindTree, main, routine, event, SectionTree}
use Rattle.ss_names_uses.specs.declared.used.Role.{Role}
use Rattle.ss_names_uses.specs.declared.used.Role.TheVariants as roles
use Rattle.ss_names_uses.specs.declared.used.ClassNeed.{ClassNeed}
use Rattle.ss_names_uses.specs.declared.used.ClassNeed.TheVariants.{Single, Permanent, Notice}
use Rattle.ss_names_uses.specs.declared.used.ModeOf.{ModeOf}
use Rattle.ss_names_uses.specs.declared.used.ModeOf.TheVariants as modes
use Rattle.ss_names_uses.specs.declared.used.CountNeed.{CountNeed}
use Rattle.ss_names_uses.specs.declared.used.CountNeed.TheVariants as counts
use Rattle.ss_names_uses.specs.declared.used.Used.{Used}
use Rattle.ss_names_uses.specs.declared.used.Used.TheVariants.{Parameter, Local, Place, Class, Routine, Start, Same, Count, Mean, Unfit}
use Rattle.ss_names_uses.specs.declared.used.Use.{Use}

-- ---- single uses

abbrev pub use_at_line : Line → Used → Use
use_at_line line what = record { line = line; what = what }

-- two modes that have to be the same
abbrev pub same : Line → ModeOf → ModeOf → Use
same line found wanted = use_at_line line (Same found wanted)

-- a named place in a role, with so many subscripts, and whether it has to be a number
abbrev pub place_use : Line → Role → Bool → Designator → ℕ → Use
place_use line role is_number designator subscripts = use_at_line line (Place role designator subscripts is_number)

-- a class, and whether its entity is named
abbrev pub class_used : Line → ClassNeed → NameBytes → Bool → Use
class_used line need class is_called = use_at_line line (Class need class is_called)

-- a count, and how many are wanted
abbrev pub count : Line → ℕ → CountNeed → Use
count line found wanted = use_at_line line (Count found wanted)

-- ---- expressions

-- how many subscripts or arguments there are
abbrev pub row_length : ExpressionRow → ℕ
row_length no_expression = 0
row_length (and_expression e es) = suc (row_length es)

-- the mode of a named place: a time is a number
abbrev pub designated : Designator → ModeOf
designated (designators.Name name) = modes.Named name
designated _ = modes.Integer

-- the mode of an expression; a text in parentheses is still a text
abbrev pub expression_tree_mode : ExpressionTree → ModeOf
expression_tree_mode (text t) = modes.Alpha
expression_tree_mode (named designator subscripts) = designated designator
expression_tree_mode (parenthesised e) = expression_tree_mode e
expression_tree_mode _ = modes.Integer

-- a text where a number may have to be
abbrev pub of_text : Line → Bool → List Use
of_text line true = same line modes.Alpha modes.Integer ∷ []
of_text line false = []

-- the uses of an expression, from left to right. It may have to be a number; each subscript, each argument of a function, and
-- all that is added, subtracted, multiplied or has a sign has to be one.
abbrev mutual
  pub in_expression : Line → Bool → ExpressionTree → List Use
  in_expression line is_number (number z) = []
  in_expression line is_number (text t) = of_text line is_number
  in_expression line is_number (named designator subscripts) =
      place_use line roles.Value is_number designator (row_length subscripts) ∷ in_numbers line subscripts
  in_expression line is_number (call function arguments) =
      count line (row_length arguments) (counts.Arguments function) ∷ in_numbers line arguments
  in_expression line is_number (parenthesised e) = in_expression line is_number e
  in_expression line is_number (product e further) = in_expression line true e ++ in_numbers line further
  in_expression line is_number (signed sign e) = in_expression line true e
  in_expression line is_number (sum e further) = in_expression line true e ++ in_terms line further

  pub in_numbers : Line → ExpressionRow → List Use
  in_numbers line no_expression = []
  in_numbers line (and_expression e es) = in_expression line true e ++ in_numbers line es

  pub in_terms : Line → TermRow → List Use
  in_terms line no_term = []
  in_terms line (and_term sign e es) = in_expression line true e ++ in_terms line es

-- a named place in a role, and its subscripts
abbrev pub in_named : Line → Role → Bool → NamedTree → List Use
in_named line role is_number n =
    place_use line role is_number n.designator (row_length n.subscripts) ∷ in_numbers line n.subscripts

-- several named places in a role, of any mode
abbrev pub in_all_named : Line → Role → List NamedTree → List Use
in_all_named line role ns = flat_map (in_named line role false) ns

-- the uses of a part that may be left out
abbrev pub in_option : {A : Type 0} → (A → List Use) → Option A → List Use
in_option of part = option_map_or of part []

-- the uses of a list, each item by its place, the first of which is this
abbrev pub in_places : {A : Type 0} → (ℕ → A → List Use) → ℕ → List A → List Use
in_places of i [] = []
in_places of i (x ∷ xs) = of i x ++ in_places of (i + 1) xs

-- ---- conditions and heads of loops

abbrev pub in_test : Line → TestTree → List Use
in_test line (compare left relation right) =
    same line (expression_tree_mode left) (expression_tree_mode right) ∷ in_expression line false left ++ in_expression line false right
in_test line (empty set negated) = in_named line roles.Set false set
in_test line (member x set negated) = in_expression line true x ++ in_named line roles.Set false set
in_test line (data_ended negated) = []

abbrev pub in_condition : Line → ConditionTree → List Use
in_condition line c = flat_map (flat_map (in_test line)) c

abbrev pub in_phrase : Line → PhraseTree → List Use
in_phrase line phrase = in_condition line phrase.condition

abbrev pub in_guard : Line → GuardTree → List Use
in_guard line guard = in_condition line guard.condition

abbrev pub in_start : Line → StartTree → List Use
in_start line from_end = []
in_start line (from_member e) = in_expression line true e
in_start line (after_member e) = in_expression line true e

-- the variable of a loop takes numbers
abbrev pub loop_variable : Line → NameBytes → List Use
loop_variable line name = place_use line roles.LoopVariable true (designators.Name name) 0 ∷ []

-- the head of a FOR. Without CALLED a loop over a class has the variable of the class.
abbrev pub in_head : Line → HeadTree → List Use
in_head line (over_range variable from to step phrases) =
    loop_variable line variable ++ in_expression line true from ++ in_expression line true to
    ++ in_option (in_expression line true) step ++ flat_map (in_phrase line) phrases
in_head line (over_members variable set start reverse phrases) =
    loop_variable line variable ++ in_named line roles.Set false set ++ in_start line start ++ flat_map (in_phrase line) phrases
in_head line (over_class class called phrases) =
    class_used line Permanent class (is_some called) ∷ in_option (loop_variable line) called ++ flat_map (in_phrase line) phrases

abbrev pub in_loop_head : Line → LoopHeadTree → List Use
in_loop_head line (for_head head) = in_head line head
in_loop_head line (guarded guards) = flat_map (in_guard line) guards

-- ---- parts of statements

abbrev pub in_position : Line → PositionTree → List Use
in_position line (before e) = in_expression line true e
in_position line (after e) = in_expression line true e
in_position line _ = []

abbrev pub in_when : Line → WhenTree → List Use
in_when line (at_time e) = in_expression line true e
in_when line (in_units e) = in_expression line true e
in_when line now = []

-- a class, and the target after CALLED that gets its new entity
abbrev pub in_new : Line → ClassNeed → NameBytes → Option NamedTree → List Use
in_new line need class called =
    class_used line need class (is_some called) ∷ in_option (in_named line roles.Target true) called

-- a class, and the reference after CALLED to an entity of it
abbrev pub in_old : Line → ClassNeed → NameBytes → Option ExpressionTree → List Use
in_old line need class called =
    class_used line need class (is_some called) ∷ in_option (in_expression line true) called

-- a value that has this mode
abbrev pub in_value : Line → ModeOf → ExpressionTree → List Use
in_value line wanted e = same line (expression_tree_mode e) wanted ∷ in_expression line false e

-- a target that takes a value of this mode
abbrev pub in_target : Line → ModeOf → NamedTree → List Use
in_target line wanted n = same line (designated n.designator) wanted ∷ in_named line roles.Target false n

-- the values that SCHEDULE gives to the attributes of a class
abbrev pub in_given : Line → NameBytes → List ExpressionTree → List Use
in_given line class given =
    count line (length given) (counts.Attributes class) ∷ in_places (λ i. in_value line (modes.Attribute class i)) 0 given

abbrev pub in_call : Line → NameBytes → List ExpressionTree → List NamedTree → List Use
in_call line name given yielding =
    use_at_line line (Routine name)
    ∷ count line (length given) (counts.Given name)
    ∷ count line (length yielding) (counts.Yielded name)
    ∷ in_places (λ i. in_value line (modes.Given name i)) 0 given
    ++ in_places (λ i. in_target line (modes.Yielded name i)) 0 yielding

-- ---- PRINT

-- the fields of pictures, from the left, one picture after another
abbrev pub fields_of_pictures : List (List ℕ) → List Field
fields_of_pictures pictures = flat_map picture_fields pictures

-- an item in a field with decimals: a place named alone, in any parentheses, that has to be a MEAN
abbrev pub as_mean : ExpressionTree → Used
as_mean (named designator subscripts) = Mean designator
as_mean (parenthesised e) = as_mean e
as_mean _ = Unfit

-- an item in a field of so many decimals, which may be at most 9
abbrev pub of_decimals : ExpressionTree → ℕ → Used
of_decimals e decimals = if nat_le decimals 9 then as_mean e else Unfit

-- a field without decimals takes any item
abbrev pub with_decimals : Line → ExpressionTree → ℕ → List Use
with_decimals line e zero = []
with_decimals line e (suc more) = use_at_line line (of_decimals e (suc more)) ∷ []

abbrev pub in_field : Line → ExpressionTree → Field → List Use
in_field line e field = with_decimals line e field.decimals

-- the item in a place, with the field in the same place, if there is one
abbrev pub in_field_at : Line → List Field → ℕ → ExpressionTree → List Use
in_field_at line fields i e = in_option (in_field line e) (slice_get fields i)

-- an item: a place named alone, in any parentheses, may be a MEAN
abbrev pub in_item : Line → ExpressionTree → List Use
in_item line (named designator subscripts) = in_named line roles.Item false (record { designator = designator; subscripts = subscripts })
in_item line (parenthesised e) = in_item line e
in_item line e = in_expression line false e

-- an item with its field
abbrev pub in_item_at : Line → List Field → ℕ → ExpressionTree → List Use
in_item_at line fields i e = in_field_at line fields i e ++ in_item line e

-- whether there are as many items as fields
abbrev pub of_fit : Line → Bool → List Use
of_fit line true = []
of_fit line false = use_at_line line Unfit ∷ []

-- items with fields
abbrev pub in_items : Line → List ExpressionTree → List Field → List Use
in_items line items fields =
    of_fit line (length items == length fields) ++ in_places (in_item_at line fields) 0 items

-- ---- statements

-- the uses of a statement on entities, sets or notices
abbrev pub in_entity_statement : StatementTree → List Use
in_entity_statement (create_statement line class called) = in_new line Single class called
in_entity_statement (create_every line classes) = map (λ class. class_used line Permanent class true) classes
in_entity_statement (destroy_statement line class called) = in_old line Single class called
in_entity_statement (file_statement line x position set) =
    in_expression line true x ++ in_position line position ++ in_named line roles.Set false set
in_entity_statement (remove_end line end n set) = in_named line roles.Target true n ++ in_named line roles.Set false set
in_entity_statement (remove_statement line x set) = in_expression line true x ++ in_named line roles.Set false set
in_entity_statement (schedule_new line class called given when) =
    in_new line Notice class called ++ in_given line class given ++ in_when line when
in_entity_statement (schedule_statement line class called given when) =
    in_old line Notice class called ++ in_given line class given ++ in_when line when
in_entity_statement (cancel_statement line class called) = in_old line Notice class called
in_entity_statement _ = []

-- the uses of a statement, without those of the statements in it: of an IF its condition, of a loop its head
abbrev pub in_itself : StatementTree → List Use
in_itself (let_statement line n e) = in_target line (expression_tree_mode e) n ++ in_expression line false e
in_itself (add_statement line e n) = in_expression line true e ++ in_named line roles.Target true n
in_itself (subtract_statement line e n) = in_expression line true e ++ in_named line roles.Target true n
in_itself (call_statement line name given yielding) = in_call line name given yielding
in_itself (read_statement line targets) = in_all_named line roles.Target targets
in_itself (start_simulation line) = use_at_line line Start ∷ []
in_itself (if_statement line condition first second) = in_condition line condition
in_itself (loop_statement line head body) = in_loop_head line head
in_itself (find_statement line head) = in_head line head
in_itself (find_if_statement line head outcome first second) = in_head line head
in_itself (reset_statement line targets) = in_all_named line roles.Reset targets
in_itself (print_statement line items pictures) = in_items line items (fields_of_pictures pictures)
in_itself (skip_statement line lines) = in_expression line true lines
in_itself s = in_entity_statement s

abbrev mutual
  -- the uses of the statements in a statement
  pub in_inner : StatementTree → List Use
  in_inner (if_statement line condition first second) = in_row first ++ in_row second
  in_inner (loop_statement line head body) = in_row body
  in_inner (find_if_statement line head outcome first second) = in_row first ++ in_row second
  in_inner _ = []

  -- the uses of statements: of each its own, and then those of the statements in it
  pub in_row : StatementRow → List Use
  in_row no_statement = []
  in_row (and_statement s ss) = in_itself s ++ in_inner s ++ in_row ss

-- the uses of a statement, with those of the statements in it
abbrev pub in_statement : StatementTree → List Use
in_statement s = in_itself s ++ in_inner s

abbrev pub in_body : List StatementTree → List Use
in_body body = flat_map in_statement body

-- ---- sections

abbrev pub parameter_use : Line → NameBytes → Use
parameter_use line name = use_at_line line (Parameter name)

-- a parameter of an EVENT section has the mode of the attribute in its place
abbrev pub as_attribute : Line → NameBytes → ℕ → NameBytes → List Use
as_attribute line class i name = same line (modes.Named name) (modes.Attribute class i) ∷ []

-- an EVENT section is given attributes of its class
abbrev pub in_event : Line → NameBytes → List NameBytes → List Use
in_event line class given =
    class_used line Notice class true
    ∷ count line (length given) (counts.Attributes class)
    ∷ map (parameter_use line) given ++ in_places (as_attribute line class) 0 given

-- the head of a section
abbrev pub in_kind : Line → SectionKindTree → List Use
in_kind line main = []
in_kind line (routine name given yielding) = map (parameter_use line) given ++ map (parameter_use line) yielding
in_kind line (event name given saving) = in_event line name given

abbrev pub local_use : Line → ModeWord → NameBytes → Use
local_use line mode name = use_at_line line (Local name mode)

-- the names that a local DEFINE gives a mode
abbrev pub in_local_definition : DefinitionTree → List Use
in_local_definition d = map (local_use d.line d.mode) d.names

-- the uses of a section
abbrev pub uses : SectionTree → List Use
uses s = in_kind s.line s.kind ++ flat_map in_local_definition s.definitions ++ in_body s.body
