-- Expressions, statements and bodies whose uses break no rule resolve, and are well typed.
use Rattle.std.specs.Prelude.{◌≡◌, ℕ, Bool, true, false, List, [], ◌∷◌, Some}
use Rattle.std.specs.List.{AllByRecursion as Every}
use Rattle.ss_base.specs.declared.line.Line.{Line}
use Rattle.ss_base.specs.declared.layout.ClassKind.{ClassKind}
use Rattle.ss_base.specs.declared.layout.Mode.{Mode}
use Rattle.ss_base.specs.declared.layout.Mode.TheVariants.{Integer}
use Rattle.ss_picture.specs.declared.field.Field.{Field}
use Rattle.ss_tree.specs.Names.{NameBytes}
use Rattle.ss_tree.specs.Tree.{ExpressionTree, NamedTree, ConditionTree, HeadTree, LoopHeadTree, for_head, guarded, StatementTree, statement_row}
use Rattle.ss_names_uses.specs.declared.used.ClassNeed.{ClassNeed}
use Rattle.ss_names_uses.specs.declared.used.Role.TheVariants as roles
use Rattle.ss_names_uses.specs.Uses as uses
use Rattle.ss_names_scopes.specs.Scopes.{Scope, is_kind}
use Rattle.ss_check_rules.specs.Modes.{mode_of_use}
use Rattle.ss_program.specs.Program.{Expression, PrintItem, SetOwner, Condition, Place as Target, ToVariable, Restart, Head, Phrase, Guard, Block}
use Rattle.ss_program.specs.WellTyped.{TypedScope as Place, HasMode, CanTakeMode, CanTakeItem, IsTypedOwner, IsTypedCondition, IsTypedHead, IsTypedPhrase, IsTypedRestart, IsTypedBlock, kind_of_class}
use Rattle.ss_names_meaning.specs.declared.classes.NamedClass.{NamedClass}
use Rattle.ss_names_meaning.specs.Answers.{each}
use Rattle.ss_names_meaning.specs.Classes.{class_named}
use Rattle.ss_names_meaning.specs.Expressions.{expression, item, set_named, target}
use Rattle.ss_names_meaning.specs.Conditions.{condition}
use Rattle.ss_names_meaning.specs.Heads.{guard, head, phrases_of, resolved_phrase}
use Rattle.ss_names_meaning.specs.Statements.{reader, restart, statements}
use Rattle.ss_check_laws.specs.Links.{IsLinked, AreValid}

-- the expression has a resolved form, of the mode that the rules say, which is Integer where it has to be a number
abbrev pub IsResolved : Scope → Place → (is_number : Bool) → ExpressionTree → Type 0
IsResolved s g is_number e =
    (x : Expression) × (m : Mode) × (expression s e ≡ Some x) × HasMode g x m × (mode_of_use s (uses.expression_tree_mode e) ≡ Some m) × (is_number ≡ true → m ≡ Integer)

-- the target has a resolved form, which takes values of the mode that the rules say; READ finds the same mode
abbrev pub IsResolvedTarget : Scope → Place → (is_number : Bool) → NamedTree → Type 0
IsResolvedTarget s g is_number n =
    (x : Target) × (m : Mode) × (target s n ≡ Some x) × CanTakeMode g x m × (mode_of_use s (uses.designated n.designator) ≡ Some m) × (is_number ≡ true → m ≡ Integer)
    × (reader s n ≡ Some (record { place = x; mode = m }))

-- the set has a resolved form, with an owner such as its sets have
abbrev pub IsResolvedSet : Scope → Place → NamedTree → Type 0
IsResolvedSet s g n = (p : ℕ × SetOwner) × (set_named s n ≡ Some p) × IsTypedOwner g p.0 p.1

-- the item of PRINT has a resolved form, which the field takes
abbrev pub IsResolvedItem : Scope → Place → Field → ExpressionTree → Type 0
IsResolvedItem s g field e = (x : PrintItem) × (item s e ≡ Some x) × CanTakeItem g field x

-- the subject of a RESET has a resolved form
abbrev pub IsResolvedRestart : Scope → Place → NamedTree → Type 0
IsResolvedRestart s g n = (r : Restart) × (restart s n ≡ Some r) × IsTypedRestart g r.statistic r.of

-- the class is there, of a kind that its place needs, and its variable takes numbers where no entity is named
abbrev pub IsResolvedClass : Scope → Place → ClassNeed → NameBytes → (is_called : Bool) → Type 0
IsResolvedClass s g need name is_called =
    (c : NamedClass) × (kind : ClassKind) × (class_named s need name ≡ Some c) × (kind_of_class g.program c.class ≡ Some kind) × (is_kind need kind ≡ true)
    × (is_called ≡ false → CanTakeMode g (ToVariable c.variable) Integer)

-- the condition has a resolved form, which is well typed
abbrev pub IsResolvedCondition : Scope → Place → ConditionTree → Type 0
IsResolvedCondition s g t = (x : Condition) × (condition s t ≡ Some x) × IsTypedCondition g x

-- the head of a FOR and its phrases have resolved forms, which are well typed
abbrev pub IsResolvedForHead : Scope → Place → HeadTree → Type 0
IsResolvedForHead s g over =
    (h : Head) × (head s over ≡ Some h) × IsTypedHead g h × (ps : List Phrase) × (each (resolved_phrase s) (phrases_of over) ≡ Some ps) × Every (IsTypedPhrase g) ps

-- the head of a loop has a resolved form, which is well typed; one that begins with WHILE or UNTIL has conditions alone
abbrev pub IsResolvedHead : Scope → Place → LoopHeadTree → Type 0
IsResolvedHead s g (for_head over) = IsResolvedForHead s g over
IsResolvedHead s g (guarded guards) = (gs : List Guard) × (each (guard s) guards ≡ Some gs) × Every (λ x. IsTypedCondition g x.condition) gs

-- the statements have a resolved form, which is well typed
abbrev pub IsResolvedBody : Scope → Place → List StatementTree → Type 0
IsResolvedBody s g body = (b : Block) × (statements s (statement_row body) ≡ Some b) × IsTypedBlock g b

-- ---- laws

abbrev pub ExpressionsResolve : Type 0
ExpressionsResolve =
    (s : Scope) (g : Place) → IsLinked s g → (line : Line) (is_number : Bool) (e : ExpressionTree) →
    AreValid s g.is_main (uses.in_expression line is_number e) → IsResolved s g is_number e

abbrev pub TargetsResolve : Type 0
TargetsResolve =
    (s : Scope) (g : Place) → IsLinked s g → (line : Line) (is_number : Bool) (n : NamedTree) →
    AreValid s g.is_main (uses.in_named line roles.Target is_number n) → IsResolvedTarget s g is_number n

abbrev pub SetsResolve : Type 0
SetsResolve =
    (s : Scope) (g : Place) → IsLinked s g → (line : Line) (n : NamedTree) →
    AreValid s g.is_main (uses.in_named line roles.Set false n) → IsResolvedSet s g n

abbrev pub ItemsResolve : Type 0
ItemsResolve =
    (s : Scope) (g : Place) → IsLinked s g → (line : Line) (field : Field) (e : ExpressionTree) →
    AreValid s g.is_main (uses.in_field line e field) → AreValid s g.is_main (uses.in_item line e) → IsResolvedItem s g field e

abbrev pub RestartsResolve : Type 0
RestartsResolve =
    (s : Scope) (g : Place) → IsLinked s g → (line : Line) (n : NamedTree) →
    AreValid s g.is_main (uses.in_named line roles.Reset false n) → IsResolvedRestart s g n

abbrev pub ClassesResolve : Type 0
ClassesResolve =
    (s : Scope) (g : Place) → IsLinked s g → (line : Line) (need : ClassNeed) (name : NameBytes) (is_called : Bool) →
    AreValid s g.is_main (uses.class_used line need name is_called ∷ []) → IsResolvedClass s g need name is_called

abbrev pub ConditionsResolve : Type 0
ConditionsResolve =
    (s : Scope) (g : Place) → IsLinked s g → (line : Line) (t : ConditionTree) →
    AreValid s g.is_main (uses.in_condition line t) → IsResolvedCondition s g t

abbrev pub HeadsResolve : Type 0
HeadsResolve =
    (s : Scope) (g : Place) → IsLinked s g → (line : Line) (over : LoopHeadTree) →
    AreValid s g.is_main (uses.in_loop_head line over) → IsResolvedHead s g over

abbrev pub BodiesResolve : Type 0
BodiesResolve =
    (s : Scope) (g : Place) → IsLinked s g → (body : List StatementTree) →
    AreValid s g.is_main (uses.in_body body) → IsResolvedBody s g body
