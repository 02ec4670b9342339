-- Resolved expressions, targets and sets: each name is replaced by what it means.
use Rattle.std.specs.Prelude.{ℕ, option_map, Option, Some, None}
use Rattle.std.specs.Option.{option_map_or}
use Rattle.ss_base.specs.declared.value.Value.TheVariants.{Whole, Text}
use Rattle.ss_tree.specs.declared.expression.Function.TheVariants.{One, Two}
use Rattle.ss_tree.specs.Tree.{ExpressionTree, number, text, named, call, parenthesised, product, signed, sum, ExpressionRow, no_expression, and_expression, TermRow, no_term, and_term, NamedTree}
use Rattle.ss_program.specs.declared.expression.Variable.TheVariants.{Global}
use Rattle.ss_base.specs.declared.words.Sign.{Sign}
use Rattle.ss_base.specs.declared.words.Sign.TheVariants.{Plus, Minus}
use Rattle.ss_base.specs.declared.words.Operator.{Operator}
use Rattle.ss_base.specs.declared.words.Operator.TheVariants.{Add, Subtract, Multiply}
use Rattle.ss_program.specs.Program.{Expression, Constant, Fetch, Attribute, OfSystemSet, OfSet, OfMember, Clock, TimeOf, Figure, FigureOf, Signed, Unary, Calculate, PrintItem, AValue, AMean, AMeanOf, SetOwner, TheSystem, Entity, Place, ToVariable, ToAttribute, ToCount}
use Rattle.ss_base.specs.declared.layout.Owner.{Owner}
use Rattle.ss_base.specs.declared.layout.Owner.TheVariants as owners
use Rattle.ss_tree.specs.declared.expression.Designator.{Designator}
use Rattle.ss_tree.specs.declared.expression.Designator.TheVariants as designators
use Rattle.ss_names_declarations.specs.NameTable.{value_for}
use Rattle.ss_names.specs.declared.meaning.Meaning.{Meaning}
use Rattle.ss_names.specs.declared.meaning.Meaning.TheVariants as meanings
use Rattle.ss_names.specs.Table.{owner_of_meaning}
use Rattle.ss_names_scopes.specs.Scopes.{Scope, meaning_of, meaning_of_class, variable_of}
use Rattle.ss_names_meaning.specs.Answers.{◌>>=◌, of_one, of_two}

-- ---- words

-- the operator before a further term of a sum
abbrev pub resolved_operator : Sign → Operator
resolved_operator Plus = Add
resolved_operator Minus = Subtract

-- ---- names by what they mean

-- the entity in the variable of a class
abbrev pub entity_implied : Scope → ℕ → Option Expression
entity_implied s class = meaning_of_class s class >>= λ m. of_one (variable_of m) Fetch

-- of each entity of a class: the one in the subscript, or else the one in the variable of the class
abbrev pub entity_or_implied : Scope → ℕ → Option Expression → Option (Option Expression)
entity_or_implied s class (Some e) = Some (Some e)
entity_or_implied s class None = of_one (entity_implied s class) Some

-- of THE SYSTEM: none, and no subscript
abbrev pub of_system : Option Expression → Option (Option Expression)
of_system None = Some None
of_system (Some e) = None

abbrev pub of_owner : Scope → Owner → Option Expression → Option (Option Expression)
of_owner s owners.System e = of_system e
of_owner s (owners.Class class) e = entity_or_implied s class e

-- the entity that has what a name means, by the subscript if there is one; None for what no entity has. TIME.A takes its
-- subscript.
abbrev pub entity_of : Scope → Meaning → Option Expression → Option (Option Expression)
entity_of s meanings.NoticeTime e = Some e
entity_of s meaning e = of_owner s (owner_of_meaning s.table meaning) e

-- the value of what an entity has; a mean is no value
abbrev pub value_of_entity : Meaning → Expression → Option Expression
value_of_entity (meanings.Attribute class field mode) e = Some (Attribute class field e)
value_of_entity (meanings.OfSet query set) e = Some (OfSet query set e)
value_of_entity (meanings.OfMember query set) e = Some (OfMember query set e)
value_of_entity (meanings.Statistic (Some fold) statistic) e = Some (FigureOf fold statistic e)
value_of_entity meanings.NoticeTime e = Some (TimeOf e)
value_of_entity _ e = None

-- the value of what there is one of
abbrev pub value_alone : Meaning → Option Expression
value_alone (meanings.Variable x mode) = Some (Fetch x)
value_alone (meanings.Class class kind variable) = Some (Fetch (Global variable))
value_alone (meanings.Count n) = Some (Fetch (Global n.variable))
value_alone (meanings.OfSet query set) = Some (OfSystemSet query set)
value_alone (meanings.Statistic (Some fold) statistic) = Some (Figure fold statistic)
value_alone meanings.Clock = Some Clock
value_alone _ = None

-- the value of what a name means, of the entity that has it
abbrev pub resolved_value : Meaning → Option Expression → Option Expression
resolved_value meaning (Some e) = value_of_entity meaning e
resolved_value meaning None = value_alone meaning

-- what PRINT shows of it
abbrev pub resolved_item : Meaning → Option Expression → Option PrintItem
resolved_item (meanings.Statistic None statistic) None = Some (AMean statistic)
resolved_item (meanings.Statistic None statistic) (Some e) = Some (AMeanOf statistic e)
resolved_item meaning e = option_map AValue (resolved_value meaning e)

-- a target: a variable, N. of a class or an attribute
abbrev pub place_of : Meaning → Option Expression → Option Place
place_of (meanings.Variable x mode) None = Some (ToVariable x)
place_of (meanings.Class class kind variable) None = Some (ToVariable (Global variable))
place_of (meanings.Count n) None = Some (ToCount n)
place_of (meanings.Attribute class field mode) (Some e) = Some (ToAttribute class field e)
place_of _ _ = None

-- the owner of a set
abbrev pub set_owner : Option Expression → SetOwner
set_owner e = option_map_or Entity e TheSystem

-- the number of a set, which nothing hides
abbrev pub set_number : Option Meaning → Option ℕ
set_number (Some (meanings.Set set)) = Some set
set_number _ = None

abbrev pub set_of_name : Scope → Designator → Option ℕ
set_of_name s (designators.Name name) = set_number (value_for s.table.meanings name)
set_of_name s _ = None

-- what is named, and the entity that has it, by the subscript if there is one
abbrev pub meaning_with_entity : Scope → Designator → Option Expression → Option (Meaning × Option Expression)
meaning_with_entity s place e = do
  m ← meaning_of s place
  of_one {B = Meaning × Option Expression} (entity_of s m e) (λ of. (m, of))

-- ---- expressions

module _ (s : Scope) where
  unfoldable mutual
    -- parentheses are left out; sums and products are worked off from left to right
    pub expression : ExpressionTree → Option Expression
    expression (number n) = Some (Constant (Whole n))
    expression (text t) = Some (Constant (Text t))
    expression (named designator subscripts) = do
      e ← subscript subscripts
      p ← meaning_with_entity s designator e
      resolved_value p.0 p.1
    expression (call (One op) arguments) = of_one (one arguments) (Unary op)
    expression (call (Two op) arguments) = of_one (two arguments) (λ p. Calculate op p.0 p.1)
    expression (parenthesised e) = expression e
    expression (product first further) = expression first >>= λ left. factors left further
    expression (signed sign term) = of_one (expression term) (Signed sign)
    expression (sum first further) = expression first >>= λ left. terms left further

    -- the subscript, if there is one; None if there are more
    pub subscript : ExpressionRow → Option (Option Expression)
    subscript no_expression = Some None
    subscript (and_expression e no_expression) = of_one (expression e) Some
    subscript _ = None

    -- one argument
    pub one : ExpressionRow → Option Expression
    one (and_expression e no_expression) = expression e
    one _ = None

    -- two arguments
    pub two : ExpressionRow → Option (Expression × Expression)
    two (and_expression e (and_expression f no_expression)) =
        of_two {C = Expression × Expression} (expression e) (expression f) (λ x y. (x, y))
    two _ = None

    -- what is on the left, times further factors
    pub factors : Expression → ExpressionRow → Option Expression
    factors left no_expression = Some left
    factors left (and_expression e es) = expression e >>= λ x. factors (Calculate Multiply left x) es

    -- what is on the left, and further terms
    pub terms : Expression → TermRow → Option Expression
    terms left no_term = Some left
    terms left (and_term sign e es) = expression e >>= λ x. terms (Calculate (resolved_operator sign) left x) es

  -- what is named, with its subscripts, and the entity that has it
  abbrev pub place_named : Designator → ExpressionRow → Option (Meaning × Option Expression)
  place_named place subscripts = subscript subscripts >>= meaning_with_entity s place

  -- an item of PRINT: a mean if one is named alone, in any parentheses, and else a value
  abbrev pub item : ExpressionTree → Option PrintItem
  item (parenthesised e) = item e
  item (named designator subscripts) = place_named designator subscripts >>= λ p. resolved_item p.0 p.1
  item e = option_map AValue (expression e)

  -- a target
  abbrev pub target : NamedTree → Option Place
  target n = place_named n.designator n.subscripts >>= λ p. place_of p.0 p.1

  -- a set and its owner
  abbrev pub set_named : NamedTree → Option (ℕ × SetOwner)
  set_named n = do
    set ← set_of_name s n.designator
    e ← subscript n.subscripts
    of_one {B = ℕ × SetOwner} (entity_of s (meanings.Set set) e) (λ of. (set, set_owner of))
