-- What the code of a program goes by beside the program itself.
use Rattle.std.specs.Prelude.{ℕ, ◌==◌, Bool, true, false, not, ◌&&◌, List, [], ◌∷◌, Option, Some, None, if◌then◌else◌}
use Rattle.ss_program.specs.declared.expression.Variable.{Variable}
use Rattle.ss_program.specs.declared.expression.Variable.TheVariants.{Global, Local}
use Rattle.ss_program.specs.declared.sections.Subject.{Subject}
use Rattle.ss_program.specs.declared.sections.Subject.TheVariants.{OfVariable}
use Rattle.ss_program.specs.declared.sections.Statistic.{Statistic}
use Rattle.ss_program.specs.Program.{Expression, Constant, Fetch, Attribute, OfSet, OfMember, TimeOf, FigureOf, Signed, Unary, Calculate, SetOwner, TheSystem, Entity, Position, ByDiscipline, AsFirst, AsLast, BeforeMember, AfterMember}
use Rattle.ss_meaning.specs.Histories.{same_subject}

-- the statistics watch a subject
abbrev pub watch : List Statistic → Subject → Bool
watch [] subject = false
watch (s ∷ ss) subject = if same_subject s.subject subject then true else watch ss subject

-- the statistics watch a variable; none watches a local one
abbrev pub is_watched : List Statistic → Variable → Bool
is_watched ss (Global k) = watch ss (OfVariable k)
is_watched ss (Local k) = false

-- a constant and a variable are operands as they are; their evaluation has no fault
abbrev pub is_leaf : Expression → Bool
is_leaf (Constant v) = true
is_leaf (Fetch x) = true
is_leaf _ = false

-- the owner of a set as an expression, of which there is none where it is the system
abbrev pub expression_of : SetOwner → Option Expression
expression_of TheSystem = None
expression_of (Entity e) = Some e

-- whether the evaluation of what there may be may fault
abbrev pub may_fault : Option Expression → Bool
may_fault None = false
may_fault (Some e) = not (is_leaf e)

-- the member beside which another one is filed
abbrev pub neighbour_of : Position → Option Expression
neighbour_of ByDiscipline = None
neighbour_of AsFirst = None
neighbour_of AsLast = None
neighbour_of (BeforeMember e) = Some e
neighbour_of (AfterMember e) = Some e

-- whether a member that is filed is looked at before: where another one beside it is, or where the evaluation of the owner may fault
abbrev pub needs_look : (beside owner : Option Expression) → Bool
needs_look None o = may_fault o
needs_look (Some e) o = true

-- ## When a reference need not be looked at

-- whether two variables are one
abbrev pub same_variable : Variable → Variable → Bool
same_variable (Global k) (Global j) = k == j
same_variable (Global k) (Local j) = false
same_variable (Local k) (Global j) = false
same_variable (Local k) (Local j) = k == j

-- an expression is this variable
abbrev pub is_fetch_of : Variable → Expression → Bool
is_fetch_of x (Fetch y) = same_variable x y
is_fetch_of x _ = false

-- an expression is a constant
abbrev pub is_constant : Expression → Bool
is_constant (Constant v) = true
is_constant _ = false

-- the evaluation of an expression begins with an attribute of the entity in a variable, as one of this class: so it begins with the look at it
abbrev pub looks_first : (class : ℕ) → Variable → Expression → Bool
looks_first class x (Attribute k field e) = if is_leaf e then (k == class) && is_fetch_of x e else looks_first class x e
looks_first class x (OfSet query set e) = looks_first class x e
looks_first class x (OfMember query set e) = looks_first class x e
looks_first class x (TimeOf e) = looks_first class x e
looks_first class x (FigureOf fold j e) = looks_first class x e
looks_first class x (Signed sign e) = looks_first class x e
looks_first class x (Unary op e) = looks_first class x e
looks_first class x (Calculate op a b) = if is_constant a then looks_first class x b else looks_first class x a
looks_first class x _ = false

-- whether the entity whose attribute is assigned a value is looked at before: where the value may fault, and does not begin with the same look
abbrev pub must_look : (class : ℕ) → (reference value : Expression) → Bool
must_look class (Fetch x) e = if is_leaf e then false else not (looks_first class x e)
must_look class _ e = not (is_leaf e)
