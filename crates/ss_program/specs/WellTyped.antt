-- When a program is well typed: each number in it is that of something, and modes, kinds and counts agree.
use Rattle.std.specs.Prelude.{◌≡◌, ◌≢◌, ℕ, ◌≤◌, Bool, true, false, List, ◌++◌, length, map, take, Option, Some, None, slice_get, Contains, IfSome}
use Rattle.std.specs.List.{AllZip, AllByRecursion as Every, flat_map}
use Rattle.std.specs.Option.{option_map, option_and_then}
use Rattle.ss_base.specs.declared.layout.Mode.{Mode}
use Rattle.ss_base.specs.declared.layout.Mode.TheVariants.{Integer}
use Rattle.ss_base.specs.declared.layout.ClassKind.{ClassKind}
use Rattle.ss_base.specs.declared.layout.ClassKind.TheVariants.{Permanent, Temporary, Notice}
use Rattle.ss_base.specs.declared.layout.Owner.{Owner}
use Rattle.ss_base.specs.declared.layout.Owner.TheVariants.{System, Class as OfClass}
use Rattle.ss_base.specs.declared.layout.SetLayout.{SetLayout}
use Rattle.ss_base.specs.declared.layout.RankKey.{RankKey}
use Rattle.ss_base.specs.declared.layout.Discipline.{Discipline}
use Rattle.ss_base.specs.declared.layout.Discipline.TheVariants.{Fifo, Lifo, Ranked}
use Rattle.ss_base.specs.Layout.{mode_of, is_sound}
use Rattle.ss_picture.specs.declared.field.Field.{Field}
use Rattle.ss_picture.specs.Pictures.{picture_fields}
use Rattle.ss_program.specs.declared.expression.Variable.{Variable}
use Rattle.ss_program.specs.declared.expression.Variable.TheVariants.{Global, Local}
use Rattle.ss_program.specs.declared.statement.CountedClass.{CountedClass}
use Rattle.ss_program.specs.declared.sections.Subject.{Subject}
use Rattle.ss_program.specs.declared.sections.Subject.TheVariants.{OfVariable, OfAttribute, OfCount}
use Rattle.ss_program.specs.declared.sections.Statistic.{Statistic}
use Rattle.ss_program.specs.Program.{Expression, Constant, Fetch, Attribute, OfSystemSet, OfSet, OfMember, Clock, TimeOf, Figure, FigureOf, Signed, Unary, Calculate, SetOwner, TheSystem, Entity, Test, Compare, DataEnded, Empty, Member, Condition, Start, AtEnd, From, After, Head, Numbers, Members, Each, Phrase, Place, ToVariable, ToAttribute, ToCount, Position, ByDiscipline, AsFirst, AsLast, BeforeMember, AfterMember, When, At, In, Now, PrintItem, AValue, AMean, AMeanOf, Statement, Let, Change, Call, Return, Stop, Read, Simulate, If, Loop, For, Find, Create, CreateEvery, Destroy, File, RemoveEnd, Remove, ScheduleNew, Schedule, Cancel, Reset, Print, Skip, Block, Done, Then, Routine, Event, Program}

-- ---- what is numbered

abbrev pub kind_of_class : Program → (class : ℕ) → Option ClassKind
kind_of_class p class = option_map (λ c. c.kind) (slice_get p.layout.classes class)

-- the modes of the attributes of a class
abbrev pub fields_of : Program → (class : ℕ) → Option (List Mode)
fields_of p class = option_map (λ c. c.fields) (slice_get p.layout.classes class)

abbrev pub field_mode : Program → (class field : ℕ) → Option Mode
field_mode p class field = option_and_then (λ modes. slice_get modes field) (fields_of p class)

abbrev pub owner_of_set : Program → (set : ℕ) → Option Owner
owner_of_set p set = option_map (λ s. s.owner) (slice_get p.layout.sets set)

-- the sets of the name belong to entities of a class
abbrev pub IsOwned : Program → (set : ℕ) → Type 0
IsOwned p k = (class : ℕ) × (owner_of_set p k ≡ Some (OfClass class))

-- the sets of the name are there
abbrev pub IsSet : Program → (set : ℕ) → Type 0
IsSet p k = (set : SetLayout) × (slice_get p.layout.sets k ≡ Some set)

-- entities of such a class are created one by one
abbrev pub is_created_singly : Option ClassKind → Bool
is_created_singly None = false
is_created_singly (Some Permanent) = false
is_created_singly (Some Temporary) = true
is_created_singly (Some Notice) = true

-- the subject of a statistic is one thing, without an entity
abbrev pub IsAlone : Program → Subject → Type 0
IsAlone p (OfVariable k) = Unit {0}
IsAlone p (OfAttribute class field) = ⊥
IsAlone p (OfCount set) = owner_of_set p set ≡ Some System

-- each entity has a subject of the statistic of its own
abbrev pub IsOfEntities : Program → Subject → Type 0
IsOfEntities p (OfVariable k) = ⊥
IsOfEntities p (OfAttribute class field) = Unit {0}
IsOfEntities p (OfCount set) = IsOwned p set

-- the statistic is there, and its subject is such
abbrev pub HasSubject : Program → (Program → Subject → Type 0) → (statistic : ℕ) → Type 0
HasSubject p Fits k = (s : Statistic) × (slice_get p.statistics k ≡ Some s) × Fits p s.subject

-- where a statement is: the program, the local variables of its section, and whether that is MAIN
pub record TypedScope : Type 0 where
  pub program : Program
  pub locals : List Mode
  pub is_main : Bool

abbrev pub mode_at : TypedScope → Variable → Option Mode
mode_at s (Global k) = slice_get s.program.globals k
mode_at s (Local k) = slice_get s.locals k

-- ---- expressions and conditions

-- the expression has the mode
abbrev pub HasMode : TypedScope → Expression → Mode → Type 0
HasMode s (Constant v) m = mode_of v ≡ m
HasMode s (Fetch x) m = mode_at s x ≡ Some m
HasMode s (Attribute class field e) m = (field_mode s.program class field ≡ Some m) × HasMode s e Integer
HasMode s (OfSystemSet query set) m = (m ≡ Integer) × (owner_of_set s.program set ≡ Some System)
HasMode s (OfSet query set e) m = (m ≡ Integer) × IsOwned s.program set × HasMode s e Integer
HasMode s (OfMember query set e) m = (m ≡ Integer) × IsSet s.program set × HasMode s e Integer
HasMode s Clock m = m ≡ Integer
HasMode s (TimeOf e) m = (m ≡ Integer) × HasMode s e Integer
HasMode s (Figure fold k) m = (m ≡ Integer) × HasSubject s.program IsAlone k
HasMode s (FigureOf fold k e) m = (m ≡ Integer) × HasSubject s.program IsOfEntities k × HasMode s e Integer
HasMode s (Signed sign e) m = (m ≡ Integer) × HasMode s e Integer
HasMode s (Unary op e) m = (m ≡ Integer) × HasMode s e Integer
HasMode s (Calculate operator a b) m = (m ≡ Integer) × HasMode s a Integer × HasMode s b Integer

-- the expressions have these modes, and are as many
abbrev pub HaveModes : TypedScope → List Expression → List Mode → Type 0
HaveModes s = AllZip (HasMode s)

-- the owner is such as the sets of the name have
abbrev pub IsTypedOwner : TypedScope → (set : ℕ) → SetOwner → Type 0
IsTypedOwner s set TheSystem = owner_of_set s.program set ≡ Some System
IsTypedOwner s set (Entity e) = IsOwned s.program set × HasMode s e Integer

abbrev pub IsTypedTest : TypedScope → Test → Type 0
IsTypedTest s (Compare relation a b) = (m : Mode) × HasMode s a m × HasMode s b m
IsTypedTest s (DataEnded negated) = Unit {0}
IsTypedTest s (Empty negated set owner) = IsTypedOwner s set owner
IsTypedTest s (Member negated set e owner) = HasMode s e Integer × IsTypedOwner s set owner

abbrev pub IsTypedCondition : TypedScope → Condition → Type 0
IsTypedCondition s = Every (Every (IsTypedTest s))

-- ---- places and heads of loops

-- the variable isn't N. of a permanent class
abbrev pub IsPlain : Program → Variable → Type 0
IsPlain p (Global k) = Every (λ count. count.variable ≢ k) p.counts
IsPlain p (Local k) = Unit {0}

-- the place takes values of the mode
abbrev pub CanTakeMode : TypedScope → Place → Mode → Type 0
CanTakeMode s (ToVariable x) m = (mode_at s x ≡ Some m) × IsPlain s.program x
CanTakeMode s (ToAttribute class field e) m = (field_mode s.program class field ≡ Some m) × HasMode s e Integer
CanTakeMode s (ToCount count) m = (m ≡ Integer) × Contains s.program.counts count

abbrev pub IsTypedStart : TypedScope → Start → Type 0
IsTypedStart s AtEnd = Unit {0}
IsTypedStart s (From e) = HasMode s e Integer
IsTypedStart s (After e) = HasMode s e Integer

abbrev pub IsTypedHead : TypedScope → Head → Type 0
IsTypedHead s (Numbers x a b step) = CanTakeMode s (ToVariable x) Integer × HasMode s a Integer × HasMode s b Integer × IfSome step (λ e. HasMode s e Integer)
IsTypedHead s (Members x set owner start reverse) = CanTakeMode s (ToVariable x) Integer × IsTypedOwner s set owner × IsTypedStart s start
IsTypedHead s (Each x class) = CanTakeMode s (ToVariable x) Integer × (kind_of_class s.program class ≡ Some Permanent)

-- the condition of a phrase is good
abbrev pub IsTypedPhrase : TypedScope → Phrase → Type 0
IsTypedPhrase s phrase = IsTypedCondition s phrase.condition

-- ---- statements

-- the routine is there, and takes and yields as many values, of the same modes
abbrev pub IsTypedCall : TypedScope → (routine : ℕ) → List Expression → List Place → Type 0
IsTypedCall s k given yielding =
    (r : Routine) × (slice_get s.program.routines k ≡ Some r) × HaveModes s given r.given × AllZip (CanTakeMode s) yielding r.yielding

abbrev pub IsTypedPosition : TypedScope → Position → Type 0
IsTypedPosition s ByDiscipline = Unit {0}
IsTypedPosition s AsFirst = Unit {0}
IsTypedPosition s AsLast = Unit {0}
IsTypedPosition s (BeforeMember e) = HasMode s e Integer
IsTypedPosition s (AfterMember e) = HasMode s e Integer

abbrev pub IsTypedWhen : TypedScope → When → Type 0
IsTypedWhen s (At e) = HasMode s e Integer
IsTypedWhen s (In e) = HasMode s e Integer
IsTypedWhen s Now = Unit {0}

-- the class is one of notices, whose first attributes take the values given
abbrev pub AreTypedGiven : TypedScope → (class : ℕ) → List Expression → Type 0
AreTypedGiven s class given =
    (kind_of_class s.program class ≡ Some Notice) × ((modes : List Mode) × (fields_of s.program class ≡ Some modes) × HaveModes s given (take (length given) modes))

-- the statistic is that of one thing or, with an expression, of each entity
abbrev pub IsTypedRestart : TypedScope → (statistic : ℕ) → Option Expression → Type 0
IsTypedRestart s k None = HasSubject s.program IsAlone k
IsTypedRestart s k (Some e) = HasSubject s.program IsOfEntities k × HasMode s e Integer

-- a field takes the item: a value where it has no decimals, a mean where it has at most 9
abbrev pub CanTakeItem : TypedScope → Field → PrintItem → Type 0
CanTakeItem s field (AValue e) = ((m : Mode) × HasMode s e m) × (field.decimals ≡ 0)
CanTakeItem s field (AMean k) = HasSubject s.program IsAlone k × (field.decimals ≤ 9)
CanTakeItem s field (AMeanOf k e) = HasSubject s.program IsOfEntities k × HasMode s e Integer × (field.decimals ≤ 9)

-- the fields of the pictures take the items, and are as many
abbrev pub IsTypedPrint : TypedScope → List PrintItem → List (List ℕ) → Type 0
IsTypedPrint s items pictures = AllZip (CanTakeItem s) (flat_map picture_fields pictures) items

abbrev mutual
  pub IsTypedStatement : TypedScope → Statement → Type 0
  IsTypedStatement s (Let l x e) = (m : Mode) × CanTakeMode s x m × HasMode s e m
  IsTypedStatement s (Change l sign x e) = CanTakeMode s x Integer × HasMode s e Integer
  IsTypedStatement s (Call l routine given yielding) = IsTypedCall s routine given yielding
  IsTypedStatement s Return = Unit {0}
  IsTypedStatement s Stop = Unit {0}
  IsTypedStatement s (Read l targets) = Every (λ t. CanTakeMode s t.place t.mode) targets
  IsTypedStatement s Simulate = s.is_main ≡ true
  IsTypedStatement s (If l condition a b) = IsTypedCondition s condition × IsTypedBlock s a × IsTypedBlock s b
  IsTypedStatement s (Loop l guards body) = Every (λ guard. IsTypedCondition s guard.condition) guards × IsTypedBlock s body
  IsTypedStatement s (For l head phrases body) = IsTypedHead s head × Every (IsTypedPhrase s) phrases × IsTypedBlock s body
  IsTypedStatement s (Find l head phrases found none) = IsTypedHead s head × Every (IsTypedPhrase s) phrases × IsTypedBlock s found × IsTypedBlock s none
  IsTypedStatement s (Create l class x) = (is_created_singly (kind_of_class s.program class) ≡ true) × CanTakeMode s x Integer
  IsTypedStatement s (CreateEvery l counts) = Every (Contains s.program.counts) counts
  IsTypedStatement s (Destroy l class e) = (is_created_singly (kind_of_class s.program class) ≡ true) × HasMode s e Integer
  IsTypedStatement s (File l set e position owner) = HasMode s e Integer × IsTypedPosition s position × IsTypedOwner s set owner
  IsTypedStatement s (RemoveEnd l end set x owner) = CanTakeMode s x Integer × IsTypedOwner s set owner
  IsTypedStatement s (Remove l set e owner) = HasMode s e Integer × IsTypedOwner s set owner
  IsTypedStatement s (ScheduleNew l class x given when) = AreTypedGiven s class given × CanTakeMode s x Integer × IsTypedWhen s when
  IsTypedStatement s (Schedule l class e given when) = AreTypedGiven s class given × HasMode s e Integer × IsTypedWhen s when
  IsTypedStatement s (Cancel l class e) = (kind_of_class s.program class ≡ Some Notice) × HasMode s e Integer
  IsTypedStatement s (Reset l restarts) = Every (λ r. IsTypedRestart s r.statistic r.of) restarts
  IsTypedStatement s (Print l items pictures) = IsTypedPrint s items pictures
  IsTypedStatement s (Skip l e) = HasMode s e Integer

  pub IsTypedBlock : TypedScope → Block → Type 0
  IsTypedBlock s Done = Unit {0}
  IsTypedBlock s (Then statement rest) = IsTypedStatement s statement × IsTypedBlock s rest

-- ---- programs

-- the keys name fields of the class
abbrev pub AreTypedKeys : Program → (class : ℕ) → List RankKey → Type 0
AreTypedKeys p class = Every (λ key. (m : Mode) × (field_mode p class key.field ≡ Some m))

abbrev pub IsTypedDiscipline : Program → SetLayout → Discipline → Type 0
IsTypedDiscipline p set Fifo = Unit {0}
IsTypedDiscipline p set Lifo = Unit {0}
IsTypedDiscipline p set (Ranked keys) = AreTypedKeys p set.member keys

-- N. of a class is that of a permanent one
abbrev pub IsTypedCount : Program → CountedClass → Type 0
IsTypedCount p count = (kind_of_class p count.class ≡ Some Permanent) × (slice_get p.globals count.variable ≡ Some Integer)

-- the subject of a statistic is there, and a whole number
abbrev pub IsTypedSubject : Program → Subject → Type 0
IsTypedSubject p (OfVariable k) = (slice_get p.globals k ≡ Some Integer) × IsPlain p (Global k)
IsTypedSubject p (OfAttribute class field) = field_mode p class field ≡ Some Integer
IsTypedSubject p (OfCount set) = IsSet p set

abbrev pub IsTypedRoutine : Program → Routine → Type 0
IsTypedRoutine p r = IsTypedBlock (record { program = p; locals = r.given ++ (r.yielding ++ r.others); is_main = false }) r.body

-- the class is one of notices; its ties are fields of it, and what the routine is given are its first fields
pub record IsTypedEvent (p : Program) (e : Event) : Type 0 where
  pub modes : List Mode
  pub fields : fields_of p e.class ≡ Some modes
  pub notice : kind_of_class p e.class ≡ Some Notice
  pub ties : AreTypedKeys p e.class e.ties
  pub given : e.given ≡ take (length e.given) modes
  -- the variable that takes the number of a notice that is saved
  pub saved : IfSome e.saved (λ k. (slice_get p.globals k ≡ Some Integer) × IsPlain p (Global k))
  pub body : IsTypedBlock (record { program = p; locals = e.given ++ e.others; is_main = false }) e.body

pub record IsWellTyped (p : Program) : Type 0 where
  -- the owners and member classes of the sets are there
  pub sets : is_sound p.layout ≡ true
  -- each set has a discipline
  pub disciplines : AllZip (IsTypedDiscipline p) p.layout.sets p.disciplines
  pub counts : Every (IsTypedCount p) p.counts
  pub statistics : Every (λ s. IsTypedSubject p s.subject) p.statistics
  pub routines : Every (IsTypedRoutine p) p.routines
  pub events : Every (IsTypedEvent p) p.events
  -- each notice class has its event routine
  pub served : (class : ℕ) → kind_of_class p class ≡ Some Notice → Contains (map (λ e. e.class) p.events) class
  pub main : IsTypedBlock (record { program = p; locals = p.locals; is_main = true }) p.main
