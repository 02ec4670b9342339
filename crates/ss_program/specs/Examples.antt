-- Small programs as plain data, well typed and not, and how many nodes they have.
use Rattle.std.specs.Prelude.{◌≡◌, ℕ, zero, suc, pos, true, false, [], ◌∷◌, List, map, take, Some, None, codes, refl, Contains}
use Rattle.std.proofs.Common.{arith}
use Rattle.std.proofs.lemmas.Option.{none-some}
use Rattle.ss_base.specs.declared.line.Line.{Line}
use Rattle.ss_base.specs.declared.value.Value.TheVariants.{Whole, Text}
use Rattle.ss_base.specs.declared.layout.Mode.{Mode}
use Rattle.ss_base.specs.declared.layout.Mode.TheVariants.{Integer, Alpha}
use Rattle.ss_base.specs.declared.layout.ClassKind.TheVariants.{Permanent, Temporary, Notice}
use Rattle.ss_base.specs.declared.layout.Owner.TheVariants.{System, Class as OfClass}
use Rattle.ss_base.specs.declared.layout.Layout.{Layout}
use Rattle.ss_base.specs.declared.layout.Discipline.TheVariants.{Fifo, Ranked}
use Rattle.ss_picture.specs.Pictures.{picture_fields}
use Rattle.ss_program.specs.declared.expression.Variable.TheVariants.{Global, Local}
use Rattle.ss_base.specs.declared.words.Operator.TheVariants.{Add, Multiply}
use Rattle.ss_base.specs.declared.words.Sign.TheVariants.{Plus}
use Rattle.ss_program.specs.Program.{Expression, Constant, Fetch, Calculate, TheSystem, Entity, AtEnd, Numbers, Members, AValue, ToVariable, ToAttribute, ToCount, ByDiscipline, At, Let, Change, Read, Simulate, For, Create, CreateEvery, File, ScheduleNew, Print, Block, Done, Then, Program}
use Rattle.ss_program.specs.WellTyped.{IsWellTyped, TypedScope, HaveModes, kind_of_class}
use Rattle.ss_program.specs.Nodes.{nodes}

abbrev number : ℕ → Expression
number n = Constant (Whole (pos n))

abbrev nothing : Layout
nothing = record { classes = []; sets = [] }

-- ---- numbers

-- LET X = 1 + 2 * 3; FOR I = 1 TO X ADD I TO Y; PRINT 1 LINE WITH Y THUS; where what X is given is left open
abbrev pub numbers : Line → Expression → Program
numbers l e = record {
  layout = nothing;
  disciplines = [];
  globals = [];
  counts = [];
  statistics = [];
  routines = [];
  events = [];
  locals = Integer ∷ Integer ∷ Integer ∷ [];
  main =
      Then (Let l (ToVariable (Local 0)) e)
      (Then (For l (Numbers (Local 1) (number 1) (Fetch (Local 0)) None) [] (Then (Change l Plus (ToVariable (Local 2)) (Fetch (Local 1))) Done))
      (Then (Print l (AValue (Fetch (Local 2)) ∷ []) (codes "SUM ***" ∷ []))
      Done));
}

abbrev pub seven : Expression
seven = Calculate Add (number 1) (Calculate Multiply (number 2) (number 3))

pub numbers_fit : (l : Line) → IsWellTyped (numbers l seven)
unfolding picture_fields
numbers_fit l = record {
  sets = refl;
  disciplines = tt;
  counts = tt;
  statistics = tt;
  routines = tt;
  events = tt;
  served = λ class none. cc;
  main = ((Integer, (refl, tt), (refl, refl, (refl, refl, refl))), ((((refl, tt), refl, refl, tt), tt, (((refl, tt), refl), tt)), ((((Integer, refl), refl), tt), tt)));
}

-- X is a whole number, and takes no text
pub a_text_does_not : (l : Line) → IsWellTyped (numbers l (Constant (Text (codes "SEVEN")))) → ⊥
a_text_does_not l w = cc

pub numbers_nodes : (l : Line) → nodes (numbers l seven) ≡ 18
numbers_nodes l = refl

-- ---- a ranked set

-- global variables: N.MACHINE and JOB
abbrev shop_layout : Layout
shop_layout = record {
  classes = record { kind = Permanent; fields = Integer ∷ [] } ∷ record { kind = Temporary; fields = Integer ∷ Alpha ∷ [] } ∷ [];
  sets = record { owner = System; member = 1 } ∷ record { owner = OfClass 0; member = 1 } ∷ [];
}

-- LET N.MACHINE = 2; CREATE EVERY MACHINE; CREATE A JOB; READ RANK; FILE JOB IN POOL; FOR EACH JOB IN POOL, FILE JOB IN QUEUE(1);
-- where POOL, of THE SYSTEM, is ranked by a field of JOB that is left open
abbrev pub ranking : Line → (field : ℕ) → Program
ranking l field = record {
  layout = shop_layout;
  disciplines = Ranked (record { field = field; high = true } ∷ []) ∷ Fifo ∷ [];
  globals = Integer ∷ Integer ∷ [];
  counts = record { class = 0; variable = 0 } ∷ [];
  statistics = [];
  routines = [];
  events = [];
  locals = [];
  main =
      Then (Let l (ToCount (record { class = 0; variable = 0 })) (number 2))
      (Then (CreateEvery l (record { class = 0; variable = 0 } ∷ []))
      (Then (Create l 1 (ToVariable (Global 1)))
      (Then (Read l (record { place = ToAttribute 1 0 (Fetch (Global 1)); mode = Integer } ∷ []))
      (Then (File l 0 (Fetch (Global 1)) ByDiscipline TheSystem)
      (Then (For l (Members (Global 1) 0 TheSystem AtEnd false) [] (Then (File l 1 (Fetch (Global 1)) ByDiscipline (Entity (number 1))) Done))
      Done)))));
}

no_notices : (l : Line) (class : ℕ) → kind_of_class (ranking l 0) class ≡ Some Notice → ⊥
no_notices l zero e = cc
no_notices l (suc zero) e = cc
no_notices l (suc (suc n)) e = cc

pub ranking_fits : (l : Line) → IsWellTyped (ranking l 0)
ranking_fits l = record {
  sets = refl;
  disciplines = (((Integer, refl), tt), (tt, tt));
  counts = ((refl, refl), tt);
  statistics = tt;
  routines = tt;
  events = tt;
  served = λ class notice. absurd (no_notices l class notice);
  main = ((Integer, (refl, (0, omega arith, refl)), refl), (((0, omega arith, refl), tt), ((refl, (refl, (λ e. cc, tt))), ((((refl, refl), tt)), ((refl, tt, refl), ((((refl, (λ e. cc, tt)), refl, tt), tt, ((refl, tt, ((0, refl), refl)), tt)), tt))))));
}

-- a job has no third attribute
pub a_third_attribute_is_none : (l : Line) → IsWellTyped (ranking l 2) → ⊥
a_third_attribute_is_none l w = cc

-- ---- an event

-- MAIN: SCHEDULE A BELL GIVEN 8 AT 9; START SIMULATION; where BELL is the global variable 0 and its notices have a TONE
-- EVENT BELL GIVEN T: what it does is left open
abbrev pub bells : Line → Expression → Block → Program
bells l given body = record {
  layout = record { classes = record { kind = Notice; fields = Integer ∷ [] } ∷ []; sets = [] };
  disciplines = [];
  globals = Integer ∷ [];
  counts = [];
  statistics = [];
  routines = [];
  locals = [];
  events = record { class = 0; ties = []; line = l; given = Integer ∷ []; others = []; saved = None; body = body } ∷ [];
  main = Then (ScheduleNew l 0 (ToVariable (Global 0)) (given ∷ []) (At (number 9))) (Then Simulate Done);
}

-- PRINT 1 LINE WITH T, BELL THUS
abbrev pub ring : Line → Block
ring l = Then (Print l (AValue (Fetch (Local 0)) ∷ AValue (Fetch (Global 0)) ∷ []) (codes "RING ** **" ∷ [])) Done

bell_has_an_event : (l : Line) (class : ℕ) → kind_of_class (bells l (number 8) (ring l)) class ≡ Some Notice → Contains (map (λ e. e.class) (bells l (number 8) (ring l)).events) class
bell_has_an_event l zero e = (0, omega arith, refl)
bell_has_an_event l (suc n) e = absurd (none-some Notice e)

pub bells_fit : (l : Line) → IsWellTyped (bells l (number 8) (ring l))
unfolding picture_fields
bells_fit l = record {
  sets = refl;
  disciplines = tt;
  counts = tt;
  statistics = tt;
  routines = tt;
  events = (record { modes = Integer ∷ []; fields = refl; notice = refl; ties = tt; given = refl; saved = tt; body = ((((Integer, refl), refl), (((Integer, refl), refl), tt)), tt) }, tt);
  served = bell_has_an_event l;
  main = (((refl, (Integer ∷ [], refl, (refl, tt))), (refl, tt), refl), (refl, tt));
}

loud_is_no_tone : (s : TypedScope) (modes : List Mode) → Some (Integer ∷ []) ≡ Some modes → HaveModes s (Constant (Text (codes "LOUD")) ∷ []) (take 1 modes) → ⊥
loud_is_no_tone s [] e h = cc
loud_is_no_tone s (m ∷ ms) e h = cc

-- a TONE is a whole number
pub a_tone_is_no_text : (l : Line) → IsWellTyped (bells l (Constant (Text (codes "LOUD"))) (ring l)) → ⊥
a_tone_is_no_text l w = loud_is_no_tone (record { program = bells l (Constant (Text (codes "LOUD"))) (ring l); locals = []; is_main = true }) w.main.0.0.1.0 w.main.0.0.1.1 w.main.0.0.1.2

-- a simulation is started in MAIN alone
pub no_simulation_in_an_event : (l : Line) → IsWellTyped (bells l (number 8) (Then Simulate Done)) → ⊥
no_simulation_in_an_event l w = cc

-- two sections, three statements, BELL twice, T, 8, 9 and a picture
pub bells_nodes : (l : Line) → nodes (bells l (number 8) (ring l)) ≡ 11
bells_nodes l = refl
