-- Small programs with their meaning: events and statistics. Each expected value is worked out from the rules of the language.
use Rattle.std.specs.Prelude.{◌≡◌, ◌-◌, ◌^◌, ℕ, List, [], ◌∷◌, pos, negsuc, codes, Some, None, true, refl}
use Rattle.ss_base.specs.declared.fault.FaultKind.TheVariants.{AlreadyScheduled, NotScheduled, PastTime, Overflow}
use Rattle.ss_base.specs.declared.layout.ClassKind.TheVariants.{Temporary, Notice}
use Rattle.ss_base.specs.declared.layout.RankKey.{RankKey}
use Rattle.ss_base.specs.declared.layout.Owner.TheVariants.{System}
use Rattle.ss_base.specs.declared.layout.Discipline.TheVariants.{Fifo}
use Rattle.ss_base.specs.Arithmetic.{in_64_bits, plus_of}
use Rattle.ss_world.specs.State.{LAST_NUMBER}
use Rattle.ss_world.specs.Order.{comes_before}
use Rattle.ss_world.specs.PendingList.{scheduling_limit}
use Rattle.ss_stats.specs.History.{tally_limit}
use Rattle.ss_base.specs.declared.value.Value.TheVariants.{Whole}
use Rattle.ss_picture.specs.declared.items.Item.TheVariants.{Is}
use Rattle.ss_picture.specs.Numerals.{numeral}
use Rattle.ss_picture.specs.Pictures.{picture_fields, filled}
use Rattle.ss_program.specs.declared.expression.Fold.TheVariants.{Number, Sum, Maximum, Minimum}
use Rattle.ss_program.specs.declared.sections.Subject.TheVariants.{OfVariable, OfCount}
use Rattle.ss_base.specs.declared.words.Weighting.TheVariants.{Tally, Accumulate}
use Rattle.ss_base.specs.declared.words.End.TheVariants.{First}
use Rattle.ss_program.specs.Program.{Expression, Attribute, Clock, TimeOf, Figure, AMean, Print, TheSystem, ByDiscipline, At, In, Statement, Let, Call, Simulate, Create, File, RemoveEnd, ScheduleNew, Schedule, Cancel, Reset, Event, Program}
use Rattle.ss_meaning.specs.Building.{line, num, global, local, to_global, block, print_line, integers, class_with_fields, bell, program_of_main, workshop, ends, pauses, faults}
use Rattle.ss_meaning.specs.Meaning.{meaning}
use Rattle.ss_meaning.specs.Values.{printed}

-- ## Scheduling: a bell with the tone 8 is scheduled for 9, and cancelled, which keeps its TIME.A; then come further lines

abbrev cancelled_bell : List Statement → Program
cancelled_bell ss = workshop 0 (ScheduleNew (line 16) bell (to_global bell) (num (pos 8) ∷ []) (At (num (pos 9))) ∷ Cancel (line 17) bell (global bell) ∷
    print_line 18 (Attribute bell 0 (global bell) ∷ TimeOf (global bell) ∷ []) (codes "* *") ∷ ss)

abbrev schedule_for : (l time : ℕ) → Statement
schedule_for l time = Schedule (line l) bell (global bell) [] (At (num (pos time)))

abbrev print_time : ℕ → Statement
print_time l = print_line l (Clock ∷ []) (codes "*")

pub scheduled_again : meaning (cancelled_bell (schedule_for 20 3 ∷ Simulate ∷ print_time 22 ∷ [])) [] 9 ≡ ends (codes "8 9" ∷ codes "3" ∷ []) 8
unfolding filled picture_fields numeral
scheduled_again = refl

pub cancelled_twice : meaning (cancelled_bell (Cancel (line 20) bell (global bell) ∷ [])) [] 9 ≡ faults (codes "8 9" ∷ []) NotScheduled 20 9
unfolding filled picture_fields numeral
cancelled_twice = refl

pub scheduled_twice : meaning (cancelled_bell (schedule_for 20 3 ∷ schedule_for 21 4 ∷ [])) [] 9 ≡ faults (codes "8 9" ∷ []) AlreadyScheduled 21 9
unfolding filled picture_fields numeral
scheduled_twice = refl

-- a time before TIME.V is in the past
pub scheduled_too_late : meaning (cancelled_bell (schedule_for 20 3 ∷ Simulate ∷ print_time 22 ∷
    ScheduleNew (line 24) bell (to_global bell) [] (At (num (pos 2))) ∷ [])) [] 9 ≡ faults (codes "8 9" ∷ codes "3" ∷ []) PastTime 24 8
unfolding filled picture_fields numeral
scheduled_too_late = refl

-- an event takes a tick
pub pauses_before_an_event : meaning (cancelled_bell (schedule_for 20 3 ∷ Simulate ∷ print_time 22 ∷ [])) [] 0 ≡ pauses (codes "8 9" ∷ [])
unfolding filled picture_fields numeral
pauses_before_an_event = refl

-- ## The order of events: RED has an attribute, BLUE two, GREEN one; PRIORITY ORDER IS GREEN AND BLUE; BREAK BLUE TIES BY HIGH SIZE, the second

abbrev red : ℕ
red = 0

abbrev blue : ℕ
blue = 1

abbrev green : ℕ
green = 2

-- the event routine prints its name with its one parameter
abbrev coloured : (class : ℕ) → List RankKey → (l : ℕ) → List ℕ → Event
coloured class ties l picture = record {
  class = class;
  ties = ties;
  line = line l;
  given = integers 1;
  others = [];
  saved = None;
  body = block (print_line l (local 0 ∷ []) picture ∷ []);
}

abbrev colours : List Statement → Program
colours ss = record (program_of_main 0 ss) {
  layout = record { classes = class_with_fields Notice 1 ∷ class_with_fields Notice 2 ∷ class_with_fields Notice 1 ∷ []; sets = [] };
  globals = integers 3;
  events = coloured green [] 19 (codes "GREEN *") ∷ coloured blue (record { field = 1; high = true } ∷ []) 15 (codes "BLUE *") ∷ coloured red [] 11 (codes "RED *") ∷ [];
}

abbrev schedule_at : (l class : ℕ) → List Expression → (time : ℕ) → Statement
schedule_at l class given time = ScheduleNew (line l) class (to_global class) given (At (num (pos time)))

pub the_order_of_events : meaning (colours (schedule_at 24 red (num (pos 1) ∷ []) 5 ∷ schedule_at 25 blue (num (pos 2) ∷ num (pos 1) ∷ []) 5 ∷
    schedule_at 26 blue (num (pos 3) ∷ num (pos 2) ∷ []) 5 ∷ schedule_at 27 green (num (pos 4) ∷ []) 5 ∷ schedule_at 28 blue (num (pos 5) ∷ num (pos 2) ∷ []) 5 ∷
    schedule_at 29 red (num (pos 6) ∷ []) 4 ∷ Simulate ∷ print_line 31 (Clock ∷ []) (codes "END *") ∷ [])) [] 9 ≡
    ends (codes "RED 6" ∷ codes "GREEN 4" ∷ codes "BLUE 3" ∷ codes "BLUE 5" ∷ codes "BLUE 2" ∷ codes "RED 1" ∷ codes "END 5" ∷ []) 3
unfolding filled picture_fields numeral comes_before
the_order_of_events = refl

-- ## SAVING: a bell that is saved is in the variable of its class, and may be scheduled again; its routine does so until the time 2

abbrev saved_bell : Event
saved_bell = record {
  class = 0;
  ties = [];
  line = line 3;
  given = integers 1;
  others = [];
  saved = Some 0;
  body = block (print_line 4 (local 0 ∷ global 0 ∷ TimeOf (global 0) ∷ []) (codes "* * *") ∷ Schedule (line 5) 0 (global 0) [] (In (num (pos 1))) ∷ []);
}

-- SCHEDULE A BELL CALLED B GIVEN 7 AT 1: the global variable of B is the second
abbrev ringing : Program
ringing = record (program_of_main 0 (ScheduleNew (line 9) 0 (to_global 1) (num (pos 7) ∷ []) (At (num (pos 1))) ∷ Simulate ∷ [])) {
  layout = record { classes = class_with_fields Notice 1 ∷ []; sets = [] };
  globals = integers 2;
  events = saved_bell ∷ [];
}

pub a_saved_notice : meaning ringing [] 2 ≡ pauses (codes "7 1 1" ∷ codes "7 1 2" ∷ [])
unfolding filled picture_fields numeral plus_of in_64_bits
a_saved_notice = refl

-- ## Statistics

-- NUMBER, SUM, MAXIMUM and MINIMUM of the first statistic
abbrev print_figures : ℕ → Statement
print_figures l = print_line l (Figure Number 0 ∷ Figure Sum 0 ∷ Figure Maximum 0 ∷ Figure Minimum 0 ∷ []) (codes "** ** ** **")

abbrev let_global : (l : ℕ) → Expression → Statement
let_global l e = Let (line l) (to_global 0) e

-- a TALLY of the global variable X; the routine prints it
abbrev tallied : List Statement → Program
tallied ss = record (program_of_main 0 ss) {
  globals = integers 1;
  statistics = record { subject = OfVariable 0; weighting = Tally } ∷ [];
  routines = record { given = []; yielding = []; others = []; body = block (print_figures 7 ∷ []) } ∷ [];
}

pub a_tally : meaning (tallied (Call (line 11) 0 [] [] ∷ let_global 12 (num (pos 4)) ∷ let_global 12 (num (negsuc 1)) ∷ let_global 12 (num (pos 7)) ∷
    Call (line 13) 0 [] [] ∷ Reset (line 14) (record { statistic = 0; of = None } ∷ []) ∷ Call (line 15) 0 [] [] ∷ [])) [] 9 ≡
    ends (codes " 0  0  0  0" ∷ codes " 3  9  7 -2" ∷ codes " 0  0  0  0" ∷ []) 6
unfolding filled picture_fields numeral in_64_bits
a_tally = refl

-- the mean of X, before anything and after 4, -2 and 7, with decimals and without
abbrev print_mean : (l : ℕ) → List ℕ → Statement
print_mean l picture = Print (line l) (AMean 0 ∷ []) (picture ∷ [])

pub a_mean : meaning (tallied (print_mean 6 (codes "[***.**]") ∷ let_global 7 (num (pos 4)) ∷ let_global 7 (num (negsuc 1)) ∷ let_global 7 (num (pos 7)) ∷
    print_mean 8 (codes "[***.**]") ∷ print_mean 9 (codes "[**]") ∷ [])) [] 9 ≡ ends (codes "[  0.00]" ∷ codes "[  3.00]" ∷ codes "[ 3]" ∷ []) 9
unfolding filled picture_fields numeral
a_mean = refl

-- a mean is no fault where the sum would be one
pub a_large_mean : meaning (tallied (let_global 6 (num (pos 9223372036854775807)) ∷ let_global 6 (num (pos 9223372036854775807)) ∷
    print_mean 7 (codes "*******************.**") ∷ [])) [] 9 ≡ ends (codes "9223372036854775807.00" ∷ []) 9
unfolding filled picture_fields numeral
a_large_mean = refl

-- a value in a field with decimals does not fit
pub no_decimals_for_a_value : (printed (codes "*.*" ∷ []) (Is (Whole (pos 1)) ∷ [])) ≡ None
unfolding picture_fields
no_decimals_for_a_value = refl

-- a sum beyond 64 bits is a fault as it is read, and not as it is noted
abbrev large_sum : List Statement → Program
large_sum more = tallied (let_global 6 (num (pos 9223372036854775807)) ∷ let_global 7 (num (pos 1)) ∷ more)

abbrev print_sum : ℕ → Statement
print_sum l = print_line l (Figure Sum 0 ∷ []) (codes "*******************")

pub a_sum_within_again : meaning (large_sum (let_global 8 (num (negsuc 4)) ∷ print_sum 9 ∷ [])) [] 9 ≡ ends (codes "9223372036854775803" ∷ []) 9
unfolding filled picture_fields numeral in_64_bits
a_sum_within_again = refl

pub a_sum_too_large : meaning (large_sum (print_sum 8 ∷ [])) [] 9 ≡ faults [] Overflow 8 9
unfolding in_64_bits
a_sum_too_large = refl

-- two classes of notices without attributes, STEP and CLOSE, with what STEP does; CLOSE prints the statistic. STEP comes at 5, and CLOSE at 10
abbrev event_of : (class : ℕ) → (l : ℕ) → Statement → Event
event_of class l s = record { class = class; ties = []; line = line l; given = []; others = []; saved = None; body = block (s ∷ []) }

abbrev stepping : Statement → List Statement → Program
stepping step first = record (program_of_main 0 first) { globals = integers 3; events = event_of 0 6 step ∷ event_of 1 9 (print_figures 10) ∷ [] }

abbrev schedule_both : List Statement
schedule_both = schedule_at 15 0 [] 5 ∷ schedule_at 16 1 [] 10 ∷ Simulate ∷ []

-- ACCUMULATE of the global variable X, here the third: 2 from the beginning on, and 4 from 5 on
pub an_accumulated_variable : meaning (record (stepping (Let (line 7) (to_global 2) (num (pos 4))) (Let (line 14) (to_global 2) (num (pos 2)) ∷ schedule_both)) {
  layout = record { classes = class_with_fields Notice 0 ∷ class_with_fields Notice 0 ∷ []; sets = [] };
  statistics = record { subject = OfVariable 2; weighting = Accumulate } ∷ [];
}) [] 9 ≡ ends (codes "10 30  4  0" ∷ []) 7
unfolding filled picture_fields numeral in_64_bits comes_before
an_accumulated_variable = refl

-- ACCUMULATE of N.POOL: a job is in the pool of the system until 5
pub an_accumulated_set : meaning (record (stepping (RemoveEnd (line 8) First 0 (to_global 2) TheSystem)
    (Create (line 15) 2 (to_global 2) ∷ File (line 15) 0 (global 2) ByDiscipline TheSystem ∷ schedule_both)) {
      layout = record { classes = class_with_fields Notice 0 ∷ class_with_fields Notice 0 ∷ class_with_fields Temporary 0 ∷ []; sets = record { owner = System; member = 2 } ∷ [] };
      disciplines = Fifo ∷ [];
      statistics = record { subject = OfCount 0; weighting = Accumulate } ∷ [];
    }) [] 9 ≡ ends (codes "10  5  1  0" ∷ []) 7
unfolding filled picture_fields numeral in_64_bits comes_before
an_accumulated_set = refl

-- ## The limits of creations, schedulings and values noted, as numbers

pub most_creations : LAST_NUMBER ≡ 2 ^ 62 - 1
most_creations = refl

pub most_schedulings : scheduling_limit ≡ 2 ^ 62 - 1
most_schedulings = refl

pub most_values : tally_limit ≡ 2 ^ 62 - 1
most_values = refl
