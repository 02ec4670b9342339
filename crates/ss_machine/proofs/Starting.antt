-- The first state of a machine.
use Rattle.std.proofs.Common.{◌≡◌, ℕ, ◌+◌, ◌<◌, ◌≤◌, ◌^◌, List, [], ◌∷◌, length, refl, sym, ap, ◌∙◌, subst, pos, arith}
use Rattle.std.specs.Ordering.{int_eq}
use Rattle.ss_machine.proofs.Common.{AreCallsAt, AreValuesAt, Code, first_value, IsAtStart, IsCodeOf, Mode, situated, State}
use Rattle.ss_code.specs.Running.{Generated, Said}
use Rattle.ss_code_instructions.specs.Carried.{RunningCode, IsEntry, main_entry}
use Rattle.ss_machine.specs.Beginning.{firsts_laid, IsFirstState, values_laid, IsLaidOut, IsFirstWorld, first_here, none_laid}
use Rattle.ss_machine_frames.specs.Rows.{TwoRows, AreAlike, AreGrown, with_value, cleared}
use Rattle.ss_machine_instructions.specs.Doing.{Compiled, world_of}
use Rattle.ss_base.specs.declared.layout.Owner.TheVariants.{System}
use Rattle.ss_world.specs.State.{first_state}
use Rattle.ss_world.specs.PendingList.{none_pending}
use Rattle.ss_meaning.specs.Histories.{starting, no_histories}
use Rattle.ss_meaning.specs.Store.{first_values}
use Rattle.ss_code_instructions.specs.Running.{begin_store}
use Rattle.ss_machine_time.specs.Records.{columns_of}
use Rattle.ss_machine_frames.proofs.Entering.{cleared_all, cleared_below, cleared_long, value_texts}
use Rattle.ss_machine_frames.proofs.Places.{agree_on, agree_within, all_agree}
use Rattle.ss_machine.proofs.Laying.{laid_at, laid_agrees, laid_even, laid_long, firsts_long}

-- ## Rows

module _ (code : Generated) (rows : TwoRows) (h : IsLaidOut code rows) where
  abbrev variables : TwoRows
  variables = firsts_laid none_laid code.globals

  abbrev all : TwoRows
  all = values_laid variables code.run.constants

  abbrev from : ℕ
  from = length code.globals + length code.run.constants

  variables_long : length variables.numbers ≡ length code.globals
  variables_long = omega (arith, laid_long none_laid (first_values code.globals), firsts_long code.globals)

  variables_even : length variables.texts ≡ length variables.numbers
  variables_even = laid_even none_laid (first_values code.globals) refl

  all_long : length all.numbers ≡ from
  all_long = omega (arith, laid_long variables code.run.constants, variables_long)

  -- what was laid lies there still
  stays : AreAlike all rows 0 from
  stays =
      let up = subst (λ n. AreAlike all h.grown 0 n) all_long h.grows.same in
      let down = cleared_below h.grown from code.run.main.others.items in
      subst (λ r. AreAlike all r 0 from) (sym h.is) (agree_on all h.grown (cleared h.grown from code.run.main.others.items) 0 from up down)

  pub globals_lie : AreValuesAt rows 0 (first_values code.globals)
  globals_lie =
      let vs = first_values code.globals in
      let long = firsts_long code.globals in
      let first = laid_at none_laid vs refl in
      let up = subst (λ n. AreAlike variables all 0 n) variables_long (laid_agrees variables code.run.constants variables_even) in
      let mid = all_agree variables all 0 vs (agree_within variables all 0 (length code.globals) 0 (0 + length vs) (omega arith) (omega (arith, long)) up) first in
      all_agree all rows 0 vs (agree_within all rows 0 from 0 (0 + length vs) (omega arith) (omega (arith, long)) stays) mid

  pub constants_lie : AreValuesAt rows (length code.globals) code.run.constants
  constants_lie =
      let vs = code.run.constants in
      let first = subst (λ n. AreValuesAt all n vs) variables_long (laid_at variables vs variables_even) in
      all_agree all rows (length code.globals) vs (agree_within all rows 0 from (length code.globals) (length code.globals + length vs) (omega arith) (omega arith) stays) first

  pub locals_lie : from + length code.run.main.others.items ≤ length h.grown.numbers → AreValuesAt rows from (first_values code.run.main.others.items)
  locals_lie room = subst (λ r. AreValuesAt r from (first_values code.run.main.others.items)) (sym h.is) (cleared_all h.grown from code.run.main.others.items h.even room)

  pub rows_long : length rows.numbers ≡ length h.grown.numbers
  rows_long = ap (λ (r : TwoRows). length r.numbers) h.is ∙ cleared_long h.grown from code.run.main.others.items

cleared_texts : (r : TwoRows) (i : ℕ) (ms : List Mode) → length (cleared r i ms).texts ≡ length r.texts
cleared_texts r i [] = refl
cleared_texts r i (m ∷ ms) = cleared_texts (with_value r i (first_value m)) (i + 1) ms ∙ value_texts r i (first_value m)

-- the frame of MAIN begins at a place that has a number
pub frame_small : (code : Generated) (s : State) → IsFirstState code s → length code.globals + length code.run.constants < 2 ^ 63
frame_small code s first = omega (arith, first.rows.room, first.rows.small)

-- ## The world

-- what a world is that holds no entity, with the histories of the system begun
world_first : (w : Compiled) (code : Generated) (s : State) → IsCodeOf code w → IsFirstWorld code s.world → (input : List ℕ) → (begin_store w.code input).world ≡ world_of s.world input
world_first w code s of e input =
    let said = of.said in
    let layout : code.said.layout ≡ w.code.layout = ap (λ (x : Said). x.layout) said ∙ sym (ap (λ (k : Code). k.layout) of.compiled.code) in
    let setting : code.said.setting ≡ w.code.setting = ap (λ (x : Said). x.setting) said ∙ sym (ap (λ (k : Code). k.setting) of.compiled.code) in
    let ties : code.said.ties ≡ w.code.ties = ap (λ (x : Said). x.ties) said ∙ sym (ap (λ (k : Code). k.ties) of.compiled.code) in
    let histories = subst (λ l. columns_of s.world.histories ≡ starting l System (int_eq (pos 0)) (pos 0) code.said.setting.statistics (no_histories code.said.setting.statistics)) layout e.histories in
    let all = subst (λ t. columns_of s.world.histories ≡ starting w.code.layout System (int_eq (pos 0)) (pos 0) t.statistics (no_histories t.statistics)) setting histories in
    let disciplines = e.disciplines ∙ ap (λ t. t.disciplines) setting in
    let notices = e.notices ∙ ap (λ t. t.notices) setting in
    let statistics = e.statistics ∙ ap (λ t. t.statistics) setting in
    let heap = e.heap ∙ ap first_state layout in
    let pending = e.pending ∙ ap none_pending ties in
    rw (disciplines, notices, statistics, heap, e.time, pending, all) refl

-- ## All of it

pub at_start : (code : Generated) (s : State) → IsFirstState code s → IsAtStart code (situated (first_here code) s)
at_start code s first w of input =
    let h = first.rows in
    let globals : code.globals ≡ w.code.globals = of.globals ∙ sym (ap (λ (k : Code). k.globals) of.compiled.code) in
    let constants : w.run.constants ≡ code.run.constants = ap (λ (run : RunningCode). run.constants) of.run in
    let main : IsEntry w.run.depth (main_entry w.code) code.run.main = subst (λ (run : RunningCode). IsEntry w.run.depth (main_entry w.code) run.main) of.run of.compiled.run.main in
    let given : length code.run.main.given.items ≡ 0 = ap length main.given in
    let others : length code.run.main.others.items ≡ length w.code.locals = ap length main.others in
    let size = firsts_long w.code.locals in
    let wide = ap length globals in
    let firsts = firsts_long w.code.globals in
    let many = ap length constants in
    let from = length code.globals + length code.run.constants in
    let low : length (first_values w.code.globals) ≡ length code.globals = omega (arith, firsts, wide) in
    let room : from + length w.code.locals + w.run.depth ≤ length h.grown.numbers = omega (arith, h.room, main.room, given) in
    let locals = subst (λ ms. AreValuesAt s.rows from (first_values ms)) main.others (locals_lie code s.rows h (omega (arith, room, others))) in
    let long = rows_long code s.rows h in
    record {
      reached = (0, (input, refl));
      holds = record {
        place = main.place;
        held = record {
          globals = subst (λ ms. AreValuesAt s.rows 0 (first_values ms)) globals (globals_lie code s.rows h);
          fixed = subst (λ n. AreValuesAt s.rows n w.run.constants) (sym low) (subst (λ vs. AreValuesAt s.rows (length code.globals) vs) (sym constants) (constants_lie code s.rows h));
          locals = locals;
          cells = tt;
          open_calls = subst (λ gs. AreCallsAt s.rows (length (first_values w.code.globals) + length w.run.constants) from gs []) (sym first.frames) (omega (arith, low, many));
          room = omega (arith, room, size, long);
          small = omega (arith, h.small, long);
        };
        world = world_first w code s of first.world input;
        even = ap (λ (r : TwoRows). length r.texts) h.is ∙ cleared_texts h.grown from code.run.main.others.items ∙ h.even ∙ sym long;
        line = first.line;
      };
    }

-- rows as they are laid
pub laid : (code : Generated) (all grown rows : TwoRows) → all ≡ values_laid (firsts_laid none_laid code.globals) code.run.constants → AreGrown all grown → length grown.texts ≡ length grown.numbers
    → length all.numbers + code.run.main.room ≤ length grown.numbers → length grown.numbers < 2 ^ 63 → rows ≡ cleared grown (length all.numbers) code.run.main.others.items → IsLaidOut code rows
laid code all grown rows is grows even room small made =
    let first : length (firsts_laid none_laid code.globals).numbers ≡ length code.globals = omega (arith, laid_long none_laid (first_values code.globals), firsts_long code.globals) in
    let long : length all.numbers ≡ length code.globals + length code.run.constants = ap (λ (r : TwoRows). length r.numbers) is ∙ omega (arith, laid_long (firsts_laid none_laid code.globals) code.run.constants, first) in
    record {
      grown = grown;
      grows = subst (λ r. AreGrown r grown) is grows;
      even = even;
      room = omega (arith, room, long);
      small = small;
      is = made ∙ ap (λ n. cleared grown n code.run.main.others.items) long;
    }
