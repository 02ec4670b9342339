-- Instructions that write.
use Rattle.std.proofs.Common.{◌≡◌, ℕ, zero, suc, ◌+◌, ◌<◌, ◌≤◌, Bool, true, false, List, [], ◌∷◌, length, map, replicate, Option, Some, None, Ok, Err, ℤ, pos, negsuc, refl, sym, ap, ◌∙◌, subst, arith}
use Rattle.std.specs.Prelude.{slice_get, if◌then◌else◌, nat_lt, int_lt, ◌==◌, ◌||◌}
use Rattle.ss_machine.proofs.Common.{Address, AreShown, AreValuesAt, BadCount, CanShow, CanTakeAll, cells_held, Compiled, Ended, Ending, Faulted, flat_map, Here, Integer, IsHeld, IsReadyFor, Item, ItemKind, Mode, NoInput, NoMemory, NoOutput, Paused, picture_fields, place_at, State, Value, Whole}
use Rattle.std.proofs.lemmas.Bool.{eqb-true, le-ltb}
use Rattle.ss_code_instructions.specs.Carried.{lines_of_running, RunningLines, kind_of_item, item_modes, onto, HasCell, HasOperand, Is}
use Rattle.ss_code_instructions.specs.Machine.{act, values_shown, print_lines, cells_of_kinds}
use Rattle.ss_code_instructions.specs.Shape.{IsSuited, AreFitForItems, modes_onto}
use Rattle.ss_code_instructions.specs.States.{Breaks, Core, Moved, Rest, Sends, Stuck, did, fit, core_at, with_block, at_height}
use Rattle.ss_machine.specs.Writing.{HasWritten, HasWrittenLess, HasWrittenPart, IsSending, IsUnsent, IsSendingOn, HasStoppedWriting}
use Rattle.ss_machine_instructions.proofs.Placing.{suits, site, located, deep_here, goes_with}
use Rattle.ss_meaning.specs.Values.{Fails, line_end, lines_with, unless_fault, printed, take_all, empty_lines}
use Rattle.ss_code_instructions.specs.declared.item.ItemKind.TheVariants as shows
use Rattle.ss_code_instructions.specs.declared.instruction.Instruction.{Instruction as Running}
use Rattle.ss_code_instructions.specs.declared.instruction.Instruction.TheVariants as r
use Rattle.ss_code_instructions.specs.Instructions as d
use Rattle.ss_code_instructions.specs.Instructions.{Lines}
use Rattle.ss_machine_frames.proofs.Entering.{Cut, cut}
use Rattle.ss_machine_frames.proofs.Reading.{Reads, reads, read_within, only_number, own_is, hold_length}
use Rattle.ss_machine_instructions.specs.Ways.{stopped}
use Rattle.ss_machine_instructions.proofs.Calling.{Blocked, blocked, cells_long}
use Rattle.ss_machine_instructions.proofs.Seeing.{seen_is}
use Rattle.ss_machine_instructions.proofs.Figuring.{has_subject, refers_to}

-- ## What a PRINT finds

onto_is : (modes ms : List Mode) → onto modes ms ≡ modes_onto modes ms
onto_is [] ms = refl
onto_is (m ∷ modes) ms = onto_is modes (m ∷ ms)

cells_are : (ks : List ItemKind) → cells_of_kinds (map kind_of_item ks) ≡ length (item_modes ks)
cells_are [] = refl
cells_are (shows.Number ∷ ks) = omega (arith, cells_are ks)
cells_are (shows.Text ∷ ks) = omega (arith, cells_are ks)
cells_are (shows.Mean j ∷ ks) = omega (arith, cells_are ks)
cells_are (shows.MeanOf j ∷ ks) = omega (arith, cells_are ks)

lines_there : (n : ℕ) (ls : List RunningLines) (l : RunningLines) → slice_get ls n ≡ Some l → slice_get (map lines_of_running ls) n ≡ Some (lines_of_running l)
lines_there n [] l e = absurd cc
lines_there zero (x ∷ ls) l e = let q : x ≡ l = cc in ap (λ y. Some (lines_of_running y)) q
lines_there (suc n) (x ∷ ls) l e = lines_there n ls l e

module _ (w : Compiled) (c : Core) (here : Here) (s : State) (number cell : ℕ) (ready : IsReadyFor w c here s (r.Print number cell)) (l : RunningLines) (there : slice_get w.run.prints number ≡ Some l) where
  abbrev modes : List Mode
  modes = item_modes l.items

  abbrev low : ℕ
  low = here.frame + length c.store.locals

  lines_is : slice_get w.code.prints number ≡ Some (lines_of_running l)
  lines_is = ap (λ ls. slice_get ls number) (sym ready.compiled.run.prints) ∙ lines_there number w.run.prints l there

  abbrev z : HasCell w.code w.run.constants ready.placed cell (λ h. Is w.code w.run.constants ready.placed (d.Print number h))
  z = ready.runs.carries

  pub shown_by : (rest : List Mode) × (ready.placed.cells ≡ onto modes rest)
  shown_by = ready.runs.shows number z.0 l z.2 there

  pub block : Blocked modes shown_by.0 c.cells
  block = blocked modes shown_by.0 c.cells (ready.fits.cells ∙ shown_by.1 ∙ onto_is modes shown_by.0)

  abbrev values : List Value
  values = block.taken.values

  abbrev below : List Value
  below = block.taken.below

  abbrev With : Option (List Item) → Moved
  With o = fit o (λ items. fit (printed l.pictures items) (λ bytes. Sends bytes (core_at (c.place + 1) below c.frames c.store)))

  acts : act w.code ready.placed.line ready.placed.instruction c ≡ at_height z.0 below (With (values_shown (map kind_of_item l.items) values c.store))
  acts =
      ap (λ x. act w.code ready.placed.line x c) z.2
      ∙ ap (λ o. fit o (λ p. print_lines p z.0 c)) lines_is
      ∙ ap (λ n. with_block n z.0 c.cells (λ vs below. fit (values_shown (map kind_of_item l.items) vs c.store) (λ items. fit (printed l.pictures items) (λ bytes. Sends bytes (core_at (c.place + 1) below c.frames c.store))))) (cells_are l.items)
      ∙ ap (λ o. fit o (λ b. at_height z.0 b.below (fit (values_shown (map kind_of_item l.items) b.values c.store) (λ items. fit (printed l.pictures items) (λ bytes. Sends bytes (core_at (c.place + 1) b.below c.frames c.store)))))) block.is

  -- the definition is not stuck, so that it prints
  pub record Prints : Type 0 where
    pub given : List Item
    pub high : length below ≡ z.0
    pub shown : values_shown (map kind_of_item l.items) values c.store ≡ Some given
    pub fields : take_all (flat_map picture_fields l.pictures) given ≡ true
    pub sends : act w.code ready.placed.line ready.placed.instruction c ≡ Sends (lines_with l.pictures given) (core_at (c.place + 1) below c.frames c.store)

  pub prints : Prints
  prints = by_height (length below == z.0) refl
    where
      stuck : act w.code ready.placed.line ready.placed.instruction c ≡ Stuck → Prints
      stuck e = absurd (ready.goes e)

      by_fields : length below ≡ z.0 → (length below == z.0) ≡ true → (given : List Item) → values_shown (map kind_of_item l.items) values c.store ≡ Some given → (b : Bool) → take_all (flat_map picture_fields l.pictures) given ≡ b → Prints
      by_fields high at given shown b q = by b q (first ∙ ap (λ b. fit (if b then Some (lines_with l.pictures given) else None) (λ bytes. Sends bytes (core_at (c.place + 1) below c.frames c.store))) q)
        where
          first : act w.code ready.placed.line ready.placed.instruction c ≡ With (Some given)
          first = acts ∙ ap (λ b. if b then With (values_shown (map kind_of_item l.items) values c.store) else Stuck) at ∙ ap With shown

          by : (b : Bool) → take_all (flat_map picture_fields l.pictures) given ≡ b → act w.code ready.placed.line ready.placed.instruction c ≡ fit (if b then Some (lines_with l.pictures given) else None) (λ bytes. Sends bytes (core_at (c.place + 1) below c.frames c.store)) → Prints
          by true q e = record { given = given; high = high; shown = shown; fields = q; sends = e }
          by false q e = stuck e

      by_shown : length below ≡ z.0 → (length below == z.0) ≡ true → (o : Option (List Item)) → values_shown (map kind_of_item l.items) values c.store ≡ o → Prints
      by_shown high at None q = stuck (acts ∙ ap (λ b. if b then With (values_shown (map kind_of_item l.items) values c.store) else Stuck) at ∙ ap With q)
      by_shown high at (Some given) q = by_fields high at given q (take_all (flat_map picture_fields l.pictures) given) refl

      by_height : (b : Bool) → (length below == z.0) ≡ b → Prints
      by_height true q = by_shown (eqb-true (length below) z.0 q) q (values_shown (map kind_of_item l.items) values c.store) refl
      by_height false q = stuck (acts ∙ ap (λ b. if b then With (values_shown (map kind_of_item l.items) values c.store) else Stuck) q)

  -- where its values lie
  begins : here.frame + cell ≡ low + length below
  begins = omega (arith, z.1, prints.high, own_is (site w c here s (r.Print number cell) ready) (located w c here s (r.Print number cell) ready))

  parts : Cut s.rows low block.taken
  parts = cut s.rows low (length modes) c.cells [] block.taken ready.holds.held.cells tt block.is

  lie : AreValuesAt s.rows (here.frame + cell) values
  lie = subst (λ k. AreValuesAt s.rows k values) (sym begins) parts.values

  -- whatever items are shown of what lies there, the lines are made of them
  pub given_are : (items : List Item) → AreShown s.world s.rows (here.frame + cell) l.items items → prints.given ≡ items
  given_are items shown =
      shown c.store values prints.given lie block.values
      (ap (values_shown (map kind_of_item l.items) values) (sym (seen_is w c here s (r.Print number cell) ready)) ∙ prints.shown)

  pub take_given : CanTakeAll s.world s.rows (here.frame + cell) l
  take_given items shown = subst (λ xs. take_all (flat_map picture_fields l.pictures) xs ≡ true) (given_are items shown) prints.fields

  pub sends_shown : (items : List Item) → AreShown s.world s.rows (here.frame + cell) l.items items → IsSending here s (r.Print number cell) w c ready (lines_with l.pictures items)
  sends_shown items shown = record {
    core = core_at (c.place + 1) below c.frames c.store;
    sends = subst (λ xs. act w.code ready.placed.line ready.placed.instruction c ≡ Sends (lines_with l.pictures xs) (core_at (c.place + 1) below c.frames c.store)) (given_are items shown) prints.sends;
    input = refl;
  }

  pub goes_on : (items : List Item) (shown : AreShown s.world s.rows (here.frame + cell) l.items items) → IsSendingOn here s (r.Print number cell) w c ready (lines_with l.pictures items) s (record { place = here.place + 1; frame = here.frame })
  unfolding sends_shown
  goes_on items shown = record {
    sending = sends_shown items shown;
    holds = subst (λ p. IsHeld w (core_at (c.place + 1) below c.frames c.store) (record { place = p; frame = here.frame }) s) (ap (λ p. p + 1) (sym ready.holds.place))
        (goes_with w c here s (r.Print number cell) ready (c.place + 1) below
        (cells_held (site w c here s (r.Print number cell) ready) (located w c here s (r.Print number cell) ready) (c.place + 1) below parts.below));
  }

  -- and they can be shown
  kinds_fit : AreFitForItems w.program (map kind_of_item l.items) (subst (IsSuited w.program w.code c.place ready.placed.locals ready.placed.cells) z.2 (suits w c here s (r.Print number cell) ready)).2.0
  kinds_fit =
      let y = subst (IsSuited w.program w.code c.place ready.placed.locals ready.placed.cells) z.2 (suits w c here s (r.Print number cell) ready) in
      let q : Some y.0 ≡ Some (lines_of_running l) = sym y.1 ∙ lines_is in
      let same : y.0 ≡ lines_of_running l = cc in
      subst (λ (x : Lines). AreFitForItems w.program x.items y.2.0) same y.2.1

  can_from : (ks : List ItemKind) (ms : List Mode) (k : ℕ) → AreFitForItems w.program (map kind_of_item ks) ms → k + length (item_modes ks) ≤ length s.rows.numbers → CanShow s.world s.rows k ks
  can_from [] ms k fit room = tt
  can_from (shows.Number ∷ ks) [] k fit room = absurd fit
  can_from (shows.Number ∷ ks) (m ∷ ms) k fit room = (omega (arith, room), can_from ks ms (k + 1) fit (omega (arith, room)))
  can_from (shows.Text ∷ ks) [] k fit room = absurd fit
  can_from (shows.Text ∷ ks) (m ∷ ms) k fit room = (omega (arith, room), can_from ks ms (k + 1) fit (omega (arith, room)))
  can_from (shows.Mean j ∷ ks) ms k fit room = (
    (has_subject w c here s (r.Print number cell) ready j, refers_to w c here s (r.Print number cell) ready j None None (pos 0) fit.0 (refl, refl)),
    can_from ks ms (k + 0) fit.1 (omega (arith, room)),
  )
  can_from (shows.MeanOf j ∷ ks) [] k fit room = absurd fit
  can_from (shows.MeanOf j ∷ ks) (m ∷ ms) k fit room = (
    (omega (arith, room), (has_subject w c here s (r.Print number cell) ready j, λ n. refers_to w c here s (r.Print number cell) ready j (Some (d.Stays 0)) (Some (Whole n)) n fit.1 refl)),
    can_from ks ms (k + 1) fit.2 (omega (arith, room)),
  )

  pub can_show : CanShow s.world s.rows (here.frame + cell) l.items
  can_show =
      let long = cells_long (length modes) c.cells [] block.taken block.is in
      let deep = deep_here w c here s (r.Print number cell) ready in
      let many = hold_length c.cells ready.placed.cells ready.fits.cells in
      can_from l.items _ (here.frame + cell) kinds_fit (omega (arith, begins, long, deep, many, ready.holds.held.room))

-- ## SKIP

module _ (w : Compiled) (c : Core) (here : Here) (s : State) (count : Address) (ready : IsReadyFor w c here s (r.Skip count)) where
  abbrev from : HasOperand w.code w.run.constants ready.placed count (λ y. Is w.code w.run.constants ready.placed (d.Skip y))
  from = ready.runs.carries

  abbrev suited : IsSuited w.program w.code c.place ready.placed.locals ready.placed.cells (d.Skip from.0)
  suited = subst (IsSuited w.program w.code c.place ready.placed.locals ready.placed.cells) from.2 (suits w c here s (r.Skip count) ready)

  pub count_within : place_at here.frame count < length s.rows.numbers
  count_within = read_within (site w c here s (r.Skip count) ready) (located w c here s (r.Skip count) ready) from.0 Integer ready.placed.cells suited.0 count suited.1 from.1 (deep_here w c here s (r.Skip count) ready)

  module _ (n : ℤ) (is : slice_get s.rows.numbers (place_at here.frame count) ≡ Some n) where
    one : Reads (site w c here s (r.Skip count) ready) (located w c here s (r.Skip count) ready) from.0 (Whole n) c.cells suited.0
    one = reads (site w c here s (r.Skip count) ready) (located w c here s (r.Skip count) ready) from.0 Integer ready.placed.cells suited.0 count c.cells (Whole n) suited.1 from.1 ready.holds.held.cells ready.fits.cells (only_number s.rows (place_at here.frame count) n is)

    skips : act w.code ready.placed.line ready.placed.instruction c ≡ did ready.placed.line (empty_lines (Whole n)) (λ bytes. Sends bytes (core_at (c.place + 1) one.below c.frames c.store))
    skips =
        ap (λ x. act w.code ready.placed.line x c) from.2
        ∙ one.is (λ v below. did ready.placed.line (empty_lines v) (λ bytes. Sends bytes (core_at (c.place + 1) below c.frames c.store)))

    pub skip_fails : empty_lines (Whole n) ≡ Err (Fails BadCount) → act w.code ready.placed.line ready.placed.instruction c ≡ Rest (Breaks BadCount ready.placed.line)
    skip_fails e = skips ∙ ap (λ q. did ready.placed.line q (λ bytes. Sends bytes (core_at (c.place + 1) one.below c.frames c.store))) e

    pub skip_sends : (bytes : List ℕ) → empty_lines (Whole n) ≡ Ok bytes → IsSending here s (r.Skip count) w c ready bytes
    skip_sends bytes e = record {
      core = core_at (c.place + 1) one.below c.frames c.store;
      sends = skips ∙ ap (λ q. did ready.placed.line q (λ bytes. Sends bytes (core_at (c.place + 1) one.below c.frames c.store))) e;
      input = refl;
    }

    pub skip_on : (bytes : List ℕ) → empty_lines (Whole n) ≡ Ok bytes → IsSendingOn here s (r.Skip count) w c ready bytes s (record { place = here.place + 1; frame = here.frame })
    unfolding skip_sends
    skip_on bytes e = record {
      sending = skip_sends bytes e;
      holds = subst (λ p. IsHeld w (core_at (c.place + 1) one.below c.frames c.store) (record { place = p; frame = here.frame }) s) (ap (λ p. p + 1) (sym ready.holds.place))
          (goes_with w c here s (r.Skip count) ready (c.place + 1) one.below
          (cells_held (site w c here s (r.Skip count) ready) (located w c here s (r.Skip count) ready) (c.place + 1) one.below one.cells));
    }

-- how many empty lines a number asks for
pub few_lines : (n : ℤ) (k : ℕ) → n ≡ pos k → k ≤ 1000 → empty_lines (Whole n) ≡ Ok (replicate k line_end)
few_lines n k e le =
    let not : nat_lt 1000 k ≡ false = le-ltb 1000 k le in
    ap (λ m. empty_lines (Whole m)) e ∙ ap (λ b. unless_fault b BadCount (Ok (replicate k line_end))) not

pub bad_lines : (n : ℤ) → (int_lt n (pos 0) || int_lt (pos 1000) n) ≡ true → empty_lines (Whole n) ≡ Err (Fails BadCount)
bad_lines (pos k) e =
    let none : nat_lt k 0 ≡ false = le-ltb k 0 (omega arith) in
    let many : nat_lt 1000 k ≡ true = sym (ap (λ b. b || nat_lt 1000 k) none) ∙ e in
    ap (λ b. unless_fault b BadCount (Ok (replicate k line_end))) many
bad_lines (negsuc k) e = refl

-- ## Stops

-- lines that were not all sent
pub unsent : (P : Compiled → Type 0) (here : Here) (old : State) (i : Running) (before after : Option (List ℕ)) (e : Ending) (new : State) (result : Option Here) → IsUnsent e → HasWrittenPart P here old i before after → (e ≡ NoOutput → HasWrittenLess P here old i before after) → new ≡ stopped e old → result ≡ None → HasWritten P here old i before after new result
unsent P here old i before after e new result un part less is none =
    subst (λ o. HasWritten P here old i before after new o) (sym none)
    (subst (λ n. HasStoppedWriting P here old i before after n n.ending) (sym is) (by e un less))
  where
    by : (e : Ending) → IsUnsent e → (e ≡ NoOutput → HasWrittenLess P here old i before after) → HasStoppedWriting P here old i before after (stopped e old) e
    by NoMemory u less_so = part
    by NoOutput u less_so = less_so refl
    by Ended u less_so = absurd u
    by Paused u less_so = absurd u
    by Faulted u less_so = absurd u
    by NoInput u less_so = absurd u

-- lines of which the writer did not take all
pub unwritten : (P : Compiled → Type 0) (here : Here) (old : State) (i : Running) (before after : Option (List ℕ)) (e : Ending) (new : State) (result : Option Here) → e ≡ NoOutput → HasWrittenLess P here old i before after → new ≡ stopped e old → result ≡ None → HasWritten P here old i before after new result
unwritten P here old i before after e new result failed less is none =
    subst (λ o. HasWritten P here old i before after new o) (sym none)
    (subst (λ (n : State). HasStoppedWriting P here old i before after n n.ending) (sym (is ∙ ap (λ (k : Ending). stopped k old) failed)) less)
