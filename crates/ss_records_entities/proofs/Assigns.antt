-- A value or a time that is written.
use Rattle.std.proofs.Common.{◌≡◌, ℕ, zero, suc, ◌+◌, ◌*◌, ◌-◌, ◌<◌, ◌≤◌, true, cond, List, [], ◌∷◌, map, length, slice_get, slice_index_or, slice_set, Some, Ok, Err, inl, inr, refl, sym, ap, subst, ◌∙◌, arith}
use Rattle.std.specs.Prelude.{Result, Bool, false, ℤ, pos}
use Rattle.ss_records_entities.specs.Parts.{IsNoticePlace}
use Rattle.ss_records_entities.proofs.Common.{IsEntityPlace, IsKept, places, Records, state, AreFormed, ArePartsKept, BlockPlace, by_same, cast_signed, Cells, class_at_place, ClassKind, ClassLayout, Directory, FaultKind, get_inside, IsListedAt, IsNumber, IsPermanent, IsWrittenAt, Layout, length-with_word, links_start, MayBeNumber, Mode, mode_of, Notice, number, Permanent, put_word, state_of, Temporary, Value, values_end, Whole, with_word, Word, word_at, word_of, words_at, WrongClass}
use mir.Syntax.{w64}
use Rattle.std.proofs.Common.{option_map}
use Rattle.std.proofs.lemmas.Option.{slice_get-map}
use Rattle.ss_records_words.specs.Reading.{class_in_words, IsValuePut, plain, record_at, record_of, records_at, value_at, value_of_words, put_two}
use Rattle.ss_world.specs.State.{and_then, entity_in, is_notice, kind_of, modes_of, number_in, numbered_record, Record, State, value_in, of_notice, notice, time_in, kind_in, record_with_value, with_time, with_indexed, with_entity, with_entity_of_kind, assigned, timed}
use Rattle.ss_records_blocks.proofs.Puts.{word_other, word_here, words_written, written_put, written_twice}
use Rattle.ss_records_blocks.proofs.WordKinds.{number_may}
use Rattle.ss_records_entities.proofs.ReadWords.{read_as, with_two, two_first, two_second, two_other, value_read, record_value, record_time}
use Rattle.ss_records_entities.proofs.Apart.{entity_is}
use Rattle.ss_records_entities.proofs.Keeps.{kept_written, records_written, permanents_same, records_same, permanents_written}

with_numbered : (s : State) (k : ClassKind) (c n : ℕ) (r : Record) → (IsPermanent k → ⊥) → with_entity_of_kind s k c n r ≡ record s { records = slice_set s.records (n - 1) (Some r) }
with_numbered s Permanent c n r h = absurd (h tt)
with_numbered s Temporary c n r h = refl
with_numbered s Notice c n r h = refl

with_permanent : (s : State) (k : ClassKind) (c n : ℕ) (r : Record) → IsPermanent k → with_entity_of_kind s k c n r ≡ record s { permanents = slice_set s.permanents c (with_indexed (slice_get s.permanents c) n r) }
with_permanent s Permanent c n r h = refl
with_permanent s Temporary c n r h = absurd h
with_permanent s Notice c n r h = absurd h

-- a block has room for its head
pub head_room : (l : Layout) (c n : ℕ) (ws : List Word) → AreFormed l c n ws → links_start l c ≤ length ws
head_room l c n ws f = omega (arith, f.size)

-- the block with a number written in its head
pub formed_put : (l : Layout) (c n : ℕ) (ws : List Word) (k w : ℕ) → AreFormed l c n ws → 2 ≤ k → k < links_start l c → AreFormed l c n (with_word ws k (number w))
formed_put l c n ws k w f low high = record {
  size = length-with_word ws k (number w) ∙ f.size;
  class = word_other ws k (number w) 0 (λ e. absurd (omega (arith, e, low))) ∙ f.class;
  number = word_other ws k (number w) 1 (λ e. absurd (omega (arith, e, low))) ∙ f.number;
  values = λ j h. by_same k j
      (λ e q. subst IsNumber (sym (subst (λ i. word_of (with_word ws k (number w)) i ≡ number w) q (word_here ws k (number w) (omega (arith, high, head_room l c n ws f))))) tt)
      (λ e q. subst IsNumber (sym (word_other ws k (number w) j q)) (f.values j h));
}

-- a class of notices is a class of the layout
pub notice_inside : (cl : List ClassLayout) (c : ℕ) → is_notice (kind_in (slice_get cl c)) ≡ true → c < length cl
notice_inside [] c h = cc
notice_inside (k ∷ ks) zero h = omega arith
notice_inside (k ∷ ks) (suc c) h = omega (arith, notice_inside ks c h)

-- the head of the block of the entity n at p has changed: the words of the block are us
record Headed (l : Layout) (cs ds : Cells) (p : BlockPlace) (n : ℕ) (us : List Word) : Type 0 where
  pub words : words_at ds p.at ≡ us
  pub written : IsWrittenAt cs ds p.at
  pub its_class : word_of us 0 ≡ word_at cs p.at 0
  pub formed : AreFormed l (class_at_place cs p) n us
  pub links : (j : ℕ) → links_start l (class_at_place cs p) ≤ j → word_of us j ≡ word_at cs p.at j

module _ (r : Records) (K : IsKept r) where
  abbrev l : Layout
  l = r.layout

  abbrev cs : Cells
  cs = r.blocks.cells

  abbrev d : Directory
  d = places r

  abbrev st : State
  st = state r

  module _ (i : ℕ) (p : BlockPlace) (g : IsListedAt d i p) where
    module _ (ds : Cells) (us : List Word) (h : Headed l cs ds p (suc i) us) where
      class_put : class_at_place ds p ≡ class_at_place cs p
      class_put = ap class_in_words h.words ∙ ap plain h.its_class

      form_put : AreFormed l (class_at_place cs p) (suc i) (words_at ds p.at)
      form_put = subst (λ vs. AreFormed l (class_at_place cs p) (suc i) vs) (sym h.words) h.formed

      links_put : (j : ℕ) → links_start l (class_at_place cs p) ≤ j → word_at ds p.at j ≡ word_at cs p.at j
      links_put j a = ap (λ vs. word_of vs j) h.words ∙ h.links j a

      kept_put : ArePartsKept l ds r.system.at d r.notes.lists
      kept_put = kept_written l cs r.system.at d r.notes.lists K ds i p g h.written class_put form_put links_put

      module _ (v : Record) (e : read_as l (class_at_place cs p) us ≡ v) where
        read_put : record_of l (words_at ds p.at) ≡ v
        read_put = (λ t. read_as l (class_put t) (h.words t)) ∙ e

        state_put : slice_get d.numbers i ≡ Some (Some p) → state_of l ds d r.notes.lists ≡ record st { records = slice_set (map (record_at l cs) d.numbers) i (Some v) }
        state_put m =
            let one = records_written l cs r.system.at d r.notes.lists K ds i p g h.written class_put form_put links_put m (Some v) (ap Some read_put) in
            let two = permanents_same l cs r.system.at d r.notes.lists K ds i p g h.written class_put form_put links_put m in
            λ t. record st { records = one t; permanents = two t }

        state_made : (c : ℕ) (ps : List BlockPlace) → slice_get d.classes c ≡ Some (Some ps) → slice_get ps i ≡ Some p
            → state_of l ds d r.notes.lists ≡ record st { permanents = slice_set (map (records_at l cs) d.classes) c (Some (slice_set (map (λ (q : BlockPlace). record_of l (words_at cs q.at)) ps) i v)) }
        state_made c ps m x =
            let one = records_same l cs r.system.at d r.notes.lists K ds i p g h.written class_put form_put links_put c ps m x in
            let two = permanents_written l cs r.system.at d r.notes.lists K ds i p g h.written class_put form_put links_put c ps m x v read_put in
            λ t. record st { records = one t; permanents = two t }

    -- the number k of the head of the block is written
    module _ (k w : ℕ) (low : 2 ≤ k) (high : k < links_start l (class_at_place cs p)) where
      may_put : (k < length (words_at cs p.at)) × MayBeNumber (word_at cs p.at k)
      may_put = let f = K.formed i p g in (omega (arith, high, head_room l (class_at_place cs p) (suc i) (words_at cs p.at) f), number_may (word_at cs p.at k) (f.values k high))

      one_put : Headed l cs (put_word cs p.at k (number w)) p (suc i) (with_word (words_at cs p.at) k (number w))
      one_put = record {
        words = words_written cs p.at k (number w);
        written = written_put cs p.at k (number w);
        its_class = word_other (words_at cs p.at) k (number w) 0 (λ e. absurd (omega (arith, e, low)));
        formed = formed_put l (class_at_place cs p) (suc i) (words_at cs p.at) k w (K.formed i p g) low high;
        links = λ j a. word_other (words_at cs p.at) k (number w) j (λ z. absurd (omega (arith, a, high, z)));
      }

    -- the numbers k and k + 1 are
    module _ (k a b : ℕ) (low : 2 ≤ k) (high : k + 1 < links_start l (class_at_place cs p)) where
      two_put : Headed l cs (put_two cs p.at k a b) p (suc i) (with_two (words_at cs p.at) k a b)
      two_put = record {
        words = words_written (put_word cs p.at k (number a)) p.at (k + 1) (number b) ∙ ap (λ ws. with_word ws (k + 1) (number b)) (words_written cs p.at k (number a));
        written = written_twice cs (put_word cs p.at k (number a)) (put_two cs p.at k a b) p.at (written_put cs p.at k (number a)) (written_put (put_word cs p.at k (number a)) p.at (k + 1) (number b));
        its_class = two_other (words_at cs p.at) k a b 0 (λ e. absurd (omega (arith, e, low))) (λ e. absurd (omega (arith, e, low)));
        formed = formed_put l (class_at_place cs p) (suc i) (with_word (words_at cs p.at) k (number a)) (k + 1) b (formed_put l (class_at_place cs p) (suc i) (words_at cs p.at) k a (K.formed i p g) low (omega (arith, high))) (omega (arith, low)) high;
        links = λ j x. two_other (words_at cs p.at) k a b j (λ z. absurd (omega (arith, x, high, z))) (λ z. absurd (omega (arith, x, high, z)));
      }

  -- the attribute f of what was found at p, whose words begin at k
  module _ (c : ℕ) (x : ℤ) (p : BlockPlace) (e : IsEntityPlace r c x p) (f k : ℕ) (start : k ≡ 2 + 2 * f) where
    module _ (m : Mode) (mode : slice_get (modes_of l c) f ≡ Some m) where
      field_in : k + 1 < links_start l (class_at_place cs p)
      field_in = rw e.class (omega (arith, start, get_inside (modes_of l c) f m mode))

      pub found_first : IsNumber (word_at cs p.at k)
      found_first = (K.formed e.index p e.entry).values k (omega (arith, field_in))

      pub found_second : IsNumber (word_at cs p.at (k + 1))
      found_second = (K.formed e.index p e.entry).values (k + 1) field_in

      pub found_value : value_in st c f x ≡ Ok (value_at m cs p.at k)
      found_value =
          ap (λ z. and_then z (λ z. Ok (slice_index_or z.values f (Whole (pos 0))))) e.entity
          ∙ ap Ok (value_read (modes_of l (class_at_place cs p)) (words_at cs p.at) 2 f m (Whole (pos 0)) (subst (λ b. slice_get (modes_of l b) f ≡ Some m) (sym e.class) mode) ∙ (λ t. value_at m cs p.at (sym start t)))

    module _ (v : Value) (mode : slice_get (modes_of l c) f ≡ Some (mode_of v)) (ds : Cells) (w : IsValuePut cs ds p.at k v) where
      abbrev new : Record
      new = record_with_value (record_of l (words_at cs p.at)) f v

      abbrev us : List Word
      us = with_two (words_at cs p.at) k w.first w.second

      value_put : Headed l cs ds p (suc e.index) us
      value_put = subst (λ (z : Cells). Headed l cs z p (suc e.index) us) (sym w.cells) (two_put e.index p e.entry k w.first w.second (omega (arith, start)) (field_in (mode_of v) mode))

      pub found_kept : ArePartsKept l ds r.system.at d r.notes.lists
      found_kept = kept_put e.index p e.entry ds us value_put

      pub found_length : length ds ≡ length cs
      found_length = value_put.written.count

      pub found_assigned : assigned st c f x v ≡ Ok (state_of l ds d r.notes.lists)
      found_assigned =
          let ws = words_at cs p.at in
          let room : k + 1 < length ws = omega (arith, field_in (mode_of v) mode, head_room l (class_at_place cs p) (suc e.index) ws (K.formed e.index p e.entry)) in
          let value : read_as l (class_at_place cs p) us ≡ new =
          record_value l (class_at_place cs p) ws f k w.first w.second (mode_of v) v start (subst (λ b. slice_get (modes_of l b) f ≡ Some (mode_of v)) (sym e.class) mode) w.value room (subst (λ b. f < length (modes_of l b)) (sym e.class) (get_inside (modes_of l c) f (mode_of v) mode)) in
          let n : number_in x - 1 ≡ e.index = ap (λ y. number_in y - 1) e.is ∙ omega arith in
          ap (λ z. and_then z (λ z. Ok (with_entity st c (number_in x) (record_with_value z f v)))) e.entity ∙ ap Ok (by_entry value n e.entry) where
            by_entry : read_as l (class_at_place cs p) us ≡ new → number_in x - 1 ≡ e.index → IsListedAt d e.index p → with_entity st c (number_in x) new ≡ state_of l ds d r.notes.lists
            by_entry value n (inl m) =
                with_numbered st (kind_of l c) c (number_in x) new (subst (λ b. IsPermanent (kind_of l b) → ⊥) e.class (K.kinds e.index p m))
                ∙ ap (λ j. record st { records = slice_set (map (record_at l cs) d.numbers) j (Some new) }) n
                ∙ sym (state_put e.index p e.entry ds us value_put new value m)
            by_entry value n (inr (b, ps, m, h)) =
                let y = K.made b ps m in let same : b ≡ c = sym (y.class e.index p h) ∙ e.class in
                let row = slice_get-map (records_at l cs) d.classes c ∙ ap (option_map (records_at l cs)) (subst (λ a. slice_get d.classes a ≡ Some (Some ps)) same m) in
                with_permanent st (kind_of l c) c (number_in x) new (subst (λ a. IsPermanent (kind_of l a)) same y.permanent)
                ∙ ap (λ o. record st { permanents = slice_set (map (records_at l cs) d.classes) c (with_indexed o (number_in x) new) }) row
                ∙ ap (λ j. record st { permanents = slice_set (map (records_at l cs) d.classes) c (Some (slice_set (map (λ (q : BlockPlace). record_of l (words_at cs q.at)) ps) j new)) }) n
                ∙ sym (state_made e.index p e.entry ds us value_put new value c ps (subst (λ a. slice_get d.classes a ≡ Some (Some ps)) same m) h)

      -- it is the value then
      pub found_reads : value_in (state_of l ds d r.notes.lists) c f x ≡ Ok v
      found_reads =
          let ws = words_at cs p.at in
          let room : k + 1 < length ws = omega (arith, field_in (mode_of v) mode, head_room l (class_at_place cs p) (suc e.index) ws (K.formed e.index p e.entry)) in
          let class : class_at_place ds p ≡ c = class_put e.index p e.entry ds us value_put ∙ e.class in
          let there : entity_in (state_of l ds d r.notes.lists) c x ≡ Ok (record_of l (words_at ds p.at)) = ap (entity_in (state_of l ds d r.notes.lists) c) e.is ∙ entity_is l ds r.system.at d r.notes.lists found_kept c (suc e.index) e.index p refl class e.entry in
          let a : word_of (words_at ds p.at) k ≡ number w.first = ap (λ vs. word_of vs k) value_put.words ∙ two_first ws k w.first w.second room in
          let b : word_of (words_at ds p.at) (k + 1) ≡ number w.second = ap (λ vs. word_of vs (k + 1)) value_put.words ∙ two_second ws k w.first w.second room in
          let read : value_at (mode_of v) ds p.at k ≡ v = (λ t. value_of_words (mode_of v) (plain (a t)) (plain (b t))) ∙ w.value in
          ap (λ z. and_then z (λ z. Ok (slice_index_or z.values f (Whole (pos 0))))) there
          ∙ ap Ok (value_read (modes_of l (class_at_place ds p)) (words_at ds p.at) 2 f (mode_of v) (Whole (pos 0)) (subst (λ b. slice_get (modes_of l b) f ≡ Some (mode_of v)) (sym class) mode) ∙ (λ t. value_at (mode_of v) ds p.at (sym start t)) ∙ read)

  -- the time of the notice that was found at p
  module _ (x : ℤ) (p : BlockPlace) (e : IsNoticePlace r x p) where
    pub is_timed : is_notice (kind_of l (class_at_place cs p)) ≡ true
    is_timed = notice_kind (numbered_record st x) (record_of l (words_at cs p.at)) e.notice where
      notice_kind : (r : Result Record FaultKind) (t : Record) → and_then r (of_notice l) ≡ Ok t → is_notice (kind_of l t.class) ≡ true
      notice_kind (Err f) t h = cc
      notice_kind (Ok s) t h = by_kind (is_notice (kind_of l s.class)) refl where
        by_kind : (b : Bool) → is_notice (kind_of l s.class) ≡ b → is_notice (kind_of l t.class) ≡ true
        by_kind true i = let q : Ok s ≡ Ok t = sym (rw i refl) ∙ h in let w : s ≡ t = cc in subst (λ (z : Record). is_notice (kind_of l z.class) ≡ true) w i
        by_kind false i = let q : Err WrongClass ≡ Ok t = sym (rw i refl) ∙ h in cc

    time_in_head : values_end l (class_at_place cs p) < links_start l (class_at_place cs p)
    time_in_head = rw is_timed (omega arith)

    pub time_number : IsNumber (word_at cs p.at (values_end l (class_at_place cs p)))
    time_number = (K.formed e.index p (inl e.entry)).values (values_end l (class_at_place cs p)) time_in_head

    pub is_time : (n : ℕ) → word_at cs p.at (values_end l (class_at_place cs p)) ≡ number n → time_in st x ≡ Ok (cast_signed w64 n)
    is_time n s =
        ap (λ z. and_then z (λ z. Ok z.time)) e.notice
        ∙ ap (λ b. Ok (cond b (cast_signed w64 (plain (word_at cs p.at (values_end l (class_at_place cs p))))) (pos 0))) is_timed ∙ ap (λ w. Ok (cast_signed w64 (plain w))) s

    module _ (w : ℕ) (t : ℤ) (val : cast_signed w64 w ≡ t) where
      abbrev time_words : Cells
      time_words = put_word cs p.at (values_end l (class_at_place cs p)) (number w)

      abbrev time_us : List Word
      time_us = with_word (words_at cs p.at) (values_end l (class_at_place cs p)) (number w)

      time_put : Headed l cs time_words p (suc e.index) time_us
      time_put = one_put e.index p (inl e.entry) (values_end l (class_at_place cs p)) w (omega arith) time_in_head

      pub notice_may : (values_end l (class_at_place cs p) < length (words_at cs p.at)) × MayBeNumber (word_at cs p.at (values_end l (class_at_place cs p)))
      notice_may = may_put e.index p (inl e.entry) (values_end l (class_at_place cs p)) w (omega arith) time_in_head

      pub notice_kept : ArePartsKept l (put_word cs p.at (values_end l (class_at_place cs p)) (number w)) r.system.at d r.notes.lists
      notice_kept = kept_put e.index p (inl e.entry) time_words time_us time_put

      pub notice_length : length (put_word cs p.at (values_end l (class_at_place cs p)) (number w)) ≡ length cs
      notice_length = time_put.written.count

      pub notice_timed : timed st x t ≡ Ok (state_of l (put_word cs p.at (values_end l (class_at_place cs p)) (number w)) d r.notes.lists)
      notice_timed =
          let ws = words_at cs p.at in
          let value : read_as l (class_at_place cs p) (with_word ws (values_end l (class_at_place cs p)) (number w)) ≡ with_time (record_of l ws) t = record_time l (class_at_place cs p) ws w t is_timed val notice_may.0 in
          let n : number_in x - 1 ≡ e.index = ap (λ y. number_in y - 1) e.is ∙ omega arith in
          ap (λ z. and_then z (λ z. Ok (record st { records = slice_set (map (record_at l cs) r.directory.places) (number_in x - 1) (Some (with_time z t)) }))) e.notice
          ∙ ap (λ j. Ok (record st { records = slice_set (map (record_at l cs) r.directory.places) j (Some (with_time (record_of l ws) t)) })) n
          ∙ ap Ok (sym (state_put e.index p (inl e.entry) time_words time_us time_put (with_time (record_of l ws) t) value e.entry))
