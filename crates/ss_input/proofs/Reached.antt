-- From bytes that were passed to the words of the input.
use Rattle.std.proofs.Common.{◌≡◌, ℕ, ◌≤◌, Bool, true, false, List, [], ◌∷◌, ◌++◌, length, Option, None, Ok, Err, refl, sym, ap, subst, ◌∙◌, arith}
use Rattle.ss_input.proofs.Common.{append_assoc, BadData, BlockSeen, Consumes, first_input_byte, from_word, HasGivenBytes, HasPassed, HasPassedSome, is_ended, is_separator, is_word_byte, IsGapPassed, IsNextWanted, IsWordPassed, leading_word, length-append, list_all, list_all-append, next_word, no_word, Source}
use Rattle.std.proofs.lemmas.Bool.{not-true, not_from_true}
use Rattle.ss_input.specs.Inputs.{source_block, source_gap, HasReached, IsAhead, HasReadInput, HasFound}
use Rattle.ss_input.proofs.Passages.{consumes_more}
use Rattle.ss_input.proofs.Gaps.{Stops, word_next, too_many, word_is, too_long}

-- where a byte of one kind is next, more bytes don't lengthen a run of the other kind
stops : {R : Type 0} (wanted other : ℕ → Bool) → ((x : ℕ) → wanted x ≡ true → other x ≡ false) → (b : BlockSeen R) (more : List ℕ) → IsNextWanted wanted b → (b.ended ≡ true → more ≡ []) → Stops other (b.left ++ more)
stops wanted other tell b more h e x xs q = by-left b.left refl q where
  by-left : (l : List ℕ) → b.left ≡ l → l ++ more ≡ x ∷ xs → other x ≡ false
  by-left [] i q = let none : [] ≡ x ∷ xs = sym (e (h.at_end i)) ∙ q in absurd cc
  by-left (y ∷ l) i q = let same : y ≡ x = cc in subst (λ z. other z ≡ false) same (tell y (h.before y l i))

-- the bytes buffered before, with those that the reader gave, are those that were passed and those buffered after
shifted : (left got bytes left' more : List ℕ) → left ++ got ≡ bytes ++ left' → left ++ (got ++ more) ≡ bytes ++ (left' ++ more)
shifted left got bytes left' more e = sym (append_assoc left got more) ∙ ap (λ l. l ++ more) e ∙ append_assoc bytes left' more

-- an input, once the separators before its next word were passed
pub record Reached {R : Type 0} (mid : Source R) (more input : List ℕ) : Type 0 where
  pub gap : List ℕ
  pub separators : list_all is_separator gap ≡ true
  pub long : length gap ≡ source_gap mid
  pub input_is : input ≡ gap ++ ((source_block mid).left ++ more)

module _ {R : Type 0} (remaining : R → Option (List ℕ)) where
  passed_so : (old : Source R) (block : BlockSeen R) (count : ℕ) (h : IsGapPassed remaining (source_block old) block (source_gap old) count) (more input : List ℕ) → IsAhead old (h.passes.got ++ more) input
      → (s : List ℕ) × (list_all is_separator s ≡ true) × (length s ≡ count) × (input ≡ s ++ (block.left ++ more))
  passed_so old block count h more input st = (
    st.gap ++ h.bytes,
    list_all-append is_separator st.gap h.bytes ∙ rw (st.separators, h.holds.0) refl,
    length-append st.gap h.bytes ∙ rw st.long h.holds.1,
    st.input_is ∙ ap (λ l. st.gap ++ l) (shifted (source_block old).left h.passes.got h.bytes block.left more h.passes.same) ∙ sym (append_assoc st.gap h.bytes (block.left ++ more)),
  )

  -- too many separators
  pub too_many_found : (old new : Source R) → IsGapPassed remaining (source_block old) (source_block new) (source_gap old) 1048577 → HasFound remaining old new (λ input. from_word input ≡ Err BadData)
  too_many_found old new h = record {
    got = h.passes.got;
    consumed = h.passes.consumed;
    after_end = h.passes.after_end;
    says = λ more input e st.
        let r = passed_so old (source_block new) 1048577 h more input st in
        subst (λ i. from_word i ≡ Err BadData) (sym r.3) (too_many r.0 ((source_block new).left ++ more) r.1 (omega (arith, r.2)));
  }

  -- the input from its next word on
  pub reached_word : (old mid : Source R) (h : HasReached remaining old mid) → source_gap mid ≤ 1048576 → (more input : List ℕ) → ((source_block mid).ended ≡ true → more ≡ []) → IsAhead old (h.passed.passes.got ++ more) input → Reached mid more input × (from_word input ≡ Ok ((source_block mid).left ++ more))
  reached_word old mid h small more input e st =
      let r = passed_so old (source_block mid) (source_gap mid) h.passed more input st in (
        record { gap = r.0; separators = r.1; long = r.2; input_is = r.3 },
        subst (λ i. from_word i ≡ Ok ((source_block mid).left ++ more)) (sym r.3) (word_next r.0 ((source_block mid).left ++ more) r.1 (stops is_word_byte is_separator (λ x w. not-true (is_separator x) w) (source_block mid) more h.next e) (omega (arith, r.2, small))),
      )

  first_none : (l : List ℕ) → first_input_byte l ≡ None → l ≡ []
  first_none [] e = refl
  first_none (x ∷ l) e = absurd cc

  some_left : (l m : List ℕ) → (first_input_byte l ≡ None → ⊥) → l ++ m ≡ [] → ⊥
  some_left [] m h e = h refl
  some_left (x ∷ l) m h e = absurd cc

  -- no word is left
  pub none_found : (old mid : Source R) → HasReached remaining old mid → source_gap mid ≤ 1048576 → first_input_byte (source_block mid).left ≡ None → HasFound remaining old mid (λ input. from_word input ≡ Ok [])
  none_found old mid h small none = record {
    got = h.passed.passes.got;
    consumed = h.passed.passes.consumed;
    after_end = h.passed.passes.after_end;
    says = λ more input e st.
        let left : (source_block mid).left ≡ [] = first_none (source_block mid).left none in
        let nothing : more ≡ [] = e (h.next.at_end left) in
        let r = reached_word old mid h small more input e st in
        r.1 ∙ ap (λ l. Ok (l ++ more)) left ∙ ap Ok nothing;
  }

  module _ (old mid new : Source R) (h : HasReached remaining old mid) (small : source_gap mid ≤ 1048576) (some : first_input_byte (source_block mid).left ≡ None → ⊥) where
    -- the input before a word, where the reader gave some bytes while it was passed
    before_word : (w : List ℕ) (g : HasPassed remaining (source_block mid) (source_block new) w) (more input : List ℕ) → ((source_block new).ended ≡ true → more ≡ []) → IsAhead old ((h.passed.passes.got ++ g.got) ++ more) input → (from_word input ≡ Ok (w ++ ((source_block new).left ++ more))) × (w ++ ((source_block new).left ++ more) ≡ [] → ⊥)
    before_word w g more input e st =
        let mid_end : (source_block mid).ended ≡ true → g.got ++ more ≡ [] = λ m. let v = g.after_end m in ap (λ t. t ++ more) v.0 ∙ e v.1 in
        let st' : IsAhead old (h.passed.passes.got ++ (g.got ++ more)) input = subst (λ l. IsAhead old l input) (append_assoc h.passed.passes.got g.got more) st in
        let r = reached_word old mid h small (g.got ++ more) input mid_end st' in
        let t : (source_block mid).left ++ (g.got ++ more) ≡ w ++ ((source_block new).left ++ more) = shifted (source_block mid).left g.got w (source_block new).left more g.same in
        (r.1 ∙ ap Ok t, λ q. some_left (source_block mid).left (g.got ++ more) some (t ∙ q))

    pub word_found : (w : List ℕ) → IsWordPassed remaining (source_block mid) (source_block new) w → length w ≤ 64 → IsNextWanted is_separator (source_block new) → source_gap new ≡ 0 → HasReadInput remaining old new (λ input rest. next_word input ≡ Ok (record { value = w; rest = rest }))
    word_found w g len before none = record {
      got = h.passed.passes.got ++ g.0.got;
      consumed = consumes_more (remaining (source_block old).reader) (remaining (source_block mid).reader) (remaining (source_block new).reader) h.passed.passes.got g.0.got h.passed.passes.consumed g.0.consumed;
      after_end = λ e. let u = h.passed.passes.after_end e in let v = g.0.after_end u.1 in (ap (λ t. t ++ g.0.got) u.0 ∙ v.0, v.1);
      says = λ more input e st.
          let r = before_word w g.0 more input e st in
          let n : next_word input ≡ Ok (record { value = w; rest = (source_block new).left ++ more }) = ap leading_word r.0 ∙ word_is w ((source_block new).left ++ more) r.1 g.1 (stops is_separator is_word_byte (λ x s. not_from_true (is_separator x) s) (source_block new) more before e) len in
          record {
            rest = (source_block new).left ++ more;
            ahead = record { gap = []; separators = refl; long = sym none; input_is = refl };
            says = n;
          };
    }

    pub too_long_found : (g : HasPassedSome remaining (source_block mid) (source_block new) (λ bytes. (list_all is_word_byte bytes ≡ true) × (length bytes ≡ 65))) → HasFound remaining old new (λ input. next_word input ≡ Err BadData)
    too_long_found g = record {
      got = h.passed.passes.got ++ g.passes.got;
      consumed = consumes_more (remaining (source_block old).reader) (remaining (source_block mid).reader) (remaining (source_block new).reader) h.passed.passes.got g.passes.got h.passed.passes.consumed g.passes.consumed;
      after_end = λ e. let u = h.passed.passes.after_end e in let v = g.passes.after_end u.1 in (ap (λ t. t ++ g.passes.got) u.0 ∙ v.0, v.1);
      says = λ more input e st.
          let r = before_word g.bytes g.passes more input e st in
          ap leading_word r.0 ∙ too_long g.bytes ((source_block new).left ++ more) g.holds.0 (omega (arith, g.holds.1));
    }

  -- where one statement follows from another
  pub finds_so : (old new : Source R) (Says Says' : List ℕ → Type 0) → ((input : List ℕ) → Says input → Says' input) → HasFound remaining old new Says → HasFound remaining old new Says'
  finds_so old new Says Says' so h = record {
    got = h.got;
    consumed = h.consumed;
    after_end = h.after_end;
    says = λ more input e st. so input (h.says more input e st);
  }

  pub reads_so : (old new : Source R) (Says Says' : List ℕ → List ℕ → Type 0) → ((input rest : List ℕ) → Says input rest → Says' input rest) → HasReadInput remaining old new Says → HasReadInput remaining old new Says'
  reads_so old new Says Says' so h = record {
    got = h.got;
    consumed = h.consumed;
    after_end = h.after_end;
    says = λ more input e st. let l = h.says more input e st in record { rest = l.rest; ahead = l.ahead; says = so input l.rest l.says };
  }

  pub reads_finds : (old new : Source R) (Says : List ℕ → List ℕ → Type 0) (Says' : List ℕ → Type 0) → ((input rest : List ℕ) → Says input rest → Says' input) → HasReadInput remaining old new Says → HasFound remaining old new Says'
  reads_finds old new Says Says' so h = record {
    got = h.got;
    consumed = h.consumed;
    after_end = h.after_end;
    says = λ more input e st. let l = h.says more input e st in so input l.rest l.says;
  }

  -- a source that differs only in what it remembers
  pub finds_moved : (old a b : Source R) (Says : List ℕ → Type 0) → source_block a ≡ source_block b → HasFound remaining old a Says → HasFound remaining old b Says
  finds_moved old a b Says block h = record {
    got = h.got;
    consumed = subst (λ k. Consumes (remaining (source_block old).reader) (remaining k.reader) h.got) block h.consumed;
    after_end = λ e. let u = h.after_end e in (u.0, subst (λ k. k.ended ≡ true) block u.1);
    says = λ more input e st. h.says more input (λ q. e (subst (λ k. k.ended ≡ true) block q)) st;
  }

  pub reads_moved : (old a b : Source R) (Says : List ℕ → List ℕ → Type 0) → source_block a ≡ source_block b → source_gap a ≡ source_gap b → HasReadInput remaining old a Says → HasReadInput remaining old b Says
  reads_moved old a b Says block gap h = record {
    got = h.got;
    consumed = subst (λ k. Consumes (remaining (source_block old).reader) (remaining k.reader) h.got) block h.consumed;
    after_end = λ e. let u = h.after_end e in (u.0, subst (λ k. k.ended ≡ true) block u.1);
    says = λ more input e st.
        let l = h.says more input (λ q. e (subst (λ k. k.ended ≡ true) block q)) st in
        record {
          rest = l.rest;
          ahead = record { gap = l.ahead.gap; separators = l.ahead.separators; long = l.ahead.long ∙ gap; input_is = l.ahead.input_is ∙ ap (λ (k : BlockSeen R). l.ahead.gap ++ (k.left ++ more)) block };
          says = l.says;
        };
  }

  -- some bytes were read, and nothing is found
  pub nothing_found : (old a b : Source R) → source_block a ≡ source_block b → HasGivenBytes remaining (source_block old) (source_block a) → HasFound remaining old b (λ input. Unit {0})
  nothing_found old a b block h =
      finds_moved old a b (λ input. Unit {0}) block (record { got = h.got; consumed = h.consumed; after_end = h.after_end; says = λ more input e st. tt })

  no_word_more : (l more : List ℕ) (ended : Bool) → (l ≡ [] → more ≡ []) → no_word (Ok l) ≡ Ok ended → no_word (Ok (l ++ more)) ≡ Ok ended
  no_word_more [] more ended h e = ap (λ m. no_word (Ok m)) (h refl) ∙ e
  no_word_more (x ∷ l) more ended h e = e

  -- whether no word is left
  pub end_found : (old mid : Source R) → HasReached remaining old mid → (ended : Bool) → no_word (Ok (source_block mid).left) ≡ Ok ended → HasReadInput remaining old mid (λ input rest. (rest ≡ input) × (is_ended input ≡ Ok ended))
  end_found old mid h ended is = record {
    got = h.passed.passes.got;
    consumed = h.passed.passes.consumed;
    after_end = h.passed.passes.after_end;
    says = λ more input e st.
        let r = reached_word old mid h h.small more input e st in
        record {
          rest = input;
          ahead = record { gap = r.0.gap; separators = r.0.separators; long = r.0.long; input_is = r.0.input_is };
          says = (refl, ap no_word r.1 ∙ no_word_more (source_block mid).left more ended (λ q. e (h.next.at_end q)) is);
        };
  }
