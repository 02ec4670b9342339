-- Pieces of code that suit their places, one after another.
use Rattle.std.proofs.Common.{◌≡◌, ℕ, ◌+◌, ◌-◌, true, List, [], ◌∷◌, ◌++◌, length, Some, refl, subst, arith, length-append}
use Rattle.ss_code_instructions.proofs.Common.{AreFoundAt, Code, is_due, IsDueAt, IsSuited, Mode, Placed, Program, slice_get}
use Rattle.ss_code_instructions.proofs.Steps.{HasAt, has_front, has_back, EachAt, each_append}

module _ (p : Program) (code : Code) where
  -- ## Instructions that suit their places

  abbrev pub SuitsAt : ℕ → Placed → Type 0
  SuitsAt q x = IsSuited p code q x.locals x.cells x.instruction

  -- each instruction of a piece that begins here suits its place
  abbrev pub AllSuit : ℕ → List Placed → Type 0
  AllSuit q c = EachAt SuitsAt q c

  -- what an instruction finds is found at its place
  pub own : {q : ℕ} {x : Placed} → slice_get code.places q ≡ Some x → AreFoundAt p code q x.locals x.cells
  own {x = x} e = record { placed = x; there = e; locals = refl; cells = refl }

  pub moved : {q r : ℕ} {ls ms : List Mode} → q ≡ r → AreFoundAt p code q ls ms → AreFoundAt p code r ls ms
  moved {ls = ls} {ms = ms} e a = subst (λ j. AreFoundAt p code j ls ms) e a

  -- ## Pieces

  -- wherever a piece lies: if this is so after it, then each of its instructions suits its place, and that is so where it begins
  pub record Shapes (before : ℕ → Type 0) (c : List Placed) (after : ℕ → Type 0) : Type 0 where
    pub by : (q : ℕ) → HasAt code.places q c → after (q + length c) → AllSuit q c × before q

  -- no instruction
  pub none : (after : ℕ → Type 0) → Shapes after [] after
  none after = record { by = λ q has end. let e : q + 0 ≡ q = omega arith in (tt, subst after e end) }

  -- one instruction
  pub one : (after : ℕ → Type 0) (x : Placed) → ((q : ℕ) → after (q + 1) → IsSuited p code q x.locals x.cells x.instruction) → Shapes (λ q. AreFoundAt p code q x.locals x.cells) (x ∷ []) after
  one after x suits = record { by = λ q has end. ((suits q end, tt), own has.0) }

  -- an instruction before a piece
  pub put_before : (start after : ℕ → Type 0) (x : Placed) (c : List Placed) → ((q : ℕ) → start (q + 1) → after (q + 1 + length c) → IsSuited p code q x.locals x.cells x.instruction) → Shapes start c after → Shapes (λ q. AreFoundAt p code q x.locals x.cells × start (q + 1)) (x ∷ c) after
  put_before start after x c suits r = record {
    by = λ q has end.
        let len : q + length (x ∷ c) ≡ q + 1 + length c = omega arith in
        let end' = subst after len end in
        let b = r.by (q + 1) has.1 end' in
        ((suits q b.1 end', b.0), (own has.0, b.1));
  }

  -- what else is so where a piece begins
  pub lead : (before before' after : ℕ → Type 0) (c : List Placed) → ((q : ℕ) → before q → after (q + length c) → before' q) → Shapes before c after → Shapes before' c after
  lead before before' after c f r = record { by = λ q has end. let b = r.by q has end in (b.0, f q b.1 end) }

  -- what else is so after it
  pub ending : (before after after' : ℕ → Type 0) (c : List Placed) → ((q : ℕ) → after' q → after q) → Shapes before c after → Shapes before c after'
  ending before after after' c f r = record { by = λ q has end. r.by q has (f (q + length c) end) }

  -- what is so after a piece, and is not needed for it, can be said where it begins
  pub keep : (before after more : ℕ → Type 0) (c : List Placed) → Shapes before c after → Shapes (λ q. before q × more (q + length c)) c (λ q. after q × more q)
  keep before after more c r = record { by = λ q has end. let b = r.by q has end.0 in (b.0, (b.1, end.1)) }

  -- an instruction that takes a tick, before a piece that jumps back to it
  pub looped : (start after : ℕ → Type 0) (x : Placed) (c : List Placed) (k : ℕ) → k ≡ length c → is_due x.instruction ≡ true → ((q : ℕ) → start (q + 1) → IsSuited p code q x.locals x.cells x.instruction) → Shapes start c (λ q. after q × IsDueAt p code (q - (k + 1)) x.locals x.cells) → Shapes (λ q. AreFoundAt p code q x.locals x.cells) (x ∷ c) after
  looped start after x c k long ticks suits r = record {
    by = λ q has end.
        let len : q + length (x ∷ c) ≡ q + 1 + length c = omega arith in
        let back : q ≡ (q + 1 + length c) - (k + 1) = omega (arith, long) in
        let due : IsDueAt p code q x.locals x.cells = record { at = record { placed = x; there = has.0; locals = refl; cells = refl }; due = ticks } in
        let b = r.by (q + 1) has.1 (subst after len end, subst (λ j. IsDueAt p code j x.locals x.cells) back due) in
        ((suits q b.1, b.0), own has.0);
  }

-- one piece after another
pub seq : {p : Program} {code : Code} {before mid after : ℕ → Type 0} {c d : List Placed} → Shapes p code before c mid → Shapes p code mid d after → Shapes p code before (c ++ d) after
seq {p = p} {code = code} {after = after} {c = c} {d = d} r t = record {
  by = λ q has end.
      let len : q + length (c ++ d) ≡ q + length c + length d = omega (arith, length-append c d) in
      let b = t.by (q + length c) (has_back code.places q c d has) (subst after len end) in
      let a = r.by q (has_front code.places q c d has) b.1 in
      (each_append (SuitsAt p code) q c d a.0 b.0, a.1);
}
