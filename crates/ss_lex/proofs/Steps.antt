-- The piece at the front of a line.
use Rattle.std.proofs.Common.{◌≡◌, ℕ, suc, ◌+◌, true, false, ◌==◌, List, [], ◌∷◌, length, take, drop, refl, sym, ap, ◌∙◌, arith}
use Rattle.ss_lex.proofs.Common.{drop-drop, is_blank_byte, is_closed, is_word_part, opens_comment, passes_first, text_meaning, without_end_periods, word_meaning}
use Rattle.ss_base.specs.Values.{text_of}
use Rattle.ss_lex.specs.declared.meaning.PieceMeaning.{PieceMeaning}
use Rattle.ss_lex.specs.declared.meaning.PieceMeaning.TheVariants as meanings
use Rattle.ss_lex.specs.declared.meaning.Fault.TheVariants.{OpenText}
use Rattle.ss_lex.specs.Reading.{quotable_length, quoted_at, quote_step_of, run_length, comment_at, piece_at, step_of}
use Rattle.ss_lex.proofs.Cutting.{closed_is, comment_meaning}

pub quote_closed : (bytes body after rest : List ℕ) (n : ℕ) → n ≡ quotable_length bytes → body ≡ take n bytes → after ≡ drop n bytes → passes_first (λ b. b == 34) after ≡ true → rest ≡ drop 1 after → (text_meaning (text_of body) (length body + 2), rest) ≡ quote_step_of bytes
unfolding quote_step_of quoted_at
quote_closed bytes body after rest n m e f t g =
    let closed : is_closed bytes ≡ true = closed_is bytes ∙ (ap (λ k. passes_first (λ b. b == 34) (drop k bytes)) (sym m) ∙ (ap (passes_first (λ b. b == 34)) (sym f) ∙ t)) in
    let b : body ≡ take (quotable_length bytes) bytes = e ∙ ap (λ k. take k bytes) m in
    let r : rest ≡ drop (quotable_length bytes + 1) bytes = g ∙ (ap (drop 1) (f ∙ ap (λ k. drop k bytes) m) ∙ drop-drop 1 (quotable_length bytes) bytes) in
    rw closed (λ i. (text_meaning (text_of (b i)) (length (b i) + 2), r i))

pub quote_open : (bytes after : List ℕ) (n : ℕ) → n ≡ quotable_length bytes → after ≡ drop n bytes → passes_first (λ b. b == 34) after ≡ false → (meanings.Fault OpenText, []) ≡ quote_step_of bytes
unfolding quote_step_of quoted_at
quote_open bytes after n m f t =
    let unclosed : is_closed bytes ≡ false = closed_is bytes ∙ (ap (λ k. passes_first (λ b. b == 34) (drop k bytes)) (sym m) ∙ (ap (passes_first (λ b. b == 34)) (sym f) ∙ t)) in
    rw unclosed refl

pub step_word : (bytes : List ℕ) (b : ℕ) (bs word after : List ℕ) (n : ℕ) → bytes ≡ b ∷ bs → is_blank_byte b ≡ false → is_word_part b ≡ true → n ≡ run_length bs → word ≡ take (n + 1) bytes → after ≡ drop (n + 1) bytes → (word_meaning (without_end_periods word), after) ≡ step_of bytes
unfolding step_of piece_at
step_word bytes b bs word after n e p q m w a =
    let k : n + 1 ≡ suc (run_length bs) = omega arith in
    let w' : word ≡ b ∷ take (run_length bs) bs = w ∙ (λ i. take (k i) (e i)) in
    let a' : after ≡ drop (run_length bs) bs = a ∙ (λ i. drop (k i) (e i)) in
    rw (e, p, q, w', a') refl

pub step_comment : (bytes : List ℕ) (b : ℕ) (bs rest : List ℕ) → bytes ≡ b ∷ bs → is_blank_byte b ≡ false → is_word_part b ≡ false → opens_comment b bs ≡ true → rest ≡ (comment_at (drop 1 bs)).1 → (meanings.Nothing, rest) ≡ step_of bytes
unfolding step_of piece_at
step_comment bytes b bs rest e p q r a =
    let t = comment_meaning (drop 1 bs) in
    rw (e, p, q, r, t, a) refl

pub step_quote : (bytes : List ℕ) (b : ℕ) (bs : List ℕ) (answer : PieceMeaning × List ℕ) → bytes ≡ b ∷ bs → is_blank_byte b ≡ false → is_word_part b ≡ false → opens_comment b bs ≡ false → (b == 34) ≡ true → answer ≡ quote_step_of bs → answer ≡ step_of bytes
unfolding step_of piece_at quote_step_of
step_quote bytes b bs answer e p q r s a = a ∙ rw (e, p, q, r, s) refl
