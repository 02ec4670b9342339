-- The two words of a value, as they are written and read.
use Rattle.std.proofs.Common.{◌≡◌, ℕ, ◌+◌, sym, ap, ◌∙◌, arith}
use Rattle.std.specs.Prelude.{ℤ}
use Rattle.std.specs.Int.{cast_signed}
use mir.Syntax.{w64}
use denote.RawPtr.{Ptr}
use Rattle.ss_records_words.proofs.Common.{IsValuePut, put_other, Whole}
use Rattle.ss_records_blocks.specs.Cells.{number, Cells, IsNumber, word_at, put_word}
use Rattle.ss_records_blocks.proofs.Numbers.{is_number, put_seen}

-- a whole number leaves the second word
pub whole_put : (cs ds : Cells) (p : Ptr) (k w : ℕ) (n : ℤ) → cast_signed w64 w ≡ n → IsNumber (word_at cs p (k + 1)) → ds ≡ put_word cs p k (number w) → IsValuePut cs ds p k (Whole n)
whole_put cs ds p k w n e second h =
    let s = is_number (word_at cs p (k + 1)) second in
    let es : Cells = put_word cs p k (number w) in
    let next : word_at es p (k + 1) ≡ number s.0 = put_other cs p k (number w) p (k + 1) (λ _ z. absurd (omega (arith, z))) ∙ s.1 in
    record { first = w; second = s.0; value = ap (λ (z : ℤ). Whole z) e; cells = h ∙ sym (put_seen es p (k + 1) (number s.0) next) }
