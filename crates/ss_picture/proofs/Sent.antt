-- Laws of what a sink sends.
use Rattle.std.proofs.Common.{◌≡◌, ℕ, ◌+◌, ◌-◌, ◌^◌, ◌<◌, ◌≤◌, min, List, [], ◌++◌, length, take, drop, sym, ap, ◌∙◌, subst, arith, Option, None, Some}
use Rattle.std.proofs.lemmas.List.{append_assoc, append-nil, length-take-le, length-drop}
use Rattle.std.proofs.Math.Seq.{take-add}
use Rattle.std.specs.Io.KnownBytes.{Appends}
use Rattle.ss_picture.specs.Sending.{SinkState, HasSent}

-- known bytes that stay have nothing appended
pub appends_nothing : (known : Option (List ℕ)) → Appends known known []
appends_nothing None = tt
appends_nothing (Some bytes) = sym (append-nil bytes)

-- what is appended in two steps is appended
pub appends_more : (first second third : Option (List ℕ)) (some more : List ℕ)
    → Appends first second some → Appends second third more → Appends first third (some ++ more)
appends_more None second third some more a b = tt
appends_more (Some bytes) None third some more a b = absurd a
appends_more (Some bytes) (Some bytes') None some more a b = absurd b
appends_more (Some bytes) (Some bytes') (Some bytes'') some more a b =
    b ∙ ap (λ list. list ++ more) a ∙ append_assoc bytes some more

-- nothing is sent where nothing is done
pub sends_nothing : {W : Type 0} (contents : W → Option (List ℕ)) (state : SinkState W) → state.sent < 2 ^ 128 → HasSent contents state state []
sends_nothing contents state small = record { took = appends_nothing (contents state.writer); counted = omega arith }

-- what is sent in two steps is sent
pub sends_more : {W : Type 0} (contents : W → Option (List ℕ)) (first second third : SinkState W) (bytes rest : List ℕ) (at count : ℕ)
    → HasSent contents first second (take at bytes) → at < length bytes → rest ≡ drop at bytes → count ≤ length rest
    → Appends (contents second.writer) (contents third.writer) (take count rest)
    → third.sent ≡ min (second.sent + count) (2 ^ 128 - 1)
    → HasSent contents first third (take (at + count) bytes)
sends_more contents first second third bytes rest at count before inside rest_is within took counted = record {
  took =
      let joined : take at bytes ++ take count rest ≡ take (at + count) bytes =
      ap (λ list. take at bytes ++ take count list) rest_is ∙ sym (take-add at count bytes)
      in
      subst (Appends (contents first.writer) (contents third.writer)) joined
      (appends_more (contents first.writer) (contents second.writer) (contents third.writer) (take at bytes) (take count rest) before.took took);
  counted =
      let so_far : length (take at bytes) ≡ at = length-take-le at bytes (omega arith) in
      let left : length rest ≡ length bytes - at = ap length rest_is ∙ length-drop at bytes in
      let in_all : length (take (at + count) bytes) ≡ at + count = length-take-le (at + count) bytes (omega arith) in
      let counted_before : second.sent ≡ min (first.sent + length (take at bytes)) (2 ^ 128 - 1) = before.counted in
      omega (arith, counted, counted_before, so_far, in_all);
}
