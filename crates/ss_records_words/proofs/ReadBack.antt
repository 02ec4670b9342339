-- A text comes out of its words as it went in.
use Rattle.std.proofs.Common.{◌≡◌, ℕ, zero, suc, ◌+◌, ◌-◌, ◌≤◌, ◌<◌, true, List, [], ◌∷◌, ◌++◌, length, get_or, take, drop, refl, sym, subst, T, ◌∙◌, ap, arith, lit<, length-append, length-drop, length-take-le, take-append-drop, take_all, get_or-drop}
use Rattle.std.specs.Prelude.{Some, nat_le, replicate}
use Rattle.ss_records_words.proofs.Common.{Alpha, list_all, Text, value_of_words}
use Rattle.std.specs.Int.{from_be_bytes, to_be_bytes}
use Rattle.std.specs.Option.{unwrap_or}
use Rattle.std.proofs.lemmas.Nat.{be_bytes_8}
use Rattle.std.proofs.lemmas.Bool.{and_parts, le-leb}
use Rattle.std.proofs.lemmas.List.{drop-replicate, length-replicate}
use Rattle.std.proofs.Math.Facts.{leb_yes}
use mir.Syntax.{w64}
use Rattle.ss_base.specs.Values.{text_limit, is_text_byte, text_of, IsText}
use Rattle.ss_base.specs.Room.{before_zero, padded_text}

before_zero-padded : (text : List ℕ) (k : ℕ) → list_all is_text_byte text ≡ true → before_zero (text ++ replicate k 0) ≡ text
before_zero-padded [] zero h = refl
before_zero-padded [] (suc k) h = refl
before_zero-padded (zero ∷ bs) k h = cc
before_zero-padded (suc b ∷ bs) k h =
    let p = and_parts (is_text_byte (suc b)) (list_all is_text_byte bs) h in ap (λ rest. suc b ∷ rest) (before_zero-padded bs k p.1)

zeros_small : (k i : ℕ) → get_or (replicate k 0) i 0 < 256
zeros_small zero i = lit< tt
zeros_small (suc k) zero = lit< tt
zeros_small (suc k) (suc i) = zeros_small k i

small_byte : (b : ℕ) → is_text_byte b ≡ true → b < 256
small_byte b h = let p = and_parts (nat_le 32 b) (nat_le b 126) h in let q : b ≤ 126 = leb_yes {a = b} {b = 126} (subst T (sym p.1) tt) in omega (arith, q)

bytes_small : (text : List ℕ) (k i : ℕ) → list_all is_text_byte text ≡ true → get_or (text ++ replicate k 0) i 0 < 256
bytes_small [] k i h = zeros_small k i
bytes_small (b ∷ bs) k zero h = small_byte b (and_parts (is_text_byte b) (list_all is_text_byte bs) h).0
bytes_small (b ∷ bs) k (suc i) h = bytes_small bs k i (and_parts (is_text_byte b) (list_all is_text_byte bs) h).1

text_again : (t : List ℕ) → IsText t → text_of t ≡ Some t
text_again t h = let small : nat_le (length t) text_limit ≡ true = le-leb (length t) text_limit h.short in rw (h.trimmed, h.printable, small) refl

small_before : (n : ℕ) (xs : List ℕ) → ((i : ℕ) → get_or xs i 0 < 256) → (i : ℕ) → get_or (take n xs) i 0 < 256
small_before zero xs h i = lit< tt
small_before (suc n) [] h i = lit< tt
small_before (suc n) (x ∷ xs) h zero = h zero
small_before (suc n) (x ∷ xs) h (suc i) = small_before n xs (λ j. h (suc j)) i

small_after : (n : ℕ) (xs : List ℕ) → ((i : ℕ) → get_or xs i 0 < 256) → (i : ℕ) → get_or (drop n xs) i 0 < 256
small_after n xs h i = subst (λ b. b < 256) (sym (get_or-drop n xs i 0)) (h (n + i))

-- sixteen bytes come out of the words of their halves
halves_again : (bs : List ℕ) (a b : ℕ) → length bs ≡ 16 → ((i : ℕ) → get_or bs i 0 < 256) → a ≡ from_be_bytes w64 (take 8 bs) → b ≡ from_be_bytes w64 (drop 8 bs) → to_be_bytes w64 a ++ to_be_bytes w64 b ≡ bs
halves_again bs a b l small e f =
    let front : to_be_bytes w64 a ≡ take 8 bs = be_bytes_8 (take 8 bs) a (length-take-le 8 bs (omega (arith, l))) (small_before 8 bs small) e in
    let back : to_be_bytes w64 b ≡ drop 8 bs = be_bytes_8 (drop 8 bs) b (omega (arith, l, length-drop 8 bs)) (small_after 8 bs small) f in
    (λ i. front i ++ back i) ∙ take-append-drop 8 bs

read_back : (t : List ℕ) (a b : ℕ) → IsText t → length (padded_text t) ≡ 16 → a ≡ from_be_bytes w64 (take 8 (padded_text t)) → b ≡ from_be_bytes w64 (drop 8 (padded_text t)) → value_of_words Alpha a b ≡ Text t
read_back t a b h l e f =
    let is : to_be_bytes w64 a ++ to_be_bytes w64 b ≡ padded_text t = halves_again (padded_text t) a b l (λ i. bytes_small t (text_limit - length t) i h.printable) e f in
    ap (λ bs. Text (unwrap_or (text_of (before_zero bs)) [])) is ∙ ap (λ bs. Text (unwrap_or (text_of bs) [])) (before_zero-padded t (text_limit - length t) h.printable) ∙ ap (λ o. Text (unwrap_or o [])) (text_again t h)

pad_length : (t : List ℕ) → length t ≤ text_limit → length (padded_text t) ≡ 16
pad_length t h = omega (arith, h, length-append t (replicate (text_limit - length t) 0), length-replicate {A = ℕ} (text_limit - length t) 0)

room_is : (t bytes copied : List ℕ) → bytes ≡ t → copied ≡ bytes → copied ++ drop (length bytes) (replicate text_limit 0) ≡ padded_text t
room_is t bytes copied is same = rw (same, is, drop-replicate {X = ℕ} (length t) text_limit 0) refl

-- the words of a text that was copied into zeros
pub text_read : (t bytes copied : List ℕ) (a b : ℕ) → IsText t → bytes ≡ t → copied ≡ bytes
    → a ≡ from_be_bytes w64 (take 8 (copied ++ drop (length bytes) (replicate text_limit 0))) → b ≡ from_be_bytes w64 (take 8 (drop 8 (copied ++ drop (length bytes) (replicate text_limit 0)))) → value_of_words Alpha a b ≡ Text t
text_read t bytes copied a b h is same e f =
    let room = room_is t bytes copied is same in
    let all = pad_length t h.short in
    let rest : take 8 (drop 8 (padded_text t)) ≡ drop 8 (padded_text t) = take_all 8 (drop 8 (padded_text t)) (omega (arith, all, length-drop 8 (padded_text t))) in
    read_back t a b h all (e ∙ ap (λ r. from_be_bytes w64 (take 8 r)) room) (f ∙ ap (λ r. from_be_bytes w64 (take 8 (drop 8 r))) room ∙ ap (from_be_bytes w64) rest)
