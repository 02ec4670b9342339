-- Names that are short enough to be spellings.
use Rattle.std.proofs.Common.{◌≡◌, ℕ, Bool, true, false, nat_le, nat_lt, List, [], length, get_or, Option, Some, None, refl, sym, ap, ◌∙◌, true≢false, arith}
use Rattle.std.specs.Prelude.{if◌then◌else◌}
use Rattle.ss_names.proofs.Common.{keys_of, NameBytes, place_in, same_name}
use Rattle.std.specs.Cmp.Lexicographic.{bytes_decides}
use Rattle.std.proofs.lemmas.Bool.Decides.{nat_tests}
use Rattle.std.proofs.lemmas.List.Folds.{list_all_at}
use Rattle.std.proofs.lemmas.List.Quantifiers.{position-Some}
use Rattle.ss_base.specs.Spellings.{are_short, spelling_of}

pub longer_absent : {V : Type 0} (entries : List (NameBytes × V)) (bytes : NameBytes) → nat_lt 34 (length bytes) ≡ true → are_short (keys_of entries) ≡ true → place_in entries bytes ≡ None
longer_absent entries bytes h s = by (place_in entries bytes) refl
  where
    by : (o : Option ℕ) → place_in entries bytes ≡ o → place_in entries bytes ≡ None
    by None e = e
    by (Some k) e =
        let names = keys_of entries in
        let at = position-Some (same_name bytes) names k [] e in
        let same : length bytes ≡ length (get_or names k []) = ap length ((bytes_decides bytes (get_or names k [])).0 at.1) in
        let long : nat_le (length (get_or names k [])) 34 ≡ false = grind (arith, nat_tests, same, h) in
        absurd (true≢false (sym s ∙ list_all_at (λ name. nat_le (length name) 34) names k [] at.0 long))

refused : (bytes : NameBytes) (b : Bool) → (if b then None else Some bytes) ≡ None → b ≡ true
refused bytes true h = refl
refused bytes false h = absurd cc

-- a name without a spelling is longer
pub no_spelling : (bytes : NameBytes) → spelling_of bytes ≡ None → nat_lt 34 (length bytes) ≡ true
no_spelling bytes h = refused bytes (nat_lt 34 (length bytes)) h
