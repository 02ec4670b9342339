-- The loop over the pictures.
use Rattle.std.proofs.Common.{◌≡◌, ℕ, suc, ◌+◌, ◌-◌, ◌<◌, ◌≤◌, List, [], ◌∷◌, ◌++◌, Result, Ok, Err, refl, sym, ap, ◌∙◌, arith}
use Rattle.ss_parse_statements.proofs.Common.{HasFailedReading, taken, Token}
use Rattle.std.proofs.lemmas.List.{append-nil}
use Rattle.ss_parse_expressions.specs.declared.failure.ParseFault.{ParseFault}
use Rattle.ss_parse_expressions.specs.declared.failure.ParseFailure.{ParseFailure}
use Rattle.ss_parse_expressions.specs.declared.failure.ParseFailure.TheVariants as failures
use Rattle.ss_parse_expressions.proofs.Rows.{with_front, with_front_more}
use Rattle.ss_parse_statements.specs.ReadSimple.{picture_token, pictures_at}

pub picture_grows : (front : List (List ℕ)) (count i : ℕ) (ts : List Token) (p : List ℕ) (left : List Token) (total : Result (List (List ℕ) × List Token) ParseFault) → i < count → taken picture_token ts ≡ Ok (p, left) → with_front front (pictures_at (count - i) ts) ≡ total → with_front (front ++ p ∷ []) (pictures_at (count - (i + 1)) left) ≡ total
unfolding pictures_at
picture_grows front count i ts p left total lt h so_far =
    let k : count - i ≡ suc (count - (i + 1)) = omega arith in
    let one : with_front front (pictures_at (count - i) ts) ≡ with_front (front ++ p ∷ []) (pictures_at (count - (i + 1)) left) = rw (k, h) (sym (with_front_more front p (pictures_at (count - (i + 1)) left))) in
    sym one ∙ so_far

pub picture_breaks : (front : List (List ℕ)) (count i : ℕ) (ts : List Token) (e : ParseFailure) (total : Result (List (List ℕ) × List Token) ParseFault) → i < count → HasFailedReading e (taken picture_token ts) → with_front front (pictures_at (count - i) ts) ≡ total → HasFailedReading e total
unfolding pictures_at
picture_breaks front count i ts failures.Memory total lt h so_far = tt
picture_breaks front count i ts (failures.Refused f left) total lt h so_far =
    let k : count - i ≡ suc (count - (i + 1)) = omega arith in
    let one : with_front front (pictures_at (count - i) ts) ≡ Err f = rw (k, h) refl in
    sym so_far ∙ one

pub pictures_done : (front : List (List ℕ)) (count i : ℕ) (ts : List Token) (total : Result (List (List ℕ) × List Token) ParseFault) → count ≤ i → with_front front (pictures_at (count - i) ts) ≡ total → total ≡ Ok (front, ts)
unfolding pictures_at
pictures_done front count i ts total le so_far =
    let k : count - i ≡ 0 = omega arith in
    let one : with_front front (pictures_at (count - i) ts) ≡ Ok (front, ts) = rw k (ap (λ (ps : List (List ℕ)). Ok (ps, ts)) (append-nil front)) in
    sym so_far ∙ one
