-- Laws of the asterisks and the decimals that bytes begin with, and of the field that they make.
use Rattle.std.proofs.Common.{◌≡◌, ◌≢◌, ℕ, zero, suc, ◌+◌, ◌-◌, ◌<◌, ◌≤◌, Bool, true, false, eqb, cond, List, [], ◌∷◌, ◌++◌, length, get_or, drop, replicate, refl, sym, ap, ◌∙◌, subst, arith, length-append}
use Rattle.std.proofs.lemmas.List.{append_assoc, drop_at, drop-drop, drop_more, length-replicate, length-drop}
use Rattle.std.proofs.lemmas.Bool.{cond_both, eqb-true, ne_eqb}
use Rattle.ss_picture.specs.Pictures.{stars, decimals_at, field_of, leading_field, characters}

-- ---- tests

-- what a test chose that answers more than nothing
pub chosen : (test : Bool) (n more : ℕ) → suc more ≡ cond test n 0 → (test ≡ true) × (suc more ≡ n)
chosen true n more is = (refl, is)
chosen false n more is = absurd (omega arith)

pub chosen_some : (test : Bool) (n : ℕ) → 0 < cond test n 0 → test ≡ true
chosen_some true n some = refl
chosen_some false n some = absurd (omega arith)

-- ---- asterisks

-- an asterisk in front is one more
pub stars_more : (byte : ℕ) (bytes : List ℕ) → byte ≡ 42 → stars (byte ∷ bytes) ≡ suc (stars bytes)
stars_more byte bytes same = ap (λ first. stars (first ∷ bytes)) same

-- another byte has none
pub stars_none : (byte : ℕ) (bytes : List ℕ) → byte ≢ 42 → stars (byte ∷ bytes) ≡ 0
stars_none byte bytes other = ap (λ test. cond test (suc (stars bytes)) 0) (ne_eqb byte 42 other)

-- of a place on
pub stars_more_at : (bytes : List ℕ) (place : ℕ) → place < length bytes → get_or bytes place 0 ≡ 42 → stars (drop place bytes) ≡ suc (stars (drop (place + 1) bytes))
stars_more_at bytes place inside is =
    ap stars (drop_more bytes place 0 inside) ∙ stars_more (get_or bytes place 0) (drop (place + 1) bytes) is

-- a run of asterisks before other bytes
pub stars-replicate : (run : ℕ) (rest : List ℕ) → stars rest ≡ 0 → stars (replicate run 42 ++ rest) ≡ run
stars-replicate zero rest none = none
stars-replicate (suc run) rest none = ap suc (stars-replicate run rest none)

-- bytes are the asterisks that they begin with, and the rest
pub stars_first : (bytes : List ℕ) → replicate (stars bytes) 42 ++ drop (stars bytes) bytes ≡ bytes
stars_first [] = refl
stars_first (byte ∷ bytes) =
    cond_both (eqb byte 42) (suc (stars bytes)) 0 (λ run. replicate run 42 ++ drop run (byte ∷ bytes) ≡ byte ∷ bytes)
    (λ same. ap (λ first. first ∷ (replicate (stars bytes) 42 ++ drop (stars bytes) bytes)) (sym (eqb-true byte 42 same)) ∙ ap (λ rest. byte ∷ rest) (stars_first bytes))
    (λ other. refl)

-- no asterisk follows them
pub stars_last : (bytes : List ℕ) → stars (drop (stars bytes) bytes) ≡ 0
stars_last [] = refl
stars_last (byte ∷ bytes) =
    cond_both (eqb byte 42) (suc (stars bytes)) 0 (λ run. stars (drop run (byte ∷ bytes)) ≡ 0)
    (λ same. stars_last bytes)
    (λ other. ap (λ test. cond test (suc (stars bytes)) 0) other)

pub stars_within : (bytes : List ℕ) → stars bytes ≤ length bytes
stars_within [] = omega arith
stars_within (byte ∷ bytes) =
    let within = stars_within bytes in
    cond_both (eqb byte 42) (suc (stars bytes)) 0 (λ run. run ≤ suc (length bytes)) (λ _. omega arith) (λ _. omega arith)

-- ---- decimals

pub decimals_within : (bytes : List ℕ) → 0 < decimals_at bytes → decimals_at bytes + 1 ≤ length bytes
decimals_within [] = λ some. absurd (omega arith)
decimals_within (byte ∷ bytes) =
    let within = stars_within bytes in
    cond_both (eqb byte 46) (stars bytes) 0 (λ run. 0 < run → run + 1 ≤ suc (length bytes)) (λ _ some. omega arith) (λ _ some. absurd (omega arith))

-- bytes with decimals are a period, these and the rest
pub decimals_first : (bytes : List ℕ) (more : ℕ) → suc more ≡ decimals_at bytes → bytes ≡ 46 ∷ (replicate (suc more) 42 ++ drop (suc (suc more)) bytes)
decimals_first [] more is = absurd (omega arith)
decimals_first (byte ∷ bytes) more is =
    let found = chosen (eqb byte 46) (stars bytes) more is in
    let run : replicate (suc more) 42 ++ drop (suc more) bytes ≡ bytes =
    subst (λ (n : ℕ). replicate n 42 ++ drop n bytes ≡ bytes) (sym found.1) (stars_first bytes)
    in
    ap (λ first. first ∷ bytes) (eqb-true byte 46 found.0) ∙ ap (λ rest. 46 ∷ rest) (sym run)

-- no asterisk follows them
pub decimals_last : (bytes : List ℕ) (more : ℕ) → suc more ≡ decimals_at bytes → stars (drop (suc (suc more)) bytes) ≡ 0
decimals_last [] more is = refl
decimals_last (byte ∷ bytes) more is =
    let found = chosen (eqb byte 46) (stars bytes) more is in
    subst (λ (n : ℕ). stars (drop n bytes) ≡ 0) (sym found.1) (stars_last bytes)

-- ---- fields

-- a field has at least its asterisks
pub width_some : (whole decimals : ℕ) → 0 < whole → 0 < (field_of whole decimals).width
width_some whole zero some = some
width_some whole (suc more) some = omega arith

pub field_some : (bytes : List ℕ) → 0 < stars bytes → 0 < (leading_field bytes).width
field_some bytes some = width_some (stars bytes) (decimals_at (drop (stars bytes) bytes)) some

width_within : (long whole decimals : ℕ) → whole ≤ long → (0 < decimals → whole + (decimals + 1) ≤ long) → (field_of whole decimals).width ≤ long
width_within long whole zero within more_within = within
width_within long whole (suc more) within more_within = let all = more_within (omega arith) in omega arith

-- a field lies within the bytes that begin with it
pub field_within : (bytes : List ℕ) → (leading_field bytes).width ≤ length bytes
field_within bytes =
    let rest : List ℕ = drop (stars bytes) bytes in
    let within = stars_within bytes in
    width_within (length bytes) (stars bytes) (decimals_at rest) within (λ some. let more = decimals_within rest some in omega (arith, length-drop (stars bytes) bytes))

-- a field's characters are as long as it is wide
pub length-characters_of : (whole decimals : ℕ) → length (characters (field_of whole decimals)) ≡ (field_of whole decimals).width
length-characters_of whole zero = length-replicate whole 42
length-characters_of whole (suc more) =
    let before : List ℕ = replicate (whole + suc (suc more) - suc (suc more)) 42 in
    let following : List ℕ = replicate (suc more) 42 in
    omega (arith, length-append before (46 ∷ following), length-replicate {A = ℕ} (whole + suc (suc more) - suc (suc more)) 42, length-replicate {A = ℕ} (suc more) 42)

-- a field's characters are the bytes that it is found at
characters_first : (whole decimals : ℕ) (rest : List ℕ) → decimals ≡ decimals_at rest
    → characters (field_of whole decimals) ++ drop (field_of whole decimals).width (replicate whole 42 ++ rest) ≡ replicate whole 42 ++ rest
characters_first whole zero rest is =
    ap (λ more. replicate whole 42 ++ more) (drop_at (replicate whole 42) rest whole (length-replicate whole 42))
characters_first whole (suc more) rest is =
    let stars_only : List ℕ = replicate whole 42 in
    let decimals : List ℕ = replicate (suc more) 42 in
    let after : List ℕ = drop (suc (suc more)) rest in
    let front : whole + suc (suc more) - suc (suc more) ≡ whole = omega arith in
    let following : drop (whole + suc (suc more)) (stars_only ++ rest) ≡ after =
    sym (drop-drop (suc (suc more)) whole (stars_only ++ rest)) ∙ ap (drop (suc (suc more))) (drop_at stars_only rest whole (length-replicate whole 42))
    in
    ap (λ (n : ℕ). (replicate n 42 ++ 46 ∷ decimals) ++ drop (whole + suc (suc more)) (stars_only ++ rest)) front
    ∙ ap (λ (end : List ℕ). (stars_only ++ 46 ∷ decimals) ++ end) following
    ∙ append_assoc stars_only (46 ∷ decimals) after
    ∙ ap (λ (end : List ℕ). stars_only ++ end) (sym (decimals_first rest more is))

pub characters_at : (bytes : List ℕ) → characters (leading_field bytes) ++ drop (leading_field bytes).width bytes ≡ bytes
characters_at bytes =
    let rest : List ℕ = drop (stars bytes) bytes in
    subst (λ (all : List ℕ). characters (leading_field bytes) ++ drop (leading_field bytes).width all ≡ all) (stars_first bytes)
    (characters_first (stars bytes) (decimals_at rest) rest refl)

-- after a field no asterisk follows, and after one without decimals no period and asterisk
after_width : (bytes : List ℕ) (decimals : ℕ) → decimals ≡ decimals_at (drop (stars bytes) bytes) → stars (drop (field_of (stars bytes) decimals).width bytes) ≡ 0
after_width bytes zero is = stars_last bytes
after_width bytes (suc more) is =
    ap stars (sym (drop-drop (suc (suc more)) (stars bytes) bytes)) ∙ decimals_last (drop (stars bytes) bytes) more is

pub after_field : (bytes : List ℕ) → stars (drop (leading_field bytes).width bytes) ≡ 0
after_field bytes = after_width bytes (decimals_at (drop (stars bytes) bytes)) refl

plain_width : (bytes : List ℕ) (decimals : ℕ) → decimals ≡ decimals_at (drop (stars bytes) bytes) → (field_of (stars bytes) decimals).decimals ≡ 0 → decimals_at (drop (field_of (stars bytes) decimals).width bytes) ≡ 0
plain_width bytes zero is plain = sym is
plain_width bytes (suc more) is plain = absurd (omega arith)

pub after_plain_field : (bytes : List ℕ) → (leading_field bytes).decimals ≡ 0 → decimals_at (drop (leading_field bytes).width bytes) ≡ 0
after_plain_field bytes plain = plain_width bytes (decimals_at (drop (stars bytes) bytes)) refl plain
