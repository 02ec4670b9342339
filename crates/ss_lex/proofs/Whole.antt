-- The tokens of a text: one list of them, or one refusal.
use Rattle.std.proofs.Common.{◌≡◌, ◌≢◌, ℕ, ◌+◌, ◌≤◌, Bool, true, false, ◌==◌, List, [], ◌∷◌, length, nat_lt, Option, Some, None, Result, Ok, Err, IfOk, IfErr, MatchOption, MatchBool, refl, sym, ◌∙◌, arith, inl, inr, ◌⊎◌}
use Rattle.ss_lex.proofs.Common.{and_parts, AreTokens, AreTokensOf, first_foreign, is_character, IsRefused, IsRefusedIn, LexError, lines_of, list_all, nat_tests, source_limit, Token}
use Rattle.std.specs.Prelude.{if◌then◌else◌}
use Rattle.ss_lex.specs.declared.error.LexError.TheVariants as errors
use Rattle.ss_lex.specs.Listings.{Listing}
use Rattle.ss_lex.proofs.TextLaws.{one_list_of, none_refused_of, one_refusal_of, answered}

-- ---- foreign bytes

none_foreign : (line : ℕ) (text : List ℕ) → first_foreign line text ≡ None → list_all is_character text ≡ true
none_foreign line [] e = refl
none_foreign line (b ∷ bs) e = go (is_character b) refl (none_foreign (if b == 10 then line + 1 else line) bs)
  where
    go : (t : Bool) → is_character b ≡ t → (first_foreign (if b == 10 then line + 1 else line) bs ≡ None → list_all is_character bs ≡ true) → list_all is_character (b ∷ bs) ≡ true
    go true t ih = let rest = ih (rw t at e) in rw t rest
    go false t ih = let wrong = rw t at e in absurd cc

all_characters : (line : ℕ) (text : List ℕ) → list_all is_character text ≡ true → first_foreign line text ≡ None
all_characters line [] e = refl
all_characters line (b ∷ bs) e =
    let two = and_parts (is_character b) (list_all is_character bs) e in
    let t = two.0 in
    rw t (all_characters (if b == 10 then line + 1 else line) bs two.1)

-- ---- the laws

pub one_list : (text : List ℕ) (a b : List Token) → AreTokens text a → AreTokens text b → a ≡ b
one_list text a b s t = one_list_of (lines_of text) 0 [] 0 1 a b s.lines t.lines

short : (text : List ℕ) (tokens : List Token) → AreTokens text tokens → nat_lt source_limit (length text) ≡ false
short text tokens s = let le : length text ≤ source_limit = s.short in grind (arith, nat_tests)

pub none_refused : (text : List ℕ) (tokens : List Token) (refusal : LexError) → AreTokens text tokens → IsRefused text refusal → ⊥
none_refused text tokens refusal s r =
    let t = short text tokens s in
    let n = all_characters 1 text s.characters in
    let in_lines : IsRefusedIn (lines_of text) 0 [] 0 1 refusal = rw n at (rw t at r) in
    none_refused_of (lines_of text) 0 [] 0 1 tokens refusal s.lines in_lines

pub one_refusal : (text : List ℕ) (e f : LexError) → IsRefused text e → IsRefused text f → e ≡ f
one_refusal text e f r s = long (nat_lt source_limit (length text)) r s
  where
    foreign : (o : Option ℕ) → MatchOption o (IsRefusedIn (lines_of text) 0 [] 0 1 e) (λ line. e ≡ errors.NotAscii (record { 0 = line })) → MatchOption o (IsRefusedIn (lines_of text) 0 [] 0 1 f) (λ line. f ≡ errors.NotAscii (record { 0 = line })) → e ≡ f
    foreign None r s = one_refusal_of (lines_of text) 0 [] 0 1 e f r s
    foreign (Some line) r s = r ∙ sym s

    long : (t : Bool) → MatchBool t (e ≡ errors.TooLong (record { 0 = 0 })) (MatchOption (first_foreign 1 text) (IsRefusedIn (lines_of text) 0 [] 0 1 e) (λ line. e ≡ errors.NotAscii (record { 0 = line })))
        → MatchBool t (f ≡ errors.TooLong (record { 0 = 0 })) (MatchOption (first_foreign 1 text) (IsRefusedIn (lines_of text) 0 [] 0 1 f) (λ line. f ≡ errors.NotAscii (record { 0 = line }))) → e ≡ f
    long true r s = r ∙ sym s
    long false r s = foreign (first_foreign 1 text) r s

-- ---- what the code finds

pub found : (text : List ℕ) (tokens : List Token) → length text ≤ source_limit → first_foreign 1 text ≡ None → AreTokensOf (lines_of text) 0 [] 0 1 tokens → AreTokens text tokens
found text tokens le n s = record { short = le; characters = none_foreign 1 text n; lines = s }

pub some_answer : (text : List ℕ) → ((tokens : List Token) × AreTokens text tokens) ⊎ ((refusal : LexError) × IsRefused text refusal)
some_answer text = long (nat_lt source_limit (length text)) refl
  where
    in_lines : length text ≤ source_limit → nat_lt source_limit (length text) ≡ false → first_foreign 1 text ≡ None → ((tokens : List Token) × AreTokens text tokens) ⊎ ((refusal : LexError) × IsRefused text refusal)
    in_lines le t n =
        elim (answered (lines_of text) 0 [] 0 1 (omega arith)) [
          | inl s ↦ inl (s.0, found text s.0 le n s.1)
          | inr r ↦ inr (r.0, rw (t, n) r.1)
        ]

    foreign : (o : Option ℕ) → first_foreign 1 text ≡ o → length text ≤ source_limit → nat_lt source_limit (length text) ≡ false → ((tokens : List Token) × AreTokens text tokens) ⊎ ((refusal : LexError) × IsRefused text refusal)
    foreign None n le t = in_lines le t n
    foreign (Some line) n le t = inr (errors.NotAscii (record { 0 = line }), rw (t, n) refl)

    long : (t : Bool) → nat_lt source_limit (length text) ≡ t → ((tokens : List Token) × AreTokens text tokens) ⊎ ((refusal : LexError) × IsRefused text refusal)
    long true t = inr (errors.TooLong (record { 0 = 0 }), rw t refl)
    long false t = foreign (first_foreign 1 text) refl (grind (arith, nat_tests)) t

-- ---- what one result of the code says of every other

pub only_list : (text : List ℕ) (result : Result Listing LexError) → IfOk result (λ t. AreTokens text t.list) → IfOk result (λ t. (others : List Token) → AreTokens text others → others ≡ t.list)
only_list text (Ok t) s = λ others o. one_list text others t.list o s
only_list text (Err e) s = tt

pub no_list : (text : List ℕ) (result : Result Listing LexError) → IfErr result (λ e. e ≢ errors.Memory → IsRefused text e) → IfErr result (λ e. e ≢ errors.Memory → (others : List Token) → AreTokens text others → ⊥)
no_list text (Ok t) r = tt
no_list text (Err e) r = λ m others o. none_refused text others e o (r m)
