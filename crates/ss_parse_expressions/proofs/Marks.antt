-- Single tokens.
use Rattle.std.proofs.Common.{◌≡◌, suc, ◌≤◌, Bool, true, false, List, [], ◌∷◌, length, Option, Some, None, Ok, refl, ap, subst, ◌∙◌, arith, inl, inr}
use Rattle.std.proofs.lemmas.Bool.{both_ways, false_from_ne_true}
use Rattle.std.proofs.lemmas.Bool.Decides.{nat_tests}
use denote.Enum.Bare.{same_true, true_same}
use Rattle.ss_lex.specs.contracts.word.Word.{the_type}
use Rattle.ss_parse_expressions.proofs.Common.{Line, openers, Shape, Span, Token, Token_is, TokenKind}
use Rattle.ss_lex.specs.declared.token.Symbol.{Symbol}
use Rattle.ss_lex.specs.declared.token.TokenKind.TheVariants as kinds
use Rattle.ss_parse_expressions.specs.Reading.{Mark, word, symbol, kind_of_mark, same_symbol, is, begins, skip, begins_by, taken, found_then}
use Rattle.ss_parse_expressions.proofs.Tools.{which, carry}

abbrev pub token : TokenKind → Span → Line → Token
token kind span line = record { kind = kind; span = span; line = line }

-- a token of the mark's kind
abbrev pub Mark_is : Mark → Shape
Mark_is m = Token_is (kind_of_mark m)

symbols_same : (a b : Symbol) → same_symbol a b ≡ true → a ≡ b
symbols_same a b e = grind (arith, nat_tests)

same_symbols : (a : Symbol) → same_symbol a a ≡ true
same_symbols a = grind (arith, nat_tests)

pub is_true : (m : Mark) (k : TokenKind) → is m k ≡ true → k ≡ kind_of_mark m
is_true (word w) (kinds.Word v) e = ap kinds.Word (same_true the_type tt v w e)
is_true (symbol s) (kinds.Symbol r) e = ap kinds.Symbol (symbols_same r s e)
is_true _ _ e = absurd cc

pub is_itself : (m : Mark) → is m (kind_of_mark m) ≡ true
is_itself (word w) = true_same the_type w w refl
is_itself (symbol s) = same_symbols s

-- a token and its kind
pub token_of : (t : Token) (ts : List Token) (k : TokenKind) → t.kind ≡ k → Token_is k (t ∷ ts) ts
token_of t ts k e = (t.span, t.line, ap (λ (k : TokenKind). token k t.span t.line ∷ ts) e)

-- the mark is first
pub begins_mark : (m : Mark) (ts : List Token) → begins m ts ≡ true → Mark_is m ts (skip m ts)
begins_mark m [] e = absurd cc
begins_mark m (t ∷ ts) e = rw e (token_of t ts (kind_of_mark m) (is_true m t.kind e))

pub mark_begins : (m : Mark) (ts rest : List Token) → Mark_is m ts rest → begins m ts ≡ true
mark_begins m ts rest (span, line, e) = rw e (is_itself m)

pub mark_skips : (m : Mark) (ts rest : List Token) → Mark_is m ts rest → skip m ts ≡ rest
mark_skips m ts rest (span, line, e) = rw (e, is_itself m) refl

pub no_skip : (m : Mark) (ts : List Token) → begins m ts ≡ false → skip m ts ≡ ts
no_skip m ts e = grind arith

-- what starts so doesn't begin with a mark that nothing that starts so begins with
pub starts_otherwise : (m : Mark) (starts : List Token → Bool) → ((span : Span) (line : Line) (ts : List Token) → starts (token (kind_of_mark m) span line ∷ ts) ≡ false) → (ts : List Token) → starts ts ≡ true → begins m ts ≡ false
starts_otherwise m starts none ts there =
    false_from_ne_true (begins m ts) (λ p. let s = begins_mark m ts p in both_ways (starts ts) (ap starts s.2 ∙ none s.0 s.1 (skip m ts)) there)

pub token_less : (k : TokenKind) (ts rest : List Token) → Token_is k ts rest → suc (length rest) ≡ length ts
token_less k ts rest (span, line, e) = rw e refl

pub skip_openers : (m : Mark) (ts : List Token) → openers (skip m ts) ≤ openers ts
skip_openers m [] = omega arith
skip_openers m (t ∷ ts) = elim (which (is m t.kind)) [ inl p ↦ rw p (omega arith) | inr p ↦ rw p (omega arith) ]

-- ---- tables

-- a token that the table maps to x
abbrev pub In_table : {A : Type 0} → (TokenKind → Option A) → A → Shape
In_table table x ts rest = (k : TokenKind) × (table k ≡ Some x) × Token_is k ts rest

some_is : {A : Type 0} (o : Option A) (ts rest : List Token) (x : A) → found_then o ts ≡ Ok (x, rest) → (o ≡ Some x) × (ts ≡ rest)
some_is None ts rest x e = absurd cc
some_is {A = A} (Some y) ts rest x e = carry (λ (x : A) (r : List Token). (Some y ≡ Some x) × (ts ≡ r)) y x ts rest e (refl, refl)

pub taken_sound : {A : Type 0} (table : TokenKind → Option A) (ts rest : List Token) (x : A) → taken table ts ≡ Ok (x, rest) → In_table table x ts rest
taken_sound table [] rest x e = absurd cc
taken_sound table (t ∷ ts) rest x e =
    let is = some_is (table t.kind) ts rest x e in
    (t.kind, is.0, subst (λ (r : List Token). Token_is t.kind (t ∷ ts) r) is.1 (t.span, t.line, refl))

pub taken_complete : {A : Type 0} (table : TokenKind → Option A) (ts rest : List Token) (x : A) → In_table table x ts rest → taken table ts ≡ Ok (x, rest)
taken_complete table ts rest x (k, takes, (span, line, e)) = rw (e, takes) refl

pub begins_table : {A : Type 0} (table : TokenKind → Option A) (ts rest : List Token) (x : A) → In_table table x ts rest → begins_by table ts ≡ true
begins_table table ts rest x (k, takes, (span, line, e)) = rw (e, takes) refl
