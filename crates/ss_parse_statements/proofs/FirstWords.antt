-- What is read by its first word.
use Rattle.std.proofs.Common.{◌≡◌, ℕ, suc, ◌+◌, ◌<◌, Bool, false, List, [], ◌∷◌, length, Ok, refl, sym, ap, subst, ◌∙◌, arith}
use Rattle.ss_parse_statements.proofs.Common.{Line, openers, opens, Reads, Span, Token, token, token_less, TokenKind, Word}
use Rattle.ss_lex.specs.declared.token.TokenKind.TheVariants as kinds
use Rattle.ss_parse_expressions.specs.Shapes.{Shape, ◌▷◌, Word_is, first_token_line, at}
use Rattle.ss_parse_expressions.specs.Reading.{Reader}
use Rattle.ss_parse_expressions.proofs.Depth.{Upto, upto_same, Bounded, bounded_more, bounded_opened}
use Rattle.ss_parse_statements.specs.ReadStatements.{at_word, by_word}

-- The laws of a reader that is called after the word w, which may open a level.
pub record Form {A : Type 0} (k : ℕ) (w : Word) (read read' : Reader A) (S : A → Shape) (continues : List Token → Bool) : Type 0 where
  pub levels : ℕ
  pub reads : Reads levels read read' S continues
  pub opening : (ts : List Token) → Bounded k (opens (kinds.Word w) + openers ts) (read ts)

pub plain_form : {A : Type 0} {k : ℕ} {r r' : Reader A} {S : A → Shape} {c : List Token → Bool} (w : Word) → Reads k r r' S c → Form k w r r' S c
plain_form {k = k} {r = r} w law = record { levels = k; reads = law; opening = λ ts. bounded_more k (openers ts) (opens (kinds.Word w) + openers ts) (r ts) (omega arith) (law.opening ts) }

pub opening_form : {A : Type 0} {k : ℕ} {r r' : Reader A} {S : A → Shape} {c : List Token → Bool} (w : Word) → opens (kinds.Word w) ≡ 1 → Reads k r r' S c → Form (suc k) w r r' S c
opening_form {k = k} {r = r} w opener law = record { levels = k; reads = law; opening = λ ts. bounded_opened k (openers ts) (opens (kinds.Word w) + openers ts) (r ts) (omega (arith, opener)) (law.opening ts) }

-- After its first word: what has this line and this first word, and this shape after that word.
abbrev pub After_word : {A : Type 0} → (A → Line) → (A → Word) → (A → Shape) → Line → Word → A → Shape
After_word line_of word_of Rest line w x ts rest = (line_of x ≡ line) × (word_of x ≡ w) × Rest x ts rest

-- from its first word on
abbrev pub From_word : {A : Type 0} → (A → Line) → (A → Word) → (A → Shape) → A → Shape
From_word line_of word_of Rest x = at (line_of x) (Word_is (word_of x) ▷ Rest x)

module _ {A : Type 0} {k : ℕ} {form form' : Line → Word → Reader A} {c : List Token → Bool} (line_of : A → Line) (word_of : A → Word) (Rest : A → Shape) (law : (line : Line) (w : Word) → Form k w (form line w) (form' line w) (After_word line_of word_of Rest line w) c) where
  word_to : (x : A) (w : Word) (span : Span) (line : Line) (ts rest : List Token) → After_word line_of word_of Rest line w x ts rest → From_word line_of word_of Rest x (token (kinds.Word w) span line ∷ ts) rest
  word_to x w span line ts rest (begins_at, is, s) = (sym begins_at, (ts, subst (λ (v : Word). Word_is v (token (kinds.Word w) span line ∷ ts) ts) (sym is) (span, line, refl), s))

  kind_sound : (kind : TokenKind) (span : Span) (line : Line) (ts : List Token) (x : A) (rest : List Token) → at_word form line kind ts ≡ Ok (x, rest) → From_word line_of word_of Rest x (token kind span line ∷ ts) rest
  kind_sound (kinds.Word w) span line ts x rest e = word_to x w span line ts rest ((law line w).reads.sound ts x rest e)
  kind_sound _ span line ts x rest e = absurd cc

  first_sound : (ts : List Token) (x : A) (rest : List Token) → by_word form ts ≡ Ok (x, rest) → From_word line_of word_of Rest x ts rest
  first_sound [] x rest e = absurd cc
  first_sound (t ∷ ts) x rest e = kind_sound t.kind t.span t.line ts x rest e

  first_complete : (ts : List Token) (x : A) (rest : List Token) → From_word line_of word_of Rest x ts rest → c rest ≡ false → by_word form ts ≡ Ok (x, rest)
  first_complete ts x rest (begins_at, (m, (span, line, e), s)) stop =
      let same : first_token_line ts ≡ line = ap first_token_line e in
      let after : After_word line_of word_of Rest line (word_of x) x m rest = (sym begins_at ∙ same, refl, s) in
      ap (by_word form) e ∙ (law line (word_of x)).reads.complete m x rest after stop

  pub first_less : (ts : List Token) (x : A) (rest : List Token) → From_word line_of word_of Rest x ts rest → length rest < length ts
  first_less ts x rest s =
      let after : After_word line_of word_of Rest (first_token_line ts) (word_of x) x s.1.0 rest = (sym s.0, refl, s.1.2) in
      omega (arith, token_less (kinds.Word (word_of x)) ts s.1.0 s.1.1, (law (first_token_line ts) (word_of x)).reads.shorter s.1.0 x rest after)

  kind_under : (line : Line) (kind : TokenKind) (ts : List Token) → Upto (at_word form line kind ts) (at_word form' line kind ts)
  kind_under line (kinds.Word w) ts = (law line w).reads.under ts
  kind_under line _ ts = upto_same _

  first_under : (ts : List Token) → Upto (by_word form ts) (by_word form' ts)
  first_under [] = upto_same _
  first_under (t ∷ ts) = kind_under t.line t.kind ts

  kind_opening : (line : Line) (kind : TokenKind) (ts : List Token) → Bounded k (opens kind + openers ts) (at_word form line kind ts)
  kind_opening line (kinds.Word w) ts = (law line w).opening ts
  kind_opening line _ ts = tt

  first_opening : (ts : List Token) → Bounded k (openers ts) (by_word form ts)
  first_opening [] = tt
  first_opening (t ∷ ts) = kind_opening t.line t.kind ts

  pub by_word_reads : Reads k (by_word form) (by_word form') (From_word line_of word_of Rest) c
  by_word_reads = record {
    sound = first_sound;
    complete = first_complete;
    shorter = λ ts x rest s. omega (arith, first_less ts x rest s);
    under = first_under;
    opening = first_opening;
  }
