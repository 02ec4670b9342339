-- Shapes: which tokens may be at the front of a list.
use Rattle.std.specs.Prelude.{◌≡◌, ℕ, zero, suc, ◌⊎◌, List, [], ◌∷◌, Option, Some, None, Bool, true, false}
use Rattle.ss_base.specs.declared.line.Line.{Line}
use Rattle.ss_lex.specs.declared.token.Token.{Token}
use Rattle.ss_lex.specs.declared.token.Span.{Span}
use Rattle.ss_lex.specs.declared.token.Symbol.{Symbol}
use Rattle.ss_lex.specs.declared.token.Symbol.TheVariants as symbols
use Rattle.ss_lex.specs.declared.token.TokenKind.{TokenKind}
use Rattle.ss_lex.specs.declared.token.TokenKind.TheVariants as kinds
use Rattle.ss_lex.specs.declared.word.Word.{Word}
use Rattle.ss_lex.specs.declared.word.Word.TheVariants as words

-- A shape relates tokens to the rest of them, after what the shape describes.
abbrev pub Shape : Type 1
Shape = List Token → List Token → Type 0

-- one shape, and then another
infixr 4 ◌▷◌
abbrev pub ◌▷◌ : Shape → Shape → Shape
(P ▷ Q) ts rest = (m : List Token) × P ts m × Q m rest

abbrev pub nothing : Shape
nothing ts rest = ts ≡ rest

abbrev pub never : Shape
never ts rest = ⊥

abbrev pub either_shape : Shape → Shape → Shape
either_shape P Q ts rest = P ts rest ⊎ Q ts rest

abbrev pub optional : Shape → Shape
optional P = either_shape nothing P

-- only where the condition holds
abbrev pub provided : Type 0 → Shape → Shape
provided C P ts rest = C × P ts rest

-- a token of this kind
abbrev pub Token_is : TokenKind → Shape
Token_is kind ts rest = (span : Span) × (line : Line) × (ts ≡ record { kind = kind; span = span; line = line } ∷ rest)

abbrev pub Word_is : Word → Shape
Word_is w = Token_is (kinds.Word w)

abbrev pub Symbol_is : Symbol → Shape
Symbol_is s = Token_is (kinds.Symbol s)

abbrev pub Name_is : List ℕ → Shape
Name_is n = Token_is (kinds.Name n)

-- a word that the table maps to x
abbrev pub Word_for : {X : Type 0} → (Word → Option X) → X → Shape
Word_for table x ts rest = (w : Word) × (table w ≡ Some x) × Word_is w ts rest

-- a comma that may be left out
abbrev pub noise : Shape
noise = optional (Symbol_is symbols.Comma)

-- a comma, AND, or both
abbrev pub separator : Shape
separator = either_shape (Symbol_is symbols.Comma) (either_shape (Word_is words.And) (Symbol_is symbols.Comma ▷ Word_is words.And))

-- each of these in turn
abbrev pub each_in_turn : {X : Type 0} → (X → Shape) → List X → Shape
each_in_turn S [] = nothing
each_in_turn S (x ∷ xs) = S x ▷ each_in_turn S xs

-- the first, and then each of the others in another way
abbrev pub first_and_each : {X : Type 0} → (X → Shape) → (X → Shape) → List X → Shape
first_and_each S T [] = never
first_and_each S T (x ∷ xs) = S x ▷ each_in_turn T xs

-- one at least, with separators between
abbrev pub separated_list : {X : Type 0} → (X → Shape) → List X → Shape
separated_list S = first_and_each S (λ y. separator ▷ S y)

-- what may be there
abbrev pub perhaps : {X : Type 0} → (X → Shape) → Option X → Shape
perhaps S None = nothing
perhaps S (Some x) = S x

-- these words, where the flag is set
abbrev pub flagged : Shape → Bool → Shape
flagged P true = P
flagged P false = nothing

-- the line of the first token
abbrev pub first_token_line : List Token → Line
first_token_line [] = record { 0 = 0 }
first_token_line (t ∷ ts) = t.line

-- begins on this line
abbrev pub at : Line → Shape → Shape
at line P ts rest = (first_token_line ts ≡ line) × P ts rest

-- with one level of nesting more
abbrev pub nested_shape : (ℕ → Shape) → ℕ → Shape
nested_shape P zero = never
nested_shape P (suc levels) = P levels
