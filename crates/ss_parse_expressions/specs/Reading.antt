-- Reading tokens from left to right.
use Rattle.std.specs.Prelude.{◌≡◌, ℕ, zero, suc, Bool, true, false, ◌||◌, ◌&&◌, ◌==◌, List, [], ◌∷◌, length, Option, Some, None, Result, Ok, Err, if◌then◌else◌}
use denote.Enum.Bare.{sameb}
use Rattle.ss_lex.specs.contracts.word.Word.{the_type}
use Rattle.ss_lex.specs.declared.word.Word.{Word}
use Rattle.ss_lex.specs.declared.word.Word.TheVariants as words
use Rattle.ss_lex.specs.declared.token.Symbol.{Symbol}
use Rattle.ss_lex.specs.declared.token.Symbol.TheVariants.{OpenParenthesis, CloseParenthesis, Comma, Plus, Minus, Star, Equals, Other}
use Rattle.ss_lex.specs.declared.token.TokenKind.{TokenKind}
use Rattle.ss_lex.specs.declared.token.TokenKind.TheVariants as kinds
use Rattle.ss_lex.specs.declared.token.Token.{Token}
use Rattle.ss_base.specs.declared.line.Line.{Line}
use Rattle.ss_parse_expressions.specs.Shapes.{first_token_line}
use Rattle.ss_parse_expressions.specs.declared.failure.ParseFault.{ParseFault}
use Rattle.ss_parse_expressions.specs.declared.failure.ParseFault.TheVariants.{Syntax, TooDeep}
use Rattle.ss_parse_expressions.specs.declared.failure.ParseFailure.{ParseFailure}
use Rattle.ss_parse_expressions.specs.declared.failure.ParseFailure.TheVariants as failures

-- A reader gives what it read and the tokens after it, or a fault.
abbrev pub Reader : Type 0 → Type 0
Reader T = List Token → Result (T × List Token) ParseFault

infixl 10 ◌>>=◌
abbrev pub ◌>>=◌ : {A B : Type 0} → Result A ParseFault → (A → Result B ParseFault) → Result B ParseFault
(Ok x) >>= f = f x
(Err e) >>= f = Err e

-- What a function returned, seen through `view`, is what reading gives, unless memory ran out.
abbrev pub HasFailedReading : {Y : Type 0} → ParseFailure → Result Y ParseFault → Type 0
HasFailedReading failures.Memory read = Unit {0}
HasFailedReading (failures.Refused f left) read = read ≡ Err f

abbrev pub HasGivenReading : {X Y : Type 0} → (X → Y) → Result X ParseFailure → Result Y ParseFault → Type 0
HasGivenReading view (Ok x) read = read ≡ Ok (view x)
HasGivenReading view (Err e) read = HasFailedReading e read

-- ---- single tokens

-- a word or a symbol that is looked for
pub data Mark : Type 0 where
  word : Word → Mark
  symbol : Symbol → Mark

abbrev pub same_symbol : Symbol → Symbol → Bool
same_symbol OpenParenthesis OpenParenthesis = true
same_symbol CloseParenthesis CloseParenthesis = true
same_symbol Comma Comma = true
same_symbol Plus Plus = true
same_symbol Minus Minus = true
same_symbol Star Star = true
same_symbol Equals Equals = true
same_symbol (Other a) (Other b) = a == b
same_symbol _ _ = false

abbrev pub kind_of_mark : Mark → TokenKind
kind_of_mark (word w) = kinds.Word w
kind_of_mark (symbol s) = kinds.Symbol s

abbrev pub is : Mark → TokenKind → Bool
is (word w) (kinds.Word v) = sameb the_type v w
is (symbol s) (kinds.Symbol r) = same_symbol r s
is _ _ = false

abbrev pub begins : Mark → List Token → Bool
begins m [] = false
begins m (t ∷ ts) = is m t.kind

-- the tokens after the mark, where it is first
abbrev pub skip : Mark → List Token → List Token
skip m [] = []
skip m (t ∷ ts) = if is m t.kind then ts else t ∷ ts

-- the mark
abbrev pub expect : Mark → Reader (Unit {0})
expect m [] = Err Syntax
expect m (t ∷ ts) = if is m t.kind then Ok (tt, ts) else Err Syntax

-- what the word table maps the token to, if it is a word
abbrev pub in_table : {A : Type 0} → (Word → Option A) → TokenKind → Option A
in_table table (kinds.Word w) = table w
in_table table _ = None

abbrev pub is_some : {A : Type 0} → Option A → Bool
is_some None = false
is_some (Some x) = true

-- what the table maps the first token to
abbrev pub first_by : {A : Type 0} → (TokenKind → Option A) → List Token → Option A
first_by table [] = None
first_by table (t ∷ ts) = table t.kind

-- whether the table has the first token
abbrev pub begins_by : {A : Type 0} → (TokenKind → Option A) → List Token → Bool
begins_by table ts = is_some (first_by table ts)

abbrev pub found_then : {A : Type 0} → Option A → List Token → Result (A × List Token) ParseFault
found_then None ts = Err Syntax
found_then (Some x) ts = Ok (x, ts)

-- a token that the table maps to something, which is the result
abbrev pub taken : {A : Type 0} → (TokenKind → Option A) → Reader A
taken table [] = Err Syntax
taken table (t ∷ ts) = found_then (table t.kind) ts

-- a name
abbrev pub name_in_token : TokenKind → Option (List ℕ)
name_in_token (kinds.Name n) = Some n
name_in_token _ = None

-- ---- readers of several things

-- the first reader and then the second, with both results
abbrev pub seq : {A B : Type 0} → Reader A → Reader B → Reader (A × B)
seq r q ts = r ts >>= λ x. q x.1 >>= λ y. Ok ((x.0, y.0), y.1)

-- the second reader, after tokens that the first one reads and drops
abbrev pub after_dropped : {A : Type 0} → Reader (Unit {0}) → Reader A → Reader A
after_dropped r q ts = r ts >>= λ x. q x.1

-- the first reader, before tokens that the second one reads and drops
abbrev pub closed : {A : Type 0} → Reader A → Reader (Unit {0}) → Reader A
closed r q ts = r ts >>= λ x. q x.1 >>= λ y. Ok (x.0, y.1)

abbrev pub apply : {A B : Type 0} → (A → B) → Reader A → Reader B
apply f r ts = r ts >>= λ x. Ok (f x.0, x.1)

-- a reader that depends on the line of the first token
abbrev pub lined : {A : Type 0} → (Line → Reader A) → Reader A
lined r ts = r (first_token_line ts) ts

-- an optional item, which is there where the tokens start so
abbrev pub maybe : {A : Type 0} → (List Token → Bool) → Reader A → Reader (Option A)
maybe starts item ts = if starts ts then (item ts >>= λ x. Ok (Some x.0, x.1)) else Ok (None, ts)

-- an optional list, which is there where the tokens start so
abbrev pub maybe_list : {A : Type 0} → (List Token → Bool) → Reader (List A) → Reader (List A)
maybe_list starts item ts = if starts ts then item ts else Ok ([], ts)

-- whether these words are there, which is so where the tokens start so
abbrev pub flag : (List Token → Bool) → Reader (Unit {0}) → Reader Bool
flag starts q ts = if starts ts then (q ts >>= λ x. Ok (true, x.1)) else Ok (false, ts)

-- the first reader where the tokens start so, and else the second
abbrev pub choose_reader : {A : Type 0} → (List Token → Bool) → Reader A → Reader A → Reader A
choose_reader starts r q ts = if starts ts then r ts else q ts

abbrev pub too_deep : {A : Type 0} → Reader A
too_deep ts = Err TooDeep

-- ---- rows

-- Items as long as there is one more, at most as many as the number. Each is read in the state that the ones before it leave.
abbrev pub row : {A G : Type 0} → (List Token → Bool) → (G → Reader A) → (G → A → G) → ℕ → G → Reader (List A)
row starts item next zero g ts = Ok ([], ts)
row starts item next (suc n) g ts =
    if starts ts then (item g ts >>= λ x. row starts item next n (next g x.0) x.1 >>= λ xs. Ok (x.0 ∷ xs.0, xs.1)) else Ok ([], ts)

-- items as long as there is one more, where no state is kept
unfoldable pub rows : {A : Type 0} → (List Token → Bool) → Reader A → Reader (List A)
rows starts item ts = row starts (λ (u : Unit {0}). item) (λ u x. u) (length ts) tt ts

-- an item, and further ones as long as there is one more
abbrev pub first_and : {A : Type 0} → Reader A → (List Token → Bool) → Reader A → Reader (List A)
first_and r starts item ts = r ts >>= λ x. rows starts item x.1 >>= λ xs. Ok (x.0 ∷ xs.0, xs.1)

-- ---- commas and separators

abbrev pub comma : Mark
comma = symbol Comma

abbrev pub skip_comma : List Token → List Token
skip_comma = skip comma

-- the tokens after a comma, AND, or both
abbrev pub skip_separator : List Token → List Token
skip_separator ts = skip (word words.And) (skip comma ts)

-- whether a separator and then such a token follow
abbrev pub begins_more : (List Token → Bool) → List Token → Bool
begins_more starts ts = (begins comma ts || begins (word words.And) ts) && starts (skip_separator ts)

-- items with separators between
abbrev pub list_of : {A : Type 0} → (List Token → Bool) → Reader A → Reader (List A)
list_of starts item = first_and item (begins_more starts) (λ r. item (skip_separator r))
