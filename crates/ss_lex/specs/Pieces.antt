-- What a line of code is made of.
use Rattle.std.specs.Prelude.{◌≡◌, ℕ, ◌+◌, ◌<◌, Bool, true, false, ◌||◌, ◌&&◌, not, ◌==◌, List, [], ◌∷◌, ◌++◌, length, Option, Some, None, if◌then◌else◌}
use Rattle.std.specs.Option.{option_or}
use Rattle.std.specs.Char.{is_ascii_alphanumeric}
use Rattle.std.specs.List.{list_all}
use Rattle.ss_base.specs.Values.{is_text_byte, text_of}
use Rattle.ss_lex.specs.Words.{is_period, without_end_periods, word_meaning}
use Rattle.ss_lex.specs.declared.token.Symbol.{Symbol}
use Rattle.ss_lex.specs.declared.token.Symbol.TheVariants.{OpenParenthesis, CloseParenthesis, Comma, Plus, Minus, Star, Equals, Other}
use Rattle.ss_lex.specs.declared.token.TokenKind.TheVariants as kinds
use Rattle.ss_lex.specs.declared.meaning.Fault.{Fault}
use Rattle.ss_lex.specs.declared.meaning.Fault.TheVariants.{OpenText, AlphaTooLong}
use Rattle.ss_lex.specs.declared.meaning.PieceMeaning.{PieceMeaning}
use Rattle.ss_lex.specs.declared.meaning.PieceMeaning.TheVariants as meanings

-- A piece of a line. A comment or a text that the line's end cuts off is open.
pub data LinePiece : Type 0 where
  separator : ℕ → LinePiece
  word : List ℕ → LinePiece
  comment : List ℕ → LinePiece
  open_comment : List ℕ → LinePiece
  quoted : List ℕ → LinePiece
  open_quoted : List ℕ → LinePiece
  single : ℕ → LinePiece

-- its bytes: 39 is an apostrophe, 34 a quote
abbrev pub spelled : LinePiece → List ℕ
spelled (separator b) = b ∷ []
spelled (word w) = w
spelled (comment body) = 39 ∷ 39 ∷ (body ++ (39 ∷ 39 ∷ []))
spelled (open_comment body) = 39 ∷ 39 ∷ body
spelled (quoted body) = 34 ∷ (body ++ (34 ∷ []))
spelled (open_quoted body) = 34 ∷ body
spelled (single b) = b ∷ []

-- a blank, a tab or a carriage return
abbrev pub is_blank_byte : ℕ → Bool
is_blank_byte b = b == 32 || (b == 9 || b == 13)

-- a letter, a digit or a period
abbrev pub is_word_part : ℕ → Bool
is_word_part b = is_ascii_alphanumeric b || is_period b

-- a byte that is allowed between quotes
abbrev pub is_quotable : ℕ → Bool
is_quotable b = is_text_byte b && not (b == 34)

abbrev pub passes_first : (ℕ → Bool) → List ℕ → Bool
passes_first test [] = false
passes_first test (b ∷ bs) = test b

abbrev pub is_apostrophe : ℕ → Bool
is_apostrophe b = b == 39

-- two apostrophes
abbrev pub opens_comment : ℕ → List ℕ → Bool
opens_comment b rest = is_apostrophe b && passes_first is_apostrophe rest

-- no two apostrophes are side by side
abbrev pub is_apart : List ℕ → Bool
is_apart [] = true
is_apart (b ∷ bs) = not (opens_comment b bs) && is_apart bs

-- a quote follows bytes that are allowed between quotes
abbrev pub is_closed : List ℕ → Bool
is_closed [] = false
is_closed (b ∷ bs) = b == 34 || (is_text_byte b && is_closed bs)

-- the piece is right where this follows it on its line
abbrev pub IsFitBefore : LinePiece → List ℕ → Type 0
IsFitBefore (separator b) rest = is_blank_byte b ≡ true
IsFitBefore (word w) rest = (0 < length w) × (list_all is_word_part w ≡ true) × (passes_first is_word_part rest ≡ false)
IsFitBefore (comment body) rest = is_apart (body ++ 39 ∷ []) ≡ true
IsFitBefore (open_comment body) rest = (is_apart body ≡ true) × (rest ≡ [])
IsFitBefore (quoted body) rest = list_all is_quotable body ≡ true
IsFitBefore (open_quoted body) rest = (is_closed body ≡ false) × (rest ≡ [])
IsFitBefore (single b) rest = (is_blank_byte b ≡ false) × (is_word_part b ≡ false) × ((b == 34) ≡ false) × (opens_comment b rest ≡ false)

-- the line is these pieces, one after the other
abbrev pub IsCutInto : List LinePiece → List ℕ → Type 0
IsCutInto [] line = line ≡ []
IsCutInto (p ∷ ps) line = (rest : List ℕ) × (line ≡ spelled p ++ rest) × IsFitBefore p rest × IsCutInto ps rest

-- the token that a character is
abbrev pub symbol_of : ℕ → Symbol
symbol_of b =
    if b == 40 then OpenParenthesis
    else (if b == 41 then CloseParenthesis
    else (if b == 44 then Comma
    else (if b == 43 then Plus
    else (if b == 45 then Minus
    else (if b == 42 then Star
    else (if b == 61 then Equals
    else Other b))))))

-- the meaning of what is between quotes: this text, if it is short enough to be one
abbrev pub text_meaning : Option (List ℕ) → ℕ → PieceMeaning
text_meaning None spelling = meanings.Fault AlphaTooLong
text_meaning (Some text) spelling = meanings.Token (kinds.Text text) spelling

-- What a piece means: nothing, a token with the length of its spelling, or a fault.
abbrev pub piece_meaning : LinePiece → PieceMeaning
piece_meaning (word w) = word_meaning (without_end_periods w)
piece_meaning (quoted body) = text_meaning (text_of body) (length body + 2)
piece_meaning (open_quoted body) = meanings.Fault OpenText
piece_meaning (single b) = meanings.Token (kinds.Symbol (symbol_of b)) 1
piece_meaning _ = meanings.Nothing

-- the fault of a piece, if it means one
abbrev pub fault_in : PieceMeaning → Option Fault
fault_in (meanings.Fault fault) = Some fault
fault_in _ = None

-- the first fault of pieces
abbrev pub first_fault : List LinePiece → Option Fault
first_fault [] = None
first_fault (p ∷ ps) = option_or (fault_in (piece_meaning p)) (first_fault ps)
