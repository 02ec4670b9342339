-- When a list of tokens is that of a text.
use Rattle.std.specs.Prelude.{◌≡◌, ℕ, zero, suc, ◌+◌, ◌≤◌, Bool, true, false, ◌||◌, IsTrue, List, [], ◌∷◌, ◌++◌, length, None, unsigned_abs, if◌then◌else◌}
use Rattle.std.specs.List.{list_any, list_all}
use Rattle.ss_lex.specs.declared.word.Word.{Word}
use Rattle.ss_lex.specs.declared.word.Word.TheVariants as words
use Rattle.ss_lex.specs.declared.token.TokenKind.{TokenKind}
use Rattle.ss_lex.specs.declared.token.TokenKind.TheVariants as kinds
use Rattle.ss_lex.specs.declared.token.Token.{Token}
use Rattle.ss_lex.specs.declared.meaning.PieceMeaning.{PieceMeaning}
use Rattle.ss_lex.specs.declared.meaning.PieceMeaning.TheVariants as meanings
use Rattle.ss_lex.specs.Lines.{source_limit, is_character, lines_of, picture_of}
use Rattle.ss_lex.specs.Pieces.{LinePiece, spelled, IsCutInto, piece_meaning, first_fault}

-- a token of this line, whose spelling begins at this place and is so long
abbrev pub token_at : TokenKind → ℕ → ℕ → ℕ → Token
token_at kind spelling start line =
    record { kind = kind; span = record { start = start; length = spelling }; line = record { 0 = line } }

-- the token of a meaning, if it is one
abbrev pub token_in : PieceMeaning → ℕ → ℕ → List Token
token_in (meanings.Token kind spelling) start line = token_at kind spelling start line ∷ []
token_in _ start line = []

-- the tokens of the pieces of a line
abbrev pub tokens_of : List LinePiece → ℕ → ℕ → List Token
tokens_of [] start line = []
tokens_of (p ∷ ps) start line =
    token_in (piece_meaning p) start line ++ tokens_of ps (start + length (spelled p)) line

-- ---- pictures

-- THUS, FOLLOWS and THIS are trigger words: they call for pictures
abbrev pub is_trigger_word : Word → Bool
is_trigger_word words.Thus = true
is_trigger_word words.Follows = true
is_trigger_word words.This = true
is_trigger_word _ = false

abbrev pub is_print_word : Word → Bool
is_print_word words.Print = true
is_print_word _ = false

abbrev pub is_trigger : TokenKind → Bool
is_trigger (kinds.Word word) = is_trigger_word word
is_trigger _ = false

abbrev pub is_print : TokenKind → Bool
is_print (kinds.Word word) = is_print_word word
is_print _ = false

-- the number that a token is, and 0 where it is another
abbrev pub number_in_token : TokenKind → ℕ
number_in_token (kinds.Number number) = unsigned_abs number
number_in_token _ = 0

-- the number that is the first of these tokens, and 0 where it is another
abbrev pub first_number : List Token → ℕ
first_number [] = 0
first_number (t ∷ ts) = number_in_token t.kind

-- a PRINT or a trigger word
abbrev pub is_print_or_trigger : TokenKind → Bool
is_print_or_trigger kind = is_print kind || is_trigger kind

-- a token of such a kind is among these
abbrev pub has_kind : (TokenKind → Bool) → List Token → Bool
has_kind test tokens = list_any (λ t. test t.kind) tokens

-- The number of pictures for a trigger word after these tokens: the number directly after the last PRINT,
-- and 0 where there is no number, no PRINT, or a trigger word since that PRINT.
abbrev pub number_due : List Token → ℕ
number_due [] = 0
number_due (t ∷ ts) =
    if has_kind is_print_or_trigger ts then number_due ts else (if is_print t.kind then first_number ts else 0)

-- How many pictures follow a line of these tokens, with those before it: as many as its last trigger word calls for.
abbrev pub called_by : List Token → List Token → ℕ
called_by before [] = 0
called_by before (t ∷ ts) =
    if has_kind is_trigger ts then called_by (before ++ t ∷ []) ts
    else (if is_trigger t.kind then number_due before else 0)

-- the token of a line that is a picture
abbrev pub picture_at : List ℕ → ℕ → ℕ → Token
picture_at bytes start line = token_at (kinds.Picture (picture_of bytes)) (length (picture_of bytes)) start line

-- ---- the text

-- These are the tokens of these lines, the first of which begins at this place and has this number. So many of
-- the lines are pictures first, and the tokens before are those of the lines before.
abbrev pub AreTokensOf : List (List ℕ) → ℕ → List Token → ℕ → ℕ → List Token → Type 0
AreTokensOf [] zero before start line tokens = tokens ≡ []
AreTokensOf [] (suc due) before start line tokens = ⊥
AreTokensOf (l ∷ ls) (suc due) before start line tokens =
    (rest : List Token) × (tokens ≡ picture_at l start line ∷ rest)
    × AreTokensOf ls due (before ++ picture_at l start line ∷ []) (start + length l + 1) (line + 1) rest
AreTokensOf (l ∷ ls) zero before start line tokens =
    (pieces : List LinePiece) × (rest : List Token) × IsCutInto pieces l × (first_fault pieces ≡ None)
    × (tokens ≡ tokens_of pieces start line ++ rest)
    × AreTokensOf ls (called_by before (tokens_of pieces start line)) (before ++ tokens_of pieces start line) (start + length l + 1) (line + 1) rest

-- these are the tokens of the text
pub record AreTokens (text : List ℕ) (tokens : List Token) : Type 0 where
  pub short : length text ≤ source_limit
  pub characters : IsTrue (list_all is_character text)
  pub lines : AreTokensOf (lines_of text) 0 [] 0 1 tokens
