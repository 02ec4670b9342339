-- Why a text has no tokens, and the line in which that shows first.
use Rattle.std.specs.Prelude.{◌≡◌, ℕ, zero, suc, ◌+◌, Bool, false, ◌||◌, List, [], ◌∷◌, ◌++◌, length, nat_lt, MatchBool, Option, Some, None, MatchOption, if◌then◌else◌}
use Rattle.std.specs.Option.{option_or}
use Rattle.ss_lex.specs.declared.token.Token.{Token}
use Rattle.ss_lex.specs.declared.meaning.PieceMeaning.{PieceMeaning}
use Rattle.ss_lex.specs.declared.meaning.PieceMeaning.TheVariants as meanings
use Rattle.ss_lex.specs.declared.meaning.Fault.{Fault}
use Rattle.ss_lex.specs.declared.meaning.Fault.TheVariants as faults
use Rattle.ss_lex.specs.declared.error.LexError.{LexError}
use Rattle.ss_lex.specs.declared.error.LexError.TheVariants as errors
use Rattle.ss_lex.specs.Lines.{source_limit, first_foreign, lines_of}
use Rattle.ss_lex.specs.Pieces.{LinePiece, IsCutInto, piece_meaning, first_fault}
use Rattle.ss_lex.specs.Tokens.{is_trigger, tokens_of, called_by, picture_at}

-- the refusal for a fault in this line
abbrev pub error_of_fault : Fault → ℕ → LexError
error_of_fault faults.BadNumber line = errors.BadNumber (record { 0 = line })
error_of_fault faults.OpenText line = errors.OpenText (record { 0 = line })
error_of_fault faults.AlphaTooLong line = errors.AlphaTooLong (record { 0 = line })
error_of_fault faults.NameTooLong line = errors.NameTooLong (record { 0 = line })

abbrev pub refusal_for : Option Fault → ℕ → Option LexError
refusal_for None line = None
refusal_for (Some fault) line = Some (error_of_fault fault line)

abbrev pub means_trigger : PieceMeaning → Bool
means_trigger (meanings.Token kind spelling) = is_trigger kind
means_trigger _ = false

abbrev pub has_trigger : List LinePiece → Bool
has_trigger [] = false
has_trigger (p ∷ ps) = means_trigger (piece_meaning p) || has_trigger ps

-- the pieces up to the last trigger word
abbrev pub to_trigger : List LinePiece → List LinePiece
to_trigger [] = []
to_trigger (p ∷ ps) = if means_trigger (piece_meaning p) || has_trigger ps then p ∷ to_trigger ps else []

-- a refusal where fewer lines are left than a line calls for
abbrev pub cut_of : ℕ → ℕ → ℕ → Option LexError
cut_of left called line = if nat_lt left called then Some (errors.PictureCut (record { 0 = line })) else None

-- What is wrong first with a line: a fault up to its last trigger word, the pictures that this word is short of,
-- or a fault after it. So many lines are left after the line.
abbrev pub line_refusal : List LinePiece → List Token → ℕ → ℕ → ℕ → Option LexError
line_refusal pieces before start line left =
    option_or (refusal_for (first_fault (to_trigger pieces)) line)
    (option_or (cut_of left (called_by before (tokens_of pieces start line)) line)
    (refusal_for (first_fault pieces) line))

-- These lines are refused so. So many are pictures first, and the tokens before are those of the lines before.
abbrev pub IsRefusedIn : List (List ℕ) → ℕ → List Token → ℕ → ℕ → LexError → Type 0
IsRefusedIn [] due before start line refusal = ⊥
IsRefusedIn (l ∷ ls) (suc due) before start line refusal =
    IsRefusedIn ls due (before ++ picture_at l start line ∷ []) (start + length l + 1) (line + 1) refusal
IsRefusedIn (l ∷ ls) zero before start line refusal =
    (pieces : List LinePiece) × IsCutInto pieces l
    × MatchOption (line_refusal pieces before start line (length ls))
    (IsRefusedIn ls (called_by before (tokens_of pieces start line)) (before ++ tokens_of pieces start line) (start + length l + 1) (line + 1) refusal)
    (λ first. refusal ≡ first)

-- The text is refused so: as too long, else for its first foreign byte, else for what is wrong first in its lines.
abbrev pub IsRefused : List ℕ → LexError → Type 0
IsRefused text refusal =
    MatchBool (nat_lt source_limit (length text))
    (refusal ≡ errors.TooLong (record { 0 = 0 }))
    (MatchOption (first_foreign 1 text)
    (IsRefusedIn (lines_of text) 0 [] 0 1 refusal)
    (λ line. refusal ≡ errors.NotAscii (record { 0 = line })))
