-- How a line is cut from left to right: what the functions of the code return. The definitions of tokens and
-- refusals don't rest on it.
use Rattle.std.specs.Prelude.{◌≡◌, ℕ, zero, suc, ◌+◌, ◌≤◌, Bool, true, false, not, max, ◌==◌, List, [], ◌∷◌, ◌++◌, length, take, drop, nat_lt, Option, Some, None, if◌then◌else◌}
use Rattle.std.specs.Option.{option_or}
use Rattle.std.specs.List.{prefix_len}
use Rattle.ss_lex.specs.declared.token.Token.{Token}
use Rattle.ss_lex.specs.declared.meaning.PieceMeaning.{PieceMeaning}
use Rattle.ss_lex.specs.declared.meaning.PieceMeaning.TheVariants as meanings
use Rattle.ss_lex.specs.declared.error.LexError.{LexError}
use Rattle.ss_lex.specs.declared.error.LexError.TheVariants as errors
use Rattle.ss_lex.specs.declared.meaning.Fault.{Fault}
use Rattle.ss_lex.specs.Lines.{lines_of}
use Rattle.ss_lex.specs.Pieces.{LinePiece, separator, word, comment, open_comment, quoted, open_quoted, single, is_blank_byte, is_word_part, is_quotable, opens_comment, is_closed, piece_meaning, first_fault}
use Rattle.ss_lex.specs.Tokens.{is_trigger, has_kind, tokens_of, called_by, AreTokensOf}
use Rattle.ss_lex.specs.Refusals.{error_of_fault, refusal_for, cut_of, means_trigger, has_trigger, to_trigger, line_refusal, IsRefusedIn}

-- a byte more in a comment
abbrev pub longer : ℕ → LinePiece × List ℕ → LinePiece × List ℕ
longer b (comment body, rest) = (comment (b ∷ body), rest)
longer b (open_comment body, rest) = (open_comment (b ∷ body), rest)
longer b (separator c, rest) = (separator c, rest)
longer b (word w, rest) = (word w, rest)
longer b (quoted body, rest) = (quoted body, rest)
longer b (open_quoted body, rest) = (open_quoted body, rest)
longer b (single c, rest) = (single c, rest)

-- the comment whose two apostrophes are read, and what follows it
unfoldable pub comment_at : List ℕ → LinePiece × List ℕ
comment_at [] = (open_comment [], [])
comment_at (b ∷ bs) = if opens_comment b bs then (comment [], drop 1 bs) else longer b (comment_at bs)

-- how many bytes that are allowed between quotes are at the front
abbrev pub quotable_length : List ℕ → ℕ
quotable_length bytes = prefix_len is_quotable bytes

-- the text whose quote is read, and what follows it
unfoldable pub quoted_at : List ℕ → LinePiece × List ℕ
quoted_at bytes =
    if is_closed bytes then (quoted (take (quotable_length bytes) bytes), drop (quotable_length bytes + 1) bytes)
    else (open_quoted bytes, [])

-- how many bytes of words are at the front
abbrev pub run_length : List ℕ → ℕ
run_length bytes = prefix_len is_word_part bytes

-- the piece at the front, and what follows it
unfoldable pub piece_at : ℕ → List ℕ → LinePiece × List ℕ
piece_at b bs =
    if is_blank_byte b then (separator b, bs)
    else (if is_word_part b then (word (b ∷ take (run_length bs) bs), drop (run_length bs) bs)
    else (if opens_comment b bs then comment_at (drop 1 bs)
    else (if b == 34 then quoted_at bs
    else (single b, bs))))

abbrev pub cut : ℕ → List ℕ → List LinePiece
cut zero bytes = []
cut (suc n) [] = []
cut (suc n) (b ∷ bs) = (piece_at b bs).0 ∷ cut n (piece_at b bs).1

-- the pieces of a line
unfoldable pub pieces : List ℕ → List LinePiece
pieces bytes = cut (length bytes) bytes

-- what the piece at the front means, and what follows it
unfoldable pub step_of : List ℕ → PieceMeaning × List ℕ
step_of [] = (meanings.Nothing, [])
step_of (b ∷ bs) = (piece_meaning (piece_at b bs).0, (piece_at b bs).1)

-- what a text means whose quote is read, and what follows it
unfoldable pub quote_step_of : List ℕ → PieceMeaning × List ℕ
quote_step_of bytes = (piece_meaning (quoted_at bytes).0, (quoted_at bytes).1)

-- whether the piece at the front is a trigger word, and what follows it
abbrev pub trigger_step_of : List ℕ → Bool × List ℕ
trigger_step_of bytes = (means_trigger (step_of bytes).0, (step_of bytes).1)

-- ---- a line, from some place in it on

-- how many pictures a line calls for, where it called for so many before these tokens
abbrev pub due_from : ℕ → List Token → List Token → ℕ
due_from due before tokens = if has_kind is_trigger tokens then called_by before tokens else due

-- what is wrong first with the pieces, where the line called for so many pictures before them
unfoldable pub refusal_from : ℕ → List Token → List LinePiece → ℕ → ℕ → ℕ → Option LexError
refusal_from due before ps start line left =
    option_or (refusal_for (first_fault (to_trigger ps)) line)
    (option_or (cut_of left (due_from due before (tokens_of ps start line)) line)
    (refusal_for (first_fault ps) line))

-- what is wrong first where a piece means this fault, and these bytes follow it
abbrev pub fault_refusal : Fault → List ℕ → ℕ → ℕ → ℕ → LexError
fault_refusal fault after due left line =
    if has_trigger (pieces after) then error_of_fault fault line
    else (if nat_lt left due then errors.PictureCut (record { 0 = line }) else error_of_fault fault line)

-- a line of code is read: what it adds to the tokens, and how many pictures it calls for
pub record IsCodeLineRead (bytes : List ℕ) (start line left : ℕ) (old new : List Token) (due : ℕ) : Type 0 where
  pub sound : line_refusal (pieces bytes) old start line left ≡ None
  pub tokens : new ≡ old ++ tokens_of (pieces bytes) start line
  pub called : due ≡ called_by old (tokens_of (pieces bytes) start line)

-- A line of code is read up to some place in it. The tokens, pictures and refusal of its rest complete those of the line.
pub record IsReadUpTo (bytes : List ℕ) (start line left : ℕ) (old tokens : List Token) (rest : List ℕ) (at due : ℕ) : Type 0 where
  pub place : at + length rest ≡ start + length bytes
  pub listed : tokens ++ tokens_of (pieces rest) at line ≡ old ++ tokens_of (pieces bytes) start line
  pub called : due_from due tokens (tokens_of (pieces rest) at line) ≡ called_by old (tokens_of (pieces bytes) start line)
  pub first : refusal_from due tokens (pieces rest) at line left ≡ line_refusal (pieces bytes) old start line left

-- ---- the lines of a text

-- any byte but a line feed
abbrev pub is_in_line : ℕ → Bool
is_in_line b = not (b == 10)

-- the lines of the bytes, one at least where a line is open before them
abbrev pub count_with : Bool → List ℕ → ℕ
count_with true bytes = max 1 (length (lines_of bytes))
count_with false bytes = length (lines_of bytes)

-- the refusal for a foreign byte in this line
abbrev pub foreign_refusal : Option ℕ → Option LexError
foreign_refusal None = None
foreign_refusal (Some line) = Some (errors.NotAscii (record { 0 = line }))

-- ---- from line to line

-- A line is read: any tokens of the lines that are left follow its own.
pub record IsLineRead (bytes : List ℕ) (start line left due : ℕ) (old new : List Token) (due' : ℕ) : Type 0 where
  pub within : due' ≤ left
  pub found : (lines : List (List ℕ)) (more : List Token) → length lines ≡ left → AreTokensOf lines due' new (start + length bytes + 1) (line + 1) more → (here : List Token) × (new ≡ old ++ here) × AreTokensOf (bytes ∷ lines) due old start line (here ++ more)
  pub refused : (lines : List (List ℕ)) (refusal : LexError) → length lines ≡ left → IsRefusedIn lines due' new (start + length bytes + 1) (line + 1) refusal → IsRefusedIn (bytes ∷ lines) due old start line refusal

-- a line is refused, whatever the lines after it are
abbrev pub IsLineRefused : List ℕ → ℕ → ℕ → ℕ → ℕ → List Token → LexError → Type 0
IsLineRefused bytes start line left due old refusal =
    (lines : List (List ℕ)) → length lines ≡ left → IsRefusedIn (bytes ∷ lines) due old start line refusal

-- The text is read up to a line. The tokens or the refusal of its other lines complete those of the text.
pub record IsTextReadTo (text rest : List ℕ) (start line due count : ℕ) (tokens : List Token) : Type 0 where
  pub counted : line + length (lines_of rest) ≡ count + 1
  pub place : start + length rest ≤ length text + line
  pub within : due ≤ length (lines_of rest)
  pub found : (more : List Token) → AreTokensOf (lines_of rest) due tokens start line more → AreTokensOf (lines_of text) 0 [] 0 1 (tokens ++ more)
  pub refused : (refusal : LexError) → IsRefusedIn (lines_of rest) due tokens start line refusal → IsRefusedIn (lines_of text) 0 [] 0 1 refusal
