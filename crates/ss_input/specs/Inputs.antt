-- Sources of input data, and what a call of one reads.
use Rattle.std.specs.Prelude.{◌≡◌, ℕ, ◌+◌, ◌<◌, ◌≤◌, true, false, List, [], ◌∷◌, ◌++◌, take, drop, length, Option, Some, None, Result, Ok, Err}
use Rattle.std.specs.List.{list_all}
use Rattle.std.specs.Io.KnownBytes.{Consumes}
use Rattle.ss_base.specs.Failures.{raised}
use Rattle.ss_input.specs.declared.source.Missed.{Missed}
use Rattle.ss_input.specs.declared.source.Missed.TheVariants.{Fault, Input}
use Rattle.ss_input.specs.declared.source.Source.{Source}
use Rattle.ss_input.specs.Blocks.{BlockSeen}
use Rattle.ss_input.specs.Sources.{IsGapPassed, IsNextWanted}
use Rattle.ss_input.specs.Words.{is_separator, is_word_byte}
use Rattle.ss_input.specs.Numbers.{HasLeadingNumber}

-- the view of a source: its reader with the buffered bytes, how many separators were passed since the last word, and why it
-- gives no more
abbrev pub source_block : {R : Type 0} → Source R → BlockSeen R
source_block s = s.block

abbrev pub source_gap : {R : Type 0} → Source R → ℕ
source_gap s = s.gap

abbrev pub source_missed : {R : Type 0} → Source R → Option Missed
source_missed s = s.missed

-- its reader, as it is now
abbrev pub source_reader : {R : Type 0} → Source R → R
source_reader s = s.block.reader

-- a source of this reader of which nothing was read
pub record IsFresh {R : Type 0} (reader : R) (s : Source R) : Type 0 where
  pub reader_is : source_reader s ≡ reader
  pub left : (source_block s).left ≡ []
  pub not_ended : (source_block s).ended ≡ false
  pub gap : source_gap s ≡ 0
  pub missed : source_missed s ≡ None

-- the separators before the next word were passed, and none or a word is next
pub record HasReached {R : Type 0} (remaining : R → Option (List ℕ)) (old new : Source R) : Type 0 where
  pub passed : IsGapPassed remaining (source_block old) (source_block new) (source_gap old) (source_gap new)
  pub next : IsNextWanted is_word_byte (source_block new)
  pub small : source_gap new ≤ 1048576

-- a number of so many bytes is buffered after so many separators, and a separator follows it
pub record IsBuffered {R : Type 0} (s : Source R) (gap value count : ℕ) : Type 0 where
  pub within : gap ≤ length (source_block s).left
  pub separators : list_all is_separator (take gap (source_block s).left) ≡ true
  pub small : source_gap s + gap ≤ 1048576
  pub begins : HasLeadingNumber value count (drop gap (source_block s).left)

-- so many separators come before a word, whose first byte is buffered
pub record IsBeforeWord {R : Type 0} (s : Source R) (gap : ℕ) : Type 0 where
  pub within : gap < length (source_block s).left
  pub separators : list_all is_separator (take gap (source_block s).left) ≡ true
  pub small : source_gap s + gap ≤ 1048576
  pub stops : (b : ℕ) (rest : List ℕ) → drop gap (source_block s).left ≡ b ∷ rest → is_word_byte b ≡ true

-- what a source has still to hand out, where its reader gives `more` from here on: the separators since the last word, the
-- buffered bytes, and `more`
pub record IsAhead {R : Type 0} (s : Source R) (more input : List ℕ) : Type 0 where
  pub gap : List ℕ
  pub separators : list_all is_separator gap ≡ true
  pub long : length gap ≡ source_gap s
  pub input_is : input ≡ gap ++ ((source_block s).left ++ more)

-- the rest of an input that a source has still to hand out, and a statement that holds of it
pub record HasRest {R : Type 0} (s : Source R) (more : List ℕ) (Says : List ℕ → Type 0) : Type 0 where
  pub rest : List ℕ
  pub ahead : IsAhead s more rest
  pub says : Says rest

-- a call took some bytes from the reader, none after its end; whatever the reader gives from here on, this holds of the input
-- before the call and the rest after it
pub record HasReadInput {R : Type 0} (remaining : R → Option (List ℕ)) (old new : Source R) (Says : (input rest : List ℕ) → Type 0) : Type 0 where
  pub got : List ℕ
  pub consumed : Consumes (remaining (source_reader old)) (remaining (source_reader new)) got
  pub after_end : (source_block old).ended ≡ true → (got ≡ []) × ((source_block new).ended ≡ true)
  pub says : (more input : List ℕ) → ((source_block new).ended ≡ true → more ≡ []) → IsAhead old (got ++ more) input → HasRest new more (Says input)

-- a call after which no more is read: whatever the reader gives from here on, this holds of the input before it
pub record HasFound {R : Type 0} (remaining : R → Option (List ℕ)) (old new : Source R) (Says : (input : List ℕ) → Type 0) : Type 0 where
  pub got : List ℕ
  pub consumed : Consumes (remaining (source_reader old)) (remaining (source_reader new)) got
  pub after_end : (source_block old).ended ≡ true → (got ≡ []) × ((source_block new).ended ≡ true)
  pub says : (more input : List ℕ) → ((source_block new).ended ≡ true → more ≡ []) → IsAhead old (got ++ more) input → Says input

-- why a call gave no value
abbrev pub missed_of : {A : Type 0} → Result A Missed → Option Missed
missed_of (Ok value) = None
missed_of (Err missed) = Some missed

-- how often the reader failed, after a call: once more where it answered an error, after which it is not asked again
abbrev pub failures_after : {A : Type 0} → Result A Missed → ℕ → ℕ
failures_after (Ok value) count = count
failures_after (Err (Fault kind)) count = count
failures_after (Err Input) count = raised count 1
