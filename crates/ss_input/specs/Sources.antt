-- What is seen of a source of input data, and what a call of it reads.
use Rattle.std.specs.Prelude.{◌≡◌, ◌≢◌, ◌⊎◌, ℕ, ◌+◌, Bool, true, false, List, [], ◌∷◌, ◌++◌, length, if◌then◌else◌, Option}
use Rattle.std.specs.List.{list_all}
use Rattle.std.specs.Io.KnownBytes.{Consumes}
use Rattle.ss_input.specs.Blocks.{BlockSeen}
use Rattle.ss_input.specs.Words.{is_separator, is_word_byte}

-- the reader gave some bytes, none after its end
pub record HasGivenBytes {R : Type 0} (remaining : R → Option (List ℕ)) (old new : BlockSeen R) : Type 0 where
  pub got : List ℕ
  pub consumed : Consumes (remaining old.reader) (remaining new.reader) got
  pub after_end : old.ended ≡ true → (got ≡ []) × (new.ended ≡ true)

-- bytes that were passed: the reader gave some, none after its end; what was left and what it gave is what was passed and what
-- is left now
pub record HasPassed {R : Type 0} (remaining : R → Option (List ℕ)) (old new : BlockSeen R) (bytes : List ℕ) : Type 0 where
  pub got : List ℕ
  pub consumed : Consumes (remaining old.reader) (remaining new.reader) got
  pub after_end : old.ended ≡ true → (got ≡ []) × (new.ended ≡ true)
  pub same : old.left ++ got ≡ bytes ++ new.left

-- some bytes of which this holds were passed
pub record HasPassedSome {R : Type 0} (remaining : R → Option (List ℕ)) (old new : BlockSeen R) (Holds : List ℕ → Type 0) : Type 0 where
  pub bytes : List ℕ
  pub passes : HasPassed remaining old new bytes
  pub holds : Holds bytes

-- the next byte passes a test; where none is buffered, the reader has given its end
pub record IsNextWanted {R : Type 0} (is_wanted : ℕ → Bool) (block : BlockSeen R) : Type 0 where
  pub at_end : block.left ≡ [] → block.ended ≡ true
  pub before : (b : ℕ) (bs : List ℕ) → block.left ≡ b ∷ bs → is_wanted b ≡ true

-- separators were passed, so many with those before them
abbrev pub IsGapPassed : {R : Type 0} → (R → Option (List ℕ)) → BlockSeen R → BlockSeen R → (before count : ℕ) → Type 0
IsGapPassed remaining old new before count =
    HasPassedSome remaining old new (λ bytes. (list_all is_separator bytes ≡ true) × (before + length bytes ≡ count))

-- the bytes of a word were passed
abbrev pub IsWordPassed : {R : Type 0} → (R → Option (List ℕ)) → BlockSeen R → BlockSeen R → List ℕ → Type 0
IsWordPassed remaining old new bytes = HasPassed remaining old new bytes × (list_all is_word_byte bytes ≡ true)

-- what comes after the first bytes that pass a test
abbrev pub after_while : (ℕ → Bool) → List ℕ → List ℕ
after_while passes [] = []
after_while passes (b ∷ bs) = if passes b then after_while passes bs else b ∷ bs

-- whether a block knows without its reader what comes after bytes that pass a test: a byte after them is buffered, or the
-- reader has given its end
abbrev pub IsEnough : {R : Type 0} → (ℕ → Bool) → BlockSeen R → Type 0
IsEnough passes block = (block.ended ≡ true) ⊎ (after_while passes block.left ≢ [])

-- some such buffered bytes were passed, and the reader was not asked
pub record IsUnasked {R : Type 0} (passes : ℕ → Bool) (old new : BlockSeen R) : Type 0 where
  pub reader : new.reader ≡ old.reader
  pub ended : new.ended ≡ old.ended
  pub same : after_while passes new.left ≡ after_while passes old.left

-- whether a block knows without its reader where the next word ends
abbrev pub HasWord : {R : Type 0} → BlockSeen R → Type 0
HasWord block = (block.ended ≡ true) ⊎ (after_while is_word_byte (after_while is_separator block.left) ≢ [])

-- all buffered bytes, and those that the reader gave, pass a test and were passed; it gave no end, and has to be asked for more
pub record MustAskMore {R : Type 0} (remaining : R → Option (List ℕ)) (passes : ℕ → Bool) (old new : BlockSeen R) : Type 0 where
  pub passed : HasPassedSome remaining old new (λ bytes. list_all passes bytes ≡ true)
  pub none_left : new.left ≡ []
  pub goes_on : new.ended ≡ false

-- the next word ends neither in the buffered bytes nor in those that the reader gave, and it gave no end
pub record IsLackingWord {R : Type 0} (remaining : R → Option (List ℕ)) (old new : BlockSeen R) : Type 0 where
  pub got : List ℕ
  pub consumed : Consumes (remaining old.reader) (remaining new.reader) got
  pub after_end : old.ended ≡ true → (got ≡ []) × (new.ended ≡ true)
  pub short : after_while is_word_byte (after_while is_separator (old.left ++ got)) ≡ []
  pub goes_on : new.ended ≡ false
