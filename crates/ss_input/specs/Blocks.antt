-- What is seen of a block of input.
use Rattle.std.specs.Prelude.{◌≡◌, ◌≤◌, ℕ, length, Bool, true, false, List, [], ◌∷◌, ◌++◌, Option, Some, None, refl}
use Rattle.std.specs.Coded.{Coded, code_by, coded×, coded_list, coded_ℕ, coded_bool}
use Rattle.std.specs.Io.KnownBytes.{IsAtEnd, Consumes, Keeps}

-- the most bytes that a reader is asked for at a time
abbrev pub block_limit : ℕ
block_limit = 4096

-- a reader, the bytes that it gave and that are still to be looked at, and whether it gave an end
pub record BlockSeen (R : Type 0) : Type 0 where
  pub reader : R
  pub left : List ℕ
  pub ended : Bool

-- it is stored as its fields
abbrev pub coded_block : {R : Type 0} → Coded R → Coded (BlockSeen R)
coded_block {R} reader_code =
    code_by (R × (List ℕ × Bool)) (coded× reader_code (coded× (coded_list coded_ℕ) coded_bool)) (λ s. (s.reader, (s.left, s.ended))) (λ p. record { reader = p.0; left = p.1.0; ended = p.1.1 }) (λ _. refl)

-- the first byte, if there is one
abbrev pub first_input_byte : List ℕ → Option ℕ
first_input_byte [] = None
first_input_byte (b ∷ bs) = Some b

-- a block that was asked for where no byte was left: the reader gave these bytes, or its end
pub record HasFilled {R : Type 0} (remaining : R → Option (List ℕ)) (old new : BlockSeen R) : Type 0 where
  pub consumed : Consumes (remaining old.reader) (remaining new.reader) new.left
  pub at_end : new.left ≡ [] → new.ended ≡ true
  pub not_ended : (new.left ≡ [] → ⊥) → new.ended ≡ false
  pub few : length new.left ≤ block_limit

-- a reader that answered an error: it gave nothing, and all is as it was
pub record IsUnread {R : Type 0} (remaining : R → Option (List ℕ)) (old new : BlockSeen R) : Type 0 where
  pub kept : Keeps (remaining old.reader) (remaining new.reader)
  pub left : new.left ≡ old.left
  pub ended : new.ended ≡ old.ended

-- a look at the next byte: the reader gave some bytes, none after its end
pub record HasPeeked {R : Type 0} (remaining : R → Option (List ℕ)) (old new : BlockSeen R) (byte : Option ℕ) : Type 0 where
  pub got : List ℕ
  pub consumed : Consumes (remaining old.reader) (remaining new.reader) got
  pub left : new.left ≡ old.left ++ got
  pub after_end : old.ended ≡ true → (got ≡ []) × (new.ended ≡ true)
  pub byte_is : byte ≡ first_input_byte new.left
  pub at_end : byte ≡ None → new.ended ≡ true
  pub few : length got ≤ block_limit

-- where a block has met the end of its reader, that reader has nothing left, if this is known of it
abbrev pub IsEndKnown : {R : Type 0} → (R → Option (List ℕ)) → BlockSeen R → Type 0
IsEndKnown remaining b = b.ended ≡ true → IsAtEnd (remaining b.reader)
