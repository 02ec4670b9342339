-- What the words of a block mean.
use Rattle.std.specs.Prelude.{◌≡◌, ℕ, ◌+◌, cond, List, [], ◌∷◌, ◌++◌, map, pos, Option, Some, None}
use Rattle.std.specs.Int.{to_be_bytes, cast_signed}
use Rattle.std.specs.Option.{unwrap_or}
use mir.Syntax.{w64}
use denote.RawPtr.{Ptr}
use Rattle.ss_base.specs.declared.value.Value.{Value}
use Rattle.ss_base.specs.declared.value.Value.TheVariants.{Whole, Text}
use Rattle.ss_base.specs.Values.{text_of}
use Rattle.ss_base.specs.Room.{before_zero}
use Rattle.ss_base.specs.declared.layout.Mode.{Mode}
use Rattle.ss_base.specs.declared.layout.Mode.TheVariants.{Integer, Alpha}
use Rattle.ss_base.specs.declared.layout.Layout.{Layout}
use Rattle.ss_base.specs.Layout.{mode_of}
use Rattle.ss_records_blocks.specs.declared.store.BlockPlace.{BlockPlace}
use Rattle.ss_records_blocks.specs.Cells.{Word, blank, number, counter, link, Cells, words_at, word_of, word_at, put_word}
use Rattle.ss_world.specs.State.{Record, kind_of, modes_of, is_notice}
use Rattle.ss_records_words.specs.Shape.{values_end}

-- the number in a word
abbrev pub plain : Word → ℕ
plain blank = 0
plain (number n) = n
plain (counter n) = 0
plain (link q) = 0

-- what two words mean: a whole number is the 64 bits of the first, a text the bytes of both without the zeros at the end
abbrev pub value_of_words : Mode → ℕ → ℕ → Value
value_of_words Integer a b = Whole (cast_signed w64 a)
value_of_words Alpha a b = Text (unwrap_or (text_of (before_zero (to_be_bytes w64 a ++ to_be_bytes w64 b))) [])

-- the values from the word k on, two words each
abbrev pub values_from : List Mode → List Word → ℕ → List Value
values_from [] ws k = []
values_from (m ∷ ms) ws k = value_of_words m (plain (word_of ws k)) (plain (word_of ws (k + 1))) ∷ values_from ms ws (k + 2)

-- the value in the words k and k + 1 of the block at p
abbrev pub value_at : Mode → Cells → Ptr → ℕ → Value
value_at m cs p k = value_of_words m (plain (word_at cs p k)) (plain (word_at cs p (k + 1)))

-- the blocks with these numbers as the words k and k + 1 of the block at p
abbrev pub put_two : Cells → Ptr → ℕ → ℕ → ℕ → Cells
put_two cs p k a b = put_word (put_word cs p k (number a)) p (k + 1) (number b)

-- only the words k and k + 1 of the block at p have changed: they are of the value v
pub record IsValuePut (cs ds : Cells) (p : Ptr) (k : ℕ) (v : Value) : Type 0 where
  pub first : ℕ
  pub second : ℕ
  pub value : value_of_words (mode_of v) first second ≡ v
  pub cells : ds ≡ put_two cs p k first second

abbrev pub class_in_words : List Word → ℕ
class_in_words ws = plain (word_of ws 0)

abbrev pub record_of : Layout → List Word → Record
record_of l ws = record {
  class = class_in_words ws;
  values = values_from (modes_of l (class_in_words ws)) ws 2;
  time = cond (is_notice (kind_of l (class_in_words ws))) (cast_signed w64 (plain (word_of ws (values_end l (class_in_words ws))))) (pos 0);
}

-- the record at an entry of the directory
abbrev pub record_at : Layout → Cells → Option BlockPlace → Option Record
record_at l cs None = None
record_at l cs (Some p) = Some (record_of l (words_at cs p.at))

-- the records at the entries of a permanent class
abbrev pub records_at : Layout → Cells → Option (List BlockPlace) → Option (List Record)
records_at l cs None = None
records_at l cs (Some ps) = Some (map (λ p. record_of l (words_at cs p.at)) ps)
