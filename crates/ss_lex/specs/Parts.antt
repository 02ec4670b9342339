-- The reserved words in parts.
use Rattle.std.specs.Prelude.{ℕ, List, take, drop, nat_lt, if◌then◌else◌}
use Rattle.ss_lex.specs.declared.word.Word.{Word}
use Rattle.ss_lex.specs.Words.{reserved}

-- so many of the reserved words, from this place on
abbrev pub part : ℕ → ℕ → List (List ℕ × Word)
part from count = take count (drop from reserved)

-- the reserved words that can begin with this byte, among others
abbrev pub part_for : ℕ → List (List ℕ × Word)
part_for first =
    if nat_lt first 69 then part 0 29
    else if nat_lt first 77 then part 29 42
    else if nat_lt first 83 then part 71 37
    else part 108 33
