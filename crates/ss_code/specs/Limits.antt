-- How large the code of a program may be.
use Rattle.std.specs.Prelude.{ℕ}

-- the most instructions of a program
abbrev pub instruction_limit : ℕ
instruction_limit = 1048576

-- a tree of at most so many nodes is never one whose code is too long
abbrev pub small_program : ℕ
small_program = 16384
