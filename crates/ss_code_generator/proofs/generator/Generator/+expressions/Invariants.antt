use Rattle.std.proofs.Common.{take}
use Rattle.ss_code_generator.proofs.Common.{Expression, Generator, HasReadOperand, Lined, with_operations}
use Rattle.ss_code_generator.proofs.generator.Generator.+expressions.Given as goal

abbrev pub invariant-work_off-loop-i : goal.invariant-work_off-loop-i
invariant-work_off-loop-i l =
    (old : Generator) (before : Lined) (e : Expression) → HasReadOperand old l.fn.self before l.fn.code l.site e l.fn.left → HasReadOperand old l.self before l.code l.site (with_operations e (take l.i l.further)) l.left
