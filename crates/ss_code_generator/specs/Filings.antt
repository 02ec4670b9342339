-- Which instruction files a member, by the order of the set.
use Rattle.std.specs.Prelude.{ℕ, Bool}
use Rattle.ss_code_instructions.specs.declared.address.Address.{Address}
use Rattle.ss_code_instructions.specs.declared.instruction.Instruction.{Instruction}
use Rattle.ss_code_instructions.specs.declared.instruction.Instruction.TheVariants as r
use Rattle.ss_code_pieces.specs.declared.facts.Ordering.{Ordering}
use Rattle.ss_code_pieces.specs.declared.facts.Ordering.TheVariants as orderings

abbrev pub filing_instruction : Ordering → (set : ℕ) → (member owner : Address) → (noted : Bool) → Instruction
filing_instruction orderings.First set member owner noted = r.FileFirst set member owner noted
filing_instruction orderings.Last set member owner noted = r.FileLast set member owner noted
filing_instruction orderings.Ranked set member owner noted = r.FileRanked set member owner noted
