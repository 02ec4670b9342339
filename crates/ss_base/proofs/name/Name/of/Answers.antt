use Rattle.std.proofs.Common.{sym, subst, arith}
use Rattle.ss_base.specs.Names.{IsName}
use Rattle.ss_base.proofs.Capitals.{capitals_are_name}
use Rattle.ss_base.proofs.name.Name.of.Goals as goal

pub invariant_of-result : goal.invariant_of-result
invariant_of-result c = subst IsName (sym c.in_capitals.ensures) (capitals_are_name c.args.bytes.now (omega arith) (omega arith))
