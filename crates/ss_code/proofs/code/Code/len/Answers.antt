use Rattle.std.proofs.Common.{subst}
use Rattle.ss_code.specs.Running.{IsGenerated}
use Rattle.ss_code.proofs.code.Code.len.Goals as goal

pub returns-clause-made : goal.returns-clause-made
returns-clause-made c = subst (λ code. IsGenerated code) c.self.view_is c.self.invariant
