use Rattle.std.proofs.Common.{◌≡◌, ◌+◌, ◌≤◌, length, nat_eq, ◌-◌, subst, arith}
use Rattle.ss_records_blocks.specs.Pages.{Listed, entry}
use Rattle.ss_records_blocks.proofs.Paging.{upto_length, full_is}
use Rattle.ss_records_blocks.proofs.register.Register.is_full.Goals as goal

pub returns-clause-value : goal.returns-clause-value
returns-clause-value c = subst (λ (w : Listed). nat_eq (c.self.inside.issued - c.self.inside.start) 256 ≡ nat_eq (length w.places) (w.start + 256)) c.self.view_is (full_is c.self.inside.earlier c.self.inside.current c.self.inside.start c.self.inside.issued c.self.invariant)

pub returns-clause-bound : goal.returns-clause-bound
returns-clause-bound c = subst (λ (w : Listed). length w.places ≤ w.start + 256) c.self.view_is (omega (arith, c.self.invariant.high, upto_length (entry c.self.inside.earlier c.self.inside.current c.self.inside.start) c.self.inside.issued))
