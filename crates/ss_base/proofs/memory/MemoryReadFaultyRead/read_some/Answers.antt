use Rattle.std.proofs.Common.{◌∙◌, ◌≤◌, sym, ap, drop, length, arith}
use Rattle.ss_base.proofs.Given.{given, none_left}
use Rattle.ss_base.proofs.memory.MemoryReadFaultyRead.read_some.Goals as goal

pub returns-in-Some-clause-bytes : goal.returns-in-Some-clause-bytes
returns-in-Some-clause-bytes c =
    let whole = c.split_at.ensures.back ∙ ap (drop c.self.inside.at) c.deref.ensures.value in
    let within : c.in-Some.count ≤ length c.split_at.result.1.now = omega (arith, c.in-Some.ensures.within, c.min-could.ensures) in (
      given _ _ _ _ _ _ _ (ap (λ r. r.remaining) (sym c.self.view_is)) whole c.copy_from_slice.ensures.after within,
      none_left _ _ _ _ _ _ _ whole c.copy_from_slice.ensures.after c.min-could.ensures c.in-Some.ensures.within c.in-Some.ensures.some,
    )
