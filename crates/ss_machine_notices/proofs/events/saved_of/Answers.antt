use Rattle.std.proofs.Common.{length, ap, ◌∙◌, arith}
use Rattle.ss_machine_notices.proofs.Common.{Notices, Seen}
use Rattle.ss_machine_notices.proofs.Beginning.{read_said}
use Rattle.ss_machine_notices.proofs.events.saved_of.Goals as goal

pub bounds-notices-rank : goal.bounds-notices-rank
bounds-notices-rank c = omega (arith, c.requires, ap length c.as_slice-notices.ensures.value, ap (λ (e : Seen). length e.notices) c.world.view_is)

pub returns : goal.returns
returns c = λ said here.
    let same = c.as_slice-notices.ensures.value ∙ ap (λ (e : Seen). e.notices) c.world.view_is in
    c.saved.ensures ∙ ap (λ (n : Notices). n.saved) (read_said c.as_slice-notices.result.now c.args.world.now.notices c.args.rank c.index-notices-rank.result said same c.requires c.index-notices-rank.is here)
