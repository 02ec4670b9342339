use Rattle.std.proofs.Common.{◌≡◌, ◌++◌, drop}
use Rattle.ss_base.specs.declared.value.Value.TheVariants.{Whole}
use Rattle.ss_meaning.specs.Values.{turned}
use Rattle.ss_meaning.specs.Events.{ties_of}
use Rattle.ss_meaning.specs.Store.{Store}
use Rattle.ss_machine_world.specs.Seen.{with_seen}
use Rattle.ss_machine_events.proofs.scheduling.frozen.Given as goal

abbrev pub invariant-loop-key : goal.invariant-loop-key
invariant-loop-key l =
    (s : Store) → ties_of l.class (Whole l.notice) (with_seen s l.world) l.keys ≡ turned (λ ts. l.ties.items ++ ts) (ties_of l.class (Whole l.notice) (with_seen s l.world) (drop l.key-index l.keys))
