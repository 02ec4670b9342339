use Rattle.std.proofs.Common.{◌≡◌, Some, Ok, Err, ◌∙◌, sym, ap}
use Rattle.ss_input.proofs.Common.{BlockSeen, failures_after, if_read, value_given}
use Rattle.ss_input.proofs.Failures.{never_falls, failed_once}
use Rattle.ss_input.proofs.Reached.{reads_moved, finds_moved, nothing_found}
use Rattle.ss_input.proofs.source.Source.next_value.Goals as goal

pub returns-clause-read : goal.returns-clause-read
returns-clause-read g c x e =
    reads_moved g.R.FaultyRead.remaining c.args.self.now c.read_value-answer.new.self c.remember.new.self (λ input rest. value_given g.V.WordValue.mode input ≡ if_read (g.V.WordValue.values (Some x)) rest) (sym c.remember.ensures.block) (sym c.remember.ensures.gap) (c.read_value-answer.ensures.read x (sym c.remember.ensures.same ∙ e))

pub returns-clause-fault : goal.returns-clause-fault
returns-clause-fault g c kind e =
    finds_moved g.R.FaultyRead.remaining c.args.self.now c.read_value-answer.new.self c.remember.new.self (λ input. value_given g.V.WordValue.mode input ≡ Err kind) (sym c.remember.ensures.block) (c.read_value-answer.ensures.fault kind (sym c.remember.ensures.same ∙ e))

pub returns-clause-lost : goal.returns-clause-lost
returns-clause-lost g c e =
    nothing_found g.R.FaultyRead.remaining c.args.self.now c.read_value-answer.new.self c.remember.new.self (sym c.remember.ensures.block) (c.read_value-answer.ensures.gives (sym c.remember.ensures.same ∙ e))

pub returns-clause-input : goal.returns-clause-input
returns-clause-input g c e =
    failed_once c.read_value-answer.result _ _ (sym c.remember.ensures.same ∙ e)
    (ap (λ (b : BlockSeen g.row.R.Denot). g.R.Faulty.faults b.reader) c.remember.ensures.block ∙ c.read_value-answer.ensures.counted)

pub returns-clause-counted : goal.returns-clause-counted
returns-clause-counted g c =
    ap (λ (b : BlockSeen g.row.R.Denot). g.R.Faulty.faults b.reader) c.remember.ensures.block ∙ c.read_value-answer.ensures.counted
    ∙ ap (λ a. failures_after a (g.R.Faulty.faults c.args.self.now.block.reader)) (sym c.remember.ensures.same)

pub returns-clause-never_falls : goal.returns-clause-never_falls
returns-clause-never_falls g c =
    never_falls c.read_value-answer.result _ _
    (ap (λ (b : BlockSeen g.row.R.Denot). g.R.Faulty.faults b.reader) c.remember.ensures.block ∙ c.read_value-answer.ensures.counted)

pub returns-clause-unasked : goal.returns-clause-unasked
returns-clause-unasked g c has =
    ap (λ (b : BlockSeen g.row.R.Denot). b.reader) c.remember.ensures.block ∙ c.read_value-answer.ensures.unasked has
