use Rattle.std.proofs.Common.{◌≡◌, false, Ok, Err, ◌∙◌, sym, ap, subst}
use Rattle.ss_input.proofs.Common.{BlockSeen, failures_after, HasReadInput, is_ended}
use Rattle.ss_input.proofs.Failures.{never_falls, failed_once}
use Rattle.ss_input.proofs.Reached.{reads_moved, finds_moved, nothing_found}
use Rattle.ss_input.proofs.source.Source.ended.Goals as goal

pub returns-clause-read : goal.returns-clause-read
returns-clause-read g c x e =
    reads_moved g.R.FaultyRead.remaining c.args.self.now c.find_end-answer.new.self c.remember.new.self (λ input rest. (rest ≡ input) × (is_ended input ≡ Ok x)) (sym c.remember.ensures.block) (sym c.remember.ensures.gap) (c.find_end-answer.ensures.read x (sym c.remember.ensures.same ∙ e))

pub returns-clause-fault : goal.returns-clause-fault
returns-clause-fault g c none kind e =
    finds_moved g.R.FaultyRead.remaining c.args.self.now c.find_end-answer.new.self c.remember.new.self (λ input. is_ended input ≡ Err kind) (sym c.remember.ensures.block) (c.find_end-answer.ensures.fault kind (sym c.remember.ensures.same ∙ e))

pub returns-clause-lost : goal.returns-clause-lost
returns-clause-lost g c none e =
    nothing_found g.R.FaultyRead.remaining c.args.self.now c.find_end-answer.new.self c.remember.new.self (sym c.remember.ensures.block) (c.find_end-answer.ensures.gives (sym c.remember.ensures.same ∙ e))

pub returns-clause-input : goal.returns-clause-input
returns-clause-input g c none e =
    failed_once c.find_end-answer.result _ _ (sym c.remember.ensures.same ∙ e)
    (ap (λ (b : BlockSeen g.row.R.Denot). g.R.Faulty.faults b.reader) c.remember.ensures.block ∙ c.find_end-answer.ensures.counted)

pub returns-clause-counted : goal.returns-clause-counted
returns-clause-counted g c none =
    ap (λ (b : BlockSeen g.row.R.Denot). g.R.Faulty.faults b.reader) c.remember.ensures.block ∙ c.find_end-answer.ensures.counted
    ∙ ap (λ a. failures_after a (g.R.Faulty.faults c.args.self.now.block.reader)) (sym c.remember.ensures.same)

pub returns-clause-never_falls : goal.returns-clause-never_falls
returns-clause-never_falls g c =
    never_falls c.find_end-answer.result _ _
    (ap (λ (b : BlockSeen g.row.R.Denot). g.R.Faulty.faults b.reader) c.remember.ensures.block ∙ c.find_end-answer.ensures.counted)

pub returns-clause-unasked : goal.returns-clause-unasked
returns-clause-unasked g c enough =
    let h = c.find_end-answer.ensures.unasked enough in
    ap (λ (b : BlockSeen g.row.R.Denot). b.reader) c.remember.ensures.block ∙ h.reader

pub returns-in-Some-buffered_gap-clause-read : goal.returns-in-Some-buffered_gap-clause-read
returns-in-Some-buffered_gap-clause-read g c ended e =
    let same : false ≡ ended = cc in
    subst (λ b. HasReadInput g.R.FaultyRead.remaining c.args.self.now c.pass_buffered_gap.new.self (λ input rest. (rest ≡ input) × (is_ended input ≡ Ok b))) same c.pass_buffered_gap.ensures.read
