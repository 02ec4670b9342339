use Rattle.std.proofs.Common.{rules, ◌≡◌, ◌≤◌, take, length, Ok, Err, None, ap, sym, subst, refl}
use Rattle.ss_base.specs.declared.fault.FaultKind.TheVariants.{EndOfData, BadData}
use Rattle.ss_input.proofs.Common.{Fault, first_input_byte, HasFound, HasReached, HasReadInput, Input, leading_word, next_word, Source, source_block}
use Rattle.ss_input.proofs.Reached.{too_many_found, none_found, word_found, too_long_found, finds_so}
use Rattle.ss_input.proofs.Asked.{gap_unasked, word_unasked}
use Rattle.ss_input.proofs.Passages.{gives_then}
use Rattle.ss_input.proofs.Wanting.{lacks_gap, lacks_word}
use Rattle.ss_input.proofs.source.Source.read_word.Goals as goal

pub returns-in_err-reach_word-clause-fault : goal.returns-in_err-reach_word-clause-fault
returns-in_err-reach_word-clause-fault g c kind e =
    let same : c.reach_word.result ≡ Err (Fault kind) = search rules in
    let h = c.reach_word.ensures.fault kind same in
    subst (λ k. HasFound g.R.FaultyRead.remaining c.args.self.now c.reach_word.new.self (λ input. next_word input ≡ Err k)) (sym h.0)
    (finds_so g.R.FaultyRead.remaining c.args.self.now c.reach_word.new.self _ _ (λ input q. ap leading_word q) (too_many_found g.R.FaultyRead.remaining c.args.self.now c.reach_word.new.self h.1))

pub returns-then-is_none-clause-fault : goal.returns-then-is_none-clause-fault
returns-then-is_none-clause-fault g c kind e =
    let same : EndOfData ≡ kind = cc in
    let reached : HasReached g.R.FaultyRead.remaining c.args.self.now c.reach_word.new.self = search rules in
    let none : first_input_byte (source_block c.reach_word.new.self).left ≡ None = search rules in
    subst (λ k. HasFound g.R.FaultyRead.remaining c.args.self.now c.reach_word.new.self (λ input. next_word input ≡ Err k)) same
    (finds_so g.R.FaultyRead.remaining c.args.self.now c.reach_word.new.self _ _ (λ input q. ap leading_word q) (none_found g.R.FaultyRead.remaining c.args.self.now c.reach_word.new.self reached reached.small none))

pub returns-in-Ok-Some-clause-ok : goal.returns-in-Ok-Some-clause-ok
returns-in-Ok-Some-clause-ok g c = (c.in-Ok-Some.ensures.passed c.in-Ok-Some.count (ap Ok c.in-Ok-Some.field-0-is)).1

pub returns-in-Ok-Some-clause-read : goal.returns-in-Ok-Some-clause-read
returns-in-Ok-Some-clause-read g c count e =
    let same : c.in-Ok-Some.count ≡ count = cc in
    let reached : HasReached g.R.FaultyRead.remaining c.args.self.now c.reach_word.new.self = search rules in
    let some : first_input_byte (source_block c.reach_word.new.self).left ≡ None → ⊥ = search rules in
    let p = c.in-Ok-Some.ensures.passed c.in-Ok-Some.count (ap Ok c.in-Ok-Some.field-0-is) in
    let long : length (take c.in-Ok-Some.count c.pass_word.new.word) ≤ 64 = search rules in
    let new : Source g.row.R.Denot = record { block = c.pass_word.new.block; gap = 0; missed = c.reach_word.new.self.missed } in
    subst (λ n. HasReadInput g.R.FaultyRead.remaining c.args.self.now new (λ input rest. next_word input ≡ Ok (record { value = take n c.pass_word.new.word; rest = rest }))) same
    (word_found g.R.FaultyRead.remaining c.args.self.now c.reach_word.new.self new reached reached.small some (take c.in-Ok-Some.count c.pass_word.new.word) p.0 long p.2 refl)

pub returns-in-Ok-None-clause-fault : goal.returns-in-Ok-None-clause-fault
returns-in-Ok-None-clause-fault g c kind e =
    let same : BadData ≡ kind = cc in
    let reached : HasReached g.R.FaultyRead.remaining c.args.self.now c.reach_word.new.self = search rules in
    let some : first_input_byte (source_block c.reach_word.new.self).left ≡ None → ⊥ = search rules in
    let new : Source g.row.R.Denot = record { block = c.pass_word.new.block; gap = c.reach_word.new.self.gap; missed = c.reach_word.new.self.missed } in
    subst (λ k. HasFound g.R.FaultyRead.remaining c.args.self.now new (λ input. next_word input ≡ Err k)) same
    (too_long_found g.R.FaultyRead.remaining c.args.self.now c.reach_word.new.self new reached reached.small some (c.in-Ok-None.ensures.too_long (ap Ok c.in-Ok-None.field-0-is)))

pub returns-in-Err-clause-gives : goal.returns-in-Err-clause-gives
returns-in-Err-clause-gives g c e =
    let reached : HasReached g.R.FaultyRead.remaining c.args.self.now c.reach_word.new.self = search rules in
    gives_then g.R.FaultyRead.remaining (source_block c.args.self.now) (source_block c.reach_word.new.self) c.pass_word.new.block reached.passed.bytes reached.passed.passes c.in-Err.ensures.gives

pub returns-in_err-reach_word-clause-unasked : goal.returns-in_err-reach_word-clause-unasked
returns-in_err-reach_word-clause-unasked g c = gap_unasked (source_block c.args.self.now) (source_block c.reach_word.new.self) c.reach_word.ensures.unasked

pub returns-then-is_none-clause-unasked : goal.returns-then-is_none-clause-unasked
returns-then-is_none-clause-unasked g c = gap_unasked (source_block c.args.self.now) (source_block c.reach_word.new.self) c.reach_word.ensures.unasked

pub returns-in-Ok-Some-clause-unasked : goal.returns-in-Ok-Some-clause-unasked
returns-in-Ok-Some-clause-unasked g c =
    let reached : HasReached g.R.FaultyRead.remaining c.args.self.now c.reach_word.new.self = search rules in
    word_unasked (source_block c.args.self.now) (source_block c.reach_word.new.self) c.pass_word.new.block c.reach_word.ensures.unasked reached.next c.pass_word.ensures.unasked

pub returns-in-Ok-None-clause-unasked : goal.returns-in-Ok-None-clause-unasked
returns-in-Ok-None-clause-unasked g c =
    let reached : HasReached g.R.FaultyRead.remaining c.args.self.now c.reach_word.new.self = search rules in
    word_unasked (source_block c.args.self.now) (source_block c.reach_word.new.self) c.pass_word.new.block c.reach_word.ensures.unasked reached.next c.pass_word.ensures.unasked

pub returns-in-Err-clause-unasked : goal.returns-in-Err-clause-unasked
returns-in-Err-clause-unasked g c =
    let reached : HasReached g.R.FaultyRead.remaining c.args.self.now c.reach_word.new.self = search rules in
    word_unasked (source_block c.args.self.now) (source_block c.reach_word.new.self) c.pass_word.new.block c.reach_word.ensures.unasked reached.next c.pass_word.ensures.unasked

pub returns-in_err-reach_word-clause-lacks : goal.returns-in_err-reach_word-clause-lacks
returns-in_err-reach_word-clause-lacks g c e =
    let same : c.reach_word.result ≡ Err Input = search rules in
    lacks_gap g.R.FaultyRead.remaining (source_block c.args.self.now) (source_block c.reach_word.new.self) (c.reach_word.ensures.wants same)

pub returns-in-Err-clause-lacks : goal.returns-in-Err-clause-lacks
returns-in-Err-clause-lacks g c e =
    let reached : HasReached g.R.FaultyRead.remaining c.args.self.now c.reach_word.new.self = search rules in
    lacks_word g.R.FaultyRead.remaining (source_block c.args.self.now) (source_block c.reach_word.new.self) c.pass_word.new.block _ _ reached.passed c.in-Err.ensures.wants
