use Rattle.std.proofs.Common.{rules, ◌≡◌, Ok, Err, ap, sym, subst}
use Rattle.ss_input.proofs.Common.{BadData, Fault, from_word, HasFound, HasReached, is_ended, no_word, source_block}
use Rattle.ss_input.proofs.Reached.{too_many_found, finds_so, end_found}
use Rattle.ss_input.proofs.source.Source.find_end.Goals as goal

pub returns-in_err-reach_word-clause-fault : goal.returns-in_err-reach_word-clause-fault
returns-in_err-reach_word-clause-fault g c kind e =
    let same : c.reach_word.result ≡ Err (Fault kind) = search rules in
    let h = c.reach_word.ensures.fault kind same in
    subst (λ k. HasFound g.R.FaultyRead.remaining c.args.self.now c.reach_word.new.self (λ input. is_ended input ≡ Err k)) (sym h.0)
    (finds_so g.R.FaultyRead.remaining c.args.self.now c.reach_word.new.self (λ input. from_word input ≡ Err BadData) (λ input. is_ended input ≡ Err BadData) (λ input q. ap no_word q) (too_many_found g.R.FaultyRead.remaining c.args.self.now c.reach_word.new.self h.1))

pub returns-clause-read : goal.returns-clause-read
returns-clause-read g c ended e =
    let reached : HasReached g.R.FaultyRead.remaining c.args.self.now c.reach_word.new.self = search rules in
    let is : no_word (Ok (source_block c.reach_word.new.self).left) ≡ Ok ended = search rules in
    end_found g.R.FaultyRead.remaining c.args.self.now c.reach_word.new.self reached ended is
