use Rattle.std.proofs.Common.{rules, ◌≡◌, ◌+◌, drop, refl}
use Rattle.ss_input.proofs.Common.{Source, source_block}
use Rattle.ss_input.proofs.BufferedNumber.{buffered_read}
use Rattle.ss_input.proofs.source.Source.pass_number.Goals as goal

pub returns-clause-read : goal.returns-clause-read
returns-clause-read g c =
    let old = c.args.self.now in
    let new : Source g.row.R.Denot = record { block = c.pass.new.self; gap = 0; missed = old.missed } in
    let k = c.args.number.gap in
    let n = c.args.number.count in
    let block : source_block new ≡ record { reader = (source_block old).reader; left = drop (k + n) (source_block old).left; ended = (source_block old).ended } = search rules in
    buffered_read g.R.FaultyRead.remaining old new k c.args.number.value n c.requires block refl
