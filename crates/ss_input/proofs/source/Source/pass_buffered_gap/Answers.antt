use Rattle.std.proofs.Common.{rules, ◌≡◌, ◌+◌, drop}
use Rattle.ss_input.proofs.Common.{Source, source_block, source_gap}
use Rattle.ss_input.proofs.BufferedNumber.{gap_when_buffered}
use Rattle.ss_input.proofs.source.Source.pass_buffered_gap.Goals as goal

pub returns-clause-read : goal.returns-clause-read
returns-clause-read g c =
    let old = c.args.self.now in
    let new : Source g.row.R.Denot = record { block = c.pass.new.self; gap = c.self.inside.0.1.0.count + c.args.gap; missed = c.self.inside.0.1.1.0 } in
    let block : source_block new ≡ record { reader = (source_block old).reader; left = drop c.args.gap (source_block old).left; ended = (source_block old).ended } = search rules in
    let count : source_gap new ≡ source_gap old + c.args.gap = search rules in
    gap_when_buffered g.R.FaultyRead.remaining old new c.args.gap c.requires block count
