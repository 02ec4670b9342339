use Rattle.std.proofs.Common.{rules, ◌≡◌, true, replicate, sym, ap, ◌∙◌, subst, w64, of_z, to_z, pos}
use Rattle.std.specs.Prelude.{int_lt, ◌||◌}
use Rattle.ss_machine.proofs.Common.{Appends, BadCount, Breaks, Compiled, HasTakenLess, HasWritten, IsSending, line_end, line_or, NoOutput, on_after, Rest}
use Rattle.ss_code_instructions.specs.declared.instruction.Instruction.TheVariants.{Skip as Runs}
use Rattle.std.proofs.KnownBytes.{Keeps-refl}
use Rattle.ss_machine.proofs.Written.{count_within, skip_fails, skip_sends, skip_on, few_lines, bad_lines, unwritten}
use Rattle.ss_machine.proofs.printing.skip.Goals as goal

abbrev None_handed : Compiled → Type 0
None_handed w = Unit {0}

pub number-count-requires : goal.number-count-requires
number-count-requires g c = let z = c.requires in count_within z.0 z.1 c.args.here c.args.state.now c.args.count.now z.2

pub returns-then-is_bad-clause-written : goal.returns-then-is_bad-clause-written
returns-then-is_bad-clause-written g c =
    let s = c.args.state.now in
    let n = c.number-count.result in
    let known = g.W.FaultyWrite.contents c.args.sink.now.writer in
    let same : to_z w64 (of_z w64 n) ≡ n = search rules in
    let test : (int_lt (to_z w64 (of_z w64 n)) (pos 0) || int_lt (pos 1000) (to_z w64 (of_z w64 n))) ≡ true = sym c.is_bad.ensures ∙ c.if-is_bad.true in
    let bad = bad_lines n (subst (λ m. (int_lt m (pos 0) || int_lt (pos 1000) m) ≡ true) same test) in
    subst (λ o. HasWritten None_handed c.args.here s (Runs c.args.count.now) known known c.fault.new.self o) (ap (on_after c.args.here) (sym c.fault.ensures.none))
    (rw c.fault.ensures.faulted (
      Keeps-refl known,
      λ w core u r. skip_fails w core c.args.here s c.args.count.now r n c.number-count.ensures bad ∙ ap (λ o. Rest (Breaks BadCount (line_or r.placed.line o))) (sym r.holds.line),
    ))

pub returns-in-Ok-clause-written : goal.returns-in-Ok-clause-written
returns-in-Ok-clause-written g c =
    let s = c.args.state.now in
    let n = c.number-count.result in
    let k = c.lines_in.result in
    let before = g.W.FaultyWrite.contents c.args.sink.now.writer in
    let after = g.W.FaultyWrite.contents c.send_empty.new.sink.writer in
    let same : to_z w64 (of_z w64 n) ≡ n = search rules in
    let good = few_lines n k (sym same ∙ c.lines_in.ensures.number) c.lines_in.ensures.few in
    let took : Appends before after (replicate k line_end) = search rules in
    record {
      bytes = replicate k line_end;
      took = took;
      goes = λ w core u r. skip_on w core c.args.here s c.args.count.now r n c.number-count.ensures (replicate k line_end) good;
    }

pub returns-in-Err-clause-written : goal.returns-in-Err-clause-written
returns-in-Err-clause-written g c =
    let s = c.args.state.now in
    let n = c.number-count.result in
    let k = c.lines_in.result in
    let before = g.W.FaultyWrite.contents c.args.sink.now.writer in
    let after = g.W.FaultyWrite.contents c.send_empty.new.sink.writer in
    let same : to_z w64 (of_z w64 n) ≡ n = search rules in
    let good = few_lines n k (sym same ∙ c.lines_in.ensures.number) c.lines_in.ensures.few in
    let less : HasTakenLess before after (replicate k line_end) = search rules in
    let failed : c.in-Err.ending ≡ NoOutput = c.send_empty.ensures.reason c.in-Err.ending c.in-Err.is in
    unwritten None_handed c.args.here s (Runs c.args.count.now) before after c.in-Err.ending c.stop.new.self (on_after c.args.here c.stop.result) failed
    (record {
      part = less.part;
      took = less.took;
      within = λ w core u r. (less.rest, less.more, subst (IsSending c.args.here s (Runs c.args.count.now) w core r) less.whole (skip_sends w core c.args.here s c.args.count.now r n c.number-count.ensures (replicate k line_end) good));
    })
    c.stop.ensures.stopped (ap (on_after c.args.here) c.stop.ensures.none)
