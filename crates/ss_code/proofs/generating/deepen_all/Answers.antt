use Rattle.std.proofs.Common.{◌<◌, ◌≤◌, length, refl, ◌∙◌, arith}
use Rattle.std.proofs.lemmas.Option.{slice_get_read}
use Rattle.ss_meaning.proofs.Heaps.{set_length}
use Rattle.ss_code.proofs.Deeper.{one_deeper, all_deeper}
use Rattle.ss_code.proofs.generating.deepen_all.Goals as goal

pub loop-i-preserved : goal.loop-i-preserved
loop-i-preserved c =
    let l = c.loop-i in
    let xs = l.entries.items in
    let x = c.index_mut.result.now in
    let below : l.i < length xs = omega (arith, l.invariant.long, c.loop-i-test.true, c.len-i-end.ensures, c.args.entries.now.ok) in
    record {
      done = one_deeper c.args.depth l.i c.args.entries.now.items xs x c.deepen.new.entry l.invariant.done (slice_get_read xs (length xs) l.i x refl below c.index_mut.ensures.value) c.in_ok-deepen.ensures;
      long = set_length xs l.i c.deepen.new.entry ∙ l.invariant.long;
    }

pub returns : goal.returns
returns c =
    let few : length c.args.entries.now.items ≤ c.loop-i.i = omega (arith, c.loop-i-test.false, c.len-i-end.ensures, c.args.entries.now.ok) in
    all_deeper c.args.depth c.loop-i.i c.args.entries.now.items c.loop-i.entries.items few c.loop-i.invariant.done
