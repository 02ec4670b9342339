use Rattle.std.proofs.Common.{rules, ◌≡◌, [], Ok, Err, pos, refl, sym, ap, ◌∙◌, subst, w64, of_z, to_z}
use Rattle.ss_machine.proofs.Common.{Integer, on_after, put_within, value_given, Whole}
use Rattle.ss_machine_frames.specs.Rows.{place_at, with_number}
use Rattle.ss_code_instructions.specs.declared.instruction.Instruction.TheVariants.{Read as Runs}
use Rattle.ss_machine.proofs.Inputs.{reads_so, finds_so}
use Rattle.ss_machine.proofs.Worded.{read_delivers, read_on, read_fails, read_unsettled, lost_in_word, missed_did}
use Rattle.ss_machine.proofs.reading.read_number.Goals as goal

pub set_number-requires : goal.set_number-requires
set_number-requires g c =
    let z = c.requires.can in
    let v = Whole c.in-Ok.number in
    put_within z.0 z.1 z.2.placed.line _ c.args.here c.args.state.now c.args.to.now _ (read_delivers z.0 z.1 c.args.here c.args.state.now (Runs c.args.to.now) z.2 Integer c.args.to.now z.2.runs.carries v refl [] _ refl)

pub returns-in-Err-clause-read : goal.returns-in-Err-clause-read
returns-in-Err-clause-read g c =
    let e = c.next_number.ensures in
    missed_did g.R.FaultyRead.remaining c.args.here c.args.state.now (Runs c.args.to.now) c.args.source.now c.next_number.new.source c.in-Err.missed c.unread.new.state (on_after c.args.here c.unread.result)
    (λ kind q. finds_so g.R.FaultyRead.remaining c.args.source.now c.next_number.new.source _ _
    (λ input h w core same r. read_fails w core c.args.here c.args.state.now (Runs c.args.to.now) r Integer c.args.to.now r.runs.carries (Whole (pos 0)) refl kind (subst (λ l. value_given Integer l ≡ Err kind) (sym same) h))
    (e.fault kind (c.in-Err.is ∙ ap Err q)))
    (λ q. lost_in_word g.R.FaultyRead.remaining c.args.here c.args.state.now (Runs c.args.to.now) c.args.source.now c.next_number.new.source
    (λ w core r. read_unsettled w core c.args.here c.args.state.now (Runs c.args.to.now) r Integer c.args.to.now r.runs.carries)
    (e.lacks (c.in-Err.is ∙ ap Err q)))
    c.unread.ensures.state (ap (on_after c.args.here) c.unread.ensures.none)

pub returns-in-Ok-clause-read : goal.returns-in-Ok-clause-read
returns-in-Ok-clause-read g c =
    let n = c.in-Ok.number in
    let new = c.set_number.new.self in
    let s = c.args.state.now in
    let same : to_z w64 (of_z w64 n) ≡ n = search rules in
    let set : new ≡ record s { rows = with_number s.rows (place_at c.args.here.frame c.args.to.now) n } =
    subst (λ m. new ≡ record s { rows = with_number s.rows (place_at c.args.here.frame c.args.to.now) m }) same c.set_number.ensures in
    reads_so g.R.FaultyRead.remaining c.args.source.now c.next_number.new.source _ _
    (λ input rest h w core same r. read_on w core c.args.here c.args.state.now (Runs c.args.to.now) r Integer c.args.to.now r.runs.carries (Whole n) refl rest (subst (λ l. value_given Integer l ≡ Ok (record { value = Whole n; rest = rest })) (sym same) h) new set)
    (c.next_number.ensures.read n c.in-Ok.is)
