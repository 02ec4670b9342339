use Rattle.std.proofs.Common.{◌≡◌, [], Ok, Err, refl, sym, ap, ◌∙◌, subst}
use Rattle.ss_base.specs.declared.layout.Mode.TheVariants.{Alpha}
use Rattle.ss_machine.proofs.Common.{on_after, put_within, Text, value_given}
use Rattle.ss_code_instructions.specs.declared.instruction.Instruction.TheVariants.{ReadText as Runs}
use Rattle.ss_machine.proofs.Inputs.{reads_so, finds_so}
use Rattle.ss_machine.proofs.Worded.{read_delivers, read_on, read_fails, read_unsettled, lost_in_word, missed_did}
use Rattle.ss_machine.proofs.reading.read_text.Goals as goal

pub set_text-requires : goal.set_text-requires
set_text-requires g c =
    let z = c.requires.can in
    let v = Text c.in-Ok.text in
    put_within z.0 z.1 z.2.placed.line _ c.args.here c.args.state.now c.args.to.now _ (read_delivers z.0 z.1 c.args.here c.args.state.now (Runs c.args.to.now) z.2 Alpha c.args.to.now z.2.runs.carries v refl [] _ refl)

pub returns-in-Err-clause-read : goal.returns-in-Err-clause-read
returns-in-Err-clause-read g c =
    let e = c.next_text.ensures in
    missed_did g.R.FaultyRead.remaining c.args.here c.args.state.now (Runs c.args.to.now) c.args.source.now c.next_text.new.source c.in-Err.missed c.unread.new.state (on_after c.args.here c.unread.result)
    (λ kind q. finds_so g.R.FaultyRead.remaining c.args.source.now c.next_text.new.source _ _
    (λ input h w core same r. read_fails w core c.args.here c.args.state.now (Runs c.args.to.now) r Alpha c.args.to.now r.runs.carries (Text []) refl kind (subst (λ l. value_given Alpha l ≡ Err kind) (sym same) h))
    (e.fault kind (c.in-Err.is ∙ ap Err q)))
    (λ q. lost_in_word g.R.FaultyRead.remaining c.args.here c.args.state.now (Runs c.args.to.now) c.args.source.now c.next_text.new.source
    (λ w core r. read_unsettled w core c.args.here c.args.state.now (Runs c.args.to.now) r Alpha c.args.to.now r.runs.carries)
    (e.lacks (c.in-Err.is ∙ ap Err q)))
    c.unread.ensures.state (ap (on_after c.args.here) c.unread.ensures.none)

pub returns-in-Ok-clause-read : goal.returns-in-Ok-clause-read
returns-in-Ok-clause-read g c =
    let t = c.in-Ok.text in
    let new = c.set_text.new.self in
    reads_so g.R.FaultyRead.remaining c.args.source.now c.next_text.new.source _ _
    (λ input rest h w core same r. read_on w core c.args.here c.args.state.now (Runs c.args.to.now) r Alpha c.args.to.now r.runs.carries (Text t) refl rest (subst (λ l. value_given Alpha l ≡ Ok (record { value = Text t; rest = rest })) (sym same) h) new c.set_text.ensures)
    (c.next_text.ensures.read t c.in-Ok.is)
