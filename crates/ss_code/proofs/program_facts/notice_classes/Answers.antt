use Rattle.std.proofs.Common.{◌≡◌, ◌∷◌, [], ◌+◌, ◌++◌, drop, map, ap, sym, ◌∙◌}
use Rattle.std.proofs.lemmas.List.{drop_more}
use Rattle.ss_program.specs.View.{view_event}
use Rattle.ss_meaning.specs.Meaning.{said_of}
use Rattle.ss_code_pieces.proofs.Steps.{moved}
use Rattle.ss_code.proofs.program_facts.notice_classes.Goals as goal

pub loop-event-preserved : goal.loop-event-preserved
loop-event-preserved c =
    let l = c.loop-event in
    let item = c.event-item.result in
    let left : drop l.event-index c.args.events.now ≡ item ∷ drop (l.event-index + 1) c.args.events.now = drop_more c.args.events.now l.event-index item c.loop-event-test.true ∙ ap (λ e. e ∷ drop (l.event-index + 1) c.args.events.now) (sym c.event-item.is) in
    moved l.made.items _ (said_of (view_event item) ∷ []) (map said_of (map view_event (drop (l.event-index + 1) c.args.events.now))) (map said_of (map view_event (drop l.event-index c.args.events.now))) _ l.invariant (ap (λ es. map said_of (map view_event es)) left) (c.in_ok-push.ensures.items ∙ ap (λ x. l.made.items ++ x ∷ []) c.in_ok-class.ensures)
