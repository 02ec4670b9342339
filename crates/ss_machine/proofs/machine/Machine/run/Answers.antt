use Rattle.std.proofs.Common.{rules, ◌≡◌, ◌+◌, ◌-◌, ◌*◌, ◌≤◌, ◌<◌, ◌^◌, length, min, sym, ap, subst, ◌∙◌, arith}
use Rattle.std.proofs.lemmas.Option.{none-some}
use Rattle.ss_machine.proofs.Common.{HasSteps, Here, IsRunResult, situated, State}
use Rattle.ss_machine.specs.Held.{Held}
use Rattle.ss_machine.proofs.Readiness.{kept_none}
use Rattle.ss_machine.proofs.Ending.{stands_rested, situated_rested}
use Rattle.ss_machine.proofs.Resuming.{ran_from, never, used_by}
use Rattle.ss_machine.proofs.machine.Machine.run.Goals as goal

pub run-rest-requires : goal.run-rest-requires
run-rest-requires g c =
    let m = c.self.inside in
    let i = c.self.invariant in
    let none = c.in_default.is in
    let last = c.saturating_add-last.result in
    let small : last < 2 ^ 64 = search rules in
    let from : m.used ≤ last = search rules in
    record {
      situated = situated_rested m.code (record { place = m.place; frame = m.frame }) m.state m.state.ending m.state.steps (last - m.used) (i.situated none);
      left = (m.used, omega (arith, small, from), i.left none);
      unmissed = c.requires (sym (ap (λ (v : Held). v.stopped) c.self.view_is) ∙ none);
    }

pub invariant_of-self : goal.invariant_of-self
invariant_of-self g c =
    let m = c.self.inside in
    let e = c.run-rest.ensures in
    let new = c.run-rest.new.state in
    let none = c.in_default.is in
    let last = c.saturating_add-last.result in
    let from : m.used ≤ last = search rules in
    let stop = c.run-rest.result.stop in
    let left = c.self.invariant.left none in
    let used : m.used + ((last - m.used) - new.ticks) ≡ last - new.ticks = omega (arith, from, e.ticks) in
    record {
      made = record {
        least = omega (arith, c.self.invariant.made.least, e.least, e.rising, e.ticks, from);
        most = subst (λ u. new.steps ≤ (3 * u + 4) * length m.code.run.instructions) used (e.most m.used left);
      };
      situated = λ q. e.situated (kept_none stop (sym c.kept-self-inside.ensures ∙ q));
      left = λ q. subst (λ u. HasSteps m.code (situated c.run-rest.result.here new) u new.steps) used (e.left (kept_none stop (sym c.kept-self-inside.ensures ∙ q)) m.used left);
    }

pub returns : goal.returns
returns g c =
    let rem = g.R.FaultyRead.remaining in
    let m = c.self.inside in
    let old = c.args.self.now in
    let view = c.self.view_is in
    let e = c.run-rest.ensures in
    let new = c.run-rest.new.state in
    let stop = c.run-rest.result.stop in
    let none = c.in_default.is in
    let before = g.W.FaultyWrite.contents c.args.sink.now.writer in
    let after = g.W.FaultyWrite.contents c.run-rest.new.sink.writer in
    let first = c.args.source.now in
    let final = c.run-rest.new.source in
    let last = c.saturating_add-last.result in
    let from : m.used ≤ last = search rules in
    let left = c.self.invariant.left none in
    let from_here : Here = record { place = m.place; frame = m.frame } in
    let ticked : State = record m.state { ticks = last - m.used } in
    let start = situated from_here m.state in
    let rest = situated c.run-rest.result.here new in
    let used = used_by last m.used new.ticks from e.ticks in
    let plain : IsRunResult rem stop m.code start rest first final before after ((last - m.used) - new.ticks) (new.steps - m.state.steps) =
    ran_from rem m.code start (situated from_here ticked) rest first final before after ((last - m.used) - new.ticks) (new.steps - m.state.steps) (λ w core st. stands_rested w core from_here m.state m.state.ending m.state.steps (last - m.used) st) stop e.ran in
    let ran : IsRunResult rem stop m.code start rest first final before after ((last - new.ticks) - m.used) (new.steps - m.state.steps) =
    subst (λ t. IsRunResult rem stop m.code start rest first final before after t (new.steps - m.state.steps)) used plain in
    let same = ap (λ (v : Held). v.used) view in
    let all : m.used + ((last - m.used) - new.ticks) ≡ last - new.ticks = omega (arith, from, e.ticks) in
    record {
      again = λ stop q. absurd (none-some stop (sym (sym (ap (λ (v : Held). v.stopped) view) ∙ none) ∙ q));
      ran = λ q. subst (λ (v : Held). IsRunResult rem stop v.code v.at rest first final before after ((last - new.ticks) - v.used) (new.steps - v.steps)) view ran;
      code = ap (λ (v : Held). v.code) view;
      situated = λ q. e.situated (kept_none stop (sym c.kept-self-inside.ensures ∙ q));
      stopped = λ q. c.kept-self-inside.ensures;
      used = (omega (arith, same, from, e.ticks), omega (arith, same, c.saturating_add-last.ensures));
      within = λ q. omega (arith, c.saturating_add-last.ensures);
      paused = λ q p.
          let gone = e.paused p in
          let ends : last - new.ticks ≡ last = omega (arith, gone) in
          ends ∙ c.saturating_add-last.ensures ∙ ap (λ used. min (used + c.args.ticks) (2 ^ 64 - 1)) same;
      never_failed = λ q p. never rem stop m.code start rest first final before after ((last - new.ticks) - m.used) (new.steps - m.state.steps) ran p;
      unmissed = λ q. e.unmissed;
      steps = subst (λ (v : Held). v.steps ≤ new.steps) view e.rising;
      least = omega (arith, c.self.invariant.made.least, e.least, e.rising, e.ticks, from);
      most = subst (λ u. new.steps ≤ (3 * u + 4) * length m.code.run.instructions) all (e.most m.used left);
      output = λ q. e.output;
      input = λ q. e.input;
      never_falls = e.never_falls;
      read_never_falls = e.read_never_falls;
      end = e.end;
    }
