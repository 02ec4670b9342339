use Rattle.std.proofs.Common.{refl}
use Rattle.ss_engine.specs.Sessions.{session_machine, session_reader, session_source, session_writer, last_stop}
use Rattle.ss_engine.proofs.Headline.{is_of, ran_simulated}
use Rattle.ss_engine.proofs.Meanings.{program_never_wrong}
use Rattle.ss_engine.proofs.Running.{came_ran}
use Rattle.ss_engine.proofs.session_laws.sessions_are_meant.Goals as goal

pub returns : goal.returns
returns g c session text code reader writer pieces compiled some h =
    let remaining = g.R.FaultyRead.remaining in
    let contents = g.W.FaultyWrite.contents in
    let laws = c.laws_of_pieces.ensures in
    let texts = c.laws.ensures in
    let m = session_machine session in
    let p = compiled.program in
    let ran = came_ran remaining code h.first m.at h.source (session_source session) (contents writer) (contents (session_writer session)) m.used m.steps m.stopped h.came (λ none. h.paused none some) in
    let of = is_of c.laws_of_code.ensures.has_shape p code (texts.typed text p compiled.meant) compiled.code_is in
    ran_simulated laws.on_the_way laws.one_tick_fewer laws.pauses laws.steps_go_on laws.endings_stay laws.prefixes texts.one_program text p compiled.meant (program_never_wrong texts.never_wrong text p compiled.meant) compiled.behaves remaining contents reader (session_reader session) writer (session_writer session) code h.first m.at h.source (session_source session) m.used m.steps of h.starts h.fresh refl h.end (last_stop m.stopped) ran
