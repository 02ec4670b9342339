use Rattle.std.proofs.Common.{refl}
use Rattle.ss_engine.specs.Sessions.{session_machine, session_reader, session_source, session_writer}
use Rattle.ss_engine.proofs.Cuts.{came_cut}
use Rattle.ss_engine.proofs.Headline.{is_of}
use Rattle.ss_engine.proofs.session_laws.sessions_are_cut.Goals as goal

pub returns : goal.returns
returns g c session text code reader writer pieces compiled h =
    let m = session_machine session in
    let p = compiled.program in
    let of = is_of c.laws_of_code.ensures.has_shape p code (c.laws.ensures.typed text p compiled.meant) compiled.code_is in
    came_cut g.R.FaultyRead.remaining g.W.FaultyWrite.contents reader (session_reader session) writer (session_writer session) text p compiled.meant code h.first m.at h.source (session_source session) m.used m.steps of h.starts h.fresh refl h.end m.stopped h.came
