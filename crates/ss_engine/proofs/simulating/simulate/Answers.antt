use Rattle.std.proofs.Common.{◌≡◌}
use Rattle.ss_engine.proofs.Common.{Input, Output}
use Rattle.ss_engine.proofs.simulating.simulate.Goals as goal

pub returns-clause-headline : goal.returns-clause-headline
returns-clause-headline g c = c.run_model-stop.ensures.simulated c.args.text.now c.in-Ok.ensures.accepted

pub returns-clause-where_cut : goal.returns-clause-where_cut
returns-clause-where_cut g c = c.run_model-stop.ensures.where_cut c.args.text.now c.in-Ok.ensures.accepted

pub returns-clause-output : goal.returns-clause-output
returns-clause-output g c used e =
    let stop : c.run_model-stop.result.0 ≡ Output = cc in
    let same : used ≡ c.run_model-stop.result.1 = cc in
    rw same (c.run_model-stop.ensures.output stop c.args.text.now c.in-Ok.ensures.accepted)

pub returns-clause-input : goal.returns-clause-input
returns-clause-input g c used e =
    let stop : c.run_model-stop.result.0 ≡ Input = cc in
    let same : used ≡ c.run_model-stop.result.1 = cc in
    rw same (c.run_model-stop.ensures.input stop c.args.text.now c.in-Ok.ensures.accepted)
