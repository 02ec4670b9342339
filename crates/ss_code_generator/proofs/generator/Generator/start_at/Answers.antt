use Rattle.ss_code_generator.proofs.Common.{on_ok_weaker, view_expression}
use Rattle.ss_code_generator.proofs.Rounds.{starts_at}
use Rattle.ss_code_generator.proofs.generator.Generator.start_at.Goals as goal

pub returns : goal.returns
returns c = on_ok_weaker c.push.result (starts_at c.args.walk (view_expression c.args.member.now) c.in_ok-put.ensures) c.push.ensures.code
