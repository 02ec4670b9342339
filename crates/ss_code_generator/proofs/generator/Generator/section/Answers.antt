use Rattle.ss_program.specs.View.{view_body}
use Rattle.ss_code_generator.proofs.Bodies.{section_said}
use Rattle.ss_code_generator.proofs.generator.Generator.section.Goals as goal

pub returns : goal.returns
returns c = section_said (view_body c.args.body.now) c.in_ok-code.ensures c.in_ok-put.ensures
