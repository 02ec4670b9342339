use Rattle.ss_code_generator.proofs.Spotted.{attribute_found}
use Rattle.ss_code_generator.proofs.generator.Generator.attribute_spot.Goals as goal

pub returns : goal.returns
returns c = attribute_found c.in_ok-entity.ensures c.in_ok-as_index.ensures c.in_ok-as_index-2.ensures c.attribute_mode.ensures c.is_attribute_watched.ensures
