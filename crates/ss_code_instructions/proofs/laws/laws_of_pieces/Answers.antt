use Rattle.ss_code_instructions.proofs.Whole.{code_behaves as behaves_so}
use Rattle.ss_code_instructions.proofs.Pieces.{steps_go_on as go_on_so, pieces as pieces_so, pauses as pauses_so, prefixes as prefixes_so, endings_stay as stay_so, on_the_way as way_so, one_tick_fewer as fewer_so}
use Rattle.ss_code_instructions.proofs.laws.laws_of_pieces.Goals as goal

pub returns : goal.returns
returns c = record { steps_go_on = go_on_so; pieces = pieces_so; pauses = pauses_so; prefixes = prefixes_so behaves_so; endings_stay = stay_so behaves_so; on_the_way = way_so; one_tick_fewer = fewer_so }
