use Rattle.std.proofs.Common.{set, ap, ◌∙◌, arith}
use Rattle.ss_base.proofs.Capitals.{room_more}
use Rattle.ss_base.proofs.spelling.Spelling.in_capitals.Goals as goal

pub capitals-preserved : goal.capitals-preserved
capitals-preserved c = ap (λ b. set c.capitals.room c.capitals.i b) c.to_ascii_uppercase.ensures.value ∙ room_more c.args.bytes.now c.capitals.room c.capitals.i (omega arith) (omega arith) c.capitals.invariant
