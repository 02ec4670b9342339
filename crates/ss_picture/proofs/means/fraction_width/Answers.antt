use Rattle.std.proofs.Common.{sym, arith}
use Rattle.ss_picture.proofs.Digits.{length-fraction_text}
use Rattle.ss_picture.proofs.means.fraction_width.Goals as goal

pub returns-else-decimals-eq0-clause-value : goal.returns-else-decimals-eq0-clause-value
returns-else-decimals-eq0-clause-value c = λ n. sym (length-fraction_text c.args.decimals n (omega arith))
