use Rattle.std.proofs.Common.{arith}
use Rattle.ss_picture.proofs.Digits.{fraction_written}
use Rattle.ss_picture.proofs.means.write_fraction.Goals as goal

pub returns : goal.returns
returns c =
    fraction_written c.args.place.now c.write_digits.new.place c.args.decimals c.args.fraction (omega arith) c.requires c.write_digits.ensures
