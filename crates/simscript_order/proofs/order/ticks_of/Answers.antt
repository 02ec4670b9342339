use Rattle.std.proofs.Common.{ℕ, List, Result, codes}
use Rattle.std.specs.Str.Parse.{ParsesUnsigned, ExplainsUnsignedError, HasUnsignedDigitsIfOk}
use Rattle.std.specs.declared.num.ParseIntError.{ParseIntError}
use Rattle.clap.specs.Words.{found_of}
use Rattle.simscript_order.proofs.Rows.{ticks_read}
use Rattle.simscript_order.proofs.order.ticks_of.Goals as goal

pub returns : goal.returns
returns c =
    ticks_read (λ (bs : List ℕ) (r : Result ℕ ParseIntError). ParsesUnsigned 64 10 bs r × ExplainsUnsignedError 10 bs r × HasUnsignedDigitsIfOk bs r)
    (λ u x h. h.0) (found_of c.args.matches.now) (codes "ticks") c.get_one.result c.get_one.ensures.none c.get_one.ensures.value
