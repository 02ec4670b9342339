-- The exit statuses of command lines that give no order.
use Rattle.std.specs.Prelude.{ℕ}
use Rattle.clap.specs.Words.{kind_of}
use Rattle.clap.specs.declared.error.kind.ErrorKind.{ErrorKind}
use Rattle.clap.specs.declared.error.kind.ErrorKind.TheVariants.{DisplayHelp, DisplayVersion}
use Rattle.simscript_order.specs.declared.misuse.Misuse.{Misuse}
use Rattle.simscript_order.specs.declared.misuse.Misuse.TheVariants.{Words, Incomplete, Memory}

-- a call for help or for the version is answered; all else is a mistake
abbrev pub kind_status : ErrorKind → ℕ
kind_status DisplayHelp = 0
kind_status DisplayVersion = 0
kind_status _ = 2

abbrev pub misuse_status : Misuse → ℕ
misuse_status (Words error) = kind_status (kind_of error)
misuse_status Incomplete = 2
misuse_status Memory = 5
