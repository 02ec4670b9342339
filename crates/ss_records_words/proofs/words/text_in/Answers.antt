use Rattle.std.proofs.Common.{refl}
use Rattle.ss_records_words.proofs.words.text_in.Goals as goal

pub returns-in-Some : goal.returns-in-Some
returns-in-Some c = rw (← c.bytes_of-bytes.ensures, ← c.used.ensures, ← c.in-Some.ensures) refl

pub returns-in-None : goal.returns-in-None
returns-in-None c = rw (← c.bytes_of-bytes.ensures, ← c.used.ensures, ← c.in-None.ensures, c.empty.ensures) refl
