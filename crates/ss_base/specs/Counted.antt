-- What a clause reads of a counted reader or writer.
use Rattle.std.specs.Prelude.{ℕ}
use Rattle.ss_base.specs.declared.counted.Counted.{Counted}

-- the reader or writer inside
abbrev pub counted_inner : {T : Type 0} → Counted T → T
counted_inner c = c.inner

-- how often it failed
abbrev pub counted_faults : {T : Type 0} → Counted T → ℕ
counted_faults c = c.faults

-- how many of its writes returned an error
abbrev pub counted_errors : {T : Type 0} → Counted T → ℕ
counted_errors c = c.errors

-- how many of its last writes in a row took no byte
abbrev pub counted_idle : {T : Type 0} → Counted T → ℕ
counted_idle c = c.idle
