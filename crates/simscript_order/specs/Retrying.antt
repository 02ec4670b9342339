-- What a clause reads of a reader or a writer whose calls are made again.
use Rattle.simscript_order.specs.declared.retrying.Retrying.{Retrying}

-- the reader or writer inside
abbrev pub retrying_inner : {T : Type 0} → Retrying T → T
retrying_inner r = r.inner
