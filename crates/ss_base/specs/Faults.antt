-- The faults of a running model: their numbers and the words that they are reported by.
use Rattle.std.specs.Prelude.{ℕ, List, codes}
use Rattle.ss_base.specs.declared.fault.FaultKind.{FaultKind}
use Rattle.ss_base.specs.declared.fault.FaultKind.TheVariants.{NoEntity, NeverCreated, DestroyedEntity, WrongClass, Index, FiledTwice, NotFiled, EmptySet, InASet, OwnsMembers, AlreadyScheduled, NotScheduled, PastTime, Overflow, ZeroDivisor, LoopMemberGone, LoopStep, CreatedTwice, EndOfData, BadData, Scheduled, BadCount}

-- the number of a fault, from 1 to 22
abbrev pub fault_number : FaultKind → ℕ
fault_number NoEntity = 1
fault_number NeverCreated = 2
fault_number DestroyedEntity = 3
fault_number WrongClass = 4
fault_number Index = 5
fault_number FiledTwice = 6
fault_number NotFiled = 7
fault_number EmptySet = 8
fault_number InASet = 9
fault_number OwnsMembers = 10
fault_number AlreadyScheduled = 11
fault_number NotScheduled = 12
fault_number PastTime = 13
fault_number Overflow = 14
fault_number ZeroDivisor = 15
fault_number LoopMemberGone = 16
fault_number LoopStep = 17
fault_number CreatedTwice = 18
fault_number EndOfData = 19
fault_number BadData = 20
fault_number Scheduled = 21
fault_number BadCount = 22

-- the words of a fault
abbrev pub fault_words : FaultKind → List ℕ
fault_words NoEntity = codes "NO ENTITY"
fault_words NeverCreated = codes "NEVER CREATED"
fault_words DestroyedEntity = codes "DESTROYED ENTITY"
fault_words WrongClass = codes "WRONG CLASS"
fault_words Index = codes "INDEX"
fault_words FiledTwice = codes "FILED TWICE"
fault_words NotFiled = codes "NOT FILED"
fault_words EmptySet = codes "EMPTY SET"
fault_words InASet = codes "IN A SET"
fault_words OwnsMembers = codes "OWNS MEMBERS"
fault_words AlreadyScheduled = codes "ALREADY SCHEDULED"
fault_words NotScheduled = codes "NOT SCHEDULED"
fault_words PastTime = codes "PAST TIME"
fault_words Overflow = codes "OVERFLOW"
fault_words ZeroDivisor = codes "ZERO DIVISOR"
fault_words LoopMemberGone = codes "LOOP MEMBER GONE"
fault_words LoopStep = codes "LOOP STEP"
fault_words CreatedTwice = codes "CREATED TWICE"
fault_words EndOfData = codes "END OF DATA"
fault_words BadData = codes "BAD DATA"
fault_words Scheduled = codes "SCHEDULED"
fault_words BadCount = codes "BAD COUNT"
