-- Lists of calls of an event list: what each answers, and what they leave.
use Rattle.std.specs.Prelude.{List, [], ◌∷◌, Result, Ok, Err}
use Rattle.std.specs.Result.{result_unwrap_or}
use Rattle.ss_base.specs.declared.fault.FaultKind.{FaultKind}
use Rattle.ss_events.specs.declared.calls.Call.{Call}
use Rattle.ss_events.specs.declared.calls.Call.TheVariants.{Schedule, Cancel, Least, Take}
use Rattle.ss_events.specs.declared.calls.Answer.{Answer}
use Rattle.ss_events.specs.declared.calls.Answer.TheVariants.{Done, Faulted, Next}
use Rattle.ss_world.specs.declared.ties.TieShape.{TieShape}
use Rattle.ss_world.specs.PendingList.{PendingList, IsFittingKey, scheduled, cancelled, least_event, after_next}

-- what a call fits, where it schedules: its key fits a class
abbrev pub IsFittingCall : List (List TieShape) → Call → Type 0
IsFittingCall classes (Schedule time rank ties notice) = IsFittingKey classes (record { time = time; rank = rank; ties = ties.now })
IsFittingCall classes (Cancel notice) = Unit {0}
IsFittingCall classes Least = Unit {0}
IsFittingCall classes Take = Unit {0}

-- done, or the fault
abbrev pub done_or_fault : Result PendingList FaultKind → Answer
done_or_fault (Ok p) = Done
done_or_fault (Err kind) = Faulted kind

-- what a call of a list answers
abbrev pub answer_of : Call → PendingList → Answer
answer_of (Schedule time rank ties notice) p = done_or_fault (scheduled (record { time = time; rank = rank; ties = ties.now }) notice p)
answer_of (Cancel notice) p = done_or_fault (cancelled notice p)
answer_of Least p = Next (least_event p)
answer_of Take p = Next (least_event p)

-- the list after a call
abbrev pub list_after_call : Call → PendingList → PendingList
list_after_call (Schedule time rank ties notice) p = result_unwrap_or (scheduled (record { time = time; rank = rank; ties = ties.now }) notice p) p
list_after_call (Cancel notice) p = result_unwrap_or (cancelled notice p) p
list_after_call Least p = p
list_after_call Take p = after_next p

-- what each of some calls answers in turn
abbrev pub answers_of : List Call → PendingList → List Answer
answers_of [] p = []
answers_of (call ∷ calls) p = answer_of call p ∷ answers_of calls (list_after_call call p)

-- the list after all of them
abbrev pub after_calls : List Call → PendingList → PendingList
after_calls [] p = p
after_calls (call ∷ calls) p = after_calls calls (list_after_call call p)
