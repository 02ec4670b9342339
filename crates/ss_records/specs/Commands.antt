-- What a call may do to the lists of the sets, and lists of commands.
use Rattle.std.specs.Prelude.{◌≡◌, ℕ, ◌<◌, ℤ, List, [], ◌∷◌, length, take, slice_get, Some, Result, Ok, Err}
use Rattle.ss_base.specs.declared.fault.FaultKind.{FaultKind}
use Rattle.ss_base.specs.declared.layout.Layout.{Layout}
use Rattle.ss_base.specs.declared.layout.Mode.{Mode}
use Rattle.ss_base.specs.Layout.{mode_of}
use Rattle.ss_records.specs.declared.commands.Command.{Command}
use Rattle.ss_records.specs.declared.commands.Command.TheVariants.{Create, CreateAll, Destroy, SetValue, SetTime, FileFirst, FileLast, FileBefore, FileAfter, Remove}
use Rattle.ss_records.specs.declared.commands.CommandAnswer.{CommandAnswer}
use Rattle.ss_records.specs.declared.commands.CommandAnswer.TheVariants.{Done, Number, Faulted}
use Rattle.ss_records_words.specs.Kept.{IsPermanent}
use Rattle.ss_world.specs.State.{State, members_of, kind_of, modes_of, and_then, created, created_all, destroyed, assigned, timed}
use Rattle.ss_world.specs.Sets.{joiner, owner, filed_first, filed_last, filed_before, filed_after, removed}

-- ## What a call leaves

-- a call on the set s of the owner o leaves the members of every set but this one
abbrev pub IsLeavingOthers : (State → ℕ → ℤ → ℤ → Result State FaultKind) → Type 0
IsLeavingOthers call =
    (st t : State) (s : ℕ) (o x : ℤ) → call st s o x ≡ Ok t → (r m : ℕ) → ((s ≡ r) × (owner st s o ≡ Ok m) → ⊥) → members_of t.lists r m ≡ members_of st.lists r m

-- a call on the set s of the owner o that goes well: x and o mean the entities n and m, and the members of the set of m are changed by `put`, with n
abbrev pub IsChangingMembers : (ℕ → List ℕ → List ℕ) → (State → ℕ → ℤ → ℤ → Result State FaultKind) → Type 0
IsChangingMembers put call =
    (st t : State) (s : ℕ) (o x : ℤ) → call st s o x ≡ Ok t → (n : ℕ) × (m : ℕ) × (joiner st s x ≡ Ok n) × (owner st s o ≡ Ok m) × (members_of t.lists s m ≡ put n (members_of st.lists s m))

-- what changes where x is put beside y, which is the entity k
abbrev pub IsChangingBeside : (ℕ → ℕ → List ℕ → List ℕ) → (State → ℕ → ℤ → ℤ → ℤ → Result State FaultKind) → Type 0
IsChangingBeside put call =
    (y : ℤ) (st t : State) (s : ℕ) (o x : ℤ) → call st s o x y ≡ Ok t → (k : ℕ) × (n : ℕ) × (m : ℕ) × (joiner st s y ≡ Ok k) × (joiner st s x ≡ Ok n) × (owner st s o ≡ Ok m) × (members_of t.lists s m ≡ put k n (members_of st.lists s m))

-- a call on a set leaves everything but the members of sets: the layout, each record, and the permanent entities
abbrev pub IsKeepingRecords : (State → ℕ → ℤ → ℤ → Result State FaultKind) → Type 0
IsKeepingRecords call =
    (st t : State) (s : ℕ) (o x : ℤ) → call st s o x ≡ Ok t → t ≡ record st { lists = t.lists }

-- a call leaves the members of every set
abbrev pub IsKeepingLists : (State → Result State FaultKind) → Type 0
IsKeepingLists call = (st t : State) → call st ≡ Ok t → t.lists ≡ st.lists

-- ## Lists of commands

-- a class whose entities are created one by one, or all together
abbrev pub IsMadeSingly : Layout → ℕ → Type 0
IsMadeSingly l c = (c < length l.classes) × (IsPermanent (kind_of l c) → ⊥)

abbrev pub IsMadeTogether : Layout → ℕ → Type 0
IsMadeTogether l c = (c < length l.classes) × IsPermanent (kind_of l c)

-- a class that has a field of a mode
abbrev pub HasField : Layout → ℕ → ℕ → Mode → Type 0
HasField l c f mode = (c < length l.classes) × (slice_get (modes_of l c) f ≡ Some mode)

-- what a command fits: the class, the field and the set that it names are there, and of its kind
abbrev pub IsFittingCommand : Layout → Command → Type 0
IsFittingCommand l (Create class) = IsMadeSingly l class
IsFittingCommand l (CreateAll class n) = IsMadeTogether l class
IsFittingCommand l (Destroy class r) = IsMadeSingly l class
IsFittingCommand l (SetValue class field r value) = HasField l class field (mode_of value)
IsFittingCommand l (SetTime r time) = Unit {0}
IsFittingCommand l (FileFirst set o member) = set < length l.sets
IsFittingCommand l (FileLast set o member) = set < length l.sets
IsFittingCommand l (FileBefore set o member beside) = set < length l.sets
IsFittingCommand l (FileAfter set o member beside) = set < length l.sets
IsFittingCommand l (Remove set o member) = set < length l.sets

-- what a call answers that gives no value
abbrev pub answer_without_value : Result (Unit {0}) FaultKind → CommandAnswer
answer_without_value (Ok u) = Done
answer_without_value (Err kind) = Faulted kind

-- done, with the state that a call makes
abbrev pub done_with_state : Result State FaultKind → Result (CommandAnswer × State) FaultKind
done_with_state r = and_then r (λ s. Ok (Done, s))

-- what a command answers and makes, or its fault
abbrev pub commanded : Command → State → Result (CommandAnswer × State) FaultKind
commanded (Create class) s = and_then (created s class) (λ p. Ok (Number p.0, p.1))
commanded (CreateAll class n) s = done_with_state (created_all s class n)
commanded (Destroy class r) s = done_with_state (destroyed s class r)
commanded (SetValue class field r value) s = done_with_state (assigned s class field r value)
commanded (SetTime r time) s = done_with_state (timed s r time)
commanded (FileFirst set o member) s = done_with_state (filed_first s set o member)
commanded (FileLast set o member) s = done_with_state (filed_last s set o member)
commanded (FileBefore set o member beside) s = done_with_state (filed_before s set o member beside)
commanded (FileAfter set o member beside) s = done_with_state (filed_after s set o member beside)
commanded (Remove set o member) s = done_with_state (removed s set o member)

-- the answer, or the fault
abbrev pub answer_or_fault : Result (CommandAnswer × State) FaultKind → CommandAnswer
answer_or_fault (Ok p) = p.0
answer_or_fault (Err kind) = Faulted kind

-- the state that is left: s where there is a fault
abbrev pub state_in : State → Result (CommandAnswer × State) FaultKind → State
state_in s (Ok p) = p.1
state_in s (Err kind) = s

-- what a command answers
abbrev pub command_answer : Command → State → CommandAnswer
command_answer command s = answer_or_fault (commanded command s)

-- the state after a command: as it was where there is a fault
abbrev pub after_command : Command → State → State
after_command command s = state_in s (commanded command s)

-- what each of some commands answers in turn
abbrev pub command_answers : List Command → State → List CommandAnswer
command_answers [] s = []
command_answers (command ∷ commands) s = command_answer command s ∷ command_answers commands (after_command command s)

-- the state after all of them
abbrev pub after_commands : List Command → State → State
after_commands [] s = s
after_commands (command ∷ commands) s = after_commands commands (after_command command s)

-- t is the state after the first k of some commands, for some k
abbrev pub IsAfterSome : List Command → State → State → Type 0
IsAfterSome commands s t = (k : ℕ) × (t ≡ after_commands (take k commands) s)

-- ## Commands on sets of other names

-- a command that isn't on a set of the name s
abbrev pub IsOnOthers : ℕ → Command → Type 0
IsOnOthers s (Create class) = Unit {0}
IsOnOthers s (CreateAll class n) = Unit {0}
IsOnOthers s (Destroy class r) = Unit {0}
IsOnOthers s (SetValue class field r value) = Unit {0}
IsOnOthers s (SetTime r time) = Unit {0}
IsOnOthers s (FileFirst set o member) = set ≡ s → ⊥
IsOnOthers s (FileLast set o member) = set ≡ s → ⊥
IsOnOthers s (FileBefore set o member beside) = set ≡ s → ⊥
IsOnOthers s (FileAfter set o member beside) = set ≡ s → ⊥
IsOnOthers s (Remove set o member) = set ≡ s → ⊥
