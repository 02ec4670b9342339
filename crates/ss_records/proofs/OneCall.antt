-- Commands leave the layout, and the members of the sets of the names that they aren't on.
use Rattle.std.proofs.Common.{◌≡◌, ℕ, ℤ, List, [], ◌∷◌, ◌++◌, Result, Ok, Err, refl, ap, ◌∙◌}
use Rattle.std.specs.Prelude.{All}
use Rattle.std.proofs.lemmas.List.Elements.{recursion_from_All}
use Rattle.std.specs.List.{AllByRecursion}
use Rattle.ss_base.specs.declared.fault.FaultKind.{FaultKind}
use Rattle.ss_records.proofs.Common.{after_command, after_commands, and_then, assigned, Command, CommandAnswer, Create, CreateAll, created, created_all, Destroy, destroyed, done_with_state, FileAfter, FileBefore, filed_after, filed_before, filed_first, filed_last, FileFirst, FileLast, less, members_of, Number, put_after, put_before, Remove, removed, SetTime, SetValue, State, state_in, timed}
use Rattle.ss_records.specs.Commands.{IsOnOthers}
use Rattle.ss_records.proofs.Calls.{IsStill, Puts, putting_beside, filing_first, filing_last, removing, keeps, leaves, created_still, created_all_still, destroyed_still, assigned_still, timed_still}

module _ (s : State) (n o : ℕ) where
  abbrev IsLeft : Type 0 → State → Type 0
  IsLeft Q t = (t.layout ≡ s.layout) × (Q → members_of t.lists n o ≡ members_of s.lists n o)

  made : (r : Result (ℤ × State) FaultKind) → ((i : ℤ) (t : State) → r ≡ Ok (i, t) → IsStill s t) → IsLeft (Unit {0}) (state_in s (and_then {A = ℤ × State} {B = CommandAnswer × State} r (λ p. Ok (Number p.0, p.1))))
  made (Ok p) h = let k = h p.0 p.1 refl in (k.0, λ _. λ i. members_of (k.1 i) n o)
  made (Err e) h = (refl, λ _. refl)

  kept : (r : Result State FaultKind) → ((t : State) → r ≡ Ok t → IsStill s t) → IsLeft (Unit {0}) (state_in s (done_with_state r))
  kept (Ok t) h = let k = h t refl in (k.0, λ _. λ i. members_of (k.1 i) n o)
  kept (Err e) h = (refl, λ _. refl)

  put : (r : Result State FaultKind) (set : ℕ) (p x : ℤ) → ((t : State) → r ≡ Ok t → (f : ℕ → List ℕ → List ℕ) × Puts f s set p x t) → IsLeft (set ≡ n → ⊥) (state_in s (done_with_state r))
  put (Ok t) set p x h = let k = h t refl in (ap (λ (u : State). u.layout) (keeps k.0 s t set p x k.1), λ not. leaves k.0 s t set p x k.1 n o (λ q. not q.0))
  put (Err e) set p x h = (refl, λ _. refl)

  one : (command : Command) → IsLeft (IsOnOthers n command) (after_command command s)
  one (Create class) = made (created s class) (λ i t. created_still class i s t)
  one (CreateAll class m) = kept (created_all s class m) (created_all_still class m s)
  one (Destroy class r) = kept (destroyed s class r) (destroyed_still class r s)
  one (SetValue class field r value) = kept (assigned s class field r value) (assigned_still class field r value s)
  one (SetTime r time) = kept (timed s r time) (timed_still r time s)
  one (FileFirst set p x) = put (filed_first s set p x) set p x (λ t h. ((λ y l. y ∷ l), filing_first s t set p x h))
  one (FileLast set p x) = put (filed_last s set p x) set p x (λ t h. ((λ y l. l ++ y ∷ []), filing_last s t set p x h))
  one (FileBefore set p x y) = put (filed_before s set p x y) set p x (λ t h. let k = putting_beside put_before y s t set p x h in (put_before k.0, k.2))
  one (FileAfter set p x y) = put (filed_after s set p x y) set p x (λ t h. let k = putting_beside put_after y s t set p x h in (put_after k.0, k.2))
  one (Remove set p x) = put (removed s set p x) set p x (λ t h. (less, removing s t set p x h))

pub same_layout : (command : Command) (s : State) → (after_command command s).layout ≡ s.layout
same_layout command s = (one s 0 0 command).0

all_leave : (commands : List Command) (n : ℕ) → AllByRecursion (IsOnOthers n) commands → (s : State) (o : ℕ) → members_of (after_commands commands s).lists n o ≡ members_of s.lists n o
all_leave [] n h s o = refl
all_leave (command ∷ commands) n h s o = all_leave commands n h.1 (after_command command s) o ∙ (one s n o command).1 h.0

pub commands_leave : (commands : List Command) (n : ℕ) → All (IsOnOthers n) commands → (s : State) (o : ℕ) → members_of (after_commands commands s).lists n o ≡ members_of s.lists n o
commands_leave commands n h = all_leave commands n (recursion_from_All (IsOnOthers n) commands h)
