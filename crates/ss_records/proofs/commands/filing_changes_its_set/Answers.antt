use Rattle.std.proofs.Common.{ℕ, ℤ, List, [], ◌∷◌, ◌++◌, Result}
use Rattle.ss_records.proofs.Common.{FaultKind, filed_first, filed_last, less, put_after, put_before, removed, State}
use Rattle.ss_records.specs.Commands.{IsChangingMembers}
use Rattle.ss_records.proofs.Calls.{IsPutting, putting_beside, filing_first, filing_last, removing, changes}
use Rattle.ss_records.proofs.commands.filing_changes_its_set.Goals as goal

changing : (put : ℕ → List ℕ → List ℕ) (call : State → ℕ → ℤ → ℤ → Result State FaultKind) → IsPutting put call → IsChangingMembers put call
changing put call puts st t s o x h = let a = puts st t s o x h in (a.n, a.m, a.member, a.owns, changes put st t s o x a)

pub returns : goal.returns
returns c = record {
  first = changing (λ x l. x ∷ l) filed_first filing_first;
  last = changing (λ x l. l ++ x ∷ []) filed_last filing_last;
  before = λ y st t s o x h. let a = putting_beside put_before y st t s o x h in (a.0, a.2.n, a.2.m, a.1, a.2.member, a.2.owns, changes (put_before a.0) st t s o x a.2);
  after = λ y st t s o x h. let a = putting_beside put_after y st t s o x h in (a.0, a.2.n, a.2.m, a.1, a.2.member, a.2.owns, changes (put_after a.0) st t s o x a.2);
  remove = changing less removed removing;
}
