use Rattle.std.proofs.Common.{[], ◌∷◌, ◌++◌}
use Rattle.ss_records.proofs.Common.{less, put_after, put_before}
use Rattle.ss_records.proofs.Calls.{putting_beside, filing_first, filing_last, removing, leaves}
use Rattle.ss_records.proofs.commands.filing_leaves_other_sets.Goals as goal

pub returns : goal.returns
returns c = record {
  first = λ st t s o x h. leaves (λ y l. y ∷ l) st t s o x (filing_first st t s o x h);
  last = λ st t s o x h. leaves (λ y l. l ++ y ∷ []) st t s o x (filing_last st t s o x h);
  before = λ y st t s o x h. let a = putting_beside put_before y st t s o x h in leaves (put_before a.0) st t s o x a.2;
  after = λ y st t s o x h. let a = putting_beside put_after y st t s o x h in leaves (put_after a.0) st t s o x a.2;
  remove = λ st t s o x h. leaves less st t s o x (removing st t s o x h);
}
