use Rattle.ss_records.proofs.Calls.{created_still, created_all_still, destroyed_still, assigned_still, timed_still}
use Rattle.ss_records.proofs.commands.other_calls_leave_the_sets.Goals as goal

pub returns : goal.returns
returns c = record {
  create = λ c n st t h. (created_still c n st t h).1;
  create_all = λ c n st t h. (created_all_still c n st t h).1;
  destroy = λ c x st t h. (destroyed_still c x st t h).1;
  set_value = λ c f x v st t h. (assigned_still c f x v st t h).1;
  set_time = λ x i st t h. (timed_still x i st t h).1;
}
