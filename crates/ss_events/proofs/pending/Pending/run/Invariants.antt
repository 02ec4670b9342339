use Rattle.std.proofs.Common.{◌≡◌, ◌++◌, drop}
use Rattle.ss_events.specs.Calls.{answers_of, after_calls}
use Rattle.ss_events.proofs.pending.Pending.run.Given as goal

-- the answers so far and those to what is left are those to all
abbrev pub invariant-loop-call : goal.invariant-loop-call
invariant-loop-call l = record {
  plain : l.answers.items ++ answers_of (drop l.call-index l.calls) l.self.list ≡ answers_of l.calls l.fn.self.list;
  rest : after_calls (drop l.call-index l.calls) l.self.list ≡ after_calls l.calls l.fn.self.list;
  classes : l.self.list.classes ≡ l.fn.self.list.classes;
}
