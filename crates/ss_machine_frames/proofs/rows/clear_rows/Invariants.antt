use Rattle.std.proofs.Common.{◌≡◌, ◌+◌, drop}
use Rattle.ss_machine_frames.specs.Rows.{TwoRows, cleared}
use Rattle.ss_machine_frames.proofs.rows.clear_rows.Given as goal

-- clearing the rest gives what clearing all gave
abbrev pub invariant-loop-mode : goal.invariant-loop-mode
invariant-loop-mode l =
    let now : TwoRows = record { numbers = l.numbers; texts = l.texts } in
    let first : TwoRows = record { numbers = l.fn.numbers; texts = l.fn.texts } in
    record {
      place : l.place ≡ l.from + l.mode-index;
      rest : cleared now l.place (drop l.mode-index l.modes) ≡ cleared first l.from l.modes;
    }
