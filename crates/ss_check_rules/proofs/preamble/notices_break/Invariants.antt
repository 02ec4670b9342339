use Rattle.std.proofs.Common.{◌≡◌, take}
use Rattle.ss_check_rules.proofs.Common.{check_error_order, earlier, eventless, flat_map, fold}
use Rattle.ss_check_rules.proofs.preamble.notices_break.Given as goal

abbrev pub invariant-loop-class : goal.invariant-loop-class
invariant-loop-class l = l.found ≡ fold (earlier check_error_order) l.fn.found (flat_map (eventless l.names l.line) (take l.class-index l.classes))
