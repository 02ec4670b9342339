use Rattle.std.proofs.Common.{◌≡◌, None, map, take}
use Rattle.ss_tables_rules.proofs.Common.{fold, member_named, option_or}
use Rattle.ss_tables_rules.proofs.keys.first_member.Given as goal

abbrev pub invariant-loop-set : goal.invariant-loop-set
invariant-loop-set l = l.first ≡ fold option_or None (map (member_named l.names) (take l.set-index l.sets))
