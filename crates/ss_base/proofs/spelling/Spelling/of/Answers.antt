use Rattle.ss_base.proofs.Rooms.{is_room, fills_room}
use Rattle.ss_base.proofs.spelling.Spelling.of.Goals as goal

pub invariant_of-result : goal.invariant_of-result
invariant_of-result c = is_room c.args.bytes.now _ (fills_room c.args.bytes.now _ c.copy_from_slice.ensures.after)
