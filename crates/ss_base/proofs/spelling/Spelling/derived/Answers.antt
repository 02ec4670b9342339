use Rattle.std.proofs.Common.{◌≡◌, ◌+◌, ◌-◌, length, arith}
use Rattle.ss_base.proofs.Rooms.{derived_is_room, derived_fills_room}
use Rattle.ss_base.proofs.spelling.Spelling.derived.Goals as goal

pub invariant_of-result : goal.invariant_of-result
invariant_of-result c =
    let n : length c.bytes-bytes.result.now + 2 - 2 ≡ length c.bytes-bytes.result.now = omega arith in
    derived_is_room c.args.letter c.bytes-bytes.result.now _ _ (omega arith) (derived_fills_room c.args.letter c.bytes-bytes.result.now _ _ n c.copy_from_slice.ensures.after)
