-- What comes next to a member.
use Rattle.std.proofs.Common.{◌≡◌, ℕ, ℤ, Bool, true, false, Option, Ok}
use Rattle.std.specs.Prelude.{IfSome, if◌then◌else◌}
use Rattle.ss_records.specs.State.{State}
use Rattle.ss_records.specs.Sets.{next_in, previous_in}
use Rattle.ss_sets.specs.Disciplines.{member_test}
use Rattle.ss_meaning.specs.Sets.{beside}

pub found_beside : (h : State) (set : ℕ) (o x : ℤ) (reverse : Bool) (r : Option ℤ)
    → IfSome r (λ y. (member_test h set o x ≡ Ok true) × ((if reverse then previous_in h set x else next_in h set x) ≡ Ok y)) → IfSome r (λ y. (member_test h set o x ≡ Ok true) × (beside reverse h set x ≡ Ok y))
found_beside h set o x false r d = d
found_beside h set o x true r d = d
