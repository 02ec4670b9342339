-- What a look at a member of a set shows.
use Rattle.std.specs.Prelude.{◌≡◌, ℕ, ◌^◌, ◌<◌, ℤ, pos, Bool, true, Ok, if◌then◌else◌}
use Rattle.ss_base.specs.declared.value.Value.TheVariants.{Whole}
use Rattle.ss_world.specs.State.{value_in}
use Rattle.ss_world.specs.Sets.{member_class, next_in, previous_in}
use Rattle.ss_world.specs.Disciplines.{member_test}
use Rattle.ss_records_entities.specs.declared.records.Records.{Records}
use Rattle.ss_records_entities.specs.declared.skimming.Looked.{Looked}
use Rattle.ss_records_entities.specs.Parts.{state, CanJoin}

-- a member of the set s of o, the one that comes next to it, and its attribute f
pub record IsLooked (r : Records) (s : ℕ) (o : ℤ) (reverse : Bool) (f : ℕ) (l : Looked) : Type 0 where
  pub joins : CanJoin r s l.member
  pub joins_next : (l.next.number ≡ 0 → ⊥) → CanJoin r s l.next
  pub small : l.next.number < 2 ^ 62
  pub inside : member_test (state r) s o (pos l.member.number) ≡ Ok true
  pub beside : (if reverse then previous_in (state r) s (pos l.member.number) else next_in (state r) s (pos l.member.number)) ≡ Ok (pos l.next.number)
  pub value : value_in (state r) (member_class r.layout s) f (pos l.member.number) ≡ Ok (Whole l.value)
