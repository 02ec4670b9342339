-- A walk along a set that passes over some of its members.
use Rattle.std.specs.Prelude.{◌≡◌, ℕ, zero, suc, ℤ, Bool, true, Ok, if◌then◌else◌}
use Rattle.std.specs.Ordering.{match_ordering, int_cmp}
use Rattle.ss_base.specs.declared.value.Value.TheVariants.{Whole}
use Rattle.ss_world.specs.State.{State, value_in}
use Rattle.ss_world.specs.Sets.{next_in, previous_in}
use Rattle.ss_world.specs.Disciplines.{member_test}
use Rattle.ss_records_entities.specs.declared.skimming.Filter.{Filter}
use Rattle.ss_records_entities.specs.declared.skimming.Skimmed.{Skimmed}

-- whether a member with this value is passed over
abbrev pub is_passed : Filter → (value : ℤ) → Bool
is_passed f v = match_ordering (int_cmp v f.number) f.less f.same f.more

-- so many steps lead from one number to another
abbrev pub IsReachedIn : (step : ℤ → ℤ → Type 0) → ℕ → (x y : ℤ) → Type 0
IsReachedIn step zero x y = x ≡ y
IsReachedIn step (suc k) x y = (z : ℤ) × (IsReachedIn step k x z × step z y)

module _ (st : State) (s : ℕ) (o : ℤ) (reverse : Bool) (f : Filter) where
  -- x is a member of the set s of o, y comes next to it, 0 for none, and the attribute is v
  pub record IsMember (x y v : ℤ) : Type 0 where
    pub inside : member_test st s o x ≡ Ok true
    pub next : (if reverse then previous_in st s x else next_in st s x) ≡ Ok y
    pub value : value_in st f.class f.field x ≡ Ok (Whole v)

  -- it is one that is passed over
  pub record IsPassedOver (x y : ℤ) : Type 0 where
    pub v : ℤ
    pub member : IsMember x y v
    pub over : is_passed f v ≡ true

  -- how far a walk from the member x on has come
  pub record IsSkimmed (x : ℤ) (k : Skimmed) : Type 0 where
    pub steps : IsReachedIn IsPassedOver k.passed x k.member
    pub member : IsMember k.member k.next k.value
