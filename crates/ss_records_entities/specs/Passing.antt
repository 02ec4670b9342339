-- Which member of a set is the first to rank after a value.
use Rattle.std.specs.Prelude.{ℕ, suc, Bool, false, not, cond, List, [], ◌∷◌, pos}
use Rattle.std.specs.Ordering.{match_ordering}
use Rattle.ss_base.specs.Order.{value_cmp}
use Rattle.ss_base.specs.declared.value.Value.{Value}
use Rattle.ss_world.specs.State.{State}
use Rattle.ss_world.specs.Disciplines.{value_of}

-- whether an entity y of a class ranks strictly after a value by the attribute f: the high come first, or the low
abbrev pub ranks_past : State → ℕ → ℕ → Bool → Value → ℕ → Bool
ranks_past st c f high v y = match_ordering (value_cmp (value_of st c f (pos y)) v) high false (not high)

-- the first number of a list for which a test holds, 0 where there is none
abbrev pub first_where : (ℕ → Bool) → List ℕ → ℕ
first_where t [] = 0
first_where t (y ∷ ys) = cond (t y) y (first_where t ys)

-- how many numbers come before it
abbrev pub before_where : (ℕ → Bool) → List ℕ → ℕ
before_where t [] = 0
before_where t (y ∷ ys) = cond (t y) 0 (suc (before_where t ys))
