-- What a walk along a set tests, and how x ranks in it.
use Rattle.std.specs.Prelude.{◌≡◌, ◌<◌, ℕ, Bool, true, List, ◌∷◌, length, ℤ, pos, Some, slice_get}
use Rattle.ss_base.specs.declared.layout.Mode.TheVariants.{Integer}
use Rattle.ss_base.specs.declared.layout.RankKey.{RankKey}
use Rattle.ss_sets.specs.declared.ranking.Rank.{Rank}
use Rattle.ss_world.specs.State.{State, modes_of}
use Rattle.ss_world.specs.Sets.{member_class}
use Rattle.ss_world.specs.Disciplines.{AreFields, ranks_after, value_of}

-- whether a member ranks strictly after x
abbrev pub is_after : State → ℕ → List RankKey → ℤ → ℕ → Bool
is_after st c ks x y = ranks_after st c ks (pos y) x

-- how x ranks in a set by a key that counts most and others
pub record IsRankIn (st : State) (s : ℕ) (r : Rank) (others : List RankKey) : Type 0 where
  pub set : s < length st.layout.sets
  pub class : r.class ≡ member_class st.layout s
  pub keys : AreFields st.layout (member_class st.layout s) (r.key ∷ others)
  pub own : value_of st (member_class st.layout s) r.key.field r.x ≡ r.own
  pub mode : r.whole ≡ true → slice_get (modes_of st.layout (member_class st.layout s)) r.key.field ≡ Some Integer
