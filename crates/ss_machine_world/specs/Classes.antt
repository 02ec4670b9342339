-- What a program says of each class, as it is looked up.
use Rattle.std.specs.Prelude.{◌≡◌, ℕ, Bool, true, false, List, [], ◌∷◌, length, Some, slice_get}
use Rattle.std.specs.List.{list_any}
use Rattle.ss_base.specs.Plain.{PlainLayout}
use Rattle.ss_base.specs.declared.layout.Owner.TheVariants.{Class}
use Rattle.ss_base.specs.declared.layout.RankKey.{RankKey}
use Rattle.ss_machine_time.specs.Records.{is_home}
use Rattle.ss_meaning.specs.Events.{Ranked, ranked_from}
use Rattle.ss_meaning.specs.Store.{Notices}
use Rattle.ss_program.specs.declared.sections.Statistic.{Statistic}
use Rattle.ss_machine_world.specs.declared.class.ClassEntry.{ClassEntry}

-- whether there are keys
abbrev pub has_keys : List RankKey → Bool
has_keys [] = false
has_keys (k ∷ ks) = true

-- an entry is that of a class: whether a statistic has a history of each of its entities; and where it is one of these classes of notices, which
-- have their ranks from a number on, its rank and whether attributes break ties
pub record IsSaid (from : ℕ) (l : PlainLayout) (es : List Notices) (ss : List Statistic) (class : ℕ) (entry : ClassEntry) : Type 0 where
  pub watched : entry.is_watched ≡ list_any (is_home l (Class class)) ss
  pub ranked : (r : Ranked) → ranked_from from es class ≡ Some r → (entry.rank ≡ r.rank) × (entry.has_ties ≡ has_keys r.said.ties)

-- each class of a layout has its entry
abbrev pub AreSaidFrom : (from : ℕ) → PlainLayout → List Notices → List Statistic → List ClassEntry → Type 0
AreSaidFrom k l es ss entries =
    (length entries ≡ length l.classes) × ((class : ℕ) (entry : ClassEntry) → slice_get entries class ≡ Some entry → IsSaid k l es ss class entry)

abbrev pub AreSaid : PlainLayout → List Notices → List Statistic → List ClassEntry → Type 0
AreSaid l es ss entries = AreSaidFrom 0 l es ss entries

-- the entry of a class of notices that has this rank
abbrev pub with_rank : (rank : ℕ) → Notices → ClassEntry → ClassEntry
with_rank k n entry = record { is_watched = entry.is_watched; has_ties = has_keys n.ties; rank = k }
