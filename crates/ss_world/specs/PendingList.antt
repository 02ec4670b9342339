-- The event list: which notices are pending, and which of them comes out next.
use Rattle.std.specs.Prelude.{◌≡◌, ℕ, ◌+◌, ◌==◌, ℤ, Bool, not, List, [], ◌∷◌, ◌++◌, map, fold, filter, slice_get, Option, None, Some, Result, Ok, Err, IsOk, if◌then◌else◌}
use Rattle.std.specs.Ordering.{int_eq}
use Rattle.std.specs.List.{list_any}
use Rattle.std.specs.Option.{option_map, option_map_or}
use Rattle.ss_base.specs.declared.fault.FaultKind.{FaultKind}
use Rattle.ss_base.specs.declared.fault.FaultKind.TheVariants.{AlreadyScheduled, NotScheduled, Overflow}
use Rattle.ss_base.specs.declared.fault.Refused.{Refused}
use Rattle.ss_base.specs.declared.fault.Refused.TheVariants.{Fault, Memory}
use Rattle.ss_world.specs.PendingNotice.{PendingNotice}
use Rattle.ss_world.specs.declared.ties.TieShape.{TieShape}
use Rattle.ss_world.specs.SortKey.{SortKey}
use Rattle.ss_world.specs.Shape.{shape_of}
use Rattle.ss_world.specs.Order.{comes_before}

-- the entries in the order of scheduling, how many schedulings there ever were, and the shapes of each class's ties by rank
pub record PendingList : Type 0 where
  pub entries : List PendingNotice
  pub schedulings : ℕ
  pub classes : List (List TieShape)

-- nothing is pending, and nothing was
abbrev pub none_pending : List (List TieShape) → PendingList
none_pending classes = record { entries = []; schedulings = 0; classes = classes }

-- a key fits: its rank is that of a class, and its ties have the shapes of that class
abbrev pub IsFittingKey : List (List TieShape) → SortKey → Type 0
IsFittingKey classes key = slice_get classes key.rank ≡ Some (map shape_of key.ties)

-- whether a notice is pending
abbrev pub is_pending : ℤ → List PendingNotice → Bool
is_pending notice entries = list_any (λ e. int_eq notice e.notice) entries

-- the entries without that of a notice
abbrev pub without_notice : ℤ → List PendingNotice → List PendingNotice
without_notice notice entries = filter (λ e. not (int_eq notice e.notice)) entries

-- the one of two entries that comes out first
abbrev pub earlier_notice : PendingNotice → PendingNotice → PendingNotice
earlier_notice a b = if comes_before b a then b else a

-- the least entry, which comes out first of all
abbrev pub least : List PendingNotice → Option PendingNotice
least [] = None
least (e ∷ es) = Some (fold earlier_notice e es)

-- the list with one more entry, of a new scheduling
abbrev pub with_entry : SortKey → ℤ → PendingList → PendingList
with_entry key notice p = record p { entries = p.entries ++ record { key = key; number = p.schedulings; notice = notice } ∷ []; schedulings = p.schedulings + 1 }

-- the most schedulings: 2^62 - 1
abbrev pub scheduling_limit : ℕ
scheduling_limit = 4611686018427387903

-- the list after a notice is scheduled under a key, or the fault
abbrev pub scheduled : SortKey → ℤ → PendingList → Result PendingList FaultKind
scheduled key notice p =
    if is_pending notice p.entries then Err AlreadyScheduled
    else if p.schedulings == scheduling_limit then Err Overflow
    else Ok (with_entry key notice p)

-- why it was refused: for the fault, or for memory where there is none
abbrev pub IsRefusal : Refused → Result PendingList FaultKind → Type 0
IsRefusal (Fault kind) r = r ≡ Err kind
IsRefusal Memory r = IsOk r

-- the list after a notice is cancelled, or the fault
abbrev pub cancelled : ℤ → PendingList → Result PendingList FaultKind
cancelled notice p =
    if is_pending notice p.entries then Ok (record p { entries = without_notice notice p.entries })
    else Err NotScheduled

-- the time and the notice of the least entry
abbrev pub least_event : PendingList → Option (ℤ × ℤ)
least_event p = option_map (λ e. (e.key.time, e.notice)) (least p.entries)

-- the list after the least entry came out
abbrev pub after_next : PendingList → PendingList
after_next p = record p { entries = option_map_or (λ e. without_notice e.notice p.entries) (least p.entries) [] }
