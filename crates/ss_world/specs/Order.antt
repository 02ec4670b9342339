-- The order of pending entries: by time, then by the rank of the class, then by the ties in turn, then by the order of scheduling.
use Rattle.std.specs.Prelude.{Bool, true, false}
use Rattle.std.specs.declared.cmp.Ordering.{Ordering}
use Rattle.std.specs.declared.cmp.Ordering.TheVariants.{Less, Greater}
use Rattle.std.specs.Ordering.{int_cmp, nat_cmp, is_lt, ordering_then}
use Rattle.std.specs.Cmp.Lexicographic.{slice_cmp}
use Rattle.ss_base.specs.declared.value.Value.{Value}
use Rattle.ss_base.specs.Order.{value_cmp}
use Rattle.ss_world.specs.declared.ties.Tie.{Tie}
use Rattle.ss_world.specs.SortKey.{SortKey}
use Rattle.ss_world.specs.PendingNotice.{PendingNotice}

-- how two values are ordered, where each is a high or a low tie: of two high ones the greater comes first (in one class both are alike)
abbrev pub directed_order : Bool → Bool → Value → Value → Ordering
directed_order false false v w = value_cmp v w
directed_order false true v w = Less
directed_order true false v w = Greater
directed_order true true v w = value_cmp w v

-- how two ties are ordered
abbrev pub tie_order : Tie → Tie → Ordering
tie_order a b = directed_order a.high b.high a.value b.value

-- how two keys are ordered: by time, then by rank, then by the ties in turn
abbrev pub key_order : SortKey → SortKey → Ordering
key_order a b = ordering_then (int_cmp a.time b.time) (ordering_then (nat_cmp a.rank b.rank) (slice_cmp tie_order a.ties b.ties))

-- how two entries are ordered: by their keys, then by the order of scheduling
abbrev pub entry_order : PendingNotice → PendingNotice → Ordering
entry_order a b = ordering_then (key_order a.key b.key) (nat_cmp a.number b.number)

-- whether the entry a comes out before b
unfoldable pub comes_before : PendingNotice → PendingNotice → Bool
comes_before a b = is_lt (entry_order a b)
