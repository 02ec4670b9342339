-- The order of entries is a total order.
use Rattle.std.proofs.Common.{◌≡◌, Bool, true, false, refl, sym, ap}
use Rattle.ss_events_entries.proofs.Common.{Entry, Equal, Greater, Less, Ordering}
use Rattle.std.specs.Ordering.{nat_cmp, is_lt, ordering_then, ordering_reverse}
use Rattle.std.specs.Cmp.{IsTotalOrder, IsStrictWeakOrder}
use Rattle.std.proofs.lemmas.Cmp.{int_cmp_total, nat_cmp_total, lists_total, on_total, then_total, alike_right, ranked}
use Rattle.std.proofs.lemmas.List.Sorted.{ranks_by}
use Rattle.ss_base.specs.declared.value.Value.{Value}
use Rattle.ss_base.specs.Order.{value_cmp_total}
use Rattle.ss_world.specs.Order.{directed_order, tie_order, key_order, entry_order, comes_before}

directed_antisymm : (p q : Bool) (v w : Value) → directed_order p q v w ≡ ordering_reverse (directed_order q p w v)
directed_antisymm false false v w = value_cmp_total.antisymm v w
directed_antisymm false true v w = refl
directed_antisymm true false v w = refl
directed_antisymm true true v w = value_cmp_total.antisymm w v

directed_trans : (p q r : Bool) (u v w : Value) → directed_order p q u v ≡ Less → directed_order q r v w ≡ Less → directed_order p r u w ≡ Less
directed_trans false false false u v w h k = value_cmp_total.trans u v w h k
directed_trans false false true u v w h k = refl
directed_trans false true false u v w h k = absurd (cc)
directed_trans false true true u v w h k = refl
directed_trans true false r u v w h k = absurd (cc)
directed_trans true true false u v w h k = absurd (cc)
directed_trans true true true u v w h k = value_cmp_total.trans w v u k h

directed_congr : (p q r : Bool) (u v w : Value) → directed_order p q u v ≡ Equal → directed_order p r u w ≡ directed_order q r v w
directed_congr false false false u v w h = value_cmp_total.congr u v w h
directed_congr false false true u v w h = refl
directed_congr false true r u v w h = absurd (cc)
directed_congr true false r u v w h = absurd (cc)
directed_congr true true false u v w h = refl
directed_congr true true true u v w h = sym (alike_right value_cmp_total v u w h)

ties_total : IsTotalOrder tie_order
ties_total = record {
  antisymm = λ x y. directed_antisymm x.high y.high x.value y.value;
  trans = λ x y z. directed_trans x.high y.high z.high x.value y.value z.value;
  congr = λ x y z. directed_congr x.high y.high z.high x.value y.value z.value;
}

keys_total : IsTotalOrder key_order
keys_total = then_total (on_total (λ k. k.time) int_cmp_total) (then_total (on_total (λ k. k.rank) nat_cmp_total) (on_total (λ k. k.ties) (lists_total ties_total)))

pub entries_total : IsTotalOrder entry_order
entries_total = then_total (on_total (λ e. e.key) keys_total) (on_total (λ e. e.number) nat_cmp_total)

-- `comes_before` is an order
pub entries_rank : IsStrictWeakOrder comes_before
unfolding comes_before
entries_rank = ranks_by entries_total (λ (e : Entry). e)

neither_first : (r s : Ordering) → s ≡ ordering_reverse r → is_lt r ≡ false → is_lt s ≡ false → r ≡ Equal
neither_first Less s e f g = absurd (cc)
neither_first Equal s e f g = refl
neither_first Greater s e f g = absurd (let h : is_lt s ≡ true = ap is_lt e in cc)

then_equal : (r s : Ordering) → ordering_then r s ≡ Equal → s ≡ Equal
then_equal Less s e = absurd (cc)
then_equal Equal s e = e
then_equal Greater s e = absurd (cc)

-- entries of which neither comes before the other are of one scheduling
pub tied_numbers : (a b : Entry) → comes_before a b ≡ false → comes_before b a ≡ false → a.number ≡ b.number
unfolding comes_before
tied_numbers a b f g =
    let alike = neither_first (entry_order a b) (entry_order b a) (entries_total.antisymm b a) f g in
    ranked a.number b.number Equal (sym (then_equal (key_order a.key b.key) (nat_cmp a.number b.number) alike))
