-- Entries whose order is decided before their ties are compared.
use Rattle.std.proofs.Common.{◌≡◌, ℕ, ◌+◌, ◌*◌, ◌<◌, ℤ, Bool, true, false, cond, ltb, refl, sym, ap, ◌∙◌, List, [], ◌∷◌, ⊎_elim, arith}
use Rattle.std.specs.Prelude.{int_lt, nat_lt, ◌==◌}
use Rattle.ss_events_entries.proofs.Common.{cases_eq, cases_lt, Entry, Equal, Greater, ints, is_tied, IsBut, le-ltb, Less, lt-ltb, not_plain, order_of, Ordering, plain_numbers, plain_ranks, slice_cmp, Tie}
use Rattle.std.specs.Ordering.{int_cmp, nat_cmp, is_lt, ordering_then}
use Rattle.std.proofs.lemmas.Bool.{ltb-true, ne_eqb}
use Rattle.std.proofs.lemmas.Cmp.{tied_itself, nat_cmp_total, int_cmp_total}
use Rattle.ss_world.specs.Order.{tie_order, key_order, comes_before}

by_tests : (b c : Bool) (r s : Ordering) → (b ≡ false → c ≡ false → ⊥) → b ≡ is_lt (ordering_then (ordering_then (cond b Less (cond c Greater Equal)) r) s)
by_tests true c r s h = refl
by_tests false true r s h = refl
by_tests false false r s h = absurd (h refl refl)

neither_less : (t u : ℤ) → int_lt t u ≡ false → int_lt u t ≡ false → t ≡ u
neither_less t u h k = grind (arith, ints)

-- where the times differ, they decide
pub times_tell : (e f : Entry) (t u : ℤ) → t ≡ e.key.time → u ≡ f.key.time → (t ≡ u → ⊥) → int_lt t u ≡ comes_before e f
unfolding comes_before
times_tell e f t u is too differ =
    by_tests (int_lt t u) (int_lt u t) (ordering_then (nat_cmp e.key.rank f.key.rank) (slice_cmp tie_order e.key.ties f.key.ties)) (nat_cmp e.number f.number)
    (λ h k. differ (neither_less t u h k))
    ∙ (λ i. is_lt (ordering_then (ordering_then (int_cmp (is i) (too i)) (ordering_then (nat_cmp e.key.rank f.key.rank) (slice_cmp tie_order e.key.ties f.key.ties))) (nat_cmp e.number f.number)))

-- ---- where the times are the same

by_ranks : (b q : Bool) (o r s : Ordering) → o ≡ Equal → q ≡ false → b ≡ is_lt (ordering_then (ordering_then o (ordering_then (cond b Less (cond q Equal Greater)) r)) s)
by_ranks true q o r s e f = ap (λ p. is_lt (ordering_then (ordering_then p (ordering_then Less r)) s)) (sym e)
by_ranks false true o r s e f = absurd cc
by_ranks false false o r s e f = ap (λ p. is_lt (ordering_then (ordering_then p (ordering_then Greater r)) s)) (sym e)

same_time : (t u : ℤ) → t ≡ u → int_cmp t u ≡ Equal
same_time t u e = ap (int_cmp t) (sym e) ∙ tied_itself int_cmp_total t

same_rank : (r s : ℕ) → r ≡ s → nat_cmp r s ≡ Equal
same_rank r s e = ap (nat_cmp r) (sym e) ∙ tied_itself nat_cmp_total r

-- where the ranks differ, they decide
pub ranks_tell : (e f : Entry) → e.key.time ≡ f.key.time → (e.key.rank ≡ f.key.rank → ⊥) → nat_lt e.key.rank f.key.rank ≡ comes_before e f
unfolding comes_before
ranks_tell e f same differ =
    by_ranks (nat_lt e.key.rank f.key.rank) (e.key.rank == f.key.rank) (int_cmp e.key.time f.key.time) (slice_cmp tie_order e.key.ties f.key.ties) (nat_cmp e.number f.number)
    (same_time e.key.time f.key.time same) (ne_eqb e.key.rank f.key.rank differ)

by_number : (b q : Bool) → b ≡ is_lt (cond b Less (cond q Equal Greater))
by_number true q = refl
by_number false true = refl
by_number false false = refl

pub untied : (ts : List Tie) → is_tied ts ≡ false → ts ≡ []
untied [] e = refl
untied (t ∷ ts) e = absurd cc

-- the order of scheduling decides
pub numbers_tell : (e f : Entry) → e.key.time ≡ f.key.time → e.key.rank ≡ f.key.rank → is_tied e.key.ties ≡ false → is_tied f.key.ties ≡ false → nat_lt e.number f.number ≡ comes_before e f
unfolding comes_before
numbers_tell e f a b c d =
    let times = sym (same_time e.key.time f.key.time a) in
    let ranks = sym (same_rank e.key.rank f.key.rank b) in
    let first = sym (untied e.key.ties c) in
    let second = sym (untied f.key.ties d) in
    by_number (nat_lt e.number f.number) (e.number == f.number)
    ∙ (λ i. is_lt (ordering_then (ordering_then (times i) (ordering_then (ranks i) (slice_cmp tie_order (first i) (second i)))) (nat_cmp e.number f.number)))

-- ---- by the orders in the marks of plain entries

by_three : (b c d : Bool) (u x : ℕ) → (cond b u (cond c (cond d x u) u) ≡ u → ⊥) → (b ≡ false) × (c ≡ true) × (d ≡ true)
by_three true c d u x h = absurd (h refl)
by_three false false d u x h = absurd (h refl)
by_three false true false u x h = absurd (h refl)
by_three false true true u x h = (refl, refl, refl)

-- what is known of a plain entry
pub plain_parts : (e : Entry) → (order_of e ≡ not_plain → ⊥) → (is_tied e.key.ties ≡ false) × (e.key.rank < plain_ranks) × (e.number < plain_numbers) × (order_of e ≡ e.key.rank * plain_numbers + e.number)
plain_parts e h =
    let it = by_three (is_tied e.key.ties) (ltb e.key.rank plain_ranks) (ltb e.number plain_numbers) not_plain (e.key.rank * plain_numbers + e.number) h in (
      it.0,
      ltb-true e.key.rank plain_ranks it.1,
      ltb-true e.number plain_numbers it.2,
      (λ i. cond (it.0 i) not_plain (cond (it.1 i) (cond (it.2 i) (e.key.rank * plain_numbers + e.number) not_plain) not_plain)),
    )

of_one_rank : (r s m n : ℕ) → r ≡ s → ltb (r * plain_numbers + m) (s * plain_numbers + n) ≡ ltb m n
of_one_rank r s m n e = ⊎_elim
    (λ lt. lt-ltb (r * plain_numbers + m) (s * plain_numbers + n) (omega (arith, e, lt)) ∙ sym (lt-ltb m n lt))
    (λ past. le-ltb (r * plain_numbers + m) (s * plain_numbers + n) (omega (arith, e, past)) ∙ sym (le-ltb m n past))
    (cases_lt m n)

of_two_ranks : (r s m n : ℕ) → (r ≡ s → ⊥) → m < plain_numbers → n < plain_numbers → ltb (r * plain_numbers + m) (s * plain_numbers + n) ≡ ltb r s
of_two_ranks r s m n differ m_in n_in = ⊎_elim
    (λ lt. lt-ltb (r * plain_numbers + m) (s * plain_numbers + n) (omega (arith, lt, m_in)) ∙ sym (lt-ltb r s lt))
    (λ past. le-ltb (r * plain_numbers + m) (s * plain_numbers + n) (omega (arith, past, differ, n_in)) ∙ sym (le-ltb r s past))
    (cases_lt r s)

-- where two plain entries come at one time, their orders decide
pub orders_decide : (e f : Entry) → e.key.time ≡ f.key.time → (order_of e ≡ not_plain → ⊥) → (order_of f ≡ not_plain → ⊥) → nat_lt (order_of e) (order_of f) ≡ comes_before e f
orders_decide e f same first second =
    let a = plain_parts e first in
    let b = plain_parts f second in
    (λ i. nat_lt (a.3 i) (b.3 i)) ∙ ⊎_elim
    (λ is. of_one_rank e.key.rank f.key.rank e.number f.number is ∙ numbers_tell e f same is a.0 b.0)
    (λ other. of_two_ranks e.key.rank f.key.rank e.number f.number other a.2 b.2 ∙ ranks_tell e f same other)
    (cases_eq e.key.rank f.key.rank)

-- ---- whatever the notices

pub but_before : (e f g : Entry) → IsBut e f → comes_before e g ≡ comes_before f g
unfolding comes_before
but_before e f g h = λ i. is_lt (ordering_then (key_order (h.key i) g.key) (nat_cmp (h.number i) g.number))

pub before_but : (e f g : Entry) → IsBut f g → comes_before e f ≡ comes_before e g
unfolding comes_before
before_but e f g h = λ i. is_lt (ordering_then (key_order e.key (h.key i)) (nat_cmp e.number (h.number i)))
