-- Plain entries, which their marks describe, and entries that are stored whole.
use Rattle.std.proofs.Common.{◌≡◌, ◌≢◌, ℕ, ◌+◌, ◌*◌, ◌/◌, ◌%◌, ◌<◌, ℤ, Bool, true, false, cond, ltb, List, get_or, set, refl, sym, ap, ◌∙◌, ⊎_elim, arith}
use Rattle.std.specs.Prelude.{◌==◌}
use Rattle.ss_events_entries.proofs.Common.{cases_eq, Entry, entry_in, get_or-set_other, lt-ltb, Mark, mark_of, no_entry, not_plain, order_of, plain_entry, plain_numbers, plain_ranks}
use Rattle.ss_events_entries.proofs.Times.{untied, plain_parts}
use Rattle.std.proofs.lemmas.Bool.{eq-eqb, ne_eqb}

-- ---- one entry

by_test : (b : Bool) (e f : Entry) (n : ℤ) → e.notice ≡ n → f.notice ≡ n → (cond b e f).notice ≡ n
by_test true e f n h k = h
by_test false e f n h k = k

pub notice_in : (m : Mark) (n : ℤ) (w : Entry) → (entry_in m n w).notice ≡ n
notice_in m n w = by_test (m.order == not_plain) (record { key = w.key; number = w.number; notice = n }) (plain_entry m n) n refl refl

pub in-not_plain : (m : Mark) (n : ℤ) (w : Entry) → m.order ≡ not_plain → entry_in m n w ≡ record { key = w.key; number = w.number; notice = n }
in-not_plain m n w h = ap (λ b. cond b (record { key = w.key; number = w.number; notice = n }) (plain_entry m n)) (eq-eqb m.order not_plain h)

pub in-plain : (m : Mark) (n : ℤ) (w : Entry) → m.order ≢ not_plain → entry_in m n w ≡ plain_entry m n
in-plain m n w h = ap (λ b. cond b (record { key = w.key; number = w.number; notice = n }) (plain_entry m n)) (ne_eqb m.order not_plain h)

pub plain_again : (e : Entry) (n : ℤ) → (order_of e ≡ not_plain → ⊥) → plain_entry (mark_of e) n ≡ record { key = e.key; number = e.number; notice = n }
plain_again e n h =
    let it = plain_parts e h in
    let ties = sym (untied e.key.ties it.0) in
    let rank : order_of e / plain_numbers ≡ e.key.rank = omega (arith, it.2, it.3) in
    let number : order_of e % plain_numbers ≡ e.number = omega (arith, it.2, it.3) in
    λ i. record { key = record { time = e.key.time; rank = rank i; ties = ties i }; number = number i; notice = n }

pub plain_small : (e : Entry) → (order_of e ≡ not_plain → ⊥) → order_of e < plain_ranks * plain_numbers
plain_small e h = let it = plain_parts e h in omega (arith, it.1, it.2, it.3)

-- the mark of the plain entry that a mark describes
plain_order : (o : ℕ) → o < plain_ranks * plain_numbers → cond (ltb (o / plain_numbers) plain_ranks) (cond (ltb (o % plain_numbers) plain_numbers) (o / plain_numbers * plain_numbers + o % plain_numbers) not_plain) not_plain ≡ o
plain_order o lt =
    (λ i. cond (lt-ltb (o / plain_numbers) plain_ranks (omega (arith, lt)) i) (cond (lt-ltb (o % plain_numbers) plain_numbers (omega arith) i) (o / plain_numbers * plain_numbers + o % plain_numbers) not_plain) not_plain)
    ∙ omega arith

pub plain_mark : (m : Mark) (n : ℤ) → m.order < plain_ranks * plain_numbers → mark_of (plain_entry m n) ≡ m
plain_mark m n lt = λ i. record { time = m.time; order = plain_order m.order lt i }

pub plain_differs : (o : ℕ) → o < plain_ranks * plain_numbers → o ≢ not_plain
plain_differs o lt = omega (arith, lt)

-- an entry from its own mark
pub in_again : (e w : Entry) → (order_of e ≡ not_plain → w ≡ e) → entry_in (mark_of e) e.notice w ≡ e
in_again e w h = ⊎_elim
    (λ is. in-not_plain (mark_of e) e.notice w is ∙ ap (λ (x : Entry). record { key = x.key; number = x.number; notice = e.notice }) (h is))
    (λ other. in-plain (mark_of e) e.notice w other ∙ plain_again e e.notice other)
    (cases_eq (order_of e) not_plain)

-- another entry, once one was stored whole or not
pub other_whole : (b : Bool) (ws vs : List Entry) (s : ℕ) (e : Entry) → vs ≡ cond b (set ws s e) ws → (t : ℕ) → t ≢ s → get_or vs t no_entry ≡ get_or ws t no_entry
other_whole true ws vs s e is t other = ap (λ l. get_or l t no_entry) is ∙ get_or-set_other ws s t e no_entry other
other_whole false ws vs s e is t other = ap (λ l. get_or l t no_entry) is
