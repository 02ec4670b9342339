-- Items of PRINT whose uses break no rule resolve, each to one that its field takes.
use Rattle.std.proofs.Common.{◌≡◌, ◌⊎◌, inl, inr, ℕ, zero, suc, ◌≤◌, Bool, true, false, Option, Some, None, refl, sym, ap, subst, arith}
use Rattle.std.specs.Prelude.{nat_le, option_map, if◌then◌else◌}
use Rattle.ss_check_laws.proofs.Common.{AreValid, both_ways, Designator, ExpressionTree, Field, has_value, holds_unless, if_means, is_mean, IsLinked, leb-true, Line, Meaning, meaning_of, named, none-some, parenthesised, resolved_item, Scope}
use Rattle.ss_check_rules.specs.Refusal.{used_breaks}
use Rattle.ss_names_uses.specs.Uses.{as_mean, in_item, with_decimals}
use Rattle.ss_program.specs.Program.{Expression, PrintItem, AValue, AMean, AMeanOf}
use Rattle.ss_program.specs.WellTyped.{TypedScope as Place, CanTakeItem}
use Rattle.ss_names_uses.specs.declared.used.Role.TheVariants as roles
use Rattle.ss_names_uses.specs.declared.used.Used.{Used}
use Rattle.ss_names_uses.specs.declared.used.Used.TheVariants.{Mean, Unfit}
use Rattle.ss_names.specs.declared.meaning.Meaning.TheVariants as meanings
use Rattle.ss_check_rules.specs.declared.error.CheckError.TheVariants as errors
use Rattle.ss_check_laws.specs.BodyLaws.{IsResolvedItem, ItemsResolve}
use Rattle.ss_check_laws.proofs.Steps.{after}
use Rattle.ss_check_laws.proofs.Linked.{IsHere}
use Rattle.ss_check_laws.proofs.Places.{EntityFits, in_role, named_statistic_fits, placed}
use Rattle.ss_check_laws.proofs.Expressions.{meant_value, numbers, resolves}

-- no decimals; or at most 9, if something holds
abbrev FewDecimals : ℕ → Type 0 → Type 0
FewDecimals n Holds = (n ≡ 0) ⊎ ((n ≤ 9) × Holds)

at_most_nine : (n : ℕ) (Holds : Type 0) → FewDecimals n Holds → n ≤ 9
at_most_nine n Holds (inl none) = omega (arith, none)
at_most_nine n Holds (inr few) = few.0

none_unless : (n : ℕ) (Holds : Type 0) → (Holds → ⊥) → FewDecimals n Holds → n ≡ 0
none_unless n Holds never (inl none) = none
none_unless n Holds never (inr few) = absurd (never few.1)

module _ (s : Scope) (in_main : Bool) (line : Line) where
  -- what a field with decimals asks of its item is kept
  abbrev IsMeanKept : Used → Type 0
  IsMeanKept u = used_breaks s in_main line u ≡ None

  no_mean : IsMeanKept Unfit → ⊥
  no_mean h = none-some (errors.Fields line) (sym h)

  mean_kept : (b : Bool) (u : Used) → IsMeanKept (if b then u else Unfit) → (b ≡ true) × IsMeanKept u
  mean_kept true u h = (refl, h)
  mean_kept false u h = absurd (no_mean h)

  decimals_kept : (e : ExpressionTree) (n : ℕ) → AreValid s in_main (with_decimals line e n) → FewDecimals n (IsMeanKept (as_mean e))
  decimals_kept e zero h = inl refl
  decimals_kept e (suc more) h =
      let m = mean_kept (nat_le (suc more) 9) (as_mean e) h.0 in
      inr (leb-true (suc more) 9 m.0, m.1)

  decimals_meant : (d : Designator) (m : Meaning) (n : ℕ) → meaning_of s d ≡ Some m → FewDecimals n (IsMeanKept (Mean d)) → FewDecimals n (is_mean m ≡ true)
  decimals_meant d m n e (inl none) = inl none
  decimals_meant d m n e (inr few) = inr (few.0, subst (λ o. if_means is_mean o ≡ true) e (holds_unless (if_means is_mean (meaning_of s d)) (errors.Fields line) few.1))

module _ (s : Scope) (g : Place) (k : IsLinked s g) (line : Line) (field : Field) where
  abbrev HasItem : Meaning → Option Expression → Type 0
  HasItem m of = (x : PrintItem) × (resolved_item m of ≡ Some x) × CanTakeItem g field x

  -- a MEAN, or else a value in a field without decimals
  meant_item : (m : Meaning) (of : Option Expression) → IsHere s g k m → EntityFits s g m of → has_value m ≡ true → FewDecimals field.decimals (is_mean m ≡ true) → HasItem m of
  meant_item (meanings.Statistic None n) None i f h d = (AMean n, refl, (named_statistic_fits s g k n i None f, at_most_nine field.decimals (true ≡ true) d))
  meant_item (meanings.Statistic None n) (Some e) i f h d =
      let p = named_statistic_fits s g k n i (Some e) f in
      (AMeanOf n e, refl, (p.0, p.1, at_most_nine field.decimals (true ≡ true) d))
  meant_item m of i f h d =
      let v = meant_value s g k m of i f h refl in
      (AValue v.0, ap (option_map AValue) v.2, ((v.1, v.4), none_unless field.decimals (is_mean m ≡ true) (both_ways (is_mean m) refl) d))

  item_resolves : (e : ExpressionTree) → FewDecimals field.decimals (IsMeanKept s g.is_main line (as_mean e)) → AreValid s g.is_main (in_item line e) → IsResolvedItem s g field e
  item_resolves (named d es) few h =
      let p = in_role s g k line roles.Item has_value d es false refl refl h.0 (numbers s g k line es h.1) in
      after {A = Meaning × Option Expression} (CanTakeItem g field) _ _ (p.0, p.5.1) (placed s g d es p.0 p.5 p.1)
      (meant_item p.0 p.5.1 p.3 p.5.4 p.2 (decimals_meant s g.is_main line d p.0 field.decimals p.1 few))
  item_resolves (parenthesised e) few h = item_resolves e few h
  item_resolves e few h =
      let r = resolves s g k line false e h in
      (AValue r.0, ap (option_map AValue) r.2, ((r.1, r.3), none_unless field.decimals (IsMeanKept s g.is_main line (as_mean e)) (no_mean s g.is_main line) few))

pub items_resolve : ItemsResolve
items_resolve s g k line field e h i = item_resolves s g k line field e (decimals_kept s g.is_main line e field.decimals h) i
