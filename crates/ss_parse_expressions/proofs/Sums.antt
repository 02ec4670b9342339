-- Terms and sums: what is read is spelled, and what is spelled is read.
use Rattle.std.proofs.Common.{◌≡◌, ℕ, zero, suc, ◌<◌, ◌≤◌, false, ◌||◌, List, [], ◌∷◌, length, Some, refl, sym, ap, subst, arith, inl, inr}
use Rattle.ss_parse_expressions.proofs.Common.{and_expression, and_term, apply, begins, begins_more, call, ExpressionTree, factor_place, first_place, Minus, named, no_expression, Plus, product, seq, Sign, Sign_is, signed, skip, skip_separator, Spelled, Star, sum, sum_place, term_place, Token, TokenKind}
use Rattle.ss_lex.specs.declared.token.TokenKind.TheVariants as kinds
use Rattle.ss_base.specs.declared.words.Sign.TheVariants as signs
use Rattle.ss_parse_expressions.specs.Shapes.{◌▷◌, Token_is, Symbol_is, each_in_turn}
use Rattle.ss_parse_expressions.specs.SpelledExpressions.{ExpressionPlace, Can_take_product, Can_take_sign, Can_take_sum}
use Rattle.ss_parse_expressions.specs.ReadExpressions.{star, sign_of_token, begins_sign, begins_sum, sum_of_terms, product_of, factor_with, further_factors_with, term_with, signed_term_with, first_term_with, further_terms_with, sum_with, sum_in}
use Rattle.ss_parse_expressions.proofs.Tools.{or_false}
use Rattle.ss_parse_expressions.proofs.Marks.{token_less, In_table}
use Rattle.ss_parse_expressions.proofs.ReaderLaws.{Reads, Item, Made, item_of, item_skipped, item_apply, taken_reads, seq_reads, apply_reads, too_deep_reads, either_reads, reshaped_reads}
use Rattle.ss_parse_expressions.proofs.Rows.{rows_reads, each_first, Loop, loop_of, separated_item}
use Rattle.ss_parse_expressions.proofs.Beginnings.{In, in_begins, sum_no_and, Term_is, further_factors, further_terms, term_parts, first_cases, sum_parts, sign_begins, term_begins, continues_factor, continues_term, continues_sum}
use Rattle.ss_parse_expressions.proofs.Factors.{factor_reads, factor_less}

-- ---- signs

sign_to : (k : TokenKind) (sign : Sign) (ts rest : List Token) → sign_of_token k ≡ Some sign → Token_is k ts rest → Sign_is sign ts rest
sign_to (kinds.Symbol Plus) sign ts rest e at = let is_plus : signs.Plus ≡ sign = cc in subst (λ s. Sign_is s ts rest) is_plus at
sign_to (kinds.Symbol Minus) sign ts rest e at = let is_minus : signs.Minus ≡ sign = cc in subst (λ s. Sign_is s ts rest) is_minus at
sign_to _ sign ts rest e at = absurd cc

sign_from : (sign : Sign) (ts rest : List Token) → Sign_is sign ts rest → In_table sign_of_token sign ts rest
sign_from signs.Plus ts rest at = (kinds.Symbol Plus, refl, at)
sign_from signs.Minus ts rest at = (kinds.Symbol Minus, refl, at)

-- ---- places

-- what is spelled in a place is spelled in another that takes as much
as_spelled : (p q : ExpressionPlace) → (Can_take_product p → Can_take_product q) → (Can_take_sign p → Can_take_sign q) → (Can_take_sum p → Can_take_sum q) → (levels : ℕ) (e : ExpressionTree) (ts rest : List Token) → Spelled e p levels ts rest → Spelled e q levels ts rest
as_spelled p q takes_product takes_sign takes_sum levels (named d no_expression) ts rest s = s
as_spelled p q takes_product takes_sign takes_sum levels (call f no_expression) ts rest s = s
as_spelled p q takes_product takes_sign takes_sum levels (product e (and_expression f fs)) ts rest (can, s) = (takes_product can, s)
as_spelled p q takes_product takes_sign takes_sum levels (signed sign e) ts rest (can, s) = (takes_sign can, s)
as_spelled p q takes_product takes_sign takes_sum levels (sum e (and_term sign f fs)) ts rest (can, s) = (takes_sum can, s)
as_spelled p q takes_product takes_sign takes_sum levels _ ts rest s = s

-- ---- the laws of terms and sums, given those of what is in parentheses

module _ (n m : ℕ) (inner : Reads n (sum_in n) (sum_in m) (In n) continues_sum) (inner_less : (ts : List Token) (e : ExpressionTree) (rest : List Token) → In n e ts rest → length rest < length ts) where
  -- ---- terms

  factor_item : Item (suc n) (begins star) (λ r. factor_with (sum_in n) (skip star r)) (λ r. factor_with (sum_in m) (skip star r)) (λ e. Symbol_is Star ▷ Spelled e factor_place n) continues_factor
  factor_item = item_skipped star (factor_reads n m inner inner_less)

  further_factors_reads : Reads (suc n) (further_factors_with (sum_in n)) (further_factors_with (sum_in m)) (each_in_turn (λ e. Symbol_is Star ▷ Spelled e factor_place n)) continues_term
  further_factors_reads = rows_reads factor_item (λ ts e rest s. ap continues_factor s.1.2)

  factors_reads : Reads (suc n) (seq (factor_with (sum_in n)) (further_factors_with (sum_in n))) (seq (factor_with (sum_in m)) (further_factors_with (sum_in m))) (λ p. Spelled p.0 factor_place n ▷ each_in_turn (λ e. Symbol_is Star ▷ Spelled e factor_place n) p.1) continues_term
  factors_reads =
      seq_reads (factor_reads n m inner inner_less) further_factors_reads
      (λ xs ts rest s stop. each_first continues_factor (λ ts e rest s. ap continues_factor s.1.2) xs ts rest s (or_false (begins star rest) (continues_factor rest) stop).1)

  term_to : (p : ExpressionTree × List ExpressionTree) (ts rest : List Token) → (Spelled p.0 factor_place n ▷ each_in_turn (λ e. Symbol_is Star ▷ Spelled e factor_place n) p.1) ts rest → Spelled (product_of p.0 p.1) term_place n ts rest
  term_to (e, []) ts rest (m, one, is) = as_spelled factor_place term_place (λ can. absurd can) (λ can. can) (λ can. can) n e ts rest (subst (λ r. Spelled e factor_place n ts r) is one)
  term_to (e, f ∷ fs) ts rest (m, one, more) = (tt, (m, one, further_factors n (f ∷ fs) m rest more))

  pub term_reads : Reads (suc n) (term_with (sum_in n)) (term_with (sum_in m)) (λ e. Spelled e term_place n) continues_term
  unfolding term_with
  term_reads = apply_reads factors_reads (λ p. product_of p.0 p.1) (λ e. Spelled e term_place n) term_to (λ x ts rest s. term_parts x n ts rest s)

  term_less : (ts : List Token) (x : ExpressionTree) (rest : List Token) → Spelled x term_place n ts rest → length rest < length ts
  term_less ts x rest s =
      let p = term_parts x n ts rest s in
      omega (arith, factor_less n m inner inner_less ts p.0.0 p.2.0 p.2.1, further_factors_reads.shorter p.2.0 p.0.1 rest p.2.2)

  -- ---- sums

  signed_term_reads : Reads (suc n) (signed_term_with (sum_in n)) (signed_term_with (sum_in m)) (Term_is n) continues_term
  unfolding signed_term_with
  signed_term_reads = seq_reads (reshaped_reads (taken_reads (suc n) sign_of_token) Sign_is (λ sign ts rest s. sign_to s.0 sign ts rest s.1 s.2) sign_from) term_reads (λ x ts rest s stop. refl)

  signed_term_less : (ts : List Token) (x : Sign × ExpressionTree) (rest : List Token) → Term_is n x ts rest → length rest < length ts
  signed_term_less ts (signs.Plus, e) rest (m, sign_is, one) = omega (arith, token_less (kinds.Symbol Plus) ts m sign_is, term_less m e rest one)
  signed_term_less ts (signs.Minus, e) rest (m, sign_is, one) = omega (arith, token_less (kinds.Symbol Minus) ts m sign_is, term_less m e rest one)

  signed_term_item : Item (suc n) begins_sign (signed_term_with (sum_in n)) (signed_term_with (sum_in m)) (Term_is n) continues_term
  signed_term_item = item_of begins_sign signed_term_reads (λ ts x rest s. (sign_begins x.0 ts s.0 s.1).1) signed_term_less

  sign_stops : (sign : Sign) (ts m : List Token) → Sign_is sign ts m → continues_term ts ≡ false
  sign_stops signs.Plus ts m (span, line, e) = rw e refl
  sign_stops signs.Minus ts m (span, line, e) = rw e refl

  further_terms_reads : Reads (suc n) (further_terms_with (sum_in n)) (further_terms_with (sum_in m)) (each_in_turn (Term_is n)) continues_sum
  further_terms_reads = rows_reads signed_term_item (λ ts x rest s. sign_stops x.0 ts s.0 s.1)

  signed_item : Item (suc n) begins_sign (apply (λ p. signed p.0 p.1) (signed_term_with (sum_in n))) (apply (λ p. signed p.0 p.1) (signed_term_with (sum_in m))) (Made (λ p. signed p.0 p.1) (Term_is n)) continues_term
  signed_item = item_apply signed_term_item (λ p. signed p.0 p.1)

  pub first_term_reads : Reads (suc n) (first_term_with (sum_in n)) (first_term_with (sum_in m)) (λ e. Spelled e first_place n) (λ ts. continues_term ts || continues_term ts)
  unfolding first_term_with
  first_term_reads =
      reshaped_reads (either_reads signed_item term_reads (λ ts. continues_term ts || continues_term ts) (λ ts stop. or_false (continues_term ts) (continues_term ts) stop) (λ x ts rest t stop. (term_begins x n ts rest t).1)) (λ e. Spelled e first_place n)
      (λ x ts rest s. elim s [ inl p ↦ subst (λ (e : ExpressionTree). Spelled e first_place n ts rest) p.1 (tt, p.2) | inr t ↦ as_spelled term_place first_place (λ can. can) (λ can. absurd can) (λ can. can) n x ts rest t ])
      (λ x ts rest s. elim (first_cases x n ts rest s) [ inl p ↦ inl ((p.0, p.1), sym p.2, p.3) | inr t ↦ inr t ])

  terms_reads : Reads (suc n) (seq (first_term_with (sum_in n)) (further_terms_with (sum_in n))) (seq (first_term_with (sum_in m)) (further_terms_with (sum_in m))) (λ p. Spelled p.0 first_place n ▷ each_in_turn (Term_is n) p.1) continues_sum
  terms_reads =
      seq_reads first_term_reads further_terms_reads
      (λ xs ts rest s stop.
      let none = each_first continues_term (λ ts x rest s. sign_stops x.0 ts s.0 s.1) xs ts rest s (or_false (begins_sign rest) (continues_term rest) stop).1 in
      rw none refl)

  sum_to : (p : ExpressionTree × List (Sign × ExpressionTree)) (ts rest : List Token) → (Spelled p.0 first_place n ▷ each_in_turn (Term_is n) p.1) ts rest → Spelled (sum_of_terms p.0 p.1) sum_place n ts rest
  sum_to (e, []) ts rest (m, one, is) = as_spelled first_place sum_place (λ can. can) (λ can. can) (λ can. absurd can) n e ts rest (subst (λ r. Spelled e first_place n ts r) is one)
  sum_to (e, f ∷ fs) ts rest (m, one, more) = (tt, (m, one, further_terms n (f ∷ fs) m rest more))

  pub sum_with_reads : Reads (suc n) (sum_with (sum_in n)) (sum_with (sum_in m)) (λ e. Spelled e sum_place n) continues_sum
  unfolding sum_with
  sum_with_reads = apply_reads terms_reads (λ p. sum_of_terms p.0 p.1) (λ e. Spelled e sum_place n) sum_to (λ x ts rest s. sum_parts x n ts rest s)

  first_less : (ts : List Token) (x : ExpressionTree) (rest : List Token) → Spelled x first_place n ts rest → length rest < length ts
  first_less ts x rest s =
      elim (first_cases x n ts rest s) [
        | inl p ↦ signed_term_less ts (p.0, p.1) rest p.3
        | inr t ↦ term_less ts x rest t
      ]

  pub sum_with_less : (ts : List Token) (x : ExpressionTree) (rest : List Token) → Spelled x sum_place n ts rest → length rest < length ts
  sum_with_less ts x rest s =
      let p = sum_parts x n ts rest s in
      omega (arith, first_less ts p.0.0 p.2.0 p.2.1, further_terms_reads.shorter p.2.0 p.0.1 rest p.2.2)

-- ---- the laws at each level

mutual
  unfolding sum_in

  pub in_less : (n : ℕ) (ts : List Token) (e : ExpressionTree) (rest : List Token) → In n e ts rest → length rest < length ts
  in_less zero ts e rest s = absurd s
  in_less (suc n) ts e rest s = sum_with_less n n (sum_in_reads n n (omega arith)) (in_less n) ts e rest s

  -- an expression, where so many levels may be opened, itself among them
  pub sum_in_reads : (n m : ℕ) → n ≤ m → Reads n (sum_in n) (sum_in m) (In n) continues_sum
  sum_in_reads zero m le = too_deep_reads
  sum_in_reads (suc n) zero le = absurd (omega arith)
  sum_in_reads (suc n) (suc m) le = sum_with_reads n m (sum_in_reads n m (omega arith)) (in_less n)

-- ---- the loops

pub further_factors_loop : (n : ℕ) → Loop (begins star) (λ r. factor_with (sum_in n) (skip star r))
further_factors_loop n = loop_of (factor_item n n (sum_in_reads n n (omega arith)) (in_less n)) refl

pub further_terms_loop : (n : ℕ) → Loop begins_sign (signed_term_with (sum_in n))
further_terms_loop n = loop_of (signed_term_item n n (sum_in_reads n n (omega arith)) (in_less n)) refl

pub sums_loop : (n : ℕ) → Loop (begins_more begins_sum) (λ r. sum_in n (skip_separator r))
sums_loop n = loop_of (separated_item (sum_in_reads n n (omega arith)) begins_sum (in_begins n) sum_no_and) refl
