-- Targets, references and lists of expressions: what is read is spelled, and what is spelled is read.
use Rattle.std.proofs.Common.{◌≡◌, ℕ, zero, suc, ◌<◌, ◌≤◌, Bool, true, false, ◌||◌, List, length, Option, Some, None, refl, subst, arith}
use Rattle.ss_parse_expressions.proofs.Common.{and_expression, apply, begins, begins_more, CloseParenthesis, Designator, ExpressionRow, ExpressionTree, maybe, NamedTree, no_expression, OpenParenthesis, seq, skip_separator, taken, Token, TokenKind, Word, word}
use Rattle.ss_lex.specs.declared.word.Word.TheVariants as words
use Rattle.ss_lex.specs.declared.token.TokenKind.TheVariants as kinds
use Rattle.ss_tree.specs.declared.expression.Designator.TheVariants as designators
use Rattle.ss_parse_expressions.specs.Shapes.{Shape, ◌▷◌, Symbol_is, separated_list, perhaps, nested_shape}
use Rattle.ss_parse_expressions.specs.SpelledExpressions.{Designated, Subscript, Target_is, Plain_name, Reference_is}
use Rattle.ss_parse_expressions.specs.ReadExpressions.{opening, closing, designator_of, begins_sum, sum_in}
use Rattle.ss_parse_expressions.specs.ReadPlaces.{subscript_row, named_tree, subscript_with, plain_of, named_place_in, target_in, reference_in, begins_target, targets_in, sums_in}
use Rattle.ss_parse_expressions.proofs.Marks.{token_less, starts_otherwise, In_table, begins_table}
use Rattle.ss_parse_expressions.proofs.ReaderLaws.{Reads, Item, continues_never, taken_reads, seq_reads, before_mark_reads, opened_item, apply_reads, reshaped_reads, maybe_reads, too_deep_reads}
use Rattle.ss_parse_expressions.proofs.Rows.{list_reads, Loop, loop_of, separated_item}
use Rattle.ss_parse_expressions.proofs.Beginnings.{In, in_begins, sum_no_and, continues_sum}
use Rattle.ss_parse_expressions.proofs.Factors.{word_designates}
use Rattle.ss_parse_expressions.proofs.Sums.{in_less, sum_in_reads}

-- ---- what is named

pub designated_to : (d : Designator) (ts rest : List Token) → In_table designator_of d ts rest → Designated d ts rest
designated_to d ts rest (kinds.Name n, e, at) = let is_name : designators.Name n ≡ d = cc in subst (λ d. Designated d ts rest) is_name at
designated_to d ts rest (kinds.Word w, e, at) = word_designates w d ts rest e at
designated_to d ts rest (_, e, at) = absurd cc

designated_from : (d : Designator) (ts rest : List Token) → Designated d ts rest → In_table designator_of d ts rest
designated_from (designators.Name n) ts rest at = (kinds.Name n, refl, at)
designated_from designators.TimeV ts rest at = (kinds.Word words.TimeV, refl, at)
designated_from designators.TimeA ts rest at = (kinds.Word words.TimeA, refl, at)

plain_to : (d : Designator) (ts rest : List Token) → In_table plain_of d ts rest → Plain_name d ts rest
plain_to d ts rest (kinds.Name n, e, at) = let is_name : designators.Name n ≡ d = cc in subst (λ d. Plain_name d ts rest) is_name at
plain_to d ts rest (_, e, at) = absurd cc

pub plain_from : (d : Designator) (ts rest : List Token) → Plain_name d ts rest → In_table plain_of d ts rest
plain_from (designators.Name n) ts rest at = (kinds.Name n, refl, at)
plain_from _ ts rest at = absurd at

abbrev pub continues_place : List Token → Bool
continues_place ts = begins opening ts || continues_never ts

-- ---- places whose names are those of a table

-- one subscript in parentheses
abbrev pub Subscript_is : ℕ → ExpressionTree → Shape
Subscript_is n e = Symbol_is OpenParenthesis ▷ In n e ▷ Symbol_is CloseParenthesis

module _ (n m : ℕ) (le : n ≤ m) where
  subscript_item : Item (suc n) (begins opening) (subscript_with (sum_in n)) (subscript_with (sum_in m)) (Subscript_is n) continues_never
  unfolding subscript_with
  subscript_item = opened_item opening refl (before_mark_reads closing (sum_in_reads n m le) (λ span line ts. refl))

subscript_from : (n : ℕ) (row : ExpressionRow) (ts rest : List Token) → Subscript row n ts rest → (o : Option ExpressionTree) × (subscript_row o ≡ row) × perhaps (Subscript_is n) o ts rest
subscript_from n no_expression ts rest s = (None, refl, s)
subscript_from n (and_expression e no_expression) ts rest s = (Some e, refl, s)
subscript_from n (and_expression e (and_expression f fs)) ts rest s = absurd s

module _ (table : TokenKind → Option Designator) (D : Designator → Shape) (to : (d : Designator) (ts rest : List Token) → In_table table d ts rest → D d ts rest) (from : (d : Designator) (ts rest : List Token) → D d ts rest → In_table table d ts rest) where
  -- a name that the table knows, with a subscript or without
  abbrev pub Place_is : ℕ → NamedTree → Shape
  Place_is levels t = D t.designator ▷ Subscript t.subscripts levels

  place_to : (n : ℕ) (p : Designator × Option ExpressionTree) (ts rest : List Token) → (D p.0 ▷ perhaps (Subscript_is n) p.1) ts rest → Place_is n (named_tree p) ts rest
  place_to n (d, None) ts rest s = s
  place_to n (d, Some e) ts rest s = s

  place_from : (n : ℕ) (t : NamedTree) (ts rest : List Token) → Place_is n t ts rest → (p : Designator × Option ExpressionTree) × (named_tree p ≡ t) × (D p.0 ▷ perhaps (Subscript_is n) p.1) ts rest
  place_from n t ts rest (a, at, s) =
      let found = subscript_from n t.subscripts a rest s in
      ((t.designator, found.0), (λ i. record { designator = t.designator; subscripts = found.1 i }), (a, at, found.2))

  pub place_less : (n : ℕ) (ts : List Token) (t : NamedTree) (rest : List Token) → Place_is n t ts rest → length rest < length ts
  place_less n ts t rest s =
      let p = place_from n t ts rest s in
      let k = from p.0.0 ts p.2.0 p.2.1 in
      omega (arith, token_less k.0 ts p.2.0 k.2, (maybe_reads (subscript_item n n (omega arith))).shorter p.2.0 p.0.1 rest p.2.2)

  place_with_reads : (n m : ℕ) → n ≤ m → Reads (suc n) (apply named_tree (seq (taken table) (maybe (begins opening) (subscript_with (sum_in n))))) (apply named_tree (seq (taken table) (maybe (begins opening) (subscript_with (sum_in m))))) (Place_is n) continues_place
  place_with_reads n m le = apply_reads (seq_reads (reshaped_reads (taken_reads (suc n) table) D to from) (maybe_reads (subscript_item n m le)) (λ x ts rest s stop. refl)) named_tree (Place_is n) (place_to n) (place_from n)

  -- within one level more
  abbrev pub In_place : ℕ → NamedTree → Shape
  In_place room t = nested_shape (λ l. Place_is l t) room

  pub place_in_reads : (n m : ℕ) → n ≤ m → Reads n (named_place_in table n) (named_place_in table m) (In_place n) continues_place
  unfolding named_place_in
  place_in_reads zero m le = too_deep_reads
  place_in_reads (suc n) zero le = absurd (omega arith)
  place_in_reads (suc n) (suc m) le = place_with_reads n m (omega arith)

-- ---- targets

abbrev pub In_target : ℕ → NamedTree → Shape
In_target room t = nested_shape (λ l. Target_is l t) room

pub target_in_reads : (n m : ℕ) → n ≤ m → Reads n (target_in n) (target_in m) (In_target n) continues_place
target_in_reads n m le = place_in_reads designator_of Designated designated_to designated_from n m le

in_target_begins : (n : ℕ) (ts : List Token) (t : NamedTree) (rest : List Token) → In_target n t ts rest → begins_target ts ≡ true
in_target_begins zero ts t rest s = absurd s
in_target_begins (suc n) ts t rest s = begins_table designator_of ts s.0 t.designator (designated_from t.designator ts s.0 s.1)

pub in_target_less : (n : ℕ) (ts : List Token) (t : NamedTree) (rest : List Token) → In_target n t ts rest → length rest < length ts
in_target_less zero ts t rest s = absurd s
in_target_less (suc n) ts t rest s = place_less designator_of Designated designated_to designated_from n ts t rest s

target_no_and : (ts : List Token) → begins_target ts ≡ true → begins (word words.And) ts ≡ false
target_no_and = starts_otherwise (word words.And) begins_target (λ span line ts. refl)

abbrev pub continues_targets : List Token → Bool
continues_targets ts = begins_more begins_target ts || (continues_place ts || continues_place ts)

pub targets_in_reads : (n m : ℕ) → n ≤ m → Reads n (targets_in n) (targets_in m) (separated_list (In_target n)) continues_targets
targets_in_reads n m le = list_reads (target_in_reads n m le) begins_target (in_target_begins n) target_no_and (in_target_less n) (λ span line ts. refl) (λ span line ts. refl)

pub targets_loop : (n : ℕ) → Loop (begins_more begins_target) (λ r. target_in n (skip_separator r))
targets_loop n = loop_of (separated_item (target_in_reads n n (omega arith)) begins_target (in_target_begins n) target_no_and) refl

-- ---- references

abbrev pub In_reference : ℕ → NamedTree → Shape
In_reference room t = nested_shape (λ l. Reference_is l t) room

pub reference_in_reads : (n m : ℕ) → n ≤ m → Reads n (reference_in n) (reference_in m) (In_reference n) continues_place
reference_in_reads n m le = place_in_reads plain_of Plain_name plain_to plain_from n m le

-- ---- lists of expressions

abbrev pub continues_sums : List Token → Bool
continues_sums ts = begins_more begins_sum ts || (continues_sum ts || continues_sum ts)

pub sums_in_reads : (n m : ℕ) → n ≤ m → Reads n (sums_in n) (sums_in m) (separated_list (In n)) continues_sums
sums_in_reads n m le = list_reads (sum_in_reads n m le) begins_sum (in_begins n) sum_no_and (in_less n) (λ span line ts. refl) (λ span line ts. refl)
