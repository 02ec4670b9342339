-- What expressions are made of, what they begin with, and what continues them.
use Rattle.std.proofs.Common.{◌≡◌, ℕ, zero, suc, Bool, true, false, ◌||◌, List, [], ◌∷◌, refl, ap, ◌∙◌, inl, inr, ◌⊎◌}
use Rattle.std.proofs.lemmas.Bool.{or_right}
use Rattle.ss_parse_expressions.proofs.Common.{and_expression, and_term, begins, begins_sign, begins_sum, call, Designated, Designator, designator_of_word, expression_row, ExpressionRow, ExpressionTree, factor_place, first_place, Function, function_of, Further_factors, Further_terms, is_some, named, no_expression, no_term, number, opening, parenthesised, product, product_of, Sign, Sign_is, signed, Spelled, star, Star, sum, sum_of_terms, sum_place, term_place, term_row, TermRow, text, Token, word}
use Rattle.ss_lex.specs.declared.word.Word.TheVariants as words
use Rattle.ss_base.specs.declared.words.Sign.TheVariants as signs
use Rattle.ss_tree.specs.declared.expression.Designator.TheVariants as designators
use Rattle.ss_parse_expressions.specs.Shapes.{Shape, ◌▷◌, Symbol_is, Word_for, each_in_turn, nested_shape}
use Rattle.ss_parse_expressions.proofs.Marks.{starts_otherwise}

-- ---- rows of factors and of terms as lists

pub further_factors : (levels : ℕ) (xs : List ExpressionTree) (ts rest : List Token) → each_in_turn (λ e. Symbol_is Star ▷ Spelled e factor_place levels) xs ts rest → Further_factors (expression_row xs) levels ts rest
further_factors levels [] ts rest e = e
further_factors levels (x ∷ xs) ts rest (m, (n, separated, one), more) = (n, separated, (m, one, further_factors levels xs m rest more))

factors_listed : (levels : ℕ) (es : ExpressionRow) (ts rest : List Token) → Further_factors es levels ts rest → (xs : List ExpressionTree) × (expression_row xs ≡ es) × each_in_turn (λ e. Symbol_is Star ▷ Spelled e factor_place levels) xs ts rest
factors_listed levels no_expression ts rest e = ([], refl, e)
factors_listed levels (and_expression x es) ts rest (n, separated, (m, one, more)) =
    let found = factors_listed levels es m rest more in
    (x ∷ found.0, ap (and_expression x) found.1, (m, (n, separated, one), found.2))

-- a further term of a sum
abbrev pub Term_is : ℕ → Sign × ExpressionTree → Shape
Term_is levels t = Sign_is t.0 ▷ Spelled t.1 term_place levels

pub further_terms : (levels : ℕ) (xs : List (Sign × ExpressionTree)) (ts rest : List Token) → each_in_turn (Term_is levels) xs ts rest → Further_terms (term_row xs) levels ts rest
further_terms levels [] ts rest e = e
further_terms levels (x ∷ xs) ts rest (m, (n, sign, one), more) = (n, sign, (m, one, further_terms levels xs m rest more))

terms_listed : (levels : ℕ) (es : TermRow) (ts rest : List Token) → Further_terms es levels ts rest → (xs : List (Sign × ExpressionTree)) × (term_row xs ≡ es) × each_in_turn (Term_is levels) xs ts rest
terms_listed levels no_term ts rest e = ([], refl, e)
terms_listed levels (and_term sign x es) ts rest (n, signs_is, (m, one, more)) =
    let found = terms_listed levels es m rest more in
    ((sign, x) ∷ found.0, ap (and_term sign x) found.1, (m, (n, signs_is, one), found.2))

-- ---- what expressions begin with

pub designated_begins : (d : Designator) (ts rest : List Token) → Designated d ts rest → (begins_sum ts ≡ true) × (begins_sign ts ≡ false)
designated_begins (designators.Name n) ts rest (span, line, e) = (rw e refl, rw e refl)
designated_begins designators.TimeV ts rest (span, line, e) = (rw e refl, rw e refl)
designated_begins designators.TimeA ts rest (span, line, e) = (rw e refl, rw e refl)

function_begins : (f : Function) (ts rest : List Token) → Word_for function_of f ts rest → (begins_sum ts ≡ true) × (begins_sign ts ≡ false)
function_begins f ts rest (w, means, (span, line, e)) =
    let there : is_some (function_of w) ≡ true = rw means refl in
    (ap begins_sum e ∙ or_right (is_some (designator_of_word w)) (is_some (function_of w)) there, rw e refl)

pub sign_begins : (sign : Sign) (ts rest : List Token) → Sign_is sign ts rest → (begins_sum ts ≡ true) × (begins_sign ts ≡ true)
sign_begins signs.Plus ts rest (span, line, e) = (rw e refl, rw e refl)
sign_begins signs.Minus ts rest (span, line, e) = (rw e refl, rw e refl)

-- a factor has no sign in front
factor_begins : (e : ExpressionTree) (levels : ℕ) (ts rest : List Token) → Spelled e factor_place levels ts rest → (begins_sum ts ≡ true) × (begins_sign ts ≡ false)
factor_begins (number n) levels ts rest (span, line, e) = (rw e refl, rw e refl)
factor_begins (text t) levels ts rest (span, line, e) = (rw e refl, rw e refl)
factor_begins (named d no_expression) levels ts rest s = designated_begins d ts rest s
factor_begins (named d (and_expression e es)) levels ts rest s = designated_begins d ts s.0 s.1
factor_begins (call f no_expression) levels ts rest s = absurd s
factor_begins (call f (and_expression e es)) levels ts rest s = function_begins f ts s.0 s.1
factor_begins (parenthesised e) levels ts rest (m, (span, line, q), s) = (rw q refl, rw q refl)
factor_begins (product e no_expression) levels ts rest s = absurd s
factor_begins (product e (and_expression f fs)) levels ts rest s = absurd s.0
factor_begins (signed sign e) levels ts rest s = absurd s.0
factor_begins (sum e no_term) levels ts rest s = absurd s
factor_begins (sum e (and_term sign f fs)) levels ts rest s = absurd s.0

-- A term is a factor and further ones, of which there may be none.
pub term_parts : (e : ExpressionTree) (levels : ℕ) (ts rest : List Token) → Spelled e term_place levels ts rest → (p : ExpressionTree × List ExpressionTree) × (product_of p.0 p.1 ≡ e) × (Spelled p.0 factor_place levels ▷ each_in_turn (λ e. Symbol_is Star ▷ Spelled e factor_place levels) p.1) ts rest
term_parts (named d no_expression) levels ts rest s = ((named d no_expression, []), refl, (rest, s, refl))
term_parts (call f no_expression) levels ts rest s = absurd s
term_parts (product e (and_expression f fs)) levels ts rest (u, (m, one, (a, star_is, (b, next, more)))) =
    let found = factors_listed levels fs b rest more in
    ((e, f ∷ found.0), ap (λ (r : ExpressionRow). product e (and_expression f r)) found.1, (m, one, (b, (a, star_is, next), found.2)))
term_parts (signed sign e) levels ts rest s = absurd s.0
term_parts (sum e (and_term sign f fs)) levels ts rest s = absurd s.0
term_parts e levels ts rest s = ((e, []), refl, (rest, s, refl))

pub term_begins : (e : ExpressionTree) (levels : ℕ) (ts rest : List Token) → Spelled e term_place levels ts rest → (begins_sum ts ≡ true) × (begins_sign ts ≡ false)
term_begins e levels ts rest s = let p = term_parts e levels ts rest s in factor_begins p.0.0 levels ts p.2.0 p.2.1

-- The first term of a sum has a sign, or it is a term.
pub first_cases : (e : ExpressionTree) (levels : ℕ) (ts rest : List Token) → Spelled e first_place levels ts rest → ((sign : Sign) × (t : ExpressionTree) × (e ≡ signed sign t) × (Sign_is sign ▷ Spelled t term_place levels) ts rest) ⊎ Spelled e term_place levels ts rest
first_cases (named d no_expression) levels ts rest s = inr s
first_cases (call f no_expression) levels ts rest s = absurd s
first_cases (product e no_expression) levels ts rest s = absurd s
first_cases (signed sign e) levels ts rest s = inl (sign, e, refl, s.1)
first_cases (sum e (and_term sign f fs)) levels ts rest s = absurd s.0
first_cases _ levels ts rest s = inr s

first_begins : (e : ExpressionTree) (levels : ℕ) (ts rest : List Token) → Spelled e first_place levels ts rest → begins_sum ts ≡ true
first_begins e levels ts rest s =
    elim (first_cases e levels ts rest s) [
      | inl p ↦ (sign_begins p.0 ts p.3.0 p.3.1).0
      | inr t ↦ (term_begins e levels ts rest t).0
    ]

-- An expression is a first term and further ones, of which there may be none.
pub sum_parts : (e : ExpressionTree) (levels : ℕ) (ts rest : List Token) → Spelled e sum_place levels ts rest → (p : ExpressionTree × List (Sign × ExpressionTree)) × (sum_of_terms p.0 p.1 ≡ e) × (Spelled p.0 first_place levels ▷ each_in_turn (Term_is levels) p.1) ts rest
sum_parts (named d no_expression) levels ts rest s = ((named d no_expression, []), refl, (rest, s, refl))
sum_parts (call f no_expression) levels ts rest s = absurd s
sum_parts (product e no_expression) levels ts rest s = absurd s
sum_parts (sum e (and_term sign f fs)) levels ts rest (u, (m, one, (a, sign_is, (b, next, more)))) =
    let found = terms_listed levels fs b rest more in
    ((e, (sign, f) ∷ found.0), ap (λ (r : TermRow). sum e (and_term sign f r)) found.1, (m, one, (b, (a, sign_is, next), found.2)))
sum_parts e levels ts rest s = ((e, []), refl, (rest, s, refl))

pub sum_begins : (e : ExpressionTree) (levels : ℕ) (ts rest : List Token) → Spelled e sum_place levels ts rest → begins_sum ts ≡ true
sum_begins e levels ts rest s = let p = sum_parts e levels ts rest s in first_begins p.0.0 levels ts p.2.0 p.2.1

-- an expression within one level more
abbrev pub In : ℕ → ExpressionTree → Shape
In levels e = nested_shape (λ l. Spelled e sum_place l) levels

pub in_begins : (levels : ℕ) (ts : List Token) (e : ExpressionTree) (rest : List Token) → In levels e ts rest → begins_sum ts ≡ true
in_begins zero ts e rest s = absurd s
in_begins (suc levels) ts e rest s = sum_begins e levels ts rest s

-- no expression begins with AND
pub sum_no_and : (ts : List Token) → begins_sum ts ≡ true → begins (word words.And) ts ≡ false
sum_no_and = starts_otherwise (word words.And) begins_sum (λ span line ts. refl)

-- ---- what continues an expression

abbrev pub continues_factor : List Token → Bool
continues_factor ts = begins opening ts

abbrev pub continues_term : List Token → Bool
continues_term ts = begins star ts || continues_factor ts

abbrev pub continues_sum : List Token → Bool
continues_sum ts = begins_sign ts || continues_term ts
