-- What statements begin with, and what continues them.
use Rattle.std.proofs.Common.{◌≡◌, ℕ, zero, suc, Bool, true, false, ◌||◌, ◌&&◌, List, [], ◌∷◌, refl, sym, ap, subst, ◌∙◌, inl, inr}
use Rattle.ss_parse_statements.proofs.Common.{begins, comma, for_head, guarded, GuardKind, if_statement, in_table, is, is_some, kind_of_mark, Line, loop_statement, LoopHeadTree, May_be_governed, opening_word, skip_comma, Span, Statement_from, Statement_rest, StatementTree, Token, TokenKind, Word, word}
use Rattle.ss_lex.specs.declared.word.Word.TheVariants as words
use Rattle.ss_lex.specs.declared.token.TokenKind.TheVariants as kinds
use Rattle.ss_base.specs.declared.words.GuardKind.TheVariants as guards
use Rattle.ss_parse_expressions.specs.Shapes.{◌▷◌, noise}
use Rattle.ss_parse_expressions.specs.SpelledConditions.{guard_word, loop_head_word, Loop_head_rest, Is_for_head}
use Rattle.ss_parse_expressions.specs.WordTables.{phrase_of, guard_of, function_of, outcome_of}
use Rattle.ss_parse_expressions.specs.ReadExpressions.{designator_of_word, begins_value, begins_sum}
use Rattle.ss_parse_expressions.proofs.Tools.{which, or_false}
use Rattle.ss_parse_expressions.proofs.Marks.{token, is_true, mark_skips, no_skip, starts_otherwise}
use Rattle.ss_parse_expressions.proofs.ConditionLaws.{continues_condition, condition_begins}
use Rattle.ss_parse_expressions.proofs.HeadLaws.{head_more}
use Rattle.ss_parse_statements.specs.ReadStatements.{form_word, begins_form, begins_outcome, begins_find_if_form, begins_find_if}
use Rattle.ss_parse_statements.proofs.StatementParts.{statement_more, continues_simple}
use Rattle.ss_parse_statements.proofs.SimpleLaws.{form_first}

-- what continues a statement
abbrev pub continues_statement : List Token → Bool
continues_statement ts = begins_find_if ts || continues_simple ts

pub no_simple : (ts : List Token) → continues_statement ts ≡ false → continues_simple ts ≡ false
no_simple ts stop = (or_false (begins_find_if ts) (continues_simple ts) stop).1

pub both_false : (a b : Bool) → a ≡ false → b ≡ false → (a || b) ≡ false
both_false a b e f = rw (e, f) refl

-- ---- what statements begin with

-- where b holds, the word begins no value, and continues nothing
abbrev pub Apart : Word → Bool → Type 0
Apart w b = ((b && begins_value (kinds.Word w)) ≡ false) × ((b && is (word words.And) (kinds.Word w)) ≡ false) × ((b && is (word words.Or) (kinds.Word w)) ≡ false) × ((b && statement_more w) ≡ false) × ((b && head_more w) ≡ false) × ((b && is (word words.Do) (kinds.Word w)) ≡ false) × ((b && is (word words.Find) (kinds.Word w)) ≡ false)

word_apart : (w : Word) → Apart w (form_word w)
word_apart words.Let = (refl, refl, refl, refl, refl, refl, refl)
word_apart _ = (refl, refl, refl, refl, refl, refl, refl)

-- a word that begins a statement begins nothing else
pub word_no_other : (w : Word) → form_word w ≡ true → Apart w true
word_no_other w e = subst (Apart w) e (word_apart w)

pub form_begins : (n : ℕ) (x : StatementTree) (ts rest : List Token) → Statement_from x n ts rest → begins_form ts ≡ true
form_begins n x ts rest (begins_at, (m, (span, line, e), s)) = ap begins_form e ∙ form_first x

pub form_no_comma : (ts : List Token) → begins_form ts ≡ true → begins comma ts ≡ false
form_no_comma = starts_otherwise comma begins_form (λ span line ts. refl)

-- what is false of a word that begins a statement, with a comma before it or not, is false of a statement
pub false_past_comma : (c : List Token → Bool) → ((span span' : Span) (line line' : Line) (w : Word) (ts : List Token) → form_word w ≡ true → c (token (kind_of_mark comma) span line ∷ token (kinds.Word w) span' line' ∷ ts) ≡ false) → ((w : Word) (span : Span) (line : Line) (ts : List Token) → form_word w ≡ true → c (token (kinds.Word w) span line ∷ ts) ≡ false) → (n : ℕ) (x : StatementTree) (ts rest : List Token) → (noise ▷ Statement_from x n) ts rest → c ts ≡ false
false_past_comma c on_comma on_word n x ts rest (a, inr (span, line, e), (begins_at, (m, (span', line', f), s))) = ap c e ∙ ap (λ (r : List Token). c (token (kind_of_mark comma) span line ∷ r)) f ∙ on_comma span span' line line' (opening_word x) m (form_first x)
false_past_comma c on_comma on_word n x ts rest (a, inl e, (begins_at, (m, (span, line, f), s))) = ap c (e ∙ f) ∙ on_word (opening_word x) span line m (form_first x)

pub word_no_condition : (w : Word) (span : Span) (line : Line) (ts : List Token) → form_word w ≡ true → continues_condition (token (kinds.Word w) span line ∷ ts) ≡ false
word_no_condition w span line ts e =
    let no = word_no_other w e in
    rw (no.1, no.2) refl

word_no_simple : (w : Word) (span : Span) (line : Line) (ts : List Token) → form_word w ≡ true → continues_simple (token (kinds.Word w) span line ∷ ts) ≡ false
word_no_simple w span line ts e =
    let no = word_no_other w e in
    rw (no.1, no.3) refl

comma_no_simple : (w : Word) (span span' : Span) (line line' : Line) (ts : List Token) → form_word w ≡ true → continues_simple (token (kind_of_mark comma) span line ∷ token (kinds.Word w) span' line' ∷ ts) ≡ false
comma_no_simple w span span' line line' ts e =
    let no = word_no_other w e in
    let values = or_false (is_some (designator_of_word w)) (is_some (function_of w)) no.0 in
    rw (no.1, values.0, values.1) refl

-- ---- an IF that isn't that of a FIND

guard_first : (k : GuardKind) → is_some (guard_of (guard_word k)) ≡ true
guard_first guards.While = refl
guard_first guards.Until = refl

pub head_no_if : (h : LoopHeadTree) → loop_head_word h ≡ words.If → ⊥
head_no_if (guarded (g ∷ gs)) e = absurd (let a : true ≡ false = sym (guard_first g.kind) ∙ ap (λ w. is_some (guard_of w)) e in cc)
head_no_if _ e = absurd cc

condition_no_outcome : (ts : List Token) → (begins_sum ts || begins (word words.Data) ts) ≡ true → begins_outcome ts ≡ false
condition_no_outcome [] e = refl
condition_no_outcome (t ∷ ts) e = go t.kind e
  where
    go : (k : TokenKind) → (begins_value k || is (word words.Data) k) ≡ true → is_some (in_table outcome_of k) ≡ false
    go (kinds.Word words.Found) e = absurd cc
    go (kinds.Word words.None) e = absurd cc
    go _ e = refl

within_condition : (n : ℕ) (x : StatementTree) (ts rest : List Token) → opening_word x ≡ words.If → Statement_rest x n ts rest → begins_outcome ts ≡ false
within_condition zero (if_statement line c t e) ts rest is s = absurd s
within_condition (suc n) (if_statement line c t e) ts rest is s = condition_no_outcome ts (condition_begins (suc n) c ts s.0 s.1)
within_condition n (loop_statement line head body) ts rest is s = absurd (head_no_if head is)
within_condition n _ ts rest is s = absurd cc

statement_no_find_if : (n : ℕ) (x : StatementTree) (ts rest : List Token) → Statement_from x n ts rest → begins_find_if_form ts ≡ false
statement_no_find_if n x ts rest (begins_at, (m, (span, line, e), s)) =
    elim (which (is (word words.If) (kinds.Word (opening_word x)))) [
      | inl there ↦
          let kind = is_true (word words.If) (kinds.Word (opening_word x)) there in
          let is : opening_word x ≡ words.If = cc in
          rw (e, there, within_condition n x m rest is s) refl
      | inr none ↦ rw (e, none) refl
    ]

pub statement_stops : (n : ℕ) (x : StatementTree) (ts rest : List Token) → (noise ▷ Statement_from x n) ts rest → continues_statement ts ≡ false
statement_stops n x ts rest (a, c, s) =
    let simple : continues_simple ts ≡ false = false_past_comma continues_simple (λ span span' line line' w r e. comma_no_simple w span span' line line' r e) (λ w span line r e. word_no_simple w span line r e) n x ts rest (a, c, s) in
    both_false (begins_find_if ts) (continues_simple ts) (ap begins_find_if_form (skipped c) ∙ statement_no_find_if n x a rest s) simple
  where
    skipped : noise ts a → skip_comma ts ≡ a
    skipped (inl e) = ap skip_comma e ∙ no_skip comma a (form_no_comma a (form_begins n x a rest s))
    skipped (inr w) = mark_skips comma ts a w

-- ---- statements that a loop may govern

pub head_guards : (h : LoopHeadTree) → is_some (guard_of (loop_head_word h)) ≡ false → (n : ℕ) (ts rest : List Token) → Loop_head_rest n h ts rest → Is_for_head h
head_guards (for_head head) e n ts rest s = tt
head_guards (guarded []) e n ts rest s = absurd s
head_guards (guarded (g ∷ gs)) e n ts rest s = absurd (let a = guard_first g.kind in cc)

head_for : (h : LoopHeadTree) → Is_for_head h → loop_head_word h ≡ words.For
head_for (for_head head) b = refl
head_for (guarded gs) b = absurd b

pub may_govern : (n : ℕ) (x : StatementTree) (ts rest : List Token) → is_some (guard_of (opening_word x)) ≡ false → Statement_rest x n ts rest → May_be_governed x
may_govern zero (loop_statement line head body) ts rest e s = absurd s
may_govern (suc n) (loop_statement line head body) ts rest e s = head_guards head e n ts s.0 s.1
may_govern n _ ts rest e s = tt

pub governed_first : (n : ℕ) (x : StatementTree) (ts rest : List Token) → May_be_governed x → Statement_rest x n ts rest → is_some (guard_of (opening_word x)) ≡ false
governed_first n (loop_statement line head body) ts rest may s = let is = head_for head may in ap (λ w. is_some (guard_of w)) is
governed_first n _ ts rest may s = refl

pub guard_same : (a b : GuardKind) → guard_word a ≡ guard_word b → a ≡ b
guard_same guards.While guards.While e = refl
guard_same guards.Until guards.Until e = refl
guard_same _ _ e = absurd cc

-- a statement that a loop governs begins no phrase
pub no_phrase : (w : Word) → form_word w ≡ true → is_some (guard_of w) ≡ false → is_some (phrase_of w) ≡ false
no_phrase words.While e u = absurd cc
no_phrase words.Until e u = absurd cc
no_phrase words.With e u = absurd cc
no_phrase words.When e u = absurd cc
no_phrase words.Unless e u = absurd cc
no_phrase _ e u = refl
