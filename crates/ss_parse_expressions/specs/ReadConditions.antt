-- Reading conditions from left to right.
use Rattle.std.specs.Prelude.{ℕ, zero, suc, Bool, true, false, ◌&&◌, List, Option, Some, None, if◌then◌else◌}
use Rattle.ss_lex.specs.declared.word.Word.{Word}
use Rattle.ss_lex.specs.declared.word.Word.TheVariants as words
use Rattle.ss_lex.specs.declared.token.Symbol.TheVariants.{Equals}
use Rattle.ss_lex.specs.declared.token.TokenKind.{TokenKind}
use Rattle.ss_lex.specs.declared.token.TokenKind.TheVariants as kinds
use Rattle.ss_base.specs.declared.words.Relation.{Relation}
use Rattle.ss_base.specs.declared.words.Relation.TheVariants as relations
use Rattle.ss_tree.specs.declared.expression.Designator.{Designator}
use Rattle.ss_tree.specs.declared.expression.Designator.TheVariants as designators
use Rattle.ss_tree.specs.Tree.{ExpressionTree, named, ExpressionRow, no_expression, and_expression, NamedTree, TestTree, compare, empty, member, data_ended, ConditionTree}
use Rattle.ss_parse_expressions.specs.declared.conditions.Verb.{Verb}
use Rattle.ss_parse_expressions.specs.declared.conditions.Verb.TheVariants as verbs
use Rattle.ss_parse_expressions.specs.declared.conditions.TestWord.{TestWord}
use Rattle.ss_parse_expressions.specs.declared.conditions.TestWord.TheVariants as test_words
use Rattle.ss_parse_expressions.specs.WordTables.{relation_of}
use Rattle.ss_parse_expressions.specs.Reading.{Reader, ◌>>=◌, word, begins, begins_by, skip, expect, in_table, taken, seq, after_dropped, closed, apply, choose_reader, too_deep, first_and}
use Rattle.ss_parse_expressions.specs.ReadWords.{if_present, done, fail}
use Rattle.ss_parse_expressions.specs.ReadExpressions.{sum_in}
use Rattle.ss_parse_expressions.specs.ReadPlaces.{reference_in}

-- ---- the verb of a test, after its first expression

-- a relation that is one token
abbrev pub relation_symbol : TokenKind → Option Relation
relation_symbol (kinds.Symbol Equals) = Some relations.Equal
relation_symbol (kinds.Word w) = relation_of w
relation_symbol _ = None

abbrev pub test_word_of : Word → Option TestWord
test_word_of words.Empty = Some test_words.Empty
test_word_of words.In = Some test_words.In
test_word_of words.Equal = Some test_words.Equal
test_word_of words.Less = Some test_words.Less
test_word_of words.Greater = Some test_words.Greater
test_word_of _ = None

-- the rest of a verb, given whether IS and NOT were there and which word says what is tested
abbrev pub verb_end : TestWord → Bool → Bool → Reader Verb
verb_end test_words.Empty true negated = done (verbs.IsEmpty negated)
verb_end test_words.Empty false negated = fail
verb_end test_words.In true negated = done (verbs.IsIn negated)
verb_end test_words.In false negated = fail
verb_end test_words.Equal is negated = apply (λ u. verbs.Compares (if negated then relations.NotEqual else relations.Equal)) (expect (word words.To))
verb_end test_words.Less is negated = apply (λ u. verbs.Compares (if negated then relations.GreaterOrEqual else relations.Less)) (expect (word words.Than))
verb_end test_words.Greater is negated = apply (λ u. verbs.Compares (if negated then relations.LessOrEqual else relations.Greater)) (expect (word words.Than))

unfoldable pub worded_verb : Reader Verb
worded_verb ts = seq (if_present (word words.Is)) (seq (if_present (word words.Not)) (taken (in_table test_word_of))) ts >>= λ p. verb_end p.0.1.1 p.0.0 p.0.1.0 p.1

unfoldable pub verb : Reader Verb
verb = choose_reader (begins_by relation_symbol) (apply verbs.Compares (taken relation_symbol)) worded_verb

-- ---- tests

abbrev pub is_plain : Designator → Bool
is_plain (designators.Name n) = true
is_plain _ = false

-- one expression at most
abbrev pub is_short : ExpressionRow → Bool
is_short no_expression = true
is_short (and_expression e no_expression) = true
is_short (and_expression e (and_expression f fs)) = false

abbrev pub is_reference : NamedTree → Bool
is_reference t = is_plain t.designator && is_short t.subscripts

-- the set that an expression names, if it can be one
abbrev pub reference_of : ExpressionTree → Option NamedTree
reference_of (named d row) = if is_reference (record { designator = d; subscripts = row }) then Some (record { designator = d; subscripts = row }) else None
reference_of _ = None

abbrev pub empty_of : Option NamedTree → Bool → Reader TestTree
empty_of (Some set) negated = done (empty set negated)
empty_of None negated = fail

-- DATA IS ENDED
unfoldable pub data_test : Reader TestTree
data_test = after_dropped (expect (word words.Data)) (after_dropped (expect (word words.Is)) (apply data_ended (closed (if_present (word words.Not)) (expect (word words.Ended)))))

-- the rest of a test, after its first expression and its verb
unfoldable pub test_end : ℕ → ExpressionTree → Verb → Reader TestTree
test_end room left (verbs.Compares r) = apply (compare left r) (sum_in room)
test_end room left (verbs.IsIn negated) = apply (λ set. member left set negated) (λ ts. reference_in room (skip (word words.The) ts))
test_end room left (verbs.IsEmpty negated) = empty_of (reference_of left) negated

unfoldable pub sum_test : ℕ → Reader TestTree
sum_test room ts = seq (sum_in room) verb ts >>= λ p. test_end room p.0.0 p.0.1 p.1

unfoldable pub test_in : ℕ → Reader TestTree
test_in zero = too_deep
test_in (suc room) = choose_reader (begins (word words.Data)) data_test (sum_test (suc room))

-- ---- conditions

-- tests joined by AND
abbrev pub conjunction_in : ℕ → Reader (List TestTree)
conjunction_in room = first_and (test_in room) (begins (word words.And)) (λ r. test_in room (skip (word words.And) r))

-- conjunctions joined by OR
abbrev pub condition_in : ℕ → Reader ConditionTree
condition_in room = first_and (conjunction_in room) (begins (word words.Or)) (λ r. conjunction_in room (skip (word words.Or) r))
