-- Reading the heads of loops from left to right.
use Rattle.std.specs.Prelude.{ℕ, Bool, List, ◌∷◌, Option}
use Rattle.ss_lex.specs.declared.word.Word.TheVariants as words
use Rattle.ss_lex.specs.declared.token.Symbol.TheVariants.{Equals}
use Rattle.ss_lex.specs.declared.token.Token.{Token}
use Rattle.ss_base.specs.declared.words.PhraseKind.{PhraseKind}
use Rattle.ss_base.specs.declared.words.GuardKind.{GuardKind}
use Rattle.ss_tree.specs.Tree.{ExpressionTree, NamedTree, ConditionTree, PhraseTree, GuardTree, StartTree, from_end, from_member, after_member, HeadTree, over_range, over_members, over_class, LoopHeadTree, guarded}
use Rattle.ss_parse_expressions.specs.declared.classes.WordClass.TheVariants as classes
use Rattle.ss_parse_expressions.specs.WordTables.{phrase_of, guard_of}
use Rattle.ss_parse_expressions.specs.Reading.{Reader, ◌>>=◌, word, symbol, begins, begins_by, skip, expect, in_table, taken, name_in_token, seq, after_dropped, apply, maybe, flag, choose_reader, rows, skip_comma}
use Rattle.ss_parse_expressions.specs.ReadWords.{done, begins_class, expect_class}
use Rattle.ss_parse_expressions.specs.ReadExpressions.{sum_in}
use Rattle.ss_parse_expressions.specs.ReadPlaces.{reference_in}
use Rattle.ss_parse_expressions.specs.ReadConditions.{condition_in}

-- ---- phrases, and the conditions of a loop that begins with WHILE or UNTIL

abbrev pub phrase_tree : PhraseKind × ConditionTree → PhraseTree
phrase_tree p = record { kind = p.0; condition = p.1 }

abbrev pub guard_tree : GuardKind × ConditionTree → GuardTree
guard_tree p = record { kind = p.0; condition = p.1 }

abbrev pub begins_phrase : List Token → Bool
begins_phrase = begins_by (in_table phrase_of)

abbrev pub begins_guard : List Token → Bool
begins_guard = begins_by (in_table guard_of)

unfoldable pub phrase_in : ℕ → Reader PhraseTree
phrase_in room = apply phrase_tree (seq (taken (in_table phrase_of)) (condition_in room))

unfoldable pub guard_in : ℕ → Reader GuardTree
guard_in room = apply guard_tree (seq (taken (in_table guard_of)) (condition_in room))

-- phrases, each with a comma before it or not
abbrev pub phrases_in : ℕ → Reader (List PhraseTree)
phrases_in room = rows (λ ts. begins_phrase (skip_comma ts)) (λ r. phrase_in room (skip_comma r))

abbrev pub guards_in : ℕ → Reader (List GuardTree)
guards_in room = rows (λ ts. begins_guard (skip_comma ts)) (λ r. guard_in room (skip_comma r))

-- ---- FOR v = first TO last BY step

abbrev pub step_in : ℕ → Reader (Option ExpressionTree)
step_in room = maybe (begins (word words.By)) (after_dropped (expect (word words.By)) (sum_in room))

abbrev pub range_tree : List ℕ × (ExpressionTree × (ExpressionTree × (Option ExpressionTree × List PhraseTree))) → HeadTree
range_tree p = over_range p.0 p.1.0 p.1.1.0 p.1.1.1.0 p.1.1.1.1

unfoldable pub range_in : ℕ → Reader HeadTree
range_in room = apply range_tree (seq (taken name_in_token) (after_dropped (expect (symbol Equals)) (seq (sum_in room) (after_dropped (expect (word words.To)) (seq (sum_in room) (seq (step_in room) (phrases_in room)))))))

-- ---- FOR EACH

unfoldable pub start_in : ℕ → Reader StartTree
start_in room =
    choose_reader (begins (word words.From)) (apply from_member (after_dropped (expect (word words.From)) (sum_in room)))
    (choose_reader (begins (word words.After)) (apply after_member (after_dropped (expect (word words.After)) (sum_in room)))
    (done from_end))

unfoldable pub reverse : Reader Bool
reverse = flag (begins (word words.In)) (after_dropped (expect (word words.In)) (after_dropped (expect (word words.Reverse)) (expect (word words.Order))))

abbrev pub members_tree : List ℕ → NamedTree × (StartTree × (Bool × List PhraseTree)) → HeadTree
members_tree v p = over_members v p.0 p.1.0 p.1.1.0 p.1.1.1

-- a loop over the members of a set, after its variable
unfoldable pub members_in : ℕ → List ℕ → Reader HeadTree
members_in room v = apply (members_tree v) (after_dropped (expect (word words.In)) (seq (λ ts. reference_in room (skip (word words.The) ts)) (seq (start_in room) (seq reverse (phrases_in room)))))

abbrev pub class_tree : List ℕ → Option (List ℕ) × List PhraseTree → HeadTree
class_tree c p = over_class c p.0 p.1

-- a loop over a class, after the name of the class
unfoldable pub class_in : ℕ → List ℕ → Reader HeadTree
class_in room c = apply (class_tree c) (seq (maybe (begins (word words.Called)) (after_dropped (expect (word words.Called)) (taken name_in_token))) (phrases_in room))

abbrev pub each_named : ℕ → List ℕ → Reader HeadTree
each_named room v = choose_reader (begins (word words.In)) (members_in room v) (class_in room v)

-- a FOR EACH, after FOR
unfoldable pub each_in : ℕ → Reader HeadTree
each_in room = after_dropped (expect_class classes.Each) (λ ts. taken name_in_token ts >>= λ v. each_named room v.0 v.1)

unfoldable pub for_in : ℕ → Reader HeadTree
for_in room = choose_reader (begins_class classes.Each) (each_in room) (range_in room)

-- ---- loops that begin with WHILE or UNTIL, after that word

-- a first condition and further ones
abbrev pub further_guards : ℕ → GuardTree → Reader (List GuardTree)
further_guards room g = apply (λ gs. g ∷ gs) (guards_in room)

unfoldable pub guarded_in : ℕ → GuardKind → Reader LoopHeadTree
guarded_in room kind ts = condition_in room ts >>= λ c. apply guarded (further_guards room (guard_tree (kind, c.0))) c.1
