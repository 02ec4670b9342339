-- Reading preambles from left to right.
use Rattle.std.specs.Prelude.{ℕ, Bool, true, false, List, length, Option, Some, None}
use Rattle.ss_base.specs.declared.line.Line.{Line}
use Rattle.ss_lex.specs.declared.word.Word.{Word}
use Rattle.ss_lex.specs.declared.word.Word.TheVariants as words
use Rattle.ss_lex.specs.declared.token.Token.{Token}
use Rattle.ss_base.specs.declared.layout.ClassKind.{ClassKind}
use Rattle.ss_tree.specs.declared.preamble.NamedKey.{NamedKey}
use Rattle.ss_base.specs.declared.words.Weighting.{Weighting}
use Rattle.ss_base.specs.declared.words.Weighting.TheVariants as weightings
use Rattle.ss_tree.specs.declared.preamble.StatisticKind.{StatisticKind}
use Rattle.ss_tree.specs.declared.preamble.NamedStatistic.{NamedStatistic}
use Rattle.ss_tree.specs.Tree.{ClauseTree, has, owns, belongs_to, OrderTree, fifo, lifo, ranked, PreambleTree, permanent_entities, temporary_entities, event_notices, every, normally, system_owns, define_variables, define_sets, priority_order, break_ties, statistics}
use Rattle.ss_parse_expressions.specs.declared.classes.WordClass.TheVariants as alike
use Rattle.ss_parse_expressions.specs.Reading.{Reader, ◌>>=◌, word, begins, begins_by, expect, in_table, taken, name_in_token, seq, after_dropped, closed, apply, maybe_list, choose_reader, row, first_and, list_of}
use Rattle.ss_parse_expressions.specs.ReadWords.{done, fail, skip_class, begins_noisy, expect_noisy, begins_among, begins_name, names, items}
use Rattle.ss_parse.specs.SpelledPreambles.{group_after}
use Rattle.ss_parse_expressions.specs.WordTables.{mode_of_word, rank_of, statistic_of}
use Rattle.ss_parse_statements.specs.ReadSimple.{after_the}
use Rattle.ss_parse_statements.specs.ReadStatements.{by_word}

-- ---- parts

abbrev pub key_tree : Bool × List ℕ → NamedKey
key_tree p = record { high = p.0; name = p.1 }

unfoldable pub key : Reader NamedKey
key = apply key_tree (seq (taken (in_table rank_of)) (taken name_in_token))

-- THEN BY, and HIGH or LOW
abbrev pub then_rank : Reader Bool
then_rank = after_dropped (expect_noisy (word words.Then)) (after_dropped (expect (word words.By)) (taken (in_table rank_of)))

unfoldable pub then_key : Reader NamedKey
then_key = apply key_tree (seq then_rank (taken name_in_token))

-- keys, the further ones after THEN BY
abbrev pub keys : Reader (List NamedKey)
keys = first_and key (begins_noisy (word words.Then)) then_key

abbrev pub statistic_tree : List ℕ × StatisticKind → NamedStatistic
statistic_tree p = record { name = p.0; kind = p.1 }

-- AS and the kind of a statistic
abbrev pub statistic_kind : Reader StatisticKind
statistic_kind = after_dropped (expect (word words.As)) (after_the (taken (in_table statistic_of)))

unfoldable pub statistic : Reader NamedStatistic
statistic = apply statistic_tree (seq (taken name_in_token) statistic_kind)

abbrev pub found : Reader (List NamedStatistic)
found = list_of begins_name statistic

unfoldable pub clause : Reader ClauseTree
clause =
    choose_reader (begins (word words.Has)) (apply has (after_dropped (expect (word words.Has)) items))
    (choose_reader (begins (word words.Owns)) (apply owns (after_dropped (expect (word words.Owns)) items))
    (apply belongs_to (after_dropped (expect (word words.May)) (after_dropped (expect (word words.Belong)) (after_dropped (expect (word words.To)) items)))))

abbrev pub clause_word : Word → Bool
clause_word words.Has = true
clause_word words.Owns = true
clause_word words.May = true
clause_word _ = false

abbrev pub begins_clause : List Token → Bool
begins_clause = begins_among clause_word

abbrev pub clause_list : Reader (List ClauseTree)
clause_list = list_of begins_clause clause

abbrev pub clauses : Reader (List ClauseTree)
clauses = maybe_list begins_clause clause_list

-- the ranking of a set, after SET
abbrev pub ranking : Reader OrderTree
ranking = choose_reader (begins (word words.Ranked)) (apply ranked (after_dropped (expect (word words.Ranked)) (after_dropped (expect (word words.By)) keys))) (done fifo)

-- how a set is ordered
unfoldable pub order : Reader OrderTree
order =
    choose_reader (begins (word words.Fifo)) (apply (λ u. fifo) (after_dropped (expect (word words.Fifo)) (expect (word words.Set))))
    (choose_reader (begins (word words.Lifo)) (apply (λ u. lifo) (after_dropped (expect (word words.Lifo)) (expect (word words.Set))))
    (after_dropped (expect (word words.Set)) ranking))

-- ---- statements of a preamble, after their first word

unfoldable pub permanent_at : Line → Reader PreambleTree
permanent_at line = apply (λ u. permanent_entities line) (expect (word words.Entities))

unfoldable pub temporary_at : Line → Reader PreambleTree
temporary_at line = apply (λ u. temporary_entities line) (expect (word words.Entities))

unfoldable pub notices_at : Line → Reader PreambleTree
notices_at line = apply (event_notices line) (after_dropped (expect (word words.Notices)) (maybe_list (begins (word words.Include)) (after_dropped (expect (word words.Include)) names)))

unfoldable pub every_at : Option ClassKind → Line → Reader PreambleTree
every_at None line = fail
every_at (Some kind) line = apply (λ p. every line kind p.0 p.1) (seq (taken name_in_token) clauses)

unfoldable pub normally_at : Line → Reader PreambleTree
normally_at line = apply (normally line) (after_dropped (expect_noisy (word words.Mode)) (after_dropped (expect (word words.Is)) (taken (in_table mode_of_word))))

unfoldable pub system_at : Line → Reader PreambleTree
system_at line = apply (system_owns line) (after_dropped (expect (word words.System)) (after_dropped (expect (word words.Owns)) items))

-- a mode, or how a set is ordered
abbrev pub define_end : Line → List (List ℕ) → Reader PreambleTree
define_end line ns = choose_reader (begins_by (in_table mode_of_word)) (apply (define_variables line ns) (closed (taken (in_table mode_of_word)) (expect (word words.Variable)))) (apply (define_sets line ns) order)

unfoldable pub define_at : Line → Reader PreambleTree
define_at line ts = closed names (expect (word words.As)) ts >>= λ ns. define_end line ns.0 (skip_class alike.Article ns.1)

unfoldable pub priority_at : Line → Reader PreambleTree
priority_at line = apply (priority_order line) (after_dropped (expect (word words.Order)) (after_dropped (expect (word words.Is)) names))

unfoldable pub break_at : Line → Reader PreambleTree
break_at line = apply (λ p. break_ties line p.0 p.1) (seq (taken name_in_token) (after_dropped (expect (word words.Ties)) (after_dropped (expect (word words.By)) keys)))

unfoldable pub statistics_at : Line → Weighting → Reader PreambleTree
statistics_at line weighting = apply (λ p. statistics line weighting p.0 p.1) (seq found (after_dropped (expect (word words.Of)) (taken name_in_token)))

unfoldable pub preamble_at : Option ClassKind → Line → Word → Reader PreambleTree
preamble_at group line words.Permanent = permanent_at line
preamble_at group line words.Temporary = temporary_at line
preamble_at group line words.Event = notices_at line
preamble_at group line words.Every = every_at group line
preamble_at group line words.Normally = normally_at line
preamble_at group line words.The = system_at line
preamble_at group line words.Define = define_at line
preamble_at group line words.Priority = priority_at line
preamble_at group line words.Break = break_at line
preamble_at group line words.Tally = statistics_at line weightings.Tally
preamble_at group line words.Accumulate = statistics_at line weightings.Accumulate
preamble_at group line _ = fail

abbrev pub preamble_word : Word → Bool
preamble_word words.Permanent = true
preamble_word words.Temporary = true
preamble_word words.Event = true
preamble_word words.Every = true
preamble_word words.Normally = true
preamble_word words.The = true
preamble_word words.Define = true
preamble_word words.Priority = true
preamble_word words.Break = true
preamble_word words.Tally = true
preamble_word words.Accumulate = true
preamble_word _ = false

abbrev pub begins_preamble : List Token → Bool
begins_preamble = begins_among preamble_word

-- a statement of a preamble, in a group of this kind
abbrev pub preamble_in : Option ClassKind → Reader PreambleTree
preamble_in group = by_word (preamble_at group)

-- statements as long as there is one more, each in the group that the ones before it leave
unfoldable pub preambles : Option ClassKind → Reader (List PreambleTree)
preambles group ts = row begins_preamble preamble_in group_after (length ts) group ts

-- a preamble, if there is one
unfoldable pub whole_preamble : Reader (List PreambleTree)
whole_preamble = maybe_list (begins (word words.Preamble)) (after_dropped (expect (word words.Preamble)) (closed (preambles None) (expect (word words.End))))
