-- Statistics: what is read is spelled, and what is spelled is read.
use Rattle.std.proofs.Common.{◌≡◌, ℕ, ◌<◌, true, false, ◌||◌, List, length, drop, Some, Ok, refl, sym, ap, ◌∙◌, arith}
use Rattle.ss_parse.proofs.Common.{apply_reads, begins, begins_more, begins_name, continues_never, HasFailedReading, is, marked_reads, name_in_token, NamedStatistic, optional_reads, ParseFailure, Reads, separated_list, seq_reads, skip_separator, Statistic_is, taken, Token, Weighting, weighting_word, Word, word}
use Rattle.ss_lex.specs.declared.word.Word.TheVariants as words
use Rattle.ss_lex.specs.declared.token.TokenKind.TheVariants as kinds
use Rattle.ss_base.specs.declared.words.Weighting.TheVariants as weightings
use Rattle.ss_tree.specs.declared.preamble.StatisticKind.{StatisticKind}
use Rattle.ss_parse_expressions.specs.declared.failure.ParseFailure.TheVariants as failures
use Rattle.ss_parse_expressions.proofs.Rows.{list_reads, separated_item, Loop, loop_of}
use Rattle.ss_parse_expressions.proofs.WordLaws.{word_in_reads, name_reads, name_begins, name_no_and, name_less}
use Rattle.ss_parse_expressions.specs.WordTables.{statistic_of}
use Rattle.ss_parse.specs.ReadPreambles.{statistic_tree, statistic_kind, statistic, found, preamble_word}

pub weighting_known : (weighting : Weighting) → preamble_word (weighting_word weighting) ≡ true
weighting_known weightings.Tally = refl
weighting_known weightings.Accumulate = refl

rank_reads_word : (w : Word) (mode : StatisticKind) → statistic_of w ≡ Some mode → is (word words.The) (kinds.Word w) ≡ false
rank_reads_word words.The mode e = absurd cc
rank_reads_word _ mode e = refl

module _ (k : ℕ) where
  statistic_reads : Reads k statistic statistic Statistic_is continues_never
  unfolding statistic
  statistic_reads = apply_reads (seq_reads (name_reads k) (marked_reads (word words.As) (optional_reads (word_in_reads k statistic_of) (word words.The) (λ x ts rest s. ap (begins (word words.The)) s.2.2 ∙ rank_reads_word s.0 x s.1))) (λ n ts rest s stop. refl)) statistic_tree Statistic_is (λ p ts rest s. s) (λ x ts rest s. ((x.name, x.kind), refl, s))

  statistic_begins : (ts : List Token) (x : NamedStatistic) (rest : List Token) → Statistic_is x ts rest → begins_name ts ≡ true
  statistic_begins ts x rest s = name_begins ts x.name s.0 s.1

  statistic_less : (ts : List Token) (x : NamedStatistic) (rest : List Token) → Statistic_is x ts rest → length rest < length ts
  statistic_less ts x rest s = omega (arith, name_less ts x.name s.0 s.1, (marked_reads (word words.As) (optional_reads (word_in_reads k statistic_of) (word words.The) (λ x ts rest s. ap (begins (word words.The)) s.2.2 ∙ rank_reads_word s.0 x s.1))).shorter s.0 x.kind rest s.2)

  pub found_reads : Reads k found found (separated_list Statistic_is) (λ ts. begins_more begins_name ts || (continues_never ts || continues_never ts))
  found_reads = list_reads statistic_reads begins_name statistic_begins name_no_and statistic_less (λ span line ts. refl) (λ span line ts. refl)

-- ---- the loop over statistics

pub found_loop : Loop (begins_more begins_name) (λ r. statistic (skip_separator r))
found_loop = loop_of (separated_item (statistic_reads 0) begins_name (statistic_begins 0) name_no_and) refl

-- a statistic, part by part
pub statistic_read : (ts a b rest : List Token) (n : List ℕ) (kind : StatisticKind) → a ≡ ts → taken name_in_token a ≡ Ok (n, drop 1 a) → b ≡ drop 1 a → statistic_kind b ≡ Ok (kind, rest) → statistic ts ≡ Ok (record { name = n; kind = kind }, rest)
unfolding statistic
statistic_read ts a b rest n kind same e f g = rw (sym same, e, sym f, g) refl

pub statistic_no_kind : (ts a b : List Token) (n : List ℕ) (e : ParseFailure) → a ≡ ts → taken name_in_token a ≡ Ok (n, drop 1 a) → b ≡ drop 1 a → HasFailedReading e (statistic_kind b) → HasFailedReading e (statistic ts)
unfolding statistic
statistic_no_kind ts a b n failures.Memory same e f g = tt
statistic_no_kind ts a b n (failures.Refused d left) same e f g = rw (sym same, e, sym f, g) refl
