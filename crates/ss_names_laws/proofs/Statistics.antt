-- The subjects of TALLY and ACCUMULATE: each is there and a whole number, so each history has a statistic.
use Rattle.std.proofs.Common.{◌≡◌, ℕ, not, true, false, [], ◌++◌, List, length, Option, Some, None, option_map, refl, ap, ◌∙◌}
use Rattle.std.specs.Prelude.{slice_get}
use Rattle.std.specs.List.{AllByRecursion as Every, flat_map}
use Rattle.std.proofs.lemmas.Bool.{not-true}
use Rattle.ss_names_laws.proofs.Common.{declarations, Declared, Global, is_text, key_at, keys_of, Line, Local, Meaning, MemberCount, NameBytes, numbered, OfAttribute, OfCount, OfVariable, slice_get-map, Statistic, Subject, subject_of, Table, table, there, unless, upto, value_at, value_for}
use Rattle.ss_names.specs.Entries.{given_by, history_by}
use Rattle.ss_names_meaning.specs.Layouts.{resolved_statistic, statistics as statistics_of}
use Rattle.ss_tree.specs.Tree.{PreambleTree, ProgramTree, statistics}
use Rattle.ss_base.specs.declared.words.Weighting.{Weighting}
use Rattle.ss_names_declarations.specs.declared.declaration.Declared.TheVariants as d
use Rattle.ss_names.specs.declared.meaning.Meaning.TheVariants as m
use Rattle.ss_check_rules.specs.declared.error.CheckError.TheVariants as errors
use Rattle.ss_check_rules.specs.Kinds.{may_be_watched}
use Rattle.ss_check_rules.specs.Order.{check_error_order}
use Rattle.ss_check_rules.specs.Refusal.{breaches, in_preamble, in_program, breaches_in_section, refusal_of_uses, subject_breaks}
use Rattle.ss_names_laws.proofs.Each.{at_place, each_empty, every_first}
use Rattle.ss_names_laws.proofs.Items.{both_empty}
use Rattle.ss_names_laws.proofs.Kept.{nothing_found}
use Rattle.ss_names_laws.proofs.Known.{IsKnown, name_known}
use Rattle.ss_names_laws.proofs.Results.{each_made, goes, upto_every}
use Rattle.ss_names_laws.proofs.Sources.{IsMade, every_made}
use Rattle.ss_names_laws.proofs.Steps.{none_listed}
use Rattle.ss_names_laws.proofs.Unbroken.{first_holds, holds_unless}

-- a meaning that may have a history, and is a whole number
abbrev pub IsWhole : Option Meaning → Type 0
IsWhole o = (meaning : Meaning) × (o ≡ Some meaning) × (may_be_watched meaning ≡ true) × (is_text (Some meaning) ≡ false)

whole_so : (line : Line) (o : Option Meaning) → subject_breaks line o ≡ None → IsWhole o
whole_so line None h = absurd cc
whole_so line (Some meaning) h =
    let kept = first_holds (may_be_watched meaning) (unless (not (is_text (Some meaning))) (errors.Mode line)) (errors.Unknown line) h in
    (meaning, refl, kept.0, not-true (is_text (Some meaning)) (holds_unless (not (is_text (Some meaning))) (errors.Mode line) kept.1))

-- what may have a history is a subject
subject_there : (t : Table) (name : NameBytes) (meaning : Meaning) → IsKnown t name meaning → may_be_watched meaning ≡ true → (subject : Subject) × (subject_of (Some meaning) ≡ Some subject)
subject_there t name (m.Variable (Global k) mode) known h = (OfVariable k, refl)
subject_there t name (m.Variable (Local k) mode) known h = absurd known
subject_there t name (m.Attribute class field mode) known h = (OfAttribute class field, refl)
subject_there t name (m.OfSet MemberCount set) known h = (OfCount set, refl)
subject_there t name _ known h = absurd cc

module _ (p : ProgramTree) (kept : refusal_of_uses p ≡ None) where
  -- the name means a whole number that may have a history
  abbrev pub IsWatched : NameBytes × Weighting → Type 0
  IsWatched e = IsWhole (value_for (table p).meanings e.0)

  subject_whole : (w : Declared) → IsMade p w → Every IsWatched (history_by w)
  subject_whole (d.Subject name weighting) h =
      let t = table p in
      let rest = in_program p.sections ++ flat_map (breaches_in_section t p.sections) p.sections in
      let none = (both_empty (flat_map (in_preamble t) p.preamble) rest (nothing_found check_error_order (breaches t p) kept)).0 in
      let own = at_place (λ (s : PreambleTree). in_preamble t s ≡ []) p.preamble h.0 (statistics h.1 weighting h.2 name) (each_empty (in_preamble t) p.preamble none) h.3 in
      (whole_so h.1 (value_for t.meanings name) (none_listed (subject_breaks h.1 (value_for t.meanings name)) own), tt)
  subject_whole _ h = tt

  pub all_watched : Every IsWatched (table p).histories
  all_watched = every_first IsWatched (given_by history_by (declarations p)) (every_made p IsWatched history_by subject_whole)

  pub statistics_there : (xs : List Statistic) × (statistics_of (table p) ≡ Some xs)
  statistics_there =
      let t = table p in
      let of_name : NameBytes → Option Subject = λ n. subject_of (value_for t.meanings n) in
      let all = upto_every (λ (n : ℕ). (s : Statistic) × (resolved_statistic t n ≡ Some s) × Unit {0}) (length t.histories) (λ n lt.
      let e = there t.histories n lt in
      let whole = at_place IsWatched t.histories n e.0 all_watched e.1 in
      let subject = subject_there (numbered (declarations p)) e.0.0 whole.0 (name_known (declarations p) e.0.0 whole.0 whole.1) whole.2 in
      let named : slice_get t.subjects n ≡ Some (of_name e.0.0) = slice_get-map of_name (keys_of t.histories) n ∙ ap (option_map of_name) (key_at t.histories n e.0.0 e.0.1 e.1) in
      let made : Statistic = record { subject = subject.0; weighting = e.0.1 } in
      (made, goes _ _ e.0.1 made (value_at t.histories n e.0.0 e.0.1 e.1) (goes _ _ (Some subject.0) made (named ∙ ap Some (ap subject_of whole.1 ∙ subject.1)) refl), tt)) in
      let found = each_made (resolved_statistic t) (λ (s : Statistic). Unit {0}) (upto (length t.histories)) all in
      (found.0, found.1)
