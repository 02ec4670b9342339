-- Resolved heads of loops: each name is replaced by what it means.
use Rattle.std.specs.Prelude.{List, Option, Some, None}
use Rattle.ss_tree.specs.Tree.{PhraseTree, GuardTree, StartTree, from_end, from_member, after_member, HeadTree, over_range, over_members, over_class}
use Rattle.ss_tree.specs.Names.{NameBytes}
use Rattle.ss_program.specs.declared.expression.Variable.{Variable}
use Rattle.ss_program.specs.Program.{Start, AtEnd, From, After, Head, Numbers, Members, Each, Phrase, Guard}
use Rattle.ss_names_uses.specs.declared.used.ClassNeed.TheVariants as needs
use Rattle.ss_names_scopes.specs.Scopes.{Scope}
use Rattle.ss_names_meaning.specs.Classes.{class_named, variable_named}
use Rattle.ss_names_meaning.specs.Answers.{◌>>=◌, if_there, of_one, of_three}
use Rattle.ss_names_meaning.specs.Expressions.{expression, set_named}
use Rattle.ss_names_meaning.specs.Conditions.{condition}

-- ---- conditions of loops

abbrev pub resolved_phrase : Scope → PhraseTree → Option Phrase
resolved_phrase c p = of_one {B = Phrase} (condition c p.condition) (λ tests. record { kind = p.kind; condition = tests })

abbrev pub guard : Scope → GuardTree → Option Guard
guard c g = of_one {B = Guard} (condition c g.condition) (λ tests. record { kind = g.kind; condition = tests })

-- the phrases of a FOR
abbrev pub phrases_of : HeadTree → List PhraseTree
phrases_of (over_range variable from to step phrases) = phrases
phrases_of (over_members variable set resolved_start reverse phrases) = phrases
phrases_of (over_class class called phrases) = phrases

-- ---- what a FOR goes over

abbrev pub resolved_start : Scope → StartTree → Option Start
resolved_start c from_end = Some AtEnd
resolved_start c (from_member e) = of_one (expression c e) From
resolved_start c (after_member e) = of_one (expression c e) After

-- the variable after CALLED, or else that of the class
abbrev pub called_variable : Scope → Variable → Option NameBytes → Option Variable
called_variable c implied None = Some implied
called_variable c implied (Some name) = variable_named c name

-- what a FOR goes over
unfoldable pub head : Scope → HeadTree → Option Head
head c (over_range variable from to step phrases) = do
  v ← variable_named c variable
  of_three (expression c from) (expression c to) (if_there (expression c) step) (Numbers v)
head c (over_members variable set from reverse phrases) =
    of_three (variable_named c variable) (set_named c set) (resolved_start c from) (λ v s x. Members v s.0 s.1 x reverse)
head c (over_class name called phrases) = do
  class ← class_named c needs.Permanent name
  of_one (called_variable c class.variable called) (λ v. Each v class.class)
