-- What follows from the table of a program: classes, sets and their disciplines, global variables, statistics.
use Rattle.std.specs.Prelude.{ℕ, ◌==◌, Bool, ◌∷◌, List, [], length, slice_get, get_or, Option, Some, None}
use Rattle.std.specs.Map.{values_of}
use Rattle.std.specs.List.{filter, flat_map}
use Rattle.ss_base.specs.declared.layout.Discipline.{Discipline}
use Rattle.ss_base.specs.declared.layout.Discipline.TheVariants as orders
use Rattle.ss_base.specs.declared.layout.Mode.{Mode}
use Rattle.ss_base.specs.declared.layout.RankKey.{RankKey}
use Rattle.ss_base.specs.declared.layout.SetLayout.{SetLayout}
use Rattle.ss_base.specs.Layout.{layout_of}
use Rattle.ss_base.specs.Plain.{PlainClass, PlainLayout}
use Rattle.ss_tree.specs.Names.{NameBytes}
use Rattle.ss_names_declarations.specs.declared.declaration.SetRule.{SetRule}
use Rattle.ss_names_declarations.specs.declared.declaration.SetRule.TheVariants as rules
use Rattle.ss_names_declarations.specs.NameTable.{same_name, value_for}
use Rattle.ss_names.specs.declared.entry.DefinedOrder.{DefinedOrder}
use Rattle.ss_names.specs.declared.entry.Set.{Set}
use Rattle.ss_names.specs.declared.entry.RankedBy.{RankedBy}
use Rattle.ss_names.specs.declared.entry.TiedBy.{TiedBy}
use Rattle.ss_names.specs.declared.meaning.Meaning.{Meaning}
use Rattle.ss_names.specs.declared.meaning.Meaning.TheVariants as meanings
use Rattle.ss_names.specs.Table.{Table, mode_of_attribute}
use Rattle.ss_program.specs.declared.sections.Statistic.{Statistic}
use Rattle.ss_program.specs.declared.statement.CountedClass.{CountedClass}
use Rattle.ss_names_meaning.specs.Answers.{◌>>=◌, each, of_one, of_three, of_two, upto, where_holds}

-- ---- classes and sets

-- the class of this number, with the modes of its attributes
abbrev pub class_layout : Table → ℕ → Option PlainClass
class_layout t n =
    of_two {C = PlainClass} (slice_get (values_of t.classes) n) (each (mode_of_attribute t) (get_or t.fields n []))
    (λ kind modes. record { kind = kind; fields = modes })

-- a set, which needs an owner and a class of members
abbrev pub set_layout : Set → Option SetLayout
set_layout set = of_two {C = SetLayout} set.owner set.member (λ owner member. record { owner = owner; member = member })

abbrev pub layout : Table → Option PlainLayout
layout t = do
  classes ← each (class_layout t) (upto (length t.classes))
  sets ← each set_layout t.sets
  layout_of classes sets

-- ---- disciplines and ties

-- an attribute of a class as a key
abbrev pub rank_key : Table → ℕ → Bool → NameBytes → Option RankKey
rank_key t class high name = do
  attribute ← value_for t.attributes name
  where_holds (attribute.class == class) (record { field = attribute.field; high = high })

abbrev pub ranked_by : Table → ℕ → RankedBy → Option RankKey
ranked_by t class k = rank_key t class k.high k.attribute

abbrev pub tied_by : Table → ℕ → TiedBy → Option RankKey
tied_by t class k = rank_key t class k.high k.attribute

-- the keys of a DEFINE, by its number, for a class of members
abbrev pub rank_keys : Table → ℕ → ℕ → Option (List RankKey)
rank_keys t class statement = each (ranked_by t class) (filter (λ (k : RankedBy). k.statement == statement) t.rank_keys)

-- the keys that break the ties of a class
abbrev pub tie_keys : Table → ℕ → NameBytes → Option (List RankKey)
tie_keys t class name = each (tied_by t class) (filter (λ (k : TiedBy). same_name k.class name) t.tie_keys)

abbrev pub ruled : Table → Option ℕ → ℕ → SetRule → Option Discipline
ruled t member statement rules.Fifo = Some orders.Fifo
ruled t member statement rules.Lifo = Some orders.Lifo
ruled t member statement rules.Ranked = do
  class ← member
  of_one (rank_keys t class statement) orders.Ranked

-- a set without a DEFINE is FIFO
abbrev pub ordered : Table → Option ℕ → Option DefinedOrder → Option Discipline
ordered t member None = Some orders.Fifo
ordered t member (Some o) = ruled t member o.statement o.rule

abbrev pub discipline : Table → Set → Option Discipline
discipline t set = ordered t set.member set.order

-- the disciplines of the sets, in the order of their numbers
abbrev pub disciplines : Table → Option (List Discipline)
disciplines t = each (discipline t) t.sets

-- ---- counts and statistics

abbrev pub count_by : Meaning → List CountedClass
count_by (meanings.Count count) = count ∷ []
count_by _ = []

-- N. of each permanent class, in the order of the text
abbrev pub counts : Table → List CountedClass
counts t = flat_map count_by (values_of t.meanings)

-- the statistic of the history of this number
abbrev pub resolved_statistic : Table → ℕ → Option Statistic
resolved_statistic t n = do
  weighting ← slice_get (values_of t.histories) n
  known ← slice_get t.subjects n
  of_one {B = Statistic} known (λ subject. record { subject = subject; weighting = weighting })

-- a statistic for each history
abbrev pub statistics : Table → Option (List Statistic)
statistics t = each (resolved_statistic t) (upto (length t.histories))

-- ---- all of it

-- the layout, with disciplines, globals, counts and statistics
pub record ResolvedLayout : Type 0 where
  pub layout : PlainLayout
  pub disciplines : List Discipline
  pub globals : List Mode
  pub counts : List CountedClass
  pub statistics : List Statistic

abbrev pub resolved_layout : Table → Option ResolvedLayout
resolved_layout t =
    of_three {D = ResolvedLayout} (layout t) (disciplines t) (statistics t)
    (λ laid ordered kept. record { layout = laid; disciplines = ordered; globals = values_of t.variables; counts = counts t; statistics = kept })
