-- Classes by the kind that their place needs.
use Rattle.std.specs.Prelude.{ℕ, Option, Some, None, length, get_or, []}
use Rattle.ss_tree.specs.Names.{NameBytes}
use Rattle.ss_names_declarations.specs.NameTable.{value_for}
use Rattle.ss_names_uses.specs.declared.used.ClassNeed.{ClassNeed}
use Rattle.ss_names.specs.declared.meaning.Meaning.{Meaning}
use Rattle.ss_names.specs.declared.meaning.Meaning.TheVariants as meanings
use Rattle.ss_names.specs.Entries.{count_name}
use Rattle.ss_names_scopes.specs.Scopes.{Scope, is_kind, meaning_of_name, variable_of}
use Rattle.ss_program.specs.declared.expression.Variable.{Variable}
use Rattle.ss_program.specs.declared.statement.CountedClass.{CountedClass}
use Rattle.ss_names_meaning.specs.declared.classes.NamedClass.{NamedClass}
use Rattle.ss_names_meaning.specs.Answers.{◌>>=◌, of_one, where_holds}

-- the variable that a name means here
abbrev pub variable_named : Scope → NameBytes → Option Variable
variable_named s name = meaning_of_name s name >>= variable_of

-- the number of a class of the kind that a place needs; no local variable hides a class
abbrev pub class_number : ClassNeed → Option Meaning → Option ℕ
class_number need (Some (meanings.Class class kind variable)) = where_holds (is_kind need kind) class
class_number need _ = None

abbrev pub class_named : Scope → ClassNeed → NameBytes → Option NamedClass
class_named s need name = do
  class ← class_number need (value_for s.table.meanings name)
  of_one {B = NamedClass} (variable_named s name)
      (λ variable. record { class = class; attributes = length (get_or s.table.fields class []); variable = variable })

abbrev pub count_of : Option Meaning → Option CountedClass
count_of (Some (meanings.Count count)) = Some count
count_of _ = None

-- a permanent class with its N.
abbrev pub counted : Scope → NameBytes → Option CountedClass
counted s name = count_of (value_for s.table.meanings (count_name name))
