-- Refusals 51 and 58: what may be said once is said once. The line is that of the later place.
use Rattle.std.specs.Prelude.{Bool, List, None, Option, Some, [], option_to_list, false, if◌then◌else◌, is_some, nat_eq, true, ◌&&◌, ◌++◌, ◌∷◌}
use Rattle.std.specs.List.{list_any}
use Rattle.ss_base.specs.declared.line.Line.{Line}
use Rattle.ss_tree.specs.Names.{NameBytes}
use Rattle.ss_names_declarations.specs.NameTable.{is_one_of, same_name, value_for}
use Rattle.ss_names_declarations.specs.declared.declaration.Declared.{Declared}
use Rattle.ss_names_declarations.specs.declared.declaration.Declared.TheVariants as d
use Rattle.ss_names_declarations.specs.declared.declaration.Declaration.{Declaration}
use Rattle.ss_names.specs.Table.{Table}
use Rattle.ss_tables_rules.specs.declared.once.Once.{Once}
use Rattle.ss_tables_rules.specs.declared.once.Once.TheVariants as o
use Rattle.ss_tables_rules.specs.declared.error.TableError.{TableError}
use Rattle.ss_tables_rules.specs.declared.error.TableError.TheVariants.{Twice, TallyTwice}

abbrev pub if_class : Table → NameBytes → Once → Option Once
if_class t class once = if is_some (value_for t.classes class) then Some once else None

-- what a declaration says that may be said once: the owner, the members and the DEFINE of a set, the mode of an attribute, the
-- priority, BREAK and EVENT of a class, NORMALLY, PRIORITY ORDER and MAIN, the history of a subject, a parameter, and the DEFINE
-- of a local variable. A DEFINE of no set, and a priority, BREAK or EVENT of no class, break other rules.
abbrev pub once_of : Table → Declared → Option Once
once_of t (d.Normally mode) = Some o.Normally
once_of t d.PriorityOrder = Some o.PriorityOrder
once_of t d.Main = Some o.Main
once_of t (d.Owner set class) = Some (o.Owner set)
once_of t (d.Member set class) = Some (o.Member set)
once_of t (d.Order set rule statement) = if is_one_of t.set_names set then Some (o.Order set) else None
once_of t (d.Variable name mode) = if is_some (value_for t.attributes name) then Some (o.Mode name) else None
once_of t (d.Priority class) = if_class t class (o.Priority class)
once_of t (d.Ties class) = if_class t class (o.Ties class)
once_of t (d.Event class section given saving) = if_class t class (o.Event class)
once_of t (d.Subject name weighting) = Some (o.Subject name)
once_of t (d.Parameter name section) = Some (o.Parameter name section)
once_of t (d.Local name section mode) = Some (o.Local name section)
once_of t _ = None

-- the breach of saying it again
abbrev pub repeated_breach : Line → Declared → TableError
repeated_breach line (d.Subject name weighting) = TallyTwice line
repeated_breach line _ = Twice line

-- whether both are the same
abbrev pub same_once : Once → Once → Bool
same_once o.Normally o.Normally = true
same_once o.PriorityOrder o.PriorityOrder = true
same_once o.Main o.Main = true
same_once (o.Owner first) (o.Owner second) = same_name first second
same_once (o.Member first) (o.Member second) = same_name first second
same_once (o.Order first) (o.Order second) = same_name first second
same_once (o.Mode first) (o.Mode second) = same_name first second
same_once (o.Priority first) (o.Priority second) = same_name first second
same_once (o.Ties first) (o.Ties second) = same_name first second
same_once (o.Event first) (o.Event second) = same_name first second
same_once (o.Subject first) (o.Subject second) = same_name first second
same_once (o.Parameter first section) (o.Parameter second other) = nat_eq section other && same_name first second
same_once (o.Local first section) (o.Local second other) = nat_eq section other && same_name first second
same_once _ _ = false

abbrev pub is_among : List Once → Once → Bool
is_among said once = list_any (same_once once) said

abbrev pub again : List Once → Line → Declared → Option Once → Option TableError
again said line what None = None
again said line what (Some once) = if is_among said once then Some (repeated_breach line what) else None

abbrev pub once_added : List Once → Option Once → List Once
once_added said None = said
once_added said (Some once) = if is_among said once then said else said ++ once ∷ []

-- the breaches of declarations that say again what was said before
abbrev pub repeats_after : Table → List Once → List Declaration → List TableError
repeats_after t said [] = []
repeats_after t said (x ∷ xs) =
    option_to_list (again said x.line x.what (once_of t x.what)) ++ repeats_after t (once_added said (once_of t x.what)) xs

abbrev pub repeats : Table → List Declaration → List TableError
repeats t ds = repeats_after t [] ds
