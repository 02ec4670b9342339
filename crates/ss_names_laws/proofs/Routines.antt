-- The sections of routines, and what holds of the local variables of each section.
use Rattle.std.proofs.Common.{◌≡◌, length, take, Option, Some, option_map, ap, ◌∙◌, arith, length-take, ℕ}
use Rattle.ss_names_laws.proofs.Common.{declarations, Declared, keys_of, length-map, locals_of, Mode, Moded, NameBytes, ProgramTree, SectionTree, slice_get, slice_get-map, table, values_of}
use Rattle.std.specs.List.{AllByRecursion as Every}
use Rattle.ss_names.specs.Entries.{given_by, routine_by}
use Rattle.ss_names_laws.specs.ValidTables.{parameters_of, IsValidSection}
use Rattle.ss_names_declarations.specs.declared.declaration.Declared.TheVariants as d
use Rattle.ss_names_declarations.proofs.Entries.{entry_of_value}
use Rattle.ss_names.specs.declared.entry.RoutineSection.{RoutineSection}
use Rattle.ss_names_laws.specs.Laws.{RoutinesAreThere, SectionsAreValid}
use Rattle.ss_names_laws.proofs.Each.{at_place, every_first, from_places}
use Rattle.ss_names_laws.proofs.Locals.{hides, modes_there}
use Rattle.ss_names_laws.proofs.Parameters.{parameters_there}
use Rattle.ss_names_laws.proofs.Sources.{IsMade, IsRoutineSection, every_made}

pub sections_are_valid : SectionsAreValid
sections_are_valid p kept =
    from_places (λ (s : SectionTree). IsValidSection (table p) s.kind (locals_of (table p) s)) p.sections (λ k s at.
    let found = modes_there p kept k s at in
    record { modes = found.0; moded = found.1; hides = hides p kept k s at; parameters = parameters_there p kept k s at })

-- ---- routines

routine_made : (p : ProgramTree) (w : Declared) → IsMade p w → Every (λ (e : NameBytes × RoutineSection). IsRoutineSection p e.1) (routine_by w)
routine_made p (d.Routine name section given yielding) h = (h.1, tt)
routine_made p _ h = tt

pub section_of_routine : (p : ProgramTree) (k : ℕ) (known : RoutineSection) → slice_get (values_of (table p).routines) k ≡ Some known → IsRoutineSection p known
section_of_routine p k known at =
    let Has = λ (e : NameBytes × RoutineSection). IsRoutineSection p e.1 in
    let entry = entry_of_value (table p).routines k known at in
    at_place Has (table p).routines k (entry.0, known) (every_first Has (given_by routine_by (declarations p)) (every_made p Has routine_by (routine_made p))) entry.1

pub routines_are_there : RoutinesAreThere
routines_are_there p kept k known at =
    let s = section_of_routine p k known at in
    let locals : Moded = locals_of (table p) s.0 in
    let first : length (take (length (parameters_of s.0.kind)) (keys_of locals)) ≡ length (parameters_of s.0.kind) = ap length (parameters_there p kept known.section s.0 s.1) in
    let taken = length-take (length (parameters_of s.0.kind)) (keys_of locals) in
    let count : length (keys_of locals) ≡ length locals = length-map locals (λ (e : NameBytes × Option Mode). e.0) in
    (locals, slice_get-map (locals_of (table p)) p.sections known.section ∙ ap (option_map (locals_of (table p))) s.1, omega (arith, first, taken, count, s.2))
