use Rattle.std.proofs.Common.{map, ap, ◌∙◌}
use Rattle.std.specs.List.{flat_map}
use Rattle.std.specs.Prelude.{Option}
use Rattle.ss_base.specs.declared.layout.Mode.{Mode}
use Rattle.ss_tree.specs.Names.{NameBytes}
use Rattle.ss_names_declarations.specs.NameTable.{first_entries}
use Rattle.ss_names_scopes.specs.Locals.{defined, local_used}
use Rattle.ss_names_scopes.proofs.Entering.{moded_found}
use Rattle.ss_names_scopes.proofs.locals.Locals.of.Goals as goal

pub returns : goal.returns
returns c =
    let t = c.args.names.now in
    let us = c.args.uses.now in
    c.in_ok-entries.ensures
    ∙ ap (λ (g : NameBytes → NameBytes × Option Mode). first_entries (map g (flat_map (local_used t) us)))
    (moded_found t.usual (defined us) c.in_ok-modes.modes c.in_ok-modes.ensures)
