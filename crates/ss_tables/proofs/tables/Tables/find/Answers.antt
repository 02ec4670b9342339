use Rattle.std.proofs.Common.{◌≡◌, Some, subst}
use Rattle.std.specs.Prelude.{slice_get, option_map, IfSome}
use Rattle.std.specs.Map.{keys_of}
use Rattle.ss_names_declarations.specs.NameTable.{place_in}
use Rattle.ss_tables.proofs.Places.{found_is_there, found_if_declared}
use Rattle.ss_tables.proofs.tables.Tables.find.Goals as goal

pub returns-clause-named : goal.returns-clause-named
returns-clause-named c =
    subst (λ t. IfSome c.find.result (λ id. slice_get (keys_of t.meanings) id.0 ≡ Some c.args.spelling.now)) c.self.view_is (found_is_there c.find.result c.self.inside.names.meanings c.args.spelling.now c.find.ensures)

pub returns-clause-declared : goal.returns-clause-declared
returns-clause-declared c p a =
    found_if_declared p _ a c.find.result c.args.spelling.now
    (subst (λ t. option_map (λ id. id.0) c.find.result ≡ place_in t.meanings c.args.spelling.now) c.self.view_is c.find.ensures)
