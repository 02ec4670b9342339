use Rattle.std.proofs.Common.{sym, ap, ◌∙◌}
use Rattle.ss_names_declarations.specs.NameTable.{place_in}
use Rattle.ss_names.proofs.Short.{longer_absent, no_spelling}
use Rattle.ss_names.proofs.meanings.Meanings.place.Goals as goal

pub returns-in-None : goal.returns-in-None
returns-in-None c =
    sym (ap (λ names. place_in names c.args.spelling.now) (sym c.self.view_is)
    ∙ longer_absent c.self.inside.map c.args.spelling.now (no_spelling c.args.spelling.now (sym c.of.ensures ∙ c.in-None.is)) c.self.invariant)
