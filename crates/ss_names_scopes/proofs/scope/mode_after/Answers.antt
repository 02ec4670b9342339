use Rattle.std.proofs.Common.{◌+◌, sym, ap, arith}
use Rattle.std.specs.Map.{values_of}
use Rattle.std.proofs.lemmas.Map.Entries.{length-values_of}
use Rattle.std.proofs.lemmas.Option.{slice_get_past}
use Rattle.ss_names_scopes.specs.Scopes.{mode_given}
use Rattle.ss_names_scopes.proofs.scope.mode_after.Goals as goal

pub returns-then-place-count : goal.returns-then-place-count
returns-then-place-count c =
    let ls = c.args.locals.now in
    sym (ap mode_given (slice_get_past (values_of ls) (c.args.given + c.args.place) (omega (arith, length-values_of ls, c.len-count.ensures, c.if-place-count.true))))

pub returns-then-given-count : goal.returns-then-given-count
returns-then-given-count c =
    let ls = c.args.locals.now in
    sym (ap mode_given (slice_get_past (values_of ls) (c.args.given + c.args.place) (omega (arith, length-values_of ls, c.len-count.ensures, c.if-place-count.false, c.if-given-count.true))))
