use Rattle.std.proofs.Common.{sym, subst, ◌≡◌, ◌-◌, ◌+◌}
use Rattle.std.proofs.lemmas.Result.{err_from_is_err_and}
use Rattle.ss_parse_statements.specs.ReadSimple.{pictures_at}
use Rattle.ss_parse_statements.proofs.Pictures.{picture_grows, picture_breaks, pictures_done}
use Rattle.ss_parse_expressions.proofs.Rows.{next_fails, next_read, with_front}
use Rattle.ss_parse_statements.proofs.parts.pictures.Goals as goal

pub returns-in_err-longer : goal.returns-in_err-longer
returns-in_err-longer c =
    let p = err_from_is_err_and c.from_residual.result c.from_residual.ensures.1 in
    rw (p.1, p.2) (picture_breaks _ c.args.count c.more.counter _ _ _ c.more-test.true (next_fails _ c.more.all _ _ c.in_err-longer.field-0.0 c.picture.ensures c.in_err-longer.ensures) c.more.invariant)

pub more-preserved : goal.more-preserved
more-preserved c = subst (λ l. with_front l (pictures_at (c.args.count - (c.more.counter + 1)) c.in_ok-longer.after.now) ≡ pictures_at c.args.count c.args.tokens.now) (sym c.in_ok-longer.ensures.2) (picture_grows _ c.args.count c.more.counter _ c.in_ok-longer.ensures.0 _ _ c.more-test.true (next_read _ _ _ _ c.picture.ensures c.in_ok-longer.ensures.1) c.more.invariant)

pub returns : goal.returns
returns c = pictures_done _ c.args.count c.more.counter _ _ c.more-test.false c.more.invariant
