use Rattle.std.proofs.Common.{arith}
use Rattle.std.proofs.lemmas.List.{drop_all}
use Rattle.ss_machine_notices.proofs.Giving.{none_endowed, gives_one, one_endowed, one_not, all_endowed}
use Rattle.ss_machine_notices.proofs.scheduling.give.Goals as goal

pub loop-field-init : goal.loop-field-init
loop-field-init c = λ g. none_endowed c.args.what.class c.args.what.notice c.args.what.noted c.args.what.from c.args.given c.args.rows.now c.args.world.now g

pub give_one-requires : goal.give_one-requires
give_one-requires c =
    let g = c.requires in
    gives_one c.args.what.class c.args.what.notice c.args.what.noted c.args.what.from c.args.given c.args.rows.now c.args.world.now c.loop-field.field c.loop-field.world g (c.loop-field.invariant g) c.loop-field-test.true

pub loop-field-preserved : goal.loop-field-preserved
loop-field-preserved c = λ g.
    let i = c.loop-field.field in let now = c.loop-field.world in let d = c.loop-field.invariant g in let lt = c.loop-field-test.true in
    one_endowed c.args.what.class c.args.what.notice c.args.what.noted c.args.what.from c.args.given c.args.rows.now c.args.world.now i now g d lt c.give_one.new.world (c.in-Ok.ensures (gives_one c.args.what.class c.args.what.notice c.args.what.noted c.args.what.from c.args.given c.args.rows.now c.args.world.now i now g d lt))

pub returns-in-Err : goal.returns-in-Err
returns-in-Err c = λ g.
    let i = c.loop-field.field in let now = c.loop-field.world in let d = c.loop-field.invariant g in let lt = c.loop-field-test.true in
    one_not c.args.what.class c.args.what.notice c.args.what.noted c.args.what.from c.args.given c.args.rows.now c.args.world.now i now g d lt c.give_one.new.world c.in-Err.kind (c.in-Err.ensures (gives_one c.args.what.class c.args.what.notice c.args.what.noted c.args.what.from c.args.given c.args.rows.now c.args.world.now i now g d lt))

pub returns : goal.returns
returns c = λ g.
    let i = c.loop-field.field in
    all_endowed c.args.what.class c.args.what.notice c.args.what.noted c.args.what.from c.args.given c.args.rows.now c.args.world.now i c.loop-field.world g (c.loop-field.invariant g) (drop_all i g.values (omega (arith, g.many, c.loop-field-test.false)))
