use Rattle.std.proofs.Common.{rules, ◌≡◌, ℤ, Ok, Err, length, refl, subst, to_z, of_z, w64, arith}
use Rattle.ss_machine_notices.specs.Beginning.{HasLetGo}
use Rattle.ss_machine_notices.proofs.Beginning.{saved_within}
use Rattle.ss_machine_notices.proofs.events.receive.Goals as goal

pub read_given-requires : goal.read_given-requires
read_given-requires c = record { class = c.requires.goes.class; modes = c.requires.modes; places = c.requires.places; small = c.requires.small }

pub let_go-requires : goal.let_go-requires
let_go-requires c =
    let can = c.requires.goes in
    record {
      rank = can.rank;
      class = can.class;
      single = can.single;
      saved = λ said here. saved_within said.saved c.args.what.from (length c.read_given.new.rows.numbers) (omega (arith, c.requires.places, c.read_given.ensures.long)) (can.saved said here);
    }

pub returns-in-Err : goal.returns-in-Err
returns-in-Err c = λ said here. record {
  rows = c.read_given.new.rows;
  read = Err c.in-Err.kind;
  read_is = c.in-Err.ensures.received;
  lets_go = (refl, refl);
}

pub returns-in-Ok : goal.returns-in-Ok
returns-in-Ok c = λ said here.
    let n = c.args.what.notice in
    let same : to_z w64 (of_z w64 n) ≡ n = search rules in
    let mid = record c.args.state.now { rows = c.read_given.new.rows } in
    record {
      rows = c.read_given.new.rows;
      read = Ok tt;
      read_is = c.in-Ok.ensures.received;
      lets_go = subst (λ (z : ℤ). HasLetGo said.saved c.args.what.class z mid c.let_go.new.state c.let_go.result) same (c.let_go.ensures said here);
    }
