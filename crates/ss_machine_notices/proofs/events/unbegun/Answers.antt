use Rattle.std.proofs.Common.{rules, ◌≡◌, ◌<◌, ℤ, Ok, Err, length, ap, sym, ◌∙◌, subst, to_z, of_z, w64, arith}
use Rattle.ss_machine_notices.proofs.Common.{HasLetGo, Seen, slice_get}
use Rattle.ss_machine_notices.proofs.Giving.{got_at}
use Rattle.ss_machine_notices.proofs.Beginning.{lets_go_keeps, lets_go_not}
use Rattle.ss_machine_notices.proofs.events.unbegun.Goals as goal

pub let_go-requires : goal.let_go-requires
let_go-requires c = c.requires.goes

pub give_tick_back-requires : goal.give_tick_back-requires
give_tick_back-requires c =
    let s = c.args.state.now in
    let said = got_at s.world.notices c.args.rank c.requires.goes.rank in
    let same = (lets_go_keeps said.0.saved c.args.class (to_z w64 (of_z w64 c.args.notice)) s c.let_go.new.state c.let_go.result (c.let_go.ensures said.0 said.1)).0 in
    omega (arith, same, c.requires.ticks)

pub fault_of_event-requires : goal.fault_of_event-requires
fault_of_event-requires c =
    let s = c.args.state.now in
    let said = got_at s.world.notices c.args.rank c.requires.goes.rank in
    let same = lets_go_not said.0.saved c.args.class (to_z w64 (of_z w64 c.args.notice)) s c.let_go.new.state c.in-Err.kind (c.in-Err.ensures said.0 said.1) in
    subst (λ (e : Seen). c.args.rank < length e.notices) (sym same) c.requires.goes.rank

pub returns-in-Ok-clause-state : goal.returns-in-Ok-clause-state
returns-in-Ok-clause-state c = λ said here.
    let n = c.args.notice in
    let same : to_z w64 (of_z w64 n) ≡ n = search rules in
    record {
      mid = c.let_go.new.state;
      answer = Ok tt;
      lets_go = subst (λ (z : ℤ). HasLetGo said.saved c.args.class z c.args.state.now c.let_go.new.state (Ok tt)) same (c.in-Ok.ensures said here);
      is = c.give_tick_back.ensures.state;
    }

pub returns-in-Err-clause-state : goal.returns-in-Err-clause-state
returns-in-Err-clause-state c = λ said here.
    let s = c.args.state.now in let n = c.args.notice in
    let same : to_z w64 (of_z w64 n) ≡ n = search rules in
    let world = lets_go_not said.saved c.args.class (to_z w64 (of_z w64 n)) s c.let_go.new.state c.in-Err.kind (c.in-Err.ensures said here) in
    record {
      mid = c.let_go.new.state;
      answer = Err c.in-Err.kind;
      lets_go = subst (λ (z : ℤ). HasLetGo said.saved c.args.class z s c.let_go.new.state (Err c.in-Err.kind)) same (c.in-Err.ensures said here);
      is = c.fault_of_event.ensures.state said (ap (λ (e : Seen). slice_get e.notices c.args.rank) world ∙ here);
    }
