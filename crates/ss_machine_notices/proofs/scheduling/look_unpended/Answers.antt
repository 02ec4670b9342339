use Rattle.std.proofs.Common.{rules, ◌≡◌, ℤ, Bool, Ok, Err, ap, sym, ◌∙◌, subst, to_z, of_z, w64}
use Rattle.std.specs.Prelude.{Result as OkOr, if◌then◌else◌}
use Rattle.ss_machine_notices.proofs.Common.{AlreadyScheduled, and_then, FaultKind, is_pending, known_in, Seen}
use Rattle.ss_machine_notices.proofs.scheduling.look_unpended.Goals as goal

-- what is left to see once the notice is there
abbrev rest : (b : Bool) → OkOr (Unit {0}) FaultKind
rest b = if b then Err AlreadyScheduled else Ok tt

pub returns-in-Err : goal.returns-in-Err
returns-in-Err c =
    let class = c.args.class in let n = c.args.notice in let e = c.args.world.now in
    let same : to_z w64 (of_z w64 n) ≡ n = search rules in
    let is = subst (λ (v : Seen). Err c.in-Err.kind ≡ known_in v.heap class n) c.world.view_is (subst (λ (z : ℤ). Err c.in-Err.kind ≡ known_in c.world.inside.population class z) same c.in-Err.ensures) in
    ap (λ k. and_then k (λ u. rest (is_pending n e.pending.entries))) is

pub returns-then-is_scheduled : goal.returns-then-is_scheduled
returns-then-is_scheduled c =
    let class = c.args.class in let n = c.args.notice in let e = c.args.world.now in
    let same : to_z w64 (of_z w64 n) ≡ n = search rules in
    let is = subst (λ (v : Seen). Ok tt ≡ known_in v.heap class n) c.world.view_is (subst (λ (z : ℤ). Ok tt ≡ known_in c.world.inside.population class z) same c.in-Ok.ensures) in
    let pending = subst (λ (v : Seen). c.is_scheduled.result ≡ is_pending n v.pending.entries) c.world.view_is (subst (λ (z : ℤ). c.is_scheduled.result ≡ is_pending z c.world.inside.timeline.pending.entries) same c.is_scheduled.ensures) in
    ap rest (sym (sym pending ∙ c.if-is_scheduled.true)) ∙ ap (λ k. and_then k (λ u. rest (is_pending n e.pending.entries))) is

pub returns-else-is_scheduled : goal.returns-else-is_scheduled
returns-else-is_scheduled c =
    let class = c.args.class in let n = c.args.notice in let e = c.args.world.now in
    let same : to_z w64 (of_z w64 n) ≡ n = search rules in
    let is = subst (λ (v : Seen). Ok tt ≡ known_in v.heap class n) c.world.view_is (subst (λ (z : ℤ). Ok tt ≡ known_in c.world.inside.population class z) same c.in-Ok.ensures) in
    let pending = subst (λ (v : Seen). c.is_scheduled.result ≡ is_pending n v.pending.entries) c.world.view_is (subst (λ (z : ℤ). c.is_scheduled.result ≡ is_pending z c.world.inside.timeline.pending.entries) same c.is_scheduled.ensures) in
    ap rest (sym (sym pending ∙ c.if-is_scheduled.false)) ∙ ap (λ k. and_then k (λ u. rest (is_pending n e.pending.entries))) is
