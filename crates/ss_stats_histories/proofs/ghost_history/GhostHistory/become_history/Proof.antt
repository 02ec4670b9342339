-- `become_history` sets the ghost field.
use Rattle.std.proofs.Common.{◌≡◌, List, [], ◌∷◌, ◌++◌, refl, w64, of_z}
use mir.Syntax.{Fn}
use mir.Val.{Val, vptr, vint, vunit}
use mir.ValLaws.{of_z_fits}
use base.Logic.{SProp, emp, id⊢}
use base.Fml.{ftrue, flft}
use prog.Wp.{Env, WpFn}
use contract.Monad.{fact, fact_i}
use contract.Running.{tables}
use types.Kit.{‵, raw, ◌⊛◌, prop, ◌$◌, ◌∵◌, !, qed, by, move, drop, use0, use1, split, join, regoal, fsplit, fsplit3, fjoin, fjoin3, feq_i, feq_l}
use types.Run.{unit_lit, of_opd, returns, enter}
use types.ByLocal.{alloc_all, pass_all, free_all, look_at, sets, env}
use denote.RattleType.{owns}
use denote.Signature.{plain, types_at}
use denote.Steps.{nothing, opens, closes}
use denote.Triple.Entry.{alive}
use denote.Triple.Walked.{Stays, stay_ref, stay_dropped, walk_of, Goes-ref, Goes-dropped}
use denote.Builtin.{i64}
use denote.Exit.{yes}
use Rattle.std.proofs.raw_atomic.Walks.{proved_at, leaves}
use Rattle.ss_stats_histories.specs.contracts.ghost_history.GhostHistory as S
use Rattle.ss_stats_histories.specs.contracts.ghost_history.GhostHistory.become_history.{ended, clauses}
use Rattle.ss_stats_histories.specs.contracts.ghost_history.GhostHistory.become_history.Key.{name as #self}
use Rattle.ss_stats_histories.proofs.ghost_history.GhostHistory.become_history.Statement.{statement}
use Rattle.ss_stats_histories.proofs.ghost_history.GhostHistory.become_history.Code as compiled

abbrev stayed : Stays ended.signature.params ended.kept
stayed = (stay_ref (0 ∷ []) tt (plain (λ _. S.the_row)), (stay_dropped (plain (λ _. i64)) yes, (stay_dropped (plain (λ _. i64)) yes, tt)))

pub become_history_spec : {M : Type 1} → statement M
become_history_spec 𝓤 𝓛 𝓜 𝓡 wired =
    let H = 𝓛.H in
    let c = clauses 𝓛 𝓜.mem 𝓡.returns in
    let fn : Fn = compiled.function in
    let C = (tables 𝓤 H 𝓜 𝓡 𝓡.env).C in
    let Λ = (tables 𝓤 H 𝓜 𝓡 𝓡.env).Λ in
    proved_at 𝓛 ended stayed c 𝓜 𝓡 (Goes-ref 𝓛 1 0 tt (plain (λ _. S.the_row)), (Goes-dropped 𝓛 1 (plain (λ _. i64)) yes (λ κs x f. refl), (Goes-dropped 𝓛 1 (plain (λ _. i64)) yes (λ κs x f. refl), tt)))
    #self fn (compiled.unfolded 𝓤 H 𝓜 𝓡 wired) (λ z are.
    let Post : Val → SProp 𝓤 = (walk_of 𝓛 ended stayed c).post z in
    let a = z.0.3 in let vss = z.0.4 in let κ = z.0.0.0 in let q = z.0.1.0 in
    let b = a.0.ref_ptr.0 in let at = a.0.ref_ptr.1 in
    let ms = a.1.0 in let fs = are.1.0.1 in let mo = a.1.1.0 in let fo = are.1.1.0.1 in
    let new : (S.the_row).Denot = record { history = z.1 } in
    let Given : Type 0 = new.history ≡ z.1 in
    qed 𝓛 ((raw (alive 𝓛 ended.signature z.0.0 z.0.1) ⊛ ‵ (owns (types_at ended.signature.params z.0.0) a vss)) ∷ ‵ ftrue ∷ []) ∵
    move ! (1 ∷ []) $ drop ! $ split ! $ use1 𝓛 (‵ (flft κ q) ⊛ ‵ ftrue) (id⊢ 𝓤 _) $ split ! $ move ! (2 ∷ []) $ fsplit ! $ fsplit3 ! $ feq_l ! (λ e0. move ! (2 ∷ []) $ drop ! $
    regoal ! (λ (us : List Val). prop (WpFn 𝓤 H C Λ fn us Post)) (λ i. e0 i ++ (are.1.0.0 i ++ (are.1.1.0.0 i ++ []))) refl $
    enter ! C Λ fn (vptr b at ∷ vint w64 (of_z w64 ms) ∷ vint w64 (of_z w64 mo) ∷ []) Post $
    alloc_all ! (λ l. pass_all ! refl ((tt, tt), ((tt, of_z_fits w64 ms (record { sfits = fs })), ((tt, of_z_fits w64 mo (record { sfits = fo })), tt))) $ let En : Env 𝓤 H = env fn.locals l in
    opens ! tt S.the_row b at (λ us. closes ! tt S.the_row new us b at $
    sets ! (of_opd ! (unit_lit !)) refl (tt, tt) $
    returns ! (look_at ! 0 refl) $ free_all ! refl $
    feq_i ! (List Val) vss.0 (vptr b at ∷ []) e0 $ fjoin3 ! $ nothing ! $ nothing ! $ fjoin ! $ nothing ! $ fjoin ! $ move ! (1 ∷ 0 ∷ []) $ fjoin ! $
    move ! (1 ∷ 2 ∷ []) $ join ! $ use0 𝓛 (raw (fact 𝓤 Given)) (fact_i 𝓤 Given (emp 𝓤) refl) $ feq_i ! (List Val) (vunit ∷ []) (vunit ∷ []) refl $
    move ! (2 ∷ 3 ∷ 0 ∷ 1 ∷ []) $ by ! (leaves 𝓛 ended stayed c z vunit tt (new, (tt, (tt, tt))) (tt, (tt, (tt, tt))))))))
