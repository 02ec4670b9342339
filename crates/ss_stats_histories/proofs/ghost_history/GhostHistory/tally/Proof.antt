-- `tally` is a history without a value.
use Rattle.std.proofs.Common.{◌≡◌, [], ◌∷◌, refl}
use mir.Syntax.{Fn}
use mir.Val.{Val, vstruct, vnil}
use base.Logic.{SProp, emp}
use base.Fml.{ftrue}
use prog.Wp.{Env}
use contract.Monad.{fact, fact_i}
use contract.Running.{tables}
use types.Kit.{‵, raw, ◌⊛◌, ◌$◌, ◌∵◌, !, qed, by, move, drop, use0, split, fjoin}
use types.Part.{agg}
use types.Run.{no_more, returns, enter}
use types.ByLocal.{alloc_all, pass_all, free_all, look_at, sets, env}
use denote.RattleType.{owns}
use denote.Signature.{types_at}
use denote.Steps.{nothing}
use denote.Triple.Entry.{alive}
use denote.Triple.Walked.{Stays, walk_of}
use Rattle.std.proofs.raw_atomic.Walks.{proved_at, leaves}
use Rattle.ss_stats.specs.History.{Tally}
use Rattle.ss_stats_histories.proofs.Values.{plainly, none_made}
use Rattle.ss_stats_histories.specs.contracts.ghost_history.GhostHistory as S
use Rattle.ss_stats_histories.specs.contracts.ghost_history.GhostHistory.tally.{ended, clauses}
use Rattle.ss_stats_histories.specs.contracts.ghost_history.GhostHistory.tally.Key.{name as #self}
use Rattle.ss_stats_histories.proofs.ghost_history.GhostHistory.tally.Statement.{statement}
use Rattle.ss_stats_histories.proofs.ghost_history.GhostHistory.tally.Code as compiled

abbrev stayed : Stays ended.signature.params ended.kept
stayed = tt

pub tally_spec : {M : Type 1} → statement M
tally_spec 𝓤 𝓛 𝓜 𝓡 wired =
    let H = 𝓛.H in
    let c = clauses 𝓛 𝓜.mem 𝓡.returns in
    let fn : Fn = compiled.function in
    let C = (tables 𝓤 H 𝓜 𝓡 𝓡.env).C in
    let Λ = (tables 𝓤 H 𝓜 𝓡 𝓡.env).Λ in
    proved_at 𝓛 ended stayed c 𝓜 𝓡 tt #self fn (compiled.unfolded 𝓤 H 𝓜 𝓡 wired) (λ z are.
    let Post : Val → SProp 𝓤 = (walk_of 𝓛 ended stayed c).post z in
    let new : (S.the_row).Denot = record { history = Tally [] } in
    let Given : Type 0 = new.history ≡ Tally [] in
    qed 𝓛 ((raw (alive 𝓛 ended.signature z.0.0 z.0.1) ⊛ ‵ (owns (types_at ended.signature.params z.0.0) z.0.3 z.0.4)) ∷ ‵ ftrue ∷ []) ∵
    move ! (1 ∷ []) $ drop ! $ split ! $
    enter ! C Λ fn [] Post $ alloc_all ! (λ l. pass_all ! refl tt $ let En : Env 𝓤 H = env fn.locals l in
    sets ! (agg ! (no_more !)) refl (tt, tt) $ returns ! (look_at ! 0 refl) $ free_all ! refl $
    -- [tokens; nothing]
    use0 𝓛 (raw (fact 𝓤 Given)) (fact_i 𝓤 Given (emp 𝓤) refl) $ nothing ! $
    use0 𝓛 (‵ ((plainly []).own_val tt (vstruct vnil ∷ []))) (none_made 𝓛) $ fjoin ! $
    move ! (2 ∷ 3 ∷ 0 ∷ 1 ∷ []) $ by ! (leaves 𝓛 ended stayed c z (vstruct vnil) new tt tt)))
