-- `number` reads a word through a `&` to the store.
use Rattle.std.proofs.Common.{◌≡◌, ◌+◌, ◌*◌, ◌^◌, ◌<◌, List, [], ◌∷◌, ◌++◌, refl, ap, arith, w64}
use mir.Syntax.{Fn}
use mir.Val.{Val, vint, vptr}
use base.Logic.{SProp, emp, id⊢, never, fst∗}
use base.Fml.{ftrue, flft}
use prog.Wp.{Env, WpFn}
use contract.Monad.{fact, fact_i}
use contract.Running.{tables}
use types.Logic.{sem}
use types.Kit.{‵, raw, ◌⊛◌, prop, at_ret, ◌$◌, ◌∵◌, !, qed, by, move, drop, use0, use1, split, join, rewrite, regoal, fsplit, fjoin, feq_i, feq_l, flt_i}
use types.Part.{whole, sub}
use types.Run.{stop, fld, lit, of_opd, bin, look, load, first, blocks, exec, returns, enter}
use types.ByLocal.{alloc_all, pass_all, free_all, look_at, get, get_in, through, sets, sets_last, is, env}
use denote.Exit.{yes}
use denote.RattleType.{owns}
use denote.Builtin.{u64, usize, RefOf}
use denote.Memory.{shared_of}
use denote.RawPtr.{Ptr, ptr_val, in_a_block}
use denote.Signature.{plain, types_at}
use denote.Opens.{hide, unhide}
use denote.Steps.{nothing, heard}
use denote.Struct.Lending.{lent_at}
use denote.Triple.Entry.{alive}
use denote.Triple.Walked.{Stays, stay_dropped, walk_of, Goes-dropped}
use Rattle.std.proofs.raw_atomic.Walks.{proved_at, leaves}
use Rattle.std.proofs.VecSteps.Shapes.{after}
use Rattle.ss_records_blocks.specs.Cells.{Word, number, IsNumber, words_at, word_at}
use Rattle.ss_records_blocks.specs.Ownership.{word_lent}
use Rattle.ss_records_blocks.proofs.Memory.{word_ptr}
use Rattle.ss_records_blocks.proofs.Numbers.{number_inside, is_number}
use Rattle.ss_records_blocks.proofs.Sharing.{store_see, lent_knows, peer_in, peer_out}
use Rattle.ss_records_blocks.proofs.Values.{place_val, place_known, place_typed}
use Rattle.ss_records_blocks.specs.contracts.store.Store as S
use Rattle.ss_records_blocks.specs.contracts.store.BlockPlace as P
use Rattle.ss_records_blocks.specs.contracts.store.Store.number.{ended, clauses}
use Rattle.ss_records_blocks.specs.contracts.store.Store.number.Key.{name as #self}
use Rattle.ss_records_blocks.proofs.store.Store.number.Statement.{statement}
use Rattle.ss_records_blocks.proofs.store.Store.number.Code as compiled

abbrev stayed : Stays ended.signature.params ended.kept
stayed = (stay_dropped (RefOf (0 ∷ []) tt (plain (λ _. S.the_row)) (λ _. tt)) yes, (stay_dropped (plain (λ _. P.the_row)) yes, (stay_dropped (plain (λ _. usize)) yes, tt)))

pub number_spec : {M : Type 1} → statement M
number_spec 𝓤 𝓛 𝓜 𝓡 wired =
    let H = 𝓛.H in
    let c = clauses 𝓛 𝓜.mem 𝓡.returns in
    let fn : Fn = compiled.function in
    let C = (tables 𝓤 H 𝓜 𝓡 𝓡.env).C in
    let Λ = (tables 𝓤 H 𝓜 𝓡 𝓡.env).Λ in
    proved_at 𝓛 ended stayed c 𝓜 𝓡 (Goes-dropped 𝓛 1 (RefOf (0 ∷ []) tt (plain (λ _. S.the_row)) (λ _. tt)) yes (λ κs x f. refl), (Goes-dropped 𝓛 1 (plain (λ _. P.the_row)) yes (λ κs x f. refl), (Goes-dropped 𝓛 1 (plain (λ _. usize)) yes (λ κs x f. refl), tt)))
    #self fn (compiled.unfolded 𝓤 H 𝓜 𝓡 wired) (λ z are.
    let Post : Val → SProp 𝓤 = (walk_of 𝓛 ended stayed c).post z in
    let a = z.0.3 in let vss = z.0.4 in let κ = z.0.0.0 in let q = z.0.1.0 in
    let b = a.0.ref_ptr.0 in let o = a.0.ref_ptr.1 in let cs = a.0.now.cells in
    let p : Ptr = a.1.0.at in let k = a.1.1.0 in
    let fk = are.1.1.0.1 in let place_is = place_known p vss.1.0 are.1.0 in
    let w : Word = word_at cs p k in
    let Asked : Type 0 = IsNumber w in
    qed 𝓛 ((raw (alive 𝓛 ended.signature z.0.0 z.0.1) ⊛ ‵ (owns (types_at ended.signature.params z.0.0) a vss)) ∷ raw (fact 𝓤 Asked) ∷ []) ∵
    move ! (1 ∷ []) $ heard ! Asked (λ asked. split ! $ use1 𝓛 (‵ (flft κ q) ⊛ ‵ ftrue) (id⊢ 𝓤 _) $ split ! $ move ! (2 ∷ []) $ fsplit ! $ fsplit ! $ feq_l ! (λ e0. move ! (1 ∷ []) $ drop ! $
    -- [the store, shared; token; true]
    let found = is_number w asked in let x = found.0 in let inside = number_inside (words_at cs p) k asked in
    let Gives : Type 0 = w ≡ number x in
    regoal ! (λ (us : List Val). prop (WpFn 𝓤 H C Λ fn us Post)) (λ i. e0 i ++ (place_is i ++ (are.1.1.0.0 i ++ []))) refl $
    enter ! C Λ fn (vptr b o ∷ place_val p ∷ vint w64 k ∷ []) Post $
    alloc_all ! (λ l. pass_all ! refl ((tt, tt), (place_typed [] p, ((tt, record { fits = fk }), tt))) $ let En : Env 𝓤 H = env fn.locals l in
    unhide ! $ fsplit ! $ drop ! $ lent_knows ! κ cs p (λ small.
    let offset : k * 8 < 2 ^ 64 = omega (arith, inside, small) in
    use1 𝓛 (‵ (word_lent (word_ptr p k) w κ)) (store_see 𝓛 κ cs p k inside) $ rewrite ! 0 (λ (u : Word). ‵ (word_lent (word_ptr p k) u κ)) found.1 refl $
    in_a_block ! p (λ r. lent_at u64 (word_ptr r k) x κ) (fst∗ 𝓤 (never 𝓤) (sem 𝓛 (shared_of u64 x 0 0 κ))) (λ pb po ep. fsplit ! $ drop ! $ hide ! $
    peer_in ! tt x pb (k * 8 + po) (λ part fx.
    sets ! (is ! (of_opd ! (get_in ! (fld ! refl (stop !)) (sub ! 0 refl (whole !)))) (ap ptr_val ep)) refl (tt, tt) $
    first ! $ blocks ! $
    sets ! (bin ! (get ! refl) (lit ! tt) (record { fits = offset })) refl (tt, record { fits = offset }) $
    sets ! (bin ! (get ! refl) (get ! refl) tt) refl (tt, tt) $
    sets_last ! (of_opd ! (load ! (through ! refl (stop !)) (look ! 0 refl))) refl (tt, record { fits = fx }) $
    exec ! C Λ En (after 2 fn.body) (at_ret En Post) $
    sets ! (of_opd ! (get ! refl)) refl (tt, record { fits = fx }) $ peer_out ! tt x pb (k * 8 + po) fx $
    returns ! (look_at ! 0 refl) $ free_all ! refl $
    -- [token; true]
    join ! $ nothing ! $ nothing ! $ fjoin ! $ nothing ! $ fjoin ! $ nothing ! $ fjoin ! $
    use0 𝓛 (raw (fact 𝓤 Gives)) (fact_i 𝓤 Gives (emp 𝓤) found.1) $ flt_i ! x (2 ^ 64) fx $ feq_i ! (List Val) (vint w64 x ∷ []) (vint w64 x ∷ []) refl $ fjoin ! $
    move ! (3 ∷ 2 ∷ 0 ∷ 1 ∷ []) $ by ! (leaves 𝓛 ended stayed c z (vint w64 x) x (tt, (tt, (tt, tt))) (tt, (tt, (tt, tt)))))))))))
