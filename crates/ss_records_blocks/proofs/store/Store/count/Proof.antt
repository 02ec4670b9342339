-- `count` takes the word out of the store, reads it, and puts it back.
use Rattle.std.proofs.Common.{◌≡◌, ◌+◌, ◌*◌, ◌^◌, ◌<◌, List, [], ◌∷◌, ◌++◌, refl, sym, ap, arith, w64}
use base.Fraction.{full_share}
use mir.Syntax.{Fn, ty_int}
use mir.Val.{Val, vint, vptr}
use base.Logic.{SProp, emp, wand, id⊢, apply∗}
use base.Fml.{ftrue, flft, fat}
use prog.Wp.{Env, WpFn}
use contract.Monad.{fact, fact_i}
use contract.Running.{tables}
use types.Logic.{sem}
use types.Kit.{‵, raw, ◌⊛◌, prop, at_ret, ◌$◌, ◌∵◌, !, qed, by, move, drop, use0, use1, use2, split, join, rewrite, regoal, fsplit, fsplit3, fjoin, fjoin3, feq_i, feq_l, flt_i}
use types.Part.{whole, sub}
use types.Run.{stop, fld, lit, of_opd, bin, look, load, first, blocks, exec, returns, enter, well_typed}
use types.ByLocal.{alloc_all, pass_all, free_all, look_at, get, get_in, through, sets, sets_last, is, env}
use denote.Exit.{yes}
use denote.RattleType.{owns}
use denote.Builtin.{usize}
use denote.Plain.{uint_in, uint_out}
use denote.RawPtr.{Ptr, block_ptr, ptr_val, in_a_block}
use denote.Signature.{plain, types_at}
use denote.Steps.{nothing, heard, opens, closes}
use denote.Triple.Entry.{alive}
use denote.Triple.Walked.{Stays, stay_dropped, stay_ref, walk_of, Goes-dropped, Goes-ref}
use Rattle.std.proofs.raw_atomic.Walks.{proved_at, leaves}
use Rattle.std.proofs.VecSteps.Shapes.{after}
use Rattle.ss_records_blocks.specs.Cells.{Word, Cells, counter, IsCounter, words_at, word_at, put_word}
use Rattle.ss_records_blocks.specs.Ownership.{word_owns, store_owns}
use Rattle.ss_records_blocks.proofs.Memory.{word_ptr, store_take, store_knows, null_word}
use Rattle.ss_records_blocks.proofs.Numbers.{counter_inside, is_counter, put_seen}
use Rattle.ss_records_blocks.proofs.Values.{place_val, place_known, place_typed}
use Rattle.ss_records_blocks.specs.contracts.store.Store as S
use Rattle.ss_records_blocks.specs.contracts.store.BlockPlace as P
use Rattle.ss_records_blocks.specs.contracts.store.Store.count.{ended, clauses}
use Rattle.ss_records_blocks.specs.contracts.store.Store.count.Key.{name as #self}
use Rattle.ss_records_blocks.proofs.store.Store.count.Statement.{statement}
use Rattle.ss_records_blocks.proofs.store.Store.count.Code as compiled

abbrev stayed : Stays ended.signature.params ended.kept
stayed = (stay_ref (0 ∷ []) tt (plain (λ _. S.the_row)), (stay_dropped (plain (λ _. P.the_row)) yes, (stay_dropped (plain (λ _. usize)) yes, tt)))

pub count_spec : {M : Type 1} → statement M
count_spec 𝓤 𝓛 𝓜 𝓡 wired =
    let H = 𝓛.H in
    let c = clauses 𝓛 𝓜.mem 𝓡.returns in
    let fn : Fn = compiled.function in
    let t = tables 𝓤 H 𝓜 𝓡 𝓡.env in
    proved_at 𝓛 ended stayed c 𝓜 𝓡 (Goes-ref 𝓛 1 0 tt (plain (λ _. S.the_row)), (Goes-dropped 𝓛 1 (plain (λ _. P.the_row)) yes (λ κs x f. refl), (Goes-dropped 𝓛 1 (plain (λ _. usize)) yes (λ κs x f. refl), tt)))
    #self fn (compiled.unfolded 𝓤 H 𝓜 𝓡 wired) (λ z are.
    let Post : Val → SProp 𝓤 = (walk_of 𝓛 ended stayed c).post z in
    let a = z.0.3 in let vss = z.0.4 in let κ = z.0.0.0 in let q = z.0.1.0 in
    let b = a.0.ref_ptr.0 in let o = a.0.ref_ptr.1 in let h = a.0.now in let cs = h.cells in
    let p : Ptr = a.1.0.at in let k = a.1.1.0 in
    let fk = are.1.1.0.1 in let place_is = place_known p vss.1.0 are.1.0 in
    let w : Word = word_at cs p k in
    let Asked : Type 0 = IsCounter w in
    let new : (S.the_row).Denot = record { cells = cs; total = (h.total + 1) } in
    qed 𝓛 ((raw (alive 𝓛 ended.signature z.0.0 z.0.1) ⊛ ‵ (owns (types_at ended.signature.params z.0.0) a vss)) ∷ raw (fact 𝓤 Asked) ∷ []) ∵
    move ! (1 ∷ []) $ heard ! Asked (λ asked. split ! $ use1 𝓛 (‵ (flft κ q) ⊛ ‵ ftrue) (id⊢ 𝓤 _) $ split ! $ move ! (2 ∷ []) $ fsplit ! $ fsplit3 ! $ feq_l ! (λ e0. move ! (2 ∷ []) $ drop ! $
    let found = is_counter w asked in let x = found.0 in let inside = counter_inside (words_at cs p) k asked in
    let Gives : Type 0 = (w ≡ counter x) × (new.cells ≡ cs) × (new.total ≡ h.total + 1) in
    regoal ! (λ (us : List Val). prop (WpFn 𝓤 H t.C t.Λ fn us Post)) (λ i. e0 i ++ (place_is i ++ (are.1.1.0.0 i ++ []))) refl $
    enter ! t.C t.Λ fn (vptr b o ∷ place_val p ∷ vint w64 k ∷ []) Post $
    alloc_all ! (λ l. pass_all ! refl ((tt, tt), (place_typed [] p, ((tt, record { fits = fk }), tt))) $ let En : Env 𝓤 H = env fn.locals l in
    opens ! tt S.the_row b o (λ us. move ! (1 ∷ []) $ fsplit ! $ move ! (1 ∷ []) $
    -- [the store; the fields; the cell; ..]
    store_knows ! cs p (λ small.
    let offset : k * 8 < 2 ^ 64 = omega (arith, inside, small) in
    use1 𝓛 (‵ (word_owns (word_ptr p k) w) ⊛ raw (wand 𝓤 (sem 𝓛 (word_owns (word_ptr p k) (counter x))) (sem 𝓛 (store_owns (put_word cs p k (counter x)))))) (store_take 𝓛 cs p k (counter x) inside) $ split ! $
    in_a_block ! p (λ r. word_owns (word_ptr r k) w) (null_word 𝓛 w) (λ pb po ep.
    rewrite ! 0 (λ (u : Word). ‵ (word_owns (word_ptr (block_ptr pb po) k) u)) found.1 refl $ use1 𝓛 (‵ (fat full_share (ty_int w64) pb (k * 8 + po) (vint w64 x))) (uint_out 𝓛 full_share w64 x pb (k * 8 + po)) $ well_typed ! (λ good.
    sets ! (is ! (of_opd ! (get_in ! (fld ! refl (stop !)) (sub ! 0 refl (whole !)))) (ap ptr_val ep)) refl (tt, tt) $
    first ! $ blocks ! $
    sets ! (bin ! (get ! refl) (lit ! tt) (record { fits = offset })) refl (tt, record { fits = offset }) $
    sets ! (bin ! (get ! refl) (get ! refl) tt) refl (tt, tt) $
    sets_last ! (of_opd ! (load ! (through ! refl (stop !)) (look ! 0 refl))) refl good $
    exec ! t.C t.Λ En (after 2 fn.body) (at_ret En Post) $
    sets ! (of_opd ! (get ! refl)) refl good $
    use1 𝓛 (‵ (word_owns (word_ptr (block_ptr pb po) k) (counter x))) (uint_in 𝓛 full_share w64 x pb (k * 8 + po)) $
    rewrite ! 0 (λ (r : Ptr). ‵ (word_owns (word_ptr r k) (counter x))) (sym ep) refl $
    use2 𝓛 (‵ (store_owns (put_word cs p k (counter x)))) (apply∗ 𝓤 (sem 𝓛 (word_owns (word_ptr p k) (counter x))) (sem 𝓛 (store_owns (put_word cs p k (counter x))))) $
    rewrite ! 0 (λ (ds : Cells). ‵ (store_owns ds)) (put_seen cs p k (counter x) found.1) refl $
    move ! (1 ∷ 0 ∷ []) $ fjoin ! $ move ! (1 ∷ 0 ∷ []) $ closes ! tt S.the_row new us b o $
    returns ! (look_at ! 0 refl) $ free_all ! refl $
    -- [obs; bor; token; true]
    feq_i ! (List Val) vss.0 (vptr b o ∷ []) e0 $ fjoin3 ! $ nothing ! $ nothing ! $ fjoin ! $ nothing ! $ fjoin ! $ move ! (1 ∷ 0 ∷ []) $ fjoin ! $
    move ! (1 ∷ 2 ∷ []) $ join ! $ use0 𝓛 (raw (fact 𝓤 Gives)) (fact_i 𝓤 Gives (emp 𝓤) (found.1, refl, refl)) $ flt_i ! x (2 ^ 64) good.1.fits $ feq_i ! (List Val) (vint w64 x ∷ []) (vint w64 x ∷ []) refl $ fjoin ! $
    move ! (2 ∷ 3 ∷ 0 ∷ 1 ∷ []) $ by ! (leaves 𝓛 ended stayed c z (vint w64 x) x (new, (tt, (tt, tt))) (tt, (tt, (tt, tt))))))))))))
