-- `give_back` takes the block out of the store, and hands it to the allocator.
use Rattle.std.proofs.Common.{◌≡◌, ℕ, ◌*◌, ◌^◌, ◌<◌, List, [], ◌∷◌, ◌++◌, length, refl, sym, ap, subst, arith, lit<, w64}
use lib.Dec.{T}
use mir.Syntax.{Ty, Fn, ty_unit}
use mir.Val.{Val, vint, vptr, vunit, has_ty, WT}
use base.Logic.{SProp, emp, id⊢}
use base.Fml.{ftrue, flft, froom}
use prog.Capped.{capped_is}
use prog.Wp.{Env, WpFn}
use contract.Monad.{fact, fact_i}
use contract.Running.{tables}
use types.Kit.{‵, raw, ◌⊛◌, given, later, prop, at_ret, ◌$◌, ◌∵◌, !, qed, by, move, drop, use0, use1, group, split, split3, join, learn, rewrite, regoal, fsplit, fsplit3, fjoin, fjoin3, fpick, feq_i, feq_l, flt_l, await}
use types.Part.{whole, sub}
use types.Run.{stop, fld, lit, unit_lit, of_opd, bin, no_more, and_then, first, blocks, exec, returns, enter}
use types.ByLocal.{alloc_all, pass_all, free_all, look_at, get, get_in, sets, is, lands_last, env}
use denote.Exit.{yes}
use denote.RattleType.{owns}
use denote.Builtin.{usize, RefOf}
use denote.RawPtr.{Ptr, ptr_val, in_a_block}
use denote.Signature.{plain, types_at}
use denote.Steps.{nothing, heard, opens, closes}
use denote.Triple.Entry.{alive}
use denote.Triple.Call.{calls_at_last}
use denote.Triple.Table.{framed}
use denote.Triple.Walked.{Stays, stay_dropped, stay_ref, walk_of, Goes-dropped, Goes-ref}
use Rattle.std.proofs.raw_atomic.Walks.{proved_at, leaves}
use Rattle.std.proofs.alloc.Shapes.{after}
use Rattle.std.specs.declared.alloc.Global.{Global}
use Rattle.std.specs.contracts.alloc.Global as G
use Rattle.std.proofs.impls.GlobalAllocator.deallocate.Met.{met}
use Rattle.ss_records_blocks.specs.Cells.{Word, words_at, without_block}
use Rattle.ss_records_blocks.specs.Ownership.{words_own, block_type, deed_owns, store_owns}
use Rattle.ss_records_blocks.proofs.Cutting.{block_glue, store_leave, null_words}
use Rattle.ss_records_blocks.proofs.Calls.{Gives, at_gives, Gives-goes, Gives-gives}
use Rattle.ss_records_blocks.proofs.Values.{place_val, place_known, place_typed}
use Rattle.ss_records_blocks.specs.contracts.store.Store as S
use Rattle.ss_records_blocks.specs.contracts.store.BlockPlace as P
use Rattle.ss_records_blocks.specs.contracts.store.Store.give_back.{ended, clauses}
use Rattle.ss_records_blocks.specs.contracts.store.Store.give_back.Key.{name as #self}
use Rattle.ss_records_blocks.proofs.store.Store.give_back.Statement.{statement}
use Rattle.ss_records_blocks.proofs.store.Store.give_back.Code as compiled

abbrev stayed : Stays ended.signature.params ended.kept
stayed = (stay_ref (0 ∷ []) tt (plain (λ _. S.the_row)), (stay_dropped (RefOf (1 ∷ []) tt (plain (λ _. G.the_row)) (λ _. tt)) yes, (stay_dropped (plain (λ _. P.the_row)) yes, (stay_dropped (plain (λ _. usize)) yes, tt))))

pub give_back_spec : {M : Type 1} → statement M
give_back_spec 𝓤 𝓛 𝓜 𝓡 wired =
    let H = 𝓛.H in
    let c = clauses 𝓛 𝓜.mem 𝓡.returns in
    let fn : Fn = compiled.function in
    let C = (tables 𝓤 H 𝓜 𝓡 𝓡.env).C in
    let Λ = (tables 𝓤 H 𝓜 𝓡 𝓡.env).Λ in
    proved_at 𝓛 ended stayed c 𝓜 𝓡 (Goes-ref 𝓛 2 0 tt (plain (λ _. S.the_row)), (Goes-dropped 𝓛 2 (RefOf (1 ∷ []) tt (plain (λ _. G.the_row)) (λ _. tt)) yes (λ κs x f. refl), (Goes-dropped 𝓛 2 (plain (λ _. P.the_row)) yes (λ κs x f. refl), (Goes-dropped 𝓛 2 (plain (λ _. usize)) yes (λ κs x f. refl), tt))))
    #self fn (compiled.unfolded 𝓤 H 𝓜 𝓡 wired) (λ z are.
    let Post : Val → SProp 𝓤 = (walk_of 𝓛 ended stayed c).post z in
    let a = z.0.3 in let vss = z.0.4 in let κ = z.0.0.0 in let q = z.0.1.0 in let κ₁ = z.0.0.1.0 in let q₁ = z.0.1.1.0 in
    let b = a.0.ref_ptr.0 in let o = a.0.ref_ptr.1 in let d = a.0.now in let cs = d.cells in
    let h : Global = a.1.0.now in let at = a.1.0.ref_ptr in
    let p : Ptr = a.1.1.0.at in let place_is = place_known p vss.1.1.0 are.1.1.0 in
    let n = a.1.1.1.0 in let fn64 = are.1.1.1.0.1 in
    let ws : List Word = words_at cs p in
    let new : (S.the_row).Denot = record { cells = without_block cs p; total = d.total } in
    let Asked : Type 0 = (length ws ≡ n) × (0 < n) in
    let Given : Type 0 = (new.cells ≡ without_block cs p) × (new.total ≡ d.total) in
    qed 𝓛 ((raw (alive 𝓛 ended.signature z.0.0 z.0.1) ⊛ ‵ (owns (types_at ended.signature.params z.0.0) a vss)) ∷ raw (fact 𝓤 Asked) ∷ []) ∵
    move ! (1 ∷ []) $ heard ! Asked (λ asked. split ! $ use1 𝓛 (‵ (flft κ q) ⊛ ‵ (flft κ₁ q₁) ⊛ ‵ ftrue) (id⊢ 𝓤 _) $ split3 ! $ move ! (3 ∷ []) $ fsplit ! $ fsplit3 ! $ feq_l ! (λ e0. move ! (2 ∷ []) $ fsplit ! $ fsplit ! $ feq_l ! (λ e1. move ! (1 ∷ []) $ drop ! $
    -- [seen; obs; bor; token; token₁; true]
    regoal ! (λ (us : List Val). prop (WpFn 𝓤 H C Λ fn us Post)) (λ i. e0 i ++ (e1 i ++ (place_is i ++ (are.1.1.1.0.0 i ++ [])))) refl $
    enter ! C Λ fn (vptr b o ∷ vptr at.0 at.1 ∷ place_val p ∷ vint w64 n ∷ []) Post $
    alloc_all ! (λ l. pass_all ! refl ((tt, tt), ((tt, tt), (place_typed [] p, ((tt, record { fits = fn64 }), tt)))) $ let En : Env 𝓤 H = env fn.locals l in
    let some : 0 < length ws = subst (λ (k : ℕ). 0 < k) (sym asked.0) asked.1 in
    move ! (1 ∷ 2 ∷ 3 ∷ []) $ opens ! tt S.the_row b o (λ us. move ! (1 ∷ []) $ fsplit ! $ move ! (1 ∷ []) $
    use1 𝓛 (‵ (words_own p ws) ⊛ ‵ (deed_owns p (length ws)) ⊛ ‵ (store_owns (without_block cs p))) (store_leave 𝓛 cs p some) $ split3 ! $
    -- [words; deed; store; fields; cell; obor; obs; auth; seen; token₁; true]
    move ! (3 ∷ 2 ∷ []) $ fjoin ! $ move ! (3 ∷ 0 ∷ 4 ∷ 5 ∷ 6 ∷ []) $ closes ! tt S.the_row new us b o $ move ! (3 ∷ 4 ∷ []) $
    -- [words; deed; obs; bor; token; seen; token₁; true]
    in_a_block ! p (λ r. words_own r ws) (null_words 𝓛 ws some) (λ pb po ep.
    use1 𝓛 (‵ (froom (block_type (length ws)) pb po)) (block_glue 𝓛 ws pb po) $ rewrite ! 0 (λ (k : ℕ). ‵ (froom (block_type k) pb po)) asked.0 refl $
    rewrite ! 1 (λ (u : Ptr × ℕ). ‵ (deed_owns u.0 u.1)) (λ i. (ep i, asked.0 i)) refl $ move ! (1 ∷ []) $ fsplit ! $ fpick ! (λ g. move ! (1 ∷ []) $ flt_l ! (λ small.
    -- [deed; room; obs; bor; token; seen; token₁; true]
    let n64 : n * 8 < 2 ^ 64 = omega (arith, small) in
    let τ : Ty = block_type n in
    let y = at_gives 𝓛 𝓜.mem 𝓡.returns κ₁ q₁ at h pb po (n * 8) 8 τ in
    move ! (1 ∷ 0 ∷ 5 ∷ 6 ∷ []) $ group ! 4 $ use1 𝓛 (raw ((Gives 𝓛 𝓜.mem 𝓡.returns).pre y)) (Gives-goes 𝓛 𝓜.mem 𝓡.returns κ₁ q₁ at h pb po (n * 8) 8 τ (capped_is (n * 8) n64) refl n64 (lit< tt)) $
    sets ! (is ! (of_opd ! (get_in ! (fld ! refl (stop !)) (sub ! 0 refl (whole !)))) (ap ptr_val ep)) refl (tt, tt) $
    first ! $ blocks ! $
    sets ! (bin ! (get ! refl) (lit ! tt) (record { fits = n64 })) refl (tt, record { fits = n64 }) $
    calls_at_last ! (framed 𝓤 𝓛.H 𝓜 (tables 𝓤 𝓛.H 𝓜 𝓡 𝓡.env)) (Gives 𝓛 𝓜.mem 𝓡.returns) (met 𝓤 𝓛 𝓜 𝓡 (compiled.calls-std_heap::GlobalAllocator::deallocate 𝓡.env wired)) y (and_then ! (get ! refl) (and_then ! (get ! refl) (and_then ! (get ! refl) (and_then ! (lit ! tt) (no_more !))))) (λ v.
    use1 𝓛 (later (given (v ≡ vunit) (‵ (flft κ₁ q₁)))) (Gives-gives 𝓛 𝓜.mem 𝓡.returns κ₁ q₁ at h pb po (n * 8) 8 τ v) $ await ! tt $ learn ! (λ e.
    lands_last ! refl (subst (λ (u : Val). T (has_ty ty_unit u) × WT u) (sym e) (tt, tt)) $ exec ! C Λ En (after 2 fn.body) (at_ret En Post) $
    sets ! (of_opd ! (unit_lit !)) refl (tt, tt) $
    returns ! (look_at ! 0 refl) $ free_all ! refl $
    -- [token₁; obs; bor; token; true]
    move ! (1 ∷ 2 ∷ 3 ∷ []) $
    feq_i ! (List Val) vss.0 (vptr b o ∷ []) e0 $ fjoin3 ! $ nothing ! $ nothing ! $ fjoin ! $ nothing ! $ fjoin ! $ nothing ! $ fjoin ! $ move ! (1 ∷ 0 ∷ []) $ fjoin ! $
    move ! (2 ∷ 3 ∷ []) $ join ! $ move ! (2 ∷ 0 ∷ []) $ join ! $
    use0 𝓛 (raw (fact 𝓤 Given)) (fact_i 𝓤 Given (emp 𝓤) (refl, refl)) $ feq_i ! (List Val) (vunit ∷ []) (vunit ∷ []) refl $
    move ! (2 ∷ 3 ∷ 0 ∷ 1 ∷ []) $ by ! (leaves 𝓛 ended stayed c z vunit tt (new, (tt, (tt, (tt, tt)))) (tt, (tt, (tt, (tt, tt))))))))))))))))
