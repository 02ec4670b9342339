-- `place` asks the allocator for a block, and adds it to the store with blank words.
use Rattle.std.proofs.Common.{◌≡◌, ℕ, ◌*◌, ◌^◌, ◌<◌, List, [], ◌∷◌, ◌++◌, refl, sym, arith, lit<, w64, Ok, Err, true, false}
use mir.Syntax.{Ty, Fn}
use mir.Val.{Val, vint, vptr, vstruct, vcons, vnil}
use base.Logic.{SProp, emp, id⊢}
use base.Fml.{ftrue, flft}
use prog.Capped.{capped_is}
use prog.Wp.{Env, WpFn}
use contract.Monad.{fact, fact_i}
use contract.Running.{tables}
use types.Kit.{‵, raw, ◌⊛◌, later, prop, at_ret, ◌$◌, ◌∵◌, !, qed, by, move, drop, use0, use1, use2, split, split3, join, rewrite, regoal, fsplit, fsplit3, fjoin, fjoin3, fpack, feq_i, feq_l, flt_i, await}
use types.Part.{whole, agg}
use types.Match.{live, vrt, in_variant}
use types.Run.{stop, fld, lit, of_opd, bin, no_more, and_then, first, switches_on, exec, returns, enter}
use types.ByLocal.{alloc_all, pass_all, free_all, look_at, get, get_in, get_tag, sets, sets_last, lands_as, env}
use denote.Exit.{yes}
use denote.RattleType.{RattleType, owns}
use denote.Builtin.{usize, RefOf}
use denote.Laws.{Is}
use denote.RawPtr.{Ptr, block_ptr}
use denote.Signature.{plain, types_at, type_at}
use denote.Steps.{nothing, heard, opens, closes, owned}
use denote.Struct.Struct.{Struct, Struct-Makes}
use denote.Struct.Declared as Declared
use denote.Triple.Entry.{alive}
use denote.Triple.Call.{calls_at}
use denote.Triple.Table.{framed}
use denote.Triple.Walked.{Stays, stay_dropped, stay_ref, walk_of, Goes-dropped, Goes-ref}
use Rattle.std.proofs.raw_atomic.Walks.{proved_at, leaves}
use Rattle.std.proofs.alloc.Shapes.{after, head, arm_body}
use Rattle.std.proofs.alloc.Calls.{Answer-typed}
use Rattle.std.proofs.ResultValues.{ok_of, err_of}
use Rattle.std.specs.declared.alloc.Global.{Global}
use Rattle.std.specs.contracts.alloc.Global as G
use Rattle.std.specs.contracts.alloc.AllocError as AE
use Rattle.std.proofs.impls.GlobalAllocator.allocate.Met.{met}
use Rattle.ss_records_blocks.specs.Cells.{words_at, blanks}
use Rattle.ss_records_blocks.specs.Ownership.{words_own, block_type, deed_owns}
use Rattle.ss_records_blocks.proofs.Cutting.{block_cut, blanks_fresh, knows}
use Rattle.ss_records_blocks.proofs.Puts.{length-blanks}
use Rattle.ss_records_blocks.proofs.Calls.{token, Takes, at_takes, Answered, Takes-goes, Takes-gives, answers}
use Rattle.ss_records_blocks.proofs.Values.{place_val, place_made, then_runs}
use Rattle.ss_records_blocks.specs.contracts.store.Store as S
use Rattle.ss_records_blocks.specs.contracts.store.BlockPlace as P
use Rattle.ss_records_blocks.specs.contracts.store.Store.place.{ended, clauses}
use Rattle.ss_records_blocks.specs.contracts.store.Store.place.Key.{name as #self}
use Rattle.ss_records_blocks.proofs.store.Store.place.Statement.{statement}
use Rattle.ss_records_blocks.proofs.store.Store.place.Code as compiled

abbrev stayed : Stays ended.signature.params ended.kept
stayed = (stay_ref (0 ∷ []) tt (plain (λ _. S.the_row)), (stay_dropped (RefOf (1 ∷ []) tt (plain (λ _. G.the_row)) (λ _. tt)) yes, (stay_dropped (plain (λ _. usize)) yes, tt)))

pub place_spec : {M : Type 1} → statement M
place_spec 𝓤 𝓛 𝓜 𝓡 wired =
    let H = 𝓛.H in
    let c = clauses 𝓛 𝓜.mem 𝓡.returns in
    let fn : Fn = compiled.function in
    let C = (tables 𝓤 H 𝓜 𝓡 𝓡.env).C in
    let Λ = (tables 𝓤 H 𝓜 𝓡 𝓡.env).Λ in
    proved_at 𝓛 ended stayed c 𝓜 𝓡 (Goes-ref 𝓛 2 0 tt (plain (λ _. S.the_row)), (Goes-dropped 𝓛 2 (RefOf (1 ∷ []) tt (plain (λ _. G.the_row)) (λ _. tt)) yes (λ κs x f. refl), (Goes-dropped 𝓛 2 (plain (λ _. usize)) yes (λ κs x f. refl), tt)))
    #self fn (compiled.unfolded 𝓤 H 𝓜 𝓡 wired) (λ z are.
    let Post : Val → SProp 𝓤 = (walk_of 𝓛 ended stayed c).post z in
    let a = z.0.3 in let vss = z.0.4 in let κ = z.0.0.0 in let q = z.0.1.0 in let κ₁ = z.0.0.1.0 in let q₁ = z.0.1.1.0 in
    let b = a.0.ref_ptr.0 in let o = a.0.ref_ptr.1 in let d = a.0.now in let cs = d.cells in
    let h : Global = a.1.0.now in let at = a.1.0.ref_ptr in
    let n = a.1.1.0 in let fn64 = are.1.1.0.1 in
    let τ : Ty = block_type n in
    let y = at_takes 𝓛 𝓜.mem 𝓡.returns κ₁ q₁ at h (n * 8) 8 τ in
    let Asked : Type 0 = (0 < n) × (n * 8 < 2 ^ 63) in
    let Out : RattleType = type_at ended.signature.result z.0.0 in
    let Refusal : RattleType = Struct (Declared.shape AE.the_type) in
    qed 𝓛 ((raw (alive 𝓛 ended.signature z.0.0 z.0.1) ⊛ ‵ (owns (types_at ended.signature.params z.0.0) a vss)) ∷ raw (fact 𝓤 Asked) ∷ []) ∵
    move ! (1 ∷ []) $ heard ! Asked (λ asked. split ! $ use1 𝓛 (‵ (flft κ q) ⊛ ‵ (flft κ₁ q₁) ⊛ ‵ ftrue) (id⊢ 𝓤 _) $ split3 ! $ move ! (3 ∷ []) $ fsplit ! $ fsplit3 ! $ feq_l ! (λ e0. move ! (2 ∷ []) $ fsplit ! $ fsplit ! $ feq_l ! (λ e1. move ! (1 ∷ []) $ drop ! $
    -- [seen; obs; bor; token; token₁; true]
    let n64 : n * 8 < 2 ^ 64 = omega (arith, asked.1) in
    regoal ! (λ (us : List Val). prop (WpFn 𝓤 H C Λ fn us Post)) (λ i. e0 i ++ (e1 i ++ (are.1.1.0.0 i ++ []))) refl $
    move ! (0 ∷ 4 ∷ []) $ use2 𝓛 (raw ((Takes 𝓛 𝓜.mem 𝓡.returns).pre y)) (Takes-goes 𝓛 𝓜.mem 𝓡.returns κ₁ q₁ at h (n * 8) 8 τ (capped_is (n * 8) n64) refl n64 (lit< tt)) $
    enter ! C Λ fn (vptr b o ∷ vptr at.0 at.1 ∷ vint w64 n ∷ []) Post $
    alloc_all ! (λ l. pass_all ! refl ((tt, tt), ((tt, tt), ((tt, record { fits = fn64 }), tt))) $ let En : Env 𝓤 H = env fn.locals l in
    sets ! (bin ! (get ! refl) (lit ! tt) (record { fits = n64 })) refl (tt, record { fits = n64 }) $
    calls_at ! (framed 𝓤 𝓛.H 𝓜 (tables 𝓤 𝓛.H 𝓜 𝓡 𝓡.env)) (Takes 𝓛 𝓜.mem 𝓡.returns) (met 𝓤 𝓛 𝓜 𝓡 (compiled.calls-std_heap::GlobalAllocator::allocate 𝓡.env wired)) y (and_then ! (get ! refl) (and_then ! (get ! refl) (and_then ! (lit ! tt) (no_more !)))) (λ v.
    use1 𝓛 (later (raw (Answered 𝓛 𝓜.mem 𝓡.returns h τ v) ⊛ ‵ (flft κ₁ q₁))) (Takes-gives 𝓛 𝓜.mem 𝓡.returns κ₁ q₁ at h (n * 8) 8 τ v) $ await ! tt $ split ! $
    answers ! 𝓜.mem 𝓡.returns h τ v
    (λ pb po e.
    let p : Ptr = block_ptr pb po in
    let new : (S.the_row).Denot = record { cells = (p, blanks n) ∷ cs; total = d.total } in
    lands_as ! e refl (Answer-typed true pb po) $
    first ! $ switches_on ! (get_tag ! (vrt ! refl (fld ! refl (stop !))) (whole !)) $ exec ! C Λ En (arm_body 0 (head (after 2 fn.body))) (then_runs 𝓛 C Λ En (after 3 fn.body) (at_ret En Post)) $
    sets ! (of_opd ! (get_in ! (vrt ! refl (fld ! refl (stop !))) (in_variant ! 0 0 refl refl (whole !)))) refl (tt, tt) $
    sets ! (of_opd ! (get ! refl)) refl (tt, tt) $
    sets ! (agg ! (and_then ! (get ! refl) (no_more !))) refl (tt, (tt, tt)) $
    sets_last ! (agg ! (and_then ! (lit ! tt) (and_then ! (get ! refl) (no_more !)))) refl (tt, (record { fits = lit< tt }, ((tt, tt), tt))) $
    exec ! C Λ En (after 3 fn.body) (at_ret En Post) $
    sets ! (of_opd ! (get ! refl)) refl (tt, (record { fits = lit< tt }, ((tt, tt), tt))) $
    -- [room; deed; token₁; obs; bor; token; true; ..]
    use1 𝓛 (‵ (words_own p (blanks n))) (block_cut 𝓛 n pb po) $ move ! (3 ∷ 4 ∷ 5 ∷ []) $
    opens ! tt S.the_row b o (λ us. move ! (1 ∷ []) $ fsplit ! $ move ! (6 ∷ 1 ∷ []) $
    -- [words; store; fields; cell; obor; obs; auth; deed; token₁; true]
    knows ! (words_at cs p ≡ []) (blanks_fresh 𝓛 𝓜 n cs pb po asked.0) (λ fresh.
    move ! (7 ∷ []) $ fpack ! Global (λ x. token x τ p) h $ flt_i ! (n * 8) (2 ^ 63) asked.1 $ move ! (1 ∷ 0 ∷ []) $ fjoin ! $ rewrite ! 0 (λ (k : ℕ). ‵ (deed_owns p k)) (sym (length-blanks n)) refl $
    move ! (1 ∷ 0 ∷ []) $ fjoin ! $ fjoin ! $ move ! (1 ∷ 0 ∷ []) $ fjoin ! $ move ! (1 ∷ 0 ∷ []) $ closes ! tt S.the_row new us b o $
    returns ! (look_at ! 0 refl) $ free_all ! refl $
    -- [obs; bor; token; token₁; true]
    feq_i ! (List Val) vss.0 (vptr b o ∷ []) e0 $ fjoin3 ! $ nothing ! $ nothing ! $ fjoin ! $ nothing ! $ fjoin ! $ move ! (1 ∷ 0 ∷ []) $ fjoin ! $
    move ! (2 ∷ 3 ∷ []) $ join ! $ move ! (2 ∷ 0 ∷ []) $ join ! $
    -- [tokens; what is left]
    use0 𝓛 (raw (fact 𝓤 ((words_at cs p ≡ []) × (new.cells ≡ (p, blanks n) ∷ cs) × (new.total ≡ d.total)))) (fact_i 𝓤 ((words_at cs p ≡ []) × (new.cells ≡ (p, blanks n) ∷ cs) × (new.total ≡ d.total)) (emp 𝓤) (fresh, refl, refl)) $
    use0 𝓛 (‵ ((P.the_row).own_val (record { at = p }) (place_val p ∷ []))) (place_made 𝓛 p) $ use1 𝓛 (‵ (Out.own_val (Ok (record { at = p })) (live 0 (vcons (place_val p) vnil) ∷ []))) (ok_of 𝓛 P.the_row AE.the_row (record { at = p }) (place_val p)) $
    move ! (2 ∷ 3 ∷ 0 ∷ 1 ∷ []) $ by ! (leaves 𝓛 ended stayed c z (live 0 (vcons (place_val p) vnil)) (Ok (record { at = p })) (new, (tt, (tt, tt))) (tt, (tt, (tt, tt)))))))
    (λ e.
    let none : Val = live 1 (vcons (vstruct vnil) vnil) in
    lands_as ! e refl (Answer-typed false 0 0) $ first ! $ switches_on ! (get_tag ! (vrt ! refl (fld ! refl (stop !))) (whole !)) $ exec ! C Λ En (arm_body 1 (head (after 2 fn.body))) (then_runs 𝓛 C Λ En (after 3 fn.body) (at_ret En Post)) $
    sets ! (of_opd ! (get_in ! (vrt ! refl (fld ! refl (stop !))) (in_variant ! 1 0 refl refl (whole !)))) refl (tt, tt) $
    sets_last ! (agg ! (and_then ! (lit ! tt) (and_then ! (get ! refl) (no_more !)))) refl (tt, (record { fits = lit< tt }, (tt, tt))) $
    exec ! C Λ En (after 3 fn.body) (at_ret En Post) $ sets ! (of_opd ! (get ! refl)) refl (tt, (record { fits = lit< tt }, (tt, tt))) $
    returns ! (look_at ! 0 refl) $ free_all ! refl $
    -- [token₁; obs; bor; token; true]
    move ! (1 ∷ 2 ∷ 3 ∷ []) $
    feq_i ! (List Val) vss.0 (vptr b o ∷ []) e0 $ fjoin3 ! $ nothing ! $ nothing ! $ fjoin ! $ nothing ! $ fjoin ! $ move ! (1 ∷ 0 ∷ []) $ fjoin ! $
    move ! (2 ∷ 3 ∷ []) $ join ! $ move ! (2 ∷ 0 ∷ []) $ join ! $
    use0 𝓛 (raw (fact 𝓤 (d ≡ d))) (fact_i 𝓤 (d ≡ d) (emp 𝓤) refl) $
    owned ! Refusal (Is Refusal) (Struct-Makes 𝓛 (Declared.shape AE.the_type) tt) tt (vstruct vnil ∷ []) (tt, (refl, tt)) $
    use1 𝓛 (‵ (Out.own_val (Err (record {})) (none ∷ []))) (err_of 𝓛 P.the_row AE.the_row (record {}) (vstruct vnil)) $
    move ! (2 ∷ 3 ∷ 0 ∷ 1 ∷ []) $ by ! (leaves 𝓛 ended stayed c z none (Err (record {})) (d, (tt, (tt, tt))) (tt, (tt, (tt, tt)))))))))))
