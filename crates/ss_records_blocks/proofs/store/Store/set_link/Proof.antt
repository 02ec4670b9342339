-- `set_link` takes the word out of the store, writes a pointer, and puts it back.
use Rattle.std.proofs.Common.{◌≡◌, ◌+◌, ◌*◌, ◌^◌, ◌<◌, List, [], ◌∷◌, ◌++◌, length, refl, sym, ap, arith, w64}
use mir.Syntax.{Fn, ty_int, ty_ptr}
use mir.Val.{Val, vint, vptr, vunit}
use base.Logic.{SProp, emp, wand, id⊢, apply∗}
use base.Fml.{ftrue, flft, froom}
use prog.Wp.{Env, WpFn}
use contract.Monad.{fact, fact_i}
use contract.Running.{tables}
use types.Logic.{sem}
use types.Kit.{‵, raw, ◌⊛◌, prop, at_ret, ◌$◌, ◌∵◌, !, qed, by, move, drop, use0, use1, use2, split, join, rewrite, regoal, fsplit, fsplit3, fjoin, fjoin3, feq_i, feq_l}
use types.Part.{whole, sub}
use types.Run.{stop, fld, lit, unit_lit, of_opd, bin, init, assigns_last, first, blocks, exec, returns, enter}
use types.ByLocal.{alloc_all, pass_all, free_all, look_at, get, get_in, through, sets, is, env}
use denote.Exit.{yes}
use denote.RattleType.{owns}
use denote.Builtin.{usize}
use denote.RawPtr.{Ptr, block_ptr, ptr_val, in_a_block}
use denote.Signature.{plain, types_at}
use denote.Steps.{nothing, heard, opens, closes}
use denote.Triple.Entry.{alive}
use denote.Triple.Walked.{Stays, stay_dropped, stay_ref, walk_of, Goes-dropped, Goes-ref}
use Rattle.std.proofs.raw_atomic.Walks.{proved_at, leaves}
use Rattle.std.proofs.VecSteps.Shapes.{after}
use Rattle.ss_records_blocks.specs.Cells.{Word, link, words_at, word_at, put_word, MayBeLink}
use Rattle.ss_records_blocks.specs.Ownership.{word_owns, store_owns}
use Rattle.ss_records_blocks.proofs.Memory.{word_ptr, store_take, store_knows, null_word, word_room, room_pointer, link_in}
use Rattle.ss_records_blocks.proofs.Values.{place_val, place_known, place_typed, ptr_typed}
use Rattle.ss_records_blocks.specs.contracts.store.Store as S
use Rattle.ss_records_blocks.specs.contracts.store.BlockPlace as P
use Rattle.ss_records_blocks.specs.contracts.store.Store.set_link.{ended, clauses}
use Rattle.ss_records_blocks.specs.contracts.store.Store.set_link.Key.{name as #self}
use Rattle.ss_records_blocks.proofs.store.Store.set_link.Statement.{statement}
use Rattle.ss_records_blocks.proofs.store.Store.set_link.Code as compiled

abbrev stayed : Stays ended.signature.params ended.kept
stayed = (stay_ref (0 ∷ []) tt (plain (λ _. S.the_row)), (stay_dropped (plain (λ _. P.the_row)) yes, (stay_dropped (plain (λ _. usize)) yes, (stay_dropped (plain (λ _. P.the_row)) yes, tt))))

pub set_link_spec : {M : Type 1} → statement M
set_link_spec 𝓤 𝓛 𝓜 𝓡 wired =
    let H = 𝓛.H in
    let c = clauses 𝓛 𝓜.mem 𝓡.returns in
    let fn : Fn = compiled.function in
    let C = (tables 𝓤 H 𝓜 𝓡 𝓡.env).C in
    let Λ = (tables 𝓤 H 𝓜 𝓡 𝓡.env).Λ in
    proved_at 𝓛 ended stayed c 𝓜 𝓡 (Goes-ref 𝓛 1 0 tt (plain (λ _. S.the_row)), (Goes-dropped 𝓛 1 (plain (λ _. P.the_row)) yes (λ κs x f. refl), (Goes-dropped 𝓛 1 (plain (λ _. usize)) yes (λ κs x f. refl), (Goes-dropped 𝓛 1 (plain (λ _. P.the_row)) yes (λ κs x f. refl), tt))))
    #self fn (compiled.unfolded 𝓤 H 𝓜 𝓡 wired) (λ z are.
    let Post : Val → SProp 𝓤 = (walk_of 𝓛 ended stayed c).post z in
    let a = z.0.3 in let vss = z.0.4 in let κ = z.0.0.0 in let q = z.0.1.0 in
    let b = a.0.ref_ptr.0 in let o = a.0.ref_ptr.1 in let h = a.0.now in let cs = h.cells in
    let p : Ptr = a.1.0.at in let k = a.1.1.0 in
    let fk = are.1.1.0.1 in let place_is = place_known p vss.1.0 are.1.0 in
    let w : Word = word_at cs p k in
    let to : Ptr = a.1.1.1.0.at in let place_is2 = place_known to vss.1.1.1.0 are.1.1.1.0 in
    let Asked : Type 0 = (k < length (words_at cs p)) × MayBeLink w in
    let new : (S.the_row).Denot = record { cells = put_word cs p k (link to); total = h.total + 1 } in
    let Gives : Type 0 = (new.cells ≡ put_word cs p k (link to)) × (new.total ≡ h.total + 1) in
    qed 𝓛 ((raw (alive 𝓛 ended.signature z.0.0 z.0.1) ⊛ ‵ (owns (types_at ended.signature.params z.0.0) a vss)) ∷ raw (fact 𝓤 Asked) ∷ []) ∵
    move ! (1 ∷ []) $ heard ! Asked (λ asked. split ! $ use1 𝓛 (‵ (flft κ q) ⊛ ‵ ftrue) (id⊢ 𝓤 _) $ split ! $ move ! (2 ∷ []) $ fsplit ! $ fsplit3 ! $ feq_l ! (λ e0. move ! (2 ∷ []) $ drop ! $
    let inside : k < length (words_at cs p) = asked.0 in
    regoal ! (λ (us : List Val). prop (WpFn 𝓤 H C Λ fn us Post)) (λ i. e0 i ++ (place_is i ++ (are.1.1.0.0 i ++ (place_is2 i ++ [])))) refl $
    enter ! C Λ fn (vptr b o ∷ place_val p ∷ vint w64 k ∷ place_val to ∷ []) Post $
    alloc_all ! (λ l. pass_all ! refl ((tt, tt), (place_typed [] p, ((tt, record { fits = fk }), (place_typed [] to, tt)))) $ let En : Env 𝓤 H = env fn.locals l in
    opens ! tt S.the_row b o (λ us. move ! (1 ∷ []) $ fsplit ! $ move ! (1 ∷ []) $
    -- [the store; the fields; the cell; ..]
    store_knows ! cs p (λ small.
    let offset : k * 8 < 2 ^ 64 = omega (arith, inside, small) in
    use1 𝓛 (‵ (word_owns (word_ptr p k) w) ⊛ raw (wand 𝓤 (sem 𝓛 (word_owns (word_ptr p k) (link to))) (sem 𝓛 (store_owns (put_word cs p k (link to)))))) (store_take 𝓛 cs p k (link to) inside) $ split ! $
    in_a_block ! p (λ r. word_owns (word_ptr r k) w) (null_word 𝓛 w) (λ pb po ep.
    use1 𝓛 (‵ (froom (ty_int w64) pb (k * 8 + po))) (word_room 𝓛 w pb (k * 8 + po)) $ use1 𝓛 (‵ (froom ty_ptr pb (k * 8 + po))) (room_pointer 𝓛 pb (k * 8 + po)) $
    sets ! (is ! (of_opd ! (get_in ! (fld ! refl (stop !)) (sub ! 0 refl (whole !)))) (ap ptr_val ep)) refl (tt, tt) $
    sets ! (of_opd ! (get_in ! (fld ! refl (stop !)) (sub ! 0 refl (whole !)))) refl (ptr_typed to) $
    first ! $ blocks ! $
    sets ! (bin ! (get ! refl) (lit ! tt) (record { fits = offset })) refl (tt, record { fits = offset }) $
    sets ! (bin ! (get ! refl) (get ! refl) tt) refl (tt, tt) $
    sets ! (of_opd ! (get ! refl)) refl (tt, tt) $
    assigns_last ! (of_opd ! (get ! refl)) (through ! refl (stop !)) (init ! 0 refl (ptr_typed to)) $
    exec ! C Λ En (after 3 fn.body) (at_ret En Post) $
    sets ! (of_opd ! (unit_lit !)) refl (tt, tt) $
    use1 𝓛 (‵ (word_owns (word_ptr (block_ptr pb po) k) (link to))) (link_in 𝓛 to pb (k * 8 + po)) $
    rewrite ! 0 (λ (r : Ptr). ‵ (word_owns (word_ptr r k) (link to))) (sym ep) refl $
    use2 𝓛 (‵ (store_owns (put_word cs p k (link to)))) (apply∗ 𝓤 (sem 𝓛 (word_owns (word_ptr p k) (link to))) (sem 𝓛 (store_owns (put_word cs p k (link to))))) $
    move ! (1 ∷ 0 ∷ []) $ fjoin ! $ move ! (1 ∷ 0 ∷ []) $ closes ! tt S.the_row new us b o $
    returns ! (look_at ! 0 refl) $ free_all ! refl $
    -- [obs; bor; token; true]
    feq_i ! (List Val) vss.0 (vptr b o ∷ []) e0 $ fjoin3 ! $ nothing ! $ nothing ! $ fjoin ! $ nothing ! $ fjoin ! $ nothing ! $ fjoin ! $ move ! (1 ∷ 0 ∷ []) $ fjoin ! $
    move ! (1 ∷ 2 ∷ []) $ join ! $ use0 𝓛 (raw (fact 𝓤 Gives)) (fact_i 𝓤 Gives (emp 𝓤) (refl, refl)) $ feq_i ! (List Val) (vunit ∷ []) (vunit ∷ []) refl $
    move ! (2 ∷ 3 ∷ 0 ∷ 1 ∷ []) $ by ! (leaves 𝓛 ended stayed c z vunit tt (new, (tt, (tt, (tt, tt)))) (tt, (tt, (tt, (tt, tt))))))))))))
