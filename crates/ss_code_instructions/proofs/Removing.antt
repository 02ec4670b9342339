-- The code of REMOVE, REMOVE FIRST and REMOVE LAST.
use Rattle.std.proofs.Common.{◌≡◌, ℕ, ◌+◌, List, length, Option, Ok, Err, ℤ, refl, sym, ap, ◌∙◌, subst}
use Rattle.std.specs.Prelude.{Result as OkOr}
use Rattle.ss_code_instructions.proofs.Common.{all_noting, Code, core_at, count_in, deliver_with, due, End, end_removed, Expression, expression_of, Fails, Failure, Frame, get, height, Integer, Line, look, looked, MachineState, member, Moved, OfCount, onward, outcome_then, owner_number, owner_value, Place, recounted, remove_code, remove_end_code, removed_at, removed_from, RunState, SetOwner, settle, Site, State, Store, TypeError, Value, WentOn, Whole, with_heap, with_histories, with_owner}
use Rattle.ss_meaning.specs.Statements.{give_to, remove, remove_end}
use Rattle.ss_code_instructions.specs.Instructions as i
use Rattle.ss_code_instructions.proofs.Keeping.{Only, each, made, made_from}
use Rattle.ss_code_instructions.proofs.Steps.{Comes, Reaches, here, at}
use Rattle.ss_code_instructions.proofs.Parts.{onwards, Runs, same, done, at_end, then_then, alike}
use Rattle.ss_code_instructions.proofs.Operands.{on, Tops, put_then, delivers}
use Rattle.ss_code_instructions.proofs.Looking.{owner_is, bearer_lands}
use Rattle.ss_code_instructions.proofs.Members.{LooksFirst, member_owner_run}
use Rattle.ss_code_instructions.proofs.Attributes.{err_first}
use Rattle.ss_code_instructions.proofs.Receiving.{Alike, Quietly, Sources, get_quietly, to_place_runs}

-- how many members a set has is noted: variables, and what the program says, stay
pub recounted_alike : (set : ℕ) (owner : ℤ) (s : Store) (h : State) → Only (Alike s) (recounted set owner s h)
recounted_alike set owner s h =
    each (Alike s) (due (count_in h set owner)) _ (λ n.
    made (Alike s) (with_histories (with_heap s h)) (all_noting (OfCount set) owner s.world.time (Whole n) s.world.setting.statistics s.world.histories) (λ hs. (refl, refl, refl)))

end_quietly : (l : Line) (end : End) (set : ℕ) (o : Option Value) → Quietly (get l (removed_at end set o))
end_quietly l end set o =
    get_quietly l (removed_at end set o) (λ s.
    each (λ (b : Value × Store). Alike s b.1) (owner_number set o s) _ (λ m. each (λ (b : Value × Store). Alike s b.1) (due (end_removed end s.world.heap set m)) _ (λ r.
    made_from (λ (b : Value × Store). Alike s b.1) (Alike s) (λ t. (Whole r.0, t)) (recounted set m s r.1) (recounted_alike set m s r.1) (λ t q. q))))

removed_first : (set : ℕ) → LooksFirst set (removed_from set)
removed_first set v o s kind q = err_first (member set v s) _ (Fails kind) q

module _ (code : Code) (n : ℕ) where
  pub remove_runs : (t : Site) (set : ℕ) (e : Expression) (o : SetOwner) → Runs code n (height t) same (remove_code t set e o) done (remove t.line set e o)
  remove_runs t set e o = record {
    by = λ p cells frames w high has in_.
        let ends : Unit {0} → RunState → MachineState = λ u w'. at (p + length (remove_code t set e o)) cells frames w' in
        let next : ℕ → List Value → List Frame → Store → List Value → Store → Moved = λ p cells frames s below u. onward below (core_at p cells frames s) u in
        member_owner_run code n {A = Store} {B = Unit {0}} t set e o (λ x y. i.Remove set x y) (removed_from set) next ends settle (removed_first set) (λ x y. refl) (λ x y p cells frames s. refl) p cells frames w high has in_ (λ q cells0 u end.
        onwards (subst (λ j. Reaches code (at (q + 1) cells frames (record w { store = u })) (Comes (at j cells frames (record w { store = u })))) end here));
  }

  -- what removes a member at an end leaves it at a target
  end_source : (l : Line) (end : End) (set : ℕ) (o : SetOwner) → Sources code n (λ u to. with_owner u o (λ x. i.RemoveEnd end set x to)) l (remove_end l end set o)
  end_source l end set o u to e tops =
      subst (λ k. Runs code n (height u) same (with_owner u o (λ x. i.RemoveEnd end set x to)) (on to) (λ w. outcome_then (remove_end k end set o w) (put_then k to))) e
      (alike code n (height u) (λ w. ap (λ r. outcome_then (looked u.line r w) (λ y w. outcome_then (get u.line (removed_at end set y) w) (put_then u.line to))) (sym (owner_is o w.store)) ∙ sym (then_then (look u.line (owner_value o) w) (λ y. get u.line (removed_at end set y)) (put_then u.line to)))
      (bearer_lands code n u (expression_of o) (λ x. i.RemoveEnd end set x to) at_end (on to) (λ p cells0 frames s y below. deliver_with u.line to (removed_at end set y s) below (core_at p cells0 frames s)) (λ y w. outcome_then (get u.line (removed_at end set y) w) (put_then u.line to)) (λ x. refl) (λ x p cells frames s. refl) (λ y p cells cells0 frames w high.
      delivers code u.line to (removed_at end set y w.store) p cells cells0 frames w (subst (Tops to) (sym high) tops))))

  end_stays : (l : Line) (end : End) (set : ℕ) (o : SetOwner) → Quietly (remove_end l end set o)
  end_stays l end set o w w' z e = by (owner_value o w.store) e
    where
      by : (r : OkOr (Option Value) Failure) → outcome_then (looked l r w) (λ o. get l (removed_at end set o)) ≡ WentOn z w' → Alike w.store w'.store
      by (Ok x) e = end_quietly l end set x w w' z e
      by (Err (Fails kind)) e = absurd cc
      by (Err TypeError) e = absurd cc

  pub remove_end_runs : (t : Site) (end : End) (set : ℕ) (p : Place) (o : SetOwner) → Runs code n (height t) same (remove_end_code t end set p o) done (give_to t.line p (remove_end t.line end set o))
  remove_end_runs t end set p o =
      to_place_runs code n t p Integer (λ u to. with_owner u o (λ x. i.RemoveEnd end set x to)) (remove_end t.line end set o) (end_stays t.line end set o) (end_source t.line end set o)
