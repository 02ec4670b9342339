-- The code of conditions.
use Rattle.std.proofs.Common.{◌≡◌, ℕ, ◌+◌, Bool, true, false, not, List, [], ◌∷◌, ◌++◌, length, Option, Ok, Err, refl, subst, arith}
use Rattle.std.specs.Prelude.{Result as OkOr}
use Rattle.ss_code_instructions.proofs.Common.{after, alternatives_code, Code, Compare, Condition, condition_code, core_at, DataEnded, did, due, Empty, Expression, expression_of, Fails, Failure, fit, Guard, guard_code, GuardKind, guards_code, height, if_ok, is_empty, is_ended, is_in, Line, look, looked, looked_code, may_fault, Member, member, Moved, negated_code, onward_if, operand, outcome_then, past, place, related, RunState, SetOwner, Site, sure, Test, test_code, tests_code, turned, TypeError, Value, WentOn, with_owner}
use Rattle.ss_meaning.specs.Expressions.{holds, member_value, not_if, owner_value, passed, both, either, all_hold, passes, all_pass}
use Rattle.ss_base.specs.declared.words.GuardKind.TheVariants as guards
use Rattle.ss_code_instructions.specs.Instructions as i
use Rattle.ss_code_instructions.proofs.Steps.{Comes, Reaches, here, at, arrive}
use Rattle.ss_code_instructions.proofs.Parts.{onwards, Lands, same, done, alike, look_lands}
use Rattle.ss_code_instructions.proofs.Looking.{fit_did, two_lands, owner_lands}
use Rattle.ss_code_instructions.proofs.Members.{member_owner_run}
use Rattle.ss_code_instructions.proofs.Attributes.{err_first}
use Rattle.ss_code_instructions.proofs.Branching.{both_lands, either_lands, not_lands}

turned_did : {A B : Type 0} (l : Line) (r : OkOr A Failure) (g : A → B) (go : B → Moved) → did l r (λ a. go (g a)) ≡ did l (turned g r) go
turned_did l (Err (Fails k)) g go = refl
turned_did l _ g go = refl

module _ (code : Code) (n : ℕ) (t : Site) where
  -- whether an entity is in a set
  member_lands : (skip : ℕ) (negated : Bool) (set : ℕ) (e : Expression) (o : SetOwner) → Lands code n (height t) same (test_code t skip (Member negated set e o)) (past skip) done (look t.line (passed (Member negated set e o)))
  member_lands skip negated set e o = record {
    by = λ p cells frames w high has in_.
        let c = looked_code t (may_fault (expression_of o)) e (i.LookMember set) ++ with_owner (after t e) o (λ y. i.UnlessMember negated set (operand t e) y skip) in
        subst (λ z. Reaches code (at p cells frames w) (arrive (λ b w'. at (past skip b (p + length c)) cells frames w') frames z)) (in_set (member_value set e w.store) w)
        (member_owner_run code n {A = Bool} {B = Bool} t set e o (λ x y. i.UnlessMember negated set x y skip) (λ v u. is_in set v u) (λ q cells0 frames s below b. onward_if skip (not_if negated b) below (core_at q cells0 frames s)) (λ b w'. at (past skip b (p + length c)) cells frames w') (λ b. WentOn (not_if negated b))
        (λ v u s kind q. err_first (member set v s) _ (Fails kind) q) (λ x y. refl) (λ x y p cells frames s. refl) p cells frames w high has in_
        (λ q cells0 b len. onwards (subst (λ j. Reaches code (at (past skip (not_if negated b) (q + 1)) cells frames w) (Comes (at (past skip (not_if negated b) j) cells frames w))) len here)));
  }
    where
      last : (r : OkOr Bool Failure) (w : RunState) → outcome_then (looked t.line r w) (λ b. WentOn (not_if negated b)) ≡ looked t.line (turned (not_if negated) r) w
      last (Err (Fails kind)) w = refl
      last _ w = refl

      owned : (v : Value) (r : OkOr (Option Value) Failure) (w : RunState) → outcome_then (looked t.line r w) (λ u w. outcome_then (look t.line (is_in set v u) w) (λ b. WentOn (not_if negated b))) ≡ looked t.line (if_ok r (λ u. turned (not_if negated) (is_in set v u w.store))) w
      owned v (Ok u) w = last (is_in set v u w.store) w
      owned v (Err (Fails kind)) w = refl
      owned v (Err TypeError) w = refl

      in_set : (r : OkOr Value Failure) (w : RunState) → outcome_then (looked t.line r w) (λ v w. outcome_then (look t.line (owner_value o) w) (λ u w. outcome_then (look t.line (is_in set v u) w) (λ b. WentOn (not_if negated b)))) ≡ looked t.line (if_ok r (λ v. if_ok (owner_value o w.store) (λ u. turned (not_if negated) (is_in set v u w.store)))) w
      in_set (Ok v) w = owned v (owner_value o w.store) w
      in_set (Err (Fails kind)) w = refl
      in_set (Err TypeError) w = refl

  pub test_lands : (skip : ℕ) (x : Test) → Lands code n (height t) same (test_code t skip x) (past skip) done (look t.line (passed x))
  test_lands skip (Compare relation a b) =
      two_lands code n t a b (λ x y. i.Unless relation x y skip) (past skip) (λ x y s. sure (related relation x y)) (λ p cells frames s x y below. fit (related relation x y) (λ b. onward_if skip b below (core_at p cells frames s))) (λ x y. refl) (λ x y p cells frames s. refl)
      (λ p cells frames s x y below. fit_did t.line (related relation x y) (λ b. onward_if skip b below (core_at p cells frames s)))
  test_lands skip (DataEnded negated) =
      look_lands code n (height t) (place t (i.UnlessEnded negated skip)) same (past skip) done (λ s. turned (not_if negated) (due (is_ended s.world.input))) refl
      (λ p cells frames s h. turned_did t.line (due (is_ended s.world.input)) (not_if negated) (λ b. onward_if skip b cells (core_at p cells frames s)))
  test_lands skip (Empty negated set o) =
      owner_lands code n t o (λ o. i.UnlessEmpty negated set o skip) (past skip) (λ o s. turned (not_if negated) (is_empty set o s)) (λ p cells frames s o below. did t.line (is_empty set o s) (λ b. onward_if skip (not_if negated b) below (core_at p cells frames s))) (λ x. refl) (λ x p cells frames s. refl)
      (λ p cells frames s o below. turned_did t.line (is_empty set o s) (not_if negated) (λ b. onward_if skip b below (core_at p cells frames s)))
  test_lands skip (Member negated set e o) = member_lands skip negated set e o

  -- no instruction: it holds
  holds_so : (skip : ℕ) → Lands code n (height t) same [] (past skip) done (WentOn true)
  holds_so skip = record {
    by = λ p cells frames w high has in_. let e : p ≡ p + 0 = omega arith in subst (λ q. Reaches code (at p cells frames w) (Comes (at q cells frames w))) e here;
  }

  pub tests_land : (skip : ℕ) (xs : List Test) → Lands code n (height t) same (tests_code t skip xs) (past skip) done (look t.line (all_hold xs))
  tests_land skip [] = holds_so skip
  tests_land skip (x ∷ xs) = both_lands code n t t.line skip (passed x) (all_hold xs) (test_lands (length (tests_code t skip xs) + skip) x) (tests_land skip xs)

  either_none : (r : OkOr Bool Failure) (w : RunState) → looked t.line r w ≡ looked t.line (if_ok r (λ b. either b (Ok false))) w
  either_none (Ok true) w = refl
  either_none (Ok false) w = refl
  either_none (Err e) w = refl

  pub alternatives_land : (skip : ℕ) (xs : List Test) (others : List (List Test)) → Lands code n (height t) same (alternatives_code t skip xs others) (past skip) done (look t.line (holds (xs ∷ others)))
  alternatives_land skip xs [] = alike code n (height t) (λ w. either_none (all_hold xs w.store) w) (tests_land skip xs)
  alternatives_land skip xs (ys ∷ others) = either_lands code n t t.line skip (all_hold xs) (holds (ys ∷ others)) (tests_land 1 xs) (alternatives_land skip ys others)

  pub condition_lands : (skip : ℕ) (c : Condition) → Lands code n (height t) same (condition_code t skip c) (past skip) done (look t.line (holds c))
  condition_lands skip [] = look_lands code n (height t) (place t (i.Jump skip)) same (past skip) done (λ s. Ok false) refl (λ p cells frames s h. refl)
  condition_lands skip (xs ∷ others) = alternatives_land skip xs others

  pub negated_lands : (skip : ℕ) (c : Condition) → Lands code n (height t) same (negated_code t skip c) (past skip) done (look t.line (λ s. if_ok (holds c s) (λ b. Ok (not b))))
  negated_lands skip c = not_lands code n t t.line skip (holds c) (condition_lands 1 c)

  if_same : (r : OkOr Bool Failure) (w : RunState) → looked t.line r w ≡ looked t.line (if_ok r Ok) w
  if_same (Ok b) w = refl
  if_same (Err e) w = refl

  guard_lands : (skip : ℕ) (kind : GuardKind) (c : Condition) → Lands code n (height t) same (guard_code t skip kind c) (past skip) done (look t.line (λ s. if_ok (holds c s) (λ b. Ok (passes kind b))))
  guard_lands skip guards.While c = alike code n (height t) (λ w. if_same (holds c w.store) w) (condition_lands skip c)
  guard_lands skip guards.Until c = negated_lands skip c

  if_twice : (r : OkOr Bool Failure) (p : Bool → Bool) (g : Bool → OkOr Bool Failure) (w : RunState) → looked t.line (if_ok (if_ok r (λ b. Ok (p b))) g) w ≡ looked t.line (if_ok r (λ b. g (p b))) w
  if_twice (Ok b) p g w = refl
  if_twice (Err e) p g w = refl

  pub guards_land : (skip : ℕ) (gs : List Guard) → Lands code n (height t) same (guards_code t skip gs) (past skip) done (look t.line (all_pass gs))
  guards_land skip [] = holds_so skip
  guards_land skip (g ∷ gs) =
      alike code n (height t) (λ w. if_twice (holds g.condition w.store) (passes g.kind) (λ b. both b (all_pass gs w.store)) w)
      (both_lands code n t t.line skip (λ s. if_ok (holds g.condition s) (λ b. Ok (passes g.kind b))) (all_pass gs) (guard_lands (length (guards_code t skip gs) + skip) g.kind g.condition) (guards_land skip gs))
