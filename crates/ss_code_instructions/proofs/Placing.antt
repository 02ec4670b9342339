-- The code of FILE.
use Rattle.std.proofs.Common.{◌≡◌, ℕ, ◌+◌, true, List, [], ◌∷◌, ◌++◌, length, Option, Some, None, Ok, Err, ℤ, refl, sym, ap, ◌∙◌, subst, arith, length-append}
use Rattle.std.specs.Prelude.{slice_get, Result as OkOr}
use Rattle.ss_code_instructions.proofs.Common.{act, after, after_bearer, AfterMember, AsFirst, AsLast, Bearer, bearer, bearer_code, BeforeMember, ByDiscipline, ByRule, change, Code, core_at, did, Discipline, due, Expression, expression_of, Fails, Failure, file_code, filed, filed_by, filed_in, Filing, filing_by, Foremost, Frame, height, Hindmost, if_ok, is_fit, JustAfter, JustBefore, leaf, look, looked, looked_code, MachineState, may_fault, member, member_code, member_value, Moved, onward, Operand, operand, outcome_then, owner_number, owner_value, Part, place, Placed, Position, recounted, RunState, SetOwner, Setting, setting_of, settle, Site, Store, sure, turned, TypeError, Value, where_fit, with_bearer, with_operand_value, with_owner}
use Rattle.ss_base.specs.declared.layout.Discipline.TheVariants as disciplines
use Rattle.ss_meaning.specs.Statements.{file}
use Rattle.ss_code_instructions.specs.Instructions as i
use Rattle.ss_code_instructions.proofs.Steps.{HasAt, Comes, Reaches, here, at, arrive}
use Rattle.ss_code_instructions.proofs.Parts.{Within, onwards, step_leads, did_leads, turned_then, Runs, same, done}
use Rattle.ss_code_instructions.proofs.Operands.{held, held_height, reads}
use Rattle.ss_code_instructions.proofs.Looking.{owner_is, bearer_join}
use Rattle.ss_code_instructions.proofs.Members.{LooksFirst, looked_join, member_owner_run}
use Rattle.ss_code_instructions.proofs.Attributes.{err_first}

-- the code is that of the site's program
abbrev pub Sited : Code → Site → Type 0
Sited code t = code.setting ≡ setting_of t.scope.program

filed_first_looks : (f : Filing) (set : ℕ) → LooksFirst set (filed_in f set)
filed_first_looks f set v o s kind q = err_first (member set v s) _ (Fails kind) q

-- where the code of a set's discipline files a member
abbrev position_by : Option Discipline → Filing
position_by None = ByRule
position_by (Some disciplines.Fifo) = Hindmost
position_by (Some disciplines.Lifo) = Foremost
position_by (Some (disciplines.Ranked keys)) = ByRule

-- filed alike once the member and the owner are known
filed_alike : (f : Filing) (set : ℕ) (s : Store) → ((m n : ℤ) → filed_by ByRule set m n s ≡ filed_by f set m n s) → (n m : OkOr ℤ Failure) → if_ok n (λ n. if_ok m (λ m. if_ok (filed_by ByRule set m n s) (recounted set m s))) ≡ if_ok n (λ n. if_ok m (λ m. if_ok (filed_by f set m n s) (recounted set m s)))
filed_alike f set s e (Err t) m = refl
filed_alike f set s e (Ok n) (Err t) = refl
filed_alike f set s e (Ok n) (Ok m) = ap (λ r. if_ok r (recounted set m s)) (e m n)

-- that is where the discipline has it
by_rule : (d : Option Discipline) (set : ℕ) (x : Value) (o : Option Value) (s : Store) → slice_get s.world.setting.disciplines set ≡ d → filed_in ByRule set x o s ≡ filed_in (position_by d) set x o s
by_rule (Some disciplines.Fifo) set x o s q = filed_alike Hindmost set s (λ m n. ap (λ d. if_ok (sure d) (λ d. where_fit (is_fit s.world.heap.layout set d) (due (filed s.world.heap d set m n)))) q) (member set x s) (owner_number set o s)
by_rule (Some disciplines.Lifo) set x o s q = filed_alike Foremost set s (λ m n. ap (λ d. if_ok (sure d) (λ d. where_fit (is_fit s.world.heap.layout set d) (due (filed s.world.heap d set m n)))) q) (member set x s) (owner_number set o s)
by_rule _ set x o s q = refl

module _ (code : Code) (n : ℕ) where
  -- ## Where no other member is beside it

  alone_runs : (t : Site) (set : ℕ) (e : Expression) (o : SetOwner) (f : i.FilingPlace) (g : Filing) → ((x : Operand) (y : Bearer) (p : ℕ) (cells : List Value) (frames : List Frame) (s : Store) → act code t.line (i.File f set x y) (core_at p cells frames s) ≡ with_bearer y s cells (λ u above. with_operand_value x s above (λ v below. did t.line (filed_in g set v u s) (λ u. onward below (core_at p cells frames s) u)))) → (p : ℕ) (cells : List Value) (frames : List Frame) (w : RunState) → length cells ≡ height t → HasAt code.places p (looked_code t (may_fault (expression_of o)) e (i.LookMember set) ++ with_owner (after t e) o (i.File f set (operand t e))) → Within code n w → Reaches code (at p cells frames w) (arrive (λ (u : Unit {0}) w'. at (p + length (looked_code t (may_fault (expression_of o)) e (i.LookMember set) ++ with_owner (after t e) o (i.File f set (operand t e)))) cells frames w') frames (outcome_then (look t.line (member_value set e) w) (λ v w. outcome_then (look t.line (owner_value o) w) (λ u. change t.line (filed_in g set v u)))))
  alone_runs t set e o f g acts p cells frames w high has in_ =
      let all : List Placed = looked_code t (may_fault (expression_of o)) e (i.LookMember set) ++ with_owner (after t e) o (i.File f set (operand t e)) in
      let ends : Unit {0} → RunState → MachineState = λ u w'. at (p + length all) cells frames w' in
      let next : ℕ → List Value → List Frame → Store → List Value → Store → Moved = λ p cells frames s below u. onward below (core_at p cells frames s) u in
      member_owner_run code n {A = Store} {B = Unit {0}} t set e o (i.File f set) (filed_in g set) next ends settle (filed_first_looks g set) (λ x y. refl) acts p cells frames w high has in_ (λ q cells0 u end.
      onwards (subst (λ j. Reaches code (at (q + 1) cells frames (record w { store = u })) (Comes (at j cells frames (record w { store = u })))) end here))

  -- by the discipline of the set
  rule_is : (t : Site) (set : ℕ) (o : SetOwner) (d : Option Discipline) (w : RunState) (r : OkOr Value Failure) → slice_get w.store.world.setting.disciplines set ≡ d → outcome_then (looked t.line r w) (λ v w. outcome_then (look t.line (owner_value o) w) (λ u. change t.line (filed_in (position_by d) set v u))) ≡ outcome_then (looked t.line r w) (λ v w. outcome_then (look t.line (owner_value o) w) (λ u. change t.line (filed_in ByRule set v u)))
  rule_is t set o d w (Err (Fails kind)) q = refl
  rule_is t set o d w (Err TypeError) q = refl
  rule_is t set o d w (Ok v) q = by (owner_value o w.store)
    where
      by : (r : OkOr (Option Value) Failure) → outcome_then (looked t.line r w) (λ u. change t.line (filed_in (position_by d) set v u)) ≡ outcome_then (looked t.line r w) (λ u. change t.line (filed_in ByRule set v u))
      by (Err (Fails kind)) = refl
      by (Err TypeError) = refl
      by (Ok u) = ap (λ z. outcome_then (looked t.line z w) settle) (sym (by_rule d set v u w.store q))

  ruled_runs : (t : Site) (set : ℕ) (e : Expression) (o : SetOwner) (d : Option Discipline) (p : ℕ) (cells : List Value) (frames : List Frame) (w : RunState) → slice_get w.store.world.setting.disciplines set ≡ d → length cells ≡ height t → HasAt code.places p (looked_code t (may_fault (expression_of o)) e (i.LookMember set) ++ with_owner (after t e) o (i.File (filing_by d) set (operand t e))) → Within code n w → Reaches code (at p cells frames w) (arrive (λ (u : Unit {0}) w'. at (p + length (looked_code t (may_fault (expression_of o)) e (i.LookMember set) ++ with_owner (after t e) o (i.File (filing_by d) set (operand t e)))) cells frames w') frames (outcome_then (look t.line (member_value set e) w) (λ v w. outcome_then (look t.line (owner_value o) w) (λ u. change t.line (filed_in ByRule set v u)))))
  ruled_runs t set e o d p cells frames w q high has in_ =
      subst (λ z. Reaches code (at p cells frames w) (arrive (λ (u : Unit {0}) w'. at (p + length (looked_code t (may_fault (expression_of o)) e (i.LookMember set) ++ with_owner (after t e) o (i.File (filing_by d) set (operand t e)))) cells frames w') frames z)) (rule_is t set o d w (member_value set e w.store) q)
      (alone_runs t set e o (filing_by d) (position_by d) (acts d) p cells frames w high has in_)
    where
      acts : (d : Option Discipline) (x : Operand) (y : Bearer) (p : ℕ) (cells : List Value) (frames : List Frame) (s : Store) → act code t.line (i.File (filing_by d) set x y) (core_at p cells frames s) ≡ with_bearer y s cells (λ u above. with_operand_value x s above (λ v below. did t.line (filed_in (position_by d) set v u s) (λ u. onward below (core_at p cells frames s) u)))
      acts None x y p cells frames s = refl
      acts (Some disciplines.Fifo) x y p cells frames s = refl
      acts (Some disciplines.Lifo) x y p cells frames s = refl
      acts (Some (disciplines.Ranked keys)) x y p cells frames s = refl

  -- ## Directly before or after another member

  beside_runs : (t : Site) (set : ℕ) (e y : Expression) (o : SetOwner) (f : Operand → i.FilingPlace) (g : Value → Filing) → ((x z : Operand) (b : Bearer) (p : ℕ) (cells : List Value) (frames : List Frame) (s : Store) → act code t.line (i.File (f z) set x b) (core_at p cells frames s) ≡ with_bearer b s cells (λ u over. with_operand_value z s over (λ k above. with_operand_value x s above (λ v below. did t.line (filed_in (g k) set v u s) (λ u. onward below (core_at p cells frames s) u))))) → (p : ℕ) (cells : List Value) (frames : List Frame) (w : RunState) → length cells ≡ height t → HasAt code.places p (member_code t true set e ++ (member_code (after t e) true set y ++ with_owner (after (after t e) y) o (i.File (f (operand (after t e) y)) set (operand t e)))) → Within code n w → Reaches code (at p cells frames w) (arrive (λ (u : Unit {0}) w'. at (p + length (member_code t true set e ++ (member_code (after t e) true set y ++ with_owner (after (after t e) y) o (i.File (f (operand (after t e) y)) set (operand t e))))) cells frames w') frames (outcome_then (look t.line (member_value set e) w) (λ v w. outcome_then (look t.line (λ s. turned g (member_value set y s)) w) (λ h w. outcome_then (look t.line (owner_value o) w) (λ u. change t.line (filed_in h set v u))))))
  beside_runs t set e y o f g acts p cells frames w high has in_ =
      let t1 : Site = after t e in
      let t2 : Site = after t1 y in
      let x : Option Expression = expression_of o in
      let ce : List Placed = member_code t true set e in
      let cy : List Placed = member_code t1 true set y in
      let co : List Placed = bearer_code t2 x in
      let last : Placed = place (after_bearer t2 x) (i.File (f (operand t1 y)) set (operand t e) (bearer t2 x)) in
      let all : List Placed = ce ++ (cy ++ (co ++ last ∷ [])) in
      let end : p + length ce + length cy + length co + 1 ≡ p + length all = omega (arith, length-append ce (cy ++ (co ++ last ∷ [])), length-append cy (co ++ last ∷ []), length-append co (last ∷ [])) in
      let ends : Unit {0} → RunState → MachineState = λ u w'. at (p + length all) cells frames w' in
      let then_ : Value → Filing → Part (Unit {0}) = λ v h w. outcome_then (look t.line (owner_value o) w) (λ u. change t.line (filed_in h set v u)) in
      looked_join code n t e (i.LookMember set) (member set) (λ x. refl) (λ x p cells frames s. refl) (cy ++ (co ++ last ∷ [])) ends (λ v w. outcome_then (look t.line (λ s. turned g (member_value set y s)) w) (then_ v)) p cells frames w high has in_ (λ v found_v has1.
      let c1 : List Value = held (leaf e) v cells in
      let high1 : length c1 ≡ height t1 = held_height t e v cells high in
      subst (λ z. Reaches code (at (p + length ce) c1 frames w) (arrive ends frames z)) (turned_then t.line (member_value set y w.store) g (then_ v) w)
      (looked_join code n t1 y (i.LookMember set) (member set) (λ x. refl) (λ x p cells frames s. refl) (co ++ last ∷ []) ends (λ k. then_ v (g k)) (p + length ce) c1 frames w high1 has1 in_ (λ k found_k has2.
      let c2 : List Value = held (leaf y) k c1 in
      let high2 : length c2 ≡ height t2 = held_height t1 y k c1 high1 in
      subst (λ r. Reaches code (at (p + length ce + length cy) c2 frames w) (arrive ends frames (outcome_then (looked t.line r w) (λ u. change t.line (filed_in (g k) set v u))))) (sym (owner_is o w.store))
      (bearer_join code n t2 x (last ∷ []) ends (λ u. change t.line (filed_in (g k) set v u)) (p + length ce + length cy) c2 frames w high2 has2 in_ (λ u on_top r found has3.
      let q : ℕ = p + length ce + length cy + length co in
      step_leads code last (core_at q (on_top c2) frames w.store) w _ _ has3.0 refl
      (acts (operand t e) (operand t1 y) (bearer t2 x) q (on_top c2) frames w.store
      ∙ found.reads c2 (λ u over. with_operand_value (operand t1 y) w.store over (λ k above. with_operand_value (operand t e) w.store above (λ v below. did t.line (filed_in (g k) set v u w.store) (λ s. onward below (core_at q (on_top c2) frames w.store) s)))) high2
      ∙ reads t1 y k w.store c1 (λ k above. with_operand_value (operand t e) w.store above (λ v below. did t.line (filed_in (g k) set v u w.store) (λ s. onward below (core_at q (on_top c2) frames w.store) s))) high1 found_k
      ∙ reads t e v w.store cells (λ v below. did t.line (filed_in (g k) set v u w.store) (λ s. onward below (core_at q (on_top c2) frames w.store) s)) high found_v)
      (did_leads code t.line (filed_in (g k) set v u w.store) (λ s. onward cells (core_at q (on_top c2) frames w.store) s) w ends frames settle (λ s done_.
      onwards (subst (λ j. Reaches code (at (q + 1) cells frames (record w { store = s })) (Comes (at j cells frames (record w { store = s })))) end here))))))))

  pub file_runs : (t : Site) (set : ℕ) (e : Expression) (position : Position) (o : SetOwner) → Sited code t → Runs code n (height t) same (file_code t set e position o) done (file t.line set e position o)
  file_runs t set e ByDiscipline o fits = record {
    by = λ p cells frames w high has in_.
        ruled_runs t set e o (slice_get t.scope.program.disciplines set) p cells frames w (ap (λ (s : Setting). slice_get s.disciplines set) (in_.says.0 ∙ fits)) high has in_;
  }
  file_runs t set e AsFirst o fits = record { by = λ p cells frames w high has in_. alone_runs t set e o i.First Foremost (λ x y p cells frames s. refl) p cells frames w high has in_ }
  file_runs t set e AsLast o fits = record { by = λ p cells frames w high has in_. alone_runs t set e o i.Last Hindmost (λ x y p cells frames s. refl) p cells frames w high has in_ }
  file_runs t set e (BeforeMember y) o fits = record { by = λ p cells frames w high has in_. beside_runs t set e y o i.Before JustBefore (λ x z b p cells frames s. refl) p cells frames w high has in_ }
  file_runs t set e (AfterMember y) o fits = record { by = λ p cells frames w high has in_. beside_runs t set e y o i.After JustAfter (λ x z b p cells frames s. refl) p cells frames w high has in_ }
