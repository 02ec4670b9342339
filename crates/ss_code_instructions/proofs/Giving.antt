-- The code of several values, which lie in cells, one above the other.
use Rattle.std.proofs.Common.{ℕ, suc, ◌+◌, List, [], ◌∷◌, length, Ok, Err, ap}
use Rattle.std.specs.Prelude.{Result as OkOr}
use Rattle.ss_code_instructions.proofs.Common.{Code, Expression, Fails, Failure, Frame, Line, look, looked, MachineState, Placed, RunState, Store, turned, TypeError, Value, value, values}
use Rattle.ss_code_instructions.specs.Translation.{expression_mode, height, Site, values_code, above as with_cell}
use Rattle.ss_code_instructions.proofs.Steps.{Reaches, at, arrive}
use Rattle.ss_code_instructions.proofs.Parts.{Runs, same, put_on, onto, none, seq_look, above}
use Rattle.ss_code_instructions.proofs.Expressions.{value_runs}

module _ (code : Code) (n : ℕ) where
  -- a look whose result is turned
  pub turned_runs : {A B : Type 0} {h : ℕ} {before : List Value → List Value} {c : List Placed} (after : B → List Value → List Value) (f : A → B) (l : Line) (g : Store → OkOr A Failure) → Runs code n h before c (λ a. after (f a)) (look l g) → Runs code n h before c after (look l (λ s. turned f (g s)))
  turned_runs {A} {before = before} {c = c} after f l g r = record {
    by = λ p cells frames w high has in_. by (at p (before cells) frames w) (p + length c) cells frames w (g w.store) (r.by p cells frames w high has in_);
  }
    where
      by : (s : MachineState) (q : ℕ) (cells : List Value) (frames : List Frame) (w : RunState) (o : OkOr A Failure) → Reaches code s (arrive (λ a w'. at q (after (f a) cells) frames w') frames (looked l o w)) → Reaches code s (arrive (λ b w'. at q (after b cells) frames w') frames (looked l (turned f o) w))
      by s q cells frames w (Ok a) r = r
      by s q cells frames w (Err (Fails kind)) r = r
      by s q cells frames w (Err TypeError) r = r

  pub values_run : (t : Site) (es : List Expression) → Runs code n (height t) same (values_code t es) onto (look t.line (values es))
  values_run t [] = none code n (height t) {after = onto} []
  values_run t (e ∷ es) =
      seq_look code n (height t) t.line (value e) (λ v s. turned (λ vs. v ∷ vs) (values es s)) (value_runs code n t e) (λ v.
      turned_runs onto (λ vs. v ∷ vs) t.line (values es)
      (above code n (height t) (put_on v) (suc (height t)) (λ cells q. ap suc q) (values_run (with_cell t (expression_mode t.scope e)) es)))
