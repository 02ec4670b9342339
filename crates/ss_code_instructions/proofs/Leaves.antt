-- Operands that stay: they lie above nothing, and are read later on.
use Rattle.std.proofs.Common.{◌≡◌, false, List, ◌∷◌, ◌++◌, length, Option, Some, None, Ok, refl, ap, ◌∙◌}
use Rattle.ss_code_instructions.proofs.Common.{Expression, fit, height, leaf, lies_above, Moved, Operand, operand, or_cell, Site, stay, Store, Value, value, with_operand_value}
use Rattle.ss_code_instructions.specs.Instructions as i
use Rattle.ss_code_instructions.proofs.Operands.{held, leaf_reads}
use Rattle.ss_code_instructions.proofs.Members.{leaf_stays}
use Rattle.ss_code_instructions.proofs.Receiving.{Alike, leaf_later}
use Rattle.ss_code_instructions.proofs.Stacked.{under_cell}

-- what stays lies above nothing
pub stay_low : (x y : Operand) → lies_above (stay x) y ≡ false
stay_low (i.Constant v) y = refl
stay_low _ y = refl

-- an operand that stays gives the same value later, under further cells
pub stay_later : (t : Site) (r : Expression) (y : Value) (s u : Store) (more cells : List Value) (go : Value → List Value → Moved) → length cells ≡ height t → value r s ≡ Ok y → Alike s u → with_operand_value (stay (operand t r)) u (more ++ held (leaf r) y cells) go ≡ go y (more ++ held (leaf r) y cells)
stay_later t r y s u more cells go h q a = by (leaf r) refl
  where
    by : (o : Option Operand) → leaf r ≡ o → with_operand_value (stay (or_cell (height t) o)) u (more ++ held o y cells) go ≡ go y (more ++ held o y cells)
    by (Some x) f =
        ap (λ z. with_operand_value z u (more ++ cells) go) (leaf_stays r x f)
        ∙ leaf_reads r x y u f (leaf_later r x s u f a ∙ q) (more ++ cells) go
    by None f = ap (λ o. fit o (λ v. go v (more ++ (y ∷ cells)))) (under_cell more (height t) y cells h)
