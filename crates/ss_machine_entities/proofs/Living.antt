-- The class of a living entity, by its creation number.
use Rattle.std.proofs.Common.{◌≡◌, ℕ, zero, suc, ℤ, Option, Some, None, Ok, Err, refl, ap, sym, ◌∙◌}
use Rattle.std.specs.Prelude.{pos, negsuc, slice_get, IfSome}
use Rattle.ss_base.specs.declared.fault.FaultKind.{FaultKind}
use Rattle.ss_records.specs.State.{State, Record, issued_record, numbered_record}
use Rattle.ss_records.specs.Classed.{HasClass}
use Rattle.ss_meaning.specs.Fitting.{class_of_record, living}

class_issued : (o : Option (Option Record)) (r : Record) → issued_record o ≡ Ok r → class_of_record o ≡ Some r.class
class_issued None r e = absurd cc
class_issued (Some None) r e = absurd cc
class_issued (Some (Some q)) r e = let same : q ≡ r = cc in ap (λ (r : Record). Some r.class) same

none_issued : (o : Option (Option Record)) (k : FaultKind) → issued_record o ≡ Err k → class_of_record o ≡ None
none_issued None k e = refl
none_issued (Some None) k e = refl
none_issued (Some (Some q)) k e = absurd cc

living_found : (h : State) (x : ℤ) (r : Record) → numbered_record h x ≡ Ok r → living h x ≡ Some r.class
living_found h (pos zero) r e = absurd cc
living_found h (pos (suc i)) r e = class_issued (slice_get h.records i) r e
living_found h (negsuc k) r e = absurd cc

living_none : (h : State) (x : ℤ) (k : FaultKind) → numbered_record h x ≡ Err k → living h x ≡ None
living_none h (pos zero) k e = refl
living_none h (pos (suc i)) k e = none_issued (slice_get h.records i) k e
living_none h (negsuc j) k e = refl

pub class_is : (h : State) (x : ℤ) (r : Option ℕ) → IfSome r (λ c. HasClass h x c) → (r ≡ None → (k : FaultKind) × (numbered_record h x ≡ Err k)) → r ≡ living h x
class_is h x (Some c) found none = sym (living_found h x found.seen found.found ∙ ap Some found.class)
class_is h x None found none = let k = none refl in sym (living_none h x k.0 k.1)
