-- What rules on declarations say where they aren't broken.
use Rattle.std.proofs.Common.{◌≡◌, Bool, true, false, List, [], ◌∷◌, None, refl, Option, Some}
use Rattle.std.specs.Prelude.{if◌then◌else◌}
use Rattle.std.specs.List.{AllByRecursion as Every}
use Rattle.ss_names_laws.proofs.Common.{broken_by, broken_in, Declaration, declarations, Declared, given_by, Line, NameBytes, option_or, ProgramTree, refusal_of_declarations, table, unless, value_for}
use Rattle.ss_tables_rules.specs.declared.error.TableError.{TableError}
use Rattle.ss_names_laws.proofs.Each.{every_piece}
use Rattle.ss_names_laws.proofs.Items.{at_item}
use Rattle.ss_names_laws.proofs.Kept.{none_broken}
use Rattle.ss_names_laws.proofs.NameTable.{value_among}

pub holds_unless : {E : Type 0} (b : Bool) (breach : E) → unless b breach ≡ None → b ≡ true
holds_unless true breach h = refl
holds_unless false breach h = absurd cc

pub first_holds : {E : Type 0} (b : Bool) (o : Option E) (breach : E) → (if b then o else Some breach) ≡ None → (b ≡ true) × (o ≡ None)
first_holds true o breach h = (refl, h)
first_holds false o breach h = absurd cc

pub first_fails : {E : Type 0} (b : Bool) (o : Option E) (breach : E) → (if b then Some breach else o) ≡ None → (b ≡ false) × (o ≡ None)
first_fails true o breach h = absurd cc
first_fails false o breach h = (refl, h)

-- of two rules
pub two_fit : (a b : Bool) (first second : TableError) → option_or (unless a first) (unless b second) ≡ None → (a ≡ true) × (b ≡ true)
two_fit true b first second h = (refl, holds_unless b second h)
two_fit false b first second h = absurd cc

pub none_breaks : (b : Bool) (breach : TableError) → (if b then breach ∷ [] else []) ≡ [] → b ≡ false
none_breaks true breach h = absurd cc
none_breaks false breach h = refl

-- what declarations that break no rule give
pub every_given : (p : ProgramTree) → refusal_of_declarations p ≡ None → {A : Type 0} (P : A → Type 0) (f : Declared → List A) →
    ((line : Line) (w : Declared) → broken_in (table p) line w ≡ None → Every P (f w)) → Every P (given_by f (declarations p))
every_given p kept P f rule =
    every_piece P (λ (x : Declaration). f x.what) (declarations p)
    (λ x a. rule x.line x.what (at_item (λ (y : Declaration). broken_by (table p) y ≡ None) (declarations p) x (none_broken p kept) a))

-- and of their entries the one for a name
pub given_so : (p : ProgramTree) → refusal_of_declarations p ≡ None → {V : Type 0} (P : NameBytes × V → Type 0) (f : Declared → List (NameBytes × V)) →
    ((line : Line) (w : Declared) → broken_in (table p) line w ≡ None → Every P (f w)) → (name : NameBytes) (v : V) → value_for (given_by f (declarations p)) name ≡ Some v → P (name, v)
given_so p kept P f rule name v is = at_item P (given_by f (declarations p)) (name, v) (every_given p kept P f rule) (value_among (given_by f (declarations p)) name v is)
