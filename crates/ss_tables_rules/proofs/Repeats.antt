-- What may be said once, by a table of what was said.
use Rattle.std.proofs.Common.{◌≡◌, ℕ, ◌+◌, ◌<◌, Bool, List, ◌∷◌, length, get_or, drop, Option, refl, sym, ap, ◌∙◌}
use Rattle.ss_tables_rules.proofs.Common.{again, Declaration, earlier, earlier_of, earlier_of_list, fold, fold-append, once_added, once_of, repeats_after, Table, table_error_order, TableError}
use Rattle.std.proofs.Math.Bool.{and_comm}
use Rattle.std.proofs.lemmas.List.{at_drop_more}
use Rattle.std.specs.List.{list_any}
use Rattle.ss_tables_rules.specs.contracts.once.OncePartialEq.TheImpl as once_eq
use Rattle.ss_tables_rules.specs.declared.once.Once.{Once}
use Rattle.ss_tables_rules.specs.declared.once.Once.TheVariants as o
use Rattle.ss_names_declarations.specs.NameTable.{same_name}
use Rattle.ss_tables_rules.specs.Once.{is_among, same_once}
use Rattle.std.specs.Prelude.{nat_eq, option_to_list}

-- what `==` says of two of these
abbrev equal : Once → Once → Bool
equal = (once_eq.ghosts).eq

equal_same : (a b : Once) → equal a b ≡ same_once a b
equal_same o.Normally o.Normally = refl
equal_same o.PriorityOrder o.PriorityOrder = refl
equal_same o.Main o.Main = refl
equal_same (o.Owner a) (o.Owner b) = refl
equal_same (o.Member a) (o.Member b) = refl
equal_same (o.Order a) (o.Order b) = refl
equal_same (o.Mode a) (o.Mode b) = refl
equal_same (o.Priority a) (o.Priority b) = refl
equal_same (o.Ties a) (o.Ties b) = refl
equal_same (o.Event a) (o.Event b) = refl
equal_same (o.Subject a) (o.Subject b) = refl
equal_same (o.Parameter a s) (o.Parameter b t) = and_comm (same_name a b) (nat_eq s t)
equal_same (o.Local a s) (o.Local b t) = and_comm (same_name a b) (nat_eq s t)
equal_same _ _ = refl

pub among : (said : List Once) (once : Once) → list_any (equal once) said ≡ is_among said once
among said once = λ i. list_any (λ s. equal_same once s i) said

-- ---- one declaration more

pub repeat_more : (t : Table) (said after : List Once) (found next total : Option TableError) (ds : List Declaration) (i : ℕ) (x : Declaration) → i < length ds → x ≡ get_or ds i x
    → next ≡ earlier_of table_error_order found (again said x.line x.what (once_of t x.what)) → after ≡ once_added said (once_of t x.what)
    → fold (earlier table_error_order) found (repeats_after t said (drop i ds)) ≡ total → fold (earlier table_error_order) next (repeats_after t after (drop (i + 1) ds)) ≡ total
repeat_more t said after found next total ds i x lt is n a h =
    let rest = drop (i + 1) ds in
    let once = once_of t x.what in
    let breach = again said x.line x.what once in
    (λ k. fold (earlier table_error_order) (n k) (repeats_after t (a k) rest))
    ∙ ap (λ (b : Option TableError). fold (earlier table_error_order) b (repeats_after t (once_added said once) rest)) (earlier_of_list table_error_order found breach)
    ∙ sym (fold-append (earlier table_error_order) found (option_to_list breach) (repeats_after t (once_added said once) rest))
    ∙ ap (λ (y : Declaration). fold (earlier table_error_order) found (repeats_after t said (y ∷ rest))) is
    ∙ sym (at_drop_more (λ (l : List Declaration). fold (earlier table_error_order) found (repeats_after t said l)) ds i x lt)
    ∙ h
