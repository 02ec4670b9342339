-- The member that comes next to another one in the set of an owner.
use Rattle.std.proofs.Common.{◌≡◌, ℕ, ◌+◌, ◌<◌, Bool, true, false, length, slice_get, Some, Ok, Err, refl, sym, ap, ◌∙◌}
use Rattle.std.specs.Prelude.{ℤ, pos, negsuc, is_some, Result}
use Rattle.ss_records_entities.proofs.Common.{and_then, CanJoin, cast_signed, Class, ClassKind, contains, contains_in, entity_of_kind, EntityBlock, false_is_not_true, FaultKind, get_there, in_contains, is_filed, IsInList, IsKept, joiner, kind_of, link, MayOwn, member_base, member_test, members_of, Notice, number, number_in, Owner, owner, owner_by, owner_in, owner_kind, owner_of, Permanent, places, Record, Records, SetLayout, State, state, System, Temporary, word_at}
use mir.Syntax.{w64}
use Rattle.ss_records_entities.proofs.Looks.{as_whole, owner_has, owner_small}
use Rattle.ss_records_entities.proofs.Ends.{tested}
use Rattle.ss_records_entities.proofs.Apart.{is_entity, sets_apart}

-- ## What an owner, and a member of its set, is

entity_number : (z : Result Record FaultKind) (n m : ℕ) → and_then z (λ r. Ok n) ≡ Ok m → n ≡ m
entity_number (Ok r) n m h = cc
entity_number (Err f) n m h = absurd cc

-- the reference to an entity that is there is its number
pub named_by : (st : State) (k : ClassKind) (c : ℕ) (o : ℤ) (m : ℕ) → and_then (entity_of_kind st k c o) (λ r. Ok (number_in o)) ≡ Ok m → o ≡ pos m
named_by st k c (pos n) m h = ap pos (entity_number (entity_of_kind st k c (pos n)) n m h)
named_by st Permanent c (negsuc n) m h = absurd cc
named_by st Temporary c (negsuc n) m h = absurd cc
named_by st Notice c (negsuc n) m h = absurd cc

owner_named : (st : State) (u : Owner) (o : ℤ) (m : ℕ) → (u ≡ System → o ≡ pos 0) → owner_by st u o ≡ Ok m → o ≡ pos m
owner_named st System o m zero h = let e : 0 ≡ m = cc in zero refl ∙ ap pos e
owner_named st (Class c) o m zero h = named_by st (kind_of st.layout c) c o m h

one_owner : (n m : ℕ) → Some n ≡ Some m → n ≡ m
one_owner n m e = cc

its_test : (b : Bool) → (let r : Result Bool FaultKind = Ok b in r ≡ Ok true) → b ≡ true
its_test b h = cc

-- the owner of a set that has a member
owner_with : (st : State) (s : ℕ) (o : ℤ) (n : ℕ) (z : Result ℕ FaultKind) → owner st s o ≡ z → and_then z (λ m. Ok (contains (members_of st.lists s m) n)) ≡ Ok true → (m : ℕ) × (owner st s o ≡ Ok m) × IsInList n (members_of st.lists s m)
owner_with st s o n (Ok m) e h = (m, e, contains_in (members_of st.lists s m) n (its_test (contains (members_of st.lists s m) n) h))
owner_with st s o n (Err f) e h = absurd cc

has_owner : (st : State) (s : ℕ) (o x : ℤ) (n : ℕ) → joiner st s x ≡ Ok n → member_test st s o x ≡ Ok true → (m : ℕ) × (owner st s o ≡ Ok m) × IsInList n (members_of st.lists s m)
has_owner st s o x n j h = owner_with st s o n (owner st s o) refl (sym (ap (λ z. and_then z (λ k. and_then (owner st s o) (λ m. Ok (contains (members_of st.lists s m) k)))) j) ∙ h)

module _ (r : Records) (K : IsKept r) (s : ℕ) (inside : s < length r.layout.sets) where
  -- whoever has a member is an owner
  pub owner_is : (o x : ℕ) → IsInList x (members_of r.notes.lists s o) → owner (state r) s (pos o) ≡ Ok o
  owner_is o x h =
      let y = get_there r.layout.sets s inside in
      ap (λ u. owner_by (state r) u (pos o)) (ap owner_in y.1) ∙ by_owner y.0.owner ((K.names s y.0 y.1).members o x h).2 where
        by_owner : (u : Owner) → MayOwn r.blocks.cells (places r) u o → owner_by (state r) u (pos o) ≡ Ok o
        by_owner System m = sym (ap Ok m)
        by_owner (Class c) m = is_entity r.layout r.blocks.cells r.system.at (places r) r.notes.lists K c o m

  -- the set that has a member is the one set of the name that has it
  sole_owner : (o x : ℤ) (n : ℕ) → joiner (state r) s x ≡ Ok n → member_test (state r) s o x ≡ Ok true → (m : ℕ) × (owner (state r) s o ≡ Ok m) × (owner_of r.notes.lists s n ≡ Some m)
  sole_owner o x n j t =
      let a = has_owner (state r) s o x n j t in
      (a.0, a.1, (sets_apart r.layout r.blocks.cells r.system.at (places r) r.notes.lists K).sole s a.0 n inside a.2)

  -- where an entity is in no set of the name
  pub in_none : (o x : ℤ) (n : ℕ) → is_filed r.notes.lists s n ≡ false → joiner (state r) s x ≡ Ok n → member_test (state r) s o x ≡ Ok true → ⊥
  in_none o x n free j t = let a = sole_owner o x n j t in false_is_not_true (sym free ∙ ap is_some a.2)

  module _ (e : EntityBlock) (h : CanJoin r s e) (b : ℕ) (base : (u : SetLayout) → slice_get r.layout.sets s ≡ Some u → b ≡ member_base r.layout s u) where
    -- the owner that was read, where it is in a set
    module _ (filed : is_filed r.notes.lists s e.number ≡ true) (q : EntityBlock) (w : word_at r.blocks.cells e.place.at (b + 2) ≡ link q.place.at) (v : word_at r.blocks.cells q.place.at 1 ≡ number q.number) where
      pub in_its : (o x : ℤ) → joiner (state r) s x ≡ Ok e.number → cast_signed w64 q.number ≡ o → member_test (state r) s o x ≡ Ok true
      in_its o x j is =
          let i = (owner_has r K s inside e h b base filed q w v).1 in
          let z : pos q.number ≡ o = sym (as_whole q.number q.number refl (owner_small r K s inside e h b base filed q w v)) ∙ is in
          let own : owner (state r) s o ≡ Ok q.number = ap (owner (state r) s) (sym z) ∙ owner_is q.number e.number i in
          sym (tested (state r) s o x e.number q.number true j own (sym (in_contains (members_of r.notes.lists s q.number) e.number i)))

      -- whoever has it is that owner
      pub its_only : (o x : ℤ) → (owner_kind r.layout s ≡ System → o ≡ pos 0) → joiner (state r) s x ≡ Ok e.number → member_test (state r) s o x ≡ Ok true → cast_signed w64 q.number ≡ o
      its_only o x zero j t =
          let a = sole_owner o x e.number j t in
          let same : q.number ≡ a.0 = one_owner q.number a.0 (sym (owner_has r K s inside e h b base filed q w v).0 ∙ a.2) in
          as_whole q.number q.number refl (owner_small r K s inside e h b base filed q w v) ∙ ap pos same ∙ sym (owner_named (state r) (owner_kind r.layout s) o a.0 zero a.1)
