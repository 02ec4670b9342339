-- Walking along a set from member to member.
use Rattle.std.proofs.Common.{◌≡◌, ℕ, Bool, suc, ◌+◌, ◌≤◌, ◌<◌, true, false, List, [], ◌∷◌, ◌++◌, length, arith, Ok, Err, refl, sym, ap, subst, ◌∙◌, append_assoc, w64, to_z}
use Rattle.std.proofs.lemmas.Int.{ints}
use Rattle.ss_sets.proofs.Common.{and_then, AreMembersApart, FaultKind, first_where, before_where, head0, IsInList, IsOk, MatchResult, member_class, owned, owner, pos, RankKey, Result, State, ℤ}
use Rattle.ss_records.proofs.Same.{same, differs}
use Rattle.ss_records.proofs.Splice.{not_in_mid, head_in}
use Rattle.ss_sets.specs.declared.ranking.Rank.{Rank}
use Rattle.ss_sets.specs.Walks.{IsRankIn}
use Rattle.std.proofs.lemmas.List.Elements.{All-tail}
use Rattle.ss_world.specs.Lists.{AreAllDistinct}
use Rattle.ss_world.specs.State.{members_of, modes_of}
use Rattle.ss_world.specs.Sets.{first_in, follower, joiner, next_in}
use Rattle.ss_world.specs.Disciplines.{AreFields, members_owned_by}

follower_at : (xs : List ℕ) (z : ℕ) (zs : List ℕ) → AreAllDistinct (xs ++ z ∷ zs) → follower z (xs ++ z ∷ zs) ≡ head0 zs
follower_at [] z zs d = rw (same z) refl
follower_at (v ∷ vs) z zs d = rw (differs v z (λ q. not_in_mid v vs z zs d.0 (sym q))) (follower_at vs z zs d.1)

-- what a call for the first member finds
pub first_found : (st : State) (s : ℕ) (r : Result ℕ FaultKind) (q : Result ℤ FaultKind) → q ≡ and_then r (λ n. Ok (pos (head0 (members_of st.lists s n)))) → MatchResult q (λ y. IsOk r × (y ≡ pos (head0 (members_owned_by st s r)))) (λ e. r ≡ Err e)
first_found st s (Ok m) (Ok y) h = let e : y ≡ pos (head0 (members_of st.lists s m)) = cc in (refl, e)
first_found st s (Ok m) (Err e) h = cc
first_found st s (Err f) (Ok y) h = cc
first_found st s (Err f) (Err e) h = let q : f ≡ e = cc in ap Err q

pub not_none : (n : ℕ) → (n ≡ 0 → ⊥) → to_z w64 n ≡ pos 0 → ⊥
not_none n h e = grind (arith, ints)

-- how far a walk for the first member by a test has come: it has passed the members xs, and is at the first of ys, or at the end
pub record Reached (st : State) (s : ℕ) (o : ℤ) (r : ℤ → Bool) (start total : ℕ) (y : ℤ) : Type 0 where
  pub xs : List ℕ
  pub ys : List ℕ
  pub list : owned st s o ≡ xs ++ ys
  pub first : y ≡ pos (head0 ys)
  pub found : first_where (λ n. r (pos n)) ys ≡ first_where (λ n. r (pos n)) (owned st s o)
  pub touches : total + before_where (λ n. r (pos n)) ys ≤ start + 1 + before_where (λ n. r (pos n)) (owned st s o)

pub started : (st : State) (s : ℕ) (o : ℤ) (r : ℤ → Bool) (start total : ℕ) (y : ℤ) → Ok y ≡ first_in st s o → total ≤ start + 1 → Reached st s o r start total y
started st s o r start total y h le = record { xs = []; ys = owned st s o; list = refl; first = (first_found st s (owner st s o) (Ok y) h).1; found = refl; touches = omega (arith, le) }

module _ (st : State) (A : AreMembersApart st) (s : ℕ) (inside : s < length st.layout.sets) where
  pub member_by : (r : Result ℕ FaultKind) (x : ℕ) → IsInList x (members_owned_by st s r) → (0 ≡ x → ⊥) × (joiner st s (pos x) ≡ Ok x)
  member_by (Ok m) x i = A.members s m x inside i
  member_by (Err e) x i = absurd i

  member_at : (r : Result ℕ FaultKind) (xs : List ℕ) (z : ℕ) (zs : List ℕ) → members_owned_by st s r ≡ xs ++ z ∷ zs → (0 ≡ z → ⊥) × (next_in st s (pos z) ≡ Ok (pos (head0 zs)))
  member_at (Ok m) xs z zs h =
      let i = subst (IsInList z) (sym h) (head_in xs z zs) in let is = A.members s m z inside i in
      (is.0, rw (is.1, A.sole s m z inside i, h) (ap (λ n. Ok (pos n)) (follower_at xs z zs (subst AreAllDistinct h (A.distinct s m inside)))))
  member_at (Err e) xs z zs h = absurd (subst (IsInList z) (sym h) (head_in xs z zs))

  module _ (o : ℤ) (r : ℤ → Bool) (start total : ℕ) (y : ℤ) (R : Reached st s o r start total y) where
    abbrev t : ℕ → Bool
    t n = r (pos n)

    pub at_end : y ≡ pos 0 → pos 0 ≡ pos (first_where t (owned st s o))
    at_end e = ap pos (sym (sym R.found ∙ none R.xs R.ys R.list (sym e ∙ R.first))) where
      none : (xs ys : List ℕ) → owned st s o ≡ xs ++ ys → pos 0 ≡ pos (head0 ys) → first_where t ys ≡ 0
      none xs [] h q = refl
      none xs (z ∷ zs) h q = let p : 0 ≡ z = cc in absurd ((member_at (owner st s o) xs z zs h).0 p)

    module _ (some : y ≡ pos 0 → ⊥) where
      here : (z : ℕ) × (zs : List ℕ) × (R.ys ≡ z ∷ zs) × (y ≡ pos z) × (next_in st s y ≡ Ok (pos (head0 zs)))
      here = at R.xs R.ys R.list R.first where
        at : (xs ys : List ℕ) → owned st s o ≡ xs ++ ys → y ≡ pos (head0 ys) → (z : ℕ) × (zs : List ℕ) × (ys ≡ z ∷ zs) × (y ≡ pos z) × (next_in st s y ≡ Ok (pos (head0 zs)))
        at xs [] h q = absurd (some q)
        at xs (z ∷ zs) h q = (z, zs, refl, q, ap (next_in st s) q ∙ (member_at (owner st s o) xs z zs h).1)

      -- a member is there
      pub never_lost : (e : FaultKind) → next_in st s y ≡ Err e → ⊥
      never_lost e h = let q = here.4 in cc

      pub stopped : true ≡ r y → y ≡ pos (first_where t (owned st s o))
      stopped e = here.3 ∙ ap pos (sym (sym R.found ∙ ap (first_where t) here.2 ∙ rw (sym (e ∙ ap r here.3)) refl))

      pub passed : false ≡ r y → (v : ℤ) → next_in st s y ≡ Ok v → (more : ℕ) → more ≡ total + 1 → Reached st s o r start more v
      passed e v n more m =
          let no = sym (e ∙ ap r here.3) in
          let one : before_where t (here.0 ∷ here.1) ≡ suc (before_where t here.1) = rw no refl in
          let q : Ok v ≡ Ok (pos (head0 here.1)) = sym n ∙ here.4 in
          record {
            xs = R.xs ++ here.0 ∷ [];
            ys = here.1;
            list = R.list ∙ ap (λ l. R.xs ++ l) here.2 ∙ sym (append_assoc R.xs (here.0 ∷ []) here.1);
            first = cc;
            found = sym (ap (first_where t) here.2 ∙ rw no refl) ∙ R.found;
            touches = omega (arith, R.touches, one, ap (before_where t) here.2);
          }

-- the other keys of a rank are fields too
pub others_fit : (st : State) (s : ℕ) (r : Rank) (others : List RankKey) → IsRankIn st s r others → AreFields st.layout r.class others
others_fit st s r others h = subst (λ n. AreFields st.layout n others) (sym h.class) (All-tail (λ (k : RankKey). k.field < length (modes_of st.layout (member_class st.layout s))) r.key others h.keys)
