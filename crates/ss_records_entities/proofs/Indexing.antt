-- A permanent entity by its index.
use Rattle.std.proofs.Common.{◌≡◌, ℕ, zero, suc, List, [], ◌∷◌, map, slice_get, Option, Some, None, Ok, Err, inr, refl, sym, ap, ◌∙◌}
use Rattle.ss_records_entities.proofs.Common.{BlockPlace, Cells, ClassKind, Directory, FaultKind, IsEntityPlace, IsKept, Layout, Made, MatchResult, negsuc, Notice, Permanent, places, pos, record_of, Records, records_at, Result, row_in, state, Temporary, words_at, ℤ}
use Rattle.ss_records_words.specs.Kept.{IsPermanent, state_of, place_or, indexed_place}
use Rattle.ss_world.specs.State.{entity_in, entity_of_kind, kind_of, Members, State, indexed, indexed_record, records_in}
use Rattle.ss_records_entities.proofs.Keeps.{read_place}

pub of_permanent : (st : State) (k : ClassKind) (c : ℕ) (x : ℤ) → IsPermanent k → entity_of_kind st k c x ≡ indexed st c x
of_permanent st Permanent c x h = refl
of_permanent st Temporary c x h = absurd h
of_permanent st Notice c x h = absurd h

row_read : (l : Layout) (cs : Cells) (ps : List BlockPlace) (i : ℕ) → indexed_record (slice_get (map (λ (p : BlockPlace). record_of l (words_at cs p.at)) ps) i) ≡ read_place l cs (place_or (slice_get ps i))
row_read l cs [] i = refl
row_read l cs (p ∷ ps) zero = refl
row_read l cs (p ∷ ps) (suc i) = row_read l cs ps i

rows_are : (l : Layout) (cs : Cells) (ms : Made) (c : ℕ) → records_in (slice_get (map (records_at l cs) ms) c) ≡ map (λ (p : BlockPlace). record_of l (words_at cs p.at)) (row_in (slice_get ms c))
rows_are l cs [] c = refl
rows_are l cs (None ∷ ms) zero = refl
rows_are l cs (Some ps ∷ ms) zero = refl
rows_are l cs (m ∷ ms) (suc c) = rows_are l cs ms c

pub indexed_is : (l : Layout) (cs : Cells) (d : Directory) (ms : List Members) (c : ℕ) (x : ℤ) → indexed (state_of l cs d ms) c x ≡ read_place l cs (indexed_place (row_in (slice_get d.classes c)) x)
indexed_is l cs d ms c (pos zero) = refl
indexed_is l cs d ms c (pos (suc i)) = ap (λ rs. indexed_record (slice_get rs i)) (rows_are l cs d.classes c) ∙ row_read l cs (row_in (slice_get d.classes c)) i
indexed_is l cs d ms c (negsuc k) = refl

pub indexed_there : (l : Layout) (cs : Cells) (d : Directory) (ms : List Members) (c : ℕ) (ps : List BlockPlace) (i : ℕ) (p : BlockPlace) → slice_get d.classes c ≡ Some (Some ps) → slice_get ps i ≡ Some p → indexed (state_of l cs d ms) c (pos (suc i)) ≡ Ok (record_of l (words_at cs p.at))
indexed_there l cs d ms c ps i p m h = indexed_is l cs d ms c (pos (suc i)) ∙ ap (λ o. read_place l cs (place_or (slice_get (row_in o) i))) m ∙ ap (λ o. read_place l cs (place_or o)) h

at_index : (ps : List BlockPlace) (x : ℤ) (p : BlockPlace) → indexed_place ps x ≡ Ok p → (i : ℕ) × (x ≡ pos (suc i)) × (slice_get ps i ≡ Some p)
at_index ps (pos zero) p h = cc
at_index ps (pos (suc i)) p h = (i, refl, is_there (slice_get ps i) h) where
  is_there : (o : Option BlockPlace) → place_or o ≡ Ok p → o ≡ Some p
  is_there None k = cc
  is_there (Some q) k = let e : q ≡ p = cc in ap Some e
at_index ps (negsuc k) p h = cc

pub of_row : (o : Option (Option (List BlockPlace))) (i : ℕ) (p : BlockPlace) → slice_get (row_in o) i ≡ Some p → (ps : List BlockPlace) × (o ≡ Some (Some ps)) × (slice_get ps i ≡ Some p)
of_row None i p h = cc
of_row (Some None) i p h = cc
of_row (Some (Some ps)) i p h = (ps, refl, h)

module _ (r : Records) (K : IsKept r) (c : ℕ) (x : ℤ) (kind : IsPermanent (kind_of r.layout c)) where
  by_index : entity_in (state r) c x ≡ read_place r.layout r.blocks.cells (indexed_place (row_in (slice_get (places r).classes c)) x)
  by_index = of_permanent (state r) (kind_of r.layout c) c x kind ∙ indexed_is r.layout r.blocks.cells (places r) r.notes.lists c x

  found_at : (p : BlockPlace) → indexed_place (row_in (slice_get (places r).classes c)) x ≡ Ok p → IsEntityPlace r c x p
  found_at p h =
      let a = at_index (row_in (slice_get (places r).classes c)) x p h in
      let o = of_row (slice_get (places r).classes c) a.0 p a.2 in
      record { index = a.0; is = a.1; entry = inr (c, o.0, o.1, o.2); class = (K.made c o.0 o.1).class a.0 p o.2; entity = by_index ∙ ap (read_place r.layout r.blocks.cells) h }

  pub find_indexed : (v : Result BlockPlace FaultKind) → v ≡ indexed_place (row_in (slice_get (places r).classes c)) x → MatchResult v (λ p. IsEntityPlace r c x p) (λ e. entity_in (state r) c x ≡ Err e)
  find_indexed (Ok p) h = found_at p (sym h)
  find_indexed (Err e) h = by_index ∙ ap (read_place r.layout r.blocks.cells) (sym h)
