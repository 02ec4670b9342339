-- What the functions above the blocks keep.
use Rattle.std.proofs.Common.{◌≡◌, ℕ, zero, suc, ◌<◌, ◌≤◌, true, false, List, [], ◌∷◌, map, length, slice_get, slice_set, Option, Some, None, Ok, Err, inl, inr, refl, sym, ap, subst, ◌∙◌, arith}
use Rattle.ss_records_entities.proofs.Common.{above_head, AreFormed, ArePartsKept, BlockPlace, Cells, class_at_place, class_in_words, differs, Directory, FaultKind, IsListedAt, IsMade, IsNameKept, IsNumber, IsOfName, IsPermanent, issued_place, IsWrittenAt, Layout, links_start, Made, negsuc, number, numbered_place, Numbers, own_or, plain, pos, record_at, record_of, records_at, Result, same, SetLayout, state_of, word_at, word_of, words_at, WrongClass, ℤ}
use denote.RawPtr.{Ptr}
use Rattle.ss_world.specs.State.{and_then, is_notice, kind_of, Members, numbered_record, of_class, Record, issued_record, of_notice, notice}
use Rattle.ss_records_blocks.proofs.Puts.{by_ptr}
use Rattle.ss_records_entities.proofs.NamesKept.{names_same}

abbrev pub read_place : Layout → Cells → Result BlockPlace FaultKind → Result Record FaultKind
read_place l cs (Ok p) = Ok (record_of l (words_at cs p.at))
read_place l cs (Err e) = Err e

issued_is : (l : Layout) (cs : Cells) (d : Numbers) (i : ℕ) → issued_record (slice_get (map (record_at l cs) d) i) ≡ read_place l cs (issued_place (slice_get d i))
issued_is l cs [] i = refl
issued_is l cs (None ∷ ps) zero = refl
issued_is l cs (Some p ∷ ps) zero = refl
issued_is l cs (e ∷ ps) (suc i) = issued_is l cs ps i

pub numbered_is : (l : Layout) (cs : Cells) (d : Directory) (ms : List Members) (x : ℤ) → numbered_record (state_of l cs d ms) x ≡ read_place l cs (numbered_place d.numbers x)
numbered_is l cs d ms (pos zero) = refl
numbered_is l cs d ms (pos (suc i)) = issued_is l cs d.numbers i
numbered_is l cs d ms (negsuc k) = refl

issued_there : (e : Option (Option BlockPlace)) (p : BlockPlace) → issued_place e ≡ Ok p → e ≡ Some (Some p)
issued_there None p h = cc
issued_there (Some None) p h = cc
issued_there (Some (Some q)) p h = let i : q ≡ p = cc in ap (λ r. Some (Some r)) i

-- a number that leads to a place is that of an entry
pub there : (d : Numbers) (x : ℤ) (p : BlockPlace) → numbered_place d x ≡ Ok p → (i : ℕ) × (x ≡ pos (suc i)) × (slice_get d i ≡ Some (Some p))
there d (pos zero) p h = cc
there d (pos (suc i)) p h = (i, refl, issued_there (slice_get d i) p h)
there d (negsuc k) p h = cc

at_least : (a b : ℕ) → (b < a → ⊥) → a ≤ b
at_least a b h = omega (arith, h)

pub entry_is : {p q : BlockPlace} → Some (Some p) ≡ Some (Some q) → p ≡ q
entry_is e = cc

-- a list where one place is set
pub get_put : {A : Type 0} (xs : List A) (i : ℕ) (v a : A) → slice_get xs i ≡ Some a → slice_get (slice_set xs i v) i ≡ Some v
get_put [] i v a h = cc
get_put (z ∷ zs) zero v a h = refl
get_put (z ∷ zs) (suc i) v a h = get_put zs i v a h

pub get_other : {A : Type 0} (xs : List A) (i : ℕ) (v : A) (j : ℕ) → (i ≡ j → ⊥) → slice_get (slice_set xs i v) j ≡ slice_get xs j
get_other [] i v j n = refl
get_other (z ∷ zs) zero v zero n = absurd (n refl)
get_other (z ∷ zs) zero v (suc j) n = refl
get_other (z ∷ zs) (suc i) v zero n = refl
get_other (z ∷ zs) (suc i) v (suc j) n = get_other zs i v j (λ e. n (ap suc e))

pub map_same : {A B : Type 0} (f g : A → B) (xs : List A) → ((j : ℕ) (a : A) → slice_get xs j ≡ Some a → g a ≡ f a) → map g xs ≡ map f xs
map_same f g [] o = refl
map_same f g (z ∷ zs) o = λ t. o zero z refl t ∷ map_same f g zs (λ j a m. o (suc j) a m) t

-- a list that is read as it was but for one place
map_set : {A B : Type 0} (f g : A → B) (xs : List A) (i : ℕ) (a : A) (v : B) → slice_get xs i ≡ Some a → g a ≡ v
    → ((j : ℕ) (b : A) → slice_get xs j ≡ Some b → (i ≡ j → ⊥) → g b ≡ f b) → map g xs ≡ slice_set (map f xs) i v
map_set f g [] i a v h k o = cc
map_set f g (z ∷ zs) zero a v h k o = let here : z ≡ a = cc in λ t. (ap g here ∙ k) t ∷ map_same f g zs (λ j b m. o (suc j) b m (λ n. absurd (omega (arith, n)))) t
map_set f g (z ∷ zs) (suc i) a v h k o = λ t. o zero z refl (λ n. absurd (omega (arith, n))) t ∷ map_set f g zs i a v h k (λ j b m n. o (suc j) b m (λ e. n (omega (arith, e)))) t

-- of what is listed of a class, where its own entities are not made or are as they were
pub by_own : (P : Numbers → Numbers → Type 0) (xs ys : Numbers) → P xs ys → ((zs : Numbers) → P zs zs) → (o : Option (Option (List BlockPlace))) → P (own_or xs o) (own_or ys o)
by_own P xs ys h r None = h
by_own P xs ys h r (Some None) = h
by_own P xs ys h r (Some (Some ps)) = r (map Some ps)

-- the record of a place
abbrev pub at_place : Layout → Cells → BlockPlace → Record
at_place l cs p = record_of l (words_at cs p.at)

-- the entities of creation numbers, and the permanent ones, where the words of each are read as they were
pub numbers_same : (l : Layout) (cs ds : Cells) (d : Numbers) → ((i : ℕ) (p : BlockPlace) → slice_get d i ≡ Some (Some p) → at_place l ds p ≡ at_place l cs p) → map (record_at l ds) d ≡ map (record_at l cs) d
numbers_same l cs ds d o = map_same (record_at l cs) (record_at l ds) d entry where
  entry : (i : ℕ) (q : Option BlockPlace) → slice_get d i ≡ Some q → record_at l ds q ≡ record_at l cs q
  entry i None h = refl
  entry i (Some p) h = ap Some (o i p h)

pub made_same : (l : Layout) (cs ds : Cells) (ms : Made) → ((i : ℕ) (p : BlockPlace) → IsMade ms i p → at_place l ds p ≡ at_place l cs p) → map (records_at l ds) ms ≡ map (records_at l cs) ms
made_same l cs ds ms o = map_same (records_at l cs) (records_at l ds) ms row where
  row : (c : ℕ) (m : Option (List BlockPlace)) → slice_get ms c ≡ Some m → records_at l ds m ≡ records_at l cs m
  row c None h = refl
  row c (Some ps) h = ap Some (map_same (at_place l cs) (at_place l ds) ps (λ i p k. o i p (c, ps, h, k)))

-- what is kept where each entry has its class and its form, and each set name the links of its lists
pub kept_by : (l : Layout) (cs : Cells) (sys : Ptr) (d : Directory) (ms ns : List Members) → ArePartsKept l cs sys d ms → (ds : Cells) → length ds ≡ length cs → length (words_at ds sys) ≡ length (words_at cs sys) → word_at ds sys 1 ≡ word_at cs sys 1
    → ((j : ℕ) (q : BlockPlace) → IsListedAt d j q → class_at_place ds q ≡ class_at_place cs q) → ((j : ℕ) (q : BlockPlace) → IsListedAt d j q → AreFormed l (class_at_place cs q) (suc j) (words_at ds q.at))
    → ((s : ℕ) (t : SetLayout) → slice_get l.sets s ≡ Some t → IsNameKept l ds sys d ns s t) → ArePartsKept l ds sys d ns
kept_by l cs sys d ms ns K ds count size last same formed names = record {
  small = K.small;
  issued = K.issued;
  width = K.width;
  system = size ∙ K.system;
  end = last ∙ K.end;
  kinds = λ j q h k. K.kinds j q h (subst (λ c. IsPermanent (kind_of l c)) (same j q (inl h)) k);
  made = λ c ps h. let m = K.made c ps h in record { permanent = m.permanent; class = λ j q x. same j q (inr (c, ps, h, x)) ∙ m.class j q x; few = m.few };
  classes = λ j q h. subst (λ c. c < length l.classes) (sym (same j q h)) (K.classes j q h);
  formed = λ j q h. subst (λ c. AreFormed l c (suc j) (words_at ds q.at)) (sym (same j q h)) (formed j q h);
  apart = K.apart;
  off_system = K.off_system;
  counted = count ∙ K.counted;
  names = names;
}

module _ (l : Layout) (cs : Cells) (sys : Ptr) (d : Directory) (ms : List Members) (K : ArePartsKept l cs sys d ms) where
  pub formed_there : (x : ℤ) (p : BlockPlace) → numbered_place d.numbers x ≡ Ok p → (n : ℕ) × AreFormed l (class_at_place cs p) n (words_at cs p.at)
  formed_there x p h = let t = there d.numbers x p h in (suc t.0, K.formed t.0 p (inl t.2))

  pub class_number : (x : ℤ) (p : BlockPlace) → numbered_place d.numbers x ≡ Ok p → IsNumber (word_at cs p.at 0)
  class_number x p h = let t = formed_there x p h in subst IsNumber (sym t.1.class) tt

  pub class_right : (x : ℤ) (p : BlockPlace) (c n : ℕ) → numbered_place d.numbers x ≡ Ok p → word_at cs p.at 0 ≡ number n → n ≡ c
      → (class_at_place cs p ≡ c) × (and_then (numbered_record (state_of l cs d ms) x) (of_class c) ≡ Ok (record_of l (words_at cs p.at)))
  class_right x p c n h w e =
      let is : class_at_place cs p ≡ c = ap plain w ∙ e in
      (is, ap (λ r. and_then r (of_class c)) (numbered_is l cs d ms x ∙ ap (read_place l cs) h) ∙ rw (is, same c) refl)

  pub class_wrong : (x : ℤ) (p : BlockPlace) (c n : ℕ) → numbered_place d.numbers x ≡ Ok p → word_at cs p.at 0 ≡ number n → (n ≡ c → ⊥) → and_then (numbered_record (state_of l cs d ms) x) (of_class c) ≡ Err WrongClass
  class_wrong x p c n h w e =
      let is : class_at_place cs p ≡ n = ap plain w in
      ap (λ r. and_then r (of_class c)) (numbered_is l cs d ms x ∙ ap (read_place l cs) h) ∙ rw (is, differs n c e) refl

  pub class_none : (x : ℤ) (c : ℕ) (e : FaultKind) → numbered_place d.numbers x ≡ Err e → and_then (numbered_record (state_of l cs d ms) x) (of_class c) ≡ Err e
  class_none x c e h = ap (λ r. and_then r (of_class c)) (numbered_is l cs d ms x ∙ ap (read_place l cs) h)

  pub notice_right : (x : ℤ) (p : BlockPlace) (n : ℕ) → numbered_place d.numbers x ≡ Ok p → word_at cs p.at 0 ≡ number n → is_notice (kind_of l n) ≡ true → notice (state_of l cs d ms) x ≡ Ok (record_of l (words_at cs p.at))
  notice_right x p n h w e =
      let is : class_at_place cs p ≡ n = ap plain w in
      ap (λ r. and_then r (of_notice l)) (numbered_is l cs d ms x ∙ ap (read_place l cs) h) ∙ rw (is, e) refl

  pub notice_wrong : (x : ℤ) (p : BlockPlace) (n : ℕ) → numbered_place d.numbers x ≡ Ok p → word_at cs p.at 0 ≡ number n → is_notice (kind_of l n) ≡ false → notice (state_of l cs d ms) x ≡ Err WrongClass
  notice_wrong x p n h w e =
      let is : class_at_place cs p ≡ n = ap plain w in
      ap (λ r. and_then r (of_notice l)) (numbered_is l cs d ms x ∙ ap (read_place l cs) h) ∙ rw (is, e) refl

  pub notice_none : (x : ℤ) (e : FaultKind) → numbered_place d.numbers x ≡ Err e → notice (state_of l cs d ms) x ≡ Err e
  notice_none x e h = ap (λ r. and_then r (of_notice l)) (numbered_is l cs d ms x ∙ ap (read_place l cs) h)

  -- only the block of an entry is written, and keeps its class and its form
  module _ (ds : Cells) (i : ℕ) (p : BlockPlace) (g : IsListedAt d i p) (w : IsWrittenAt cs ds p.at) (same_class : class_at_place ds p ≡ class_at_place cs p) (f : AreFormed l (class_at_place cs p) (suc i) (words_at ds p.at)) (links : (k : ℕ) → links_start l (class_at_place cs p) ≤ k → word_at ds p.at k ≡ word_at cs p.at k) where
    entries : (j : ℕ) (q : BlockPlace) → IsListedAt d j q → {P : Type 0} → ((i ≡ j) → (p.at ≡ q.at) → P) → ((p.at ≡ q.at → ⊥) → P) → P
    entries j q h {P} here other = by_ptr p.at q.at (λ e k. here (K.apart i j p q g h k) k) (λ e n. other n)

    abbrev class_in : Ptr → ℕ
    class_in r = class_in_words (words_at ds r)

    pub class_kept : (j : ℕ) (q : BlockPlace) → IsListedAt d j q → class_at_place ds q ≡ class_at_place cs q
    class_kept j q h = entries j q h (λ k e. ap class_in (sym e) ∙ same_class ∙ ap (λ (r : Ptr). class_in_words (words_at cs r)) e) (λ n. ap class_in_words (w.others q.at n))

    pub kept_written : ArePartsKept l ds sys d ms
    kept_written = kept_by l cs sys d ms ms K ds w.count (ap length (w.others sys (K.off_system i p g))) (ap (λ us. word_of us 1) (w.others sys (K.off_system i p g))) class_kept
        (λ j q h. entries j q h {P = AreFormed l (class_at_place cs q) (suc j) (words_at ds q.at)}
        (λ k e. subst (λ (r : Ptr). AreFormed l (class_in_words (words_at cs r)) (suc j) (words_at ds r)) e (subst (λ n. AreFormed l (class_at_place cs p) (suc n) (words_at ds p.at)) k f))
        (λ n. subst (λ us. AreFormed l (class_at_place cs q) (suc j) us) (sym (w.others q.at n)) (K.formed j q h)))
        (λ s t h. names_same l cs sys d ms K ds class_kept s t h (λ q k o. by_ptr p.at q
        (λ e z. subst (λ r. word_at ds r k ≡ word_at cs r k) z (links k (at_least (links_start l (class_at_place cs p)) k (λ small. above_head l cs sys d ms K s t h i p k g small (subst (λ r. IsOfName l cs sys d s t r k) (sym z) o)))))
        (λ e n. ap (λ us. word_of us k) (w.others q n))))

    -- what is read at the other entries
    read_other : (j : ℕ) (q : BlockPlace) → IsListedAt d j q → (p.at ≡ q.at → ⊥) → record_of l (words_at ds q.at) ≡ record_of l (words_at cs q.at)
    read_other j q h n = ap (record_of l) (w.others q.at n)

    -- the entry of a creation number
    module _ (m : slice_get d.numbers i ≡ Some (Some p)) where
      pub records_written : (v : Option Record) → Some (record_of l (words_at ds p.at)) ≡ v → map (record_at l ds) d.numbers ≡ slice_set (map (record_at l cs) d.numbers) i v
      records_written v e = map_set (record_at l cs) (record_at l ds) d.numbers i (Some p) v m e other_entry where
        other_entry : (j : ℕ) (q : Option BlockPlace) → slice_get d.numbers j ≡ Some q → (i ≡ j → ⊥) → record_at l ds q ≡ record_at l cs q
        other_entry j None h n = refl
        other_entry j (Some q) h n = ap Some (read_other j q (inl h) (λ k. n (K.apart i j p q g (inl h) k)))

      pub permanents_same : map (records_at l ds) d.classes ≡ map (records_at l cs) d.classes
      permanents_same = made_same l cs ds d.classes (λ j q h. read_other j q (inr h) (λ k. not_numbered j q h k)) where
        not_numbered : (j : ℕ) (q : BlockPlace) → IsMade d.classes j q → p.at ≡ q.at → ⊥
        not_numbered j q h k = let y = K.made h.0 h.1 h.2 in K.kinds i p m (subst (λ c. IsPermanent (kind_of l c)) (sym (ap (λ (r : Ptr). class_in_words (words_at cs r)) k ∙ y.class j q h.3)) y.permanent)

    -- the entry of a permanent entity
    module _ (c : ℕ) (ps : List BlockPlace) (m : slice_get d.classes c ≡ Some (Some ps)) (h : slice_get ps i ≡ Some p) where
      pub records_same : map (record_at l ds) d.numbers ≡ map (record_at l cs) d.numbers
      records_same = numbers_same l cs ds d.numbers
          (λ j q e. read_other j q (inl e) (λ k. let y = K.made c ps m in K.kinds j q e (subst (λ b. IsPermanent (kind_of l b)) (sym (ap (λ (r : Ptr). class_in_words (words_at cs r)) (sym k) ∙ y.class i p h)) y.permanent)))

      pub permanents_written : (v : Record) → record_of l (words_at ds p.at) ≡ v → map (records_at l ds) d.classes ≡ slice_set (map (records_at l cs) d.classes) c (Some (slice_set (map (λ (q : BlockPlace). record_of l (words_at cs q.at)) ps) i v))
      permanents_written v e = map_set (records_at l cs) (records_at l ds) d.classes c (Some ps) _ m
          (ap Some (map_set (at_place l cs) (at_place l ds) ps i p v h e (λ j q k n. read_other j q (inr (c, ps, m, k)) (λ z. n (K.apart i j p q g (inr (c, ps, m, k)) z))))) other_row where
            other_row : (b : ℕ) (o : Option (List BlockPlace)) → slice_get d.classes b ≡ Some o → (c ≡ b → ⊥) → records_at l ds o ≡ records_at l cs o
            other_row b None k n = refl
            other_row b (Some qs) k n = ap Some (map_same (at_place l cs) (at_place l ds) qs
                (λ j q x. read_other j q (inr (b, qs, k, x)) (λ z. n (sym ((K.made c ps m).class i p h) ∙ ap (λ (r : Ptr). class_in_words (words_at cs r)) z ∙ (K.made b qs k).class j q x))))
