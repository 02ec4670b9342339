-- What a plan holds, and how far the words of a layout reach.
use Rattle.std.proofs.Common.{◌≡◌, ℕ, zero, suc, ◌^◌, ◌<◌, ◌≤◌, nat_le, nat_lt, Bool, true, false, ◌&&◌, subst, List, [], ◌∷◌, length, Some, slice_get, refl, ◌∙◌, arith}
use Rattle.std.specs.Prelude.{cond, IsTrue, slice_index_or}
use Rattle.ss_records_words.proofs.Common.{Bases, Class, count_before, count_sets, Extent, get_there, joins, Layout, links_start, list_all, member_base, owned_by, owned_start, Owner, owner_base, SetLayout, System}
use Rattle.std.proofs.lemmas.Bool.{and_parts, leb-true, ltb-true}
use Rattle.std.proofs.lemmas.Option.{slice_get_within, get_or_from_slice_get}
use Rattle.ss_base.specs.Layout.{is_layout, is_narrow, is_sound, names_classes, owns_among}
use Rattle.ss_base.specs.Plain.{PlainClass}
use Rattle.ss_world.specs.State.{kind_of, is_notice, modes_in}
use Rattle.ss_records_words.specs.Kept.{IsSmall}
use Rattle.ss_records_words.specs.Plans.{extent_of, bases_of, is_permanent_kind, is_system, IsPlan}
use Rattle.ss_world.specs.Sets.{member_class, owner_kind}

one : (b : Bool) → cond b 1 0 ≤ 1
one true = omega arith
one false = omega arith

pub few_sets : (p : SetLayout → Bool) (ts : List SetLayout) → count_sets p ts ≤ length ts
few_sets p [] = omega arith
few_sets p (t ∷ ts) = omega (arith, few_sets p ts, one (p t))

few_before : (p : SetLayout → Bool) (ts : List SetLayout) (s : ℕ) → count_before p ts s ≤ length ts
few_before p [] s = omega arith
few_before p (t ∷ ts) zero = omega arith
few_before p (t ∷ ts) (suc s) = omega (arith, few_before p ts s, one (p t))

-- ---- a heap serves every layout

fields_small : (cs : List PlainClass) → list_all is_narrow cs ≡ true → (c : ℕ) → length (modes_in (slice_get cs c)) ≤ 2 ^ 20
fields_small [] h c = omega arith
fields_small (x ∷ cs) h zero =
    let few = leb-true (length x.fields) 1048576 (and_parts (is_narrow x) (list_all is_narrow cs) h).0 in
    omega (arith, few)
fields_small (x ∷ cs) h (suc c) = fields_small cs (and_parts (is_narrow x) (list_all is_narrow cs) h).1 c

pub small_law : (l : Layout) → IsTrue (is_layout l) → IsSmall l
small_law l h =
    let narrow = list_all is_narrow l.classes in
    let sets = nat_le (length l.sets) 1048576 in
    let classes = nat_le (length l.classes) 1048576 in
    let a = and_parts (is_sound l) (classes && (sets && narrow)) h in
    let b = and_parts classes (sets && narrow) a.1 in
    let c = and_parts sets narrow b.1 in
    let few_classes = leb-true (length l.classes) 1048576 b.0 in
    let few_sets = leb-true (length l.sets) 1048576 c.0 in
    record { sound = a.0; classes = omega (arith, few_classes); sets = omega (arith, few_sets); fields = fields_small l.classes c.1 }

-- the members of a set are of a class that is there
pub class_named : (n : ℕ) (ts : List SetLayout) → list_all (names_classes n) ts ≡ true → (s : ℕ) (t : SetLayout) → slice_get ts s ≡ Some t → t.member < n
class_named n [] h s t g = absurd cc
class_named n (u ∷ ts) h zero t g =
    let is : u ≡ t = cc in
    let a = and_parts (names_classes n u) (list_all (names_classes n) ts) h in
    subst (λ (x : SetLayout). x.member < n) is (ltb-true u.member n (and_parts (owns_among n u.owner) (nat_lt u.member n) a.0).1)
class_named n (u ∷ ts) h (suc s) t g = class_named n ts (and_parts (names_classes n u) (list_all (names_classes n) ts) h).1 s t g

-- ---- how far words reach

pub links_reach : (l : Layout) → IsSmall l → (c : ℕ) → links_start l c ≤ 2097155
links_reach l h c = omega (arith, h.fields c, one (is_notice (kind_of l c)))

pub owned_reach : (l : Layout) → IsSmall l → (o : Owner) → owned_start l o ≤ 5242883
owned_reach l h System = omega arith
owned_reach l h (Class c) = omega (arith, links_reach l h c, few_sets (joins c) l.sets, h.sets)

pub member_reach : (l : Layout) → IsSmall l → (s : ℕ) (t : SetLayout) → member_base l s t ≤ 5242883
member_reach l h s t = omega (arith, links_reach l h t.member, few_before (joins t.member) l.sets s, h.sets)

pub owner_reach : (l : Layout) → IsSmall l → (s : ℕ) (t : SetLayout) → owner_base l s t ≤ 8388614
owner_reach l h s t = omega (arith, owned_reach l h t.owner, few_before (owned_by t.owner) l.sets s, h.sets)

-- how far the words of a class reach, and those of a set
pub extent_within : {l : Layout} → IsSmall l → (c : ℕ) {x : Extent} → x ≡ extent_of l c → (x.links ≤ 2097155) × (x.owned ≤ 5242883) × (x.joined ≤ 1048576) × (x.sets ≤ 1048576) × (2 ≤ x.words) × (x.words < 2 ^ 32)
extent_within {l} h c e =
    let reach = owned_reach l h (Class c) in let few = few_sets (owned_by (Class c)) l.sets in
    rw e (links_reach l h c, reach, omega (arith, few_sets (joins c) l.sets, h.sets), omega (arith, few, h.sets), omega arith, omega (arith, reach, few, h.sets))

pub bases_within : {l : Layout} → IsSmall l → (s : ℕ) (t : SetLayout) → slice_get l.sets s ≡ Some t → {x : Bases} → x ≡ bases_of l s t
    → (x.member ≤ 5242883) × (x.owner ≤ 8388614) × (x.class < length l.classes) × (x.permanent ≡ is_permanent_kind (kind_of l (member_class l s))) × (x.system ≡ is_system (owner_kind l s))
bases_within {l} h s t g e = rw (e, g) (member_reach l h s t, owner_reach l h s t, class_named (length l.classes) l.sets h.sound s t g, refl, refl)

module _ {l : Layout} {cs : List Extent} {ss : List Bases} {n : ℕ} (P : IsPlan l cs ss n) where
  pub extent_is : (c : ℕ) (x : Extent) → c < length l.classes → x ≡ slice_index_or cs c x → x ≡ extent_of l c
  extent_is c x h e = e ∙ get_or_from_slice_get cs c (extent_of l c) x (P.classes c h)

  pub set_within : (s : ℕ) → s < length l.sets → s < length ss
  set_within s h = let y = get_there l.sets s h in slice_get_within ss s (bases_of l s y.0) (P.sets s y.0 y.1)

  pub bases_are : (s : ℕ) (t : SetLayout) (x : Bases) → slice_get l.sets s ≡ Some t → x ≡ slice_index_or ss s x → x ≡ bases_of l s t
  bases_are s t x g e = e ∙ get_or_from_slice_get ss s (bases_of l s t) x (P.sets s t g)
