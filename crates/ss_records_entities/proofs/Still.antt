-- What a call that only reads leaves for the calls after it, and how many touches there are.
use Rattle.std.proofs.Common.{◌≡◌, ℕ, ◌+◌, ◌≤◌, ◌<◌, ◌^◌, Bool, true, false, Fits, w64, length, slice_get, Some, sym, ap, subst, ◌∙◌, arith}
use Rattle.ss_records_entities.proofs.Common.{CanJoin, contains, EntityBlock, false_is_not_true, is_filed, IsKept, IsOwnerBlock, IsSmall, Layout, members_of, Memory, Mode, modes_of, Records, slice_get_within, uncounted}

-- a read of the blocks changes nothing but counts of touches
pub reads_only : (r : Records) (b : Memory) → b.cells ≡ r.blocks.cells → uncounted (record r { blocks = b }) ≡ uncounted r
reads_only r b e = λ i. record r { blocks = record { cells = e i; touches = 0; total = 0 } }

-- a call that only reads changes nothing else either
pub unmoved : (r q : Records) → q ≡ record r { blocks = q.blocks } → q.blocks.cells ≡ r.blocks.cells → uncounted q ≡ uncounted r
unmoved r q h e = ap uncounted h ∙ reads_only r q.blocks e

module _ (r q : Records) (h : uncounted q ≡ uncounted r) where
  pub kept_still : IsKept r → IsKept q
  kept_still K = subst IsKept (sym h) K

  pub set_still : (s : ℕ) → s < length r.layout.sets → s < length q.layout.sets
  set_still s inside = subst (λ (z : Records). s < length z.layout.sets) (sym h) inside

  pub owns_still : (s : ℕ) (e : EntityBlock) → IsOwnerBlock r s e → IsOwnerBlock q s e
  owns_still s e w =
      let v : IsOwnerBlock (uncounted r) s e = record { lies = w.lies; may = w.may } in
      let u : IsOwnerBlock (uncounted q) s e = subst (λ (z : Records). IsOwnerBlock z s e) (sym h) v in
      record { lies = u.lies; may = u.may }

  pub joins_still : (s : ℕ) (e : EntityBlock) → CanJoin r s e → CanJoin q s e
  joins_still s e w =
      let v : CanJoin (uncounted r) s e = record { lies = w.lies; is = w.is } in
      let u : CanJoin (uncounted q) s e = subst (λ (z : Records). CanJoin z s e) (sym h) v in
      record { lies = u.lies; is = u.is }

  pub free_still : (s x : ℕ) → is_filed r.notes.lists s x ≡ false → is_filed q.notes.lists s x ≡ false
  free_still s x free = subst (λ (z : Records). is_filed z.notes.lists s x ≡ false) (sym h) free

  pub listed_still : (s o x : ℕ) (b : Bool) → contains (members_of r.notes.lists s o) x ≡ b → contains (members_of q.notes.lists s o) x ≡ b
  listed_still s o x b there = subst (λ (z : Records). contains (members_of z.notes.lists s o) x ≡ b) (sym h) there

-- there are few attributes
pub few_fields : (l : Layout) (c f : ℕ) (m : Mode) → IsSmall l → slice_get (modes_of l c) f ≡ Some m → f < 1048576
few_fields l c f m h g = omega (arith, h.fields c, slice_get_within (modes_of l c) f m g)

pub base_room2 : (n : ℕ) → n ≤ 5242883 → Fits w64 (n + 2)
base_room2 n h = omega (arith, h)

-- ## Touches, by this call and by all calls

module _ (a A b B : ℕ) (none : a ≡ 0) where
  pub at_start : a ≤ 16
  at_start = omega (arith, none)

  pub at_first : a ≤ 8
  at_first = omega (arith, none)

  pub room_first : a + 1 < 2 ^ 64
  room_first = omega (arith, none)

  -- of a call that was refused at once
  pub no_touch : (k n : ℕ) → (a ≤ k) × (false ≡ true → n ≤ a) × (A ≡ A + a)
  no_touch k n = (omega (arith, none), λ z. absurd (false_is_not_true z), omega (arith, none))

  -- after one look
  module _ (one : (b ≡ a + 1) × (B ≡ A + 1)) where
    pub one_few : b ≤ 8
    one_few = omega (arith, none, one.0)

    pub one_room : b + 1 < 2 ^ 64
    one_room = omega (arith, none, one.0)

    pub one_touch : {Q : Type 0} → (b ≤ 1) × (Q → 1 ≤ b) × (B ≡ A + b)
    one_touch = (omega (arith, none, one.0), λ z. omega (arith, none, one.0), omega (arith, none, one.0, one.1))

    pub one_of_two : {Q : Type 0} → (b ≤ 2) × (Q → 1 ≤ b) × (B ≡ A + b)
    one_of_two = (omega (arith, none, one.0), λ z. omega (arith, none, one.0), omega (arith, none, one.0, one.1))

    pub one_counted : (b ≤ 2) × (B ≡ A + b)
    one_counted = (omega (arith, none, one.0), omega (arith, none, one.0, one.1))

    pub one_refused : (b ≤ 12) × (false ≡ true → 4 ≤ b) × (B ≡ A + b)
    one_refused = (omega (arith, none, one.0), λ z. absurd (false_is_not_true z), omega (arith, none, one.0, one.1))

    pub two_touches : (d D : ℕ) → (d ≡ b + 1) × (D ≡ B + 1) → {Q : Type 0} → (d ≤ 2) × (Q → 1 ≤ d) × (D ≡ A + d)
    two_touches d D two = (omega (arith, none, one.0, two.0), λ z. omega (arith, none, one.0, two.0), omega (arith, none, one.0, one.1, two.0, two.1))

    pub two_counted : (d D : ℕ) → (d ≡ b + 1) × (D ≡ B + 1) → (d ≤ 2) × (D ≡ A + d)
    two_counted d D two = (omega (arith, none, one.0, two.0), omega (arith, none, one.0, one.1, two.0, two.1))

    -- after a look, and one of at most two touches
    module _ (d D : ℕ) (more : (d ≤ b + 2) × (D + b ≡ B + d)) where
      pub then_room : d + 1 < 2 ^ 64
      then_room = omega (arith, none, one.0, more.0)

      pub then_few : (e E : ℕ) → (e ≡ d + 1) × (E ≡ D + 1) → e ≤ 16
      then_few e E look = omega (arith, none, one.0, more.0, look.0)

      pub then_refused : (d ≤ 12) × (false ≡ true → 4 ≤ d) × (D ≡ A + d)
      then_refused = (omega (arith, none, one.0, more.0), λ z. absurd (false_is_not_true z), omega (arith, none, one.0, one.1, more.1))

      pub then_linked : (e E f F : ℕ) → (e ≡ d + 1) × (E ≡ D + 1) → (f ≡ e + 7) × (F ≡ E + 7) → {Q : Type 0} → (f ≤ 12) × (Q → 4 ≤ f) × (F ≡ A + f)
      then_linked e E f F look link = (omega (arith, none, one.0, more.0, look.0, link.0), λ z. omega (arith, look.0, link.0), omega (arith, none, one.0, one.1, more.1, look.0, look.1, link.0, link.1))

  -- after at most two touches
  module _ (more : (b ≤ a + 2) × (B + a ≡ A + b)) where
    pub two_few : b ≤ 8
    two_few = omega (arith, none, more.0)

    pub two_refused : (b ≤ 12) × (false ≡ true → 4 ≤ b) × (B ≡ A + b)
    two_refused = (omega (arith, none, more.0), λ z. absurd (false_is_not_true z), omega (arith, none, more.1))

    pub two_then_nine : (f F : ℕ) → (f ≡ b + 9) × (F ≡ B + 9) → {Q : Type 0} → (f ≤ 12) × (Q → 4 ≤ f) × (F ≡ A + f)
    two_then_nine f F cut = (omega (arith, none, more.0, cut.0), λ z. omega (arith, cut.0), omega (arith, none, more.1, cut.0, cut.1))

-- of looks at each set
pub start_ties : (a : ℕ) → a ≡ 0 → a ≤ 2 ^ 32
start_ties a none = omega (arith, none)

pub more_ties : (a b : ℕ) → a ≡ 0 → b ≤ a + 1048576 → b ≤ 2 ^ 33
more_ties a b none few = omega (arith, none, few)

module _ (a A b B d D : ℕ) where
  pub after_ties : B + a ≡ A + b → D + b ≡ B + d → D + a ≡ A + d
  after_ties one two = omega (arith, one, two)

  pub as_many : B + a ≡ A + b → (d ≡ b) × (D ≡ B) → D + a ≡ A + d
  as_many one same = omega (arith, one, same.0, same.1)

-- within a loop over the sets
pub later_room : (t i s n m : ℕ) → i ≤ 2 ^ 33 → t ≤ i + s → s < n → n ≡ m → m ≤ 2 ^ 20 → t + 1 < 2 ^ 64
later_room t i s n m start few small end sets = omega (arith, start, few, small, end, sets)

pub last_look : (t T i I s n m d D : ℕ) → (t ≤ i + s) × (T + i ≡ I + t) → s < n → n ≡ m → m ≤ 2 ^ 20 → (d ≡ t + 1) × (D ≡ T + 1) → (d ≤ i + 1048576) × (D + i ≡ I + d)
last_look t T i I s n m d D few small end sets look = (omega (arith, few.0, small, end, sets, look.0), omega (arith, few.1, look.0, look.1))
