use Rattle.std.proofs.Common.{◌≡◌, ℕ, ◌+◌, ◌<◌, Bool, drop, slice_get, Some, length, inl, refl, sym, ap, subst, ◌∙◌, arith}
use Rattle.ss_records_entities.proofs.Common.{Class, class_at_place, get_there, has_members, members_of, owned_by, Records, SetLayout}
use Rattle.ss_records_words.proofs.Filed.{owns_here, owns_not, owns_other, class_of_owner}
use Rattle.ss_records_entities.proofs.Still.{kept_still, later_room, last_look, unmoved}
use Rattle.ss_records_entities.proofs.Setless.{owns_none, as_owner, counts_one, counts_none}
use Rattle.ss_records_entities.proofs.records.Records.owns_members.Goals as goal
use Rattle.ss_records_entities.proofs.records.Records.owns_members.Goals.{then-is_owner+else-owns_in+else-left-eq0-2, else-is_owner}

class_is : {m n : ℕ} → Class m ≡ Class n → m ≡ n
class_is e = cc

-- records of which only the blocks have changed have the same sets and members
module _ (r m : Records) (same : m ≡ record r { blocks = m.blocks }) where
  set_in : (s : ℕ) (t : SetLayout) → slice_get r.layout.sets s ≡ Some t → slice_get m.layout.sets s ≡ Some t
  set_in s t g = subst (λ (z : Records). slice_get z.layout.sets s ≡ Some t) (sym same) g

  has_in : (s x : ℕ) (b : Bool) → b ≡ has_members (members_of m.notes.lists s x) → has_members (members_of r.notes.lists s x) ≡ b
  has_in s x b e = sym (e ∙ ap (λ (z : Records). has_members (members_of z.notes.lists s x)) same)

pub owned_count-left-requires : goal.owned_count-left-requires
owned_count-left-requires c = let e = c.requires.entry in λ k z. subst (λ n. n < length c.args.self.now.layout.classes) (c.requires.class ∙ class_is z) (c.requires.kept.classes e.0 c.args.place (inl e.1))

pub returns-then-left-eq0-clause-value : goal.returns-then-left-eq0-clause-value
returns-then-left-eq0-clause-value c = let r = c.args.self.now in sym (owns_none r.layout.sets 0 c.args.class c.args.number r.notes.lists (omega (arith, c.owned_count-left.ensures.value, c.if-left-eq0.true)))

pub loop-s-init : goal.loop-s-init
loop-s-init c = record {
  same = refl;
  cells = refl;
  rest = refl;
  left = c.owned_count-left.ensures.value;
  touches = (omega arith, refl);
  looked = ap (λ n. c.args.self.now.blocks.touches + n) c.owned_count-left.ensures.value;
}

pub is_owner-requires : goal.is_owner-requires
is_owner-requires c = subst (λ (z : Records). c.loop-s.s < length z.layout.sets) (sym c.loop-s.invariant.same) (omega (arith, c.loop-s-test.true, c.names-s-end.ensures))

pub owns_in-requires : goal.owns_in-requires
owns_in-requires c =
    record {
      kept = let r = c.args.self.now in let m = c.loop-s in kept_still r m.self (unmoved r m.self m.invariant.same m.invariant.cells) c.requires.kept;
      set = subst (λ (z : Records). c.loop-s.s < length z.layout.sets) (sym c.loop-s.invariant.same) (omega (arith, c.loop-s-test.true, c.names-s-end.ensures));
      entry = let e = c.requires.entry in (e.0, subst (λ (z : Records). slice_get z.directory.places e.0 ≡ Some (Some c.args.place)) (sym c.loop-s.invariant.same) e.1, e.2);
      class = λ t g.
          class_of_owner t.owner c.args.class (sym (c.if-is_owner.ensures t g)) ∙ ap Class (sym c.requires.class ∙ ap (λ bs. class_at_place bs c.args.place) (sym c.loop-s.invariant.cells));
      touches = later_room _ _ _ _ _ c.requires.touches c.loop-s.invariant.touches.0 c.loop-s-test.true c.names-s-end.ensures c.requires.kept.small.sets;
    }

pub returns-then-owns_in : goal.returns-then-owns_in
returns-then-owns_in c =
    let r = c.args.self.now in let m = c.loop-s in let ts = r.layout.sets in let s = m.s in let y = get_there ts s (omega (arith, c.loop-s-test.true, c.names-s-end.ensures)) in
    record {
      value = sym (owns_here ts s c.args.class c.args.number y.0 r.notes.lists y.1 (sym (c.if-is_owner.ensures y.0 (set_in r m.self m.invariant.same s y.0 y.1))) (has_in r m.self m.invariant.same s c.args.number _ c.if-owns_in.ensures.value)) ∙ m.invariant.rest;
      same = c.owns_in.ensures.same ∙ ap (λ (z : Records). record z { blocks = c.owns_in.new.self.blocks }) c.loop-s.invariant.same;
      cells = c.owns_in.ensures.cells ∙ c.loop-s.invariant.cells;
      touches = last_look _ _ _ _ _ _ _ _ _ c.loop-s.invariant.touches c.loop-s-test.true c.names-s-end.ensures c.requires.kept.small.sets c.owns_in.ensures.touches;
      looked =
          let h = m.invariant in
          omega (arith, h.looked, h.left, c.owns_in.ensures.touches.0, counts_one (owned_by (Class c.args.class)) ts s y.0 y.1 (sym (as_owner y.0.owner c.args.class) ∙ sym (c.if-is_owner.ensures y.0 (set_in r m.self h.same s y.0 y.1))));
    }

pub overflow_sub-left : goal.overflow_sub-left
overflow_sub-left c =
    let r = c.args.self.now in let m = c.loop-s in let ts = r.layout.sets in let s = m.s in let h = m.invariant in let y = get_there ts s (omega (arith, c.loop-s-test.true, c.names-s-end.ensures)) in
    omega (arith, h.left, counts_one (owned_by (Class c.args.class)) ts s y.0 y.1 (sym (as_owner y.0.owner c.args.class) ∙ sym (c.if-is_owner.ensures y.0 (set_in r m.self h.same s y.0 y.1))))

pub returns-then-left-eq0-2-clause-value : goal.returns-then-left-eq0-2-clause-value
returns-then-left-eq0-2-clause-value c =
    let r = c.args.self.now in let m = c.loop-s in let ts = r.layout.sets in let s = m.s in let h = m.invariant in let y = get_there ts s (omega (arith, c.loop-s-test.true, c.names-s-end.ensures)) in
    sym (owns_none (drop (s + 1) ts) (s + 1) c.args.class c.args.number r.notes.lists (omega (arith, h.left, c.if-left-eq0-2.true, counts_one (owned_by (Class c.args.class)) ts s y.0 y.1 (sym (as_owner y.0.owner c.args.class) ∙ sym (c.if-is_owner.ensures y.0 (set_in r m.self h.same s y.0 y.1))))))
    ∙ sym (owns_not ts s c.args.class c.args.number y.0 r.notes.lists y.1 (has_in r m.self h.same s c.args.number _ c.if-owns_in.ensures.value)) ∙ h.rest

pub returns-then-left-eq0-2-clause-same : goal.returns-then-left-eq0-2-clause-same
returns-then-left-eq0-2-clause-same c = c.owns_in.ensures.same ∙ ap (λ (z : Records). record z { blocks = c.owns_in.new.self.blocks }) c.loop-s.invariant.same

pub returns-then-left-eq0-2-clause-looked : goal.returns-then-left-eq0-2-clause-looked
returns-then-left-eq0-2-clause-looked c =
    let r = c.args.self.now in let m = c.loop-s in let ts = r.layout.sets in let s = m.s in let h = m.invariant in let y = get_there ts s (omega (arith, c.loop-s-test.true, c.names-s-end.ensures)) in
    omega (arith, h.looked, h.left, c.owns_in.ensures.touches.0, counts_one (owned_by (Class c.args.class)) ts s y.0 y.1 (sym (as_owner y.0.owner c.args.class) ∙ sym (c.if-is_owner.ensures y.0 (set_in r m.self h.same s y.0 y.1))))

pub loop-s-preserved : goal.loop-s-preserved
loop-s-preserved c =
    let r = c.args.self.now in let m = c.loop-s in let ts = r.layout.sets in let s = m.s in let h = m.invariant in let y = get_there ts s (omega (arith, c.loop-s-test.true, c.names-s-end.ensures)) in
    let g = set_in r m.self h.same s y.0 y.1 in
    elim c.if-is_owner.branch [
      | then-is_owner+else-owns_in+else-left-eq0-2 w ↦ record {
        same = rw w.self-is (w.owns_in.ensures.same ∙ ap (λ (z : Records). record z { blocks = w.owns_in.new.self.blocks }) h.same);
        cells = rw w.self-is (w.owns_in.ensures.cells ∙ h.cells);
        rest = sym (owns_not ts s c.args.class c.args.number y.0 r.notes.lists y.1 (has_in r m.self h.same s c.args.number _ w.if-owns_in.ensures.value)) ∙ h.rest;
        left = omega (arith, h.left, counts_one (owned_by (Class c.args.class)) ts s y.0 y.1 (sym (as_owner y.0.owner c.args.class) ∙ sym (w.if-is_owner.ensures y.0 g)));
        touches = rw w.self-is (omega (arith, w.owns_in.ensures.touches.0, h.touches.0), omega (arith, w.owns_in.ensures.touches.0, w.owns_in.ensures.touches.1, h.touches.1));
        looked = rw w.self-is (omega (arith, h.looked, h.left, w.owns_in.ensures.touches.0, counts_one (owned_by (Class c.args.class)) ts s y.0 y.1 (sym (as_owner y.0.owner c.args.class) ∙ sym (w.if-is_owner.ensures y.0 g))));
      }
      | else-is_owner w ↦ record {
        same = rw w.self-is h.same;
        cells = rw w.self-is h.cells;
        rest = sym (owns_other ts s c.args.class c.args.number y.0 r.notes.lists y.1 (sym (w.if-is_owner.ensures y.0 g))) ∙ h.rest;
        left = omega (arith, h.left, counts_none (owned_by (Class c.args.class)) ts s y.0 y.1 (sym (as_owner y.0.owner c.args.class) ∙ sym (w.if-is_owner.ensures y.0 g)));
        touches = rw w.self-is (omega (arith, h.touches.0), h.touches.1);
        looked = rw w.self-is (omega (arith, h.looked));
      }
    ]

pub returns-then-left-eq0-clause-looked : goal.returns-then-left-eq0-clause-looked
returns-then-left-eq0-clause-looked c = omega arith

pub returns-clause-looked : goal.returns-clause-looked
returns-clause-looked c = omega (arith, c.loop-s.invariant.looked)
