use Rattle.std.proofs.Common.{◌≡◌, suc, ◌+◌, ◌≤◌, true, false, Some, slice_get, sym, ap, subst, ◌∙◌, arith}
use Rattle.ss_records_entities.proofs.Common.{and_then, cast_signed, cast_unsigned, Class, class_at_place, count_sets, in_a_set, let_go, nat_abs, number_in, owned_by, owns_members, places, Records, state, to_z-of_z, uncounted}
use mir.Syntax.{w64}
use Rattle.ss_records_entities.proofs.Destroys.{in_a_set_is, owns_members_is}
use Rattle.ss_records_entities.proofs.Still.{kept_still, start_ties, more_ties, after_ties, unmoved}
use Rattle.ss_records_entities.proofs.Frees.{by_number}
use Rattle.ss_records_entities.proofs.records.Records.find_free.Goals as goal

pub find-requires : goal.find-requires
find-requires c = record { kept = c.requires.kept; class = c.requires.class }

pub in_a_set-requires : goal.in_a_set-requires
in_a_set-requires c =
    record {
      kept = c.requires.kept;
      entry = let f = c.in-Ok.ensures.found in (f.index, by_number c.args.self.now c.requires.kept c.args.class _ c.in-Ok.place f c.requires.kind, ap nat_abs f.is);
      class = c.in-Ok.ensures.found.class;
      touches = let r = c.args.self.now in start_ties r.blocks.touches c.requires.touches;
    }

pub owns_members-requires : goal.owns_members-requires
owns_members-requires c =
    let r = c.args.self.now in let a = c.in_a_set.new.self in
    record {
      kept = let h1 : uncounted a ≡ uncounted r = unmoved r a c.in_a_set.ensures.same c.in_a_set.ensures.cells in kept_still r a h1 c.requires.kept;
      entry =
          let f = c.in-Ok.ensures.found in let first : a ≡ record r { blocks = a.blocks } = c.in_a_set.ensures.same in
          (f.index, subst (λ (z : Records). slice_get z.directory.places f.index ≡ Some (Some c.in-Ok.place)) (sym first) (by_number r c.requires.kept c.args.class _ c.in-Ok.place f c.requires.kind), ap nat_abs f.is);
      class = ap (λ bs. class_at_place bs c.in-Ok.place) c.in_a_set.ensures.cells ∙ c.in-Ok.ensures.found.class;
      touches = more_ties r.blocks.touches a.blocks.touches c.requires.touches c.in_a_set.ensures.touches.0;
    }

pub returns-then-in_a_set : goal.returns-then-in_a_set
returns-then-in_a_set c =
    record {
      found =
          let fits = c.ranges.r in let g = simp to_z-of_z at c.in-Ok.ensures.found in let r = c.args.self.now in let f = c.in-Ok.ensures.found in let p = c.in-Ok.place in
          let m : nat_abs (cast_signed w64 (cast_unsigned w64 c.args.r)) ≡ suc f.index = ap nat_abs f.is in let m0 = by_number r c.requires.kept c.args.class _ p f c.requires.kind in
          let it : in_a_set r.layout.sets 0 r.notes.lists c.args.class (suc f.index) ≡ true = subst (λ k. in_a_set r.layout.sets 0 r.notes.lists c.args.class k ≡ true) m (sym c.if-in_a_set.ensures.value) in
          in_a_set_is r.layout r.blocks.cells r.system.at (places r) r.notes.lists c.requires.kept f.index p m0 c.args.class c.args.r g.is g.entity it;
      same = c.in_a_set.ensures.same;
      cells = c.in_a_set.ensures.cells;
      touches = c.in_a_set.ensures.touches.1;
      looked = omega (arith, c.in_a_set.ensures.looked, c.requires.touches);
    }

pub returns-then-owns_members : goal.returns-then-owns_members
returns-then-owns_members c =
    let r = c.args.self.now in let a = c.in_a_set.new.self in let first : a ≡ record r { blocks = a.blocks } = c.in_a_set.ensures.same in let q = c.owns_members.new.self in
    record {
      found =
          let fits = c.ranges.r in let g = simp to_z-of_z at c.in-Ok.ensures.found in let f = c.in-Ok.ensures.found in let p = c.in-Ok.place in
          let m : nat_abs (cast_signed w64 (cast_unsigned w64 c.args.r)) ≡ suc f.index = ap nat_abs f.is in let m0 = by_number r c.requires.kept c.args.class _ p f c.requires.kind in
          let none : in_a_set r.layout.sets 0 r.notes.lists c.args.class (suc f.index) ≡ false = subst (λ k. in_a_set r.layout.sets 0 r.notes.lists c.args.class k ≡ false) m (sym c.if-in_a_set.ensures.value) in
          let it : owns_members r.layout.sets 0 r.notes.lists c.args.class (suc f.index) ≡ true = subst (λ (z : Records). owns_members z.layout.sets 0 z.notes.lists c.args.class (suc f.index) ≡ true) first (subst (λ k. owns_members a.layout.sets 0 a.notes.lists c.args.class k ≡ true) m (sym c.if-owns_members.ensures.value)) in
          owns_members_is r.layout r.blocks.cells r.system.at (places r) r.notes.lists c.requires.kept f.index p m0 c.args.class c.args.r g.is g.entity none it;
      same = let second : q ≡ record a { blocks = q.blocks } = c.owns_members.ensures.same in second ∙ ap (λ (z : Records). record z { blocks = q.blocks }) first;
      cells = c.owns_members.ensures.cells ∙ c.in_a_set.ensures.cells;
      touches = after_ties r.blocks.touches r.blocks.total a.blocks.touches a.blocks.total q.blocks.touches q.blocks.total c.in_a_set.ensures.touches.1 c.owns_members.ensures.touches.1;
      looked =
          let more = subst (λ (z : Records). c.owns_members.new.self.blocks.touches ≤ a.blocks.touches + count_sets (owned_by (Class c.args.class)) z.layout.sets) first c.owns_members.ensures.looked in
          omega (arith, more, c.in_a_set.ensures.looked, c.requires.touches);
    }

pub returns-else-owns_members : goal.returns-else-owns_members
returns-else-owns_members c =
    let r = c.args.self.now in let a = c.in_a_set.new.self in let first : a ≡ record r { blocks = a.blocks } = c.in_a_set.ensures.same in let q = c.owns_members.new.self in
    record {
      found =
          let fits = c.ranges.r in let g = simp to_z-of_z at c.in-Ok.ensures.found in let f = c.in-Ok.ensures.found in let m : nat_abs (cast_signed w64 (cast_unsigned w64 c.args.r)) ≡ suc f.index = ap nat_abs f.is in
          let none : in_a_set r.layout.sets 0 r.notes.lists c.args.class (suc f.index) ≡ false = subst (λ k. in_a_set r.layout.sets 0 r.notes.lists c.args.class k ≡ false) m (sym c.if-in_a_set.ensures.value) in
          let few : owns_members r.layout.sets 0 r.notes.lists c.args.class (suc f.index) ≡ false = subst (λ (z : Records). owns_members z.layout.sets 0 z.notes.lists c.args.class (suc f.index) ≡ false) first (subst (λ k. owns_members a.layout.sets 0 a.notes.lists c.args.class k ≡ false) m (sym c.if-owns_members.ensures.value)) in
          (g, none, few);
      same = let second : q ≡ record a { blocks = q.blocks } = c.owns_members.ensures.same in second ∙ ap (λ (z : Records). record z { blocks = q.blocks }) first;
      cells = c.owns_members.ensures.cells ∙ c.in_a_set.ensures.cells;
      touches = after_ties r.blocks.touches r.blocks.total a.blocks.touches a.blocks.total q.blocks.touches q.blocks.total c.in_a_set.ensures.touches.1 c.owns_members.ensures.touches.1;
      looked =
          let more = subst (λ (z : Records). c.owns_members.new.self.blocks.touches ≤ a.blocks.touches + count_sets (owned_by (Class c.args.class)) z.layout.sets) first c.owns_members.ensures.looked in
          omega (arith, more, c.in_a_set.ensures.looked, c.requires.touches);
    }

pub returns-in-Err-clause-found : goal.returns-in-Err-clause-found
returns-in-Err-clause-found c =
    let fits = c.ranges.r in let f = simp to_z-of_z at c.in-Err.ensures.found in
    ap (λ z. and_then z (λ r. let_go (state c.args.self.now) c.args.class (number_in c.args.r))) f

pub returns-in-Err-clause-looked : goal.returns-in-Err-clause-looked
returns-in-Err-clause-looked c = omega (arith, c.requires.touches)
