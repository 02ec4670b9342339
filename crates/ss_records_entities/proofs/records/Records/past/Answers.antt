use Rattle.std.proofs.Common.{rules, ◌≡◌, ℤ, w64, to_z, of_z, true, false, refl, sym, ap, subst, ◌∙◌, arith}
use Rattle.ss_records_entities.proofs.Common.{first_where, HasLink, member_class, members_of, ranks_past, Records, state, to_z-of_z, Whole, word_at}
use Rattle.ss_records_entities.proofs.Looks.{end_leads}
use Rattle.ss_records_entities.proofs.Cuts.{at_end}
use Rattle.ss_records_entities.proofs.Still.{joins_still, unmoved}
use Rattle.ss_records_entities.proofs.Passing.{at_start, room, joins, small, it_is, none_past, next_leads, next_walk}
use Rattle.ss_records_entities.proofs.records.Records.past.Goals as goal

pub follow-member-requires-clause-leads : goal.follow-member-requires-clause-leads
follow-member-requires-clause-leads c = end_leads c.args.self.now c.requires.kept c.args.s c.requires.set c.args.owner c.requires.owns c.owner_base-first.result c.owner_base-first.ensures.at false

pub members-init : goal.members-init
members-init c =
    let r = c.args.self.now in let w = c.follow-member in
    let v : ℤ = to_z w64 (of_z w64 c.args.own) in let e : v ≡ c.args.own = search rules in
    let t = ranks_past (state r) (member_class r.layout c.args.s) c.args.field c.args.high (Whole v) in
    let between = at_end r c.requires.kept c.args.s c.requires.set c.args.owner c.requires.owns c.owner_base-first.result c.owner_base-first.ensures.at w.result false w.ensures.word w.ensures.there in
    record {
      same = refl;
      cells = w.ensures.cells;
      walk = at_start r c.args.s c.args.owner.number t (record { place = r.system; number = 0 }) w.result w.new.self.touches between (omega (arith, w.ensures.touches.0, c.requires.touches));
      total = omega (arith, w.ensures.touches.0, w.ensures.touches.1, c.requires.touches);
    }

pub is_past-requires-clause-joins : goal.is_past-requires-clause-joins
is_past-requires-clause-joins c =
    let r = c.args.self.now in let m = c.members in
    let v : ℤ = to_z w64 (of_z w64 c.args.own) in let e : v ≡ c.args.own = search rules in
    let t = ranks_past (state r) (member_class r.layout c.args.s) c.args.field c.args.high (Whole v) in
    joins_still r m.self (unmoved r m.self m.invariant.same m.invariant.cells) c.args.s m.member
    (joins r c.requires.kept c.args.s c.requires.set c.args.owner.number t m.member m.self.blocks.touches m.invariant.walk c.members-test.true)

pub returns-then-is_past-clause-value : goal.returns-then-is_past-clause-value
returns-then-is_past-clause-value c =
    let r = c.args.self.now in let m = c.members in let v : ℤ = to_z w64 (of_z w64 c.args.own) in let e : v ≡ c.args.own = search rules in
    let t = ranks_past (state r) (member_class r.layout c.args.s) c.args.field c.args.high (Whole v) in let fo = c.ranges.own in let h = simp to_z-of_z at c.if-is_past.ensures in
    let test_result : true ≡ t m.member.number = h ∙ ap (λ (z : Records). ranks_past (state z) (member_class z.layout c.args.s) c.args.field c.args.high (Whole c.args.own) m.member.number) (unmoved r m.self m.invariant.same m.invariant.cells) ∙ ap (λ (z : ℤ). ranks_past (state r) (member_class r.layout c.args.s) c.args.field c.args.high (Whole z) m.member.number) (sym e) in
    it_is r c.requires.kept c.args.s c.requires.set c.args.owner.number t m.member m.self.blocks.touches m.invariant.walk c.members-test.true (sym test_result)
    ∙ ap (λ (z : ℤ). first_where (ranks_past (state r) (member_class r.layout c.args.s) c.args.field c.args.high (Whole z)) (members_of r.notes.lists c.args.s c.args.owner.number)) e

pub returns-then-is_past-clause-small : goal.returns-then-is_past-clause-small
returns-then-is_past-clause-small c =
    let r = c.args.self.now in let m = c.members in let v : ℤ = to_z w64 (of_z w64 c.args.own) in let t = ranks_past (state r) (member_class r.layout c.args.s) c.args.field c.args.high (Whole v) in
    small r c.requires.kept c.args.s c.requires.set c.args.owner.number t m.member m.self.blocks.touches m.invariant.walk c.members-test.true

pub follow-member-requires-in-members-clause-leads : goal.follow-member-requires-in-members-clause-leads
follow-member-requires-in-members-clause-leads c =
    let r = c.args.self.now in let m = c.members in
    let v : ℤ = to_z w64 (of_z w64 c.args.own) in let e : v ≡ c.args.own = search rules in
    let t = ranks_past (state r) (member_class r.layout c.args.s) c.args.field c.args.high (Whole v) in
    subst (λ cs. HasLink cs m.member.place.at c.member_base-next.result) (sym m.invariant.cells)
    (next_leads r c.requires.kept c.args.s c.requires.set c.args.owner.number t m.member m.self.blocks.touches m.invariant.walk c.members-test.true c.member_base-next.result c.member_base-next.ensures.at)

pub follow-member-requires-in-members-clause-room : goal.follow-member-requires-in-members-clause-room
follow-member-requires-in-members-clause-room c =
    let r = c.args.self.now in let m = c.members in
    let v : ℤ = to_z w64 (of_z w64 c.args.own) in let e : v ≡ c.args.own = search rules in
    let t = ranks_past (state r) (member_class r.layout c.args.s) c.args.field c.args.high (Whole v) in
    room r c.requires.kept c.args.s c.requires.set c.args.owner.number t m.member m.self.blocks.touches m.invariant.walk

pub members-preserved : goal.members-preserved
members-preserved c =
    let r = c.args.self.now in let m = c.members in let w = c.follow-member-in-members in
    let v : ℤ = to_z w64 (of_z w64 c.args.own) in let e : v ≡ c.args.own = search rules in
    let t = ranks_past (state r) (member_class r.layout c.args.s) c.args.field c.args.high (Whole v) in
    let fo = c.ranges.own in let h = simp to_z-of_z at c.if-is_past.ensures in
    let test_result : false ≡ t m.member.number = h ∙ ap (λ (z : Records). ranks_past (state z) (member_class z.layout c.args.s) c.args.field c.args.high (Whole c.args.own) m.member.number) (unmoved r m.self m.invariant.same m.invariant.cells)
    ∙ ap (λ (z : ℤ). ranks_past (state r) (member_class r.layout c.args.s) c.args.field c.args.high (Whole z) m.member.number) (sym e) in
    let word = (λ i. word_at (sym m.invariant.cells i) m.member.place.at c.member_base-next.result) ∙ w.ensures.word in
    let there = (λ i. word_at (sym m.invariant.cells i) w.result.place.at 1) ∙ w.ensures.there in
    record {
      same = ap (λ (z : Records). record z { blocks = w.new.self }) m.invariant.same;
      cells = w.ensures.cells ∙ m.invariant.cells;
      walk = next_walk r c.requires.kept c.args.s c.requires.set c.args.owner.number t m.member m.self.blocks.touches m.invariant.walk c.members-test.true c.member_base-next.result c.member_base-next.ensures.at (sym test_result) w.result w.new.self.touches word there w.ensures.touches.0;
      total = omega (arith, w.ensures.touches.0, w.ensures.touches.1, m.invariant.total);
    }

pub returns-clause-value : goal.returns-clause-value
returns-clause-value c =
    let r = c.args.self.now in let m = c.members in
    let v : ℤ = to_z w64 (of_z w64 c.args.own) in let e : v ≡ c.args.own = search rules in
    let t = ranks_past (state r) (member_class r.layout c.args.s) c.args.field c.args.high (Whole v) in
    sym (none_past r c.requires.kept c.args.s c.requires.set c.args.owner.number t m.member m.self.blocks.touches m.invariant.walk c.members-test.false)
    ∙ ap (λ (z : ℤ). first_where (ranks_past (state r) (member_class r.layout c.args.s) c.args.field c.args.high (Whole z)) (members_of r.notes.lists c.args.s c.args.owner.number)) e
