use Rattle.std.proofs.Common.{◌≡◌, ◌+◌, sym, ◌∙◌, arith, refl, ap}
use Rattle.ss_records_entities.proofs.Common.{ints, link, number, state, to_z-of_z, uncounted, word_at}
use Rattle.ss_records_entities.proofs.Looks.{owner_leads, owner_small, owner_value}
use Rattle.ss_records_entities.proofs.Files.{looked}
use Rattle.ss_records_entities.proofs.Still.{kept_still, set_still, at_start, one_of_two, base_room2, one_room, two_touches, no_touch, unmoved}
use Rattle.ss_records_entities.proofs.records.Records.owner_in.Goals as goal

pub follow-owner-requires : goal.follow-owner-requires
follow-owner-requires c =
    record {
      leads =
          let b = c.member_base-base in let same = c.is_filed.ensures.same in
          let h = owner_leads c.args.self.now c.requires.kept c.args.s c.requires.set c.in-Ok.member c.in-Ok.ensures.found.0 b.result (rw same at b.ensures.at) (sym c.is_filed.ensures.value ∙ c.if-not-is_filed.false) in
          rw c.is_filed.ensures.cells h;
      room = let r = c.args.self.now in let p = c.is_filed.new.self in one_room r.blocks.touches r.blocks.total p.blocks.touches p.blocks.total c.requires.touches c.is_filed.ensures.touches;
    }

pub overflow_cast-result : goal.overflow_cast-result
overflow_cast-result c =
    let b = c.member_base-base in let same = c.is_filed.ensures.same in let cells = c.is_filed.ensures.cells in let q = c.follow-owner.result in
    let w : word_at c.args.self.now.blocks.cells c.in-Ok.member.place.at (b.result + 2) ≡ link q.place.at = (λ i. word_at (sym cells i) c.in-Ok.member.place.at (b.result + 2)) ∙ c.follow-owner.ensures.word in
    let v : word_at c.args.self.now.blocks.cells q.place.at 1 ≡ number q.number = (λ i. word_at (sym cells i) q.place.at 1) ∙ c.follow-owner.ensures.there in
    let h = owner_small c.args.self.now c.requires.kept c.args.s c.requires.set c.in-Ok.member c.in-Ok.ensures.found.0 b.result (rw same at b.ensures.at) (sym c.is_filed.ensures.value ∙ c.if-not-is_filed.false) q w v in
    omega (arith, ints, h)

pub returns-else-not-is_filed : goal.returns-else-not-is_filed
returns-else-not-is_filed c =
    let r = c.args.self.now in let p = c.is_filed.new.self in let b = c.follow-owner.new.self in
    let h : uncounted (record p { blocks = b }) ≡ uncounted r = looked r p b c.is_filed.ensures.same c.is_filed.ensures.cells c.follow-owner.ensures.cells in
    record {
      value =
          let fits = c.ranges.x in let f = simp to_z-of_z at c.in-Ok.ensures.found in let b = c.member_base-base in let same = c.is_filed.ensures.same in let cells = c.is_filed.ensures.cells in let q = c.follow-owner.result in
          let w : word_at c.args.self.now.blocks.cells c.in-Ok.member.place.at (b.result + 2) ≡ link q.place.at = (λ i. word_at (sym cells i) c.in-Ok.member.place.at (b.result + 2)) ∙ c.follow-owner.ensures.word in
          let v : word_at c.args.self.now.blocks.cells q.place.at 1 ≡ number q.number = (λ i. word_at (sym cells i) q.place.at 1) ∙ c.follow-owner.ensures.there in
          owner_value c.args.self.now c.requires.kept c.args.s c.requires.set c.in-Ok.member f.0 b.result (rw same at b.ensures.at) (sym c.is_filed.ensures.value ∙ c.if-not-is_filed.false) q w v c.args.x f.1;
      kept = kept_still r (record p { blocks = b }) h c.requires.kept;
      same = ap state h;
      touches = two_touches r.blocks.touches r.blocks.total p.blocks.touches p.blocks.total c.requires.touches c.is_filed.ensures.touches b.touches b.total c.follow-owner.ensures.touches;
    }

pub joiner-requires : goal.joiner-requires
joiner-requires c = record { kept = c.requires.kept; set = c.requires.set }

pub is_filed-requires : goal.is_filed-requires
is_filed-requires c =
    record {
      kept = c.requires.kept;
      set = c.requires.set;
      joins = c.in-Ok.ensures.found.0;
      touches = let r = c.args.self.now in at_start r.blocks.touches r.blocks.total 0 0 c.requires.touches;
    }

pub returns-then-not-is_filed-clause-kept : goal.returns-then-not-is_filed-clause-kept
returns-then-not-is_filed-clause-kept c =
    let r = c.args.self.now in let p = c.is_filed.new.self in let h : uncounted p ≡ uncounted r = unmoved r p c.is_filed.ensures.same c.is_filed.ensures.cells in
    kept_still r p h c.requires.kept

pub returns-then-not-is_filed-clause-same : goal.returns-then-not-is_filed-clause-same
returns-then-not-is_filed-clause-same c =
    let r = c.args.self.now in let p = c.is_filed.new.self in let h : uncounted p ≡ uncounted r = unmoved r p c.is_filed.ensures.same c.is_filed.ensures.cells in
    ap state h

pub returns-then-not-is_filed-clause-touches : goal.returns-then-not-is_filed-clause-touches
returns-then-not-is_filed-clause-touches c =
    let r = c.args.self.now in let p = c.is_filed.new.self in
    one_of_two r.blocks.touches r.blocks.total p.blocks.touches p.blocks.total c.requires.touches c.is_filed.ensures.touches

pub member_base-base-requires : goal.member_base-base-requires
member_base-base-requires c =
    let r = c.args.self.now in let p = c.is_filed.new.self in let h : uncounted p ≡ uncounted r = unmoved r p c.is_filed.ensures.same c.is_filed.ensures.cells in
    set_still r p h c.args.s c.requires.set

pub overflow_add-base : goal.overflow_add-base
overflow_add-base c = base_room2 c.member_base-base.result c.member_base-base.ensures.bound

pub returns-in-Err-clause-kept : goal.returns-in-Err-clause-kept
returns-in-Err-clause-kept c = c.requires.kept

pub returns-in-Err-clause-same : goal.returns-in-Err-clause-same
returns-in-Err-clause-same c = refl

pub returns-in-Err-clause-touches : goal.returns-in-Err-clause-touches
returns-in-Err-clause-touches c = let r = c.args.self.now in no_touch r.blocks.touches r.blocks.total 0 0 c.requires.touches 2 1
