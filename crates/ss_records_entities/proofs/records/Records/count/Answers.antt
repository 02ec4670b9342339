use Rattle.std.proofs.Common.{arith, refl, ap, ◌∙◌}
use Rattle.ss_records_entities.proofs.Common.{false_is_not_true, ints, state, to_z-of_z}
use Rattle.ss_records_entities.proofs.Looks.{counts, how_many_small, how_many_value}
use Rattle.ss_records_entities.proofs.Still.{kept_still, unmoved}
use Rattle.ss_records_entities.proofs.records.Records.count.Goals as goal

pub owner-requires : goal.owner-requires
owner-requires c = record { kept = c.requires.kept; set = c.requires.set }

pub owner_base-base-requires : goal.owner_base-base-requires
owner_base-base-requires c = c.requires.set

pub overflow_add-base : goal.overflow_add-base
overflow_add-base c = omega (arith, c.owner_base-base.ensures.bound)

pub peek_count-count-requires : goal.peek_count-count-requires
peek_count-count-requires c = record { word = counts c.args.self.now c.requires.kept c.args.s c.requires.set c.in-Ok.owner c.in-Ok.ensures.found.0 c.owner_base-base.result c.owner_base-base.ensures.at }

pub start_at-requires : goal.start_at-requires
start_at-requires c = tt

pub start-requires : goal.start-requires
start-requires c = tt

pub overflow_cast-result : goal.overflow_cast-result
overflow_cast-result c =
    let h = how_many_small c.args.self.now c.requires.kept c.args.s c.requires.set c.in-Ok.owner c.in-Ok.ensures.found.0 c.owner_base-base.result c.owner_base-base.ensures.at c.peek_count-count.result c.peek_count-count.ensures.word in
    omega (arith, ints, h)

pub returns-in-Ok : goal.returns-in-Ok
returns-in-Ok c =
    let r = c.args.self.now in
    record {
      value =
          let fits = c.ranges.o in let f = simp to_z-of_z at c.in-Ok.ensures.found in
          how_many_value c.args.self.now c.requires.kept c.args.s c.requires.set c.in-Ok.owner f.0 c.owner_base-base.result c.owner_base-base.ensures.at c.peek_count-count.result c.peek_count-count.ensures.word c.args.o f.1;
      kept = let q = record r { blocks = c.start_at.new.self } in kept_still r q (unmoved r q refl (c.start_at.ensures.cells ∙ c.peek_count-count.ensures.cells)) c.requires.kept;
      same = ap state (unmoved r (record r { blocks = c.start_at.new.self }) refl (c.start_at.ensures.cells ∙ c.peek_count-count.ensures.cells));
      touches = let n = c.peek_count-count.ensures.touches in let at = c.start_at.ensures.touches in (omega (arith, at.0), λ _. omega (arith, at.0), omega (arith, n.1, at.0, at.1));
    }

pub returns-in-Err-clause-kept : goal.returns-in-Err-clause-kept
returns-in-Err-clause-kept c = let r = c.args.self.now in let q = record r { blocks = c.start.new.self } in kept_still r q (unmoved r q refl c.start.ensures.cells) c.requires.kept

pub returns-in-Err-clause-same : goal.returns-in-Err-clause-same
returns-in-Err-clause-same c = let r = c.args.self.now in ap state (unmoved r (record r { blocks = c.start.new.self }) refl c.start.ensures.cells)

pub returns-in-Err-clause-touches : goal.returns-in-Err-clause-touches
returns-in-Err-clause-touches c = let f = c.start.ensures.touches in (omega (arith, f.0), λ e. absurd (false_is_not_true e), omega (arith, f.0, f.1))
