use Rattle.std.proofs.Common.{◌≡◌, ◌≤◌, ◌-◌, Ok, Some, length, slice_get, slice_set, None, sym, ap, subst, ◌∙◌, arith}
use Rattle.ss_records_entities.proofs.Common.{ArePartsKept, block_words, cast_signed, cast_unsigned, Class, destroyed, lying, nat_abs, places, Records, set_places, state, state_of, to_z-of_z, uncounted, without_block, words_at}
use mir.Syntax.{w64}
use Rattle.ss_records_entities.proofs.Destroys.{its_size, kept_destroyed, is_destroyed}
use Rattle.ss_records_entities.proofs.Still.{kept_still, as_many, unmoved}
use Rattle.ss_records_entities.proofs.Frees.{free_by, by_number}
use Rattle.ss_records_entities.proofs.records.Records.destroy.Goals as goal

pub find_free-requires-clause-kept : goal.find_free-requires-clause-kept
find_free-requires-clause-kept c = c.requires.kept

pub find_free-requires-clause-class : goal.find_free-requires-clause-class
find_free-requires-clause-class c = c.requires.class

pub clear-requires : goal.clear-requires
clear-requires c =
    let r = c.args.self.now in let f = c.in-Ok.ensures.found.0 in let q = c.find_free.new.self in
    let whole : q ≡ record r { blocks = q.blocks } = c.find_free.ensures.same in
    let m0 = by_number r c.requires.kept c.args.class _ c.in-Ok.place f c.requires.kind in
    let n : nat_abs (cast_signed w64 (cast_unsigned w64 c.args.r)) - 1 ≡ f.index = ap (λ z. nat_abs z - 1) f.is ∙ omega arith in
    rw n (c.in-Ok.place, subst (λ (z : Records). slice_get z.directory.places f.index ≡ Some (Some c.in-Ok.place)) (sym whole) m0)

pub give_back-requires : goal.give_back-requires
give_back-requires c =
    let r = c.args.self.now in let f = c.in-Ok.ensures.found.0 in let q = c.find_free.new.self in
    let whole : q ≡ record r { blocks = q.blocks } = c.find_free.ensures.same in
    let cells : q.blocks.cells ≡ r.blocks.cells = c.find_free.ensures.cells in
    let m0 = by_number r c.requires.kept c.args.class _ c.in-Ok.place f c.requires.kind in
    let size : length (words_at r.blocks.cells c.in-Ok.place.at) ≡ block_words q.layout (Class c.args.class) = its_size r.layout r.blocks.cells r.system.at (places r) r.notes.lists c.requires.kept f.index c.in-Ok.place m0 c.args.class f.class ∙ ap (λ (z : Records). block_words z.layout (Class c.args.class)) (sym whole) in
    record { size = (rw cells (size ∙ sym c.block_words-words.ensures.size), omega (arith, c.block_words-words.ensures.bound.0)) }

pub returns-in-Ok : goal.returns-in-Ok
returns-in-Ok c =
    let r = c.args.self.now in let f = c.in-Ok.ensures.found.0 in let q = c.find_free.new.self in let p = c.in-Ok.place in let whole : q ≡ record r { blocks = q.blocks } = c.find_free.ensures.same in
    let cells : q.blocks.cells ≡ r.blocks.cells = c.find_free.ensures.cells in let m0 = by_number r c.requires.kept c.args.class _ p f c.requires.kind in
    let n : nat_abs (cast_signed w64 (cast_unsigned w64 c.args.r)) - 1 ≡ f.index = ap (λ z. nat_abs z - 1) f.is ∙ omega arith in
    record {
      kept =
          let k = kept_destroyed r.layout r.blocks.cells r.system.at (places r) r.notes.lists c.requires.kept f.index p m0 (free_by r.layout r.blocks.cells r.system.at (places r) r.notes.lists c.requires.kept f.index p m0 c.args.class f.class c.in-Ok.ensures.found.1 c.in-Ok.ensures.found.2) in
          rw (c.give_back.ensures.cells, c.clear.ensures, n) (subst (λ (z : Records). ArePartsKept z.layout (without_block q.blocks.cells p.at) z.system.at (lying (slice_set z.directory.places f.index None) z.permanents.items) z.notes.lists) (sym whole) (rw cells k));
      done =
          let fits = c.ranges.r in let h = simp to_z-of_z at c.in-Ok.ensures.found in
          let k = is_destroyed r.layout r.blocks.cells r.system.at (places r) r.notes.lists c.requires.kept f.index p m0 c.args.class c.args.r h.0.is h.0.entity c.in-Ok.ensures.found.1 c.in-Ok.ensures.found.2 in
          rw (c.give_back.ensures.cells, c.clear.ensures, n) (subst (λ (z : Records). destroyed (state r) c.args.class c.args.r ≡ Ok (state_of z.layout (without_block q.blocks.cells p.at) (lying (slice_set z.directory.places f.index None) z.permanents.items) z.notes.lists)) (sym whole) (rw cells k));
      touches = let b = c.give_back.new.self in as_many r.blocks.touches r.blocks.total q.blocks.touches q.blocks.total b.touches b.total c.find_free.ensures.touches c.give_back.ensures.touches;
      looked = subst (λ n. n ≤ set_places c.args.self.now.layout (Class c.args.class)) (sym c.give_back.ensures.touches.0) c.find_free.ensures.looked;
    }

pub returns-in-Err : goal.returns-in-Err
returns-in-Err c =
    let r = c.args.self.now in let q = c.find_free.new.self in let h1 : uncounted q ≡ uncounted r = unmoved r q c.find_free.ensures.same c.find_free.ensures.cells in
    record {
      kept = kept_still r q h1 c.requires.kept;
      done = let fits = c.ranges.r in let f = simp to_z-of_z at c.in-Err.ensures.found in (f, ap state h1);
      touches = c.find_free.ensures.touches;
      looked = c.find_free.ensures.looked;
    }
