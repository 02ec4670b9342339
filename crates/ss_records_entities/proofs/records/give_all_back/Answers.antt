use Rattle.std.proofs.Common.{◌≡◌, ℕ, inl, drop, ◌+◌, ◌-◌, ◌*◌, ◌/◌, ◌<◌, ◌≤◌, length, slice_get, None, sym, ap, subst, ◌∙◌, arith}
use Rattle.ss_records_entities.proofs.Common.{Class, class_at_place, class_in_words, in_page, IsNumber, living_count, lying, plain, quot, rem, word_of}
use Rattle.ss_records_entities.proofs.Living.{Left, living_drop, rows_held, is_there, left_given, left_past}
use Rattle.ss_records_entities.proofs.records.give_all_back.Goals as goal
use Rattle.ss_records_entities.proofs.records.give_all_back.Goals.{in-Some, in-None}

class_is : {m n : ℕ} → Class m ≡ Class n → m ≡ n
class_is e = cc

in_stretch : (j q : ℕ) → q * 256 ≤ j → j < (q + 1) * 256 → j / 256 ≡ q
in_stretch j q a b = omega (arith, a, b, quot j, rem j)

pub number-class-requires : goal.number-class-requires
number-class-requires c =
    let K = c.requires.kept.1 in let h = c.loop-i.invariant.left in let g = is_there _ c.in-Some.place c.in-Some.ensures in
    subst IsNumber (sym (ap (λ us. word_of us 0) (h.kept c.loop-i.i c.in-Some.place (omega arith) g) ∙ (K.formed c.loop-i.i c.in-Some.place (inl g)).class)) tt

pub block_words-words-requires : goal.block_words-words-requires
block_words-words-requires c = λ k e.
    let g = is_there _ c.in-Some.place c.in-Some.ensures in
    let same : c.number-class.result ≡ k = class_is e in
    let is : c.number-class.result ≡ class_at_place c.args.blocks.now.cells c.in-Some.place = sym (ap plain c.number-class.ensures) ∙ ap class_in_words (c.loop-i.invariant.left.kept c.loop-i.i c.in-Some.place (omega arith) g) in
    subst (λ n. n < length c.args.layout.now.classes) (sym is ∙ same) (c.requires.kept.1.classes c.loop-i.i c.in-Some.place (inl g))

pub loop-i-preserved : goal.loop-i-preserved
loop-i-preserved c =
    let l = c.args.layout.now in let cs = c.args.blocks.now.cells in let d = lying c.args.directory.now.places c.args.permanents.now in let K = c.requires.kept.1 in let h = c.loop-i.invariant.left in let i = c.loop-i.i in let bs = c.loop-i.blocks.cells in
    elim c.match-place_of.branch [
      | in-Some w ↦ let p = w.in-Some.place in let g = is_there _ p w.in-Some.ensures in record {
        left = rw (w.blocks-is, w.give_back.ensures.cells) (left_given l cs bs c.args.system.at d c.requires.kept.0 K i p g h.kept h);
      }
      | in-None w ↦ record { left = rw w.blocks-is (left_past cs bs c.args.system.at d i 1 (i + 1) (omega arith) (λ j a b. subst (λ k. in_page (slice_get d.numbers k) ≡ None) (only i j a b) (sym w.in-None.ensures)) h) }
    ] where
      only : (i j : ℕ) → i ≤ j → j < i + 1 → i ≡ j
      only i j a b = omega (arith, a, b)

pub loop-stretch-preserved : goal.loop-stretch-preserved
loop-stretch-preserved c =
    let cs = c.args.blocks.now.cells in let d = lying c.args.directory.now.places c.args.permanents.now in let q = c.loop-stretch.stretch in let n = c.numbers_in.result in
    let few = c.numbers_in.ensures.few in
    let at : Left cs c.loop-i.blocks.cells c.args.system.at d (q * 256 + n) = subst (λ k. Left cs c.loop-i.blocks.cells c.args.system.at d k) (omega (arith, c.loop-i-test.false, c.loop-i.auto.i, c.loop-i.auto.i-end)) c.loop-i.invariant.left in
    record {
      left = left_past cs c.loop-i.blocks.cells c.args.system.at d (q * 256 + n) (256 - n) ((q + 1) * 256) (omega (arith, few)) (λ j a b. c.numbers_in.ensures.others j (in_stretch j q (omega (arith, a)) b) a) at;
    }

pub give_rows_back-requires-clause-held : goal.give_rows_back-requires-clause-held
give_rows_back-requires-clause-held c =
    let d = c.args.directory.now.places in let h = c.loop-stretch.invariant.left in let i = c.loop-stretch.stretch * 256 in
    let none : living_count (drop i d) ≡ 0 = living_drop d i (omega (arith, c.loop-stretch-test.false, c.stretches-stretch-end.ensures.all)) in
    rows_held c.args.layout.now c.args.blocks.now.cells c.loop-stretch.blocks.cells c.args.system.at (lying d c.args.permanents.now) c.requires.kept.0 c.requires.kept.1 h.made (omega (arith, h.count, none))
