use Rattle.std.proofs.Common.{◌≡◌, ◌<◌, Some, length, map, refl, sym, ap, ◌∙◌, arith}
use Rattle.ss_code_generator.proofs.Common.{length-map, option_map, slice_get, view_place}
use Rattle.std.proofs.lemmas.Option.{slice_get_read, slice_get-map}
use Rattle.ss_code_generator.proofs.Emitting.{around_old}
use Rattle.ss_code_generator.proofs.Called.{gives_more, gives_all}
use Rattle.ss_code_generator.proofs.generator.Generator.gives.Goals as goal

pub loop-i-preserved : goal.loop-i-preserved
loop-i-preserved c =
    let l = c.loop-i in
    let xs = c.args.places.now in
    let ps = map view_place xs in
    let item = c.index-places-i.result in
    let below : l.i < length xs = c.loop-i-test.true in
    let is : slice_get ps l.i ≡ Some (view_place item) = slice_get-map view_place xs l.i ∙ ap (option_map view_place) (slice_get_read xs (length xs) l.i item refl below c.index-places-i.is) in
    record {
      code = gives_more ps l.i is (sym (length-map xs view_place)) below c.above.ensures.line c.above.ensures.height l.invariant.room l.invariant.code c.in_ok-give.ensures;
      room = λ f around. l.invariant.room f (around_old c.in_ok-give.ensures.grows around);
    }

pub returns : goal.returns
returns c =
    let l = c.loop-i in
    let xs = c.args.places.now in
    let end : l.i ≡ length (map view_place xs) = omega (arith, c.loop-i-test.false, l.auto.i-end, length-map xs view_place) in
    gives_all (map view_place xs) end l.invariant.code
