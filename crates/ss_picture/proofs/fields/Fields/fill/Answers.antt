use Rattle.std.proofs.Common.{◌≡◌, ◌<◌, ℕ, List, length, get_or, ap, sym, arith}
use Rattle.ss_picture.specs.declared.field.Field.{Field}
use Rattle.ss_picture.specs.Pictures.{picture_fields}
use Rattle.ss_picture.specs.Fields.{starts}
use Rattle.ss_picture.proofs.Pieces.{filled-no_items, length-starts, field_within, fill_next, read_known, suits_next}
use Rattle.ss_picture.proofs.fields.Fields.fill.Goals as goal

pub loop-field-init : goal.loop-field-init
loop-field-init c = sym (filled-no_items c.args.line.now)

pub index-start-requires : goal.index-start-requires
index-start-requires c =
    omega (arith, ap length c.requires.starts, length-starts c.args.line.now, c.args.self.now.starts.ok.0)

pub overflow_add-start : goal.overflow_add-start
overflow_add-start c =
    let picture : List ℕ = c.args.line.now in
    let field : Field = c.index-shape.result.now in
    let inside : c.loop-field.field < length (picture_fields picture) = omega (arith, c.requires.a_field_each) in
    let start = read_known _ (starts picture) _ _ 0 c.requires.starts (omega (arith, length-starts picture)) c.index-start.ensures in
    let shape : field ≡ get_or (picture_fields picture) c.loop-field.field field = read_known _ (picture_fields picture) _ _ field c.requires.shapes inside c.index-shape.ensures in
    let width = ap (λ (f : Field). f.width) shape in
    let within = field_within picture c.loop-field.field field inside in
    omega arith

pub slice_bounds-fill_field-end : goal.slice_bounds-fill_field-end
slice_bounds-fill_field-end c =
    let picture : List ℕ = c.args.line.now in
    let field : Field = c.index-shape.result.now in
    let inside : c.loop-field.field < length (picture_fields picture) = omega (arith, c.requires.a_field_each) in
    let start = read_known _ (starts picture) _ _ 0 c.requires.starts (omega (arith, length-starts picture)) c.index-start.ensures in
    let shape : field ≡ get_or (picture_fields picture) c.loop-field.field field = read_known _ (picture_fields picture) _ _ field c.requires.shapes inside c.index-shape.ensures in
    let width = ap (λ (f : Field). f.width) shape in
    let within = field_within picture c.loop-field.field field inside in
    omega arith

pub fill_field-requires : goal.fill_field-requires
fill_field-requires c =
    let picture : List ℕ = c.args.line.now in
    let field : Field = c.index-shape.result.now in
    let inside : c.loop-field.field < length (picture_fields picture) = omega (arith, c.requires.a_field_each) in
    let shape : field ≡ get_or (picture_fields picture) c.loop-field.field field = read_known _ (picture_fields picture) _ _ field c.requires.shapes inside c.index-shape.ensures in
    suits_next picture c.args.items.now c.loop-field.field field c.index-items-field.result c.requires.suited inside c.loop-field-test.true shape c.index-items-field.is

pub loop-field-preserved : goal.loop-field-preserved
loop-field-preserved c =
    let picture : List ℕ = c.args.line.now in
    let field : Field = c.index-shape.result.now in
    let inside : c.loop-field.field < length (picture_fields picture) = omega (arith, c.requires.a_field_each) in
    let start = read_known _ (starts picture) _ _ 0 c.requires.starts (omega (arith, length-starts picture)) c.index-start.ensures in
    let shape : field ≡ get_or (picture_fields picture) c.loop-field.field field = read_known _ (picture_fields picture) _ _ field c.requires.shapes inside c.index-shape.ensures in
    fill_next picture _ _ _ _ _ _ _ inside c.loop-field-test.true c.loop-field.invariant c.index-items-field.is start shape c.fill_field.ensures
