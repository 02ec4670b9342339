use Rattle.std.proofs.Common.{rules, ◌≡◌, ℤ, Some, Err, sym, subst, to_z, of_z, w64}
use Rattle.std.specs.Prelude.{slice_get}
use Rattle.ss_machine_world.proofs.Common.{attribute_noted, HasChanged, Integer, modes_of, OfAttribute, Seen, value_in, Whole}
use Rattle.ss_machine_world.proofs.Noting.{attribute_not, noted_statistics}
use Rattle.ss_machine_world.proofs.Starting.{seen_of}
use Rattle.ss_machine_world.proofs.world.World.note_attribute.Goals as goal

pub returns-in-Err : goal.returns-in-Err
returns-in-Err c =
    let class = c.args.class in let field = c.args.field in let x = c.args.entity in let k = c.in-Err.kind in
    let i = c.self.inside in
    let same_x : to_z w64 (of_z w64 x) ≡ x = search rules in
    let e : Seen = seen_of i.disciplines.items i.notices.items i.population i.timeline in
    let mode : slice_get (modes_of i.population.layout class) field ≡ Some Integer = subst (λ (v : Seen). slice_get (modes_of v.heap.layout class) field ≡ Some Integer) (sym c.self.view_is) c.requires.mode in
    let is : value_in i.population class field x ≡ Err k = subst (λ (z : ℤ). value_in i.population class field z ≡ Err k) same_x c.in-Err.ensures in
    subst (λ (old : Seen). HasChanged (attribute_noted class field x) old old (Err k)) c.self.view_is (attribute_not e class field x mode k is)

pub invariant_of-self : goal.invariant_of-self
invariant_of-self c = rw (noted_statistics (OfAttribute c.args.class c.args.field) (to_z w64 (of_z w64 c.args.entity)) (Whole (to_z w64 (of_z w64 c.in-Ok.value))) c.self.inside.timeline c.note.new.self c.note.result c.note.ensures) c.self.invariant
