use Rattle.std.proofs.Common.{◌+◌, ◌<◌, ◌++◌, [], ◌∷◌, length, Some, sym, ap, subst, ◌∙◌, arith}
use Rattle.ss_records_blocks.specs.Pages.{Listed, entry}
use Rattle.ss_records_blocks.proofs.Paging.{upto_length, next_slot, paged_pushed, places_pushed}
use Rattle.ss_records_blocks.proofs.register.Register.note.Goals as goal

pub set-requires : goal.set-requires
set-requires c =
    let free = subst (λ (w : Listed). length w.places < w.start + 256) (sym c.self.view_is) c.requires.free in let n = upto_length (entry c.self.inside.earlier c.self.inside.current c.self.inside.start) c.self.inside.issued in let room : c.self.inside.issued < c.self.inside.start + 256 = omega (arith, free, n) in
    next_slot c.self.inside.earlier c.self.inside.current c.self.inside.start c.self.inside.issued c.self.invariant room

pub overflow_add-self : goal.overflow_add-self
overflow_add-self c =
    let n = upto_length (entry c.self.inside.earlier c.self.inside.current c.self.inside.start) c.self.inside.issued in let few = subst (λ (w : Listed). length w.places < 4611686018427387904) (sym c.self.view_is) c.requires.room in
    omega (arith, n, few)

pub invariant_of-self : goal.invariant_of-self
invariant_of-self c =
    let free = subst (λ (w : Listed). length w.places < w.start + 256) (sym c.self.view_is) c.requires.free in let n = upto_length (entry c.self.inside.earlier c.self.inside.current c.self.inside.start) c.self.inside.issued in let room : c.self.inside.issued < c.self.inside.start + 256 = omega (arith, free, n) in
    rw c.set.ensures (paged_pushed c.self.inside.earlier c.self.inside.current c.self.inside.start c.self.inside.issued c.self.invariant c.args.place room)

pub returns : goal.returns
returns c =
    let free = subst (λ (w : Listed). length w.places < w.start + 256) (sym c.self.view_is) c.requires.free in let n = upto_length (entry c.self.inside.earlier c.self.inside.current c.self.inside.start) c.self.inside.issued in let room : c.self.inside.issued < c.self.inside.start + 256 = omega (arith, free, n) in
    rw c.set.ensures (places_pushed c.self.inside.earlier c.self.inside.current c.self.inside.start c.self.inside.issued c.self.invariant c.args.place room ∙ ap (λ (w : Listed). w.places ++ Some c.args.place ∷ []) c.self.view_is)
