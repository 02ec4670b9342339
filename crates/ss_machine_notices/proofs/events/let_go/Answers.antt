use Rattle.std.proofs.Common.{rules, ◌≡◌, ◌<◌, ℤ, length, refl, ap, sym, ◌∙◌, subst, to_z, of_z, w64}
use Rattle.ss_machine_notices.proofs.Common.{gone, HasChanged, HasLetGo, IfSome, noted, OfVariable, pos, TwoRows, Whole, with_number}
use Rattle.ss_machine_notices.proofs.Giving.{got_at}
use Rattle.ss_machine_notices.proofs.events.let_go.Goals as goal

pub saved_of-requires : goal.saved_of-requires
saved_of-requires c = c.requires.rank

pub remove_entity-requires : goal.remove_entity-requires
remove_entity-requires c = record { class = c.requires.class; single = c.requires.single }

pub set_number_at-requires : goal.set_number_at-requires
set_number_at-requires c =
    let s = c.args.state.now in
    let said = got_at s.world.notices c.args.rank c.requires.rank in
    subst (λ o. IfSome o (λ k. k < length s.rows.numbers)) (sym (c.in-Some.ensures said.0 said.1)) (c.requires.saved said.0 said.1)

pub returns-in-None : goal.returns-in-None
returns-in-None c = λ said here.
    let s = c.args.state.now in let n = c.args.notice in let class = c.args.class in
    let e = c.remove_entity.new.self in let r = c.remove_entity.result in
    let same : to_z w64 (of_z w64 n) ≡ n = search rules in
    subst (λ o. HasLetGo o class n s (record s { world = e }) r) (c.in-None.ensures said here)
    (subst (λ (z : ℤ). HasChanged (gone class (Whole z)) s.world e r) same c.remove_entity.ensures, refl)

pub returns-in-Some : goal.returns-in-Some
returns-in-Some c = λ said here.
    let s = c.args.state.now in let n = c.args.notice in let class = c.args.class in let k = c.in-Some.variable in
    let e = c.note_variable.new.self in let r = c.note_variable.result in
    let same : to_z w64 (of_z w64 n) ≡ n = search rules in
    let rows : c.set_number_at.new.self ≡ with_number s.rows k n = c.set_number_at.ensures ∙ ap (with_number s.rows k) same in
    subst (λ o. HasLetGo o class n s (record s { rows = c.set_number_at.new.self; world = e }) r) (c.in-Some.ensures said here) (
      subst (λ (z : ℤ). HasChanged (noted (OfVariable k) (pos 0) (Whole z)) s.world e r) same c.note_variable.ensures,
      ap (λ (x : TwoRows). record s { rows = x; world = e }) rows,
    )
