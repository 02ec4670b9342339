use Rattle.std.proofs.Common.{List, [], length, drop, sym, ◌∙◌, subst}
use Rattle.std.proofs.lemmas.List.{take_at}
use Rattle.ss_machine_world.proofs.Common.{AreSaid, ClassEntry}
use Rattle.ss_machine_world.proofs.class.class_entries.Goals as goal

pub returns : goal.returns
returns c =
    let l = c.args.layout.now in let ss = c.args.statistics.now in let new = c.note_ranks.new.classes in let old = c.in_ok-classes.classes in
    let said = c.note_ranks.ensures l ss (subst (λ (entries : List ClassEntry). AreSaid l [] ss entries) (sym c.deref_mut.ensures.value) c.in_ok-classes.ensures) in
    subst (λ (entries : List ClassEntry). AreSaid l c.args.notices.now ss entries)
    (sym (take_at new (drop (length new) old.items) old.len (c.note_ranks.auto.classes ∙ c.deref_mut.ensures.len))) said
