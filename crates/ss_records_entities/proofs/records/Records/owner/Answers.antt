use Rattle.std.proofs.Common.{sym, ap, ◌∙◌}
use Rattle.ss_records_entities.proofs.Common.{Class, false_is_not_true, is_system, owner_in, owner_kind, SetLayout, state, to_z-of_z}
use Rattle.ss_records_entities.proofs.Owning.{has_number, owns_found, not_owner, of_system, system_owns, kind_is}
use Rattle.ss_records_entities.proofs.records.Records.owner.Goals as goal

pub returns-then-is_of_system : goal.returns-then-is_of_system
returns-then-is_of_system c =
    let r = c.args.self.now in
    record { found = system_owns r c.args.s c.args.o (of_system (owner_kind r.layout c.args.s) (sym c.is_of_system.ensures ∙ c.if-is_of_system.true)) }

-- the set is not of the system
pub returns-in-System : goal.returns-in-System
returns-in-System c =
    let r = c.args.self.now in let k = kind_is r.layout c.args.s (λ (t : SetLayout). t.owner) _ c.requires.set c.in-System.ensures.is in
    absurd (false_is_not_true (sym c.if-is_of_system.false ∙ c.is_of_system.ensures ∙ ap is_system (ap owner_in k.1 ∙ k.2)))

pub number-requires : goal.number-requires
number-requires c = has_number c.args.self.now c.requires.kept c.in-Class.class _ c.in-Ok.place c.in-Ok.ensures.found

pub returns-in-Ok : goal.returns-in-Ok
returns-in-Ok c =
    let r = c.args.self.now in let fits = c.ranges.o in let f = simp to_z-of_z at c.in-Ok.ensures.found in
    let k = kind_is r.layout c.args.s (λ (t : SetLayout). t.owner) (Class c.in-Class.class) c.requires.set c.in-Class.ensures.is in
    record { found = owns_found r c.requires.kept c.in-Class.class c.args.o c.in-Ok.place f c.number.result c.number.ensures c.args.s (ap owner_in k.1 ∙ k.2) }

pub returns-in-Err : goal.returns-in-Err
returns-in-Err c =
    let r = c.args.self.now in let fits = c.ranges.o in let f = simp to_z-of_z at c.in-Err.ensures.found in
    let k = kind_is r.layout c.args.s (λ (t : SetLayout). t.owner) (Class c.in-Class.class) c.requires.set c.in-Class.ensures.is in
    record { found = not_owner (state r) c.args.s c.in-Class.class c.args.o c.in-Err.fault (ap owner_in k.1 ∙ k.2) f }
