use Rattle.std.proofs.Common.{◌≡◌, List, length, map, sym, ap, ◌∙◌}
use Rattle.ss_check_rules.proofs.Common.{check_error_order, length-map, locals, locals_of, Moded, PreambleStatement, Section, Table, Use, uses, uses_seen, Vec}
use Rattle.ss_tree.specs.View.{view_preamble, view_program_tree, view_section}
use Rattle.ss_names_declarations.specs.Earliest.{earliest}
use Rattle.ss_check_rules.specs.Refusal.{breaches}
use Rattle.ss_check_rules.proofs.SectionBreaks.{locals_by_uses}
use Rattle.ss_check_rules.proofs.program.judge.Goals as goal

-- the uses and the local variables of all sections
uses_are : (all : List (Vec Use)) (lent : List Section) (sections : List Section) → map uses_seen all ≡ map uses (map view_section lent) → lent ≡ sections → map uses_seen all ≡ map uses (map view_section sections)
uses_are all lent sections h e = h ∙ ap (λ (l : List Section). map uses (map view_section l)) e

locals_are : (t : Table) (all lent : List (Vec Use)) (found : List Moded) (sections : List Section) → found ≡ map (locals t) (map uses_seen lent) → lent ≡ all → map uses_seen all ≡ map uses (map view_section sections) → found ≡ map (locals_of t) (map view_section sections)
locals_are t all lent found sections h e u =
    h ∙ ap (λ (l : List (Vec Use)). map (locals t) (map uses_seen l)) e ∙ ap (map (locals t)) u ∙ locals_by_uses t (map view_section sections)

as_many_uses : (all : List (Vec Use)) (sections : List Section) → map uses_seen all ≡ map uses (map view_section sections) → length all ≡ length sections
as_many_uses all sections u =
    sym (length-map all uses_seen) ∙ ap length u ∙ length-map (map view_section sections) uses ∙ length-map sections view_section

as_many_locals : (t : Table) (found : List Moded) (sections : List Section) → found ≡ map (locals_of t) (map view_section sections) → length found ≡ length sections
as_many_locals t found sections l = ap length l ∙ length-map (map view_section sections) (locals_of t) ∙ length-map sections view_section

pub program_judged-found-requires : goal.program_judged-found-requires
program_judged-found-requires c =
    let sections = c.args.program.now.sections.items in
    let t = c.args.names.now in
    let u = uses_are c.in_ok-all.all.items c.deref.result.now sections c.in_ok-all.ensures c.deref.ensures.value in
    let l = locals_are t c.in_ok-all.all.items c.deref-2.result.now c.in_ok-locals.locals.items sections c.in_ok-locals.ensures c.deref-2.ensures.value u in
    let lent = c.deref-4.ensures.value in
    record {
      each = ap length c.deref-5.ensures.value ∙ as_many_uses c.in_ok-all.all.items sections u ∙ sym (ap length lent);
      every = ap length c.deref-6.ensures.value ∙ as_many_locals t c.in_ok-locals.locals.items sections l ∙ sym (ap length lent);
      uses = ap (map uses_seen) c.deref-5.ensures.value ∙ u ∙ sym (ap (λ (xs : List Section). map uses (map view_section xs)) lent);
      locals = c.deref-6.ensures.value ∙ l ∙ sym (ap (λ (xs : List Section). map (locals_of t) (map view_section xs)) lent);
    }

pub returns-clause-locals : goal.returns-clause-locals
returns-clause-locals c =
    let sections = c.args.program.now.sections.items in
    let u = uses_are c.in_ok-all.all.items c.deref.result.now sections c.in_ok-all.ensures c.deref.ensures.value in
    locals_are c.args.names.now c.in_ok-all.all.items c.deref-2.result.now c.in_ok-locals.locals.items sections c.in_ok-locals.ensures c.deref-2.ensures.value u

pub returns-clause-refusal : goal.returns-clause-refusal
returns-clause-refusal c =
    let p = view_program_tree c.args.program.now in
    c.program_judged-found.ensures
    ∙ ap (λ (l : List PreambleStatement). earliest check_error_order (breaches c.args.names.now (record { preamble = map view_preamble l; sections = map view_section c.deref-4.result.now }))) c.deref-3.ensures.value
    ∙ ap (λ (l : List Section). earliest check_error_order (breaches c.args.names.now (record { preamble = p.preamble; sections = map view_section l }))) c.deref-4.ensures.value
    ∙ ap (λ (t : Table). earliest check_error_order (breaches t p)) c.requires
