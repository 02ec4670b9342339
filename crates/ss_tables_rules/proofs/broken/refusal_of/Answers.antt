use Rattle.std.proofs.Common.{◌≡◌, ◌++◌, List, Option, None, map, option_map, sym, ap, ◌∙◌}
use Rattle.ss_tables_rules.proofs.Common.{Declaration, earlier, flat_map, fold, fold-append, misranked, repeats, table_error_order, TableError}
use Rattle.std.proofs.lemmas.Result.{IfOk-weaker}
use Rattle.ss_tree.specs.View.{view_preamble, view_program_tree, view_section}
use Rattle.ss_names.specs.Table.{Table, clashes, declared}
use Rattle.ss_tables_rules.specs.Broken.{table_breaches, declaration_breaches, unmoded}
use Rattle.ss_tables_rules.specs.declared.error.TableError.TheVariants as e
use Rattle.ss_tables_rules.proofs.Finding.{twice_first}
use Rattle.ss_tables_rules.proofs.broken.refusal_of.Goals as goal

pub returns : goal.returns
returns c =
    let t = c.args.names.now in
    let ds = c.args.declarations.now in
    let p = view_program_tree c.args.program.now in
    let step : Option TableError → TableError → Option TableError = earlier table_error_order in
    let first = map e.Twice (clashes ds) in
    let second = repeats t ds in
    let third = flat_map (declaration_breaches t) ds in
    let fourth = misranked t p.preamble in
    let fifth = unmoded t p.sections in
    let clash : c.clash_breach-twice.result ≡ fold step None first =
    c.clash_breach-twice.ensures ∙ ap (option_map e.Twice) c.requires.clash ∙ sym (twice_first None (clashes ds)) in
    let one : c.in_ok-once.once ≡ fold step (fold step None first) second =
    c.in_ok-once.ensures ∙ ap (λ (f : Option TableError). fold step f second) clash in
    let two : c.declared_breaks-by_table.result ≡ fold step (fold step (fold step None first) second) third =
    c.declared_breaks-by_table.ensures ∙ ap (λ (f : Option TableError). fold step f third) one in
    let three : c.misranked-by_keys.result ≡ fold step (fold step (fold step (fold step None first) second) third) fourth =
    c.misranked-by_keys.ensures
    ∙ (λ i. fold step (two i) (misranked t (map view_preamble (c.deref.ensures.value i)))) in
    let all : fold step (fold step (fold step (fold step (fold step None first) second) third) fourth) fifth ≡ fold step None (table_breaches t ds p) =
    sym (fold-append step None first (second ++ (third ++ (fourth ++ fifth)))
    ∙ fold-append step (fold step None first) second (third ++ (fourth ++ fifth))
    ∙ fold-append step (fold step (fold step None first) second) third (fourth ++ fifth)
    ∙ fold-append step (fold step (fold step (fold step None first) second) third) fourth fifth) in
    IfOk-weaker c.unmoded.result _ _
    (λ b is. is
    ∙ (λ i. fold step (three i) (unmoded t (map view_section (c.deref-2.ensures.value i))))
    ∙ all
    ∙ ap (λ (s : Table). fold step None (table_breaches s ds p)) c.requires.names
    ∙ ap (λ (xs : List Declaration). fold step None (table_breaches (declared xs) xs p)) c.requires.declarations)
    c.unmoded.ensures
