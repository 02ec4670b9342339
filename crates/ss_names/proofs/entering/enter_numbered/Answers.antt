use Rattle.std.proofs.Common.{ap, ◌∙◌}
use Rattle.ss_names.proofs.Common.{enter_name, entered, NameBytes, on_ok_weaker}
use Rattle.ss_program.specs.declared.expression.SetQuery.TheVariants.{FirstMember, LastMember, MemberCount}
use Rattle.ss_program.specs.declared.expression.MemberQuery.TheVariants.{Predecessor, Successor, Membership}
use Rattle.ss_names.specs.declared.meaning.Meaning.TheVariants as m
use Rattle.ss_names.specs.Table.{derived_name}
use Rattle.ss_names.proofs.Steps.{one_further}
use Rattle.ss_names.proofs.entering.enter_numbered.Goals as goal

pub returns : goal.returns
returns c =
    let step = enter_name c.args.line in
    let name = c.args.name.now in
    let set = c.args.set in
    let one = c.in_ok-enter.ensures ∙ ap (λ (n : NameBytes). step (entered c.args.meanings.now c.args.clash.now) (n, m.Set set)) c.of_name-spelling.ensures in
    let two = one_further step (derived_name 70 name, m.OfSet FirstMember set) one c.in_ok-enter_of_set.ensures in
    let three = one_further step (derived_name 76 name, m.OfSet LastMember set) two c.in_ok-enter_of_set-2.ensures in
    let four = one_further step (derived_name 78 name, m.OfSet MemberCount set) three c.in_ok-enter_of_set-3.ensures in
    let five = one_further step (derived_name 80 name, m.OfMember Predecessor set) four c.in_ok-enter_of_member.ensures in
    let six = one_further step (derived_name 83 name, m.OfMember Successor set) five c.in_ok-enter_of_member-2.ensures in
    on_ok_weaker c.enter_of_member-3.result (λ e. one_further step (derived_name 77 name, m.OfMember Membership set) six e) c.enter_of_member-3.ensures
