use Rattle.std.proofs.Common.{◌+◌, Some, ap, sym, ◌∙◌, subst}
use Rattle.ss_base.specs.declared.layout.Mode.{Mode}
use Rattle.ss_machine_notices.specs.Beginning.{IsReadTo}
use Rattle.ss_machine_notices.proofs.events.read_one.Goals as goal

pub read_number-requires-clause-mode : goal.read_number-requires-clause-mode
read_number-requires-clause-mode c = c.requires.mode ∙ ap Some c.in-Integer.is

pub read_text-requires-clause-mode : goal.read_text-requires-clause-mode
read_text-requires-clause-mode c = c.requires.mode ∙ ap Some c.in-Alpha.is

pub returns-in-Integer : goal.returns-in-Integer
returns-in-Integer c =
    subst (λ (m : Mode). IsReadTo c.args.world.now.heap c.args.what.class c.args.field c.args.what.notice m (c.args.what.from + c.args.field) c.args.rows.now c.read_number.new.rows c.read_number.result) (sym c.in-Integer.is) c.read_number.ensures

pub returns-in-Alpha : goal.returns-in-Alpha
returns-in-Alpha c =
    subst (λ (m : Mode). IsReadTo c.args.world.now.heap c.args.what.class c.args.field c.args.what.notice m (c.args.what.from + c.args.field) c.args.rows.now c.read_text.new.rows c.read_text.result) (sym c.in-Alpha.is) c.read_text.ensures
