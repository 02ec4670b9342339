use Rattle.std.proofs.Common.{rules, Ok, Err, refl}
use Rattle.ss_machine_instructions.proofs.Common.{attribute_noted, HasChanged}
use Rattle.ss_machine_instructions.proofs.Figuring.{after_fault, after_unnoted, after_noted}
use Rattle.ss_machine_instructions.proofs.state.State.assigned.Goals as goal

pub returns-in-Err : goal.returns-in-Err
returns-in-Err c =
    let note = attribute_noted c.args.class c.args.field c.args.entity in
    record {
      world = c.args.self.now.world;
      said = Err c.in-Err.kind;
      after = after_fault c.args.answer c.in-Err.kind c.args.noted note c.args.self.now.world c.in-Err.is;
      state = c.fault.ensures.faulted;
      way = c.fault.ensures.none;
    }

pub returns-then-noted : goal.returns-then-noted
returns-then-noted c =
    let note = attribute_noted c.args.class c.args.field c.args.entity in
    let changed : HasChanged note c.args.self.now.world c.note_attribute-answer.new.self c.note_attribute-answer.result = search rules in
    record {
      world = c.note_attribute-answer.new.self;
      said = c.note_attribute-answer.result;
      after = after_noted c.args.answer tt c.args.noted note c.args.self.now.world c.note_attribute-answer.new.self c.note_attribute-answer.result c.in-Ok.is c.if-noted.true changed;
      state = c.done.ensures.state;
      way = c.done.ensures.way;
    }

pub returns-else-noted : goal.returns-else-noted
returns-else-noted c =
    let note = attribute_noted c.args.class c.args.field c.args.entity in
    record {
      world = c.args.self.now.world;
      said = Ok tt;
      after = after_unnoted c.args.answer tt c.args.noted note c.args.self.now.world c.in-Ok.is c.if-noted.false;
      state = refl;
      way = refl;
    }
