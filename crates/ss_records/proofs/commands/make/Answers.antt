use Rattle.std.proofs.Common.{rules, ◌≡◌, subst, ◌∙◌, arith, w64, to_z, of_z}
use Rattle.ss_records.proofs.Common.{assigned, destroyed, filed_after, filed_before, filed_first, filed_last, removed, timed}
use Rattle.ss_records.specs.Commands.{IsFittingCommand}
use Rattle.ss_records.proofs.Outcomes.{outcome}
use Rattle.ss_records.proofs.commands.make.Goals as goal

pub make_one-requires : goal.make_one-requires
make_one-requires c = subst (IsFittingCommand c.args.heap.now.state.layout) c.in-Create.is c.requires

pub returns-in-Create : goal.returns-in-Create
returns-in-Create c = let e = c.make_one.ensures in rw c.in-Create.is (record { answer = e.answer; ok = e.ok; err = e.err; touches = e.touches })

pub make_all-requires : goal.make_all-requires
make_all-requires c = subst (IsFittingCommand c.args.heap.now.state.layout) c.in-CreateAll.is c.requires

pub returns-in-CreateAll : goal.returns-in-CreateAll
returns-in-CreateAll c =
    let n : to_z w64 (of_z w64 c.in-CreateAll.n) ≡ c.in-CreateAll.n = search rules in let e = c.make_all.ensures in
    rw c.in-CreateAll.is (record { answer = rw n at e.answer; ok = rw n at e.ok; err = e.err; touches = e.touches })

pub destroy-requires : goal.destroy-requires
destroy-requires c = let h = subst (IsFittingCommand c.args.heap.now.state.layout) c.in-Destroy.is c.requires in record { class = h.0; kind = h.1 }

pub returns-in-Destroy : goal.returns-in-Destroy
returns-in-Destroy c =
    let s = c.args.heap.now.state in let r : to_z w64 (of_z w64 c.in-Destroy.r) ≡ c.in-Destroy.r = search rules in
    let o = outcome c.destroy.result (destroyed s c.in-Destroy.class c.in-Destroy.r) s c.destroy.new.self.state (rw r at c.destroy.ensures.done) in
    rw c.in-Destroy.is (record { answer = c.answer_without_value.ensures ∙ o.0; ok = o.1; err = tt; touches = omega (arith, c.destroy.ensures.touches) })

pub set_value-requires : goal.set_value-requires
set_value-requires c = let h = subst (IsFittingCommand c.args.heap.now.state.layout) c.in-SetValue.is c.requires in record { class = h.0; mode = h.1 }

pub returns-in-SetValue : goal.returns-in-SetValue
returns-in-SetValue c =
    let s = c.args.heap.now.state in let r : to_z w64 (of_z w64 c.in-SetValue.r) ≡ c.in-SetValue.r = search rules in
    let o = outcome c.set_value.result (assigned s c.in-SetValue.class c.in-SetValue.field c.in-SetValue.r c.in-SetValue.value) s c.set_value.new.self.state (rw r at c.set_value.ensures.done) in
    rw c.in-SetValue.is (record { answer = c.answer_without_value-in-SetValue.ensures ∙ o.0; ok = o.1; err = tt; touches = omega (arith, c.set_value.ensures.touches.1) })

pub returns-in-SetTime : goal.returns-in-SetTime
returns-in-SetTime c =
    let s = c.args.heap.now.state in let r : to_z w64 (of_z w64 c.in-SetTime.r) ≡ c.in-SetTime.r = search rules in let time : to_z w64 (of_z w64 c.in-SetTime.time) ≡ c.in-SetTime.time = search rules in
    let o = outcome c.set_time_a.result (timed s c.in-SetTime.r c.in-SetTime.time) s c.set_time_a.new.self.state (rw (r, time) at c.set_time_a.ensures.done) in
    rw c.in-SetTime.is (record { answer = c.answer_without_value-in-SetTime.ensures ∙ o.0; ok = o.1; err = tt; touches = omega (arith, c.set_time_a.ensures.touches.1) })

pub file_first-requires : goal.file_first-requires
file_first-requires c = record { set = subst (IsFittingCommand c.args.heap.now.state.layout) c.in-FileFirst.is c.requires }

pub returns-in-FileFirst : goal.returns-in-FileFirst
returns-in-FileFirst c =
    let s = c.args.heap.now.state in let owner : to_z w64 (of_z w64 c.in-FileFirst.owner) ≡ c.in-FileFirst.owner = search rules in let member : to_z w64 (of_z w64 c.in-FileFirst.member) ≡ c.in-FileFirst.member = search rules in
    let o = outcome c.file_first.result (filed_first s c.in-FileFirst.set c.in-FileFirst.owner c.in-FileFirst.member) s c.file_first.new.self.state (rw (owner, member) at c.file_first.ensures.done) in
    rw c.in-FileFirst.is (record { answer = c.answer_without_value-in-FileFirst.ensures ∙ o.0; ok = o.1; err = tt; touches = omega (arith, c.file_first.ensures.touches.2) })

pub file_last-requires : goal.file_last-requires
file_last-requires c = record { set = subst (IsFittingCommand c.args.heap.now.state.layout) c.in-FileLast.is c.requires }

pub returns-in-FileLast : goal.returns-in-FileLast
returns-in-FileLast c =
    let s = c.args.heap.now.state in let owner : to_z w64 (of_z w64 c.in-FileLast.owner) ≡ c.in-FileLast.owner = search rules in let member : to_z w64 (of_z w64 c.in-FileLast.member) ≡ c.in-FileLast.member = search rules in
    let o = outcome c.file_last.result (filed_last s c.in-FileLast.set c.in-FileLast.owner c.in-FileLast.member) s c.file_last.new.self.state (rw (owner, member) at c.file_last.ensures.done) in
    rw c.in-FileLast.is (record { answer = c.answer_without_value-in-FileLast.ensures ∙ o.0; ok = o.1; err = tt; touches = omega (arith, c.file_last.ensures.touches.2) })

pub file_before-requires : goal.file_before-requires
file_before-requires c = record { set = subst (IsFittingCommand c.args.heap.now.state.layout) c.in-FileBefore.is c.requires }

pub returns-in-FileBefore : goal.returns-in-FileBefore
returns-in-FileBefore c =
    let s = c.args.heap.now.state in let owner : to_z w64 (of_z w64 c.in-FileBefore.owner) ≡ c.in-FileBefore.owner = search rules in let member : to_z w64 (of_z w64 c.in-FileBefore.member) ≡ c.in-FileBefore.member = search rules in let beside : to_z w64 (of_z w64 c.in-FileBefore.beside) ≡ c.in-FileBefore.beside = search rules in
    let o = outcome c.file_before.result (filed_before s c.in-FileBefore.set c.in-FileBefore.owner c.in-FileBefore.member c.in-FileBefore.beside) s c.file_before.new.self.state (rw (owner, member, beside) at c.file_before.ensures.done) in
    rw c.in-FileBefore.is (record { answer = c.answer_without_value-in-FileBefore.ensures ∙ o.0; ok = o.1; err = tt; touches = omega (arith, c.file_before.ensures.touches.2) })

pub file_after-requires : goal.file_after-requires
file_after-requires c = record { set = subst (IsFittingCommand c.args.heap.now.state.layout) c.in-FileAfter.is c.requires }

pub returns-in-FileAfter : goal.returns-in-FileAfter
returns-in-FileAfter c =
    let s = c.args.heap.now.state in let owner : to_z w64 (of_z w64 c.in-FileAfter.owner) ≡ c.in-FileAfter.owner = search rules in let member : to_z w64 (of_z w64 c.in-FileAfter.member) ≡ c.in-FileAfter.member = search rules in let beside : to_z w64 (of_z w64 c.in-FileAfter.beside) ≡ c.in-FileAfter.beside = search rules in
    let o = outcome c.file_after.result (filed_after s c.in-FileAfter.set c.in-FileAfter.owner c.in-FileAfter.member c.in-FileAfter.beside) s c.file_after.new.self.state (rw (owner, member, beside) at c.file_after.ensures.done) in
    rw c.in-FileAfter.is (record { answer = c.answer_without_value-in-FileAfter.ensures ∙ o.0; ok = o.1; err = tt; touches = omega (arith, c.file_after.ensures.touches.2) })

pub remove-requires : goal.remove-requires
remove-requires c = record { set = subst (IsFittingCommand c.args.heap.now.state.layout) c.in-Remove.is c.requires }

pub returns-in-Remove : goal.returns-in-Remove
returns-in-Remove c =
    let s = c.args.heap.now.state in let owner : to_z w64 (of_z w64 c.in-Remove.owner) ≡ c.in-Remove.owner = search rules in let member : to_z w64 (of_z w64 c.in-Remove.member) ≡ c.in-Remove.member = search rules in
    let o = outcome c.remove.result (removed s c.in-Remove.set c.in-Remove.owner c.in-Remove.member) s c.remove.new.self.state (rw (owner, member) at c.remove.ensures.done) in
    rw c.in-Remove.is (record { answer = c.answer_without_value-in-Remove.ensures ∙ o.0; ok = o.1; err = tt; touches = omega (arith, c.remove.ensures.touches.2) })
