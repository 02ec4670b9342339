use Rattle.std.proofs.lemmas.Result.{IfOk-weaker, IfErr-weaker}
use Rattle.ss_tree.specs.View.{view_program_tree as tree_seen}
use Rattle.ss_engine.proofs.Common.{lexed, parsed}
use Rattle.ss_engine.specs.Accepting.{IsTreeOf, IsCompiledTo, IsRefusedWith, IsTreeCompiledTo, IsTreeRefusedWith}
use Rattle.ss_engine.proofs.Fronts.{lexer_refused, parser_refused, refused_so}
use Rattle.ss_engine.proofs.compiling.compile.Goals as goal

pub returns-in_err-tokens-clause-refused : goal.returns-in_err-tokens-clause-refused
returns-in_err-tokens-clause-refused c =
    refused_so (IsRefusedWith c.args.text.now) c.from_residual.result (lexed c.in_err-tokens.field-0.0) c.from_residual.ensures.1
    (lexer_refused c.args.text.now c.in_err-tokens.field-0.0 c.in_err-tokens.ensures.refused)

pub returns-in_err-program-clause-refused : goal.returns-in_err-program-clause-refused
returns-in_err-program-clause-refused c =
    refused_so (IsRefusedWith c.args.text.now) c.from_residual-in_err-program.result (parsed c.in_err-program.field-0.0) c.from_residual-in_err-program.ensures.1
    (parser_refused c.args.text.now c.in_ok-tokens.tokens.list c.in_ok-tokens.ensures.found c.in_err-program.field-0.0 c.in_err-program.ensures.refused c.in_err-program.ensures.line)

pub returns-clause-accepted : goal.returns-clause-accepted
returns-clause-accepted c =
    let tree = tree_seen c.in_ok-program.program in
    let read : IsTreeOf c.args.text.now tree = record { tokens = c.in_ok-tokens.tokens.list; are = c.in_ok-tokens.ensures.found; spelled = c.in_ok-program.ensures.found } in
    IfOk-weaker c.compile_tree.result (IsTreeCompiledTo tree) (IsCompiledTo c.args.text.now) (λ model of_tree. of_tree c.args.text.now read) c.compile_tree.ensures.accepted

pub returns-clause-refused : goal.returns-clause-refused
returns-clause-refused c =
    let tree = tree_seen c.in_ok-program.program in
    let read : IsTreeOf c.args.text.now tree = record { tokens = c.in_ok-tokens.tokens.list; are = c.in_ok-tokens.ensures.found; spelled = c.in_ok-program.ensures.found } in
    IfErr-weaker c.compile_tree.result (IsTreeRefusedWith tree) (IsRefusedWith c.args.text.now) (λ refusal of_tree. of_tree c.args.text.now read) c.compile_tree.ensures.refused
