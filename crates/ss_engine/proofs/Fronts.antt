-- From the error of each layer to the refusal of the text.
use Rattle.std.proofs.Common.{◌≡◌, ◌≢◌, ℕ, ◌≤◌, ◌<◌, List, length, None, Result, refl, sym, subst, arith}
use Rattle.std.specs.Prelude.{IfErr, IsErrAnd}
use Rattle.std.proofs.lemmas.Result.{err_from_is_err_and}
use Rattle.ss_engine.proofs.Common.{code_of, Declared, IsProgramOf, IsRefusedWith, IsTreeOf, Lexed, Parsed, ParseError, Program, ProgramTree, Refusal, Token, Used}
use Rattle.ss_lex.specs.declared.error.LexError.{LexError}
use Rattle.ss_lex.specs.declared.error.LexError.TheVariants as lexical
use Rattle.ss_lex.specs.Tokens.{AreTokens}
use Rattle.ss_lex.specs.Refusals.{IsRefused}
use Rattle.ss_parse.specs.declared.error.ParseError.TheVariants as parsing
use Rattle.ss_parse.specs.Promise.{Is_refused, Has_line}
use Rattle.ss_tree.specs.Nodes as tree
use Rattle.ss_tables_rules.specs.Broken.{refusal_of_declarations as declaration_refusal}
use Rattle.ss_tables_rules.specs.declared.error.TableError.{TableError}
use Rattle.ss_tables_rules.specs.declared.error.TableError.TheVariants as declaring
use Rattle.ss_tables.specs.Tables.{IsReportedError}
use Rattle.ss_check_rules.specs.declared.error.CheckError.{CheckError}
use Rattle.ss_check_rules.specs.declared.error.CheckError.TheVariants as using
use Rattle.ss_check.specs.Checking.{IsReportedBreach, refusal_of as use_refusal}
use Rattle.ss_program.specs.Nodes as resolved
use Rattle.ss_code.specs.declared.error.CodeError.{CodeError}
use Rattle.ss_code.specs.declared.error.CodeError.TheVariants as generating
use Rattle.ss_code.specs.Limits.{instruction_limit, small_program}
use Rattle.ss_code_instructions.specs.Size.{code_size}
use Rattle.ss_engine.specs.Refusals.{coded, table_refusal, lexed, parsed, used}

-- ---- an error other than that for memory is wrapped

pub lexed_other : (e : LexError) → (e ≡ lexical.Memory → ⊥) → Lexed e ≡ lexed e
lexed_other lexical.Memory h = absurd (h refl)
lexed_other e h = refl

pub parsed_other : (e : ParseError) → (e ≡ parsing.Memory → ⊥) → Parsed e ≡ parsed e
parsed_other parsing.Memory h = absurd (h refl)
parsed_other e h = refl

pub declared_other : (e : TableError) → (e ≡ declaring.Memory → ⊥) → Declared e ≡ table_refusal e
declared_other declaring.Memory h = absurd (h refl)
declared_other e h = refl

pub used_other : (e : CheckError) → (e ≡ using.Memory → ⊥) → Used e ≡ used e
used_other using.Memory h = absurd (h refl)
used_other e h = refl

-- ---- why a text is refused

pub lexer_refused : (text : List ℕ) (e : LexError) → (e ≢ lexical.Memory → IsRefused text e) → IsRefusedWith text (lexed e)
lexer_refused text lexical.Memory h = tt
lexer_refused text e h = h (λ q. cc)

pub parser_refused : (text : List ℕ) (ts : List Token) → AreTokens text ts → (e : ParseError) → Is_refused ts e → Has_line ts e → IsRefusedWith text (parsed e)
parser_refused text ts are parsing.Memory h l = tt
parser_refused text ts are e h l = record { tokens = ts; are = are; refused = h; other = λ q. cc; line = l }

pub tables_refused : (text : List ℕ) (tree : ProgramTree) → IsTreeOf text tree → (e : TableError) → IsReportedError e (declaration_refusal tree) → IsRefusedWith text (table_refusal e)
tables_refused text tree r declaring.Memory h = tt
tables_refused text tree r e h = record { tree = tree; read = r; broken = h }

pub checker_refused : (text : List ℕ) (tree : ProgramTree) → IsTreeOf text tree → declaration_refusal tree ≡ None → (e : CheckError) → IsReportedBreach e (use_refusal tree) → IsRefusedWith text (used e)
checker_refused text tree r d using.Memory h = tt
checker_refused text tree r d e h = record { tree = tree; read = r; declared = d; broken = h }

larger : (n m : ℕ) → n ≤ m → (n ≤ small_program → ⊥) → small_program < m
larger n m k h = omega (arith, k, h)

pub generator_refused : (text : List ℕ) (p : Program) (m : IsProgramOf text p) → resolved.nodes p ≤ tree.tree_nodes m.tree → (e : CodeError) → (resolved.nodes p ≤ small_program → e ≡ generating.CodeTooLong → ⊥) → (e ≡ generating.CodeTooLong → instruction_limit < length (code_of p).places) → length (code_of p).places ≡ code_size p → IsRefusedWith text (coded e)
generator_refused text p m k generating.CodeTooLong h l size = record { program = p; meant = m; large = larger (resolved.nodes p) (tree.tree_nodes m.tree) k (λ small. h small refl); long = subst (λ n. instruction_limit < n) size (l refl) }
generator_refused text p m k generating.Memory h l size = tt

-- the exit of a `?`, by what the error becomes
pub refused_so : {X : Type 0} (Says : Refusal → Type 0) (r : Result X Refusal) (cause : Refusal) → IsErrAnd r (λ f. f ≡ cause) → Says cause → IfErr r Says
refused_so Says r cause h k =
    let p = err_from_is_err_and r h in
    subst (λ z. IfErr z Says) (sym p.1) (subst Says (sym p.2) k)
