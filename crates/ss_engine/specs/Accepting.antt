-- What a text is a program of, and why one is refused.
use Rattle.std.specs.Prelude.{◌≡◌, ◌≢◌, ℕ, ◌<◌, List, Some, None}
use Rattle.ss_lex.specs.declared.token.Token.{Token}
use Rattle.ss_lex.specs.Tokens.{AreTokens}
use Rattle.ss_lex.specs.Refusals.{IsRefused}
use Rattle.ss_tree.specs.Tree.{ProgramTree}
use Rattle.ss_tree.specs.Nodes.{tree_nodes}
use Rattle.ss_parse.specs.declared.error.ParseError.{ParseError}
use Rattle.ss_parse.specs.declared.error.ParseError.TheVariants as parsing
use Rattle.ss_parse.specs.Openers.{nesting_limit}
use Rattle.ss_parse.specs.Promise.{Is_refused, Has_line}
use Rattle.ss_parse.specs.SpelledPrograms.{Is_spelling}
use Rattle.ss_tables_rules.specs.declared.error.TableError.{TableError}
use Rattle.ss_tables_rules.specs.Broken.{refusal_of_declarations as declaration_refusal}
use Rattle.ss_check_rules.specs.declared.error.CheckError.{CheckError}
use Rattle.ss_check.specs.Checking.{resolved_program, refusal_of as use_refusal}
use Rattle.ss_program.specs.Program.{Program}
use Rattle.ss_code_instructions.specs.Running.{IsFaithful}
use Rattle.ss_code_instructions.specs.Translation.{code_of}
use Rattle.ss_code_instructions.specs.Size.{code_size}
use Rattle.ss_code.specs.Limits.{instruction_limit, small_program}
use Rattle.ss_code.specs.Running.{Generated, IsFor}
use Rattle.ss_engine.specs.declared.refusal.Refusal.{Refusal}
use Rattle.ss_engine.specs.declared.refusal.Refusal.TheVariants.{Lexed, Parsed, Declared, Used, CodeTooLong, Memory}

-- the text has these tokens, and they spell this tree
pub record IsTreeOf (text : List ℕ) (tree : ProgramTree) : Type 0 where
  pub tokens : List Token
  pub are : AreTokens text tokens
  pub spelled : Is_spelling tokens nesting_limit tree

-- the text has this tree, which breaks no rule: neither by what it declares nor by what it does with its names
pub record IsKeptBy (text : List ℕ) (tree : ProgramTree) : Type 0 where
  pub read : IsTreeOf text tree
  pub declared : declaration_refusal tree ≡ None
  pub kept : use_refusal tree ≡ None

-- the text is well formed, and this is its program: its tree with each name resolved
pub record IsProgramOf (text : List ℕ) (p : Program) : Type 0 where
  pub tree : ProgramTree
  pub keeps : IsKeptBy text tree
  pub resolved : resolved_program tree ≡ Some p

-- the text is well formed
abbrev pub IsWellFormed : List ℕ → Type 0
IsWellFormed text = (tree : ProgramTree) × IsKeptBy text tree

-- the code is that of the text's program, and this code does what the text means: for every input and every number of ticks what the
-- program means, and nothing else
pub record IsCompiledTo (text : List ℕ) (code : Generated) : Type 0 where
  pub program : Program
  pub meant : IsProgramOf text program
  pub code_is : IsFor program code
  pub behaves : IsFaithful program (code_of program)

-- the text has tokens, and they spell no program: for syntax none of any depth; where it is too deep, none within the
-- limit on nesting, while more tokens than that open a level; the line is that of a token. Memory is no such cause.
pub record IsNoProgram (text : List ℕ) (e : ParseError) : Type 0 where
  pub tokens : List Token
  pub are : AreTokens text tokens
  pub refused : Is_refused tokens e
  pub other : e ≢ parsing.Memory
  pub line : Has_line tokens e

-- the text has a tree whose declarations break this rule first, in the line of the first place
pub record IsMisdeclared (text : List ℕ) (e : TableError) : Type 0 where
  pub tree : ProgramTree
  pub read : IsTreeOf text tree
  pub broken : declaration_refusal tree ≡ Some e

-- the text has a tree whose declarations break no rule, and whose statements break this rule first, in the line of the first place
pub record IsIllFormed (text : List ℕ) (e : CheckError) : Type 0 where
  pub tree : ProgramTree
  pub read : IsTreeOf text tree
  pub declared : declaration_refusal tree ≡ None
  pub broken : use_refusal tree ≡ Some e

-- the text is well formed, but its tree has more than 16,384 nodes, and the code of its program more than 1,048,576
-- instructions
pub record IsLarge (text : List ℕ) : Type 0 where
  pub program : Program
  pub meant : IsProgramOf text program
  pub large : small_program < tree_nodes meant.tree
  pub long : instruction_limit < code_size program

-- when a text is refused so; a refusal for memory says nothing of the text
abbrev pub IsRefusedWith : List ℕ → Refusal → Type 0
IsRefusedWith text (Lexed e) = IsRefused text e
IsRefusedWith text (Parsed e) = IsNoProgram text e
IsRefusedWith text (Declared e) = IsMisdeclared text e
IsRefusedWith text (Used e) = IsIllFormed text e
IsRefusedWith text CodeTooLong = IsLarge text
IsRefusedWith text Memory = Unit {0}

-- this code is that of each text with this tree
abbrev pub IsTreeCompiledTo : ProgramTree → Generated → Type 0
IsTreeCompiledTo tree code = (text : List ℕ) → IsTreeOf text tree → IsCompiledTo text code

-- each text with this tree is refused so
abbrev pub IsTreeRefusedWith : ProgramTree → Refusal → Type 0
IsTreeRefusedWith tree refusal = (text : List ℕ) → IsTreeOf text tree → IsRefusedWith text refusal
