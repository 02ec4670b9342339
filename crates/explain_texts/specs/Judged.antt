-- What is wrong with a text, by the rules of the language.
use Rattle.std.specs.Prelude.{◌≡◌, ◌≢◌, ℕ, List, Option, Some, None, option_map}
use Rattle.ss_lex.specs.declared.token.Token.{Token}
use Rattle.ss_lex.specs.Tokens.{AreTokens}
use Rattle.ss_tree.specs.Tree.{ProgramTree}
use Rattle.ss_check_rules.specs.declared.error.CheckError.{CheckError}
use Rattle.ss_code.specs.Running.{Generated}
use Rattle.ss_engine.specs.Accepting.{IsTreeOf, IsCompiledTo, IsRefusedWith}
use Rattle.ss_engine.specs.Refusals.{used}
use Rattle.ss_engine.specs.declared.refusal.Refusal.{Refusal}
use Rattle.ss_engine.specs.declared.refusal.Refusal.TheVariants.{Memory}

-- the text is refused so, or has a code
abbrev pub IsJudged : List ℕ → Option Refusal → Type 0
IsJudged text (Some refusal) = IsRefusedWith text refusal
IsJudged text None = (code : Generated) × IsCompiledTo text code

-- each text with these tokens is judged so
abbrev pub AreJudged : List Token → Option Refusal → Type 0
AreJudged ts judgement = (text : List ℕ) → AreTokens text ts → IsJudged text judgement

-- each text with this tree is judged so
abbrev pub IsTreeJudged : ProgramTree → Option Refusal → Type 0
IsTreeJudged tree judgement = (text : List ℕ) → IsTreeOf text tree → IsJudged text judgement

-- the refusal for the rule that is broken by what a program does with its names, if one is
abbrev pub refusal_for_uses : Option CheckError → Option Refusal
refusal_for_uses broken = option_map used broken

-- what is wrong with a text: it is refused so, for another cause than memory, or None where it has a code
abbrev pub IsWrong : List ℕ → Option Refusal → Type 0
IsWrong text wrong = IsJudged text wrong × (wrong ≢ Some Memory)
