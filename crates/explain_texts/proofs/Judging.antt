-- From what is wrong at each step to what is wrong with the text.
use Rattle.std.proofs.Common.{◌≡◌, ◌∙◌, ℕ, List, Option, Some, None, Result, IfOk, sym, ap, subst}
use Rattle.std.specs.Prelude.{IfSome}
use Rattle.std.proofs.lemmas.Result.{IfOk-weaker}
use Rattle.ss_lex.specs.declared.token.Token.{Token}
use Rattle.ss_lex.specs.Tokens.{AreTokens}
use Rattle.ss_tree.specs.Tree.{ProgramTree}
use Rattle.ss_parse.specs.Openers.{nesting_limit}
use Rattle.ss_parse.specs.SpelledPrograms.{Is_spelling}
use Rattle.ss_tables_rules.specs.Broken.{refusal_of_declarations}
use Rattle.ss_check_rules.specs.declared.error.CheckError.{CheckError}
use Rattle.ss_check_rules.specs.declared.error.CheckError.TheVariants as using
use Rattle.ss_check_rules.specs.Refusal.{refusal_of_uses}
use Rattle.ss_engine.specs.Accepting.{IsTreeOf, IsRefusedWith, IsTreeRefusedWith}
use Rattle.ss_engine.specs.Refusals.{used}
use Rattle.ss_engine.specs.declared.refusal.Refusal.{Refusal}
use Rattle.explain_texts.specs.Judged.{IsJudged, AreJudged, IsTreeJudged, refusal_for_uses}

-- ---- the rules on what a program does with its names

uses_refused : (text : List ℕ) (tree : ProgramTree) → IsTreeOf text tree → refusal_of_declarations tree ≡ None → (e : CheckError) → refusal_of_uses tree ≡ Some e → IsRefusedWith text (used e)
uses_refused text tree r d using.Memory h = tt
uses_refused text tree r d e h = record { tree = tree; read = r; declared = d; broken = h }

uses_refused_so : (tree : ProgramTree) → refusal_of_declarations tree ≡ None → (broken : Option CheckError) → broken ≡ refusal_of_uses tree → IfSome (refusal_for_uses broken) (IsTreeRefusedWith tree)
uses_refused_so tree d None h = tt
uses_refused_so tree d (Some e) h = λ text read. uses_refused text tree read d e (sym h)

pub names_refused : {E : Type 0} (tree : ProgramTree) (r : Result (Option Refusal) E) (broken : Option CheckError) →
    refusal_of_declarations tree ≡ None → broken ≡ refusal_of_uses tree → IfOk r (λ found. found ≡ refusal_for_uses broken) → IfOk r (λ found. IfSome found (IsTreeRefusedWith tree))
names_refused tree r broken d h k =
    IfOk-weaker r (λ found. found ≡ refusal_for_uses broken) (λ found. IfSome found (IsTreeRefusedWith tree))
    (λ found same. subst (λ found. IfSome found (IsTreeRefusedWith tree)) (sym same) (uses_refused_so tree d broken h)) k

-- ---- what is judged of a text

-- what says a refusal's cause, where the answer is the refusal
pub said_so : {E : Type 0} (Says : Option Refusal → Type 0) (r : Result (Option Refusal) E) (refusal cause : Refusal) →
    IfOk r (λ found. found ≡ Some refusal) → refusal ≡ cause → Says (Some cause) → IfOk r Says
said_so Says r refusal cause h e k =
    IfOk-weaker r (λ found. found ≡ Some refusal) Says
    (λ found same. subst Says (sym (same ∙ ap (λ (x : Refusal). Some x) e)) k) h

-- by the program that tokens spell
pub tokens_judged : {E : Type 0} (ts : List Token) (tree : ProgramTree) (r : Result (Option Refusal) E) →
    Is_spelling ts nesting_limit tree → IfOk r (IsTreeJudged tree) → IfOk r (AreJudged ts)
tokens_judged ts tree r s h =
    IfOk-weaker r (IsTreeJudged tree) (AreJudged ts)
    (λ found judged text are. let read : IsTreeOf text tree = record { tokens = ts; are = are; spelled = s } in judged text read) h

-- by the tokens of a text
pub text_judged : {E : Type 0} (text : List ℕ) (ts : List Token) (r : Result (Option Refusal) E) →
    AreTokens text ts → IfOk r (AreJudged ts) → IfOk r (IsJudged text)
text_judged text ts r are h =
    IfOk-weaker r (AreJudged ts) (IsJudged text) (λ found judged. judged text are) h
