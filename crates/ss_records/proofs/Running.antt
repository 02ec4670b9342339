-- Lists of commands, one command after another.
use Rattle.std.proofs.Common.{◌≡◌, ℕ, suc, ◌+◌, ◌<◌, List, [], ◌∷◌, ◌++◌, length, get_or, take, drop, Result, Ok, Err, refl, sym, ap, ◌∙◌, arith, append_assoc}
use Rattle.std.specs.Prelude.{OnErr}
use Rattle.std.proofs.Math.Seq.{drop-cons, take-suc}
use Rattle.ss_records.proofs.Common.{after_command, after_commands, Command, command_answer, command_answers, CommandAnswer, State}

one_more : (xs : List Command) (x : Command) (s : State) → after_commands (xs ++ x ∷ []) s ≡ after_command x (after_commands xs s)
one_more [] x s = refl
one_more (y ∷ ys) x s = one_more ys x (after_command y s)

-- what holds anyway holds after an error
pub on_err : {A B P : Type 0} (r : Result A B) → P → OnErr r P
on_err (Ok a) p = tt
on_err (Err e) p = p

module _ (xs : List Command) (i : ℕ) (x : Command) (h : i < length xs) (e : x ≡ get_or xs i x) (s : State) where
  next : suc i ≡ i + 1
  next = omega arith

  rest : drop i xs ≡ x ∷ drop (i + 1) xs
  rest = drop-cons xs i x h ∙ (λ j. sym e j ∷ drop (next j) xs)

  pub given_next : (given : List CommandAnswer) → (given ++ command_answer x s ∷ []) ++ command_answers (drop (i + 1) xs) (after_command x s) ≡ given ++ command_answers (drop i xs) s
  given_next given = append_assoc given (command_answer x s ∷ []) (command_answers (drop (i + 1) xs) (after_command x s)) ∙ ap (λ zs. given ++ command_answers zs s) (sym rest)

  pub rest_next : after_commands (drop (i + 1) xs) (after_command x s) ≡ after_commands (drop i xs) s
  rest_next = ap (λ zs. after_commands zs s) (sym rest)

  -- the commands so far and this one
  pub made_next : (first : State) → s ≡ after_commands (take i xs) first → after_command x s ≡ after_commands (take (i + 1) xs) first
  made_next first q = ap (after_command x) q ∙ sym (one_more (take i xs) x first) ∙ ap (λ zs. after_commands zs first) (sym (sym (ap (λ n. take n xs) next) ∙ take-suc xs i x h ∙ ap (λ z. take i xs ++ z ∷ []) (sym e)))
