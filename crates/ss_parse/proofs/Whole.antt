-- Whole token lists: what is promised of parsing follows from the laws of reading.
use Rattle.std.proofs.Common.{◌≡◌, ℕ, suc, ◌<◌, ◌≤◌, max, List, [], ◌∷◌, length, Result, Ok, Err, refl, sym, subst, ◌∙◌, arith, inl, inr}
use Rattle.ss_parse.proofs.Common.{Is_spelling, openers, ParseFault, Program_is, Token}
use Rattle.ss_parse_expressions.specs.declared.failure.ParseFault.TheVariants.{Syntax, TooDeep}
use Rattle.ss_tree.specs.Tree.{ProgramTree}
use Rattle.ss_parse.specs.Promise.{Has_no_tree, One_tree}
use Rattle.ss_parse_expressions.specs.Reading.{◌>>=◌}
use Rattle.ss_parse.specs.ReadPrograms.{none_left, program_in, program_of}
use Rattle.ss_parse_expressions.proofs.Tools.{bind_ok, result_is}
use Rattle.ss_parse_expressions.proofs.Depth.{Upto, upto_bind, upto_same, Bounded}
use Rattle.ss_parse.proofs.ProgramLaws.{program_reads}

none_is : (p q : ProgramTree) (rest : List Token) → none_left (p, rest) ≡ Ok q → (p ≡ q) × (rest ≡ [])
none_is p q [] e = (result_is p q e, refl)
none_is p q (r ∷ rest) e = absurd cc

pub program_sound : (levels : ℕ) (ts : List Token) (p : ProgramTree) → program_of levels ts ≡ Ok p → Is_spelling ts levels p
unfolding program_of
program_sound levels ts p e =
    let x = bind_ok (program_in (suc levels) ts) none_left p e in
    let end = none_is x.0.0 p x.0.1 x.2 in
    subst (λ (q : ProgramTree). Is_spelling ts levels q) end.0 (subst (λ (r : List Token). Program_is levels x.0.0 ts r) end.1 ((program_reads levels levels (omega arith)).sound ts x.0.0 x.0.1 x.1))

pub program_complete : (levels : ℕ) (ts : List Token) (p : ProgramTree) → Is_spelling ts levels p → program_of levels ts ≡ Ok p
unfolding program_of
program_complete levels ts p s =
    let read : program_in (suc levels) ts ≡ Ok (p, []) = (program_reads levels levels (omega arith)).complete ts p [] s refl in
    rw read refl

program_upto : (n m : ℕ) (ts : List Token) → n ≤ m → Upto (program_of n ts) (program_of m ts)
unfolding program_of
program_upto n m ts le = upto_bind _ _ none_left none_left ((program_reads n m le).under ts) (λ x. upto_same _)

-- with more levels allowed, the tokens have the same tree
raised : (n m : ℕ) (ts : List Token) (p : ProgramTree) → n ≤ m → program_of n ts ≡ Ok p → program_of m ts ≡ Ok p
raised n m ts p le read = elim (program_upto n m ts le) [ inl e ↦ absurd cc | inr e ↦ sym e ∙ read ]

pub one_tree : One_tree
one_tree ts n m p q s r =
    result_is p q (sym (raised n (max n m) ts p (omega arith) (program_complete n ts p s)) ∙ raised m (max n m) ts q (omega arith) (program_complete m ts q r))

pub none_at_all : (limit : ℕ) (ts : List Token) → program_of limit ts ≡ Err Syntax → (levels : ℕ) → Has_no_tree ts levels
none_at_all limit ts h levels p s =
    let read = raised levels (max limit levels) ts p (omega arith) (program_complete levels ts p s) in
    elim (program_upto limit (max limit levels) ts (omega arith)) [ inl e ↦ absurd cc | inr e ↦ absurd cc ]

deep : (r : Result (ProgramTree × List Token) ParseFault) (k n : ℕ) → Bounded k n r → (r >>= none_left) ≡ Err TooDeep → k ≤ n
deep (Err TooDeep) k n h e = h
deep (Ok (p, [])) k n h e = absurd cc
deep _ k n h e = absurd cc

pub none_within : (limit : ℕ) (ts : List Token) → program_of limit ts ≡ Err TooDeep → Has_no_tree ts limit × (limit < openers ts)
unfolding program_of
none_within limit ts h = (λ p s. let read = program_complete limit ts p s in absurd cc, deep (program_in (suc limit) ts) (suc limit) (openers ts) ((program_reads limit limit (omega arith)).opening ts) h)

-- no tokens at all are a program
pub tokens_there : (limit : ℕ) (ts : List Token) (f : ParseFault) → program_of limit ts ≡ Err f → 0 < length ts
tokens_there limit [] f h = let read = program_complete limit [] (record { preamble = []; sections = [] }) ([], inl refl, refl) in absurd cc
tokens_there limit (t ∷ ts) f h = omega arith
