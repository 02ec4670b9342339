-- How many pictures a trigger word calls for, from token to token.
use Rattle.std.proofs.Common.{◌≡◌, ℕ, Bool, true, false, ◌||◌, List, [], ◌∷◌, ◌++◌, refl, sym, ap, ◌∙◌, inl, inr}
use Rattle.ss_lex.proofs.Common.{cases_Bool, first_number, has_kind, is_print, is_print_or_trigger, is_trigger, number_due, number_in_token, or_parts, or_right, Token}
use Rattle.std.specs.Prelude.{if◌then◌else◌}
use Rattle.std.proofs.lemmas.List.Recursion.{or_push}
use Rattle.ss_lex.specs.Collecting.{ends_in_print, number_after, IsSummary}

-- where no token is PRINT or a trigger word, the last is no PRINT
no_print_last : (ts : List Token) → has_kind is_print_or_trigger ts ≡ false → ends_in_print ts ≡ false
no_print_last [] e = refl
no_print_last (t ∷ []) e = (or_parts (is_print t.kind) (is_trigger t.kind) (or_parts (is_print_or_trigger t.kind) false e).0).0
no_print_last (t ∷ u ∷ ts) e = no_print_last (u ∷ ts) (or_parts (is_print_or_trigger t.kind) _ e).1

number_due-push : (ts : List Token) (t : Token) → number_due (ts ++ t ∷ []) ≡ number_after ts t.kind
number_due-push [] t =
    elim (cases_Bool (is_print t.kind)) [
      | inl p ↦ rw p refl
      | inr p ↦ elim (cases_Bool (is_trigger t.kind)) [
        | inl q ↦ rw (p, q) refl
        | inr q ↦ rw (p, q) refl
      ]
    ]
number_due-push (u ∷ ts) t =
    elim (cases_Bool (is_print_or_trigger t.kind)) [
      | inl p ↦
          let any : has_kind is_print_or_trigger (ts ++ t ∷ []) ≡ true = any_push ts ∙ or_right (has_kind is_print_or_trigger ts) (is_print_or_trigger t.kind) p in
          rw any (number_due-push ts t ∙ zero_at ts p ∙ sym (zero_at (u ∷ ts) p))
      | inr p ↦ elim (cases_Bool (has_kind is_print_or_trigger ts)) [
        | inl q ↦
            let any : has_kind is_print_or_trigger (ts ++ t ∷ []) ≡ true = any_push ts ∙ ap (λ b. b || is_print_or_trigger t.kind) q in
            rw any (number_due-push ts t ∙ later ts p q)
        | inr q ↦
            let any : has_kind is_print_or_trigger (ts ++ t ∷ []) ≡ false = any_push ts ∙ (λ i. q i || p i) in
            rw any (here ts p q)
      ]
    ]
  where
    any_push : (vs : List Token) → has_kind is_print_or_trigger (vs ++ t ∷ []) ≡ (has_kind is_print_or_trigger vs || is_print_or_trigger t.kind)
    any_push vs = or_push (has_kind is_print_or_trigger) (λ v. is_print_or_trigger v.kind) refl (λ v ws. refl) vs t

    zero_at : (vs : List Token) → is_print_or_trigger t.kind ≡ true → number_after vs t.kind ≡ 0
    zero_at vs p = ap (λ (b : Bool). if b then 0 else (if ends_in_print vs then number_in_token t.kind else number_due vs)) p

    later : (vs : List Token) → is_print_or_trigger t.kind ≡ false → has_kind is_print_or_trigger vs ≡ true → number_after vs t.kind ≡ number_after (u ∷ vs) t.kind
    later [] p q = absurd cc
    later (v ∷ vs) p q = ap (λ (n : ℕ). if is_print_or_trigger t.kind then 0 else (if ends_in_print (v ∷ vs) then number_in_token t.kind else n)) (ap (λ (b : Bool). if b then number_due (v ∷ vs) else (if is_print u.kind then first_number (v ∷ vs) else 0)) (sym q))

    here : (vs : List Token) → is_print_or_trigger t.kind ≡ false → has_kind is_print_or_trigger vs ≡ false → (if is_print u.kind then first_number (vs ++ t ∷ []) else 0) ≡ number_after (u ∷ vs) t.kind
    here [] p q = elim (cases_Bool (is_print u.kind)) [ inl r ↦ rw (r, p) refl | inr r ↦ rw (r, p) refl ]
    here (v ∷ vs) p q =
        ap (λ (b : Bool). if b then number_due (v ∷ vs) else (if is_print u.kind then number_in_token v.kind else 0)) (sym q)
        ∙ (ap (λ (b : Bool). if b then number_in_token t.kind else number_due (u ∷ v ∷ vs)) (sym (no_print_last (v ∷ vs) q))
        ∙ ap (λ (b : Bool). if b then 0 else (if ends_in_print (v ∷ vs) then number_in_token t.kind else number_due (u ∷ v ∷ vs))) (sym p))

ends-push : (ts : List Token) (t : Token) → ends_in_print (ts ++ t ∷ []) ≡ is_print t.kind
ends-push [] t = refl
ends-push (u ∷ []) t = refl
ends-push (u ∷ v ∷ ts) t = ends-push (v ∷ ts) t

pub summary_push : (ts us : List Token) (t : Token) (print_last : Bool) (number : ℕ) → us ≡ ts ++ t ∷ [] → print_last ≡ is_print t.kind → number ≡ number_after ts t.kind → IsSummary us print_last number
summary_push ts us t print_last number e p n =
    record { ends = p ∙ (sym (ends-push ts t) ∙ ap ends_in_print (sym e)); due = n ∙ (sym (number_due-push ts t) ∙ ap number_due (sym e)) }
