use Rattle.std.proofs.Common.{◌≡◌, ◌+◌, length, sym, ap, subst, ◌∙◌, arith}
use Rattle.ss_records_blocks.specs.Places.{living_count}
use Rattle.ss_records_blocks.specs.Pages.{Listed, entry}
use Rattle.ss_records_blocks.proofs.Same.{equal}
use Rattle.ss_records_blocks.proofs.Paging.{upto_length, places_again, paged_again, below_here, places_turned, paged_turned, at_least_one}
use Rattle.ss_records_blocks.proofs.register.Register.turn.Goals as goal

pub invariant_of-self : goal.invariant_of-self
invariant_of-self c =
    let full = sym (upto_length (entry c.self.inside.earlier c.self.inside.current c.self.inside.start) c.self.inside.issued) ∙ subst (λ (w : Listed). length w.places ≡ w.start + 256) (sym c.self.view_is) c.requires.full in
    paged_again c.self.inside.earlier c.self.inside.current c.self.inside.start c.self.inside.issued c.self.invariant full (equal (living_count c.self.inside.current) 0 (sym c.is_empty.ensures.value ∙ c.if-is_empty.true))

pub returns-then-is_empty : goal.returns-then-is_empty
returns-then-is_empty c =
    let full = sym (upto_length (entry c.self.inside.earlier c.self.inside.current c.self.inside.start) c.self.inside.issued) ∙ subst (λ (w : Listed). length w.places ≡ w.start + 256) (sym c.self.view_is) c.requires.full in
    let k = places_again c.self.inside.earlier c.self.inside.current c.self.inside.start c.self.inside.issued c.self.invariant full (equal (living_count c.self.inside.current) 0 (sym c.is_empty.ensures.value ∙ c.if-is_empty.true)) in
    (k ∙ ap (λ (w : Listed). w.places) c.self.view_is, omega (arith, full, ap length k, upto_length (entry c.self.inside.earlier c.self.inside.current c.self.inside.start) c.self.inside.issued))

pub push-requires : goal.push-requires
push-requires c =
    let full = sym (upto_length (entry c.self.inside.earlier c.self.inside.current c.self.inside.start) c.self.inside.issued) ∙ subst (λ (w : Listed). length w.places ≡ w.start + 256) (sym c.self.view_is) c.requires.full in
    record { above = below_here c.self.inside.earlier c.self.inside.current c.self.inside.start c.self.inside.issued c.self.invariant full }

pub invariant_of-self-2 : goal.invariant_of-self-2
invariant_of-self-2 c =
    let full = sym (upto_length (entry c.self.inside.earlier c.self.inside.current c.self.inside.start) c.self.inside.issued) ∙ subst (λ (w : Listed). length w.places ≡ w.start + 256) (sym c.self.view_is) c.requires.full in
    let some = at_least_one (living_count c.self.inside.current) (sym c.is_empty.ensures.value ∙ c.if-is_empty.false) in
    rw (c.in_ok-push.ensures.0, c.in_ok-push.ensures.1, c.in_ok-page.ensures) (paged_turned c.self.inside.earlier c.self.inside.current c.self.inside.start c.self.inside.issued c.self.invariant full some)

pub returns : goal.returns
returns c =
    let full = sym (upto_length (entry c.self.inside.earlier c.self.inside.current c.self.inside.start) c.self.inside.issued) ∙ subst (λ (w : Listed). length w.places ≡ w.start + 256) (sym c.self.view_is) c.requires.full in
    let some = at_least_one (living_count c.self.inside.current) (sym c.is_empty.ensures.value ∙ c.if-is_empty.false) in
    let k = places_turned c.self.inside.earlier c.self.inside.current c.self.inside.start c.self.inside.issued c.self.invariant full some in
    let n = upto_length (entry c.self.inside.earlier c.self.inside.current c.self.inside.start) c.self.inside.issued in
    rw (c.in_ok-push.ensures.0, c.in_ok-push.ensures.1, c.in_ok-page.ensures) (k ∙ ap (λ (w : Listed). w.places) c.self.view_is, omega (arith, full, ap length k, n))
