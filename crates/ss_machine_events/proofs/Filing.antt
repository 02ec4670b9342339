-- Filing a notice among those that are pending.
use Rattle.std.proofs.Common.{◌≡◌, ℕ, suc, ◌+◌, ◌==◌, ℤ, Bool, true, false, List, [], ◌∷◌, Option, Some, Ok, Err, refl, ap, sym, ◌∙◌, subst, arith}
use Rattle.std.specs.Prelude.{slice_get, IsOk, Result as OkOr, if◌then◌else◌}
use Rattle.ss_base.specs.declared.fault.FaultKind.{FaultKind}
use Rattle.ss_base.specs.declared.fault.Refused.{Refused}
use Rattle.ss_base.specs.declared.fault.Refused.TheVariants.{Fault, Memory}
use Rattle.ss_base.specs.declared.layout.RankKey.{RankKey}
use Rattle.ss_base.specs.declared.value.Value.TheVariants.{Whole}
use Rattle.ss_world.specs.State.{known_in}
use Rattle.ss_world.specs.SortKey.{SortKey}
use Rattle.ss_world.specs.declared.ties.Tie.{Tie}
use Rattle.ss_meaning.specs.Values.{Failure, if_ok, sure}
use Rattle.ss_meaning.specs.Store.{Notices, Store}
use Rattle.ss_meaning.specs.Events.{Ranked, ranked, ranked_from, ties_of, filed_notice}
use Rattle.ss_machine_world.specs.Classes.{has_keys}
use Rattle.ss_machine_world.specs.Seen.{Seen, with_seen, HasChangedWithMemory}
use Rattle.ss_machine_events.specs.Scheduled.{IsNoticeClass, IsUntied, IsDoneIf, scheduled_known, IsUnfiled}
use Rattle.ss_machine_events.proofs.Frozen.{is_there, not_there, ties_there}

pub one : {A : Type 0} {x y : A} → Some x ≡ Some y → x ≡ y
one e = cc

-- ## The rank of a class

-- a class has its rank as its place in the list
ranked_at : (es : List Notices) (class from : ℕ) (r : Ranked) → ranked_from from es class ≡ Some r → (i : ℕ) × (r.rank ≡ from + i) × (slice_get es i ≡ Some r.said)
ranked_at [] class from r h = absurd cc
ranked_at (e ∷ es) class from r h = by (e.class == class) h (λ h. ranked_at es class (from + 1) r h)
  where
    by : (b : Bool) → (if b then Some (record { rank = from; said = e }) else ranked_from (from + 1) es class) ≡ Some r → (ranked_from (from + 1) es class ≡ Some r → (i : ℕ) × (r.rank ≡ (from + 1) + i) × (slice_get es i ≡ Some r.said)) → (i : ℕ) × (r.rank ≡ from + i) × (slice_get (e ∷ es) i ≡ Some r.said)
    by true h rest =
        let it : record { rank = from; said = e } ≡ r = cc in
        (0, ap (λ (r : Ranked). r.rank) (sym it) ∙ omega arith, ap (λ (r : Ranked). Some r.said) it)
    by false h rest = let at = rest h in (suc at.0, at.1 ∙ omega arith, at.2)

pub said_there : (es : List Notices) (class : ℕ) (r : Ranked) → ranked_from 0 es class ≡ Some r → slice_get es r.rank ≡ Some r.said
said_there es class r h =
    let at = ranked_at es class 0 r h in
    let rank : r.rank ≡ at.0 = at.1 ∙ omega arith in
    ap (slice_get es) rank ∙ at.2

-- a class without keys has no ties
pub no_keys : (keys : List RankKey) → has_keys keys ≡ false → keys ≡ []
no_keys [] e = refl
no_keys (k ∷ ks) e = absurd cc

-- ## A notice is filed

module _ (e : Seen) (class : ℕ) (n t : ℤ) (c : IsNoticeClass e class) where
  abbrev by_rank : Store → ℤ → Option Ranked → OkOr Store Failure
  by_rank s m o = if_ok (sure o) (λ r. if_ok (ties_of class (Whole n) (with_seen s e) r.said.ties) (λ ties. scheduled_known (record { time = t; rank = r.rank; ties = ties }) m (with_seen s e)))

  -- the notice is not there
  pub none_filed : (kind : FaultKind) → known_in e.heap class n ≡ Err kind → HasChangedWithMemory (filed_notice class (Whole n) t) e e (Err (Fault kind))
  none_filed kind known = (λ s. ap (λ (r : OkOr ℤ Failure). if_ok {B = Store} r (λ m. by_rank s m (ranked class (with_seen s e)))) (not_there e class n s c.within kind known), refl)

  module _ (known : known_in e.heap class n ≡ Ok tt) where
    -- its key
    abbrev key : List Tie → SortKey
    key ties = record { time = t; rank = c.ranked.rank; ties = ties }

    filed_by : (s : Store) (ties : List Tie) → ties_of class (Whole n) (with_seen s e) c.ranked.said.ties ≡ Ok ties → filed_notice class (Whole n) t (with_seen s e) ≡ scheduled_known (key ties) n (with_seen s e)
    filed_by s ties frozen =
        ap (λ (r : OkOr ℤ Failure). if_ok {B = Store} r (λ m. by_rank s m (ranked class (with_seen s e)))) (is_there e class n s c.within known)
        ∙ ap (by_rank s n) c.is
        ∙ ap (λ (r : OkOr (List Tie) Failure). if_ok {B = Store} r (λ ties. scheduled_known (key ties) n (with_seen s e))) frozen

    -- it is filed under its key, or is not
    pub files : (ties : List Tie) (new : Seen) (b : Bool) → ((s : Store) → ties_of class (Whole n) (with_seen s e) c.ranked.said.ties ≡ Ok ties) → IsDoneIf (scheduled_known (key ties) n) b e new → IsDoneIf (filed_notice class (Whole n) t) b e new
    files ties new true frozen did = λ s. filed_by s ties (frozen s) ∙ did s
    files ties new false frozen did = did

    -- and where it has no ties
    pub files_untied : IsUntied e.notices class → (new : Seen) (b : Bool) → IsDoneIf (scheduled_known (key []) n) b e new → IsDoneIf (filed_notice class (Whole n) t) b e new
    files_untied untied new b did = files [] new b (λ s. ap (ties_of class (Whole n) (with_seen s e)) (untied c.ranked c.is)) did

    -- why it is not filed
    pub not_filed : (u : Refused) → IsUnfiled t n e u → HasChangedWithMemory (filed_notice class (Whole n) t) e e (Err u)
    not_filed (Fault kind) h = (
      λ s.
          let ties = ties_there e class n s c.within known c.ranked.said.ties c.fields in
          filed_by s ties.0 ties.1 ∙ h (key ties.0) refl s,
      refl,
    )
    not_filed Memory h = (
      λ s.
          let ties = ties_there e class n s c.within known c.ranked.said.ties c.fields in
          subst (λ (r : OkOr Store Failure). IsOk r) (sym (filed_by s ties.0 ties.1)) (h (key ties.0) refl s),
      refl,
    )
