-- What was sent of the lines of a PRINT.
use Rattle.std.proofs.Common.{◌≡◌, ℕ, ◌+◌, List, [], ◌++◌, Option, Some, Result, Ok, Err, OnOk, OnErr, sym, ◌∙◌, subst, inl, inr, ◌⊎◌}
use Rattle.ss_machine.proofs.Common.{Appends, AreShown, Compiled, Core, Ending, HasSentAll, HasSentLess, HasSentPart, HasTakenLess, HasTakenPart, Here, IsReadyFor, Item, lines_with, RunningLines, Seen, slice_get, State, TwoRows}
use Rattle.ss_machine.specs.Writing.{HasWrittenLess, HasWrittenPart, IsSending, HasWrittenAll}
use Rattle.ss_code_instructions.specs.declared.instruction.Instruction.TheVariants as r
use Rattle.ss_machine.proofs.Written.{sends_shown, goes_on}

module _ (e : Seen) (rows : TwoRows) (at : ℕ) (l : RunningLines) (items : List Item) (shown : AreShown e rows at l.items items) (before after : Option (List ℕ)) where
  pub sent_all : (answer : Result (Unit {0}) Ending) (bytes : List ℕ) → bytes ≡ lines_with l.pictures items → OnOk answer (Appends before after bytes) → OnOk answer (HasSentAll e rows at l before after)
  sent_all (Ok u) bytes q h = record { items = items; shown = shown; took = subst (Appends before after) q h }
  sent_all (Err k) bytes q h = h

  pub sent_part : (answer : Result (Unit {0}) Ending) (bytes : List ℕ) → bytes ≡ lines_with l.pictures items → OnErr answer (HasTakenPart before after bytes) → OnErr answer (HasSentPart e rows at l before after)
  sent_part (Ok u) bytes q h = h
  sent_part (Err k) bytes q h = record { part = h.part; took = h.took; within = inr (items, h.rest, shown, sym q ∙ h.whole) }

  pub sent_less : (bytes : List ℕ) → bytes ≡ lines_with l.pictures items → HasTakenLess before after bytes → HasSentLess e rows at l before after
  sent_less bytes q h = record { items = items; shown = shown; less = subst (HasTakenLess before after) q h }

-- as the definition sends it
module _ (here : Here) (s : State) (number cell : ℕ) (l : RunningLines) (before after : Option (List ℕ)) where
  abbrev pub Hands : Compiled → Type 0
  Hands w = slice_get w.run.prints number ≡ Some l

  pub all_sent : HasSentAll s.world s.rows (here.frame + cell) l before after → HasWrittenAll Hands here s (r.Print number cell) before after s (record { place = here.place + 1; frame = here.frame })
  all_sent h = record {
    bytes = lines_with l.pictures h.items;
    took = h.took;
    goes = λ w c there ready. goes_on w c here s number cell ready l there h.items h.shown;
  }

  pub part_sent : HasSentPart s.world s.rows (here.frame + cell) l before after → HasWrittenPart Hands here s (r.Print number cell) before after
  part_sent h = record { part = h.part; took = h.took; within = by h.within }
    where
      by : (h.part ≡ []) ⊎ ((items : List Item) × (rest : List ℕ) × AreShown s.world s.rows (here.frame + cell) l.items items × (lines_with l.pictures items ≡ h.part ++ rest))
          → (h.part ≡ []) ⊎ ((w : Compiled) (c : Core) → Hands w → (ready : IsReadyFor w c here s (r.Print number cell)) → (rest : List ℕ) × IsSending here s (r.Print number cell) w c ready (h.part ++ rest))
      by (inl none) = inl none
      by (inr x) = inr (λ w c there ready. (x.1, subst (IsSending here s (r.Print number cell) w c ready) x.3 (sends_shown w c here s number cell ready l there x.0 x.2)))

  pub less_sent : HasSentLess s.world s.rows (here.frame + cell) l before after → HasWrittenLess Hands here s (r.Print number cell) before after
  less_sent h = record {
    part = h.less.part;
    took = h.less.took;
    within = λ w c there ready. (h.less.rest, h.less.more, subst (IsSending here s (r.Print number cell) w c ready) h.less.whole (sends_shown w c here s number cell ready l there h.items h.shown));
  }
