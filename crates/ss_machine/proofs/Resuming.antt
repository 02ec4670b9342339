-- A run that goes on with other ticks.
use Rattle.std.proofs.Common.{◌≡◌, ℕ, ◌-◌, ◌≤◌, List, Option, arith}
use Rattle.ss_machine.proofs.Common.{Compiled, Core, Generated, HasCome, IsFinished, IsRepresented, IsRunResult, Situation, Source, Stop}
use Rattle.ss_machine.specs.declared.stop.Stop.TheVariants.{Input, Memory, Output, Ended, Fault, Paused, Failed}
use Rattle.ss_meaning.specs.Meaning as endings
use Rattle.ss_machine.proofs.Inputs.{reads_so, fails_so, finds_so}

-- what is so of a situation is so of one that holds no other states
module _ {R : Type 0} (remaining : R → Option (List ℕ)) (code : Generated) (old old' new : Situation) (source last : Source R) (before after : Option (List ℕ)) (taken made : ℕ) (from : (w : Compiled) (c : Core) → IsRepresented w c old → IsRepresented w c old') where
  comes_from : HasCome remaining code old' new source last before after taken made → HasCome remaining code old new source last before after taken made
  comes_from h = record {
    bytes = h.bytes;
    took = h.took;
    says = reads_so remaining source last _ _ (λ input rest g w of c e st. g w of c e (from w c st)) h.says;
  }

  finished_from : (e : endings.Ending) → IsFinished remaining code old' source last before after taken made e → IsFinished remaining code old source last before after taken made e
  finished_from e h = record {
    bytes = h.bytes;
    took = h.took;
    says = finds_so remaining source last _ _ (λ input g w of c e st. g w of c e (from w c st)) h.says;
  }

  pub ran_from : (stop : Stop) → IsRunResult remaining stop code old' new source last before after taken made → IsRunResult remaining stop code old new source last before after taken made
  ran_from Ended h = finished_from endings.Ended h
  ran_from (Fault kind line) h = finished_from (endings.Fault kind line) h
  ran_from Paused h = (comes_from h.0, h.1)
  ran_from Memory h = record { bytes = h.bytes; took = h.took; says = finds_so remaining source last _ _ (λ input g w of c e st. g w of c e (from w c st)) h.says }
  ran_from Output h = record { bytes = h.bytes; took = h.took; says = finds_so remaining source last _ _ (λ input g w of c e st. g w of c e (from w c st)) h.says }
  ran_from Input h = record { bytes = h.bytes; took = h.took; says = fails_so remaining source last _ _ (λ input more g w of c e st. g w of c e (from w c st)) h.says }
  ran_from Failed h = absurd h

-- no run is ever stuck
pub never : {R : Type 0} (remaining : R → Option (List ℕ)) (stop : Stop) (code : Generated) (old new : Situation) (source last : Source R) (before after : Option (List ℕ)) (taken made : ℕ) → IsRunResult remaining stop code old new source last before after taken made → stop ≡ Failed → ⊥
never remaining Failed code old new source last before after taken made h e = h
never remaining _ code old new source last before after taken made h e = cc

-- the ticks that were used, by those that are left
pub used_by : (last used left : ℕ) → used ≤ last → left ≤ last - used → (last - used) - left ≡ (last - left) - used
used_by last used left le few = omega (arith, le, few)
