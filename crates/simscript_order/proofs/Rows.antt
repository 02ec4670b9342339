-- What the getters of the matches answer, by the rows of the matches.
use Rattle.std.proofs.Common.{◌≡◌, ◌∙◌, ℕ, Bool, List, Option, Some, None, Result, Ok, Err, true, false, arith, refl, ap}
use Rattle.std.specs.Prelude.{option_and_then, if◌then◌else◌}
use Rattle.std.specs.Str.Parse.{ParsesUnsigned, digits_value, without_leading_plus}
use Rattle.clap.specs.Words.{ReadsOne, Text, first_of, first_value, one_of, one_text, rows_of}
use Rattle.clap.specs.ValueTests.{accepts}
use Rattle.clap.specs.declared.parser.matches.Found.{Found}
use Rattle.clap.proofs.ValueTestLemmas.{accepts-Accepts, Accepts-accepts}
use Rattle.clap.proofs.WalkLemmas.{first_value-rows, one_text-rows}
use Rattle.simscript_order.specs.CommandLine.{tick_reader, ticks_in}

-- `get_str`
pub text_read : (f : Found) (id : Text) → first_value f id ≡ first_of id (rows_of f)
text_read f id = first_value-rows f id

module _ {E : Type 0} (G : List ℕ → Result ℕ E → Type 0) (only : (u : List ℕ) (x : Result ℕ E) → G u x → ParsesUnsigned 64 10 u x) where
  -- a text is read as ticks exactly where the reader of ticks takes it
  ticks_of_text : (t : Text) (r : Option ℕ) → ReadsOne G t r → r ≡ ticks_in t
  ticks_of_text t (Some v) h =
      let parsed = only t (Ok v) h in
      rw (Accepts-accepts false tick_reader t (parsed.0.0, parsed.0.1, omega arith, omega arith)) (ap Some parsed.1)
  ticks_of_text t None h = go (accepts false tick_reader t) refl
    where
      go : (b : Bool) → accepts false tick_reader t ≡ b → None ≡ (if b then Some (digits_value 10 (without_leading_plus t)) else None)
      go true e =
          let taken = accepts-Accepts false tick_reader t e in
          absurd (only t (Err h.0) h.1 (taken.0, taken.1))
      go false e = refl

  -- `get_one`
  pub ticks_read : (f : Found) (id : Text) (r : Option ℕ) → (one_text f id ≡ None → r ≡ None)
      → ((t : List ℕ) → one_text f id ≡ Some t → ReadsOne G t r)
      → r ≡ option_and_then ticks_in (one_of id (rows_of f))
  ticks_read f id r none value = go (one_text f id) refl ∙ ap (option_and_then ticks_in) (one_text-rows f id)
    where
      go : (o : Option Text) → one_text f id ≡ o → r ≡ option_and_then ticks_in o
      go None e = none e
      go (Some t) e = ticks_of_text t r (value t e)
