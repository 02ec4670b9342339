-- What the reader of a fresh source gave.
use Rattle.std.proofs.Common.{◌≡◌, ℕ, Bool, true, false, List, [], ◌++◌, refl, sym, ap, subst}
use Rattle.ss_engine.proofs.Common.{HasGivenInput, IsEndKnown, Option, Source}
use Rattle.std.specs.Io.KnownBytes.{Consumes, IsAtEnd}
use Rattle.ss_input.specs.Inputs.{source_block, source_reader, IsAhead, HasFound, IsFresh}
use Rattle.ss_machine.specs.Runs.{HasFailedRead}

not_both : (b : Bool) → b ≡ false → b ≡ true → ⊥
not_both true e f = absurd cc
not_both false e f = absurd cc

-- a fresh source has what its reader gives
pub fresh_start : {R : Type 0} (reader : R) (s : Source R) (input : List ℕ) → IsFresh reader s → IsAhead s input input
fresh_start reader s input f = record {
  gap = [];
  separators = refl;
  long = sym f.gap;
  input_is = sym (ap (λ l. l ++ input) f.left);
}

-- a fresh source has not met the end of its reader
pub fresh_knows : {R : Type 0} (remaining : R → Option (List ℕ)) (reader : R) (s : Source R) → IsFresh reader s → IsEndKnown remaining (source_block s)
fresh_knows remaining reader s f e = absurd (not_both (source_block s).ended f.not_ended e)

module _ {R : Type 0} (remaining : R → Option (List ℕ)) (source last : Source R) where
  -- what the reader of a fresh source gave
  fresh_took : (reader last_reader : R) → IsFresh reader source → source_reader last ≡ last_reader → (got : List ℕ) → Consumes (remaining (source_reader source)) (remaining (source_reader last)) got → Consumes (remaining reader) (remaining last_reader) got
  fresh_took reader last_reader fresh at_last got h =
      subst (λ r. Consumes (remaining reader) (remaining r) got) at_last (subst (λ r. Consumes (remaining r) (remaining (source_reader last)) got) fresh.reader_is h)

  -- what holds of the input before a run holds of what the reader of a fresh source gave
  pub fresh_gave : (reader last_reader : R) → IsFresh reader source → source_reader last ≡ last_reader → IsEndKnown remaining (source_block last) → (Says Means : List ℕ → Type 0) → ((input : List ℕ) → Says input → Means input) → HasFound remaining source last Says → HasGivenInput remaining reader last_reader Means
  fresh_gave reader last_reader fresh at_last knows Says Means to f = record {
    read = f.got;
    ended = (source_block last).ended;
    gave = fresh_took reader last_reader fresh at_last f.got f.consumed;
    at_end = λ e. subst (λ r. IsAtEnd (remaining r)) at_last (knows e);
    says = λ more e. to (f.got ++ more) (f.says more (f.got ++ more) e (fresh_start reader source (f.got ++ more) fresh));
  }

  -- and so it does where the reader failed
  pub fresh_failed : (reader last_reader : R) → IsFresh reader source → source_reader last ≡ last_reader → (Says Means : (input later : List ℕ) → Type 0) → ((input later : List ℕ) → Says input later → Means input later) → HasFailedRead remaining source last Says → (read : List ℕ) × Consumes (remaining reader) (remaining last_reader) read × ((later : List ℕ) → Means (read ++ later) later)
  fresh_failed reader last_reader fresh at_last Says Means to f = (
    f.got,
    fresh_took reader last_reader fresh at_last f.got f.consumed,
    λ later. to (f.got ++ later) later (f.says later (f.got ++ later) (fresh_start reader source (f.got ++ later) fresh)),
  )

  -- what is so where the reader failed, a call finds
  pub fails_find : (Says : (input later : List ℕ) → Type 0) (Finds : List ℕ → Type 0) → ((input later : List ℕ) → Says input later → Finds input) → HasFailedRead remaining source last Says → HasFound remaining source last Finds
  fails_find Says Finds so h = record {
    got = h.got;
    consumed = h.consumed;
    after_end = h.after_end;
    says = λ later input e st. so input later (h.says later input st);
  }
