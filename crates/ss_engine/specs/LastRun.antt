-- The last of the runs of a text.
use Rattle.std.specs.Prelude.{◌≡◌, ◌≢◌, ℕ, ◌≤◌, List, [], ◌∷◌, ◌++◌}
use Rattle.std.specs.declared.option.Option.{Option}
use Rattle.ss_machine.specs.declared.stop.Stop.TheVariants.{Paused}
use Rattle.ss_engine.specs.Headline.{IsSimulated, handed_out}

-- the ticks of each run: a run for each piece, or one without a tick where there is no piece
abbrev pub runs_of : List ℕ → List ℕ
runs_of [] = 0 ∷ []
runs_of (piece ∷ pieces) = piece ∷ pieces

-- The last run of a text, after which so many ticks are used. All runs before it paused, and it took the ticks that are used since
-- then. This holds of the reader and the writer as they were before it.
pub record HasLastRun {R W : Type 0} (remaining : R → Option (List ℕ)) (contents : W → Option (List ℕ)) (text pieces : List ℕ) (used : ℕ) (reader : R) (writer : W) (Says : R → W → Type 0) : Type 0 where
  pub before : List ℕ
  pub last : ℕ
  pub after : List ℕ
  pub runs : runs_of pieces ≡ before ++ last ∷ after
  pub reader_then : R
  pub writer_then : W
  pub first : before ≡ [] → (reader_then ≡ reader) × (writer_then ≡ writer)
  pub paused : before ≢ [] → IsSimulated remaining contents text Paused (handed_out before) reader reader_then writer writer_then
  pub least : handed_out before ≤ used
  pub most : used ≤ handed_out (before ++ last ∷ [])
  pub says : Says reader_then writer_then
