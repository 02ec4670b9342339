-- The lines of PRINTs, one after another.
use Rattle.std.proofs.Common.{◌≡◌, ◌+◌, List, ◌++◌, length, map, sym, ap, ◌∙◌, append_assoc, length-append}
use Rattle.ss_code_generator.proofs.Common.{HasPrinted, length-map, Lines, lines_of_running, map-append, RunningLines}

-- the lines of all PRINTs
pub prints_then : (a b c : List RunningLines) (ls ms : List Lines) → HasPrinted a b ls → HasPrinted b c ms → HasPrinted a c (ls ++ ms)
prints_then a b c ls ms h k = (
  h.0 ++ k.0,
  k.1 ∙ ap (λ (l : List RunningLines). l ++ k.0) h.1 ∙ append_assoc a h.0 k.0,
  map-append lines_of_running h.0 k.0 ∙ ap (λ (l : List Lines). l ++ map lines_of_running k.0) h.2 ∙ ap (λ (l : List Lines). ls ++ l) k.2,
)

-- how many there are then
pub prints_long : (a b : List RunningLines) (ls : List Lines) → HasPrinted a b ls → length b ≡ length a + length ls
prints_long a b ls h = ap length h.1 ∙ length-append a h.0 ∙ ap (λ n. length a + n) (sym (length-map h.0 lines_of_running) ∙ ap length h.2)
