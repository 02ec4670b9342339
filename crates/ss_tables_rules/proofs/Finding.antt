-- One breach, where a rule is broken, and names that are declared as two things.
use Rattle.std.proofs.Common.{◌≡◌, not, nat_lt, Bool, true, false, cond, List, [], ◌∷◌, map, option_map, Option, Some, None, refl, ap, ◌∙◌}
use Rattle.ss_tables_rules.proofs.Common.{earlier, earlier_of, fold, Line, table_error_order, TableError, unless}
use Rattle.ss_names.specs.Filling.{sooner}
use Rattle.ss_tables_rules.specs.declared.error.TableError.TheVariants as e

-- the breach of a rule that is broken in this case
pub earlier_if : (found : Option TableError) (broken : Bool) (breach : TableError) → earlier_of table_error_order found (unless (not broken) breach) ≡ fold (earlier table_error_order) found (cond broken (breach ∷ []) [])
earlier_if found true breach = refl
earlier_if found false breach = refl

-- ---- names that are declared as two things

sooner_twice : (b : Bool) (line first : Line) → cond b (Some (e.Twice line)) (Some (e.Twice first)) ≡ option_map e.Twice (cond b (Some line) (Some first))
sooner_twice true line first = refl
sooner_twice false line first = refl

one_twice : (found : Option Line) (line : Line) → earlier table_error_order (option_map e.Twice found) (e.Twice line) ≡ option_map e.Twice (sooner found line)
one_twice None line = refl
one_twice (Some first) line = sooner_twice (nat_lt line.0 first.0) line first

-- the first line of all clashes is their earliest breach
pub twice_first : (found : Option Line) (lines : List Line) → fold (earlier table_error_order) (option_map e.Twice found) (map e.Twice lines) ≡ option_map e.Twice (fold sooner found lines)
twice_first found [] = refl
twice_first found (line ∷ lines) =
    ap (λ b. fold (earlier table_error_order) b (map e.Twice lines)) (one_twice found line) ∙ twice_first (sooner found line) lines
