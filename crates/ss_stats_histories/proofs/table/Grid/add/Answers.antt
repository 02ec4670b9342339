use Rattle.std.proofs.Common.{ℕ, List, ap, ◌∙◌, ◌&&◌, ◌==◌, if◌then◌else◌, ◌++◌, ◌∷◌, []}
use Rattle.ss_stats_histories.specs.Places.{table_cell}
use Rattle.ss_stats_histories.proofs.Tables.{longer_cell}
use Rattle.ss_stats_histories.proofs.table.Grid.add.Goals as goal

pub returns : goal.returns
returns c j k =
    let same = c.in_ok-reach_table.ensures.same j k ∙ ap (λ (ts : List (List (List ℕ))). table_cell ts j k) c.self.view_is in
    longer_cell c.reach_table.new.tables.items c.args.first c.args.second c.args.number _ _ c.in_ok-reach_table.ensures.length c.index_mut.ensures.value c.in_ok-add.ensures j k ∙
    ap (λ (r : List ℕ). if (c.args.first == j) && (c.args.second == k) then r ++ c.args.number ∷ [] else r) same
