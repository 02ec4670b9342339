use Rattle.ss_names_declarations.proofs.EarliestBreach.{earliest_is_first, earliest_is_least, earliest_of_parts}
use Rattle.ss_names_declarations.proofs.earliest.laws_of_earliest.Goals as goal

pub returns : goal.returns
returns g c =
    let order = g.E.Breach.order in
    record {
      least = earliest_is_least order;
      first = earliest_is_first order;
      parts = earliest_of_parts order;
    }
