-- A `&` to a ghost history holds nothing. Assumes `Logic`.
use base.Fml.{ftrue}
use denote.SharingLaws.{nothing_shr_laws}
use denote.Struct.Lending.{of_Lends, Lends-nothing}
use Rattle.ss_stats_histories.specs.contracts.ghost_history.GhostHistory as C
use Rattle.ss_stats_histories.proofs.ghost_history.GhostHistory.TheLaw.Statement.{statement}

pub shares : statement
shares = of_Lends C.struct C.the_codes C.the_heap C.the_lent (λ d p. nothing_shr_laws) tt (λ M 𝓤 𝓛 d p. Lends-nothing 𝓛 ftrue (C.the_row).lives)
