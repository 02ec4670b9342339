-- A `&` to the store reaches each word that holds a number or a pointer. Assumes `Logic`.
use denote.Struct.Lending.{of_Lends}
use Rattle.ss_records_blocks.specs.contracts.store.Store as C
use Rattle.ss_records_blocks.proofs.store.Store.TheLaw.Statement.{statement}
use Rattle.ss_records_blocks.proofs.Sharing.{store_laws, Lends-store}

pub shares : statement
shares = of_Lends C.struct C.the_codes C.the_heap C.the_lent (λ d p. store_laws d.cells) tt (λ M 𝓤 𝓛 d p. Lends-store 𝓛 (C.the_row).lives d.cells)
