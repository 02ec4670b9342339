mod Common
pub mod Sifts
pub mod InOrders
pub mod Agendas
pub mod Outcomes
pub mod Leasts
pub mod Taken
