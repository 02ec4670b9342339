pub mod Results
pub mod Examples
