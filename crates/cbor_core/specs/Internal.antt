pub mod Results
pub mod Reading
