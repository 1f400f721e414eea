pub mod StoreLemmas
pub mod QuadLemmas
