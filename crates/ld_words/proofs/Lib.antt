pub mod UniqueSpellings
