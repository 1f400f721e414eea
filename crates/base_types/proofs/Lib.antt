pub mod Lists
pub mod Numbers
pub mod Options
pub mod Orders
pub mod Rising
pub mod Searching
pub mod Utf8
