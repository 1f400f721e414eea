pub mod NameOrders
pub mod Units
pub mod Equations
pub mod Printed
pub mod Decimals
pub mod Turns
pub mod ReadBack
