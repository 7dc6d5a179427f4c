pub mod Derivations
pub mod Search
pub mod DreyfusWagner
pub mod Theorems
