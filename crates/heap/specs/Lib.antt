pub mod Places
pub mod Heaps
pub mod Sifts
