pub mod Contents
pub mod Finds
pub mod Listings
