-- Links, the lists that they spell, and what a call writes to them.
pub mod Links
pub mod Disjoint
pub mod Lists
pub mod Filled
pub mod Queues
pub mod Arranged
pub mod Freed
pub mod Stored
