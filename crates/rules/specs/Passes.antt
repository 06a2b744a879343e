-- The audit as code computes it: small states carried from slot to slot and from queue to queue, and what they must be in the end.
pub mod Tests
pub mod Links
pub mod Course
pub mod Stage
pub mod Record
pub mod Queue
pub mod Tables
