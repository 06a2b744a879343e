-- The test that code computes gives the audit's answer.
pub mod Tests
pub mod Links
pub mod Course
pub mod StageSound
pub mod StageInside
pub mod StageComplete
pub mod Record
pub mod Queue
pub mod Pair
pub mod Bits
pub mod Tally
pub mod Stop
pub mod Loops
pub mod Lists
pub mod Examples
pub mod Decided
