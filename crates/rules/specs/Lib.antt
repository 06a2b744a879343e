-- In reading order. The card and one pair's side of the account; a message's packets
pub mod Card
pub mod Account
pub mod Message
pub mod Ranges
-- the rules, each on one side
pub mod Posting
pub mod Emission
pub mod Outcome
pub mod Release
pub mod Acknowledge
pub mod Response
pub mod Timer
-- the tables and their audit
pub mod Slots
pub mod Pool
pub mod Order
pub mod WholeMessages
pub mod Audit
pub mod Passes
-- calls, histories of calls, and what is demanded of them
pub mod Requests
pub mod Refusals
pub mod Calls
pub mod History
pub mod Demands
pub mod Errors
pub mod Numbers
