-- What follows of the definitions. `Rises`: entries and their first rounds. `Picks`, `Calls`, `Turns`: one step. `Bound`, `Ends`: the whole chain.
-- `Reason` and `Enough` prove what the files of these names say.
pub mod Rises
pub mod Picks
pub mod Calls
pub mod Turns
pub mod Bound
pub mod Ends
pub mod Reason
pub mod Enough
