-- What the code's private functions come to. Nobody has to believe these: the laws say how they meet the definitions.
pub mod Engine
pub mod Rounds
pub mod Forks
pub mod Rises
