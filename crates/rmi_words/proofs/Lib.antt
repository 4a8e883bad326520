pub mod ArgumentWords
pub mod Asked
pub mod Asking
pub mod CallPlaces
pub mod Declaring
mod DrillWords
pub mod Found
pub mod HostPlaces
pub mod Lacking
pub mod Levels
pub mod MethodTexts
pub mod Naming
mod NotFound
pub mod OneName
pub mod Places
pub mod SignedNumbers
pub mod Subcommands
pub mod Taking
pub mod Walking
