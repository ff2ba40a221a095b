pub mod Held
pub mod Coming
pub mod Gained
pub mod Sending
pub mod Lists
pub mod LineAnswers
pub mod Browsers
pub mod Goings
pub mod Later
pub mod TextLemmas
mod FollowLemmas
