pub mod Messages
pub mod Flow
pub mod Talk
pub mod Offers
pub mod Answers
pub mod HonestKdc
pub mod Fetches
