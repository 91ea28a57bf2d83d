pub mod AgreedLemmas
pub mod Chain
pub mod ContextLemmas
pub mod MessageLemmas
pub mod RoomLemmas
pub mod RoundTrip
pub mod TextLemmas
