mod ChannelLemmas
mod Named
mod OneCall
mod TurnLemmas
mod TurnedAway
mod Stored
