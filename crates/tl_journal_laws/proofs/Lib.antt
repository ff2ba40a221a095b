mod Own
mod Adding
mod Step
mod Through
mod Resting
mod Replaced
mod Widened
mod Behind
