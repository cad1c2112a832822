mod Played
mod Keeping
mod Compared
mod Counted
mod Onward
mod Suiting
mod Illegal
mod Scenario
