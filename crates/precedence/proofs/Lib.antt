mod Covering
mod Bounds
mod OwnMembers
mod Lookups
mod Takings
mod Raising
mod WholeClocks
mod TwoEvents
