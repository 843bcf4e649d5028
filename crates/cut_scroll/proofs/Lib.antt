mod CutLists
mod DeliveredEvents
mod ConsistentCuts
mod WholeTraces
mod Moves
mod Nearest
mod Halves
mod NamedNearest
