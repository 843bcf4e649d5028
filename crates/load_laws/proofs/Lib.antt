mod TakenEvents
mod ClockSums
mod PastCounts
mod PastsByClock
mod LinesOfEvents
