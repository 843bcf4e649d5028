mod Shares
mod Parting
mod Readings
mod Pasts
mod Memory
mod ShortLines
mod Wholes
