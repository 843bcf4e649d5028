mod Printables
mod Lines
mod Statuses
mod Texts
mod Delivered
mod Lists
