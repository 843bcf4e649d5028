mod Exits
mod ItemLemmas
mod ListLemmas
mod OptionLemmas
mod PlanLemmas
mod SizeLemmas
