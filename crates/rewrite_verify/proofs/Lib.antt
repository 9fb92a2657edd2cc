mod ListLemmas
mod EntryLemmas
mod PlanLemmas
mod SectionLemmas
mod WordLemmas
mod ServingLemmas
mod ReadLemmas
mod FileLemmas
