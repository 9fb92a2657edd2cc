mod ListLemmas
mod OrderLemmas
mod ChoiceLemmas
mod OneLemmas
mod RunLemmas
pub mod MemberLemmas
mod PlanLemmas
