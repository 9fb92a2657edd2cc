pub mod Members
pub mod Requests
pub mod Lists
pub mod AllLists
pub mod JoinLeave
