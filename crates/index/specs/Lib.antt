pub mod Lists
pub mod RowLists
