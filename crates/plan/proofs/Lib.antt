pub mod EvenGrantsNeverClash
pub mod HolderOfAnEvenPlan
pub mod Lawful
pub mod FindGivesTheLeastNumber
pub mod FindGivesTheFirstGrant
