pub mod EachExampleHolds
