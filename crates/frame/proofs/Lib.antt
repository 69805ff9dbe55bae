pub mod JoinedParts
pub mod OctetNumbers
pub mod WrittenReadsBack
pub mod ReadWritesBack
pub mod LongOctets
