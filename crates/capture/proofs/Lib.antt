pub mod AddressOctets
pub mod AcknowledgmentDigits
pub mod KeptOctetsTellLine
