pub mod AddressFaultLaws
pub mod AddressLaws
pub mod CommandLaws
pub mod FaultLaws
pub mod NumberLaws
