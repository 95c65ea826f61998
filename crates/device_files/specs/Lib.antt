pub mod BankFiles
pub mod DeviceFiles
pub mod Faults
pub mod HeldFiles
pub mod SlotCalls
pub mod Superblocks
