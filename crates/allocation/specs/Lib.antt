pub mod Groups
pub mod Merit
pub mod Laws
pub mod Supply
pub mod TwoUnits
pub mod Units
