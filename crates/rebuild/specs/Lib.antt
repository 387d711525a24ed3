pub mod Laws
pub mod Noting
pub mod Taking
pub mod Worked
