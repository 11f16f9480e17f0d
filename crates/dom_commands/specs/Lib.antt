pub mod Views
pub mod Brief
