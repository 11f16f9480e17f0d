-- Boundary points: their place, their order, and the maps that move them. DOM Standard, "Boundary points".
pub mod Points
