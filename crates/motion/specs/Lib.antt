-- Quantities with their units, vessels and contacts, the capacity for contacts, and the checks of
-- arguments.
pub mod Capacity
pub mod Check
pub mod Held
pub mod Sides
pub mod Vessel
