-- The grid as the code keeps it, its arrays lent. Not part of the specification.
pub mod Lent
