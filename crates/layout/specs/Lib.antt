-- layout.rs (RULES 2), in its order: constructors and inspectors; what the calls compute; the public calls with the refusals in front
-- (RULES 8.15); strips.
pub mod Layouts
pub mod Rules
pub mod Operations
pub mod Strips
