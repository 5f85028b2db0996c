-- Parent tables and the four shapes: definitions (`Parents`, `Shapes`) and their laws.
pub mod Parents
pub mod ParentsLaws
pub mod Shapes
pub mod ShapesLaws
