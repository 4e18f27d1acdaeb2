pub use Rattle.svg_drawing.specs as svg_drawing
pub mod Figures
pub mod Axes
pub mod Tallies
pub mod Curves
pub mod Ground
pub mod Limits
pub mod Legend
pub mod Heading
pub mod Plot
