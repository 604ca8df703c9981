pub mod Generated
pub mod Sums
pub use Rattle.aio_model.specs.Scripts.PrintedText
pub use Rattle.aio_model.specs.Serving.SerialHistory
pub use Rattle.aio_script.specs.Image.Bounds
