pub mod Finding
pub mod RepliesGoOn
pub mod Linking
pub mod Named
pub mod Serving
pub mod Whole
