pub mod Cursors
pub mod Judging
