pub mod Awake
