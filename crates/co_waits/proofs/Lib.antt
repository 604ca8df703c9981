mod Kept
mod Queues
mod Tables
