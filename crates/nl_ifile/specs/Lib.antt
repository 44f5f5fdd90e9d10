pub mod Inodes
pub mod Changing
pub mod Free
