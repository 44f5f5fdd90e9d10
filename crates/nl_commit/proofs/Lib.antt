pub mod MountTables
