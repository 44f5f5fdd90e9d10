pub mod Files
pub mod FilesFound
pub mod SideNames
pub mod Extents
pub mod SparseFiles
pub mod Marks
