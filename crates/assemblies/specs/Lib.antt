pub mod Assemblies
pub mod Kitting
pub mod AssemblyMaking
pub mod Conservation
pub mod Scaling
pub mod Joining
pub mod Scaled
pub mod AssemblyLaws
