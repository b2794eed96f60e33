pub mod Delays
pub mod DelayMaking
pub mod Conservation
pub mod Carried
pub mod DelayLaws
