pub mod Stages
pub mod Stocks
pub mod StageMaking
pub mod Conservation
pub mod StageLaws
