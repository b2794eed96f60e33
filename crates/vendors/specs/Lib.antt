pub mod Departures
pub mod Periods
pub mod Vended
pub mod Sources
pub mod Pipelines
pub mod Calendars
pub mod Idles
pub mod Serving
