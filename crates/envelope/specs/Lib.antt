-- What the contracts cite, bottom to top.
pub mod Curves
pub mod Buckets
pub mod Roots
pub mod Tables
pub mod Climbs
pub mod BucketsLemmas
pub mod CurvesLemmas
pub mod RootsLemmas
pub mod LeastRoots
pub mod TablesLemmas
