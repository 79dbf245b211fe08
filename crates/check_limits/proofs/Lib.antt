pub mod CallSites
pub mod WeightLists
pub mod Functions
pub mod ChainWeights
pub mod StoreWords
pub mod Nowhere
