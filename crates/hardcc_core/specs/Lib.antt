pub mod SelfRuns
