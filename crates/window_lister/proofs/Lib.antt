pub mod WindowPass
