pub mod ExampleRuns
