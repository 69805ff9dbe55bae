pub mod KnownExamples
