pub mod Duration
pub mod DurationGrammar
pub mod DurationCases
pub mod Numbers
