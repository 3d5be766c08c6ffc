-- Choices by a test: Choice holds the meanings, ChoiceLaws laws of them.
pub mod Choice
pub mod ChoiceLaws
