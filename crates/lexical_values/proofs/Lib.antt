pub mod TypedLiteralLaws
mod Digits
