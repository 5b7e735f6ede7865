pub mod TypedLiterals
