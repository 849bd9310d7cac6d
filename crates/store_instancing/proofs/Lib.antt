pub mod NewFacts
