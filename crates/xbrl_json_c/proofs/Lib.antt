mod Examples
mod RunFacts
