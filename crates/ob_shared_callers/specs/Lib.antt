pub mod SendsOn
