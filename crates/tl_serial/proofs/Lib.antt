pub mod OrderOfCore
pub mod OrderSteps
