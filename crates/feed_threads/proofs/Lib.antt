pub mod ServeLaws
pub mod OrderLaws
pub mod FedRunLaws
pub mod HeardLaws
