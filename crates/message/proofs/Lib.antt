pub mod Cuts
pub mod Fitting
pub mod Numbers
