pub mod Equations
pub mod Lists
pub mod Fitting
pub mod MembersFit
pub mod BroughtFit
pub mod AloneFit
pub mod Strictness
