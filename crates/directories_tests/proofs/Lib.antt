pub mod MadeDirs
pub mod PlansMade
pub mod OpenPlans
pub mod BothPlans
