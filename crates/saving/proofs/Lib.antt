mod Copies
mod Loading
mod Jobs
