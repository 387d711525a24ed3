mod Cuts
mod Images
mod Skews
mod Trials
