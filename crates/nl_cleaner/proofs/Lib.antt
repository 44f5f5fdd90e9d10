mod Ages
mod ByCounts
mod Victims
mod Found
mod CleanRuns
mod Rounds
mod Oldest
