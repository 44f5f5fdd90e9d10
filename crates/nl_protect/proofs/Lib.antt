mod Kept
mod Expiring
mod Gone
mod Staying
mod Comments
mod ConfigurationLaws
mod Numerals
