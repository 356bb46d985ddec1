-- The table of cases.
mod CaseTests
mod Computed
