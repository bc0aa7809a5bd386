-- What the theorems speak of: columns and what is set of them, runs of updates over forests and over bytes, numbers in a row,
-- parts of a tree, refusals, slots, names whose case is forgotten, many ids at once, what stands after an update, how many
-- records it visits, identifiers that pass again, the update as it was before edits.
pub mod Numbers
pub mod Promoted
pub mod Columns
pub mod Run
pub mod Stored
pub mod Standing
pub mod Visits
pub mod Edited
pub mod Before
pub mod Again
pub mod Identified
pub mod Changed
pub mod Wrong
pub mod One
pub mod Numbered
pub mod Many
pub mod Sites
pub mod Folds
