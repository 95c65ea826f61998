-- A table that differs in one slot is published.
pub mod PublishImages
pub mod StepEnds
pub mod StepHolds
pub mod StepMarked
pub mod StepRest
pub mod StepRows
pub mod Stepping
