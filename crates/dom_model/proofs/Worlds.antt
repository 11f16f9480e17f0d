-- Forests of contents and worlds under one step: forests of one shape, parts of a forest, kinds and lengths.
pub mod SameShape
pub mod Parts
pub mod Measured
pub mod Owners
