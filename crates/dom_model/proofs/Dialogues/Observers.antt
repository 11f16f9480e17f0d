-- Dialogues on mutation observers.
pub mod FragmentObserved
pub mod NodeBeforeItself
pub mod ObserverOptions
pub mod ObserversApart
pub mod OneRecordEach
pub mod OrderOfRegistrations
pub mod TransientRegistrations
pub mod TransientsOfTransients
pub mod TwoTold
pub mod MembersOfOptions
