-- A refused command leaves the world; what was released is refused; a reply is one line; a first dialogue.
pub mod RefusalsLeave
pub mod RefusalsDropped
pub mod ReleasedRefused
pub mod LinesCut
pub mod ReplyLines
pub mod FirstDialogue
pub mod NotifyInTurn
