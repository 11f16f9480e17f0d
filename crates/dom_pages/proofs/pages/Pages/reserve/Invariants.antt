-- The items stay, and each page makes more room.
use Rattle.std.proofs.Common.{◌≡◌, ◌+◌, ◌-◌, ◌≤◌, length}
use Rattle.dom_pages.proofs.pages.Pages.reserve.Given as goal

abbrev pub invariant-loop-self : goal.invariant-loop-self
invariant-loop-self g l = record { same : l.self.items ≡ l.fn.self.items; kept : l.fn.self.room ≤ l.self.room; wanted : length l.fn.self.items + l.additional ≤ 4294967296 }

abbrev pub decreases-loop-self : goal.decreases-loop-self
decreases-loop-self g l = l.additional - l.self.room
