-- What commands keep of a world where memory was wanting.
use Rattle.std.proofs.Common.{◌≡◌, false, refl}
use Rattle.dom_edit.specs.{declared.world.World.World, Whole.IsWhole, KeptNodes.KeepsLabels, KeptNodes.KeepsNodes, OlderNodes.LeavesAll}
use Rattle.dom_data.specs.KeptNumbers.{KeepsNumbers}
use Rattle.dom_clone.proofs.LeavesAllLemmas.{left-same}
use Rattle.dom_content.proofs.StillHeldLemmas.{labels-left}
use Rattle.dom_session.specs.{SessionViews.SessionView, OutOfMemory.KeepsWholeWorld, OutOfMemory.IsLeft}

pub kept_labels : (old new : World) → KeepsLabels old new → IsWhole new → KeepsWholeWorld old new
kept_labels old new k whole = record { whole = whole; held = k }

pub kept_nodes : (old new : World) → KeepsNodes old new → IsWhole new → KeepsWholeWorld old new
kept_nodes old new k = kept_labels old new k.labelled

pub kept_numbers : (old new : World) → KeepsNumbers old new → IsWhole new → KeepsWholeWorld old new
kept_numbers old new k = kept_labels old new k.labelled

-- nothing that was there has changed
pub kept_all : (old new : World) → LeavesAll old new → IsWhole new → KeepsWholeWorld old new
kept_all old new l = kept_labels old new (labels-left old new l)

pub kept_whole : (v : World) → IsWhole v → KeepsWholeWorld v v
kept_whole v = kept_all v v (left-same v)

-- Sessions.

pub left_ended : (s : SessionView) → IsWhole s.world → IsLeft s s
left_ended s whole = record {
  whole = whole;
  held = (kept_whole s.world whole).held;
  had_ended = λ _. refl;
}

pub left_open : (old new : SessionView) → old.ended ≡ false → KeepsWholeWorld old.world new.world → IsLeft old new
left_open old new on k = record {
  whole = k.whole;
  held = k.held;
  had_ended = λ ended. absurd (cc (on, ended));
}
