-- Behind the heads that were there the new ones lead nowhere.
use Rattle.std.proofs.Common.{◌≡◌, ◌+◌, ◌-◌, ◌≤◌, ◌++◌, Some, None, length, replicate}
use Rattle.dom_chains.proofs.heads.HeadsInPages.cover.Given as goal

abbrev pub invariant-loop-key : goal.invariant-loop-key
invariant-loop-key l = record {
  room : l.need ≤ l.self.heads.room + l._key;
  items : l.self.heads.items ≡ l.fn.self.heads.items ++ replicate (l._key - length l.fn.self.heads.items) (Some None);
}
