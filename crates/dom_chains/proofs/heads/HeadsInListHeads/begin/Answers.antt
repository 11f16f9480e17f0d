use Rattle.std.proofs.Common.{ℕ, Option, Some}
use Rattle.std.proofs.lemmas.List.{map-set}
use Rattle.dom_chains.proofs.heads.HeadsInListHeads.begin.Goals as goal

pub returns : goal.returns
returns c = map-set (λ (first : Option ℕ). Some first) c.args.self.now.heads.items c.args.key c.args.first
