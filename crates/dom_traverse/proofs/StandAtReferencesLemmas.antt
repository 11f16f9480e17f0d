-- What an iterator's place tells, and when a root loses its reference.
use Rattle.std.proofs.Common.{◌≡◌, ℕ, true, ◌∙◌, ◌<◌, subst}
use Rattle.dom_model.specs.Definitions.{hits, among, Forest, HasNode, ancestors, inclusive_descendants, Iterator}
use Rattle.dom_model.proofs.Forests.{Totals.IsOnce, Climbing.among-hits}
use Rattle.dom_traverse.specs.Items.{StandsInside}
use Rattle.dom_traverse.proofs.DescendantLemmas.{among-inside, hits-inside, inside-there}

module _ {X : Type 0} (f : Forest X) (o : IsOnce f) where
  pub reference-there : (i : Iterator) → StandsInside f i → HasNode f i.reference
  reference-there i h = inside-there f o i.reference i.root h.inside

  pub reference-under : (i : Iterator) → StandsInside f i → among i.root (ancestors i.reference f) ≡ true
  reference-under i h = hits-inside f o i.reference i.root h.inside

  -- an iterator whose root and reference were read
  pub read-inside : (i : Iterator) (root reference : ℕ) → root ≡ i.root → reference ≡ i.reference → HasNode f root → among root (ancestors reference f) ≡ true → StandsInside f i
  read-inside i root reference d e h u =
      record {
        root = subst (HasNode f) d h;
        inside = subst (λ n. 0 < hits i.reference (inclusive_descendants f n)) d (subst (λ n. 0 < hits n (inclusive_descendants f root)) e (among-hits reference (inclusive_descendants f root) (among-inside f o reference root ∙ u)));
      }
