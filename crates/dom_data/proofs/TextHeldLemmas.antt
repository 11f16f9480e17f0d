-- Nodes that are there.
use Rattle.std.proofs.Common.{◌≡◌, ℕ, Bool, true, Option, Some, None, refl, IsSome}
use Rattle.dom_model.specs.declared.Kind.{Kind}
use Rattle.dom_model.specs.declared.Kind.TheVariants.{Text}
use Rattle.dom_model.specs.Definitions.{is_kind, Entry, Node, Forest, HasNode, Content, entry_in, entry_has, kind_passes, is_of_kind}
use Rattle.std.proofs.lemmas.Bool.{false≢true}

-- a node of a kind is there
pub passing-held : (test : Kind → Bool) (f : Forest Content) (n : ℕ) → kind_passes test f n ≡ true → HasNode f n
passing-held test f n h = go (entry_in f n) h
  where
    go : (o : Option (Entry (Node Content))) → entry_has test o ≡ true → IsSome o
    go None k = absurd (false≢true k)
    go (Some e) k = refl

-- a Text is there
pub text-held : (f : Forest Content) (n : ℕ) → is_of_kind Text f n ≡ true → HasNode f n
text-held f n h = passing-held (is_kind Text) f n h
