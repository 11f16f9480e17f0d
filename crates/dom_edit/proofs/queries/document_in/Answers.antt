-- Every node document is a Document.
use Rattle.std.proofs.Common.{◌≡◌, ℕ, true, Option, Some, None, IsSome, IfSome, refl, sym, subst}
use Rattle.std.proofs.lemmas.Bool.{false≢true}
use Rattle.dom_model.specs.declared.Kind.TheVariants.{Document}
use Rattle.dom_model.specs.Definitions.{Entry, Node, Forest, HasNode, entry_in, is_of_kind, Content, HasOwners, IsOwned}
use Rattle.dom_model.proofs.MutationAlgorithms.OwnersKept.{EachNode-entry}
use Rattle.dom_edit.proofs.queries.document_in.Goals as goal

owner-kind : (f : Forest Content) (n d : ℕ) → HasNode f n → HasOwners f → IfSome (entry_in f n) (λ e. d ≡ e.value.document) → is_of_kind Document f d ≡ true
owner-kind f n d held owners h = go (entry_in f n) refl held h
  where
    go : (o : Option (Entry (Node Content))) → entry_in f n ≡ o → IsSome o → IfSome o (λ e. d ≡ e.value.document) → is_of_kind Document f d ≡ true
    go None i s k = absurd (false≢true s)
    go (Some e) i s k = subst (λ m. is_of_kind Document f m ≡ true) (sym k) (EachNode-entry (IsOwned f) None n f e owners i)

pub returns-clause-kind : goal.returns-clause-kind
returns-clause-kind c = owner-kind c.args.tree.now.forest c.args.node c.document_of.result c.requires.held c.requires.owners c.document_of.ensures
