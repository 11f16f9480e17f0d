-- In each tree one node document, a Document of the forest: kept as nodes leave and come in. DOM Standard, "Mutation algorithms".
use Rattle.std.proofs.Common.{IfSome, ◌≡◌, ℕ, ◌<◌, Bool, true, false, if◌then◌else◌, List, [], ◌∷◌, Option, Some, None, refl, sym, ◌∙◌, subst, arith}
use Rattle.dom_model.specs.Definitions.{hits, is_kind, Entry, Node, Forest, empty, node, occurs, tops, cut, put, entry_under, entry_in, EachNode, Content, World, IsSound, is_of_kind, remove, remove_all, is_fragment, emptied_fragment, freed, document_in, node_document, put_in, IsOwned, IsOwnedWell, IsPlaceable}
use Rattle.dom_model.specs.declared.Kind.TheVariants.{Document}
use Rattle.dom_model.proofs.PlainLists.Numbers.{same_or, same, apart}
use Rattle.dom_model.proofs.Forests.{Changes.seen, Changes.nothing, Changes.just, Totals.IsOnce, Climbing.hits-first, Documents.HasDocument-entry, Documents.HasOneDocument-cut, Documents.HasOneDocument-adopted_put}
use Rattle.dom_model.proofs.Worlds.{Measured.kind-put, Owners.HasOwners-cut, Owners.HasOwners-put, Owners.HasOwners-adopted}
use Rattle.dom_model.proofs.Soundness.{SoundForests.entry_there, SoundWorlds.sound-remove, SoundPlacing.apart_from}
use Rattle.dom_model.proofs.MutationAlgorithms.Loosened.{forest-remove, loosened-remove}

-- what holds of each node holds of the node of an entry
pub EachNode-entry : {X : Type 0} (P : Node X → Type 0) (q : Option ℕ) (n : ℕ) (f : Forest X) (e : Entry (Node X)) → EachNode P f → entry_under q n f ≡ Some e → P e.value
EachNode-entry {X} P q n empty e w d = absurd (cc d)
EachNode-entry {X} P q n (node x kids rest) e w d =
    elim (same_or x.number n) [
      | same s t ↦
          let u : record { value = x; parent = q; children = tops kids } ≡ e = (let v = rw t at d in cc v) in
          subst (λ (y : Entry (Node X)). P y.value) u w.0
      | apart ne t ↦
          let u = rw t at d in
          elim (seen (entry_under (Some x.number) n kids)) [
            | nothing z ↦ (let v = rw z at u in EachNode-entry P q n rest e w.2 v)
            | just a z ↦ (let v = rw z at u in EachNode-entry P (Some x.number) n kids e w.1 (z ∙ v))
          ]
    ]

pub owned-cut : (c : ℕ) (f : Forest Content) → IsOnce f → IsOwnedWell f → IsOwnedWell (cut c f)
owned-cut c f o h = record { documents = HasOneDocument-cut c f h.documents; owners = HasOwners-cut c f o h.owners }

pub owned-remove : (suppressed : Bool) (n : ℕ) (w : World) → IsSound w → 0 < occurs n w.forest → IsOwnedWell w.forest → IsOwnedWell (remove suppressed n w).forest
owned-remove suppressed n w s h k = subst IsOwnedWell (sym (forest-remove suppressed n w s h)) (owned-cut n w.forest s.forest.once k)

pub owned-remove_all : (ns : List ℕ) (w : World) → IsSound w → ((n : ℕ) → 0 < hits n ns → 0 < occurs n w.forest) → IsOwnedWell w.forest → IsOwnedWell (remove_all ns w).forest
owned-remove_all [] w s h k = k
owned-remove_all (n ∷ ns) w s h k =
    let i = h n (hits-first n ns) in
    let a = loosened-remove true n w s i in
    owned-remove_all ns (remove true n w) (sound-remove true n w s) (λ l j. subst (λ x. 0 < x) (sym (a.numbers l)) (h l (omega arith))) (owned-remove true n w s i k)

-- the nodes that come in leave where they stood
pub owned-freed : (n : ℕ) (nodes : List ℕ) (w : World) → IsSound w → 0 < occurs n w.forest → ((m : ℕ) → 0 < hits m nodes → 0 < occurs m w.forest) → IsOwnedWell w.forest → IsOwnedWell (freed n nodes w).forest
owned-freed n nodes w s h each k =
    elim (is_fragment w n) as (λ v. IsOwnedWell (if v then emptied_fragment n nodes w else remove false n w).forest) [
      | true ↦ owned-remove_all nodes w s each k
      | false ↦ owned-remove false n w s h k
    ]

-- the node document of a node that is there is a Document
pub document-owned : (w : World) (n : ℕ) → 0 < occurs n w.forest → IsOwnedWell w.forest → is_of_kind Document w.forest (node_document w n) ≡ true
document-owned w n h k =
    let e = entry_there w.forest n h in
    rw e.1 (EachNode-entry (IsOwned w.forest) None n w.forest e.0 k.owners e.1)

pub told : (o : Option (Entry (Node Content))) → IfSome o (λ e. document_in o ≡ e.value.document)
told None = tt
told (Some e) = refl

-- a root comes in, in the parent's node document
pub owned-put_in : (parent n : ℕ) (child : Option ℕ) (w : World) (s : IsSound w) → (hp : 0 < occurs parent w.forest) (k : IsPlaceable w.forest parent n) → IsOwnedWell w.forest → IsOwnedWell (put_in parent child n w).forest
owned-put_in parent n child w s hp k h =
    let f = w.forest in
    let d = node_document w parent in
    let o = s.forest.once in
    let z = apart_from parent n child w s hp k in
    record {
      documents = HasOneDocument-adopted_put parent n d child f h.documents (HasDocument-entry parent d f o (told (entry_in f parent)));
      owners = HasOwners-adopted n d (put parent n child f) (kind-put f o parent n child hp k.there k.root z (is_kind Document) d ∙ document-owned w parent hp h)
          (HasOwners-put parent n child f o hp k.there k.root z h.owners);
    }
