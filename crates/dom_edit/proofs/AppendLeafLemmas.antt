-- A leaf that came in last under a parent, where nobody observes. DOM Standard, "Mutation algorithms": append.
use Rattle.std.proofs.Common.{IsSome, ◌≡◌, ℕ, Bool, true, false, not, ◌&&◌, [], ◌∷◌, Option, Some, None, refl, ap, sym, ◌∙◌, subst}
use Rattle.std.proofs.lemmas.Bool.{false≢true}
use Rattle.dom_model.specs.declared.{Kind.Kind, Kind.TheVariants.Element, Kind.TheVariants.Text, Kind.TheVariants.ProcessingInstruction, Kind.TheVariants.Comment, Kind.TheVariants.Document, Kind.TheVariants.DocumentType, Kind.TheVariants.DocumentFragment}
use Rattle.dom_model.specs.Definitions.{is_kind, may_be_parent, Entry, Node, Forest, Grove, entry_in, parent_of, ancestors, put, entry_has, is_of_kind, kind_passes, Content, Observing, check_insert, document_in, remove, removed_from, freed, append, IsInsertable, append_edits}
use Rattle.dom_model.proofs.Forests.{Climbing.not_among-hits, Entries.occurs-HasNode}
use Rattle.dom_observe.specs.Watchers.{Watches}
use Rattle.dom_tree.specs.{NodeDocuments.document_at, PutConditions.takes_leaf, PutConditions.IsLeafFor}
use Rattle.dom_tree.proofs.LeavesPut.{leaf-outside}
use Rattle.dom_edit.specs.{declared.world.World.World, Insertion.placed_in, Insertion.IsOpen, KeptNodes.KeepsNodes, Markers.StandByEdits, Whole.IsWhole, Whole.Follows}
use Rattle.dom_edit.proofs.{FollowsLemmas.follows-none, InsertLemmas.follows-as, InsertLemmas.alone-entering, InsertLemmas.follows-freed_alone, InsertLemmas.open-freed, InsertLemmas.follows-insert, InsertLemmas.nodes-placed, StandByEditsLemmas.stand-by_pre_insert, KeepsNodesLemmas.nodes-none, PlacedInLemmas.placed-same, PlacedWorldLemmas.with_placed, PlacedWorldLemmas.placing, PlacedWorldLemmas.follows-placing, PlacedWorldLemmas.whole-placed, ReplaceLemmas.follows-pre_insert, UnobservedLemmas.follows-unheard, IsInsertableLemmas.unrefused, KeepsWatchersLemmas.watchers-ranged}
use Rattle.dom_model.proofs.MutationAlgorithms.OwnersKept.{told}

-- what the kinds of a parent and of a leaf that it takes are, and are not
record LeafKinds (f : Forest Content) (parent leaf : ℕ) : Type 0 where
  may_hold : kind_passes may_be_parent f parent ≡ true
  plain : is_of_kind Document f parent ≡ false
  no_document : is_of_kind Document f leaf ≡ false
  no_doctype : is_of_kind DocumentType f leaf ≡ false
  no_fragment : is_of_kind DocumentFragment f leaf ≡ false

holds-leaf : (p : Kind) → (may_be_parent p && not (is_kind p Document)) ≡ true → (may_be_parent p ≡ true) × (is_kind Document p ≡ false)
holds-leaf Element e = (refl, refl)
holds-leaf Text e = absurd (false≢true e)
holds-leaf ProcessingInstruction e = absurd (false≢true e)
holds-leaf Comment e = absurd (false≢true e)
holds-leaf Document e = absurd (false≢true e)
holds-leaf DocumentType e = absurd (false≢true e)
holds-leaf DocumentFragment e = (refl, refl)

never-both : (b : Bool) → (b && not b) ≡ true → false ≡ true
never-both true e = e
never-both false e = e

leaf-kinds : (f : Forest Content) (parent leaf : ℕ) → kind_passes (λ p. kind_passes (takes_leaf p) f leaf) f parent ≡ true → LeafKinds f parent leaf
leaf-kinds f parent leaf h =
    let k = go (entry_in f parent) (entry_in f leaf) h in
    record { may_hold = k.0.0; plain = k.0.1; no_document = k.1.0; no_doctype = k.1.1.0; no_fragment = k.1.1.1 }
  where
    of_kinds : (p l : Kind) → takes_leaf p l ≡ true → ((may_be_parent p ≡ true) × (is_kind Document p ≡ false)) × ((is_kind Document l ≡ false) × ((is_kind DocumentType l ≡ false) × (is_kind DocumentFragment l ≡ false)))
    of_kinds p Element e = (holds-leaf p e, (refl, (refl, refl)))
    of_kinds p Text e = (holds-leaf p e, (refl, (refl, refl)))
    of_kinds p ProcessingInstruction e = (holds-leaf p e, (refl, (refl, refl)))
    of_kinds p Comment e = (holds-leaf p e, (refl, (refl, refl)))
    of_kinds p Document e = absurd (false≢true e)
    of_kinds p DocumentType e = absurd (false≢true (never-both (is_kind p Document) e))
    of_kinds p DocumentFragment e = absurd (false≢true e)

    go : (p l : Option (Entry (Node Content))) → entry_has (λ k. entry_has (takes_leaf k) l) p ≡ true
        → ((entry_has may_be_parent p ≡ true) × (entry_has (is_kind Document) p ≡ false)) × ((entry_has (is_kind Document) l ≡ false) × ((entry_has (is_kind DocumentType) l ≡ false) × (entry_has (is_kind DocumentFragment) l ≡ false)))
    go None l e = absurd (false≢true e)
    go (Some a) None e = absurd (false≢true e)
    go (Some a) (Some b) e = of_kinds a.value.label.kind b.value.label.kind e

same-documents : (p l : Option (Entry (Node Content))) → IsSome p → IsSome l → document_at p ≡ document_at l → document_in l ≡ document_in p
same-documents None l h k e = absurd (false≢true h)
same-documents (Some a) None h k e = absurd (false≢true k)
same-documents (Some a) (Some b) h k e = let d : Some a.value.document ≡ Some b.value.document = e in sym (cc d)

module _ (v : World) (h : IsWhole v) (parent n : ℕ) (i : IsLeafFor v.tree.forest parent n) where
  abbrev trees : Forest Content
  trees = v.tree.forest

  kinds : LeafKinds trees parent n
  kinds = leaf-kinds trees parent n i.kinds

  insertable : IsInsertable trees n parent None
  insertable = record {
    there = occurs-HasNode trees n i.leaf_there;
    parent_there = occurs-HasNode trees parent i.parent_there;
    outside = not_among-hits n (ancestors parent trees) (leaf-outside h.forest i);
    may_hold = kinds.may_hold;
    no_document = kinds.no_document;
    doctype_fits = ap (λ b. b && not (is_of_kind Document trees parent)) kinds.no_doctype;
    before_child = tt;
    before_other = tt;
  }

  pub leaf-allowed : check_insert trees parent n None ≡ None
  leaf-allowed = unrefused trees n parent None insertable kinds.plain

  -- it leaves nothing: it is a root
  stays-root : Follows v v (freed n (n ∷ []))
  stays-root =
      follows-freed_alone v v n (n ∷ []) kinds.no_fragment
      (follows-as v v (λ w. w) (remove false n) (λ w k. ap (λ o. removed_from false n o w) (ap (λ (f : Forest Content). parent_of f n) k.forest ∙ i.root)) (follows-none v))

  ready : IsOpen trees parent None (n ∷ [])
  ready = open-freed v v n parent None (n ∷ []) h insertable (alone-entering trees n kinds.no_fragment) stays-root

  unadopted : placed_in parent None n trees ≡ put parent n None trees
  unadopted =
      placed-same trees h.forest.once h.documents parent n (document_in (entry_in trees parent)) (document_in (entry_in trees n)) None i.parent_there (told (entry_in trees parent)) (told (entry_in trees n))
      (same-documents (entry_in trees parent) (entry_in trees n) i.parent_there i.leaf_there i.one_document)

  module _ (t : Grove Content) (e : t ≡ record v.tree { forest = put parent n None trees }) where
    abbrev new : World
    new = record v { tree = t }

    is_placed : with_placed parent None (n ∷ []) v ≡ new
    is_placed = ap (λ (g : Grove Content). record v { tree = g }) (ap (λ (f : Forest Content). record v.tree { forest = f }) unadopted ∙ sym e)

    placed : Follows v new (placing parent None (n ∷ []))
    placed = subst (λ (u : World). Follows v u (placing parent None (n ∷ []))) is_placed (follows-placing parent None (n ∷ []) v)

    pub leaf-whole : IsWhole new
    leaf-whole = subst IsWhole is_placed (whole-placed parent None (n ∷ []) v h ready)

    pub leaf-kept : KeepsNodes v new
    leaf-kept = nodes-placed v new parent None (n ∷ []) h ready placed (watchers-ranged v new refl refl refl)

    pub leaf-appended : ((x : Observing) → Watches v.observers x → x.registrations ≡ []) → Follows v new (append n parent)
    leaf-appended idle =
        follows-pre_insert v new n parent None None refl
        (follows-insert v v new n parent None (n ∷ []) false refl (alone-entering trees n kinds.no_fragment) stays-root (follows-unheard v new false parent None (n ∷ []) idle placed))

    pub leaf-marked : ((x : Observing) → Watches v.observers x → x.registrations ≡ []) → StandByEdits v new (append_edits n parent)
    leaf-marked idle = stand-by_pre_insert v new h leaf-whole n parent None i.leaf_there leaf-allowed (leaf-appended idle)

-- whether or not a leaf came in
pub leaf-or_not : (v : World) (parent n : ℕ) (done : Bool) (t : Grove Content) → IsWhole v → (done ≡ true → IsLeafFor v.tree.forest parent n) → (done ≡ true → t ≡ record v.tree { forest = put parent n None v.tree.forest }) → (done ≡ false → t ≡ v.tree)
    → KeepsNodes v (record v { tree = t }) × IsWhole (record v { tree = t })
leaf-or_not v parent n true t h i e same = (leaf-kept v h parent n (i refl) t (e refl), leaf-whole v h parent n (i refl) t (e refl))
leaf-or_not v parent n false t h i e same =
    let d = sym (same refl) in
    (subst (λ (g : Grove Content). KeepsNodes v (record v { tree = g })) d (nodes-none v), subst (λ (g : Grove Content). IsWhole (record v { tree = g })) d h)
