-- A node is put last under a root that may have children: a sound world is left. DOM Standard, "Mutation algorithms": append; "Interface Node": clone.
use Rattle.std.proofs.Common.{◌≡◌, ℕ, ◌+◌, ◌<◌, ◌≤◌, ◌==◌, Bool, true, false, not, ◌&&◌, if◌then◌else◌, List, [], ◌∷◌, Option, Some, None, refl, ap, sym, ◌∙◌, subst, arith, ⊎_elim}
use Rattle.std.proofs.lemmas.Bool.{cases_lt, eq-eqb}
use Rattle.dom_model.specs.Definitions.{hits, or_else, Entry, parent_in, is_kind, may_be_parent, Node, Forest, empty, node, occurs, tops, beside, tree_at, map_nodes, entry_under, entry_in, parent_of, children_of, ancestors, KindsFit, Content, World, no_content, entry_has, kind_passes, is_of_kind, named, node_document, nodes_of, append, renumbered, alone_of, with_copies, document_of_clone, clone_node, with_data, new_fragment, clone_with, IsSound, IsInsertable}
use Rattle.dom_model.specs.declared.{Kind.Kind, Kind.TheVariants.Document, Kind.TheVariants.DocumentType, Kind.TheVariants.DocumentFragment}
use Rattle.dom_model.proofs.PlainLists.Numbers.{same_or, same, apart}
use Rattle.dom_model.proofs.Forests.{Totals.tree_at-absent, Climbing.hits-first, Entries.entry_under-absent, Entries.occurs-HasNode, Paths.root-path, Listed.hits-other}
use Rattle.dom_model.proofs.Worlds.Measured.{entry-joined}
use Rattle.dom_model.proofs.Soundness.{SoundMaking.fits-original, SoundMaking.sound-copies, SoundMaking.sound-made_node, SoundTextContent.entry-made, SoundTextContent.made-there, SoundInserting.sound-insert}
use Rattle.dom_model.proofs.MutationAlgorithms.Extending.{Extends, extends-beside, IsPut, put_by_insert, insert-made}

-- a root that may have children
pub record IsHolder (w : World) (into : ℕ) : Type 0 where
  pub there : 0 < occurs into w.forest
  pub root : parent_of w.forest into ≡ None
  pub may_hold : kind_passes may_be_parent w.forest into ≡ true

-- a node that may stand wherever there may be children
pub record IsPlain (w : World) (n : ℕ) : Type 0 where
  pub there : 0 < occurs n w.forest
  pub no_document : is_of_kind Document w.forest n ≡ false
  pub no_doctype : is_of_kind DocumentType w.forest n ≡ false
  pub no_fragment : is_of_kind DocumentFragment w.forest n ≡ false

-- what a step leaves: a sound world with all that was there, but for the parents of what it moved
pub record IsDrawn (w v : World) (moved : List ℕ) : Type 0 where
  pub sound : IsSound v
  pub extends : Extends w.forest v.forest moved
  pub made : w.made ≤ v.made

pub holder_stays : (w v : World) (moved : List ℕ) (into : ℕ) → Extends w.forest v.forest moved → hits into moved ≡ 0 → IsHolder w into → IsHolder v into
holder_stays w v moved into a z h =
    record { there = a.there into h.there; root = a.parents into h.there z ∙ h.root; may_hold = a.kinds may_be_parent into h.there ∙ h.may_hold }

-- a node is plain whose kind is a plain node's
pub plain_like : (w v : World) (n m : ℕ) → 0 < occurs m v.forest → ((test : Kind → Bool) → kind_passes test v.forest m ≡ kind_passes test w.forest n) → IsPlain w n → IsPlain v m
plain_like w v n m there kinds p =
    record {
      there = there;
      no_document = kinds (is_kind Document) ∙ p.no_document;
      no_doctype = kinds (is_kind DocumentType) ∙ p.no_doctype;
      no_fragment = kinds (is_kind DocumentFragment) ∙ p.no_fragment;
    }

pub plain_stays : (w v : World) (moved : List ℕ) (n : ℕ) → Extends w.forest v.forest moved → IsPlain w n → IsPlain v n
plain_stays w v moved n a p = plain_like w v n n (a.there n p.there) (λ test. a.kinds test n p.there) p

-- Appending.

outside_root : (w : World) → IsSound w → (n into : ℕ) → IsHolder w into → (n ≡ into → ⊥) → hits n (ancestors into w.forest) ≡ 0
outside_root w s n into h ne = ap (hits n) (root-path w.forest s.forest.once into h.there h.root) ∙ hits-other n into [] (λ d. ne (sym d))

pub plain_insertable : (w : World) → IsSound w → (n into : ℕ) → IsHolder w into → IsPlain w n → (n ≡ into → ⊥) → IsInsertable w.forest n into None
plain_insertable w s n into h p ne =
    record {
      there = p.there;
      parent_there = h.there;
      outside = outside_root w s n into h ne;
      may_hold = h.may_hold;
      no_document = p.no_document;
      doctype_fits = ap (λ v. v && not (is_of_kind Document w.forest into)) p.no_doctype;
      before_child = tt;
      before_other = tt;
    }

-- a node put last: it has the parent
pub record IsAppended (w v : World) (n into : ℕ) : Type 0 where
  pub drawn : IsDrawn w v (n ∷ [])
  pub under : parent_of v.forest n ≡ Some into

pub append-plain : (w : World) → IsSound w → (n into : ℕ) → IsHolder w into → IsPlain w n → (n ≡ into → ⊥) → IsAppended w (append n into w) n into
append-plain w s n into h p ne =
    let k = plain_insertable w s n into h p ne in
    let alone : nodes_of w n ≡ n ∷ [] = ap (λ v. if v then children_of w.forest n else n ∷ []) p.no_fragment in
    let q = subst (λ ns. IsPut w.forest (append n into w).forest into ns) alone (put_by_insert false n into None w s k) in
    record {
      drawn = record { sound = sound-insert false n into None w s k; extends = q.extends; made = (let e = insert-made false n into None w in omega arith) };
      under = q.put_under n (hits-first n []);
    }

-- Copies.

-- the top of the tree of a number is its node
pub record IsTop (n : ℕ) (q : Option ℕ) (f : Forest Content) : Type 0 where
  pub top : Node Content
  pub kids : Forest Content
  pub rest : Forest Content
  pub tree : tree_at n f ≡ node top kids rest
  pub entry : Entry (Node Content)
  pub found : entry_under q n f ≡ Some entry
  pub value : entry.value ≡ top

pub tree_top : (n : ℕ) (q : Option ℕ) (f : Forest Content) → 0 < occurs n f → IsTop n q f
tree_top n q empty h = absurd (omega arith)
tree_top n q (node x kids rest) h =
    elim (same_or x.number n) [
      | same e t ↦
          record {
            top = x;
            kids = kids;
            rest = tree_at n rest;
            tree = rw t refl;
            entry = record { value = x; parent = q; children = tops kids };
            found = rw t refl;
            value = refl;
          }
      | apart ne t ↦
          let k = rw t at h in
          ⊎_elim
          (λ (lt : 0 < occurs n kids). from_kids t (tree_top n (Some x.number) kids lt))
          (λ (le : occurs n kids ≤ 0). from_rest t (omega arith) (tree_top n q rest (omega arith)))
          (cases_lt 0 (occurs n kids))
    ]
  where
    from_kids : (x.number == n) ≡ false → IsTop n (Some x.number) kids → IsTop n q (node x kids rest)
    from_kids t i =
        record {
          top = i.top;
          kids = i.kids;
          rest = beside i.rest (tree_at n rest);
          tree = rw (t, i.tree) refl;
          entry = i.entry;
          found = rw (t, i.found) refl;
          value = i.value;
        }

    from_rest : (x.number == n) ≡ false → occurs n kids ≡ 0 → IsTop n q rest → IsTop n q (node x kids rest)
    from_rest t z i =
        record {
          top = i.top;
          kids = i.kids;
          rest = i.rest;
          tree = rw (t, tree_at-absent n kids z) i.tree;
          entry = i.entry;
          found = rw (t, entry_under-absent (Some x.number) n kids z) i.found;
          value = i.value;
        }

-- a copy of a node, as a root with the next number
pub record IsCopy (w v : World) (n : ℕ) : Type 0 where
  pub drawn : IsDrawn w v []
  pub there : 0 < occurs w.made v.forest
  pub root : parent_of v.forest w.made ≡ None
  pub kinds : (test : Kind → Bool) → kind_passes test v.forest w.made ≡ kind_passes test w.forest n

copy_top : (w : World) → IsSound w → (d n : ℕ) (copied kids rest : Forest Content) (x : Node Content) → copied ≡ node x kids rest → KindsFit None copied → ((test : Kind → Bool) → kind_passes test w.forest n ≡ test x.label.kind) → IsCopy w (with_copies d copied w) n
copy_top w s d n copied kids rest x e fits kind =
    record {
      drawn = record { sound = sound-copies d copied w s fits; extends = extends-beside w.forest (renumbered d w.made copied); made = omega arith };
      there = occurs-HasNode v.forest w.made (rw found refl);
      root = ap parent_in found;
      kinds = λ test. ap (entry_has test) found ∙ sym (kind test);
    }
  where
    v : World
    v = with_copies d copied w

    y : Node Content
    y = record x { number = w.made; document = d }

    absent : occurs w.made w.forest ≡ 0
    absent = s.forest.small w.made (omega arith)

    found : entry_in (beside w.forest (renumbered d w.made copied)) w.made ≡ Some (record { value = y; parent = None; children = tops (renumbered d (w.made + 1) kids) })
    found =
        entry-joined None w.made w.forest (renumbered d w.made copied)
        ∙ ap (λ o. or_else o (entry_in (renumbered d w.made copied) w.made)) (entry_under-absent None w.made w.forest absent)
        ∙ ap (λ c. entry_in (renumbered d w.made c) w.made) e
        ∙ (rw (eq-eqb w.made w.made refl) refl)

kind_of_top : (w : World) (n : ℕ) (i : IsTop n None w.forest) (test : Kind → Bool) → kind_passes test w.forest n ≡ test i.top.label.kind
kind_of_top w n i test = ap (entry_has test) i.found ∙ ap (λ (y : Node Content). test y.label.kind) i.value

pub clone_copy : (deep : Bool) (n : ℕ) (w : World) → IsSound w → 0 < occurs n w.forest → IsCopy w (clone_node deep n w) n
clone_copy true n w s h =
    let i = tree_top n None w.forest h in
    copy_top w s (document_of_clone w n) n (tree_at n w.forest) i.kids i.rest i.top i.tree (fits-original true n w.forest s.forest.kinds) (kind_of_top w n i)
clone_copy false n w s h =
    let i = tree_top n None w.forest h in
    copy_top w s (document_of_clone w n) n (alone_of (tree_at n w.forest)) empty empty i.top (ap alone_of i.tree) (fits-original false n w.forest s.forest.kinds) (kind_of_top w n i)

pub clone_with_copy : (units : List ℕ) (n : ℕ) (w : World) → IsSound w → 0 < occurs n w.forest → IsCopy w (clone_with units n w) n
clone_with_copy units n w s h =
    let i = tree_top n None w.forest h in
    copy_top w s (node_document w n) n (map_nodes (with_data units) (alone_of (tree_at n w.forest))) empty empty (with_data units i.top) (ap (λ g. map_nodes (with_data units) (alone_of g)) i.tree)
    (fits (tree_at n w.forest)) (kind_of_top w n i)
  where
    fits : (g : Forest Content) → KindsFit None (map_nodes (with_data units) (alone_of g))
    fits empty = tt
    fits (node x kids rest) = (refl, tt, tt)

-- a new fragment
pub record IsFragment (w v : World) : Type 0 where
  pub drawn : IsDrawn w v []
  pub holder : IsHolder v w.made
  pub is_fragment : is_of_kind DocumentFragment v.forest w.made ≡ true

pub fragment_made : (d : ℕ) (w : World) → IsSound w → IsFragment w (new_fragment d w)
fragment_made d w s =
    let label = named DocumentFragment [] in
    let e = entry-made d label no_content w s in
    record {
      drawn = record { sound = sound-made_node d label no_content w s; extends = extends-beside w.forest _; made = omega arith };
      holder = record { there = made-there d label no_content w s; root = ap parent_in e; may_hold = ap (entry_has may_be_parent) e };
      is_fragment = ap (entry_has (is_kind DocumentFragment)) e;
    }
