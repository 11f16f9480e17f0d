-- The label and the contents of each node stay as trees are cut and put, and as nodes get other documents.
use Rattle.std.proofs.Common.{IsSome, ◌≡◌, ℕ, ◌≤◌, List, [], ◌∷◌, Option, Some, None, refl, ap, sym, ◌∙◌}
use Rattle.dom_model.specs.Definitions.{Label, Entry, Node, Forest, Grove, IsForest, occurs, entry_in, cut, put, adopted, map_nodes, Content, content_in, document_in, label_in}
use Rattle.dom_model.proofs.Forests.{Changes.cut_at, Changes.link_at, Entries.entry-cut, Entries.entry-put}
use Rattle.dom_model.proofs.Worlds.Measured.{unplaced, unplaced_entry, entry-unplaced, adopted-unplaced}
use Rattle.dom_model.proofs.Soundness.SoundPlacing.{apart_from}
use Rattle.dom_edit.specs.{declared.world.World.World, Insertion.placed_in, Insertion.all_placed, Insertion.IsOpen, KeptNodes.KeepsWatchers, KeptNodes.KeepsNodes}
use Rattle.dom_edit.proofs.PlacedInLemmas.{bare, sound-bare, forest-next, open-next}

-- what is told of a node beside its place and its node document
abbrev pub told_in : Option (Entry (Node Content)) → (Option Label) × Content
told_in e = (label_in e, content_in e)

abbrev pub told_of : Forest Content → ℕ → (Option Label) × Content
told_of f n = told_in (entry_in f n)

pub labelled-there : (o p : Option (Entry (Node Content))) → label_in o ≡ label_in p → IsSome p → IsSome o
labelled-there None None e h = h
labelled-there None (Some p) e h = absurd (cc e)
labelled-there (Some o) p e h = refl

pub kept-told : (a b : World) → ((n : ℕ) → told_of b.tree.forest n ≡ told_of a.tree.forest n) → b.tree.made ≡ a.tree.made → b.statics ≡ a.statics → b.walkers ≡ a.walkers → KeepsWatchers a b → KeepsNodes a b
kept-told a b same made statics walkers watchers = record {
  labelled = record {
    held = λ n h. labelled-there (entry_in b.tree.forest n) (entry_in a.tree.forest n) (ap (λ p. p.0) (same n)) h;
    labels = λ n h. ap (λ p. p.0) (same n);
    attributes = λ n h. ap (λ p. p.1.attributes) (same n);
    statics = statics;
    walkers = walkers;
    watchers = watchers;
  };
  contents = λ n h. ap (λ p. p.1) (same n);
  made = made;
}

pub told-cut : (f : Forest Content) → ((m : ℕ) → occurs m f ≤ 1) → (c n : ℕ) → told_of (cut c f) n ≡ told_of f n
told-cut f o c n = ap told_in (entry-cut f o c n) ∙ go (entry_in f n)
  where
    go : (e : Option (Entry (Node Content))) → told_in (cut_at c n e) ≡ told_in e
    go None = refl
    go (Some e) = refl

pub told-adopted : (n d : ℕ) (f : Forest Content) (m : ℕ) → told_of (adopted n d f) m ≡ told_of f m
told-adopted n d f m = sym (measured (adopted n d f)) ∙ ap (λ g. told_of g m) (adopted-unplaced n d f) ∙ measured f
  where
    measured : (g : Forest Content) → told_of (map_nodes unplaced g) m ≡ told_of g m
    measured g = ap told_in (entry-unplaced None m g) ∙ go (entry_in g m)
      where
        go : (e : Option (Entry (Node Content))) → told_in (unplaced_entry e) ≡ told_in e
        go None = refl
        go (Some e) = refl

told-placed : (g : Grove Content) → IsForest g → (parent n : ℕ) (child : Option ℕ) (ns : List ℕ) → IsOpen g.forest parent child (n ∷ ns) → (m : ℕ) → told_of (placed_in parent child n g.forest) m ≡ told_of g.forest m
told-placed g s parent n child ns ready m =
    let one = ready.placeable.0 in
    let apart = apart_from parent n child (bare g) (sound-bare g s) ready.parent_there one in
    told-adopted n (document_in (entry_in g.forest parent)) (put parent n child g.forest) m
    ∙ ap told_in (entry-put g.forest s.once parent n child ready.parent_there one.there one.root apart m)
    ∙ go (entry_in g.forest m)
  where
    go : (e : Option (Entry (Node Content))) → told_in (link_at parent child n m e) ≡ told_in e
    go None = refl
    go (Some e) = refl

pub told-all_placed : (g : Grove Content) → IsForest g → (parent : ℕ) (child : Option ℕ) (ns : List ℕ) → IsOpen g.forest parent child ns → (m : ℕ) → told_of (all_placed parent child ns g.forest) m ≡ told_of g.forest m
told-all_placed g s parent child [] ready m = refl
told-all_placed g s parent child (n ∷ ns) ready m =
    let next : Grove Content = record g { forest = placed_in parent child n g.forest } in
    told-all_placed next (forest-next g s parent n child ns ready) parent child ns (open-next g s parent n child ns ready) m
    ∙ told-placed g s parent n child ns ready m
