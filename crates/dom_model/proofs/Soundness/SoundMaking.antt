-- New trees leave a sound world: a node that is made, and the copies of a tree. DOM Standard, "Interface Document", "Interface Node" (clone).
use Rattle.std.proofs.Common.{◌≡◌, ℕ, suc, ◌+◌, ◌<◌, ◌≤◌, Bool, true, false, Option, Some, None, refl, arith}
use Rattle.std.proofs.lemmas.Bool.Decides.{nat_tests}
use Rattle.dom_model.specs.Definitions.{Label, Node, Forest, empty, node, occurs, one_at, size, tops, beside, tree_at, entry_in, HasNode, IsRising, KindsFit, Content, Iterator, World, made_node, renumbered, alone_of, original, with_copies, document_of_clone, clone_node, import_node, IsIterator, IsSound}
use Rattle.dom_model.specs.declared.Kind.{Kind}
use Rattle.dom_model.proofs.Forests.{Totals.total-beside, Totals.total-tree_at, Entries.HasNode-occurs, Entries.occurs-HasNode, TreeOrder.Flattened.hits-numbers, KindsFitting.KindsFit-root}
use Rattle.dom_model.proofs.Soundness.{SoundForests.IsWood, SoundForests.IsWood-beside, SoundWorlds.ranges-kept, SoundWorlds.sound-on}
use Rattle.dom_model.proofs.Worlds.{Measured.entry-beside, Parts.range-from_part, Parts.iterator-from_part}

-- the reference of an iterator is in the forest
pub reference_there : (f : Forest Content) (i : Iterator) → IsIterator f i → 0 < occurs i.reference f
reference_there f i h = let j = hits-numbers i.reference (tree_at i.root f) in let t = total-tree_at (one_at i.reference) i.root f in let k = h.inside in omega arith

-- trees whose numbers are new
pub record AreNew (made more : ℕ) (g : Forest Content) : Type 0 where
  pub later : made ≤ more
  pub once : (n : ℕ) → occurs n g ≤ 1
  pub old : (n : ℕ) → n < made → occurs n g ≡ 0
  pub new : (n : ℕ) → more ≤ n → occurs n g ≡ 0
  pub rising : IsRising made (tops g)
  pub kinds : KindsFit None g

pub sound-beside : (g : Forest Content) (more : ℕ) (w : World) → IsSound w → AreNew w.made more g → IsSound (record w { forest = beside w.forest g; made = more })
sound-beside g more w s a =
    sound-on w s h more w.ranges wood (ranges-kept f h (range-from_part f h s.forest.once wood.once entries) w.ranges s.ranges)
    (λ i k. iterator-from_part f h s.forest.once wood.once entries i (reference_there f i k) k) there
  where
    f : Forest Content
    f = w.forest

    h : Forest Content
    h = beside w.forest g

    wood : IsWood (beside w.forest g) more
    wood = IsWood-beside s.forest g more a.later a.once a.old a.new a.rising a.kinds

    entries : (m : ℕ) → 0 < occurs m w.forest → entry_in (beside w.forest g) m ≡ entry_in w.forest m
    entries m k = entry-beside w.forest g m k

    there : (n : ℕ) → HasNode w.forest n → HasNode (beside w.forest g) n
    there n k = HasNode-occurs (beside w.forest g) n (let t = total-beside (one_at n) w.forest g in let j = occurs-HasNode w.forest n k in omega arith)

-- A node.

new_node : (made : ℕ) (x : Node Content) → x.number ≡ made → AreNew made (made + 1) (node x empty empty)
new_node made x e =
    record {
      later = omega arith;
      once = λ n. grind (arith, nat_tests);
      old = λ n l. grind (arith, nat_tests);
      new = λ n l. grind (arith, nat_tests);
      rising = (omega arith, tt);
      kinds = (refl, tt, tt);
    }

pub sound-made_node : (document : ℕ) (label : Label) (body : Content) (w : World) → IsSound w → IsSound (made_node document label body w)
sound-made_node document label body w s =
    sound-beside (node (record { number = w.made; document = document; label = label; body = body }) empty empty) (w.made + 1) w s
    (new_node w.made (record { number = w.made; document = document; label = label; body = body }) refl)

-- Copies.

pub once-renumbered : (d next : ℕ) (g : Forest Content) (n : ℕ) → (occurs n (renumbered d next g) ≤ 1) × (n < next → occurs n (renumbered d next g) ≡ 0) × (next + size g ≤ n → occurs n (renumbered d next g) ≡ 0)
once-renumbered d next empty n = (omega arith, λ l. refl, λ l. refl)
once-renumbered d next (node x kids rest) n =
    let i = once-renumbered d (next + 1) kids n in
    let j = once-renumbered d (next + 1 + size kids) rest n in
    (grind (arith, nat_tests, i, j), λ l. grind (arith, nat_tests, i, j), λ l. grind (arith, nat_tests, i, j))

rising-renumbered : (d low next : ℕ) (g : Forest Content) → low ≤ next → IsRising low (tops (renumbered d next g))
rising-renumbered d low next empty l = tt
rising-renumbered d low next (node x kids rest) l = (l, rising-renumbered d (suc next) (next + 1 + size kids) rest (omega arith))

fits-renumbered : (d next : ℕ) (q : Option Kind) (g : Forest Content) → KindsFit q g → KindsFit q (renumbered d next g)
fits-renumbered d next q empty k = tt
fits-renumbered d next q (node x kids rest) k = (k.0, fits-renumbered d (next + 1) (Some x.label.kind) kids k.1, fits-renumbered d (next + 1 + size kids) q rest k.2)

copies_new : (d made : ℕ) (g : Forest Content) → KindsFit None g → AreNew made (made + size g) (renumbered d made g)
copies_new d made g k =
    record {
      later = omega arith;
      once = λ n. (once-renumbered d made g n).0;
      old = λ n l. (once-renumbered d made g n).1 l;
      new = λ n l. (once-renumbered d made g n).2 l;
      rising = rising-renumbered d made made g (omega arith);
      kinds = fits-renumbered d made None g k;
    }

pub sound-copies : (document : ℕ) (copied : Forest Content) (w : World) → IsSound w → KindsFit None copied → IsSound (with_copies document copied w)
sound-copies document copied w s k = sound-beside (renumbered document w.made copied) (w.made + size copied) w s (copies_new document w.made copied k)

pub fits-original : (deep : Bool) (n : ℕ) (f : Forest Content) → KindsFit None f → KindsFit None (original deep n f)
fits-original true n f k = KindsFit-root None n f k
fits-original false n f k = alone (tree_at n f)
  where
    alone : (g : Forest Content) → KindsFit None (alone_of g)
    alone empty = tt
    alone (node x kids rest) = (refl, tt, tt)

pub sound-clone_node : (deep : Bool) (n : ℕ) (w : World) → IsSound w → IsSound (clone_node deep n w)
sound-clone_node deep n w s = sound-copies (document_of_clone w n) (original deep n w.forest) w s (fits-original deep n w.forest s.forest.kinds)

pub sound-import_node : (document : ℕ) (deep : Bool) (n : ℕ) (w : World) → IsSound w → IsSound (import_node document deep n w)
sound-import_node document deep n w s = sound-copies document (original deep n w.forest) w s (fits-original deep n w.forest s.forest.kinds)
