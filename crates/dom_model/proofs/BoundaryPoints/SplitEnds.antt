-- What a split leaves of the forest, and that it leaves the point at which a Text is split. DOM Standard, "Interface Text": split.
use Rattle.std.proofs.Common.{◌≡◌, ℕ, ◌+◌, ◌<◌, ◌≤◌, ◌==◌, nat_lt, true, false, ◌&&◌, [], ◌∷◌, length, Option, Some, None, refl, ap, sym, ◌∙◌, subst, arith}
use Rattle.std.proofs.Math.Bool.{and-false}
use Rattle.std.proofs.lemmas.Bool.{le-ltb, ne_eqb}
use Rattle.dom_model.specs.Definitions.{is_kind, Forest, occurs, parent_of, children_of, next_of, index_of, spliced, Content, Point, World, after_split, after_splice, map_ranges, entry_has, is_of_kind, made_node, named, with_text, is_fragment, node_document, insert_all, insert, data_of, with_data, cut_count, replace_data, tail_of, split_off, split, IsSound}
use Rattle.dom_model.specs.declared.Kind.TheVariants.{Text, DocumentFragment}
use Rattle.dom_model.proofs.Forests.Indices.{child-listed}
use Rattle.dom_model.proofs.Worlds.SameShape.{IsAlike, with_node-alike, occurs-alike, parent-alike, kind-alike, index-alike}
use Rattle.dom_model.proofs.Soundness.{SoundForests.data-childless, SoundSplitting.insert-root, SoundSplitting.text_has_data, SoundSplitting.entry-new, SoundSplitting.root-new, SoundSplitting.forest_is, SoundSplitting.kind-parted, SoundSplitting.text-made, SoundSplitting.par-parted, SoundSplitting.par-new, SoundSplitting.index-after, SoundSplitting.split_off_is, SoundSplitting.there-parted, SoundSplitting.there-old, SoundSplitting.made, SoundSplitting.parted}
use Rattle.dom_model.proofs.BoundaryPoints.MovedPoints.{map_ranges-none, KeepsPoint, keeps-then, keeps-same, IsAheadOf, keeps_insert_all}

-- a root that is no fragment is inserted
pub keeps_insert_root : (n parent : ℕ) (child : Option ℕ) (w : World) (q : Point) → is_fragment w n ≡ false → parent_of w.forest n ≡ None → IsAheadOf w parent child q → KeepsPoint (insert false n parent child) w q
keeps_insert_root n parent child w q g r h =
    keeps-same (insert false n parent child) (insert_all false parent child (n ∷ [])) w q (λ rs. insert-root n parent child (record w { ranges = rs }) g r) (keeps_insert_all false parent child (n ∷ []) w q h)

-- what a split leaves of the forest, where the Text has a parent
pub record IsParted (w : World) (n parent : ℕ) (f : Forest Content) : Type 0 where
  pub there : (m : ℕ) → 0 < occurs m w.forest → 0 < occurs m f
  pub text : is_of_kind Text f n ≡ true
  pub parent_text : parent_of f n ≡ Some parent
  pub parent_new : parent_of f w.made ≡ Some parent
  pub next : index_of f w.made ≡ index_of f n + 1

module _ (n parent offset : ℕ) (w : World) (s : IsSound w) (hn : 0 < occurs n w.forest) (text : is_of_kind Text w.forest n ≡ true) (e : parent_of w.forest n ≡ Some parent) (within : offset ≤ length (data_of w n)) where
  abbrev fresh : World
  fresh = made n parent offset w s hn text e within

  abbrev apart_world : World
  apart_world = split_off n offset w.made (parent_of w.forest n) fresh

  forest_of : apart_world.forest ≡ parted n parent offset w s hn text e within
  forest_of =
      ap (λ o. (split_off n offset w.made o fresh).forest) e
      ∙ ap (λ (v : World). v.forest) (split_off_is n parent offset w s hn text e within)
      ∙ forest_is n parent offset w s hn text e within

  alike : IsAlike apart_world.forest (split n offset w).forest
  alike = with_node-alike (with_data (spliced offset (cut_count (length (data_of apart_world n)) offset (length (tail_of w n offset))) [] (data_of apart_world n))) (λ x. refl) n apart_world.forest

  pub split_parts : IsParted w n parent (split n offset w).forest
  split_parts =
      record {
        there = λ m h. subst (λ x. 0 < x) (sym (occurs-alike alike m)) (subst (λ (g : Forest Content). 0 < occurs m g) (sym forest_of) (there-parted n parent offset w s hn text e within m (there-old n parent offset w s hn text e within m h)));
        text = kind-alike alike (is_kind Text) n ∙ ap (λ (g : Forest Content). is_of_kind Text g n) forest_of ∙ kind-parted n parent offset w s hn text e within (is_kind Text) n ∙ text-made n parent offset w s hn text e within (is_kind Text) ∙ text;
        parent_text = parent-alike alike n ∙ ap (λ (g : Forest Content). parent_of g n) forest_of ∙ par-parted n parent offset w s hn text e within;
        parent_new = parent-alike alike w.made ∙ ap (λ (g : Forest Content). parent_of g w.made) forest_of ∙ par-new n parent offset w s hn text e within;
        next =
            index-alike alike w.made ∙ ap (λ (g : Forest Content). index_of g w.made) forest_of
            ∙ index-after n parent offset w s hn text e within
            ∙ ap (λ k. k + 1) (sym (index-alike alike n ∙ ap (λ (g : Forest Content). index_of g n) forest_of));
      }

  -- The point of the split stays.

  abbrev point : Point
  point = record { node = n; offset = offset }

  not_parent : (n == parent) ≡ false
  not_parent =
      ne_eqb n parent (λ d. let j = rw (ap (children_of w.forest) (sym d) ∙ data-childless s.forest n (text_has_data w n text)) at (child-listed w.forest s.forest.once n parent hn e) in omega arith)

  keeps_making : KeepsPoint (made_node (node_document w n) (named Text []) (with_text (tail_of w n offset))) w point
  keeps_making =
      record {
        by = record { moves = λ q. q; acts = λ rs. ap (λ xs. record fresh { ranges = xs }) (sym (map_ranges-none rs)) };
        kept = refl;
      }

  ahead : (b : Option ℕ) → IsAheadOf fresh parent b point
  ahead None = tt
  ahead (Some c) = ap (λ v. v && nat_lt (index_of fresh.forest c) offset) not_parent

  keeps_insertion : KeepsPoint (insert false w.made parent (next_of fresh.forest n)) fresh point
  keeps_insertion =
      keeps_insert_root w.made parent (next_of fresh.forest n) fresh point (ap (entry_has (is_kind DocumentFragment)) (entry-new n parent offset w s hn text e within)) (root-new n parent offset w s hn text e within) (ahead (next_of fresh.forest n))

  abbrev divide : World → World
  divide v = record v { ranges = map_ranges (after_split n offset w.made parent (index_of v.forest n)) v.ranges }

  keeps_division : (v : World) → KeepsPoint divide v point
  keeps_division v =
      record {
        by = record { moves = after_split n offset w.made parent (index_of v.forest n); acts = λ rs. refl };
        kept = rw (le-ltb offset offset (omega arith), not_parent) (rw (and-false (n == n)) refl);
      }

  keeps_cut : (v : World) → KeepsPoint (replace_data n offset (length (tail_of w n offset)) []) v point
  keeps_cut v =
      record {
        by = record { moves = after_splice n offset (cut_count (length (data_of v n)) offset (length (tail_of w n offset))) 0; acts = λ rs. refl };
        kept = rw (le-ltb offset offset (omega arith), and-false (n == n)) refl;
      }

  pub keeps_split : KeepsPoint (split n offset) w point
  keeps_split =
      let making = made_node (node_document w n) (named Text []) (with_text (tail_of w n offset)) in
      let a = keeps-then making (insert false w.made parent (next_of fresh.forest n)) w point keeps_making keeps_insertion in
      let inserted = insert false w.made parent (next_of fresh.forest n) fresh in
      let b = keeps-then (λ v. insert false w.made parent (next_of fresh.forest n) (making v)) divide w point a (keeps_division inserted) in
      let c = keeps-then (λ v. divide (insert false w.made parent (next_of fresh.forest n) (making v))) (replace_data n offset (length (tail_of w n offset)) []) w point b (keeps_cut (divide inserted)) in
      keeps-same (split n offset) (λ v. replace_data n offset (length (tail_of w n offset)) [] (divide (insert false w.made parent (next_of fresh.forest n) (making v)))) w point
      (λ rs. ap (λ o. replace_data n offset (length (tail_of w n offset)) [] (split_off n offset w.made o (making (record w { ranges = rs })))) e) c
