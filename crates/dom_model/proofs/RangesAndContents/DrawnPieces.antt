-- Pieces of contents as they go into a fragment: some units of a node, a child, a copy that is filled, and what stands beside a path.
-- DOM Standard, "Interface Range": extract, clone the contents.
use Rattle.std.proofs.Common.{◌≡◌, ℕ, ◌<◌, ◌≤◌, ◌==◌, Bool, true, false, if◌then◌else◌, List, [], ◌∷◌, length, Option, Some, None, refl, ap, sym, ◌∙◌, subst, arith, ◌⊎◌, inl, inr}
use Rattle.std.proofs.lemmas.Bool.{false≢true}
use Rattle.dom_model.specs.Definitions.{hits, is_kind, is_character_data, may_be_parent, Entry, Node, Forest, empty, node, occurs, map_nodes, entry_in, KindsFit, Content, World, no_content, substring, spliced, kind_passes, is_fragment, node_document, append, named, data_of, with_data, cut_count, replace_data, original, document_of_clone, clone_node, new_fragment, clone_with, cut_if, units_into, child_into, children_into, making, copies_edits, clone_edits, replace_data_edits, doing_append, doing_replace_data, doing_clone, doing_clone_with, doing_fragment, doing_cut_if, doing_units, doing_child, doing_children}
use Rattle.dom_model.specs.declared.{Kind.Kind, Kind.TheVariants.Element, Kind.TheVariants.Text, Kind.TheVariants.ProcessingInstruction, Kind.TheVariants.Comment, Kind.TheVariants.Document, Kind.TheVariants.DocumentType, Kind.TheVariants.DocumentFragment}
use Rattle.dom_model.proofs.PlainLists.Numbers.{same_or, same, apart}
use Rattle.dom_model.proofs.Forests.Changes.{change_at}
use Rattle.dom_model.proofs.Worlds.{Measured.entry-with_node, SameShape.IsAlike, SameShape.occurs-alike, SameShape.parent-alike, SameShape.kind-alike, SameShape.map-alike, SameShape.with_node-alike, SameShape.fits-alike}
use Rattle.dom_model.proofs.MutationAlgorithms.Extending.{tag_in}
use Rattle.dom_model.proofs.Soundness.{SoundMaking.sound-made_node, SoundMaking.sound-copies, SoundMaking.sound-clone_node, SoundMaking.fits-original, SoundData.sound-replace_data, SoundForests.passes-also}
use Rattle.dom_model.proofs.RangesAndContents.{LiveRangesKept.replace_data-live, Drawing.IsDrawing, Drawing.Extends, Drawing.extends-then, Drawing.Draws, Drawing.draws-none, Drawing.draws-then, Drawing.draws-as, Drawing.passes_there, Drawing.extends-copies, Drawing.data-copies, Drawing.drawing-copies, Drawing.IsHolder, Drawing.holder-extends, Drawing.IsComing, Drawing.data-append, Drawing.draws-append}
use Rattle.dom_model.proofs.DataAndCopies.CopiesPlaced.{kind-clone, kind-copy}
use Rattle.dom_model.proofs.TokenText.{EditsMade.EditsLeave.follows-doing, EditsMade.EditsOfSteps.leave-making, EditsMade.EditsOfSteps.leave-copies, EditsMade.EditsOfSteps.leave-replace_data}

module _ (low : ℕ) (v : World) (d : IsDrawing low v) where
  -- Data.

  draws-cut : (n offset count : ℕ) → kind_passes is_character_data v.forest n ≡ true → offset ≤ length (data_of v n) → Draws low (doing_replace_data n offset count []) v (replace_data n offset count [] v)
  draws-cut n offset count k within =
      let a : IsAlike v.forest (replace_data n offset count [] v).forest = with_node-alike (with_data (spliced offset (cut_count (length (data_of v n)) offset count) [] (data_of v n))) (λ x. refl) n v.forest in
      record {
        follows = follows-doing v (replace_data n offset count []) (replace_data_edits n offset count []) (leave-replace_data n offset count [] v d.sound k within);
        drawing = record {
          sound = sound-replace_data n offset count [] v d.sound k within;
          begun = d.begun;
          rising = λ m q l e. d.rising m q l (sym (parent-alike a m) ∙ e);
        };
        extends = record {
          there = λ m h. subst (λ x. 0 < x) (sym (occurs-alike a m)) h;
          kinds = λ test m h. kind-alike a test m;
          tags = λ m h. ap tag_in (entry-with_node (with_data (spliced offset (cut_count (length (data_of v n)) offset count) [] (data_of v n))) (λ x. refl) n m None v.forest) ∙ tag-cut m (entry_in v.forest m);
          live = λ r. replace_data-live r n offset count [] v;
          made = omega arith;
        };
      }
    where
      tag-cut : (m : ℕ) (e : Option (Entry (Node Content))) → tag_in (change_at (with_data (spliced offset (cut_count (length (data_of v n)) offset count) [] (data_of v n))) n m e) ≡ tag_in e
      tag-cut m None = refl
      tag-cut m (Some e) = go (m == n)
        where
          go : (b : Bool) → tag_in (Some (record { value = if b then with_data (spliced offset (cut_count (length (data_of v n)) offset count) [] (data_of v n)) e.value else e.value; parent = e.parent; children = e.children })) ≡ tag_in (Some e)
          go true = refl
          go false = refl

  pub draws-cut_if : (moves : Bool) (n offset count : ℕ) → kind_passes is_character_data v.forest n ≡ true → offset ≤ length (data_of v n) → Draws low (doing_cut_if moves n offset count) v (cut_if moves n offset count v)
  draws-cut_if false n offset count k within = draws-none low v d
  draws-cut_if true n offset count k within = draws-cut n offset count k within

  -- New nodes and copies.

  pub draws-fragment : (document : ℕ) → Draws low (doing_fragment document) v (new_fragment document v)
  draws-fragment document =
      let x : Node Content = record { number = 0; document = document; label = named DocumentFragment []; body = no_content } in
      record {
        follows = follows-doing v (new_fragment document) (making document (named DocumentFragment []) no_content) (leave-making document (named DocumentFragment []) no_content v d.sound);
        drawing = drawing-copies low v d document (node x empty empty) (sound-made_node document (named DocumentFragment []) no_content v d.sound);
        extends = extends-copies low v d document (node x empty empty);
      }

  pub draws-clone : (deep : Bool) (n : ℕ) → Draws low (doing_clone deep n) v (clone_node deep n v)
  draws-clone deep n =
      record {
        follows = follows-doing v (clone_node deep n) (clone_edits deep n) (leave-copies (document_of_clone v n) (original deep n v.forest) v d.sound (fits-original deep n v.forest d.sound.forest.kinds));
        drawing = drawing-copies low v d (document_of_clone v n) (original deep n v.forest) (sound-clone_node deep n v d.sound);
        extends = extends-copies low v d (document_of_clone v n) (original deep n v.forest);
      }

  abbrev cut_copy : List ℕ → ℕ → Forest Content
  cut_copy units n = map_nodes (with_data units) (original false n v.forest)

  pub draws-clone_with : (units : List ℕ) (n : ℕ) → Draws low (doing_clone_with units n) v (clone_with units n v)
  draws-clone_with units n =
      let fits : KindsFit None (cut_copy units n) = fits-alike (map-alike (with_data units) (λ x. refl) (original false n v.forest)) (fits-original false n v.forest d.sound.forest.kinds) in
      record {
        follows = follows-doing v (clone_with units n) (λ w. copies_edits (node_document w n) (map_nodes (with_data units) (original false n w.forest)) w) (leave-copies (node_document v n) (cut_copy units n) v d.sound fits);
        drawing = drawing-copies low v d (node_document v n) (cut_copy units n) (sound-copies (node_document v n) (cut_copy units n) v d.sound fits);
        extends = extends-copies low v d (node_document v n) (cut_copy units n);
      }

  -- a new node's number is greater than that of what is there
  pub new-greater : (into : ℕ) → 0 < occurs into v.forest → into < v.made
  new-greater into h = let no : v.made ≤ into → ⊥ = λ le. let z = d.sound.forest.small into le in omega arith in omega arith

-- Kinds that may be drawn from where they stand under a node: no Document, doctype or fragment.

abbrev pub is_drawn : Kind → Bool
is_drawn Element = true
is_drawn Text = true
is_drawn ProcessingInstruction = true
is_drawn Comment = true
is_drawn Document = false
is_drawn DocumentType = false
is_drawn DocumentFragment = false

drawn-document : (k : Kind) → is_drawn k ≡ true → is_kind Document k ≡ false
drawn-document Document h = absurd (false≢true h)
drawn-document k h = refl

drawn-doctype : (k : Kind) → is_drawn k ≡ true → is_kind DocumentType k ≡ false
drawn-doctype DocumentType h = absurd (false≢true h)
drawn-doctype k h = refl

pub drawn-fragment : (k : Kind) → is_drawn k ≡ true → is_kind DocumentFragment k ≡ false
drawn-fragment DocumentFragment h = absurd (false≢true h)
drawn-fragment k h = refl

pub data-drawn : (k : Kind) → is_character_data k ≡ true → is_drawn k ≡ true
data-drawn Element h = refl
data-drawn k h = h

-- an old node of such a kind
pub record IsDrawable (low : ℕ) (v : World) (n : ℕ) : Type 0 where
  pub old : n < low
  pub kind : kind_passes is_drawn v.forest n ≡ true

pub drawable-extends : (low : ℕ) (v u : World) (n : ℕ) → Extends v u → IsDrawable low v n → IsDrawable low u n
drawable-extends low v u n x h = record { old = h.old; kind = x.kinds is_drawn n (passes_there is_drawn v.forest n h.kind) ∙ h.kind }

module _ (low : ℕ) (v : World) (into n : ℕ) (kind : kind_passes is_drawn v.forest n ≡ true) where
  pub coming : ((n < low) × (is_fragment v n ≡ false)) ⊎ (into < n) → IsComing low v into n
  coming place =
      record {
        there = passes_there is_drawn v.forest n kind;
        no_document = passes-also is_drawn (is_kind Document) false drawn-document v.forest n kind;
        no_doctype = passes-also is_drawn (is_kind DocumentType) false drawn-doctype v.forest n kind;
        place = place;
      }

  old-coming : n < low → IsComing low v into n
  old-coming h = coming (inl (h, passes-also is_drawn (is_kind DocumentFragment) false drawn-fragment v.forest n kind))

-- Some units go into a fragment, and a child, and children.

module _ (low : ℕ) (moves : Bool) (into : ℕ) where
  pub draws-units : (n offset count : ℕ) (v : World) → IsDrawing low v → IsHolder low v into → kind_passes is_character_data v.forest n ≡ true → offset ≤ length (data_of v n) → Draws low (doing_units moves into n offset count) v (units_into moves into n offset count v)
  draws-units n offset count v d k has_data within =
      let units = substring offset count (data_of v n) in
      let first = clone_with units n v in
      let a = draws-clone_with low v d units n in
      let hn = passes_there is_character_data v.forest n has_data in
      let copied : kind_passes is_drawn first.forest v.made ≡ true =
      kind-copy is_drawn (node_document v n) v.made false (with_data units) (λ x. refl) n v.forest d.sound.forest.once (d.sound.forest.small v.made (omega arith)) hn
      ∙ passes-also is_character_data is_drawn true data-drawn v.forest n has_data in
      let ki = holder-extends low v first into a.extends k in
      let ci = coming low first into v.made copied (inr (new-greater low v d into (passes_there may_be_parent v.forest into k.kind))) in
      let b = draws-append low first a.drawing into v.made ki ci in
      let second = append v.made into first in
      let same_data : data_of second n ≡ data_of v n =
      data-append low first a.drawing into v.made ki ci n (a.extends.there n hn) ∙ data-copies low v d (node_document v n) (map_nodes (with_data units) (original false n v.forest)) n hn in
      let c = draws-cut_if low second b.drawing moves n offset count ((extends-then v first second a.extends b.extends).kinds is_character_data n hn ∙ has_data) (subst (λ (xs : List ℕ). offset ≤ length xs) (sym same_data) within) in
      draws-as low v (cut_if moves n offset count second) (λ t. doing_cut_if moves n offset count (doing_append v.made into (doing_clone_with units n t))) (doing_units moves into n offset count) (λ es. refl)
      (draws-then low v second (cut_if moves n offset count second) (λ t. doing_append v.made into (doing_clone_with units n t)) (doing_cut_if moves n offset count)
      (draws-then low v first second (doing_clone_with units n) (doing_append v.made into) a b) c)

  draws-child : (n : ℕ) (v : World) (by : Bool) → IsDrawing low v → IsHolder low v into → IsDrawable low v n → Draws low (doing_child by into n) v (child_into by into n v)
  draws-child n v true d k h = draws-append low v d into n k (old-coming low v into n h.kind h.old)
  draws-child n v false d k h =
      let first = clone_node true n v in
      let a = draws-clone low v d true n in
      let copied : kind_passes is_drawn first.forest v.made ≡ true =
      kind-clone is_drawn (document_of_clone v n) v.made true n v.forest d.sound.forest.once (d.sound.forest.small v.made (omega arith)) (passes_there is_drawn v.forest n h.kind) ∙ h.kind in
      let b = draws-append low first a.drawing into v.made (holder-extends low v first into a.extends k) (coming low first into v.made copied (inr (new-greater low v d into (passes_there may_be_parent v.forest into k.kind)))) in
      draws-as low v (append v.made into first) (λ t. doing_append v.made into (doing_clone true n t)) (doing_child false into n) (λ es. refl)
      (draws-then low v first (append v.made into first) (doing_clone true n) (doing_append v.made into) a b)

  pub draws-children : (ns : List ℕ) (v : World) → IsDrawing low v → IsHolder low v into → ((c : ℕ) → 0 < hits c ns → IsDrawable low v c) → Draws low (doing_children moves into ns) v (children_into moves into ns v)
  draws-children [] v d k each = draws-none low v d
  draws-children (n ∷ ns) v d k each =
      let u = child_into moves into n v in
      let a = draws-child n v moves d k (each n (elim (same_or n n) [ same e t ↦ rw t (omega arith) | apart ne t ↦ absurd (ne refl) ])) in
      let b = draws-children ns u a.drawing (holder-extends low v u into a.extends k) (λ c h. drawable-extends low v u c a.extends (each c (omega arith))) in
      draws-then low v u (children_into moves into ns u) (doing_child moves into n) (doing_children moves into ns) a b
