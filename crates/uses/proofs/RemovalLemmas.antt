-- A live range with all the data of a paragraph's Text: that it is one, that the world stays whole, and where its ends stand once the Text is removed.
use Rattle.std.proofs.Common.{◌≡◌, ℕ, zero, suc, false, List, [], ◌∷◌, ◌++◌, length, Option, Some, refl, ap, sym, ◌∙◌, subst, arith, IfSome, Greater}
use Rattle.std.specs.Ordering.{nat_cmp}
use Rattle.std.proofs.lemmas.List.Elements.{All-nil, All-cons}
use Rattle.dom_model.specs.Definitions.{Forest, entry_in, Content, Range, IsRange, remove, length_of}
use Rattle.dom_model.specs.Worlds.World as model
use Rattle.dom_model.proofs.BoundaryPoints.PointOrder.{nat_cmp-same, nat_cmp-less, order-one_node}
use Rattle.dom_ranges.specs.Tables.{RangeTable, IsRangeIn, range_in}
use Rattle.dom_edit.specs.{declared.world.World.World, Whole.IsWhole, Whole.Keeps, Whole.Follows}
use Rattle.uses.specs.Paragraph.{paragraph}
use Rattle.uses.proofs.Paragraphs.{of_kept}

-- from the start of the Text to an offset
abbrev pub data_to : ℕ → Range
data_to n = record { start = record { node = 2; offset = 0 }; end = record { node = 2; offset = n } }

not_greater : (n : ℕ) → nat_cmp 0 n ≡ Greater → ⊥
not_greater zero e = let h = sym (nat_cmp-same 0) ∙ e in absurd (cc h)
not_greater (suc n) e = let h = sym (nat_cmp-less 0 (suc n) (omega arith)) ∙ e in absurd (cc h)

pub data-length : (v : World) (text : List ℕ) (n : ℕ) → Keeps v (paragraph text) → IfSome (entry_in v.tree.forest 2) (λ e. n ≡ length_of (λ (c : Content). length c.text) e) → n ≡ length text
data-length v text n k h = subst (λ (f : Forest Content). IfSome (entry_in f 2) (λ e. n ≡ length_of (λ (c : Content). length c.text) e)) (sym k.forest) h

pub data-range_in : (v : World) (text : List ℕ) (n : ℕ) → Keeps v (paragraph text) → n ≡ length text → IsRangeIn (λ (c : Content). length c.text) v.tree.forest (data_to n)
data-range_in v text n k len =
    of_kept (λ f. IsRangeIn (λ (c : Content). length c.text) f (data_to n)) v (paragraph text) k (record {
      starts = record { there = refl; kind = refl; within = omega arith };
      ends = record { there = refl; kind = refl; within = omega arith };
      one_root = refl;
      in_order = λ e. not_greater n (sym (order-one_node (paragraph text).forest 2 0 n) ∙ e);
    })

pub range-plain : (f : Forest Content) (r : Range) → IsRangeIn (λ (c : Content). length c.text) f r → IsRange f r
range-plain f r h = record {
  starts = record { there = h.starts.there; kind = h.starts.kind; within = h.starts.within };
  ends = record { there = h.ends.there; kind = h.ends.kind; within = h.ends.within };
  one_root = h.one_root;
  in_order = h.in_order;
}

module _ (v : World) (text : List ℕ) (n : ℕ) (t : RangeTable) (k : Keeps v (paragraph text)) (len : n ≡ length text)
    (made : t ≡ record v.ranges { ranges = v.ranges.ranges ++ Some (data_to n) ∷ [] }) where
  abbrev pub ranged : World
  ranged = record v { ranges = t }

  one_range : t.ranges ≡ Some (data_to n) ∷ []
  one_range = ap (λ t. t.ranges) made ∙ ap (λ rs. rs ++ Some (data_to n) ∷ []) (sym k.ranges)

  pub ranged-whole : IsWhole v → IsWhole ranged
  ranged-whole h = record {
    forest = h.forest;
    documents = h.documents;
    owners = h.owners;
    covered = rw (ap (λ t. t.covered) made) h.covered;
    ranges = rw one_range (All-cons (λ (r : Option Range). IfSome r (IsRange v.tree.forest)) (Some (data_to n)) [] (range-plain v.tree.forest (data_to n) (data-range_in v text n k len)) (All-nil (λ (r : Option Range). IfSome r (IsRange v.tree.forest))));
    statics = h.statics;
    iterators = h.iterators;
    walkers = h.walkers;
    observers = h.observers;
  }

  abbrev pub shown : model.World
  shown = record (paragraph text) { ranges = Some (data_to n) ∷ [] }

  pub ranged-keeps : Keeps ranged shown
  ranged-keeps = record {
    forest = k.forest;
    made = k.made;
    ranges = sym one_range;
    static_ranges = k.static_ranges;
    iterators = k.iterators;
    walkers = k.walkers;
  }

  pub removed-ends : (new : World) → Follows ranged new (remove false 2) → range_in new.ranges 0 ≡ Some (record { start = record { node = 1; offset = 0 }; end = record { node = 1; offset = 0 } })
  removed-ends new f = let r = (f.keeps shown ranged-keeps).ranges in ap (λ rs. range_in (record new.ranges { ranges = rs }) 0) (sym r)

-- the ends of a live range, where it is there
pub start-there : (o : Option Range) (r q : Range) → o ≡ Some r → o ≡ Some q → q.start ≡ r.start
start-there o r q e d = let h : Some q ≡ Some r = sym d ∙ e in let same : q ≡ r = cc in ap (λ (x : Range). x.start) same

pub end-there : (o : Option Range) (r q : Range) → o ≡ Some r → o ≡ Some q → q.end ≡ r.end
end-there o r q e d = let h : Some q ≡ Some r = sym d ∙ e in let same : q ≡ r = cc in ap (λ (x : Range). x.end) same
