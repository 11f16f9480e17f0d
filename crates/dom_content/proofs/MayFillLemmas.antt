-- The parts of a range may go into the fragment that was just made. DOM Standard, "Interface Range" (extract, clone the contents).
use Rattle.std.proofs.Common.{◌≡◌, ℕ, ◌+◌, ◌<◌, ◌≤◌, ◌==◌, true, List, [], ◌∷◌, ◌++◌, length, Some, None, IsSome, refl, ap, sym, ◌∙◌, subst, arith, ⊎_elim}
use Rattle.std.proofs.lemmas.Bool.{cases_lt, and_parts}
use Rattle.dom_model.specs.declared.Kind.TheVariants.{DocumentType}
use Rattle.dom_model.specs.Definitions.{hits, is_kind, is_character_data, may_be_parent, Forest, occurs, parent_of, children_of, ancestors, entry_in, IsWay, unit_count, Content, Range, IsRange, IsSound, kind_passes, document_in, node_document, content_in, data_of, is_contained, common_ancestor, new_fragment, path_below, common_of, check_draw, doing_fragment}
use Rattle.dom_model.specs.Worlds.World as model
use Rattle.dom_model.proofs.PlainLists.Numbers.{same_or, same, apart}
use Rattle.dom_model.proofs.Forests.{Entries.occurs-HasNode, Indices.child-parent, Indices.parent-there}
use Rattle.dom_model.proofs.MutationAlgorithms.Extending.{extends-beside}
use Rattle.dom_model.proofs.MutationAlgorithms.Extending as extending
use Rattle.dom_model.proofs.Soundness.SoundWorlds.{child_there}
use Rattle.dom_model.proofs.RangesAndContents.{Drawing.Draws, DrawnPaths.ArePath, DrawnPaths.IsWithin, DrawnPaths.hits-filter, PathsToEnds.common-above, PathsToEnds.path-down, PathsToEnds.path-within, WaysBelow.IsFork, WaysBelow.fork}
use Rattle.dom_model.proofs.TokenText.EditsMade.EditsOfDrawnContents as drawn
use Rattle.dom_edit.specs.{declared.world.World.World, Whole.IsWhole, Whole.Keeps, Whole.Follows, Whole.unwatched}
use Rattle.dom_edit.proofs.FollowsLemmas.{keeps-unwatched}
use Rattle.dom_data.proofs.IsWholeLemmas.{sound-unwatched}
use Rattle.dom_content.specs.{Paths.Stays, DrawConditions.AreOld, DrawConditions.MayDraw, DrawConditions.IsPathTo, DrawnParts.AreParts, DrawnParts.in_one_data}
use Rattle.dom_content.proofs.{StaysLemmas.ends-old, MayDrawLemmas.old-of, MayDrawLemmas.both-old, MayDrawLemmas.olds-of, MayDrawLemmas.way-of, MayDrawLemmas.front-of, DrawnContents.path-same, DrawnContents.root-same}

-- what may go in, and where the two ways end
pub record MayFill (x : World) (into : ℕ) (r : Range) (first contained last : List ℕ) : Type 0 where
  pub may : MayDraw x into (first ++ (contained ++ last))
  pub first_way : IsPathTo x.tree.forest r.start.offset first
  pub last_way : IsPathTo x.tree.forest 0 last
  pub within : in_one_data x.tree.forest r ≡ true → r.start.offset ≤ length (data_of (unwatched x) r.start.node)

module _ (v : World) (h : IsWhole v) (r : Range) (is : IsRange v.tree.forest r) (allowed : check_draw (unwatched v) r ≡ None) where
  abbrev w : model.World
  w = unwatched v

  s : IsSound w
  s = sound-unwatched v h

  abbrev low : ℕ
  low = v.tree.made

  abbrev grown : model.World
  grown = new_fragment (node_document w r.start.node) w

  begun : Draws low (doing_fragment (node_document w r.start.node)) w grown
  begun = drawn.first w s r is

  hs : 0 < occurs r.start.node v.tree.forest
  hs = occurs-HasNode v.tree.forest r.start.node is.starts.there

  he : 0 < occurs r.end.node v.tree.forest
  he = occurs-HasNode v.tree.forest r.end.node is.ends.there

  -- only what was there has a parent
  old : (c q : ℕ) → parent_of grown.forest c ≡ Some q → c < low
  old c q e = ⊎_elim (λ (lt : c < low). lt) (λ (le : low ≤ c). absurd (further le)) (cases_lt c low)
    where
      further : low ≤ c → ⊥
      further le =
          let a = begun.drawing.rising c q le e in
          let there = child_there grown.forest c q e in
          ⊎_elim
          (λ (lt : c < low + 1). let x = a.0 in let y = a.1 in omega arith)
          (λ (ge : low + 1 ≤ c). let z = begun.drawing.sound.forest.small c ge in omega arith)
          (cases_lt c (low + 1))

  above : (0 < hits (common_of grown r) (ancestors r.start.node grown.forest)) × (0 < hits (common_of grown r) (ancestors r.end.node grown.forest))
  above = common-above grown.forest r.start.node r.end.node (begun.extends.there r.start.node hs) (root-same v h r is)

  start_path : ArePath low grown (path_below grown.forest (common_of grown r) r.start.node)
  start_path = path-down low grown begun.drawing.sound old (common_of grown r) r.start.node (begun.extends.there r.start.node hs) (begun.extends.kinds (is_kind DocumentType) r.start.node hs ∙ is.starts.kind) above.0

  end_path : ArePath low grown (path_below grown.forest (common_of grown r) r.end.node)
  end_path = path-down low grown begun.drawing.sound old (common_of grown r) r.end.node (begun.extends.there r.end.node he) (begun.extends.kinds (is_kind DocumentType) r.end.node he ∙ is.ends.kind) above.1

  start_within : IsWithin r.start.offset grown (path_below grown.forest (common_of grown r) r.start.node)
  start_within = path-within grown (common_of grown r) r.start.node r.start.offset (begun.extends.there r.start.node hs) (drawn.start_within w s r is)

  module _ (first contained last : List ℕ) (are : AreParts v.tree.forest r first contained last) where
    first_path : ArePath low grown first
    first_path = subst (ArePath low grown) (path-same v h r is r.start.node hs ∙ sym are.first) start_path

    first_within : IsWithin r.start.offset grown first
    first_within = subst (IsWithin r.start.offset grown) (path-same v h r is r.start.node hs ∙ sym are.first) start_within

    last_path : ArePath low grown last
    last_path = subst (ArePath low grown) (path-same v h r is r.end.node he ∙ sym are.last) end_path

    -- each of them stands under a parent
    under-grown : (c q : ℕ) → parent_of v.tree.forest c ≡ Some q → IsSome (parent_of grown.forest c)
    under-grown c q e =
        let x : extending.Extends v.tree.forest grown.forest [] = extends-beside v.tree.forest _ in
        rw (x.parents c (parent-there v.tree.forest c q e) refl ∙ e) refl

    on-way : (top n : ℕ) (path : List ℕ) → IsWay v.tree.forest top path n → (c : ℕ) → 0 < hits c path → IsSome (parent_of grown.forest c)
    on-way top n [] way c k = absurd (omega arith)
    on-way top n (m ∷ path) way c k =
        elim (same_or m c) [
          | same e t ↦ subst (λ x. IsSome (parent_of grown.forest x)) e (under-grown m top way.1)
          | apart ne t ↦ (let j = rw t at k in on-way m n path way.2 c (omega arith))
        ]

    ways : IsFork v.tree.forest h.forest.once r.start.node r.end.node (common_ancestor v.tree.forest r.start.node r.end.node)
    ways = fork v.tree.forest h.forest.once r.start.node r.end.node hs he is.one_root

    contained_under : (c : ℕ) → 0 < hits c contained → IsSome (parent_of grown.forest c)
    contained_under c k =
        let top = common_ancestor v.tree.forest r.start.node r.end.node in
        let i = subst (λ ns. 0 < hits c ns) are.contained k in
        let j = hits-filter c (is_contained unit_count v.tree.forest r) (children_of v.tree.forest top) in
        under-grown c top (child-parent v.tree.forest h.forest.once c top (omega arith))

    contained_old : AreOld low grown.forest contained
    contained_old c k = old-of low grown c (drawn.contained_drawable w s r is allowed c (subst (λ ns. 0 < hits c ns) (are.contained ∙ sym (drawn.contained_children-same w s r is)) k)) (contained_under c k)

    first_old : AreOld low grown.forest first
    first_old = olds-of low grown first first_path (on-way (common_ancestor v.tree.forest r.start.node r.end.node) r.start.node first (subst (λ path. IsWay v.tree.forest (common_ancestor v.tree.forest r.start.node r.end.node) path r.start.node) (sym are.first) ways.first))

    last_old : AreOld low grown.forest last
    last_old = olds-of low grown last last_path (on-way (common_ancestor v.tree.forest r.start.node r.end.node) r.end.node last (subst (λ path. IsWay v.tree.forest (common_ancestor v.tree.forest r.start.node r.end.node) path r.end.node) (sym are.last) ways.second))

    all_old : AreOld low grown.forest (first ++ (contained ++ last))
    all_old = both-old low grown.forest first (contained ++ last) first_old (both-old low grown.forest contained last contained_old last_old)

    pub may-fill : (x : World) (d into : ℕ) → d ≡ document_in (entry_in v.tree.forest r.start.node) → into ≡ v.tree.made → Follows v x (new_fragment d) → Stays v x → MayFill x into r first contained last
    may-fill x d into ed ei f st =
        let k : Keeps x grown = subst (λ (m : ℕ). Keeps x (new_fragment m w)) ed (f.keeps w (keeps-unwatched v)) in
        let holds = drawn.holds w s r is in
        record {
          may = record {
            low = low;
            rising = record {
              begun = (let m = k.made in let l = begun.drawing.begun in omega (arith, m, l));
              rising = λ n q l e. begun.drawing.rising n q l (ap (λ (g : Forest Content). parent_of g n) k.forest ∙ e);
              ends = st.ends low (ends-old v h);
            };
            holder = record {
              fresh = (omega (arith, ei));
              kind = ap (λ (m : ℕ). kind_passes may_be_parent x.tree.forest m) ei ∙ ap (λ (g : Forest Content). kind_passes may_be_parent g low) (sym k.forest) ∙ holds.kind;
            };
            nodes = subst (λ (g : Forest Content). AreOld low g (first ++ (contained ++ last))) k.forest all_old;
          };
          first_way = subst (λ (g : Forest Content). IsPathTo g r.start.offset first) k.forest (way-of low r.start.offset grown first first_path first_within);
          last_way = subst (λ (g : Forest Content). IsPathTo g 0 last) k.forest (front-of low grown last last_path);
          within = λ e.
              let b = (and_parts (r.start.node == r.end.node) (kind_passes is_character_data x.tree.forest r.start.node) e).1 in
              subst (λ (g : Forest Content). r.start.offset ≤ length (content_in (entry_in g r.start.node)).text) k.forest
              (drawn.start_within w s r is (ap (λ (g : Forest Content). kind_passes is_character_data g r.start.node) k.forest ∙ b));
        }
