-- The fragment's shape by parts of the tree: as many opens in front as the start's path has nodes, and as many closes behind as the end's.
use Rattle.std.proofs.Common.{◌≡◌, ℕ, ◌<◌, Bool, true, false, List, [], ◌∷◌, ◌++◌, length, None, refl, ap, sym, ◌∙◌, arith, append-nil, length-append, replicate}
use Rattle.std.proofs.lemmas.Bool.{false≢true}
use Rattle.dom_model.specs.Definitions.{hits, occurs, children_of, Range, World, IsRange, IsSound, common_of, contained_in, contained_children, Token, Open, Close, opens_left, closes_left, are_units, matched, fragment_shape}
use Rattle.dom_model.proofs.Forests.{Climbing.hits-first, Indices.child-there}
use Rattle.dom_model.proofs.RangesAndContents.{DrawnPaths.hits-filter, WaysBelow.IsFork}
use Rattle.dom_model.proofs.TokenText.{AlikeTrees.TreesAlike.top_of, Contents.MatchedPieces.Matches, Contents.PathTokens.nodes_tokens, Contents.PathTokens.tail_tokens, Contents.PathTokens.head_tokens, Contents.PathTokens.start_path, Contents.PathTokens.end_path, Contents.PathTokens.parts_tokens, Contents.WholePieces.tokens-own, Contents.PathShapes.closes_of, Contents.PathShapes.opens_of, Contents.PathShapes.childless, Contents.PathShapes.whole-listed, Contents.PathShapes.closes-tail, Contents.PathShapes.opens-tail, Contents.PathShapes.closes-head, Contents.PathShapes.opens-head, Fragments.NodesAside.forked}

-- Units alone leave nothing.

units-close : (depth : ℕ) (ts : List Token) → are_units ts ≡ true → closes_left depth ts ≡ []
units-close depth [] h = grind arith
units-close depth (t ∷ ts) h = grind (arith, units-close depth ts)

units-open : (ts : List Token) → are_units ts ≡ true → opens_left [] ts ≡ []
units-open [] h = refl
units-open (t ∷ ts) h = grind (arith, units-open ts)

-- where there are no units alone, all pairs are matched
mixed-shape : (ts : List Token) → are_units ts ≡ false → fragment_shape ts ≡ Open 0 ∷ (matched ts ++ (Close ∷ []))
mixed-shape ts h = rw h refl

pub closes-long : (path : List ℕ) → length (closes_of path) ≡ length path
closes-long [] = refl
closes-long (n ∷ path) = length-append (closes_of path) (Close ∷ []) ∙ (let i = closes-long path in omega arith)

pub opens-long : (path : List ℕ) → length (opens_of path) ≡ length path
opens-long [] = refl
opens-long (n ∷ path) = let i = opens-long path in omega arith

module _ (w : World) (sound : IsSound w) (range : Range) (is : IsRange w.forest range) where
  abbrev middle_part : List Token
  middle_part = nodes_tokens w.forest (contained_children w range)

  abbrev head_part : List Token
  head_part = head_tokens w range.end.offset (end_path w range)

  fork_is : IsFork w.forest sound.forest.once range.start.node range.end.node (common_of w range)
  fork_is = forked w sound range is

  pub contained_there : (c : ℕ) → 0 < hits c (contained_children w range) → 0 < occurs c w.forest
  contained_there c h =
      let i = hits-filter c (contained_in w range) (children_of w.forest (common_of w range)) in
      child-there w.forest sound.forest.once c (common_of w range) (omega arith)

  middle_matches : Matches middle_part
  middle_matches = (whole-listed w sound (contained_children w range) contained_there).matches

  pub closes-parts : closes_left 0 (parts_tokens w range) ≡ closes_of (start_path w range)
  closes-parts =
      closes-tail w sound range.start.offset (common_of w range) (start_path w range) range.start.node fork_is.first (middle_part ++ head_part)
      ∙ ap (λ ts. closes_of (start_path w range) ++ ts) (middle_matches.closes 0 head_part ∙ closes-head w sound range.end.offset (common_of w range) (end_path w range) range.end.node 0 fork_is.second)
      ∙ append-nil (closes_of (start_path w range))

  pub opens-parts : opens_left [] (parts_tokens w range) ≡ opens_of (end_path w range)
  opens-parts =
      opens-tail w sound range.start.offset (common_of w range) (start_path w range) range.start.node fork_is.first (middle_part ++ head_part)
      ∙ middle_matches.opens [] head_part
      ∙ opens-head w sound range.end.offset (common_of w range) (end_path w range) range.end.node [] fork_is.second

  matched-parts : matched (parts_tokens w range) ≡ replicate (length (start_path w range)) (Open 0) ++ (parts_tokens w range ++ replicate (length (end_path w range)) Close)
  matched-parts =
      ap (λ (ts : List Token). replicate (length ts) (Open 0) ++ (parts_tokens w range ++ replicate (length (opens_left [] (parts_tokens w range))) Close)) closes-parts
      ∙ ap (λ k. replicate k (Open 0) ++ (parts_tokens w range ++ replicate (length (opens_left [] (parts_tokens w range))) Close)) (closes-long (start_path w range))
      ∙ ap (λ (ts : List Token). replicate (length (start_path w range)) (Open 0) ++ (parts_tokens w range ++ replicate (length ts) Close)) opens-parts
      ∙ ap (λ k. replicate (length (start_path w range)) (Open 0) ++ (parts_tokens w range ++ replicate k Close)) (opens-long (end_path w range))

  -- Parts that are units alone are none.

  nodes-mixed : (ns : List ℕ) → ((c : ℕ) → 0 < hits c ns → 0 < occurs c w.forest) → are_units (nodes_tokens w.forest ns ++ []) ≡ true → nodes_tokens w.forest ns ≡ []
  nodes-mixed [] there h = refl
  nodes-mixed (n ∷ ns) there h =
      let t = top_of None n w.forest sound.forest.once (there n (hits-first n ns)) in
      let e = tokens-own w.forest sound.forest.once (childless w sound) n t in
      absurd (false≢true (sym (ap (λ ts. are_units ((ts ++ nodes_tokens w.forest ns) ++ [])) e) ∙ h))

  no_path : (path : List ℕ) (ts : List Token) → ts ≡ [] → length ts ≡ length path → path ≡ []
  no_path [] ts e l = refl
  no_path (n ∷ path) ts e l = absurd (let i = rw e at l in omega arith)

  -- the path to the start then has no node
  pub start_path-none : are_units (parts_tokens w range) ≡ true → start_path w range ≡ []
  start_path-none h = no_path (start_path w range) (closes_of (start_path w range)) (sym closes-parts ∙ units-close 0 (parts_tokens w range) h) (closes-long (start_path w range))

  pub parts-none : are_units (parts_tokens w range) ≡ true → parts_tokens w range ≡ []
  parts-none h =
      let a = no_path (start_path w range) (closes_of (start_path w range)) (sym closes-parts ∙ units-close 0 (parts_tokens w range) h) (closes-long (start_path w range)) in
      let b = no_path (end_path w range) (opens_of (end_path w range)) (sym opens-parts ∙ units-open (parts_tokens w range) h) (opens-long (end_path w range)) in
      let e : parts_tokens w range ≡ middle_part ++ [] =
      ap (λ ns. tail_tokens w range.start.offset ns ++ (middle_part ++ head_part)) a ∙ ap (λ ns. middle_part ++ head_tokens w range.end.offset ns) b in
      e ∙ append-nil middle_part ∙ nodes-mixed (contained_children w range) contained_there (ap are_units (sym e) ∙ h)

  pub parts-shape : fragment_shape (parts_tokens w range) ≡ Open 0 ∷ ((replicate (length (start_path w range)) (Open 0) ++ (parts_tokens w range ++ replicate (length (end_path w range)) Close)) ++ (Close ∷ []))
  parts-shape = go (are_units (parts_tokens w range)) refl ∙ ap (λ ts. Open 0 ∷ (ts ++ (Close ∷ []))) matched-parts
    where
      go : (v : Bool) → are_units (parts_tokens w range) ≡ v → fragment_shape (parts_tokens w range) ≡ Open 0 ∷ (matched (parts_tokens w range) ++ (Close ∷ []))
      go true e = ap fragment_shape (parts-none e) ∙ sym (ap (λ ts. Open 0 ∷ (matched ts ++ (Close ∷ []))) (parts-none e))
      go false e = mixed-shape (parts_tokens w range) e
