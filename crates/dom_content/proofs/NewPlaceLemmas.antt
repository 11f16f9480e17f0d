-- Where both ends of a live range stand once its contents are gone. DOM Standard, "Interface Range".
use Rattle.std.proofs.Common.{◌≡◌, ℕ, ◌+◌, ◌<◌, ◌==◌, Bool, true, false, List, [], ◌∷◌, ◌++◌, filter, find, length, Some, unwrap_or, option_and_then, option_map, refl, ap, sym, ◌∙◌, arith, length-append}
use Rattle.std.proofs.lemmas.Bool.{false≢true}
use Rattle.dom_model.specs.Definitions.{hits, among, head_of, Grove, IsForest, occurs, parent_of, index_of, ancestors, Content, Range, IsRange, if_given, point_after, common_ancestor, new_place}
use Rattle.dom_model.proofs.PlainLists.{Numbers.same_or, Numbers.same, Numbers.apart, Members.hits-last_of}
use Rattle.dom_model.proofs.Forests.{Chains.way, Climbing.among-hits, Climbing.hits-among, Entries.occurs-HasNode, Indices.parent-there, Paths.parent-path}
use Rattle.dom_model.proofs.BoundaryPoints.RemovalOrder.{ancestors-split}
use Rattle.dom_model.proofs.RangesAndContents.NewPlaces.{IsMeeting, meeting}

-- lists that part at one place part with the same number
parted : (xs ys rest : List ℕ) (a b : ℕ) → length xs ≡ length ys → xs ++ a ∷ rest ≡ ys ++ b ∷ rest → a ≡ b
parted [] [] rest a b l e = cc e
parted [] (y ∷ ys) rest a b l e = absurd (omega arith)
parted (x ∷ xs) [] rest a b l e = absurd (omega arith)
parted (x ∷ xs) (y ∷ ys) rest a b l e = let t : xs ++ a ∷ rest ≡ ys ++ b ∷ rest = cc e in parted xs ys rest a b (omega arith) t

head-passes : (p : ℕ → Bool) (ns : List ℕ) (c : ℕ) → head_of (filter p ns) ≡ Some c → p c ≡ true
head-passes p [] c e = absurd (cc e)
head-passes p (n ∷ ns) c e = go (p n) refl (λ k. head-passes p ns c k)
  where
    go : (v : Bool) → p n ≡ v → (head_of (filter p ns) ≡ Some c → p c ≡ true) → p c ≡ true
    go true t more = let k = rw t at e in let d : n ≡ c = cc k in ap p (sym d) ∙ t
    go false t more = let k = rw t at e in more k

module _ {X : Type 0} (g : Grove X) (s : IsForest g) (top node : ℕ) where
  -- one child of a node is on the way up from another
  one-way : (a b c : ℕ) → 0 < occurs node g.forest → 0 < hits a (ancestors node g.forest) → 0 < hits b (ancestors node g.forest) → parent_of g.forest a ≡ Some c → parent_of g.forest b ≡ Some c → a ≡ b
  one-way a b c h i j ea eb =
      let x = ancestors-split g.forest s.once a node h i in
      let y = ancestors-split g.forest s.once b node h j in
      let pa = parent-path g.forest s.once a c (parent-there g.forest a c ea) ea in
      let pb = parent-path g.forest s.once b c (parent-there g.forest b c eb) eb in
      let first : ancestors node g.forest ≡ x.0 ++ a ∷ ancestors c g.forest = x.1 ∙ ap (λ ns. x.0 ++ ns) pa.1 in
      let second : ancestors node g.forest ≡ y.0 ++ b ∷ ancestors c g.forest = y.1 ∙ ap (λ ns. y.0 ++ ns) pb.1 in
      let both : x.0 ++ a ∷ ancestors c g.forest ≡ y.0 ++ b ∷ ancestors c g.forest = sym first ∙ second in
      let l = length-append x.0 (a ∷ ancestors c g.forest) in
      let m = length-append y.0 (b ∷ ancestors c g.forest) in
      let n = ap (λ ns. length ns) both in
      parted x.0 y.0 (ancestors c g.forest) a b (omega arith) both

module _ (g : Grove Content) (s : IsForest g) (r : Range) (is : IsRange g.forest r) where
  module _ (out : among r.start.node (ancestors r.end.node g.forest) ≡ false) where
    abbrev other : List ℕ
    other = ancestors r.end.node g.forest

    hs : 0 < occurs r.start.node g.forest
    hs = occurs-HasNode g.forest r.start.node is.starts.there

    met : IsMeeting g.forest s.once other r.start.node
    met =
        let top = way g.forest s.once r.start.node hs in
        meeting g.forest s.once other top.0 r.start.node hs top.1 (hits-among top.0 other (hits-last_of other top.0 (sym is.one_root ∙ top.1))) out

    met-common : common_ancestor g.forest r.start.node r.end.node ≡ met.above
    met-common = ap (λ o. unwrap_or o r.start.node) met.deepest

    -- the common ancestor is not the start node
    pub common-apart : (top : ℕ) → top ≡ common_ancestor g.forest r.start.node r.end.node → (r.start.node == top) ≡ false
    common-apart top e =
        elim (same_or r.start.node top) [
          | same d t ↦
              let there = head-passes (λ a. among a other) (ancestors r.start.node g.forest) met.above met.deepest in
              absurd (false≢true (sym out ∙ ap (λ n. among n other) (d ∙ e ∙ met-common) ∙ there))
          | apart ne t ↦ t
        ]

    -- behind the child on the way
    pub place-behind : (top child : ℕ) → top ≡ common_ancestor g.forest r.start.node r.end.node → parent_of g.forest child ≡ Some top → among child (ancestors r.start.node g.forest) ≡ true → new_place g.forest r ≡ record { node = top; offset = index_of g.forest child + 1 }
    place-behind top child e up way =
        let d : top ≡ met.above = e ∙ met-common in
        let same_child : met.nearest ≡ child = one-way g s top r.start.node met.nearest child met.above hs met.on_path (among-hits child (ancestors r.start.node g.forest) way) met.parent (up ∙ ap (λ n. Some n) d) in
        whole
        ∙ ap (λ o. unwrap_or (option_and_then (point_after g.forest) o) r.start) met.found
        ∙ ap (λ o. unwrap_or (option_map (λ parent. record { node = parent; offset = index_of g.forest met.nearest + 1 }) o) r.start) met.parent
        ∙ ap (λ n. record { node = n; offset = index_of g.forest met.nearest + 1 }) (sym d)
        ∙ ap (λ n. record { node = top; offset = index_of g.forest n + 1 }) same_child
      where
        whole : new_place g.forest r ≡ unwrap_or (option_and_then (point_after g.forest) (find (λ q. if_given (λ p. among p other) (parent_of g.forest q)) (ancestors r.start.node g.forest))) r.start
        whole = rw out refl
