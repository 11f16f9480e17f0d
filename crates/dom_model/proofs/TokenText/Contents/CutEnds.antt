-- The ends of a live range that stand in data, where its contents are deleted: the units from the start on go, and those up to the end.
-- DOM Standard, "Interface Range": delete the contents.
use Rattle.std.proofs.Common.{◌≡◌, ℕ, Bool, true, false, List, [], ◌∷◌, ◌++◌, take, drop, Some, refl, ap, sym, ◌∙◌, subst, append_assoc, append-nil, inl, inr}
use Rattle.std.proofs.lemmas.{Bool.false≢true, List.take-append-drop, Bool.cases_Bool}
use Rattle.dom_model.specs.Definitions.{is_character_data, root_of, Range, World, IsSound, IsRange, kind_passes, data_of, remove_each, is_in_one_data, cut_from, cut_up_to, contained_tops, common_of, Token, Open, Close, no_marks, unit_tokens, root_text, IsWay, tail_nodes}
use Rattle.dom_model.proofs.Soundness.{SoundNormalizing.each_kinds, SoundDeleting.one, SoundDeleting.sound-second}
use Rattle.dom_model.proofs.RangesAndContents.WaysBelow.{IsFork}
use Rattle.dom_model.proofs.TokenText.{Contents.DeletedUnits.units-append, Contents.NodesOut.AllGone, Contents.PathTokens.tail_tokens, Contents.PathTokens.head_tokens, Contents.PathTokens.start_path, Contents.PathTokens.end_path, Contents.PathShapes.front_tokens, Contents.PathShapes.back_tokens, Contents.PathShapes.front_units, Contents.PathShapes.back_nodes, Contents.PathShapes.closes_of, Contents.PathShapes.opens_of, Contents.PathShapes.HeadIs, Contents.PathShapes.TailIs, Contents.PathShapes.head_is, Contents.PathShapes.tail_is, Contents.CutUnits.text-cut_from, Contents.CutUnits.text-cut_up_to, Contents.BetweenParts.fork_of, Contents.BetweenParts.data-fits, Contents.BetweenParts.top-no_data_start, Contents.BetweenParts.top-no_data_end, Contents.PlaceOfContents.end-there}

-- the units of a node on both sides of an offset
units-joined : (n offset : ℕ) (us : List ℕ) → unit_tokens no_marks n 0 (take offset us) ++ unit_tokens no_marks n 0 (drop offset us) ≡ unit_tokens no_marks n 0 us
units-joined n offset us = sym (units-append n (take offset us) (drop offset us)) ∙ ap (unit_tokens no_marks n 0) (take-append-drop offset us)

module _ (w : World) (sound : IsSound w) (range : Range) (is_range : IsRange w.forest range) (root : ℕ) (rooted : root_of w.forest range.start.node ≡ Some root) (two : is_in_one_data w range ≡ false) where
  fork_here : IsFork w.forest sound.forest.once range.start.node range.end.node (common_of w range)
  fork_here = fork_of w sound range is_range root rooted

  -- the ways down to the ends, where the paths are known
  pub start-way : (path : List ℕ) → start_path w range ≡ path → IsWay w.forest (common_of w range) path range.start.node
  start-way path e = subst (λ p. IsWay w.forest (common_of w range) p range.start.node) e fork_here.first

  pub end-way : (path : List ℕ) → end_path w range ≡ path → IsWay w.forest (common_of w range) path range.end.node
  end-way path e = subst (λ p. IsWay w.forest (common_of w range) p range.end.node) e fork_here.second

  -- an end that is the common ancestor itself has no data
  start-bare : start_path w range ≡ [] → kind_passes is_character_data w.forest range.start.node ≡ false
  start-bare e = ap (kind_passes is_character_data w.forest) (sym (start-way [] e)) ∙ top-no_data_start w sound range is_range root rooted two e

  pub end-bare : end_path w range ≡ [] → kind_passes is_character_data w.forest range.end.node ≡ false
  end-bare e = ap (kind_passes is_character_data w.forest) (sym (end-way [] e)) ∙ top-no_data_end w sound range is_range root rooted two e

  -- The units from the start on go.

  -- the text where they went, and what of the tokens behind the start is there to go with the contained nodes
  pub record FirstLeft (ahead behind : List Token) : Type 0 where
    pub rest : List Token
    pub text : root_text (cut_from range.start.node range.start.offset w).forest root ≡ (ahead ++ head_tokens w range.start.offset (common_of w range ∷ start_path w range)) ++ (rest ++ behind)
    pub gone : AllGone (tail_nodes w range.start.offset (start_path w range)) rest (closes_of (start_path w range))

  first-bare : (ahead behind : List Token) (path : List ℕ) → root_text w.forest root ≡ (ahead ++ head_tokens w range.start.offset (common_of w range ∷ path)) ++ (tail_tokens w range.start.offset path ++ behind) → kind_passes is_character_data w.forest range.start.node ≡ false → root_text (cut_from range.start.node range.start.offset w).forest root ≡ (ahead ++ head_tokens w range.start.offset (common_of w range ∷ path)) ++ (tail_tokens w range.start.offset path ++ behind)
  first-bare ahead behind path text k = rw k text

  first-cut : (ahead behind : List Token) (path : List ℕ) → root_text w.forest root ≡ (ahead ++ head_tokens w range.start.offset (common_of w range ∷ path)) ++ (tail_tokens w range.start.offset path ++ behind) → (hd : HeadIs w range.start.offset range.start.node (common_of w range ∷ path)) (tl : TailIs w range.start.offset range.start.node path) → (v : Bool) → kind_passes is_character_data w.forest range.start.node ≡ v → root_text (cut_from range.start.node range.start.offset w).forest root ≡ (ahead ++ head_tokens w range.start.offset (common_of w range ∷ path)) ++ ((back_nodes w range.start.offset range.start.node ++ (Close ∷ tl.post)) ++ behind)
  first-cut ahead behind path text hd tl false k =
      let same_back : back_tokens w range.start.offset range.start.node ≡ back_nodes w range.start.offset range.start.node = rw k refl in
      first-bare ahead behind path text k ∙ ap (λ ts. (ahead ++ head_tokens w range.start.offset (common_of w range ∷ path)) ++ (ts ++ behind)) (tl.spelt ∙ ap (λ ts. ts ++ (Close ∷ tl.post)) same_back)
  first-cut ahead behind path text hd tl true k =
      let us = data_of w range.start.node in
      let o = range.start.offset in
      let front : front_tokens w range.start.offset range.start.node ≡ unit_tokens no_marks range.start.node 0 (take range.start.offset (data_of w range.start.node)) = rw k refl in
      let back : back_tokens w range.start.offset range.start.node ≡ unit_tokens no_marks range.start.node 0 (drop range.start.offset (data_of w range.start.node)) = rw k refl in
      let none : back_nodes w range.start.offset range.start.node ≡ [] = rw k refl in
      let down = hd.spelt ∙ ap (λ ts. hd.pre ++ (Open range.start.node ∷ ts)) front in
      let before : root_text w.forest root ≡ (ahead ++ hd.pre) ++ (Open range.start.node ∷ (unit_tokens no_marks range.start.node 0 us ++ (Close ∷ (tl.post ++ behind)))) =
      text ∙ (rw (down, tl.spelt, back, ← units-joined range.start.node o us) (simp append_assoc))
      in
      text-cut_from w root range.start.node o us (ahead ++ hd.pre) (tl.post ++ behind) sound k (data-fits w sound range is_range root rooted range.start is_range.starts k) before
      ∙ (rw (down, none) (simp append_assoc))

  pub first-left : (ahead behind : List Token) → root_text w.forest root ≡ (ahead ++ head_tokens w range.start.offset (common_of w range ∷ start_path w range)) ++ (tail_tokens w range.start.offset (start_path w range) ++ behind) → FirstLeft ahead behind
  first-left ahead behind text = go (start_path w range) refl
    where
      there : (path : List ℕ) → start_path w range ≡ path → root_text w.forest root ≡ (ahead ++ head_tokens w range.start.offset (common_of w range ∷ path)) ++ (tail_tokens w range.start.offset path ++ behind)
      there path e = text ∙ ap (λ p. (ahead ++ head_tokens w range.start.offset (common_of w range ∷ p)) ++ (tail_tokens w range.start.offset p ++ behind)) e

      go : (path : List ℕ) → start_path w range ≡ path → FirstLeft ahead behind
      go [] e = record {
        rest = [];
        text = first-bare ahead behind [] (there [] e) (start-bare e) ∙ ap (λ p. (ahead ++ head_tokens w range.start.offset (common_of w range ∷ p)) ++ behind) (sym e);
        gone = subst (λ p. AllGone (tail_nodes w range.start.offset p) [] (closes_of p)) (sym e) refl;
      }
      go (c ∷ path) e =
          let way = start-way (c ∷ path) e in
          let hd = head_is w sound range.start.offset (common_of w range) (c ∷ path) range.start.node way in
          let tl = tail_is w sound range.start.offset c path range.start.node way.2 in
          let rest = back_nodes w range.start.offset range.start.node ++ (Close ∷ tl.post) in
          record {
            rest = rest;
            text = first-cut ahead behind (c ∷ path) (there (c ∷ path) e) hd tl (kind_passes is_character_data w.forest range.start.node) refl
                ∙ ap (λ p. (ahead ++ head_tokens w range.start.offset (common_of w range ∷ p)) ++ (rest ++ behind)) (sym e);
            gone = subst (λ p. AllGone (tail_nodes w range.start.offset p) rest (closes_of p)) (sym e) tl.gone;
          }

  -- The units up to the end go.

  end-kind : (r : ℕ) → kind_passes is_character_data (remove_each (contained_tops w range) (cut_from range.start.node range.start.offset w)).forest range.end.node ≡ kind_passes is_character_data w.forest range.end.node
  end-kind r =
      let cut = one r range w sound is_range two in
      each_kinds (contained_tops w range) (cut_from range.start.node range.start.offset w) cut.sound.forest.once is_character_data range.end.node
      ∙ cut.kinds is_character_data range.end.node (end-there w sound range is_range root rooted)

  third-cut : (ahead behind : List Token) (r : ℕ) (path : List ℕ) → root_text (remove_each (contained_tops w range) (cut_from range.start.node range.start.offset w)).forest root ≡ ahead ++ ((opens_of path ++ front_units w range.end.offset range.end.node) ++ (tail_tokens w range.end.offset (common_of w range ∷ path) ++ behind)) → kind_passes is_character_data w.forest range.end.node ≡ true → (hd : HeadIs w range.end.offset range.end.node path) (tl : TailIs w range.end.offset range.end.node (common_of w range ∷ path)) → root_text (cut_up_to range.end.node range.end.offset (remove_each (contained_tops w range) (cut_from range.start.node range.start.offset w))).forest root ≡ ahead ++ (opens_of path ++ (tail_tokens w range.end.offset (common_of w range ∷ path) ++ behind))
  third-cut ahead behind r path text k hd tl =
      let us = data_of w range.end.node in
      let o = range.end.offset in
      let front : front_units w range.end.offset range.end.node ≡ unit_tokens no_marks range.end.node 0 (take range.end.offset (data_of w range.end.node)) = rw k refl in
      let back : back_tokens w range.end.offset range.end.node ≡ unit_tokens no_marks range.end.node 0 (drop range.end.offset (data_of w range.end.node)) = rw k refl in
      let rest = tl.spelt ∙ ap (λ ts. ts ++ (Close ∷ tl.post)) back in
      let before : root_text (remove_each (contained_tops w range) (cut_from range.start.node range.start.offset w)).forest root ≡ (ahead ++ hd.opens) ++ (Open range.end.node ∷ (unit_tokens no_marks range.end.node 0 us ++ (Close ∷ (tl.post ++ behind)))) =
      text ∙ (rw (rest, front, hd.last, ← units-joined range.end.node o us) (simp append_assoc))
      in
      text-cut_up_to (remove_each (contained_tops w range) (cut_from range.start.node range.start.offset w)) root range.end.node o us (ahead ++ hd.opens) (tl.post ++ behind) (sound-second r range w sound is_range two) (end-kind r ∙ k) (data-fits w sound range is_range root rooted range.end is_range.ends k) before
      ∙ (rw (hd.last, rest) (simp append_assoc))

  pub third-left : (ahead behind : List Token) (r : ℕ) → root_text (remove_each (contained_tops w range) (cut_from range.start.node range.start.offset w)).forest root ≡ ahead ++ ((opens_of (end_path w range) ++ front_units w range.end.offset range.end.node) ++ (tail_tokens w range.end.offset (common_of w range ∷ end_path w range) ++ behind)) → root_text (cut_up_to range.end.node range.end.offset (remove_each (contained_tops w range) (cut_from range.start.node range.start.offset w))).forest root ≡ ahead ++ (opens_of (end_path w range) ++ (tail_tokens w range.end.offset (common_of w range ∷ end_path w range) ++ behind))
  third-left ahead behind r text =
      elim (cases_Bool (kind_passes is_character_data w.forest range.end.node)) [
        | inl k ↦ cut k (end_path w range) refl
        | inr k ↦
            let none : front_units w range.end.offset range.end.node ≡ [] = rw k refl in
            let off = end-kind r ∙ k in
            rw off (text ∙ (rw (none, append-nil (opens_of (end_path w range))) refl))
      ]
    where
      cut : kind_passes is_character_data w.forest range.end.node ≡ true → (path : List ℕ) → end_path w range ≡ path → root_text (cut_up_to range.end.node range.end.offset (remove_each (contained_tops w range) (cut_from range.start.node range.start.offset w))).forest root ≡ ahead ++ (opens_of (end_path w range) ++ (tail_tokens w range.end.offset (common_of w range ∷ end_path w range) ++ behind))
      cut k [] e = absurd (false≢true (sym (end-bare e) ∙ k))
      cut k (c ∷ path) e =
          let way = end-way (c ∷ path) e in
          let hd = head_is w sound range.end.offset c path range.end.node way.2 in
          let tl = tail_is w sound range.end.offset (common_of w range) (c ∷ path) range.end.node way in
          third-cut ahead behind r (c ∷ path) (text ∙ ap (λ p. ahead ++ ((opens_of p ++ front_units w range.end.offset range.end.node) ++ (tail_tokens w range.end.offset (common_of w range ∷ p) ++ behind))) e) k hd tl
          ∙ ap (λ p. ahead ++ (opens_of p ++ (tail_tokens w range.end.offset (common_of w range ∷ p) ++ behind))) (sym e)
