-- Going down the path to the end of a range: what comes before the path goes in on the way. DOM Standard, "Interface Range" (extract, clone the contents).
use Rattle.std.proofs.Common.{◌≡◌, ℕ, ◌≤◌, Bool, true, false, List, [], ◌∷◌, take, ap, sym, ◌∙◌, arith}
use Rattle.std.proofs.lemmas.Bool.{cond-true, cond-false}
use Rattle.dom_model.specs.Definitions.{up_to, is_character_data, Forest, children_of, Content, kind_passes, append, units_into, children_into, copy_into, head_into}
use Rattle.dom_model.specs.Worlds.World as model
use Rattle.dom_model.proofs.Counting.CountsOfContents.{units_into-grown}
use Rattle.dom_edit.specs.{declared.world.World.World, Whole.Keeps, Whole.Follows}
use Rattle.dom_edit.proofs.{FollowsLemmas.follows-then, InsertLemmas.follows-as}
use Rattle.dom_content.specs.{declared.partially_contained.Partial.Partial, Paths.HasNumbers, Paths.opened, Paths.inner_of, Paths.path_entered, Paths.closed_one}
use Rattle.dom_content.proofs.{PathSteps.append-grows, PathSteps.opened-grows, PathSteps.copy-grows, PathSteps.if-grows, PathSteps.room-within, PieceSteps.room-after, PieceSteps.room-as, PieceSteps.children-grow}

-- Numbers are never taken back.

pub head-grows : (moves : Bool) (into offset : ℕ) (path : List ℕ) (w : model.World) → w.made ≤ (head_into moves into offset path w).made
head-grows moves into offset [] w = omega arith
head-grows moves into offset (n ∷ []) w =
    if-grows (kind_passes is_character_data w.forest n) w _ _
    (units_into-grown moves into n 0 offset w).least
    (let a = opened-grows into n w in
    let b = copy-grows into n (λ inner v. children_into moves inner (take offset (children_of w.forest n)) v) w (λ inner v. children-grow moves inner (take offset (children_of w.forest n)) v) in
    omega (arith, a, b))
head-grows moves into offset (n ∷ m ∷ path) w =
    let a = opened-grows into n w in
    let b = copy-grows into n (λ inner v. head_into moves inner offset (m ∷ path) (children_into moves inner (up_to m (children_of w.forest n)) v)) w
    (λ inner v.
    let c = children-grow moves inner (up_to m (children_of w.forest n)) v in
    let d = head-grows moves inner offset (m ∷ path) (children_into moves inner (up_to m (children_of w.forest n)) v) in
    omega (arith, c, d)) in
    omega (arith, a, b)

-- the head takes at least what comes before its second node
pub head-enters : (moves : Bool) (into offset n m : ℕ) (path : List ℕ) (w : model.World) → (path_entered moves into n m w).made ≤ (head_into moves into offset (n ∷ m ∷ path) w).made
head-enters moves into offset n m path w =
    let inner = inner_of into n w in
    let a = head-grows moves inner offset (m ∷ path) (path_entered moves into n m w) in
    let b = append-grows inner w.made (head_into moves inner offset (m ∷ path) (path_entered moves into n m w)) in
    omega (arith, a, b)

-- A node is entered.

pub room-entered : (v : World) (moves : Bool) (into n next : ℕ) → HasNumbers v (path_entered moves into n next) → HasNumbers v (opened into n)
room-entered v moves into n next r =
    room-within v (path_entered moves into n next) (opened into n) (λ w k. children-grow moves (inner_of into n w) (up_to next (children_of w.forest n)) (opened into n w)) r

module _ (v mid : World) (moves : Bool) (into n next : ℕ) (kids : List ℕ) (ek : kids ≡ up_to next (children_of v.tree.forest n)) (inner : ℕ) (ei : (w : model.World) → Keeps v w → inner ≡ inner_of into n w) (f : Follows v mid (opened into n)) where
  entered-as : (w : model.World) → Keeps v w → path_entered moves into n next w ≡ children_into moves inner kids (opened into n w)
  entered-as w k =
      ap (λ (i : ℕ). children_into moves i (up_to next (children_of w.forest n)) (opened into n w)) (sym (ei w k))
      ∙ ap (λ (ks : List ℕ). children_into moves inner ks (opened into n w)) (ap (λ (g : Forest Content). up_to next (children_of g n)) k.forest ∙ sym ek)

  pub room-ahead : HasNumbers v (path_entered moves into n next) → HasNumbers mid (children_into moves inner kids)
  room-ahead r = room-after v mid (path_entered moves into n next) (opened into n) (children_into moves inner kids) entered-as f r

  pub follows-entered : (new : World) → Follows mid new (children_into moves inner kids) → Follows v new (path_entered moves into n next)
  follows-entered new g =
      follows-as v new (λ w. children_into moves inner kids (opened into n w)) (path_entered moves into n next) entered-as
      (follows-then v mid new (opened into n) (children_into moves inner kids) f g)

-- the first node of a head is entered
pub head-down : (v : World) (moves : Bool) (into offset n m : ℕ) (path : List ℕ) (p : Partial) → p.copy ≡ v.tree.made → ((w : model.World) → Keeps v w → p.inner ≡ inner_of into n w) → p.children.items ≡ [] →
    (w : model.World) → Keeps v w → head_into moves into offset (n ∷ m ∷ path) w ≡ closed_one moves p (head_into moves p.inner offset (m ∷ path) (path_entered moves into n m w))
head-down v moves into offset n m path p ec ei ek w k =
    sym (ap (λ (c : ℕ). append p.inner c (children_into moves p.inner p.children.items (head_into moves p.inner offset (m ∷ path) (path_entered moves into n m w)))) (ec ∙ sym k.made)
    ∙ ap (λ (i : ℕ). append i w.made (children_into moves i p.children.items (head_into moves i offset (m ∷ path) (path_entered moves into n m w)))) (ei w k)
    ∙ ap (λ (ks : List ℕ). append (inner_of into n w) w.made (children_into moves (inner_of into n w) ks (head_into moves (inner_of into n w) offset (m ∷ path) (path_entered moves into n m w)))) ek)

-- The last node of a path.

module _ (v : World) (moves : Bool) (into offset n : ℕ) where
  module _ (is_data : kind_passes is_character_data v.tree.forest n ≡ true) where
    head-units : (w : model.World) → Keeps v w → head_into moves into offset (n ∷ []) w ≡ units_into moves into n 0 offset w
    head-units w k = cond-true (kind_passes is_character_data w.forest n) _ _ (ap (λ (g : Forest Content). kind_passes is_character_data g n) k.forest ∙ is_data)

    pub room-head_units : HasNumbers v (head_into moves into offset (n ∷ [])) → HasNumbers v (units_into moves into n 0 offset)
    room-head_units r = room-as v (head_into moves into offset (n ∷ [])) (units_into moves into n 0 offset) head-units r

    pub follows-head_units : (new : World) → Follows v new (units_into moves into n 0 offset) → Follows v new (head_into moves into offset (n ∷ []))
    follows-head_units new f = follows-as v new (units_into moves into n 0 offset) (head_into moves into offset (n ∷ [])) head-units f

  module _ (other : kind_passes is_character_data v.tree.forest n ≡ false) (kids : List ℕ) (ek : kids ≡ take offset (children_of v.tree.forest n)) where
    abbrev head_copied : model.World → model.World
    head_copied = copy_into into n (λ inner u. children_into moves inner kids u)

    head-copy : (w : model.World) → Keeps v w → head_into moves into offset (n ∷ []) w ≡ head_copied w
    head-copy w k =
        cond-false (kind_passes is_character_data w.forest n) _ _ (ap (λ (g : Forest Content). kind_passes is_character_data g n) k.forest ∙ other)
        ∙ ap (λ (ks : List ℕ). copy_into into n (λ inner u. children_into moves inner ks u) w) (ap (λ (g : Forest Content). take offset (children_of g n)) k.forest ∙ sym ek)

    pub room-head_copy : HasNumbers v (head_into moves into offset (n ∷ [])) → HasNumbers v head_copied
    room-head_copy r = room-as v (head_into moves into offset (n ∷ [])) head_copied head-copy r

    pub follows-head_copy : (new : World) → Follows v new head_copied → Follows v new (head_into moves into offset (n ∷ []))
    follows-head_copy new f = follows-as v new head_copied (head_into moves into offset (n ∷ [])) head-copy f
