-- Going down a path with copies that are finished on the way back. DOM Standard, "Interface Range" (extract, clone the contents).
use Rattle.std.proofs.Common.{◌≡◌, ℕ, ◌+◌, ◌-◌, ◌<◌, ◌≤◌, Bool, true, false, if◌then◌else◌, List, [], ◌∷◌, ◌++◌, drop, length, slice_index_or, refl, ap, sym, ◌∙◌, subst, arith, length-append}
use Rattle.std.proofs.lemmas.Bool.{cond-true, cond-false}
use Rattle.dom_model.specs.declared.Kind.TheVariants.{Document}
use Rattle.dom_model.specs.Definitions.{is_kind, is_character_data, Forest, children_of, entry_in, HasNode, Content, past, kind_passes, is_of_kind, append, document_in, node_document, content_in, data_of, clone_node, new_fragment, units_into, children_into, copy_into, tail_into}
use Rattle.dom_model.specs.Worlds.World as model
use Rattle.dom_model.proofs.Forests.Entries.{HasNode-occurs}
use Rattle.dom_model.proofs.Counting.{CountsKept.append-kept, CountsOfContents.units_into-grown}
use Rattle.dom_edit.specs.{declared.world.World.World, Whole.IsWhole, Whole.Keeps, Whole.Follows}
use Rattle.dom_edit.proofs.{FollowsLemmas.follows-none, FollowsLemmas.follows-then, InsertLemmas.follows-as}
use Rattle.dom_content.specs.{declared.partially_contained.Partial.Partial, Paths.HasNumbers, Paths.StillHeld, Paths.Stays, Paths.KindsStay, Paths.opened, Paths.inner_of, Paths.closed_one, Paths.closed_all, DrawConditions.HasRisingNumbers, DrawConditions.IsHolder, DrawConditions.IsOld, DrawConditions.AreOld, DrawConditions.MayDraw, DrawConditions.IsUnfinished, DrawConditions.AreUnfinished, DrawConditions.MayClose, DrawConditions.IsPathTo}
use Rattle.dom_content.proofs.{StaysLemmas.stays-none, StaysLemmas.stays-then, MayDrawLemmas.Goes, MayDrawLemmas.first-old, MayDrawLemmas.rest-old, MayDrawLemmas.one-old, MayDrawLemmas.old-there, MayDrawLemmas.old-goes, MayDrawLemmas.all_unfinished-go, MayDrawLemmas.inner-holder, MayDrawLemmas.goes-closed, PathLists.listed, PathLists.none-left, PieceSteps.room-before, PieceSteps.room-after, PieceSteps.room-as, PieceSteps.children-grow}
use Rattle.dom_model.proofs.Worlds.Owners.{kind-there}

-- What a test picks.

-- Numbers are never taken back.

pub append-grows : (n into : ℕ) (w : model.World) → w.made ≤ (append n into w).made
append-grows n into w = (append-kept n into w).least

pub opened-grows : (into n : ℕ) (w : model.World) → w.made ≤ (opened into n w).made
opened-grows into n w = let a = append-grows w.made into (clone_node false n w) in omega (arith, a)

pub copy-grows : (into n : ℕ) (fill : ℕ → model.World → model.World) (w : model.World) → ((inner : ℕ) (v : model.World) → v.made ≤ (fill inner v).made) → (opened into n w).made ≤ (copy_into into n fill w).made
copy-grows into n fill w h =
    let inner = inner_of into n w in
    let a = h inner (opened into n w) in
    let b = append-grows inner w.made (fill inner (opened into n w)) in
    omega (arith, a, b)

pub if-grows : (b : Bool) (w u v : model.World) → w.made ≤ u.made → w.made ≤ v.made → w.made ≤ (if b then u else v).made
if-grows true w u v g h = g
if-grows false w u v g h = h

-- the tail takes at least what its first node takes
pub tail-grows : (moves : Bool) (into offset : ℕ) (path : List ℕ) (w : model.World) → w.made ≤ (tail_into moves into offset path w).made
tail-grows moves into offset [] w = omega arith
tail-grows moves into offset (n ∷ []) w =
    if-grows (kind_passes is_character_data w.forest n) w _ _
    (units_into-grown moves into n offset (length (data_of w n) - offset) w).least
    (let a = opened-grows into n w in
    let b = copy-grows into n (λ inner v. children_into moves inner (drop offset (children_of w.forest n)) v) w (λ inner v. children-grow moves inner (drop offset (children_of w.forest n)) v) in
    omega (arith, a, b))
tail-grows moves into offset (n ∷ m ∷ path) w =
    let a = opened-grows into n w in
    let b = copy-grows into n (λ inner v. children_into moves inner (past m (children_of w.forest n)) (tail_into moves inner offset (m ∷ path) v)) w
    (λ inner v.
    let c = tail-grows moves inner offset (m ∷ path) v in
    let d = children-grow moves inner (past m (children_of w.forest n)) (tail_into moves inner offset (m ∷ path) v) in
    omega (arith, c, d)) in
    omega (arith, a, b)

pub tail-opens : (moves : Bool) (into offset n m : ℕ) (path : List ℕ) (w : model.World) → (opened into n w).made ≤ (tail_into moves into offset (n ∷ m ∷ path) w).made
tail-opens moves into offset n m path w =
    copy-grows into n (λ inner v. children_into moves inner (past m (children_of w.forest n)) (tail_into moves inner offset (m ∷ path) v)) w
    (λ inner v.
    let c = tail-grows moves inner offset (m ∷ path) v in
    let d = children-grow moves inner (past m (children_of w.forest n)) (tail_into moves inner offset (m ∷ path) v) in
    omega (arith, c, d))

pub closed-grows : (moves : Bool) (ps : List Partial) (w : model.World) → w.made ≤ (closed_all moves ps w).made
closed-grows moves [] w = omega arith
closed-grows moves (p ∷ ps) w =
    let a = closed-grows moves ps w in
    let b = children-grow moves p.inner p.children.items (closed_all moves ps w) in
    let c = append-grows p.inner p.copy (children_into moves p.inner p.children.items (closed_all moves ps w)) in
    omega (arith, a, b, c)

-- room for what takes less
pub room-within : (v : World) (whole step : model.World → model.World) → ((w : model.World) → Keeps v w → (step w).made ≤ (whole w).made) → HasNumbers v whole → HasNumbers v step
room-within v whole step less r =
    record { stands_for = r.stands_for; keeps = r.keeps; within = (let l = less r.stands_for r.keeps in let i = r.within in omega (arith, l, i)) }

-- A copy with a further fragment.

pub document-stays : (a b c : World) (d : ℕ) → StillHeld a b → KindsStay a b → KindsStay b c → is_of_kind Document a.tree.forest d ≡ true → is_of_kind Document c.tree.forest d ≡ true
document-stays a b c d s i j k =
    let h = kind-there a.tree.forest d k in
    j (is_kind Document) d (s d h) ∙ i (is_kind Document) d h ∙ k

module _ (v : World) (into n d copy : ℕ) (ec : copy ≡ v.tree.made) (ed : d ≡ document_in (entry_in v.tree.forest n)) where
  abbrev copy_put : model.World → model.World
  copy_put w = append copy into (clone_node false n w)

  opened-as : (w : model.World) → Keeps v w → opened into n w ≡ new_fragment d (copy_put w)
  opened-as w k =
      ap (λ (m : ℕ). new_fragment (node_document w n) (append m into (clone_node false n w))) (k.made ∙ sym ec)
      ∙ ap (λ (x : ℕ). new_fragment x (copy_put w)) (ap (λ (g : Forest Content). document_in (entry_in g n)) k.forest ∙ sym ed)

  module _ (mid put : World) (f : Follows v mid (clone_node false n)) (g : Follows mid put (append copy into)) where
    follows-put : Follows v put copy_put
    follows-put = follows-then v mid put (clone_node false n) (append copy into) f g

    pub room-inner : HasNumbers v (opened into n) → HasNumbers put (new_fragment d)
    room-inner r = room-after v put (opened into n) copy_put (new_fragment d) opened-as follows-put r

    pub inner-is : (inner : ℕ) → inner ≡ put.tree.made → (w : model.World) → Keeps v w → inner ≡ inner_of into n w
    inner-is inner e w k =
        e ∙ sym (follows-put.keeps w k).made ∙ ap (λ (m : ℕ). (append m into (clone_node false n w)).made) (ec ∙ sym k.made)

    pub follows-opened : (new : World) → Follows put new (new_fragment d) → Follows v new (opened into n)
    follows-opened new h = follows-as v new (λ w. new_fragment d (copy_put w)) (opened into n) opened-as (follows-then v put new copy_put (new_fragment d) follows-put h)

pub room-copy : (v : World) (into n : ℕ) → HasNumbers v (opened into n) → HasNumbers v (clone_node false n)
room-copy v into n r = room-within v (opened into n) (clone_node false n) (λ w k. let a = append-grows w.made into (clone_node false n w) in omega (arith, a)) r

-- One is finished.

pub room-children : (v : World) (moves : Bool) (p : Partial) → HasNumbers v (closed_one moves p) → HasNumbers v (children_into moves p.inner p.children.items)
room-children v moves p r = room-within v (closed_one moves p) (children_into moves p.inner p.children.items) (λ w k. append-grows p.inner p.copy (children_into moves p.inner p.children.items w)) r

pub follows-closed : (v mid new : World) (moves : Bool) (p : Partial) → Follows v mid (children_into moves p.inner p.children.items) → Follows mid new (append p.inner p.copy) → Follows v new (closed_one moves p)
follows-closed v mid new moves p f g = follows-then v mid new (children_into moves p.inner p.children.items) (append p.inner p.copy) f g

-- All are finished, the last one first.

pub closed-push : (moves : Bool) (ps : List Partial) (p : Partial) (w : model.World) → closed_all moves (ps ++ p ∷ []) w ≡ closed_all moves ps (closed_one moves p w)
closed-push moves [] p w = refl
closed-push moves (q ∷ ps) p w = ap (closed_one moves q) (closed-push moves ps p w)

pub unfinished-push : (low : ℕ) (f : Forest Content) (ps : List Partial) (p : Partial) → AreUnfinished low f ps → IsUnfinished low f p → AreUnfinished low f (ps ++ p ∷ [])
unfinished-push low f [] p h i = (i, tt)
unfinished-push low f (q ∷ ps) p h i = (h.0, unfinished-push low f ps p h.1 i)

unfinished-last : (low : ℕ) (f : Forest Content) (ps : List Partial) (p : Partial) → AreUnfinished low f (ps ++ p ∷ []) → IsUnfinished low f p
unfinished-last low f [] p h = h.0
unfinished-last low f (q ∷ ps) p h = unfinished-last low f ps p h.1

unfinished-front : (low : ℕ) (f : Forest Content) (ps : List Partial) (p : Partial) → AreUnfinished low f (ps ++ p ∷ []) → AreUnfinished low f ps
unfinished-front low f [] p h = tt
unfinished-front low f (q ∷ ps) p h = (h.0, unfinished-front low f ps p h.1)

pub record IsClosing (initial now : World) (moves : Bool) (all parts : List Partial) : Type 0 where
  pub whole : IsWhole now
  pub still : Stays initial now
  pub may : MayClose now parts
  pub room : HasNumbers now (closed_all moves parts)
  pub rest : (final : World) → Follows now final (closed_all moves parts) → Follows initial final (closed_all moves all)

pub closing-first : (v : World) (moves : Bool) (all : List Partial) → IsWhole v → MayClose v all → HasNumbers v (closed_all moves all) → IsClosing v v moves all all
closing-first v moves all h m r = record { whole = h; still = stays-none v; may = m; room = r; rest = λ final f. f }

module _ (initial now : World) (moves : Bool) (all parts : List Partial) (p : Partial) (t : IsClosing initial now moves all (parts ++ p ∷ [])) where
  last : IsUnfinished t.may.low now.tree.forest p
  last = unfinished-last t.may.low now.tree.forest parts p t.may.parts

  pub closing-last : MayClose now (p ∷ [])
  closing-last = record { low = t.may.low; rising = t.may.rising; parts = (last, tt) }

  pub closing-room : HasNumbers now (closed_one moves p)
  closing-room = room-before now (closed_all moves (parts ++ p ∷ [])) (closed_one moves p) (closed_all moves parts) (λ w k. closed-push moves parts p w) (closed-grows moves parts) t.room

  pub closing-next : (next : World) → Follows now next (closed_one moves p) → Stays now next → IsWhole next → IsClosing initial next moves all parts
  closing-next next f s h =
      let g = goes-closed now t.whole t.may.low t.may.rising moves p last next f s in
      record {
        whole = h;
        still = stays-then initial now next t.still s;
        may = record { low = t.may.low; rising = g.rising; parts = all_unfinished-go t.may.low now next g parts (unfinished-front t.may.low now.tree.forest parts p t.may.parts) };
        room = room-after now next (closed_all moves (parts ++ p ∷ [])) (closed_one moves p) (closed_all moves parts) (λ w k. closed-push moves parts p w) f t.room;
        rest = λ final g.
            t.rest final (follows-as now final (λ w. closed_all moves parts (closed_one moves p w)) (closed_all moves (parts ++ p ∷ [])) (λ w k. closed-push moves parts p w)
            (follows-then now next final (closed_one moves p) (closed_all moves parts) f g));
      }

pub closing-end : (initial now : World) (moves : Bool) (all : List Partial) → IsClosing initial now moves all [] → Follows initial now (closed_all moves all)
closing-end initial now moves all t = t.rest now (follows-none now)

-- A copy with some of the children.

module _ (v mid : World) (moves : Bool) (into n : ℕ) (kids : List ℕ) (p : Partial) (ec : p.copy ≡ v.tree.made) (ei : (w : model.World) → Keeps v w → p.inner ≡ inner_of into n w) (ek : p.children.items ≡ kids) (f : Follows v mid (opened into n)) where
  abbrev copied : model.World → model.World
  copied = copy_into into n (λ inner u. children_into moves inner kids u)

  copied-as : (w : model.World) → Keeps v w → copied w ≡ closed_one moves p (opened into n w)
  copied-as w k =
      sym (ap (λ (c : ℕ). append p.inner c (children_into moves p.inner p.children.items (opened into n w))) (ec ∙ sym k.made)
      ∙ ap (λ (i : ℕ). append i w.made (children_into moves i p.children.items (opened into n w))) (ei w k)
      ∙ ap (λ (ks : List ℕ). append (inner_of into n w) w.made (children_into moves (inner_of into n w) ks (opened into n w))) ek)

  pub room-closing : HasNumbers v copied → HasNumbers mid (closed_one moves p)
  room-closing r = room-after v mid copied (opened into n) (closed_one moves p) copied-as f r

  pub follows-copy : (new : World) → Follows mid new (closed_one moves p) → Follows v new copied
  follows-copy new g = follows-as v new (λ w. closed_one moves p (opened into n w)) copied copied-as (follows-then v mid new (opened into n) (closed_one moves p) f g)

pub room-open : (v : World) (moves : Bool) (into n : ℕ) (kids : List ℕ) → HasNumbers v (copy_into into n (λ inner u. children_into moves inner kids u)) → HasNumbers v (opened into n)
room-open v moves into n kids r =
    room-within v (copy_into into n (λ inner u. children_into moves inner kids u)) (opened into n)
    (λ w k. copy-grows into n (λ inner u. children_into moves inner kids u) w (λ inner u. children-grow moves inner kids u)) r

-- The last node of a path.

module _ (v : World) (moves : Bool) (into offset n : ℕ) where
  module _ (is_data : kind_passes is_character_data v.tree.forest n ≡ true) (count : ℕ) (ec : count ≡ length (content_in (entry_in v.tree.forest n)).text - offset) where
    tail-units : (w : model.World) → Keeps v w → tail_into moves into offset (n ∷ []) w ≡ units_into moves into n offset count w
    tail-units w k =
        cond-true (kind_passes is_character_data w.forest n) _ _ (ap (λ (g : Forest Content). kind_passes is_character_data g n) k.forest ∙ is_data)
        ∙ ap (λ (c : ℕ). units_into moves into n offset c w) (ap (λ (g : Forest Content). length (content_in (entry_in g n)).text - offset) k.forest ∙ sym ec)

    pub room-tail_units : HasNumbers v (tail_into moves into offset (n ∷ [])) → HasNumbers v (units_into moves into n offset count)
    room-tail_units r = room-as v (tail_into moves into offset (n ∷ [])) (units_into moves into n offset count) tail-units r

    pub follows-tail_units : (new : World) → Follows v new (units_into moves into n offset count) → Follows v new (tail_into moves into offset (n ∷ []))
    follows-tail_units new f = follows-as v new (units_into moves into n offset count) (tail_into moves into offset (n ∷ [])) tail-units f

  module _ (other : kind_passes is_character_data v.tree.forest n ≡ false) (kids : List ℕ) (ek : kids ≡ drop offset (children_of v.tree.forest n)) where
    abbrev tail_copied : model.World → model.World
    tail_copied = copy_into into n (λ inner u. children_into moves inner kids u)

    tail-copy : (w : model.World) → Keeps v w → tail_into moves into offset (n ∷ []) w ≡ tail_copied w
    tail-copy w k =
        cond-false (kind_passes is_character_data w.forest n) _ _ (ap (λ (g : Forest Content). kind_passes is_character_data g n) k.forest ∙ other)
        ∙ ap (λ (ks : List ℕ). copy_into into n (λ inner u. children_into moves inner ks u) w) (ap (λ (g : Forest Content). drop offset (children_of g n)) k.forest ∙ sym ek)

    pub room-tail_copy : HasNumbers v (tail_into moves into offset (n ∷ [])) → HasNumbers v tail_copied
    room-tail_copy r = room-as v (tail_into moves into offset (n ∷ [])) tail_copied tail-copy r

    pub follows-tail_copy : (new : World) → Follows v new tail_copied → Follows v new (tail_into moves into offset (n ∷ []))
    follows-tail_copy new f = follows-as v new tail_copied (tail_into moves into offset (n ∷ [])) tail-copy f

-- Down the path.

pub record IsGoingDown (initial now : World) (moves : Bool) (offset : ℕ) (whole : model.World → model.World) (walk : ℕ → List ℕ → model.World → model.World) (parts : List Partial) (here : ℕ) (path : List ℕ) : Type 0 where
  pub stays_whole : IsWhole now
  pub still : Stays initial now
  pub low : ℕ
  pub rising : HasRisingNumbers low now
  pub into : IsHolder low now.tree.forest here
  pub nodes : AreOld low now.tree.forest path
  pub way : IsPathTo now.tree.forest offset path
  pub unfinished : AreUnfinished low now.tree.forest parts
  pub room : HasNumbers now (λ w. closed_all moves parts (walk here path w))
  pub rest : (final : World) → Follows now final (λ w. closed_all moves parts (walk here path w)) → Follows initial final whole

pub down-first : (v : World) (moves : Bool) (offset : ℕ) (walk : ℕ → List ℕ → model.World → model.World) (into : ℕ) (path : List ℕ) → IsWhole v → MayDraw v into path → IsPathTo v.tree.forest offset path → HasNumbers v (walk into path) → IsGoingDown v v moves offset (walk into path) walk [] into path
down-first v moves offset walk into path h m p r = record { stays_whole = h; still = stays-none v; low = m.low; rising = m.rising; into = m.holder; nodes = m.nodes; way = p; unfinished = tt; room = r; rest = λ final f. f }

module _ (initial now : World) (moves : Bool) (offset : ℕ) (whole : model.World → model.World) (walk : ℕ → List ℕ → model.World → model.World) (parts : List Partial) (here n : ℕ) (path : List ℕ) (t : IsGoingDown initial now moves offset whole walk parts here (n ∷ path)) where
  pub down-first_old : IsOld t.low now.tree.forest n
  down-first_old = first-old t.low now.tree.forest n path t.nodes

  pub down-held : HasNode now.tree.forest n
  down-held = HasNode-occurs now.tree.forest n (old-there t.low now.tree.forest n down-first_old)

  pub down-may : MayDraw now here (n ∷ [])
  down-may = record { low = t.low; rising = t.rising; holder = t.into; nodes = one-old t.low now.tree.forest n down-first_old }

  pub down-room : (step : model.World → model.World) → ((w : model.World) → Keeps now w → (step w).made ≤ (walk here (n ∷ path) w).made) → HasNumbers now step
  down-room step less =
      room-within now (λ w. closed_all moves parts (walk here (n ∷ path) w)) step
      (λ w k. let a = less w k in let b = closed-grows moves parts (walk here (n ∷ path) w) in omega (arith, a, b)) t.room

  pub down-next : (next : World) (step : model.World → model.World) (p : Partial) → ((w : model.World) → Keeps now w → walk here (n ∷ path) w ≡ closed_one moves p (walk p.inner path (step w))) → Follows now next step → Stays now next → IsWhole next → Goes t.low now next → IsUnfinished t.low next.tree.forest p → IsPathTo next.tree.forest offset path →
      IsGoingDown initial next moves offset whole walk (parts ++ p ∷ []) p.inner path
  down-next next step p same f s h g u e = record {
    stays_whole = h;
    still = stays-then initial now next t.still s;
    low = t.low;
    rising = g.rising;
    into = inner-holder t.low next.tree.forest p u;
    nodes = λ m x. old-goes t.low now next g m (rest-old t.low now.tree.forest n path t.nodes m x);
    way = e;
    unfinished = unfinished-push t.low next.tree.forest parts p (all_unfinished-go t.low now next g parts t.unfinished) u;
    room = room-after now next (λ w. closed_all moves parts (walk here (n ∷ path) w)) step (λ w. closed_all moves (parts ++ p ∷ []) (walk p.inner path w)) same_closed f t.room;
    rest = λ final g.
        t.rest final (follows-as now final (λ w. closed_all moves (parts ++ p ∷ []) (walk p.inner path (step w))) (λ w. closed_all moves parts (walk here (n ∷ path) w)) same_closed
        (follows-then now next final step (λ w. closed_all moves (parts ++ p ∷ []) (walk p.inner path w)) f g));
  }
    where
      same_closed : (w : model.World) → Keeps now w → closed_all moves parts (walk here (n ∷ path) w) ≡ closed_all moves (parts ++ p ∷ []) (walk p.inner path (step w))
      same_closed w k = ap (closed_all moves parts) (same w k) ∙ sym (closed-push moves parts p (walk p.inner path (step w)))

  module _ (last : World) (f : Follows now last (walk here (n ∷ path))) where
    pub down-close : Goes t.low now last → MayClose last parts
    down-close g = record { low = t.low; rising = g.rising; parts = all_unfinished-go t.low now last g parts t.unfinished }

    pub down-close_room : HasNumbers last (closed_all moves parts)
    down-close_room = room-after now last (λ w. closed_all moves parts (walk here (n ∷ path) w)) (walk here (n ∷ path)) (closed_all moves parts) (λ w k. refl) f t.room

    pub down-end : (final : World) → Follows last final (closed_all moves parts) → Follows initial final whole
    down-end final g = t.rest final (follows-then now last final (walk here (n ∷ path)) (closed_all moves parts) f g)

-- the first node of a tail is opened
pub tail-down : (v : World) (moves : Bool) (into offset n m : ℕ) (path : List ℕ) (p : Partial) → p.copy ≡ v.tree.made → ((w : model.World) → Keeps v w → p.inner ≡ inner_of into n w) → p.children.items ≡ past m (children_of v.tree.forest n) →
    (w : model.World) → Keeps v w → tail_into moves into offset (n ∷ m ∷ path) w ≡ closed_one moves p (tail_into moves p.inner offset (m ∷ path) (opened into n w))
tail-down v moves into offset n m path p ec ei ek w k =
    sym (ap (λ (c : ℕ). append p.inner c (children_into moves p.inner p.children.items (tail_into moves p.inner offset (m ∷ path) (opened into n w)))) (ec ∙ sym k.made)
    ∙ ap (λ (i : ℕ). append i w.made (children_into moves i p.children.items (tail_into moves i offset (m ∷ path) (opened into n w)))) (ei w k)
    ∙ ap (λ (ks : List ℕ). append (inner_of into n w) w.made (children_into moves (inner_of into n w) ks (tail_into moves (inner_of into n w) offset (m ∷ path) (opened into n w))))
    (ek ∙ ap (λ (g : Forest Content). past m (children_of g n)) (sym k.forest)))

-- The list of the nodes below, from an index on.
module _ (initial now : World) (moves : Bool) (offset : ℕ) (whole : model.World → model.World) (walk : ℕ → List ℕ → model.World → model.World) (parts : List Partial) (here n : ℕ) (below : List ℕ) (i : ℕ) (t : IsGoingDown initial now moves offset whole walk parts here (n ∷ drop i below)) where
  pub down-more : (x : ℕ) → x ≡ slice_index_or below i x → i < length below → IsGoingDown initial now moves offset whole walk parts here (n ∷ x ∷ drop (i + 1) below)
  down-more x is lt = subst (λ (ns : List ℕ). IsGoingDown initial now moves offset whole walk parts here (n ∷ ns)) (listed below i x is lt) t

  pub down-last : length below ≤ i → IsGoingDown initial now moves offset whole walk parts here (n ∷ [])
  down-last le = subst (λ (ns : List ℕ). IsGoingDown initial now moves offset whole walk parts here (n ∷ ns)) (none-left below i le) t

-- the second node of the path is there too
pub down-next_held : (initial now : World) (moves : Bool) (offset : ℕ) (whole : model.World → model.World) (walk : ℕ → List ℕ → model.World → model.World) (parts : List Partial) (here n m : ℕ) (path : List ℕ) → IsGoingDown initial now moves offset whole walk parts here (n ∷ m ∷ path) → HasNode now.tree.forest m
down-next_held initial now moves offset whole walk parts here n m path t =
    HasNode-occurs now.tree.forest m (old-there t.low now.tree.forest m (first-old t.low now.tree.forest m path (rest-old t.low now.tree.forest n (m ∷ path) t.nodes)))

pub no_partials : (ps : List Partial) → length ps ≡ 0 → ps ≡ []
no_partials [] e = refl
no_partials (p ∷ ps) e = absurd (omega arith)

pub fewer : (ps : List Partial) (p : Partial) → length ps < length (ps ++ p ∷ [])
fewer ps p = let l = length-append ps (p ∷ []) in omega (arith, l)
