-- The keys that each node has, as the map from nodes to keys changes.
use Rattle.std.proofs.Common.{◌≡◌, ℕ, ◌==◌, Bool, true, false, cond, if◌then◌else◌, List, [], ◌∷◌, ◌++◌, length, filter, Option, option_map, Some, None, refl, ap, sym, ◌∙◌, subst, nat_eq, append-nil, arith, is_some}
use Rattle.std.specs.Map.{lookup, set_value, keys_of}
use Rattle.indexmap.specs.IndexMap.{insert_entry}
use Rattle.dom_model.specs.Definitions.{among}
use Rattle.dom_model.proofs.PlainLists.Numbers.{Same, same_or, same, apart}
use Rattle.dom_observe.specs.{Keys.Keys, Watchers.on, Registrations.listed, Registrations.HaveKeys, Registrations.KeysLeft}

-- a look-up finds what is among the numbers
pub some-lookup : {A : Type 0} (n : ℕ) (es : List (ℕ × A)) → is_some (lookup (nat_eq n) es) ≡ among n (keys_of es)
some-lookup n [] = refl
some-lookup n (e ∷ es) =
    elim (same_or n e.0) [
      | same d t ↦ elim (same_or e.0 n) [ same _ u ↦ rw (t, u) refl | apart ne u ↦ absurd (ne (sym d)) ]
      | apart ne t ↦ elim (same_or e.0 n) [ same d u ↦ absurd (ne (sym d)) | apart _ u ↦ rw (t, u) (some-lookup n es) ]
    ]

-- the keys of a node, by what a look-up found
abbrev pub items_in : Option Keys → List ℕ
items_in None = []
items_in (Some keys) = keys.items

pub on-lookup : (n : ℕ) (es : List (ℕ × Keys)) → on n (listed es) ≡ items_in (lookup (nat_eq n) es)
on-lookup n [] = refl
on-lookup n (e ∷ es) = go (n == e.0) (on-lookup n es)
  where
    go : (v : Bool) → on n (listed es) ≡ items_in (lookup (nat_eq n) es) → (if v then e.1.items else on n (listed es)) ≡ items_in (cond v (Some e.1) (lookup (nat_eq n) es))
    go true i = refl
    go false i = i

-- other keys for a node, with the same items
pub listed-set_value : (k : ℕ) (es : List (ℕ × Keys)) (v w : Keys) → lookup (nat_eq k) es ≡ Some v → w.items ≡ v.items → listed (set_value (nat_eq k) es w) ≡ listed es
listed-set_value k [] v w h i = refl
listed-set_value k (e ∷ es) v w h i = go (k == e.0) refl h (listed-set_value k es v w)
  where
    go : (b : Bool) → (k == e.0) ≡ b → cond b (Some e.1) (lookup (nat_eq k) es) ≡ Some v → (lookup (nat_eq k) es ≡ Some v → w.items ≡ v.items → listed (set_value (nat_eq k) es w) ≡ listed es)
        → listed (cond b ((e.0, w) ∷ es) (e ∷ set_value (nat_eq k) es w)) ≡ (e.0, e.1.items) ∷ listed es
    go true t g rest = let d : e.1 ≡ v = cc in ap (λ items. (e.0, items) ∷ listed es) (i ∙ ap (λ (u : Keys). u.items) (sym d))
    go false t g rest = ap (λ xs. (e.0, e.1.items) ∷ xs) (rest g i)

-- one more key for a node that has keys
pub on-set_value : (n k key : ℕ) (es : List (ℕ × Keys)) (v w : Keys) → lookup (nat_eq k) es ≡ Some v → w.items ≡ v.items ++ key ∷ []
    → on n (listed (set_value (nat_eq k) es w)) ≡ on n (listed es) ++ (if n == k then key ∷ [] else [])
on-set_value n k key [] v w h i = cc
on-set_value n k key (e ∷ es) v w h i = go (same_or k e.0) (same_or n e.0) (on-set_value n k key es v w)
  where
    go : Same k e.0 → Same n e.0 → (lookup (nat_eq k) es ≡ Some v → w.items ≡ v.items ++ key ∷ [] → on n (listed (set_value (nat_eq k) es w)) ≡ on n (listed es) ++ (if n == k then key ∷ [] else []))
        → on n (listed (set_value (nat_eq k) (e ∷ es) w)) ≡ on n (listed (e ∷ es)) ++ (if n == k then key ∷ [] else [])
    go (same d t) (same f u) rest =
        let g = rw t at h in
        let same_vec : e.1 ≡ v = cc g in
        let m : (n == k) ≡ true = subst (λ j. (n == j) ≡ true) (sym d) u in
        rw (t, u, m) (i ∙ ap (λ (x : Keys). x.items ++ key ∷ []) (sym same_vec))
    go (same d t) (apart ne u) rest =
        let m : (n == k) ≡ false = subst (λ j. (n == j) ≡ false) (sym d) u in
        rw (t, u, m) (sym (append-nil (on n (listed es))))
    go (apart ne t) (same f u) rest =
        let m : (n == k) ≡ false = elim (same_or n k) [ same g _ ↦ absurd (ne (sym g ∙ f)) | apart _ x ↦ x ] in
        rw (t, u, m) (sym (append-nil e.1.items))
    go (apart ne t) (apart nf u) rest =
        let g = rw t at h in
        rw (t, u) (rest g i)

-- the first key of a node
pub on-insert_entry : (n k key : ℕ) (es : List (ℕ × Keys)) (w : Keys) → lookup (nat_eq k) es ≡ None → w.items ≡ key ∷ []
    → on n (listed (insert_entry nat_eq es k w)) ≡ on n (listed es) ++ (if n == k then key ∷ [] else [])
on-insert_entry n k key [] w h i = ap (λ items. if n == k then items else []) i
on-insert_entry n k key (e ∷ es) w h i = go (same_or k e.0) (same_or n e.0) (on-insert_entry n k key es w)
  where
    go : Same k e.0 → Same n e.0 → (lookup (nat_eq k) es ≡ None → w.items ≡ key ∷ [] → on n (listed (insert_entry nat_eq es k w)) ≡ on n (listed es) ++ (if n == k then key ∷ [] else []))
        → on n (listed (insert_entry nat_eq (e ∷ es) k w)) ≡ on n (listed (e ∷ es)) ++ (if n == k then key ∷ [] else [])
    go (same d t) z rest = let g = rw t at h in cc g
    go (apart ne t) (same f u) rest =
        let m : (n == k) ≡ false = elim (same_or n k) [ same g _ ↦ absurd (ne (sym g ∙ f)) | apart _ x ↦ x ] in
        rw (t, u, m) (sym (append-nil e.1.items))
    go (apart ne t) (apart nf u) rest =
        let g = rw t at h in
        rw (t, u) (rest g i)

-- what a node has in the lists, by its keys
pub looked-set : (n k : ℕ) (es : List (ℕ × Keys)) (v w : Keys) → lookup (nat_eq k) es ≡ Some v → lookup (nat_eq n) (listed (set_value (nat_eq k) es w)) ≡ (if n == k then Some w.items else lookup (nat_eq n) (listed es))
looked-set n k [] v w h = cc
looked-set n k (e ∷ es) v w h = go (same_or k e.0) (same_or n e.0) (looked-set n k es v w)
  where
    go : Same k e.0 → Same n e.0 → (lookup (nat_eq k) es ≡ Some v → lookup (nat_eq n) (listed (set_value (nat_eq k) es w)) ≡ (if n == k then Some w.items else lookup (nat_eq n) (listed es)))
        → lookup (nat_eq n) (listed (set_value (nat_eq k) (e ∷ es) w)) ≡ (if n == k then Some w.items else lookup (nat_eq n) (listed (e ∷ es)))
    go (same d t) (same f u) rest = let m : (n == k) ≡ true = subst (λ j. (n == j) ≡ true) (sym d) u in rw (t, u, m) refl
    go (same d t) (apart ne u) rest = let m : (n == k) ≡ false = subst (λ j. (n == j) ≡ false) (sym d) u in rw (t, u, m) refl
    go (apart ne t) (same f u) rest =
        let m : (n == k) ≡ false = elim (same_or n k) [ same g _ ↦ absurd (ne (sym g ∙ f)) | apart _ x ↦ x ] in
        rw (t, u, m) refl
    go (apart ne t) (apart nf u) rest = let g = rw t at h in rw (t, u) (rest g)

pub looked-insert : (n k : ℕ) (es : List (ℕ × Keys)) (w : Keys) → lookup (nat_eq k) es ≡ None → lookup (nat_eq n) (listed (insert_entry nat_eq es k w)) ≡ (if n == k then Some w.items else lookup (nat_eq n) (listed es))
looked-insert n k [] w h = refl
looked-insert n k (e ∷ es) w h = go (same_or k e.0) (same_or n e.0) (looked-insert n k es w)
  where
    go : Same k e.0 → Same n e.0 → (lookup (nat_eq k) es ≡ None → lookup (nat_eq n) (listed (insert_entry nat_eq es k w)) ≡ (if n == k then Some w.items else lookup (nat_eq n) (listed es)))
        → lookup (nat_eq n) (listed (insert_entry nat_eq (e ∷ es) k w)) ≡ (if n == k then Some w.items else lookup (nat_eq n) (listed (e ∷ es)))
    go (same d t) z rest = let g = rw t at h in cc g
    go (apart ne t) (same f u) rest =
        let m : (n == k) ≡ false = elim (same_or n k) [ same g _ ↦ absurd (ne (sym g ∙ f)) | apart _ x ↦ x ] in
        rw (t, u, m) refl
    go (apart ne t) (apart nf u) rest = let g = rw t at h in rw (t, u) (rest g)

pub looked-listed : (n : ℕ) (es : List (ℕ × Keys)) → lookup (nat_eq n) (listed es) ≡ option_map (λ (v : Keys). v.items) (lookup (nat_eq n) es)
looked-listed n [] = refl
looked-listed n (e ∷ es) = go (n == e.0) (looked-listed n es)
  where
    go : (b : Bool) → lookup (nat_eq n) (listed es) ≡ option_map (λ (v : Keys). v.items) (lookup (nat_eq n) es)
        → cond b (Some e.1.items) (lookup (nat_eq n) (listed es)) ≡ option_map (λ (v : Keys). v.items) (cond b (Some e.1) (lookup (nat_eq n) es))
    go true i = refl
    go false i = i

-- the keys of a node, by a look-up in the lists
abbrev pub keys_in : Option (List ℕ) → List ℕ
keys_in None = []
keys_in (Some keys) = keys

pub on-looked : (n : ℕ) (lists : List (ℕ × List ℕ)) → on n lists ≡ keys_in (lookup (nat_eq n) lists)
on-looked n [] = refl
on-looked n (e ∷ es) = go (n == e.0) (on-looked n es)
  where
    go : (b : Bool) → on n es ≡ keys_in (lookup (nat_eq n) es) → (if b then e.1 else on n es) ≡ keys_in (cond b (Some e.1) (lookup (nat_eq n) es))
    go true i = refl
    go false i = i

-- another list of keys for one node, which has a key
pub full-changed : (k : ℕ) (new : List ℕ) (lists lists' : List (ℕ × List ℕ)) → ((n : ℕ) → lookup (nat_eq n) lists' ≡ (if n == k then Some new else lookup (nat_eq n) lists)) → (new ≡ [] → ⊥) → HaveKeys lists → HaveKeys lists'
full-changed k new lists lists' changed some full n keys found = go (n == k) (sym (changed n) ∙ found)
  where
    go : (b : Bool) → (if b then Some new else lookup (nat_eq n) lists) ≡ Some keys → keys ≡ [] → ⊥
    go true e = let d : new ≡ keys = cc e in λ none. some (d ∙ none)
    go false e = full n keys e

pub some_key : (xs ys : List ℕ) (key : ℕ) → ys ≡ xs ++ key ∷ [] → ys ≡ [] → ⊥
some_key [] ys key e none = let k : key ∷ [] ≡ [] = sym e ∙ none in cc k
some_key (x ∷ xs) ys key e none = let k : x ∷ (xs ++ key ∷ []) ≡ [] = sym e ∙ none in cc k

-- keys are taken out of those of a node, which stays listed
module _ (k : ℕ) (stays : ℕ → Bool) (es : List (ℕ × Keys)) (v w : Keys) (there : lookup (nat_eq k) es ≡ Some v) (taken : w.items ≡ filter stays v.items) where
  taken-on : (n : ℕ) → on n (listed (set_value (nat_eq k) es w)) ≡ (if n == k then filter stays (on n (listed es)) else on n (listed es))
  taken-on n = on-looked n (listed (set_value (nat_eq k) es w)) ∙ ap keys_in (looked-set n k es v w there) ∙ go (same_or n k)
    where
      go : Same n k → keys_in (if n == k then Some w.items else lookup (nat_eq n) (listed es)) ≡ (if n == k then filter stays (on n (listed es)) else on n (listed es))
      go (same e t) = rw t (taken ∙ sym (ap (filter stays) (ap (λ m. on m (listed es)) e ∙ on-lookup k es ∙ ap items_in there)))
      go (apart ne t) = rw t (sym (on-looked n (listed es)))

  taken-others : (n : ℕ) → (n ≡ k → ⊥) → lookup (nat_eq n) (listed (set_value (nat_eq k) es w)) ≡ lookup (nat_eq n) (listed es)
  taken-others n ne = looked-set n k es v w there ∙ elim (same_or n k) [ same e t ↦ absurd (ne e) | apart _ t ↦ rw t refl ]

  self_looked : lookup (nat_eq k) (listed (set_value (nat_eq k) es w)) ≡ Some w.items
  self_looked = looked-set k k es v w there ∙ elim (same_or k k) [ same e t ↦ rw t refl | apart ne t ↦ absurd (ne refl) ]

  taken-bare : (length w.items == 0) ≡ true → on k (listed (set_value (nat_eq k) es w)) ≡ []
  taken-bare empty = on-looked k (listed (set_value (nat_eq k) es w)) ∙ ap keys_in self_looked ∙ nothing w.items empty
    where
      nothing : (xs : List ℕ) → (length xs == 0) ≡ true → xs ≡ []
      nothing [] z = refl
      nothing (x ∷ xs) z = elim (same_or (length (x ∷ xs)) 0) [ same e t ↦ absurd (omega arith) | apart ne t ↦ let d : true ≡ false = sym z ∙ t in cc d ]

  taken-some : (length w.items == 0) ≡ false → (keys : List ℕ) → lookup (nat_eq k) (listed (set_value (nat_eq k) es w)) ≡ Some keys → keys ≡ [] → ⊥
  taken-some full keys found none =
      let d : w.items ≡ keys = (let e : Some w.items ≡ Some keys = sym self_looked ∙ found in cc e) in
      let e : true ≡ false = sym (ap (λ (xs : List ℕ). length xs == 0) (d ∙ none)) ∙ full in
      cc e

  pub keys-left : (n : ℕ) → k ≡ n → (b : Bool) → b ≡ (length w.items == 0) → KeysLeft n stays (listed es) (listed (set_value (nat_eq k) es w)) b
  keys-left n is b empty =
      subst (λ m. KeysLeft m stays (listed es) (listed (set_value (nat_eq k) es w)) b) is
      (record { kept = taken-on; others = taken-others; bare = λ yes. taken-bare (sym empty ∙ yes); some = λ no. taken-some (sym empty ∙ no) })

-- a node without an entry
pub keys-absent : (k : ℕ) (stays : ℕ → Bool) (es : List (ℕ × Keys)) → lookup (nat_eq k) es ≡ None → (n : ℕ) → k ≡ n → KeysLeft n stays (listed es) (listed es) false
keys-absent k stays es none n is = subst (λ m. KeysLeft m stays (listed es) (listed es) false) is (record {
  kept = kept;
  others = λ m ne. refl;
  bare = λ yes. cc yes;
  some = λ no keys found empty. let d : None ≡ Some keys = sym (looked-listed k es ∙ ap (option_map (λ (v : Keys). v.items)) none) ∙ found in cc d;
})
  where
    kept : (m : ℕ) → on m (listed es) ≡ (if m == k then filter stays (on m (listed es)) else on m (listed es))
    kept m = elim (same_or m k) [
      | same e t ↦
          let bare : on m (listed es) ≡ [] = ap (λ j. on j (listed es)) e ∙ on-lookup k es ∙ ap items_in none in
          rw t (bare ∙ sym (ap (filter stays) bare))
      | apart ne t ↦ rw t refl
    ]

-- the keys that an entry has are those of its node
pub keys-of_entry : (k : ℕ) (es : List (ℕ × Keys)) (v : Keys) → Some v ≡ lookup (nat_eq k) es → (n : ℕ) → k ≡ n → v.items ≡ on n (listed es)
keys-of_entry k es v there n is = ap items_in there ∙ sym (on-lookup k es) ∙ ap (λ m. on m (listed es)) is

-- a node that was left without keys goes
module _ (k : ℕ) (es es' : List (ℕ × Keys)) (gone : (n : ℕ) → lookup (nat_eq n) es' ≡ (if k == n then None else lookup (nat_eq n) es)) where
  looked-gone : (n : ℕ) → lookup (nat_eq n) (listed es') ≡ (if k == n then None else lookup (nat_eq n) (listed es))
  looked-gone n = looked-listed n es' ∙ ap (option_map (λ (v : Keys). v.items)) (gone n) ∙ go (k == n)
    where
      go : (b : Bool) → option_map (λ (v : Keys). v.items) (if b then None else lookup (nat_eq n) es) ≡ (if b then None else lookup (nat_eq n) (listed es))
      go true = refl
      go false = sym (looked-listed n es)

  pub gone-on : on k (listed es) ≡ [] → (n : ℕ) → on n (listed es') ≡ on n (listed es)
  gone-on bare n = on-looked n (listed es') ∙ ap keys_in (looked-gone n) ∙ elim (same_or k n) [
    | same e t ↦ rw t (sym (ap (λ m. on m (listed es)) (sym e) ∙ bare))
    | apart ne t ↦ rw t (sym (on-looked n (listed es)))
  ]

  pub gone-full : (lists : List (ℕ × List ℕ)) → ((n : ℕ) → (n ≡ k → ⊥) → lookup (nat_eq n) (listed es) ≡ lookup (nat_eq n) lists) → HaveKeys lists → HaveKeys (listed es')
  gone-full lists others full n keys found = go (same_or k n)
    where
      go : Same k n → keys ≡ [] → ⊥
      go (same e t) = let l = looked-gone n in let d : None ≡ Some keys = sym (rw t at l) ∙ found in cc d
      go (apart ne t) = let l = looked-gone n in full n keys (sym (others n (λ e. ne (sym e))) ∙ sym (rw t at l) ∙ found)

-- a node keeps a key
pub still-full : (k : ℕ) (lists lists' : List (ℕ × List ℕ)) → ((n : ℕ) → (n ≡ k → ⊥) → lookup (nat_eq n) lists' ≡ lookup (nat_eq n) lists) → ((keys : List ℕ) → lookup (nat_eq k) lists' ≡ Some keys → keys ≡ [] → ⊥) → HaveKeys lists → HaveKeys lists'
still-full k lists lists' others here full n keys found = go (same_or n k)
  where
    go : Same n k → keys ≡ [] → ⊥
    go (same e t) = here keys (ap (λ m. lookup (nat_eq m) lists') (sym e) ∙ found)
    go (apart ne t) = full n keys (sym (others n ne) ∙ found)
