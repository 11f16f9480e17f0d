-- A list of commands, without those that a test erases, is answered as what is left of the whole list's answers, where an erased command keeps two worlds
-- beside one another that only the first of them meets, and each other command keeps them so and is answered alike. A `discard` has to be answered alike.
use Rattle.std.proofs.Common.{◌≡◌, ℕ, Bool, true, false, not, if◌then◌else◌, List, [], ◌∷◌, refl, sym, ◌∙◌, arith}
use Rattle.std.specs.{Prelude.cond, Prelude.is_none, List.list_any}
use Rattle.std.proofs.lemmas.Bool.{or_parts, not-true}
use Rattle.dom_model.specs.Definitions.{entry_in, World, is_in_use, discarded, Command, Discard, Reply, Own, Bounds, Step, refused, does, answer, replies_to, commands_left, replies_left, discards, makes_no_discard, replies_to_discards}
use Rattle.dom_model.specs.declared.OwnError.TheVariants.{NoSuchObject, InUse}
use Rattle.dom_model.proofs.Erasure.{ErasedWorlds.left_world, ErasedWorlds.Without, ErasedWorlds.without, ErasedObserving.Follows}

module _ (b : Bounds) (erases : Command → Bool) (left : Command → Reply → Reply) (bars : Command → Bool) (Beside : World → World → Type 0) where
  -- the second world answers what is left of the first one's answer, and the next worlds are beside one another
  abbrev pub AnswersAlike : Command → World → World → Type 0
  AnswersAlike c x y = ((answer b y c).reply ≡ left c (answer b x c).reply) × Beside (answer b x c).world (answer b y c).world

  -- what each command does: the erased ones, the others that discard nothing, where they are not barred, and those that discard
  pub record IsErased : Type 0 where
    pub alone : (c : Command) (x y : World) → Beside x y → erases c ≡ true → Beside (answer b x c).world y
    pub keeps : (c : Command) → erases c ≡ true → discards c ≡ false
    pub others : (c : Command) (x y : World) → Beside x y → bars c ≡ false → discards c ≡ false → erases c ≡ false → AnswersAlike c x y
    pub discard : (c : Command) (x y : World) → Beside x y → discards c ≡ true → (answer b y c).reply ≡ (answer b x c).reply → AnswersAlike c x y

  -- each discard is answered alike from the second world, without the erased commands, and from the first
  abbrev AreAlike : List Command → World → World → Type 0
  AreAlike cs x y = replies_to_discards (commands_left erases cs) (replies_to b y (commands_left erases cs)) ≡ replies_to_discards cs (replies_to b x cs)

  -- what is answered from the second world, without the erased commands, is what is left of the answers from the first
  abbrev IsApart : List Command → World → World → Type 0
  IsApart cs x y = replies_to b y (commands_left erases cs) ≡ replies_left erases left cs (replies_to b x cs)

  one_more : IsErased → (c : Command) (cs : List Command) (x y : World) → Beside x y → bars c ≡ false → AreAlike (c ∷ cs) x y → ((x y : World) → Beside x y → AreAlike cs x y → IsApart cs x y) → IsApart (c ∷ cs) x y
  one_more s c cs x y h r a i = by_test (erases c) refl a
    where
      rest : List Command
      rest = commands_left erases cs

      x2 : World
      x2 = (answer b x c).world

      y2 : World
      y2 = (answer b y c).world

      goes_on : AnswersAlike c x y → AreAlike cs x2 y2 → (answer b y c).reply ∷ replies_to b y2 rest ≡ left c (answer b x c).reply ∷ replies_left erases left cs (replies_to b x2 cs)
      goes_on told k = let later = i x2 y2 told.1 k in let first = told.0 in cc

      by_discard : (v : Bool) → discards c ≡ v → erases c ≡ false → (if v then (answer b y c).reply ∷ replies_to_discards rest (replies_to b y2 rest) else replies_to_discards rest (replies_to b y2 rest)) ≡ (if v then (answer b x c).reply ∷ replies_to_discards cs (replies_to b x2 cs) else replies_to_discards cs (replies_to b x2 cs)) → (answer b y c).reply ∷ replies_to b y2 rest ≡ left c (answer b x c).reply ∷ replies_left erases left cs (replies_to b x2 cs)
      by_discard true d e k = goes_on (s.discard c x y h d (cc k)) (cc k)
      by_discard false d e k = goes_on (s.others c x y h r d e) k

      by_test : (v : Bool) → erases c ≡ v → replies_to_discards (cond (not v) (c ∷ rest) rest) (replies_to b y (cond (not v) (c ∷ rest) rest)) ≡ replies_to_discards (c ∷ cs) (replies_to b x (c ∷ cs)) → replies_to b y (cond (not v) (c ∷ rest) rest) ≡ (if v then replies_left erases left cs (replies_to b x2 cs) else left c (answer b x c).reply ∷ replies_left erases left cs (replies_to b x2 cs))
      by_test true e k = i x2 y (s.alone c x y h e) (rw (s.keeps c e) at k)
      by_test false e k = by_discard (discards c) refl e k

  pub alike_from : IsErased → (cs : List Command) (x y : World) → not (list_any bars cs) ≡ true → Beside x y → AreAlike cs x y → IsApart cs x y
  alike_from s [] x y r h a = refl
  alike_from s (c ∷ cs) x y r h a =
      let p = or_parts (bars c) (list_any bars cs) (not-true _ r) in
      one_more s c cs x y h p.0 a (λ x y h a. alike_from s cs x y (rw p.1 refl) h a)

  -- where nothing is discarded, nothing is answered to a discard

  none_told : (cs : List Command) (rs : List Reply) → makes_no_discard cs ≡ true → replies_to_discards cs rs ≡ []
  none_told [] rs d = refl
  none_told (c ∷ cs) [] d = refl
  none_told (c ∷ cs) (r ∷ rs) d = let p = or_parts (discards c) (list_any discards cs) (not-true _ d) in rw p.0 (none_told cs rs (rw p.1 refl))

  none_left : (cs : List Command) → makes_no_discard cs ≡ true → makes_no_discard (commands_left erases cs) ≡ true
  none_left [] d = refl
  none_left (c ∷ cs) d = grind (arith, none_left cs)

  pub apart_from : IsErased → (cs : List Command) (x y : World) → not (list_any bars cs) ≡ true → makes_no_discard cs ≡ true → Beside x y → IsApart cs x y
  apart_from s cs x y r d h = alike_from s cs x y r h (none_told (commands_left erases cs) _ (none_left cs d) ∙ sym (none_told cs _ d))

-- A discard that is answered alike keeps two worlds so.

pub discard-follows : (erased : ℕ → Bool) (watched : Bool) (b : Bounds) (c : Command) (x y : World) → Without erased watched x y → discards c ≡ true → (answer b y c).reply ≡ (answer b x c).reply → Follows erased watched c (answer b x c) (answer b y c)
discard-follows erased watched b (Discard n) x _ (without o v h) d e = go (is_none (entry_in x.forest n)) (is_in_use x n) (is_in_use (left_world watched o v x) n) e
  where
    y : World
    y = left_world watched o v x

    step : Bool → Bool → World → Step
    step gone used w = if gone then refused (Own NoSuchObject) w else if used then refused (Own InUse) w else does (discarded n w)

    go : (gone used other : Bool) → (step gone other y).reply ≡ (step gone used x).reply → Follows erased watched (Discard n) (step gone used x) (step gone other y)
    go true used other e = record { reply = e; world = without o v h }
    go false true true e = record { reply = e; world = without o v h }
    go false false false e = record { reply = e; world = without o v h }
    go false true false e = absurd (cc e)
    go false false true e = absurd (cc e)
discard-follows erased watched b c x y h d e = absurd (cc d)
