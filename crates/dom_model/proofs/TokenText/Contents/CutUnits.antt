-- The text of a root where the units of a node from an offset on go, and where those up to an offset go.
use Rattle.std.proofs.Common.{◌≡◌, ℕ, suc, ◌+◌, ◌-◌, ◌≤◌, true, List, [], ◌∷◌, ◌++◌, length, take, drop, None, refl, ap, sym, ◌∙◌, arith, append-nil, eq-eqb}
use Rattle.std.proofs.lemmas.{Bool.Decides.nat_tests, List.drop_all}
use Rattle.dom_model.specs.Definitions.{is_character_data, with_node, World, IsSound, kind_passes, cut_count, data_of, with_data, cut_from, cut_up_to, Token, Open, Close, no_marks, before_open, from_open, unit_tokens, root_text}
use Rattle.dom_model.proofs.TokenText.{Pieces.TokenLists.opened, Pieces.TokenLists.before_open-skips, Pieces.TokenLists.from_open-skips, Marked.MarkedFirst.kinds-childless, Contents.NodesOut.text-opens, Contents.DeletedUnits.data-there, Contents.LeafPlaces.opened-around}

-- A text that opens a node once, in two ways of telling.

first-open : (n : ℕ) (xs ys : List Token) → opened n xs ≡ 0 → before_open n (xs ++ (Open n ∷ ys)) ≡ xs
first-open n xs ys o = before_open-skips n xs (Open n ∷ ys) o ∙ (rw (eq-eqb n n refl) (append-nil xs))

from-first : (n : ℕ) (xs ys : List Token) → opened n xs ≡ 0 → from_open n (xs ++ (Open n ∷ ys)) ≡ Open n ∷ ys
from-first n xs ys o = from_open-skips n xs (Open n ∷ ys) o ∙ (rw (eq-eqb n n refl) refl)

abbrev tail_of_list : List Token → List Token
tail_of_list [] = []
tail_of_list (t ∷ ts) = ts

same-ahead : (n : ℕ) (xs ys us vs : List Token) → opened n xs ≡ 0 → opened n us ≡ 0 → xs ++ (Open n ∷ ys) ≡ us ++ (Open n ∷ vs) → (xs ≡ us) × (ys ≡ vs)
same-ahead n xs ys us vs o p e = (
  sym (first-open n xs ys o) ∙ ap (before_open n) e ∙ first-open n us vs p,
  ap tail_of_list (sym (from-first n xs ys o) ∙ ap (from_open n) e ∙ from-first n us vs p),
)

-- units up to a close are the same, and what follows
units-same : (n i j : ℕ) (us vs : List ℕ) (xs ys : List Token) → unit_tokens no_marks n i us ++ (Close ∷ xs) ≡ unit_tokens no_marks n j vs ++ (Close ∷ ys) → (us ≡ vs) × (xs ≡ ys)
units-same n i j [] [] xs ys e = (refl, ap tail_of_list e)
units-same n i j [] (v ∷ vs) xs ys e = absurd (cc e)
units-same n i j (u ∷ us) [] xs ys e = absurd (cc e)
units-same n i j (u ∷ us) (v ∷ vs) xs ys e =
    let d : u ≡ v = cc e in
    let r = units-same n (suc i) (suc j) us vs xs ys (ap tail_of_list e) in
    (ap (λ m. m ∷ us) d ∙ ap (λ ms. v ∷ ms) r.0, r.1)

-- a node with data in a text that is told
pub record Told_data (v : World) (root n : ℕ) (us : List ℕ) (ahead behind : List Token) : Type 0 where
  pub units : data_of v n ≡ us
  pub changed : (vs : List ℕ) → root_text (with_node n (with_data vs) v.forest) root ≡ ahead ++ (Open n ∷ (unit_tokens no_marks n 0 vs ++ (Close ∷ behind)))

pub told_data : (v : World) (root n : ℕ) (us : List ℕ) (ahead behind : List Token) → IsSound v → kind_passes is_character_data v.forest n ≡ true → root_text v.forest root ≡ ahead ++ (Open n ∷ (unit_tokens no_marks n 0 us ++ (Close ∷ behind))) → Told_data v root n us ahead behind
told_data v root n us ahead behind s kind text =
    let rest = unit_tokens no_marks n 0 us ++ (Close ∷ behind) in
    let sum = ap (opened n) text ∙ opened-around n ahead rest in
    let le = text-opens v root n s in
    let o = s.forest.once n in
    let free : opened n ahead ≡ 0 = omega arith in
    let once : opened n (root_text v.forest root) ≤ 1 = omega arith in
    let d = data-there v root n s.forest.once (kinds-childless None v.forest s.forest.kinds) (omega arith) kind (omega arith) in
    let others = unit_tokens no_marks n 0 (data_of v n) ++ (Close ∷ d.behind) in
    let here = ap (opened n) d.now ∙ opened-around n d.ahead others in
    let both = same-ahead n d.ahead others ahead (unit_tokens no_marks n 0 us ++ (Close ∷ behind)) (omega arith) free (sym d.now ∙ text) in
    let units = units-same n 0 0 (data_of v n) us d.behind behind both.1 in
    record {
      units = units.0;
      changed = λ vs. d.changed vs ∙ (rw (both.0, units.1) refl);
    }

-- Cutting.

count-whole : (l o c : ℕ) → o + c ≤ l → cut_count l o c ≡ c
count-whole l o c h = grind (arith, nat_tests)

-- the units from an offset on go
pub text-cut_from : (v : World) (root n offset : ℕ) (us : List ℕ) (ahead behind : List Token) → IsSound v → kind_passes is_character_data v.forest n ≡ true → offset ≤ length us → root_text v.forest root ≡ ahead ++ (Open n ∷ (unit_tokens no_marks n 0 us ++ (Close ∷ behind))) → root_text (cut_from n offset v).forest root ≡ ahead ++ (Open n ∷ (unit_tokens no_marks n 0 (take offset us) ++ (Close ∷ behind)))
text-cut_from v root n offset us ahead behind s kind fits text =
    let d = told_data v root n us ahead behind s kind text in
    let whole : length (data_of v n) ≡ length us = ap (λ ms. length ms) d.units in
    let count : cut_count (length (data_of v n)) offset (length (data_of v n) - offset) ≡ length us - offset =
    count-whole (length (data_of v n)) offset (length (data_of v n) - offset) (omega arith) ∙ ap (λ l. l - offset) whole
    in
    let none : drop (offset + (length us - offset)) us ≡ [] = drop_all (offset + (length us - offset)) us (omega arith) in
    let left : (take offset (data_of v n) ++ []) ++ drop (offset + cut_count (length (data_of v n)) offset (length (data_of v n) - offset)) (data_of v n) ≡ take offset us =
    rw (count, d.units, none) (simp append-nil)
    in
    rw kind
    (d.changed ((take offset (data_of v n) ++ []) ++ drop (offset + cut_count (length (data_of v n)) offset (length (data_of v n) - offset)) (data_of v n))
    ∙ ap (λ ms. ahead ++ (Open n ∷ (unit_tokens no_marks n 0 ms ++ (Close ∷ behind)))) left)

-- the units up to an offset go
pub text-cut_up_to : (v : World) (root n offset : ℕ) (us : List ℕ) (ahead behind : List Token) → IsSound v → kind_passes is_character_data v.forest n ≡ true → offset ≤ length us → root_text v.forest root ≡ ahead ++ (Open n ∷ (unit_tokens no_marks n 0 us ++ (Close ∷ behind))) → root_text (cut_up_to n offset v).forest root ≡ ahead ++ (Open n ∷ (unit_tokens no_marks n 0 (drop offset us) ++ (Close ∷ behind)))
text-cut_up_to v root n offset us ahead behind s kind fits text =
    let d = told_data v root n us ahead behind s kind text in
    let whole : length (data_of v n) ≡ length us = ap (λ ms. length ms) d.units in
    let z : 0 + offset ≡ offset = omega arith in
    let count : cut_count (length (data_of v n)) 0 offset ≡ offset = count-whole (length (data_of v n)) 0 offset (omega arith) in
    let left : ([] ++ []) ++ drop (0 + cut_count (length (data_of v n)) 0 offset) (data_of v n) ≡ drop offset us =
    ap (λ c. drop (0 + c) (data_of v n)) count ∙ ap (λ c. drop c (data_of v n)) z ∙ ap (drop offset) d.units
    in
    rw kind
    (d.changed (([] ++ []) ++ drop (0 + cut_count (length (data_of v n)) 0 offset) (data_of v n))
    ∙ ap (λ ms. ahead ++ (Open n ∷ (unit_tokens no_marks n 0 ms ++ (Close ∷ behind)))) left)
