-- Steps of the functions of this crate, over plain variables.
use Rattle.std.proofs.Common.{◌≡◌, ◌≢◌, ℕ, suc, ◌+◌, ◌≤◌, List, [], ◌∷◌, ◌++◌, length, map, take, Bool, true, false, Option, Some, None, option_and_then, option_map, is_some, Result, Ok, Err, refl, sym, ap, ◌∙◌, append_assoc, append-nil, add-one, cond, true≢false, slice_get, codes, find, filter, bytes_eq, arith, IsUtf8, Vec}
use Rattle.std.proofs.lemmas.{Bool.Decides.nat_tests, Slice.Eq.bytes_eq-Decides, List.take_all, Str.is_utf8-from_IsUtf8, Str.IsUtf8-from_is_utf8}
use Rattle.std.specs.{declared.alloc.Global.Global, Str.is_utf8}
use Rattle.json.specs.{Token.Token, Token.begin_array, Token.end_array, Tree.items_tokens, Print.print, Written.Written, Written.Writes}
use Rattle.serde_json.specs.{Data.Data, Data.null, Data.boolean, Data.number, Data.string, Data.array, Data.object, Find.as_array, Find.as_bool, Find.as_str, Find.as_object, Find.get, Read.read, View.view, View.items_of, View.items_view, declared.value.Value.Value, declared.value.Value.TheVariants.Array, Written.items_outline, Written.compact_text}
use Rattle.serde_json.proofs.{Views.view-Array, Texts.print-outline}
use Rattle.dom_model.specs.Definitions.{list_of, arguments_from, with_argument, command_in_array, command_among, is_row_of, named_in, rule_from, if_member, list_in, options_in, GivenOptions, Row, Shape, Arguments, json_of}
use Rattle.dom_model.specs.Commands.Printed as printed
use Rattle.dom_wire.specs.{Rows.is_of_length, Prints.tokens_of, Prints.tokens_of_all, Prints.Adds}
use Rattle.dom_observe.proofs.GatherLemmas.{take-next}

-- ---- reading

pub json_of-text : (line : List ℕ) (d : Data) → IsUtf8 line → read line ≡ Some d → json_of line ≡ Some d
unfolding json_of
json_of-text line d text e = rw (is_utf8-from_IsUtf8 line text) e

if_text : (b : Bool) (o : Option Data) → (b ≡ true → o ≡ None) → cond b o None ≡ None
if_text true o h = h refl
if_text false o h = refl

pub json_of-none : (line : List ℕ) → (IsUtf8 line → read line ≡ None) → json_of line ≡ None
unfolding json_of
json_of-none line h = if_text (is_utf8 line) (read line) (λ text. h (IsUtf8-from_is_utf8 line text))

pub list_of-items_of : (ds : List Data) → list_of (items_of ds) ≡ ds
list_of-items_of [] = refl
list_of-items_of (d ∷ ds) = ap (λ rest. d ∷ rest) (list_of-items_of ds)

none_then : {A B : Type 0} (f : A → Option B) (o : Option A) → ((a : A) → f a ≡ None) → option_and_then f o ≡ None
none_then f None h = refl
none_then f (Some a) h = h a

-- as many arguments as shapes
pub arguments_from-none : (i : ℕ) (shapes : List Shape) (ds : List Data) (a : Arguments) → length shapes ≢ length ds → arguments_from i shapes ds a ≡ None
arguments_from-none i [] [] a other = absurd (other refl)
arguments_from-none i [] (d ∷ ds) a other = refl
arguments_from-none i (s ∷ shapes) [] a other = refl
arguments_from-none i (s ∷ shapes) (d ∷ ds) a other =
    none_then (arguments_from (suc i) shapes ds) (with_argument s d i a) (λ b. arguments_from-none (suc i) shapes ds b (λ e. other (ap suc e)))

pub command_in-array : (table : List Row) (value : Value) (items : Vec Value Global) → value ≡ Array items → command_in_array table (as_array (view value)) ≡ command_among table (map view items.items)
command_in-array table value items is = rw (is, view-Array items) (ap (command_among table) (list_of-items_of (map view items.items)))

-- ---- finding names

not_true : (b : Bool) → (b ≡ true → false ≡ true) → b ≡ false
not_true true h = sym (h refl)
not_true false h = refl

find-kept : {A : Type 0} (p : A → Bool) (x : A) (kept : Bool) (some xs : List A) → (p x ≡ true → kept ≡ true) → find p some ≡ find p xs
    → find p (cond kept (x ∷ some) some) ≡ cond (p x) (Some x) (find p xs)
find-kept p x true some xs h e = ap (cond (p x) (Some x)) e
find-kept p x false some xs h e = rw (not_true (p x) h) e

-- what is left out of a list would not have been found
find-filter : {A : Type 0} (p q : A → Bool) → ((x : A) → p x ≡ true → q x ≡ true) → (xs : List A) → find p (filter q xs) ≡ find p xs
find-filter p q h [] = refl
find-filter p q h (x ∷ xs) = find-kept p x (q x) (filter q xs) xs (h x) (find-filter p q h xs)

same_length : (name : List ℕ) (r : Row) → is_row_of name r ≡ true → is_of_length (length name) r ≡ true
same_length name r e = rw ((bytes_eq-Decides r.name name).0 e) (grind (arith, nat_tests))

-- a name is found among those of its length
pub find-of_length : (name : List ℕ) (table : List Row) → find (is_row_of name) (filter (is_of_length (length name)) table) ≡ find (is_row_of name) table
find-of_length name table = find-filter (is_row_of name) (is_of_length (length name)) (same_length name) table

-- the options of seven members, each as it was read
gathered : Option (Option Bool) → Option (Option Bool) → Option (Option Bool) → Option (Option Bool) → Option (Option Bool) → Option (Option Bool) → Option (Option (List (List ℕ))) → Option GivenOptions
gathered a b c d e f g =
    option_and_then (λ child_list. option_and_then (λ attributes. option_and_then (λ character_data. option_and_then (λ subtree. option_and_then (λ attribute_old_value.
    option_and_then (λ character_data_old_value. option_map (λ attribute_filter. record {
      child_list = child_list;
      attributes = attributes;
      character_data = character_data;
      subtree = subtree;
      attribute_old_value = attribute_old_value;
      character_data_old_value = character_data_old_value;
      attribute_filter = attribute_filter;
    }) g) f) e) d) c) b) a

gathered-all : (o1 o2 o3 o4 o5 o6 : Option (Option Bool)) (o7 : Option (Option (List (List ℕ)))) (a b c d e f : Option Bool) (g : Option (List (List ℕ)))
    → o1 ≡ Some a → o2 ≡ Some b → o3 ≡ Some c → o4 ≡ Some d → o5 ≡ Some e → o6 ≡ Some f → o7 ≡ Some g
    → gathered o1 o2 o3 o4 o5 o6 o7
    ≡ Some (record { child_list = a; attributes = b; character_data = c; subtree = d; attribute_old_value = e; character_data_old_value = f; attribute_filter = g })
unfolding gathered
gathered-all o1 o2 o3 o4 o5 o6 o7 a b c d e f g e1 e2 e3 e4 e5 e6 e7 = rw (e1, e2, e3, e4, e5, e6, e7) refl

gathered-but-last : (o1 o2 o3 o4 o5 o6 : Option (Option Bool)) (o7 : Option (Option (List (List ℕ)))) (a b c d e : Option Bool)
    → o1 ≡ Some a → o2 ≡ Some b → o3 ≡ Some c → o4 ≡ Some d → o5 ≡ Some e → o6 ≡ None → gathered o1 o2 o3 o4 o5 o6 o7 ≡ None
unfolding gathered
gathered-but-last o1 o2 o3 o4 o5 o6 o7 a b c d e e1 e2 e3 e4 e5 e6 = rw (e1, e2, e3, e4, e5, e6) refl

-- an object's options, each member read
pub options-read : (x : Data) (a b c d e f : Option Bool) (g : Option (List (List ℕ))) → is_some (as_object x) ≡ true
    → if_member as_bool (get (codes "childList") x) ≡ Some a → if_member as_bool (get (codes "attributes") x) ≡ Some b → if_member as_bool (get (codes "characterData") x) ≡ Some c
    → if_member as_bool (get (codes "subtree") x) ≡ Some d → if_member as_bool (get (codes "attributeOldValue") x) ≡ Some e → if_member as_bool (get (codes "characterDataOldValue") x) ≡ Some f
    → if_member (list_in as_str) (get (codes "attributeFilter") x) ≡ Some g
    → options_in x ≡ Some (record { child_list = a; attributes = b; character_data = c; subtree = d; attribute_old_value = e; character_data_old_value = f; attribute_filter = g })
unfolding gathered
options-read null a b c d e f g t e1 e2 e3 e4 e5 e6 e7 = absurd (true≢false (sym t))
options-read (boolean y) a b c d e f g t e1 e2 e3 e4 e5 e6 e7 = absurd (true≢false (sym t))
options-read (number y) a b c d e f g t e1 e2 e3 e4 e5 e6 e7 = absurd (true≢false (sym t))
options-read (string y) a b c d e f g t e1 e2 e3 e4 e5 e6 e7 = absurd (true≢false (sym t))
options-read (array y) a b c d e f g t e1 e2 e3 e4 e5 e6 e7 = absurd (true≢false (sym t))
options-read (object ms) a b c d e f g t e1 e2 e3 e4 e5 e6 e7 = gathered-all _ _ _ _ _ _ _ a b c d e f g e1 e2 e3 e4 e5 e6 e7

-- the last of the flags is none
pub options-none : (x : Data) (a b c d e : Option Bool) → is_some (as_object x) ≡ true
    → if_member as_bool (get (codes "childList") x) ≡ Some a → if_member as_bool (get (codes "attributes") x) ≡ Some b → if_member as_bool (get (codes "characterData") x) ≡ Some c
    → if_member as_bool (get (codes "subtree") x) ≡ Some d → if_member as_bool (get (codes "attributeOldValue") x) ≡ Some e → if_member as_bool (get (codes "characterDataOldValue") x) ≡ None
    → options_in x ≡ None
unfolding gathered
options-none null a b c d e t e1 e2 e3 e4 e5 e6 = absurd (true≢false (sym t))
options-none (boolean y) a b c d e t e1 e2 e3 e4 e5 e6 = absurd (true≢false (sym t))
options-none (number y) a b c d e t e1 e2 e3 e4 e5 e6 = absurd (true≢false (sym t))
options-none (string y) a b c d e t e1 e2 e3 e4 e5 e6 = absurd (true≢false (sym t))
options-none (array y) a b c d e t e1 e2 e3 e4 e5 e6 = absurd (true≢false (sym t))
options-none (object ms) a b c d e t e1 e2 e3 e4 e5 e6 = gathered-but-last _ _ _ _ _ _ _ a b c d e e1 e2 e3 e4 e5 e6

-- a rule has two items
pub rule_from-none : (vs : List Value) → length vs ≢ 2 → rule_from (items_view vs) ≡ None
rule_from-none [] other = refl
rule_from-none (a ∷ []) other = refl
rule_from-none (a ∷ b ∷ []) other = absurd (other refl)
rule_from-none (a ∷ b ∷ x ∷ vs) other = refl

-- a text is none of the names of a list
abbrev pub IsNoneOf : {A : Type 0} → List ℕ → List (List ℕ × A) → Type 0
IsNoneOf name [] = Unit {0}
IsNoneOf name (p ∷ ps) = (name ≢ p.0) × IsNoneOf name ps

pub named_in-none : {A : Type 0} (name : List ℕ) (ps : List (List ℕ × A)) → IsNoneOf name ps → named_in ps name ≡ None
named_in-none name [] none = refl
named_in-none name (p ∷ ps) none = rw (not_true (bytes_eq p.0 name) (λ e. absurd (none.0 (sym ((bytes_eq-Decides p.0 name).0 e))))) (named_in-none name ps none.1)

-- ---- printing

-- the tokens of a list, with its closing bracket
pub items_tokens-items_of : (ds : List Data) → items_tokens (items_outline (printed.items_of ds)) ≡ tokens_of_all ds ++ end_array ∷ []
items_tokens-items_of [] = refl
items_tokens-items_of (d ∷ ds) = ap (λ rest. tokens_of d ++ rest) (items_tokens-items_of ds) ∙ sym (append_assoc (tokens_of d) (tokens_of_all ds) (end_array ∷ []))

closed : (before tokens : List Token) (ds : List Data) → tokens ≡ before ++ begin_array ∷ tokens_of_all ds → tokens ++ end_array ∷ [] ≡ before ++ tokens_of (printed.list_json ds)
closed before tokens ds e =
    ap (λ ts. ts ++ end_array ∷ []) e ∙ append_assoc before (begin_array ∷ tokens_of_all ds) (end_array ∷ []) ∙ ap (λ ts. before ++ begin_array ∷ ts) (sym (items_tokens-items_of ds))

-- the loop that writes a list has come to its end
pub list_closed : {E A : Type 0} (r : Result (Unit {0}) E) (old mid new : Written) (f : A → Data) (xs : List A) (i : ℕ) → length xs ≤ i → mid.before ≡ old.before
    → mid.tokens ≡ old.tokens ++ begin_array ∷ tokens_of_all (map f (take i xs)) → Writes r mid new end_array → Adds r old new (tokens_of (printed.list_json (map f xs)))
list_closed (Ok x) old mid new f xs i all kept so_far last =
    let whole : mid.tokens ≡ old.tokens ++ begin_array ∷ tokens_of_all (map f xs) = so_far ∙ ap (λ ys. old.tokens ++ begin_array ∷ tokens_of_all (map f ys)) (take_all i xs all) in
    record { tokens = last.ok ∙ closed old.tokens mid.tokens (map f xs) whole; before = last.room.0 ∙ kept }
list_closed (Err e) old mid new f xs i all kept so_far last = record { tokens = tt; before = last.room.0 ∙ kept }

-- the tokens of a reply, printed after nothing
pub line_of_tokens : (before line : List ℕ) (start tokens : List Token) (d : Data) → line ≡ before ++ print tokens → before ≡ [] → tokens ≡ start ++ tokens_of d → start ≡ []
    → line ++ 10 ∷ [] ≡ compact_text d ++ 10 ∷ []
line_of_tokens before line start tokens d is no_text added no_tokens = rw (is, no_text, added, no_tokens) (ap (λ text. text ++ 10 ∷ []) (print-outline d))

-- a function after another on each
pub map-twice : {A B C : Type 0} (f : B → C) (g : A → B) (xs : List A) → map f (map g xs) ≡ map (λ x. f (g x)) xs
map-twice f g [] = refl
map-twice f g (x ∷ xs) = ap (λ ys. f (g x) ∷ ys) (map-twice f g xs)

tokens-last : {A : Type 0} (f : A → Data) (xs : List A) (a : A) → tokens_of_all (map f (xs ++ a ∷ [])) ≡ tokens_of_all (map f xs) ++ tokens_of (f a)
tokens-last f [] a = append-nil (tokens_of (f a))
tokens-last f (x ∷ xs) a = ap (λ ts. tokens_of (f x) ++ ts) (tokens-last f xs a) ∙ sym (append_assoc (tokens_of (f x)) (tokens_of_all (map f xs)) (tokens_of (f a)))

-- one more of a list is written
pub list_grown : {A : Type 0} (f : A → Data) (old mid new : List Token) (xs : List A) (i : ℕ) (a : A) → slice_get xs i ≡ Some a
    → mid ≡ old ++ begin_array ∷ tokens_of_all (map f (take i xs)) → new ≡ mid ++ tokens_of (f a) → new ≡ old ++ begin_array ∷ tokens_of_all (map f (take (i + 1) xs))
list_grown f old mid new xs i a here so_far added =
    rw (add-one, take-next xs i a here, tokens-last f (take i xs) a)
    (added ∙ ap (λ ts. ts ++ tokens_of (f a)) so_far ∙ append_assoc old (begin_array ∷ tokens_of_all (map f (take i xs))) (tokens_of (f a)))
