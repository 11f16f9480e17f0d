-- Facts of one outcome of a call.
use Rattle.std.proofs.Common.{◌≡◌, Bool, Option, Some, None, ◌∙◌, Result, Ok, Err, IfOk, OnOk, OnErr, IfSome}
use Rattle.std.specs.Option.{MatchOption}

pub on_ok : {A E : Type 0} (r : Result A E) {P Q : Type 0} → OnOk r P → (P → Q) → OnOk r Q
on_ok (Ok x) h f = f h
on_ok (Err e) h f = h

pub on_both : {A E : Type 0} (r : Result A E) {P O Q : Type 0} → OnOk r P → OnOk r O → (P → O → Q) → OnOk r Q
on_both (Ok x) h o f = f h o
on_both (Err e) h o f = h

pub both_ok : {A E : Type 0} (r : Result A E) {P Q : A → Type 0} {O : Type 0} → IfOk r P → OnOk r O → ((x : A) → P x → O → Q x) → IfOk r Q
both_ok (Ok x) h o f = f x h o
both_ok (Err e) h o f = h

pub on_err : {A E : Type 0} (r : Result A E) {P Q : Type 0} → OnErr r P → (P → Q) → OnErr r Q
on_err (Ok x) h f = h
on_err (Err e) h f = f h

pub at_err : {A E : Type 0} (r : Result A E) {P : Type 0} → P → OnErr r P
at_err (Ok x) h = tt
at_err (Err e) h = h

pub both_err : {A E : Type 0} (r : Result A E) {P O Q : Type 0} → OnErr r P → OnErr r O → (P → O → Q) → OnErr r Q
both_err (Ok x) h o f = h
both_err (Err e) h o f = f h o

pub by_one : {A E : Type 0} (r : Result A E) {P B Q : Type 0} → OnOk r P → OnErr r B → (P → Q) → (B → Q) → Q
by_one (Ok x) h b f g = f h
by_one (Err e) h b f g = g b

pub by_both : {A E : Type 0} (r : Result A E) {P O B Q : Type 0} → OnOk r P → OnOk r O → OnErr r B → (P → O → Q) → (B → Q) → Q
by_both (Ok x) h o b f g = f h o
by_both (Err e) h o b f g = g b

pub by_outcome : {A E : Type 0} (r : Result A E) {P B C Q : Type 0} → OnOk r P → OnErr r B → OnErr r C → (P → Q) → (B → C → Q) → Q
by_outcome (Ok x) h b c f g = f h
by_outcome (Err e) h b c f g = g b c

-- a search that may have no answer, and one that then has it
pub by_either : (first : Option Bool) (P : Type 0) (result truth : Bool) → MatchOption first P (λ any. result ≡ any) → IfSome first (λ any. any ≡ truth) → (P → result ≡ truth) → result ≡ truth
by_either None P result truth m h f = f m
by_either (Some any) P result truth m h f = m ∙ h
