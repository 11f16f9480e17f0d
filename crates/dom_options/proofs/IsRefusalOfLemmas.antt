-- What is told of words comes of the faults that clap finds in them.
use Rattle.std.proofs.Common.{◌≡◌, ◌∙◌, Bool, true, false, not, [], ◌∷◌, ◌||◌, ap, refl, sym, inl, inr, true≢false}
use Rattle.std.specs.List.{list_any}
use Rattle.clap.specs.{Words.HasKind, Words.IsAmong, Words.Kinds, Words.kind_of, declared.error.Error.Error, declared.error.kind.ErrorKind.ErrorKind}
use Rattle.dom_options.specs.{CommandLine.IsRefusalOf, CommandLine.TellsOf, CommandLine.is_request, declared.options.Refusal.Refusal, declared.options.Refusal.TheVariants.Memory, declared.options.Refusal.TheVariants.Help, declared.options.Refusal.TheVariants.Mistake}

any_among : (p : ErrorKind → Bool) (k : ErrorKind) (ks : Kinds) → IsAmong k ks → p k ≡ true → list_any p ks ≡ true
any_among p k [] among holds = absurd among
any_among p k (x ∷ xs) (inl same) holds =
    let here : p x ≡ true = ap p (sym same) ∙ holds in
    rw here refl
any_among p k (x ∷ xs) (inr among) holds = go (p x) (any_among p k xs among holds)
  where
    go : (b : Bool) → list_any p xs ≡ true → (b || list_any p xs) ≡ true
    go true rest = refl
    go false rest = rest

pub told : (faults : Kinds) (e : Error) (r : Refusal) → HasKind faults e → IsRefusalOf (kind_of e) r → TellsOf faults r
told faults e Memory has of = tt
told faults e (Help text) (inl memory) of =
    let bad : false ≡ true = ap is_request (sym memory) ∙ of in
    absurd (true≢false (sym bad))
told faults e (Help text) (inr among) of = any_among is_request (kind_of e) faults among of
told faults e (Mistake text) (inl memory) of = absurd (of.1 memory)
told faults e (Mistake text) (inr among) of = any_among (λ k. not (is_request k)) (kind_of e) faults among (ap not of.0)
