-- What was written, over several steps.
use Rattle.std.proofs.Common.{◌≡◌, ℕ, List, [], ◌∷◌, ◌++◌, Option, refl, sym, ap, ◌∙◌, subst, append_assoc, append-nil, inl, inr}
use Rattle.std.specs.Io.KnownBytes.{Appends}
use Rattle.std.proofs.KnownBytes.{Appends-trans, Appends-nil}
use Rattle.dom_model.specs.Definitions.{out_of_memory_line, joined}
use Rattle.dom_serve.specs.{declared.fault.Fault.Fault, declared.fault.Fault.TheVariants.Read, declared.fault.Fault.TheVariants.Write, declared.fault.Fault.TheVariants.Memory, declared.fault.Fault.TheVariants.InputTooLong, Writes.IsPrefix, Writes.AppendsFront, Output.SaysOutOfMemory, Output.IsCutShort, Server.Grows, Server.IsBroken, Server.Breaks, Server.SaysWant}
use Rattle.dom_serve.proofs.LinesLemmas.{joined-append, joined-single, IsPrefix-trans, IsPrefix-joined, IsPrefix-after}

-- nothing became due
pub Grows-same : (before after : List (List ℕ)) (taken : Option (List ℕ)) → after ≡ before → Grows before after taken taken
Grows-same before after taken e = record { more = []; after_is = e ∙ sym (append-nil before); written = Appends-nil taken }

-- one reply became due
pub Grows-one : (before after : List (List ℕ)) (reply : List ℕ) (taken taken' : Option (List ℕ)) → after ≡ before ++ reply ∷ [] → Appends taken taken' reply
    → Grows before after taken taken'
Grows-one before after reply taken taken' e p = record {
  more = reply ∷ [];
  after_is = e;
  written = subst (λ l. Appends taken taken' l) (sym (append-nil reply)) p;
}

pub Grows-trans : (before middle after : List (List ℕ)) (taken taken' taken'' : Option (List ℕ)) → Grows before middle taken taken' → Grows middle after taken' taken''
    → Grows before after taken taken''
Grows-trans before middle after taken taken' taken'' p q = record {
  more = p.more ++ q.more;
  after_is = q.after_is ∙ ap (λ l. l ++ q.more) p.after_is ∙ append_assoc before p.more q.more;
  written = subst (λ l. Appends taken taken'' l) (sym (joined-append p.more q.more)) (Appends-trans taken taken' taken'' (joined p.more) (joined q.more) p.written q.written);
}

-- what is written for all that is due, from what was written before and what grew
pub Grows-written : (before after : List (List ℕ)) (first taken taken' : Option (List ℕ)) → Appends first taken (joined before) → Grows before after taken taken'
    → Appends first taken' (joined after)
Grows-written before after first taken taken' p q =
    subst (λ l. Appends first taken' l) (sym (ap joined q.after_is ∙ joined-append before q.more))
    (Appends-trans first taken taken' (joined before) (joined q.more) p q.written)

SaysOutOfMemory-more : (before after : List (List ℕ)) (whole : List ℕ) → IsPrefix before after → SaysOutOfMemory before whole → SaysOutOfMemory after whole
SaysOutOfMemory-more before after whole p s = (s.0, IsPrefix-trans s.0 before after s.1 p, s.2)

IsCutShort-more : (before after : List (List ℕ)) (whole : List ℕ) → IsPrefix before after → IsCutShort before whole → IsCutShort after whole
IsCutShort-more before after whole p s =
    elim s [
      | inl h ↦ inl (IsPrefix-trans whole (joined before) (joined after) h (IsPrefix-joined before after p))
      | inr h ↦ inr (h.0, SaysOutOfMemory-more before after h.0 p h.1, h.2)
    ]

IsBroken-more : (before after : List (List ℕ)) (fault : Fault) (whole : List ℕ) → IsPrefix before after → IsBroken before fault whole → IsBroken after fault whole
IsBroken-more before after Read whole p s = s
IsBroken-more before after Write whole p s = IsCutShort-more before after whole p s
IsBroken-more before after Memory whole p s = SaysOutOfMemory-more before after whole p s
IsBroken-more before after InputTooLong whole p s = s

-- at the same fault more may be due
pub Breaks-more : (before middle after : List (List ℕ)) (taken taken' : Option (List ℕ)) (fault : Fault) → IsPrefix middle after
    → Breaks before middle taken taken' fault → Breaks before after taken taken' fault
Breaks-more before middle after taken taken' fault p q = record {
  text = q.text;
  written = q.written;
  broken = IsBroken-more middle after fault (joined before ++ q.text) p q.broken;
}

-- a fault after what was written before
pub Breaks-after : (before middle after : List (List ℕ)) (taken taken' taken'' : Option (List ℕ)) (fault : Fault) → Grows before middle taken taken'
    → Breaks middle after taken' taken'' fault → Breaks before after taken taken'' fault
Breaks-after before middle after taken taken' taken'' fault p q =
    let same : joined middle ++ q.text ≡ joined before ++ (joined p.more ++ q.text) =
    ap (λ l. l ++ q.text) (ap joined p.after_is ∙ joined-append before p.more) ∙ append_assoc (joined before) (joined p.more) q.text in
    record {
      text = joined p.more ++ q.text;
      written = Appends-trans taken taken' taken'' (joined p.more) q.text p.written q.written;
      broken = subst (λ l. IsBroken after fault l) same q.broken;
    }

-- the out-of-memory line, or a front of it
pub Breaks-want : (before after : List (List ℕ)) (taken taken' : Option (List ℕ)) (fault : Fault) → IsPrefix before after → SaysWant taken taken' fault
    → Breaks before after taken taken' fault
Breaks-want before after taken taken' Read p s = absurd s
Breaks-want before after taken taken' Write p s = record {
  text = s.0;
  written = s.2;
  broken = inr (joined before ++ out_of_memory_line, (before, p, refl), IsPrefix-after (joined before) s.0 out_of_memory_line s.1);
}
Breaks-want before after taken taken' Memory p s = record { text = out_of_memory_line; written = s; broken = (before, p, refl) }
Breaks-want before after taken taken' InputTooLong p s = absurd s

-- a front of the next reply
pub Breaks-front : (before after : List (List ℕ)) (reply : List ℕ) (taken taken' : Option (List ℕ)) → after ≡ before ++ reply ∷ [] → AppendsFront taken taken' reply
    → Breaks before after taken taken' Write
Breaks-front before after reply taken taken' e p = record {
  text = p.0;
  written = p.2;
  broken = inl (subst (λ l. IsPrefix (joined before ++ p.0) l) (sym (ap joined e ∙ joined-single before reply)) (IsPrefix-after (joined before) p.0 reply p.1));
}
