-- What may be inserted under a parent that is no Document is not refused. DOM Standard, "Mutation algorithms": ensure pre-insertion validity.
use Rattle.std.proofs.Common.{◌≡◌, ℕ, Bool, true, false, not, ◌&&◌, ◌||◌, Option, Some, None, refl, ap, ◌∙◌}
use Rattle.dom_model.specs.declared.Kind.TheVariants.{Text, Document, DocumentType}
use Rattle.dom_model.specs.Definitions.{is_number, Forest, parent_of, ancestors, Content, if_given, document_refuses, check_insert, kind_passes, is_of_kind, IsChildOf, IsInsertable}
use Rattle.dom_model.proofs.PlainLists.Numbers.{same_or, same, apart}
use Rattle.dom_model.proofs.Forests.Climbing.{hits-not_among}
use Rattle.dom_model.proofs.MutationAlgorithms.ChecksKept.{allowed}

pub unrefused : (f : Forest Content) (n parent : ℕ) (child : Option ℕ) → IsInsertable f n parent child → is_of_kind Document f parent ≡ false → check_insert f parent n child ≡ None
unrefused f n parent child k plain =
    allowed f parent n child (record {
      may_hold = ap not k.may_hold;
      outside = hits-not_among n (ancestors parent f) k.outside;
      found = under child k.before_child;
      no_document = k.no_document;
      placed = misplaced (is_of_kind Text f n) (is_of_kind Document f parent) (is_of_kind DocumentType f n) plain k.doctype_fits;
      fits = ap (λ b. b && kind_passes (λ j. document_refuses j f parent n child) f n) plain;
    })
  where
    under : (c : Option ℕ) → IsChildOf f parent c → if_given (λ m. not (is_number (parent_of f m) parent)) c ≡ false
    under None h = refl
    under (Some m) h = ap (λ q. not (is_number q parent)) h ∙ (elim (same_or parent parent) [ same e t ↦ ap not t | apart ne t ↦ absurd (ne refl) ])

    misplaced : (text document doctype : Bool) → document ≡ false → (doctype && not document) ≡ false → ((text && document) || (doctype && not document)) ≡ false
    misplaced true true doctype h k = h
    misplaced true false doctype h k = k
    misplaced false document doctype h k = k
