-- Kinds of what goes into a fragment and of what takes it. DOM Standard, "Interface Range" (extract, clone the contents).
use Rattle.std.proofs.Common.{◌≡◌, true, false, refl}
use Rattle.std.proofs.lemmas.Bool.{false≢true}
use Rattle.dom_model.specs.declared.{Kind.Kind, Kind.TheVariants.Element, Kind.TheVariants.Text, Kind.TheVariants.ProcessingInstruction, Kind.TheVariants.Comment, Kind.TheVariants.Document, Kind.TheVariants.DocumentType, Kind.TheVariants.DocumentFragment}
use Rattle.dom_model.specs.Definitions.{is_kind, may_be_parent}
use Rattle.dom_model.proofs.RangesAndContents.DrawnPieces.{is_drawn}
use Rattle.dom_content.specs.DrawConditions.{may_go_in}

pub goes-drawn : (k : Kind) → may_go_in k ≡ true → is_drawn k ≡ true
goes-drawn Element h = refl
goes-drawn Text h = refl
goes-drawn ProcessingInstruction h = refl
goes-drawn Comment h = refl
goes-drawn Document h = absurd (false≢true h)
goes-drawn DocumentType h = absurd (false≢true h)
goes-drawn DocumentFragment h = absurd (false≢true h)

pub drawn-goes : (k : Kind) → is_drawn k ≡ true → may_go_in k ≡ true
drawn-goes Element h = refl
drawn-goes Text h = refl
drawn-goes ProcessingInstruction h = refl
drawn-goes Comment h = refl
drawn-goes Document h = absurd (false≢true h)
drawn-goes DocumentType h = absurd (false≢true h)
drawn-goes DocumentFragment h = absurd (false≢true h)

pub fragment-holds : (k : Kind) → is_kind DocumentFragment k ≡ true → may_be_parent k ≡ true
fragment-holds Element h = absurd (false≢true h)
fragment-holds Text h = absurd (false≢true h)
fragment-holds ProcessingInstruction h = absurd (false≢true h)
fragment-holds Comment h = absurd (false≢true h)
fragment-holds Document h = absurd (false≢true h)
fragment-holds DocumentType h = absurd (false≢true h)
fragment-holds DocumentFragment h = refl

pub fragment-document : (k : Kind) → is_kind DocumentFragment k ≡ true → is_kind Document k ≡ false
fragment-document Element h = refl
fragment-document Text h = refl
fragment-document ProcessingInstruction h = refl
fragment-document Comment h = refl
fragment-document Document h = absurd (false≢true h)
fragment-document DocumentType h = refl
fragment-document DocumentFragment h = refl

pub fragment-doctype : (k : Kind) → is_kind DocumentFragment k ≡ true → is_kind DocumentType k ≡ false
fragment-doctype Element h = refl
fragment-doctype Text h = refl
fragment-doctype ProcessingInstruction h = refl
fragment-doctype Comment h = refl
fragment-doctype Document h = refl
fragment-doctype DocumentType h = absurd (false≢true h)
fragment-doctype DocumentFragment h = refl
