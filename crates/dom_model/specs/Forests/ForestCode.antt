-- The codes of labels, nodes, forests and groves, by which a proof tells their values apart.
use Rattle.std.specs.Prelude.{◌≡◌, ℕ, ◌==◌, refl, List, if◌then◌else◌}
use Rattle.std.specs.Coded.{Coded, code_by, coded×, coded_ℕ, coded_list}
use mathlib.Core.Path.{sym, ap, subst}
use base.Stored.{Gv, gnil, gnum, gcons}
use Rattle.dom_model.specs.declared.Kind.{Kind}
use Rattle.dom_model.specs.declared.Kind.TheVariants.{Element, Text, ProcessingInstruction, Comment, Document, DocumentType, DocumentFragment}
use Rattle.dom_model.specs.Forests.Kinds.{Label, number_of_kind}
use Rattle.dom_model.specs.Forests.Forest.{Node, Forest, empty, node, Grove}

-- the kind of a nodeType, where there is one
abbrev pub kind_numbered : ℕ → Kind
kind_numbered n =
    if n == 1 then Element else if n == 3 then Text else if n == 7 then ProcessingInstruction else if n == 8 then Comment else if n == 9 then Document
    else if n == 10 then DocumentType else DocumentFragment

pub kind_numbered-number : (k : Kind) → kind_numbered (number_of_kind k) ≡ k
kind_numbered-number Element = refl
kind_numbered-number Text = refl
kind_numbered-number ProcessingInstruction = refl
kind_numbered-number Comment = refl
kind_numbered-number Document = refl
kind_numbered-number DocumentType = refl
kind_numbered-number DocumentFragment = refl

abbrev pub kind_code : Coded Kind
kind_code = code_by ℕ coded_ℕ number_of_kind kind_numbered kind_numbered-number

abbrev pub label_code : Coded Label
label_code =
    code_by (Kind × (List ℕ × (List ℕ × List ℕ))) (coded× kind_code (coded× (coded_list coded_ℕ) (coded× (coded_list coded_ℕ) (coded_list coded_ℕ))))
    (λ l. (l.kind, (l.name, (l.public_id, l.system_id)))) (λ p. record { kind = p.0; name = p.1.0; public_id = p.1.1.0; system_id = p.1.1.1 }) (λ _. refl)

abbrev pub node_code : {X : Type 0} → Coded X → Coded (Node X)
node_code {X} c =
    code_by (ℕ × (ℕ × (Label × X))) (coded× coded_ℕ (coded× coded_ℕ (coded× label_code c))) (λ n. (n.number, (n.document, (n.label, n.body))))
    (λ p. record { number = p.0; document = p.1.0; label = p.1.1.0; body = p.1.1.1 }) (λ _. refl)

abbrev pub head : Gv → Gv
head gnil = gnil
head (gnum n) = gnil
head (gcons a b) = a

abbrev pub tail : Gv → Gv
tail gnil = gnil
tail (gnum n) = gnil
tail (gcons a b) = b

abbrev pub IsCons : Gv → Type 0
IsCons gnil = ⊥
IsCons (gnum n) = ⊥
IsCons (gcons a b) = Unit {0}

pub code_of_forest : {X : Type 0} → (Node X → Gv) → Forest X → Gv
code_of_forest c empty = gnil
code_of_forest c (node x kids rest) = gcons (c x) (gcons (code_of_forest c kids) (code_of_forest c rest))

module _ {X : Type 0} (a : Coded X) where
  pub forest_apart : (f g : Forest X) → code_of_forest (node_code a).code f ≡ code_of_forest (node_code a).code g → f ≡ g
  unfolding code_of_forest
  forest_apart empty empty p = refl
  forest_apart (node x k r) (node y l s) p =
      λ i. node ((node_code a).inj x y (ap head p) i) (forest_apart k l (ap (λ g. head (tail g)) p) i) (forest_apart r s (ap (λ g. tail (tail g)) p) i)
  forest_apart empty (node y l s) p = absurd (subst IsCons (sym p) tt)
  forest_apart (node x k r) empty p = absurd (subst IsCons p tt)

  abbrev pub forest_code : Coded (Forest X)
  forest_code = record { code = code_of_forest (node_code a).code; inj = forest_apart }

  abbrev pub grove_code : Coded (Grove X)
  grove_code = code_by (Forest X × ℕ) (coded× forest_code coded_ℕ) (λ g. (g.forest, g.made)) (λ p. record { forest = p.0; made = p.1 }) (λ _. refl)
