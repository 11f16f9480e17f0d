-- The codes of what a session holds, by which a proof tells two of them apart.
use Rattle.std.specs.Prelude.{ℕ, List, refl}
use Rattle.std.specs.Coded.{Coded, code_by, coded×, coded_ℕ, coded_list}
use Rattle.dom_model.specs.Forests.Attributes.{Attribute}
use Rattle.dom_model.specs.Worlds.World.{Content}

abbrev pub attribute_code : Coded Attribute
attribute_code = code_by (List ℕ × List ℕ) (coded× (coded_list coded_ℕ) (coded_list coded_ℕ)) (λ a. (a.name, a.value))
    (λ p. record { name = p.0; value = p.1 }) (λ _. refl)

abbrev pub content_code : Coded Content
content_code = code_by (List ℕ × List Attribute) (coded× (coded_list coded_ℕ) (coded_list attribute_code)) (λ c. (c.text, c.attributes))
    (λ p. record { text = p.0; attributes = p.1 }) (λ _. refl)
