-- The worlds in which an element stands under the Document, without children and with one Text.
use Rattle.std.specs.Prelude.{ℕ, List, [], codes}
use Rattle.dom_model.specs.declared.Kind.TheVariants.{Element, Text}
use Rattle.dom_model.specs.Forests.Forest.{empty, node}
use Rattle.dom_model.specs.Worlds.World.{World, document_label, no_content, first_world}
use Rattle.dom_model.specs.Worlds.Making.{named, with_text}

-- the Document is numbered 0 and the element 1; there is no live range
abbrev pub empty_paragraph : World
empty_paragraph = record first_world {
  forest =
      node (record { number = 0; document = 0; label = document_label; body = no_content })
      (node (record { number = 1; document = 0; label = named Element (codes "p"); body = no_content }) empty empty)
      empty;
  made = 2;
}

-- the same, and the Text is numbered 2
abbrev pub paragraph : List ℕ → World
paragraph text = record first_world {
  forest =
      node (record { number = 0; document = 0; label = document_label; body = no_content })
      (node (record { number = 1; document = 0; label = named Element (codes "p"); body = no_content })
      (node (record { number = 2; document = 0; label = named Text []; body = with_text text }) empty empty)
      empty)
      empty;
  made = 3;
}
