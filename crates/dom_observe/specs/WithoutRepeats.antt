-- Registrations without those that come again.
use Rattle.std.specs.Prelude.{Bool, not, ◌&&◌, List, [], ◌∷◌, filter, nat_eq, bytes_eq}
use Rattle.std.specs.Bool.{beq}
use Rattle.std.specs.Option.{option_eq}
use Rattle.std.specs.Cmp.Lexicographic.{pointwise}
use Rattle.dom_model.specs.Worlds.World.{Options, Registration}

abbrev pub same_options : Options → Options → Bool
same_options a b =
    beq a.child_list b.child_list
    && (beq a.attributes b.attributes
    && (beq a.character_data b.character_data
    && (beq a.subtree b.subtree
    && (beq a.attribute_old_value b.attribute_old_value
    && (beq a.character_data_old_value b.character_data_old_value
    && option_eq (pointwise bytes_eq) a.attribute_filter b.attribute_filter)))))

-- two registrations are equal in every field
abbrev pub same_registration : Registration → Registration → Bool
same_registration r s = nat_eq r.node s.node && (nat_eq r.observer s.observer && (option_eq nat_eq r.source s.source && same_options r.options s.options))

-- later equal ones are left out
abbrev pub once : List Registration → List Registration
once [] = []
once (r ∷ rs) = r ∷ filter (λ s. not (same_registration r s)) (once rs)
