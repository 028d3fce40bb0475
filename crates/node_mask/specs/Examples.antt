-- Masks worked out.
use Rattle.std.specs.Prelude.{◌≡◌, refl, [], ◌∷◌}
use Rattle.node_mask.specs.Nodes.{nodes_from, nodes_of}

none : nodes_of [] ≡ []
unfolding nodes_of nodes_from
none = refl

first : nodes_of (0x01 ∷ []) ≡ 1 ∷ []
unfolding nodes_of nodes_from
first = refl

last : nodes_of (0x80 ∷ []) ≡ 8 ∷ []
unfolding nodes_of nodes_from
last = refl

both : nodes_of (0x81 ∷ 0x03 ∷ []) ≡ 1 ∷ 8 ∷ 9 ∷ 10 ∷ []
unfolding nodes_of nodes_from
both = refl

-- the ninth byte is in the second word
far : nodes_of (0 ∷ 0 ∷ 0 ∷ 0 ∷ 0 ∷ 0 ∷ 0 ∷ 0 ∷ 0x11 ∷ []) ≡ 65 ∷ 69 ∷ []
unfolding nodes_of nodes_from
far = refl
