-- The marks of identifiers, as signs that stand behind them.
use Rattle.std.specs.List.{flat_map, zip}
use Rattle.std.specs.List.Sorted.{IsNonDecreasingBy, IsPermutation}
use Rattle.std.specs.Prelude.{ℕ, ◌-◌, ◌==◌, Bool, not, List, [], ◌∷◌, length, map}
use Rattle.swc_tree_marks.specs.declared.ident.Ident.{Ident}
use Rattle.swc_tree_node.specs.declared.node.Node.{Node}
use Rattle.swc_tree_scoping.specs.declared.places.Standing.{Standing}
use Rattle.swc_tree_scoping.specs.Places.{program_place}
use Rattle.swc_tree_walk.specs.Sites.{sites}
use Rattle.mucwathi_signs.specs.declared.sign.Sign.{Sign}

-- so many bytes before it, these marks
abbrev pub told : Sign → ℕ × List ℕ
told s = (s.at, s.marks.items)

-- marks at a place, if there are some
abbrev pub marks_at : ℕ → List ℕ → List (ℕ × List ℕ)
marks_at place [] = []
marks_at place (m ∷ ms) = (place, m ∷ ms) ∷ []

-- the marks of one identifier, behind another
abbrev pub sign_between : Standing × Ident → Standing × Ident → List (ℕ × List ℕ)
sign_between name place = marks_at (place.1.span.hi - 1) name.1.ctxt

-- those of identifiers, behind others of the same number
abbrev pub signs_between : List (Standing × Ident) → List (Standing × Ident) → List (ℕ × List ℕ)
signs_between names places = flat_map (λ p. sign_between p.0 p.1) (zip names places)

-- those of all identifiers of a tree, behind themselves
abbrev pub signs_of : Node → List (ℕ × List ℕ)
signs_of t = flat_map (λ s. sign_between s s) (sites program_place t)

-- signs are these, in the order of the text
pub record AreSigns (all : List (ℕ × List ℕ)) (signs : List Sign) : Type 0 where
  pub are : IsPermutation all (map told signs)
  pub rise : IsNonDecreasingBy (λ s. s.at) signs

-- an identifier has marks
abbrev pub has_marks : Standing × Ident → Bool
has_marks s = not (length s.1.ctxt == 0)
