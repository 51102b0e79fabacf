-- The free names of a program that was resolved.
use Rattle.std.specs.Prelude.{◌≡◌, ℕ, Bool, false, not, ◌&&◌, ◌==◌, IsTrue, List, [], ◌∷◌, ◌++◌, if◌then◌else◌}
use Rattle.std.specs.Borrow.{Bor}
use Rattle.std.specs.List.{list_any}
use Rattle.std.specs.Str.{bytes_eq}
use Rattle.swc_tree_marks.specs.declared.ident.Ident.{Ident}
use Rattle.swc_tree_node.specs.declared.node.Node.{Node}
use Rattle.swc_tree_scoping.specs.declared.places.Standing.{Standing}
use Rattle.swc_tree_scoping.specs.Places.{program_place}
use Rattle.swc_tree_scoping.specs.Scopes.{is_reference}
use Rattle.swc_tree_walk.specs.Sites.{StandsIn, sites}

-- a text is free in a program: it is that of a reference whose context is the mark of names that nothing declares
abbrev pub IsFree : ℕ → Node → List ℕ → Type 0
IsFree unresolved t x = (r : Standing) × (i : Ident) × StandsIn program_place t r i × IsTrue (is_reference r) × (i.ctxt ≡ unresolved ∷ []) × (i.sym ≡ x)

abbrev pub is_only : ℕ → List ℕ → Bool
is_only mark (m ∷ []) = m == mark
is_only mark _ = false

abbrev pub is_free : ℕ → Standing × Ident → Bool
is_free unresolved s = is_reference s.0 && is_only unresolved s.1.ctxt

-- the texts of those that are free
abbrev pub free_texts : ℕ → List (Standing × Ident) → List (List ℕ)
free_texts unresolved [] = []
free_texts unresolved (s ∷ ss) = if is_free unresolved s then s.1.sym ∷ free_texts unresolved ss else free_texts unresolved ss

abbrev pub without : List ℕ → List (List ℕ) → List (List ℕ)
without x [] = []
without x (y ∷ ys) = if bytes_eq x y then without x ys else y ∷ without x ys

-- each where it comes first, and not again
abbrev pub once : List (List ℕ) → List (List ℕ)
once [] = []
once (x ∷ xs) = x ∷ without x (once xs)

-- the free names of a program, each once, in the order of the source
abbrev pub free_names : ℕ → Node → List (List ℕ)
free_names unresolved t = once (free_texts unresolved (sites program_place t))

-- one more, unless it is there
abbrev pub added : List ℕ → List (List ℕ) → List (List ℕ)
added x xs = if list_any (bytes_eq x) xs then xs else xs ++ x ∷ []

abbrev pub noted : ℕ → List (List ℕ) → Standing × Ident → List (List ℕ)
noted unresolved xs s = if is_free unresolved s then added s.1.sym xs else xs

-- the text behind a reference
abbrev pub text_of : Bor (List ℕ) → List ℕ
text_of s = s.now
