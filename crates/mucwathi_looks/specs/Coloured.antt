-- The names of a program, as a page has them.
use Rattle.std.specs.List.{flat_map}
use Rattle.std.specs.List.Sorted.{IsNonDecreasingBy, IsPermutation}
use Rattle.std.specs.Option.{option_map}
use Rattle.std.specs.Prelude.{◌≡◌, ℕ, ◌-◌, nat_eq, Contains, List, [], ◌∷◌, Option, Some, None, if◌then◌else◌, map, string_bytes}
use Rattle.swc_tree_marks.specs.declared.ident.Ident.{Ident}
use Rattle.swc_tree_scoping.specs.declared.places.Standing.{Standing}
use Rattle.mucwathi_lists.specs.declared.changes.Change.{Change}
use Rattle.mucwathi_page.specs.declared.drawn.Use.{Use}

-- a variable: the mark of its scope, and its text
abbrev pub Variable : Type 0
Variable = ℕ × List ℕ

-- names with the mark of one scope are a variable's
abbrev pub with_marks : List ℕ → List ℕ → List Variable
with_marks sym (mark ∷ []) = (mark, sym) ∷ []
with_marks sym _ = []

abbrev pub variables_at : Standing × Ident → List Variable
variables_at s = with_marks s.1.sym s.1.ctxt

-- the first that is there
abbrev pub or_else : Option (List ℕ) → Option (List ℕ) → Option (List ℕ)
or_else (Some t) other = Some t
or_else None other = other

-- what the name at a place is called anew: what the last says that is told of it
abbrev pub new_at : List Change → ℕ → Option (List ℕ)
new_at [] place = None
new_at (c ∷ cs) place = or_else (new_at cs place) (if nat_eq c.at place then Some (string_bytes c.new) else None)

-- what a page has of a name: where it begins and ends, the number of its variable, the mark of its scope, and what it is called anew
abbrev pub told : Use → ℕ × ℕ × ℕ × ℕ × Option (List ℕ)
told u = (u.from, u.to, u.variable, u.mark, option_map (λ name. name.now) u.new)

abbrev pub told_at : (Variable → ℕ) → (ℕ → Option (List ℕ)) → Standing × Ident → List (ℕ × ℕ × ℕ × ℕ × Option (List ℕ))
told_at number new s = map (λ v. (s.1.span.lo - 1, s.1.span.hi - 1, number v, v.0, new (s.1.span.lo - 1))) (variables_at s)

-- each variable has a number, no two the same; the names are told of with these, in the order of the text
pub record AreUses (names : List (Standing × Ident)) (changes : List Change) (uses : List Use) : Type 0 where
  pub number : Variable → ℕ
  pub apart : (v w : Variable) → Contains (flat_map variables_at names) v → Contains (flat_map variables_at names) w → number v ≡ number w → v ≡ w
  pub are : IsPermutation (flat_map (told_at number (new_at changes)) names) (map told uses)
  pub rise : IsNonDecreasingBy (λ u. u.from) uses
