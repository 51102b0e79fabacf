-- Which marks descend from another, by looking as far as there are ancestors.
use Rattle.std.specs.Prelude.{ℕ, zero, suc, Bool, ◌||◌, ◌==◌}
use Rattle.swc_tree_marks.specs.Contexts.{outer_of}
use Rattle.swc_tree_marks.specs.Globals.{Table, parent_in}
use Rattle.swc_tree_scoping.specs.BoundNames.{Id}

-- the ancestor is the mark itself, or one of so many on the way through parents
abbrev pub descends_within : ℕ → Table → ℕ → ℕ → Bool
descends_within zero table mark ancestor = mark == ancestor
descends_within (suc n) table mark ancestor = mark == ancestor || descends_within n table (parent_in table mark) ancestor

-- a mark's number is above its parent's, so there are no more of them than its number says
abbrev pub descends_from : Table → ℕ → Id → Bool
descends_from table top x = descends_within (outer_of x.1) table (outer_of x.1) top
