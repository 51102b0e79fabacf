-- What two lists of identifiers tell that stand side by side, of two normal forms that were resolved.
use Rattle.std.specs.Prelude.{◌≡◌, ℕ, false, ◌⊎◌, ◌↔◌, IsTrue, List, [], ◌∷◌, Contains, map}
use Rattle.swc_tree_marks.specs.declared.ident.Ident.{Ident}
use Rattle.swc_tree_scoping.specs.Scopes.{is_name}
use Rattle.swc_tree_renaming.specs.Apart.{SameId}
use Rattle.swc_tree_walk.specs.Sites.{site_of}
use Rattle.swc_tree_walk.specs.declared.identifiers.Site.{Site}
use Rattle.swc_base_alpha_laws.specs.Alpha.{HasFreeId}
use Rattle.swc_base_alpha.specs.Side.{Seen, side}
use Rattle.swc_base_alpha.specs.declared.pairs.Question.{Question}
use Rattle.swc_base_alpha.specs.declared.pairs.Question.TheVariants as question
use Rattle.swc_base_alpha.specs.declared.differs.Rules.{Rules}
use Rattle.swc_base_alpha.specs.declared.verdict.Why.{Why}
use Rattle.swc_base_alpha.specs.declared.verdict.Why.TheVariants as why

-- as the code keeps them
abbrev pub pairs : List Site → List Site → List (Seen × Seen)
pairs ones others = side (map site_of ones) (map site_of others)

-- both are free or neither is, and free ones have one text
abbrev pub IsFreeAlike : (unresolved free : ℕ) → Ident → Ident → Type 0
IsFreeAlike unresolved free i j = (HasFreeId unresolved i ↔ HasFreeId free j) × (HasFreeId unresolved i → i.sym ≡ j.sym)

-- the id of a name that the program's own scope declares
abbrev pub HasTopId : ℕ → Ident → Type 0
HasTopId top i = i.ctxt ≡ top ∷ []

-- if one of both is declared by the program's own scope, they have one text
abbrev pub IsTopAlike : (top whole : ℕ) → Ident → Ident → Type 0
IsTopAlike top whole i j = HasTopId top i ⊎ HasTopId whole j → i.sym ≡ j.sym

-- what is asked of two identifiers at one place; the judge's marks are 1 for free names and 2 for the program
abbrev pub Meets : Question → Seen → Seen → Type 0
Meets question.Others x y = ¬ IsTrue (is_name x.0) → x.1.sym ≡ y.1.sym
Meets question.Free x y = IsTrue (is_name x.0) → IsFreeAlike 1 1 x.1 y.1
Meets question.Top x y = IsTrue (is_name x.0) → IsTopAlike 2 2 x.1 y.1
Meets question.Names x y = IsTrue (is_name x.0) → x.1.sym ≡ y.1.sym

abbrev pub EachPair : (Seen → Seen → Type 0) → List (Seen × Seen) → Type 0
EachPair P ps = (x y : Seen) → Contains ps (x, y) → P x y

-- names that have one id on the first side have one on the second
abbrev pub StaysOne : List (Seen × Seen) → Type 0
StaysOne ps = (x y z w : Seen) → Contains ps (x, y) → Contains ps (z, w) → IsTrue (is_name x.0) → IsTrue (is_name z.0) → SameId x.1 z.1 → SameId y.1 w.1

-- the condition that a word names, of two lists of trees that have one outline
abbrev pub ListAsks : Rules → List Seen → List Seen → Why → Type 0
ListAsks rules xs ys why.Shape = Unit {0}
ListAsks rules xs ys why.Name = EachPair (Meets question.Others) (side xs ys)
ListAsks rules xs ys why.Free = rules.caught ≡ false → EachPair (Meets question.Free) (side xs ys)
ListAsks rules xs ys why.Split = rules.caught ≡ false → StaysOne (side xs ys)
ListAsks rules xs ys why.Joined = rules.caught ≡ false → StaysOne (side ys xs)
ListAsks rules xs ys why.Top = rules.caught ≡ false → IsTrue rules.keep_top → EachPair (Meets question.Top) (side xs ys)
ListAsks rules xs ys why.Reads = IsTrue rules.reads → EachPair (Meets question.Names) (side xs ys)
ListAsks rules xs ys why.Caught = IsTrue rules.caught → EachPair (Meets question.Names) (side xs ys)
