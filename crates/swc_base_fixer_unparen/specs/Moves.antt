-- What moves of comments lead to.
use Rattle.std.specs.Prelude.{◌≡◌, ◌⊎◌, List, [], ◌∷◌, ◌++◌, Option, Some, None, Result, Ok, Err}
use Rattle.std.specs.Borrow.{MutBor}
use Rattle.std.proofs.Common.{inl, inr}
use Rattle.swc_tree_comments.specs.declared.moves.Move.{Move}

-- what one move may lead to
abbrev pub Moving : Type 0 → Type 1
Moving C = C → Move → C → Type 0

-- the moves, made in order, lead from `c` to `d`
abbrev pub LeadTo : {C : Type 0} → Moving C → C → List Move → C → Type 0
LeadTo R c [] d = d ≡ c
LeadTo R c (m ∷ ms) d = (e : _) × R c m e × LeadTo R e ms d

-- a beginning of the moves does
abbrev pub LeadPartlyTo : {C : Type 0} → Moving C → C → List Move → C → Type 0
LeadPartlyTo R c ms d = (made : List Move) × (left : List Move) × (ms ≡ made ++ left) × LeadTo R c made d

-- all moves were made where the call succeeded, and a beginning of them where it was refused
abbrev pub Moved : {C T E : Type 0} → Moving C → C → List Move → C → Result T E → Type 0
Moved R c ms d (Ok t) = LeadTo R c ms d
Moved R c ms d (Err e) = LeadPartlyTo R c ms d

-- what may be lent, when the call is over
abbrev pub GivenBack : Type 0 → Type 0
GivenBack C = Unit {0} ⊎ ((MutBor C × Unit {0}) ⊎ ⊥)

-- the same of comments that are there
abbrev pub MovedIn : {C T E : Type 0} → Moving C → Option (MutBor C) → List Move → GivenBack C → Result T E → Type 0
MovedIn R None ms d r = Unit {0}
MovedIn R (Some c) ms (inr (inl d)) r = Moved R c.now ms d.0.now r
MovedIn R (Some c) ms _ r = ⊥

-- comments that are there are as they were
abbrev pub UnmovedIn : {C : Type 0} → Option (MutBor C) → GivenBack C → Type 0
UnmovedIn None d = Unit {0}
UnmovedIn (Some c) (inr (inl d)) = d.0.now ≡ c.now
UnmovedIn (Some c) _ = ⊥
