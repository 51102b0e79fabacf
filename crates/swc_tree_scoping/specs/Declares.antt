-- What each scope declares (ECMA-262, 8.2, 14.2.2, 15.1.3, 15.2.4; Annex B.3.2 and B.3.3 for functions in blocks).
use Rattle.std.specs.Prelude.{◌≡◌, ℕ, Bool, true, false, ◌⊎◌, IsTrue, Option, Some, None, List, [], ◌∷◌}
use Rattle.swc_tree_node.specs.Lower.swc_tree_marks.specs.declared.ident.Ident.{Ident}
use Rattle.swc_tree_node.specs.declared.kind.Kind.{Kind}
use Rattle.swc_tree_node.specs.declared.node.Node.{Node, Identifier}
use Rattle.swc_tree_scoping.specs.declared.places.Standing.{Standing}
use Rattle.swc_tree_scoping.specs.declared.places.Standing.TheVariants as standing
use Rattle.swc_tree_scoping.specs.declared.places.Place.{Place}
use Rattle.swc_tree_scoping.specs.Places.{Path, program_place, place_at}
use Rattle.swc_tree_scoping.specs.Scopes.{Round, scope_at, rounds, is_taken, taker, variable_scope}

-- at a path a name is bound by an identifier that no pass has marked, standing so, and that is taken by a scope
pub record Bound (t : Node) (s : Path) (r : Standing) (name : List ℕ) : Type 0 where
  pub path : Path
  pub place : Place
  pub kind : Kind
  pub identifier : Ident
  pub stands : place_at program_place t path ≡ Some (place, Identifier kind identifier)
  pub stands_so : place.standing ≡ r
  pub named : identifier.sym ≡ name
  pub unmarked : identifier.ctxt ≡ []
  pub taken : taker r t path ≡ Some s

-- the scope takes the name in one of several ways
abbrev pub BoundAs : (Standing → Bool) → Node → Path → List ℕ → Type 0
BoundAs ways t s name = (r : Standing) × IsTrue (ways r) × Bound t s r name

abbrev pub is_parameter : Standing → Bool
is_parameter standing.Parameter = true
is_parameter standing.CatchParameter = true
is_parameter _ = false

-- let, const, using, class, import, catch parameter, function in a block, a catch body or a case list
abbrev pub is_lexical : Standing → Bool
is_lexical standing.Lexical = true
is_lexical standing.Import = true
is_lexical standing.CatchParameter = true
is_lexical standing.BlockFunction = true
is_lexical standing.SloppyFunction = true
is_lexical _ = false

-- what a function of the name may not meet on its way out of blocks
abbrev pub stops : Standing → Bool
stops standing.Parameter = true
stops r = is_lexical r

-- what of it may not stand in its own block: all but other functions
abbrev pub stops_in_block : Standing → Bool
stops_in_block standing.BlockFunction = false
stops_in_block standing.SloppyFunction = false
stops_in_block r = stops r

-- going outwards, none of the scopes before the nearest function, static block or program takes the name in such a way
abbrev pub PassesNone : (Standing → Bool) → Node → List ℕ → List Round → Type 0
PassesNone ways t name [] = Unit {0}
PassesNone ways t name (s ∷ ss) = IsTrue (is_taken standing.Variable (scope_at program_place t s.0)) ⊎ (¬ BoundAs ways t s.0 name × PassesNone ways t name ss)

-- the plain functions of that name in a block, a case list or a catch body of sloppy code are declared outside of it:
-- nothing stops the name there, on the way out, or in the function, static block or program that it gets to
abbrev pub Hoists : Node → Path → List ℕ → Type 0
Hoists t b name = ¬ BoundAs stops_in_block t b name × PassesNone stops t name (rounds program_place t b)
    × ((s : Path) → variable_scope t b ≡ Some s → ¬ BoundAs stops t s name)

-- a function that stands in a block is declared by the nearest function, static block or program
pub record Hoisted (t : Node) (s : Path) (name : List ℕ) : Type 0 where
  pub block : Path
  pub bound : Bound t block standing.SloppyFunction name
  pub hoists : Hoists t block name
  pub reaches : variable_scope t bound.path ≡ Some s

abbrev pub is_settled : Standing → Bool
is_settled standing.SloppyFunction = false
is_settled r = true

-- the scope declares the name
abbrev pub Declares : Node → Path → List ℕ → Type 0
Declares t s name = BoundAs is_settled t s name ⊎ ((Bound t s standing.SloppyFunction name × ¬ Hoists t s name) ⊎ Hoisted t s name)

-- the scope that declares what is bound at a path
abbrev pub DeclaredBy : Node → Path → Standing → List ℕ → Path → Type 0
DeclaredBy t p standing.SloppyFunction name s = (b : Path) × (taker standing.SloppyFunction t p ≡ Some b)
    × ((Hoists t b name × (variable_scope t p ≡ Some s)) ⊎ (¬ Hoists t b name × (b ≡ s)))
DeclaredBy t p r name s = taker r t p ≡ Some s

-- the scope declares the name for what stands there: in parameters, only if a parameter has the name
abbrev pub DeclaresFor : Node → List ℕ → Round → Type 0
DeclaresFor t name (s, true) = Declares t s name
DeclaresFor t name (s, false) = BoundAs is_parameter t s name

-- the first with a property; None where there is none
abbrev pub First : (Round → Type 0) → List Round → Option Path → Type 0
First P [] m = m ≡ None
First P (s ∷ ss) m = (P s × (m ≡ Some s.0)) ⊎ ((P s → ⊥) × First P ss m)

-- a reference means the innermost scope round it that declares its name for its place; None: it is free (9.4.2)
abbrev pub Means : Node → Path → List ℕ → Option Path → Type 0
Means t p name m = First (DeclaresFor t name) (rounds program_place t p) m

-- the nearest scope round a variable that is a catch clause whose parameter has its name, or that declares it (B.3.4)
abbrev pub Meets : Node → Path → List ℕ → Option Path → Type 0
Meets t p name m = First (λ s. IsTrue (is_taken standing.Variable (scope_at program_place t s.0)) ⊎ Bound t s.0 standing.CatchParameter name) (rounds program_place t p) m

-- the variable that is bound at a path does not stand below a catch clause whose parameter has its name
abbrev pub IsUncaught : Node → Path → List ℕ → Type 0
IsUncaught t p name = Meets t p name (variable_scope t p)

abbrev pub is_no_variable : Standing → Bool
is_no_variable standing.Variable = false
is_no_variable standing.SloppyFunction = false
is_no_variable r = true

-- the scope declares the name by something else than a `var` below a catch clause whose parameter has the name
abbrev pub DeclaresOtherwise : Node → Path → List ℕ → Type 0
DeclaresOtherwise t s name = BoundAs is_no_variable t s name ⊎ (Hoisted t s name ⊎ ((b : Bound t s standing.Variable name) × IsUncaught t b.path name))
