-- In which scope an identifier claims its name, and names that are claimed against one another.
use Rattle.std.specs.Prelude.{◌≡◌, ◌≢◌, ℕ, ◌+◌, ◌<◌, Bool, true, false, ◌||◌, ◌&&◌, ◌==◌, ◌⊎◌, ◌↔◌, IsTrue, Option, Some, None, option_map, List, [], ◌∷◌, take, length, slice_get, if◌then◌else◌}
use Rattle.std.specs.BTreeMap.{get_by_text}
use Rattle.swc_tree_node.specs.declared.node.Node.{Node, out-Node}
use Rattle.swc_tree_node.specs.declared.node.Node.TheOpen.{Node-F}
use Rattle.swc_tree_scoping.specs.declared.places.Standing.{Standing}
use Rattle.swc_tree_scoping.specs.declared.places.Standing.TheVariants as standing
use Rattle.swc_tree_scoping.specs.declared.places.Place.{Place}
use Rattle.swc_tree_scoping.specs.Places.{Path, place_at}
use Rattle.swc_tree_scoping.specs.Folds.{each_in}
use Rattle.swc_tree_scoping.specs.Scopes.{scope_count, total}
use Rattle.swc_tree_scoping.specs.Declares.{is_lexical}
use Rattle.swc_base_resolver_program.specs.Lookup.{Open, taker_in}
use Rattle.swc_base_resolver_program.specs.Walks.{open_round}
use Rattle.swc_base_early_errors.specs.declared.claims.Claim.{Claim}
use Rattle.swc_base_early_errors.specs.declared.claims.Rule.{Rule}
use Rattle.swc_base_early_errors.specs.declared.claims.Rule.TheVariants as rule
use Rattle.swc_base_early_errors.specs.declared.claims.ClaimedNames.{ClaimedNames}

abbrev pub is_function : Standing → Bool
is_function standing.Function = true
is_function _ = false

abbrev pub is_function_parameter : Standing → Bool
is_function_parameter standing.Parameter = true
is_function_parameter _ = false

-- a rule is of names that stand so
abbrev pub is_of : Rule → Standing → Bool
is_of (rule.Lexical m) r = true
is_of rule.Parameters r = is_function_parameter r

-- what stands so suffers no other of its name in the scope of that number: a lexical name, and in a module a function of the program
abbrev pub is_alone : Rule → Standing → ℕ → Bool
is_alone (rule.Lexical m) r k = is_lexical r || (m && (is_function r && (k == 0)))
is_alone rule.Parameters r k = true

-- the claim of an identifier, by its place and the scopes that are open there
abbrev pub claim_in : Rule → Place → List Open → Option Claim
claim_in q w env = if is_of q w.standing then option_map (λ k. record { scope = k; alone = is_alone q w.standing k }) (taker_in w.standing env) else None

-- claims of names, by the paths of the identifiers
abbrev pub Claims : Type 1
Claims = Path → Claim → List ℕ → Type 0

abbrev pub ClaimsHere : Rule → List Open → Place → Node-F Node → Claim → List ℕ → Type 0
ClaimsHere q env w (Node-F.Identifier k i) c x = (claim_in q w env ≡ Some c) × (i.sym ≡ x)
ClaimsHere q env w _ c x = ⊥

-- at the path below a node stands an identifier that claims the name so; so many scopes begin before the node, and these are open round it
pub record ClaimsAt (q : Rule) (env : List Open) (n : ℕ) (w : Place) (t : Node) (p : Path) (c : Claim) (x : List ℕ) : Type 0 where
  pub place : Place
  pub node : Node
  pub stands : place_at w t p ≡ Some (place, node)
  pub claims : ClaimsHere q (open_round env n w t p) place (out-Node node) c x

-- the same below one of the first of several nodes
abbrev pub ClaimsBelow : Rule → (ℕ → List Open) → ℕ → (ℕ → Place) → List Node → ℕ → Claims
ClaimsBelow q envs n places ts m [] c x = ⊥
ClaimsBelow q envs n places ts m (i ∷ p) c x =
    (i < m) × ((d : Node) × (slice_get ts i ≡ Some d) × ClaimsAt q (envs i) (n + total (each_in scope_count places (take i ts))) (places i) d p c x)

-- two claims of one name can't stand beside one another
abbrev pub Clash : Claim → Claim → Type 0
Clash c d = (c.scope ≡ d.scope) × IsTrue (c.alone || d.alone)

abbrev pub note_of : Option ClaimedNames → List ℕ → Option Bool
note_of None x = None
note_of (Some s) x = get_by_text s.names x

-- what is noted of a name in the scope of a number
abbrev pub note_in : List ClaimedNames → ℕ → List ℕ → Option Bool
note_in ss k x = note_of (slice_get ss k) x

abbrev pub IsNoted : List ClaimedNames → Claim → List ℕ → Type 0
IsNoted ss c x = note_in ss c.scope x ≡ Some c.alone

-- one of the claims clashes with what is noted
pub record Meets (ss : List ClaimedNames) (P : Claims) : Type 0 where
  pub path : Path
  pub old : Claim
  pub claim : Claim
  pub name : List ℕ
  pub noted : IsNoted ss old name
  pub claims : P path claim name
  pub clash : Clash old claim

-- two identifiers have claims of one name that clash
pub record Twice (P : Claims) : Type 0 where
  pub path : Path
  pub other : Path
  pub first : Claim
  pub second : Claim
  pub name : List ℕ
  pub one : P path first name
  pub two : P other second name
  pub apart : path ≢ other
  pub clash : Clash first second

abbrev pub Clashes : List ClaimedNames → Claims → Type 0
Clashes ss P = Meets ss P ⊎ Twice P

-- just those claims are noted besides
abbrev pub Notes : List ClaimedNames → List ClaimedNames → Claims → Type 0
Notes old new P = (c : Claim) (x : List ℕ) → IsNoted new c x ↔ (IsNoted old c x ⊎ ((p : Path) × P p c x))

-- what a walk over claims answers: that there is a clash; or there is none, the claims are noted, and so many scopes more have tables
abbrev pub Walked : Bool → List ClaimedNames → List ClaimedNames → ℕ → Claims → Type 0
Walked true old new n P = Clashes old P
Walked false old new n P = (length new ≡ length old + n) × Notes old new P × ¬ Clashes old P

-- one claim alone
abbrev pub OneClaim : Claim → List ℕ → Claims
OneClaim c name p d x = (p ≡ []) × (d ≡ c) × (name ≡ x)

abbrev pub GivenClaim : Option Claim → List ℕ → Claims
GivenClaim None name p d x = ⊥
GivenClaim (Some c) name p d x = OneClaim c name p d x
