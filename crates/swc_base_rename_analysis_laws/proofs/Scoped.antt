-- The number of the innermost scope stands for the scopes round a path: from it come the numbers of those that take a name.
use Rattle.std.proofs.Common.{◌≡◌, ℕ, Bool, true, false, Option, Some, None, List, [], ◌∷◌, ◌++◌, map, length, refl, sym, ap, ◌∙◌, subst}
use Rattle.std.specs.Prelude.{if◌then◌else◌}
use Rattle.std.specs.List.{slice_get}
use Rattle.std.specs.Option.{option_map}
use Rattle.std.proofs.lemmas.Option.{slice_get-map}
use Rattle.std.proofs.lemmas.List.{length-map}
use Rattle.swc_tree_scoping.specs.declared.places.Standing.{Standing}
use Rattle.swc_tree_scoping.specs.declared.places.Standing.TheVariants as standing
use Rattle.swc_tree_scoping.specs.Places.{Path}
use Rattle.swc_base_rename_analysis.specs.declared.scopes.ScopeKind.{ScopeKind}
use Rattle.swc_base_rename_analysis.specs.declared.scopes.ScopeKind.TheVariants.{Block, Fn}
use Rattle.swc_base_rename_analysis.specs.declared.layout.Region.{Region}
use Rattle.swc_base_rename_analysis.specs.Analysis.{Around, first_taking, takes}
use Rattle.swc_base_rename_analysis.specs.Read.{taken_at, taken_from}
use Rattle.swc_base_rename_analysis.specs.Walk.{function_at}
use Rattle.swc_base_rename_analysis_laws.specs.Placed.{IsNumberOf}
use Rattle.swc_base_rename_analysis_laws.proofs.Grown.{Grows, enters}
use Rattle.swc_base_rename_analysis_laws.proofs.Marked.{Marked, MarkedScope, marked_enter, regions_of}

abbrev pub paths_of : Marked → List Path
paths_of m = map (λ s. s.path) m.scopes

-- the scopes round a path, by the number of the innermost
abbrev pub NumberTaking : Marked → ℕ → MarkedScope → List Around → Type 0
NumberTaking m n s around = (r : Standing) → IsNumberOf (paths_of m) (if takes s.region.kind r then Some n else s.region.function) (first_taking r around)

abbrev pub FunctionRound : Marked → MarkedScope → List Around → Type 0
FunctionRound m s around = IsNumberOf (paths_of m) s.region.function (first_taking standing.Variable around)

abbrev pub Scoped : Marked → Option ℕ → List Around → Type 0
Scoped m None around = around ≡ []
Scoped m (Some n) around = (s : MarkedScope) × (slice_get m.scopes n ≡ Some s) × NumberTaking m n s around × FunctionRound m s around

-- numbers stay
pub path_there : (m : Marked) (n : ℕ) (s : MarkedScope) → slice_get m.scopes n ≡ Some s → slice_get (paths_of m) n ≡ Some s.path
path_there m n s e = slice_get-map (λ s. s.path) m.scopes n ∙ ap (option_map (λ s. s.path)) e

region_there : (m : Marked) (n : ℕ) (s : MarkedScope) → slice_get m.scopes n ≡ Some s → slice_get (regions_of m) n ≡ Some s.region
region_there m n s e = slice_get-map (λ s. s.region) m.scopes n ∙ ap (option_map (λ s. s.region)) e

path_stays : (m n : Marked) → Grows m n → (k : ℕ) (p : Path) → slice_get (paths_of m) k ≡ Some p → slice_get (paths_of n) k ≡ Some p
path_stays m n g k p h = at (slice_get m.scopes k) refl (sym (slice_get-map (λ s. s.path) m.scopes k) ∙ h)
  where
    at : (o : Option MarkedScope) → slice_get m.scopes k ≡ o → option_map (λ s. s.path) o ≡ Some p → slice_get (paths_of n) k ≡ Some p
    at None e f = absurd (cc)
    at (Some s) e f = let (u, there, same, _, _) = g.scopes k s e in path_there n k u there ∙ ap Some same ∙ f

pub number_stays : (m n : Marked) → Grows m n → (a : Option ℕ) (b : Option Path) → IsNumberOf (paths_of m) a b → IsNumberOf (paths_of n) a b
number_stays m n g None None h = h
number_stays m n g (Some k) (Some p) h = path_stays m n g k p h
number_stays m n g None (Some p) h = absurd h
number_stays m n g (Some k) None h = absurd h

pub scoped_stays : (m n : Marked) → Grows m n → (o : Option ℕ) (around : List Around) → Scoped m o around → Scoped n o around
scoped_stays m n g None around h = h
scoped_stays m n g (Some k) around (s, e, taking, function) =
    let (u, there, _, kind, same) = g.scopes k s e in (
      u,
      there,
      (λ r. subst (λ (z : ScopeKind × Option ℕ). IsNumberOf (paths_of n) (if takes z.0 r then Some k else z.1) (first_taking r around)) (λ j. (sym kind j, sym same j)) (number_stays m n g _ _ (taking r))),
      subst (λ z. IsNumberOf (paths_of n) z (first_taking standing.Variable around)) (sym same) (number_stays m n g _ _ function),
    )

-- a scope more
pub got_last : {X : Type 0} (xs : List X) (x : X) → slice_get (xs ++ x ∷ []) (length xs) ≡ Some x
got_last [] x = refl
got_last (y ∷ xs) x = got_last xs x

block_passes : (r : Standing) → takes Block r ≡ false → (around : List Around) → first_taking r around ≡ first_taking standing.Variable around
block_passes r e [] = refl
block_passes r e ((s, Fn) ∷ around) = refl
block_passes r e ((s, Block) ∷ around) = ap (λ b. if b then Some s else first_taking r around) e ∙ block_passes r e around

abbrev function_of : Option Region → Option ℕ
function_of None = None
function_of (Some r) = r.function

function_round : (m : Marked) (o : Option ℕ) (around : List Around) → Scoped m o around → IsNumberOf (paths_of m) (function_at (regions_of m) Block o) (first_taking standing.Variable around)
function_round m None around h = subst (λ l. IsNumberOf (paths_of m) None (first_taking standing.Variable l)) (sym h) tt
function_round m (Some n) around (s, e, taking, function) = subst (λ z. IsNumberOf (paths_of m) (function_of z) (first_taking standing.Variable around)) (sym (region_there m n s e)) function

module _ (m : Marked) (h : Path) (o : Option ℕ) (around : List Around) (given : Scoped m o around) where
  new_path : (k : ScopeKind) → slice_get (paths_of (marked_enter h k o m)) (length m.scopes) ≡ Some h
  new_path k = path_there (marked_enter h k o m) (length m.scopes) _ (got_last m.scopes _)

  function_outside : (k : ScopeKind) → IsNumberOf (paths_of (marked_enter h k o m)) (function_at (regions_of m) Block o) (first_taking standing.Variable around)
  function_outside k = number_stays m (marked_enter h k o m) (enters h k o m) _ _ (function_round m o around given)

  taking_in_block : (r : Standing) (b : Bool) → takes Block r ≡ b
      → IsNumberOf (paths_of (marked_enter h Block o m)) (if b then Some (length m.scopes) else function_at (regions_of m) Block o) (if b then Some h else first_taking r around)
  taking_in_block r true e = new_path Block
  taking_in_block r false e = subst (λ p. IsNumberOf (paths_of (marked_enter h Block o m)) (function_at (regions_of m) Block o) p) (sym (block_passes r e around)) (function_outside Block)

  taking_in : (k : ScopeKind) (r : Standing) → IsNumberOf (paths_of (marked_enter h k o m)) (if takes k r then Some (length m.scopes) else function_at (regions_of m) k o) (if takes k r then Some h else first_taking r around)
  taking_in Fn r = new_path Fn
  taking_in Block r = taking_in_block r (takes Block r) refl

  function_in : (k : ScopeKind) → IsNumberOf (paths_of (marked_enter h k o m)) (function_at (regions_of m) k o) (first_taking standing.Variable ((h, k) ∷ around))
  function_in Fn = ap (slice_get (paths_of (marked_enter h Fn o m))) (length-map m.scopes (λ s. s.region)) ∙ new_path Fn
  function_in Block = function_outside Block

  pub scoped_in : (k : ScopeKind) → Scoped (marked_enter h k o m) (Some (length m.scopes)) ((h, k) ∷ around)
  scoped_in k = (_, got_last m.scopes _, taking_in k, function_in k)

-- what takes a name
pub taken_there : (m : Marked) (o : Option ℕ) (around : List Around) → Scoped m o around → (r : Standing) → IsNumberOf (paths_of m) (taken_from (regions_of m) r o) (first_taking r around)
taken_there m None around h r = subst (λ l. IsNumberOf (paths_of m) None (first_taking r l)) (sym h) tt
taken_there m (Some n) around (s, e, taking, function) r = subst (λ z. IsNumberOf (paths_of m) (taken_at r n z) (first_taking r around)) (sym (region_there m n s e)) (taking r)
