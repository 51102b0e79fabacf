-- The names of a settled tree, and what its scopes take, are those that it has in strict code.
use Rattle.std.proofs.Common.{◌≡◌, ℕ, zero, suc, Bool, true, false, not, ◌&&◌, ◌||◌, Option, Some, None, List, [], ◌∷◌, refl, sym, ap, ◌∙◌, cond}
use Rattle.std.specs.List.{list_all, slice_get}
use Rattle.std.specs.Prelude.{unwrap_or, option_map}
use Rattle.swc_tree_node.specs.declared.kind.Kind.{Kind}
use Rattle.swc_tree_node.specs.declared.kind.Kind.TheVariants as kind
use Rattle.swc_tree_node.specs.declared.slot.Role.{Role}
use Rattle.swc_tree_node.specs.declared.slot.Role.TheVariants as role
use Rattle.swc_tree_node.specs.declared.node.Node.{Node, out-Node}
use Rattle.swc_tree_node.specs.declared.node.Node.TheOpen.{Node-F}
use Rattle.swc_tree_node.specs.declared.fields.statements.fn_decl.TheConstants as fn_decl
use Rattle.swc_tree_node.specs.Table.{fields_of}
use Rattle.swc_tree_node.proofs.Fit.{both as both_are}
use Rattle.swc_tree_scoping.specs.declared.places.Standing.TheVariants as standing
use Rattle.swc_tree_scoping.specs.declared.places.Place.{Place}
use Rattle.swc_tree_scoping.specs.declared.places.Scope.{Scope}
use Rattle.swc_tree_scoping.specs.declared.places.Scope.TheVariants as scope
use Rattle.swc_tree_scoping.specs.declared.places.View.{View}
use Rattle.swc_tree_scoping.specs.Places.{Path, child, children_in, field_role, function_standing, has_own_name, is_branch, is_plain_function, named, nested_below, opened, opened_as, opened_in, own_block, place_at, place_below, place_in, standing_below, view_from}
use Rattle.swc_tree_scoping.specs.Folds.{each_in}
use Rattle.swc_tree_scoping.specs.Scopes.{view_in}
use Rattle.swc_tree_scoping.proofs.Under.{by_children, fold_in_place_out, no_place_under, place_under}
use Rattle.swc_tree_sites.specs.Sites.{Sites, kids, sites_in, taken_at, taken_in, taken_of}
use Rattle.swc_tree_sites.proofs.Kept.{S, out_step}
use Rattle.swc_tree_sites.proofs.Leaves.{Field}
use Rattle.swc_tree_sites_kept.specs.Settled.{is_loose_in, is_settled, settled_step}

-- the same place in strict code
abbrev pub strictly : Place → Place
strictly w = record w { strict = true }

pub all_at : {X : Type 0} (g : X → Bool) (xs : List X) (i : ℕ) (x : X) → list_all g xs ≡ true → slice_get xs i ≡ Some x → g x ≡ true
all_at g [] i x h e = absurd (cc)
all_at g (y ∷ xs) zero x h e = let same : y ≡ x = cc in ap g (sym same) ∙ (both_are (g y) (list_all g xs) h).0
all_at g (y ∷ xs) (suc i) x h e = all_at g xs i x (both_are (g y) (list_all g xs) h).1 e

-- ---- a declaration that is not loose

own_flags : (s b n p : Bool) → (not s && (b || (n && p))) ≡ false → (b && false) ≡ (b && not s)
own_flags true true n p h = refl
own_flags true false n p h = refl
own_flags false true n p h = absurd (cc)
own_flags false false n p h = refl

standing_flags : (s b n p : Bool) → (not s && (b || (n && p))) ≡ false
    → cond (not (n || (b && false))) standing.Function (cond (not true && p) standing.SloppyFunction standing.BlockFunction)
    ≡ cond (not (n || (b && not s))) standing.Function (cond (not s && p) standing.SloppyFunction standing.BlockFunction)
standing_flags true b n p h = refl
standing_flags false true n p h = absurd (cc)
standing_flags false false true true h = absurd (cc)
standing_flags false false true false h = refl
standing_flags false false false p h = refl

module _ (w : Place) (ts : List Node) (h : is_loose_in w (Node-F.Tree kind.FnDecl ts) ≡ false) where
  own_same : own_block (strictly w) ≡ own_block w
  own_same = own_flags w.strict (is_branch w.standing) w.nested (is_plain_function (slice_get ts fn_decl.FUNCTION)) h

  function_same : function_standing (strictly w) (is_plain_function (slice_get ts fn_decl.FUNCTION)) ≡ function_standing w (is_plain_function (slice_get ts fn_decl.FUNCTION))
  function_same = standing_flags w.strict (is_branch w.standing) w.nested (is_plain_function (slice_get ts fn_decl.FUNCTION)) h

-- ---- the places below a node

opened_same : (w : Place) (k : Kind) (ts : List Node) → is_loose_in w (Node-F.Tree k ts) ≡ false → opened_as (strictly w) k (has_own_name ts) ≡ opened_as w k (has_own_name ts)
opened_same w kind.FnDecl ts h = ap (λ b. named b scope.Block) (own_same w ts h)
opened_same w _ ts h = refl

abbrev is_function_role : Role → Bool
is_function_role role.Function = true
is_function_role _ = false

abbrev is_fn_decl : Kind → Bool
is_fn_decl kind.FnDecl = true
is_fn_decl _ = false

function_roles : (k : Kind) → (is_fn_decl k || list_all (λ f. not (is_function_role f.2)) (fields_of k)) ≡ true
function_roles kind.Module = refl
function_roles _ = refl

no_function : (fs : List Field) (i : ℕ) → list_all (λ f. not (is_function_role f.2)) fs ≡ true → is_function_role (unwrap_or (option_map (λ f. f.2) (slice_get fs i)) role.Plain) ≡ true → ⊥
no_function [] i h e = absurd (cc)
no_function (x ∷ fs) zero h e = let p = both_are (not (is_function_role x.2)) (list_all (λ f. not (is_function_role f.2)) fs) h in let z : not true ≡ true = ap not (sym e) ∙ p.0 in absurd (cc)
no_function (x ∷ fs) (suc i) h e = no_function fs i (both_are (not (is_function_role x.2)) (list_all (λ f. not (is_function_role f.2)) fs) h).1 e

function_there : (w : Place) (k : Kind) (ts : List Node) (i : ℕ) → is_loose_in w (Node-F.Tree k ts) ≡ false → is_function_role (field_role k i) ≡ true → is_loose_in w (Node-F.Tree kind.FnDecl ts) ≡ false
function_there w kind.FnDecl ts i h e = h
function_there w k ts i h e = absurd (no_function (fields_of k) i (function_roles k) e)

standing_same : (w : Place) (k : Kind) (ts : List Node) (i : ℕ) (x : Role) → (is_function_role x ≡ true → is_loose_in w (Node-F.Tree kind.FnDecl ts) ≡ false) → standing_below (strictly w) k ts i x ≡ standing_below w k ts i x
standing_same w k ts i role.Function h = function_same w ts (h refl)
standing_same w k ts i role.Plain h = refl
standing_same w k ts i _ h = refl

pub place_same : (w : Place) (k : Kind) (ts : List Node) (i : ℕ) → is_loose_in w (Node-F.Tree k ts) ≡ false → place_in (strictly w) (Node-F.Tree k ts) i ≡ strictly (place_in w (Node-F.Tree k ts) i)
place_same w k ts i h =
    let stands = standing_same w k ts i (field_role k i) (function_there w k ts i h) in
    let opens = opened_same w k ts h in
    λ j. record { standing = stands j; strict = true; nested = nested_below w.nested (opens j) (view_from k i) }

-- ---- the names

abbrev AllSettled : Place → Node-F Node → Type 0
AllSettled w y = list_all (λ b. b) (each_in is_settled (place_in w y) (children_in y)) ≡ true

-- what a settled node says of itself and of what stands below
pub settled_parts : (w : Place) (t : Node) (y : Node-F Node) → out-Node t ≡ y → is_settled w t ≡ true → (is_loose_in w y ≡ false) × AllSettled w y
settled_parts w t y o h =
    let p = both_are (not (is_loose_in w y)) (list_all (λ b. b) (each_in is_settled (place_in w y) (children_in y)))
    (sym (fold_in_place_out settled_step w t ∙ ap (λ y. not (is_loose_in w y) && list_all (λ b. b) (each_in is_settled (place_in w y) (children_in y))) o) ∙ h) in (not_true (is_loose_in w y) p.0, p.1)
  where
    not_true : (b : Bool) → not b ≡ true → b ≡ false
    not_true true h = absurd (cc)
    not_true false h = refl

abbrev Same : Node → Type 0
Same t = (w : Place) → is_settled w t ≡ true → S (strictly w) t ≡ S w t

each_same : (ts : List Node) (ps qs : ℕ → Place) → ((i : ℕ) → qs i ≡ strictly (ps i)) → list_all (λ b. b) (each_in is_settled ps ts) ≡ true
    → ((i : ℕ) (c : Node) → slice_get ts i ≡ Some c → Same c) → each_in S qs ts ≡ each_in S ps ts
each_same [] ps qs e h below = refl
each_same (t ∷ ts) ps qs e h below =
    let p = both_are (is_settled (ps zero) t) (list_all (λ b. b) (each_in is_settled (λ i. ps (suc i)) ts)) h in
    ap (λ v. S v t ∷ each_in S (λ i. qs (suc i)) ts) (e zero) ∙ ap (λ a. a ∷ each_in S (λ i. qs (suc i)) ts) (below zero t refl (ps zero) p.0)
    ∙ ap (λ l. S (ps zero) t ∷ l) (each_same ts (λ i. ps (suc i)) (λ i. qs (suc i)) (λ i. e (suc i)) p.1 (λ i. below (suc i)))

kids_same : (w : Place) (y : Node-F Node) → is_loose_in w y ≡ false → AllSettled w y → ((i : ℕ) (c : Node) → slice_get (children_in y) i ≡ Some c → Same c) → each_in S (place_in (strictly w) y) (children_in y) ≡ each_in S (place_in w y) (children_in y)
kids_same w (Node-F.List ts) h g below = each_same ts (place_in w (Node-F.List ts)) (place_in (strictly w) (Node-F.List ts)) (λ i. refl) g below
kids_same w (Node-F.Tree k ts) h g below = each_same ts (place_in w (Node-F.Tree k ts)) (place_in (strictly w) (Node-F.Tree k ts)) (λ i. place_same w k ts i h) g below
kids_same w Node-F.Absent h g below = refl
kids_same w (Node-F.Flag x) h g below = refl
kids_same w (Node-F.Word x) h g below = refl
kids_same w (Node-F.Text x) h g below = refl
kids_same w (Node-F.Span x) h g below = refl
kids_same w (Node-F.Identifier k x) h g below = refl

opens_same : (w : Place) (y : Node-F Node) → is_loose_in w y ≡ false → opened_in (strictly w) y ≡ opened_in w y
opens_same w (Node-F.Tree k ts) h = opened_same w k ts h
opens_same w Node-F.Absent h = refl
opens_same w _ h = refl

step_same : (w : Place) (y : Node-F Node) (o : Option Scope) (views : ℕ → View) (cs : List Sites) → sites_in (strictly w) y o views cs ≡ sites_in w y o views cs
step_same w (Node-F.Identifier k i) o views cs = refl
step_same w Node-F.Absent o views cs = refl
step_same w _ o views cs = refl

same_by : (t : Node) → ((i : ℕ) (c : Node) → child t i ≡ Some c → Same c) → (y : Node-F Node) → out-Node t ≡ y → Same t
same_by t below y o w h =
    let p = settled_parts w t y o h in
    let cs = each_in S (place_in (strictly w) y) (children_in y) in
    out_step (strictly w) t y o ∙ step_same w y (opened_in (strictly w) y) (view_in y) cs ∙ ap (λ s. sites_in w y s (view_in y) cs) (opens_same w y p.0)
    ∙ ap (sites_in w y (opened_in w y) (view_in y)) (kids_same w y p.0 p.1 (λ i c e. below i c (ap (λ y. slice_get (children_in y) i) o ∙ e))) ∙ sym (out_step w t y o)

pub settled_sites : (t : Node) (w : Place) → is_settled w t ≡ true → S (strictly w) t ≡ S w t
settled_sites = by_children Same (λ t below. same_by t below (out-Node t) refl)

-- what the scope of a settled node takes
pub settled_takes : (t : Node) (w : Place) → is_settled w t ≡ true → taken_at (strictly w) t ≡ taken_at w t
settled_takes t w h =
    let p = settled_parts w t (out-Node t) refl h in
    ap (taken_in (strictly w) t) (opens_same w (out-Node t) p.0) ∙ at (opened w t) (kids_same w (out-Node t) p.0 p.1 (λ i c e. settled_sites c))
  where
    at : (o : Option Scope) → kids (strictly w) t ≡ kids w t → taken_in (strictly w) t o ≡ taken_in w t o
    at None e = refl
    at (Some s) e = ap (taken_of s (view_in (out-Node t))) e

-- ---- the places

settled_at : (ts : List Node) (ps : ℕ → Place) (i : ℕ) (c : Node) → list_all (λ b. b) (each_in is_settled ps ts) ≡ true → slice_get ts i ≡ Some c → is_settled (ps i) c ≡ true
settled_at [] ps i c h e = absurd (cc)
settled_at (t ∷ ts) ps zero c h e = let same : t ≡ c = cc in ap (is_settled (ps zero)) (sym same) ∙ (both_are (is_settled (ps zero) t) (list_all (λ b. b) (each_in is_settled (λ i. ps (suc i)) ts)) h).0
settled_at (t ∷ ts) ps (suc i) c h e = settled_at ts (λ i. ps (suc i)) i c (both_are (is_settled (ps zero) t) (list_all (λ b. b) (each_in is_settled (λ i. ps (suc i)) ts)) h).1 e

-- what stands below a settled node is settled
pub settled_child : (w : Place) (t c : Node) (i : ℕ) → is_settled w t ≡ true → child t i ≡ Some c → is_settled (place_below w t i) c ≡ true
settled_child w t c i h e = settled_at (children_in (out-Node t)) (place_below w t) i c (settled_parts w t (out-Node t) refl h).1 e

below_same : (w : Place) (t c : Node) (i : ℕ) (y : Node-F Node) → out-Node t ≡ y → is_settled w t ≡ true → child t i ≡ Some c → place_below (strictly w) t i ≡ strictly (place_below w t i)
below_same w t c i (Node-F.List ts) o h e = ap (λ y. place_in (strictly w) y i) o ∙ sym (ap (λ y. strictly (place_in w y i)) o)
below_same w t c i (Node-F.Tree k ts) o h e = ap (λ y. place_in (strictly w) y i) o ∙ place_same w k ts i (settled_parts w t (Node-F.Tree k ts) o h).0 ∙ sym (ap (λ y. strictly (place_in w y i)) o)
below_same w t c i Node-F.Absent o h e = let z : Some c ≡ None = sym e ∙ ap (λ y. slice_get (children_in y) i) o in absurd (cc)
below_same w t c i (Node-F.Flag x) o h e = let z : Some c ≡ None = sym e ∙ ap (λ y. slice_get (children_in y) i) o in absurd (cc)
below_same w t c i (Node-F.Word x) o h e = let z : Some c ≡ None = sym e ∙ ap (λ y. slice_get (children_in y) i) o in absurd (cc)
below_same w t c i (Node-F.Text x) o h e = let z : Some c ≡ None = sym e ∙ ap (λ y. slice_get (children_in y) i) o in absurd (cc)
below_same w t c i (Node-F.Span x) o h e = let z : Some c ≡ None = sym e ∙ ap (λ y. slice_get (children_in y) i) o in absurd (cc)
below_same w t c i (Node-F.Identifier k x) o h e = let z : Some c ≡ None = sym e ∙ ap (λ y. slice_get (children_in y) i) o in absurd (cc)

some_same : (a b : Place × Node) → Some a ≡ Some b → a ≡ b
some_same a b e = cc

-- what stands in a settled tree stands so in strict code
pub settled_place : (p : Path) (w v : Place) (t c : Node) → is_settled w t ≡ true → place_at w t p ≡ Some (v, c) → place_at (strictly w) t p ≡ Some (strictly v, c)
settled_place [] w v t c h e = ap (λ (q : Place × Node). Some (strictly q.0, q.1)) (some_same (w, t) (v, c) e)
settled_place (i ∷ p) w v t c h e = at (child t i) refl (λ d. settled_place p (place_below w t i) v d c)
  where
    at : (o : Option Node) → child t i ≡ o → ((d : Node) → is_settled (place_below w t i) d ≡ true → place_at (place_below w t i) d p ≡ Some (v, c) → place_at (strictly (place_below w t i)) d p ≡ Some (strictly v, c))
        → place_at (strictly w) t (i ∷ p) ≡ Some (strictly v, c)
    at None o below = let z : ◌≡◌ {A = Option (Place × Node)} (Some (v, c)) None = sym e ∙ no_place_under w t i p o in absurd (cc)
    at (Some d) o below =
        place_under (strictly w) t d i p o ∙ ap (λ u. place_at u d p) (below_same w t d i (out-Node t) refl h o) ∙ below d (settled_child w t d i h o) (sym (place_under w t d i p o) ∙ e)
