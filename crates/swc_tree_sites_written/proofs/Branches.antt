-- A block that goes: what it held has the names that it had.
use Rattle.std.proofs.Common.{◌≡◌, ℕ, zero, suc, Bool, true, false, not, ◌&&◌, ◌||◌, ◌⊎◌, inl, inr, ⊎_elim, IsTrue, Option, Some, None, List, [], ◌∷◌, map, refl, sym, ap, ◌∙◌, subst}
use Rattle.std.specs.List.{filter, list_all, slice_get}
use Rattle.std.specs.Prelude.{unwrap_or, option_map}
use Rattle.swc_tree_marks.specs.declared.ident.Ident.{Ident}
use Rattle.swc_tree_node.specs.declared.kind.Kind.{Kind}
use Rattle.swc_tree_node.specs.declared.slot.Role.{Role}
use Rattle.swc_tree_node.specs.declared.slot.Slot.{Slot}
use Rattle.swc_tree_node.specs.declared.node.Node.{Node, Absent, Flag, Word, Text, Span, List as Many, Identifier, Tree}
use Rattle.swc_tree_node.specs.declared.node.Node.TheOpen.{Node-F}
use Rattle.swc_tree_node.specs.declared.node.Node.TheVariants.{outs-Flag, outs-Word, outs-Text, outs-Span, outs-List, outs-Tree}
use Rattle.swc_tree_node.specs.Table.{fields_of, is_identifier}
use Rattle.swc_tree_node.specs.Fits.{AllFit, FieldsFit, Fits, belongs, fits, list_fits}
use Rattle.swc_tree_node.proofs.Fit.{all_open, both as both_are, fields_open, fits-Absent, fits-Flag, fits-Word, fits-Text, fits-Span, fits-List, tree_opens}
use Rattle.swc_tree_scoping.specs.declared.places.Standing.{Standing}
use Rattle.swc_tree_scoping.specs.declared.places.Place.{Place}
use Rattle.swc_tree_scoping.specs.Places.{field_role, has_own_name, nested_below, opened_as, part_standing, place_in, standing_below, view_from, is_branch, is_inside, named, nests}
use Rattle.swc_tree_scoping.specs.Folds.{each_in}
use Rattle.swc_tree_scoping.specs.Scopes.{takes}
use Rattle.swc_tree_grammar.proofs.Induction.{Each, by_children}
use Rattle.swc_tree_grammar.proofs.Places.{one, stands}
use Rattle.swc_tree_sites.specs.Sites.{Binding, Sites, in_scope, joined, nothing, pending_where}
use Rattle.swc_tree_sites.specs.Smaller.{In}
use Rattle.swc_tree_sites.proofs.Kept.{S, out_step}
use Rattle.swc_tree_sites.proofs.Leaves.{Field}
use Rattle.swc_tree_sites_laws.proofs.Expressions.{P, of_identifier}
use Rattle.swc_tree_sites_laws.proofs.StrippedFewer.{of_absent}
use Rattle.swc_tree_scoping.specs.declared.places.Scope.{Scope}
use Rattle.swc_tree_scoping.specs.declared.places.View.{View}
use Rattle.swc_tree_scoping.proofs.Under.{each_in-at}
use Rattle.swc_tree_sites.proofs.Loose.{in_left, in_right}
use Rattle.swc_tree_sites_written.proofs.Lists.{filter_in, joined_to, pending_to, texts_fit}
use Rattle.swc_tree_node.specs.declared.kind.Kind.TheVariants as kind
use Rattle.swc_tree_node.specs.declared.kind.Class.TheVariants as class
use Rattle.swc_tree_node.specs.declared.slot.Content.TheVariants as content
use Rattle.swc_tree_node.specs.declared.slot.Role.TheVariants as role
use Rattle.swc_tree_node.specs.declared.slot.Slot.TheVariants as slot
use Rattle.swc_tree_scoping.specs.declared.places.Standing.TheVariants as standing
use Rattle.swc_tree_scoping.specs.declared.places.Scope.TheVariants as scope
use Rattle.swc_tree_scoping.specs.declared.places.View.TheVariants as view

-- nothing is bound as a function in a block
abbrev NoBlockFunction : List Binding → Type 0
NoBlockFunction xs = (b : Binding) → In b xs → b.0 ≡ standing.BlockFunction → ⊥

opened_nested : (k : Kind) (p : Standing) (n b : Bool) → opened_as (P p n) k b ≡ opened_as (P p true) k b
opened_nested kind.Module p n b = refl
opened_nested _ p n b = refl

abbrev is_function_role : Role → Bool
is_function_role role.Function = true
is_function_role _ = false

abbrev is_fn_decl : Kind → Bool
is_fn_decl kind.FnDecl = true
is_fn_decl _ = false

function_roles : (k : Kind) → (is_fn_decl k || list_all (λ f. not (is_function_role f.2)) (fields_of k)) ≡ true
function_roles kind.Module = refl
function_roles _ = refl

no_function_at : (fs : List Field) (i : ℕ) (f : Field) → list_all (λ f. not (is_function_role f.2)) fs ≡ true → slice_get fs i ≡ Some f → not (is_function_role f.2) ≡ true
no_function_at [] i f h e = absurd (cc)
no_function_at (x ∷ fs) zero f h e = let same : x ≡ f = cc in ap (λ f. not (is_function_role f.2)) (sym same) ∙ (both_are (not (is_function_role x.2)) (list_all (λ f. not (is_function_role f.2)) fs) h).0
no_function_at (x ∷ fs) (suc i) f h e = no_function_at fs i f (both_are (not (is_function_role x.2)) (list_all (λ f. not (is_function_role f.2)) fs) h).1 e

standing_nested : (k : Kind) (ts : List Node) (i : ℕ) (x : Role) (p : Standing) (n : Bool) → not (is_function_role x) ≡ true → standing_below (P p n) k ts i x ≡ standing_below (P p true) k ts i x
standing_nested k ts i role.Function p n h = absurd (cc)
standing_nested k ts i role.Plain p n h = refl
standing_nested k ts i _ p n h = refl

abbrev Nested : Node → Type 0
Nested t = (p : Standing) (n : Bool) (s : Slot) → Fits t s → NoBlockFunction (S (P p true) t).pending → S (P p n) t ≡ S (P p true) t

abbrev Step : Place → Place → Node → Type 0
Step v u c = (v ≡ u) ⊎ ((r : Standing) × (n : Bool) × (v ≡ P r n) × (u ≡ P r true) × NoBlockFunction (S (P r true) c).pending)

fields_nested : (fs : List Field) (ts : List Node) (ps qs : ℕ → Place) → Each Nested ts → FieldsFit (map (λ f. f.1) fs) ts
    → ((i : ℕ) (f : Field) (c : Node) → slice_get fs i ≡ Some f → slice_get ts i ≡ Some c → Step (ps i) (qs i) c) → each_in S ps ts ≡ each_in S qs ts
fields_nested [] [] ps qs h f m = refl
fields_nested [] (t ∷ ts) ps qs h f m = absurd f
fields_nested (x ∷ fs) [] ps qs h f m = absurd f
fields_nested (x ∷ fs) (t ∷ ts) ps qs h f m =
    let first : S (ps zero) t ≡ S (qs zero) t = ⊎_elim (λ (e : ps zero ≡ qs zero). ap (λ v. S v t) e)
    (λ (z : (r : Standing) × (n : Bool) × (ps zero ≡ P r n) × (qs zero ≡ P r true) × NoBlockFunction (S (P r true) t).pending). ap (λ v. S v t) z.2 ∙ h.0 z.0 z.1 x.1 f.0 z.4 ∙ ap (λ v. S v t) (sym z.3)) (m zero x t refl refl) in
    ap (λ a. a ∷ each_in S (λ i. ps (suc i)) ts) first ∙ ap (λ l. S (qs zero) t ∷ l) (fields_nested fs ts (λ i. ps (suc i)) (λ i. qs (suc i)) h.1 f.1 (λ i. m (suc i)))

items_nested : (p : Standing) (n : Bool) (s : Slot) (ts : List Node) → Each Nested ts → AllFit s ts → NoBlockFunction (joined (each_in S (λ i. P (part_standing p (slice_get ts i)) true) ts)).pending
    → each_in S (λ i. P (part_standing p (slice_get ts i)) n) ts ≡ each_in S (λ i. P (part_standing p (slice_get ts i)) true) ts
items_nested p n s [] h f absent_there = refl
items_nested p n s (c ∷ ts) h f absent_there =
    let first = h.0 (part_standing p (Some c)) n s f.0 (λ b i. absent_there b (in_left b (S (P (part_standing p (Some c)) true) c).pending (joined (each_in S (λ i. P (part_standing p (slice_get ts i)) true) ts)).pending i)) in
    ap (λ a. a ∷ each_in S (λ i. P (part_standing p (slice_get ts i)) n) ts) first
    ∙ ap (λ l. S (P (part_standing p (Some c)) true) c ∷ l)
    (items_nested p n s ts h.1 f.1 (λ b i. absent_there b (in_right b (S (P (part_standing p (Some c)) true) c).pending (joined (each_in S (λ i. P (part_standing p (slice_get ts i)) true) ts)).pending i)))

-- a child, by the scope that the node opens
module _ (r : Standing) (n : Bool) (c : Node) (i : ℕ) (views : ℕ → View) (cs : List Sites) where
  scoped : (s : Scope) → is_inside (views i) ≡ true → slice_get cs i ≡ Some (S (P r (nests s true)) c) → NoBlockFunction (in_scope (Some s) views cs).pending → Step (P r (nests s n)) (P r (nests s true)) c
  scoped scope.Block v at absent_there = inl refl
  scoped scope.Switch v at absent_there = inl refl
  scoped scope.Catch v at absent_there = inl refl
  scoped scope.Program v at absent_there = inl refl
  scoped scope.Function v at absent_there = inl refl
  scoped scope.StaticBlock v at absent_there = inl refl
  scoped scope.Types v at absent_there = inl refl
  scoped scope.Namespace v at absent_there = inl refl
  scoped scope.For v at absent_there = inr (
    r,
    n,
    refl,
    refl,
    λ b h e. absent_there b (in_right b (pending_where (λ v. not (is_inside v)) views cs) (filter (λ b. not (takes b.0 scope.For)) (pending_where is_inside views cs))
        (filter_in (λ b. not (takes b.0 scope.For)) b (pending_where is_inside views cs) (pending_to is_inside b cs views i (S (P r true) c) at h v) (ap (λ r. not (takes r scope.For)) e))) e,
  )
  scoped scope.FunctionName v at absent_there = inr (
    r,
    n,
    refl,
    refl,
    λ b h e. absent_there b (in_right b (pending_where (λ v. not (is_inside v)) views cs) (filter (λ b. not (takes b.0 scope.FunctionName)) (pending_where is_inside views cs))
        (filter_in (λ b. not (takes b.0 scope.FunctionName)) b (pending_where is_inside views cs) (pending_to is_inside b cs views i (S (P r true) c) at h v) (ap (λ r. not (takes r scope.FunctionName)) e))) e,
  )
  scoped scope.ClassName v at absent_there = inr (
    r,
    n,
    refl,
    refl,
    λ b h e. absent_there b (in_right b (pending_where (λ v. not (is_inside v)) views cs) (filter (λ b. not (takes b.0 scope.ClassName)) (pending_where is_inside views cs))
        (filter_in (λ b. not (takes b.0 scope.ClassName)) b (pending_where is_inside views cs) (pending_to is_inside b cs views i (S (P r true) c) at h v) (ap (λ r. not (takes r scope.ClassName)) e))) e,
  )

  child_nested : (o : Option Scope) (v : View) → views i ≡ v → slice_get cs i ≡ Some (S (P r (nested_below true o v)) c) → NoBlockFunction (in_scope o views cs).pending → Step (P r (nested_below n o v)) (P r (nested_below true o v)) c
  child_nested None v e at absent_there = inr (r, n, refl, refl, λ b h. absent_there b (joined_to b cs i (S (P r true) c) at h))
  child_nested (Some s) view.Outside e at absent_there = inr (
    r,
    n,
    refl,
    refl,
    λ b h. absent_there b (in_left b (pending_where (λ v. not (is_inside v)) views cs) (filter (λ b. not (takes b.0 s)) (pending_where is_inside views cs))
        (pending_to (λ v. not (is_inside v)) b cs views i (S (P r true) c) at h (ap (λ v. not (is_inside v)) e))),
  )
  child_nested (Some s) view.Parameters e at absent_there = scoped s (ap is_inside e) at absent_there
  child_nested (Some s) view.Whole e at absent_there = scoped s (ap is_inside e) at absent_there

tree_nested : (k : Kind) (ts : List Node) → is_fn_decl k ≡ false → Each Nested ts → Nested (Tree k ts)
tree_nested k ts none h p n s f absent_there =
    let w = stands k ts s f in
    let is_true : S (P p true) (Tree k ts) ≡ in_scope (opened_as (P p true) k (has_own_name ts)) (view_from k) (each_in S (place_in (P p true) (Node-F.Tree k ts)) ts) = out_step (P p true) (Tree k ts) _ (outs-Tree k ts) in
    let roles : list_all (λ f. not (is_function_role f.2)) (fields_of k) ≡ true = ap (λ b. b || list_all (λ f. not (is_function_role f.2)) (fields_of k)) (sym none) ∙ function_roles k in
    let children : each_in S (place_in (P p n) (Node-F.Tree k ts)) ts ≡ each_in S (place_in (P p true) (Node-F.Tree k ts)) ts
    = fields_nested (fields_of k) ts (place_in (P p n) (Node-F.Tree k ts)) (place_in (P p true) (Node-F.Tree k ts)) h w.fields
    (λ i x c e g.
    let role_is : field_role k i ≡ x.2 = ap (λ o. unwrap_or (option_map (λ f. f.2) o) role.Plain) e in
    let plain : not (is_function_role (field_role k i)) ≡ true = ap (λ r. not (is_function_role r)) role_is ∙ no_function_at (fields_of k) i x roles e in
    let same : place_in (P p n) (Node-F.Tree k ts) i ≡ P (standing_below (P p true) k ts i (field_role k i)) (nested_below n (opened_as (P p true) k (has_own_name ts)) (view_from k i))
    = (λ j. P (standing_nested k ts i (field_role k i) p n plain j) (nested_below n (opened_nested k p n (has_own_name ts) j) (view_from k i))) in
    subst (λ v. Step v (place_in (P p true) (Node-F.Tree k ts) i) c) (sym same)
    (child_nested (standing_below (P p true) k ts i (field_role k i)) n c i (view_from k) (each_in S (place_in (P p true) (Node-F.Tree k ts)) ts) (opened_as (P p true) k (has_own_name ts)) (view_from k i) refl
    (each_in-at S (place_in (P p true) (Node-F.Tree k ts)) ts i c g) (subst (λ (a : Sites). NoBlockFunction a.pending) is_true absent_there))) in
    out_step (P p n) (Tree k ts) _ (outs-Tree k ts)
    ∙ ap (λ o. in_scope o (view_from k) (each_in S (place_in (P p n) (Node-F.Tree k ts)) ts)) (opened_nested k p n (has_own_name ts))
    ∙ ap (in_scope (opened_as (P p true) k (has_own_name ts)) (view_from k)) children
    ∙ sym is_true

pub identifier_class : (t : Node) → Fits t (one class.Ident) → (k : Kind) × (i : Ident) × (t ≡ Identifier k i)
identifier_class t = by_children (λ t. Fits t (one class.Ident) → (k : Kind) × (i : Ident) × (t ≡ Identifier k i)) (
  λ f. absurd (cc (sym (fits-Absent (one class.Ident)) ∙ f)),
  λ x f. absurd (cc (sym (fits-Flag x (one class.Ident)) ∙ f)),
  λ v f. absurd (cc (sym (fits-Word v (one class.Ident)) ∙ f)),
  λ x f. absurd (cc (sym (fits-Text x (one class.Ident)) ∙ f)),
  λ s f. absurd (cc (sym (fits-Span s (one class.Ident)) ∙ f)),
  λ k i f. (k, i, refl),
)
    (λ ts b f. absurd (cc (sym (fits-List ts (one class.Ident)) ∙ f)))
    (λ k ts b f. absurd (no_tree_in k ts (tree_opens k ts class.Ident f).0 (tree_opens k ts class.Ident f).1)) t
  where
    no_tree_in : (k : Kind) (ts : List Node) → IsTrue (not (is_identifier k)) → IsTrue (belongs k class.Ident) → ⊥
    no_tree_in kind.Ident ts a b = absurd (cc)
    no_tree_in kind.BindingIdent ts a b = absurd (cc)
    no_tree_in _ ts a b = absurd (cc)

-- a function in a block is bound so
function_nested : (ts : List Node) → Nested (Tree kind.FnDecl ts)
function_nested [] p n s f absent_there = absurd (stands kind.FnDecl [] s f).fields
function_nested (a ∷ []) p n s f absent_there = absurd ((stands kind.FnDecl (a ∷ []) s f).fields.1)
function_nested (a ∷ c ∷ d ∷ ts) p n s f absent_there = absurd ((stands kind.FnDecl (a ∷ c ∷ d ∷ ts) s f).fields.1.1)
function_nested (a ∷ c ∷ []) p n s f absent_there =
    let (k, i, is) = identifier_class a (stands kind.FnDecl (a ∷ c ∷ []) s f).fields.0 in
    let opens : opened_as (P p true) kind.FnDecl (has_own_name (a ∷ c ∷ [])) ≡ None = at (is_branch p) in
    let whole : S (P p true) (Tree kind.FnDecl (a ∷ c ∷ [])) ≡ joined (each_in S (place_in (P p true) (Node-F.Tree kind.FnDecl (a ∷ c ∷ []))) (a ∷ c ∷ []))
    = out_step (P p true) (Tree kind.FnDecl (a ∷ c ∷ [])) _ (outs-Tree kind.FnDecl (a ∷ c ∷ [])) ∙ ap (λ o. in_scope o (view_from kind.FnDecl) (each_in S (place_in (P p true) (Node-F.Tree kind.FnDecl (a ∷ c ∷ []))) (a ∷ c ∷ []))) opens in
    let own : In (standing.BlockFunction, i) (S (place_in (P p true) (Node-F.Tree kind.FnDecl (a ∷ c ∷ [])) zero) a).pending
    = subst (λ (x : Sites). In (standing.BlockFunction, i) x.pending) (sym (ap (S (place_in (P p true) (Node-F.Tree kind.FnDecl (a ∷ c ∷ [])) zero)) is ∙ of_identifier (place_in (P p true) (Node-F.Tree kind.FnDecl (a ∷ c ∷ [])) zero) k i)) (inl refl) in
    absurd (absent_there (standing.BlockFunction, i) (subst (λ (x : Sites). In (standing.BlockFunction, i) x.pending) (sym whole)
    (in_left (standing.BlockFunction, i) (S (place_in (P p true) (Node-F.Tree kind.FnDecl (a ∷ c ∷ [])) zero) a).pending (joined (each_in S (λ i. place_in (P p true) (Node-F.Tree kind.FnDecl (a ∷ c ∷ [])) (suc i)) (c ∷ []))).pending own)) refl)
  where
    at : (x : Bool) → named (x && false) scope.Block ≡ None
    at true = refl
    at false = refl

list_items : (s : Slot) (ts : List Node) → IsTrue (list_fits (map fits ts) s) → (u : Slot) × AllFit u ts
list_items (slot.List c) ts f = (slot.One c, all_open (slot.One c) ts f)
list_items (slot.OptionalList c) ts f = (slot.One c, all_open (slot.One c) ts f)
list_items (slot.Holes c) ts f = (slot.Optional c, all_open (slot.Optional c) ts f)
list_items slot.Pairs ts f = (slot.Pair, all_open slot.Pair ts f)
list_items slot.Pair ts f = (slot.One content.Text, texts_fit ts (fields_open (slot.One content.Text ∷ slot.One content.Text ∷ []) ts f))
list_items (slot.One c) ts f = absurd (cc)
list_items (slot.Optional c) ts f = absurd (cc)

list_nested : (ts : List Node) → Each Nested ts → Nested (Many ts)
list_nested ts h p n s f absent_there =
    let (u, items) = list_items s ts (sym (fits-List ts s) ∙ f) in
    let whole = out_step (P p true) (Many ts) _ (outs-List ts) in
    out_step (P p n) (Many ts) _ (outs-List ts) ∙ ap joined (items_nested p n u ts h items (subst (λ (a : Sites). NoBlockFunction a.pending) whole absent_there)) ∙ sym whole

kind_nested : (k : Kind) (ts : List Node) → Each Nested ts → Nested (Tree k ts)
kind_nested kind.FnDecl ts h = function_nested ts
kind_nested k ts h = tree_nested k ts refl h

leaf_nested : (t : Node) → ((w : Place) → S w t ≡ nothing) → Nested t
leaf_nested t h p n s f absent_there = h (P p n) ∙ sym (h (P p true))

pub nested : (t : Node) → Nested t
nested t = by_children Nested (
  leaf_nested Absent of_absent,
  λ x. leaf_nested (Flag x) (λ w. out_step w (Flag x) _ (outs-Flag x)),
  λ v. leaf_nested (Word v) (λ w. out_step w (Word v) _ (outs-Word v)),
  λ x. leaf_nested (Text x) (λ w. out_step w (Text x) _ (outs-Text x)),
  λ r. leaf_nested (Span r) (λ w. out_step w (Span r) _ (outs-Span r)),
  λ k i p n s f absent_there. of_identifier (P p n) k i ∙ sym (of_identifier (P p true) k i),
)
    list_nested kind_nested t
