-- What a declaration binds is pending at it.
use Rattle.std.proofs.Common.{◌≡◌, ℕ, zero, suc, Bool, true, false, not, ◌&&◌, ◌||◌, inl, inr, ⊎_elim, IsTrue, Some, None, List, [], ◌∷◌, ◌++◌, map, refl, sym, ap, ◌∙◌, subst, cond, true≢false}
use Rattle.std.specs.List.{flat_map, list_all, slice_get}
use Rattle.std.specs.Prelude.{unwrap_or, option_map}
use Rattle.swc_tree_marks.specs.declared.ident.Ident.{Ident}
use Rattle.swc_tree_node.specs.declared.kind.Kind.{Kind}
use Rattle.swc_tree_node.specs.declared.slot.Role.{Role}
use Rattle.swc_tree_node.specs.declared.node.Node.{Node, Absent, Flag, Word, Text, Span, List as Many, Identifier, Tree, out-Node}
use Rattle.swc_tree_node.specs.declared.node.Node.TheOpen.{Node-F}
use Rattle.swc_tree_node.specs.declared.node.Node.TheVariants.{outs-List, outs-Tree, outs-Identifier, rolls-Tree}
use Rattle.swc_tree_node.specs.Table.{fields_of, is_identifier, slots_of}
use Rattle.swc_tree_node.specs.Fits.{FieldsFit, Fits, belongs}
use Rattle.swc_tree_node.proofs.Fit.{both as both_are, fits-Absent, fits-Flag, fits-Word, fits-Text, fits-Span, fits-List, fits-Identifier, tree_opens}
use Rattle.swc_tree_scoping.specs.declared.places.Standing.{Standing}
use Rattle.swc_tree_scoping.specs.declared.places.Place.{Place}
use Rattle.swc_tree_scoping.specs.Places.{binds_patterns, field_role, has_own_name, is_expression_in, is_identifier_expression, nested_below, opened_as, part_standing, place_in, standing_below, view_from}
use Rattle.swc_tree_scoping.specs.BoundNames.{Id, bound_ids, declared_ids, declared_in, id_of, in_part, in_parts, name_in, own_id}
use Rattle.swc_tree_scoping.specs.Folds.{each_in}
use Rattle.swc_tree_scoping.specs.Scopes.{takes}
use Rattle.swc_tree_scoping.proofs.BoundNames.{bound-Absent, bound-Flag, bound-Word, bound-Text, bound-Span, bound-Identifier, bound-List, bound-Tree}
use Rattle.swc_tree_scoping.proofs.Under.{each_in-at}
use Rattle.swc_tree_grammar.specs.Normal.{written_out}
use Rattle.swc_tree_grammar.proofs.Induction.{Each, by_children}
use Rattle.swc_tree_grammar.proofs.Places.{one}
use Rattle.swc_tree_sites.specs.Sites.{Binding, Sites, both, in_scope, joined, name_sites, nothing}
use Rattle.swc_tree_sites.specs.Smaller.{In}
use Rattle.swc_tree_sites.proofs.Kept.{S, out_step}
use Rattle.swc_tree_sites.proofs.Leaves.{Field}
use Rattle.swc_tree_sites.proofs.Loose.{in_cases, in_left, in_right}
use Rattle.swc_tree_sites.proofs.Pending.{keyword_cases}
use Rattle.swc_tree_sites_laws.proofs.Expressions.{P, of_identifier}
use Rattle.swc_tree_sites_written.proofs.Branches.{identifier_class}
use Rattle.swc_tree_sites_written.proofs.Lists.{joined_to}
use Rattle.swc_tree_sites_written.proofs.Written.{written_name, written_tree}
use Rattle.swc_tree_node.specs.declared.kind.Kind.TheVariants as kind
use Rattle.swc_tree_node.specs.declared.kind.Class.TheVariants as class
use Rattle.swc_tree_node.specs.declared.slot.Role.TheVariants as role
use Rattle.swc_tree_scoping.specs.declared.places.Standing.TheVariants as standing
use Rattle.swc_tree_scoping.specs.declared.places.Scope.TheVariants as scope

-- a binding of the id is among them, one that the program takes
abbrev pub IdIn : Id → List Binding → Type 0
IdIn x bs = (b : Binding) × In b bs × (takes b.0 scope.Program ≡ true) × (b.1.sym ≡ x.0) × (b.1.ctxt ≡ x.1)

abbrev pub AllIn : List Id → List Binding → Type 0
AllIn ids bs = (x : Id) → In x ids → IdIn x bs

pub id_more : (x : Id) (xs ys : List Binding) → ((b : Binding) → In b xs → In b ys) → IdIn x xs → IdIn x ys
id_more x xs ys h i = (i.0, h i.0 i.1, i.2, i.3, i.4)

-- as what the names of a declaration stand
abbrev declares : Standing → Bool
declares standing.Variable = true
declares standing.Lexical = true
declares _ = false

own_in : (r : Standing) (i : Ident) (x : Id) → declares r ≡ true → (i.sym, i.ctxt) ≡ x → IdIn x (name_sites r i).pending
own_in standing.Variable i x d e = ((standing.Variable, i), inl refl, refl, ap (λ x. x.0) e, ap (λ x. x.1) e)
own_in standing.Lexical i x d e = ((standing.Lexical, i), inl refl, refl, ap (λ x. x.0) e, ap (λ x. x.1) e)
own_in _ i x d e = absurd (cc)

abbrev BoundIn : Node → Type 0
BoundIn t = (r : Standing) (n : Bool) → declares r ≡ true → AllIn (bound_ids t) (S (P r n) t).pending

none_in : (t : Node) → bound_ids t ≡ [] → BoundIn t
none_in t e r n d x h = absurd (subst (In x) e h)

name_in_place : (k : Kind) (i : Ident) (r : Standing) (n : Bool) (x : Id) → declares r ≡ true → In x (own_id k i) → IdIn x (S (P r n) (Identifier k i)).pending
name_in_place kind.BindingIdent i r n x d (inl e) = subst (λ (a : Sites). IdIn x a.pending) (sym (of_identifier (P r n) kind.BindingIdent i)) (own_in r i x d e)
name_in_place kind.BindingIdent i r n x d (inr g) = absurd g
name_in_place kind.Ident i r n x d h = absurd h
name_in_place _ i r n x d h = absurd h

-- an identifier expression binds nothing
named_nothing : (k : Kind) (i : Ident) → is_expression_in (Node-F.Identifier k i) ≡ true → own_id k i ≡ []
named_nothing kind.Ident i h = refl
named_nothing _ i h = absurd (true≢false (sym h))

expression_binds : (t : Node) → is_identifier_expression (Some t) ≡ true → bound_ids t ≡ []
expression_binds t = by_children (λ t. is_identifier_expression (Some t) ≡ true → bound_ids t ≡ []) (
  λ h. bound-Absent,
  λ x h. bound-Flag x,
  λ w h. bound-Word w,
  λ x h. bound-Text x,
  λ s h. bound-Span s,
  λ k i h. bound-Identifier k i ∙ named_nothing k i (sym (ap is_expression_in (outs-Identifier k i)) ∙ h),
)
    (λ ts b h. absurd (cc (sym (ap is_expression_in (outs-List ts)) ∙ h)))
    (λ k ts b h. absurd (cc (sym (ap is_expression_in (outs-Tree k ts)) ∙ h))) t

part_in : (t : Node) (r : Standing) (n : Bool) → BoundIn t → declares r ≡ true → AllIn (bound_ids t) (S (P (part_standing r (Some t)) n) t).pending
part_in t r n h d = at (is_identifier_expression (Some t)) refl
  where
    kept : (z : Bool) → cond (z && false) standing.Reference r ≡ r
    kept true = refl
    kept false = refl

    at : (z : Bool) → is_identifier_expression (Some t) ≡ z → AllIn (bound_ids t) (S (P (part_standing r (Some t)) n) t).pending
    at true e = λ x g. absurd (subst (In x) (expression_binds t e) g)
    at false e = subst (λ r. AllIn (bound_ids t) (S (P r n) t).pending) (sym (ap (λ z. cond (binds_patterns r && z) standing.Reference r) e ∙ kept (binds_patterns r))) (h r n d)

items_in_place : (r : Standing) (n : Bool) (ts : List Node) → Each BoundIn ts → declares r ≡ true → AllIn (flat_map bound_ids ts) (joined (each_in S (λ i. P (part_standing r (slice_get ts i)) n) ts)).pending
items_in_place r n [] h d x g = absurd g
items_in_place r n (t ∷ ts) h d x g =
    let first = (S (P (part_standing r (Some t)) n) t).pending in
    let rest = (joined (each_in S (λ i. P (part_standing r (slice_get ts i)) n) ts)).pending in
    ⊎_elim (λ g. id_more x first (first ++ rest) (λ b i. in_left b first rest i) (part_in t r n h.0 d x g)) (λ g. id_more x rest (first ++ rest) (λ b i. in_right b first rest i) (items_in_place r n ts h.1 d x g))
    (in_cases x (bound_ids t) (flat_map bound_ids ts) g)

list_in_place : (ts : List Node) → Each BoundIn ts → BoundIn (Many ts)
list_in_place ts h r n d x g = subst (λ (a : Sites). IdIn x a.pending) (sym (out_step (P r n) (Many ts) _ (outs-List ts))) (items_in_place r n ts h d x (subst (In x) (bound-List ts) g))

-- the roles of what is bound in a node
abbrev is_bound_role : Role → Bool
is_bound_role role.Declared = true
is_bound_role role.Lexical = true
is_bound_role role.Inherited = true
is_bound_role _ = false

abbrev is_inherited : Role → Bool
is_inherited role.Inherited = true
is_inherited _ = false

of_part : (o : Role) (ids : List Id) (x : Id) → In x (in_part o ids) → (is_bound_role o ≡ true) × In x ids
of_part role.Declared ids x h = (refl, h)
of_part role.Lexical ids x h = (refl, h)
of_part role.Inherited ids x h = (refl, h)
of_part _ ids x h = absurd h

from_parts : (roles : ℕ → Role) (ts : List Node) (x : Id) → In x (in_parts roles (map bound_ids ts)) → (i : ℕ) × (c : Node) × (slice_get ts i ≡ Some c) × (is_bound_role (roles i) ≡ true) × In x (bound_ids c)
from_parts roles [] x h = absurd h
from_parts roles (t ∷ ts) x h = ⊎_elim (λ g. let (b, g) = of_part (roles zero) (bound_ids t) x g in (zero, t, refl, b, g)) (λ g. let (i, c, e, b, g) = from_parts (λ i. roles (suc i)) ts x g in (suc i, c, e, b, g))
    (in_cases x (in_part (roles zero) (bound_ids t)) (in_parts (λ i. roles (suc i)) (map bound_ids ts)) h)

each_at : (Q : Node → Type 0) (ts : List Node) (i : ℕ) (c : Node) → Each Q ts → slice_get ts i ≡ Some c → Q c
each_at Q [] i c h e = absurd (cc)
each_at Q (t ∷ ts) zero c h e = let same : t ≡ c = cc in subst Q same h.0
each_at Q (t ∷ ts) (suc i) c h e = each_at Q ts i c h.1 e

-- what opens a scope binds nothing so
abbrev may_open : Kind → Bool
may_open kind.Module = true
may_open kind.Script = true
may_open kind.Function = true
may_open kind.ArrowExpr = true
may_open kind.Constructor = true
may_open kind.GetterProp = true
may_open kind.SetterProp = true
may_open kind.FnExpr = true
may_open kind.ClassExpr = true
may_open kind.BlockStmt = true
may_open kind.FnDecl = true
may_open kind.ForStmt = true
may_open kind.ForInStmt = true
may_open kind.ForOfStmt = true
may_open kind.SwitchStmt = true
may_open kind.CatchClause = true
may_open kind.StaticBlock = true
may_open kind.TsInterfaceDecl = true
may_open kind.TsTypeAliasDecl = true
may_open kind.TsEnumDecl = true
may_open kind.TsModuleDecl = true
may_open _ = false

opened_none : (k : Kind) (w : Place) (b : Bool) → may_open k ≡ false → opened_as w k b ≡ None
opened_none kind.Module w b e = absurd (cc)
opened_none kind.Script w b e = absurd (cc)
opened_none kind.Function w b e = absurd (cc)
opened_none kind.ArrowExpr w b e = absurd (cc)
opened_none kind.Constructor w b e = absurd (cc)
opened_none kind.GetterProp w b e = absurd (cc)
opened_none kind.SetterProp w b e = absurd (cc)
opened_none kind.FnExpr w b e = absurd (cc)
opened_none kind.ClassExpr w b e = absurd (cc)
opened_none kind.BlockStmt w b e = absurd (cc)
opened_none kind.FnDecl w b e = absurd (cc)
opened_none kind.ForStmt w b e = absurd (cc)
opened_none kind.ForInStmt w b e = absurd (cc)
opened_none kind.ForOfStmt w b e = absurd (cc)
opened_none kind.SwitchStmt w b e = absurd (cc)
opened_none kind.CatchClause w b e = absurd (cc)
opened_none kind.StaticBlock w b e = absurd (cc)
opened_none kind.TsInterfaceDecl w b e = absurd (cc)
opened_none kind.TsTypeAliasDecl w b e = absurd (cc)
opened_none kind.TsEnumDecl w b e = absurd (cc)
opened_none kind.TsModuleDecl w b e = absurd (cc)
opened_none _ w b e = refl

open_roles : (k : Kind) → (not (may_open k) || list_all (λ f. not (is_bound_role f.2)) (fields_of k)) ≡ true
open_roles kind.Module = refl
open_roles _ = refl

unbound_at : (fs : List Field) (i : ℕ) → list_all (λ f. not (is_bound_role f.2)) fs ≡ true → not (is_bound_role (unwrap_or (option_map (λ f. f.2) (slice_get fs i)) role.Plain)) ≡ true
unbound_at [] i h = refl
unbound_at (f ∷ fs) zero h = (both_are (not (is_bound_role f.2)) (list_all (λ f. not (is_bound_role f.2)) fs) h).0
unbound_at (f ∷ fs) (suc i) h = unbound_at fs i (both_are (not (is_bound_role f.2)) (list_all (λ f. not (is_bound_role f.2)) fs) h).1

opens_not : (k : Kind) (i : ℕ) → is_bound_role (field_role k i) ≡ true → may_open k ≡ false
opens_not k i h = at (may_open k) refl
  where
    at : (z : Bool) → may_open k ≡ z → may_open k ≡ false
    at false e = e
    at true e =
        let all_so : list_all (λ f. not (is_bound_role f.2)) (fields_of k) ≡ true = ap (λ z. not z || list_all (λ f. not (is_bound_role f.2)) (fields_of k)) (sym e) ∙ open_roles k in
        let y = sym (ap not h) ∙ unbound_at (fields_of k) i all_so in absurd (cc)

-- a field in which names are bound
field_in_place : (k : Kind) (ts : List Node) (i : ℕ) (c : Node) (o : Role) (r : Standing) (n m : Bool) (x : Id) → slice_get ts i ≡ Some c → is_bound_role o ≡ true → BoundIn c → (is_inherited o ≡ true → declares r ≡ true) → In x (bound_ids c)
    → IdIn x (S (P (standing_below (P r n) k ts i o) m) c).pending
field_in_place k ts i c role.Inherited r n m x e b h own g = subst (λ z. IdIn x (S (P (part_standing r z) m) c).pending) (sym e) (part_in c r m h (own refl) x g)
field_in_place k ts i c role.Declared r n m x e b h own g =
    ⊎_elim (λ z. subst (λ z. IdIn x (S (P z m) c).pending) (sym z) (h standing.Variable m refl x g)) (λ z. subst (λ z. IdIn x (S (P z m) c).pending) (sym z) (h standing.Lexical m refl x g)) (keyword_cases ts)
field_in_place k ts i c role.Lexical r n m x e b h own g = h standing.Lexical m refl x g
field_in_place k ts i c _ r n m x e b h own g = absurd (cc)

tree_in_place : (k : Kind) (ts : List Node) (r : Standing) (n : Bool) → Each BoundIn ts → ((i : ℕ) → is_inherited (field_role k i) ≡ true → declares r ≡ true) → AllIn (bound_ids (Tree k ts)) (S (P r n) (Tree k ts)).pending
tree_in_place k ts r n h own x g =
    let (i, c, e, b, g) = from_parts (field_role k) ts x (subst (In x) (bound-Tree k ts) g) in
    let cs = each_in S (place_in (P r n) (Node-F.Tree k ts)) ts in
    let m = nested_below n (opened_as (P r n) k (has_own_name ts)) (view_from k i) in
    let at : IdIn x (S (place_in (P r n) (Node-F.Tree k ts) i) c).pending = field_in_place k ts i c (field_role k i) r n m x e b (each_at BoundIn ts i c h e) (own i) g in
    let whole : S (P r n) (Tree k ts) ≡ joined cs = out_step (P r n) (Tree k ts) _ (outs-Tree k ts) ∙ ap (λ o. in_scope o (view_from k) cs) (opened_none k (P r n) (has_own_name ts) (opens_not k i b)) in
    subst (λ (a : Sites). IdIn x a.pending) (sym whole)
    (id_more x (S (place_in (P r n) (Node-F.Tree k ts) i) c).pending (joined cs).pending (λ b j. joined_to b cs i (S (place_in (P r n) (Node-F.Tree k ts) i) c) (each_in-at S (place_in (P r n) (Node-F.Tree k ts)) ts i c e) j) at)

bound_in : (t : Node) → BoundIn t
bound_in t = by_children BoundIn (
  none_in Absent bound-Absent,
  λ x. none_in (Flag x) (bound-Flag x),
  λ w. none_in (Word w) (bound-Word w),
  λ x. none_in (Text x) (bound-Text x),
  λ s. none_in (Span s) (bound-Span s),
  λ k i r n d x h. name_in_place k i r n x d (subst (In x) (bound-Identifier k i) h),
)
    list_in_place
    (λ k ts h r n d. tree_in_place k ts r n h (λ i e. d)) t

each_of : (Q : Node → Type 0) (ts : List Node) → ((t : Node) → Q t) → Each Q ts
each_of Q [] h = tt
each_of Q (t ∷ ts) h = (h t, each_of Q ts h)

-- declarations
variable_roles : (i : ℕ) → is_inherited (field_role kind.VarDecl i) ≡ true → ⊥
variable_roles zero h = absurd (cc)
variable_roles (suc zero) h = absurd (cc)
variable_roles (suc (suc zero)) h = absurd (cc)
variable_roles (suc (suc (suc i))) h = absurd (cc)

using_roles : (i : ℕ) → is_inherited (field_role kind.UsingDecl i) ≡ true → ⊥
using_roles zero h = absurd (cc)
using_roles (suc zero) h = absurd (cc)
using_roles (suc (suc zero)) h = absurd (cc)
using_roles (suc (suc (suc i))) h = absurd (cc)

-- no part of a type, an enum or a namespace stands as it does
inherited_at : (fs : List Field) (i : ℕ) → list_all (λ f. not (is_inherited f.2)) fs ≡ true → is_inherited (unwrap_or (option_map (λ f. f.2) (slice_get fs i)) role.Plain) ≡ true → ⊥
inherited_at [] i h e = absurd (cc)
inherited_at (f ∷ fs) zero h e = let z = sym (ap not e) ∙ (both_are (not (is_inherited f.2)) (list_all (λ f. not (is_inherited f.2)) fs) h).0 in absurd (cc)
inherited_at (f ∷ fs) (suc i) h e = inherited_at fs i (both_are (not (is_inherited f.2)) (list_all (λ f. not (is_inherited f.2)) fs) h).1 e

abbrev pub Declared : Node → Type 0
Declared d = AllIn (declared_ids d) (S (P standing.Plain false) d).pending

ids_in : (d : Node) (y : Node-F Node) → out-Node d ≡ y → AllIn (declared_in d y) (S (P standing.Plain false) d).pending → Declared d
ids_in d y e h = subst (λ y. AllIn (declared_in d y) (S (P standing.Plain false) d).pending) (sym e) h

named_declared : (k : Kind) (j : Kind) (i : Ident) (c : Node) (r : Standing) → takes r scope.Program ≡ true → (r, i) ∷ [] ≡ (name_sites r i).pending
    → S (P standing.Plain false) (Tree k (Identifier j i ∷ c ∷ [])) ≡ both (S (P r false) (Identifier j i)) (both (S (P standing.Plain false) c) nothing) → AllIn (id_of (name_in (out-Node (Identifier j i)))) (S (P standing.Plain false) (Tree k (Identifier j i ∷ c ∷ []))).pending
named_declared k j i c r tk own whole x h = at (subst (In x) (ap (λ y. id_of (name_in y)) (outs-Identifier j i)) h)
  where
    rest : List Binding
    rest = (both (S (P standing.Plain false) c) nothing).pending

    first : In (r, i) (S (P r false) (Identifier j i)).pending
    first = subst (λ (a : Sites). In (r, i) a.pending) (sym (of_identifier (P r false) j i)) (subst (In (r, i)) own (inl refl))

    at : In x ((i.sym, i.ctxt) ∷ []) → IdIn x (S (P standing.Plain false) (Tree k (Identifier j i ∷ c ∷ []))).pending
    at (inl e) = subst (λ (a : Sites). IdIn x a.pending) (sym whole) ((r, i), in_left (r, i) (S (P r false) (Identifier j i)).pending (both (S (P standing.Plain false) c) nothing).pending first, tk, ap (λ x. x.0) e, ap (λ x. x.1) e)
    at (inr g) = absurd g

function_declared : (a c : Node) → Fits a (one class.Ident) → Declared (Tree kind.FnDecl (written_out a ∷ c ∷ []))
function_declared a c f =
    let (j, i, is) = identifier_class a f in
    let e : written_out a ≡ Identifier j i = ap written_out is ∙ written_name j i in
    subst (λ a. Declared (Tree kind.FnDecl (a ∷ c ∷ []))) (sym e)
    (ids_in (Tree kind.FnDecl (Identifier j i ∷ c ∷ [])) _ (outs-Tree kind.FnDecl (Identifier j i ∷ c ∷ []))
    (named_declared kind.FnDecl j i c standing.Function refl refl (out_step (P standing.Plain false) (Tree kind.FnDecl (Identifier j i ∷ c ∷ [])) _ (outs-Tree kind.FnDecl (Identifier j i ∷ c ∷ [])))))

class_declared : (a c : Node) → Fits a (one class.Ident) → Declared (Tree kind.ClassDecl (written_out a ∷ c ∷ []))
class_declared a c f =
    let (j, i, is) = identifier_class a f in
    let e : written_out a ≡ Identifier j i = ap written_out is ∙ written_name j i in
    subst (λ a. Declared (Tree kind.ClassDecl (a ∷ c ∷ []))) (sym e)
    (ids_in (Tree kind.ClassDecl (Identifier j i ∷ c ∷ [])) _ (outs-Tree kind.ClassDecl (Identifier j i ∷ c ∷ []))
    (named_declared kind.ClassDecl j i c standing.Lexical refl refl (out_step (P standing.Plain false) (Tree kind.ClassDecl (Identifier j i ∷ c ∷ [])) _ (outs-Tree kind.ClassDecl (Identifier j i ∷ c ∷ [])))))

-- what has no part that binds as it does
plainly_declared : (k : Kind) (ts : List Node) → written_out (Tree k ts) ≡ Tree k (map written_out ts)
    → declared_in (Tree k (map written_out ts)) (Node-F.Tree k (map written_out ts)) ≡ bound_ids (Tree k (map written_out ts)) → list_all (λ f. not (is_inherited f.2)) (fields_of k) ≡ true → Declared (written_out (Tree k ts))
plainly_declared k ts is own none =
    let us = map written_out ts in
    subst Declared (sym is)
    (ids_in (Tree k us) _ (outs-Tree k us)
    (subst (λ ids. AllIn ids (S (P standing.Plain false) (Tree k us)).pending) (sym own)
    (tree_in_place k us standing.Plain false (each_of BoundIn us bound_in) (λ i e. absurd (inherited_at (fields_of k) i none e)))))

declared_tree : (k : Kind) (ts : List Node) → IsTrue (not (is_identifier k)) → IsTrue (belongs k class.Decl) → FieldsFit (slots_of k) ts → Declared (written_out (Tree k ts))
declared_tree kind.FnDecl (a ∷ c ∷ []) i b f = subst Declared (sym (written_tree kind.FnDecl (a ∷ c ∷ []) ∙ rolls-Tree kind.FnDecl (written_out a ∷ written_out c ∷ []))) (function_declared a (written_out c) f.0)
declared_tree kind.FnDecl [] i b f = absurd f
declared_tree kind.FnDecl (a ∷ []) i b f = absurd f.1
declared_tree kind.FnDecl (a ∷ c ∷ d ∷ ts) i b f = absurd f.1.1
declared_tree kind.ClassDecl (a ∷ c ∷ []) i b f = subst Declared (sym (written_tree kind.ClassDecl (a ∷ c ∷ []) ∙ rolls-Tree kind.ClassDecl (written_out a ∷ written_out c ∷ []))) (class_declared a (written_out c) f.0)
declared_tree kind.ClassDecl [] i b f = absurd f
declared_tree kind.ClassDecl (a ∷ []) i b f = absurd f.1
declared_tree kind.ClassDecl (a ∷ c ∷ d ∷ ts) i b f = absurd f.1.1
declared_tree kind.VarDecl ts i b f =
    subst Declared (sym (written_tree kind.VarDecl ts ∙ rolls-Tree kind.VarDecl (map written_out ts)))
    (ids_in (Tree kind.VarDecl (map written_out ts)) _ (outs-Tree kind.VarDecl (map written_out ts)) (tree_in_place kind.VarDecl (map written_out ts) standing.Plain false (each_of BoundIn (map written_out ts) bound_in) (λ i e. absurd (variable_roles i e))))
declared_tree kind.UsingDecl ts i b f =
    subst Declared (sym (written_tree kind.UsingDecl ts ∙ rolls-Tree kind.UsingDecl (map written_out ts)))
    (ids_in (Tree kind.UsingDecl (map written_out ts)) _ (outs-Tree kind.UsingDecl (map written_out ts)) (tree_in_place kind.UsingDecl (map written_out ts) standing.Plain false (each_of BoundIn (map written_out ts) bound_in) (λ i e. absurd (using_roles i e))))
declared_tree kind.TsInterfaceDecl ts i b f = plainly_declared kind.TsInterfaceDecl ts (written_tree kind.TsInterfaceDecl ts ∙ rolls-Tree kind.TsInterfaceDecl (map written_out ts)) refl refl
declared_tree kind.TsTypeAliasDecl ts i b f = plainly_declared kind.TsTypeAliasDecl ts (written_tree kind.TsTypeAliasDecl ts ∙ rolls-Tree kind.TsTypeAliasDecl (map written_out ts)) refl refl
declared_tree kind.TsEnumDecl ts i b f = plainly_declared kind.TsEnumDecl ts (written_tree kind.TsEnumDecl ts ∙ rolls-Tree kind.TsEnumDecl (map written_out ts)) refl refl
declared_tree kind.TsModuleDecl ts i b f = plainly_declared kind.TsModuleDecl ts (written_tree kind.TsModuleDecl ts ∙ rolls-Tree kind.TsModuleDecl (map written_out ts)) refl refl
declared_tree _ ts i b f = absurd (cc)

-- what a declaration binds, written out, is pending at it
pub declared_pending : (d : Node) → Fits d (one class.Decl) → Declared (written_out d)
declared_pending d = by_children (λ d. Fits d (one class.Decl) → Declared (written_out d)) (
  λ f. absurd (cc (sym (fits-Absent (one class.Decl)) ∙ f)),
  λ x f. absurd (cc (sym (fits-Flag x (one class.Decl)) ∙ f)),
  λ v f. absurd (cc (sym (fits-Word v (one class.Decl)) ∙ f)),
  λ x f. absurd (cc (sym (fits-Text x (one class.Decl)) ∙ f)),
  λ s f. absurd (cc (sym (fits-Span s (one class.Decl)) ∙ f)),
  λ k i f. absurd (no_name k (both_are (is_identifier k) (belongs k class.Decl) (sym (fits-Identifier k i (one class.Decl)) ∙ f)).0 (both_are (is_identifier k) (belongs k class.Decl) (sym (fits-Identifier k i (one class.Decl)) ∙ f)).1),
)
    (λ ts b f. absurd (cc (sym (fits-List ts (one class.Decl)) ∙ f)))
    (λ k ts b f. declared_tree k ts (tree_opens k ts class.Decl f).0 (tree_opens k ts class.Decl f).1 (tree_opens k ts class.Decl f).2) d
  where
    no_name : (k : Kind) → IsTrue (is_identifier k) → IsTrue (belongs k class.Decl) → ⊥
    no_name kind.Ident a b = absurd (cc)
    no_name kind.BindingIdent a b = absurd (cc)
    no_name _ a b = absurd (cc)
