-- Scopes, who declares an id, and where it occurs: trees that meet a clause, and trees that do not.
use Rattle.std.specs.List.{list_any, slice_index_or}
use Rattle.std.specs.Str.{bytes_eq}
use Rattle.std.proofs.Common.{◌≡◌, ◌<◌, ℕ, Bool, true, false, ◌&&◌, ◌||◌, ◌⊎◌, inl, inr, zero, suc, length, List, [], ◌∷◌, Contains, codes, refl, sym, ap, ◌∙◌, subst, arith}
use Rattle.std.specs.declared.cmp.Ordering.TheVariants.{Less, Equal, Greater}
use Rattle.swc_tree_marks.specs.declared.ident.Ident.{Ident}
use Rattle.swc_tree_node.specs.declared.kind.Kind.TheVariants as kind
use Rattle.swc_tree_node.specs.declared.kind.Word.TheVariants as word
use Rattle.swc_tree_scoping.specs.declared.places.Standing.TheVariants as standing
use Rattle.swc_tree_scoping.specs.declared.places.Place.{Place}
use Rattle.swc_tree_scoping.specs.Places.{Path, program_place}
use Rattle.swc_tree_scoping.specs.BoundNames.{Id}
use Rattle.swc_tree_scoping_rows.proofs.Drawn.{Drawing, Drawing.none, Drawing.flag, Drawing.span, Drawing.many, Drawing.name, Drawing.tree, Drawings, Drawings.end, Drawings.next, draw, stands_is}
use Rattle.swc_tree_scoping_rows.proofs.Sites.{apart_by, block, declaration, identifier, module_of, one, try_catch, two, use_of}
use Rattle.swc_base_rename_analysis.specs.declared.scopes.ScopeKind.{ScopeKind}
use Rattle.swc_base_rename_analysis.specs.declared.scopes.ScopeKind.TheVariants.{Block, Fn}
use Rattle.swc_base_rename_analysis.specs.Analysis.{EachOnce, Declares, IsAtOrAbove, IsDeclaredWithin, IsRound, OccursIn, RenameCost, scopes_round}
use Rattle.swc_base_rename_analysis.specs.Named.{all_count, outer_count}
use Rattle.swc_base_rename_analysis.specs.Order.{IsBefore, Site}
use Rattle.swc_base_rename_analysis_rows.proofs.Seen.{cmp_is, declares, id_is, scopes_are, scopes_drawn}
use Rattle.swc_base_rename_analysis_rows.proofs.Tests.{found, declared_passes, id_is_same, occurring_passes, one_so, both_so, own_name_is, path_is, same}

abbrev pub of : List ℕ → ℕ → Ident
of x m = identifier x (m ∷ [])

abbrev pub id_of : Ident → Id
id_of i = (i.sym, i.ctxt)

abbrev pub a1 : Ident
a1 = of (codes "a") 1

abbrev pub b1 : Ident
b1 = of (codes "b") 1

abbrev pub c1 : Ident
c1 = of (codes "c") 1

abbrev pub a2 : Ident
a2 = of (codes "a") 2

abbrev three : Drawing → Drawing → Drawing → Drawings
three d e f = next d (two e f)

-- `var a#1; { let b#1; { var c#1; a#1; } }`
abbrev blocks : Drawing
blocks = module_of (two (declaration word.Var a1) (block (two (declaration word.Let b1) (block (two (declaration word.Var c1) (use_of a1))))))

abbrev outer : Path
outer = 1 ∷ 1 ∷ []

abbrev inner : Path
inner = 1 ∷ 1 ∷ 1 ∷ 1 ∷ []

abbrev a_bound : Path
a_bound = 1 ∷ 0 ∷ 2 ∷ 0 ∷ 1 ∷ []

abbrev b_bound : Path
b_bound = 1 ∷ 1 ∷ 1 ∷ 0 ∷ 2 ∷ 0 ∷ 1 ∷ []

abbrev c_bound : Path
c_bound = 1 ∷ 1 ∷ 1 ∷ 1 ∷ 1 ∷ 0 ∷ 2 ∷ 0 ∷ 1 ∷ []

abbrev a_used : Path
a_used = 1 ∷ 1 ∷ 1 ∷ 1 ∷ 1 ∷ 1 ∷ 1 ∷ []

-- scopes
pub blocks_are_scopes : scopes_round (draw blocks) a_used ≡ ((inner, Block) ∷ (outer, Block) ∷ ([], Fn) ∷ [])
blocks_are_scopes = scopes_are blocks a_used

-- `switch (a#1) { case b#1: }`
abbrev switch : Drawing
switch = tree kind.SwitchStmt (three span (name kind.Ident a1) (many (one (tree kind.SwitchCase (three span (name kind.Ident b1) (many end))))))

pub switch_is_no_scope : scopes_round (draw (module_of (one switch))) (1 ∷ 0 ∷ 2 ∷ 0 ∷ 1 ∷ []) ≡ (([], Fn) ∷ [])
switch_is_no_scope = scopes_are (module_of (one switch)) (1 ∷ 0 ∷ 2 ∷ 0 ∷ 1 ∷ [])

-- `for (;;) switch (a#1) { case b#1: }`: the body is a block, with its discriminant
abbrev loop : Drawing
loop = module_of (one (tree kind.ForStmt (next span (next none (three none none switch)))))

pub body_of_for_is_a_scope : scopes_round (draw loop) (1 ∷ 0 ∷ 4 ∷ 1 ∷ []) ≡ ((1 ∷ 0 ∷ 4 ∷ [], Block) ∷ (1 ∷ 0 ∷ [], Block) ∷ ([], Fn) ∷ [])
body_of_for_is_a_scope = scopes_are loop (1 ∷ 0 ∷ 4 ∷ 1 ∷ [])

-- a function with a parameter, `function f#1(a#1) {}` or `function f#1(...a#1) {}`
abbrev function_of : Drawing → Drawing
function_of p = tree kind.Function (next span (next (many (one (tree kind.Param (two span p)))) (three (block end) (flag false) (flag false))))

abbrev expression_of : Drawing → Drawing
expression_of e = module_of (one (tree kind.ExprStmt (two span e)))

-- `(function f#1(a#1) {});`: the name, and then parameters and body
abbrev named_function : Drawing
named_function = expression_of (tree kind.FnExpr (two (name kind.Ident b1) (function_of (name kind.BindingIdent a1))))

pub named_function_is_two_scopes : scopes_round (draw named_function) (1 ∷ 0 ∷ 1 ∷ 1 ∷ 1 ∷ 0 ∷ 1 ∷ []) ≡ ((1 ∷ 0 ∷ 1 ∷ 1 ∷ [], Fn) ∷ (1 ∷ 0 ∷ 1 ∷ [], Fn) ∷ ([], Fn) ∷ [])
named_function_is_two_scopes = scopes_are named_function (1 ∷ 0 ∷ 1 ∷ 1 ∷ 1 ∷ 0 ∷ 1 ∷ [])

abbrev nameless_function : Drawing
nameless_function = expression_of (tree kind.FnExpr (two none (function_of (name kind.BindingIdent a1))))

pub nameless_function_is_one : scopes_round (draw nameless_function) (1 ∷ 0 ∷ 1 ∷ 1 ∷ 1 ∷ 0 ∷ 1 ∷ []) ≡ ((1 ∷ 0 ∷ 1 ∷ 1 ∷ [], Fn) ∷ ([], Fn) ∷ [])
nameless_function_is_one = scopes_are nameless_function (1 ∷ 0 ∷ 1 ∷ 1 ∷ 1 ∷ 0 ∷ 1 ∷ [])

-- `class extends b#1 { static { a#1; } }`
abbrev class_of : Drawing → Drawing
class_of d = tree kind.ClassExpr (two d (tree kind.Class (three span (name kind.Ident b1) (many (one (tree kind.StaticBlock (two span (block (one (use_of a1))))))))))

pub class_and_static_block_are_scopes : scopes_round (draw (expression_of (class_of none))) (1 ∷ 0 ∷ 1 ∷ 1 ∷ 2 ∷ 0 ∷ 1 ∷ 1 ∷ 0 ∷ 1 ∷ []) ≡ ((1 ∷ 0 ∷ 1 ∷ 1 ∷ 2 ∷ 0 ∷ [], Fn) ∷ (1 ∷ 0 ∷ 1 ∷ [], Fn) ∷ ([], Fn) ∷ [])
class_and_static_block_are_scopes = scopes_are (expression_of (class_of none)) (1 ∷ 0 ∷ 1 ∷ 1 ∷ 2 ∷ 0 ∷ 1 ∷ 1 ∷ 0 ∷ 1 ∷ [])

pub class_name_is_inside : scopes_round (draw (expression_of (class_of (name kind.Ident c1)))) (1 ∷ 0 ∷ 1 ∷ 0 ∷ []) ≡ ((1 ∷ 0 ∷ 1 ∷ [], Fn) ∷ ([], Fn) ∷ [])
class_name_is_inside = scopes_are (expression_of (class_of (name kind.Ident c1))) (1 ∷ 0 ∷ 1 ∷ 0 ∷ [])

-- `export default class c#1 ..`
abbrev default_class : Drawing
default_class = module_of (one (tree kind.ExportDefaultDecl (two span (class_of (name kind.Ident c1)))))

pub default_class_name_is_outside : scopes_round (draw default_class) (1 ∷ 0 ∷ 1 ∷ 0 ∷ []) ≡ (([], Fn) ∷ [])
default_class_name_is_outside = scopes_are default_class (1 ∷ 0 ∷ 1 ∷ 0 ∷ [])

pub default_class_heritage_is_inside : scopes_round (draw default_class) (1 ∷ 0 ∷ 1 ∷ 1 ∷ 1 ∷ []) ≡ ((1 ∷ 0 ∷ 1 ∷ [], Fn) ∷ ([], Fn) ∷ [])
default_class_heritage_is_inside = scopes_are default_class (1 ∷ 0 ∷ 1 ∷ 1 ∷ 1 ∷ [])

-- `({ get [a#1]() { b#1; } });`
abbrev getter : Drawing
getter = expression_of (tree kind.ObjectLit (two span (many (one (tree kind.GetterProp (three span (tree kind.ComputedPropName (two span (name kind.Ident a1))) (block (one (use_of b1)))))))))

pub key_is_outside : scopes_round (draw getter) (1 ∷ 0 ∷ 1 ∷ 1 ∷ 0 ∷ 1 ∷ 1 ∷ []) ≡ (([], Fn) ∷ [])
key_is_outside = scopes_are getter (1 ∷ 0 ∷ 1 ∷ 1 ∷ 0 ∷ 1 ∷ 1 ∷ [])

pub body_is_inside : scopes_round (draw getter) (1 ∷ 0 ∷ 1 ∷ 1 ∷ 0 ∷ 2 ∷ 1 ∷ 0 ∷ 1 ∷ []) ≡ ((1 ∷ 0 ∷ 1 ∷ 1 ∷ 0 ∷ [], Fn) ∷ ([], Fn) ∷ [])
body_is_inside = scopes_are getter (1 ∷ 0 ∷ 1 ∷ 1 ∷ 0 ∷ 2 ∷ 1 ∷ 0 ∷ 1 ∷ [])

-- who declares
pub no_arguments : (x : List ℕ) → bytes_eq x (codes "arguments") ≡ false → x ≡ codes "arguments" → ⊥
no_arguments x n e = apart_by (λ l. bytes_eq l (codes "arguments")) (sym e) refl n

pub variable_leaves_blocks : Declares (draw blocks) [] c_bound (id_of c1)
variable_leaves_blocks = declares blocks [] c_bound standing.Variable (id_of c1) refl refl (no_arguments (codes "c") refl) refl

pub lexical_name_stays : Declares (draw blocks) outer b_bound (id_of b1)
lexical_name_stays = declares blocks outer b_bound standing.Lexical (id_of b1) refl refl (no_arguments (codes "b") refl) refl

-- what a scope declares in the tree: `a` and `c` the program, `b` the outer block
abbrev declared : Path → Path → Id → Bool
declared s p x = (bytes_eq s [] && (same x (id_of a1) || same x (id_of c1))) || (bytes_eq s outer && same x (id_of b1))

pub no_other_declares : (s p : Path) (x : Id) → Declares (draw blocks) s p x → declared s p x ≡ true
no_other_declares = declared_passes blocks declared refl

pub variable_is_not_declared_in_its_block : ¬ Declares (draw blocks) inner c_bound (id_of c1)
variable_is_not_declared_in_its_block h = let z : false ≡ true = no_other_declares inner c_bound (id_of c1) h in absurd (cc)

pub lexical_name_is_not_declared_outside : ¬ Declares (draw blocks) [] b_bound (id_of b1)
lexical_name_is_not_declared_outside h = let z : false ≡ true = no_other_declares [] b_bound (id_of b1) h in absurd (cc)

pub reference_declares_nothing : ¬ Declares (draw blocks) inner a_used (id_of a1)
reference_declares_nothing h = let z : false ≡ true = no_other_declares inner a_used (id_of a1) h in absurd (cc)

-- `var arguments#1;`
pub arguments_is_passed_over : (d : Drawing) (s p : Path) (c : List ℕ) → ¬ Declares (draw d) s p (codes "arguments", c)
arguments_is_passed_over d s p c h = h.analysed refl

-- where an id occurs
pub there : (d : Drawing) (s p : Path) (k : ScopeKind) → Contains (scopes_drawn d p) (s, k) → IsRound (draw d) s p
there d s p k h = (k, subst (λ l. Contains l (s, k)) (sym (scopes_are d p)) h)

pub occurs_by_reference : OccursIn (draw blocks) inner (id_of a1)
occurs_by_reference = record { path = a_used; standing = standing.Reference; stands = id_is blocks a_used; names = refl; analysed = no_arguments (codes "a") refl; inside = inl (there blocks inner a_used Block (0, omega arith, refl)) }

pub occurs_where_it_leaves : OccursIn (draw blocks) outer (id_of c1)
occurs_where_it_leaves = record { path = c_bound; standing = standing.Variable; stands = id_is blocks c_bound; names = refl; analysed = no_arguments (codes "c") refl; inside = inl (there blocks outer c_bound Block (1, omega arith, refl)) }

pub does_not_occur_below : ¬ OccursIn (draw blocks) inner (id_of b1)
does_not_occur_below o = let z : false ≡ true = occurring_passes blocks inner (λ x. same x (id_of a1) || same x (id_of c1)) refl (id_of b1) o in absurd (cc)

-- `function b#1(...a#1) {}` uses its own name in its scope, `function b#1(a#1) {}` does not
abbrev declared_function : Drawing
declared_function = tree kind.FnDecl (two (name kind.Ident b1) (function_of (tree kind.RestPat (two span (name kind.BindingIdent a1)))))

abbrev with_rest : Drawing
with_rest = module_of (one declared_function)

abbrev in_program : Place
in_program = record { standing = standing.Plain; strict = true; nested = false }

abbrev plain : Drawing
plain = module_of (one (tree kind.FnDecl (two (name kind.Ident b1) (function_of (name kind.BindingIdent a1)))))

pub own_name_occurs_with_rest : OccursIn (draw with_rest) (1 ∷ 0 ∷ 1 ∷ []) (id_of b1)
own_name_occurs_with_rest = record {
  path = 1 ∷ 0 ∷ 0 ∷ [];
  standing = standing.Function;
  stands = id_is with_rest (1 ∷ 0 ∷ 0 ∷ []);
  names = refl;
  analysed = no_arguments (codes "b") refl;
  inside = inr (1 ∷ 0 ∷ [], in_program, draw declared_function, refl, refl, stands_is (1 ∷ 0 ∷ []) program_place with_rest, own_name_is declared_function);
}

pub own_name_does_not_occur_without : ¬ OccursIn (draw plain) (1 ∷ 0 ∷ 1 ∷ []) (id_of b1)
own_name_does_not_occur_without o = let z : false ≡ true = occurring_passes plain (1 ∷ 0 ∷ 1 ∷ []) (λ x. same x (id_of a1)) refl (id_of b1) o in absurd (cc)

-- the order of sites: in a block that of the source, in a catch clause the body first
abbrev caught : Drawing
caught = module_of (one (try_catch a1 (one (declaration word.Let b1))))

abbrev clause : Path
clause = 1 ∷ 0 ∷ 2 ∷ []

abbrev parameter_site : Site
parameter_site = (clause, 1 ∷ 0 ∷ 2 ∷ 1 ∷ [])

abbrev body_site : Site
body_site = (clause, 1 ∷ 0 ∷ 2 ∷ 2 ∷ 1 ∷ 0 ∷ 2 ∷ 0 ∷ 1 ∷ [])

pub body_before_parameter : IsBefore (draw caught) body_site parameter_site
body_before_parameter = cmp_is caught body_site parameter_site

pub parameter_not_before_body : ¬ IsBefore (draw caught) parameter_site body_site
parameter_not_before_body h = let z : Greater ≡ Less = sym (cmp_is caught parameter_site body_site) ∙ h in absurd (cc)

-- the outer scope's `c`, though it stands in the block, before the block's `b`
pub outer_scope_first : IsBefore (draw blocks) ([], c_bound) (outer, b_bound)
outer_scope_first = cmp_is blocks ([], c_bound) (outer, b_bound)

pub source_order_in_a_scope : IsBefore (draw blocks) ([], a_bound) ([], c_bound)
source_order_in_a_scope = cmp_is blocks ([], a_bound) ([], c_bound)

pub no_site_before_itself : ¬ IsBefore (draw blocks) ([], a_bound) ([], a_bound)
no_site_before_itself h = let z : Equal ≡ Less = sym (cmp_is blocks ([], a_bound) ([], a_bound)) ∙ h in absurd (cc)

-- the outer block's cost of renaming is 1: of `b`
pub within_outer : IsDeclaredWithin (draw blocks) outer (id_of b1)
within_outer = (outer, b_bound, lexical_name_stays, inl refl)

no_scope_round_the_program : (s : Path) → IsRound (draw blocks) s [] → ⊥
no_scope_round_the_program s (k, (n, l, e)) = absurd (omega arith)

only_b_within : (x : Id) → IsDeclaredWithin (draw blocks) outer x → x ≡ id_of b1
only_b_within x (u, p, d, above) = by (one_so _ _ (no_other_declares u p x d))
  where
    at_program : u ≡ [] → IsAtOrAbove (draw blocks) outer u → ⊥
    at_program e (inl g) = let z : outer ≡ [] = g ∙ e in absurd (cc)
    at_program e (inr g) = no_scope_round_the_program outer (subst (IsRound (draw blocks) outer) e g)

    by : ((bytes_eq u [] && (same x (id_of a1) || same x (id_of c1))) ≡ true) ⊎ ((bytes_eq u outer && same x (id_of b1)) ≡ true) → x ≡ id_of b1
    by (inl h) = absurd (at_program (path_is u [] (both_so _ _ h).0) above)
    by (inr h) = id_is_same x (id_of b1) (both_so _ _ h).1

one_item : {X : Type 0} (x y : X) → Contains (x ∷ []) y → y ≡ x
one_item x y (zero, l, e) = sym e
one_item x y (suc n, l, e) = absurd (omega arith)

pub outer_costs_one : RenameCost (draw blocks) outer 1
outer_costs_one = record {
  ids = id_of b1 ∷ [];
  each_once = ((λ (n, l, e). absurd (omega arith)), tt);
  just_these = λ x. ((λ h. subst (IsDeclaredWithin (draw blocks) outer) (sym (one_item (id_of b1) x h)) within_outer), (λ h. subst (Contains (id_of b1 ∷ [])) (sym (only_b_within x h)) (0, omega arith, refl)));
  counted = refl;
}

pub outer_does_not_cost_nothing : ¬ RenameCost (draw blocks) outer 0
outer_does_not_cost_nothing c = none c.ids c.counted ((c.just_these (id_of b1)).1 within_outer)
  where
    none : (ids : List Id) → length ids ≡ 0 → Contains ids (id_of b1) → ⊥
    none [] e (n, l, same) = absurd (omega arith)
    none (x ∷ xs) e h = absurd (cc)

-- at or above, and whose names count where only the outer ones do
pub outer_is_above_inner : outer_count (draw blocks) outer inner
outer_is_above_inner = inr (there blocks outer inner Block (0, omega arith, refl))

pub each_scope_counts_for_itself : outer_count (draw blocks) inner inner
each_scope_counts_for_itself = inl refl

pub inner_is_not_above_outer : ¬ outer_count (draw blocks) inner outer
inner_is_not_above_outer (inl e) = let z : true ≡ false = ap (λ p. bytes_eq p inner) e in absurd (cc)
inner_is_not_above_outer (inr (k, h)) = let z : false ≡ true = found (scopes_drawn blocks outer) inner (inner, k) (subst (λ l. Contains l (inner, k)) (scopes_are blocks outer) h) refl in absurd (cc)

pub inner_names_count_outside_where_all_do : all_count inner outer
inner_names_count_outside_where_all_do = tt

-- `a` and `c` are declared within the program, and nothing within the inner block
pub variable_is_declared_within_the_program : IsDeclaredWithin (draw blocks) [] (id_of c1)
variable_is_declared_within_the_program = ([], c_bound, variable_leaves_blocks, inl refl)

pub nothing_is_declared_within_the_inner_block : (x : Id) → ¬ IsDeclaredWithin (draw blocks) inner x
nothing_is_declared_within_the_inner_block x (u, p, d, above) = by (one_so _ _ (no_other_declares u p x d))
  where
    none : (v : Path) → u ≡ v → bytes_eq v inner ≡ false → list_any (λ s. bytes_eq s.0 inner) (scopes_drawn blocks v) ≡ false → ⊥
    none v e n m = at (subst (IsAtOrAbove (draw blocks) inner) e above)
      where
        at : IsAtOrAbove (draw blocks) inner v → ⊥
        at (inl g) = let z : true ≡ false = sym (ap (λ p. bytes_eq p inner) (sym g)) ∙ n in absurd (cc)
        at (inr (k, h)) = let z : false ≡ true = sym m ∙ found (scopes_drawn blocks v) inner (inner, k) (subst (λ l. Contains l (inner, k)) (scopes_are blocks v) h) refl in absurd (cc)

    by : ((bytes_eq u [] && (same x (id_of a1) || same x (id_of c1))) ≡ true) ⊎ ((bytes_eq u outer && same x (id_of b1)) ≡ true) → ⊥
    by (inl h) = none [] (path_is u [] (both_so _ _ h).0) refl refl
    by (inr h) = none outer (path_is u outer (both_so _ _ h).0) refl refl

-- lists without repeats
pub two_ids_once : EachOnce (id_of a1 ∷ id_of b1 ∷ [])
two_ids_once = ((λ (n, l, e). other n l e), ((λ (n, l, e). absurd (omega arith)), tt))
  where
    other : (n : ℕ) → n < 1 → slice_index_or (id_of b1 ∷ []) n (id_of a1) ≡ id_of a1 → ⊥
    other zero l e = let z : true ≡ false = ap (λ x. same x (id_of b1)) e in absurd (cc)
    other (suc n) l e = omega arith

pub one_id_twice : ¬ EachOnce (id_of a1 ∷ id_of a1 ∷ [])
one_id_twice h = h.0 (0, omega arith, refl)
