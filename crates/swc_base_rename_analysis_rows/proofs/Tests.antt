-- Tests that are computed of all identifiers of a drawing, and what they tell of declared ids and of where ids occur.
use Rattle.std.proofs.Common.{◌≡◌, ℕ, zero, suc, Bool, true, false, not, ◌&&◌, ◌||◌, ◌⊎◌, inl, inr, Option, Some, None, List, [], ◌∷◌, ◌++◌, Contains, refl, sym, ap, ◌∙◌, subst, arith, bytes_eq}
use Rattle.std.proofs.lemmas.Bool.{and_from, or_right}
use Rattle.std.specs.List.{list_all, list_any}
use Rattle.std.specs.Option.{option_map}
use Rattle.std.specs.Cmp.Lexicographic.{bytes_decides}
use Rattle.swc_tree_node.specs.declared.fields.functions.fn_expr.TheConstants as fn_expr
use Rattle.swc_tree_node.specs.declared.fields.functions.function.TheConstants as function
use Rattle.swc_tree_node.specs.declared.fields.functions.param.TheConstants as param
use Rattle.swc_tree_node.specs.declared.fields.statements.fn_decl.TheConstants as fn_decl
use Rattle.swc_tree_node.specs.declared.kind.Kind.{Kind}
use Rattle.swc_tree_node.specs.declared.kind.Kind.TheVariants as kind
use Rattle.swc_tree_node.specs.declared.node.Node.{Node, Tree, out-Node}
use Rattle.swc_tree_node.specs.declared.node.Node.TheVariants.{outs-Tree}
use Rattle.swc_tree_node.specs.declared.slot.Role.{Role}
use Rattle.swc_tree_node.specs.declared.slot.Role.TheVariants as role
use Rattle.swc_tree_node.specs.declared.node.Node.TheOpen.{Node-F}
use Rattle.swc_tree_scoping.specs.declared.places.Standing.{Standing}
use Rattle.swc_tree_scoping.specs.declared.places.Place.{Place}
use Rattle.swc_tree_scoping.specs.Places.{Path, field_role, given, items_in, items_of, place_at, program_place}
use Rattle.swc_tree_scoping.specs.Scopes.{is_binding, is_name}
use Rattle.swc_tree_scoping.specs.BoundNames.{Id}
use Rattle.swc_tree_scoping.specs.WellScoped.{InExportList}
use Rattle.swc_tree_scoping_rows.proofs.Drawn.{Drawing, Drawing.none, Drawing.flag, Drawing.word, Drawing.span, Drawing.many, Drawing.name, Drawing.tree, Drawings, Drawings.end, Drawings.next, as_drawn, draw, draws, drawn_or, get, get_is, inner, layer, out_draw, place_drawn, stands_drawn, stands_is}
use Rattle.swc_tree_scoping_rows.proofs.Names.{Every, Named, names_in}
use Rattle.swc_base_rename_analysis.specs.Analysis.{Around, Declares, IsOwnName, IsRound, OccursIn, first_taking, function_has_rest_or_default, is_rest_or_default, parameter_is_rest_or_default, uses_own_name}
use Rattle.swc_base_rename_analysis.specs.Ids.{id_at}
use Rattle.swc_base_rename_analysis_rows.proofs.Seen.{each_id, fits_child, scopes_are, scopes_drawn, some_is, taken_drawn}

-- truth values
pub if_so : (a b : Bool) → (not a || b) ≡ true → a ≡ true → b ≡ true
if_so true b h e = h
if_so false b h e = absurd (cc)

pub itself : (xs : List ℕ) → bytes_eq xs xs ≡ true
itself xs = (bytes_decides xs xs).1 refl

every_by_test : (f : Named → Bool) (qs : List Named) → list_all f qs ≡ true → Every (λ q. f q ≡ true) qs
every_by_test f [] h = tt
every_by_test f (q ∷ qs) h = both (f q) refl h (every_by_test f qs)
  where
    both : (b : Bool) → f q ≡ b → (b && list_all f qs) ≡ true → (list_all f qs ≡ true → Every (λ q. f q ≡ true) qs) → Every (λ q. f q ≡ true) (q ∷ qs)
    both true e h rest = (e, rest h)
    both false e h rest = absurd (cc)

-- of all identifiers
abbrev pub all_pass : Drawing → (Path → Standing → Id → Bool) → Bool
all_pass d f = list_all (λ q. f q.path q.place.standing (q.identifier.sym, q.identifier.ctxt)) (names_in program_place d)

pub passes : (d : Drawing) (f : Path → Standing → Id → Bool) → all_pass d f ≡ true → (p : Path) (r : Standing) (x : Id) → id_at (draw d) p ≡ Some (r, x) → f p r x ≡ true
passes d f h = each_id d (λ p r x. f p r x ≡ true) (every_by_test _ (names_in program_place d) h)

-- of all that is declared
abbrev pub if_some : Option Path → (Path → Bool) → Bool
if_some None f = true
if_some (Some s) f = f s

abbrev pub all_declared_pass : Drawing → (Path → Path → Id → Bool) → Bool
all_declared_pass d f = all_pass d (λ p r x. not (is_binding r) || if_some (taken_drawn d p r) (λ s. f s p x))

pub declared_passes : (d : Drawing) (f : Path → Path → Id → Bool) → all_declared_pass d f ≡ true → (s p : Path) (x : Id) → Declares (draw d) s p x → f s p x ≡ true
declared_passes d f h s p x c = at (taken_drawn d p c.standing) (if_so (is_binding c.standing) _ (passes d (λ p r x. not (is_binding r) || if_some (taken_drawn d p r) (λ s. f s p x)) h p c.standing x c.stands) c.binds) (sym (ap (first_taking c.standing) (scopes_are d p)) ∙ c.taken)
  where
    at : (o : Option Path) → if_some o (λ s. f s p x) ≡ true → o ≡ Some s → f s p x ≡ true
    at None g e = absurd (cc)
    at (Some u) g e = subst (λ s. f s p x ≡ true) (some_is e) g

-- functions that use their own name
abbrev any_drawn : (Drawing → Bool) → Drawings → Bool
any_drawn f end = false
any_drawn f (next d ds) = f d || any_drawn f ds

any_is : (f : Node → Bool) (g : Drawing → Bool) → ((d : Drawing) → f (draw d) ≡ g d) → (ds : Drawings) → list_any f (draws ds) ≡ any_drawn g ds
any_is f g h end = refl
any_is f g h (next d ds) = λ j. h d j || any_is f g h ds j

abbrev items_drawn : Drawing → Drawings
items_drawn (many ds) = ds
items_drawn _ = end

items_is : (d : Drawing) → items_in (layer d) ≡ draws (items_drawn d)
items_is none = refl
items_is (flag x) = refl
items_is (word x) = refl
items_is span = refl
items_is (many ds) = refl
items_is (name k i) = refl
items_is (tree k ds) = refl

abbrev parameter_drawn : Drawing → Bool
parameter_drawn (tree kind.Param ds) = drawn_or (get ds param.PAT) false (λ c. is_rest_or_default (layer c))
parameter_drawn _ = false

parameter_of_kind : (k : Kind) (ds : Drawings) → parameter_is_rest_or_default (Node-F.Tree k (draws ds)) ≡ parameter_drawn (tree k ds)
parameter_of_kind kind.Param ds = ap (λ o. given o false (λ c. is_rest_or_default (out-Node c))) (get_is ds param.PAT) ∙ fits_child false (λ c. is_rest_or_default (out-Node c)) (λ c. is_rest_or_default (layer c)) (get ds param.PAT) (λ c. ap is_rest_or_default (out_draw c))
parameter_of_kind _ ds = refl

parameter_is : (d : Drawing) → parameter_is_rest_or_default (layer d) ≡ parameter_drawn d
parameter_is none = refl
parameter_is (flag x) = refl
parameter_is (word x) = refl
parameter_is span = refl
parameter_is (many ds) = refl
parameter_is (name k i) = refl
parameter_is (tree k ds) = parameter_of_kind k ds

abbrev function_drawn : Drawing → Bool
function_drawn (tree kind.Function ds) = drawn_or (get ds function.PARAMS) false (λ c. any_drawn parameter_drawn (items_drawn c))
function_drawn _ = false

any_of : (o : Option Drawing) → list_any (λ c. parameter_is_rest_or_default (out-Node c)) (items_of (option_map draw o)) ≡ drawn_or o false (λ c. any_drawn parameter_drawn (items_drawn c))
any_of None = refl
any_of (Some d) = ap (λ y. list_any (λ c. parameter_is_rest_or_default (out-Node c)) (items_in y)) (out_draw d) ∙ ap (list_any (λ c. parameter_is_rest_or_default (out-Node c))) (items_is d)
    ∙ any_is (λ c. parameter_is_rest_or_default (out-Node c)) parameter_drawn (λ c. ap parameter_is_rest_or_default (out_draw c) ∙ parameter_is c) (items_drawn d)

function_of_kind : (k : Kind) (ds : Drawings) → function_has_rest_or_default (Node-F.Tree k (draws ds)) ≡ function_drawn (tree k ds)
function_of_kind kind.Function ds = ap (λ o. list_any (λ c. parameter_is_rest_or_default (out-Node c)) (items_of o)) (get_is ds function.PARAMS) ∙ any_of (get ds function.PARAMS)
function_of_kind _ ds = refl

function_is : (d : Drawing) → function_has_rest_or_default (layer d) ≡ function_drawn d
function_is none = refl
function_is (flag x) = refl
function_is (word x) = refl
function_is span = refl
function_is (many ds) = refl
function_is (name k i) = refl
function_is (tree k ds) = function_of_kind k ds

abbrev own_name_drawn : Drawing → Bool
own_name_drawn (tree kind.FnDecl ds) = drawn_or (get ds fn_decl.FUNCTION) false function_drawn
own_name_drawn (tree kind.FnExpr ds) = drawn_or (get ds fn_expr.FUNCTION) false function_drawn
own_name_drawn _ = false

function_below : (o : Option Drawing) → given (option_map draw o) false (λ c. function_has_rest_or_default (out-Node c)) ≡ drawn_or o false function_drawn
function_below o = fits_child false (λ c. function_has_rest_or_default (out-Node c)) function_drawn o (λ c. ap function_has_rest_or_default (out_draw c) ∙ function_is c)

own_name_of_kind : (k : Kind) (ds : Drawings) → uses_own_name (Node-F.Tree k (draws ds)) ≡ own_name_drawn (tree k ds)
own_name_of_kind kind.FnDecl ds = ap (λ o. given o false (λ c. function_has_rest_or_default (out-Node c))) (get_is ds fn_decl.FUNCTION) ∙ function_below (get ds fn_decl.FUNCTION)
own_name_of_kind kind.FnExpr ds = ap (λ o. given o false (λ c. function_has_rest_or_default (out-Node c))) (get_is ds fn_expr.FUNCTION) ∙ function_below (get ds fn_expr.FUNCTION)
own_name_of_kind _ ds = refl

own_name_layer : (d : Drawing) → uses_own_name (layer d) ≡ own_name_drawn d
own_name_layer none = refl
own_name_layer (flag x) = refl
own_name_layer (word x) = refl
own_name_layer span = refl
own_name_layer (many ds) = refl
own_name_layer (name k i) = refl
own_name_layer (tree k ds) = own_name_of_kind k ds

pub own_name_is : (d : Drawing) → uses_own_name (out-Node (draw d)) ≡ own_name_drawn d
own_name_is d = ap uses_own_name (out_draw d) ∙ own_name_layer d

-- where an id occurs
abbrev before_last : List ℕ → List ℕ
before_last [] = []
before_last (x ∷ []) = []
before_last (x ∷ y ∷ xs) = x ∷ before_last (y ∷ xs)

all_but_last : (q : List ℕ) (i : ℕ) → before_last (q ++ (i ∷ [])) ≡ q
all_but_last [] i = refl
all_but_last (x ∷ []) i = refl
all_but_last (x ∷ y ∷ q) i = ap (λ l. x ∷ l) (all_but_last (y ∷ q) i)

abbrev stands_own : Option (Place × Drawing) → Bool
stands_own None = false
stands_own (Some q) = own_name_drawn q.1

abbrev owner_test : Drawing → Path → Path → Path → Bool
owner_test d q s p = bytes_eq p (q ++ (fn_decl.IDENT ∷ [])) && (bytes_eq s (q ++ (fn_decl.FUNCTION ∷ [])) && stands_own (stands_drawn program_place d q))

abbrev own_drawn : Drawing → Path → Path → Bool
own_drawn d s p = owner_test d (before_last p) s p

own_seen : (d : Drawing) (s p : Path) → IsOwnName (draw d) s p → own_drawn d s p ≡ true
own_seen d s p (q, w, f, e, g, there, uses) =
    subst (λ o. owner_test d o s p ≡ true) (sym (ap before_last e ∙ all_but_last q fn_decl.IDENT)) (and_from _ _ ((bytes_decides p _).1 e) (and_from _ _ ((bytes_decides s _).1 g) (at (stands_drawn program_place d q) (sym (stands_is q program_place d) ∙ there))))
  where
    at : (o : Option (Place × Drawing)) → option_map as_drawn o ≡ Some (w, f) → stands_own o ≡ true
    at None h = absurd (cc)
    at (Some c) h = sym (own_name_is c.1) ∙ ap (λ z. uses_own_name (out-Node z.1)) (some_is h) ∙ uses

pub found : (xs : List Around) (s : Path) (y : Around) → Contains xs y → y.0 ≡ s → list_any (λ u. bytes_eq u.0 s) xs ≡ true
found [] s y (n, l, e) h = absurd (omega arith)
found (x ∷ xs) s y (zero, l, e) h = ap (λ b. b || list_any (λ u. bytes_eq u.0 s) xs) ((bytes_decides x.0 s).1 (ap (λ z. z.0) e ∙ h))
found (x ∷ xs) s y (suc n, l, e) h = or_right _ _ (found xs s y (n, (omega arith), e) h)

abbrev pub occurs_drawn : Drawing → Path → Path → Standing → Bool
occurs_drawn d s p r = is_name r && (list_any (λ u. bytes_eq u.0 s) (scopes_drawn d p) || own_drawn d s p)

inside_seen : (d : Drawing) (s p : Path) → IsRound (draw d) s p ⊎ IsOwnName (draw d) s p → (list_any (λ u. bytes_eq u.0 s) (scopes_drawn d p) || own_drawn d s p) ≡ true
inside_seen d s p (inl (k, h)) = ap (λ b. b || own_drawn d s p) (found (scopes_drawn d p) s (s, k) (subst (λ l. Contains l (s, k)) (scopes_are d p) h) refl)
inside_seen d s p (inr h) = or_right _ _ (own_seen d s p h)

abbrev pub all_occurring_pass : Drawing → Path → (Id → Bool) → Bool
all_occurring_pass d s f = all_pass d (λ p r x. not (occurs_drawn d s p r) || f x)

pub occurring_passes : (d : Drawing) (s : Path) (f : Id → Bool) → all_occurring_pass d s f ≡ true → (x : Id) → OccursIn (draw d) s x → f x ≡ true
occurring_passes d s f h x o = if_so (occurs_drawn d s o.path o.standing) _ (passes d (λ p r x. not (occurs_drawn d s p r) || f x) h o.path o.standing x o.stands) (and_from _ _ o.names (inside_seen d s o.path o.inside))

-- ids are told apart by their texts and contexts
abbrev pub same : Id → Id → Bool
same x y = bytes_eq x.0 y.0 && bytes_eq x.1 y.1

pub both_so : (a b : Bool) → (a && b) ≡ true → (a ≡ true) × (b ≡ true)
both_so true b h = (refl, h)
both_so false b h = absurd (cc)

pub one_so : (a b : Bool) → (a || b) ≡ true → (a ≡ true) ⊎ (b ≡ true)
one_so true b h = inl refl
one_so false b h = inr h

pub path_is : (p q : Path) → bytes_eq p q ≡ true → p ≡ q
path_is p q h = (bytes_decides p q).0 h

pub id_is_same : (x y : Id) → same x y ≡ true → x ≡ y
id_is_same x y h = let (a, b) = both_so (bytes_eq x.0 y.0) (bytes_eq x.1 y.1) h in λ j. (path_is x.0 y.0 a j, path_is x.1 y.1 b j)

pub same_as_itself : (x : Id) → same x x ≡ true
same_as_itself x = and_from _ _ (itself x.0) (itself x.1)

-- export lists on the way to a path
abbrev is_export_local : Role → Bool
is_export_local role.ExportLocal = true
is_export_local _ = false

abbrev export_field : Node-F Node → ℕ → Bool
export_field (Node-F.Tree k ts) i = is_export_local (field_role k i)
export_field _ i = false

abbrev pub in_list_drawn : Drawing → Path → Bool
in_list_drawn d [] = false
in_list_drawn d (i ∷ p) = export_field (layer d) i || drawn_or (get (inner d) i) false (λ c. in_list_drawn c p)

module _ (below : Path) (i : ℕ) (v : Place) (k : Kind) (ts : List Node) (exports : field_role k i ≡ role.ExportLocal) where
  in_list : (q : Path) (w : Place) (d : Drawing) → place_at w (draw d) q ≡ Some (v, Tree k ts) → in_list_drawn d (q ++ (i ∷ below)) ≡ true
  in_list [] w d h =
      let layer_is : layer d ≡ Node-F.Tree k ts = sym (out_draw d) ∙ ap (λ z. out-Node z.1) (some_is h) ∙ outs-Tree k ts in
      ap (λ y. export_field y i || drawn_or (get (inner d) i) false (λ c. in_list_drawn c below)) layer_is ∙ ap (λ r. is_export_local r || drawn_or (get (inner d) i) false (λ c. in_list_drawn c below)) exports
  in_list (j ∷ q) w d h = or_right _ _ (at (get (inner d) j) (sym (stands_is (j ∷ q) w d) ∙ h) (λ c. in_list q (place_drawn w d j) c))
    where
      at : (o : Option Drawing) → option_map as_drawn (drawn_or o None (λ c. stands_drawn (place_drawn w d j) c q)) ≡ Some (v, Tree k ts)
          → ((c : Drawing) → place_at (place_drawn w d j) (draw c) q ≡ Some (v, Tree k ts) → in_list_drawn c (q ++ (i ∷ below)) ≡ true) → drawn_or o false (λ c. in_list_drawn c (q ++ (i ∷ below))) ≡ true
      at None g more = absurd (cc)
      at (Some c) g more = more c (stands_is q (place_drawn w d j) c ∙ g)

pub in_list_seen : (d : Drawing) (p : Path) → InExportList (draw d) p → in_list_drawn d p ≡ true
in_list_seen d p (q, below, i, w, k, ts, e, there, exports) = subst (λ p. in_list_drawn d p ≡ true) (sym e) (in_list below i w k ts exports q program_place d there)
