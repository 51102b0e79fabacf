-- Each name is met at its identifier, and each function that uses its own name is met where it does.
use Rattle.std.proofs.Common.{◌≡◌, ℕ, zero, Bool, true, false, IsTrue, Option, Some, None, List, [], ◌∷◌, ◌++◌, length, map, Contains, refl, sym, ap, ◌∙◌, subst, arith}
use Rattle.std.specs.Prelude.{if◌then◌else◌}
use Rattle.std.specs.List.{slice_get}
use Rattle.std.proofs.lemmas.List.{map-append}
use Rattle.std.proofs.lemmas.List.Elements.{Contains-append_left, Contains-append_right}
use Rattle.swc_base_rename_analysis.proofs.Kept.{to_map}
use Rattle.swc_base_rename_analysis_laws.proofs.Items.{some_same}
use Rattle.swc_base_rename_analysis_laws.proofs.Added.{uses_in}
use Rattle.swc_base_rename_analysis_laws.proofs.Visited.{visit_at}
use Rattle.std.specs.Option.{option_and_then, option_map, option_or}
use Rattle.swc_tree_marks.specs.declared.ident.Ident.{Ident}
use Rattle.swc_tree_node.specs.declared.fields.statements.fn_decl.TheConstants as fn_decl
use Rattle.swc_tree_node.specs.declared.kind.Kind.{Kind}
use Rattle.swc_tree_node.specs.declared.kind.Kind.TheVariants as kind
use Rattle.swc_tree_node.specs.declared.node.Node.{Node, out-Node}
use Rattle.swc_tree_node.specs.declared.node.Node.TheOpen.{Node-F}
use Rattle.swc_tree_scoping.specs.declared.places.Standing.{Standing}
use Rattle.swc_tree_scoping.specs.declared.places.Place.{Place}
use Rattle.swc_tree_scoping.specs.Places.{Path, given, child, children_in, has_own_name, opened_as, place_at, place_below, program_place}
use Rattle.swc_tree_scoping.specs.BoundNames.{Id, name_in, name_of}
use Rattle.swc_base_rename_analysis.specs.declared.scopes.ScopeKind.{ScopeKind}
use Rattle.swc_base_rename_analysis.specs.Analysis.{IsOwnName, body_kind, function_has_rest_or_default, has_identifier, key_field, uses_own_name}
use Rattle.swc_base_rename_analysis.specs.Ids.{id_at}
use Rattle.swc_base_rename_analysis.specs.Preserved.{is_name_or_label}
use Rattle.swc_base_rename_analysis.specs.Walk.{Met, Outside, kind_opened, name_outside}
use Rattle.swc_base_rename_analysis_laws.specs.Placed.{Use, at_path, own_at}
use Rattle.swc_base_rename_analysis_laws.proofs.Contexts.{HasOwnName, IsNamedFunction}
use Rattle.swc_base_rename_analysis_laws.proofs.Grown.{Adds, Grows, all_add, ends, fields_grow, grows_on}
use Rattle.swc_base_rename_analysis_laws.proofs.Insides.{beside}
use Rattle.swc_base_rename_analysis_laws.proofs.Marked.{Marked, MarkedWalk, below, marked_begin, marked_end, marked_enter, marked_fields, marked_in, marked_layer, marked_meet, marked_opening, marked_optional, marked_out, marked_own_use, marked_scope, marked_walks_at, name_beside}
use Rattle.swc_base_rename_analysis_laws.proofs.Paths.{IsAt, place_on, place_below_at}
use Rattle.swc_base_rename_analysis_laws.proofs.Steps.{marked_at}

no_some : {A X : Type 0} {x : X} → None ≡ Some x → A
no_some e = absurd (cc)

abbrev pub IsUsed : Marked → Use → Type 0
IsUsed m u = Contains (uses_in m) u

met_last : (u : Use) (x : Met) (m : Marked) → IsUsed (marked_meet u x m) u
met_last u x m = to_map (λ n. n.use_) (m.names ++ record { use_ = u; met = x } ∷ []) (record { use_ = u; met = x }) (Contains-append_right m.names (record { use_ = u; met = x } ∷ []) (record { use_ = u; met = x }) (zero, omega arith, refl))

stays_used : (m n : Marked) → Grows m n → (u : Use) → IsUsed m u → IsUsed n u
stays_used m n g u (k, l, e) =
    let (rest, same) = g.names in
    subst (λ xs. Contains xs u) (sym (ap (map (λ n. n.use_)) same ∙ map-append (λ n. n.use_) m.names rest)) (Contains-append_left (map (λ n. n.use_) m.names) (map (λ n. n.use_) rest) u (k, l, e))

-- what stands at a path with an id
module _ (t : Node) (p : Path) (r : Standing) (x : Id) where
  record Named : Type 0 where
    place : Place
    node : Node
    ident : Ident
    there : IsAt program_place t p place node
    name : name_in (out-Node node) ≡ Some ident
    stands : place.standing ≡ r

  named_at : id_at t p ≡ Some (r, x) → Named
  named_at e = at (place_at program_place t p) refl e
    where
      here : (w : Place) (n : Node) → place_at program_place t p ≡ Some (w, n) → (o : Option Ident) → name_in (out-Node n) ≡ o → option_map {U = Standing × Id} (λ i. (w.standing, (i.sym, i.ctxt))) o ≡ Some (r, x) → Named
      here w n there None name e = absurd (cc)
      here w n there (Some i) name e = record { place = w; node = n; ident = i; there = there; name = name; stands = ap (λ z. z.0) (some_same e) }

      at : (z : Option (Place × Node)) → place_at program_place t p ≡ z → option_and_then (λ (q : Place × Node). option_map {U = Standing × Id} (λ i. (q.0.standing, (i.sym, i.ctxt))) (name_in (out-Node q.1))) z ≡ Some (r, x) → Named
      at None there e = absurd (cc)
      at (Some (w, n)) there e = here w n there (name_in (out-Node n)) refl e

if_met : (b : Bool) (u : Use) (x : Met) (m : Marked) → IsTrue b → IsUsed (if b then marked_meet u x m else m) u
if_met true u x m h = met_last u x m
if_met false u x m h = absurd (cc)

met_there : (w : Place) (y : Node-F Node) (x : Ident) (walks : ℕ → Option MarkedWalk) (h : Path) (o : Outside) (m : Marked) → name_in y ≡ Some x → IsTrue (is_name_or_label w.standing) → IsUsed (marked_layer w y walks h o m) (at_path h)
met_there w (Node-F.Identifier k i) x walks h o m e named = if_met (is_name_or_label w.standing) (at_path h) _ m named
met_there w y x walks h o m e named = absurd (cc)

pub all_met : (t : Node) (p : Path) (r : Standing) (x : Id) → id_at t p ≡ Some (r, x) → IsTrue (is_name_or_label r) → IsUsed (marked_out t) (at_path p)
all_met t p r x e named =
    let n = named_at t p r x e in
    let v = visit_at t p n.place n.node n.there in
    stays_used (marked_in n.place n.node p v.outside v.from) (marked_out t) v.kept (at_path p)
    (subst (λ f. IsUsed (f p v.outside v.from) (at_path p)) (sym (marked_at n.place n.node)) (met_there n.place (out-Node n.node) n.ident _ p v.outside v.from n.name (ap is_name_or_label n.stands ∙ named)))

-- a function with a rest or default parameter
function_below : (y : Node-F Node) → IsTrue (uses_own_name y) → (g : Node) × (ts : List Node) × (slice_get (children_in y) fn_decl.FUNCTION ≡ Some g) × (out-Node g ≡ Node-F.Tree kind.Function ts)
function_below y h = of_parts y h
  where
    of_function : (c : Node) (y : Node-F Node) → out-Node c ≡ y → IsTrue (function_has_rest_or_default y) → (g : Node) × (ts : List Node) × (Some c ≡ Some g) × (out-Node g ≡ Node-F.Tree kind.Function ts)
    of_function c (Node-F.Tree kind.Function us) e h = (c, us, refl, e)
    of_function c y e h = absurd (cc)

    at : (z : Option Node) → IsTrue (given z false (λ c. function_has_rest_or_default (out-Node c))) → (g : Node) × (ts : List Node) × (z ≡ Some g) × (out-Node g ≡ Node-F.Tree kind.Function ts)
    at None h = absurd (cc)
    at (Some c) h = of_function c (out-Node c) refl h

    of_parts : (y : Node-F Node) → IsTrue (uses_own_name y) → (g : Node) × (ts : List Node) × (slice_get (children_in y) fn_decl.FUNCTION ≡ Some g) × (out-Node g ≡ Node-F.Tree kind.Function ts)
    of_parts (Node-F.Tree kind.FnDecl ts) h = at (slice_get ts fn_decl.FUNCTION) h
    of_parts (Node-F.Tree kind.FnExpr ts) h = at (slice_get ts fn_decl.FUNCTION) h
    of_parts y h = absurd (cc)

-- it is met where its scope begins
own_use_last : (n : ℕ) (h : Path) (o : Outside) (x : Option Ident) (m : Marked) (y : Ident) → x ≡ Some y → IsUsed (marked_own_use n h o x m) (own_at (name_beside h))
own_use_last n h o None m y e = absurd (cc)
own_use_last n h o (Some x) m y e = met_last (own_at (name_beside h)) _ m

own_in_scope : (s : ScopeKind) (w : Place) (k : Kind) (ts : List Node) (walks : ℕ → Option MarkedWalk) → ((i : ℕ) → Adds (walks i)) → (h : Path) (o : Outside) (m : Marked) (y : Ident) → o.own_name ≡ Some y → IsUsed (marked_scope s w k ts walks h o m) (own_at (name_beside h))
own_in_scope s w k ts walks grow h o m y e =
    let key = marked_optional k ts walks (key_field k) h o m in
    let n = length key.scopes in
    let named = marked_optional k ts walks (name_outside w k (has_identifier ts)) h o (marked_enter h s o.scope key) in
    let used = marked_own_use n h o o.own_name (marked_begin n named) in
    let walked = marked_fields k ts walks (option_or (key_field k) (name_outside w k (has_identifier ts))) h (record o { scope = Some n }) used in
    stays_used used (marked_end n walked) (grows_on (fields_grow k ts walks grow (option_or (key_field k) (name_outside w k (has_identifier ts))) h (record o { scope = Some n }) used) (ends n walked)) (own_at (name_beside h))
    (own_use_last n h o o.own_name (marked_begin n named) y e)

own_in_function : (b : Bool) (w : Place) (ts : List Node) (walks : ℕ → Option MarkedWalk) → ((i : ℕ) → Adds (walks i)) → (h : Path) (o : Outside) (m : Marked) (y : Ident) → o.own_name ≡ Some y
    → IsUsed (marked_opening (body_kind b (kind_opened kind.Function (opened_as w kind.Function (has_own_name ts)))) w kind.Function ts walks h o m) (own_at (name_beside h))
own_in_function true w ts walks grow h o m y e = own_in_scope _ w kind.Function ts walks grow h o m y e
own_in_function false w ts walks grow h o m y e = own_in_scope _ w kind.Function ts walks grow h o m y e

some_name : (t : Node) (h : Path) (x : Ident) (o : Option Ident) → HasOwnName t h o → IsNamedFunction t h x → (y : Ident) × (o ≡ Some y)
some_name t h x None has f = absurd (has x f)
some_name t h x (Some y) has f = (y, refl)

pub all_used : (t : Node) (s p : Path) (r : Standing) (x : Id) → id_at t p ≡ Some (r, x) → IsOwnName t s p → IsUsed (marked_out t) (own_at p)
all_used t s p r x e (q, w, f, at_name, at_function, there, uses) =
    let n = named_at t p r x e in
    let (g, ts, child_there, layer) = function_below (out-Node f) uses in
    let place = place_below w f fn_decl.FUNCTION in
    let at_g : IsAt program_place t s place g = subst (λ s. IsAt program_place t s place g) (sym at_function) (place_below_at q fn_decl.FUNCTION program_place t w f g there child_there) in
    let v = visit_at t s place g at_g in
    let name_there : name_of (child f fn_decl.IDENT) ≡ Some n.ident = named_child t q w f p n.place n.node n.ident at_name there n.there n.name in
    let (y, own) = some_name t s n.ident v.outside.own_name v.context.own_name (q, w, f, at_function, there, uses, name_there) in
    let here : IsUsed (marked_in place g s v.outside v.from) (own_at (name_beside s)) =
    subst (λ h. IsUsed (h s v.outside v.from) (own_at (name_beside s))) (sym (marked_at place g ∙ ap (λ z. marked_layer place z (marked_walks_at (place_below place g) (children_in (out-Node g)))) layer))
    (own_in_function v.outside.for_body place ts _ (all_add (place_below place g) (children_in (out-Node g))) s v.outside v.from y own) in
    subst (λ p. IsUsed (marked_out t) (own_at p)) (ap name_beside at_function ∙ beside q ∙ sym at_name) (stays_used (marked_in place g s v.outside v.from) (marked_out t) v.kept (own_at (name_beside s)) here)
  where
    named_child : (t : Node) (q : Path) (w : Place) (f : Node) (p : Path) (v : Place) (c : Node) (i : Ident) → p ≡ below q fn_decl.IDENT → IsAt program_place t q w f → IsAt program_place t p v c → name_in (out-Node c) ≡ Some i → name_of (child f fn_decl.IDENT) ≡ Some i
    named_child t q w f p v c i path there at name = by (child f fn_decl.IDENT) refl
      where
        down : given (child f fn_decl.IDENT) None (λ c. place_at (place_below w f fn_decl.IDENT) c []) ≡ Some (v, c)
        down = sym (place_on q (fn_decl.IDENT ∷ []) program_place t w f there) ∙ sym (ap (place_at program_place t) path) ∙ at

        by : (z : Option Node) → child f fn_decl.IDENT ≡ z → name_of z ≡ Some i
        by None e = no_some {x = (v, c)} (sym (ap (λ z. given z None (λ c. place_at (place_below w f fn_decl.IDENT) c [])) e) ∙ down)
        by (Some d) e =
            let same : d ≡ c = ap (λ z. z.1) (some_same {a = (place_below w f fn_decl.IDENT, d)} {b = (v, c)} (sym (ap (λ z. given z None (λ c. place_at (place_below w f fn_decl.IDENT) c [])) e) ∙ down)) in
            ap (λ d. name_in (out-Node d)) same ∙ name
