-- Trees that are the same but for identifiers have the same scopes of the analysis.
use Rattle.std.proofs.Common.{◌≡◌, ℕ, Bool, false, ◌||◌, Option, Some, None, List, [], ◌∷◌, ◌++◌, map, refl, sym, ap, ◌∙◌, cond, inl, inr, ⊎_elim, Contains, subst}
use Rattle.std.specs.List.{list_any, slice_get}
use Rattle.std.specs.Prelude.{is_some, not, option_map}
use Rattle.std.proofs.lemmas.Option.{slice_get-map}
use Rattle.swc_tree_marks.specs.declared.ident.Ident.{Ident}
use Rattle.swc_tree_node.specs.declared.fields.functions.class_expr.TheConstants as class_expr
use Rattle.swc_tree_node.specs.declared.fields.functions.fn_expr.TheConstants as fn_expr
use Rattle.swc_tree_node.specs.declared.fields.functions.function.TheConstants as function
use Rattle.swc_tree_node.specs.declared.fields.functions.param.TheConstants as param
use Rattle.swc_tree_node.specs.declared.fields.statements.fn_decl.TheConstants as fn_decl
use Rattle.swc_tree_node.specs.declared.kind.Kind.{Kind}
use Rattle.swc_tree_node.specs.declared.kind.Kind.TheVariants as kind
use Rattle.swc_tree_node.specs.declared.node.Node.{Node, out-Node}
use Rattle.swc_tree_node.specs.declared.node.Node.TheOpen.{Node-F}
use Rattle.swc_tree_scoping.specs.declared.places.Place.{Place}
use Rattle.swc_tree_scoping.specs.Places.{Path, absent_in, child, given, has_own_name, is_there, items_in, items_of, place_at, place_below, program_place}
use Rattle.swc_tree_scoping.specs.BoundNames.{Id, name_in, name_of}
use Rattle.swc_tree_scoping.specs.Readings.{with_identifiers}
use Rattle.swc_tree_renaming.specs.Apart.{nameless, no_name}
use Rattle.swc_tree_renaming.proofs.Blank.{child_same, layer, out_is, place_at_same, place_same}
use Rattle.swc_base_rename_analysis.specs.Analysis.{Declares, IsAnalysed, IsOwnName, IsRound, OccursIn, body_kind, first_taking, function_has_rest_or_default, has_identifier, is_for_body, is_outside, is_rest_or_default, opened_here, opened_round, own_kind, parameter_is_rest_or_default, scopes_below, scopes_round, uses_own_name}
use Rattle.swc_base_rename_analysis.specs.Ids.{id_at}
use Rattle.swc_base_rename_analysis.proofs.Kept.{lower}

no_place : (z : Place × Node) → Some z ≡ None → ⊥
no_place z e = absurd (cc)

some_pair : (a b : Place × Node) → Some a ≡ Some b → a ≡ b
some_pair a b e = cc

module _ (f : Ident → Ident) where
  abbrev B : Node → Node
  B = with_identifiers f

  reads : {A : Type 0} (g : Node-F Node → A) → ((y : Node-F Node) → g (layer f y) ≡ g y) → (t : Node) → g (out-Node (B t)) ≡ g (out-Node t)
  reads g h t = ap g (out_is f t) ∙ h (out-Node t)

  -- ---- what is read off a field

  named : (y : Node-F Node) → is_some (name_in (layer f y)) ≡ is_some (name_in y)
  named (Node-F.Identifier k i) = refl
  named Node-F.Absent = refl
  named _ = refl

  name_same : (o : Option Node) → is_some (name_of (option_map B o)) ≡ is_some (name_of o)
  name_same None = refl
  name_same (Some t) = reads (λ y. is_some (name_in y)) named t

  identifier_same : (ts : List Node) → has_identifier (map B ts) ≡ has_identifier ts
  identifier_same ts = ap (λ o. is_some (name_of o)) (slice_get-map B ts class_expr.IDENT) ∙ name_same (slice_get ts class_expr.IDENT)

  absents : (y : Node-F Node) → absent_in (layer f y) ≡ absent_in y
  absents Node-F.Absent = refl
  absents (Node-F.Identifier k i) = refl
  absents _ = refl

  there_same : (o : Option Node) → is_there (option_map B o) ≡ is_there o
  there_same None = refl
  there_same (Some t) = ap not (reads absent_in absents t)

  own_name_same : (ts : List Node) → has_own_name (map B ts) ≡ has_own_name ts
  own_name_same ts = ap is_there (slice_get-map B ts fn_expr.IDENT) ∙ there_same (slice_get ts fn_expr.IDENT)

  -- ---- functions that count as using their names

  rest_at : (k : Kind) (ts : List Node) → is_rest_or_default (Node-F.Tree k (map B ts)) ≡ is_rest_or_default (Node-F.Tree k ts)
  rest_at kind.RestPat ts = refl
  rest_at kind.AssignPat ts = refl
  rest_at _ ts = refl

  rest : (y : Node-F Node) → is_rest_or_default (layer f y) ≡ is_rest_or_default y
  rest (Node-F.Tree k ts) = rest_at k ts
  rest (Node-F.Identifier k i) = refl
  rest _ = refl

  given_same : (g : Node-F Node → Bool) → ((y : Node-F Node) → g (layer f y) ≡ g y) → (ts : List Node) (i : ℕ) → given (slice_get (map B ts) i) false (λ c. g (out-Node c)) ≡ given (slice_get ts i) false (λ c. g (out-Node c))
  given_same g h ts i = ap (λ o. given o false (λ c. g (out-Node c))) (slice_get-map B ts i) ∙ at (slice_get ts i)
    where
      at : (o : Option Node) → given (option_map B o) false (λ c. g (out-Node c)) ≡ given o false (λ c. g (out-Node c))
      at None = refl
      at (Some c) = reads g h c

  parameter_at : (k : Kind) (ts : List Node) → parameter_is_rest_or_default (Node-F.Tree k (map B ts)) ≡ parameter_is_rest_or_default (Node-F.Tree k ts)
  parameter_at kind.Param ts = given_same is_rest_or_default rest ts param.PAT
  parameter_at _ ts = refl

  parameter : (y : Node-F Node) → parameter_is_rest_or_default (layer f y) ≡ parameter_is_rest_or_default y
  parameter (Node-F.Tree k ts) = parameter_at k ts
  parameter (Node-F.Identifier k i) = refl
  parameter _ = refl

  items : (y : Node-F Node) → items_in (layer f y) ≡ map B (items_in y)
  items (Node-F.List ts) = refl
  items (Node-F.Identifier k i) = refl
  items _ = refl

  items_same : (o : Option Node) → items_of (option_map B o) ≡ map B (items_of o)
  items_same None = refl
  items_same (Some t) = ap items_in (out_is f t) ∙ items (out-Node t)

  any_same : (g : Node → Bool) → ((t : Node) → g (B t) ≡ g t) → (ts : List Node) → list_any g (map B ts) ≡ list_any g ts
  any_same g h [] = refl
  any_same g h (t ∷ ts) = ap (λ b. b || list_any g (map B ts)) (h t) ∙ ap (λ b. g t || b) (any_same g h ts)

  function_at : (k : Kind) (ts : List Node) → function_has_rest_or_default (Node-F.Tree k (map B ts)) ≡ function_has_rest_or_default (Node-F.Tree k ts)
  function_at kind.Function ts =
      ap (λ o. list_any (λ c. parameter_is_rest_or_default (out-Node c)) (items_of o)) (slice_get-map B ts function.PARAMS)
      ∙ ap (list_any (λ c. parameter_is_rest_or_default (out-Node c))) (items_same (slice_get ts function.PARAMS))
      ∙ any_same (λ c. parameter_is_rest_or_default (out-Node c)) (λ t. reads parameter_is_rest_or_default parameter t) (items_of (slice_get ts function.PARAMS))
  function_at _ ts = refl

  functions : (y : Node-F Node) → function_has_rest_or_default (layer f y) ≡ function_has_rest_or_default y
  functions (Node-F.Tree k ts) = function_at k ts
  functions (Node-F.Identifier k i) = refl
  functions _ = refl

  uses_at : (k : Kind) (ts : List Node) → uses_own_name (Node-F.Tree k (map B ts)) ≡ uses_own_name (Node-F.Tree k ts)
  uses_at kind.FnDecl ts = given_same function_has_rest_or_default functions ts fn_decl.FUNCTION
  uses_at kind.FnExpr ts = given_same function_has_rest_or_default functions ts fn_expr.FUNCTION
  uses_at _ ts = refl

  uses : (y : Node-F Node) → uses_own_name (layer f y) ≡ uses_own_name y
  uses (Node-F.Tree k ts) = uses_at k ts
  uses (Node-F.Identifier k i) = refl
  uses _ = refl

  -- ---- scopes

  outside_at : (w : Place) (k : Kind) (ts : List Node) (i : ℕ) → is_outside w k (has_identifier (map B ts)) i ≡ is_outside w k (has_identifier ts) i
  outside_at w k ts i = ap (λ b. is_outside w k b i) (identifier_same ts)

  rounds_at : (b : Bool) (w : Place) (i : ℕ) (y : Node-F Node) → opened_round b w (layer f y) i ≡ opened_round b w y i
  rounds_at b w i (Node-F.Tree k ts) =
      ap (λ o. cond o [] (opened_here (body_kind b (own_kind w k (has_own_name (map B ts)))))) (outside_at w k ts i)
      ∙ ap (λ n. cond (is_outside w k (has_identifier ts) i) [] (opened_here (body_kind b (own_kind w k n)))) (own_name_same ts)
  rounds_at b w i (Node-F.Identifier k j) = refl
  rounds_at b w i _ = refl

  bodies : (i : ℕ) (y : Node-F Node) → is_for_body (layer f y) i ≡ is_for_body y i
  bodies i (Node-F.Tree k ts) = refl
  bodies i (Node-F.Identifier k j) = refl
  bodies i _ = refl

  below_same : (p : Path) (b : Bool) (w : Place) (t : Node) → scopes_below b w (B t) p ≡ scopes_below b w t p
  below_same [] b w t = refl
  below_same (i ∷ p) b w t =
      ap (λ o. map (lower i) (given o [] (λ c. scopes_below (is_for_body (out-Node (B t)) i) (place_below w (B t) i) c p)) ++ opened_round b w (out-Node (B t)) i) (child_same f t i)
      ∙ ap (λ v. map (lower i) (given (option_map B (child t i)) [] (λ c. scopes_below (is_for_body (out-Node (B t)) i) v c p)) ++ opened_round b w (out-Node (B t)) i) (place_same f w t i)
      ∙ ap (λ d. map (lower i) (given (option_map B (child t i)) [] (λ c. scopes_below d (place_below w t i) c p)) ++ opened_round b w (out-Node (B t)) i) (reads (λ y. is_for_body y i) (bodies i) t)
      ∙ ap (λ l. map (lower i) (given (option_map B (child t i)) [] (λ c. scopes_below (is_for_body (out-Node t) i) (place_below w t i) c p)) ++ l) (reads (λ y. opened_round b w y i) (rounds_at b w i) t)
      ∙ ap (λ l. map (lower i) l ++ opened_round b w (out-Node t) i) (at (λ v c. below_same p (is_for_body (out-Node t) i) v c) (child t i))
    where
      at : ((v : Place) (c : Node) → scopes_below (is_for_body (out-Node t) i) v (B c) p ≡ scopes_below (is_for_body (out-Node t) i) v c p) → (o : Option Node)
          → given (option_map B o) [] (λ c. scopes_below (is_for_body (out-Node t) i) (place_below w t i) c p) ≡ given o [] (λ c. scopes_below (is_for_body (out-Node t) i) (place_below w t i) c p)
      at below None = refl
      at below (Some c) = below (place_below w t i) c

  -- ---- functions that count as using their names, by paths

  own_forth : (t : Node) (s p : Path) → IsOwnName t s p → IsOwnName (B t) s p
  own_forth t s p (q, w, n, path, scope, there, is) = (
    q,
    w,
    B n,
    path,
    scope,
    place_at_same f q program_place t ∙ ap (option_map {U = Place × Node} (λ (q : Place × Node). (q.0, B q.1))) there,
    reads uses_own_name uses n ∙ is,
  )

  own_back : (t : Node) (s p : Path) → IsOwnName (B t) s p → IsOwnName t s p
  own_back t s p (q, w, n, path, scope, there, is) = at (place_at program_place t q) refl
    where
      at : (o : Option (Place × Node)) → place_at program_place t q ≡ o → IsOwnName t s p
      at None e = absurd (no_place (w, n) (sym there ∙ place_at_same f q program_place t ∙ ap (option_map {U = Place × Node} (λ (q : Place × Node). (q.0, B q.1))) e))
      at (Some (v, m)) e =
          let same : (v, B m) ≡ (w, n) = some_pair (v, B m) (w, n) (sym (place_at_same f q program_place t ∙ ap (option_map {U = Place × Node} (λ (q : Place × Node). (q.0, B q.1))) e) ∙ there) in
          (q, v, m, path, scope, e, sym (reads uses_own_name uses m) ∙ ap (λ (z : Place × Node). uses_own_name (out-Node z.1)) same ∙ is)

-- ---- two trees of one shape

module _ (t u : Node) (shape : nameless t ≡ nameless u) where
  scopes_alike : (p : Path) → scopes_round t p ≡ scopes_round u p
  scopes_alike p = sym (below_same (λ i. no_name) p false program_place t) ∙ ap (λ t. scopes_round t p) shape ∙ below_same (λ i. no_name) p false program_place u

  own_alike : (s p : Path) → IsOwnName t s p → IsOwnName u s p
  own_alike s p h = own_back (λ i. no_name) u s p (subst (λ t. IsOwnName t s p) shape (own_forth (λ i. no_name) t s p h))

  -- what is declared in the one is declared so in the other, as the id that stands there
  pub declares_alike : (s p : Path) (x y : Id) (d : Declares t s p x) → id_at u p ≡ Some (d.standing, y) → IsAnalysed y → Declares u s p y
  declares_alike s p x y d stands analysed = record { standing = d.standing; stands = stands; binds = d.binds; analysed = analysed; taken = ap (first_taking d.standing) (sym (scopes_alike p)) ∙ d.taken }

  pub occurs_alike : (s : Path) (x y : Id) (o : OccursIn t s x) → id_at u o.path ≡ Some (o.standing, y) → IsAnalysed y → OccursIn u s y
  occurs_alike s x y o stands analysed = record {
    path = o.path;
    standing = o.standing;
    stands = stands;
    names = o.names;
    analysed = analysed;
    inside = ⊎_elim (λ (r : IsRound t s o.path). inl (r.0, subst (λ l. Contains l (s, r.0)) (scopes_alike o.path) r.1)) (λ (h : IsOwnName t s o.path). inr (own_alike s o.path h)) o.inside;
  }
