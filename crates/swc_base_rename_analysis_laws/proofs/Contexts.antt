-- What holds of the places that a walk comes to, and of what it has there beside the node: the scopes round the place are
-- those whose innermost has the number, and an export list, the body of a `for` and a function's own name are known.
use Rattle.std.proofs.Common.{◌≡◌, ◌↔◌, ℕ, Bool, true, false, ◌⊎◌, inl, inr, Option, Some, None, List, [], ◌∷◌, ◌++◌, ⊎_elim, ◌==◌, refl, sym, ap, ◌∙◌, subst, IsTrue, append-nil}
use Rattle.std.specs.Prelude.{◌||◌, ◌&&◌, if◌then◌else◌}
use Rattle.std.specs.List.{slice_get}
use Rattle.std.specs.Cmp.{unsigned_Decides}
use Rattle.std.specs.Option.{option_or}
use Rattle.swc_tree_marks.specs.declared.ident.Ident.{Ident}
use Rattle.swc_tree_node.specs.declared.fields.statements.fn_decl.TheConstants as fn_decl
use Rattle.swc_tree_node.specs.declared.fields.functions.class_expr.TheConstants as class_expr
use Rattle.swc_tree_node.specs.declared.kind.Kind.{Kind}
use Rattle.swc_tree_node.specs.declared.kind.Kind.TheVariants as kind
use Rattle.swc_tree_node.specs.declared.slot.Role.{Role}
use Rattle.swc_tree_node.specs.declared.slot.Role.TheVariants as role
use Rattle.swc_tree_node.specs.declared.node.Node.{Node, out-Node}
use Rattle.swc_tree_node.specs.declared.node.Node.TheOpen.{Node-F}
use Rattle.swc_tree_scoping.specs.declared.places.Place.{Place}
use Rattle.swc_tree_scoping.specs.Places.{Path, child, children_in, field_role, has_own_name, opened_as, place_at, place_below, program_place, is_at}
use Rattle.swc_tree_scoping.specs.BoundNames.{name_of}
use Rattle.swc_tree_scoping.specs.WellScoped.{InExportList}
use Rattle.swc_base_rename_analysis.specs.declared.scopes.ScopeKind.{ScopeKind}
use Rattle.swc_base_rename_analysis.specs.Analysis.{body_kind, has_identifier, is_for_body, is_outside, opened_here, opened_round, own_kind, scopes_round, uses_own_name, key_field, is_default_export}
use Rattle.swc_base_rename_analysis.specs.Laws.{is_body_at}
use Rattle.swc_base_rename_analysis.specs.Walk.{Outside, is_export_list, outside_all, own_name_below, round_field, round_item, kind_opened, name_outside}
use Rattle.swc_base_rename_analysis_laws.proofs.Grown.{Grows}
use Rattle.swc_base_rename_analysis_laws.proofs.Items.{some_same}
use Rattle.swc_base_rename_analysis_laws.proofs.Marked.{Marked, below}
use Rattle.swc_base_rename_analysis_laws.proofs.Paths.{IsAt, body_below, export_field, export_item, opened_at, place_below_at, scopes_step}
use Rattle.swc_base_rename_analysis_laws.proofs.Scoped.{Scoped, scoped_stays}
use Rattle.swc_base_rename_analysis_laws.proofs.Turns.{own_is_opened}

-- the path is that of the function in a node whose name counts as used in it
abbrev pub IsNamedFunction : Node → Path → Ident → Type 0
IsNamedFunction t h x = (q : Path) × (v : Place) × (f : Node) × (h ≡ below q fn_decl.FUNCTION) × IsAt program_place t q v f × IsTrue (uses_own_name (out-Node f)) × (name_of (child f fn_decl.IDENT) ≡ Some x)

abbrev pub HasOwnName : Node → Path → Option Ident → Type 0
HasOwnName t h (Some x) = IsNamedFunction t h x
HasOwnName t h None = (x : Ident) → IsNamedFunction t h x → ⊥

pub record Context (t : Node) (h : Path) (w : Place) (n : Node) (o : Outside) (m : Marked) : Type 0 where
  pub there : IsAt program_place t h w n
  pub exported : IsTrue o.exported ↔ InExportList t h
  pub for_body : o.for_body ≡ is_body_at false t h
  pub own_name : HasOwnName t h o.own_name
  pub scoped : Scoped m o.scope (scopes_round t h)

pub moved : {t : Node} {h : Path} {w : Place} {n : Node} {o : Outside} {m m2 : Marked} → Grows m m2 → Context t h w n o m → Context t h w n o m2
moved {t} {h} {w} {n} {o} {m} {m2} g c = record { there = c.there; exported = c.exported; for_body = c.for_body; own_name = c.own_name; scoped = scoped_stays m m2 g o.scope (scopes_round t h) c.scoped }

pub false_is_not : {A : Type 0} → IsTrue false → A
false_is_not h = absurd (cc)

-- paths that end alike
pub ends_alike : (h q : Path) (i j : ℕ) → below h i ≡ below q j → (h ≡ q) × (i ≡ j)
ends_alike [] [] i j e = (refl, cc)
ends_alike [] (k ∷ []) i j e = absurd (cc)
ends_alike [] (k ∷ l ∷ q) i j e = absurd (cc)
ends_alike (k ∷ []) [] i j e = absurd (cc)
ends_alike (k ∷ l ∷ h) [] i j e = absurd (cc)
ends_alike (k ∷ h) (l ∷ q) i j e = let (same, number) = ends_alike h q i j (cc) in let head : k ≡ l = cc in ((λ a. head a ∷ same a), number)

no_end : (q : Path) (j : ℕ) → [] ≡ below q j → ⊥
no_end [] j e = absurd (cc)
no_end (k ∷ q) j e = absurd (cc)

no_middle : {A : Type 0} (q r : Path) (j : ℕ) → [] ≡ q ++ (j ∷ r) → A
no_middle [] r j e = absurd (cc)
no_middle (k ∷ q) r j e = absurd (cc)

-- the whole tree
pub root_context : (t : Node) → Context t [] program_place t outside_all (record { scopes = []; names = [] })
root_context t = record {
  there = refl;
  exported = (λ h. false_is_not h, λ (q, r, j, v, l, us, path, _, _). no_middle q r j path);
  for_body = refl;
  own_name = λ x (q, v, f, path, _, _, _). no_end q fn_decl.FUNCTION path;
  scoped = refl;
}

-- what is beside a field
listed : (r : Role) → IsTrue (is_export_list r) ↔ (r ≡ role.ExportLocal)
listed r = (forth r, λ e. subst (λ r. IsTrue (is_export_list r)) (sym e) refl)
  where
    forth : (r : Role) → IsTrue (is_export_list r) → r ≡ role.ExportLocal
    forth role.ExportLocal h = refl
    forth r h = false_is_not h

either : (a b : Bool) {P Q : Type 0} → IsTrue a ↔ P → IsTrue b ↔ Q → IsTrue (a || b) ↔ (P ⊎ Q)
either true b f g = (λ h. inl (f.0 refl), λ h. refl)
either false b f g = (λ h. inr (g.0 h), λ h. ⊎_elim (λ p. false_is_not (f.1 p)) g.1 h)

turned : (i j : ℕ) → (i == j) ≡ (j == i)
turned i j = by (i == j) refl
  where
    at : (i ≡ j → ⊥) → (b : Bool) → (j == i) ≡ b → false ≡ b
    at different true e = absurd (different (sym ((unsigned_Decides j i).0 e)))
    at different false e = refl

    by : (b : Bool) → (i == j) ≡ b → b ≡ (j == i)
    by true e = sym ((unsigned_Decides j i).1 (sym ((unsigned_Decides i j).0 e)))
    by false e = sym (sym (at (λ same. false_is_not (sym e ∙ (unsigned_Decides i j).1 same)) (j == i) refl))

-- a node whose layer is known
module _ (t : Node) (h : Path) (w : Place) (n : Node) (k : Kind) (ts : List Node) (there : IsAt program_place t h w n) (layer : out-Node n ≡ Node-F.Tree k ts) where
  pub child_of : (i : ℕ) (c : Node) → slice_get ts i ≡ Some c → child n i ≡ Some c
  child_of i c e = ap (λ y. slice_get (children_in y) i) layer ∙ e

  own_here : (i : ℕ) (a b : Bool) → (i == fn_decl.FUNCTION) ≡ a → uses_own_name (Node-F.Tree k ts) ≡ b → (x : Option Ident) → name_of (slice_get ts fn_decl.IDENT) ≡ x → HasOwnName t (below h i) (if a && b then x else None)
  own_here i a b d e x named = at a b x d e named
    where
      field : child n fn_decl.IDENT ≡ slice_get ts fn_decl.IDENT
      field = ap (λ y. slice_get (children_in y) fn_decl.IDENT) layer

      here : (x : Ident) → IsNamedFunction t (below h i) x → (i ≡ fn_decl.FUNCTION) × (uses_own_name (Node-F.Tree k ts) ≡ true) × (name_of (slice_get ts fn_decl.IDENT) ≡ Some x)
      here x (q, v, f, path, place, uses, name) =
          let (same, number) = ends_alike h q i fn_decl.FUNCTION path in
          let one : n ≡ f = ap (λ z. z.1) (some_same {a = (w, n)} {b = (v, f)} (sym there ∙ ap (place_at program_place t) same ∙ place)) in
          (number, ap (λ y. uses_own_name y) (sym layer) ∙ ap (λ n. uses_own_name (out-Node n)) one ∙ uses, ap name_of (sym field) ∙ ap (λ n. name_of (child n fn_decl.IDENT)) one ∙ name)

      at : (a b : Bool) (x : Option Ident) → (i == fn_decl.FUNCTION) ≡ a → uses_own_name (Node-F.Tree k ts) ≡ b → name_of (slice_get ts fn_decl.IDENT) ≡ x → HasOwnName t (below h i) (if a && b then x else None)
      at true true (Some x) d e named = (h, w, n, ap (below h) ((unsigned_Decides i fn_decl.FUNCTION).0 d), there, ap (λ y. uses_own_name y) layer ∙ e, ap name_of field ∙ named)
      at true true None d e named = λ y f. let (_, _, other) = here y f in let both : None ≡ Some y = sym named ∙ other in absurd (cc)
      at true false x d e named = λ y f. let (_, uses, _) = here y f in let both : false ≡ true = sym e ∙ uses in absurd (cc)
      at false b x d e named = λ y f. let (number, _, _) = here y f in let both : false ≡ true = sym d ∙ (unsigned_Decides i fn_decl.FUNCTION).1 number in absurd (cc)

  pub own_below : (i : ℕ) → HasOwnName t (below h i) (own_name_below k ts i)
  own_below i = own_here i (i == fn_decl.FUNCTION) (uses_own_name (Node-F.Tree k ts)) refl refl (name_of (slice_get ts fn_decl.IDENT)) refl

  -- a field, whatever scope it stands in
  pub field_context : (o : Outside) (m m2 : Marked) → Context t h w n o m → (s : Option ℕ) (i : ℕ) (c : Node) → slice_get ts i ≡ Some c → Scoped m2 s (scopes_round t (below h i))
      → Context t (below h i) (place_below w n i) c (round_field k ts (record o { scope = s }) i) m2
  field_context o m m2 x s i c e scoped = record {
    there = place_below_at h i program_place t w n c there (child_of i c e);
    exported = after (either o.exported (is_export_list (field_role k i)) x.exported (listed (field_role k i)));
    for_body = ap (λ y. is_for_body y i) (sym layer) ∙ sym (body_below h i false program_place t w n c there (child_of i c e));
    own_name = own_below i;
    scoped = scoped;
  }
    where
      after : {A : Type 0} → A ↔ (InExportList t h ⊎ (field_role k i ≡ role.ExportLocal)) → A ↔ InExportList t (below h i)
      after f = let g = export_field t h i w n k ts there layer in (λ a. g.1 (f.0 a), λ b. f.1 (g.0 b))

  -- the scopes round a field that stands outside of what the node opens, and round one inside
  pub round_outside : (i : ℕ) → opened_round (is_body_at false t h) w (Node-F.Tree k ts) i ≡ [] → scopes_round t (below h i) ≡ scopes_round t h
  round_outside i e = scopes_step h i false program_place t w n there ∙ ap (λ y. opened_at h (opened_round (is_body_at false t h) w y i) ++ scopes_round t h) layer ∙ ap (λ l. opened_at h l ++ scopes_round t h) e

  pub round_inside : (i : ℕ) (s : ScopeKind) → opened_round (is_body_at false t h) w (Node-F.Tree k ts) i ≡ ([], s) ∷ [] → scopes_round t (below h i) ≡ (h, s) ∷ scopes_round t h
  round_inside i s e =
      scopes_step h i false program_place t w n there
      ∙ ap (λ y. opened_at h (opened_round (is_body_at false t h) w y i) ++ scopes_round t h) layer
      ∙ ap (λ l. opened_at h l ++ scopes_round t h) e
      ∙ ap (λ p. (p, s) ∷ scopes_round t h) (append-nil h)

-- what a tree opens round a field
pub opens_none : (f : Bool) (w : Place) (k : Kind) (ts : List Node) (i : ℕ) → body_kind f (kind_opened k (opened_as w k (has_own_name ts))) ≡ None → opened_round f w (Node-F.Tree k ts) i ≡ []
opens_none f w k ts i e = by (is_outside w k (has_identifier ts) i)
  where
    by : (b : Bool) → (if b then [] else opened_here (body_kind f (own_kind w k (has_own_name ts)))) ≡ []
    by true = refl
    by false = ap (λ s. opened_here (body_kind f s)) (own_is_opened w k (has_own_name ts)) ∙ ap opened_here e

pub opens_outside : (f : Bool) (w : Place) (k : Kind) (ts : List Node) (i : ℕ) → is_outside w k (has_identifier ts) i ≡ true → opened_round f w (Node-F.Tree k ts) i ≡ []
opens_outside f w k ts i e = ap (λ b. if b then [] else opened_here (body_kind f (own_kind w k (has_own_name ts)))) e

pub opens_inside : (f : Bool) (w : Place) (k : Kind) (ts : List Node) (i : ℕ) (s : ScopeKind) → is_outside w k (has_identifier ts) i ≡ false → body_kind f (kind_opened k (opened_as w k (has_own_name ts))) ≡ Some s
    → opened_round f w (Node-F.Tree k ts) i ≡ ([], s) ∷ []
opens_inside f w k ts i s e d =
    ap (λ b. if b then [] else opened_here (body_kind f (own_kind w k (has_own_name ts)))) e
    ∙ ap (λ s. opened_here (body_kind f s)) (own_is_opened w k (has_own_name ts))
    ∙ ap opened_here d

-- what stands outside is the key, or the identifier of a class that is the default export
pub outside_is : (w : Place) (k : Kind) (named : Bool) (i : ℕ) → is_outside w k named i ≡ is_at (option_or (key_field k) (name_outside w k named)) i
outside_is w kind.ClassExpr named i = by (is_default_export w.standing) named
  where
    by : (a b : Bool) → (a && (b && i == class_expr.IDENT)) ≡ is_at (if a && b then Some class_expr.IDENT else None) i
    by true true = turned i class_expr.IDENT
    by true false = refl
    by false b = refl
outside_is w kind.Constructor named i = refl
outside_is w kind.GetterProp named i = refl
outside_is w kind.SetterProp named i = refl
outside_is w k named i = refl

-- an item of a list is no function in a node
pub unnamed_item : (t : Node) (h : Path) (w : Place) (n : Node) (ts : List Node) → out-Node n ≡ Node-F.List ts → IsAt program_place t h w n → (i : ℕ) → HasOwnName t (below h i) None
unnamed_item t h w n ts layer there i y (q, v, f, path, place, uses, name) =
    let (same, number) = ends_alike h q i fn_decl.FUNCTION path in
    let one : n ≡ f = ap (λ z. z.1) (some_same {a = (w, n)} {b = (v, f)} (sym there ∙ ap (place_at program_place t) same ∙ place)) in
    false_is_not (ap (λ y. uses_own_name y) (sym layer) ∙ ap (λ n. uses_own_name (out-Node n)) one ∙ uses)

-- an item of a list
pub item_context : (t : Node) (h : Path) (w : Place) (n : Node) (ts : List Node) (o : Outside) (m : Marked) → out-Node n ≡ Node-F.List ts → Context t h w n o m → (i : ℕ) (c : Node) → slice_get ts i ≡ Some c
    → Context t (below h i) (place_below w n i) c (round_item o) m
item_context t h w n ts o m layer x i c e = record {
  there = place_below_at h i program_place t w n c x.there child_here;
  exported = let g = export_item t h i w n ts x.there layer in (λ a. g.1 (x.exported.0 a), λ b. x.exported.1 (g.0 b));
  for_body = ap (λ y. is_for_body y i) (sym layer) ∙ sym (body_below h i false program_place t w n c x.there child_here);
  own_name = unnamed_item t h w n ts layer x.there i;
  scoped = subst (Scoped m o.scope) (sym around) x.scoped;
}
  where
    child_here : child n i ≡ Some c
    child_here = ap (λ y. slice_get (children_in y) i) layer ∙ e

    around : scopes_round t (below h i) ≡ scopes_round t h
    around = scopes_step h i false program_place t w n x.there ∙ ap (λ y. opened_at h (opened_round (is_body_at false t h) w y i) ++ scopes_round t h) layer
