-- The references in export lists are what is exported so.
use Rattle.std.proofs.Common.{◌≡◌, ℕ, zero, suc, Bool, true, false, not, IsTrue, inl, inr, ⊎_elim, Option, Some, None, List, [], ◌∷◌, ◌++◌, refl, sym, ap, ◌∙◌, subst, cond, true≢false}
use Rattle.std.specs.List.{flat_map, list_all, slice_get}
use Rattle.std.specs.Prelude.{unwrap_or, option_map}
use Rattle.swc_tree_marks.specs.declared.ident.Ident.{Ident}
use Rattle.swc_tree_node.specs.declared.kind.Kind.{Kind}
use Rattle.swc_tree_node.specs.declared.kind.Kind.TheVariants as kind
use Rattle.swc_tree_node.specs.declared.kind.Class.TheVariants as class
use Rattle.swc_tree_node.specs.declared.slot.Content.TheVariants as content
use Rattle.swc_tree_node.specs.declared.slot.Role.{Role}
use Rattle.swc_tree_node.specs.declared.slot.Role.TheVariants as role
use Rattle.swc_tree_node.specs.declared.slot.Slot.{Slot}
use Rattle.swc_tree_node.specs.declared.slot.Slot.TheVariants as slot
use Rattle.swc_tree_node.specs.declared.node.Node.{Node, List as Many, Identifier, Tree, out-Node}
use Rattle.swc_tree_node.specs.declared.node.Node.TheOpen.{Node-F}
use Rattle.swc_tree_node.specs.declared.node.Node.TheVariants.{outs-Identifier, outs-List, outs-Tree}
use Rattle.swc_tree_node.specs.Table.{fields_of, is_identifier, slots_of}
use Rattle.swc_tree_node.specs.Fits.{AllFit, FieldsFit, Fits, belongs}
use Rattle.swc_tree_node.proofs.Fit.{both as both_are, fits-Flag, fits-List, fits-Span, fits-Text, fits-Word}
use Rattle.swc_tree_scoping.specs.declared.places.Place.{Place}
use Rattle.swc_tree_scoping.specs.declared.places.Standing.TheVariants as standing
use Rattle.swc_tree_scoping.specs.Places.{Path, absent_in, child, children_in, field_role, is_there, place_at, place_below, place_in, program_place}
use Rattle.swc_tree_scoping.specs.Scopes.{is_name}
use Rattle.swc_tree_scoping.specs.WellScoped.{InExportList}
use Rattle.swc_tree_scoping.proofs.Under.{no_place_under, place_under}
use Rattle.swc_tree_grammar.specs.Levels.{is_absent_in}
use Rattle.swc_tree_grammar.specs.Shapes.{items_of}
use Rattle.swc_tree_grammar.proofs.Induction.{by_children as by_nodes}
use Rattle.swc_tree_grammar.proofs.Items.{items_of_list, listed as as_list}
use Rattle.swc_tree_grammar.proofs.Places.{one, stands, stands_there}
use Rattle.swc_tree_renaming.proofs.Shape.{some_same}
use Rattle.swc_tree_spaces.specs.NoTypes.{ListsAreItems}
use Rattle.swc_tree_sites.specs.Sites.{Entry, Site, Sites, both, counted, nothing}
use Rattle.swc_tree_sites.specs.Smaller.{In}
use Rattle.swc_tree_sites.proofs.Found.{env_at, finds}
use Rattle.swc_tree_sites.proofs.Kept.{S, all, both_nothing, of_list, out_step}
use Rattle.swc_tree_sites.proofs.Leaves.{Field}
use Rattle.swc_tree_sites.proofs.Loose.{in_cases, in_left, in_right}
use Rattle.swc_tree_sites_laws.proofs.Expressions.{P, of_identifier, tree_alike}
use Rattle.swc_tree_sites_laws.proofs.StrippedFewer.{of_absent, of_leaf}
use Rattle.swc_tree_sites_written.proofs.WrittenNames.{outer_name, outer_quiet}
use Rattle.swc_tree_sites_kept.specs.Exported.{exported_locals, listed, module_in, name_in, specified}
use Rattle.swc_tree_sites_kept.specs.Exports.{ExportListsAreListed}
use Rattle.swc_tree_sites_kept.proofs.Items.{is_list_kind, listed_tree, of_class, specified_tree}

abbrev Top : Place
Top = P standing.Plain false

-- ---- where export lists stand

abbrev is_export_role : Role → Bool
is_export_role role.ExportLocal = true
is_export_role _ = false

export_fields : (k : Kind) → list_all (λ f. not (is_export_role f.2)) (fields_of k) ≡ not (is_list_kind k)
export_fields kind.NamedExport = refl
export_fields kind.Module = refl
export_fields _ = refl

all_at : (g : Field → Bool) (fs : List Field) (i : ℕ) (f : Field) → list_all g fs ≡ true → slice_get fs i ≡ Some f → g f ≡ true
all_at g [] i f h e = absurd (cc)
all_at g (x ∷ fs) zero f h e = let same : x ≡ f = cc in ap g (sym same) ∙ (both_are (g x) (list_all g fs) h).0
all_at g (x ∷ fs) (suc i) f h e = all_at g fs i f (both_are (g x) (list_all g fs) h).1 e

list_kind : (k : Kind) → is_list_kind k ≡ true → k ≡ kind.NamedExport
list_kind kind.NamedExport h = refl
list_kind _ h = absurd (cc)

export_kind : (k : Kind) (i : ℕ) → field_role k i ≡ role.ExportLocal → k ≡ kind.NamedExport
export_kind k i e = at (is_list_kind k) refl (slice_get (fields_of k) i) refl
  where
    at : (b : Bool) → is_list_kind k ≡ b → (o : Option Field) → slice_get (fields_of k) i ≡ o → k ≡ kind.NamedExport
    at true h o g = list_kind k h
    at false h None g = let z : role.Plain ≡ role.ExportLocal = sym (ap (λ o. unwrap_or (option_map (λ f. f.2) o) role.Plain) g) ∙ e in absurd (cc)
    at false h (Some f) g =
        let r : f.2 ≡ role.ExportLocal = sym (ap (λ o. unwrap_or (option_map (λ f. f.2) o) role.Plain) g) ∙ e in
        let z = all_at (λ f. not (is_export_role f.2)) (fields_of k) i f (export_fields k ∙ ap not h) g in
        let y : false ≡ true = sym (ap (λ r. not (is_export_role r)) r) ∙ z in absurd (cc)

export_field : (i : ℕ) → field_role kind.NamedExport i ≡ role.ExportLocal → i ≡ 1
export_field zero e = absurd (cc)
export_field (suc zero) e = refl
export_field (suc (suc zero)) e = absurd (cc)
export_field (suc (suc (suc zero))) e = absurd (cc)
export_field (suc (suc (suc (suc i)))) e = absurd (cc)

fit_at : (s : Slot) (ts : List Node) (i : ℕ) (c : Node) → AllFit s ts → slice_get ts i ≡ Some c → Fits c s
fit_at s [] i c f e = absurd (cc)
fit_at s (t ∷ ts) zero c f e = let same : t ≡ c = cc in subst (λ c. Fits c s) same f.0
fit_at s (t ∷ ts) (suc i) c f e = fit_at s ts i c f.1 e

-- ---- the names of a specifier

optional_outer : (n : Bool) (t : Node) → Fits t (slot.Optional (content.Node class.ModuleExportName)) → S (P standing.Exported n) t ≡ nothing
optional_outer n t = by_nodes (λ t. Fits t (slot.Optional (content.Node class.ModuleExportName)) → S (P standing.Exported n) t ≡ nothing) (
  λ f. of_absent (P standing.Exported n),
  λ x f. absurd (cc (sym (fits-Flag x (slot.Optional (content.Node class.ModuleExportName))) ∙ f)),
  λ v f. absurd (cc (sym (fits-Word v (slot.Optional (content.Node class.ModuleExportName))) ∙ f)),
  λ x f. absurd (cc (sym (fits-Text x (slot.Optional (content.Node class.ModuleExportName))) ∙ f)),
  λ r f. absurd (cc (sym (fits-Span r (slot.Optional (content.Node class.ModuleExportName))) ∙ f)),
  λ k i f. outer_quiet standing.Exported n k i refl,
)
    (λ ts b f. absurd (cc (sym (fits-List ts (slot.Optional (content.Node class.ModuleExportName))) ∙ f)))
    (λ k ts b f.
    let w = stands k ts (slot.Optional (content.Node class.ModuleExportName)) f in
    outer_name (Tree k ts) standing.Exported n (stands_there k ts (one class.ModuleExportName) (record { in_class = w.in_class; place = w.place; no_identifier = w.no_identifier; belonging = w.belonging; fields = w.fields })) refl) t

abbrev refers : Ident → List Entry → Site
refers i env = (standing.Reference, i, env)

-- the local name of a specifier, where it is a reference
local_name : (n : Bool) (o : Node) → Fits o (one class.ModuleExportName) → (i : Ident) (env : List Entry) → In (refers i env) (S (P standing.Reference n) o).sites → In i (name_in (out-Node o))
local_name n o f i env = of_class class.ModuleExportName (λ o. Fits o (one class.ModuleExportName) → In (refers i env) (S (P standing.Reference n) o).sites → In i (name_in (out-Node o)))
    (λ k j a b f h. subst (λ y. In i (name_in y)) (sym (outs-Identifier k j)) (named k j (subst (λ (a : Sites). In (refers i env) a.sites) (of_identifier (P standing.Reference n) k j) h)))
    (λ k ts b g f h. absurd (subst (λ (a : Sites). In (refers i env) a.sites) (tree_alike k ts standing.Reference standing.Exported n refl refl (as_expression k b) ∙ outer_name (Tree k ts) standing.Exported n f refl) h)) o f f
  where
    named : (k : Kind) (j : Ident) → In (refers i env) ((standing.Reference, j, []) ∷ []) → In i (j ∷ [])
    named k j (inl e) = inl (ap (λ (s : Site). s.1) e)
    named k j (inr e) = absurd e

    as_expression : (k : Kind) → IsTrue (belongs k class.ModuleExportName) → IsTrue (belongs k class.Expr)
    as_expression kind.Str b = refl
    as_expression kind.Ident b = refl
    as_expression _ b = absurd (true≢false (sym b))

abbrev Speaks : Node → Type 0
Speaks u = (n there : Bool) (i : Ident) (env : List Entry) → In (refers i env) (S (P (cond there standing.Imported standing.Reference) n) u).sites → (there ≡ false) × In i (specified u)

speaks : (u : Node) → Fits u (one class.ExportSpecifier) → Speaks u
speaks = of_class class.ExportSpecifier Speaks (λ k i a b. absurd (no_name k a b)) at
  where
    no_name : (k : Kind) → IsTrue (is_identifier k) → IsTrue (belongs k class.ExportSpecifier) → ⊥
    no_name kind.Ident a b = absurd (cc)
    no_name kind.BindingIdent a b = absurd (cc)
    no_name _ a b = true≢false (sym a)

    named : (q o e : Node) → FieldsFit (slots_of kind.ExportNamedSpecifier) (q ∷ o ∷ e ∷ []) → Speaks (Tree kind.ExportNamedSpecifier (q ∷ o ∷ e ∷ []))
    named q o e f n true i env h =
        let is : S (P standing.Imported n) (Tree kind.ExportNamedSpecifier (q ∷ o ∷ e ∷ [])) ≡ nothing
        = out_step (P standing.Imported n) _ _ (outs-Tree kind.ExportNamedSpecifier (q ∷ o ∷ e ∷ []))
        ∙ ap (λ x. both x (both (S (P standing.Imported n) o) (both (S (P standing.Exported n) e) nothing))) (of_leaf (P standing.Plain n) content.Span q refl f.0)
        ∙ ap (λ x. both x (both (S (P standing.Exported n) e) nothing)) (outer_name o standing.Imported n f.1.0 refl) ∙ ap (λ x. both x nothing) (optional_outer n e f.1.1.0) in
        absurd (subst (λ (a : Sites). In (refers i env) a.sites) is h)
    named q o e f n false i env h =
        let is : S (P standing.Reference n) (Tree kind.ExportNamedSpecifier (q ∷ o ∷ e ∷ [])) ≡ S (P standing.Reference n) o
        = out_step (P standing.Reference n) _ _ (outs-Tree kind.ExportNamedSpecifier (q ∷ o ∷ e ∷ []))
        ∙ ap (λ x. both x (both (S (P standing.Reference n) o) (both (S (P standing.Exported n) e) nothing))) (of_leaf (P standing.Plain n) content.Span q refl f.0)
        ∙ ap (λ x. both (S (P standing.Reference n) o) (both x nothing)) (optional_outer n e f.1.1.0) ∙ both_nothing (S (P standing.Reference n) o) in
        (refl, subst (In i) (sym (specified_tree kind.ExportNamedSpecifier (q ∷ o ∷ e ∷ []))) (local_name n o f.1.0 i env (subst (λ (a : Sites). In (refers i env) a.sites) is h)))

    namespace : (q o : Node) → FieldsFit (slots_of kind.ExportNamespaceSpecifier) (q ∷ o ∷ []) → Speaks (Tree kind.ExportNamespaceSpecifier (q ∷ o ∷ []))
    namespace q o f n there i env h =
        let is : S (P (cond there standing.Imported standing.Reference) n) (Tree kind.ExportNamespaceSpecifier (q ∷ o ∷ [])) ≡ nothing
        = out_step (P (cond there standing.Imported standing.Reference) n) _ _ (outs-Tree kind.ExportNamespaceSpecifier (q ∷ o ∷ []))
        ∙ ap (λ x. both x (both (S (P standing.Exported n) o) nothing)) (of_leaf (P standing.Plain n) content.Span q refl f.0) ∙ ap (λ x. both x nothing) (outer_name o standing.Exported n f.1.0 refl) in
        absurd (subst (λ (a : Sites). In (refers i env) a.sites) is h)

    at : (k : Kind) (ts : List Node) → IsTrue (belongs k class.ExportSpecifier) → FieldsFit (slots_of k) ts → Speaks (Tree k ts)
    at kind.ExportNamedSpecifier (q ∷ o ∷ e ∷ []) b f = named q o e f
    at kind.ExportNamedSpecifier [] b f = absurd f
    at kind.ExportNamedSpecifier (q ∷ []) b f = absurd f.1
    at kind.ExportNamedSpecifier (q ∷ o ∷ []) b f = absurd f.1.1
    at kind.ExportNamedSpecifier (q ∷ o ∷ e ∷ x ∷ ts) b f = absurd f.1.1.1
    at kind.ExportNamespaceSpecifier (q ∷ o ∷ []) b f = namespace q o f
    at kind.ExportNamespaceSpecifier [] b f = absurd f
    at kind.ExportNamespaceSpecifier (q ∷ []) b f = absurd f.1
    at kind.ExportNamespaceSpecifier (q ∷ o ∷ x ∷ ts) b f = absurd f.1.1
    at _ ts b f = absurd (true≢false (sym b))

-- ... of a list
all_speak : (us : List Node) → AllFit (one class.ExportSpecifier) us → (n there : Bool) (i : Ident) (env : List Entry) → In (refers i env) (all (P (cond there standing.Imported standing.Reference) n) us).sites → (there ≡ false) × In i (flat_map specified us)
all_speak [] f n there i env h = absurd h
all_speak (u ∷ us) f n there i env h = ⊎_elim
    (λ g. let (e, k) = speaks u f.0 n there i env g in (e, in_left i (specified u) (flat_map specified us) k))
    (λ g. let (e, k) = all_speak us f.1 n there i env g in (e, in_right i (specified u) (flat_map specified us) k))
    (in_cases (refers i env) (S (P (cond there standing.Imported standing.Reference) n) u).sites (all (P (cond there standing.Imported standing.Reference) n) us).sites h)

no_patterns : (n there : Bool) (us : List Node) → S (P (cond there standing.Imported standing.Reference) n) (Many us) ≡ all (P (cond there standing.Imported standing.Reference) n) us
no_patterns n true us = of_list (P standing.Imported n) us refl
no_patterns n false us = of_list (P standing.Reference n) us refl

absent_same : (y : Node-F Node) → not (absent_in y) ≡ false → is_absent_in y ≡ true
absent_same Node-F.Absent h = refl
absent_same _ h = absurd (cc)

-- ---- a list of a module

list_speaks : (a b s d : Node) → FieldsFit (slots_of kind.NamedExport) (a ∷ b ∷ s ∷ d ∷ []) → (below : Path) (w : Place) (k : Kind) (i : Ident) → place_at Top (Tree kind.NamedExport (a ∷ b ∷ s ∷ d ∷ [])) (1 ∷ below) ≡ Some (w, Identifier k i) → w.standing ≡ standing.Reference
    → In i (listed (Tree kind.NamedExport (a ∷ b ∷ s ∷ d ∷ [])))
list_speaks a b s d f below w k i h r =
    let there = is_there (Some s) in
    let l = as_list b (content.Node class.ExportSpecifier) f.1.0 in
    let place : place_at (P (cond (is_there (Some s)) standing.Imported standing.Reference) false) b below ≡ Some (w, Identifier k i)
    = ap (λ v. place_at v b below) (sym (ap (λ y. place_in Top y 1) (outs-Tree kind.NamedExport (a ∷ b ∷ s ∷ d ∷ []))))
    ∙ sym (place_under Top (Tree kind.NamedExport (a ∷ b ∷ s ∷ d ∷ [])) b 1 below (ap (λ y. slice_get (children_in y) 1) (outs-Tree kind.NamedExport (a ∷ b ∷ s ∷ d ∷ [])))) ∙ h in
    let found = (finds b (P (cond (is_there (Some s)) standing.Imported standing.Reference) false) (refers i (env_at (P (cond (is_there (Some s)) standing.Imported standing.Reference) false) b below))).1
    (record { path = below; place = w; kind = k; stands = place; stands_so = ap counted r; names = ap is_name r; env = refl }) in
    let (none, own) = all_speak l.items l.fit false (is_there (Some s)) i (env_at (P (cond (is_there (Some s)) standing.Imported standing.Reference) false) b below)
    (subst (λ (a : Sites). In (refers i (env_at (P (cond (is_there (Some s)) standing.Imported standing.Reference) false) b below)) a.sites) (ap (S (P (cond (is_there (Some s)) standing.Imported standing.Reference) false)) l.is ∙ no_patterns false (is_there (Some s)) l.items) found) in
    subst (In i) (sym (listed_tree kind.NamedExport (a ∷ b ∷ s ∷ d ∷ []) ∙ ap (λ z. cond z (flat_map specified (items_of b)) []) (absent_same (out-Node s) none)))
    (subst (λ us. In i (flat_map specified us)) (sym (ap items_of l.is ∙ items_of_list l.items)) own)

abbrev Listed : Node → Node → Type 0
Listed t c = (below : Path) (w : Place) (k : Kind) (i : Ident) → place_at Top c (1 ∷ below) ≡ Some (w, Identifier k i) → w.standing ≡ standing.Reference → In i (listed c)

item_speaks : (c : Node) (ts : List Node) → Fits c (one class.ModuleItem) → c ≡ Tree kind.NamedExport ts → Listed c c
item_speaks c ts f is = subst (λ c. Listed c c) (sym is) (at ts (stands kind.NamedExport ts (one class.ModuleItem) (subst (λ c. Fits c (one class.ModuleItem)) is f)).fields)
  where
    at : (ts : List Node) → FieldsFit (slots_of kind.NamedExport) ts → Listed (Tree kind.NamedExport ts) (Tree kind.NamedExport ts)
    at (a ∷ b ∷ s ∷ d ∷ []) f = list_speaks a b s d f
    at [] f = absurd f
    at (a ∷ []) f = absurd f.1
    at (a ∷ b ∷ []) f = absurd f.1.1
    at (a ∷ b ∷ c ∷ []) f = absurd f.1.1.1
    at (a ∷ b ∷ c ∷ d ∷ e ∷ ts) f = absurd f.1.1.1.1

in_flat : (ts : List Node) (n : ℕ) (c : Node) (i : Ident) → slice_get ts n ≡ Some c → In i (listed c) → In i (flat_map listed ts)
in_flat [] n c i e h = absurd (cc)
in_flat (t ∷ ts) zero c i e h = let same : t ≡ c = cc in in_left i (listed t) (flat_map listed ts) (subst (λ c. In i (listed c)) (sym same) h)
in_flat (t ∷ ts) (suc n) c i e h = in_right i (listed t) (flat_map listed ts) (in_flat ts n c i e h)

-- ---- modules

abbrev AreListed : Node → Type 0
AreListed t = ListsAreItems t → (p : Path) (w : Place) (k : Kind) (i : Ident) → InExportList t p → place_at program_place t p ≡ Some (w, Identifier k i) → w.standing ≡ standing.Reference → In i (exported_locals t)

module _ (x z : Node) (us : List Node) (f : FieldsFit (slots_of kind.Module) (x ∷ Many us ∷ z ∷ [])) (items : AllFit (one class.ModuleItem) us) where
  abbrev whole : Node
  whole = Tree kind.Module (x ∷ Many us ∷ z ∷ [])

  abbrev parts : List Node
  parts = x ∷ Many us ∷ z ∷ []

  child_is : (j : ℕ) → child whole j ≡ slice_get parts j
  child_is j = ap (λ y. slice_get (children_in y) j) (outs-Tree kind.Module parts)

  place_is : (j : ℕ) → place_below program_place whole j ≡ place_in program_place (Node-F.Tree kind.Module parts) j
  place_is j = ap (λ y. place_in program_place y j) (outs-Tree kind.Module parts)

  item_child : (n : ℕ) → child (Many us) n ≡ slice_get us n
  item_child n = ap (λ y. slice_get (children_in y) n) (outs-List us)

  item_place : (n : ℕ) → place_below Top (Many us) n ≡ Top
  item_place n = ap (λ y. place_in Top y n) (outs-List us)

  -- below the items
  in_items : (p : Path) → place_at program_place whole (1 ∷ p) ≡ place_at Top (Many us) p
  in_items p = place_under program_place whole (Many us) 1 p (child_is 1) ∙ ap (λ v. place_at v (Many us) p) (place_is 1)

  in_item : (n : ℕ) (c : Node) (p : Path) → slice_get us n ≡ Some c → place_at Top (Many us) (n ∷ p) ≡ place_at Top c p
  in_item n c p e = place_under Top (Many us) c n p (item_child n ∙ e) ∙ ap (λ v. place_at v c p) (item_place n)

  -- an export list is an item
  abbrev IsItem : Path → List Node → Type 0
  IsItem q ts = (n : ℕ) × (c : Node) × (q ≡ 1 ∷ n ∷ []) × (slice_get us n ≡ Some c) × (c ≡ Tree kind.NamedExport ts)

  item_at : (n : ℕ) (c : Node) (w : Place) (ts : List Node) → slice_get us n ≡ Some c → place_at Top c [] ≡ Some (w, Tree kind.NamedExport ts) → IsItem (1 ∷ n ∷ []) ts
  item_at n c w ts e h = (n, c, refl, e, ap (λ (q : Place × Node). q.1) (some_same (Top, c) (w, Tree kind.NamedExport ts) h))

  is_item : ListsAreItems whole → (q : Path) (w : Place) (ts : List Node) → place_at program_place whole q ≡ Some (w, Tree kind.NamedExport ts) → IsItem q ts
  is_item lists q w ts h = let (n, at) = lists q w ts h in subst (λ q. IsItem q ts) (sym at) (by n (slice_get us n) refl (sym (in_items (n ∷ [])) ∙ ap (place_at program_place whole) (sym at) ∙ h))
    where
      by : (n : ℕ) (o : Option Node) → slice_get us n ≡ o → place_at Top (Many us) (n ∷ []) ≡ Some (w, Tree kind.NamedExport ts) → IsItem (1 ∷ n ∷ []) ts
      by n None z g = let y = sym (no_place_under Top (Many us) n [] (item_child n ∙ z)) ∙ g in absurd (cc)
      by n (Some c) z g = item_at n c w ts z (sym (in_item n c [] z) ∙ g)

  are_listed : AreListed whole
  are_listed lists p w k i (q, below, j, v, l, ts, path, there, role_is) h r =
      let kind_is = export_kind l j role_is in
      let field_is = export_field j (ap (λ l. field_role l j) (sym kind_is) ∙ role_is) in
      let (n, c, at, e, is) = is_item lists q v ts (there ∙ ap (λ l. Some (v, Tree l ts)) kind_is) in
      let full : p ≡ 1 ∷ n ∷ 1 ∷ below = path ∙ ap (λ q. q ++ (j ∷ below)) at ∙ ap (λ j. 1 ∷ n ∷ j ∷ below) field_is in
      let inside : place_at Top c (1 ∷ below) ≡ Some (w, Identifier k i) = sym (in_items (n ∷ 1 ∷ below) ∙ in_item n c (1 ∷ below) e) ∙ ap (place_at program_place whole) (sym full) ∙ h in
      let own = item_speaks c ts (fit_at (one class.ModuleItem) us n c items e) is below w k i inside r in
      subst (In i) (sym (ap module_in (outs-Tree kind.Module parts) ∙ ap (flat_map listed) (items_of_list us))) (in_flat us n c i e own)

pub export_lists_are_listed : ExportListsAreListed
export_lists_are_listed = of_class class.Module AreListed (λ k i a b. absurd (no_name k a b)) at
  where
    no_name : (k : Kind) → IsTrue (is_identifier k) → IsTrue (belongs k class.Module) → ⊥
    no_name kind.Ident a b = absurd (cc)
    no_name kind.BindingIdent a b = absurd (cc)
    no_name _ a b = true≢false (sym a)

    at : (k : Kind) (ts : List Node) → IsTrue (belongs k class.Module) → FieldsFit (slots_of k) ts → AreListed (Tree k ts)
    at kind.Module [] b f = absurd f
    at kind.Module (x ∷ []) b f = absurd f.1
    at kind.Module (x ∷ y ∷ []) b f = absurd f.1.1
    at kind.Module (x ∷ y ∷ z ∷ v ∷ ts) b f = absurd f.1.1.1
    at kind.Module (x ∷ y ∷ z ∷ []) b f =
        let l = as_list y (content.Node class.ModuleItem) f.1.0 in
        subst (λ y. FieldsFit (slots_of kind.Module) (x ∷ y ∷ z ∷ []) → AreListed (Tree kind.Module (x ∷ y ∷ z ∷ []))) (sym l.is) (λ f. are_listed x z l.items f l.fit) f
    at _ ts b f = absurd (true≢false (sym b))
