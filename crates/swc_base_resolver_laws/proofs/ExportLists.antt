-- Round what an export list names there is the program alone, where no namespace stands: an export list is an item of the
-- module, and in it nothing opens a scope. In a script none stands.
use Rattle.std.proofs.Common.{◌≡◌, ℕ, zero, suc, Bool, true, false, not, ◌&&◌, ◌||◌, ◌==◌, IsTrue, Option, Some, None, List, [], ◌∷◌, ◌++◌, map, refl, sym, ap, ◌∙◌, subst}
use Rattle.std.specs.List.{list_all, slice_get}
use Rattle.std.specs.Prelude.{option_map, unwrap_or}
use Rattle.swc_tree_node.specs.declared.kind.Kind.{Kind}
use Rattle.swc_tree_node.specs.declared.kind.Kind.TheVariants as kind
use Rattle.swc_tree_node.specs.declared.kind.Class.TheVariants as class
use Rattle.swc_tree_node.specs.declared.slot.Content.{Content}
use Rattle.swc_tree_node.specs.declared.slot.Content.TheVariants as content
use Rattle.swc_tree_node.specs.declared.slot.Slot.{Slot}
use Rattle.swc_tree_node.specs.declared.slot.Slot.TheVariants as slot
use Rattle.swc_tree_node.specs.declared.slot.Role.{Role}
use Rattle.swc_tree_node.specs.declared.slot.Role.TheVariants as role
use Rattle.swc_tree_node.specs.declared.node.Node.{Node, Tree, out-Node}
use Rattle.swc_tree_node.specs.declared.node.Node.TheOpen.{Node-F}
use Rattle.swc_tree_node.specs.declared.node.Node.TheVariants.{outs-Tree}
use Rattle.swc_tree_node.specs.Table.{fields_of, kind_number, kinds_of, slots_of}
use Rattle.swc_tree_node.specs.Fits.{Fits, fits}
use Rattle.swc_tree_node.proofs.Fit.{both, fields_open, list_opens, tree_opens}
use Rattle.swc_tree_scoping.specs.declared.places.Place.{Place}
use Rattle.swc_tree_scoping.specs.declared.places.Scope.{Scope}
use Rattle.swc_tree_scoping.specs.declared.places.Scope.TheVariants as scope
use Rattle.swc_tree_scoping.specs.declared.places.View.{View}
use Rattle.swc_tree_scoping.specs.Places.{Path, children_in, child, field_role, opened, opened_as, opened_in, place_below, place_at, program_place}
use Rattle.swc_tree_scoping.specs.Scopes.{rounds, seen_as, view_in}
use Rattle.swc_tree_scoping.specs.WellScoped.{InExportList}
use Rattle.swc_tree_scoping.proofs.Remarked.{list_is, tree_is}
use Rattle.swc_tree_scoping.proofs.Under.{lower, no_place_under, no_rounds_under, place_under, rounds_under}
use Rattle.swc_tree_spaces.specs.NoTypes.{ListsAreItems, NoNamespaces}
use Rattle.swc_tree_renaming.specs.Apart.{is_goal}
use Rattle.swc_tree_renaming.proofs.Global.{fits_module, fits_script}
use Rattle.swc_tree_renaming.proofs.Whole.{module_layer, script_layer}
use Rattle.swc_base_resolver_laws.specs.Laws.{ListsAreItemsWithoutNamespaces}
use Rattle.swc_base_resolver_laws.proofs.Same.{impossible, some_same}
use Rattle.swc_base_resolver_laws.proofs.Fitting.{all_at, all_true, among, child_passes, field_at, item_at, kind_passes, layer_fits, module_fields, of_tree, passes}

-- ---- kinds that stand in an export list: none opens a scope

abbrev listed : ℕ → Bool
listed n = n == kind_number kind.ExportNamespaceSpecifier || (n == kind_number kind.ExportNamedSpecifier || (n == kind_number kind.Ident || n == kind_number kind.Str))

listed_rows : (k : Kind) → listed (kind_number k) ≡ true → list_all (passes listed) (slots_of k) ≡ true
listed_rows kind.ExportNamespaceSpecifier h = refl
listed_rows kind.ExportNamedSpecifier h = refl
listed_rows kind.Ident h = refl
listed_rows kind.Str h = refl
listed_rows _ h = impossible h

listed_opens : (w : Place) (k : Kind) (b : Bool) → listed (kind_number k) ≡ true → opened_as w k b ≡ None
listed_opens w kind.ExportNamespaceSpecifier b h = refl
listed_opens w kind.ExportNamedSpecifier b h = refl
listed_opens w kind.Ident b h = refl
listed_opens w kind.Str b h = refl
listed_opens w _ b h = impossible h

nothing_seen : (o : Option Scope) (v : View) → o ≡ None → seen_as o v ≡ []
nothing_seen o v e = ap (λ o. seen_as o v) e

listed_node : (w : Place) (t : Node) (s : Slot) (y : Node-F Node) → out-Node t ≡ y → Fits t s → passes listed s ≡ true → opened w t ≡ None
listed_node w t s (Node-F.Tree k ts) o f h = ap (opened_in w) o ∙ listed_opens w k _ (kind_passes listed listed_rows t k ts s o f h)
listed_node w t s Node-F.Absent o f h = ap (opened_in w) o
listed_node w t s _ o f h = ap (opened_in w) o

-- of rounds below a node that opens no scope
rounds_through : (w : Place) (t c : Node) (i : ℕ) (p : Path) → child t i ≡ Some c → opened w t ≡ None → rounds (place_below w t i) c p ≡ [] → rounds w t (i ∷ p) ≡ []
rounds_through w t c i p h o e = rounds_under w t c i p h ∙ ap (λ l. map (lower i) l ++ seen_as (opened w t) (view_in (out-Node t) i)) e ∙ nothing_seen (opened w t) (view_in (out-Node t) i) o

no_rounds_through : (w : Place) (t : Node) (i : ℕ) (p : Path) → child t i ≡ None → opened w t ≡ None → rounds w t (i ∷ p) ≡ []
no_rounds_through w t i p h o = no_rounds_under w t i p h ∙ nothing_seen (opened w t) (view_in (out-Node t) i) o

listed_rounds : (p : Path) (w : Place) (t : Node) (s : Slot) → Fits t s → passes listed s ≡ true → rounds w t p ≡ []
listed_rounds [] w t s f h = refl
listed_rounds (i ∷ p) w t s f h = at (child t i) refl (λ x c u g z. listed_rounds p x c u g z)
  where
    at : (o : Option Node) → child t i ≡ o → ((x : Place) (c : Node) (u : Slot) → Fits c u → passes listed u ≡ true → rounds x c p ≡ []) → rounds w t (i ∷ p) ≡ []
    at None o below = no_rounds_through w t i p o (listed_node w t s (out-Node t) refl f h)
    at (Some c) o below =
        let (u, g, z) = child_passes listed listed_rows t c i s (out-Node t) refl f h o in
        rounds_through w t c i p o (listed_node w t s (out-Node t) refl f h) (below (place_below w t i) c u g z)

-- ---- where no namespace stands, a module's items alone are export lists

abbrev inner : ℕ → Bool
inner n = not (n == kind_number kind.Module) && not (n == kind_number kind.NamedExport)

left : (a b : Bool) → (a && b) ≡ true → a ≡ true
left true b h = refl
left false b h = h

-- no namespace stands in a tree that stands in a place
abbrev NoneAt : Place → Node → Type 0
NoneAt w t = (q : Path) (v : Place) (ts : List Node) → place_at w t q ≡ Some (v, Tree kind.TsModuleDecl ts) → ⊥

none_below : (w : Place) (t c : Node) (i : ℕ) → child t i ≡ Some c → NoneAt w t → NoneAt (place_below w t i) c
none_below w t c i o n q v ts e = n (i ∷ q) v ts (place_under w t c i q o ∙ e)

-- each node but a module and a namespace takes no export lists
inner_fields : (w : Place) (t : Node) (k : Kind) (ts : List Node) → out-Node t ≡ Node-F.Tree k ts → NoneAt w t → not (kind_number k == kind_number kind.Module) ≡ true → list_all (passes inner) (slots_of k) ≡ true
inner_fields w t kind.Module ts o n h = impossible h
inner_fields w t kind.TsModuleDecl ts o n h = absurd (n [] w ts (ap (λ z. Some (w, z)) (tree_is t kind.TsModuleDecl ts o)))
inner_fields w t _ ts o n h = refl

inner_kind : (t : Node) (k : Kind) (ts : List Node) (s : Slot) → out-Node t ≡ Node-F.Tree k ts → Fits t s → passes inner s ≡ true → inner (kind_number k) ≡ true
inner_kind t k ts s o f h =
    let (c, content, belong, fields) = of_tree k (map fits ts) s (layer_fits t (Node-F.Tree k ts) s o f) in
    among inner (kind_number k) (kinds_of c) belong (sym (content inner) ∙ h)

-- a child of what takes no export lists takes none
inner_child : (w : Place) (t c : Node) (i : ℕ) (s : Slot) (y : Node-F Node) → out-Node t ≡ y → Fits t s → passes inner s ≡ true → NoneAt w t → child t i ≡ Some c → (u : Slot) × Fits c u × (passes inner u ≡ true)
inner_child w t c i s (Node-F.List ts) o f h n e = item_at inner s ts i c (layer_fits t (Node-F.List ts) s o f) h (sym (ap (λ y. slice_get (children_in y) i) o) ∙ e)
inner_child w t c i s (Node-F.Tree k ts) o f h n e =
    let (cl, content, belong, fields) = of_tree k (map fits ts) s (layer_fits t (Node-F.Tree k ts) s o f) in
    let (u, there, g) = field_at (slots_of k) ts i c (fields_open (slots_of k) ts fields) (sym (ap (λ y. slice_get (children_in y) i) o) ∙ e) in
    let no_module = left (not (kind_number k == kind_number kind.Module)) (not (kind_number k == kind_number kind.NamedExport)) (inner_kind t k ts s o f h) in
    (u, g, all_true (passes inner) (slots_of k) i u (inner_fields w t k ts o n no_module) there)
inner_child w t c i s Node-F.Absent o f h n e = let z : Some c ≡ None = sym e ∙ ap (λ y. slice_get (children_in y) i) o in absurd (cc)
inner_child w t c i s (Node-F.Flag x) o f h n e = let z : Some c ≡ None = sym e ∙ ap (λ y. slice_get (children_in y) i) o in absurd (cc)
inner_child w t c i s (Node-F.Word x) o f h n e = let z : Some c ≡ None = sym e ∙ ap (λ y. slice_get (children_in y) i) o in absurd (cc)
inner_child w t c i s (Node-F.Text x) o f h n e = let z : Some c ≡ None = sym e ∙ ap (λ y. slice_get (children_in y) i) o in absurd (cc)
inner_child w t c i s (Node-F.Span x) o f h n e = let z : Some c ≡ None = sym e ∙ ap (λ y. slice_get (children_in y) i) o in absurd (cc)
inner_child w t c i s (Node-F.Identifier k x) o f h n e = let z : Some c ≡ None = sym e ∙ ap (λ y. slice_get (children_in y) i) o in absurd (cc)

none_inside : (q : Path) (w v : Place) (t : Node) (ts : List Node) (s : Slot) → Fits t s → passes inner s ≡ true → NoneAt w t → place_at w t q ≡ Some (v, Tree kind.NamedExport ts) → ⊥
none_inside [] w v t ts s f h n e =
    let is : t ≡ Tree kind.NamedExport ts = ap (λ (z : Place × Node). z.1) (some_same (w, t) (v, Tree kind.NamedExport ts) e) in
    impossible (inner_kind t kind.NamedExport ts s (ap out-Node is ∙ outs-Tree kind.NamedExport ts) f h)
none_inside (i ∷ q) w v t ts s f h n e = at (child t i) refl (λ x c u g z m. none_inside q x v c ts u g z m)
  where
    at : (o : Option Node) → child t i ≡ o → ((x : Place) (c : Node) (u : Slot) → Fits c u → passes inner u ≡ true → NoneAt x c → place_at x c q ≡ Some (v, Tree kind.NamedExport ts) → ⊥) → ⊥
    at None o below = let z : ◌≡◌ {A = Option (Place × Node)} (Some (v, Tree kind.NamedExport ts)) None = sym e ∙ no_place_under w t i q o in absurd (cc)
    at (Some c) o below =
        let (u, g, z) = inner_child w t c i s (out-Node t) refl f h n o in
        below (place_below w t i) c u g z (none_below w t c i o n) (sym (place_under w t c i q o) ∙ e)

-- what has children is a tree, where one node is to stand, and a list, where a list is
only_trees : (t c : Node) (i : ℕ) (x : Content) (y : Node-F Node) → out-Node t ≡ y → Fits t (slot.One x) → child t i ≡ Some c → (k : Kind) × (ts : List Node) × (out-Node t ≡ Node-F.Tree k ts)
only_trees t c i x (Node-F.Tree k ts) o f e = (k, ts, o)
only_trees t c i x (Node-F.List ts) o f e = impossible (layer_fits t (Node-F.List ts) (slot.One x) o f)
only_trees t c i x Node-F.Absent o f e = impossible (layer_fits t Node-F.Absent (slot.One x) o f)
only_trees t c i x (Node-F.Flag z) o f e = let z : Some c ≡ None = sym e ∙ ap (λ y. slice_get (children_in y) i) o in absurd (cc)
only_trees t c i x (Node-F.Word z) o f e = let z : Some c ≡ None = sym e ∙ ap (λ y. slice_get (children_in y) i) o in absurd (cc)
only_trees t c i x (Node-F.Text z) o f e = let z : Some c ≡ None = sym e ∙ ap (λ y. slice_get (children_in y) i) o in absurd (cc)
only_trees t c i x (Node-F.Span z) o f e = let z : Some c ≡ None = sym e ∙ ap (λ y. slice_get (children_in y) i) o in absurd (cc)
only_trees t c i x (Node-F.Identifier k z) o f e = let z : Some c ≡ None = sym e ∙ ap (λ y. slice_get (children_in y) i) o in absurd (cc)

only_lists : (t : Node) (x : Content) (y : Node-F Node) → out-Node t ≡ y → Fits t (slot.List x) → (ts : List Node) × (out-Node t ≡ Node-F.List ts)
only_lists t x (Node-F.List ts) o f = (ts, o)
only_lists t x (Node-F.Tree k ts) o f = impossible (layer_fits t (Node-F.Tree k ts) (slot.List x) o f)
only_lists t x (Node-F.Identifier k i) o f = impossible (layer_fits t (Node-F.Identifier k i) (slot.List x) o f)
only_lists t x Node-F.Absent o f = impossible (layer_fits t Node-F.Absent (slot.List x) o f)
only_lists t x (Node-F.Flag z) o f = impossible (layer_fits t (Node-F.Flag z) (slot.List x) o f)
only_lists t x (Node-F.Word z) o f = impossible (layer_fits t (Node-F.Word z) (slot.List x) o f)
only_lists t x (Node-F.Text z) o f = impossible (layer_fits t (Node-F.Text z) (slot.List x) o f)
only_lists t x (Node-F.Span z) o f = impossible (layer_fits t (Node-F.Span z) (slot.List x) o f)

abbrev Item : Slot
Item = slot.One (content.Node class.ModuleItem)

abbrev Items : Slot
Items = slot.List (content.Node class.ModuleItem)

abbrev Script : Slot
Script = slot.One (content.Node class.Script)

abbrev Statement : Slot
Statement = slot.One (content.Node class.Stmt)

abbrev Statements : Slot
Statements = slot.List (content.Node class.Stmt)

-- an export list has none below it, nor has another item
none_in_item : (q : Path) (j : ℕ) (w v : Place) (e : Node) (ts : List Node) → Fits e Item → NoneAt w e → place_at w e (j ∷ q) ≡ Some (v, Tree kind.NamedExport ts) → ⊥
none_in_item q j w v e ts f n h = at (child e j) refl
  where
    at : (o : Option Node) → child e j ≡ o → ⊥
    at None o = let z : ◌≡◌ {A = Option (Place × Node)} (Some (v, Tree kind.NamedExport ts)) None = sym h ∙ no_place_under w e j q o in absurd (cc)
    at (Some c) o =
        let (k, us, is) = only_trees e c j (content.Node class.ModuleItem) (out-Node e) refl f o in
        let (ident, belong, fields) = tree_opens k us class.ModuleItem (subst (λ e. Fits e Item) (tree_is e k us is) f) in
        let (u, there, g) = field_at (slots_of k) us j c fields (sym (ap (λ y. slice_get (children_in y) j) is) ∙ o) in
        let no_module = among (λ n. not (n == kind_number kind.Module)) (kind_number k) (kinds_of class.ModuleItem) belong refl in
        none_inside q (place_below w e j) v c ts u g (all_true (passes inner) (slots_of k) j u (inner_fields w e k us is n no_module) there) (none_below w e c j o n) (sym (place_under w e c j q o) ∙ h)

-- an export list among items is one of them
list_is_item : (q : Path) (w v : Place) (b : Node) (ts : List Node) → Fits b Items → NoneAt w b → place_at w b q ≡ Some (v, Tree kind.NamedExport ts) → (n : ℕ) × (q ≡ n ∷ [])
list_is_item [] w v b ts f n h =
    let is : b ≡ Tree kind.NamedExport ts = ap (λ (z : Place × Node). z.1) (some_same (w, b) (v, Tree kind.NamedExport ts) h) in
    impossible (layer_fits b (Node-F.Tree kind.NamedExport ts) Items (ap out-Node is ∙ outs-Tree kind.NamedExport ts) f)
list_is_item (j ∷ q) w v b ts f n h = at (child b j) refl
  where
    at : (o : Option Node) → child b j ≡ o → (n : ℕ) × (j ∷ q ≡ n ∷ [])
    at None o = let z : ◌≡◌ {A = Option (Place × Node)} (Some (v, Tree kind.NamedExport ts)) None = sym h ∙ no_place_under w b j q o in absurd (cc)
    at (Some e) o =
        let (is, l) = only_lists b (content.Node class.ModuleItem) (out-Node b) refl f in
        let one = all_at Item is j e (list_opens is (content.Node class.ModuleItem) (subst (λ b. Fits b Items) (list_is b is l) f)) (sym (ap (λ y. slice_get (children_in y) j) l) ∙ o) in
        item q one (sym (place_under w b e j q o) ∙ h)
      where
        item : (q : Path) → Fits e Item → place_at (place_below w b j) e q ≡ Some (v, Tree kind.NamedExport ts) → (n : ℕ) × (j ∷ q ≡ n ∷ [])
        item [] one h = (j, refl)
        item (l ∷ q) one h = absurd (none_in_item q l (place_below w b j) v e ts one (none_below w b e j o n) h)

-- each export list of a module without namespaces is one of its items
module_lists : (t : Node) → Fits t (slot.One (content.Node class.Module)) → NoNamespaces t → ListsAreItems t
module_lists t f n [] v ts h =
    let is : t ≡ Tree kind.NamedExport ts = ap (λ (z : Place × Node). z.1) (some_same (program_place, t) (v, Tree kind.NamedExport ts) h) in
    let (us, o) = module_layer t (fits_module t f) in
    let e : Node-F.Tree kind.NamedExport ts ≡ Node-F.Tree kind.Module us = sym (outs-Tree kind.NamedExport ts) ∙ ap out-Node (sym is) ∙ o in
    absurd (cc)
module_lists t f n (i ∷ q) v ts h = at (child t i) refl
  where
    at : (o : Option Node) → child t i ≡ o → (n : ℕ) × (i ∷ q ≡ 1 ∷ n ∷ [])
    at None o = let z : ◌≡◌ {A = Option (Place × Node)} (Some (v, Tree kind.NamedExport ts)) None = sym h ∙ no_place_under program_place t i q o in absurd (cc)
    at (Some b) o =
        let (us, is) = module_layer t (fits_module t f) in
        let (u, there, g) = field_at (slots_of kind.Module) us i b (module_fields t us is f) (sym (ap (λ y. slice_get (children_in y) i) is) ∙ o) in
        field i u there g (place_below program_place t i) (none_below program_place t b i o n) (sym (place_under program_place t b i q o) ∙ h)
      where
        field : (i : ℕ) (u : Slot) → slice_get (slots_of kind.Module) i ≡ Some u → Fits b u → (w : Place) → NoneAt w b → place_at w b q ≡ Some (v, Tree kind.NamedExport ts) → (n : ℕ) × (i ∷ q ≡ 1 ∷ n ∷ [])
        field zero u there g w m h = absurd (none_inside q w v b ts u g (ap (passes inner) (sym (some_same (slot.One content.Span) u there))) m h)
        field (suc zero) u there g w m h = let (n, e) = list_is_item q w v b ts (subst (λ u. Fits b u) (sym (some_same Items u there)) g) m h in (n, ap (λ q. 1 ∷ q) e)
        field (suc (suc zero)) u there g w m h = absurd (none_inside q w v b ts u g (ap (passes inner) (sym (some_same (slot.Optional content.Text) u there))) m h)
        field (suc (suc (suc i))) u there g w m h = absurd (cc)

-- no export list stands in a script without namespaces
none_in_script : (t : Node) (q : Path) (v : Place) (ts : List Node) → Fits t Script → NoNamespaces t → place_at program_place t q ≡ Some (v, Tree kind.NamedExport ts) → ⊥
none_in_script t q v ts f n h = none_inside q program_place v t ts Script f refl n h

pub lists_are_items : ListsAreItemsWithoutNamespaces
lists_are_items (slot.One (content.Node class.Module)) t g f n = module_lists t f n
lists_are_items (slot.One (content.Node class.Script)) t g f n = λ q v ts h. absurd (none_in_script t q v ts f n h)
lists_are_items _ t g f n = impossible g

-- ... nor is one an item of any script
no_script_item : (t : Node) (n : ℕ) (v : Place) (ts : List Node) → Fits t Script → place_at program_place t (1 ∷ n ∷ []) ≡ Some (v, Tree kind.NamedExport ts) → ⊥
no_script_item t n v ts f h = at (child t 1) refl
  where
    at : (o : Option Node) → child t 1 ≡ o → ⊥
    at None o = let z : ◌≡◌ {A = Option (Place × Node)} (Some (v, Tree kind.NamedExport ts)) None = sym h ∙ no_place_under program_place t 1 (n ∷ []) o in absurd (cc)
    at (Some b) o =
        let (us, is) = script_layer t (fits_script t f) in
        let (ident, belong, fields) = tree_opens kind.Script us class.Script (subst (λ t. Fits t Script) (tree_is t kind.Script us is) f) in
        let (u, there, g) = field_at (slots_of kind.Script) us 1 b fields (sym (ap (λ y. slice_get (children_in y) 1) is) ∙ o) in
        item (child b n) refl (subst (λ u. Fits b u) (sym (some_same Statements u there)) g) (sym (place_under program_place t b 1 (n ∷ []) o) ∙ h)
      where
        item : (e : Option Node) → child b n ≡ e → Fits b Statements → place_at (place_below program_place t 1) b (n ∷ []) ≡ Some (v, Tree kind.NamedExport ts) → ⊥
        item None e g h = let z : ◌≡◌ {A = Option (Place × Node)} (Some (v, Tree kind.NamedExport ts)) None = sym h ∙ no_place_under (place_below program_place t 1) b n [] e in absurd (cc)
        item (Some c) e g h =
            let (is, l) = only_lists b (content.Node class.Stmt) (out-Node b) refl g in
            let one = all_at Statement is n c (list_opens is (content.Node class.Stmt) (subst (λ b. Fits b Statements) (list_is b is l) g)) (sym (ap (λ y. slice_get (children_in y) n) l) ∙ e) in
            let same : c ≡ Tree kind.NamedExport ts = ap (λ (z : Place × Node). z.1) (some_same (place_below (place_below program_place t 1) b n, c) (v, Tree kind.NamedExport ts) (sym (place_under (place_below program_place t 1) b c n [] e) ∙ h)) in
            impossible (inner_kind c kind.NamedExport ts Statement (ap out-Node same ∙ outs-Tree kind.NamedExport ts) one refl)

-- nothing but the program stands round what an export list names
item_rounds : (w : Place) (e : Node) (ts : List Node) (p : Path) → out-Node e ≡ Node-F.Tree kind.NamedExport ts → Fits e Item → rounds w e (1 ∷ p) ≡ []
item_rounds w e ts p is f = at (child e 1) refl
  where
    at : (o : Option Node) → child e 1 ≡ o → rounds w e (1 ∷ p) ≡ []
    at None o = no_rounds_through w e 1 p o (ap (opened_in w) is)
    at (Some c) o =
        let (ident, belong, fields) = tree_opens kind.NamedExport ts class.ModuleItem (subst (λ e. Fits e Item) (tree_is e kind.NamedExport ts is) f) in
        let (u, there, g) = field_at (slots_of kind.NamedExport) ts 1 c fields (sym (ap (λ y. slice_get (children_in y) 1) is) ∙ o) in
        rounds_through w e c 1 p o (ap (opened_in w) is) (listed_rounds p (place_below w e 1) c u g (all_true (passes listed) (slots_of kind.NamedExport) 1 u refl there))

items_rounds : (n : ℕ) (p : Path) (w v : Place) (b : Node) (ts : List Node) → Fits b Items → place_at w b (n ∷ []) ≡ Some (v, Tree kind.NamedExport ts) → rounds w b (n ∷ 1 ∷ p) ≡ []
items_rounds n p w v b ts f h = at (child b n) refl
  where
    at : (o : Option Node) → child b n ≡ o → rounds w b (n ∷ 1 ∷ p) ≡ []
    at None o = let z : ◌≡◌ {A = Option (Place × Node)} (Some (v, Tree kind.NamedExport ts)) None = sym h ∙ no_place_under w b n [] o in absurd (cc)
    at (Some e) o =
        let (is, l) = only_lists b (content.Node class.ModuleItem) (out-Node b) refl f in
        let one = all_at Item is n e (list_opens is (content.Node class.ModuleItem) (subst (λ b. Fits b Items) (list_is b is l) f)) (sym (ap (λ y. slice_get (children_in y) n) l) ∙ o) in
        let same : e ≡ Tree kind.NamedExport ts = ap (λ (z : Place × Node). z.1) (some_same (place_below w b n, e) (v, Tree kind.NamedExport ts) (sym (place_under w b e n [] o) ∙ h)) in
        rounds_through w b e n (1 ∷ p) o (ap (opened_in w) l) (item_rounds (place_below w b n) e ts p (ap out-Node same ∙ outs-Tree kind.NamedExport ts) one)

module_rounds : (t : Node) (n : ℕ) (p : Path) (v : Place) (ts : List Node) → Fits t (slot.One (content.Node class.Module)) → place_at program_place t (1 ∷ n ∷ []) ≡ Some (v, Tree kind.NamedExport ts)
    → rounds program_place t (1 ∷ n ∷ 1 ∷ p) ≡ ([], true) ∷ []
module_rounds t n p v ts f h = at (child t 1) refl
  where
    at : (o : Option Node) → child t 1 ≡ o → rounds program_place t (1 ∷ n ∷ 1 ∷ p) ≡ ([], true) ∷ []
    at None o = let z : ◌≡◌ {A = Option (Place × Node)} (Some (v, Tree kind.NamedExport ts)) None = sym h ∙ no_place_under program_place t 1 (n ∷ []) o in absurd (cc)
    at (Some b) o =
        let (us, is) = module_layer t (fits_module t f) in
        let (u, there, g) = field_at (slots_of kind.Module) us 1 b (module_fields t us is f) (sym (ap (λ y. slice_get (children_in y) 1) is) ∙ o) in
        let none = items_rounds n p (place_below program_place t 1) v b ts (subst (λ u. Fits b u) (sym (some_same Items u there)) g) (sym (place_under program_place t b 1 (n ∷ []) o) ∙ h) in
        rounds_under program_place t b 1 (n ∷ 1 ∷ p) o ∙ ap (λ l. map (lower 1) l ++ seen_as (opened program_place t) (view_in (out-Node t) 1)) none
        ∙ ap (λ o. seen_as o (view_in (out-Node t) 1)) (ap (opened_in program_place) is) ∙ ap (λ y. seen_as (Some scope.Program) (view_in y 1)) is

-- the field of an export list
abbrev not_local : Role → Bool
not_local role.ExportLocal = false
not_local _ = true

abbrev Row : Type 0
Row = List ℕ × Slot × Role

local_role : (fs : List Row) (i : ℕ) → list_all (λ (f : Row). not_local f.2) fs ≡ true → unwrap_or (option_map (λ (f : Row). f.2) (slice_get fs i)) role.Plain ≡ role.ExportLocal → ⊥
local_role [] i h e = absurd (cc)
local_role (f ∷ fs) zero h e = impossible (sym (ap not_local e) ∙ left (not_local f.2) (list_all (λ (f : Row). not_local f.2) fs) h)
local_role (f ∷ fs) (suc i) h e = local_role fs i (both (not_local f.2) (list_all (λ (f : Row). not_local f.2) fs) h).1 e

local_field : (k : Kind) (i : ℕ) → field_role k i ≡ role.ExportLocal → (k ≡ kind.NamedExport) × (i ≡ 1)
local_field kind.NamedExport zero h = absurd (cc)
local_field kind.NamedExport (suc zero) h = (refl, refl)
local_field kind.NamedExport (suc (suc zero)) h = absurd (cc)
local_field kind.NamedExport (suc (suc (suc zero))) h = absurd (cc)
local_field kind.NamedExport (suc (suc (suc (suc i)))) h = absurd (cc)
local_field k i h = absurd (local_role (fields_of k) i refl h)

-- what an export list names, by the list's path
named_in : (t : Node) (p : Path) → InExportList t p → (q r : Path) × (w : Place) × (ts : List Node) × (p ≡ q ++ (1 ∷ r)) × (place_at program_place t q ≡ Some (w, Tree kind.NamedExport ts))
named_in t p (q, r, i, w, k, ts, e, h, l) = let (is, one) = local_field k i l in (q, r, w, ts, e ∙ ap (λ i. q ++ (i ∷ r)) one, h ∙ ap (λ k. Some (w, Tree k ts)) is)

pub no_list_in_scripts : (t : Node) (p : Path) → Fits t Script → NoNamespaces t → InExportList t p → ⊥
no_list_in_scripts t p f n listed = let (q, r, w, ts, e, there) = named_in t p listed in none_in_script t q w ts f n there

pub export_rounds : (goal : Slot) (t : Node) (p : Path) → IsTrue (is_goal goal) → Fits t goal → ListsAreItems t → InExportList t p → rounds program_place t p ≡ ([], true) ∷ []
export_rounds goal t p g f lists listed =
    let (q, r, w, ts, e, there) = named_in t p listed in
    let (n, at) = lists q w ts there in
    ap (rounds program_place t) (e ∙ ap (λ q. q ++ (1 ∷ r)) at) ∙ by goal g f n r w ts (ap (place_at program_place t) (sym at) ∙ there)
  where
    by : (goal : Slot) → IsTrue (is_goal goal) → Fits t goal → (n : ℕ) (r : Path) (w : Place) (ts : List Node) → place_at program_place t (1 ∷ n ∷ []) ≡ Some (w, Tree kind.NamedExport ts)
        → rounds program_place t (1 ∷ n ∷ 1 ∷ r) ≡ ([], true) ∷ []
    by (slot.One (content.Node class.Module)) g f n r w ts h = module_rounds t n r w ts f h
    by (slot.One (content.Node class.Script)) g f n r w ts h = absurd (no_script_item t n w ts f h)
    by _ g f n r w ts h = impossible g
