-- What an item of a module exports, once it is stripped or written out.
use Rattle.std.proofs.Common.{◌≡◌, Bool, true, false, IsTrue, List, [], ◌∷◌, ◌++◌, map, refl, sym, ap, ◌∙◌, subst, cond, rules, true≢false}
use Rattle.std.specs.List.{flat_map, list_all}
use Rattle.swc_tree_marks.specs.declared.ident.Ident.{Ident}
use Rattle.swc_tree_node.specs.declared.kind.Kind.{Kind}
use Rattle.swc_tree_node.specs.declared.kind.Kind.TheVariants as kind
use Rattle.swc_tree_node.specs.declared.kind.Class.{Class}
use Rattle.swc_tree_node.specs.declared.kind.Class.TheVariants as class
use Rattle.swc_tree_node.specs.declared.slot.Content.TheVariants as content
use Rattle.swc_tree_node.specs.declared.slot.Slot.{Slot}
use Rattle.swc_tree_node.specs.declared.slot.Slot.TheVariants as slot
use Rattle.swc_tree_node.specs.declared.node.Node.{Node, Identifier, Tree, out-Node, the_lemmas}
use Rattle.swc_tree_node.specs.declared.node.Node.TheOpen.{Node-F}
use Rattle.swc_tree_node.specs.declared.node.Node.TheVariants.{outs-Tree, rolls-Tree}
use Rattle.swc_tree_node.specs.Table.{is_identifier, slots_of}
use Rattle.swc_tree_node.specs.Fits.{AllFit, FieldsFit, Fits, belongs}
use Rattle.swc_tree_node.proofs.Fit.{both as both_are, fits-Absent, fits-Flag, fits-Word, fits-Text, fits-Span, fits-List, fits-Identifier, tree_opens}
use Rattle.swc_tree_grammar.specs.Levels.{is_absent, is_absent_in}
use Rattle.swc_tree_grammar.specs.Normal.{again, specifier, specifier_in as written_specifier_in, written_out}
use Rattle.swc_tree_grammar.specs.Shapes.{items_of}
use Rattle.swc_tree_grammar.specs.Stripped.{stripped}
use Rattle.swc_tree_grammar.specs.Targets.{all_bare, bare_in, seen}
use Rattle.swc_tree_grammar.proofs.Induction.{by_children}
use Rattle.swc_tree_grammar.proofs.Items.{items_of_list, listed as as_list}
use Rattle.swc_tree_grammar.proofs.Places.{one}
use Rattle.swc_tree_grammar.proofs.Stripped.{stripped_of_list, stripped_other}
use Rattle.swc_tree_grammar.proofs.Walks.{bare_of_tree}
use Rattle.swc_tree_sites_laws.proofs.Stripping.{is_pair_kind, looks, tree_stays}
use Rattle.swc_tree_sites_written.proofs.Modules.{is_export, step_other}
use Rattle.swc_tree_sites_written.proofs.Written.{written_name, written_tree}
use Rattle.swc_tree_sites_kept.specs.Exported.{item_in, listed, name_in, specified, specifier_in}

-- of what stands where a class does: an identifier, or a tree of a kind in it
pub of_class : (c : Class) (P : Node → Type 0) → ((k : Kind) (i : Ident) → IsTrue (is_identifier k) → IsTrue (belongs k c) → P (Identifier k i)) → ((k : Kind) (ts : List Node) → IsTrue (belongs k c) → FieldsFit (slots_of k) ts → P (Tree k ts)) → (t : Node) → Fits t (one c) → P t
of_class c P names trees t = by_children (λ t. Fits t (one c) → P t) (
  λ f. absurd (cc (sym (fits-Absent (one c)) ∙ f)),
  λ x f. absurd (cc (sym (fits-Flag x (one c)) ∙ f)),
  λ v f. absurd (cc (sym (fits-Word v (one c)) ∙ f)),
  λ x f. absurd (cc (sym (fits-Text x (one c)) ∙ f)),
  λ r f. absurd (cc (sym (fits-Span r (one c)) ∙ f)),
  λ k i f. let z = both_are (is_identifier k) (belongs k c) (sym (fits-Identifier k i (one c)) ∙ f) in names k i z.0 z.1,
)
    (λ ts h f. absurd (cc (sym (fits-List ts (one c)) ∙ f)))
    (λ k ts h f. let z = tree_opens k ts c f in trees k ts z.1 z.2) t

pub bare_below : (k : Kind) (ts : List Node) → IsTrue (all_bare (Tree k ts)) → IsTrue (list_all all_bare ts)
bare_below k ts b = (both_are (bare_in (Node-F.Tree k (map seen ts))) (list_all all_bare ts) (sym (bare_of_tree k ts) ∙ b)).1

-- ---- names

name_of_tree : (k : Kind) (ts : List Node) → name_in (out-Node (Tree k ts)) ≡ []
name_of_tree k ts = ap name_in (outs-Tree k ts)

string_kind : (k : Kind) → IsTrue (belongs k class.ModuleExportName) → is_identifier k ≡ false → (is_pair_kind k ≡ false) × (is_export k ≡ false)
string_kind kind.Str b e = (refl, refl)
string_kind kind.Ident b e = absurd (cc)
string_kind _ b e = absurd (cc)

stripped_name : (o : Node) → Fits o (one class.ModuleExportName) → name_in (out-Node (stripped o)) ≡ name_in (out-Node o)
stripped_name = of_class class.ModuleExportName (λ o. name_in (out-Node (stripped o)) ≡ name_in (out-Node o))
    (λ k i a b. let same : stripped (Identifier k i) ≡ Identifier k i = search (rules, the_lemmas) in ap (λ t. name_in (out-Node t)) same)
    (λ k ts b f. at k ts b)
  where
    at : (k : Kind) (ts : List Node) → IsTrue (belongs k class.ModuleExportName) → name_in (out-Node (stripped (Tree k ts))) ≡ name_in (out-Node (Tree k ts))
    at kind.Str ts b = ap (λ t. name_in (out-Node t)) (stripped_other kind.Str ts refl) ∙ name_of_tree kind.Str (map stripped ts) ∙ sym (name_of_tree kind.Str ts)
    at kind.Ident ts b = let (us, is) = tree_stays kind.Ident ts refl in ap (λ t. name_in (out-Node t)) is ∙ name_of_tree kind.Ident us ∙ sym (name_of_tree kind.Ident ts)
    at _ ts b = absurd (true≢false (sym b))

written_one : (o : Node) → Fits o (one class.ModuleExportName) → name_in (out-Node (written_out o)) ≡ name_in (out-Node o)
written_one = of_class class.ModuleExportName (λ o. name_in (out-Node (written_out o)) ≡ name_in (out-Node o))
    (λ k i a b. ap (λ t. name_in (out-Node t)) (written_name k i))
    (λ k ts b f. at k ts b)
  where
    tree : (k : Kind) (ts : List Node) → is_export k ≡ false → name_in (out-Node (written_out (Tree k ts))) ≡ name_in (out-Node (Tree k ts))
    tree k ts e = let (l, us, is, unsplit) = step_other k (map written_out ts) e in ap (λ t. name_in (out-Node t)) (written_tree k ts ∙ is) ∙ name_of_tree l us ∙ sym (name_of_tree k ts)

    at : (k : Kind) (ts : List Node) → IsTrue (belongs k class.ModuleExportName) → name_in (out-Node (written_out (Tree k ts))) ≡ name_in (out-Node (Tree k ts))
    at kind.Str ts b = tree kind.Str ts refl
    at kind.Ident ts b = tree kind.Ident ts refl
    at _ ts b = absurd (true≢false (sym b))

-- ---- specifiers

no_named : (k : Kind) (i : Ident) (c : Class) → IsTrue (is_identifier k) → IsTrue (belongs k class.ExportSpecifier) → ⊥
no_named kind.Ident i c a b = absurd (cc)
no_named kind.BindingIdent i c a b = absurd (cc)
no_named _ i c a b = absurd (cc)

pub specified_tree : (k : Kind) (ts : List Node) → specified (Tree k ts) ≡ specifier_in (Node-F.Tree k ts)
specified_tree k ts = ap specifier_in (outs-Tree k ts)

abbrev StripsAlike : Node → Type 0
StripsAlike t = specified (stripped t) ≡ specified t

stripped_specifier : (t : Node) → Fits t (one class.ExportSpecifier) → StripsAlike t
stripped_specifier = of_class class.ExportSpecifier StripsAlike (λ k i a b. absurd (no_named k i class.ExportSpecifier a b)) at
  where
    at : (k : Kind) (ts : List Node) → IsTrue (belongs k class.ExportSpecifier) → FieldsFit (slots_of k) ts → StripsAlike (Tree k ts)
    at kind.ExportNamespaceSpecifier ts b f =
        ap specified (stripped_other kind.ExportNamespaceSpecifier ts refl) ∙ specified_tree kind.ExportNamespaceSpecifier (map stripped ts) ∙ sym (specified_tree kind.ExportNamespaceSpecifier ts)
    at kind.ExportNamedSpecifier (s ∷ o ∷ e ∷ []) b f =
        ap specified (stripped_other kind.ExportNamedSpecifier (s ∷ o ∷ e ∷ []) refl) ∙ specified_tree kind.ExportNamedSpecifier (stripped s ∷ stripped o ∷ stripped e ∷ []) ∙ stripped_name o f.1.0
        ∙ sym (specified_tree kind.ExportNamedSpecifier (s ∷ o ∷ e ∷ []))
    at kind.ExportNamedSpecifier [] b f = absurd f
    at kind.ExportNamedSpecifier (s ∷ []) b f = absurd f.1
    at kind.ExportNamedSpecifier (s ∷ o ∷ []) b f = absurd f.1.1
    at kind.ExportNamedSpecifier (s ∷ o ∷ e ∷ x ∷ ts) b f = absurd f.1.1.1
    at _ ts b f = absurd (true≢false (sym b))

abbrev pub WritesAlike : Node → Type 0
WritesAlike t = specified (specifier (written_out t)) ≡ specified t

pub written_specifier : (t : Node) → Fits t (one class.ExportSpecifier) → WritesAlike t
written_specifier = of_class class.ExportSpecifier WritesAlike (λ k i a b. absurd (no_named k i class.ExportSpecifier a b)) at
  where
    at : (k : Kind) (ts : List Node) → IsTrue (belongs k class.ExportSpecifier) → FieldsFit (slots_of k) ts → WritesAlike (Tree k ts)
    at kind.ExportNamespaceSpecifier ts b f =
        let is : written_out (Tree kind.ExportNamespaceSpecifier ts) ≡ Tree kind.ExportNamespaceSpecifier (map written_out ts) = written_tree kind.ExportNamespaceSpecifier ts ∙ rolls-Tree kind.ExportNamespaceSpecifier (map written_out ts) in
        ap (λ t. specified (specifier t)) is
        ∙ ap (λ y. specified (written_specifier_in (Tree kind.ExportNamespaceSpecifier (map written_out ts)) y)) (outs-Tree kind.ExportNamespaceSpecifier (map written_out ts))
        ∙ specified_tree kind.ExportNamespaceSpecifier (map written_out ts) ∙ sym (specified_tree kind.ExportNamespaceSpecifier ts)
    at kind.ExportNamedSpecifier (s ∷ o ∷ e ∷ []) b f =
        let us = written_out s ∷ written_out o ∷ written_out e ∷ [] in
        let is : written_out (Tree kind.ExportNamedSpecifier (s ∷ o ∷ e ∷ [])) ≡ Tree kind.ExportNamedSpecifier (written_out s ∷ written_out o ∷ written_out e ∷ [])
        = written_tree kind.ExportNamedSpecifier (s ∷ o ∷ e ∷ []) ∙ rolls-Tree kind.ExportNamedSpecifier (written_out s ∷ written_out o ∷ written_out e ∷ []) in
        ap (λ t. specified (specifier t)) is
        ∙ ap (λ y. specified (written_specifier_in (Tree kind.ExportNamedSpecifier (written_out s ∷ written_out o ∷ written_out e ∷ [])) y)) (outs-Tree kind.ExportNamedSpecifier (written_out s ∷ written_out o ∷ written_out e ∷ []))
        ∙ specified_tree kind.ExportNamedSpecifier (written_out s ∷ written_out o ∷ again (written_out o) (written_out e) ∷ []) ∙ written_one o f.1.0
        ∙ sym (specified_tree kind.ExportNamedSpecifier (s ∷ o ∷ e ∷ []))
    at kind.ExportNamedSpecifier [] b f = absurd f
    at kind.ExportNamedSpecifier (s ∷ []) b f = absurd f.1
    at kind.ExportNamedSpecifier (s ∷ o ∷ []) b f = absurd f.1.1
    at kind.ExportNamedSpecifier (s ∷ o ∷ e ∷ x ∷ ts) b f = absurd f.1.1.1
    at _ ts b f = absurd (true≢false (sym b))

pub each_mapped : (g : Node → Node) (ts : List Node) → ((t : Node) → Fits t (one class.ExportSpecifier) → specified (g t) ≡ specified t) → AllFit (one class.ExportSpecifier) ts → flat_map specified (map g ts) ≡ flat_map specified ts
each_mapped g [] h f = refl
each_mapped g (t ∷ ts) h f = ap (λ l. l ++ flat_map specified (map g ts)) (h t f.0) ∙ ap (λ l. specified t ++ l) (each_mapped g ts h f.1)

pub map_twice : (f g : Node → Node) (ts : List Node) → map f (map g ts) ≡ map (λ t. f (g t)) ts
map_twice f g [] = refl
map_twice f g (t ∷ ts) = ap (λ l. f (g t) ∷ l) (map_twice f g ts)

-- ---- items

abbrev pub is_list_kind : Kind → Bool
is_list_kind kind.NamedExport = true
is_list_kind _ = false

pub listed_tree : (k : Kind) (ts : List Node) → listed (Tree k ts) ≡ item_in (Node-F.Tree k ts)
listed_tree k ts = ap item_in (outs-Tree k ts)

no_list : (k : Kind) (ts : List Node) → is_list_kind k ≡ false → item_in (Node-F.Tree k ts) ≡ []
no_list kind.NamedExport ts e = absurd (cc)
no_list kind.Module ts e = refl
no_list _ ts e = refl

pub none_listed : (k : Kind) (ts : List Node) → is_list_kind k ≡ false → listed (Tree k ts) ≡ []
none_listed k ts e = listed_tree k ts ∙ no_list k ts e

pub no_item_name : (k : Kind) → IsTrue (is_identifier k) → IsTrue (belongs k class.ModuleItem) → ⊥
no_item_name kind.Ident a b = absurd (cc)
no_item_name kind.BindingIdent a b = absurd (cc)
no_item_name _ a b = absurd (cc)

absent_stays : (t : Node) (s : Slot) → Fits t s → IsTrue (all_bare t) → is_absent (stripped t) ≡ is_absent t
absent_stays t s f b = looks is_absent_in false (λ k ts. refl) (λ ts. refl) (λ k i. refl) t s f b

abbrev StripsListed : Node → Type 0
StripsListed t = IsTrue (all_bare t) → listed (stripped t) ≡ listed t

stripped_list : (a b c d : Node) → FieldsFit (slots_of kind.NamedExport) (a ∷ b ∷ c ∷ d ∷ []) → StripsListed (Tree kind.NamedExport (a ∷ b ∷ c ∷ d ∷ []))
stripped_list a b c d f bare =
    let x = both_are (all_bare a) (list_all all_bare (b ∷ c ∷ d ∷ [])) (bare_below kind.NamedExport (a ∷ b ∷ c ∷ d ∷ []) bare) in
    let y = both_are (all_bare b) (list_all all_bare (c ∷ d ∷ [])) x.1 in
    let z = both_are (all_bare c) (list_all all_bare (d ∷ [])) y.1 in
    let l = as_list b (content.Node class.ExportSpecifier) f.1.0 in
    let items : items_of (stripped b) ≡ map stripped (items_of b) = ap (λ t. items_of (stripped t)) l.is ∙ ap items_of (stripped_of_list l.items) ∙ items_of_list (map stripped l.items) ∙ sym (ap (map stripped) (ap items_of l.is ∙ items_of_list l.items)) in
    let fit : AllFit (one class.ExportSpecifier) (items_of b) = subst (AllFit (one class.ExportSpecifier)) (sym (ap items_of l.is ∙ items_of_list l.items)) l.fit in
    ap listed (stripped_other kind.NamedExport (a ∷ b ∷ c ∷ d ∷ []) refl) ∙ listed_tree kind.NamedExport (stripped a ∷ stripped b ∷ stripped c ∷ stripped d ∷ [])
    ∙ ap (λ e. cond e (flat_map specified (items_of (stripped b))) []) (absent_stays c (slot.Optional (content.Node class.Str)) f.1.1.0 z.0)
    ∙ ap (λ l. cond (is_absent c) (flat_map specified l) []) items ∙ ap (λ l. cond (is_absent c) l []) (each_mapped stripped (items_of b) stripped_specifier fit)
    ∙ sym (listed_tree kind.NamedExport (a ∷ b ∷ c ∷ d ∷ []))

stripped_other_item : (k : Kind) (ts : List Node) → is_pair_kind k ≡ false → is_list_kind k ≡ false → StripsListed (Tree k ts)
stripped_other_item k ts p e bare = let (us, is) = tree_stays k ts p in ap listed is ∙ none_listed k us e ∙ sym (none_listed k ts e)

pub stripped_item : (t : Node) → Fits t (one class.ModuleItem) → StripsListed t
stripped_item = of_class class.ModuleItem StripsListed (λ k i a b. absurd (no_item_name k a b)) at
  where
    at : (k : Kind) (ts : List Node) → IsTrue (belongs k class.ModuleItem) → FieldsFit (slots_of k) ts → StripsListed (Tree k ts)
    at kind.NamedExport (a ∷ b ∷ c ∷ d ∷ []) h f = stripped_list a b c d f
    at kind.NamedExport [] h f = absurd f
    at kind.NamedExport (a ∷ []) h f = absurd f.1
    at kind.NamedExport (a ∷ b ∷ []) h f = absurd f.1.1
    at kind.NamedExport (a ∷ b ∷ c ∷ []) h f = absurd f.1.1.1
    at kind.NamedExport (a ∷ b ∷ c ∷ d ∷ e ∷ ts) h f = absurd f.1.1.1.1
    at kind.ParenExpr ts h f = absurd (cc)
    at kind.SeqExpr ts h f = absurd (cc)
    at k ts h f = stripped_other_item k ts refl refl
