-- What an item of a module exports, once it is written out, and the module.
use Rattle.std.proofs.Common.{◌≡◌, Bool, true, false, IsTrue, ◌⊎◌, inl, inr, ⊎_elim, List, [], ◌∷◌, ◌++◌, map, refl, sym, ap, ◌∙◌, subst, cond, append_assoc, true≢false}
use Rattle.std.specs.List.{flat_map, list_all}
use Rattle.std.proofs.lemmas.List.{append-nil}
use Rattle.swc_tree_marks.specs.declared.ident.Ident.{Ident}
use Rattle.swc_tree_node.specs.declared.kind.Kind.{Kind}
use Rattle.swc_tree_node.specs.declared.kind.Kind.TheVariants as kind
use Rattle.swc_tree_node.specs.declared.kind.Class.TheVariants as class
use Rattle.swc_tree_node.specs.declared.slot.Content.TheVariants as content
use Rattle.swc_tree_node.specs.declared.node.Node.{Node, Absent, Span, List as Many, Identifier, Tree, out-Node}
use Rattle.swc_tree_node.specs.declared.node.Node.TheOpen.{Node-F}
use Rattle.swc_tree_node.specs.declared.node.Node.TheVariants.{outs-Absent, outs-Identifier, outs-Tree, rolls-Tree}
use Rattle.swc_tree_node.specs.Table.{is_identifier, slots_of}
use Rattle.swc_tree_node.specs.Fits.{AllFit, FieldsFit, Fits, belongs}
use Rattle.swc_tree_node.proofs.Fit.{both as both_are, tree_opens}
use Rattle.swc_tree_scoping.specs.Places.{field_role, program_place}
use Rattle.swc_tree_scoping.specs.BoundNames.{declared_ids}
use Rattle.swc_tree_scoping.specs.Scopes.{takes}
use Rattle.swc_tree_scoping.specs.declared.places.Scope.TheVariants as scope
use Rattle.swc_tree_grammar.specs.Blocks.{no_span}
use Rattle.swc_tree_grammar.specs.Levels.{is_absent, is_absent_in}
use Rattle.swc_tree_grammar.specs.Normal.{each_once, export_list, exported_as_itself, made, pattern_property_in, plain_name, specifier, split, split_in, written_out, written_step}
use Rattle.swc_tree_grammar.specs.Shapes.{items_of}
use Rattle.swc_tree_grammar.specs.Stripped.{stripped}
use Rattle.swc_tree_grammar.specs.Targets.{all_bare}
use Rattle.swc_tree_grammar.proofs.Items.{items_of_list, listed as as_list}
use Rattle.swc_tree_grammar.proofs.Places.{one}
use Rattle.swc_tree_grammar.proofs.Stripped.{stripped_of_list, stripped_other}
use Rattle.swc_tree_grammar.proofs.Walks.{bare_of_list}
use Rattle.swc_tree_scoping.specs.declared.places.Standing.TheVariants as standing
use Rattle.swc_tree_sites.specs.Sites.{Sites, both, nothing, taken_at}
use Rattle.swc_tree_sites.specs.Smaller.{In}
use Rattle.swc_tree_sites.proofs.Kept.{S, all, of_list}
use Rattle.swc_tree_sites.proofs.Loose.{in_cases, in_left, in_right}
use Rattle.swc_tree_sites_laws.proofs.StrippedFewer.{of_leaf}
use Rattle.swc_tree_sites_written.specs.Tame.{is_tame, items_tame, part_tame}
use Rattle.swc_tree_sites_written.proofs.Declared.{IdIn, declared_pending, id_more}
use Rattle.swc_tree_sites_written.proofs.Lists.{filter_in}
use Rattle.swc_tree_sites_written.proofs.Modules.{Top, in_once, is_export, made_of, module_takes, not_split, taken}
use Rattle.swc_tree_sites_written.proofs.Opened.{span_quiet, tame_of}
use Rattle.swc_tree_sites_written.proofs.Steps.{item_keeps}
use Rattle.swc_tree_sites_written.proofs.Written.{of, tame_list, tame_tree, written_list, written_looks, written_tree}
use Rattle.swc_tree_sites_written.proofs.WrittenFields.{tame_at}
use Rattle.swc_tree_sites_written.proofs.WrittenNames.{optional_text}
use Rattle.swc_tree_sites.proofs.Kept.{out_step, both_nothing}
use Rattle.swc_tree_sites_kept.specs.Exported.{exported_locals, listed, module_in, name_in, specified}
use Rattle.swc_tree_sites_kept.specs.Exports.{Exports, StrippedExportsTheSame, WrittenOutExports}
use Rattle.swc_tree_sites_kept.proofs.Items.{each_mapped, is_list_kind, listed_tree, map_twice, no_item_name, none_listed, of_class, specified_tree, stripped_item, written_specifier, bare_below}

-- what is no export list or exported declaration becomes none
step_kind : (k : Kind) (ts : List Node) → is_export k ≡ false → is_list_kind k ≡ false → (l : Kind) × (us : List Node) × (written_step (Node-F.Tree k ts) ≡ Tree l us) × (is_export l ≡ false) × (is_list_kind l ≡ false)
step_kind kind.IfStmt (a ∷ b ∷ c ∷ d ∷ []) x y = (_, _, refl, refl, refl)
step_kind kind.ObjectLit (a ∷ b ∷ []) x y = (_, _, refl, refl, refl)
step_kind kind.AssignPatProp (a ∷ b ∷ c ∷ []) x y = property_tree a b c (out-Node b)
  where
    property_tree : (a b c : Node) (y : Node-F Node) → (l : Kind) × (us : List Node) × (pattern_property_in a b c y ≡ Tree l us) × (is_export l ≡ false) × (is_list_kind l ≡ false)
    property_tree a b c (Node-F.Identifier k i) = (_, _, refl, refl, refl)
    property_tree a b c Node-F.Absent = (_, _, refl, refl, refl)
    property_tree a b c y = (_, _, refl, refl, refl)
step_kind kind.ArrayPat (a ∷ b ∷ []) x y = (_, _, refl, refl, refl)
step_kind kind.RestPat (a ∷ b ∷ []) x y = (_, _, refl, refl, refl)
step_kind kind.KeyValuePatProp (a ∷ b ∷ []) x y = (_, _, refl, refl, refl)
step_kind kind.AssignPat (a ∷ b ∷ c ∷ []) x y = (_, _, refl, refl, refl)
step_kind kind.Param (a ∷ b ∷ []) x y = (_, _, refl, refl, refl)
step_kind kind.ArrowExpr (a ∷ b ∷ c ∷ d ∷ []) x y = (_, _, refl, refl, refl)
step_kind kind.SetterProp (a ∷ b ∷ c ∷ d ∷ []) x y = (_, _, refl, refl, refl)
step_kind kind.VarDeclarator (a ∷ b ∷ c ∷ []) x y = (_, _, refl, refl, refl)
step_kind kind.CatchClause (a ∷ b ∷ c ∷ []) x y = (_, _, refl, refl, refl)
step_kind kind.ForInStmt (a ∷ b ∷ c ∷ d ∷ []) x y = (_, _, refl, refl, refl)
step_kind kind.ForOfStmt (a ∷ b ∷ c ∷ d ∷ e ∷ []) x y = (_, _, refl, refl, refl)
step_kind kind.ImportNamedSpecifier (a ∷ b ∷ c ∷ []) x y = (_, _, refl, refl, refl)
step_kind kind.NamedExport ts x y = absurd (cc)
step_kind kind.Module (a ∷ b ∷ c ∷ []) x y = (_, _, refl, refl, refl)
step_kind k ts x y = (k, ts, rolls-Tree k ts, x, y)

-- what the items of a list export
abbrev lists : List Node → List Ident
lists ts = flat_map listed ts

one_list : (t : Node) → lists (t ∷ []) ≡ listed t
one_list t = append-nil (listed t)

-- an item that is written out exports what it did, and else only what it leaves to the program
record ItemExports (t : Node) : Type 0 where
  kept : (i : Ident) → In i (listed t) → In i (lists (split (written_out t)))
  gained : (i : Ident) → In i (lists (split (written_out t))) → In i (listed t) ⊎ IdIn (i.sym, i.ctxt) (S Top t).pending

abbrev ItemWritten : Node → Type 0
ItemWritten t = IsTrue (is_tame t false) → ItemExports t

same_lists : (t : Node) → lists (split (written_out t)) ≡ listed t → ItemExports t
same_lists t e = record { kept = λ i h. subst (In i) (sym e) h; gained = λ i h. inl (subst (In i) e h) }

other_written : (k : Kind) (ts : List Node) → is_export k ≡ false → is_list_kind k ≡ false → ItemWritten (Tree k ts)
other_written k ts x y tame =
    let (l, us, is, unsplit, none) = step_kind k (map written_out ts) x y in
    let whole : written_out (Tree k ts) ≡ Tree l us = written_tree k ts ∙ is in
    same_lists (Tree k ts) (ap (λ t. lists (split t)) whole ∙ ap (λ y. lists (split_in (Tree l us) y)) (outs-Tree l us) ∙ ap lists (not_split l us (Tree l us) unsplit) ∙ one_list (Tree l us) ∙ none_listed l us none ∙ sym (none_listed k ts y))

absent_written : (t : Node) → is_absent (written_out t) ≡ is_absent t
absent_written t = written_looks is_absent_in false (λ k ts. refl) (λ ts. refl) t

list_written : (a b c d : Node) → FieldsFit (slots_of kind.NamedExport) (a ∷ b ∷ c ∷ d ∷ []) → ItemWritten (Tree kind.NamedExport (a ∷ b ∷ c ∷ d ∷ []))
list_written a b c d f tame =
    let us = written_out a ∷ cond (is_absent (written_out c)) (Many (map specifier (items_of (written_out b)))) (written_out b) ∷ written_out c ∷ written_out d ∷ [] in
    let whole : written_out (Tree kind.NamedExport (a ∷ b ∷ c ∷ d ∷ [])) ≡ Tree kind.NamedExport (written_out a ∷ cond (is_absent (written_out c)) (Many (map specifier (items_of (written_out b)))) (written_out b) ∷ written_out c ∷ written_out d ∷ [])
    = written_tree kind.NamedExport (a ∷ b ∷ c ∷ d ∷ []) in
    let l = as_list b (content.Node class.ExportSpecifier) f.1.0 in
    let was : items_of b ≡ l.items = ap items_of l.is ∙ items_of_list l.items in
    let items : items_of (written_out b) ≡ map written_out (items_of b) = ap (λ t. items_of (written_out t)) l.is ∙ ap items_of (written_list l.items) ∙ items_of_list (map written_out l.items) ∙ sym (ap (map written_out) was) in
    let fit : AllFit (one class.ExportSpecifier) (items_of b) = subst (AllFit (one class.ExportSpecifier)) (sym was) l.fit in
    let names : flat_map specified (map specifier (items_of (written_out b))) ≡ flat_map specified (items_of b)
    = ap (λ l. flat_map specified (map specifier l)) items ∙ ap (flat_map specified) (map_twice specifier written_out (items_of b)) ∙ each_mapped (λ t. specifier (written_out t)) (items_of b) written_specifier fit in
    same_lists (Tree kind.NamedExport (a ∷ b ∷ c ∷ d ∷ []))
    (ap (λ t. lists (split t)) whole ∙ ap (λ y. lists (split_in (Tree kind.NamedExport us) y)) (outs-Tree kind.NamedExport us) ∙ one_list (Tree kind.NamedExport us) ∙ listed_tree kind.NamedExport us
    ∙ by (is_absent (written_out c)) names ∙ ap (λ e. cond e (flat_map specified (items_of b)) []) (absent_written c) ∙ sym (listed_tree kind.NamedExport (a ∷ b ∷ c ∷ d ∷ [])))
  where
    by : (z : Bool) → flat_map specified (map specifier (items_of (written_out b))) ≡ flat_map specified (items_of b)
        → cond z (flat_map specified (items_of (cond z (Many (map specifier (items_of (written_out b)))) (written_out b)))) [] ≡ cond z (flat_map specified (items_of b)) []
    by true e = ap (flat_map specified) (items_of_list (map specifier (items_of (written_out b)))) ∙ e
    by false e = refl

-- an exported declaration with its list
one_itself : (i : Ident) → specified (exported_as_itself i) ≡ i ∷ []
one_itself i = specified_tree kind.ExportNamedSpecifier (Span no_span ∷ Identifier kind.Ident i ∷ plain_name i ∷ []) ∙ ap name_in (outs-Identifier kind.Ident i)

all_themselves : (is : List Ident) → flat_map specified (map exported_as_itself is) ≡ is
all_themselves [] = refl
all_themselves (i ∷ is) = ap (λ l. l ++ flat_map specified (map exported_as_itself is)) (one_itself i) ∙ ap (λ l. i ∷ l) (all_themselves is)

list_itself : (is : List Ident) → listed (export_list is) ≡ is
list_itself is =
    listed_tree kind.NamedExport (Span no_span ∷ Many (map exported_as_itself is) ∷ Absent ∷ Absent ∷ [])
    ∙ ap (λ y. cond (is_absent_in y) (flat_map specified (items_of (Many (map exported_as_itself is)))) []) outs-Absent
    ∙ ap (flat_map specified) (items_of_list (map exported_as_itself is)) ∙ all_themselves is

declaration_kind : (k : Kind) → IsTrue (belongs k class.Decl) → (is_export k ≡ false) × (is_list_kind k ≡ false)
declaration_kind kind.ClassDecl b = (refl, refl)
declaration_kind kind.FnDecl b = (refl, refl)
declaration_kind kind.VarDecl b = (refl, refl)
declaration_kind kind.UsingDecl b = (refl, refl)
declaration_kind kind.TsInterfaceDecl b = (refl, refl)
declaration_kind kind.TsTypeAliasDecl b = (refl, refl)
declaration_kind kind.TsEnumDecl b = (refl, refl)
declaration_kind kind.TsModuleDecl b = (refl, refl)
declaration_kind _ b = absurd (cc)

no_declaration_name : (k : Kind) → IsTrue (is_identifier k) → IsTrue (belongs k class.Decl) → ⊥
no_declaration_name kind.Ident a b = absurd (cc)
no_declaration_name kind.BindingIdent a b = absurd (cc)
no_declaration_name _ a b = absurd (cc)

declaration_lists : (d : Node) → Fits d (one class.Decl) → listed (written_out d) ≡ []
declaration_lists = of_class class.Decl (λ d. listed (written_out d) ≡ []) (λ k i a b. absurd (no_declaration_name k a b))
    (λ k ts b f. let z = declaration_kind k b in let (l, us, is, unsplit, none) = step_kind k (map written_out ts) z.0 z.1 in ap listed (written_tree k ts ∙ is) ∙ none_listed l us none)

export_written : (a d : Node) → Fits (Tree kind.ExportDecl (a ∷ d ∷ [])) (one class.ModuleItem) → ItemWritten (Tree kind.ExportDecl (a ∷ d ∷ []))
export_written a d f tame =
    let fields = (tree_opens kind.ExportDecl (a ∷ d ∷ []) class.ModuleItem f).2 in
    let whole : written_out (Tree kind.ExportDecl (a ∷ d ∷ [])) ≡ Tree kind.ExportDecl (written_out a ∷ written_out d ∷ []) = written_tree kind.ExportDecl (a ∷ d ∷ []) ∙ rolls-Tree kind.ExportDecl (written_out a ∷ written_out d ∷ []) in
    let names = each_once (map made (declared_ids (written_out d))) in
    let lists_are : lists (split (written_out (Tree kind.ExportDecl (a ∷ d ∷ [])))) ≡ each_once (map made (declared_ids (written_out d)))
    = ap (λ u. lists (split u)) whole
    ∙ ap (λ y. lists (split_in (Tree kind.ExportDecl (written_out a ∷ written_out d ∷ [])) y)) (outs-Tree kind.ExportDecl (written_out a ∷ written_out d ∷ []))
    ∙ ap (λ l. l ++ lists (export_list names ∷ [])) (declaration_lists d fields.1.0) ∙ one_list (export_list names) ∙ list_itself names in
    let inner : S Top (written_out d) ≡ S Top (Tree kind.ExportDecl (a ∷ d ∷ []))
    = sym (both_nothing (S Top (written_out d))) ∙ ap (λ x. both x (both (S Top (written_out d)) nothing)) (sym (span_quiet Top a fields.0))
    ∙ sym (out_step Top (Tree kind.ExportDecl (written_out a ∷ written_out d ∷ [])) _ (outs-Tree kind.ExportDecl (written_out a ∷ written_out d ∷ [])))
    ∙ sym (ap (S Top) whole) ∙ item_keeps (Tree kind.ExportDecl (a ∷ d ∷ [])) standing.Plain false f tame in
    record {
      kept = λ i h. absurd (subst (In i) (none_listed kind.ExportDecl (a ∷ d ∷ []) refl) h);
      gained = λ i h.
          let (x, k, m) = made_of i (declared_ids (written_out d)) (in_once i (map made (declared_ids (written_out d))) (subst (In i) lists_are h)) in
          let z = declared_pending d fields.1.0 x k in
          inr (subst (λ (a : Sites). IdIn (i.sym, i.ctxt) a.pending) inner (z.0, z.1, z.2, z.3 ∙ ap (λ (i : Ident). i.sym) m, z.4 ∙ ap (λ (i : Ident). i.ctxt) m));
    }

item_written : (t : Node) → Fits t (one class.ModuleItem) → ItemWritten t
item_written t f = of_class class.ModuleItem (λ t. Fits t (one class.ModuleItem) → ItemWritten t) (λ k i a b. absurd (no_item_name k a b)) (λ k ts b g f. at k ts b g f) t f f
  where
    at : (k : Kind) (ts : List Node) → IsTrue (belongs k class.ModuleItem) → FieldsFit (slots_of k) ts → Fits (Tree k ts) (one class.ModuleItem) → ItemWritten (Tree k ts)
    at kind.NamedExport (a ∷ b ∷ c ∷ d ∷ []) h f g = list_written a b c d f
    at kind.NamedExport [] h f g = absurd f
    at kind.NamedExport (a ∷ []) h f g = absurd f.1
    at kind.NamedExport (a ∷ b ∷ []) h f g = absurd f.1.1
    at kind.NamedExport (a ∷ b ∷ c ∷ []) h f g = absurd f.1.1.1
    at kind.NamedExport (a ∷ b ∷ c ∷ d ∷ e ∷ ts) h f g = absurd f.1.1.1.1
    at kind.ExportDecl (a ∷ d ∷ []) h f g = export_written a d g
    at kind.ExportDecl [] h f g = absurd f
    at kind.ExportDecl (a ∷ []) h f g = absurd f.1
    at kind.ExportDecl (a ∷ b ∷ c ∷ ts) h f g = absurd f.1.1
    at k ts h f g = other_written k ts refl refl

flat_append : (ts us : List Node) → lists (ts ++ us) ≡ lists ts ++ lists us
flat_append [] us = refl
flat_append (t ∷ ts) us = ap (λ l. listed t ++ l) (flat_append ts us) ∙ sym (append_assoc (listed t) (lists ts) (lists us))

record ItemsExport (ts : List Node) : Type 0 where
  kept : (i : Ident) → In i (lists ts) → In i (lists (flat_map split (map written_out ts)))
  gained : (i : Ident) → In i (lists (flat_map split (map written_out ts))) → In i (lists ts) ⊎ IdIn (i.sym, i.ctxt) (all Top ts).pending

items_written : (ts : List Node) → AllFit (one class.ModuleItem) ts → items_tame false (map of ts) ≡ true → ItemsExport ts
items_written [] f h = record { kept = λ i g. g; gained = λ i g. inl g }
items_written (t ∷ ts) f h =
    let z = both_are (part_tame false (of t)) (items_tame false (map of ts)) h in
    let one = item_written t f.0 (tame_of false t z.0) in
    let rest = items_written ts f.1 z.1 in
    let is = flat_append (split (written_out t)) (flat_map split (map written_out ts)) in record {
      kept = λ i g. subst (In i) (sym is) (⊎_elim (λ k. in_left i (lists (split (written_out t))) (lists (flat_map split (map written_out ts))) (one.kept i k)) (λ k. in_right i (lists (split (written_out t))) (lists (flat_map split (map written_out ts))) (rest.kept i k)) (in_cases i (listed t) (lists ts) g));
      gained = λ i g. ⊎_elim
          (λ k. ⊎_elim (λ l. inl (in_left i (listed t) (lists ts) l)) (λ l. inr (id_more (i.sym, i.ctxt) (S Top t).pending ((S Top t).pending ++ (all Top ts).pending) (λ b. in_left b (S Top t).pending (all Top ts).pending) l)) (one.gained i k))
          (λ k. ⊎_elim (λ l. inl (in_right i (listed t) (lists ts) l)) (λ l. inr (id_more (i.sym, i.ctxt) (all Top ts).pending ((S Top t).pending ++ (all Top ts).pending) (λ b. in_right b (S Top t).pending (all Top ts).pending) l)) (rest.gained i k))
          (in_cases i (lists (split (written_out t))) (lists (flat_map split (map written_out ts))) (subst (In i) is g));
    }

-- ---- modules

exported_module : (x y z : Node) → exported_locals (Tree kind.Module (x ∷ y ∷ z ∷ [])) ≡ lists (items_of y)
exported_module x y z = ap module_in (outs-Tree kind.Module (x ∷ y ∷ z ∷ []))

abbrev ModuleExports : Node → Type 0
ModuleExports t = Fits t (one class.Module) → IsTrue (is_tame t false) → Exports t

listed_exports : (x z : Node) (ts : List Node) → ModuleExports (Tree kind.Module (x ∷ Many ts ∷ z ∷ []))
listed_exports x z ts f tame =
    let fields = (tree_opens kind.Module (x ∷ Many ts ∷ z ∷ []) class.Module f).2 in
    let parts = sym (tame_tree kind.Module (x ∷ Many ts ∷ z ∷ []) false) ∙ tame in
    let items : items_tame false (map of ts) ≡ true = sym (tame_list ts false) ∙ tame_of false (Many ts) (tame_at (field_role kind.Module) false (x ∷ Many ts ∷ z ∷ []) 1 (Many ts) parts refl) in
    let l = as_list (Many ts) (content.Node class.ModuleItem) fields.1.0 in
    let own : l.items ≡ ts = sym (items_of_list l.items) ∙ ap items_of (sym l.is) ∙ items_of_list ts in
    let held = items_written ts (subst (AllFit (one class.ModuleItem)) own l.fit) items in
    let us = flat_map split (map written_out ts) in
    let whole : written_out (Tree kind.Module (x ∷ Many ts ∷ z ∷ [])) ≡ Tree kind.Module (written_out x ∷ Many us ∷ written_out z ∷ [])
    = written_tree kind.Module (x ∷ Many ts ∷ z ∷ []) ∙ ap (λ l. Tree kind.Module (written_out x ∷ Many (flat_map split l) ∷ written_out z ∷ [])) (ap items_of (written_list ts) ∙ items_of_list (map written_out ts)) in
    let before : exported_locals (Tree kind.Module (x ∷ Many ts ∷ z ∷ [])) ≡ lists ts = exported_module x (Many ts) z ∙ ap lists (items_of_list ts) in
    let after : exported_locals (written_out (Tree kind.Module (x ∷ Many ts ∷ z ∷ []))) ≡ lists us = ap exported_locals whole ∙ exported_module (written_out x) (Many us) (written_out z) ∙ ap lists (items_of_list us) in
    let takes_them : taken_at program_place (Tree kind.Module (x ∷ Many ts ∷ z ∷ [])) ≡ taken (all Top ts)
    = module_takes x (Many ts) z (of_leaf Top content.Span x refl fields.0) (optional_text Top z fields.1.1.0) ∙ ap taken (of_list Top ts refl) in
    record {
      kept = λ i h. subst (In i) (sym after) (held.kept i (subst (In i) before h));
      gained = λ i h. ⊎_elim (λ g. inl (subst (In i) (sym before) g))
          (λ (g : IdIn (i.sym, i.ctxt) (all Top ts).pending). inr (
            g.0,
            subst (In g.0) (sym takes_them) (filter_in (λ b. takes b.0 scope.Program) g.0 ((all Top ts).pending ++ []) (in_left g.0 (all Top ts).pending [] g.1) g.2),
            (g.3, g.4),
          ))
          (held.gained i (subst (In i) after h));
    }

pub written_out_exports : WrittenOutExports
written_out_exports t f = of_class class.Module (λ t. Fits t (one class.Module) → IsTrue (is_tame t false) → Exports t) (λ k i a b. absurd (no_name k a b)) (λ k ts b g f. at k ts b g f) t f f
  where
    no_name : (k : Kind) → IsTrue (is_identifier k) → IsTrue (belongs k class.Module) → ⊥
    no_name kind.Ident a b = absurd (cc)
    no_name kind.BindingIdent a b = absurd (cc)
    no_name _ a b = true≢false (sym a)

    at : (k : Kind) (ts : List Node) → IsTrue (belongs k class.Module) → FieldsFit (slots_of k) ts → ModuleExports (Tree k ts)
    at kind.Module [] b f = absurd f
    at kind.Module (x ∷ []) b f = absurd f.1
    at kind.Module (x ∷ y ∷ []) b f = absurd f.1.1
    at kind.Module (x ∷ y ∷ z ∷ v ∷ ts) b f = absurd f.1.1.1
    at kind.Module (x ∷ y ∷ z ∷ []) b f =
        let l = as_list y (content.Node class.ModuleItem) f.1.0 in
        subst (λ y. ModuleExports (Tree kind.Module (x ∷ y ∷ z ∷ []))) (sym l.is) (listed_exports x z l.items)
    at _ ts b f = absurd (true≢false (sym b))

each_stripped : (ts : List Node) → AllFit (one class.ModuleItem) ts → IsTrue (list_all all_bare ts) → lists (map stripped ts) ≡ lists ts
each_stripped [] f b = refl
each_stripped (t ∷ ts) f b =
    let z = both_are (all_bare t) (list_all all_bare ts) b in
    ap (λ l. l ++ lists (map stripped ts)) (stripped_item t f.0 z.0) ∙ ap (λ l. listed t ++ l) (each_stripped ts f.1 z.1)

abbrev StripsExports : Node → Type 0
StripsExports t = IsTrue (all_bare t) → exported_locals (stripped t) ≡ exported_locals t

pub stripped_exports_the_same : StrippedExportsTheSame
stripped_exports_the_same = of_class class.Module StripsExports (λ k i a b. absurd (no_name k a b)) at
  where
    no_name : (k : Kind) → IsTrue (is_identifier k) → IsTrue (belongs k class.Module) → ⊥
    no_name kind.Ident a b = absurd (cc)
    no_name kind.BindingIdent a b = absurd (cc)
    no_name _ a b = true≢false (sym a)

    at : (k : Kind) (ts : List Node) → IsTrue (belongs k class.Module) → FieldsFit (slots_of k) ts → StripsExports (Tree k ts)
    at kind.Module [] b f = absurd f
    at kind.Module (x ∷ []) b f = absurd f.1
    at kind.Module (x ∷ y ∷ []) b f = absurd f.1.1
    at kind.Module (x ∷ y ∷ z ∷ v ∷ ts) b f = absurd f.1.1.1
    at kind.Module (x ∷ y ∷ z ∷ []) b f = λ bare.
        let k = both_are (all_bare x) (list_all all_bare (y ∷ z ∷ [])) (bare_below kind.Module (x ∷ y ∷ z ∷ []) bare) in
        let m = both_are (all_bare y) (list_all all_bare (z ∷ [])) k.1 in
        let l = as_list y (content.Node class.ModuleItem) f.1.0 in
        let bare_items : IsTrue (list_all all_bare l.items) = sym (bare_of_list l.items) ∙ subst (λ y. IsTrue (all_bare y)) l.is m.0 in
        ap exported_locals (stripped_other kind.Module (x ∷ y ∷ z ∷ []) refl) ∙ exported_module (stripped x) (stripped y) (stripped z)
        ∙ ap (λ y. lists (items_of (stripped y))) l.is ∙ ap (λ t. lists (items_of t)) (stripped_of_list l.items) ∙ ap lists (items_of_list (map stripped l.items)) ∙ each_stripped l.items l.fit bare_items
        ∙ ap lists (sym (items_of_list l.items)) ∙ ap (λ y. lists (items_of y)) (sym l.is) ∙ sym (exported_module x y z)
    at _ ts b f = absurd (true≢false (sym b))
