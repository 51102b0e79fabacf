-- What fits its place still does when its names are given anew: lists, and the whole.
use Rattle.std.proofs.Common.{◌≡◌, ℕ, zero, suc, Bool, true, false, ◌&&◌, IsTrue, Option, Some, None, List, [], ◌∷◌, ◌++◌, map, refl, sym, ap, ◌∙◌, subst}
use Rattle.std.specs.Prelude.{is_some, if◌then◌else◌}
use Rattle.std.specs.List.{list_all, list_any}
use Rattle.swc_tree_node.specs.declared.kind.Kind.{Kind}
use Rattle.swc_tree_node.specs.declared.kind.Kind.TheVariants as kind
use Rattle.swc_tree_node.specs.declared.kind.Class.{Class}
use Rattle.swc_tree_node.specs.declared.kind.Class.TheVariants as class
use Rattle.swc_tree_node.specs.declared.slot.Content.{Content}
use Rattle.swc_tree_node.specs.declared.slot.Content.TheVariants as content
use Rattle.swc_tree_node.specs.declared.slot.Slot.{Slot}
use Rattle.swc_tree_node.specs.declared.slot.Slot.TheVariants as slot
use Rattle.swc_tree_node.specs.declared.node.Node.{Node, Absent, Flag, Word, Text, Span, List as Many, Tree, out-Node, roll-Node, map-Node, ind-Node, roll-out-Node}
use Rattle.swc_tree_node.specs.declared.node.Node.TheVariants.{rolls-Absent, rolls-Flag, rolls-Word, rolls-Text, rolls-Span, rolls-List, rolls-Identifier, rolls-Tree}
use Rattle.swc_tree_node.specs.declared.node.Node.TheOpen.{Node-F}
use Rattle.swc_tree_node.specs.Table.{slots_of}
use Rattle.swc_tree_node.specs.Fits.{fits, Fits, FieldsFit, AllFit, single, belongs, list_fits}
use Rattle.swc_tree_node.proofs.Fit.{fits-List, all_open, all_close, fields_open, fields_close}
use Rattle.swc_base_rename_substitution.specs.declared.place.Place.{Place}
use Rattle.swc_base_rename_substitution.specs.declared.place.Place.TheVariants as place
use Rattle.swc_base_rename_substitution.specs.Names.{Id}
use Rattle.swc_tree_scoping.specs.Places.{field_role}
use Rattle.swc_base_rename_substitution.specs.Identifiers.{Changes, changed}
use Rattle.swc_base_rename_substitution.specs.Exports.{exported_in, exports_of, export_list, declaration_in, declaration_of, with_exports, items_for}
use Rattle.swc_base_rename_substitution.specs.Substituted.{Substituted, substituted}
use Rattle.swc_base_rename_substitution.specs.Places.{has_source, places}
use Rattle.swc_base_rename_substitution.specs.Room.{takes_written, takes_exports, has_room, FitsAs}
use Rattle.swc_base_rename_substitution.proofs.Equations.{substituted-Absent, substituted-Flag, substituted-Word, substituted-Text, substituted-Span, substituted_identifier, substituted_list, substituted_tree}
use Rattle.swc_base_rename_substitution.proofs.Room.{table_has_room, key_room, is_short, short_places, implied, left, right, tree_open}
use Rattle.swc_base_rename_substitution.proofs.KeptFit.{wider, export_list_fits, identifier_fits, tree_kept}
use Rattle.swc_base_rename_substitution.specs.Walk.{each_substituted, items_substituted}

-- room for exports, where items of that content stand
abbrev exports_room : Option Content → Bool
exports_room (Some c) = takes_exports c
exports_room None = true

-- what holds of the eight kinds of declarations holds of each kind of their class
of_declarations : (b : Kind → Bool) → IsTrue (b kind.ClassDecl) → IsTrue (b kind.FnDecl) → IsTrue (b kind.VarDecl) → IsTrue (b kind.UsingDecl)
    → IsTrue (b kind.TsInterfaceDecl) → IsTrue (b kind.TsTypeAliasDecl) → IsTrue (b kind.TsEnumDecl) → IsTrue (b kind.TsModuleDecl) → (k : Kind) → IsTrue (belongs k class.Decl) → IsTrue (b k)
of_declarations b c f v u i a e m kind.ClassDecl h = c
of_declarations b c f v u i a e m kind.FnDecl h = f
of_declarations b c f v u i a e m kind.VarDecl h = v
of_declarations b c f v u i a e m kind.UsingDecl h = u
of_declarations b c f v u i a e m kind.TsInterfaceDecl h = i
of_declarations b c f v u i a e m kind.TsTypeAliasDecl h = a
of_declarations b c f v u i a e m kind.TsEnumDecl h = e
of_declarations b c f v u i a e m kind.TsModuleDecl h = m
of_declarations b c f v u i a e m k h = absurd (cc)

declarations_wide : (c : Class) → (belongs kind.NamedExport c && (belongs kind.ClassDecl c && (belongs kind.FnDecl c && (belongs kind.VarDecl c && (belongs kind.UsingDecl c
    && (belongs kind.TsInterfaceDecl c && (belongs kind.TsTypeAliasDecl c && (belongs kind.TsEnumDecl c && belongs kind.TsModuleDecl c)))))))) ≡ true
    → (k : Kind) → IsTrue (belongs k class.Decl) → IsTrue (belongs k c)
declarations_wide c r =
    let classes = right (belongs kind.NamedExport c) _ r in
    let functions = right (belongs kind.ClassDecl c) _ classes in
    let variables = right (belongs kind.FnDecl c) _ functions in
    let usings = right (belongs kind.VarDecl c) _ variables in
    let interfaces = right (belongs kind.UsingDecl c) _ usings in
    let aliases = right (belongs kind.TsInterfaceDecl c) _ interfaces in
    let enums = right (belongs kind.TsTypeAliasDecl c) _ aliases in
    of_declarations (λ k. belongs k c) (left _ _ classes) (left _ _ functions) (left _ _ variables) (left _ _ usings) (left _ _ interfaces) (left _ _ aliases) (left _ _ enums) (right (belongs kind.TsEnumDecl c) _ enums)

declaration_fits : (y : Node-F Node) (u : Node) (s : Slot) → u ≡ roll-Node y → exports_room (single s) ≡ true → Fits u s → Fits (declaration_in u y) s
declaration_fits (Node-F.Tree kind.ExportDecl (a ∷ d ∷ [])) u s e r h =
    let o = tree_open kind.ExportDecl (a ∷ d ∷ []) s (subst (λ t. Fits t s) (e ∙ rolls-Tree kind.ExportDecl (a ∷ d ∷ [])) h) in
    let room : takes_exports (content.Node o.0) ≡ true = ap exports_room (sym o.1) ∙ r in
    wider d s class.Decl o.0 o.1 (declarations_wide o.0 (implied (belongs kind.ExportDecl o.0) _ room o.3)) o.4.1.0
declaration_fits y u s e r h = h

chosen_fits : (b : Bool) (u list : Node) (s : Slot) → Fits u s → Fits (declaration_of u) s → Fits list s → AllFit s (with_exports u (if b then Some list else None))
chosen_fits true u list s f g h = (g, (h, tt))
chosen_fits false u list s f g h = (f, tt)

exports_fit : (m : Changes) (y : Node-F Node) (t u : Node) (s : Slot) → t ≡ roll-Node y → exports_room (single s) ≡ true → Fits t s → Fits u s → AllFit s (with_exports u (exports_of m (exported_in y)))
exports_fit m (Node-F.Tree kind.ExportDecl (a ∷ d ∷ [])) t u s e r h g =
    let o = tree_open kind.ExportDecl (a ∷ d ∷ []) s (subst (λ t. Fits t s) (e ∙ rolls-Tree kind.ExportDecl (a ∷ d ∷ [])) h) in
    let room : takes_exports (content.Node o.0) ≡ true = ap exports_room (sym o.1) ∙ r in
    let ids : List Id = exported_in (Node-F.Tree kind.ExportDecl (a ∷ d ∷ [])) in
    chosen_fits (list_any (λ x. is_some (m x)) ids) u (export_list m ids) s g (declaration_fits (out-Node u) u s (sym (roll-out-Node u)) r g)
    (export_list_fits m ids s o.0 o.1 (left _ _ (implied (belongs kind.ExportDecl o.0) _ room o.3)))
exports_fit m y t u s e r h g = (g, tt)

items_fit : (m : Changes) (t u : Node) (s : Slot) → exports_room (single s) ≡ true → Fits t s → Fits u s → AllFit s (items_for m t u)
items_fit m t u s r h g = exports_fit m (out-Node t) t u s (sym (roll-out-Node t)) r h g

all_append : (s : Slot) (ts us : List Node) → AllFit s ts → AllFit s us → AllFit s (ts ++ us)
all_append s [] us h g = g
all_append s (t ∷ ts) us h g = (h.0, all_append s ts us h.1 g)

-- ---- the whole

abbrev Keeps : Changes → Bool → Node → Type 0
Keeps m keeps t = (p : Place) (s : Slot) → has_room s ≡ true → (is_short p ≡ true → key_room s ≡ true) → Fits t s → Fits (substituted m keeps p t) s

abbrev Kept : Changes → Bool → Type 0
Kept m keeps = (t : Node) × Keeps m keeps t

abbrev nodes : (m : Changes) (keeps : Bool) → List (Kept m keeps) → List Node
nodes m keeps es = map (λ e. e.0) es

each_field : (m : Changes) (keeps : Bool) (ps : ℕ → Place) (ss : List Slot) (es : List (Kept m keeps)) → list_all has_room ss ≡ true → ((i : ℕ) → is_short (ps i) ≡ true → list_all key_room ss ≡ true)
    → FieldsFit ss (nodes m keeps es) → FieldsFit ss (each_substituted m keeps ps (nodes m keeps es))
each_field m keeps ps [] [] r q h = h
each_field m keeps ps [] (e ∷ es) r q h = absurd h
each_field m keeps ps (s ∷ ss) [] r q h = absurd h
each_field m keeps ps (s ∷ ss) (e ∷ es) r q h = (
  e.1 (ps zero) s (left (has_room s) (list_all has_room ss) r) (λ z. left (key_room s) (list_all key_room ss) (q zero z)) h.0,
  each_field m keeps (λ i. ps (suc i)) ss es (right (has_room s) (list_all has_room ss) r) (λ i z. right (key_room s) (list_all key_room ss) (q (suc i) z)) h.1,
)

each_item : (m : Changes) (keeps : Bool) (p : Place) (s : Slot) (es : List (Kept m keeps)) → has_room s ≡ true → exports_room (single s) ≡ true → (is_short p ≡ true → key_room s ≡ true)
    → AllFit s (nodes m keeps es) → AllFit s (items_substituted m keeps p (nodes m keeps es))
each_item m keeps p s [] r x q h = tt
each_item m keeps p s (e ∷ es) r x q h =
    all_append s (items_for m e.0 (substituted m keeps p e.0)) (items_substituted m keeps p (nodes m keeps es))
    (items_fit m e.0 (substituted m keeps p e.0) s x h.0 (e.1 p s r q h.0)) (each_item m keeps p s es r x q h.1)

-- a text stays alone
plain_text : (y : Node-F Node) (t : Node) → t ≡ roll-Node y → Fits t (slot.One content.Text) → exported_in y ≡ []
plain_text (Node-F.Tree k ts) t e h =
    let o = tree_open k ts (slot.One content.Text) (subst (λ t. Fits t (slot.One content.Text)) (e ∙ rolls-Tree k ts) h) in let never = o.1 in absurd (cc)
plain_text y t e h = refl

text_alone : (m : Changes) (t u : Node) → Fits t (slot.One content.Text) → items_for m t u ≡ u ∷ []
text_alone m t u h = ap (λ xs. with_exports u (exports_of m xs)) (plain_text (out-Node t) t (sym (roll-out-Node t)) h)

pair_fits : (m : Changes) (keeps : Bool) (p : Place) (es : List (Kept m keeps)) → FieldsFit (slot.One content.Text ∷ slot.One content.Text ∷ []) (nodes m keeps es)
    → FieldsFit (slot.One content.Text ∷ slot.One content.Text ∷ []) (items_substituted m keeps p (nodes m keeps es))
pair_fits m keeps p (a ∷ b ∷ []) h =
    let first = substituted m keeps p a.0 in
    let second = substituted m keeps p b.0 in
    let same : items_substituted m keeps p (nodes m keeps (a ∷ b ∷ [])) ≡ first ∷ second ∷ []
    = ap (λ l. l ++ items_substituted m keeps p (nodes m keeps (b ∷ []))) (text_alone m a.0 first h.0) ∙ ap (λ l. first ∷ (l ++ [])) (text_alone m b.0 second h.1.0) in
    subst (FieldsFit (slot.One content.Text ∷ slot.One content.Text ∷ [])) (sym same)
    (a.1 p (slot.One content.Text) refl (λ z. refl) h.0, (b.1 p (slot.One content.Text) refl (λ z. refl) h.1.0, tt))
pair_fits m keeps p [] h = absurd h
pair_fits m keeps p (a ∷ []) h = absurd h.1
pair_fits m keeps p (a ∷ b ∷ c ∷ es) h = absurd h.1.1

list_kept_in : (m : Changes) (keeps : Bool) (p : Place) (s : Slot) (es : List (Kept m keeps)) → has_room s ≡ true → (is_short p ≡ true → key_room s ≡ true)
    → IsTrue (list_fits (map fits (nodes m keeps es)) s) → IsTrue (list_fits (map fits (items_substituted m keeps p (nodes m keeps es))) s)
list_kept_in m keeps p (slot.List c) es r q h = all_close (slot.One c) _ (each_item m keeps p (slot.One c) es (left (takes_written c) (takes_exports c) r) (right (takes_written c) (takes_exports c) r) q (all_open (slot.One c) (nodes m keeps es) h))
list_kept_in m keeps p (slot.Holes c) es r q h = all_close (slot.Optional c) _ (each_item m keeps p (slot.Optional c) es (left (takes_written c) (takes_exports c) r) (right (takes_written c) (takes_exports c) r) q (all_open (slot.Optional c) (nodes m keeps es) h))
list_kept_in m keeps p (slot.OptionalList c) es r q h = all_close (slot.One c) _ (each_item m keeps p (slot.One c) es (left (takes_written c) (takes_exports c) r) (right (takes_written c) (takes_exports c) r) q (all_open (slot.One c) (nodes m keeps es) h))
list_kept_in m keeps p slot.Pair es r q h = fields_close (slot.One content.Text ∷ slot.One content.Text ∷ []) _ (pair_fits m keeps p es (fields_open (slot.One content.Text ∷ slot.One content.Text ∷ []) (nodes m keeps es) h))
list_kept_in m keeps p slot.Pairs es r q h = all_close slot.Pair _ (each_item m keeps p slot.Pair es refl refl (λ z. refl) (all_open slot.Pair (nodes m keeps es) h))
list_kept_in m keeps p (slot.One c) es r q h = absurd (cc)
list_kept_in m keeps p (slot.Optional c) es r q h = absurd (cc)

list_kept : (m : Changes) (keeps : Bool) (es : List (Kept m keeps)) → Keeps m keeps (Many (nodes m keeps es))
list_kept m keeps es p s r q h =
    rw (substituted_list m keeps p (nodes m keeps es), fits-List (items_substituted m keeps p (nodes m keeps es)) s) (list_kept_in m keeps p s es r q (rw (← fits-List (nodes m keeps es) s) h))

room_single : (s : Slot) (c : Content) → has_room s ≡ true → single s ≡ Some c → takes_written c ≡ true
room_single (slot.One d) c r e = let same : d ≡ c = cc in ap takes_written (sym same) ∙ r
room_single (slot.Optional d) c r e = let same : d ≡ c = cc in ap takes_written (sym same) ∙ r
room_single s c r e = absurd (cc)

tree_is_kept : (m : Changes) (keeps : Bool) (k : Kind) (es : List (Kept m keeps)) → Keeps m keeps (Tree k (nodes m keeps es))
tree_is_kept m keeps k es p s r q h =
    let ts : List Node = nodes m keeps es in
    let o = tree_open k ts s h in
    rw (substituted_tree m keeps p k ts)
    (tree_kept m keeps p k ts (each_substituted m keeps (places keeps p k ts) ts) s o.0 o.1 o.2 o.3 (room_single s (content.Node o.0) r o.1)
    (each_field m keeps (places keeps p k ts) (slots_of k) es (table_has_room k) (λ i z. short_places keeps p (has_source ts) k (field_role k i) z) o.4))

same : (m : Changes) (keeps : Bool) (t : Node) → ((p : Place) → substituted m keeps p t ≡ t) → Keeps m keeps t
same m keeps t e p s r q h = subst (λ u. Fits u s) (sym (e p)) h

layer : (m : Changes) (keeps : Bool) (y : Node-F (Kept m keeps)) → Keeps m keeps (roll-Node (map-Node (Kept m keeps) Node (λ e. e.0) y))
layer m keeps Node-F.Absent = subst (Keeps m keeps) (sym rolls-Absent) (same m keeps Absent (λ p. substituted-Absent m keeps p))
layer m keeps (Node-F.Flag x) = subst (Keeps m keeps) (sym (rolls-Flag x)) (same m keeps (Flag x) (λ p. substituted-Flag m keeps p x))
layer m keeps (Node-F.Word w) = subst (Keeps m keeps) (sym (rolls-Word w)) (same m keeps (Word w) (λ p. substituted-Word m keeps p w))
layer m keeps (Node-F.Text x) = subst (Keeps m keeps) (sym (rolls-Text x)) (same m keeps (Text x) (λ p. substituted-Text m keeps p x))
layer m keeps (Node-F.Span x) = subst (Keeps m keeps) (sym (rolls-Span x)) (same m keeps (Span x) (λ p. substituted-Span m keeps p x))
layer m keeps (Node-F.List es) = subst (Keeps m keeps) (sym (rolls-List (nodes m keeps es))) (list_kept m keeps es)
layer m keeps (Node-F.Identifier k i) =
    subst (Keeps m keeps) (sym (rolls-Identifier k i)) (λ p s r q h. rw (substituted_identifier m keeps p k i) (identifier_fits p k i (changed m p i) s q h))
layer m keeps (Node-F.Tree k es) = subst (Keeps m keeps) (sym (rolls-Tree k (nodes m keeps es))) (tree_is_kept m keeps k es)

pub keeps_fit : (m : Changes) (keeps : Bool) (t : Node) → Keeps m keeps t
keeps_fit m keeps t = ind-Node (Keeps m keeps) (λ x all e. subst (λ x. Keeps m keeps (roll-Node x)) e (layer m keeps all)) t

pub substituted_fits : (m : Changes) (keeps : Bool) (t answer : Node) → Substituted m keeps t answer → FitsAs t answer
substituted_fits m keeps t answer e s r h = rw e (keeps_fit m keeps t place.Other s r (λ z. absurd (cc)) h)
