-- What fits its place still does when its names are given anew.
use Rattle.std.proofs.Common.{◌≡◌, ℕ, Bool, true, false, not, IsTrue, Option, Some, None, List, [], ◌∷◌, map, refl, sym, ap, ◌∙◌, subst, arith}
use Rattle.std.specs.Prelude.{if◌then◌else◌}
use Rattle.swc_tree_marks.specs.declared.span.Span.{Span as Span'}
use Rattle.swc_tree_marks.specs.declared.ident.Ident.{Ident}
use Rattle.swc_tree_node.specs.declared.kind.Kind.{Kind}
use Rattle.swc_tree_node.specs.declared.kind.Kind.TheVariants as kind
use Rattle.swc_tree_node.specs.declared.kind.Word.TheVariants as word
use Rattle.swc_tree_node.specs.declared.kind.Class.{Class}
use Rattle.swc_tree_node.specs.declared.kind.Class.TheVariants as class
use Rattle.swc_tree_node.specs.declared.slot.Content.{Content}
use Rattle.swc_tree_node.specs.declared.slot.Content.TheVariants as content
use Rattle.swc_tree_node.specs.declared.slot.Slot.{Slot}
use Rattle.swc_tree_node.specs.declared.slot.Slot.TheVariants as slot
use Rattle.swc_tree_node.specs.declared.node.Node.{Node, Absent, Flag, Word, Text, Span, List as Many, Identifier, Tree, out-Node, roll-Node, roll-out-Node}
use Rattle.swc_tree_node.specs.declared.node.Node.TheVariants.{rolls-Absent, rolls-Flag, rolls-Word, rolls-Text, rolls-Span, rolls-List, rolls-Identifier, rolls-Tree}
use Rattle.swc_tree_node.specs.declared.node.Node.TheOpen.{Node-F}
use Rattle.swc_tree_node.specs.Table.{slots_of, is_identifier}
use Rattle.swc_tree_node.specs.Fits.{fits, Fits, FieldsFit, AllFit, single, belongs}
use Rattle.swc_tree_node.proofs.Fit.{fits-Absent, fits-Flag, fits-Word, fits-Identifier, fits-Tree, fits-Text, fits-Span, fits-List, list_closes}
use Rattle.swc_base_rename_substitution.specs.declared.place.Place.{Place}
use Rattle.swc_base_rename_substitution.specs.declared.place.Place.TheVariants as place
use Rattle.swc_base_rename_substitution.specs.Names.{Id}
use Rattle.swc_tree_scoping.specs.Shorthands.{key_of, shorthand_key}
use Rattle.swc_base_rename_substitution.specs.Identifiers.{Changes, identifier_at, identifier_in, identifier_to, kept_name, default_in, kept_in, written_out, written_out_if}
use Rattle.swc_base_rename_substitution.specs.Classes.{class_span, kept_class, let_if, let_of_class}
use Rattle.swc_base_rename_substitution.specs.Exports.{export_list, specifier, specifier_to, made}
use Rattle.swc_base_rename_substitution.specs.Substituted.{if_changed, keeps_name, tree_for}
use Rattle.swc_base_rename_substitution.specs.Places.{places}
use Rattle.swc_base_rename_substitution.specs.Room.{implies, takes_written}
use Rattle.swc_base_rename_substitution.proofs.Room.{yes, takes_keys, key_room, is_short, implied, left, right, tree_open, tree_close, identifier_open, identifier_close}

span_fits : (x : Span') → Fits (Span x) (slot.One content.Span)
span_fits x = rw (fits-Span x (slot.One content.Span)) yes

text_fits : (x : List ℕ) → Fits (Text x) (slot.One content.Text)
text_fits x = rw (fits-Text x (slot.One content.Text)) yes

absent_fits : (c : Content) → Fits Absent (slot.Optional c)
absent_fits c = rw (fits-Absent (slot.Optional c)) yes

-- ---- made parts

key_fits : (i : Ident) → Fits (key_of i) (slot.One (content.Node class.PropName))
key_fits i = tree_close kind.IdentName _ _ class.PropName refl yes yes (span_fits i.span, (text_fits i.sym, tt))

text_key_fits : (i : Ident) → Fits (Tree kind.Str (Span i.span ∷ Text i.sym ∷ Absent ∷ [])) (slot.One (content.Node class.Expr))
text_key_fits i = tree_close kind.Str _ _ class.Expr refl yes yes (span_fits i.span, (text_fits i.sym, (absent_fits content.Text, tt)))

either : (b : Bool) (t u : Node) (s : Slot) → Fits t s → Fits u s → Fits (if b then t else u) s
either true t u s h g = h
either false t u s h g = g

shorthand_key_fits : (i : Ident) → Fits (shorthand_key i) (slot.One (content.Node class.PropName))
shorthand_key_fits i = either _ _ (key_of i) (slot.One (content.Node class.PropName))
    (tree_close kind.ComputedPropName _ _ class.PropName refl yes yes (span_fits i.span, (text_key_fits i, tt))) (key_fits i)

name_fits : (i : Ident) (s : Slot) (c : Class) → single s ≡ Some (content.Node c) → IsTrue (belongs kind.Ident c) → Fits (Identifier kind.Ident i) s
name_fits i s c e b = identifier_close kind.Ident i s c e yes b

specifier_fits : (x : Id) (y : Option Id) → Fits (specifier_to x y) (slot.One (content.Node class.ExportSpecifier))
specifier_fits x None = tree_close kind.ExportNamedSpecifier _ _ class.ExportSpecifier refl yes yes (span_fits _, (name_fits (made x) _ class.ModuleExportName refl yes, (absent_fits _, tt)))
specifier_fits x (Some y) = tree_close kind.ExportNamedSpecifier _ _ class.ExportSpecifier refl yes yes (span_fits _, (name_fits (made y) _ class.ModuleExportName refl yes, (name_fits (made (x.0, [])) _ class.ModuleExportName refl yes, tt)))

specifiers_fit : (m : Changes) (xs : List Id) → AllFit (slot.One (content.Node class.ExportSpecifier)) (map (specifier m) xs)
specifiers_fit m [] = tt
specifiers_fit m (x ∷ xs) = (specifier_fits x (m x), specifiers_fit m xs)

pairs_absent : Fits Absent slot.Pairs
pairs_absent = rw (fits-Absent slot.Pairs) yes

pub export_list_fits : (m : Changes) (xs : List Id) (s : Slot) (c : Class) → single s ≡ Some (content.Node c) → IsTrue (belongs kind.NamedExport c) → Fits (export_list m xs) s
export_list_fits m xs s c e b = tree_close kind.NamedExport _ s c e yes b (span_fits _, (list_closes (map (specifier m) xs) (content.Node class.ExportSpecifier) (specifiers_fit m xs), (absent_fits _, (pairs_absent, tt))))

-- ---- identifiers

key_single : (s : Slot) → key_room s ≡ true → takes_keys (single s) ≡ true
key_single (slot.One c) h = h
key_single (slot.Optional c) h = h
key_single (slot.List c) h = refl
key_single (slot.Holes c) h = refl
key_single (slot.OptionalList c) h = refl
key_single slot.Pair h = refl
key_single slot.Pairs h = refl

shorthand_fits : (k : Kind) (i j : Ident) (s : Slot) (c : Class) → single s ≡ Some (content.Node c) → IsTrue (is_identifier k) → IsTrue (belongs k c) → takes_keys (Some (content.Node c)) ≡ true
    → Fits (Tree kind.KeyValueProp (shorthand_key i ∷ Identifier k j ∷ [])) s
shorthand_fits kind.Ident i j s c e a b r =
    tree_close kind.KeyValueProp _ s c e yes (implied (belongs kind.Ident c) (belongs kind.KeyValueProp c) (left _ _ r) b) (shorthand_key_fits i, (name_fits j _ class.Expr refl yes, tt))
shorthand_fits kind.BindingIdent i j s c e a b r =
    let none : not (belongs kind.BindingIdent c) ≡ true = right (implies (belongs kind.Ident c) (belongs kind.KeyValueProp c)) _ r in
    let some : not (belongs kind.BindingIdent c) ≡ false = ap not b in
    absurd (cc)
shorthand_fits k i j s c e a b r = absurd (grind arith)

pub identifier_fits : (p : Place) (k : Kind) (i : Ident) (j : Option Ident) (s : Slot) → (is_short p ≡ true → key_room s ≡ true) → Fits (Identifier k i) s → Fits (identifier_to p k i j) s
identifier_fits place.ClassName k i j s r h = let o = identifier_open k i s h in identifier_close k (kept_name i) s o.0 o.1 o.2 o.3
identifier_fits place.Name k i None s r h = h
identifier_fits place.Shorthand k i None s r h = h
identifier_fits place.Exported k i None s r h = h
identifier_fits place.Other k i None s r h = h
identifier_fits place.Name k i (Some j) s r h = let o = identifier_open k i s h in identifier_close k j s o.0 o.1 o.2 o.3
identifier_fits place.Exported k i (Some j) s r h = let o = identifier_open k i s h in identifier_close k j s o.0 o.1 o.2 o.3
identifier_fits place.Other k i (Some j) s r h = let o = identifier_open k i s h in identifier_close k j s o.0 o.1 o.2 o.3
identifier_fits place.Shorthand k i (Some j) s r h =
    let o = identifier_open k i s h in
    let keys : takes_keys (Some (content.Node o.0)) ≡ true = ap takes_keys (sym o.1) ∙ key_single s (r refl) in
    shorthand_fits k i j s o.0 o.1 o.2 o.3 keys

-- ---- places that take more

refuted : (t u : Node) (s : Slot) → t ≡ u → fits u s ≡ false → Fits t s → ⊥
refuted t u s e f h = let g : fits t s ≡ false = ap (λ t. fits t s) e ∙ f in absurd (cc)

again : (t u : Node) (s s' : Slot) {b : Bool} → t ≡ u → fits u s ≡ b → fits u s' ≡ b → Fits t s → Fits t s'
again t u s s' e f g h = ap (λ t. fits t s') e ∙ g ∙ sym f ∙ sym (ap (λ t. fits t s) e) ∙ h

-- what fits one place fits another that takes each of its kinds
widen : (y : Node-F Node) (t : Node) (s : Slot) (c d : Class) → t ≡ roll-Node y → single s ≡ Some (content.Node d) → ((k : Kind) → IsTrue (belongs k c) → IsTrue (belongs k d))
    → Fits t (slot.One (content.Node c)) → Fits t s
widen (Node-F.Tree k ts) t s c d e f more h =
    let is : t ≡ Tree k ts = e ∙ rolls-Tree k ts in
    let o = tree_open k ts (slot.One (content.Node c)) (subst (λ t. Fits t (slot.One (content.Node c))) is h) in
    let same : o.0 ≡ c = let q = o.1 in cc in
    subst (λ t. Fits t s) (sym is) (tree_close k ts s d f o.2 (more k (subst (λ c. IsTrue (belongs k c)) same o.3)) o.4)
widen (Node-F.Identifier k i) t s c d e f more h =
    let is : t ≡ Identifier k i = e ∙ rolls-Identifier k i in
    let o = identifier_open k i (slot.One (content.Node c)) (subst (λ t. Fits t (slot.One (content.Node c))) is h) in
    let same : o.0 ≡ c = let q = o.1 in cc in
    subst (λ t. Fits t s) (sym is) (identifier_close k i s d f o.2 (more k (subst (λ c. IsTrue (belongs k c)) same o.3)))
widen Node-F.Absent t s c d e f more h = absurd (refuted t Absent _ (e ∙ rolls-Absent) (fits-Absent _) h)
widen (Node-F.Flag x) t s c d e f more h = absurd (refuted t (Flag x) _ (e ∙ rolls-Flag x) (fits-Flag x _) h)
widen (Node-F.Word w) t s c d e f more h = absurd (refuted t (Word w) _ (e ∙ rolls-Word w) (fits-Word w _) h)
widen (Node-F.Text x) t s c d e f more h = absurd (refuted t (Text x) _ (e ∙ rolls-Text x) (fits-Text x _) h)
widen (Node-F.Span x) t s c d e f more h = absurd (refuted t (Span x) _ (e ∙ rolls-Span x) (fits-Span x _) h)
widen (Node-F.List ts) t s c d e f more h = absurd (refuted t (Many ts) _ (e ∙ rolls-List ts) (fits-List ts _) h)

pub wider : (t : Node) (s : Slot) (c d : Class) → single s ≡ Some (content.Node d) → ((k : Kind) → IsTrue (belongs k c) → IsTrue (belongs k d)) → Fits t (slot.One (content.Node c)) → Fits t s
wider t s c d f more h = widen (out-Node t) t s c d (sym (roll-out-Node t)) f more h

targets_wide : (k : Kind) → IsTrue (belongs k class.BindingIdent) → IsTrue (belongs k class.Pat)
targets_wide kind.BindingIdent h = yes
targets_wide k h = absurd (cc)

-- what stands in an optional place, and is not left out, stands in one that is not optional
here_in : (y : Node-F Node) (t : Node) (c : Content) → t ≡ roll-Node y → (y ≡ Node-F.Absent → ⊥) → Fits t (slot.Optional c) → Fits t (slot.One c)
here_in Node-F.Absent t c e n h = absurd (n refl)
here_in (Node-F.Flag x) t c e n h = again t (Flag x) _ _ (e ∙ rolls-Flag x) (fits-Flag x _) (fits-Flag x _) h
here_in (Node-F.Word w) t c e n h = again t (Word w) _ _ (e ∙ rolls-Word w) (fits-Word w _) (fits-Word w _) h
here_in (Node-F.Text x) t c e n h = again t (Text x) _ _ (e ∙ rolls-Text x) (fits-Text x _) (fits-Text x _) h
here_in (Node-F.Span x) t c e n h = again t (Span x) _ _ (e ∙ rolls-Span x) (fits-Span x _) (fits-Span x _) h
here_in (Node-F.List ts) t c e n h = again t (Many ts) _ _ (e ∙ rolls-List ts) (fits-List ts _) (fits-List ts _) h
here_in (Node-F.Identifier k i) t c e n h = again t (Identifier k i) _ _ (e ∙ rolls-Identifier k i) (fits-Identifier k i _) (fits-Identifier k i _) h
here_in (Node-F.Tree k ts) t c e n h = again t (Tree k ts) _ _ (e ∙ rolls-Tree k ts) (fits-Tree k ts _) (fits-Tree k ts _) h

-- ---- nodes that write a name out

assigned : (i : Ident) (target value : Node) → Fits target (slot.One (content.Node class.Pat)) → Fits value (slot.One (content.Node class.Expr))
    → Fits (Tree kind.AssignPat (Span i.span ∷ target ∷ value ∷ [])) (slot.One (content.Node class.Pat))
assigned i target value f g = tree_close kind.AssignPat _ _ class.Pat refl yes yes (span_fits i.span, (f, (g, tt)))

default_fits : (y : Node-F Node) (i : Ident) (target value : Node) → value ≡ roll-Node y → Fits target (slot.One (content.Node class.Pat)) → Fits value (slot.Optional (content.Node class.Expr))
    → Fits (default_in i target value y) (slot.One (content.Node class.Pat))
default_fits Node-F.Absent i target value e f g = f
default_fits y i target value e f g = assigned i target value f (here_in y value (content.Node class.Expr) e (λ n. absurd (cc)) g)

kept_fits : (y : Node-F Node) (i : Ident) (t : Node) → Fits t (slot.Optional (content.Node class.ModuleExportName)) → Fits (kept_in i t y) (slot.Optional (content.Node class.ModuleExportName))
kept_fits Node-F.Absent i t h = name_fits (kept_name i) _ class.ModuleExportName refl yes
kept_fits y i t h = h

written_fits : (k : Kind) (i : Ident) (ts : List Node) (s : Slot) (c : Class) → single s ≡ Some (content.Node c) → IsTrue (not (is_identifier k)) → IsTrue (belongs k c) → takes_written (content.Node c) ≡ true
    → FieldsFit (slots_of k) ts → Fits (written_out k i ts) s
written_fits kind.AssignPatProp i (a ∷ target ∷ value ∷ []) s c e n b r f =
    let more : IsTrue (belongs kind.KeyValuePatProp c) = implied (belongs kind.AssignPatProp c) (belongs kind.KeyValuePatProp c) (right _ _ r) b in
    tree_close kind.KeyValuePatProp _ s c e yes more
    (key_fits i, (default_fits (out-Node value) i target value (sym (roll-out-Node value)) (wider target _ class.BindingIdent class.Pat refl targets_wide f.1.0) f.1.1.0, tt))
written_fits kind.ImportNamedSpecifier i (a ∷ name ∷ other ∷ []) s c e n b r f =
    tree_close kind.ImportNamedSpecifier _ s c e n b (f.0, (f.1.0, (kept_fits (out-Node other) i other f.1.1.0, tt)))
written_fits kind.ExportNamedSpecifier i (a ∷ name ∷ other ∷ []) s c e n b r f =
    tree_close kind.ExportNamedSpecifier _ s c e n b (f.0, (f.1.0, (kept_fits (out-Node other) i other f.1.1.0, tt)))
written_fits k i ts s c e n b r f = tree_close k ts s c e n b f

written_if_fits : (k : Kind) (i : Option Ident) (ts : List Node) (s : Slot) (c : Class) → single s ≡ Some (content.Node c) → IsTrue (not (is_identifier k)) → IsTrue (belongs k c) → takes_written (content.Node c) ≡ true
    → FieldsFit (slots_of k) ts → Fits (written_out_if k i ts) s
written_if_fits k None ts s c e n b r f = tree_close k ts s c e n b f
written_if_fits k (Some i) ts s c e n b r f = written_fits k i ts s c e n b r f

-- ---- classes

let_fits : (x : Span') (i j : Ident) (class' : Node) (s : Slot) (c : Class) → single s ≡ Some (content.Node c) → IsTrue (belongs kind.VarDecl c) → Fits class' (slot.One (content.Node class.Class))
    → Fits (let_of_class x i j class') s
let_fits x i j class' s c e b f =
    let expression : Fits (Tree kind.ClassExpr (Identifier kind.Ident (kept_name i) ∷ class' ∷ [])) (slot.Optional (content.Node class.Expr))
    = tree_close kind.ClassExpr _ _ class.Expr refl yes yes (name_fits (kept_name i) _ class.Ident refl yes, (f, tt)) in
    let declarator : Fits (Tree kind.VarDeclarator (Span x ∷ Identifier kind.BindingIdent j ∷ Tree kind.ClassExpr (Identifier kind.Ident (kept_name i) ∷ class' ∷ []) ∷ [])) (slot.One (content.Node class.VarDeclarator))
    = tree_close kind.VarDeclarator _ _ class.VarDeclarator refl yes yes (span_fits x, (identifier_close kind.BindingIdent j _ class.Pat refl yes yes, (expression, tt))) in
    tree_close kind.VarDecl _ s c e yes b (span_fits x, (rw (fits-Word word.Let _) yes, (list_closes _ (content.Node class.VarDeclarator) (declarator, tt), tt)))

let_if_fits : (j : Option Ident) (x : Option Span') (i : Ident) (name class' : Node) (s : Slot) (c : Class) → single s ≡ Some (content.Node c) → IsTrue (belongs kind.ClassDecl c) → IsTrue (belongs kind.VarDecl c)
    → FieldsFit (slots_of kind.ClassDecl) (name ∷ class' ∷ []) → Fits (let_if j x i name class') s
let_if_fits (Some j) (Some x) i name class' s c e b more f = let_fits x i j class' s c e more f.1.0
let_if_fits (Some j) None i name class' s c e b more f = tree_close kind.ClassDecl _ s c e yes b f
let_if_fits None x i name class' s c e b more f = tree_close kind.ClassDecl _ s c e yes b f

class_fits : (i : Option Ident) (ts : List Node) (s : Slot) (c : Class) → single s ≡ Some (content.Node c) → IsTrue (belongs kind.ClassDecl c) → IsTrue (belongs kind.VarDecl c)
    → FieldsFit (slots_of kind.ClassDecl) ts → Fits (kept_class i ts) s
class_fits (Some i) (name ∷ class' ∷ []) s c e b more f = let_if_fits (identifier_in (out-Node name)) (class_span class') i name class' s c e b more f
class_fits i ts s c e b more f = tree_close kind.ClassDecl ts s c e yes b f

pub tree_kept : (m : Changes) (keeps : Bool) (p : Place) (k : Kind) (ts rs : List Node) (s : Slot) (c : Class) → single s ≡ Some (content.Node c) → IsTrue (not (is_identifier k)) → IsTrue (belongs k c)
    → takes_written (content.Node c) ≡ true → FieldsFit (slots_of k) rs → Fits (tree_for m keeps p k ts rs) s
tree_kept m keeps p kind.ClassDecl ts rs s c e n b r f =
    either (keeps_name keeps p kind.ClassDecl) (kept_class (identifier_at ts 0) rs) (written_out_if kind.ClassDecl (if_changed m (places keeps p kind.ClassDecl ts 1) (identifier_at ts 1)) rs) s
    (class_fits (identifier_at ts 0) rs s c e b (implied (belongs kind.ClassDecl c) (belongs kind.VarDecl c) (left _ _ r) b) f)
    (written_if_fits kind.ClassDecl (if_changed m (places keeps p kind.ClassDecl ts 1) (identifier_at ts 1)) rs s c e n b r f)
tree_kept m keeps p k ts rs s c e n b r f = written_if_fits k (if_changed m (places keeps p k ts 1) (identifier_at ts 1)) rs s c e n b r f
