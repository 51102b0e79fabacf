-- Each part of a tree that can be written down can, or holds no statement.
use Rattle.std.proofs.Common.{◌≡◌, ℕ, zero, suc, Bool, true, false, not, ◌&&◌, IsTrue, ⊎_elim, Option, Some, None, List, [], ◌∷◌, map, length, refl, sym, ap, ◌∙◌, subst, cond, true≢false}
use Rattle.std.specs.List.{slice_get}
use Rattle.swc_tree_node.specs.declared.kind.Kind.{Kind}
use Rattle.swc_tree_node.specs.declared.kind.Kind.TheVariants as kind
use Rattle.swc_tree_node.specs.declared.kind.Class.{Class}
use Rattle.swc_tree_node.specs.declared.kind.Class.TheVariants as class
use Rattle.swc_tree_node.specs.declared.slot.Content.TheVariants as content
use Rattle.swc_tree_node.specs.declared.slot.Slot.{Slot}
use Rattle.swc_tree_node.specs.declared.slot.Slot.TheVariants as slot
use Rattle.swc_tree_node.specs.declared.node.Node.{Node, List as Many, Tree, out-Node, roll-Node, roll-out-Node}
use Rattle.swc_tree_node.specs.declared.node.Node.TheOpen.{Node-F}
use Rattle.swc_tree_node.specs.declared.node.Node.TheVariants.{outs-List, outs-Tree}
use Rattle.swc_tree_node.specs.Table.{fields_of, is_identifier, slots_of}
use Rattle.swc_tree_node.specs.Fits.{Fits, Test, belongs, each_fits, fits, single, tree_fits}
use Rattle.swc_tree_node.proofs.Fit.{both, lengths}
use Rattle.swc_tree_scoping.specs.declared.places.Place.{Place}
use Rattle.swc_tree_scoping.specs.Places.{Path, child, children_in, is_at, place_at, place_below}
use Rattle.swc_tree_scoping.proofs.Under.{no_place_under, place_under}
use Rattle.swc_tree_grammar.specs.Forms.{form, is_body, is_using}
use Rattle.swc_tree_grammar.specs.Writable.{Asked, Round, all_sound, binding, head, in_head_in, sound_in}
use Rattle.swc_tree_grammar.proofs.Asked.{asked_list, head_tree, in_head, of, sound, sound_list, sound_tree}
use Rattle.swc_tree_sites.proofs.Leaves.{Field}
use Rattle.swc_base_rename_analysis.specs.Analysis.{body_field}
use Rattle.swc_base_rename_scoped_laws.proofs.Fields.{field_at, fields_at, item_at, item_of, layer, same_number}
use Rattle.swc_base_rename_scoped_laws.proofs.Rows.{EachStatus, Heads, Sounds, Status, exact3, exact4, exact5, first_sound, half, heard, is_quiet, is_quiet_class, is_quiet_in, is_quiet_kind, rest_sound, row, still}

pub is_tree : (t : Node) (k : Kind) (ts : List Node) → out-Node t ≡ Node-F.Tree k ts → t ≡ Tree k ts
is_tree t k ts o = sym (roll-out-Node t) ∙ ap roll-Node (o ∙ sym (outs-Tree k ts)) ∙ roll-out-Node (Tree k ts)

is_list : (t : Node) (ts : List Node) → out-Node t ≡ Node-F.List ts → t ≡ Many ts
is_list t ts o = sym (roll-out-Node t) ∙ ap roll-Node (o ∙ sym (outs-List ts)) ∙ roll-out-Node (Many ts)

status_at : (fs : List Field) (ts : List Node) (i : ℕ) (f : Field) (c : Node) → EachStatus fs ts → slice_get fs i ≡ Some f → slice_get ts i ≡ Some c → Status c f.1
status_at [] ts i f c h e g = absurd (cc)
status_at (x ∷ fs) [] i f c h e g = absurd (cc)
status_at (x ∷ fs) (t ∷ ts) zero f c h e g = let one : x ≡ f = cc in let same : t ≡ c = cc in subst (λ c. Status c f.1) same (subst (λ (f : Field). Status t f.1) one h.0)
status_at (x ∷ fs) (t ∷ ts) (suc i) f c h e g = status_at fs ts i f c h.1 e g

-- a declaration in the head of a `for` statement
var_head : (a b c : Node) (r : Round) → in_head_in (Node-F.Tree kind.VarDecl (of a ∷ of b ∷ of c ∷ [])) r ≡ true → EachStatus (fields_of kind.VarDecl) (a ∷ b ∷ c ∷ [])
var_head a b c r h = let p = half h in (still refl, (still refl, (heard (binding r) p.1, tt)))

using_head : (a b c : Node) (r : Round) → in_head_in (Node-F.Tree kind.UsingDecl (of a ∷ of b ∷ of c ∷ [])) r ≡ true → EachStatus (fields_of kind.UsingDecl) (a ∷ b ∷ c ∷ [])
using_head a b c r h = let p = half h in let q = half p.1 in (still refl, (still refl, (heard (binding r) q.1, tt)))

head_row : (k : Kind) (ts : List Node) (r : Round) → length ts ≡ length (slots_of k) → in_head_in (Node-F.Tree k (map of ts)) r ≡ true → EachStatus (fields_of k) ts
head_row kind.VarDecl ts r n h = exact3 (λ ts. in_head_in (Node-F.Tree kind.VarDecl (map of ts)) r ≡ true → EachStatus (fields_of kind.VarDecl) ts) ts n (λ a b c h. var_head a b c r h) h
head_row kind.UsingDecl ts r n h = exact3 (λ ts. in_head_in (Node-F.Tree kind.UsingDecl (map of ts)) r ≡ true → EachStatus (fields_of kind.UsingDecl) ts) ts n (λ a b c h. using_head a b c r h) h
head_row _ ts r n h = absurd (true≢false (sym h))

-- kinds that hold no statement
abbrev all_quiet : List Field → Bool
all_quiet [] = true
all_quiet (f ∷ fs) = is_quiet f.1 && all_quiet fs

then_so : (a b : Bool) → cond a b true ≡ true → a ≡ true → b ≡ true
then_so true b h e = h
then_so false b h e = absurd (cc)

kind_quiet : (k : Kind) → cond (is_quiet_kind k) (all_quiet (fields_of k)) true ≡ true
kind_quiet kind.Module = refl
kind_quiet _ = refl

ident_kind : (k : Kind) → IsTrue (belongs k class.Ident) → is_quiet_kind k ≡ true
ident_kind kind.Ident h = refl
ident_kind _ h = absurd (true≢false (sym h))

ident_name_kind : (k : Kind) → IsTrue (belongs k class.IdentName) → is_quiet_kind k ≡ true
ident_name_kind kind.IdentName h = refl
ident_name_kind _ h = absurd (true≢false (sym h))

private_name_kind : (k : Kind) → IsTrue (belongs k class.PrivateName) → is_quiet_kind k ≡ true
private_name_kind kind.PrivateName h = refl
private_name_kind _ h = absurd (true≢false (sym h))

str_kind : (k : Kind) → IsTrue (belongs k class.Str) → is_quiet_kind k ≡ true
str_kind kind.Str h = refl
str_kind _ h = absurd (true≢false (sym h))

tpl_element_kind : (k : Kind) → IsTrue (belongs k class.TplElement) → is_quiet_kind k ≡ true
tpl_element_kind kind.TplElement h = refl
tpl_element_kind _ h = absurd (true≢false (sym h))

import_specifier_kind : (k : Kind) → IsTrue (belongs k class.ImportSpecifier) → is_quiet_kind k ≡ true
import_specifier_kind kind.ImportNamedSpecifier h = refl
import_specifier_kind kind.ImportDefaultSpecifier h = refl
import_specifier_kind kind.ImportStarAsSpecifier h = refl
import_specifier_kind _ h = absurd (true≢false (sym h))

export_specifier_kind : (k : Kind) → IsTrue (belongs k class.ExportSpecifier) → is_quiet_kind k ≡ true
export_specifier_kind kind.ExportNamespaceSpecifier h = refl
export_specifier_kind kind.ExportNamedSpecifier h = refl
export_specifier_kind _ h = absurd (true≢false (sym h))

module_export_name_kind : (k : Kind) → IsTrue (belongs k class.ModuleExportName) → is_quiet_kind k ≡ true
module_export_name_kind kind.Ident h = refl
module_export_name_kind kind.Str h = refl
module_export_name_kind _ h = absurd (true≢false (sym h))

class_kind : (k : Kind) (c : Class) → is_quiet_class c ≡ true → IsTrue (belongs k c) → is_quiet_kind k ≡ true
class_kind k class.Ident q h = ident_kind k h
class_kind k class.IdentName q h = ident_name_kind k h
class_kind k class.PrivateName q h = private_name_kind k h
class_kind k class.Str q h = str_kind k h
class_kind k class.TplElement q h = tpl_element_kind k h
class_kind k class.ImportSpecifier q h = import_specifier_kind k h
class_kind k class.ExportSpecifier q h = export_specifier_kind k h
class_kind k class.ModuleExportName q h = module_export_name_kind k h
class_kind k _ q h = absurd (cc)

node_kind : (k : Kind) (fs : List Test) (c : Class) → is_quiet_class c ≡ true → IsTrue (not (is_identifier k) && (belongs k c && each_fits (slots_of k) fs)) → is_quiet_kind k ≡ true
node_kind k fs c q h = class_kind k c q (both (belongs k c) (each_fits (slots_of k) fs) (both (not (is_identifier k)) (belongs k c && each_fits (slots_of k) fs) h).1).0

slot_kind : (k : Kind) (fs : List Test) (s : Slot) → is_quiet s ≡ true → IsTrue (tree_fits k fs (single s)) → is_quiet_kind k ≡ true
slot_kind k fs (slot.One (content.Node c)) q h = node_kind k fs c q h
slot_kind k fs (slot.Optional (content.Node c)) q h = node_kind k fs c q h
slot_kind k fs (slot.One _) q h = absurd (cc)
slot_kind k fs (slot.Optional _) q h = absurd (cc)
slot_kind k fs _ q h = absurd (cc)

quiet_at : (fs : List Field) (i : ℕ) (f : Field) → all_quiet fs ≡ true → slice_get fs i ≡ Some f → is_quiet f.1 ≡ true
quiet_at [] i f h e = absurd (cc)
quiet_at (x ∷ fs) zero f h e = let one : x ≡ f = cc in ap (λ (f : Field). is_quiet f.1) (sym one) ∙ (half {a = is_quiet x.1} h).0
quiet_at (x ∷ fs) (suc i) f h e = quiet_at fs i f (half {a = is_quiet x.1} h).1 e

quiet_field : (k : Kind) (i : ℕ) (f : Field) → is_quiet_kind k ≡ true → slice_get (fields_of k) i ≡ Some f → is_quiet f.1 ≡ true
quiet_field k i f q e = quiet_at (fields_of k) i f (then_so (is_quiet_kind k) (all_quiet (fields_of k)) (kind_quiet k) q) e

-- a field of a node
field_status : (t c : Node) (k : Kind) (ts : List Node) (s : Slot) (i : ℕ) (f : Field) → out-Node t ≡ Node-F.Tree k ts → Fits t s → Status t s → slice_get ts i ≡ Some c → slice_get (fields_of k) i ≡ Some f → Status c f.1
field_status t c k ts s i f o fit status e number = ⊎_elim sounds (λ g. ⊎_elim heads (λ q. ⊎_elim by_slot by_kind q) g) status.how
  where
    as_many : length ts ≡ length (slots_of k)
    as_many = lengths (slots_of k) ts (fields_at t k ts s o fit)

    sounds : Sounds t → Status c f.1
    sounds (r, h) = status_at (fields_of k) ts i f c (row k ts r as_many (fields_at t k ts s o fit) (sym (sound_tree k ts r) ∙ ap (λ t. sound t r) (sym (is_tree t k ts o)) ∙ h)) number e

    heads : Heads t → Status c f.1
    heads (r, h) = status_at (fields_of k) ts i f c (head_row k ts r as_many (sym (head_tree k ts r) ∙ ap (λ t. in_head t r) (sym (is_tree t k ts o)) ∙ h)) number e

    by_slot : is_quiet s ≡ true → Status c f.1
    by_slot q = still (quiet_field k i f (slot_kind k (map fits ts) s q (layer t (Node-F.Tree k ts) s o fit)) number)

    by_kind : is_quiet_in (out-Node t) ≡ true → Status c f.1
    by_kind q = still (quiet_field k i f (sym (ap is_quiet_in o) ∙ q) number)

-- an item of a list
item_sound : (ts : List Node) (i : ℕ) (c : Node) (r : Round) → all_sound (map of ts) r ≡ true → slice_get ts i ≡ Some c → sound c r ≡ true
item_sound [] i c r h e = absurd (cc)
item_sound (t ∷ ts) zero c r h e = let one : t ≡ c = cc in ap (λ c. sound c r) (sym one) ∙ first_sound t (map of ts) r h
item_sound (t ∷ ts) (suc i) c r h e = item_sound ts i c r (rest_sound t (map of ts) r h) e

item_quiet : (s u : Slot) → item_of s u → is_quiet s ≡ true → is_quiet u ≡ true
item_quiet (slot.List (content.Node c)) u e q = ap is_quiet e ∙ q
item_quiet (slot.Holes (content.Node c)) u e q = ap is_quiet e ∙ q
item_quiet (slot.OptionalList (content.Node c)) u e q = ap is_quiet e ∙ q
item_quiet (slot.List _) u e q = ap is_quiet e
item_quiet (slot.Holes _) u e q = ap is_quiet e
item_quiet (slot.OptionalList _) u e q = ap is_quiet e
item_quiet slot.Pair u e q = ap is_quiet e
item_quiet slot.Pairs u e q = ap is_quiet e
item_quiet _ u e q = absurd e

no_list : {A : Type 0} → false ≡ true → A
no_list h = absurd (cc)

item_status : (t c : Node) (ts : List Node) (s u : Slot) (i : ℕ) → out-Node t ≡ Node-F.List ts → Status t s → slice_get ts i ≡ Some c → item_of s u → Status c u
item_status t c ts s u i o status e one = ⊎_elim sounds (λ g. ⊎_elim heads (λ q. ⊎_elim by_slot by_kind q) g) status.how
  where
    sounds : Sounds t → Status c u
    sounds (r, h) = heard r (item_sound ts i c r (sym (sound_list ts r) ∙ ap (λ t. sound t r) (sym (is_list t ts o)) ∙ h) e)

    heads : Heads t → Status c u
    heads (r, h) = no_list (sym (ap (λ (e : Asked). e.in_head r) (asked_list ts)) ∙ ap (λ t. in_head t r) (sym (is_list t ts o)) ∙ h)

    by_slot : is_quiet s ≡ true → Status c u
    by_slot q = still (item_quiet s u one q)

    by_kind : is_quiet_in (out-Node t) ≡ true → Status c u
    by_kind q = no_list (sym (ap is_quiet_in o) ∙ q)

-- what stands at a path
some_same : (a b : Place × Node) → Some a ≡ Some b → a ≡ b
some_same a b e = cc

no_place : (z : Place × Node) → Some z ≡ None → ⊥
no_place z e = absurd (cc)

no_child : {A : Type 0} (t c : Node) (j : ℕ) (y : Node-F Node) → out-Node t ≡ y → slice_get (children_in y) j ≡ None → child t j ≡ Some c → A
no_child t c j y o n e = let z : Some c ≡ None = sym e ∙ ap (λ y. slice_get (children_in y) j) o ∙ n in absurd (cc)

abbrev pub Stands : Node → Type 0
Stands n = (s : Slot) × Fits n s × Status n s

pub status_there : (p : Path) (w v : Place) (t n : Node) (s : Slot) → Fits t s → Status t s → place_at w t p ≡ Some (v, n) → Stands n
status_there [] w v t n s fit status e = subst Stands (ap (λ (z : Place × Node). z.1) (some_same (w, t) (v, n) e)) (s, fit, status)
status_there (j ∷ p) w v t n s fit status e = at (child t j) refl (λ c u. status_there p (place_below w t j) v c n u)
  where
    at : (o : Option Node) → child t j ≡ o → ((c : Node) (u : Slot) → Fits c u → Status c u → place_at (place_below w t j) c p ≡ Some (v, n) → Stands n) → Stands n
    at None z more = absurd (no_place (v, n) (sym e ∙ no_place_under w t j p z))
    at (Some c) z more = forms (out-Node t) refl
      where
        below : place_at (place_below w t j) c p ≡ Some (v, n)
        below = sym (place_under w t c j p z) ∙ e

        there : (y : Node-F Node) → out-Node t ≡ y → slice_get (children_in y) j ≡ Some c
        there y o = sym (ap (λ y. slice_get (children_in y) j) o) ∙ z

        forms : (y : Node-F Node) → out-Node t ≡ y → Stands n
        forms (Node-F.Tree k ts) o = let (f, number, fits_it) = field_at t c k ts s j o fit z in more c f.1 fits_it (field_status t c k ts s j f o fit status (there (Node-F.Tree k ts) o) number) below
        forms (Node-F.List ts) o = let (u, fits_it, one) = item_at t c ts s j o fit z in more c u fits_it (item_status t c ts s u j o status (there (Node-F.List ts) o) one) below
        forms Node-F.Absent o = no_child t c j Node-F.Absent o refl z
        forms (Node-F.Flag x) o = no_child t c j (Node-F.Flag x) o refl z
        forms (Node-F.Word x) o = no_child t c j (Node-F.Word x) o refl z
        forms (Node-F.Text x) o = no_child t c j (Node-F.Text x) o refl z
        forms (Node-F.Span x) o = no_child t c j (Node-F.Span x) o refl z
        forms (Node-F.Identifier l i) o = no_child t c j (Node-F.Identifier l i) o refl z

-- the body of a `for` statement
abbrev pub IsSoundBody : Node → Type 0
IsSoundBody c = (r : Round) × ((sound c r ≡ true) × (is_body (form c) ≡ true))

fourth : (a b c d e : Node) → slice_get (a ∷ b ∷ c ∷ d ∷ []) 3 ≡ Some e → d ≡ e
fourth a b c d e h = cc

fifth : (a b c d e f : Node) → slice_get (a ∷ b ∷ c ∷ d ∷ e ∷ []) 4 ≡ Some f → e ≡ f
fifth a b c d e f h = cc

abbrev IsSoundIn : Round → Node → Type 0
IsSoundIn r c = (sound c r ≡ true) × (is_body (form c) ≡ true)

for_sound : (x i t u b : Node) (r : Round) → sound_in (Node-F.Tree kind.ForStmt (of x ∷ of i ∷ of t ∷ of u ∷ of b ∷ [])) r ≡ true → IsSoundIn r b
for_sound x i t u b r h = let p = half h in let q = half p.1 in (q.1, q.0)

for_in_sound : (x l t b : Node) (r : Round) → sound_in (Node-F.Tree kind.ForInStmt (of x ∷ of l ∷ of t ∷ of b ∷ [])) r ≡ true → IsSoundIn r b
for_in_sound x l t b r h = let p = half {a = not (is_using l)} h in let q = half {a = head (of l) r} p.1 in let d = half {a = all_sound (of t ∷ []) (binding r)} q.1 in let m = half d.1 in (m.1, m.0)

for_of_sound : (x a l t b : Node) (r : Round) → sound_in (Node-F.Tree kind.ForOfStmt (of x ∷ of a ∷ of l ∷ of t ∷ of b ∷ [])) r ≡ true → IsSoundIn r b
for_of_sound x a l t b r h = let q = half {a = head (of l) r} h in let d = half {a = all_sound (of t ∷ []) (binding r)} q.1 in let m = half d.1 in (m.1, m.0)

sound_body : (k : Kind) (ts : List Node) (r : Round) (j : ℕ) (c : Node) → is_at (body_field k) j ≡ true → length ts ≡ length (slots_of k) → sound_in (Node-F.Tree k (map of ts)) r ≡ true → slice_get ts j ≡ Some c → IsSoundBody c
sound_body kind.ForStmt ts r j c is n h e = let four : j ≡ 4 = sym (same_number 4 j is) in (
  r,
  exact5 (λ ts. sound_in (Node-F.Tree kind.ForStmt (map of ts)) r ≡ true → slice_get ts 4 ≡ Some c → IsSoundIn r c) ts n
      (λ x i t u b h e. subst (IsSoundIn r) (fifth x i t u b c e) (for_sound x i t u b r h)) h (ap (slice_get ts) (sym four) ∙ e),
)
sound_body kind.ForInStmt ts r j c is n h e = let three : j ≡ 3 = sym (same_number 3 j is) in (
  r,
  exact4 (λ ts. sound_in (Node-F.Tree kind.ForInStmt (map of ts)) r ≡ true → slice_get ts 3 ≡ Some c → IsSoundIn r c) ts n
      (λ x l t b h e. subst (IsSoundIn r) (fourth x l t b c e) (for_in_sound x l t b r h)) h (ap (slice_get ts) (sym three) ∙ e),
)
sound_body kind.ForOfStmt ts r j c is n h e = let four : j ≡ 4 = sym (same_number 4 j is) in (
  r,
  exact5 (λ ts. sound_in (Node-F.Tree kind.ForOfStmt (map of ts)) r ≡ true → slice_get ts 4 ≡ Some c → IsSoundIn r c) ts n
      (λ x a l t b h e. subst (IsSoundIn r) (fifth x a l t b c e) (for_of_sound x a l t b r h)) h (ap (slice_get ts) (sym four) ∙ e),
)
sound_body _ ts r j c is n h e = absurd (true≢false (sym is))

no_head : (k : Kind) (ts : List Node) (r : Round) (j : ℕ) → is_at (body_field k) j ≡ true → in_head_in (Node-F.Tree k (map of ts)) r ≡ true → ⊥
no_head kind.ForStmt ts r j is h = absurd (cc)
no_head kind.ForInStmt ts r j is h = absurd (cc)
no_head kind.ForOfStmt ts r j is h = absurd (cc)
no_head _ ts r j is h = absurd (true≢false (sym is))

not_quiet : (k : Kind) (j : ℕ) → is_at (body_field k) j ≡ true → is_quiet_kind k ≡ true → ⊥
not_quiet kind.ForStmt j is h = absurd (cc)
not_quiet kind.ForInStmt j is h = absurd (cc)
not_quiet kind.ForOfStmt j is h = absurd (cc)
not_quiet _ j is h = absurd (true≢false (sym is))

pub body_there : (t c : Node) (k : Kind) (ts : List Node) (s : Slot) (j : ℕ) → out-Node t ≡ Node-F.Tree k ts → Fits t s → Status t s → is_at (body_field k) j ≡ true → child t j ≡ Some c → IsSoundBody c
body_there t c k ts s j o fit status is e = ⊎_elim sounds (λ g. ⊎_elim heads (λ q. ⊎_elim by_slot by_kind q) g) status.how
  where
    sounds : Sounds t → IsSoundBody c
    sounds (r, h) = sound_body k ts r j c is (lengths (slots_of k) ts (fields_at t k ts s o fit)) (sym (sound_tree k ts r) ∙ ap (λ t. sound t r) (sym (is_tree t k ts o)) ∙ h) (sym (ap (λ y. slice_get (children_in y) j) o) ∙ e)

    heads : Heads t → IsSoundBody c
    heads (r, h) = absurd (no_head k ts r j is (sym (head_tree k ts r) ∙ ap (λ t. in_head t r) (sym (is_tree t k ts o)) ∙ h))

    by_slot : is_quiet s ≡ true → IsSoundBody c
    by_slot q = absurd (not_quiet k j is (slot_kind k (map fits ts) s q (layer t (Node-F.Tree k ts) s o fit)))

    by_kind : is_quiet_in (out-Node t) ≡ true → IsSoundBody c
    by_kind q = absurd (not_quiet k j is (sym (ap is_quiet_in o) ∙ q))
