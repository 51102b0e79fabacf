-- What the table says of places that hold names, and of those that take pairs of parentheses.
use Rattle.std.proofs.Common.{◌≡◌, ℕ, zero, suc, Bool, true, false, not, ◌&&◌, ◌||◌, ◌==◌, IsTrue, Option, Some, None, List, [], ◌∷◌, refl, sym, ap, ◌∙◌, arith}
use Rattle.std.proofs.lemmas.Bool.{eqb-true}
use Rattle.std.specs.Prelude.{if◌then◌else◌, option_map, slice_get, unwrap_or}
use Rattle.std.specs.List.{list_all, list_any}
use Rattle.swc_tree_marks.specs.declared.ident.Ident.{Ident}
use Rattle.swc_tree_node.specs.declared.kind.Kind.{Kind}
use Rattle.swc_tree_node.specs.declared.kind.Kind.TheVariants as kind
use Rattle.swc_tree_node.specs.declared.kind.Class.{Class}
use Rattle.swc_tree_node.specs.declared.slot.Content.{Content}
use Rattle.swc_tree_node.specs.declared.slot.Content.TheVariants as content
use Rattle.swc_tree_node.specs.declared.slot.Slot.{Slot}
use Rattle.swc_tree_node.specs.declared.slot.Slot.TheVariants as slot
use Rattle.swc_tree_node.specs.declared.slot.Role.{Role}
use Rattle.swc_tree_node.specs.declared.slot.Role.TheVariants as role
use Rattle.swc_tree_node.specs.declared.node.Node.{Node, Tree}
use Rattle.swc_tree_node.specs.Table.{fields_of, kind_number, kinds_of}
use Rattle.swc_tree_node.specs.Fits.{belongs}
use Rattle.swc_tree_scoping.specs.Places.{field_role}
use Rattle.swc_base_rename_substitution.specs.declared.place.Place.{Place}
use Rattle.swc_base_rename_substitution.specs.declared.place.Place.TheVariants as place
use Rattle.swc_base_rename_substitution.specs.Places.{by_role, has_source, in_kind, is_name, places, within}
use Rattle.swc_base_rename_substitution.specs.Identifiers.{Changes, identifier_at, writes_out, written_out_if}
use Rattle.swc_base_rename_substitution.specs.Classes.{kept_class}
use Rattle.swc_base_rename_substitution.specs.Substituted.{if_changed, keeps_name, substituted}
use Rattle.swc_base_rename_substitution.specs.Walk.{each_substituted}
use Rattle.swc_base_rename_substitution.proofs.Equations.{substituted_tree}
use Rattle.swc_base_rename_substitution.proofs.NamesOfScoping.{kind_is}
use Rattle.swc_base_rename_laws.proofs.NormalFormPairs.{flag_below}
use Rattle.swc_base_rename_laws.proofs.NormalFormSame.{below_is, not_local}
use Rattle.swc_base_rename_laws.proofs.Impossible.{impossible}

-- ---- kinds

-- kinds with a field that takes pairs, and holds names just if the whole does; and pairs
abbrev pub paired : List Kind
paired = kind.ParenExpr ∷ kind.SeqExpr ∷ kind.ArrayPat ∷ kind.RestPat ∷ kind.ObjectPat ∷ kind.AssignPat ∷ kind.KeyValuePatProp ∷ kind.VarDeclarator ∷ []

-- kinds that stand in a module alone, or in its export lists
abbrev pub outer : Bool → List Kind
outer true = kind.ExportDecl ∷ kind.Module ∷ kind.NamedExport ∷ kind.ExportNamedSpecifier ∷ []
outer false = kind.ExportDecl ∷ kind.Module ∷ kind.NamedExport ∷ []

abbrev pub is_in : List Kind → ℕ → Bool
is_in ks n = list_any (λ k. n == kind_number k) ks

abbrev pub number_allowed : Bool → ℕ → Bool
number_allowed b n = (b || not (is_in paired n)) && not (is_in (outer b) n)

-- a node of that kind may stand where names do or do not
abbrev pub allowed : Bool → Kind → Bool
allowed b k = number_allowed b (kind_number k)

abbrev pub fair_content : Bool → Content → Bool
fair_content b (content.Node c) = list_all (λ k. allowed b k) (kinds_of c)
fair_content b c = true

abbrev pub fair : Bool → Slot → Bool
fair b (slot.One c) = fair_content b c
fair b (slot.Optional c) = fair_content b c
fair b (slot.List c) = fair_content b c
fair b (slot.Holes c) = fair_content b c
fair b (slot.OptionalList c) = fair_content b c
fair b slot.Pair = true
fair b slot.Pairs = true

pub left : (a b : Bool) → (a && b) ≡ true → a ≡ true
left true b h = refl
left false b h = h

pub right : (a b : Bool) → (a && b) ≡ true → b ≡ true
right true b h = h
right false b h = absurd (cc)

among_first : (p : ℕ → Bool) (n i : ℕ) (b rest every : Bool) → (n == i) ≡ b → IsTrue (b || rest) → (p i && every) ≡ true → (IsTrue rest → every ≡ true → p n ≡ true) → p n ≡ true
among_first p n i true rest every e h g next = let same : n ≡ i = eqb-true n i e in rw same (left (p i) every g)
among_first p n i false rest every e h g next = next h (right (p i) every g)

among : (p : ℕ → Bool) (n : ℕ) (ks : List Kind) → IsTrue (list_any (λ x. n == kind_number x) ks) → list_all (λ k. p (kind_number k)) ks ≡ true → p n ≡ true
among p n [] h g = absurd (grind arith)
among p n (k ∷ ks) h g = among_first p n (kind_number k) (n == kind_number k) _ _ refl h g (among p n ks)

pub allowed_there : (b : Bool) (k : Kind) (c : Class) → fair_content b (content.Node c) ≡ true → IsTrue (belongs k c) → allowed b k ≡ true
allowed_there b k c f h = among (number_allowed b) (kind_number k) (kinds_of c) h f

-- ---- fields

abbrev pub Row : Type 0
Row = List ℕ × Slot × Role

-- a namespace holds exported declarations, as a module does
abbrev pub no_space : Kind → Bool
no_space kind.TsModuleDecl = false
no_space k = true

abbrev pub fair_row : Bool → Row → Bool
fair_row b f = fair (flag_below b f.2) f.1 && not_local f.2

rows_true : (k : Kind) → allowed true k ≡ true → no_space k ≡ true → list_all (fair_row true) (fields_of k) ≡ true
rows_true kind.NamedExport a v = impossible a
rows_true kind.Module a v = impossible a
rows_true kind.TsModuleDecl a v = impossible v
rows_true k a v = refl

rows_false : (k : Kind) → allowed false k ≡ true → no_space k ≡ true → list_all (fair_row false) (fields_of k) ≡ true
rows_false kind.NamedExport a v = impossible a
rows_false kind.Module a v = impossible a
rows_false kind.ArrayPat a v = impossible a
rows_false kind.RestPat a v = impossible a
rows_false kind.ObjectPat a v = impossible a
rows_false kind.AssignPat a v = impossible a
rows_false kind.KeyValuePatProp a v = impossible a
rows_false kind.VarDeclarator a v = impossible a
rows_false kind.TsModuleDecl a v = impossible v
rows_false k a v = refl

pub rows_fair : (b : Bool) (k : Kind) → allowed b k ≡ true → no_space k ≡ true → list_all (fair_row b) (fields_of k) ≡ true
rows_fair true k a v = rows_true k a v
rows_fair false k a v = rows_false k a v

-- ---- places

abbrev pub is_plain : Place → Bool
is_plain place.Name = true
is_plain place.Exported = true
is_plain place.Other = true
is_plain p = false

pub plain_within : (p : Place) → is_plain (within p) ≡ true
plain_within place.Name = refl
plain_within place.Shorthand = refl
plain_within place.Exported = refl
plain_within place.ClassName = refl
plain_within place.Other = refl

plain_role : (p : Place) (s : Bool) (r : Role) → is_plain (by_role p s r) ≡ true
plain_role p s role.Inherited = plain_within p
plain_role p true role.ExportLocal = refl
plain_role p false role.ExportLocal = refl
plain_role p s r = refl

class_plain : (q : Place) → is_plain q ≡ true → is_plain (in_kind false kind.ClassExpr q) ≡ true
class_plain place.Name h = refl
class_plain q h = h

export_plain : (q : Place) → is_plain q ≡ true → is_plain (in_kind false kind.ExportDecl q) ≡ true
export_plain place.Other h = refl
export_plain q h = h

abbrev pub no_object : Kind → Bool
no_object kind.ObjectLit = false
no_object k = true

kind_plain : (k : Kind) (q : Place) → no_object k ≡ true → is_plain q ≡ true → is_plain (in_kind false k q) ≡ true
kind_plain kind.ObjectLit q o h = absurd (cc)
kind_plain kind.ExportDecl q o h = export_plain q h
kind_plain kind.ClassExpr q o h = class_plain q h
kind_plain k q o h = h

role_of_row : (k : Kind) (i : ℕ) (f : Row) → slice_get (fields_of k) i ≡ Some f → field_role k i ≡ f.2
role_of_row k i f e = ap (λ (o : Option Row). unwrap_or (option_map (λ f. f.2) o) role.Plain) e

row_at : (g : Row → Bool) (fs : List Row) (i : ℕ) (f : Row) → list_all g fs ≡ true → slice_get fs i ≡ Some f → g f ≡ true
row_at g [] i f l e = absurd (cc)
row_at g (x ∷ fs) zero f l e = let same : x ≡ f = cc in ap g (sym same) ∙ left (g x) _ l
row_at g (x ∷ fs) (suc i) f l e = row_at g fs i f (right (g x) _ l) e

-- the place of a field, by its row
pub place_of_row : (p : Place) (b : Bool) (k : Kind) (ts : List Node) (i : ℕ) (f : Row) → is_name p ≡ b → allowed b k ≡ true → no_object k ≡ true → no_space k ≡ true → slice_get (fields_of k) i ≡ Some f
    → (is_plain (places false p k ts i) ≡ true) × (is_name (places false p k ts i) ≡ flag_below b f.2)
place_of_row p b k ts i f n a o v e =
    let role : field_role k i ≡ f.2 = role_of_row k i f e in
    let not_there : not_local (field_role k i) ≡ true = ap not_local role ∙ right (fair (flag_below b f.2) f.1) _ (row_at (fair_row b) (fields_of k) i f (rows_fair b k a v) e) in (
      kind_plain k _ o (plain_role p (has_source ts) (field_role k i)),
      kind_is false k (by_role p (has_source ts) (field_role k i)) ∙ below_is p (has_source ts) (field_role k i) not_there ∙ (λ x. flag_below (n x) (role x)),
    )

-- ---- trees

abbrev pub fields : Changes → Place → Kind → List Node → List Node
fields m p k ts = each_substituted m false (places false p k ts) ts

keeps_none : (p : Place) (k : Kind) → keeps_name false p k ≡ false
keeps_none p kind.ClassDecl = refl
keeps_none p _ = refl

pub tree_is : (m : Changes) (p : Place) (k : Kind) (ts : List Node) → substituted m false p (Tree k ts) ≡ written_out_if k (if_changed m (places false p k ts 1) (identifier_at ts 1)) (fields m p k ts)
tree_is m p k ts =
    substituted_tree m false p k ts
    ∙ ap (λ b. if b then kept_class (identifier_at ts 0) (fields m p k ts) else written_out_if k (if_changed m (places false p k ts 1) (identifier_at ts 1)) (fields m p k ts)) (keeps_none p k)

not_written : (k : Kind) (j : Option Ident) (us : List Node) → writes_out k ≡ false → written_out_if k j us ≡ Tree k us
not_written k None us h = refl
not_written kind.AssignPatProp (Some j) us h = absurd (cc)
not_written kind.ImportNamedSpecifier (Some j) us h = absurd (cc)
not_written kind.ExportNamedSpecifier (Some j) us h = absurd (cc)
not_written k (Some j) us h = refl

pub plain_tree : (m : Changes) (p : Place) (k : Kind) (ts : List Node) → writes_out k ≡ false → substituted m false p (Tree k ts) ≡ Tree k (fields m p k ts)
plain_tree m p k ts h = tree_is m p k ts ∙ not_written k (if_changed m (places false p k ts 1) (identifier_at ts 1)) (fields m p k ts) h
