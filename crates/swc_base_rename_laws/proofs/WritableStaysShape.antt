-- What a node becomes, at each form of it: a name stays a name with a text that can be bound, a tree keeps its kind,
-- but for what is written out.
use Rattle.std.proofs.Common.{◌≡◌, ℕ, Bool, true, false, Option, Some, None, List, [], ◌∷◌, refl, sym, ap, ◌∙◌, ◌⊎◌, inl, inr}
use Rattle.std.specs.Prelude.{if◌then◌else◌, option_map}
use Rattle.swc_tree_marks.specs.declared.ident.Ident.{Ident}
use Rattle.swc_tree_node.specs.declared.kind.Kind.{Kind}
use Rattle.swc_tree_node.specs.declared.kind.Kind.TheVariants as kind
use Rattle.swc_tree_node.specs.declared.slot.Role.{Role}
use Rattle.swc_tree_node.specs.declared.slot.Role.TheVariants as role
use Rattle.swc_tree_node.specs.declared.node.Node.{Node, Absent, Flag, Word, Text, Span, Identifier, Tree, out-Node}
use Rattle.swc_tree_node.specs.declared.node.Node.TheVariants.{outs-Identifier, outs-List, outs-Tree}
use Rattle.swc_tree_node.specs.declared.node.Node.TheOpen.{Node-F}
use Rattle.swc_tree_scoping.specs.Shorthands.{key_of, shorthand_key}
use Rattle.swc_tree_grammar.specs.Kinds.{is_object}
use Rattle.swc_tree_grammar.specs.Writable.{is_bindable, is_identifier_text}
use Rattle.swc_tree_grammar.proofs.Induction.{by_children}
use Rattle.swc_base_rename_substitution.specs.declared.place.Place.{Place}
use Rattle.swc_base_rename_substitution.specs.declared.place.Place.TheVariants as place
use Rattle.swc_base_rename_substitution.specs.Names.{Id}
use Rattle.swc_base_rename_substitution.specs.Identifiers.{Changes, changed, id_of, identifier_at, identifier_to, kept_name, with_default, with_id, with_other, written_out, written_out_if, writes_out}
use Rattle.swc_base_rename_substitution.specs.Classes.{kept_class}
use Rattle.swc_base_rename_substitution.specs.Places.{by_role, in_kind, places, within}
use Rattle.swc_base_rename_substitution.specs.Substituted.{if_changed, keeps_name, substituted}
use Rattle.swc_base_rename_substitution.specs.Walk.{each_substituted, items_substituted}
use Rattle.swc_base_rename_substitution.proofs.Equations.{substituted-Absent, substituted-Flag, substituted-Word, substituted-Text, substituted-Span, substituted_identifier, substituted_list, substituted_tree}
use Rattle.swc_base_rename_substitution.proofs.Room.{is_short}
use Rattle.swc_base_rename_laws.specs.Laws.{GivesNames}

-- ---- places

pub within_long : (p : Place) → is_short (within p) ≡ false
within_long place.Other = refl
within_long place.Exported = refl
within_long p = refl

role_long : (p : Place) (s : Bool) (r : Role) → is_short (by_role p s r) ≡ false
role_long p s role.Inherited = within_long p
role_long p true role.ExportLocal = refl
role_long p false role.ExportLocal = refl
role_long p s r = refl

export_long : (q : Place) → is_short q ≡ false → is_short (in_kind false kind.ExportDecl q) ≡ false
export_long place.Other h = refl
export_long q h = h

class_long : (q : Place) → is_short q ≡ false → is_short (in_kind false kind.ClassExpr q) ≡ false
class_long place.Name h = refl
class_long q h = h

kind_long : (k : Kind) (q : Place) → is_object k ≡ false → is_short q ≡ false → is_short (in_kind false k q) ≡ false
kind_long kind.ObjectLit q o h = absurd (cc)
kind_long kind.ExportDecl q o h = export_long q h
kind_long kind.ClassExpr q o h = class_long q h
kind_long k q o h = h

-- a shorthand property stands in an object literal alone
pub long : (p : Place) (k : Kind) (ts : List Node) → is_object k ≡ false → (i : ℕ) → is_short (places false p k ts i) ≡ false
long p k ts o i = kind_long k _ o (role_long p _ _)

-- ---- trees

abbrev pub fields : Changes → Place → Kind → List Node → List Node
fields m p k ts = each_substituted m false (places false p k ts) ts

abbrev pub old_name : Changes → Place → Kind → List Node → Option Ident
old_name m p k ts = if_changed m (places false p k ts 1) (identifier_at ts 1)

keeps_none : (p : Place) (k : Kind) → keeps_name false p k ≡ false
keeps_none p kind.ClassDecl = refl
keeps_none p _ = refl

pub tree_is : (m : Changes) (p : Place) (k : Kind) (ts : List Node) → substituted m false p (Tree k ts) ≡ written_out_if k (old_name m p k ts) (fields m p k ts)
tree_is m p k ts =
    substituted_tree m false p k ts
    ∙ ap (λ b. if b then kept_class (identifier_at ts 0) (fields m p k ts) else written_out_if k (old_name m p k ts) (fields m p k ts)) (keeps_none p k)

not_written : (k : Kind) (j : Option Ident) (us : List Node) → writes_out k ≡ false → written_out_if k j us ≡ Tree k us
not_written k None us h = refl
not_written kind.AssignPatProp (Some j) us h = absurd (cc)
not_written kind.ImportNamedSpecifier (Some j) us h = absurd (cc)
not_written kind.ExportNamedSpecifier (Some j) us h = absurd (cc)
not_written k (Some j) us h = refl

pub plain_tree : (m : Changes) (p : Place) (k : Kind) (ts : List Node) → writes_out k ≡ false → substituted m false p (Tree k ts) ≡ Tree k (fields m p k ts)
plain_tree m p k ts h = tree_is m p k ts ∙ not_written k (old_name m p k ts) (fields m p k ts) h

-- ---- names

-- the text may be bound in strict code, where the other is an identifier's
abbrev pub Binds : Ident → Ident → Type 0
Binds i j = is_identifier_text i.sym ≡ true → is_bindable true j.sym ≡ true

-- the text is the old one, or may be bound in strict code
abbrev pub IsNew : Ident → Ident → Type 0
IsNew i j = (j.sym ≡ i.sym) ⊎ Binds i j

abbrev Renamed : Place → Kind → Ident → Option Ident → Type 0
Renamed p k i o = (j : Ident) × (identifier_to p k i o ≡ Identifier k j) × IsNew i j

given : (m : Changes) → GivesNames m → (i : Ident) (o : Option Id) → m (id_of i) ≡ o → (j : Ident) → option_map (with_id i) o ≡ Some j → Binds i j
given m g i None e j h = absurd (cc)
given m g i (Some y) e j h = let same : with_id i y ≡ j = cc in let b : Binds i (with_id i y) = g i y.0 y.1 e in rw (← same) b

new_name : (m : Changes) → GivesNames m → (i : Ident) (j : Ident) → option_map (with_id i) (m (id_of i)) ≡ Some j → Binds i j
new_name m g i j h = given m g i (m (id_of i)) refl j h

pub changed_new : (m : Changes) → GivesNames m → (p : Place) (i j : Ident) → changed m p i ≡ Some j → Binds i j
changed_new m g place.Name i j h = new_name m g i j h
changed_new m g place.Shorthand i j h = new_name m g i j h
changed_new m g place.Other i j h = absurd (cc)
changed_new m g place.Exported i j h = absurd (cc)
changed_new m g place.ClassName i j h = absurd (cc)

pub renamed : (m : Changes) → GivesNames m → (p : Place) (k : Kind) (i : Ident) (o : Option Ident) → is_short p ≡ false → changed m p i ≡ o → Renamed p k i o
renamed m g place.ClassName k i o n e = (kept_name i, refl, inl refl)
renamed m g place.Shorthand k i o n e = absurd (cc)
renamed m g place.Name k i None n e = (i, refl, inl refl)
renamed m g place.Exported k i None n e = (i, refl, inl refl)
renamed m g place.Other k i None n e = (i, refl, inl refl)
renamed m g place.Name k i (Some j) n e = (j, refl, inr (changed_new m g place.Name i j e))
renamed m g place.Exported k i (Some j) n e = (j, refl, inr (changed_new m g place.Exported i j e))
renamed m g place.Other k i (Some j) n e = (j, refl, inr (changed_new m g place.Other i j e))

-- ---- what is seen of a node's form

-- what giving names anew does not change in a layer, at no shorthand property
pub record Even {A : Type 0} (m : Changes) (F : Node-F Node → A) : Type 0 where
  pub trees : (p : Place) (k : Kind) (ts : List Node) → F (Node-F.Tree k (fields m p k ts)) ≡ F (Node-F.Tree k ts)
  pub properties : (us vs : List Node) → F (Node-F.Tree kind.KeyValuePatProp vs) ≡ F (Node-F.Tree kind.AssignPatProp us)
  pub imports : (i : Ident) (us : List Node) → F (Node-F.Tree kind.ImportNamedSpecifier (with_other i us)) ≡ F (Node-F.Tree kind.ImportNamedSpecifier us)
  pub exports : (i : Ident) (us : List Node) → F (Node-F.Tree kind.ExportNamedSpecifier (with_other i us)) ≡ F (Node-F.Tree kind.ExportNamedSpecifier us)
  pub names : (k : Kind) (i j : Ident) → F (Node-F.Identifier k j) ≡ F (Node-F.Identifier k i)
  pub lists : (p : Place) (ts : List Node) → F (Node-F.List (items_substituted m false p ts)) ≡ F (Node-F.List ts)

module _ {A : Type 0} (m : Changes) (F : Node-F Node → A) (even : Even m F) where
  at_tree : (k : Kind) (us : List Node) → F (out-Node (Tree k us)) ≡ F (Node-F.Tree k us)
  at_tree k us = ap F (outs-Tree k us)

  written_even : (k : Kind) (i : Ident) (us : List Node) → F (out-Node (written_out k i us)) ≡ F (Node-F.Tree k us)
  written_even kind.AssignPatProp i (s ∷ target ∷ value ∷ []) =
      at_tree kind.KeyValuePatProp (key_of i ∷ with_default i target value ∷ []) ∙ even.properties (s ∷ target ∷ value ∷ []) (key_of i ∷ with_default i target value ∷ [])
  written_even kind.ImportNamedSpecifier i us = at_tree kind.ImportNamedSpecifier (with_other i us) ∙ even.imports i us
  written_even kind.ExportNamedSpecifier i us = at_tree kind.ExportNamedSpecifier (with_other i us) ∙ even.exports i us
  written_even k i us = at_tree k us

  written_if_even : (k : Kind) (i : Option Ident) (us : List Node) → F (out-Node (written_out_if k i us)) ≡ F (Node-F.Tree k us)
  written_if_even k None us = at_tree k us
  written_if_even k (Some i) us = written_even k i us

  leaf_even : (p : Place) (t : Node) → substituted m false p t ≡ t → F (out-Node (substituted m false p t)) ≡ F (out-Node t)
  leaf_even p t e = ap (λ u. F (out-Node u)) e

  name_even : GivesNames m → (p : Place) (k : Kind) (i : Ident) → is_short p ≡ false → F (out-Node (substituted m false p (Identifier k i))) ≡ F (out-Node (Identifier k i))
  name_even g p k i n =
      let r = renamed m g p k i (changed m p i) n refl in
      ap (λ u. F (out-Node u)) (substituted_identifier m false p k i ∙ r.1) ∙ ap F (outs-Identifier k r.0) ∙ even.names k i r.0 ∙ sym (ap F (outs-Identifier k i))

  -- at each place, where names stay as they are
  pub even_by : (p : Place) → ((k : Kind) (i : Ident) → F (out-Node (substituted m false p (Identifier k i))) ≡ F (out-Node (Identifier k i))) → (t : Node)
      → F (out-Node (substituted m false p t)) ≡ F (out-Node t)
  even_by p n t = by_children (λ t. F (out-Node (substituted m false p t)) ≡ F (out-Node t)) (
    leaf_even p Absent (substituted-Absent m false p),
    λ x. leaf_even p (Flag x) (substituted-Flag m false p x),
    λ w. leaf_even p (Word w) (substituted-Word m false p w),
    λ x. leaf_even p (Text x) (substituted-Text m false p x),
    λ s. leaf_even p (Span s) (substituted-Span m false p s),
    n,
  )
      (λ ts l. ap (λ u. F (out-Node u)) (substituted_list m false p ts) ∙ ap F (outs-List (items_substituted m false p ts)) ∙ even.lists p ts ∙ sym (ap F (outs-List ts)))
      (λ k ts l. ap (λ u. F (out-Node u)) (tree_is m p k ts) ∙ written_if_even k (old_name m p k ts) (fields m p k ts) ∙ even.trees p k ts ∙ sym (at_tree k ts)) t

  pub even_at : GivesNames m → (p : Place) → is_short p ≡ false → (t : Node) → F (out-Node (substituted m false p t)) ≡ F (out-Node t)
  even_at g p n t = even_by p (λ k i. name_even g p k i n) t

  -- ... and at each place, where a name is seen as a property with its key is
  name_anywhere : (c : A) → ((k : Kind) (i : Ident) → F (Node-F.Identifier k i) ≡ c) → ((us : List Node) → F (Node-F.Tree kind.KeyValueProp us) ≡ c) → (p : Place) (k : Kind) (i : Ident) (j : Option Ident)
      → F (out-Node (identifier_to p k i j)) ≡ c
  name_anywhere c n v place.ClassName k i j = ap F (outs-Identifier k _) ∙ n k _
  name_anywhere c n v place.Name k i None = ap F (outs-Identifier k _) ∙ n k _
  name_anywhere c n v place.Shorthand k i None = ap F (outs-Identifier k _) ∙ n k _
  name_anywhere c n v place.Exported k i None = ap F (outs-Identifier k _) ∙ n k _
  name_anywhere c n v place.Other k i None = ap F (outs-Identifier k _) ∙ n k _
  name_anywhere c n v place.Name k i (Some j) = ap F (outs-Identifier k _) ∙ n k _
  name_anywhere c n v place.Exported k i (Some j) = ap F (outs-Identifier k _) ∙ n k _
  name_anywhere c n v place.Other k i (Some j) = ap F (outs-Identifier k _) ∙ n k _
  name_anywhere c n v place.Shorthand k i (Some j) = ap F (outs-Tree kind.KeyValueProp (shorthand_key i ∷ Identifier k j ∷ [])) ∙ v _

  pub even_anywhere : (c : A) → ((k : Kind) (i : Ident) → F (Node-F.Identifier k i) ≡ c) → ((us : List Node) → F (Node-F.Tree kind.KeyValueProp us) ≡ c) → (p : Place) (t : Node)
      → F (out-Node (substituted m false p t)) ≡ F (out-Node t)
  even_anywhere c n v p = even_by p
      (λ k i. ap (λ u. F (out-Node u)) (substituted_identifier m false p k i) ∙ name_anywhere c n v p k i (changed m p i) ∙ sym (ap F (outs-Identifier k i) ∙ n k i))
