-- Tests that no node passes with new names that did not pass before.
use Rattle.std.proofs.Common.{◌≡◌, ℕ, Bool, true, false, ◌||◌, ◌⊎◌, inl, inr, Option, Some, None, List, [], ◌∷◌, refl, sym, ap, ◌∙◌}
use Rattle.std.specs.Prelude.{option_map, if◌then◌else◌}
use Rattle.std.specs.List.{list_any}
use Rattle.swc_tree_marks.specs.declared.span.Span.{Span as Range}
use Rattle.swc_tree_marks.specs.declared.ident.Ident.{Ident}
use Rattle.swc_tree_node.specs.declared.kind.Kind.{Kind}
use Rattle.swc_tree_node.specs.declared.kind.Kind.TheVariants as kind
use Rattle.swc_tree_node.specs.declared.node.Node.{Node, Absent, Flag, Word, Text, Span, List as Many, Identifier, Tree, out-Node}
use Rattle.swc_tree_node.specs.declared.node.Node.TheOpen.{Node-F}
use Rattle.swc_tree_node.specs.declared.node.Node.TheVariants.{outs-Identifier, outs-List, outs-Tree}
use Rattle.swc_tree_scoping.specs.Shorthands.{key_of, shorthand_key}
use Rattle.swc_tree_grammar.proofs.Induction.{Each, by_children}
use Rattle.swc_base_rename_substitution.specs.declared.place.Place.{Place}
use Rattle.swc_base_rename_substitution.specs.declared.place.Place.TheVariants as place
use Rattle.swc_base_rename_substitution.specs.Names.{Id}
use Rattle.swc_base_rename_substitution.specs.Identifiers.{Changes, changed, id_of, identifier_at, identifier_in, identifier_to, kept_name, with_default, with_id, with_other, written_out, written_out_if}
use Rattle.swc_base_rename_substitution.specs.Classes.{class_span, kept_class, let_if}
use Rattle.swc_base_rename_substitution.specs.Places.{places}
use Rattle.swc_base_rename_substitution.specs.Substituted.{if_changed, keeps_name, substituted}
use Rattle.swc_base_rename_substitution.specs.Walk.{each_substituted, items_substituted}
use Rattle.swc_base_rename_substitution.proofs.Equations.{substituted-Absent, substituted-Flag, substituted-Word, substituted-Text, substituted-Span, substituted_identifier, substituted_list, substituted_tree}
use Rattle.text_words.specs.Words.{is_name, is_reserved}
use Rattle.text_kept_laws.specs.Spelling.{GivesWords, IsWord}

pub neither : (a b : Bool) → (a || b) ≡ false → (a ≡ false) × (b ≡ false)
neither true b h = absurd (cc)
neither false b h = (refl, h)

pub both_false : (a b : Bool) → a ≡ false → b ≡ false → (a || b) ≡ false
both_false a b h g = ap (λ x. x || b) h ∙ g

-- a test of each of some nodes that none passes
pub none_passes : (q : Node → Bool) (ts : List Node) → list_any q ts ≡ false → Each (λ t. q t ≡ false) ts
none_passes q [] h = tt
none_passes q (t ∷ ts) h = let n = neither (q t) (list_any q ts) h in (n.0, none_passes q ts n.1)

pub all_fail : (q : Node → Bool) (ts : List Node) → Each (λ t. q t ≡ false) ts → list_any q ts ≡ false
all_fail q [] h = refl
all_fail q (t ∷ ts) h = both_false (q t) (list_any q ts) h.0 (all_fail q ts h.1)

-- a name as it was, or a new one
abbrev pub IsNew : Ident → Ident → Type 0
IsNew i j = (j.sym ≡ i.sym) ⊎ IsWord j.sym

pub record Calm (g : Node-F Node → Bool) : Type 0 where
  pub names : (k : Kind) (i j : Ident) → IsNew i j → g (Node-F.Identifier k i) ≡ false → g (Node-F.Identifier k j) ≡ false
  pub lists : (us : List Node) → g (Node-F.List us) ≡ false
  pub properties : (us : List Node) → g (Node-F.Tree kind.KeyValueProp us) ≡ false
  pub targets : (us : List Node) → g (Node-F.Tree kind.KeyValuePatProp us) ≡ false
  pub classes : (us : List Node) → g (Node-F.Tree kind.ClassDecl us) ≡ false
  pub declarations : (us : List Node) → g (Node-F.Tree kind.VarDecl us) ≡ false
  pub imports : (i : Ident) (us : List Node) → g (Node-F.Tree kind.ImportNamedSpecifier us) ≡ false → g (Node-F.Tree kind.ImportNamedSpecifier (with_other i us)) ≡ false
  pub exports : (i : Ident) (us : List Node) → g (Node-F.Tree kind.ExportNamedSpecifier us) ≡ false → g (Node-F.Tree kind.ExportNamedSpecifier (with_other i us)) ≡ false

module _ (m : Changes) (gives : GivesWords m) where
  new_word : (i j : Ident) (o : Option Id) → m (id_of i) ≡ o → option_map (with_id i) o ≡ Some j → IsWord j.sym
  new_word i j None e h = absurd (cc)
  new_word i j (Some y) e h = let same : with_id i y ≡ j = cc in words same (gives (id_of i) y e)
    where
      words : with_id i y ≡ j → IsWord y.0 → IsWord j.sym
      words same (n, r) = (ap (λ (j : Ident). is_name j.sym) (sym same) ∙ n, ap (λ (j : Ident). is_reserved j.sym) (sym same) ∙ r)

  pub changed_word : (p : Place) (i j : Ident) → changed m p i ≡ Some j → IsWord j.sym
  changed_word place.Name i j h = new_word i j (m (id_of i)) refl h
  changed_word place.Shorthand i j h = new_word i j (m (id_of i)) refl h
  changed_word place.Other i j h = absurd (cc)
  changed_word place.Exported i j h = absurd (cc)
  changed_word place.ClassName i j h = absurd (cc)

  module _ (g : Node-F Node → Bool) (calm : Calm g) where
    abbrev Q : Node → Type 0
    Q t = g (out-Node t) ≡ false

    at_tree : (k : Kind) (us : List Node) → g (Node-F.Tree k us) ≡ false → Q (Tree k us)
    at_tree k us h = ap g (outs-Tree k us) ∙ h

    let_calm : (o : Option Ident) (s : Option Range) (i : Ident) (a b : Node) → Q (let_if o s i a b)
    let_calm (Some j) (Some s) i a b = at_tree kind.VarDecl _ (calm.declarations _)
    let_calm None s i a b = at_tree kind.ClassDecl (a ∷ b ∷ []) (calm.classes _)
    let_calm (Some j) None i a b = at_tree kind.ClassDecl (a ∷ b ∷ []) (calm.classes _)

    kept_calm : (o : Option Ident) (us : List Node) → Q (kept_class o us)
    kept_calm None us = at_tree kind.ClassDecl us (calm.classes us)
    kept_calm (Some i) [] = at_tree kind.ClassDecl [] (calm.classes [])
    kept_calm (Some i) (a ∷ []) = at_tree kind.ClassDecl (a ∷ []) (calm.classes _)
    kept_calm (Some i) (a ∷ b ∷ []) = let_calm (identifier_in (out-Node a)) (class_span b) i a b
    kept_calm (Some i) (a ∷ b ∷ d ∷ us) = at_tree kind.ClassDecl (a ∷ b ∷ d ∷ us) (calm.classes _)

    written_calm : (k : Kind) (i : Ident) (us : List Node) → g (Node-F.Tree k us) ≡ false → Q (written_out k i us)
    written_calm kind.AssignPatProp i (s ∷ target ∷ value ∷ []) h = at_tree kind.KeyValuePatProp (key_of i ∷ with_default i target value ∷ []) (calm.targets _)
    written_calm kind.AssignPatProp i [] h = at_tree kind.AssignPatProp [] h
    written_calm kind.AssignPatProp i (a ∷ []) h = at_tree kind.AssignPatProp (a ∷ []) h
    written_calm kind.AssignPatProp i (a ∷ b ∷ []) h = at_tree kind.AssignPatProp (a ∷ b ∷ []) h
    written_calm kind.AssignPatProp i (a ∷ b ∷ d ∷ e ∷ us) h = at_tree kind.AssignPatProp (a ∷ b ∷ d ∷ e ∷ us) h
    written_calm kind.ImportNamedSpecifier i us h = at_tree kind.ImportNamedSpecifier (with_other i us) (calm.imports i us h)
    written_calm kind.ExportNamedSpecifier i us h = at_tree kind.ExportNamedSpecifier (with_other i us) (calm.exports i us h)
    written_calm k i us h = at_tree k us h

    written_if_calm : (k : Kind) (o : Option Ident) (us : List Node) → g (Node-F.Tree k us) ≡ false → Q (written_out_if k o us)
    written_if_calm k None us h = at_tree k us h
    written_if_calm k (Some i) us h = written_calm k i us h

    made_calm : (o j : Option Ident) (k : Kind) (us : List Node) (b : Bool) → g (Node-F.Tree k us) ≡ false → Q (if b then kept_class o us else written_out_if k j us)
    made_calm o j k us true h = kept_calm o us
    made_calm o j k us false h = written_if_calm k j us h

    at_name : (k : Kind) (i j : Ident) → IsNew i j → Q (Identifier k i) → Q (Identifier k j)
    at_name k i j n h = ap g (outs-Identifier k j) ∙ calm.names k i j n (sym (ap g (outs-Identifier k i)) ∙ h)

    name_calm : (p : Place) (k : Kind) (i : Ident) (j : Option Ident) → changed m p i ≡ j → Q (Identifier k i) → Q (identifier_to p k i j)
    name_calm place.ClassName k i j e h = at_name k i (kept_name i) (inl refl) h
    name_calm place.Name k i None e h = h
    name_calm place.Shorthand k i None e h = h
    name_calm place.Exported k i None e h = h
    name_calm place.Other k i None e h = h
    name_calm place.Name k i (Some j) e h = at_name k i j (inr (changed_word place.Name i j e)) h
    name_calm place.Exported k i (Some j) e h = at_name k i j (inr (changed_word place.Exported i j e)) h
    name_calm place.Other k i (Some j) e h = at_name k i j (inr (changed_word place.Other i j e)) h
    name_calm place.Shorthand k i (Some j) e h = at_tree kind.KeyValueProp (shorthand_key i ∷ Identifier k j ∷ []) (calm.properties _)

    module _ (keeps : Bool) (G : Node → Type 0)
        (rows : (ps : ℕ → Place) (k : Kind) (ts : List Node) → G (Tree k ts) → g (Node-F.Tree k ts) ≡ false → g (Node-F.Tree k (each_substituted m keeps ps ts)) ≡ false) where
      abbrev Settled : Node → Type 0
      Settled t = (p : Place) → G t → Q t → Q (substituted m keeps p t)

      leaf_calm : (t : Node) → ((p : Place) → substituted m keeps p t ≡ t) → Settled t
      leaf_calm t e p w h = ap (λ u. g (out-Node u)) (e p) ∙ h

      tree_calm : (k : Kind) (ts : List Node) → Settled (Tree k ts)
      tree_calm k ts p w h =
          ap (λ u. g (out-Node u)) (substituted_tree m keeps p k ts)
          ∙ made_calm (identifier_at ts 0) (if_changed m (places keeps p k ts 1) (identifier_at ts 1)) k (each_substituted m keeps (places keeps p k ts) ts) (keeps_name keeps p k)
          (rows (places keeps p k ts) k ts w (sym (ap g (outs-Tree k ts)) ∙ h))

      pub settled : (t : Node) → Settled t
      settled t = by_children Settled (
        leaf_calm Absent (λ p. substituted-Absent m keeps p),
        λ x. leaf_calm (Flag x) (λ p. substituted-Flag m keeps p x),
        λ x. leaf_calm (Word x) (λ p. substituted-Word m keeps p x),
        λ x. leaf_calm (Text x) (λ p. substituted-Text m keeps p x),
        λ x. leaf_calm (Span x) (λ p. substituted-Span m keeps p x),
        λ k i p w h. ap (λ u. g (out-Node u)) (substituted_identifier m keeps p k i) ∙ name_calm p k i (changed m p i) refl h,
      )
          (λ ts l p w h. ap (λ u. g (out-Node u)) (substituted_list m keeps p ts) ∙ ap g (outs-List (items_substituted m keeps p ts)) ∙ calm.lists _)
          (λ k ts l. tree_calm k ts) t
