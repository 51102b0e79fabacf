-- What a test sees of a node whose names are given anew: what is written out is seen as what it was.
use Rattle.std.proofs.Common.{◌≡◌, ℕ, Bool, true, false, Option, Some, None, List, [], ◌∷◌, refl, sym, ap, ◌∙◌}
use Rattle.std.specs.Prelude.{if◌then◌else◌}
use Rattle.swc_tree_marks.specs.declared.span.Span.{Span as Range}
use Rattle.swc_tree_marks.specs.declared.ident.Ident.{Ident}
use Rattle.swc_tree_node.specs.declared.kind.Kind.{Kind}
use Rattle.swc_tree_node.specs.declared.kind.Kind.TheVariants as kind
use Rattle.swc_tree_node.specs.declared.node.Node.{Node, Absent, Flag, Word, Text, Span, List as Many, Identifier, Tree, out-Node}
use Rattle.swc_tree_node.specs.declared.node.Node.TheOpen.{Node-F}
use Rattle.swc_tree_node.specs.declared.node.Node.TheVariants.{outs-Identifier, outs-List, outs-Tree}
use Rattle.swc_tree_scoping.specs.Shorthands.{key_of, shorthand_key}
use Rattle.swc_tree_grammar.proofs.Induction.{by_children}
use Rattle.swc_base_rename_substitution.specs.declared.place.Place.{Place}
use Rattle.swc_base_rename_substitution.specs.declared.place.Place.TheVariants as place
use Rattle.swc_base_rename_substitution.specs.Identifiers.{Changes, changed, identifier_at, identifier_in, identifier_to, kept_name, with_default, with_other, written_out, written_out_if}
use Rattle.swc_base_rename_substitution.specs.Classes.{class_span, kept_class, let_if}
use Rattle.swc_base_rename_substitution.specs.Places.{places}
use Rattle.swc_base_rename_substitution.specs.Substituted.{if_changed, keeps_name, substituted}
use Rattle.swc_base_rename_substitution.specs.Walk.{each_substituted, items_substituted}
use Rattle.swc_base_rename_substitution.proofs.Equations.{substituted-Absent, substituted-Flag, substituted-Word, substituted-Text, substituted-Span, substituted_identifier, substituted_list, substituted_tree}

-- a test that sees neither names nor what lists hold, nor which of two kinds a node is that is written out, nor what is in it
pub record Blind {A : Type 0} (g : Node-F Node → A) (c : A) : Type 0 where
  pub names : (k : Kind) (i : Ident) → g (Node-F.Identifier k i) ≡ c
  pub lists : (us ts : List Node) → g (Node-F.List us) ≡ g (Node-F.List ts)
  pub properties : (us : List Node) → g (Node-F.Tree kind.KeyValueProp us) ≡ c
  pub targets : (us : List Node) → g (Node-F.Tree kind.KeyValuePatProp us) ≡ c
  pub shorts : (us : List Node) → g (Node-F.Tree kind.AssignPatProp us) ≡ c
  pub classes : (us : List Node) → g (Node-F.Tree kind.ClassDecl us) ≡ c
  pub declarations : (us : List Node) → g (Node-F.Tree kind.VarDecl us) ≡ c
  pub imports : (us vs : List Node) → g (Node-F.Tree kind.ImportNamedSpecifier us) ≡ g (Node-F.Tree kind.ImportNamedSpecifier vs)
  pub exports : (us vs : List Node) → g (Node-F.Tree kind.ExportNamedSpecifier us) ≡ g (Node-F.Tree kind.ExportNamedSpecifier vs)

pub keeps_class : (keeps : Bool) (p : Place) (k : Kind) → keeps_name keeps p k ≡ true → k ≡ kind.ClassDecl
keeps_class keeps p kind.ClassDecl h = refl
keeps_class keeps p k h = absurd (cc)

module _ {A : Type 0} (g : Node-F Node → A) (c : A) (blind : Blind g c) where
  seen_tree : (k : Kind) (us : List Node) → g (out-Node (Tree k us)) ≡ g (Node-F.Tree k us)
  seen_tree k us = ap g (outs-Tree k us)

  seen_name : (k : Kind) (i : Ident) → g (out-Node (Identifier k i)) ≡ c
  seen_name k i = ap g (outs-Identifier k i) ∙ blind.names k i

  seen_class : (us : List Node) → g (out-Node (Tree kind.ClassDecl us)) ≡ c
  seen_class us = seen_tree kind.ClassDecl us ∙ blind.classes us

  let_seen : (o : Option Ident) (s : Option Range) (i : Ident) (a b : Node) → g (out-Node (let_if o s i a b)) ≡ c
  let_seen (Some j) (Some s) i a b = seen_tree kind.VarDecl _ ∙ blind.declarations _
  let_seen None s i a b = seen_class (a ∷ b ∷ [])
  let_seen (Some j) None i a b = seen_class (a ∷ b ∷ [])

  kept_seen : (o : Option Ident) (us : List Node) → g (out-Node (kept_class o us)) ≡ c
  kept_seen None us = seen_class us
  kept_seen (Some i) [] = seen_class []
  kept_seen (Some i) (a ∷ []) = seen_class (a ∷ [])
  kept_seen (Some i) (a ∷ b ∷ []) = let_seen (identifier_in (out-Node a)) (class_span b) i a b
  kept_seen (Some i) (a ∷ b ∷ d ∷ us) = seen_class (a ∷ b ∷ d ∷ us)

  written_seen : (k : Kind) (i : Ident) (us : List Node) → g (out-Node (written_out k i us)) ≡ g (Node-F.Tree k us)
  written_seen kind.AssignPatProp i (s ∷ target ∷ value ∷ []) = seen_tree kind.KeyValuePatProp (key_of i ∷ with_default i target value ∷ []) ∙ blind.targets _ ∙ sym (blind.shorts _)
  written_seen kind.AssignPatProp i [] = seen_tree kind.AssignPatProp []
  written_seen kind.AssignPatProp i (a ∷ []) = seen_tree kind.AssignPatProp (a ∷ [])
  written_seen kind.AssignPatProp i (a ∷ b ∷ []) = seen_tree kind.AssignPatProp (a ∷ b ∷ [])
  written_seen kind.AssignPatProp i (a ∷ b ∷ d ∷ e ∷ us) = seen_tree kind.AssignPatProp (a ∷ b ∷ d ∷ e ∷ us)
  written_seen kind.ImportNamedSpecifier i us = seen_tree kind.ImportNamedSpecifier (with_other i us) ∙ blind.imports (with_other i us) us
  written_seen kind.ExportNamedSpecifier i us = seen_tree kind.ExportNamedSpecifier (with_other i us) ∙ blind.exports (with_other i us) us
  written_seen k i us = seen_tree k us

  written_if_seen : (k : Kind) (o : Option Ident) (us : List Node) → g (out-Node (written_out_if k o us)) ≡ g (Node-F.Tree k us)
  written_if_seen k None us = seen_tree k us
  written_if_seen k (Some i) us = written_seen k i us

  identifier_seen : (p : Place) (k : Kind) (i : Ident) (j : Option Ident) → g (out-Node (identifier_to p k i j)) ≡ c
  identifier_seen place.ClassName k i j = seen_name k (kept_name i)
  identifier_seen place.Name k i None = seen_name k i
  identifier_seen place.Shorthand k i None = seen_name k i
  identifier_seen place.Exported k i None = seen_name k i
  identifier_seen place.Other k i None = seen_name k i
  identifier_seen place.Name k i (Some j) = seen_name k j
  identifier_seen place.Exported k i (Some j) = seen_name k j
  identifier_seen place.Other k i (Some j) = seen_name k j
  identifier_seen place.Shorthand k i (Some j) = seen_tree kind.KeyValueProp (shorthand_key i ∷ Identifier k j ∷ []) ∙ blind.properties _

  module _ (m : Changes) (keeps : Bool) (p : Place) where
    tree_seen : (k : Kind) (ts us : List Node) (b : Bool) → keeps_name keeps p k ≡ b → g (Node-F.Tree k us) ≡ g (Node-F.Tree k ts)
        → g (out-Node (if b then kept_class (identifier_at ts 0) us else written_out_if k (if_changed m (places keeps p k ts 1) (identifier_at ts 1)) us)) ≡ g (Node-F.Tree k ts)
    tree_seen k ts us true e h = kept_seen (identifier_at ts 0) us ∙ sym (ap (λ k. g (Node-F.Tree k ts)) (keeps_class keeps p k e) ∙ blind.classes ts)
    tree_seen k ts us false e h = written_if_seen k (if_changed m (places keeps p k ts 1) (identifier_at ts 1)) us ∙ h

    -- where a node's fields are looked at, they are seen as they were
    abbrev pub Looked : Kind → List Node → Type 0
    Looked k ts = g (Node-F.Tree k (each_substituted m keeps (places keeps p k ts) ts)) ≡ g (Node-F.Tree k ts)

    pub look_tree : (k : Kind) (ts : List Node) → Looked k ts → g (out-Node (substituted m keeps p (Tree k ts))) ≡ g (out-Node (Tree k ts))
    look_tree k ts h =
        ap (λ u. g (out-Node u)) (substituted_tree m keeps p k ts)
        ∙ tree_seen k ts (each_substituted m keeps (places keeps p k ts) ts) (keeps_name keeps p k) refl h
        ∙ sym (seen_tree k ts)

    leaf_seen : (t : Node) → substituted m keeps p t ≡ t → g (out-Node (substituted m keeps p t)) ≡ g (out-Node t)
    leaf_seen t e = ap (λ u. g (out-Node u)) e

    abbrev Seen : Node → Type 0
    Seen t = g (out-Node (substituted m keeps p t)) ≡ g (out-Node t)

    pub look_if : (G : Node → Type 0) → ((k : Kind) (ts : List Node) → G (Tree k ts) → Looked k ts) → (t : Node) → G t → Seen t
    look_if G h t = by_children (λ t. G t → Seen t) (
      λ f. leaf_seen Absent (substituted-Absent m keeps p),
      λ x f. leaf_seen (Flag x) (substituted-Flag m keeps p x),
      λ w f. leaf_seen (Word w) (substituted-Word m keeps p w),
      λ x f. leaf_seen (Text x) (substituted-Text m keeps p x),
      λ s f. leaf_seen (Span s) (substituted-Span m keeps p s),
      λ k i f. ap (λ u. g (out-Node u)) (substituted_identifier m keeps p k i) ∙ identifier_seen p k i (changed m p i) ∙ sym (seen_name k i),
    )
        (λ ts l f. ap (λ u. g (out-Node u)) (substituted_list m keeps p ts) ∙ ap g (outs-List (items_substituted m keeps p ts)) ∙ blind.lists (items_substituted m keeps p ts) ts ∙ sym (ap g (outs-List ts)))
        (λ k ts l f. look_tree k ts (h k ts f)) t

    pub look : ((k : Kind) (ts : List Node) → Looked k ts) → (t : Node) → Seen t
    look h t = look_if (λ t. Unit {0}) (λ k ts f. h k ts) t tt
