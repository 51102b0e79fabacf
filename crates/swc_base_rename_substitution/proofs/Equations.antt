-- What the definition says at each form of a node.
use Rattle.std.proofs.Common.{◌≡◌, ℕ, Bool, false, List, [], ◌∷◌, ◌++◌, map, rules, refl, sym, ap, ◌∙◌, subst}
use Rattle.std.specs.List.{flat_map}
use Rattle.swc_tree_marks.specs.declared.span.Span.{Span as Span'}
use Rattle.swc_tree_marks.specs.declared.ident.Ident.{Ident}
use Rattle.swc_tree_node.specs.declared.kind.Kind.{Kind}
use Rattle.swc_tree_node.specs.declared.kind.Word.{Word as Word'}
use Rattle.swc_tree_node.specs.declared.node.Node.{Node, Absent, Flag, Word, Text, Span, List as Many, Identifier, Tree, roll-Node, map-Node, ind-Node, the_lemmas}
use Rattle.swc_tree_node.specs.declared.node.Node.TheVariants.{rolls-List, rolls-Tree}
use Rattle.swc_tree_node.specs.declared.node.Node.TheOpen.{Node-F}
use Rattle.swc_tree_node.specs.Parts.{may_hold_names}
use Rattle.swc_tree_node.proofs.Leaves.{without_names}
use Rattle.swc_base_rename_substitution.specs.declared.place.Place.{Place}
use Rattle.swc_base_rename_substitution.specs.Identifiers.{Changes, changed, identifier_to}
use Rattle.swc_base_rename_substitution.specs.Exports.{items_for}
use Rattle.swc_base_rename_substitution.specs.Substituted.{renewed, substituted, tree_for, each_at, all_before}
use Rattle.swc_base_rename_substitution.specs.Places.{places}
use Rattle.swc_base_rename_substitution.specs.Walk.{each_substituted, items_substituted}

before-List : (m : Changes) (keeps : Bool) (ts : List Node) → (renewed m keeps (Many ts)).before ≡ Many (all_before (map (renewed m keeps) ts))
before-List m keeps ts = search (rules, the_lemmas)

before-Tree : (m : Changes) (keeps : Bool) (k : Kind) (ts : List Node) → (renewed m keeps (Tree k ts)).before ≡ Tree k (all_before (map (renewed m keeps) ts))
before-Tree m keeps k ts = search (rules, the_lemmas)

abbrev IsBefore : Changes → Bool → Node → Type 0
IsBefore m keeps t = (renewed m keeps t).before ≡ t

abbrev Before : Changes → Bool → Type 0
Before m keeps = (t : Node) × IsBefore m keeps t

each_before : (m : Changes) (keeps : Bool) (es : List (Before m keeps)) → all_before (map (renewed m keeps) (map (λ e. e.0) es)) ≡ map (λ e. e.0) es
each_before m keeps [] = refl
each_before m keeps (e ∷ es) = rw (e.1, each_before m keeps es) refl

layer_before : (m : Changes) (keeps : Bool) (y : Node-F (Before m keeps)) → IsBefore m keeps (roll-Node (map-Node (Before m keeps) Node (λ e. e.0) y))
layer_before m keeps Node-F.Absent = search (rules, the_lemmas)
layer_before m keeps (Node-F.Flag x) = search (rules, the_lemmas)
layer_before m keeps (Node-F.Word w) = search (rules, the_lemmas)
layer_before m keeps (Node-F.Text x) = search (rules, the_lemmas)
layer_before m keeps (Node-F.Span x) = search (rules, the_lemmas)
layer_before m keeps (Node-F.List es) = subst (IsBefore m keeps) (sym (rolls-List (map (λ e. e.0) es))) (before-List m keeps (map (λ e. e.0) es) ∙ ap Many (each_before m keeps es))
layer_before m keeps (Node-F.Identifier k i) = search (rules, the_lemmas)
layer_before m keeps (Node-F.Tree k es) = subst (IsBefore m keeps) (sym (rolls-Tree k (map (λ e. e.0) es))) (before-Tree m keeps k (map (λ e. e.0) es) ∙ ap (Tree k) (each_before m keeps es))

pub before_is : (m : Changes) (keeps : Bool) (t : Node) → (renewed m keeps t).before ≡ t
before_is m keeps t = ind-Node (IsBefore m keeps) (λ x all e. subst (λ x. IsBefore m keeps (roll-Node x)) e (layer_before m keeps all)) t

pub all_before_are : (m : Changes) (keeps : Bool) (ts : List Node) → all_before (map (renewed m keeps) ts) ≡ ts
all_before_are m keeps [] = refl
all_before_are m keeps (t ∷ ts) = rw (before_is m keeps t, all_before_are m keeps ts) refl

pub substituted-Absent : (m : Changes) (keeps : Bool) (p : Place) → substituted m keeps p Absent ≡ Absent
substituted-Absent m keeps p = search (rules, the_lemmas)

pub substituted-Flag : (m : Changes) (keeps : Bool) (p : Place) (x : Bool) → substituted m keeps p (Flag x) ≡ Flag x
substituted-Flag m keeps p x = search (rules, the_lemmas)

pub substituted-Word : (m : Changes) (keeps : Bool) (p : Place) (w : Word') → substituted m keeps p (Word w) ≡ Word w
substituted-Word m keeps p w = search (rules, the_lemmas)

pub substituted-Text : (m : Changes) (keeps : Bool) (p : Place) (x : List ℕ) → substituted m keeps p (Text x) ≡ Text x
substituted-Text m keeps p x = search (rules, the_lemmas)

pub substituted-Span : (m : Changes) (keeps : Bool) (p : Place) (x : Span') → substituted m keeps p (Span x) ≡ Span x
substituted-Span m keeps p x = search (rules, the_lemmas)

pub substituted_identifier : (m : Changes) (keeps : Bool) (p : Place) (k : Kind) (i : Ident) → substituted m keeps p (Identifier k i) ≡ identifier_to p k i (changed m p i)
substituted_identifier m keeps p k i = search (rules, the_lemmas)

folded-List : (m : Changes) (keeps : Bool) (p : Place) (ts : List Node)
    → substituted m keeps p (Many ts) ≡ Many (flat_map (λ x. items_for m x.before (x.at p)) (map (renewed m keeps) ts))
folded-List m keeps p ts = search (rules, the_lemmas)

each_item : (m : Changes) (keeps : Bool) (p : Place) (ts : List Node)
    → flat_map (λ x. items_for m x.before (x.at p)) (map (renewed m keeps) ts) ≡ flat_map (λ t. items_for m t (substituted m keeps p t)) ts
each_item m keeps p [] = refl
each_item m keeps p (t ∷ ts) =
    ap (λ u. items_for m u (substituted m keeps p t) ++ flat_map (λ x. items_for m x.before (x.at p)) (map (renewed m keeps) ts)) (before_is m keeps t)
    ∙ ap (λ l. items_for m t (substituted m keeps p t) ++ l) (each_item m keeps p ts)

pub substituted_list : (m : Changes) (keeps : Bool) (p : Place) (ts : List Node)
    → substituted m keeps p (Many ts) ≡ Many (items_substituted m keeps p ts)
substituted_list m keeps p ts = folded-List m keeps p ts ∙ ap Many (each_item m keeps p ts)

folded-Tree : (m : Changes) (keeps : Bool) (p : Place) (k : Kind) (ts : List Node)
    → substituted m keeps p (Tree k ts) ≡ tree_for m keeps p k (all_before (map (renewed m keeps) ts)) (each_at (places keeps p k (all_before (map (renewed m keeps) ts))) (map (renewed m keeps) ts))
folded-Tree m keeps p k ts = search (rules, the_lemmas)

pub substituted_tree : (m : Changes) (keeps : Bool) (p : Place) (k : Kind) (ts : List Node)
    → substituted m keeps p (Tree k ts) ≡ tree_for m keeps p k ts (each_substituted m keeps (places keeps p k ts) ts)
substituted_tree m keeps p k ts =
    folded-Tree m keeps p k ts
    ∙ ap (λ us. tree_for m keeps p k us (each_at (places keeps p k us) (map (renewed m keeps) ts))) (all_before_are m keeps ts)

-- a node in which no name stands
pub substituted_leaf : (m : Changes) (keeps : Bool) (p : Place) (t : Node) → may_hold_names t ≡ false → substituted m keeps p t ≡ t
substituted_leaf m keeps p = without_names (λ t. substituted m keeps p t ≡ t)
    (substituted-Absent m keeps p, substituted-Flag m keeps p, substituted-Word m keeps p, substituted-Text m keeps p, substituted-Span m keeps p)

pub ruleset substituted_leaves = (substituted-Absent, substituted-Flag, substituted-Word, substituted-Text, substituted-Span)
