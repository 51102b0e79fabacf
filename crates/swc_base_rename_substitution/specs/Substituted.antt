-- What a tree becomes where the names in it are given anew.
--
-- `m` gives the new id of an id where its text changes; `keeps` says whether classes keep their names.
use Rattle.std.specs.Prelude.{ℕ, zero, suc, ◌≡◌, Bool, true, false, not, ◌&&◌, Option, Some, None, is_some, option_and_then, List, [], ◌∷◌, map, if◌then◌else◌}
use Rattle.std.specs.List.{flat_map}
use Rattle.swc_tree_marks.specs.declared.ident.Ident.{Ident}
use Rattle.swc_tree_node.specs.declared.kind.Kind.{Kind}
use Rattle.swc_tree_node.specs.declared.kind.Kind.TheVariants as kind
use Rattle.swc_tree_node.specs.declared.fields.statements.class_decl.TheConstants as class_decl
use Rattle.swc_tree_node.specs.declared.node.Node.{Node, Absent, Flag, Word, Text, Span, List as Many, roll-Node, map-Node, fold-Node}
use Rattle.swc_tree_node.specs.declared.node.Node.TheOpen.{Node-F}
use Rattle.swc_base_rename_substitution.specs.declared.place.Place.{Place}
use Rattle.swc_base_rename_substitution.specs.declared.place.Place.TheVariants as place
use Rattle.swc_base_rename_substitution.specs.Places.{places}
use Rattle.swc_base_rename_substitution.specs.Identifiers.{Changes, changed, identifier_to, identifier_at, written_out_if}
use Rattle.swc_base_rename_substitution.specs.Classes.{kept_class}
use Rattle.swc_base_rename_substitution.specs.Exports.{items_for}

-- the identifier in a field of that place, where its text changes
abbrev pub if_changed : Changes → Place → Option Ident → Option Ident
if_changed m p i = option_and_then (λ i. if is_some (changed m p i) then Some i else None) i

abbrev pub is_exported : Place → Bool
is_exported place.Exported = true
is_exported p = false

-- where classes keep their names, a class declaration that is not exported becomes `let`
abbrev pub keeps_name : Bool → Place → Kind → Bool
keeps_name keeps p kind.ClassDecl = keeps && not (is_exported p)
keeps_name keeps p k = false

-- a node of that kind, whose fields were `before` and are now `ts`
abbrev pub tree_for : Changes → Bool → Place → Kind → List Node → List Node → Node
tree_for m keeps whole k before ts =
    if keeps_name keeps whole k
    then kept_class (identifier_at before class_decl.IDENT) ts
    else written_out_if k (if_changed m (places keeps whole k before 1) (identifier_at before 1)) ts

-- a node as it was, and what it becomes at a place
pub record Renewed : Type 0 where
  pub before : Node
  pub at : Place → Node

abbrev pub each_at : (ℕ → Place) → List Renewed → List Node
each_at ps [] = []
each_at ps (x ∷ xs) = x.at (ps zero) ∷ each_at (λ i. ps (suc i)) xs

abbrev pub all_before : List Renewed → List Node
all_before xs = map (λ x. x.before) xs

abbrev pub renewed_at : Changes → Bool → Node-F Renewed → Place → Node
renewed_at m keeps Node-F.Absent p = Absent
renewed_at m keeps (Node-F.Flag x) p = Flag x
renewed_at m keeps (Node-F.Word w) p = Word w
renewed_at m keeps (Node-F.Text x) p = Text x
renewed_at m keeps (Node-F.Span x) p = Span x
renewed_at m keeps (Node-F.List xs) p = Many (flat_map (λ x. items_for m x.before (x.at p)) xs)
renewed_at m keeps (Node-F.Identifier k i) p = identifier_to p k i (changed m p i)
renewed_at m keeps (Node-F.Tree k xs) p = tree_for m keeps p k (all_before xs) (each_at (places keeps p k (all_before xs)) xs)

abbrev pub renew_step : Changes → Bool → Node-F Renewed → Renewed
renew_step m keeps y = record {
  before = roll-Node (map-Node Renewed Node (λ x. x.before) y);
  at = renewed_at m keeps y;
}

abbrev pub renewed : Changes → Bool → Node → Renewed
renewed m keeps = fold-Node Renewed (renew_step m keeps)

-- what a node at a place becomes
abbrev pub substituted : Changes → Bool → Place → Node → Node
substituted m keeps p t = (renewed m keeps t).at p

-- `answer` is the tree with its names given anew
abbrev pub Substituted : Changes → Bool → Node → Node → Type 0
Substituted m keeps tree answer = answer ≡ substituted m keeps place.Other tree
