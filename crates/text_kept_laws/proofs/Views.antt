-- What is seen of a node where it stands, before and after a change: what tests of lengths and of leaves look at.
use Rattle.std.proofs.Common.{◌≡◌, ℕ, Bool, Option, List, [], ◌∷◌, map}
use Rattle.std.specs.List.{list_all}
use Rattle.swc_tree_node.specs.declared.kind.Kind.{Kind}
use Rattle.swc_tree_node.specs.declared.kind.Kind.TheVariants as kind
use Rattle.swc_tree_node.specs.declared.kind.Word.{Word}
use Rattle.swc_tree_node.specs.declared.node.Node.{Node, out-Node}
use Rattle.swc_tree_node.specs.declared.node.Node.TheOpen.{Node-F}
use Rattle.swc_tree_node.specs.Parts.{text_of}
use Rattle.swc_tree_scoping.specs.Places.{plain_in}
use Rattle.swc_tree_grammar.specs.Shapes.{items_of}
use Rattle.swc_tree_grammar.specs.Kinds.{has_kind, is_destructuring}
use Rattle.swc_tree_grammar.specs.Levels.{is_absent, word_of}
use Rattle.swc_tree_grammar.specs.Forms.{holds}
use Rattle.swc_tree_grammar.specs.Writable.{constructor_key_in}
use Rattle.text_grammar.specs.Shaped.{constructor_kind, default_in, default_kind, import_kind, named_kind, odd_rest_in, spread_in, star_kind, tail_in}

-- the leaf that a node is
pub record SameLeaf (t u : Node) : Type 0 where
  pub absent : is_absent u ≡ is_absent t
  pub word : word_of u ≡ word_of t
  pub flag : holds u ≡ holds t
  pub text : text_of u ≡ text_of t

-- the kinds that are looked at
pub record SameKind (t u : Node) : Type 0 where
  pub default : has_kind default_kind u ≡ has_kind default_kind t
  pub star : has_kind star_kind u ≡ has_kind star_kind t
  pub named : has_kind named_kind u ≡ has_kind named_kind t
  pub constructor : has_kind constructor_kind u ≡ has_kind constructor_kind t
  pub imports : has_kind import_kind u ≡ has_kind import_kind t
  pub destructuring : has_kind is_destructuring u ≡ has_kind is_destructuring t

-- what is looked at in its fields
pub record SameParts (t u : Node) : Type 0 where
  pub tail : tail_in (out-Node u) ≡ tail_in (out-Node t)
  pub spread : spread_in (out-Node u) ≡ spread_in (out-Node t)
  pub rest : odd_rest_in (out-Node u) ≡ odd_rest_in (out-Node t)
  pub case : default_in (out-Node u) ≡ default_in (out-Node t)
  pub plain : plain_in (out-Node u) ≡ plain_in (out-Node t)

pub record View : Type 0 where
  pub before : Node
  pub after : Node
  pub leaf : SameLeaf before after
  pub kind : SameKind before after
  pub parts : SameParts before after

abbrev pub befores : List View → List Node
befores vs = map (λ v. v.before) vs

abbrev pub afters : List View → List Node
afters vs = map (λ v. v.after) vs

-- the items of a list, each with what it becomes
pub record Listed (v : View) : Type 0 where
  pub items : List View
  pub were : items_of v.before ≡ befores items
  pub are : items_of v.after ≡ afters items

-- a key names the constructor as before
abbrev pub Keyed : View → Type 0
Keyed v = constructor_key_in (out-Node v.after) ≡ constructor_key_in (out-Node v.before)

abbrev pub Of : (View → Type 0) → List View → Type 0
Of P [] = Unit {0}
Of P (v ∷ vs) = P v × Of P vs
