-- Trees in which each pair of parentheses has a reason to stand where it does.
use Rattle.std.specs.Prelude.{◌≡◌, List, [], ◌∷◌, map, Bool, true, false, ◌&&◌, None}
use Rattle.swc_tree_node.specs.declared.kind.Kind.{Kind}
use Rattle.swc_tree_node.specs.declared.kind.Kind.TheVariants as kind
use Rattle.swc_tree_node.specs.declared.node.Node.{Node, List as Many, Tree, out-Node}
use Rattle.swc_tree_node.specs.declared.node.Node.TheOpen.{Node-F}
use Rattle.swc_tree_node.specs.Parts.{has_parts}
use Rattle.swc_tree_grammar.specs.Shapes.{Seq, Bin, Statement}
use Rattle.swc_tree_grammar.specs.Kinds.{is_paren}
use Rattle.swc_tree_grammar.specs.Levels.{word_of, is_in, is_called}
use Rattle.swc_tree_grammar.specs.Demands.{meets}
use Rattle.swc_tree_grammar.specs.Starts.{start, is_let_bracket}
use Rattle.swc_tree_grammar.specs.Stripped.{is_pairless}
use Rattle.swc_tree_grammar.specs.Grammar.{is_async_name}
use Rattle.swc_tree_grammar.specs.Readers.{none as unnamed, named_in, is_odd_item}
use Rattle.swc_base_fixer_needs.specs.Sites.{Mode, Site, Spot, Clue, clue, spots, any, may_open}
use Rattle.swc_base_fixer_needs.specs.Sites.Mode.{Declarators}
use Rattle.swc_base_fixer_needs.specs.Sites.Spot.{Hidden, At}

-- which expressions the reader's table names in a place: those of a test, or, of the sequence that is a statement and of
-- its list, some items
pub data Label : Type 0 where
  Names : (Node → Bool) → Label
  OfStatement : Label
  OfItems : Label

abbrev pub nothing : Label
nothing = Names unnamed

abbrev pub names_content : Label → Node → Bool
names_content (Names test) e = test e
names_content _ e = false

abbrev pub item_labels : List Node → List Label
item_labels [] = []
item_labels (t ∷ []) = nothing ∷ []
item_labels (t ∷ u ∷ ts) = Names is_odd_item ∷ item_labels (u ∷ ts)

abbrev pub field_labels : List (Node → Bool) → List Node → List Label
field_labels tests [] = []
field_labels [] (t ∷ ts) = nothing ∷ field_labels [] ts
field_labels (test ∷ tests) (t ∷ ts) = Names test ∷ field_labels tests ts

abbrev pub labels : Label → Node-F Node → List Label
labels l (Statement span expr) = nothing ∷ OfStatement ∷ []
labels OfStatement (Seq span exprs) = nothing ∷ OfItems ∷ []
labels OfItems (Node-F.List ts) = item_labels ts
labels l (Node-F.Tree k ts) = field_labels (named_in (Node-F.Tree k ts)) ts
labels l (Node-F.List ts) = field_labels [] ts
labels l _ = []

abbrev pub is_bare_in : Node-F Node → Bool
is_bare_in (Bin span op left right) = is_in (word_of op)
is_bare_in _ = false

-- why a pair stands round a content: the reader's table names it, or the content is not what its place asks
pub data Reason (l : Label) (a : Site) (e : Node) : Type 0 where
  for_reader : names_content l e ≡ true → Reason l a e
  unmet : meets a.demand e ≡ false → Reason l a e
  leads_call : a.uncalled ≡ true → is_called e ≡ true → Reason l a e
  in_head : a.with_in ≡ false → is_bare_in (out-Node e) ≡ true → Reason l a e
  async_before_of : a.before_of ≡ true → is_async_name e ≡ true → Reason l a e
  begins_so : may_open a.opening (start e) ≡ false → (a.optional && is_let_bracket e) ≡ false → Reason l a e

-- neither a word, a flag or a block, nor absent
abbrev pub blank : Clue
blank = record { word = None; absent = false; flag = false; block = false }

abbrev pub takes_tree : Mode → Bool
takes_tree Declarators = false
takes_tree _ = true

-- a reason that has to do with no first part of a head and with no start
abbrev pub is_of_level : {l : Label} {a : Site} {e : Node} → Reason l a e → Bool
is_of_level (for_reader n) = true
is_of_level (unmet n) = true
is_of_level (leads_call u c) = true
is_of_level r = false

-- how much is said of the pairs: that each has a reason, moreover one of its level, or moreover that there is none where
-- the grammar does not look
pub data Extent : Type 0 where
  Reasoned : Extent
  ByLevel : Extent
  Seen : Extent

abbrev pub is_by_level : Extent → Bool
is_by_level ByLevel = true
is_by_level _ = false

abbrev pub is_seen : Extent → Bool
is_seen Seen = true
is_seen _ = false

mutual
  pub data Due (x : Extent) : Label → Spot → Node → Type 0 where
    leaf : {l : Label} {s : Spot} (t : Node) → has_parts t ≡ false → Due x l s t
    unseen : {l : Label} (t : Node) → (is_seen x ≡ true → is_pairless t ≡ true) → Due x l Hidden t
    pair : {l : Label} {a : Site} (s e : Node) → (is_seen x ≡ true → takes_tree a.mode ≡ true) → (is_seen x ≡ true → is_pairless s ≡ true) → clue e ≡ blank
        → (r : Reason l a e) → (is_by_level x ≡ true → is_of_level r ≡ true) → Due x nothing any e → Due x l (At a) (Tree kind.ParenExpr (s ∷ e ∷ []))
    many : {l : Label} {a : Site} (ts : List Node) → AllDue x (labels l (Node-F.List ts)) (spots a (Node-F.List (map clue ts))) ts → Due x l (At a) (Many ts)
    tree : {l : Label} {a : Site} (k : Kind) (ts : List Node) → is_paren k ≡ false → (is_seen x ≡ true → takes_tree a.mode ≡ true) → AllDue x (labels l (Node-F.Tree k ts)) (spots a (Node-F.Tree k (map clue ts))) ts → Due x l (At a) (Tree k ts)

  pub data AllDue (x : Extent) : List Label → List Spot → List Node → Type 0 where
    none : AllDue x [] [] []
    more : {l : Label} {ls : List Label} {s : Spot} {ss : List Spot} {t : Node} {ts : List Node} → Due x l s t → AllDue x ls ss ts → AllDue x (l ∷ ls) (s ∷ ss) (t ∷ ts)
