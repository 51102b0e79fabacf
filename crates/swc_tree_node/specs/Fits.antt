-- Which nodes may stand in which place.
use Rattle.std.specs.Prelude.{List, [], ◌∷◌, Bool, true, false, not, ◌&&◌, ◌==◌, IsTrue, Option, Some, None}
use Rattle.std.specs.List.{list_any}
use Rattle.swc_tree_node.specs.declared.kind.Kind.{Kind}
use Rattle.swc_tree_node.specs.declared.kind.Class.{Class}
use Rattle.swc_tree_node.specs.declared.kind.Word.{Word}
use Rattle.swc_tree_node.specs.declared.kind.WordClass.{WordClass}
use Rattle.swc_tree_node.specs.declared.slot.Content.{Content}
use Rattle.swc_tree_node.specs.declared.slot.Content.TheVariants as content
use Rattle.swc_tree_node.specs.declared.slot.Slot.{Slot}
use Rattle.swc_tree_node.specs.declared.slot.Slot.TheVariants as slot
use Rattle.swc_tree_node.specs.declared.node.Node.{Node, fold-Node}
use Rattle.swc_tree_node.specs.declared.node.Node.TheOpen.{Node-F}
use Rattle.swc_tree_node.specs.Table.{kinds_of, slots_of, words_of, kind_number, word_number, is_identifier}

-- the kind is one of those that the class takes
abbrev pub belongs : Kind → Class → Bool
belongs k c = list_any (λ x. kind_number k == kind_number x) (kinds_of c)

-- the word is one of the place's
abbrev pub is_among : Word → WordClass → Bool
is_among w ws = list_any (λ x. word_number w == word_number x) (words_of ws)

-- what a single node or leaf has to be, where the place takes one
abbrev pub single : Slot → Option Content
single (slot.One c) = Some c
single (slot.Optional c) = Some c
single _ = None

abbrev pub absent_fits : Slot → Bool
absent_fits (slot.Optional c) = true
absent_fits (slot.OptionalList c) = true
absent_fits slot.Pairs = true
absent_fits _ = false

abbrev pub flag_fits : Option Content → Bool
flag_fits (Some content.Flag) = true
flag_fits _ = false

abbrev pub word_fits : Word → Option Content → Bool
word_fits w (Some (content.Word ws)) = is_among w ws
word_fits w _ = false

abbrev pub text_fits : Option Content → Bool
text_fits (Some content.Text) = true
text_fits _ = false

abbrev pub span_fits : Option Content → Bool
span_fits (Some content.Span) = true
span_fits _ = false

-- what is said below of a node, as a test of its place
abbrev pub Test : Type 0
Test = Slot → Bool

abbrev pub all_fit : List Test → Slot → Bool
all_fit [] s = true
all_fit (f ∷ fs) s = f s && all_fit fs s

abbrev pub each_fits : List Slot → List Test → Bool
each_fits [] [] = true
each_fits (s ∷ ss) (f ∷ fs) = f s && each_fits ss fs
each_fits _ _ = false

abbrev pub list_fits : List Test → Slot → Bool
list_fits fs (slot.List c) = all_fit fs (slot.One c)
list_fits fs (slot.Holes c) = all_fit fs (slot.Optional c)
list_fits fs (slot.OptionalList c) = all_fit fs (slot.One c)
list_fits fs slot.Pair = each_fits (slot.One content.Text ∷ slot.One content.Text ∷ []) fs
list_fits fs slot.Pairs = all_fit fs slot.Pair
list_fits fs _ = false

abbrev pub identifier_fits : Kind → Option Content → Bool
identifier_fits k (Some (content.Node c)) = is_identifier k && belongs k c
identifier_fits k _ = false

abbrev pub tree_fits : Kind → List Test → Option Content → Bool
tree_fits k fs (Some (content.Node c)) = not (is_identifier k) && (belongs k c && each_fits (slots_of k) fs)
tree_fits k fs _ = false

abbrev pub fit_step : Node-F Test → Test
fit_step Node-F.Absent s = absent_fits s
fit_step (Node-F.Flag x) s = flag_fits (single s)
fit_step (Node-F.Word w) s = word_fits w (single s)
fit_step (Node-F.Text x) s = text_fits (single s)
fit_step (Node-F.Span x) s = span_fits (single s)
fit_step (Node-F.List fs) s = list_fits fs s
fit_step (Node-F.Identifier k i) s = identifier_fits k (single s)
fit_step (Node-F.Tree k fs) s = tree_fits k fs (single s)

abbrev pub fits : Node → Test
fits = fold-Node Test fit_step

-- the node may stand in the place, and so may all that is below it, each in its own
abbrev pub Fits : Node → Slot → Type 0
Fits t s = IsTrue (fits t s)

-- the fields, each in its place
abbrev pub FieldsFit : List Slot → List Node → Type 0
FieldsFit [] [] = Unit {0}
FieldsFit (s ∷ ss) (t ∷ ts) = Fits t s × FieldsFit ss ts
FieldsFit _ _ = ⊥

abbrev pub AllFit : Slot → List Node → Type 0
AllFit s [] = Unit {0}
AllFit s (t ∷ ts) = Fits t s × AllFit s ts
