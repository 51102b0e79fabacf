-- What is left of a module that is stripped, and what ids what is left has.
use Rattle.std.specs.Prelude.{◌≡◌, ℕ, IsTrue, List}
use Rattle.swc_tree_node.specs.declared.kind.Class.TheVariants as class
use Rattle.swc_tree_node.specs.declared.slot.Content.TheVariants as content
use Rattle.swc_tree_node.specs.declared.slot.Slot.TheVariants as slot
use Rattle.swc_tree_node.specs.declared.node.Node.{Node}
use Rattle.swc_tree_node.specs.Fits.{Fits}
use Rattle.swc_tree_scoping.specs.Places.{program_place}
use Rattle.swc_tree_scoping.specs.WellScoped.{EachInOneScope, IsClean}
use Rattle.swc_tree_scoping.specs.Readings.{by_ids}
use Rattle.swc_tree_scoping.specs.Resolved.{Resolved}
use Rattle.swc_tree_renaming.specs.Apart.{CapturesNone, HasTexts, IsPlainProgram, Knows, MeanTheirIds, MeansNoGlobalValue, SameIds, SameScopes}
use Rattle.swc_tree_grammar.specs.Stripped.{stripped}
use Rattle.swc_tree_grammar.specs.Targets.{all_bare}
use Rattle.swc_tree_sites.specs.Sites.{sites_of, taken_at}
use Rattle.swc_tree_sites.specs.Smaller.{Fewer, IsLeftOf}

-- a module that is stripped, of which each parenthesised target can stand bare, has fewer names, with the same round
-- them, and its scopes take what they took
abbrev pub StrippedHasFewer : Type 0
StrippedHasFewer = (t : Node) → Fits t (slot.One (content.Node class.Module)) → IsTrue (all_bare t) → Fewer (sites_of program_place (stripped t)) (sites_of program_place t)

-- ... and the program takes what it took
abbrev pub StrippedTakesTheSame : Type 0
StrippedTakesTheSame = (t : Node) → Fits t (slot.One (content.Node class.Module)) → IsTrue (all_bare t) → taken_at program_place (stripped t) ≡ taken_at program_place t

-- what is left of a tree is left of it too where both are read by ids
abbrev pub IdsAreLeft : Type 0
IdsAreLeft = (n t : Node) → IsLeftOf n t → IsLeftOf (by_ids n) (by_ids t)

-- A program, its answer with new texts, and the answer resolved; and what is left of each, with the same scopes in all
-- three. Where the ids of the program capture none with their new texts, any two names of what is left have one id in
-- what is left of the resolved answer exactly if they have one in what is left of the program.
abbrev pub LeftKeepsIds : Type 0
LeftKeepsIds = (t a answer n u m : Node) (text : List ℕ → List ℕ) (unresolved top : ℕ) (old new : List (ℕ × ℕ))
    → IsPlainProgram t → IsPlainProgram a → IsPlainProgram answer → IsPlainProgram n
    → EachInOneScope (by_ids t) → CapturesNone (by_ids t) text → IsLeftOf (by_ids a) (by_ids t)
    → SameScopes (by_ids a) n → IsClean n → HasTexts (by_ids a) text n
    → IsClean answer → Knows old unresolved → Resolved unresolved top old new answer u
    → IsLeftOf m u → taken_at program_place m ≡ taken_at program_place u → SameScopes n m → HasTexts n (λ x. x) m
    → MeansNoGlobalValue answer → MeansNoGlobalValue n → SameIds a m

-- ... and the names of what is left of the answer mean the ids of what is left of the program, with no resolver asked
abbrev pub LeftMeanTheirIds : Type 0
LeftMeanTheirIds = (t a n : Node) (text : List ℕ → List ℕ) → IsPlainProgram t → IsPlainProgram a → IsPlainProgram n
    → EachInOneScope (by_ids t) → CapturesNone (by_ids t) text → IsLeftOf (by_ids a) (by_ids t)
    → SameScopes (by_ids a) n → IsClean n → HasTexts (by_ids a) text n → MeanTheirIds n a
