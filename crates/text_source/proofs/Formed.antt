-- What a tree that is well formed has, and what one walk for five faults finds.
use Rattle.std.proofs.Common.{List, ℕ}
use Rattle.std.proofs.lemmas.Bool.{or_left, or_right}
use Rattle.swc_tree_node.specs.declared.node.Node.{Node, out-Node}
use Rattle.swc_tree_node.specs.declared.slot.Slot.{Slot}
use Rattle.swc_tree_node.specs.Fits.{Fits}
use Rattle.swc_tree_walk.specs.Nodes.{HasNode}
use Rattle.text_checks.specs.Checked.{IsWellFormed}
use Rattle.text_grammar.specs.Shaped.{is_misshapen}
use Rattle.text_checks.specs.Pinned.{is_astray}
use Rattle.text_source.specs.Amiss.{is_amiss, is_marked}
use Rattle.text_spans.specs.Leaves.{is_misplaced}
use Rattle.text_checks.specs.Spelled.{is_misspelled}

pub fits_of : (s : Slot) (t : Node) → IsWellFormed s t → Fits t s
fits_of s t h = h.fits

pub among_first : (text : List ℕ) (t : Node) → HasNode is_misshapen t → HasNode (is_amiss text) t
among_first text t (p, n, at, is) = (p, n, at, or_left (is_misshapen (out-Node n)) _ is)

pub among_second : (text : List ℕ) (t : Node) → HasNode is_misspelled t → HasNode (is_amiss text) t
among_second text t (p, n, at, is) = (p, n, at, or_right (is_misshapen (out-Node n)) _ (or_left (is_misspelled (out-Node n)) _ is))

pub among_third : (text : List ℕ) (t : Node) → HasNode (is_misplaced text) t → HasNode (is_amiss text) t
among_third text t (p, n, at, is) =
    (p, n, at, or_right (is_misshapen (out-Node n)) _ (or_right (is_misspelled (out-Node n)) _ (or_left (is_misplaced text (out-Node n)) _ is)))

pub among_fourth : (text : List ℕ) (t : Node) → HasNode is_astray t → HasNode (is_amiss text) t
among_fourth text t (p, n, at, is) =
    (p, n, at, or_right (is_misshapen (out-Node n)) _ (or_right (is_misspelled (out-Node n)) _ (or_right (is_misplaced text (out-Node n)) _ (or_left (is_astray (out-Node n)) _ is))))

pub among_fifth : (text : List ℕ) (t : Node) → HasNode is_marked t → HasNode (is_amiss text) t
among_fifth text t (p, n, at, is) =
    (p, n, at, or_right (is_misshapen (out-Node n)) _ (or_right (is_misspelled (out-Node n)) _ (or_right (is_misplaced text (out-Node n)) _ (or_right (is_astray (out-Node n)) (is_marked (out-Node n)) is))))
