-- What a node fits goes by its parts and its kind, so nodes that differ in their identifiers alone fit the same places.
use Rattle.std.proofs.Common.{◌≡◌, List, map, IsTrue, sym, subst}
use Rattle.swc_tree_marks.specs.declared.ident.Ident.{Ident}
use Rattle.swc_tree_node.specs.declared.kind.Kind.{Kind}
use Rattle.swc_tree_node.specs.declared.slot.Slot.{Slot}
use Rattle.swc_tree_node.specs.declared.node.Node.{Node, List as Many, Identifier, Tree}
use Rattle.swc_tree_node.specs.Fits.{Test, fits, single, list_fits, identifier_fits, tree_fits, all_fit, AllFit}
use Rattle.swc_tree_node.proofs.Fit.{fits-List, fits-Identifier, fits-Tree, all_open, all_close}

pub of_list : List Test → Test
of_list fs s = list_fits fs s

pub of_identifier : Kind → Test
of_identifier k s = identifier_fits k (single s)

pub of_tree : Kind → List Test → Test
of_tree k fs s = tree_fits k fs (single s)

pub fits_list : (ts : List Node) → fits (Many ts) ≡ of_list (map fits ts)
unfolding of_list
fits_list ts = λ i s. fits-List ts s i

pub fits_identifier : (k : Kind) (x : Ident) → fits (Identifier k x) ≡ of_identifier k
unfolding of_identifier
fits_identifier k x = λ i s. fits-Identifier k x s i

pub fits_tree : (k : Kind) (ts : List Node) → fits (Tree k ts) ≡ of_tree k (map fits ts)
unfolding of_tree
fits_tree k ts = λ i s. fits-Tree k ts s i

pub all_alike : (s : Slot) (ts us : List Node) → map fits ts ≡ map fits us → AllFit s us → AllFit s ts
all_alike s ts us h f = all_open s ts (subst (λ l. IsTrue (all_fit l s)) (sym h) (all_close s us f))
