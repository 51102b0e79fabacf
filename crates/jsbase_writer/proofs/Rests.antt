-- The heights and the numbers of nodes that are written one after another.
use Rattle.std.proofs.Common.{◌≡◌, ◌≤◌, List, ◌∷◌, IsTrue, map, ap, sym, subst, arith}
use Rattle.swc_tree_node.specs.declared.node.Node.{Node}
use Rattle.swc_tree_node.proofs.Fit.{and_both}
use Rattle.jsbase_form.specs.Known.{NumbersShort, numbers_short, all_of}
use Rattle.jsbase_writer.specs.declared.members.Member.{Member}
use Rattle.jsbase_writer.specs.Members.{greatest, height, tallest, PartShort, MembersShort}

pub nodes_within : (ts rest : List Node) (t : Node) (all : List Node) → ts ≡ t ∷ rest → greatest (map height ts) ≤ greatest (map height all) → greatest (map height rest) ≤ greatest (map height all)
nodes_within ts rest t all e h = let d = ap (λ l. greatest (map height l)) e in omega arith

pub nodes_short : (ts rest : List Node) (t : Node) → ts ≡ t ∷ rest → NumbersShort t → IsTrue (all_of (map numbers_short rest)) → IsTrue (all_of (map numbers_short ts))
nodes_short ts rest t e short others = subst (λ l. IsTrue (all_of (map numbers_short l))) (sym e) (and_both (numbers_short t) (all_of (map numbers_short rest)) short others)

pub members_within : (ms rest : List Member) (m : Member) (all : List Member) → ms ≡ m ∷ rest → tallest ms ≤ tallest all → tallest rest ≤ tallest all
members_within ms rest m all e h = let d = ap tallest e in omega arith

pub members_short : (ms rest : List Member) (m : Member) → ms ≡ m ∷ rest → PartShort m.part → MembersShort rest → MembersShort ms
members_short ms rest m e short others = subst MembersShort (sym e) (short, others)
