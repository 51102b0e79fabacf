-- What is asked of a node.
use Rattle.std.proofs.Common.{Bool}
use Rattle.swc_tree_grammar.specs.Writable.{Round}

-- code that is strict or not, in which the names in a pattern are assigned to or bound
abbrev pub code : Bool → Bool → Round
code strict assigned = record { strict = strict; assigned = assigned }
