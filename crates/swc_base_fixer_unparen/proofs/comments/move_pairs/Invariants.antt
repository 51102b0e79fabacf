use Rattle.std.proofs.Common.{take}
use Rattle.std.specs.List.{flat_map}
use Rattle.swc_tree_grammar.specs.Pairs.{moves_of}
use Rattle.swc_base_fixer_unparen.specs.Moves.{LeadTo}
use Rattle.swc_base_fixer_unparen.proofs.comments.move_pairs.Given as goal

abbrev pub invariant-loop-pair : goal.invariant-loop-pair
invariant-loop-pair g l = LeadTo g.C.Comments.moved l.initial.comments (flat_map moves_of (take l.pair-index l.pairs)) l.comments
