-- The laws.
use Rattle.swc_tree_grammar.specs.Blocks.{with_blocks}
use Rattle.swc_tree_grammar.specs.Stripped.{stripped}
use Rattle.swc_tree_grammar.proofs.BlocksKept.{blocks_fit}
use Rattle.swc_tree_grammar.proofs.Kept.{stripped_fits}
use Rattle.text_kept_laws.proofs.PairsWhole.{blocks_shape, blocks_spelling, pairs_shape, pairs_spelling}
use Rattle.text_kept_laws.specs.Stripping.{FixerKeepsShape, FixerKeepsSpelling, UnparenKeepsShape, UnparenKeepsSpelling}
use Rattle.text_kept_laws.proofs.Stripping.{stays}

pub unparen_shape : UnparenKeepsShape
unparen_shape t s bare fits f = blocks_shape (stripped t) ((stays t s bare fits).shaped f)

pub unparen_spelling : UnparenKeepsSpelling
unparen_spelling t s bare fits f = blocks_spelling (stripped t) ((stays t s bare fits).spelled f)

pub fixer_shape : FixerKeepsShape
fixer_shape place t s bare open_place fits f = pairs_shape place (with_blocks (stripped t)) s (blocks_fit (stripped t) s (stripped_fits t s bare open_place fits)) (unparen_shape t s bare fits f)

pub fixer_spelling : FixerKeepsSpelling
fixer_spelling place t s bare open_place fits f = pairs_spelling place (with_blocks (stripped t)) s (blocks_fit (stripped t) s (stripped_fits t s bare open_place fits)) (unparen_spelling t s bare fits f)
