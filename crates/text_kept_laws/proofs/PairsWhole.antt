-- The laws.
use Rattle.swc_base_fixer_laws.proofs.Answer.{due_set}
use Rattle.text_kept_laws.specs.Pairs.{BlocksKeepShape, BlocksKeepSpelling, DuePairsKeepShape, DuePairsKeepSpelling}
use Rattle.text_kept_laws.proofs.Sets.{shaped}
use Rattle.text_kept_laws.proofs.SetSpelled.{spelled}
use Rattle.text_kept_laws.proofs.Blocks.{blocks_shaped, blocks_spelled}

pub pairs_shape : DuePairsKeepShape
pairs_shape place t s fits f = shaped (due_set place t s fits) f

pub pairs_spelling : DuePairsKeepSpelling
pairs_spelling place t s fits f = spelled (due_set place t s fits) f

pub blocks_shape : BlocksKeepShape
blocks_shape t f = blocks_shaped t f

pub blocks_spelling : BlocksKeepSpelling
blocks_spelling t f = blocks_spelled t f
