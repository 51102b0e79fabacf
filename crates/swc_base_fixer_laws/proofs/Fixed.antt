-- What can be written down still can once it is stripped, with its blocks and its due pairs.
use Rattle.std.proofs.Common.{◌≡◌, true, false, IsTrue}
use Rattle.swc_tree_node.specs.declared.slot.Slot.{Slot}
use Rattle.swc_tree_node.specs.declared.node.Node.{Node}
use Rattle.swc_tree_node.specs.Fits.{Fits}
use Rattle.swc_tree_grammar.specs.Stripped.{stripped}
use Rattle.swc_tree_grammar.specs.Blocks.{with_blocks}
use Rattle.swc_tree_grammar.specs.Due.{Places}
use Rattle.swc_tree_grammar.specs.Grammar.{FitsGrammar}
use Rattle.swc_tree_grammar.specs.Fixed.{fixed}
use Rattle.swc_tree_grammar.specs.Places.{is_open}
use Rattle.swc_tree_grammar.specs.Targets.{all_bare}
use Rattle.swc_tree_grammar.specs.Writable.{Writable}
use Rattle.swc_tree_grammar.proofs.Kept.{stripped_fits}
use Rattle.swc_tree_grammar.proofs.BlocksKept.{blocks_fit}
use Rattle.swc_base_fixer_laws.specs.Laws.{FixedFitsTable}
use Rattle.swc_base_fixer_laws.proofs.Answer.{keep_writable, answer_fits, answer_fits_table}
use Rattle.swc_base_fixer_laws.proofs.BareTargets.{bare_targets}
use Rattle.swc_base_fixer_laws.proofs.Blocking.{blocks_keep_writable}
use Rattle.swc_base_fixer_laws.proofs.Stripping.{stripped_sound}

pub targets_stand_bare : (t : Node) (s : Slot) → Fits t s → Writable t → all_bare t ≡ true
targets_stand_bare t s f w = bare_targets t s f (record { strict = false; assigned = false }) w

pub stripping_keeps_writable : (t : Node) (s : Slot) → Fits t s → Writable t → Writable (stripped t)
stripping_keeps_writable t s f w = stripped_sound t s (targets_stand_bare t s f w) f (record { strict = false; assigned = false }) w

pub fixed_fits : (place : Places) (t : Node) (s : Slot) → IsTrue (is_open s) → Fits t s → Writable t → Writable (fixed place t) × FitsGrammar (fixed place t)
fixed_fits place t s o f w =
    let g = stripped_fits t s (targets_stand_bare t s f w) o f in
    let u = blocks_keep_writable (stripped t) s g (stripping_keeps_writable t s f w) in
    (keep_writable place (with_blocks (stripped t)) s (blocks_fit (stripped t) s g) u, answer_fits place (stripped t) s g u)

pub fixed_fits_table : FixedFitsTable
fixed_fits_table place t s o f b = answer_fits_table place (stripped t) s (stripped_fits t s b o f)
