-- Scripts that are settled stay so, stripped, written out, with due pairs and fixed.
use Rattle.std.proofs.Common.{◌≡◌, true, false, None, refl}
use Rattle.swc_tree_node.specs.declared.node.Node.{Node}
use Rattle.swc_tree_node.specs.Fits.{Fits}
use Rattle.swc_tree_scoping.specs.Places.{program_place}
use Rattle.swc_tree_grammar.specs.Blocks.{with_blocks}
use Rattle.swc_tree_grammar.specs.Due.{Places, with_due_pairs}
use Rattle.swc_tree_grammar.specs.Fixed.{fixed}
use Rattle.swc_tree_grammar.specs.Normal.{normal_form}
use Rattle.swc_tree_grammar.specs.Stripped.{stripped}
use Rattle.swc_tree_grammar.specs.Writable.{Writable}
use Rattle.swc_tree_grammar.proofs.BlocksKept.{blocks_fit}
use Rattle.swc_tree_grammar.proofs.Kept.{stripped_fits}
use Rattle.swc_tree_grammar_texts.proofs.Inner.{fits_inner}
use Rattle.swc_base_fixer_laws.proofs.Fixed.{stripping_keeps_writable, targets_stand_bare}
use Rattle.swc_tree_sites_kept.specs.Scripts.{script_place}
use Rattle.swc_tree_sites_kept.specs.Settled.{is_settled}
use Rattle.swc_tree_sites_kept.proofs.KeepsPlaces.{Keeps, calmer_same, suits_same}
use Rattle.swc_tree_sites_kept.proofs.KeepsBlocks.{blocks_keep, sound_bodied}
use Rattle.swc_tree_sites_kept.proofs.KeepsPairs.{due_keeps}
use Rattle.swc_tree_sites_kept.proofs.KeepsStripped.{stripped_keeps}
use Rattle.swc_tree_sites_kept.proofs.KeepsWritten.{written_keeps}

pub at_program : (t u : Node) → Keeps t u → is_settled program_place t ≡ true → is_settled program_place u ≡ true
at_program t u k h = k program_place program_place (calmer_same program_place) (suits_same None) h

pub stripped_settled : (t : Node) → Fits t script_place → Writable t → is_settled program_place t ≡ true → is_settled program_place (stripped t) ≡ true
stripped_settled t f w h = at_program t (stripped t) (stripped_keeps t script_place (targets_stand_bare t script_place f w) f) h

pub normal_settled : (t : Node) → Fits t script_place → Writable t → is_settled program_place t ≡ true → is_settled program_place (normal_form t) ≡ true
normal_settled t f w h =
    let fits = stripped_fits t script_place (targets_stand_bare t script_place f w) refl f in
    at_program (stripped t) (normal_form t) (written_keeps (stripped t) script_place fits (fits_inner (stripped t) script_place refl fits)) (stripped_settled t f w h)

pub due_settled : (place : Places) (t : Node) → Fits t script_place → is_settled program_place t ≡ true → is_settled program_place (with_due_pairs place t) ≡ true
due_settled place t f h = at_program t (with_due_pairs place t) (due_keeps place t script_place f) h

blocks_settled : (t : Node) → Fits t script_place → Writable t → is_settled program_place t ≡ true → is_settled program_place (with_blocks t) ≡ true
blocks_settled t f w h = at_program t (with_blocks t) (blocks_keep t script_place f (sound_bodied t script_place f (record { strict = false; assigned = false }) w)) h

pub fixed_settled : (place : Places) (t : Node) → Fits t script_place → Writable t → is_settled program_place t ≡ true → is_settled program_place (fixed place t) ≡ true
fixed_settled place t f w h =
    let u = stripped t in
    let fits = stripped_fits t script_place (targets_stand_bare t script_place f w) refl f in
    due_settled place (with_blocks u) (blocks_fit u script_place fits) (blocks_settled u fits (stripping_keeps_writable t script_place f w) (stripped_settled t f w h))
