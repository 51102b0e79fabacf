-- The due pairs of a tree of the table are pairs, and what each step settles stays settled.
use Rattle.std.proofs.Common.{◌≡◌, true, false}
use Rattle.swc_tree_node.specs.declared.node.Node.{Node}
use Rattle.swc_tree_node.specs.declared.slot.Slot.{Slot}
use Rattle.swc_tree_node.specs.Fits.{Fits}
use Rattle.swc_tree_grammar.specs.Blocks.{with_blocks}
use Rattle.swc_tree_grammar.specs.Due.{Places, paired_by_level, paired_in_heads, with_due_pairs}
use Rattle.swc_tree_grammar.specs.Grammar.{FitsGrammar}
use Rattle.swc_tree_grammar.specs.Writable.{Writable}
use Rattle.swc_tree_grammar.proofs.BlocksKept.{blocks_fit}
use Rattle.swc_tree_grammar_laws.specs.Levelled.{levelled}
use Rattle.swc_tree_grammar_laws.specs.Headed.{headed}
use Rattle.swc_tree_grammar_laws.specs.Started.{started}
use Rattle.swc_tree_grammar_laws.proofs.Levels.{by_level}
use Rattle.swc_tree_grammar_laws.proofs.Heads.{headed_in_heads}
use Rattle.swc_tree_grammar_laws.proofs.Begins.{at_starts}
use Rattle.swc_tree_grammar_laws.proofs.Blocked.{table_is_plain, blocks_keep_elses}
use Rattle.swc_tree_grammar_laws.proofs.Adds.{tests_add_up}
use Rattle.swc_tree_grammar.specs.Stripped.{stripped}
use Rattle.swc_base_fixer_laws.specs.Alike.{Alike}
use Rattle.swc_base_fixer_laws.proofs.StrippedKept.{stripped_kept}
use Rattle.swc_base_fixer_laws.proofs.Sound.{sound_kept}
use Rattle.swc_base_fixer_laws.specs.Sets.{Sets}
use Rattle.swc_base_fixer_laws.specs.Sets.Sets.{after}
use Rattle.swc_base_fixer_laws.proofs.Kept.{levelled_kept, off}
use Rattle.swc_base_fixer_laws.proofs.HeadsKept.{headed_kept}
use Rattle.swc_base_fixer_laws.proofs.FitsKept.{fits_kept}
use Rattle.swc_base_fixer_laws.proofs.PlainKept.{keeps_elses_kept}
use Rattle.swc_base_fixer_laws.proofs.SetsRows.{levels_set}
use Rattle.swc_base_fixer_laws.proofs.SetsHeads.{heads_set}
use Rattle.swc_base_fixer_laws.proofs.Starts.{starts_set}

heads_after : (p : Places) (t : Node) (s : Slot) → Fits t s → Sets s (paired_by_level p t) (paired_in_heads p (paired_by_level p t))
heads_after p t s f = heads_set p (paired_by_level p t) s (fits_kept (levels_set p t s f) f)

starts_after : (p : Places) (t : Node) (s : Slot) → Fits t s → Sets s (paired_in_heads p (paired_by_level p t)) (with_due_pairs p t)
starts_after p t s f = starts_set p (paired_in_heads p (paired_by_level p t)) s (fits_kept (heads_after p t s f) (fits_kept (levels_set p t s f) f))

pub due_set : (p : Places) (t : Node) (s : Slot) → Fits t s → Sets s t (with_due_pairs p t)
due_set p t s f = after (after (levels_set p t s f) (heads_after p t s f)) (starts_after p t s f)

due_levelled : (p : Places) (t : Node) (s : Slot) → Fits t s → levelled (with_due_pairs p t) false ≡ true
due_levelled p t s f = levelled_kept (starts_after p t s f) false (λ e. off e) (levelled_kept (heads_after p t s f) false (λ e. off e) (by_level p t))

due_headed : (p : Places) (t : Node) (s : Slot) → Fits t s → headed (with_due_pairs p t) true ≡ true
due_headed p t s f = headed_kept (starts_after p t s f) true (headed_in_heads p (paired_by_level p t))

pub due_started : (p : Places) (t : Node) → started (with_due_pairs p t) ≡ true
due_started p t = at_starts p (paired_in_heads p (paired_by_level p t))

pub due_fits : (p : Places) (t : Node) (s : Slot) → Fits t s → Fits (with_due_pairs p t) s
due_fits p t s f = fits_kept (due_set p t s f) f

-- with blocks
pub answer_fits_table : (p : Places) (t : Node) (s : Slot) → Fits t s → Fits (with_due_pairs p (with_blocks t)) s
answer_fits_table p t s f = due_fits p (with_blocks t) s (blocks_fit t s f)

pub keep_writable : (p : Places) (t : Node) (s : Slot) → Fits t s → Writable t → Writable (with_due_pairs p t)
keep_writable p t s f w = sound_kept (due_set p t s f) f (record { strict = false; assigned = false }) w

pub answer_fits : (p : Places) (t : Node) (s : Slot) → Fits t s → Writable (with_blocks t) → FitsGrammar (with_due_pairs p (with_blocks t))
answer_fits p t s f w =
    let u = with_blocks t in let g = blocks_fit t s f in let d = due_set p u s g in
    tests_add_up (with_due_pairs p u) (table_is_plain (with_due_pairs p u) s (fits_kept d g) (keeps_elses_kept d (blocks_keep_elses t))) (keep_writable p u s g w) (due_levelled p u s g) (due_headed p u s g) (due_started p u)

pub stripping_undoes : (p : Places) (t : Node) (s : Slot) → Fits t s → Alike (stripped t) (stripped (with_due_pairs p t))
stripping_undoes p t s f = stripped_kept (due_set p t s f)
