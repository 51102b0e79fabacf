-- Blocks keep what fits.
use Rattle.std.proofs.Common.{◌≡◌, Bool, true, false, IsTrue, List, [], ◌∷◌, map, refl, sym, ◌∙◌, rules}
use Rattle.std.specs.Prelude.{if◌then◌else◌}
use Rattle.swc_tree_node.specs.declared.kind.Kind.{Kind}
use Rattle.swc_tree_node.specs.declared.kind.Kind.TheVariants as kind
use Rattle.swc_tree_node.specs.declared.kind.Class.TheVariants as class
use Rattle.swc_tree_node.specs.declared.slot.Content.TheVariants as content
use Rattle.swc_tree_node.specs.declared.slot.Slot.{Slot}
use Rattle.swc_tree_node.specs.declared.slot.Slot.TheVariants as slot
use Rattle.swc_tree_node.specs.declared.node.Node.{Node, Absent, Flag, Word, Text, Span, List as Many, Identifier, Tree, the_lemmas}
use Rattle.swc_tree_node.specs.declared.node.Node.TheVariants.{rolls-Tree}
use Rattle.swc_tree_node.specs.declared.node.Node.TheOpen.{Node-F}
use Rattle.swc_tree_node.specs.Table.{slots_of}
use Rattle.swc_tree_node.specs.Fits.{fits, Fits, list_fits, FieldsFit, AllFit}
use Rattle.swc_tree_node.proofs.Fit.{fits-Span, fits-List, fields_open, fields_close, all_open, all_close, tree_closes, list_closes}
use Rattle.swc_tree_grammar.specs.Stripped.{stripped}
use Rattle.swc_tree_grammar.specs.Targets.{all_bare}
use Rattle.swc_tree_grammar.specs.Places.{is_open}
use Rattle.swc_tree_grammar.proofs.Kept.{stripped_fits}
use Rattle.swc_tree_grammar.specs.Blocks.{with_blocks, block_step, branch, block, takes_else, span_of}
use Rattle.swc_tree_grammar.proofs.Induction.{Each, by_children}
use Rattle.swc_tree_grammar.proofs.Walks.{blocks_of_tree, blocks_of_list}
use Rattle.swc_tree_grammar.proofs.Places.{one, stands, stands_there}

abbrev Keeps : Node → Type 0
Keeps t = (s : Slot) → Fits t s → Fits (with_blocks t) s

fields_kept : (ss : List Slot) (ts : List Node) → Each Keeps ts → FieldsFit ss ts → FieldsFit ss (map with_blocks ts)
fields_kept [] [] k f = tt
fields_kept [] (t ∷ ts) k f = absurd f
fields_kept (s ∷ ss) [] k f = absurd f
fields_kept (s ∷ ss) (t ∷ ts) k f = (k.0 s f.0, fields_kept ss ts k.1 f.1)

all_kept : (s : Slot) (ts : List Node) → Each Keeps ts → AllFit s ts → AllFit s (map with_blocks ts)
all_kept s [] k f = tt
all_kept s (t ∷ ts) k f = (k.0 s f.0, all_kept s ts k.1 f.1)

items_kept : (s : Slot) (ts : List Node) → Each Keeps ts → IsTrue (list_fits (map fits ts) s) → IsTrue (list_fits (map fits (map with_blocks ts)) s)
items_kept (slot.List c) ts k f = all_close (slot.One c) (map with_blocks ts) (all_kept (slot.One c) ts k (all_open (slot.One c) ts f))
items_kept (slot.OptionalList c) ts k f = all_close (slot.One c) (map with_blocks ts) (all_kept (slot.One c) ts k (all_open (slot.One c) ts f))
items_kept (slot.Holes c) ts k f = all_close (slot.Optional c) (map with_blocks ts) (all_kept (slot.Optional c) ts k (all_open (slot.Optional c) ts f))
items_kept slot.Pairs ts k f = all_close slot.Pair (map with_blocks ts) (all_kept slot.Pair ts k (all_open slot.Pair ts f))
items_kept slot.Pair ts k f =
    let texts : List Slot = slot.One content.Text ∷ slot.One content.Text ∷ [] in
    fields_close texts (map with_blocks ts) (fields_kept texts ts k (fields_open texts ts f))
items_kept (slot.One c) ts k f = absurd (cc)
items_kept (slot.Optional c) ts k f = absurd (cc)

keeps_list : (ts : List Node) → Each Keeps ts → Keeps (Many ts)
keeps_list ts k s f = rw (blocks_of_list ts, fits-List (map with_blocks ts) s) (items_kept s ts k (sym (fits-List ts s) ∙ f))

branch_if : (b : Bool) (t : Node) → Fits t (one class.Stmt) → Fits (if b then block t else t) (one class.Stmt)
branch_if true t f = tree_closes kind.BlockStmt (Span (span_of t) ∷ Many (t ∷ []) ∷ []) class.Stmt refl refl
    (fits-Span (span_of t) (slot.One content.Span), (list_closes (t ∷ []) (content.Node class.Stmt) (f, tt), tt))
branch_if false t f = f

branch_fits : (t : Node) → Fits t (one class.Stmt) → Fits (branch t) (one class.Stmt)
branch_fits t f = branch_if (takes_else t) t f

-- what stands where the branches of an `if` do
choice_fits : (ts : List Node) (s : Slot) → FieldsFit (slots_of kind.IfStmt) ts
    → ((us : List Node) → FieldsFit (slots_of kind.IfStmt) us → Fits (Tree kind.IfStmt us) s) → Fits (block_step (Node-F.Tree kind.IfStmt ts)) s
choice_fits (a ∷ b ∷ c ∷ d ∷ []) s f stand = stand (a ∷ b ∷ branch c ∷ d ∷ []) (f.0, (f.1.0, (branch_fits c f.1.1.0, f.1.1.1)))
choice_fits [] s f stand = absurd f
choice_fits (a ∷ []) s f stand = absurd f.1
choice_fits (a ∷ b ∷ []) s f stand = absurd f.1.1
choice_fits (a ∷ b ∷ c ∷ []) s f stand = absurd f.1.1.1
choice_fits (a ∷ b ∷ c ∷ d ∷ e ∷ ts) s f stand = absurd f.1.1.1.1

stands_still : (k : Kind) (ts us : List Node) (s : Slot) → Fits (Tree k ts) s → FieldsFit (slots_of k) us → Fits (Tree k us) s
stands_still k ts us s f g =
    let w = stands k ts s f in
    stands_there k us s (record { in_class = w.in_class; place = w.place; no_identifier = w.no_identifier; belonging = w.belonging; fields = g })

keeps_tree : (k : Kind) (ts : List Node) → Each Keeps ts → Keeps (Tree k ts)
keeps_tree kind.IfStmt ts h s f =
    let below = fields_kept (slots_of kind.IfStmt) ts h (stands kind.IfStmt ts s f).fields in
    rw (blocks_of_tree kind.IfStmt ts) (choice_fits (map with_blocks ts) s below (λ us. stands_still kind.IfStmt ts us s f))
keeps_tree k ts h s f =
    let below = fields_kept (slots_of k) ts h (stands k ts s f).fields in
    rw (blocks_of_tree k ts, rolls-Tree k (map with_blocks ts)) (stands_still k ts (map with_blocks ts) s f below)

stays : (t : Node) → with_blocks t ≡ t → Keeps t
stays t e s f = rw e f

pub blocks_fit : (t : Node) (s : Slot) → Fits t s → Fits (with_blocks t) s
blocks_fit t = by_children Keeps (
  stays Absent (search (rules, the_lemmas)),
  λ x. stays (Flag x) (search (rules, the_lemmas)),
  λ w. stays (Word w) (search (rules, the_lemmas)),
  λ x. stays (Text x) (search (rules, the_lemmas)),
  λ r. stays (Span r) (search (rules, the_lemmas)),
  λ k i. stays (Identifier k i) (search (rules, the_lemmas)),
)
    keeps_list keeps_tree t

-- the stripped tree with its blocks stands where the tree does
pub unparened_fits : (t u : Node) (s : Slot) → IsTrue (all_bare t) → u ≡ with_blocks (stripped t) → IsTrue (is_open s) → Fits t s → Fits u s
unparened_fits t u s b e o f = rw e (blocks_fit (stripped t) s (stripped_fits t s b o f))
