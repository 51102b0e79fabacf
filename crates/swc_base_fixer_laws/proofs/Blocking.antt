-- A tree that can be written down can be with its blocks.
use Rattle.std.proofs.Common.{◌≡◌, Bool, true, false, not, ◌&&◌, List, [], ◌∷◌, map, refl, sym, ap, ◌∙◌, rules, true≢false}
use Rattle.std.specs.Prelude.{if◌then◌else◌}
use Rattle.swc_tree_node.specs.declared.kind.Kind.{Kind}
use Rattle.swc_tree_node.specs.declared.kind.Kind.TheVariants as kind
use Rattle.swc_tree_node.specs.declared.kind.Class.TheVariants as class
use Rattle.swc_tree_node.specs.declared.slot.Slot.{Slot}
use Rattle.swc_tree_node.specs.declared.node.Node.{Node, Absent, Flag, Word, Text, Span, List as Many, Identifier, Tree, the_lemmas}
use Rattle.swc_tree_node.specs.declared.node.Node.TheVariants.{rolls-Tree}
use Rattle.swc_tree_node.specs.declared.node.Node.TheOpen.{Node-F}
use Rattle.swc_tree_node.specs.Table.{slots_of, is_identifier}
use Rattle.swc_tree_node.specs.Fits.{Fits, FieldsFit, AllFit, belongs}
use Rattle.swc_tree_node.proofs.Fit.{fits-Absent, fits-Flag, fits-Word, fits-Text, fits-Span, fits-List, fits-Identifier, tree_opens}
use Rattle.swc_tree_grammar.specs.Kinds.{has_kind, is_private_name}
use Rattle.swc_tree_grammar.specs.Blocks.{with_blocks, block_step, branch as branch_of, block, takes_else, span_of}
use Rattle.swc_tree_grammar.specs.Forms.{form, is_branch}
use Rattle.swc_tree_grammar.specs.Forms.Form.{Ordinary}
use Rattle.swc_tree_grammar.specs.Writable.{Writable, Round, no_private, binding, branch}
use Rattle.swc_tree_grammar.proofs.Asked.{asked, same as whole, sound}
use Rattle.swc_tree_grammar.proofs.Induction.{Each, by_children}
use Rattle.swc_tree_grammar.proofs.Places.{one, stands}
use Rattle.swc_tree_grammar.proofs.Walks.{blocks_of_tree, blocks_of_list}
use Rattle.swc_tree_grammar.proofs.BlocksKept.{blocks_fit}
use Rattle.swc_tree_grammar_laws.proofs.Levelled.{half, also}
use Rattle.swc_tree_grammar_laws.proofs.Blocked.{no}
use Rattle.swc_tree_grammar_laws.proofs.Derived.{sound_tree, sound_list}
use Rattle.swc_base_fixer_laws.specs.Sets.{item}
use Rattle.swc_base_fixer_laws.proofs.Up.{kind_of_tree}
use Rattle.swc_base_fixer_laws.proofs.SetsRows.{items_open}
use Rattle.swc_base_fixer_laws.proofs.StatementRounds.{statement_bound}
use Rattle.swc_base_fixer_laws.proofs.RecastSound.{Kept, AllKept, tree_sound}
use Rattle.swc_base_fixer_laws.proofs.RecastSound.Kept.{nought, also_kept}
use Rattle.swc_base_fixer_laws.proofs.RecastSound.AllKept.{none_kept, more_kept}
use Rattle.swc_base_fixer_laws.proofs.RecastKeeps.{Made, as_made, same_made, tree_made, list_made, whole_made}

-- in each place it is made into what keeps what is asked
abbrev Blocking : Node → Type 0
Blocking t = (s : Slot) → Fits t s → Made s t (with_blocks t)

fields_made : (ss : List Slot) (ts : List Node) → Each Blocking ts → FieldsFit ss ts → Kept ss ts (map with_blocks ts)
fields_made [] [] l f = nought
fields_made [] (t ∷ ts) l f = absurd f
fields_made (s ∷ ss) [] l f = absurd f
fields_made (s ∷ ss) (t ∷ ts) l f = let m = l.0 s f.0 in also_kept m.recast f.0 m.keeps (fields_made ss ts l.1 f.1)

all_made : (s : Slot) (ts : List Node) → Each Blocking ts → AllFit s ts → AllKept s ts (map with_blocks ts)
all_made s [] l f = none_kept
all_made s (t ∷ ts) l f = let m = l.0 s f.0 in more_kept m.recast m.keeps (all_made s ts l.1 f.1)

list_blocked : (ts : List Node) → Each Blocking ts → Blocking (Many ts)
list_blocked ts l s f =
    let x = all_made (item s) ts l (items_open s ts (sym (fits-List ts s) ∙ f)) in
    as_made s (Many ts) (Many (map with_blocks ts)) (with_blocks (Many ts)) (blocks_of_list ts) (list_made s x)

fits_as : (t u : Node) → with_blocks t ≡ u → Fits t (one class.Expr) → Fits u (one class.Expr)
fits_as t u e f = rw (← e) (blocks_fit t (one class.Expr) f)

-- a block round a statement
public_row : (k : Kind) → belongs k class.Stmt ≡ true → is_private_name k ≡ false
public_row kind.PrivateName h = absurd (true≢false (sym h))
public_row k h = refl

name_only_statement : (k : Kind) → (is_identifier k && belongs k class.Stmt) ≡ false
name_only_statement kind.Ident = refl
name_only_statement k = refl

public_statement : (t : Node) → Fits t (one class.Stmt) → has_kind is_private_name t ≡ false
public_statement t = by_children (λ t. Fits t (one class.Stmt) → has_kind is_private_name t ≡ false) (
  λ h. absurd (no (sym (fits-Absent (one class.Stmt)) ∙ h)),
  λ x h. absurd (no (sym (fits-Flag x (one class.Stmt)) ∙ h)),
  λ w h. absurd (no (sym (fits-Word w (one class.Stmt)) ∙ h)),
  λ x h. absurd (no (sym (fits-Text x (one class.Stmt)) ∙ h)),
  λ r h. absurd (no (sym (fits-Span r (one class.Stmt)) ∙ h)),
  λ k i h. absurd (no (sym (name_only_statement k) ∙ sym (fits-Identifier k i (one class.Stmt)) ∙ h)),
)
    (λ ts l h. absurd (no (sym (fits-List ts (one class.Stmt)) ∙ h)))
    (λ k ts l h. kind_of_tree is_private_name k ts ∙ public_row k ((tree_opens k ts class.Stmt h).1)) t

unprivate : (t : Node) → has_kind is_private_name t ≡ false → no_private (asked t) ≡ true
unprivate t h = ap (λ t. not (has_kind is_private_name t)) (whole t) ∙ ap not h

public_list : (ts : List Node) → has_kind is_private_name (Many ts) ≡ false
public_list ts = search (rules, the_lemmas)

block_sound : (t : Node) → Fits t (one class.Stmt) → (r : Round) → sound t r ≡ true → sound (block t) r ≡ true
block_sound t f r h =
    let e : (no_private (asked (Span (span_of t))) && sound (Span (span_of t)) (binding r)) ≡ true = search (rules, the_lemmas) in
    let inside : sound (Many (t ∷ [])) (binding r) ≡ true = sound_list (t ∷ []) (binding r) ∙ also (also (unprivate t (public_statement t f)) (statement_bound t f r h)) refl in
    sound_tree kind.BlockStmt (Span (span_of t) ∷ Many (t ∷ []) ∷ []) r ∙ also e (also (also (unprivate (Many (t ∷ [])) (public_list (t ∷ []))) inside) refl)

block_form : (t : Node) → form (block t) ≡ Ordinary
block_form t = search (rules, the_lemmas)

branch_if : (b : Bool) (t : Node) → Fits t (one class.Stmt) → (r : Round) → branch (asked t) r ≡ true → branch (asked (if b then block t else t)) r ≡ true
branch_if true t f r h = let p = half h in also (ap (λ u. is_branch r.strict (form u)) (whole (block t)) ∙ ap (is_branch r.strict) (block_form t)) (block_sound t f r p.1)
branch_if false t f r h = h

if_made : (ts : List Node) → Kept (slots_of kind.IfStmt) ts (map with_blocks ts) → FieldsFit (slots_of kind.IfStmt) ts → (s : Slot) → Made s (Tree kind.IfStmt ts) (block_step (Node-F.Tree kind.IfStmt (map with_blocks ts)))
if_made (a ∷ b ∷ c ∷ d ∷ []) x f s =
    let us = with_blocks a ∷ with_blocks b ∷ with_blocks c ∷ with_blocks d ∷ [] in
    let vs = with_blocks a ∷ with_blocks b ∷ branch_of (with_blocks c) ∷ with_blocks d ∷ [] in
    let keep : (r : Round) → sound (Tree kind.IfStmt (a ∷ b ∷ c ∷ d ∷ [])) r ≡ true → sound (Tree kind.IfStmt vs) r ≡ true
    = (λ r h. (
    let p = half (sym (sound_tree kind.IfStmt us r) ∙ tree_sound kind.IfStmt x r h) in let q = half p.1 in
    sound_tree kind.IfStmt vs r ∙ also p.0 (also (branch_if (takes_else (with_blocks c)) (with_blocks c) (blocks_fit c (one class.Stmt) f.1.1.0) r q.0) q.1))) in
    whole_made s kind.IfStmt (a ∷ b ∷ c ∷ d ∷ []) vs refl keep
if_made [] x f s = absurd f
if_made (a ∷ []) x f s = absurd f.1
if_made (a ∷ b ∷ []) x f s = absurd f.1.1
if_made (a ∷ b ∷ c ∷ []) x f s = absurd f.1.1.1
if_made (a ∷ b ∷ c ∷ d ∷ e ∷ ts) x f s = absurd f.1.1.1.1

tree_blocked : (k : Kind) (ts : List Node) → Each Blocking ts → Blocking (Tree k ts)
tree_blocked kind.IfStmt ts l s f =
    let w = stands kind.IfStmt ts s f in
    as_made s (Tree kind.IfStmt ts) (block_step (Node-F.Tree kind.IfStmt (map with_blocks ts))) (with_blocks (Tree kind.IfStmt ts)) (blocks_of_tree kind.IfStmt ts) (if_made ts (fields_made (slots_of kind.IfStmt) ts l w.fields) w.fields s)
tree_blocked k ts l s f =
    let us = map with_blocks ts in let w = stands k ts s f in let x = fields_made (slots_of k) ts l w.fields in
    let e : with_blocks (Tree k ts) ≡ Tree k us = blocks_of_tree k ts ∙ rolls-Tree k us in
    as_made s (Tree k ts) (Tree k us) (with_blocks (Tree k ts)) e (tree_made s k x (fits_as (Tree k ts) (Tree k us) e))

stays : (t : Node) → with_blocks t ≡ t → Blocking t
stays t e s f = same_made s t (with_blocks t) e

blocking : (t : Node) → Blocking t
blocking t = by_children Blocking (
  stays Absent (search (rules, the_lemmas)),
  λ x. stays (Flag x) (search (rules, the_lemmas)),
  λ w. stays (Word w) (search (rules, the_lemmas)),
  λ x. stays (Text x) (search (rules, the_lemmas)),
  λ r. stays (Span r) (search (rules, the_lemmas)),
  λ k i. stays (Identifier k i) (search (rules, the_lemmas)),
)
    list_blocked tree_blocked t

pub blocks_sound : (t : Node) (s : Slot) → Fits t s → (r : Round) → sound t r ≡ true → sound (with_blocks t) r ≡ true
blocks_sound t s f r h = let m = blocking t s f in let x = m.keeps in x.keeps r h

pub blocks_keep_writable : (t : Node) (s : Slot) → Fits t s → Writable t → Writable (with_blocks t)
blocks_keep_writable t s f w = blocks_sound t s f (record { strict = false; assigned = false }) w
