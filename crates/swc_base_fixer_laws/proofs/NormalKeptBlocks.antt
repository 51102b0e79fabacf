-- The normal form takes off the blocks that keep an `else` out, and blocks that are set stay as they are.
use Rattle.std.proofs.Common.{◌≡◌, Bool, true, false, List, [], ◌∷◌, map, refl, sym, ap, ◌∙◌, rules, true≢false}
use Rattle.std.specs.Prelude.{if◌then◌else◌}
use Rattle.swc_tree_node.specs.declared.kind.Kind.{Kind}
use Rattle.swc_tree_node.specs.declared.kind.Kind.TheVariants as kind
use Rattle.swc_tree_node.specs.declared.node.Node.{Node, Span, List as Many, Tree, out-Node, the_lemmas}
use Rattle.swc_tree_node.specs.declared.node.Node.TheVariants.{rolls-Tree}
use Rattle.swc_tree_node.specs.declared.node.Node.TheOpen.{Node-F}
use Rattle.swc_tree_grammar.specs.Blocks.{with_blocks, block_step, branch, block, takes_else, takes_else_step, span_of}
use Rattle.swc_tree_grammar.specs.Normal.{written_out, written_step, opened, opened_in, pattern_property_in}
use Rattle.swc_tree_grammar.proofs.Induction.{Each, by_children}
use Rattle.swc_tree_grammar.proofs.Walks.{blocks_of_tree, blocks_of_list, takes_else_of_tree}

-- a function on the nodes of a list, where it stays or says the same as another
pub each_same : {X : Type 0} (f g : Node → X) (ts : List Node) → Each (λ t. f t ≡ g t) ts → map f ts ≡ map g ts
each_same f g [] l = refl
each_same f g (t ∷ ts) l = rw (l.0, each_same f g ts l.1) refl

pub each_stays : (f : Node → Node) (ts : List Node) → Each (λ t. f t ≡ t) ts → map f ts ≡ ts
each_stays f [] l = refl
each_stays f (t ∷ ts) l = rw (l.0, each_stays f ts l.1) refl

pub map_after : {X : Type 0} (f : Node → X) (g : Node → Node) (ts : List Node) → map f (map g ts) ≡ map (λ t. f (g t)) ts
map_after f g [] = refl
map_after f g (t ∷ ts) = ap (λ us. f (g t) ∷ us) (map_after f g ts)

-- setting blocks twice
with_block : (s : Node) (c : Node) → with_blocks (Tree kind.BlockStmt (s ∷ Many (c ∷ []) ∷ [])) ≡ Tree kind.BlockStmt (with_blocks s ∷ Many (with_blocks c ∷ []) ∷ [])
with_block s c = search (rules, the_lemmas)

blocks_of_block : (c : Node) → with_blocks c ≡ c → with_blocks (block c) ≡ block c
blocks_of_block c h = with_block (Span (span_of c)) c ∙ rw h (let e : with_blocks (Span (span_of c)) ≡ Span (span_of c) = search (rules, the_lemmas) in ap (λ s. Tree kind.BlockStmt (s ∷ Many (c ∷ []) ∷ [])) e)

branch_of_block : (c : Node) → branch (block c) ≡ block c
branch_of_block c = let e : takes_else (block c) ≡ false = search (rules, the_lemmas) in ap (λ b. if b then block (block c) else block c) e

branch_if : (b : Bool) (c : Node) → takes_else c ≡ b → with_blocks c ≡ c → branch (with_blocks (if b then block c else c)) ≡ (if b then block c else c)
branch_if true c e h = ap branch (blocks_of_block c h) ∙ branch_of_block c
branch_if false c e h = ap branch h ∙ ap (λ b. if b then block c else c) e

branch_again : (c : Node) → with_blocks c ≡ c → branch (with_blocks (branch c)) ≡ branch c
branch_again c h = branch_if (takes_else c) c refl h

block_row : (k : Kind) (us : List Node) → Each (λ t. with_blocks t ≡ t) us → with_blocks (block_step (Node-F.Tree k us)) ≡ block_step (Node-F.Tree k us)
block_row kind.IfStmt (s ∷ t ∷ c ∷ a ∷ []) l = blocks_of_tree kind.IfStmt (s ∷ t ∷ branch c ∷ a ∷ []) ∙ rw (l.0, l.1.0, l.1.1.1.0, branch_again c l.1.1.0) refl
block_row k us l = rw (rolls-Tree k us) (blocks_of_tree k us ∙ rw (each_stays with_blocks us l) (rolls-Tree k us))

abbrev Again : Node → Type 0
Again t = with_blocks (with_blocks t) ≡ with_blocks t

each_again : (ts : List Node) → Each Again ts → Each (λ t. with_blocks t ≡ t) (map with_blocks ts)
each_again [] l = tt
each_again (t ∷ ts) l = (l.0, each_again ts l.1)

pub blocks_again : (t : Node) → Again t
blocks_again t = by_children Again
    (search (rules, the_lemmas), λ x. search (rules, the_lemmas), λ w. search (rules, the_lemmas), λ x. search (rules, the_lemmas), λ s. search (rules, the_lemmas), λ k i. search (rules, the_lemmas))
    (λ ts l. rw (blocks_of_list ts, blocks_of_list (map with_blocks ts)) (ap Many (each_stays with_blocks (map with_blocks ts) (each_again ts l))))
    (λ k ts l. rw (blocks_of_tree k ts) (block_row k (map with_blocks ts) (each_again ts l))) t

-- writing out keeps whether an `else` would be taken
pub written_of_tree : (k : Kind) (ts : List Node) → written_out (Tree k ts) ≡ written_step (Node-F.Tree k (map written_out ts))
written_of_tree k ts = search (rules, the_lemmas)

pub written_of_list : (ts : List Node) → written_out (Many ts) ≡ Many (map written_out ts)
written_of_list ts = search (rules, the_lemmas)

property_takes : (s c v : Node) → takes_else (pattern_property_in s c v (out-Node c)) ≡ false
property_takes s c v = by_children (λ t. takes_else (pattern_property_in s c v (out-Node t)) ≡ false)
    (search (rules, the_lemmas), λ x. search (rules, the_lemmas), λ w. search (rules, the_lemmas), λ x. search (rules, the_lemmas), λ r. search (rules, the_lemmas), λ k i. search (rules, the_lemmas))
    (λ ts l. search (rules, the_lemmas)) (λ k ts l. search (rules, the_lemmas)) c

takes_row : (k : Kind) (us : List Node) → takes_else (written_step (Node-F.Tree k us)) ≡ takes_else_step (Node-F.Tree k (map takes_else us))
takes_row kind.IfStmt (s ∷ t ∷ c ∷ a ∷ []) = takes_else_of_tree kind.IfStmt (s ∷ t ∷ opened c ∷ a ∷ [])
takes_row kind.ObjectLit (s ∷ p ∷ []) = search (rules, the_lemmas)
takes_row kind.AssignPatProp (s ∷ c ∷ v ∷ []) = property_takes s c v
takes_row kind.ArrayPat (s ∷ p ∷ []) = search (rules, the_lemmas)
takes_row kind.RestPat (s ∷ p ∷ []) = search (rules, the_lemmas)
takes_row kind.KeyValuePatProp (s ∷ p ∷ []) = search (rules, the_lemmas)
takes_row kind.AssignPat (s ∷ p ∷ r ∷ []) = search (rules, the_lemmas)
takes_row kind.Param (s ∷ p ∷ []) = search (rules, the_lemmas)
takes_row kind.ArrowExpr (s ∷ p ∷ b ∷ a ∷ []) = search (rules, the_lemmas)
takes_row kind.SetterProp (s ∷ c ∷ p ∷ b ∷ []) = search (rules, the_lemmas)
takes_row kind.VarDeclarator (s ∷ n ∷ i ∷ []) = search (rules, the_lemmas)
takes_row kind.CatchClause (s ∷ p ∷ b ∷ []) = search (rules, the_lemmas)
takes_row kind.ForInStmt (s ∷ l ∷ r ∷ b ∷ []) = search (rules, the_lemmas)
takes_row kind.ForOfStmt (s ∷ w ∷ l ∷ r ∷ b ∷ []) = search (rules, the_lemmas)
takes_row kind.ImportNamedSpecifier (s ∷ l ∷ i ∷ []) = search (rules, the_lemmas)
takes_row kind.NamedExport (s ∷ l ∷ r ∷ a ∷ []) = search (rules, the_lemmas)
takes_row kind.Module (s ∷ b ∷ h ∷ []) = search (rules, the_lemmas)
takes_row k us = rw (rolls-Tree k us) (takes_else_of_tree k us)

abbrev Takes : Node → Type 0
Takes t = takes_else (written_out t) ≡ takes_else t

written_takes : (t : Node) → Takes t
written_takes t = by_children Takes
    (search (rules, the_lemmas), λ x. search (rules, the_lemmas), λ w. search (rules, the_lemmas), λ x. search (rules, the_lemmas), λ s. search (rules, the_lemmas), λ k i. search (rules, the_lemmas))
    (λ ts l. search (rules, the_lemmas))
    (λ k ts l.
    rw (written_of_tree k ts) (takes_row k (map written_out ts))
    ∙ ap (λ bs. takes_else_step (Node-F.Tree k bs)) (map_after takes_else written_out ts ∙ each_same (λ t. takes_else (written_out t)) takes_else ts l)
    ∙ sym (takes_else_of_tree k ts)) t

-- what takes an `else` is no block
no_block : (k : Kind) (ts : List Node) → takes_else_step (Node-F.Tree k (map takes_else ts)) ≡ true → opened_in (Tree k ts) (Node-F.Tree k ts) ≡ Tree k ts
no_block kind.BlockStmt ts h = absurd (true≢false (sym h))
no_block k ts h = refl

opened_tree : (k : Kind) (ts : List Node) → opened (Tree k ts) ≡ opened_in (Tree k ts) (Node-F.Tree k ts)
opened_tree k ts = search (rules, the_lemmas)

opened_stays : (t : Node) → takes_else t ≡ true → opened t ≡ t
opened_stays t = by_children (λ t. takes_else t ≡ true → opened t ≡ t)
    (λ h. search (rules, the_lemmas), λ x h. search (rules, the_lemmas), λ w h. search (rules, the_lemmas), λ x h. search (rules, the_lemmas), λ s h. search (rules, the_lemmas), λ k i h. search (rules, the_lemmas))
    (λ ts l h. search (rules, the_lemmas))
    (λ k ts l h. opened_tree k ts ∙ no_block k ts (sym (takes_else_of_tree k ts) ∙ h)) t

written_block : (c : Node) → written_out (block c) ≡ Tree kind.BlockStmt (Span (span_of c) ∷ Many (written_out c ∷ []) ∷ [])
written_block c = search (rules, the_lemmas)

opened_block : (s w : Node) → opened (Tree kind.BlockStmt (s ∷ Many (w ∷ []) ∷ [])) ≡ (if takes_else w then w else Tree kind.BlockStmt (s ∷ Many (w ∷ []) ∷ []))
opened_block s w = search (rules, the_lemmas)

opened_if : (b : Bool) (c : Node) → takes_else c ≡ b → opened (written_out (if b then block c else c)) ≡ opened (written_out c)
opened_if true c e =
    let h : takes_else (written_out c) ≡ true = written_takes c ∙ e in
    ap opened (written_block c) ∙ opened_block (Span (span_of c)) (written_out c) ∙ rw h (sym (opened_stays (written_out c) h))
opened_if false c e = refl

abbrev Written : Node → Type 0
Written t = written_out (with_blocks t) ≡ written_out t

written_blocks_row : (k : Kind) (us : List Node) → written_out (block_step (Node-F.Tree k us)) ≡ written_step (Node-F.Tree k (map written_out us))
written_blocks_row kind.IfStmt (s ∷ t ∷ c ∷ a ∷ []) = written_of_tree kind.IfStmt (s ∷ t ∷ branch c ∷ a ∷ []) ∙ rw (opened_if (takes_else c) c refl) refl
written_blocks_row k us = ap written_out (rolls-Tree k us) ∙ written_of_tree k us

pub written_blocks : (t : Node) → Written t
written_blocks t = by_children Written
    (search (rules, the_lemmas), λ x. search (rules, the_lemmas), λ w. search (rules, the_lemmas), λ x. search (rules, the_lemmas), λ s. search (rules, the_lemmas), λ k i. search (rules, the_lemmas))
    (λ ts l. rw (blocks_of_list ts, written_of_list ts, written_of_list (map with_blocks ts)) (ap Many (map_after written_out with_blocks ts ∙ each_same (λ t. written_out (with_blocks t)) written_out ts l)))
    (λ k ts l.
    ap written_out (blocks_of_tree k ts) ∙ written_blocks_row k (map with_blocks ts)
    ∙ ap (λ us. written_step (Node-F.Tree k us)) (map_after written_out with_blocks ts ∙ each_same (λ t. written_out (with_blocks t)) written_out ts l)
    ∙ sym (written_of_tree k ts)) t
