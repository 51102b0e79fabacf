-- Where first branches get blocks, lengths, leaves and names stay.
use Rattle.std.proofs.Common.{◌≡◌, ℕ, Bool, true, false, not, ◌&&◌, ◌||◌, List, [], ◌∷◌, map, rules, refl, sym, ap, ◌∙◌, subst, cond}
use Rattle.std.specs.List.{list_any}
use Rattle.swc_tree_marks.specs.declared.ident.Ident.{Ident}
use Rattle.swc_tree_node.specs.declared.kind.Kind.{Kind}
use Rattle.swc_tree_node.specs.declared.kind.Kind.TheVariants as kind
use Rattle.swc_tree_node.specs.declared.node.Node.{Node, Absent, Flag, Word, Text, Span, List as Many, Identifier, Tree, out-Node, roll-Node, the_lemmas}
use Rattle.swc_tree_node.specs.declared.node.Node.TheOpen.{Node-F}
use Rattle.swc_tree_node.specs.declared.node.Node.TheVariants.{outs-List, outs-Tree, rolls-Tree}
use Rattle.swc_tree_grammar.specs.Shapes.{items_in, items_of}
use Rattle.swc_tree_grammar.specs.Writable.{constructor_key_in}
use Rattle.swc_tree_grammar.specs.Blocks.{block, block_step, branch, span_of, takes_else, with_blocks}
use Rattle.swc_tree_grammar.proofs.Induction.{Each, by_children}
use Rattle.swc_tree_grammar.proofs.Walks.{blocks_of_list, blocks_of_tree}
use Rattle.text_grammar.specs.Shaped.{is_misshapen}
use Rattle.text_checks.specs.Spelled.{has_amiss, is_amiss, is_amiss_specifier, is_bad_leaf, is_misspelled, is_reserved_name, is_valueless}
use Rattle.text_kept_laws.proofs.Free.{Free, free_list, free_tree, list_below, list_here, tree_below, tree_here}
use Rattle.text_kept_laws.proofs.Shape.{span_free}
use Rattle.text_kept_laws.proofs.Calm.{all_fail, both_false, neither, none_passes}
use Rattle.text_kept_laws.proofs.SpellingBound.{S}
use Rattle.text_kept_laws.proofs.Made.{C, list_calm, list_spelled, span_calm, span_spelled, tree_calm, tree_spelled}
use Rattle.text_kept_laws.proofs.PairsSeen.{Pairwise, Seen, key_tree, no_items, pairwise_same, plain_tree, seen_list, seen_plain, seen_same, seen_tree}
use Rattle.text_kept_laws.proofs.PairsRows.{Held, Keys, Lists, amiss_row, leaves_row, news, olds, shape_row}
use Rattle.text_kept_laws.proofs.SetSpelled.{N, Ns, trees_calm}

abbrev F : Node → Type 0
F t = Free is_misshapen t

-- the fields of a node, whose first branch gets its block
abbrev blocked : Kind → List Node → List Node
blocked kind.IfStmt (s ∷ test ∷ cons ∷ alt ∷ []) = s ∷ test ∷ branch cons ∷ alt ∷ []
blocked k us = us

step_is : (k : Kind) (us : List Node) → block_step (Node-F.Tree k us) ≡ Tree k (blocked k us)
step_is kind.IfStmt [] = rolls-Tree kind.IfStmt []
step_is kind.IfStmt (a ∷ []) = rolls-Tree kind.IfStmt (a ∷ [])
step_is kind.IfStmt (a ∷ b ∷ []) = rolls-Tree kind.IfStmt (a ∷ b ∷ [])
step_is kind.IfStmt (a ∷ b ∷ c ∷ []) = rolls-Tree kind.IfStmt (a ∷ b ∷ c ∷ [])
step_is kind.IfStmt (a ∷ b ∷ c ∷ d ∷ []) = refl
step_is kind.IfStmt (a ∷ b ∷ c ∷ d ∷ e ∷ us) = rolls-Tree kind.IfStmt (a ∷ b ∷ c ∷ d ∷ e ∷ us)
step_is k us = rolls-Tree k us

tree_is : (k : Kind) (ts : List Node) → with_blocks (Tree k ts) ≡ Tree k (blocked k (map with_blocks ts))
tree_is k ts = blocks_of_tree k ts ∙ step_is k (map with_blocks ts)

-- what holds of a node that becomes another
record Kept (t u : Node) : Type 0 where
  seen : Seen t u
  listed : Pairwise (items_of t) (items_of u)
  key : constructor_key_in (out-Node u) ≡ constructor_key_in (out-Node t)
  calm : C t → C u
  specifier : N t → N u
  specifiers : Ns (items_of t) → Ns (items_of u)
  shaped : F t → F u
  spelled : S t → S u

kept_same : (t : Node) → Kept t t
kept_same t = record { seen = seen_same t; listed = pairwise_same (items_of t); key = refl; calm = λ h. h; specifier = λ h. h; specifiers = λ h. h; shaped = λ f. f; spelled = λ f. f }

abbrev Stays : Node → Type 0
Stays t = Kept t (with_blocks t)

leaf_stays : (t : Node) → with_blocks t ≡ t → Stays t
leaf_stays t e = subst (Kept t) (sym e) (kept_same t)

-- ---- lists and fields

pairwise : (ts : List Node) → Each Stays ts → Pairwise ts (map with_blocks ts)
pairwise [] l = tt
pairwise (t ∷ ts) l = (l.0.seen, pairwise ts l.1)

lists : (ts : List Node) → Each Stays ts → Lists ts (map with_blocks ts)
lists [] l = tt
lists (t ∷ ts) l = (l.0.listed, lists ts l.1)

keys : (ts : List Node) → Each Stays ts → Keys ts (map with_blocks ts)
keys [] l = tt
keys (t ∷ ts) l = (l.0.key, keys ts l.1)

all_shaped : (ts : List Node) → Each Stays ts → Each F ts → Each F (map with_blocks ts)
all_shaped [] l f = tt
all_shaped (t ∷ ts) l f = (l.0.shaped f.0, all_shaped ts l.1 f.1)

all_spelled : (ts : List Node) → Each Stays ts → Each S ts → Each S (map with_blocks ts)
all_spelled [] l f = tt
all_spelled (t ∷ ts) l f = (l.0.spelled f.0, all_spelled ts l.1 f.1)

all_calm : (ts : List Node) → Each Stays ts → Each C ts → Each C (map with_blocks ts)
all_calm [] l c = tt
all_calm (t ∷ ts) l c = (l.0.calm c.0, all_calm ts l.1 c.1)

all_specifiers : (ts : List Node) → Each Stays ts → Ns ts → Ns (map with_blocks ts)
all_specifiers [] l h = refl
all_specifiers (t ∷ ts) l h =
    let n = neither (is_amiss_specifier (out-Node t)) (list_any (λ t. is_amiss_specifier (out-Node t)) ts) h in
    both_false (is_amiss_specifier (out-Node (with_blocks t))) (list_any (λ t. is_amiss_specifier (out-Node t)) (map with_blocks ts)) (l.0.specifier n.0) (all_specifiers ts l.1 n.1)

held : (ts : List Node) → Each Stays ts → List Held
held [] l = []
held (t ∷ ts) l = record { old = t; new = with_blocks t; absent = l.0.seen.leaf.absent; calm = l.0.calm; listed = l.0.specifiers } ∷ held ts l.1

held_old : (ts : List Node) (l : Each Stays ts) → olds (held ts l) ≡ ts
unfolding held
held_old [] l = refl
held_old (t ∷ ts) l = ap (λ us. t ∷ us) (held_old ts l.1)

held_new : (ts : List Node) (l : Each Stays ts) → news (held ts l) ≡ map with_blocks ts
unfolding held
held_new [] l = refl
held_new (t ∷ ts) l = ap (λ us. with_blocks t ∷ us) (held_new ts l.1)

list_stays : (ts : List Node) → Each Stays ts → Stays (Many ts)
list_stays ts l = subst (Kept (Many ts)) (sym (blocks_of_list ts)) (record {
  seen = seen_list ts us;
  listed = subst (λ l. Pairwise l (items_of (Many us))) (sym (items ts)) (subst (Pairwise ts) (sym (items us)) (pairwise ts l));
  key = ap constructor_key_in (outs-List us) ∙ sym (ap constructor_key_in (outs-List ts));
  calm = λ h. list_calm us;
  specifier = λ h. ap is_amiss_specifier (outs-List us);
  specifiers = λ h. subst Ns (sym (items us)) (all_specifiers ts l (subst Ns (items ts) h));
  shaped = λ f. free_list is_misshapen us refl (all_shaped ts l (list_below is_misshapen ts f));
  spelled = λ f. list_spelled us (all_calm ts l (none_passes is_amiss ts (neither false _ (list_here is_misspelled ts f)).1)) (all_spelled ts l (list_below is_misspelled ts f));
})
  where
    us : List Node
    us = map with_blocks ts

    items : (ts : List Node) → items_of (Many ts) ≡ ts
    items ts = ap items_in (outs-List ts)

-- ---- a block

block_shaped : (t : Node) → F t → F (block t)
block_shaped t f = free_tree is_misshapen kind.BlockStmt (Span (span_of t) ∷ Many (t ∷ []) ∷ []) refl (span_free (span_of t), (free_list is_misshapen (t ∷ []) refl (f, tt), tt))

branch_shaped : (t : Node) → F t → F (branch t)
branch_shaped t f = by (takes_else t)
  where
    by : (b : Bool) → F (cond b (block t) t)
    by true = block_shaped t f
    by false = f

block_calm : (t : Node) → C (block t)
block_calm t = tree_calm kind.BlockStmt _ refl

branch_calm : (t : Node) → C t → C (branch t)
branch_calm t c = by (takes_else t)
  where
    by : (b : Bool) → C (cond b (block t) t)
    by true = block_calm t
    by false = c

block_spelled : (t : Node) → C t → S t → S (block t)
block_spelled t c f =
    let ts : List Node = Span (span_of t) ∷ Many (t ∷ []) ∷ [] in
    tree_spelled kind.BlockStmt ts refl (all_fail is_amiss ts (span_calm (span_of t), (list_calm (t ∷ []), tt))) (span_spelled (span_of t), (list_spelled (t ∷ []) (c, tt) (f, tt), tt))

branch_spelled : (t : Node) → C t → S t → S (branch t)
branch_spelled t c f = by (takes_else t)
  where
    by : (b : Bool) → S (cond b (block t) t)
    by true = block_spelled t c f
    by false = f

-- ---- trees

if_seen : (ts us : List Node) → Seen (Tree kind.IfStmt ts) (Tree kind.IfStmt us)
if_seen ts us = seen_plain (Tree kind.IfStmt ts) (Tree kind.IfStmt us) (plain_tree (Tree kind.IfStmt ts) kind.IfStmt ts (outs-Tree kind.IfStmt ts) refl) (plain_tree (Tree kind.IfStmt us) kind.IfStmt us (outs-Tree kind.IfStmt us) refl)

if_fields : (P : Node → Type 0) → ((t : Node) → P t → P (branch t)) → (us : List Node) → Each P us → Each P (blocked kind.IfStmt us)
if_fields P h (a ∷ b ∷ c ∷ d ∷ []) l = (l.0, (l.1.0, (h c l.1.1.0, (l.1.1.1.0, tt))))
if_fields P h [] l = l
if_fields P h (a ∷ []) l = l
if_fields P h (a ∷ b ∷ []) l = l
if_fields P h (a ∷ b ∷ c ∷ []) l = l
if_fields P h (a ∷ b ∷ c ∷ d ∷ e ∷ us) l = l

if_spelled_fields : (us : List Node) → Each C us → Each S us → Each S (blocked kind.IfStmt us)
if_spelled_fields (a ∷ b ∷ c ∷ d ∷ []) n l = (l.0, (l.1.0, (branch_spelled c n.1.1.0 l.1.1.0, (l.1.1.1.0, tt))))
if_spelled_fields [] n l = l
if_spelled_fields (a ∷ []) n l = l
if_spelled_fields (a ∷ b ∷ []) n l = l
if_spelled_fields (a ∷ b ∷ c ∷ []) n l = l
if_spelled_fields (a ∷ b ∷ c ∷ d ∷ e ∷ us) n l = l

trees_listed : (k : Kind) (ts us : List Node) → Pairwise (items_of (Tree k ts)) (items_of (Tree k us))
trees_listed k ts us = no_items (Tree k ts) (Tree k us) (ap items_in (outs-Tree k ts)) (ap items_in (outs-Tree k us))

trees_specifiers : (k : Kind) (us : List Node) → Ns (items_of (Tree k us))
trees_specifiers k us = ap (λ y. list_any (λ t. is_amiss_specifier (out-Node t)) (items_in y)) (outs-Tree k us)

if_kept : (ts : List Node) → Each Stays ts → Kept (Tree kind.IfStmt ts) (Tree kind.IfStmt (blocked kind.IfStmt (map with_blocks ts)))
if_kept ts l = record {
  seen = if_seen ts us;
  listed = trees_listed kind.IfStmt ts us;
  key = ap constructor_key_in (outs-Tree kind.IfStmt us) ∙ sym (ap constructor_key_in (outs-Tree kind.IfStmt ts));
  calm = λ h. tree_calm kind.IfStmt us refl;
  specifier = λ h. ap is_amiss_specifier (outs-Tree kind.IfStmt us);
  specifiers = λ h. trees_specifiers kind.IfStmt us;
  shaped = λ f. free_tree is_misshapen kind.IfStmt us refl (if_fields F branch_shaped (map with_blocks ts) (all_shaped ts l (tree_below is_misshapen kind.IfStmt ts f)));
  spelled = λ f. tree_spelled kind.IfStmt us refl (all_fail is_amiss us (if_fields C branch_calm (map with_blocks ts) (calm f)))
      (if_spelled_fields (map with_blocks ts) (calm f) (all_spelled ts l (tree_below is_misspelled kind.IfStmt ts f)));
}
  where
    us : List Node
    us = blocked kind.IfStmt (map with_blocks ts)

    calm : S (Tree kind.IfStmt ts) → Each C (map with_blocks ts)
    calm f = all_calm ts l (none_passes is_amiss ts (neither false _ (tree_here is_misspelled kind.IfStmt ts f)).1)

specifier_row : (k : Kind) (ts : List Node) → Each Stays ts → is_amiss_specifier (Node-F.Tree k ts) ≡ false → is_amiss_specifier (Node-F.Tree k (map with_blocks ts)) ≡ false
specifier_row kind.ExportNamedSpecifier [] l h = refl
specifier_row kind.ExportNamedSpecifier (a ∷ []) l h = refl
specifier_row kind.ExportNamedSpecifier (a ∷ b ∷ []) l h = refl
specifier_row kind.ExportNamedSpecifier (a ∷ b ∷ c ∷ []) l h = l.1.0.calm h
specifier_row kind.ExportNamedSpecifier (a ∷ b ∷ c ∷ d ∷ ts) l h = refl
specifier_row k ts l h = refl

other_kept : (k : Kind) (ts : List Node) → Each Stays ts → Kept (Tree k ts) (Tree k (map with_blocks ts))
other_kept k ts l = record {
  seen = seen_tree ts us (pairwise ts l) k;
  listed = trees_listed k ts us;
  key = key_tree ts us (pairwise ts l) k;
  calm = λ h. trees_calm k ts us (lists ts l) h;
  specifier = λ h. ap is_amiss_specifier (outs-Tree k us) ∙ specifier_row k ts l (sym (ap is_amiss_specifier (outs-Tree k ts)) ∙ h);
  specifiers = λ h. trees_specifiers k us;
  shaped = λ f. free_tree is_misshapen k us (shape_row k ts us (pairwise ts l) (λ h. lists ts l) (λ h. keys ts l) ∙ tree_here is_misshapen k ts f) (all_shaped ts l (tree_below is_misshapen k ts f));
  spelled = λ f. (
      let asked = neither (is_bad_leaf (Node-F.Tree k ts)) (has_amiss (Node-F.Tree k ts)) (tree_here is_misspelled k ts f) in
      let calm : has_amiss (Node-F.Tree k us) ≡ false
      = ap (λ l. has_amiss (Node-F.Tree k l)) (sym (held_new ts l)) ∙ amiss_row k (held ts l) (ap (λ l. has_amiss (Node-F.Tree k l)) (held_old ts l) ∙ asked.1) in
      tree_spelled k us (leaves_row k ts us (pairwise ts l) ∙ asked.0) calm (all_spelled ts l (tree_below is_misspelled k ts f))
      );
}
  where
    us : List Node
    us = map with_blocks ts

tree_kept : (k : Kind) (ts : List Node) → Each Stays ts → Kept (Tree k ts) (Tree k (blocked k (map with_blocks ts)))
tree_kept kind.IfStmt ts l = if_kept ts l
tree_kept k ts l = other_kept k ts l

stays : (t : Node) → Stays t
stays t = by_children Stays (
  leaf_stays Absent (search (rules, the_lemmas)),
  λ x. leaf_stays (Flag x) (search (rules, the_lemmas)),
  λ w. leaf_stays (Word w) (search (rules, the_lemmas)),
  λ x. leaf_stays (Text x) (search (rules, the_lemmas)),
  λ s. leaf_stays (Span s) (search (rules, the_lemmas)),
  λ k i. leaf_stays (Identifier k i) (search (rules, the_lemmas)),
)
    list_stays (λ k ts l. subst (Kept (Tree k ts)) (sym (tree_is k ts)) (tree_kept k ts l)) t

pub blocks_shaped : (t : Node) → F t → F (with_blocks t)
blocks_shaped t f = (stays t).shaped f

pub blocks_spelled : (t : Node) → S t → S (with_blocks t)
blocks_spelled t f = (stays t).spelled f
