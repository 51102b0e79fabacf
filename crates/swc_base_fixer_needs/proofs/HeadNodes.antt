-- Each pair has a reason after the second step: every node.
use Rattle.std.proofs.Common.{◌≡◌, Bool, true, false, List, [], ◌∷◌, map, refl, sym, ap, subst, ◌∙◌, rules}
use Rattle.swc_tree_node.specs.declared.kind.Kind.{Kind}
use Rattle.swc_tree_node.specs.declared.kind.Kind.TheVariants as kind
use Rattle.swc_tree_node.specs.declared.node.Node.{Node, List as Many, Tree, the_lemmas}
use Rattle.swc_tree_node.specs.declared.node.Node.TheOpen.{Node-F}
use Rattle.swc_tree_node.specs.declared.node.Node.TheVariants.{rolls-Tree}
use Rattle.swc_tree_node.specs.Parts.{has_parts}
use Rattle.swc_tree_node.proofs.Leaves.{without_parts}
use Rattle.swc_tree_grammar.specs.Kinds.{is_paren}
use Rattle.swc_tree_grammar.specs.Stripped.{is_pairless}
use Rattle.swc_tree_grammar.specs.Due.{Places, paired_by_level, paired_in_heads}
use Rattle.swc_tree_grammar.specs.Readers.{is_odd_item}
use Rattle.swc_tree_grammar_laws.proofs.Heads.{heading, heading_tree, heading_list}
use Rattle.swc_base_fixer_needs.specs.Sites.{Opening, Site, Spot, clue, any, spots, other_items}
use Rattle.swc_base_fixer_needs.specs.Sites.Opening.{Anything}
use Rattle.swc_base_fixer_needs.specs.Sites.Spot.{Hidden, At}
use Rattle.swc_base_fixer_needs.specs.Reasons.{Label, nothing, labels, item_labels, Reason, is_of_level, Due, AllDue, blank}
use Rattle.swc_base_fixer_needs.specs.Reasons.Label.{Names, OfStatement, OfItems}
use Rattle.swc_base_fixer_needs.specs.Reasons.Extent.{Reasoned, ByLevel}
use Rattle.swc_base_fixer_needs.specs.Reasons.Due.{leaf, pair, many, tree}
use Rattle.swc_base_fixer_needs.specs.Reasons.AllDue.{none, more}
use Rattle.swc_base_fixer_needs.proofs.LevelParts.{levels_have_reasons}
use Rattle.swc_base_fixer_needs.proofs.HeadViews.{heading_view, heading_clue}
use Rattle.swc_base_fixer_needs.proofs.HeadRows.{move, Family, Readys}
use Rattle.swc_tree_node.specs.declared.slot.Slot.{Slot}
use Rattle.swc_tree_node.specs.Fits.{Fits}
use Rattle.swc_tree_grammar.specs.Needed.{NoIdlePair}
use Rattle.swc_base_fixer_laws.proofs.FitsKept.{fits_kept}
use Rattle.swc_base_fixer_laws.proofs.SetsRows.{levels_set}
use Rattle.swc_base_fixer_laws.proofs.SetsHeads.{heads_set}
use Rattle.swc_base_fixer_needs.specs.Keys.{names_constructors}
use Rattle.swc_base_fixer_needs.proofs.KeysKept.{names_kept}
use Rattle.swc_base_fixer_needs.proofs.Seen.{seen_needs}
use Rattle.swc_base_fixer_needs.proofs.HeadSteps.{Stable, AllStable, nothing_stable, labels_stable, list_stable, kept, by_kind, same_fields}

leaf_heading : (p : Places) (t : Node) (v : Bool) → has_parts t ≡ false → heading p t v ≡ t
leaf_heading p t v = without_parts (λ t. heading p t v ≡ t)
    (search (rules, the_lemmas), λ x. search (rules, the_lemmas), λ w. search (rules, the_lemmas), λ x. search (rules, the_lemmas), λ s. search (rules, the_lemmas)) (λ k i. search (rules, the_lemmas)) t

-- lists
abbrev listed : Places → List Node → Bool → List Node
listed p ts v = map (λ f. f v) (map (heading p) ts)

listed_clues : (p : Places) (ts : List Node) (v : Bool) → map clue (listed p ts v) ≡ map clue ts
listed_clues p [] v = refl
listed_clues p (t ∷ ts) v = rw (heading_clue p t v, listed_clues p ts v) refl

same_items : (ts us : List Node) → map clue us ≡ map clue ts → item_labels us ≡ item_labels ts
same_items [] [] e = refl
same_items [] (u ∷ us) e = absurd (cc)
same_items (t ∷ ts) [] e = absurd (cc)
same_items (t ∷ []) (u ∷ []) e = refl
same_items (t ∷ []) (u ∷ x ∷ us) e = (let y : map clue (x ∷ us) ≡ map clue [] = cc in absurd (cc))
same_items (t ∷ w ∷ ts) (u ∷ []) e = (let y : map clue [] ≡ map clue (w ∷ ts) = cc in absurd (cc))
same_items (t ∷ w ∷ ts) (u ∷ x ∷ us) e = ap (λ ls. Names is_odd_item ∷ ls) (same_items (w ∷ ts) (x ∷ us) (let y : map clue (x ∷ us) ≡ map clue (w ∷ ts) = cc in y))

pub same_list : (l : Label) (ts us : List Node) → map clue us ≡ map clue ts → labels l (Node-F.List us) ≡ labels l (Node-F.List ts)
same_list OfItems ts us e = same_items ts us e
same_list (Names f) ts us e = same_fields [] ts us e
same_list OfStatement ts us e = same_fields [] ts us e

others_due : (p : Places) (a : Site) (ls : List Label) (ts : List Node) → Readys p ls (other_items a (map clue ts)) ts → (w x : Bool) (o : Opening) (y v : Bool) → (v ≡ false → w ≡ false)
    → AllDue Reasoned ls (other_items (move a w x o y) (map clue ts)) (listed p ts v)
others_due p a [] [] f w x o y v h = none
others_due p a [] (t ∷ ts) f w x o y v h = absurd f
others_due p a (l ∷ ls) [] f w x o y v h = absurd f
others_due p a (l ∷ ls) (t ∷ ts) f w x o y v h = more (f.0 w false Anything false v h) (others_due p a ls ts f.1 w x o y v h)

items_due : (p : Places) (a : Site) (ls : List Label) (ts : List Node) → Readys p ls (spots a (Node-F.List (map clue ts))) ts → (w x : Bool) (o : Opening) (y v : Bool) → (v ≡ false → w ≡ false)
    → AllDue Reasoned ls (spots (move a w x o y) (Node-F.List (map clue ts))) (listed p ts v)
items_due p a [] [] f w x o y v h = none
items_due p a [] (t ∷ ts) f w x o y v h = absurd f
items_due p a (l ∷ ls) [] f w x o y v h = absurd f
items_due p a (l ∷ ls) (t ∷ ts) f w x o y v h = more (f.0 w false o false v h) (others_due p a ls ts f.1 w x o y v h)

list_due : (p : Places) (l : Label) (a : Site) (ts : List Node) → Readys p (labels l (Node-F.List ts)) (spots a (Node-F.List (map clue ts))) ts → Family p l a (Many ts)
list_due p l a ts f w x o y v h =
    let us : List Node = listed p ts v in let c = listed_clues p ts v in
    subst (λ t. Due Reasoned l (At (move a w x o y)) t) (sym (heading_list p ts v)) (many us (rw (same_list l ts us c, c) (items_due p a (labels l (Node-F.List ts)) ts f w x o y v h)))

pair_due : (p : Places) (l : Label) (a : Site) (s e : Node) → clue e ≡ blank → (r : Reason l a e) → is_of_level r ≡ true → Stable l → Due Reasoned nothing any (heading p e true) → Family p l a (Tree kind.ParenExpr (s ∷ e ∷ []))
pair_due p l a s e c r g q d w x o y v h =
    subst (λ t. Due Reasoned l (At (move a w x o y)) t) (sym (heading_tree p kind.ParenExpr (s ∷ e ∷ []) v ∙ rolls-Tree kind.ParenExpr (heading p s true ∷ heading p e true ∷ [])))
    (pair (heading p s true) (heading p e true) (λ z. absurd (cc)) (λ z. absurd (cc)) (heading_clue p e true ∙ c) (kept r g q w x o y (heading p e true) (heading_view p e)) (λ z. absurd (cc)) d)

leaf_due : (p : Places) (l : Label) (a : Site) (t : Node) → has_parts t ≡ false → Family p l a t
leaf_due p l a t n w x o y v h = subst (λ u. Due Reasoned l (At (move a w x o y)) u) (sym (leaf_heading p t v n)) (leaf t n)

tree_due : (p : Places) (l : Label) (a : Site) (k : Kind) (ts : List Node) → is_paren k ≡ false → Readys p (labels l (Node-F.Tree k ts)) (spots a (Node-F.Tree k (map clue ts))) ts → Family p l a (Tree k ts)
tree_due p l a k ts n f w x o y v h = subst (λ u. Due Reasoned l (At (move a w x o y)) u) (sym (heading_tree p k ts v)) (by_kind p l a k ts n f w x o y v h)

mutual
  heads_due : {l : Label} {a : Site} {t : Node} → (p : Places) → Due ByLevel l (At a) t → Stable l → Family p l a t
  heads_due {l = l} {a = a} p (leaf t n) q = leaf_due p l a t n
  heads_due p (pair {l = l} {a = a} s e m n c r g d) q = pair_due p l a s e c r (g refl) q (heads_due p d nothing_stable true false Anything false true (λ z. absurd (cc)))
  heads_due p (many {l = l} {a = a} ts d) q = list_due p l a ts (all_ready p d (list_stable l ts))
  heads_due p (tree {l = l} {a = a} k ts n m d) q = tree_due p l a k ts n (all_ready p d (labels_stable l k ts))

  all_ready : {ls : List Label} {ss : List Spot} {ts : List Node} → (p : Places) → AllDue ByLevel ls ss ts → AllStable ls → Readys p ls ss ts
  all_ready p none q = tt
  all_ready p (more {s = Hidden} c d) q = (tt, all_ready p d q.1)
  all_ready p (more {s = At a} c d) q = (heads_due p c q.0, all_ready p d q.1)

pub heads_have_reasons : (p : Places) (t : Node) → is_pairless t ≡ true → Due Reasoned nothing any (paired_in_heads p (paired_by_level p t))
heads_have_reasons p t n = heads_due p (levels_have_reasons p t n) nothing_stable true false Anything false true (λ z. absurd (cc))

pub heads_are_needed : (p : Places) (t : Node) (s : Slot) → Fits t s → is_pairless t ≡ true → names_constructors t ≡ true → NoIdlePair (paired_in_heads p (paired_by_level p t))
heads_are_needed p t s f n k =
    let u : Node = paired_by_level p t in let c = levels_set p t s f in let g = fits_kept c f in let d = heads_set p u s g in
    seen_needs (paired_in_heads p u) s (fits_kept d g) (names_kept d (names_kept c k)) (heads_have_reasons p t n)
