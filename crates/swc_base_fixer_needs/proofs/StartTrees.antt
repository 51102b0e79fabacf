-- Each pair has a reason after the third step.
use Rattle.std.proofs.Common.{◌≡◌, IsTrue, true, false, ◌&&◌, List, [], ◌∷◌, refl, sym, ap, subst, ◌∙◌, rules}
use Rattle.std.specs.List.{list_all}
use Rattle.swc_tree_node.specs.declared.kind.Kind.{Kind}
use Rattle.swc_tree_node.specs.declared.kind.Kind.TheVariants as kind
use Rattle.swc_tree_node.specs.declared.node.Node.{Node, Tree, the_lemmas}
use Rattle.swc_tree_node.specs.declared.node.Node.TheOpen.{Node-F}
use Rattle.swc_tree_node.specs.Parts.{has_parts}
use Rattle.swc_tree_node.proofs.Leaves.{without_parts}
use Rattle.swc_tree_node.specs.declared.node.Node.TheVariants.{rolls-Tree}
use Rattle.swc_tree_node.specs.declared.slot.Slot.{Slot}
use Rattle.swc_tree_node.specs.Fits.{Fits}
use Rattle.swc_tree_grammar.specs.Needed.{NoIdlePair}
use Rattle.swc_tree_grammar.specs.Stripped.{stripped, is_pairless}
use Rattle.swc_tree_grammar.specs.Blocks.{with_blocks}
use Rattle.swc_tree_grammar.specs.Places.{is_open}
use Rattle.swc_tree_grammar.specs.Writable.{Writable}
use Rattle.swc_tree_grammar.specs.Fixed.{fixed}
use Rattle.swc_tree_grammar.specs.Due.{Places, paired_at_starts, with_due_pairs}
use Rattle.swc_tree_grammar.proofs.Kept.{stripped_fits}
use Rattle.swc_tree_grammar.proofs.BlocksKept.{blocks_fit}
use Rattle.swc_tree_grammar.proofs.Pairless.{unparened_pairless}
use Rattle.swc_tree_grammar_laws.proofs.Levelled.{both}
use Rattle.swc_tree_grammar_laws.proofs.Begins.{starts_of_tree, starts_of_list}
use Rattle.swc_base_fixer_laws.proofs.FitsKept.{fits_kept}
use Rattle.swc_base_fixer_laws.proofs.Answer.{due_set}
use Rattle.swc_base_fixer_laws.proofs.Blocking.{blocks_keep_writable}
use Rattle.swc_base_fixer_laws.proofs.Fixed.{targets_stand_bare, stripping_keeps_writable}
use Rattle.swc_base_fixer_needs.specs.Keys.{names_constructors}
use Rattle.swc_base_fixer_needs.specs.Sites.{Site, Spot, any, may_open}
use Rattle.swc_base_fixer_needs.specs.Sites.Spot.{At}
use Rattle.swc_base_fixer_needs.specs.Reasons.{Label, nothing, Reason, Due, AllDue}
use Rattle.swc_base_fixer_needs.specs.Reasons.Reason.{for_reader, unmet, leads_call, in_head, async_before_of, begins_so}
use Rattle.swc_base_fixer_needs.specs.Reasons.Extent.{Reasoned}
use Rattle.swc_base_fixer_needs.specs.Reasons.Due.{leaf, unseen, pair, many, tree}
use Rattle.swc_base_fixer_needs.specs.Reasons.AllDue.{none, more}
use Rattle.swc_base_fixer_needs.proofs.Views.{same_meets}
use Rattle.swc_base_fixer_needs.proofs.KeysKept.{names_kept}
use Rattle.swc_base_fixer_needs.proofs.Seen.{seen_needs}
use Rattle.swc_base_fixer_needs.proofs.HeadSteps.{Stable, AllStable, nothing_stable, labels_stable, list_stable, named_still}
use Rattle.swc_base_fixer_needs.proofs.HeadNodes.{same_list, heads_have_reasons}
use Rattle.swc_base_fixer_needs.proofs.StartViews.{stepped, starting_view, stepped_clues, async_kept, bracket_kept, bare_kept, start_kept}
use Rattle.swc_base_fixer_needs.proofs.WritableNames.{writable_names_constructors}
use Rattle.swc_base_fixer_needs.proofs.CalmLevels.{calm_before_starts}
use Rattle.swc_base_fixer_needs.proofs.StartNodes.{calm, calm_in, calm_tree, calm_list, step_row, labels_kept}

leaf_starting : (p : Places) (t : Node) → has_parts t ≡ false → paired_at_starts p t ≡ t
leaf_starting p t = without_parts (λ t. paired_at_starts p t ≡ t)
    (search (rules, the_lemmas), λ x. search (rules, the_lemmas), λ w. search (rules, the_lemmas), λ x. search (rules, the_lemmas), λ s. search (rules, the_lemmas)) (λ k i. search (rules, the_lemmas)) t

kept : {l : Label} {a : Site} {e : Node} → (p : Places) → Reason l a e → Stable l → Reason l a (paired_at_starts p e)
kept {l = l} {e = e} p (for_reader n) s = for_reader (named_still l e (paired_at_starts p e) s (starting_view p e) n)
kept {a = a} {e = e} p (unmet m) s = unmet (same_meets (starting_view p e) a.demand ∙ m)
kept {e = e} p (leads_call c d) s = leads_call c ((starting_view p e).called ∙ d)
kept {e = e} p (in_head c d) s = in_head c (bare_kept p e ∙ d)
kept {e = e} p (async_before_of c d) s = async_before_of c (async_kept p e ∙ d)
kept {a = a} {e = e} p (begins_so c d) s = begins_so (ap (may_open a.opening) (start_kept p e) ∙ c) (ap (λ b. a.optional && b) (bracket_kept p e) ∙ d)

calm_parts : (k : Kind) (ts : List Node) → calm (Tree k ts) ≡ true → (calm_in (Node-F.Tree k ts) ≡ true) × (list_all calm ts ≡ true)
calm_parts k ts h = both (calm_in (Node-F.Tree k ts)) (list_all calm ts) (sym (calm_tree k ts) ∙ h)

calm_content : (s e : Node) → calm (Tree kind.ParenExpr (s ∷ e ∷ [])) ≡ true → calm e ≡ true
calm_content s e h = let q = both (calm s) (calm e && true) (calm_parts kind.ParenExpr (s ∷ e ∷ []) h).1 in (both (calm e) true q.1).0

mutual
  starts_due : {l : Label} {s : Spot} {t : Node} → (p : Places) → Due Reasoned l s t → Stable l → calm t ≡ true → Due Reasoned l s (paired_at_starts p t)
  starts_due {l = l} {s = s} p (leaf t n) q h = subst (λ u. Due Reasoned l s u) (sym (leaf_starting p t n)) (leaf t n)
  starts_due p (unseen t f) q h = unseen (paired_at_starts p t) (λ z. absurd (cc))
  starts_due p (pair {l = l} {a = a} s e m n c r g d) q h =
      subst (λ u. Due Reasoned l (At a) u) (sym (starts_of_tree p kind.ParenExpr (s ∷ e ∷ []) ∙ rolls-Tree kind.ParenExpr (paired_at_starts p s ∷ paired_at_starts p e ∷ [])))
      (pair (paired_at_starts p s) (paired_at_starts p e) (λ z. absurd (cc)) (λ z. absurd (cc)) ((starting_view p e).clue_same ∙ c) (kept p r q) (λ z. absurd (cc)) (starts_due p d nothing_stable (calm_content s e h)))
  starts_due p (many {l = l} {a = a} ts d) q h =
      let us : List Node = stepped p ts in let c = stepped_clues p ts in
      subst (λ u. Due Reasoned l (At a) u) (sym (starts_of_list p ts)) (many us (rw (same_list l ts us c, c) (all_due p d (list_stable l ts) (sym (calm_list ts) ∙ h))))
  starts_due p (tree {l = l} {a = a} k ts n m d) q h =
      let b = calm_parts k ts h in
      subst (λ u. Due Reasoned l (At a) u) (sym (starts_of_tree p k ts)) (step_row p l a k ts n b.0 (rw (labels_kept p l k ts n, stepped_clues p ts) (all_due p d (labels_stable l k ts) b.1)))

  all_due : {ls : List Label} {ss : List Spot} {ts : List Node} → (p : Places) → AllDue Reasoned ls ss ts → AllStable ls → list_all calm ts ≡ true → AllDue Reasoned ls ss (stepped p ts)
  all_due p none q h = none
  all_due p (more {t = t} {ts = ts} c d) q h = let b = both (calm t) (list_all calm ts) h in more (starts_due p c q.0 b.0) (all_due p d q.1 b.1)

pub starts_have_reasons : (p : Places) (t : Node) (s : Slot) → Fits t s → is_pairless t ≡ true → Due Reasoned nothing any (with_due_pairs p t)
starts_have_reasons p t s f n = starts_due p (heads_have_reasons p t n) nothing_stable (calm_before_starts p t s f)

pub due_pairs_are_needed : (p : Places) (t : Node) (s : Slot) → Fits t s → is_pairless t ≡ true → names_constructors t ≡ true → NoIdlePair (with_due_pairs p t)
due_pairs_are_needed p t s f n k = let d = due_set p t s f in seen_needs (with_due_pairs p t) s (fits_kept d f) (names_kept d k) (starts_have_reasons p t s f n)

-- the answer to what can be written down
pub fixed_is_needed : (p : Places) (t : Node) (s : Slot) → IsTrue (is_open s) → Fits t s → Writable t → NoIdlePair (fixed p t)
fixed_is_needed p t s o f w =
    let u = with_blocks (stripped t) in let g = stripped_fits t s (targets_stand_bare t s f w) o f in let h = blocks_fit (stripped t) s g in
    due_pairs_are_needed p u s h (unparened_pairless t u s refl f) (writable_names_constructors u s h (blocks_keep_writable (stripped t) s g (stripping_keeps_writable t s f w)))
