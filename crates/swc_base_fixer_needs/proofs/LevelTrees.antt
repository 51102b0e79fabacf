-- Each pair of the first step has a reason: trees.
use Rattle.std.proofs.Common.{◌≡◌, Bool, true, false, not, ◌&&◌, ◌||◌, List, [], ◌∷◌, map, refl, sym, ap, ◌∙◌, rules, true≢false}
use Rattle.std.specs.Prelude.{if◌then◌else◌}
use Rattle.std.specs.List.{list_all}
use Rattle.swc_tree_node.specs.declared.kind.Kind.{Kind}
use Rattle.swc_tree_node.specs.declared.kind.Kind.TheVariants as kind
use Rattle.swc_tree_node.specs.declared.node.Node.{Node, Absent, Flag, Word, Text, Span, List as Many, Identifier, Tree, out-Node, the_lemmas}
use Rattle.swc_tree_node.specs.declared.node.Node.TheOpen.{Node-F}
use Rattle.swc_tree_grammar.specs.Kinds.{is_paren}
use Rattle.swc_tree_grammar.specs.Blocks.{span_of}
use Rattle.swc_tree_grammar.specs.Demands.{Demand, demands, meets, at_least, is_bare_new}
use Rattle.swc_tree_grammar.specs.Demands.Demand.{Any, AtLeast, Each as EachOf, Key, Body, Operand, Link, NewCallee, OrSide, NullishSide}
use Rattle.swc_tree_grammar.specs.Due.{Places, callee_in, call_paired, pair as in_pair, pair_if, to_level, key_in, settled, each_settled}
use Rattle.swc_tree_grammar.specs.Readers.{none as unnamed, named_in}
use Rattle.swc_tree_grammar.proofs.Induction.{Each, by_children}
use Rattle.swc_tree_grammar_laws.proofs.Levelled.{half, also_both}
use Rattle.swc_tree_grammar_laws.proofs.Callees.{callee, paired_of}
use Rattle.swc_tree_grammar_laws.proofs.Settled.{is_met_by_pairs}
use Rattle.swc_base_fixer_laws.proofs.Up.{all_up_same}
use Rattle.swc_base_fixer_laws.proofs.Kept.{is_single, is_sequence, asks as asks_single}
use Rattle.swc_base_fixer_laws.proofs.SetsLevels.{unmet as unmet_pairs}
use Rattle.swc_base_fixer_needs.specs.Sites.{Site, clue, spots, is_base}
use Rattle.swc_base_fixer_needs.specs.Sites.Spot.{At}
use Rattle.swc_base_fixer_needs.specs.Reasons.{Label, labels, Due, blank, field_labels}
use Rattle.swc_base_fixer_needs.specs.Reasons.Extent.{ByLevel}
use Rattle.swc_base_fixer_needs.specs.Reasons.Due.{tree}
use Rattle.swc_base_fixer_needs.proofs.Paths.{clue_of_tree}
use Rattle.swc_base_fixer_needs.proofs.Levels.{paired_blank}
use Rattle.swc_base_fixer_needs.proofs.LevelFields.{AllBlank, all_ok, all_blank, is_chain_shape, same_tests}
use Rattle.swc_base_fixer_needs.proofs.LevelSteps.{Leveled, made, settle_all}

-- what the first step leaves in a place looks the same from above
pair_clue : (p : Places) (e : Node) → clue e ≡ blank → clue (in_pair p e) ≡ clue e
pair_clue p e h = clue_of_tree kind.ParenExpr (Span (p (span_of e)) ∷ e ∷ []) ∙ sym h

one_clue : (x y : Bool) (d : Demand) (p : Places) (n : Node → Bool) (e : Node) → n e ≡ x → meets d e ≡ y → (n e ≡ true → clue e ≡ blank) → (meets d e ≡ false → clue e ≡ blank) → clue (pair_if (x || not y) p e) ≡ clue e
one_clue true y d p n e h m f g = pair_clue p e (f h)
one_clue false false d p n e h m f g = pair_clue p e (g m)
one_clue false true d p n e h m f g = refl

key_row : (p : Places) (k : Kind) (ts : List Node) → clue (key_in p (Tree k ts) (Node-F.Tree k ts)) ≡ clue (Tree k ts)
key_row p kind.ComputedPropName (s ∷ e ∷ []) = clue_of_tree kind.ComputedPropName (s ∷ to_level 2 p e ∷ []) ∙ sym (clue_of_tree kind.ComputedPropName (s ∷ e ∷ []))
key_row p k ts = refl

key_clue : (p : Places) (t : Node) → clue (key_in p t (out-Node t)) ≡ clue t
key_clue p t = by_children (λ t. clue (key_in p t (out-Node t)) ≡ clue t)
    (search (rules, the_lemmas), λ x. search (rules, the_lemmas), λ w. search (rules, the_lemmas), λ x. search (rules, the_lemmas), λ s. search (rules, the_lemmas), λ k i. search (rules, the_lemmas))
    (λ ts l. search (rules, the_lemmas))
    (λ k ts l. (let e : key_in p (Tree k ts) (out-Node (Tree k ts)) ≡ key_in p (Tree k ts) (Node-F.Tree k ts) = search (rules, the_lemmas) in ap clue e ∙ key_row p k ts)) t

callee_row : (p : Places) (k : Kind) (ts : List Node) → clue (Tree k ts) ≡ blank → clue (callee_in p (Tree k ts) (Node-F.Tree k (map (callee p) ts))) ≡ clue (Tree k ts)
callee_row p kind.MemberExpr (s ∷ o ∷ m ∷ []) h = clue_of_tree kind.MemberExpr ((callee p s).whole ∷ call_paired p o ∷ (callee p m).whole ∷ []) ∙ sym (clue_of_tree kind.MemberExpr (s ∷ o ∷ m ∷ []))
callee_row p kind.TaggedTpl (s ∷ o ∷ m ∷ []) h = clue_of_tree kind.TaggedTpl ((callee p s).whole ∷ call_paired p o ∷ (callee p m).whole ∷ []) ∙ sym (clue_of_tree kind.TaggedTpl (s ∷ o ∷ m ∷ []))
callee_row p k ts h = pair_clue p (Tree k ts) h

no_leaf_callee : (p : Places) (t : Node) → at_least 18 t ≡ true → at_least 18 t ≡ false → clue (call_paired p t) ≡ clue t
no_leaf_callee p t e h = absurd (cc)

callee_clue : (p : Places) (t : Node) → at_least 18 t ≡ false → clue (call_paired p t) ≡ clue t
callee_clue p t = by_children (λ t. at_least 18 t ≡ false → clue (call_paired p t) ≡ clue t)
    (no_leaf_callee p Absent (search (rules, the_lemmas)), λ x. no_leaf_callee p (Flag x) (search (rules, the_lemmas)), λ w. no_leaf_callee p (Word w) (search (rules, the_lemmas)), λ x. no_leaf_callee p (Text x) (search (rules, the_lemmas)), λ s. no_leaf_callee p (Span s) (search (rules, the_lemmas)), λ k i. no_leaf_callee p (Identifier k i) (search (rules, the_lemmas)))
    (λ ts l. no_leaf_callee p (Many ts) (search (rules, the_lemmas)))
    (λ k ts l h. ap clue (paired_of p k ts) ∙ callee_row p k ts (paired_blank (Tree k ts) (unmet_pairs (AtLeast 18) (Tree k ts) refl h))) t

low : (b x : Bool) → (b || x) ≡ false → b ≡ false
low true x h = absurd (cc)
low false x h = refl

new_clue : (y : Bool) (p : Places) (b : Bool) (e : Node) → meets (NewCallee b) e ≡ y → clue (if y then e else call_paired p e) ≡ clue e
new_clue true p b e h = refl
new_clue false p b e h = callee_clue p e (low (at_least 18 e) (b && is_bare_new e) h)

new_if_clue : (x : Bool) (p : Places) (b : Bool) (n : Node → Bool) (e : Node) → n e ≡ x → (n e ≡ true → clue e ≡ blank) → clue (if x then in_pair p e else (if meets (NewCallee b) e then e else call_paired p e)) ≡ clue e
new_if_clue true p b n e h f = pair_clue p e (f h)
new_if_clue false p b n e h f = new_clue (meets (NewCallee b) e) p b e refl

settled_clue : (d : Demand) (p : Places) (n : Node → Bool) (e : Node) → is_single d ≡ true → (n e ≡ true → clue e ≡ blank) → clue (settled p d n e) ≡ clue e
settled_clue (EachOf k) p n e w f = absurd (cc)
settled_clue Key p n e w f = key_clue p e
settled_clue (NewCallee b) p n e w f = new_if_clue (n e) p b n e refl f
settled_clue Any p n e w f = one_clue (n e) true Any p n e refl refl f (λ h. absurd (cc))
settled_clue (AtLeast k) p n e w f = one_clue (n e) (meets (AtLeast k) e) (AtLeast k) p n e refl refl f (λ h. paired_blank e (unmet_pairs (AtLeast k) e w h))
settled_clue Body p n e w f = one_clue (n e) (meets Body e) Body p n e refl refl f (λ h. paired_blank e (unmet_pairs Body e w h))
settled_clue Operand p n e w f = one_clue (n e) (meets Operand e) Operand p n e refl refl f (λ h. paired_blank e (unmet_pairs Operand e w h))
settled_clue Link p n e w f = one_clue (n e) (meets Link e) Link p n e refl refl f (λ h. paired_blank e (unmet_pairs Link e w h))
settled_clue OrSide p n e w f = one_clue (n e) (meets OrSide e) OrSide p n e refl refl f (λ h. paired_blank e (unmet_pairs OrSide e w h))
settled_clue NullishSide p n e w f = one_clue (n e) (meets NullishSide e) NullishSide p n e refl refl f (λ h. paired_blank e (unmet_pairs NullishSide e w h))

each_clue : (p : Places) (ds : List Demand) (ns : List (Node → Bool)) (ts : List Node) → list_all is_single ds ≡ true → AllBlank ns ts → map clue (each_settled p ds ns ts) ≡ map clue ts
each_clue p [] ns ts w f = refl
each_clue p (d ∷ ds) [] [] w f = refl
each_clue p (d ∷ ds) (n ∷ ns) [] w f = refl
each_clue p (d ∷ ds) [] (t ∷ ts) w f = let v = half w in rw (settled_clue d p unnamed t v.0 (λ h. absurd (cc)), each_clue p ds [] ts v.1 tt) refl
each_clue p (d ∷ ds) (n ∷ ns) (t ∷ ts) w f = let v = half w in rw (settled_clue d p n t v.0 f.0, each_clue p ds ns ts v.1 f.1) refl

single_met : (ds : List Demand) → list_all is_single ds ≡ true → list_all is_met_by_pairs ds ≡ true
single_met [] h = refl
single_met (EachOf n ∷ ds) h = absurd (cc)
single_met (d ∷ ds) h = let v = half h in also_both (is_met_by_pairs d) (list_all is_met_by_pairs ds) v.0 (single_met ds v.1)

-- the usual kinds
abbrev pub is_usual : Kind → Bool
is_usual kind.ParenExpr = false
is_usual kind.SeqExpr = false
is_usual kind.ExprStmt = false
is_usual kind.OptChainExpr = false
is_usual k = true

no_paren : (k : Kind) → is_usual k ≡ true → is_paren k ≡ false
no_paren kind.ParenExpr h = absurd (true≢false (sym h))
no_paren k h = refl

no_sequence : (k : Kind) → is_usual k ≡ true → is_sequence k ≡ false
no_sequence kind.SeqExpr h = absurd (true≢false (sym h))
no_sequence k h = refl

no_chain : (k : Kind) (ts : List Node) → is_usual k ≡ true → is_chain_shape (Node-F.Tree k ts) ≡ false
no_chain kind.OptChainExpr ts h = absurd (true≢false (sym h))
no_chain k ts h = refl

pub usual_labels : (l : Label) (k : Kind) (ts : List Node) → is_usual k ≡ true → labels l (Node-F.Tree k ts) ≡ field_labels (named_in (Node-F.Tree k ts)) ts
usual_labels l kind.ExprStmt ts h = absurd (true≢false (sym h))
usual_labels l kind.SeqExpr ts h = absurd (true≢false (sym h))
usual_labels l k ts h = refl

pub usual : (p : Places) (l : Label) (a : Site) (k : Kind) (ts : List Node) → Each (Leveled p) ts → is_usual k ≡ true
    → Due ByLevel l (At a) (Tree k (each_settled p (demands (is_base a.mode) (Node-F.Tree k (made p ts))) (named_in (Node-F.Tree k (made p ts))) (made p ts)))
usual p l a k ts q n =
    let us = made p ts in let ds = demands (is_base a.mode) (Node-F.Tree k us) in let ns = named_in (Node-F.Tree k us) in let vs = each_settled p ds ns us in
    let w = (asks_single (is_base a.mode) k (all_up_same us) (no_sequence k n)).1 in let c = each_clue p ds ns us w (all_blank k us) in
    let x = settle_all p ds ns (spots a (Node-F.Tree k (map clue us))) ts q (single_met ds w) (all_ok k us a (no_chain k us n)) (all_blank k us) in
    tree k vs (no_paren k n) (λ z. absurd (cc)) (rw (usual_labels l k vs n, same_tests k us vs c, c) x)
