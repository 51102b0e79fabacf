-- Each pair has a reason where a pair is set round the innermost expression that a node begins with: every node.
use Rattle.std.proofs.Common.{◌≡◌, Bool, true, false, ◌&&◌, ◌||◌, List, [], ◌∷◌, map, refl, sym, ap, subst, ◌∙◌, rules}
use Rattle.std.specs.Prelude.{if◌then◌else◌}
use Rattle.swc_tree_node.specs.declared.kind.Kind.{Kind}
use Rattle.swc_tree_node.specs.declared.kind.Kind.TheVariants as kind
use Rattle.swc_tree_node.specs.declared.node.Node.{Node, Span, List as Many, Tree, the_lemmas}
use Rattle.swc_tree_node.specs.declared.node.Node.TheOpen.{Node-F}
use Rattle.swc_tree_node.specs.Parts.{has_parts}
use Rattle.swc_tree_node.proofs.Leaves.{without_parts}
use Rattle.swc_tree_grammar.specs.Kinds.{has_kind, is_paren, is_object_pattern}
use Rattle.swc_tree_grammar.specs.Forms.{holds}
use Rattle.swc_tree_grammar.specs.Blocks.{span_of}
use Rattle.swc_tree_grammar.specs.Demands.Demand.{Any, AtLeast}
use Rattle.swc_tree_grammar.specs.Starts.{Start, start, start_in, is_let_bracket}
use Rattle.swc_tree_grammar.specs.Starts.Start.{Other, LetBracket}
use Rattle.swc_tree_grammar.specs.Due.{Places, pair as in_pair, first_in}
use Rattle.swc_tree_grammar_laws.proofs.Begins.{spined, first_paired, spine_whole, first_of_tree, first_of_list, start_tree, start_list}
use Rattle.swc_base_fixer_needs.specs.Sites.{Opening, Site, Spot, clue, asks, spots, first_unless, may_open}
use Rattle.swc_base_fixer_needs.specs.Sites.Spot.{Hidden, At}
use Rattle.swc_base_fixer_needs.specs.Reasons.{Label, nothing, labels, Due, AllDue, blank}
use Rattle.swc_base_fixer_needs.specs.Reasons.Label.{Names, OfStatement, OfItems}
use Rattle.swc_base_fixer_needs.specs.Reasons.Reason.{begins_so}
use Rattle.swc_base_fixer_needs.specs.Reasons.Extent.{Reasoned}
use Rattle.swc_base_fixer_needs.specs.Reasons.Due.{leaf, unseen, pair, many, tree}
use Rattle.swc_base_fixer_needs.specs.Reasons.AllDue.{none, more}
use Rattle.swc_base_fixer_needs.proofs.Paths.{clue_of_tree}
use Rattle.swc_base_fixer_needs.proofs.FirstRows.{lead_of, led, led_tree, led_list, begun_of, begun_whole, blocked, other_opens, opening_blocks, Free, Anywhere, Leads, Readys, Fields, Dues, is_pair, assign_anywhere, member_anywhere, chain_anywhere, inner_row}

around : (p : Places) (l : Label) (a : Site) (t : Node) → clue t ≡ blank → may_open a.opening (start t) ≡ false → (a.optional && is_let_bracket t) ≡ false → Anywhere t → Due Reasoned l (At a) (in_pair p t)
around p l a t c m o y = pair (Span (p (span_of t))) t (λ z. absurd (cc)) (λ z. absurd (cc)) c (begins_so m o) (λ z. absurd (cc)) (y nothing (asks Any true) refl)

-- trees
seq : (p : Places) (l : Label) (a : Site) (s e : Node) → Fields p l a kind.SeqExpr (s ∷ e ∷ []) → Free a.with_in (led e) → may_open a.opening (start e) ≡ false → Due Reasoned l (At a) (Tree kind.SeqExpr (s ∷ first_paired p e ∷ []))
seq p (Names f) a s e q g m = tree kind.SeqExpr (s ∷ first_paired p e ∷ []) refl (λ z. absurd (cc)) (more (unseen s (λ z. absurd (cc))) (more (q.1.0.first g m refl) none))
seq p OfStatement a s e q g m = tree kind.SeqExpr (s ∷ first_paired p e ∷ []) refl (λ z. absurd (cc)) (more (unseen s (λ z. absurd (cc))) (more (q.1.0.first g m refl) none))
seq p OfItems a s e q g m = tree kind.SeqExpr (s ∷ first_paired p e ∷ []) refl (λ z. absurd (cc)) (more (unseen s (λ z. absurd (cc))) (more (q.1.0.first g m refl) none))

not_led : (b c : Bool) → (b || c) ≡ false → c ≡ false
not_led true c h = absurd (cc)
not_led false c h = h

assign_if : (x : Bool) (p : Places) (l : Label) (a : Site) (s o f r : Node) → has_kind is_object_pattern f ≡ x → Fields p l a kind.AssignExpr (s ∷ o ∷ f ∷ r ∷ []) → Free a.with_in (led (Tree kind.AssignExpr (s ∷ o ∷ f ∷ r ∷ []))) → Free a.with_in (led f)
    → may_open a.opening (start (Tree kind.AssignExpr (s ∷ o ∷ f ∷ r ∷ []))) ≡ false → may_open a.opening (start f) ≡ false → (a.optional && is_let_bracket (Tree kind.AssignExpr (s ∷ o ∷ f ∷ r ∷ []))) ≡ false
    → Due Reasoned l (At a) (if x then in_pair p (Tree kind.AssignExpr (s ∷ o ∷ f ∷ r ∷ [])) else Tree kind.AssignExpr (s ∷ o ∷ first_paired p f ∷ r ∷ []))
assign_if true p l a s o f r e q g g' m m' n = around p l a (Tree kind.AssignExpr (s ∷ o ∷ f ∷ r ∷ [])) (clue_of_tree kind.AssignExpr (s ∷ o ∷ f ∷ r ∷ [])) m n (assign_anywhere p l a s o f r q g (opening_blocks a.opening (start f) m') e)
assign_if false p l a s o f r e q g g' m m' n =
    tree kind.AssignExpr (s ∷ o ∷ first_paired p f ∷ r ∷ []) refl (λ z. absurd (cc)) (more (unseen s (λ z. absurd (cc))) (more (unseen o (λ z. absurd (cc))) (more (q.1.1.0.first g' m' refl) (more q.1.1.1.0.due none))))

member_else : (x : Bool) (o : Opening) (s : Start) → x ≡ false → may_open o (if x then LetBracket else s) ≡ false → may_open o s ≡ false
member_else true o s e h = absurd (cc)
member_else false o s e h = h

member_if : (x : Bool) (p : Places) (l : Label) (a : Site) (s o m : Node) → is_let_bracket (Tree kind.MemberExpr (s ∷ o ∷ m ∷ [])) ≡ x → Fields p l a kind.MemberExpr (s ∷ o ∷ m ∷ []) → Free a.with_in (led o)
    → may_open a.opening (start (Tree kind.MemberExpr (s ∷ o ∷ m ∷ []))) ≡ false → may_open a.opening (if is_let_bracket (Tree kind.MemberExpr (s ∷ o ∷ m ∷ [])) then LetBracket else start o) ≡ false → (a.optional && is_let_bracket (Tree kind.MemberExpr (s ∷ o ∷ m ∷ []))) ≡ false
    → Due Reasoned l (At a) (if x then in_pair p (Tree kind.MemberExpr (s ∷ o ∷ m ∷ [])) else Tree kind.MemberExpr (s ∷ first_paired p o ∷ m ∷ []))
member_if true p l a s o m e q g h h' n = around p l a (Tree kind.MemberExpr (s ∷ o ∷ m ∷ [])) (clue_of_tree kind.MemberExpr (s ∷ o ∷ m ∷ [])) h n (member_anywhere p l a s o m q e)
member_if false p l a s o m e q g h h' n =
    tree kind.MemberExpr (s ∷ first_paired p o ∷ m ∷ []) refl (λ z. absurd (cc)) (more (unseen s (λ z. absurd (cc))) (more (q.1.0.first g (member_else (is_let_bracket (Tree kind.MemberExpr (s ∷ o ∷ m ∷ []))) a.opening (start o) e h') refl) (more q.1.1.0.due none)))

-- where another token comes first in one case, it does not in the other
opens_else : (x : Bool) (o : Opening) (s : Start) → may_open o (if x then Other else s) ≡ false → (may_open o s ≡ false) × (x ≡ false)
opens_else true o s h = absurd (cc (sym (other_opens o) ∙ h))
opens_else false o s h = (h, refl)

chain_if : (x : Bool) (p : Places) (l : Label) (a : Site) (s o m : Node) → has_kind is_paren (first_paired p m) ≡ x → Fields p l a kind.OptChainExpr (s ∷ o ∷ m ∷ []) → Free a.with_in (led m)
    → may_open a.opening (start (Tree kind.OptChainExpr (s ∷ o ∷ m ∷ []))) ≡ false → (may_open a.opening (start m) ≡ false) × ((holds o && is_let_bracket m) ≡ false) → (a.optional && is_let_bracket (Tree kind.OptChainExpr (s ∷ o ∷ m ∷ []))) ≡ false
    → Due Reasoned l (At a) (if x then in_pair p (Tree kind.OptChainExpr (s ∷ o ∷ m ∷ [])) else Tree kind.OptChainExpr (s ∷ o ∷ first_paired p m ∷ []))
chain_if true p l a s o m e q g h h' n = around p l a (Tree kind.OptChainExpr (s ∷ o ∷ m ∷ [])) (clue_of_tree kind.OptChainExpr (s ∷ o ∷ m ∷ [])) h n (chain_anywhere p l a s o m q g (opening_blocks a.opening (start m) h'.0) e)
chain_if false p l a s o m e q g h h' n = tree kind.OptChainExpr (s ∷ o ∷ first_paired p m ∷ []) refl (λ z. absurd (cc)) (more (unseen s (λ z. absurd (cc))) (more (unseen o (λ z. absurd (cc))) (more (q.1.1.0.first g h'.0 h'.1) none)))

update_arg : (b : Bool) (p : Places) (l : Label) (a : Site) (t : Node) → Leads p l (first_unless b a (asks (AtLeast 17) a.with_in)) t → Free a.with_in (led t) → may_open a.opening (if b then Other else start t) ≡ false
    → Due Reasoned l (At (first_unless b a (asks (AtLeast 17) a.with_in))) (first_paired p t)
update_arg true p l a t q g m = absurd (cc (sym (other_opens a.opening) ∙ m))
update_arg false p l a t q g m = q.first g m refl

whole_pair : (p : Places) (l : Label) (a : Site) (k : Kind) (ts : List Node) → clue (Tree k ts) ≡ blank → Fields p l a k ts → Dues l a k ts → Free a.with_in (led (Tree k ts)) → may_open a.opening (start (Tree k ts)) ≡ false
    → may_open a.opening (start_in (Tree k ts) (Node-F.Tree k (map begun_of ts))) ≡ false → (a.optional && is_let_bracket (Tree k ts)) ≡ false → has_kind is_paren (first_in p (Tree k ts) (Node-F.Tree k (map (spined p) ts))) ≡ true → Due Reasoned l (At a) (in_pair p (Tree k ts))
whole_pair p l a k ts c q d g m m' n h = around p l a (Tree k ts) c m n (inner_row p l a k ts q d g (opening_blocks a.opening (start_in (Tree k ts) (Node-F.Tree k (map begun_of ts))) m') h)

first_row : (p : Places) (l : Label) (a : Site) (k : Kind) (ts : List Node) → Fields p l a k ts → Dues l a k ts → Free a.with_in (led (Tree k ts)) → may_open a.opening (start (Tree k ts)) ≡ false
    → may_open a.opening (start_in (Tree k ts) (Node-F.Tree k (map begun_of ts))) ≡ false → (a.optional && is_let_bracket (Tree k ts)) ≡ false → Due Reasoned l (At a) (first_in p (Tree k ts) (Node-F.Tree k (map (spined p) ts)))
first_row p l a kind.SeqExpr (s ∷ e ∷ []) q d g m m' n = rw (spine_whole p s) (seq p l a s e q (λ z. sym (led_tree kind.SeqExpr (s ∷ e ∷ [])) ∙ g z) m')
first_row p l a kind.AssignExpr (s ∷ o ∷ f ∷ r ∷ []) q d g m m' n =
    rw (spine_whole p s, spine_whole p o, spine_whole p f, spine_whole p r)
    (assign_if (has_kind is_object_pattern f) p l a s o f r refl q g (λ z. not_led (has_kind is_object_pattern (lead_of f).whole) (led f) (sym (led_tree kind.AssignExpr (s ∷ o ∷ f ∷ r ∷ [])) ∙ g z)) m m' n)
first_row p l a kind.CondExpr (s ∷ t ∷ c ∷ e ∷ []) q d g m m' n =
    rw (spine_whole p s, spine_whole p c, spine_whole p e)
    (tree kind.CondExpr (s ∷ first_paired p t ∷ c ∷ e ∷ []) refl (λ z. absurd (cc)) (more (unseen s (λ z. absurd (cc))) (more (q.1.0.first (λ z. sym (led_tree kind.CondExpr (s ∷ t ∷ c ∷ e ∷ [])) ∙ g z) m' refl) (more q.1.1.0.due (more q.1.1.1.0.due none)))))
first_row p l a kind.BinExpr (s ∷ o ∷ f ∷ r ∷ []) q d g m m' n =
    rw (spine_whole p s, spine_whole p o, spine_whole p r)
    (tree kind.BinExpr (s ∷ o ∷ first_paired p f ∷ r ∷ []) refl (λ z. absurd (cc)) (more (unseen s (λ z. absurd (cc))) (more (unseen o (λ z. absurd (cc))) (more (q.1.1.0.first (λ z. sym (led_tree kind.BinExpr (s ∷ o ∷ f ∷ r ∷ [])) ∙ g z) m' refl) (more q.1.1.1.0.due none)))))
first_row p l a kind.UpdateExpr (s ∷ o ∷ f ∷ r ∷ []) q d g m m' n =
    rw (spine_whole p s, spine_whole p o, spine_whole p f)
    (tree kind.UpdateExpr (s ∷ o ∷ f ∷ first_paired p r ∷ []) refl (λ z. absurd (cc)) (more (unseen s (λ z. absurd (cc))) (more (unseen o (λ z. absurd (cc))) (more (unseen f (λ z. absurd (cc)))
    (more (update_arg (holds f) p nothing a r q.1.1.1.0 (λ z. sym (led_tree kind.UpdateExpr (s ∷ o ∷ f ∷ r ∷ [])) ∙ g z) (ap (λ t. may_open a.opening (if holds t then Other else start r)) (sym (begun_whole f)) ∙ m')) none)))))
first_row p l a kind.MemberExpr (s ∷ o ∷ x ∷ []) q d g m m' n =
    rw (spine_whole p s, spine_whole p x) (member_if (is_let_bracket (Tree kind.MemberExpr (s ∷ o ∷ x ∷ []))) p l a s o x refl q (λ z. sym (led_tree kind.MemberExpr (s ∷ o ∷ x ∷ [])) ∙ g z) m m' n)
first_row p l a kind.TaggedTpl (s ∷ o ∷ x ∷ []) q d g m m' n =
    rw (spine_whole p s, spine_whole p x)
    (tree kind.TaggedTpl (s ∷ first_paired p o ∷ x ∷ []) refl (λ z. absurd (cc)) (more (unseen s (λ z. absurd (cc))) (more (q.1.0.first (λ z. sym (led_tree kind.TaggedTpl (s ∷ o ∷ x ∷ [])) ∙ g z) m' refl) (more q.1.1.0.due none))))
first_row p l a kind.CallExpr (s ∷ o ∷ x ∷ []) q d g m m' n =
    rw (spine_whole p s, spine_whole p x)
    (tree kind.CallExpr (s ∷ first_paired p o ∷ x ∷ []) refl (λ z. absurd (cc)) (more (unseen s (λ z. absurd (cc))) (more (q.1.0.first (λ z. sym (led_tree kind.CallExpr (s ∷ o ∷ x ∷ [])) ∙ g z) m' refl) (more q.1.1.0.due none))))
first_row p l a kind.OptChainExpr (s ∷ o ∷ x ∷ []) q d g m m' n =
    let y = opens_else (holds (begun_of o).whole && is_let_bracket (begun_of x).whole) a.opening (start x) m' in
    rw (spine_whole p s, spine_whole p o)
    (chain_if (has_kind is_paren (first_paired p x)) p l a s o x refl q (λ z. sym (led_tree kind.OptChainExpr (s ∷ o ∷ x ∷ [])) ∙ g z) m
    (y.0, ap (λ t. holds t && is_let_bracket x) (sym (begun_whole o)) ∙ ap (λ t. holds (begun_of o).whole && is_let_bracket t) (sym (begun_whole x)) ∙ y.1) n)
first_row p l a kind.OptCall (s ∷ o ∷ x ∷ []) q d g m m' n =
    rw (spine_whole p s, spine_whole p x)
    (tree kind.OptCall (s ∷ first_paired p o ∷ x ∷ []) refl (λ z. absurd (cc)) (more (unseen s (λ z. absurd (cc))) (more (q.1.0.first (λ z. sym (led_tree kind.OptCall (s ∷ o ∷ x ∷ [])) ∙ g z) m' refl) (more q.1.1.0.due none))))
first_row p l a kind.ObjectLit ts q d g m m' n = whole_pair p l a kind.ObjectLit ts (clue_of_tree kind.ObjectLit ts) q d g m m' n (is_pair p (Tree kind.ObjectLit ts))
first_row p l a kind.ObjectPat ts q d g m m' n = whole_pair p l a kind.ObjectPat ts (clue_of_tree kind.ObjectPat ts) q d g m m' n (is_pair p (Tree kind.ObjectPat ts))
first_row p l a kind.ClassExpr ts q d g m m' n = whole_pair p l a kind.ClassExpr ts (clue_of_tree kind.ClassExpr ts) q d g m m' n (is_pair p (Tree kind.ClassExpr ts))
first_row p l a kind.FnExpr ts q d g m m' n = whole_pair p l a kind.FnExpr ts (clue_of_tree kind.FnExpr ts) q d g m m' n (is_pair p (Tree kind.FnExpr ts))
first_row p l a kind.Function ts q d g m m' n = whole_pair p l a kind.Function ts (clue_of_tree kind.Function ts) q d g m m' n (is_pair p (Tree kind.Function ts))
first_row p l a k ts q d g m m' n = absurd (cc (sym (other_opens a.opening) ∙ m'))

tree_leads : (p : Places) (l : Label) (a : Site) (k : Kind) (ts : List Node) → Due Reasoned l (At a) (Tree k ts) → Dues l a k ts → Fields p l a k ts → Leads p l a (Tree k ts)
tree_leads p l a k ts d ds q = record {
  due = d;
  inner = λ g b h. inner_row p l a k ts q ds g (sym (ap blocked (start_tree k ts)) ∙ b) (sym (ap (has_kind is_paren) (first_of_tree p k ts)) ∙ h);
  first = λ g m n. subst (λ u. Due Reasoned l (At a) u) (sym (first_of_tree p k ts)) (first_row p l a k ts q ds g m (sym (ap (may_open a.opening) (start_tree k ts)) ∙ m) n);
}

-- nothing that a place minds comes first
other_leads : (p : Places) (l : Label) (a : Site) (t : Node) → start t ≡ Other → Due Reasoned l (At a) t → Leads p l a t
other_leads p l a t e d = record {
  due = d;
  inner = λ g b h. absurd (cc (sym (ap blocked e) ∙ b));
  first = λ g m n. absurd (cc (sym (ap (may_open a.opening) e ∙ other_opens a.opening) ∙ m));
}

leaf_start : (t : Node) → has_parts t ≡ false → start t ≡ Other
leaf_start t = without_parts (λ t. start t ≡ Other)
    (search (rules, the_lemmas), λ x. search (rules, the_lemmas), λ w. search (rules, the_lemmas), λ x. search (rules, the_lemmas), λ s. search (rules, the_lemmas)) (λ k i. search (rules, the_lemmas)) t

-- lists
items_first : (p : Places) (l : Label) (a : Site) (t : Node) (ts : List Node) → AllDue Reasoned (labels l (Node-F.List (t ∷ ts))) (spots a (Node-F.List (map clue (t ∷ ts)))) (t ∷ ts) → Readys p (labels l (Node-F.List (t ∷ ts))) (spots a (Node-F.List (map clue (t ∷ ts)))) (t ∷ ts)
    → Free a.with_in (led t) → may_open a.opening (start t) ≡ false → Due Reasoned l (At a) (Many (first_paired p t ∷ ts))
items_first p (Names f) a t ts (more c d) q g m = many (first_paired p t ∷ ts) (more (q.0.first g m refl) d)
items_first p OfStatement a t ts (more c d) q g m = many (first_paired p t ∷ ts) (more (q.0.first g m refl) d)
items_first p OfItems a t [] (more c d) q g m = many (first_paired p t ∷ []) (more (q.0.first g m refl) d)
items_first p OfItems a t (u ∷ ts) (more c d) q g m = many (first_paired p t ∷ u ∷ ts) (more (q.0.first g m refl) d)

list_leads : (p : Places) (l : Label) (a : Site) (ts : List Node) → Due Reasoned l (At a) (Many ts) → AllDue Reasoned (labels l (Node-F.List ts)) (spots a (Node-F.List (map clue ts))) ts → Readys p (labels l (Node-F.List ts)) (spots a (Node-F.List (map clue ts))) ts → Leads p l a (Many ts)
list_leads p l a [] d ds q = other_leads p l a (Many []) (search (rules, the_lemmas)) d
list_leads p l a (t ∷ ts) d ds q = record {
  due = d;
  inner = λ g b h. (let e : has_kind is_paren (Many (first_paired p t ∷ ts)) ≡ false = search (rules, the_lemmas) in absurd (cc (sym e ∙ sym (ap (has_kind is_paren) (first_of_list p t ts)) ∙ h)));
  first = λ g m n. subst (λ u. Due Reasoned l (At a) u) (sym (first_of_list p t ts)) (items_first p l a t ts ds q (λ z. sym (led_list t ts) ∙ g z) (sym (ap (may_open a.opening) (start_list t ts)) ∙ m));
}

mutual
  pub leading : {l : Label} {a : Site} {t : Node} → (p : Places) → Due Reasoned l (At a) t → Leads p l a t
  leading {l = l} {a = a} p (leaf t n) = other_leads p l a t (leaf_start t n) (leaf t n)
  leading p (pair {l = l} {a = a} s e m n c r g d) = other_leads p l a (Tree kind.ParenExpr (s ∷ e ∷ [])) (start_tree kind.ParenExpr (s ∷ e ∷ [])) (pair s e m n c r g d)
  leading p (many {l = l} {a = a} ts d) = list_leads p l a ts (many ts d) d (all_leading p d)
  leading p (tree {l = l} {a = a} k ts n m d) = tree_leads p l a k ts (tree k ts n m d) d (all_leading p d)

  all_leading : {ls : List Label} {ss : List Spot} {ts : List Node} → (p : Places) → AllDue Reasoned ls ss ts → Readys p ls ss ts
  all_leading p none = tt
  all_leading p (more {s = Hidden} c d) = (tt, all_leading p d)
  all_leading p (more {s = At a} c d) = (leading p c, all_leading p d)
