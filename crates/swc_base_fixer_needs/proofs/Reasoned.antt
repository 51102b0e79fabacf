-- A pair that has a reason is needed or stands for a reader.
use Rattle.std.proofs.Common.{◌≡◌, ℕ, zero, suc, Bool, true, false, not, ◌||◌, ◌⊎◌, inl, inr, List, [], ◌∷◌, map, refl, sym, ap, ◌∙◌, rules}
use Rattle.std.specs.Prelude.{Some, None, is_some, slice_get}
use Rattle.swc_tree_node.specs.declared.kind.Kind.{Kind}
use Rattle.swc_tree_node.specs.declared.kind.Kind.TheVariants as kind
use Rattle.swc_tree_node.specs.declared.node.Node.{Node, Absent, Flag, Word, Text, Span, List as Many, Identifier, Tree, out-Node, the_lemmas}
use Rattle.swc_tree_node.specs.declared.node.Node.TheOpen.{Node-F}
use Rattle.swc_tree_node.specs.Parts.{has_parts}
use Rattle.swc_tree_node.proofs.Leaves.{without_parts}
use Rattle.swc_tree_scoping.specs.Places.{Path, given}
use Rattle.swc_tree_grammar.specs.Kinds.{is_paren}
use Rattle.swc_tree_grammar.specs.Levels.{word_of, is_in}
use Rattle.swc_tree_grammar.specs.Stripped.{is_pairless}
use Rattle.swc_tree_grammar.specs.Readers.{names}
use Rattle.swc_tree_grammar.specs.Needed.{content_in, content_at, is_pair, changed, without_pair, IsNeeded, IsForReader, NoIdlePair}
use Rattle.swc_tree_grammar.proofs.Induction.{by_children}
use Rattle.swc_tree_grammar_laws.proofs.Levelled.{half}
use Rattle.swc_tree_grammar_laws.proofs.Derived.{judged, whole}
use Rattle.swc_base_fixer_needs.specs.Sites.{Mode, Site, Spot, clue, any, spots, derives_as, Stands, Stand, AllStand}
use Rattle.swc_base_fixer_needs.specs.Sites.Spot.{Hidden, At}
use Rattle.swc_base_fixer_needs.specs.Reasons.{Label, nothing, labels, names_content, Reason, Due, AllDue, takes_tree, is_bare_in, blank}
use Rattle.swc_base_fixer_needs.specs.Reasons.Label.{Names, OfStatement, OfItems}
use Rattle.swc_base_fixer_needs.specs.Reasons.Reason.{for_reader, unmet, leads_call, in_head, async_before_of, begins_so}
use Rattle.swc_base_fixer_needs.specs.Reasons.Extent.{Seen}
use Rattle.swc_base_fixer_needs.specs.Reasons.Due.{leaf, unseen, pair, many, tree}
use Rattle.swc_base_fixer_needs.specs.Reasons.AllDue.{none, more}
use Rattle.swc_base_fixer_needs.specs.Reads.{read, Reads}
use Rattle.swc_base_fixer_needs.proofs.Standing.{context, code}
use Rattle.swc_base_fixer_needs.proofs.StandingNodes.{forms, by_form}
use Rattle.swc_base_fixer_needs.proofs.StandingTrees.{parts_of, parts_of_list}
use Rattle.swc_base_fixer_needs.proofs.Paths.{no_pair, child_of_tree, child_of_list, without_of_tree, without_of_list, clue_of_tree, clue_of_list}
use Rattle.swc_base_fixer_needs.proofs.Named.{ReadsAt, reads_of_tree, reads_of_list}

-- without the pair the content is not what its place asks
no_bare_in : (k : Kind) (ts : List Node) (m : Mode) (s : Bool) → takes_tree m ≡ true → is_bare_in (Node-F.Tree k ts) ≡ true → derives_as m (Tree k ts) (judged (Tree k ts)) (context false s) ≡ true → ⊥
no_bare_in kind.BinExpr (s ∷ o ∷ f ∷ x ∷ []) m r t i h =
    let ts : List Node = s ∷ o ∷ f ∷ x ∷ [] in
    let p = half (by_form kind.BinExpr ts m (context false r) refl (forms m kind.BinExpr ts (context false r) refl t h)) in
    let q : not (is_in (word_of o)) ≡ true = sym (ap (λ t. not (is_in (word_of t))) (whole o)) ∙ p.0 in
    let n : not (is_in (word_of o)) ≡ false = ap not i in cc
no_bare_in k ts m r t i h = absurd (cc)

bare_in_fails : (e : Node) (m : Mode) (s : Bool) → takes_tree m ≡ true → is_bare_in (out-Node e) ≡ true → derives_as m e (judged e) (context false s) ≡ true → ⊥
bare_in_fails e m s t = by_children (λ e. is_bare_in (out-Node e) ≡ true → derives_as m e (judged e) (context false s) ≡ true → ⊥)
    (λ i h. (let x : is_bare_in (out-Node Absent) ≡ false = search (rules, the_lemmas) in absurd (cc)), λ b i h. (let x : is_bare_in (out-Node (Flag b)) ≡ false = search (rules, the_lemmas) in absurd (cc)), λ w i h. (let x : is_bare_in (out-Node (Word w)) ≡ false = search (rules, the_lemmas) in absurd (cc)), λ b i h. (let x : is_bare_in (out-Node (Text b)) ≡ false = search (rules, the_lemmas) in absurd (cc)), λ b i h. (let x : is_bare_in (out-Node (Span b)) ≡ false = search (rules, the_lemmas) in absurd (cc)), λ k j i h. (let x : is_bare_in (out-Node (Identifier k j)) ≡ false = search (rules, the_lemmas) in absurd (cc)))
    (λ ts l i h. (let x : is_bare_in (out-Node (Many ts)) ≡ false = search (rules, the_lemmas) in absurd (cc)))
    (λ k ts l i h. (let x : is_bare_in (out-Node (Tree k ts)) ≡ is_bare_in (Node-F.Tree k ts) = search (rules, the_lemmas) in no_bare_in k ts m s t (sym x ∙ i) h)) e

or_lost : (x y : Bool) → x ≡ false → y ≡ false → (x || y) ≡ true → ⊥
or_lost true y e f h = absurd (cc)
or_lost false y e f h = absurd (cc)

fails : {l : Label} {a : Site} {e : Node} → takes_tree a.mode ≡ true → Reason l a e → (Stands a e → ⊥) ⊎ (names_content l e ≡ true)
fails t (for_reader n) = inr n
fails t (unmet n) = inl (λ g. let m = g.is_met in absurd (cc))
fails t (leads_call u c) = inl (λ g. let m = g.leads_no_call u in absurd (cc))
fails {a = a} {e = e} t (in_head w i) = inl (λ g. bare_in_fails e a.mode g.strict t i (sym (ap (λ b. derives_as a.mode e (judged e) (context b g.strict)) w) ∙ g.derived))
fails t (async_before_of b n) = inl (λ g. let m = g.no_async b in absurd (cc))
fails t (begins_so o n) = inl (λ g. or_lost _ _ o n g.opens)

-- one pair taken off: the node looks the same from above, and no longer stands, or the content is named
record Goes (l : Label) (s : Spot) (t : Node) (p : Path) : Type 0 where
  same : clue (without_pair t p) ≡ clue t
  fails_or_reads : (Stand s (without_pair t p) → ⊥) ⊎ Reads l t p

record AllGo (ls : List Label) (ss : List Spot) (ts : List Node) (i : ℕ) (p : Path) : Type 0 where
  same : map clue (changed (λ u. without_pair u p) i ts) ≡ map clue ts
  fails_or_reads : (AllStand ss (changed (λ u. without_pair u p) i ts) → ⊥) ⊎ ReadsAt ls ts i p

content_of_pair : (s e : Node) → content_at (Tree kind.ParenExpr (s ∷ e ∷ [])) [] ≡ Some e
content_of_pair s e = search (rules, the_lemmas)

without_of_pair : (s e : Node) → without_pair (Tree kind.ParenExpr (s ∷ e ∷ [])) [] ≡ e
without_of_pair s e = search (rules, the_lemmas)

named_here : (l : Label) (t e : Node) → names_content l e ≡ true → (read l t [] e || names t [] e) ≡ true
named_here (Names f) t e h = rw h refl
named_here OfStatement t e h = absurd (cc)
named_here OfItems t e h = absurd (cc)

here : (l : Label) (a : Site) (s e : Node) → clue e ≡ blank → (Stands a e → ⊥) ⊎ (names_content l e ≡ true) → Goes l (At a) (Tree kind.ParenExpr (s ∷ e ∷ [])) []
here l a s e c (inl f) = record { same = ap clue (without_of_pair s e) ∙ c ∙ sym (clue_of_tree kind.ParenExpr (s ∷ e ∷ [])); fails_or_reads = inl (λ g. f (rw (without_of_pair s e) at g)) }
here l a s e c (inr n) = record { same = ap clue (without_of_pair s e) ∙ c ∙ sym (clue_of_tree kind.ParenExpr (s ∷ e ∷ [])); fails_or_reads = inr (record { content = e; stands = content_of_pair s e; named = named_here l (Tree kind.ParenExpr (s ∷ e ∷ [])) e n }) }

tree_fails : (l : Label) (a : Site) (k : Kind) (ts : List Node) (i : ℕ) (p : Path) → takes_tree a.mode ≡ true → map clue (changed (λ u. without_pair u p) i ts) ≡ map clue ts
    → (AllStand (spots a (Node-F.Tree k (map clue ts))) (changed (λ u. without_pair u p) i ts) → ⊥) ⊎ ReadsAt (labels l (Node-F.Tree k ts)) ts i p → (Stands a (without_pair (Tree k ts) (i ∷ p)) → ⊥) ⊎ Reads l (Tree k ts) (i ∷ p)
tree_fails l a k ts i p m s (inr x) = inr (reads_of_tree l k ts i p x)
tree_fails l a k ts i p m s (inl f) = inl (λ g. (
    let us = changed (λ u. without_pair u p) i ts in let x = parts_of k us a m (rw (without_of_tree k ts i p) at g) in f (rw s at x)))

of_tree : (l : Label) (a : Site) (k : Kind) (ts : List Node) (i : ℕ) (p : Path) → takes_tree a.mode ≡ true → AllGo (labels l (Node-F.Tree k ts)) (spots a (Node-F.Tree k (map clue ts))) ts i p → Goes l (At a) (Tree k ts) (i ∷ p)
of_tree l a k ts i p m x = record {
  same = ap clue (without_of_tree k ts i p) ∙ clue_of_tree k (changed (λ u. without_pair u p) i ts) ∙ sym (clue_of_tree k ts);
  fails_or_reads = tree_fails l a k ts i p m x.same x.fails_or_reads;
}

list_fails : (l : Label) (a : Site) (ts : List Node) (i : ℕ) (p : Path) → map clue (changed (λ u. without_pair u p) i ts) ≡ map clue ts
    → (AllStand (spots a (Node-F.List (map clue ts))) (changed (λ u. without_pair u p) i ts) → ⊥) ⊎ ReadsAt (labels l (Node-F.List ts)) ts i p → (Stands a (without_pair (Many ts) (i ∷ p)) → ⊥) ⊎ Reads l (Many ts) (i ∷ p)
list_fails l a ts i p s (inr x) = inr (reads_of_list l ts i p x)
list_fails l a ts i p s (inl f) = inl (λ g. (
    let us = changed (λ u. without_pair u p) i ts in let x = parts_of_list us a (rw (without_of_list ts i p) at g) in f (rw s at x)))

of_list : (l : Label) (a : Site) (ts : List Node) (i : ℕ) (p : Path) → AllGo (labels l (Node-F.List ts)) (spots a (Node-F.List (map clue ts))) ts i p → Goes l (At a) (Many ts) (i ∷ p)
of_list l a ts i p x = record { same = ap clue (without_of_list ts i p) ∙ clue_of_list (changed (λ u. without_pair u p) i ts) ts; fails_or_reads = list_fails l a ts i p x.same x.fails_or_reads }

first_fails : (l : Label) (s : Spot) (t : Node) (ls : List Label) (ss : List Spot) (ts : List Node) (p : Path) → (Stand s (without_pair t p) → ⊥) ⊎ Reads l t p
    → (AllStand (s ∷ ss) (without_pair t p ∷ ts) → ⊥) ⊎ ReadsAt (l ∷ ls) (t ∷ ts) zero p
first_fails l s t ls ss ts p (inl f) = inl (λ g. f g.0)
first_fails l s t ls ss ts p (inr x) = inr x

later_fails : (l : Label) (s : Spot) (t : Node) (ls : List Label) (ss : List Spot) (ts : List Node) (i : ℕ) (p : Path) → (AllStand ss (changed (λ u. without_pair u p) i ts) → ⊥) ⊎ ReadsAt ls ts i p
    → (AllStand (s ∷ ss) (t ∷ changed (λ u. without_pair u p) i ts) → ⊥) ⊎ ReadsAt (l ∷ ls) (t ∷ ts) (suc i) p
later_fails l s t ls ss ts i p (inl f) = inl (λ g. f g.1)
later_fails l s t ls ss ts i p (inr x) = inr x

first : (l : Label) (s : Spot) (t : Node) (ls : List Label) (ss : List Spot) (ts : List Node) (p : Path) → Goes l s t p → AllGo (l ∷ ls) (s ∷ ss) (t ∷ ts) zero p
first l s t ls ss ts p x = record { same = ap (λ c. c ∷ map clue ts) x.same; fails_or_reads = first_fails l s t ls ss ts p x.fails_or_reads }

later : (l : Label) (s : Spot) (t : Node) (ls : List Label) (ss : List Spot) (ts : List Node) (i : ℕ) (p : Path) → AllGo ls ss ts i p → AllGo (l ∷ ls) (s ∷ ss) (t ∷ ts) (suc i) p
later l s t ls ss ts i p x = record { same = ap (λ cs. clue t ∷ cs) x.same; fails_or_reads = later_fails l s t ls ss ts i p x.fails_or_reads }

pair_of_tree : (k : Kind) (ts : List Node) (i : ℕ) (p : Path) → is_pair (Tree k ts) (i ∷ p) ≡ is_some (given (slice_get ts i) None (λ u. content_at u p))
pair_of_tree k ts i p = ap (λ o. is_some (given o None (λ u. content_at u p))) (child_of_tree k ts i)

pair_of_list : (ts : List Node) (i : ℕ) (p : Path) → is_pair (Many ts) (i ∷ p) ≡ is_some (given (slice_get ts i) None (λ u. content_at u p))
pair_of_list ts i p = ap (λ o. is_some (given o None (λ u. content_at u p))) (child_of_list ts i)

no_content : (k : Kind) (ts : List Node) → is_paren k ≡ false → is_some (content_in (Node-F.Tree k ts)) ≡ false
no_content kind.ParenExpr ts h = absurd (cc)
no_content k ts h = refl

no_pair_of : {l : Label} {s : Spot} (t : Node) (p : Path) → is_pair t p ≡ false → is_pair t p ≡ true → Goes l s t p
no_pair_of t p e h = absurd (cc)

leaf_pairless : (t : Node) → has_parts t ≡ false → is_pairless t ≡ true
leaf_pairless t = without_parts (λ t. is_pairless t ≡ true)
    (search (rules, the_lemmas), λ x. search (rules, the_lemmas), λ w. search (rules, the_lemmas), λ x. search (rules, the_lemmas), λ s. search (rules, the_lemmas)) (λ k i. search (rules, the_lemmas)) t

mutual
  below : {l : Label} {s : Spot} {t : Node} → Due Seen l s t → (p : Path) → is_pair t p ≡ true → Goes l s t p
  below (leaf t n) p h = no_pair_of t p (no_pair p t (leaf_pairless t n)) h
  below (unseen t n) p h = no_pair_of t p (no_pair p t (n refl)) h
  below (pair {l = l} {a = a} s e m n c r y d) [] h = here l a s e c (fails (m refl) r)
  below (pair {l = l} {a = a} s e m n c r y d) (zero ∷ p) h = no_pair_of (Tree kind.ParenExpr (s ∷ e ∷ [])) (zero ∷ p) (pair_of_tree kind.ParenExpr (s ∷ e ∷ []) zero p ∙ no_pair p s (n refl)) h
  below (pair {l = l} {a = a} s e m n c r y d) (suc zero ∷ p) h =
      of_tree l a kind.ParenExpr (s ∷ e ∷ []) 1 p (m refl) (later nothing Hidden s (nothing ∷ []) (any ∷ []) (e ∷ []) zero p (first nothing any e [] [] [] p (below d p (sym (pair_of_tree kind.ParenExpr (s ∷ e ∷ []) 1 p) ∙ h))))
  below (pair {l = l} {a = a} s e m n c r y d) (suc (suc i) ∷ p) h = no_pair_of (Tree kind.ParenExpr (s ∷ e ∷ [])) (suc (suc i) ∷ p) (pair_of_tree kind.ParenExpr (s ∷ e ∷ []) (suc (suc i)) p) h
  below (many ts d) [] h = no_pair_of (Many ts) [] (search (rules, the_lemmas)) h
  below (many {l = l} {a = a} ts d) (i ∷ p) h = of_list l a ts i p (all_below d i p (sym (pair_of_list ts i p) ∙ h))
  below (tree k ts n m d) [] h = no_pair_of (Tree k ts) [] (let e : is_pair (Tree k ts) [] ≡ is_some (content_in (Node-F.Tree k ts)) = search (rules, the_lemmas) in e ∙ no_content k ts n) h
  below (tree {l = l} {a = a} k ts n m d) (i ∷ p) h = of_tree l a k ts i p (m refl) (all_below d i p (sym (pair_of_tree k ts i p) ∙ h))

  all_below : {ls : List Label} {ss : List Spot} {ts : List Node} → AllDue Seen ls ss ts → (i : ℕ) (p : Path) → is_some (given (slice_get ts i) None (λ u. content_at u p)) ≡ true → AllGo ls ss ts i p
  all_below none i p h = absurd (cc)
  all_below (more {l = l} {ls = ls} {s = s} {ss = ss} {t = t} {ts = ts} c d) zero p h = first l s t ls ss ts p (below c p h)
  all_below (more {l = l} {ls = ls} {s = s} {ss = ss} {t = t} {ts = ts} c d) (suc i) p h = later l s t ls ss ts i p (all_below d i p h)

-- of the whole
read_nothing : (t : Node) (p : Path) (e : Node) → read nothing t p e ≡ false
read_nothing t [] e = refl
read_nothing t (i ∷ p) e = refl

is_named : (t : Node) (p : Path) → Reads nothing t p → IsForReader t p
is_named t p x = ap (λ o. given o false (names t p)) x.stands ∙ sym (ap (λ b. b || names t p x.content) (read_nothing t p x.content)) ∙ x.named

not_idle : (t : Node) (p : Path) → is_pair t p ≡ true → (Stand any (without_pair t p) → ⊥) ⊎ Reads nothing t p → IsNeeded t p ⊎ IsForReader t p
not_idle t p h (inl f) = inl (h, λ g. f (code (without_pair t p) true false g))
not_idle t p h (inr x) = inr (is_named t p x)

pub reasons_are_needs : (t : Node) → Due Seen nothing any t → NoIdlePair t
reasons_are_needs t d p h = not_idle t p h (below d p h).fails_or_reads
