-- Each pair of the first step has a reason: what `new` calls, statements, and every node.
use Rattle.std.proofs.Common.{◌≡◌, Bool, true, false, not, ◌||◌, List, [], ◌∷◌, map, refl, sym, ap, subst, ◌∙◌, rules, true≢false}
use Rattle.std.specs.Prelude.{nat_le, if◌then◌else◌}
use Rattle.std.specs.List.{list_all}
use Rattle.swc_tree_node.specs.declared.kind.Kind.{Kind}
use Rattle.swc_tree_node.specs.declared.kind.Kind.TheVariants as kind
use Rattle.swc_tree_node.specs.declared.node.Node.{Node, Absent, Flag, Word, Text, Span, List as Many, Identifier, Tree, out-Node, the_lemmas}
use Rattle.swc_tree_node.specs.declared.node.Node.TheOpen.{Node-F}
use Rattle.swc_tree_node.specs.Parts.{has_parts}
use Rattle.swc_tree_grammar.specs.Shapes.{items_of}
use Rattle.swc_tree_grammar.specs.Kinds.{has_kind, is_paren, is_function}
use Rattle.swc_tree_grammar.specs.Levels.{level_in, is_called, called_step}
use Rattle.swc_tree_grammar.specs.Demands.{meets, at_least, object}
use Rattle.swc_tree_grammar.specs.Demands.Demand.{Any, AtLeast, Each as EachOf, Operand}
use Rattle.swc_tree_grammar.specs.Due.{Places, Callee, callee_step, callee_in, call_paired, pair as in_pair, pair_if, to_level, key_in, odd_items, sequence_statement, paired_by_level}
use Rattle.swc_tree_grammar.specs.Readers.{none as unnamed, is_odd_object}
use Rattle.swc_tree_grammar.specs.Stripped.{is_pairless, pairless_step}
use Rattle.swc_tree_grammar.proofs.Induction.{Each, by_children}
use Rattle.swc_tree_grammar.proofs.Wholes.{carried}
use Rattle.swc_tree_grammar_laws.proofs.Levelled.{both}
use Rattle.swc_tree_grammar_laws.proofs.Levels.{pairing, pairing_tree, pairing_list}
use Rattle.swc_tree_grammar_laws.proofs.Callees.{callee, paired_of}
use Rattle.swc_base_fixer_laws.proofs.Up.{at_least_of_tree, called_of_tree}
use Rattle.swc_base_fixer_laws.proofs.SetsLevels.{unmet as unmet_pairs}
use Rattle.swc_base_fixer_needs.specs.Sites.{Site, clue, any, asks, leads, spots, other_items, is_base, is_spine, asks_callee}
use Rattle.swc_base_fixer_needs.specs.Sites.Opening.{Anything}
use Rattle.swc_base_fixer_needs.specs.Sites.Spot.{At}
use Rattle.swc_base_fixer_needs.specs.Reasons.{nothing, Due, AllDue, field_labels}
use Rattle.swc_base_fixer_needs.specs.Reasons.Label.{Names, OfStatement}
use Rattle.swc_base_fixer_needs.specs.Reasons.Reason.{leads_call}
use Rattle.swc_base_fixer_needs.specs.Reasons.Extent.{ByLevel}
use Rattle.swc_base_fixer_needs.specs.Reasons.Due.{leaf, unseen, many, tree}
use Rattle.swc_base_fixer_needs.specs.Reasons.AllDue.{none, more}
use Rattle.swc_base_fixer_needs.proofs.Paths.{parts_pairless, items_pairless}
use Rattle.swc_base_fixer_needs.proofs.Levels.{Everywhere, AllEverywhere, put, paired_blank, list_odd, item_at, item_mode_plain}
use Rattle.swc_base_fixer_needs.proofs.LevelSteps.{Anyway, Leveled, made, everywhere}
use Rattle.swc_base_fixer_needs.proofs.LevelNodes.{stepped, OfKind, made_of, of_tree, of_tree_at, key_tree}

-- what `new` calls
called_row : (k : Kind) (ts : List Node) → called_step (Node-F.Tree k (map is_called ts)) ≡ true → nat_le 18 (level_in (Node-F.Tree k ts)) ≡ false
called_row kind.CallExpr ts h = refl
called_row kind.MemberExpr (s ∷ o ∷ m ∷ []) h = rw h refl
called_row kind.TaggedTpl (s ∷ o ∷ m ∷ []) h = rw h refl
called_row k ts h = absurd (true≢false (sym h))

no_call : (t : Node) → is_called t ≡ false → is_called t ≡ true → at_least 18 t ≡ false
no_call t e h = absurd (cc)

called_low : (t : Node) → is_called t ≡ true → at_least 18 t ≡ false
called_low t = by_children (λ t. is_called t ≡ true → at_least 18 t ≡ false)
    (no_call Absent (search (rules, the_lemmas)), λ x. no_call (Flag x) (search (rules, the_lemmas)), λ w. no_call (Word w) (search (rules, the_lemmas)), λ x. no_call (Text x) (search (rules, the_lemmas)), λ s. no_call (Span s) (search (rules, the_lemmas)), λ k i. no_call (Identifier k i) (search (rules, the_lemmas)))
    (λ ts l. no_call (Many ts) (search (rules, the_lemmas)))
    (λ k ts l h. at_least_of_tree 18 k ts ∙ called_row k ts (sym (called_of_tree k ts) ∙ h)) t

if_called : (b : Bool) → nat_le 18 (if b then 17 else 18) ≡ false → b ≡ true
if_called true h = refl
if_called false h = absurd (cc)

callee_whole : (p : Places) (t : Node) → (callee p t).whole ≡ t
callee_whole p t = carried Callee (callee_step p) (λ e. e.whole) (λ x. refl) t

spine_on : (a : Site) (b : Bool) → is_spine a ≡ true → (is_spine a || asks_callee (object b)) ≡ true
spine_on a b h = rw h refl

pair_uncalled : (p : Places) (e : Node) → is_called (in_pair p e) ≡ false
pair_uncalled p e = search (rules, the_lemmas)

member_callee : (x : Bool) (p : Places) (f : Node → Bool) (a : Site) (s o m : Node) → Leveled p o → Leveled p m → is_spine a ≡ true → is_called (pair_if x p (pairing p o false)) ≡ true
    → Due ByLevel (Names f) (At a) (call_paired p (Tree kind.MemberExpr (s ∷ pair_if x p (pairing p o false) ∷ pairing p m false ∷ [])))
member_callee true p f a s o m q r h c = (let e = pair_uncalled p (pairing p o false) in absurd (cc))
member_callee false p f a s o m q r h c =
    let o' : Node = pairing p o false in let m' : Node = pairing p m false in let t = leads a (record (asks (object (is_base a.mode)) a.with_in) { uncalled = is_spine a }) in
    let w : Anyway t o' = λ l. (leads_call h c, refl) in
    let x = q.as_callee (has_kind is_odd_object) t refl (spine_on a (is_base a.mode) h) (called_low o' c) w in
    rw (paired_of p kind.MemberExpr (s ∷ o' ∷ m' ∷ []), callee_whole p s, callee_whole p m')
    (tree kind.MemberExpr (s ∷ call_paired p o' ∷ m' ∷ []) refl (λ z. absurd (cc)) (more (unseen s (λ z. absurd (cc))) (more x (more (everywhere p m r unnamed (asks Any true) refl) none))))

tag_callee : (x : Bool) (p : Places) (f : Node → Bool) (a : Site) (s o m : Node) → Leveled p o → Leveled p m → is_spine a ≡ true → is_called (pair_if x p (pairing p o false)) ≡ true
    → Due ByLevel (Names f) (At a) (call_paired p (Tree kind.TaggedTpl (s ∷ pair_if x p (pairing p o false) ∷ pairing p m false ∷ [])))
tag_callee true p f a s o m q r h c = (let e = pair_uncalled p (pairing p o false) in absurd (cc))
tag_callee false p f a s o m q r h c =
    let o' : Node = pairing p o false in let m' : Node = pairing p m false in let t = leads a (record (asks Operand a.with_in) { uncalled = is_spine a }) in
    let w : Anyway t o' = λ l. (leads_call h c, refl) in
    let x = q.as_callee (has_kind is_function) t refl (rw h refl) (called_low o' c) w in
    rw (paired_of p kind.TaggedTpl (s ∷ o' ∷ m' ∷ []), callee_whole p s, callee_whole p m')
    (tree kind.TaggedTpl (s ∷ call_paired p o' ∷ m' ∷ []) refl (λ z. absurd (cc)) (more (unseen s (λ z. absurd (cc))) (more x (more (everywhere p m r unnamed (asks Any true) refl) none))))

abbrev goes_on : Node-F Node → Bool
goes_on (Node-F.Tree kind.MemberExpr (s ∷ o ∷ m ∷ [])) = true
goes_on (Node-F.Tree kind.TaggedTpl (s ∷ o ∷ m ∷ [])) = true
goes_on _ = false

here_row : (p : Places) (k : Kind) (ts : List Node) → goes_on (Node-F.Tree k ts) ≡ false → callee_in p (Tree k ts) (Node-F.Tree k (map (callee p) ts)) ≡ in_pair p (Tree k ts)
here_row p kind.MemberExpr (s ∷ o ∷ m ∷ []) h = absurd (cc)
here_row p kind.TaggedTpl (s ∷ o ∷ m ∷ []) h = absurd (cc)
here_row p k ts h = refl

here : (p : Places) (k : Kind) (u : Node) → (x : OfKind k u) → goes_on (Node-F.Tree k x.fields) ≡ false → call_paired p u ≡ in_pair p u
here p k u x h = subst (λ t. call_paired p t ≡ in_pair p t) (sym x.same) (paired_of p k x.fields ∙ here_row p k x.fields h)

abbrev Called : Places → Kind → List Node → Type 0
Called p k ts = (f : Node → Bool) (a : Site) → is_base a.mode ≡ false → is_spine a ≡ true → at_least 18 (stepped p k ts false) ≡ false → Anyway a (stepped p k ts false) → Due ByLevel (Names f) (At a) (call_paired p (stepped p k ts false))

called_here : (p : Places) (k : Kind) (ts : List Node) → Each (Leveled p) ts → is_paren k ≡ false → (u : Node) → u ≡ stepped p k ts false → call_paired p u ≡ in_pair p u → (f : Node → Bool) (a : Site) → is_base a.mode ≡ false → at_least 18 u ≡ false → Anyway a u → Due ByLevel (Names f) (At a) (call_paired p u)
called_here p k ts q n u s e f a b l w =
    let z : Everywhere u = λ g c d. subst (λ t. Due ByLevel (Names g) (At c) t) (sym s) (of_tree_at p k ts (Names g) c q n refl d) in
    rw e (put (Names f) a p u (paired_blank u (unmet_pairs (AtLeast 18) u refl l)) (w (Names f)).0 (w (Names f)).1 z)

called_tree : (p : Places) (k : Kind) (ts : List Node) → Each (Leveled p) ts → is_paren k ≡ false → Called p k ts
called_tree p kind.MemberExpr (s ∷ o ∷ m ∷ []) q n f a b h l w =
    let o' : Node = pairing p o false in let x : Bool = has_kind is_odd_object o' || not (meets Operand o') in
    member_callee x p f a (pairing p s false) o m q.1.0 q.1.1.0 h (if_called (is_called (pair_if x p o')) (sym (at_least_of_tree 18 kind.MemberExpr (pairing p s false ∷ pair_if x p o' ∷ pairing p m false ∷ [])) ∙ l))
called_tree p kind.TaggedTpl (s ∷ o ∷ m ∷ []) q n f a b h l w =
    let o' : Node = pairing p o false in let x : Bool = has_kind is_function o' || not (meets Operand o') in
    tag_callee x p f a (pairing p s false) o m q.1.0 q.1.1.0 h (if_called (is_called (pair_if x p o')) (sym (at_least_of_tree 18 kind.TaggedTpl (pairing p s false ∷ pair_if x p o' ∷ pairing p m false ∷ [])) ∙ l))
called_tree p kind.MemberExpr [] q n f a b h l w = called_here p kind.MemberExpr [] q n (stepped p kind.MemberExpr [] false) refl (here p kind.MemberExpr (stepped p kind.MemberExpr [] false) (made_of p kind.MemberExpr []) refl) f a b l w
called_tree p kind.MemberExpr (s ∷ []) q n f a b h l w = called_here p kind.MemberExpr (s ∷ []) q n (stepped p kind.MemberExpr (s ∷ []) false) refl (here p kind.MemberExpr (stepped p kind.MemberExpr (s ∷ []) false) (made_of p kind.MemberExpr (s ∷ [])) refl) f a b l w
called_tree p kind.MemberExpr (s ∷ t ∷ []) q n f a b h l w = called_here p kind.MemberExpr (s ∷ t ∷ []) q n (stepped p kind.MemberExpr (s ∷ t ∷ []) false) refl (here p kind.MemberExpr (stepped p kind.MemberExpr (s ∷ t ∷ []) false) (made_of p kind.MemberExpr (s ∷ t ∷ [])) refl) f a b l w
called_tree p kind.MemberExpr (s ∷ t ∷ u ∷ v ∷ ts) q n f a b h l w = called_here p kind.MemberExpr (s ∷ t ∷ u ∷ v ∷ ts) q n (stepped p kind.MemberExpr (s ∷ t ∷ u ∷ v ∷ ts) false) refl (here p kind.MemberExpr (stepped p kind.MemberExpr (s ∷ t ∷ u ∷ v ∷ ts) false) (made_of p kind.MemberExpr (s ∷ t ∷ u ∷ v ∷ ts)) refl) f a b l w
called_tree p kind.TaggedTpl [] q n f a b h l w = called_here p kind.TaggedTpl [] q n (stepped p kind.TaggedTpl [] false) refl (here p kind.TaggedTpl (stepped p kind.TaggedTpl [] false) (made_of p kind.TaggedTpl []) refl) f a b l w
called_tree p kind.TaggedTpl (s ∷ []) q n f a b h l w = called_here p kind.TaggedTpl (s ∷ []) q n (stepped p kind.TaggedTpl (s ∷ []) false) refl (here p kind.TaggedTpl (stepped p kind.TaggedTpl (s ∷ []) false) (made_of p kind.TaggedTpl (s ∷ [])) refl) f a b l w
called_tree p kind.TaggedTpl (s ∷ t ∷ []) q n f a b h l w = called_here p kind.TaggedTpl (s ∷ t ∷ []) q n (stepped p kind.TaggedTpl (s ∷ t ∷ []) false) refl (here p kind.TaggedTpl (stepped p kind.TaggedTpl (s ∷ t ∷ []) false) (made_of p kind.TaggedTpl (s ∷ t ∷ [])) refl) f a b l w
called_tree p kind.TaggedTpl (s ∷ t ∷ u ∷ v ∷ ts) q n f a b h l w = called_here p kind.TaggedTpl (s ∷ t ∷ u ∷ v ∷ ts) q n (stepped p kind.TaggedTpl (s ∷ t ∷ u ∷ v ∷ ts) false) refl (here p kind.TaggedTpl (stepped p kind.TaggedTpl (s ∷ t ∷ u ∷ v ∷ ts) false) (made_of p kind.TaggedTpl (s ∷ t ∷ u ∷ v ∷ ts)) refl) f a b l w
called_tree p k ts q n f a b h l w = called_here p k ts q n (stepped p k ts false) refl (here p k (stepped p k ts false) (made_of p k ts) refl) f a b l w

-- a statement
abbrev is_sequence_kind : Kind → Bool
is_sequence_kind kind.SeqExpr = true
is_sequence_kind _ = false

statement_of : (p : Places) (k : Kind) (ts : List Node) → sequence_statement p (Tree k ts) (out-Node (Tree k ts)) ≡ sequence_statement p (Tree k ts) (Node-F.Tree k ts)
statement_of p k ts = search (rules, the_lemmas)

statement_same : (p : Places) (k : Kind) (ts : List Node) → is_sequence_kind k ≡ false → sequence_statement p (Tree k ts) (Node-F.Tree k ts) ≡ Tree k ts
statement_same p kind.SeqExpr ts h = absurd (cc)
statement_same p k ts h = refl

kept : (p : Places) (k : Kind) (u : Node) → OfKind k u → is_sequence_kind k ≡ false → sequence_statement p u (out-Node u) ≡ u
kept p k u x n = subst (λ t. sequence_statement p t (out-Node t) ≡ t) (sym x.same) (statement_of p k x.fields ∙ statement_same p k x.fields n)

statement_tree : (p : Places) (k : Kind) (ts : List Node) → Each (Leveled p) ts → is_paren k ≡ false → (a : Site) → is_base a.mode ≡ false → Due ByLevel OfStatement (At a) (sequence_statement p (stepped p k ts false) (out-Node (stepped p k ts false)))
statement_tree p kind.SeqExpr (s ∷ e ∷ []) q n a b =
    let s' : Node = pairing p s false in let us : List Node = map (to_level 2 p) (items_of (pairing p e false)) in
    let i : items_of (Many us) ≡ us = search (rules, the_lemmas) in
    rw (statement_of p kind.SeqExpr (s' ∷ Many us ∷ []), i)
    (tree kind.SeqExpr (s' ∷ Many (odd_items p us) ∷ []) refl (λ z. absurd (cc)) (more (unseen s' (λ z. absurd (cc))) (more (list_odd p (leads a (asks (EachOf 2) a.with_in)) (items_of (pairing p e false)) refl q.1.0.as_items) none)))
statement_tree p kind.SeqExpr [] q n a b = rw (statement_of p kind.SeqExpr (made p [])) (of_tree_at p kind.SeqExpr [] OfStatement a q n refl b)
statement_tree p kind.SeqExpr (s ∷ []) q n a b = rw (statement_of p kind.SeqExpr (made p (s ∷ []))) (of_tree_at p kind.SeqExpr (s ∷ []) OfStatement a q n refl b)
statement_tree p kind.SeqExpr (s ∷ t ∷ u ∷ ts) q n a b = rw (statement_of p kind.SeqExpr (made p (s ∷ t ∷ u ∷ ts))) (of_tree_at p kind.SeqExpr (s ∷ t ∷ u ∷ ts) OfStatement a q n refl b)
statement_tree p k ts q n a b = rw (kept p k (stepped p k ts false) (made_of p k ts) refl) (of_tree_at p k ts OfStatement a q n refl b)

-- every node
no_items : (k : Kind) (u : Node) → OfKind k u → AllEverywhere (items_of u)
no_items k u x = subst (λ t. AllEverywhere (items_of t)) (sym x.same) (let e : items_of (Tree k x.fields) ≡ [] = search (rules, the_lemmas) in rw e tt)

abbrev Level : Places → Node → Type 0
Level p t = is_pairless t ≡ true → Leveled p t

level_tree : (p : Places) (k : Kind) (ts : List Node) → Each (Leveled p) ts → is_paren k ≡ false → Leveled p (Tree k ts)
level_tree p k ts q n = record {
  stands = λ f a. rw (pairing_tree p k ts (is_base a.mode)) (of_tree p k ts (Names f) a q n refl);
  as_key = rw (pairing_tree p k ts false) (key_tree p k ts q n);
  as_callee = rw (pairing_tree p k ts false) (called_tree p k ts q n);
  as_items = rw (pairing_tree p k ts false) (no_items k (stepped p k ts false) (made_of p k ts));
  as_statement = rw (pairing_tree p k ts false) (statement_tree p k ts q n);
}

level_leaf : (p : Places) (t : Node) → has_parts t ≡ false → ((b : Bool) → pairing p t b ≡ t) → key_in p t (out-Node t) ≡ t → at_least 18 t ≡ true → items_of t ≡ [] → sequence_statement p t (out-Node t) ≡ t → Level p t
level_leaf p t l e k h i s n = record {
  stands = λ f a. rw (e (is_base a.mode)) (leaf t l);
  as_key = λ f a b d. rw (e false, k) (leaf t l);
  as_callee = λ f a b d m w. (let x : at_least 18 (pairing p t false) ≡ true = ap (at_least 18) (e false) ∙ h in absurd (cc));
  as_items = rw (e false, i) tt;
  as_statement = λ a b. rw (e false, s) (leaf t l);
}

other_fields : (p : Places) (a : Site) (ts : List Node) → Each (Leveled p) ts → AllDue ByLevel (field_labels [] (made p ts)) (other_items a (map clue (made p ts))) (made p ts)
other_fields p a [] q = none
other_fields p a (t ∷ ts) q = more (everywhere p t q.0 unnamed (item_at Anything a) (item_mode_plain a.mode)) (other_fields p a ts q.1)

list_fields : (p : Places) (a : Site) (ts : List Node) → Each (Leveled p) ts → AllDue ByLevel (field_labels [] (made p ts)) (spots a (Node-F.List (map clue (made p ts)))) (made p ts)
list_fields p a [] q = none
list_fields p a (t ∷ ts) q = more (everywhere p t q.0 unnamed (item_at a.opening a) (item_mode_plain a.mode)) (other_fields p a ts q.1)

all_everywhere : (p : Places) (ts : List Node) → Each (Leveled p) ts → AllEverywhere (made p ts)
all_everywhere p [] q = tt
all_everywhere p (t ∷ ts) q = (everywhere p t q.0, all_everywhere p ts q.1)

level_list : (p : Places) (ts : List Node) → Each (Leveled p) ts → Leveled p (Many ts)
level_list p ts q =
    let us : List Node = made p ts in
    let k : key_in p (Many us) (out-Node (Many us)) ≡ Many us = search (rules, the_lemmas) in let i : items_of (Many us) ≡ us = search (rules, the_lemmas) in
    let s : sequence_statement p (Many us) (out-Node (Many us)) ≡ Many us = search (rules, the_lemmas) in let h : at_least 18 (Many us) ≡ true = search (rules, the_lemmas) in
    record {
      stands = λ f a. rw (pairing_list p ts (is_base a.mode)) (many us (list_fields p a ts q));
      as_key = λ f a b d. rw (pairing_list p ts false, k) (many us (list_fields p a ts q));
      as_callee = λ f a b d m w. (let x : at_least 18 (pairing p (Many ts) false) ≡ true = ap (at_least 18) (pairing_list p ts false) ∙ h in absurd (cc));
      as_items = rw (pairing_list p ts false, i) (all_everywhere p ts q);
      as_statement = λ a b. rw (pairing_list p ts false, s) (many us (list_fields p a ts q));
    }

each_level : (p : Places) (ts : List Node) → Each (Level p) ts → list_all is_pairless ts ≡ true → Each (Leveled p) ts
each_level p [] q n = tt
each_level p (t ∷ ts) q n = let m = both (is_pairless t) (list_all is_pairless ts) n in (q.0 m.0, each_level p ts q.1 m.1)

no_paren : (k : Kind) (bs : List Bool) → pairless_step (Node-F.Tree k bs) ≡ true → is_paren k ≡ false
no_paren kind.ParenExpr bs h = absurd (true≢false (sym h))
no_paren k bs h = refl

pairless_tree : (k : Kind) (ts : List Node) → is_pairless (Tree k ts) ≡ pairless_step (Node-F.Tree k (map is_pairless ts))
pairless_tree k ts = search (rules, the_lemmas)

leveled : (p : Places) (t : Node) → Level p t
leveled p t = by_children (Level p)
    (level_leaf p Absent (search (rules, the_lemmas)) (λ b. search (rules, the_lemmas)) (search (rules, the_lemmas)) (search (rules, the_lemmas)) (search (rules, the_lemmas)) (search (rules, the_lemmas)), λ x. level_leaf p (Flag x) (search (rules, the_lemmas)) (λ b. search (rules, the_lemmas)) (search (rules, the_lemmas)) (search (rules, the_lemmas)) (search (rules, the_lemmas)) (search (rules, the_lemmas)), λ w. level_leaf p (Word w) (search (rules, the_lemmas)) (λ b. search (rules, the_lemmas)) (search (rules, the_lemmas)) (search (rules, the_lemmas)) (search (rules, the_lemmas)) (search (rules, the_lemmas)), λ x. level_leaf p (Text x) (search (rules, the_lemmas)) (λ b. search (rules, the_lemmas)) (search (rules, the_lemmas)) (search (rules, the_lemmas)) (search (rules, the_lemmas)) (search (rules, the_lemmas)), λ s. level_leaf p (Span s) (search (rules, the_lemmas)) (λ b. search (rules, the_lemmas)) (search (rules, the_lemmas)) (search (rules, the_lemmas)) (search (rules, the_lemmas)) (search (rules, the_lemmas)), λ k i. level_leaf p (Identifier k i) (search (rules, the_lemmas)) (λ b. search (rules, the_lemmas)) (search (rules, the_lemmas)) (search (rules, the_lemmas)) (search (rules, the_lemmas)) (search (rules, the_lemmas)))
    (λ ts l n. level_list p ts (each_level p ts l (items_pairless ts n)))
    (λ k ts l n. level_tree p k ts (each_level p ts l (parts_pairless k ts n)) (no_paren k (map is_pairless ts) (sym (pairless_tree k ts) ∙ n))) t

pub levels_have_reasons : (p : Places) (t : Node) → is_pairless t ≡ true → Due ByLevel nothing any (paired_by_level p t)
levels_have_reasons p t n = (leveled p t n).stands unnamed (asks Any true)
