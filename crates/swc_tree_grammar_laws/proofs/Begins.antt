-- What the third step of the due pairs leaves begins nowhere as it may not.
use Rattle.std.proofs.Common.{◌≡◌, Bool, true, false, ◌&&◌, ◌||◌, List, [], ◌∷◌, map, refl, sym, ap, ◌∙◌, rules}
use Rattle.std.specs.Prelude.{if◌then◌else◌}
use Rattle.std.specs.List.{list_all}
use Rattle.swc_tree_node.specs.declared.kind.Kind.{Kind}
use Rattle.swc_tree_node.specs.declared.kind.Kind.TheVariants as kind
use Rattle.swc_tree_node.specs.declared.node.Node.{Node, Absent, Flag, Word, Text, Span, List as Many, Identifier, Tree, fold-Node, out-Node, the_lemmas}
use Rattle.swc_tree_node.specs.declared.node.Node.TheVariants.{rolls-Tree}
use Rattle.swc_tree_node.specs.declared.node.Node.TheOpen.{Node-F}
use Rattle.swc_tree_grammar.specs.Starts.{Start, Begun, start, start_in, start_step, is_let_in, is_computed_in, is_let_bracket}
use Rattle.swc_tree_grammar.specs.Starts.Start.{Other}
use Rattle.swc_tree_grammar.specs.Kinds.{has_kind, is_paren, is_block, is_object_pattern}
use Rattle.swc_tree_grammar.specs.Grammar.{may_begin_statement, may_begin_export, may_begin_body}
use Rattle.swc_tree_grammar.specs.Due.{Places, Leading, pair, first_step, first_in, begun, begin_step, paired_at_starts}
use Rattle.swc_tree_grammar.specs.Forms.{holds}
use Rattle.swc_tree_grammar.specs.Blocks.{span_of}
use Rattle.swc_tree_grammar.proofs.Induction.{Each, by_children}
use Rattle.swc_tree_grammar.proofs.Wholes.{carried, all_carried}
use Rattle.swc_tree_grammar_laws.specs.Started.{Started, started, started_step, starts_in}

pub both : (a b : Bool) → (a && b) ≡ true → (a ≡ true) × (b ≡ true)
both true b h = (refl, h)
both false b h = absurd (cc)

pub or_right : (a b : Bool) → b ≡ true → (a || b) ≡ true
or_right true b h = refl
or_right false b h = h

abbrev judged : Node → Started
judged = fold-Node Started started_step

all_whole : (ts : List Node) → map (λ e. e.whole) (map judged ts) ≡ ts
all_whole ts = all_carried Started started_step (λ e. e.whole) (λ x. refl) ts

each_holds : (ts : List Node) → list_all (λ e. e.holds) (map judged ts) ≡ list_all started ts
each_holds [] = refl
each_holds (t ∷ ts) = ap (λ b. started t && b) (each_holds ts)

holds_tree : (k : Kind) (ts : List Node) → started (Tree k ts) ≡ (starts_in (Node-F.Tree k (map (λ e. e.whole) (map judged ts))) && list_all (λ e. e.holds) (map judged ts))
holds_tree k ts = search (rules, the_lemmas)

pub started_tree : (k : Kind) (ts : List Node) → started (Tree k ts) ≡ (starts_in (Node-F.Tree k ts) && list_all started ts)
started_tree k ts = holds_tree k ts ∙ rw (all_whole ts, each_holds ts) refl

holds_list : (ts : List Node) → started (Many ts) ≡ (true && list_all (λ e. e.holds) (map judged ts))
holds_list ts = search (rules, the_lemmas)

pub started_list : (ts : List Node) → started (Many ts) ≡ list_all started ts
started_list ts = holds_list ts ∙ each_holds ts

-- the spine of what comes first
abbrev pub spined : Places → Node → Leading
spined p = fold-Node Leading (first_step p)

abbrev pub first_paired : Places → Node → Node
first_paired p t = (spined p t).first_paired

pub spine_whole : (p : Places) (t : Node) → (spined p t).whole ≡ t
spine_whole p t = carried Leading (first_step p) (λ e. e.whole) (λ x. refl) t

spine_all : (p : Places) (ts : List Node) → map (λ e. e.whole) (map (spined p) ts) ≡ ts
spine_all p ts = all_carried Leading (first_step p) (λ e. e.whole) (λ x. refl) ts

first_tree : (p : Places) (k : Kind) (ts : List Node) → first_paired p (Tree k ts) ≡ first_in p (Tree k (map (λ e. e.whole) (map (spined p) ts))) (Node-F.Tree k (map (spined p) ts))
first_tree p k ts = search (rules, the_lemmas)

pub first_of_tree : (p : Places) (k : Kind) (ts : List Node) → first_paired p (Tree k ts) ≡ first_in p (Tree k ts) (Node-F.Tree k (map (spined p) ts))
first_of_tree p k ts = first_tree p k ts ∙ ap (λ us. first_in p (Tree k us) (Node-F.Tree k (map (spined p) ts))) (spine_all p ts)

pub first_empty : (p : Places) → first_paired p (Many []) ≡ pair p (Many [])
first_empty p = search (rules, the_lemmas)

first_items : (p : Places) (t : Node) (ts : List Node) → first_paired p (Many (t ∷ ts)) ≡ Many (first_paired p t ∷ map (λ e. e.whole) (map (spined p) ts))
first_items p t ts = search (rules, the_lemmas)

pub first_of_list : (p : Places) (t : Node) (ts : List Node) → first_paired p (Many (t ∷ ts)) ≡ Many (first_paired p t ∷ ts)
first_of_list p t ts = first_items p t ts ∙ ap (λ us. Many (first_paired p t ∷ us)) (spine_all p ts)

-- nothing that a place asks for comes first then, and the inner starts stay as they are
abbrev Clear : Node → Type 0
Clear u = (start u ≡ Other) × (started u ≡ true) × (is_let_in (out-Node u) ≡ false)

abbrev begun_of : Node → Begun
begun_of = fold-Node Begun start_step

begun_whole : (t : Node) → (begun_of t).whole ≡ t
begun_whole t = carried Begun start_step (λ e. e.whole) (λ x. refl) t

begun_all : (ts : List Node) → map (λ e. e.whole) (map begun_of ts) ≡ ts
begun_all ts = all_carried Begun start_step (λ e. e.whole) (λ x. refl) ts

start_in_tree : (k : Kind) (ts : List Node) → start (Tree k ts) ≡ start_in (Tree k (map (λ e. e.whole) (map begun_of ts))) (Node-F.Tree k (map begun_of ts))
start_in_tree k ts = search (rules, the_lemmas)

pub start_tree : (k : Kind) (ts : List Node) → start (Tree k ts) ≡ start_in (Tree k ts) (Node-F.Tree k (map begun_of ts))
start_tree k ts = start_in_tree k ts ∙ ap (λ us. start_in (Tree k us) (Node-F.Tree k (map begun_of ts))) (begun_all ts)

no_let : (k : Kind) (ts : List Node) → is_let_in (out-Node (Tree k ts)) ≡ false
no_let k ts = search (rules, the_lemmas)

no_let_list : (ts : List Node) → is_let_in (out-Node (Many ts)) ≡ false
no_let_list ts = search (rules, the_lemmas)

bracket_is : (s o m : Node) → is_let_bracket (Tree kind.MemberExpr (s ∷ o ∷ m ∷ [])) ≡ (is_let_in (out-Node o) && is_computed_in (out-Node m))
bracket_is s o m = search (rules, the_lemmas)

other_if : (b : Bool) → (if b then Other else Other) ≡ Other
other_if true = refl
other_if false = refl

pub start_list : (t : Node) (ts : List Node) → start (Many (t ∷ ts)) ≡ start t
start_list t ts = search (rules, the_lemmas)

clear_pair : (p : Places) (e : Node) → started e ≡ true → Clear (pair p e)
clear_pair p e h = (search (rules, the_lemmas), (let s : (r : Node) → started (pair p e) ≡ (true && (true && (started e && true))) = λ r. search (rules, the_lemmas) in s e ∙ rw h refl), no_let kind.ParenExpr (Span (p (span_of e)) ∷ e ∷ []))

abbrev IsClear : Places → Node → Type 0
IsClear p t = started t ≡ true → Clear (first_paired p t)

two : (a b : Node) → list_all started (a ∷ b ∷ []) ≡ true → (started a ≡ true) × (started b ≡ true)
two a b h = let q = both (started a) (started b && true) h in (q.0, (both (started b) true q.1).0)

three : (a b c : Node) → list_all started (a ∷ b ∷ c ∷ []) ≡ true → (started a ≡ true) × (started b ≡ true) × (started c ≡ true)
three a b c h = let q = both (started a) (started b && (started c && true)) h in let r = two b c q.1 in (q.0, r.0, r.1)

four : (a b c d : Node) → list_all started (a ∷ b ∷ c ∷ d ∷ []) ≡ true → (started a ≡ true) × (started b ≡ true) × (started c ≡ true) × (started d ≡ true)
four a b c d h = let q = both (started a) (started b && (started c && (started d && true))) h in let r = three b c d q.1 in (q.0, r.0, r.1, r.2)

clear_if : (b : Bool) (p : Places) (t u : Node) → Clear u → Clear (pair p t) → Clear (if b then pair p t else u)
clear_if true p t u h g = g
clear_if false p t u h g = h

row : (p : Places) (k : Kind) (ts : List Node) → Each (IsClear p) ts → started (Tree k ts) ≡ true → Clear (first_in p (Tree k ts) (Node-F.Tree k (map (spined p) ts)))
row p kind.SeqExpr (s ∷ e ∷ []) l h =
    let q = two s e (sym (started_tree kind.SeqExpr (s ∷ e ∷ [])) ∙ h) in let c = l.1.0 q.1 in
    rw (spine_whole p s) (start_tree kind.SeqExpr (s ∷ first_paired p e ∷ []) ∙ rw c.0 refl, simp (started_tree, q.0, c.1), no_let kind.SeqExpr (s ∷ first_paired p e ∷ []))
row p kind.AssignExpr (s ∷ o ∷ f ∷ r ∷ []) l h =
    let q = four s o f r (sym (started_tree kind.AssignExpr (s ∷ o ∷ f ∷ r ∷ [])) ∙ h) in let c = l.1.1.0 q.2 in
    rw (spine_whole p s, spine_whole p o, spine_whole p f, spine_whole p r)
    (clear_if (has_kind is_object_pattern f) p (Tree kind.AssignExpr (s ∷ o ∷ f ∷ r ∷ [])) (Tree kind.AssignExpr (s ∷ o ∷ first_paired p f ∷ r ∷ []))
    (start_tree kind.AssignExpr (s ∷ o ∷ first_paired p f ∷ r ∷ []) ∙ rw c.0 refl, simp (started_tree, q.0, q.1, c.1, q.3), no_let kind.AssignExpr (s ∷ o ∷ first_paired p f ∷ r ∷ [])) (clear_pair p (Tree kind.AssignExpr (s ∷ o ∷ f ∷ r ∷ [])) h))
row p kind.CondExpr (s ∷ o ∷ f ∷ r ∷ []) l h =
    let q = four s o f r (sym (started_tree kind.CondExpr (s ∷ o ∷ f ∷ r ∷ [])) ∙ h) in let c = l.1.0 q.1 in
    rw (spine_whole p s, spine_whole p f, spine_whole p r) (start_tree kind.CondExpr (s ∷ first_paired p o ∷ f ∷ r ∷ []) ∙ rw c.0 refl, simp (started_tree, q.0, q.2, c.1, q.3), no_let kind.CondExpr (s ∷ first_paired p o ∷ f ∷ r ∷ []))
row p kind.BinExpr (s ∷ o ∷ f ∷ r ∷ []) l h =
    let q = four s o f r (sym (started_tree kind.BinExpr (s ∷ o ∷ f ∷ r ∷ [])) ∙ h) in let c = l.1.1.0 q.2 in
    rw (spine_whole p s, spine_whole p o, spine_whole p r) (start_tree kind.BinExpr (s ∷ o ∷ first_paired p f ∷ r ∷ []) ∙ rw c.0 refl, simp (started_tree, q.0, q.1, c.1, q.3), no_let kind.BinExpr (s ∷ o ∷ first_paired p f ∷ r ∷ []))
row p kind.UpdateExpr (s ∷ o ∷ f ∷ r ∷ []) l h =
    let q = four s o f r (sym (started_tree kind.UpdateExpr (s ∷ o ∷ f ∷ r ∷ [])) ∙ h) in let c = l.1.1.1.0 q.3 in
    rw (spine_whole p s, spine_whole p o, spine_whole p f) (start_tree kind.UpdateExpr (s ∷ o ∷ f ∷ first_paired p r ∷ []) ∙ rw (begun_whole f, c.0) (other_if (holds f)), simp (started_tree, q.0, q.1, c.1, q.2), no_let kind.UpdateExpr (s ∷ o ∷ f ∷ first_paired p r ∷ []))
row p kind.MemberExpr (s ∷ o ∷ m ∷ []) l h =
    let q = three s o m (sym (started_tree kind.MemberExpr (s ∷ o ∷ m ∷ [])) ∙ h) in let c = l.1.0 q.1 in
    rw (spine_whole p s, spine_whole p m)
    (clear_if (is_let_bracket (Tree kind.MemberExpr (s ∷ o ∷ m ∷ []))) p (Tree kind.MemberExpr (s ∷ o ∷ m ∷ [])) (Tree kind.MemberExpr (s ∷ first_paired p o ∷ m ∷ []))
    (start_tree kind.MemberExpr (s ∷ first_paired p o ∷ m ∷ []) ∙ rw (bracket_is s (first_paired p o) m, c.2, c.0) refl, simp (started_tree, q.0, c.1, q.2), no_let kind.MemberExpr (s ∷ first_paired p o ∷ m ∷ [])) (clear_pair p (Tree kind.MemberExpr (s ∷ o ∷ m ∷ [])) h))
row p kind.TaggedTpl (s ∷ o ∷ m ∷ []) l h =
    let q = three s o m (sym (started_tree kind.TaggedTpl (s ∷ o ∷ m ∷ [])) ∙ h) in let c = l.1.0 q.1 in
    rw (spine_whole p s, spine_whole p m) (start_tree kind.TaggedTpl (s ∷ first_paired p o ∷ m ∷ []) ∙ rw c.0 refl, simp (started_tree, q.0, c.1, q.2), no_let kind.TaggedTpl (s ∷ first_paired p o ∷ m ∷ []))
row p kind.CallExpr (s ∷ o ∷ m ∷ []) l h =
    let q = three s o m (sym (started_tree kind.CallExpr (s ∷ o ∷ m ∷ [])) ∙ h) in let c = l.1.0 q.1 in
    rw (spine_whole p s, spine_whole p m) (start_tree kind.CallExpr (s ∷ first_paired p o ∷ m ∷ []) ∙ rw c.0 refl, simp (started_tree, q.0, c.1, q.2), no_let kind.CallExpr (s ∷ first_paired p o ∷ m ∷ []))
row p kind.OptChainExpr (s ∷ o ∷ m ∷ []) l h =
    let q = three s o m (sym (started_tree kind.OptChainExpr (s ∷ o ∷ m ∷ [])) ∙ h) in let c = l.1.1.0 q.2 in
    rw (spine_whole p s, spine_whole p o)
    (clear_if (has_kind is_paren (first_paired p m)) p (Tree kind.OptChainExpr (s ∷ o ∷ m ∷ [])) (Tree kind.OptChainExpr (s ∷ o ∷ first_paired p m ∷ []))
    (start_tree kind.OptChainExpr (s ∷ o ∷ first_paired p m ∷ []) ∙ rw (begun_whole o, begun_whole (first_paired p m), c.0) (other_if (holds o && is_let_bracket (first_paired p m))), simp (started_tree, q.0, c.1, q.1), no_let kind.OptChainExpr (s ∷ o ∷ first_paired p m ∷ [])) (clear_pair p (Tree kind.OptChainExpr (s ∷ o ∷ m ∷ [])) h))
row p kind.OptCall (s ∷ o ∷ m ∷ []) l h =
    let q = three s o m (sym (started_tree kind.OptCall (s ∷ o ∷ m ∷ [])) ∙ h) in let c = l.1.0 q.1 in
    rw (spine_whole p s, spine_whole p m) (start_tree kind.OptCall (s ∷ first_paired p o ∷ m ∷ []) ∙ rw c.0 refl, simp (started_tree, q.0, c.1, q.2), no_let kind.OptCall (s ∷ first_paired p o ∷ m ∷ []))
row p k ts l h = clear_pair p (Tree k ts) h

clear_leaf : (p : Places) (t : Node) → first_paired p t ≡ pair p t → IsClear p t
clear_leaf p t e h = rw e (clear_pair p t h)

clear_list : (p : Places) (ts : List Node) → Each (IsClear p) ts → IsClear p (Many ts)
clear_list p [] l h = rw (first_empty p) (clear_pair p (Many []) h)
clear_list p (t ∷ ts) l h =
    let q = both (started t) (list_all started ts) (sym (started_list (t ∷ ts)) ∙ h) in let c = l.0 q.0 in
    rw (first_of_list p t ts) (start_list (first_paired p t) ts ∙ c.0, started_list (first_paired p t ∷ ts) ∙ rw (c.1, q.1) refl, no_let_list (first_paired p t ∷ ts))

pub clear : (p : Places) (t : Node) → IsClear p t
clear p t = by_children (IsClear p)
    (clear_leaf p Absent (search (rules, the_lemmas)), λ x. clear_leaf p (Flag x) (search (rules, the_lemmas)), λ w. clear_leaf p (Word w) (search (rules, the_lemmas)), λ x. clear_leaf p (Text x) (search (rules, the_lemmas)), λ s. clear_leaf p (Span s) (search (rules, the_lemmas)), λ k i. clear_leaf p (Identifier k i) (search (rules, the_lemmas)))
    (λ ts l. clear_list p ts l)
    (λ k ts l h. rw (first_of_tree p k ts) (row p k ts l h)) t

-- the places that ask
begun_if : (b : Bool) (p : Places) (may : Start → Bool) (e : Node) → may Other ≡ true → may (start e) ≡ b → started e ≡ true
    → (may (start (if b then e else first_paired p e)) ≡ true) × (started (if b then e else first_paired p e) ≡ true)
begun_if true p may e o h g = (h, g)
begun_if false p may e o h g = let c = clear p e g in (rw c.0 o, c.1)

begun_is : (p : Places) (may : Start → Bool) (e : Node) → may Other ≡ true → started e ≡ true → (may (start (begun p may e)) ≡ true) × (started (begun p may e) ≡ true)
begun_is p may e o h = begun_if (may (start e)) p may e o refl h

body_if : (b : Bool) (p : Places) (e : Node) → has_kind is_block e ≡ b → started e ≡ true
    → ((has_kind is_block (if b then e else begun p may_begin_body e) || may_begin_body (start (if b then e else begun p may_begin_body e))) ≡ true) × (started (if b then e else begun p may_begin_body e) ≡ true)
body_if true p e h g = (rw h refl, g)
body_if false p e h g = let c = begun_is p may_begin_body e refl g in (or_right (has_kind is_block (begun p may_begin_body e)) (may_begin_body (start (begun p may_begin_body e))) c.0, c.1)

step : (p : Places) (k : Kind) (ts : List Node) → list_all started ts ≡ true → started (begin_step p (Node-F.Tree k ts)) ≡ true
step p kind.ExprStmt (s ∷ e ∷ []) h = let q = two s e h in let c = begun_is p may_begin_statement e refl q.1 in simp (started_tree, q.0, c.0, c.1)
step p kind.ExportDefaultExpr (s ∷ e ∷ []) h = let q = two s e h in let c = begun_is p may_begin_export e refl q.1 in simp (started_tree, q.0, c.0, c.1)
step p kind.ArrowExpr (s ∷ a ∷ e ∷ f ∷ []) h = let q = four s a e f h in let c = body_if (has_kind is_block e) p e refl q.2 in simp (started_tree, q.0, q.1, q.3, c.0, c.1)
step p k ts h = rw (rolls-Tree k ts, started_tree k ts) h

pub starts_of_tree : (p : Places) (k : Kind) (ts : List Node) → paired_at_starts p (Tree k ts) ≡ begin_step p (Node-F.Tree k (map (paired_at_starts p) ts))
starts_of_tree p k ts = search (rules, the_lemmas)

pub starts_of_list : (p : Places) (ts : List Node) → paired_at_starts p (Many ts) ≡ Many (map (paired_at_starts p) ts)
starts_of_list p ts = search (rules, the_lemmas)

abbrev IsStarted : Places → Node → Type 0
IsStarted p t = started (paired_at_starts p t) ≡ true

each_started : (p : Places) (ts : List Node) → Each (IsStarted p) ts → list_all started (map (paired_at_starts p) ts) ≡ true
each_started p [] l = refl
each_started p (t ∷ ts) l = rw l.0 (each_started p ts l.1)

pub at_starts : (p : Places) (t : Node) → IsStarted p t
at_starts p t = by_children (IsStarted p)
    (search (rules, the_lemmas), λ x. search (rules, the_lemmas), λ w. search (rules, the_lemmas), λ x. search (rules, the_lemmas), λ s. search (rules, the_lemmas), λ k i. search (rules, the_lemmas))
    (λ ts l. rw (starts_of_list p ts, started_list (map (paired_at_starts p) ts)) (each_started p ts l))
    (λ k ts l. rw (starts_of_tree p k ts) (step p k (map (paired_at_starts p) ts) (each_started p ts l))) t
