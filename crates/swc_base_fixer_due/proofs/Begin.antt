-- What a node begins with.
use Rattle.std.proofs.Common.{◌≡◌, ℕ, zero, suc, ◌<◌, Bool, true, false, not, ◌&&◌, List, [], ◌∷◌, Option, Some, None, length, map, slice_set, get_or, ◌≢◌, refl, sym, ap, ◌∙◌, arith, rules}
use Rattle.std.specs.Prelude.{◌↔◌, if◌then◌else◌, is_some, IfSome, IsTrue}
use Rattle.std.specs.List.{slice_get}
use Rattle.swc_tree_node.specs.declared.kind.Kind.{Kind}
use Rattle.swc_tree_node.specs.declared.kind.Kind.TheVariants as kind
use Rattle.swc_tree_node.specs.declared.node.Node.{Node, Absent, List as Many, Tree, fold-Node, the_lemmas}
use Rattle.swc_tree_node.specs.declared.node.Node.TheOpen.{Node-F}
use Rattle.swc_tree_grammar.specs.Kinds.{has_kind, is_object_pattern, is_paren}
use Rattle.swc_tree_grammar.specs.Starts.{Begun, Start, is_let_bracket, start, start_in, start_step}
use Rattle.swc_tree_grammar.specs.Starts.Start.{Other}
use Rattle.swc_tree_grammar.specs.Forms.{holds}
use Rattle.swc_tree_grammar.specs.Due.{Places, Leading, first_in, first_step, pair}
use Rattle.swc_tree_grammar.proofs.Fields.{at_fourth, at_second, at_third}
use Rattle.swc_tree_grammar.proofs.Induction.{by_children}
use Rattle.swc_tree_grammar.proofs.Wholes.{carried, all_carried}
use Rattle.swc_base_fixer_due.specs.Begin.{first_paired, has_let_bracket, leading_field, leads, own_start, start_field}
use Rattle.swc_base_fixer_due.proofs.Fields.{second_is, third_is, fourth_is}

abbrev begun_of : Node → Begun
begun_of = fold-Node Begun start_step

begun_whole : (t : Node) → (begun_of t).whole ≡ t
begun_whole t = carried Begun start_step (λ e. e.whole) (λ x. refl) t

begun_all : (ts : List Node) → map (λ e. e.whole) (map begun_of ts) ≡ ts
begun_all ts = all_carried Begun start_step (λ e. e.whole) (λ x. refl) ts

start_in_tree : (k : Kind) (ts : List Node) → start (Tree k ts) ≡ start_in (Tree k (map (λ e. e.whole) (map begun_of ts))) (Node-F.Tree k (map begun_of ts))
start_in_tree k ts = search (rules, the_lemmas)

start_tree : (k : Kind) (ts : List Node) → start (Tree k ts) ≡ start_in (Tree k ts) (Node-F.Tree k (map begun_of ts))
start_tree k ts = start_in_tree k ts ∙ ap (λ us. start_in (Tree k us) (Node-F.Tree k (map begun_of ts))) (begun_all ts)

start_empty : start (Many []) ≡ Other
start_empty = search (rules, the_lemmas)

start_items : (t : Node) (ts : List Node) → start (Many (t ∷ ts)) ≡ start t
start_items t ts = search (rules, the_lemmas)

bracket_is : (s o m : Node) → is_let_bracket (Tree kind.MemberExpr (s ∷ o ∷ m ∷ [])) ≡ has_let_bracket (s ∷ o ∷ m ∷ [])
bracket_is s o m = search (rules, the_lemmas)

-- the field at an index, where a test allows it
if_some : (b : Bool) (n i : ℕ) → (if b then None else Some n) ≡ Some i → (b ≡ false) × (Some n ≡ Some i)
if_some true n i h = absurd (cc)
if_some false n i h = (refl, h)

if_none : (b : Bool) (n : ℕ) → (if b then None else Some n) ≡ None → b ≡ true
if_none true n h = refl
if_none false n h = absurd (cc)

pub start_in_field : (k : Kind) (ts : List Node) (i : ℕ) (e : Node) → start_field k ts ≡ Some i → e ≡ get_or ts i e → start (Tree k ts) ≡ start e
start_in_field kind.FnExpr (a ∷ b ∷ []) i e h g = start_tree kind.FnExpr (a ∷ b ∷ []) ∙ ap start (at_second a b [] i e h g)
start_in_field kind.SeqExpr (a ∷ b ∷ []) i e h g = start_tree kind.SeqExpr (a ∷ b ∷ []) ∙ ap start (at_second a b [] i e h g)
start_in_field kind.AssignExpr (a ∷ b ∷ c ∷ d ∷ []) i e h g = start_tree kind.AssignExpr (a ∷ b ∷ c ∷ d ∷ []) ∙ ap start (at_third a b c (d ∷ []) i e h g)
start_in_field kind.CondExpr (a ∷ b ∷ c ∷ d ∷ []) i e h g = start_tree kind.CondExpr (a ∷ b ∷ c ∷ d ∷ []) ∙ ap start (at_second a b (c ∷ d ∷ []) i e h g)
start_in_field kind.BinExpr (a ∷ b ∷ c ∷ d ∷ []) i e h g = start_tree kind.BinExpr (a ∷ b ∷ c ∷ d ∷ []) ∙ ap start (at_third a b c (d ∷ []) i e h g)
start_in_field kind.UpdateExpr (a ∷ b ∷ c ∷ d ∷ []) i e h g =
    let q = if_some (holds c) 3 i h in
    start_tree kind.UpdateExpr (a ∷ b ∷ c ∷ d ∷ []) ∙ rw (begun_whole c, q.0) (ap start (at_fourth a b c d [] i e q.1 g))
start_in_field kind.MemberExpr (a ∷ b ∷ c ∷ []) i e h g =
    let q = if_some (has_let_bracket (a ∷ b ∷ c ∷ [])) 1 i h in
    start_tree kind.MemberExpr (a ∷ b ∷ c ∷ []) ∙ rw (bracket_is a b c, q.0) (ap start (at_second a b (c ∷ []) i e q.1 g))
start_in_field kind.CallExpr (a ∷ b ∷ c ∷ []) i e h g = start_tree kind.CallExpr (a ∷ b ∷ c ∷ []) ∙ ap start (at_second a b (c ∷ []) i e h g)
start_in_field kind.TaggedTpl (a ∷ b ∷ c ∷ []) i e h g = start_tree kind.TaggedTpl (a ∷ b ∷ c ∷ []) ∙ ap start (at_second a b (c ∷ []) i e h g)
start_in_field kind.OptCall (a ∷ b ∷ c ∷ []) i e h g = start_tree kind.OptCall (a ∷ b ∷ c ∷ []) ∙ ap start (at_second a b (c ∷ []) i e h g)
start_in_field kind.OptChainExpr (a ∷ b ∷ c ∷ []) i e h g =
    let q = if_some (holds b && is_let_bracket c) 2 i h in
    start_tree kind.OptChainExpr (a ∷ b ∷ c ∷ []) ∙ rw (begun_whole b, begun_whole c, q.0) (ap start (at_third a b c [] i e q.1 g))
start_in_field k ts i e h g = absurd (cc)

pub no_start_field : (k : Kind) (ts : List Node) → start_field k ts ≡ None → start (Tree k ts) ≡ own_start k ts
no_start_field kind.FnExpr (a ∷ b ∷ []) h = absurd (cc)
no_start_field kind.SeqExpr (a ∷ b ∷ []) h = absurd (cc)
no_start_field kind.AssignExpr (a ∷ b ∷ c ∷ d ∷ []) h = absurd (cc)
no_start_field kind.CondExpr (a ∷ b ∷ c ∷ d ∷ []) h = absurd (cc)
no_start_field kind.BinExpr (a ∷ b ∷ c ∷ d ∷ []) h = absurd (cc)
no_start_field kind.CallExpr (a ∷ b ∷ c ∷ []) h = absurd (cc)
no_start_field kind.TaggedTpl (a ∷ b ∷ c ∷ []) h = absurd (cc)
no_start_field kind.OptCall (a ∷ b ∷ c ∷ []) h = absurd (cc)
no_start_field kind.UpdateExpr (a ∷ b ∷ c ∷ d ∷ []) h = start_tree kind.UpdateExpr (a ∷ b ∷ c ∷ d ∷ []) ∙ rw (begun_whole c, if_none (holds c) 3 h) refl
no_start_field kind.MemberExpr (a ∷ b ∷ c ∷ []) h = start_tree kind.MemberExpr (a ∷ b ∷ c ∷ []) ∙ rw (bracket_is a b c, if_none (has_let_bracket (a ∷ b ∷ c ∷ [])) 1 h) refl
no_start_field kind.OptChainExpr (a ∷ b ∷ c ∷ []) h = start_tree kind.OptChainExpr (a ∷ b ∷ c ∷ []) ∙ rw (begun_whole b, begun_whole c, if_none (holds b && is_let_bracket c) 2 h) refl
no_start_field kind.Function (a ∷ b ∷ c ∷ d ∷ e ∷ []) h = start_tree kind.Function (a ∷ b ∷ c ∷ d ∷ e ∷ []) ∙ rw (begun_whole e) refl
no_start_field k ts h = start_tree k ts

pub start_by_none : (t : Node) (k : Kind) (ts us : List Node) (s : Start) → t ≡ Tree k ts → us ≡ ts → None ≡ start_field k us → s ≡ own_start k us → s ≡ start t
start_by_none t k ts us s is same none own = own ∙ sym (no_start_field k us (sym none)) ∙ ap (λ l. start (Tree k l)) same ∙ ap start (sym is)

abbrev spined : Places → Node → Leading
spined p = fold-Node Leading (first_step p)

whole : (p : Places) (t : Node) → (spined p t).whole ≡ t
whole p t = carried Leading (first_step p) (λ e. e.whole) (λ x. refl) t

all_whole : (p : Places) (ts : List Node) → map (λ e. e.whole) (map (spined p) ts) ≡ ts
all_whole p ts = all_carried Leading (first_step p) (λ e. e.whole) (λ x. refl) ts

first_tree : (p : Places) (k : Kind) (ts : List Node) → first_paired p (Tree k ts) ≡ first_in p (Tree k (map (λ e. e.whole) (map (spined p) ts))) (Node-F.Tree k (map (spined p) ts))
first_tree p k ts = search (rules, the_lemmas)

first_of_tree : (p : Places) (k : Kind) (ts : List Node) → first_paired p (Tree k ts) ≡ first_in p (Tree k ts) (Node-F.Tree k (map (spined p) ts))
first_of_tree p k ts = first_tree p k ts ∙ ap (λ us. first_in p (Tree k us) (Node-F.Tree k (map (spined p) ts))) (all_whole p ts)

pub first_empty : (p : Places) → first_paired p (Many []) ≡ pair p (Many [])
first_empty p = search (rules, the_lemmas)

first_items : (p : Places) (t : Node) (ts : List Node) → first_paired p (Many (t ∷ ts)) ≡ Many (first_paired p t ∷ map (λ e. e.whole) (map (spined p) ts))
first_items p t ts = search (rules, the_lemmas)

first_of_list : (p : Places) (t : Node) (ts : List Node) → first_paired p (Many (t ∷ ts)) ≡ Many (first_paired p t ∷ ts)
first_of_list p t ts = first_items p t ts ∙ ap (λ us. Many (first_paired p t ∷ us)) (all_whole p ts)

if_leads : (b : Bool) (n i : ℕ) → (if not b then Some n else None) ≡ Some i → (b ≡ false) × (Some n ≡ Some i)
if_leads true n i h = absurd (cc)
if_leads false n i h = (refl, h)

if_stays : (b : Bool) (n : ℕ) → (if not b then Some n else None) ≡ None → b ≡ true
if_stays true n h = refl
if_stays false n h = absurd (cc)

pub leading_at : (p : Places) (k : Kind) (ts : List Node) (i : ℕ) (e : Node) → leading_field p k ts ≡ Some i → slice_get ts i ≡ Some e
    → Tree k (slice_set (slice_set ts i Absent) i (first_paired p e)) ≡ first_paired p (Tree k ts)
leading_at p kind.SeqExpr (a ∷ b ∷ []) i e h g =
    let q = second_is a b [] i e h g in rw (← q.0, ← q.1) (sym (first_of_tree p kind.SeqExpr (a ∷ b ∷ []) ∙ rw (whole p a) refl))
leading_at p kind.AssignExpr (a ∷ b ∷ c ∷ d ∷ []) i e h g =
    let t = if_some (has_kind is_object_pattern c) 2 i h in let q = third_is a b c (d ∷ []) i e t.1 g in
    rw (← q.0, ← q.1) (sym (first_of_tree p kind.AssignExpr (a ∷ b ∷ c ∷ d ∷ []) ∙ rw (whole p a, whole p b, whole p c, whole p d, t.0) refl))
leading_at p kind.CondExpr (a ∷ b ∷ c ∷ d ∷ []) i e h g =
    let q = second_is a b (c ∷ d ∷ []) i e h g in rw (← q.0, ← q.1) (sym (first_of_tree p kind.CondExpr (a ∷ b ∷ c ∷ d ∷ []) ∙ rw (whole p a, whole p c, whole p d) refl))
leading_at p kind.BinExpr (a ∷ b ∷ c ∷ d ∷ []) i e h g =
    let q = third_is a b c (d ∷ []) i e h g in rw (← q.0, ← q.1) (sym (first_of_tree p kind.BinExpr (a ∷ b ∷ c ∷ d ∷ []) ∙ rw (whole p a, whole p b, whole p d) refl))
leading_at p kind.UpdateExpr (a ∷ b ∷ c ∷ d ∷ []) i e h g =
    let q = fourth_is a b c d [] i e h g in rw (← q.0, ← q.1) (sym (first_of_tree p kind.UpdateExpr (a ∷ b ∷ c ∷ d ∷ []) ∙ rw (whole p a, whole p b, whole p c) refl))
leading_at p kind.MemberExpr (a ∷ b ∷ c ∷ []) i e h g =
    let t = if_some (has_let_bracket (a ∷ b ∷ c ∷ [])) 1 i h in let q = second_is a b (c ∷ []) i e t.1 g in
    rw (← q.0, ← q.1) (sym (first_of_tree p kind.MemberExpr (a ∷ b ∷ c ∷ []) ∙ rw (bracket_is a b c, t.0, whole p a, whole p c) refl))
leading_at p kind.CallExpr (a ∷ b ∷ c ∷ []) i e h g =
    let q = second_is a b (c ∷ []) i e h g in rw (← q.0, ← q.1) (sym (first_of_tree p kind.CallExpr (a ∷ b ∷ c ∷ []) ∙ rw (whole p a, whole p c) refl))
leading_at p kind.TaggedTpl (a ∷ b ∷ c ∷ []) i e h g =
    let q = second_is a b (c ∷ []) i e h g in rw (← q.0, ← q.1) (sym (first_of_tree p kind.TaggedTpl (a ∷ b ∷ c ∷ []) ∙ rw (whole p a, whole p c) refl))
leading_at p kind.OptCall (a ∷ b ∷ c ∷ []) i e h g =
    let q = second_is a b (c ∷ []) i e h g in rw (← q.0, ← q.1) (sym (first_of_tree p kind.OptCall (a ∷ b ∷ c ∷ []) ∙ rw (whole p a, whole p c) refl))
leading_at p kind.OptChainExpr (a ∷ b ∷ c ∷ []) i e h g =
    let t = if_leads (has_kind is_paren (first_paired p c)) 2 i h in let q = third_is a b c [] i e t.1 g in
    rw (← q.0, ← q.1) (sym (first_of_tree p kind.OptChainExpr (a ∷ b ∷ c ∷ []) ∙ rw (t.0, whole p a, whole p b) refl))
leading_at p k ts i e h g = absurd (cc)

pub leading_none : (p : Places) (k : Kind) (ts : List Node) → leading_field p k ts ≡ None → pair p (Tree k ts) ≡ first_paired p (Tree k ts)
leading_none p kind.SeqExpr (a ∷ b ∷ []) h = absurd (cc)
leading_none p kind.CondExpr (a ∷ b ∷ c ∷ d ∷ []) h = absurd (cc)
leading_none p kind.BinExpr (a ∷ b ∷ c ∷ d ∷ []) h = absurd (cc)
leading_none p kind.UpdateExpr (a ∷ b ∷ c ∷ d ∷ []) h = absurd (cc)
leading_none p kind.CallExpr (a ∷ b ∷ c ∷ []) h = absurd (cc)
leading_none p kind.TaggedTpl (a ∷ b ∷ c ∷ []) h = absurd (cc)
leading_none p kind.OptCall (a ∷ b ∷ c ∷ []) h = absurd (cc)
leading_none p kind.AssignExpr (a ∷ b ∷ c ∷ d ∷ []) h =
    sym (first_of_tree p kind.AssignExpr (a ∷ b ∷ c ∷ d ∷ []) ∙ rw (whole p c, if_none (has_kind is_object_pattern c) 2 h) refl)
leading_none p kind.MemberExpr (a ∷ b ∷ c ∷ []) h =
    sym (first_of_tree p kind.MemberExpr (a ∷ b ∷ c ∷ []) ∙ rw (bracket_is a b c, if_none (has_let_bracket (a ∷ b ∷ c ∷ [])) 1 h) refl)
leading_none p kind.OptChainExpr (a ∷ b ∷ c ∷ []) h =
    sym (first_of_tree p kind.OptChainExpr (a ∷ b ∷ c ∷ []) ∙ rw (if_stays (has_kind is_paren (first_paired p c)) 2 h) refl)
leading_none p k ts h = sym (first_of_tree p k ts)

get_at : (ts : List Node) (i : ℕ) → i < length ts → slice_get ts i ≡ Some (get_or ts i Absent)
get_at [] i h = absurd (omega arith)
get_at (t ∷ ts) zero h = refl
get_at (t ∷ ts) (suc i) h = get_at ts i (omega arith)

-- no node that begins with one of its fields is a pair
leads_kind : (p : Places) (k : Kind) (ts : List Node) (i : ℕ) → leading_field p k ts ≡ Some i → is_paren k ≡ false
leads_kind p kind.ParenExpr ts i h = absurd (cc)
leads_kind p k ts i h = refl

kind_tree : (q : Kind → Bool) (k : Kind) (ts : List Node) → has_kind q (Tree k ts) ≡ q k
kind_tree q k ts = search (rules, the_lemmas)

leads_some : (p : Places) (k : Kind) (ts : List Node) (i : ℕ) → leading_field p k ts ≡ Some i → i < length ts → leads p (Tree k ts) ≡ true
leads_some p k ts i h l =
    let made = leading_at p k ts i (get_or ts i Absent) h (get_at ts i l) in
    ap (λ t. not (has_kind is_paren t)) (sym made) ∙ ap not (kind_tree is_paren k _ ∙ leads_kind p k ts i h)

leads_none : (p : Places) (k : Kind) (ts : List Node) → leading_field p k ts ≡ None → leads p (Tree k ts) ≡ false
leads_none p k ts h = ap (λ t. not (has_kind is_paren t)) (sym (leading_none p k ts h)) ∙ ap not (kind_tree is_paren kind.ParenExpr _)

leads_by : (p : Places) (k : Kind) (ts : List Node) (o : Option ℕ) → leading_field p k ts ≡ o → IfSome o (λ i. i < length ts) → leads p (Tree k ts) ≡ is_some o
leads_by p k ts None h l = leads_none p k ts h
leads_by p k ts (Some i) h l = leads_some p k ts i h l

pub leads_tree : (p : Places) (t : Node) (k : Kind) (ts us : List Node) (o : Option ℕ) → t ≡ Tree k ts → us ≡ ts → o ≡ leading_field p k us → IfSome o (λ i. i < length us) → is_some o ≡ leads p t
leads_tree p t k ts us o is same field within =
    sym (leads_by p k us o (sym field) within) ∙ ap (λ l. leads p (Tree k l)) same ∙ ap (leads p) (sym is)

leads_empty : (p : Places) → leads p (Many []) ≡ false
leads_empty p = ap (λ t. not (has_kind is_paren t)) (first_empty p) ∙ ap not (kind_tree is_paren kind.ParenExpr _)

leads_first : (p : Places) (t : Node) (ts : List Node) → leads p (Many (t ∷ ts)) ≡ true
leads_first p t ts = ap (λ t. not (has_kind is_paren t)) (first_of_list p t ts) ∙ search (rules, the_lemmas)

leads_items : (p : Places) (ts : List Node) (b : Bool) → (IsTrue b ↔ (ts ≡ [])) → not b ≡ leads p (Many ts)
leads_items p [] true h = sym (leads_empty p)
leads_items p [] false h = absurd (cc (h.1 refl))
leads_items p (t ∷ ts) true h = absurd (cc (h.0 refl))
leads_items p (t ∷ ts) false h = sym (leads_first p t ts)

pub leads_list : (p : Places) (t : Node) (ts : List Node) (b : Bool) → t ≡ Many ts → (IsTrue b ↔ (ts ≡ [])) → not b ≡ leads p t
leads_list p t ts b is h = leads_items p ts b h ∙ ap (leads p) (sym is)

-- what comes first was taken out of a node, and put back with its pair
pub leading : (p : Places) (t : Node) (k : Kind) (ts us out back : List Node) (i : ℕ) (e new : Node) → t ≡ Tree k ts → us ≡ ts → Some i ≡ leading_field p k us → slice_get ts i ≡ Some e
    → out ≡ slice_set ts i Absent → new ≡ first_paired p e → back ≡ slice_set out i new → Tree k back ≡ first_paired p t
leading p t k ts us out back i e new is same there here o n b =
    rw (b, n, o) (leading_at p k ts i e (ap (leading_field p k) (sym same) ∙ sym there) here) ∙ ap (first_paired p) (sym is)

pub leading_by_none : (p : Places) (t : Node) (k : Kind) (ts us : List Node) → t ≡ Tree k ts → us ≡ ts → None ≡ leading_field p k us
    → (u : Node) → u ≡ pair p (Tree k ts) → u ≡ first_paired p t
leading_by_none p t k ts us is same none u h = h ∙ leading_none p k ts (ap (leading_field p k) (sym same) ∙ sym none) ∙ ap (first_paired p) (sym is)

pub leading_other : (p : Places) (t : Node) → ((k : Kind) (ts : List Node) → t ≢ Tree k ts) → ((ts : List Node) → t ≢ Many ts) → pair p t ≡ first_paired p t
leading_other p t = by_children (λ t. ((k : Kind) (ts : List Node) → t ≢ Tree k ts) → ((ts : List Node) → t ≢ Many ts) → pair p t ≡ first_paired p t)
    (λ h g. search (rules, the_lemmas), λ x h g. search (rules, the_lemmas), λ w h g. search (rules, the_lemmas), λ x h g. search (rules, the_lemmas), λ s h g. search (rules, the_lemmas), λ k i h g. search (rules, the_lemmas))
    (λ ts l h g. absurd (g ts refl)) (λ k ts l h g. absurd (h k ts refl)) t

first_is : (ts out back : List Node) (old new : Node) → slice_get ts 0 ≡ Some old → out ≡ slice_set ts 0 Absent → back ≡ slice_set out 0 new → (us : List Node) × (ts ≡ old ∷ us) × (back ≡ new ∷ us)
first_is [] out back old new g o b = absurd (cc)
first_is (t ∷ ts) out back old new g o b = let same : t ≡ old = cc in (ts, ap (λ u. u ∷ ts) same, rw (b, o) refl)

-- the first of a list was taken out, and put back with its pair
pub leading_item : (p : Places) (t : Node) (ts out back : List Node) (old new : Node) → t ≡ Many ts → slice_get ts 0 ≡ Some old → out ≡ slice_set ts 0 Absent → new ≡ first_paired p old → back ≡ slice_set out 0 new
    → Many back ≡ first_paired p t
leading_item p t ts out back old new is g o n b =
    let q = first_is ts out back old new g o b in
    ap Many (q.2 ∙ ap (λ u. u ∷ q.0) n) ∙ sym (first_of_list p old q.0) ∙ ap (λ us. first_paired p (Many us)) (sym q.1) ∙ ap (first_paired p) (sym is)

pub leading_empty : (p : Places) (t : Node) (ts : List Node) → t ≡ Many ts → ts ≡ [] → (u : Node) → u ≡ pair p (Many ts) → u ≡ first_paired p t
leading_empty p t ts is none u h = h ∙ ap (λ us. pair p (Many us)) none ∙ sym (first_empty p) ∙ ap (λ us. first_paired p (Many us)) (sym none) ∙ ap (first_paired p) (sym is)
