-- What a node begins with.
use Rattle.std.proofs.Common.{◌≡◌, ℕ, Bool, true, false, ◌&&◌, List, [], ◌∷◌, Some, None, map, get_or, refl, sym, ap, ◌∙◌, rules}
use Rattle.std.specs.Prelude.{if◌then◌else◌}
use Rattle.swc_tree_node.specs.declared.kind.Kind.{Kind}
use Rattle.swc_tree_node.specs.declared.kind.Kind.TheVariants as kind
use Rattle.swc_tree_node.specs.declared.node.Node.{Node, Tree, fold-Node, the_lemmas}
use Rattle.swc_tree_node.specs.declared.node.Node.TheOpen.{Node-F}
use Rattle.swc_tree_grammar.specs.Starts.{Begun, Start, is_let_bracket, start, start_in, start_step}
use Rattle.swc_tree_grammar.specs.Starts.Start.{Other}
use Rattle.swc_tree_grammar.specs.Forms.{holds}
use Rattle.swc_tree_grammar.proofs.Fields.{at_fourth, at_second, at_third}
use Rattle.swc_tree_grammar.proofs.Wholes.{carried, all_carried}
use Rattle.text_derives.specs.Begin.{has_let_bracket, own_start, start_field}

abbrev begun_of : Node → Begun
begun_of = fold-Node Begun start_step

begun_whole : (t : Node) → (begun_of t).whole ≡ t
begun_whole t = carried Begun start_step (λ e. e.whole) (λ x. refl) t

begun_all : (ts : List Node) → map (λ e. e.whole) (map begun_of ts) ≡ ts
begun_all ts = all_carried Begun start_step (λ e. e.whole) (λ x. refl) ts

start_in_tree : (k : Kind) (ts : List Node) → start (Tree k ts) ≡ start_in (Tree k (map (λ e. e.whole) (map begun_of ts))) (Node-F.Tree k (map begun_of ts))
start_in_tree k ts = search (rules, the_lemmas)

start_tree : (k : Kind) (ts : List Node) → start (Tree k ts) ≡ start_in (Tree k ts) (Node-F.Tree k (map begun_of ts))
start_tree k ts = start_in_tree k ts ∙ ap (λ us. start_in (Tree k us) (Node-F.Tree k (map begun_of ts))) (begun_all ts)

bracket_is : (s o m : Node) → is_let_bracket (Tree kind.MemberExpr (s ∷ o ∷ m ∷ [])) ≡ has_let_bracket (s ∷ o ∷ m ∷ [])
bracket_is s o m = search (rules, the_lemmas)

-- the field at an index, where a test allows it
if_some : (b : Bool) (n i : ℕ) → (if b then None else Some n) ≡ Some i → (b ≡ false) × (Some n ≡ Some i)
if_some true n i h = absurd (cc)
if_some false n i h = (refl, h)

if_none : (b : Bool) (n : ℕ) → (if b then None else Some n) ≡ None → b ≡ true
if_none true n h = refl
if_none false n h = absurd (cc)

pub start_in_field : (k : Kind) (ts : List Node) (i : ℕ) (e : Node) → start_field k ts ≡ Some i → e ≡ get_or ts i e → start (Tree k ts) ≡ start e
start_in_field kind.FnExpr (a ∷ b ∷ []) i e h g = start_tree kind.FnExpr (a ∷ b ∷ []) ∙ ap start (at_second a b [] i e h g)
start_in_field kind.SeqExpr (a ∷ b ∷ []) i e h g = start_tree kind.SeqExpr (a ∷ b ∷ []) ∙ ap start (at_second a b [] i e h g)
start_in_field kind.AssignExpr (a ∷ b ∷ c ∷ d ∷ []) i e h g = start_tree kind.AssignExpr (a ∷ b ∷ c ∷ d ∷ []) ∙ ap start (at_third a b c (d ∷ []) i e h g)
start_in_field kind.CondExpr (a ∷ b ∷ c ∷ d ∷ []) i e h g = start_tree kind.CondExpr (a ∷ b ∷ c ∷ d ∷ []) ∙ ap start (at_second a b (c ∷ d ∷ []) i e h g)
start_in_field kind.BinExpr (a ∷ b ∷ c ∷ d ∷ []) i e h g = start_tree kind.BinExpr (a ∷ b ∷ c ∷ d ∷ []) ∙ ap start (at_third a b c (d ∷ []) i e h g)
start_in_field kind.UpdateExpr (a ∷ b ∷ c ∷ d ∷ []) i e h g =
    let q = if_some (holds c) 3 i h in
    start_tree kind.UpdateExpr (a ∷ b ∷ c ∷ d ∷ []) ∙ rw (begun_whole c, q.0) (ap start (at_fourth a b c d [] i e q.1 g))
start_in_field kind.MemberExpr (a ∷ b ∷ c ∷ []) i e h g =
    let q = if_some (has_let_bracket (a ∷ b ∷ c ∷ [])) 1 i h in
    start_tree kind.MemberExpr (a ∷ b ∷ c ∷ []) ∙ rw (bracket_is a b c, q.0) (ap start (at_second a b (c ∷ []) i e q.1 g))
start_in_field kind.CallExpr (a ∷ b ∷ c ∷ []) i e h g = start_tree kind.CallExpr (a ∷ b ∷ c ∷ []) ∙ ap start (at_second a b (c ∷ []) i e h g)
start_in_field kind.TaggedTpl (a ∷ b ∷ c ∷ []) i e h g = start_tree kind.TaggedTpl (a ∷ b ∷ c ∷ []) ∙ ap start (at_second a b (c ∷ []) i e h g)
start_in_field kind.OptCall (a ∷ b ∷ c ∷ []) i e h g = start_tree kind.OptCall (a ∷ b ∷ c ∷ []) ∙ ap start (at_second a b (c ∷ []) i e h g)
start_in_field kind.OptChainExpr (a ∷ b ∷ c ∷ []) i e h g =
    let q = if_some (holds b && is_let_bracket c) 2 i h in
    start_tree kind.OptChainExpr (a ∷ b ∷ c ∷ []) ∙ rw (begun_whole b, begun_whole c, q.0) (ap start (at_third a b c [] i e q.1 g))
start_in_field k ts i e h g = absurd (cc)

pub no_start_field : (k : Kind) (ts : List Node) → start_field k ts ≡ None → start (Tree k ts) ≡ own_start k ts
no_start_field kind.FnExpr (a ∷ b ∷ []) h = absurd (cc)
no_start_field kind.SeqExpr (a ∷ b ∷ []) h = absurd (cc)
no_start_field kind.AssignExpr (a ∷ b ∷ c ∷ d ∷ []) h = absurd (cc)
no_start_field kind.CondExpr (a ∷ b ∷ c ∷ d ∷ []) h = absurd (cc)
no_start_field kind.BinExpr (a ∷ b ∷ c ∷ d ∷ []) h = absurd (cc)
no_start_field kind.CallExpr (a ∷ b ∷ c ∷ []) h = absurd (cc)
no_start_field kind.TaggedTpl (a ∷ b ∷ c ∷ []) h = absurd (cc)
no_start_field kind.OptCall (a ∷ b ∷ c ∷ []) h = absurd (cc)
no_start_field kind.UpdateExpr (a ∷ b ∷ c ∷ d ∷ []) h = start_tree kind.UpdateExpr (a ∷ b ∷ c ∷ d ∷ []) ∙ rw (begun_whole c, if_none (holds c) 3 h) refl
no_start_field kind.MemberExpr (a ∷ b ∷ c ∷ []) h = start_tree kind.MemberExpr (a ∷ b ∷ c ∷ []) ∙ rw (bracket_is a b c, if_none (has_let_bracket (a ∷ b ∷ c ∷ [])) 1 h) refl
no_start_field kind.OptChainExpr (a ∷ b ∷ c ∷ []) h = start_tree kind.OptChainExpr (a ∷ b ∷ c ∷ []) ∙ rw (begun_whole b, begun_whole c, if_none (holds b && is_let_bracket c) 2 h) refl
no_start_field kind.Function (a ∷ b ∷ c ∷ d ∷ e ∷ []) h = start_tree kind.Function (a ∷ b ∷ c ∷ d ∷ e ∷ []) ∙ rw (begun_whole e) refl
no_start_field k ts h = start_tree k ts

pub start_by_none : (t : Node) (k : Kind) (ts us : List Node) (s : Start) → t ≡ Tree k ts → us ≡ ts → None ≡ start_field k us → s ≡ own_start k us → s ≡ start t
start_by_none t k ts us s is same none own = own ∙ sym (no_start_field k us (sym none)) ∙ ap (λ l. start (Tree k l)) same ∙ ap start (sym is)
