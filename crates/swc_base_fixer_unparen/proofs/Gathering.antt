-- What a sequence is whose items were gathered, and what each form of an item adds.
use Rattle.std.proofs.Common.{◌≡◌, true, false, List, [], ◌∷◌, ◌++◌, Some, get_or, length, map, slice_set, refl, sym, ap, ◌∙◌, subst, arith}
use Rattle.std.specs.List.{filter, flat_map, slice_get}
use Rattle.swc_tree_node.specs.declared.kind.Kind.{Kind}
use Rattle.swc_tree_node.specs.declared.kind.Kind.TheVariants as kind
use Rattle.swc_tree_node.specs.declared.node.Node.{Node, Absent, List as Many, Tree}
use Rattle.swc_tree_node.specs.declared.node.Node.TheVariants.{rolls-Tree}
use Rattle.swc_tree_node.specs.declared.node.Node.TheOpen.{Node-F}
use Rattle.swc_tree_grammar.specs.Shapes.{items_of}
use Rattle.swc_tree_grammar.specs.Stripped.{is_member, parts, sequence, settled, strip_step, stripped, target}
use Rattle.swc_tree_grammar.proofs.Items.{items_of_list}
use Rattle.swc_tree_grammar.proofs.Stripped.{stripped_of_list, stripped_of_tree}
use Rattle.swc_base_fixer_unparen.specs.Gathered.{Gathered, is_pair, is_sequence, parts_left}
use Rattle.swc_base_fixer_unparen.proofs.Alike.{gathered_as, one_gathered, settled_alike, settled_gathered}
use Rattle.swc_base_fixer_unparen.proofs.Flat.{parts_of_sequence, parts_of_tree}

-- said once for the kinds that a match leaves
other_kind : {X : Type 0} → false ≡ true → X
other_kind h = absurd (cc)

-- ---- sequences and pairs, by kind and fields

pub sequence_kind : (k : Kind) (ts : List Node) → is_sequence k ts ≡ true → k ≡ kind.SeqExpr
sequence_kind kind.SeqExpr ts h = refl
sequence_kind k ts h = other_kind h

-- ---- what an item adds

pair_adds : (k : Kind) (ts : List Node) (e : Node) → is_pair k ts ≡ true → slice_get ts 1 ≡ Some e → parts_left e ≡ parts_left (Tree k ts)
pair_adds kind.ParenExpr (a ∷ b ∷ []) e h g = let same : b ≡ e = cc in ap parts (ap stripped (sym same) ∙ sym (stripped_of_tree kind.ParenExpr (a ∷ b ∷ [])))
pair_adds k ts e h g = other_kind h

sequence_adds : (k : Kind) (ts : List Node) (e : Node) → is_sequence k ts ≡ true → slice_get ts 1 ≡ Some e → settled (flat_map parts (items_of (stripped e))) ≡ parts_left (Tree k ts)
sequence_adds kind.SeqExpr (a ∷ b ∷ []) e h g =
    let same : b ≡ e = cc in ap (λ x. settled (flat_map parts (items_of (stripped x)))) (sym same) ∙ sym (parts_of_sequence a b)
sequence_adds k ts e h g = other_kind h

alone : (k : Kind) (ts : List Node) → is_pair k ts ≡ false → is_sequence k ts ≡ false → parts (strip_step (Node-F.Tree k (map stripped ts))) ≡ strip_step (Node-F.Tree k (map stripped ts)) ∷ []
alone kind.ParenExpr (a ∷ b ∷ []) h g = absurd (cc)
alone kind.SeqExpr (a ∷ b ∷ []) h g = absurd (cc)
alone kind.AssignExpr (span ∷ op ∷ a ∷ b ∷ []) h g = parts_of_tree kind.AssignExpr (stripped span ∷ stripped op ∷ target (stripped a) ∷ stripped b ∷ [])
alone kind.Class (span ∷ parent ∷ body ∷ []) h g = parts_of_tree kind.Class (stripped span ∷ stripped parent ∷ Many (filter is_member (items_of (stripped body))) ∷ [])
alone k ts h g = subst (λ t. parts t ≡ t ∷ []) (sym (rolls-Tree k (map stripped ts))) (parts_of_tree k (map stripped ts))

pub pair_gathered : (t : Node) (k : Kind) (ts us : List Node) (e : Node) (before now : List Node) → t ≡ Tree k ts → us ≡ ts → is_pair k us ≡ true → slice_get ts 1 ≡ Some e → Gathered before (parts_left e) now
    → Gathered before (parts_left t) now
pair_gathered t k ts us e before now is same h g all = gathered_as before now (parts_left e) (parts_left t) (pair_adds k ts e (ap (is_pair k) (sym same) ∙ h) g ∙ ap parts_left (sym is)) all

pub sequence_gathered : (t : Node) (k : Kind) (ts us : List Node) (e : Node) (before now : List Node) → t ≡ Tree k ts → us ≡ ts → is_sequence k us ≡ true → slice_get ts 1 ≡ Some e
    → Gathered before (flat_map parts (items_of (stripped e))) now → Gathered before (parts_left t) now
sequence_gathered t k ts us e before now is same h g all =
    gathered_as before now (settled (flat_map parts (items_of (stripped e)))) (parts_left t) (sequence_adds k ts e (ap (is_sequence k) (sym same) ∙ h) g ∙ ap parts_left (sym is))
    (settled_gathered before now (flat_map parts (items_of (stripped e))) all)

pub tree_gathered : (t : Node) (k : Kind) (ts us ws left before now : List Node) (new : Node) → t ≡ Tree k ts → us ≡ ts → is_pair k us ≡ false → ws ≡ ts → is_sequence k ws ≡ false → left ≡ map stripped ts
    → new ≡ strip_step (Node-F.Tree k left) → now ≡ before ++ new ∷ [] → Gathered before (parts_left t) now
tree_gathered t k ts us ws left before now new is u p w s l n added =
    gathered_as before now (new ∷ []) (parts_left t)
    (ap (λ t. t ∷ []) (n ∙ ap (λ x. strip_step (Node-F.Tree k x)) l) ∙ sym (ap parts_left is ∙ ap parts (stripped_of_tree k ts) ∙ alone k ts (ap (is_pair k) (sym u) ∙ p) (ap (is_sequence k) (sym w) ∙ s)))
    (one_gathered before now new added)

-- ---- all items

parts_of_each : (ts : List Node) → flat_map parts_left ts ≡ flat_map parts (map stripped ts)
parts_of_each [] = refl
parts_of_each (t ∷ ts) = ap (λ l. parts_left t ++ l) (parts_of_each ts)

pub items_gathered : (t : Node) (ts before now : List Node) → t ≡ Many ts → Gathered before (flat_map parts_left ts) now → Gathered before (flat_map parts (items_of (stripped t))) now
items_gathered t ts before now is all =
    gathered_as before now (flat_map parts_left ts) (flat_map parts (items_of (stripped t)))
    (parts_of_each ts ∙ ap (flat_map parts) (sym (items_of_list (map stripped ts)) ∙ ap items_of (sym (stripped_of_list ts) ∙ ap stripped (sym is)))) all

-- the outermost sequence
outermost : (fields : List Node) (exprs span : Node) (items : List Node) → length fields ≡ 2 → slice_get fields 1 ≡ Some exprs → slice_get fields 0 ≡ Some span
    → Gathered [] (flat_map parts (items_of (stripped exprs))) items → sequence (stripped span) (settled items) ≡ stripped (Tree kind.SeqExpr fields)
outermost (a ∷ b ∷ []) exprs span items h g f all =
    let same : b ≡ exprs = cc in
    let first : a ≡ span = cc in
    ap (sequence (stripped span)) (ap settled all.1 ∙ settled_alike all.0 (flat_map parts (items_of (stripped exprs))) all.2 ∙ ap (λ x. settled (flat_map parts (items_of (stripped x)))) (sym same))
    ∙ ap (λ x. sequence (stripped x) (settled (flat_map parts (items_of (stripped b))))) (sym first)
    ∙ sym (stripped_of_tree kind.SeqExpr (a ∷ b ∷ []))
outermost [] exprs span items h g f all = absurd (omega arith)
outermost (a ∷ []) exprs span items h g f all = absurd (omega arith)
outermost (a ∷ b ∷ c ∷ ts) exprs span items h g f all = absurd (omega arith)

set_first : (ts : List Node) (new : Node) → length ts ≡ 2 → get_or (slice_set ts 0 new) 0 Absent ≡ new
set_first [] new h = absurd (omega arith)
set_first (t ∷ ts) new h = refl

pub sequence_stripped : (fields out left start items : List Node) (exprs span new tree : Node) → length fields ≡ 2 → slice_get fields 0 ≡ Some span → slice_get fields 1 ≡ Some exprs → length out ≡ 2
    → new ≡ stripped span → left ≡ slice_set out 0 new → start ≡ [] → Gathered start (flat_map parts (items_of (stripped exprs))) items → tree ≡ sequence (get_or left 0 Absent) (settled items)
    → tree ≡ stripped (Tree kind.SeqExpr fields)
sequence_stripped fields out left start items exprs span new tree h f g o n l s all t =
    t ∙ ap (λ x. sequence x (settled items)) (ap (λ x. get_or x 0 Absent) l ∙ set_first out new o ∙ n)
    ∙ outermost fields exprs span items h g f (subst (λ x. Gathered x (flat_map parts (items_of (stripped exprs))) items) s all)

pub sequence_in_place : (t new : Node) (k : Kind) (ts us ws : List Node) → t ≡ Tree k ts → us ≡ ts → is_sequence k us ≡ true → ws ≡ ts → new ≡ stripped (Tree kind.SeqExpr ws) → new ≡ stripped t
sequence_in_place t new k ts us ws is u h w n =
    n ∙ ap (λ x. stripped (Tree kind.SeqExpr x)) w ∙ ap (λ j. stripped (Tree j ts)) (sym (sequence_kind k ts (ap (is_sequence k) (sym u) ∙ h))) ∙ ap stripped (sym is)
