-- A node with a field changed.
use Rattle.std.proofs.Common.{◌≡◌, ℕ, List, [], ◌∷◌, ◌++◌, Option, Some, None, length, take, slice_set, Bool, true, false, not, get_or, ◌≢◌, ◌∙◌, refl, sym, ap, arith}
use Rattle.std.specs.List.{filter, flat_map, list_all, slice_get}
use Rattle.swc_tree_node.specs.declared.kind.Kind.{Kind}
use Rattle.swc_tree_node.specs.declared.kind.Kind.TheVariants as kind
use Rattle.std.specs.Prelude.{if◌then◌else◌}
use Rattle.swc_tree_grammar.proofs.Stripped.{effects_of_list, effects_of_tree, effects_of_sequence, effects_of_void, effects_of_other}
use Rattle.swc_tree_grammar.specs.Blocks.{takes_else, branch, block_step}
use Rattle.swc_tree_grammar.specs.Targets.{is_simple, is_target}
use Rattle.swc_tree_grammar.proofs.Fields.{at_fourth, at_second, at_third}
use Rattle.swc_tree_grammar.proofs.Walks.{takes_else_of_tree, target_of_tree, target_of_list}
use Rattle.swc_base_fixer_unparen.specs.Fields.{field_left, last_statement, content_field}
use Rattle.swc_tree_node.specs.declared.node.Node.{Node, Absent, List as Many, Tree}
use Rattle.swc_tree_node.specs.declared.node.Node.TheOpen.{Node-F}
use Rattle.swc_tree_grammar.specs.Shapes.{items_of}
use Rattle.swc_tree_grammar.specs.Stripped.{strip_step, target, is_member, is_idle, busy, is_void, effects, front, end, sequence, settled}

-- said once for the kinds that a match leaves: `cc` at each of them is dear
no_field : {X : Type 0} (i : ℕ) → None ≡ Some i → X
no_field i h = absurd (cc)

assigned_at : (fields : List Node) (left : Node) → length fields ≡ 4 → slice_get fields 2 ≡ Some left
    → Tree kind.AssignExpr (slice_set (slice_set fields 2 Absent) 2 (target left)) ≡ strip_step (Node-F.Tree kind.AssignExpr fields)
assigned_at (a ∷ b ∷ c ∷ d ∷ []) left h g = cc
assigned_at [] left h g = absurd (omega arith)
assigned_at (a ∷ []) left h g = absurd (omega arith)
assigned_at (a ∷ b ∷ []) left h g = absurd (omega arith)
assigned_at (a ∷ b ∷ c ∷ []) left h g = absurd (omega arith)
assigned_at (a ∷ b ∷ c ∷ d ∷ e ∷ fs) left h g = absurd (omega arith)

-- an assignment whose target was taken out, and put back as a target
pub assigned : (fields out back : List Node) (left new : Node) → length fields ≡ 4 → slice_get fields 2 ≡ Some left → out ≡ slice_set fields 2 Absent → new ≡ target left → back ≡ slice_set out 2 new
    → Tree kind.AssignExpr back ≡ strip_step (Node-F.Tree kind.AssignExpr fields)
assigned fields out back left new h g o n b = rw (b, n, o) (assigned_at fields left h g)

pub class_of_members : (fields : List Node) (body : Node) → length fields ≡ 3 → slice_get fields 2 ≡ Some body
    → Tree kind.Class (slice_set (slice_set fields 2 Absent) 2 (Many (filter is_member (items_of body)))) ≡ strip_step (Node-F.Tree kind.Class fields)
class_of_members (a ∷ b ∷ c ∷ []) body h g = cc
class_of_members [] left h g = absurd (omega arith)
class_of_members (a ∷ []) left h g = absurd (omega arith)
class_of_members (a ∷ b ∷ []) left h g = absurd (omega arith)
class_of_members (a ∷ b ∷ c ∷ d ∷ fs) left h g = absurd (omega arith)

pub busy_of_idle : (es : List Node) → list_all is_idle es ≡ true → busy es ≡ take 1 es
busy_of_idle es h = rw h refl

pub busy_of_busy : (es : List Node) → list_all is_idle es ≡ false → busy es ≡ filter (λ e. not (is_idle e)) es
busy_of_busy es h = rw h refl

front_of_last : (es : List Node) (last : Node) → front (es ++ last ∷ []) ≡ es
front_of_last [] last = refl
front_of_last (e ∷ []) last = refl
front_of_last (e ∷ d ∷ es) last = ap (λ ts. e ∷ ts) (front_of_last (d ∷ es) last)

end_of_last : (es : List Node) (last : Node) → end (es ++ last ∷ []) ≡ last ∷ []
end_of_last [] last = refl
end_of_last (e ∷ []) last = refl
end_of_last (e ∷ d ∷ es) last = end_of_last (d ∷ es) last

pub settled_of_last : (es : List Node) (last : Node) → settled (es ++ last ∷ []) ≡ busy (flat_map effects es) ++ last ∷ []
settled_of_last es last = rw (front_of_last es last, end_of_last es last) refl

pub settled_by_last : (es before kept left all : List Node) (last : Node) → es ≡ before ++ last ∷ [] → kept ≡ flat_map effects before → left ≡ busy kept → all ≡ left ++ last ∷ [] → all ≡ settled es
settled_by_last es before kept left all last a b c d = rw (d, c, b, a, settled_of_last before last) refl

void_left : (b : Bool) (op : Node) (span arg e : Node) (i : ℕ) → is_void op ≡ b → (if b then Some 2 else None) ≡ Some i → slice_get (span ∷ op ∷ arg ∷ []) i ≡ Some e
    → effects (Tree kind.UnaryExpr (span ∷ op ∷ arg ∷ [])) ≡ effects e
void_left true op span arg e i v h g = let two : 2 ≡ i = cc in let same : arg ≡ e = (let g2 = rw (← two) at g in cc) in rw (← same) (effects_of_void span op arg v)
void_left false op span arg e i v h g = absurd (cc)

pub effects_left : (k : Kind) (ts : List Node) (i : ℕ) (e : Node) → field_left k ts ≡ Some i → slice_get ts i ≡ Some e → effects (Tree k ts) ≡ effects e
effects_left kind.SeqExpr (span ∷ exprs ∷ []) i e h g =
    let one : 1 ≡ i = cc in let same : exprs ≡ e = (let g1 = rw (← one) at g in cc) in rw (← same) (effects_of_sequence span exprs)
effects_left kind.UnaryExpr (span ∷ op ∷ arg ∷ []) i e h g = void_left (is_void op) op span arg e i refl h g
effects_left k ts i e h g = no_field i h

kept : (b : Bool) (op : Node) (span arg : Node) → is_void op ≡ b → if◌then◌else◌ {A = Option ℕ} b (Some 2) None ≡ None → effects (Tree kind.UnaryExpr (span ∷ op ∷ arg ∷ [])) ≡ Tree kind.UnaryExpr (span ∷ op ∷ arg ∷ []) ∷ []
kept true op span arg v h = absurd (cc)
kept false op span arg v h = effects_of_other span op arg v

pub effects_whole : (k : Kind) (ts : List Node) → field_left k ts ≡ None → effects (Tree k ts) ≡ Tree k ts ∷ []
effects_whole kind.SeqExpr (span ∷ exprs ∷ []) h = absurd (cc)
effects_whole kind.UnaryExpr (span ∷ op ∷ arg ∷ []) h = kept (is_void op) op span arg refl h
effects_whole k ts h = effects_of_tree k ts

pub effects_in_field : (t : Node) (k : Kind) (ts us : List Node) (i : ℕ) (e : Node) → t ≡ Tree k ts → us ≡ ts → Some i ≡ field_left k us → slice_get ts i ≡ Some e → effects e ≡ effects t
effects_in_field t k ts us i e is same there here = sym (effects_left k ts i e (ap (field_left k) (sym same) ∙ sym there) here) ∙ ap effects (sym is)

pub effects_itself : (t : Node) (k : Kind) (ts us : List Node) → t ≡ Tree k ts → us ≡ ts → None ≡ field_left k us → Tree k ts ∷ [] ≡ effects t
effects_itself t k ts us is same there = sym (effects_whole k ts (ap (field_left k) (sym same) ∙ sym there)) ∙ ap effects (sym is)

pub effects_of_items : (t : Node) (ts : List Node) → t ≡ Many ts → flat_map effects ts ≡ effects t
effects_of_items t ts is = sym (effects_of_list ts) ∙ ap effects (sym is)

one_item : (span : Node) (items : List Node) (e : Node) → length items ≡ 1 → slice_get items 0 ≡ Some e → e ≡ sequence span items
one_item span (x ∷ []) e h g = cc
one_item span [] e h g = absurd (omega arith)
one_item span (x ∷ y ∷ items) e h g = absurd (omega arith)

more_items : (span : Node) (items : List Node) → length items ≢ 1 → Tree kind.SeqExpr (span ∷ Many items ∷ []) ≡ sequence span items
more_items span [] h = refl
more_items span (x ∷ []) h = absurd (h refl)
more_items span (x ∷ y ∷ items) h = refl

second_put : (fields : List Node) (new : Node) → length fields ≡ 2 → slice_set fields 1 new ≡ get_or fields 0 Absent ∷ new ∷ []
second_put (a ∷ b ∷ []) new h = refl
second_put [] new h = absurd (omega arith)
second_put (a ∷ []) new h = absurd (omega arith)
second_put (a ∷ b ∷ c ∷ ts) new h = absurd (omega arith)

-- a sequence that is left with one item
pub sequence_of_one : (fields es items : List Node) (e : Node) → items ≡ settled es → length items ≡ 1 → slice_get items 0 ≡ Some e → e ≡ sequence (get_or fields 0 Absent) (settled es)
sequence_of_one fields es items e i one there = one_item (get_or fields 0 Absent) items e one there ∙ ap (sequence (get_or fields 0 Absent)) i

-- a sequence that is left with more, or with none
pub sequence_of_more : (fields back es items : List Node) → length fields ≡ 2 → items ≡ settled es → length items ≢ 1 → back ≡ slice_set fields 1 (Many items)
    → Tree kind.SeqExpr back ≡ sequence (get_or fields 0 Absent) (settled es)
sequence_of_more fields back es items h i more put =
    ap (Tree kind.SeqExpr) (put ∙ second_put fields (Many items) h) ∙ more_items (get_or fields 0 Absent) items more ∙ ap (sequence (get_or fields 0 Absent)) i

at_fifth : (a b c d l : Node) (ts : List Node) (i : ℕ) (e : Node) → Some 4 ≡ Some i → e ≡ get_or (a ∷ b ∷ c ∷ d ∷ l ∷ ts) i e → l ≡ e
at_fifth a b c d l ts i e h g = let here : 4 ≡ i = cc in let found = rw (← here) at g in cc

pub else_in_last : (k : Kind) (ts : List Node) (i : ℕ) (e : Node) → last_statement k ts ≡ Some i → e ≡ get_or ts i e → takes_else (Tree k ts) ≡ takes_else e
else_in_last kind.LabeledStmt (a ∷ b ∷ c ∷ []) i e h g = takes_else_of_tree kind.LabeledStmt (a ∷ b ∷ c ∷ []) ∙ ap takes_else (at_third a b c [] i e h g)
else_in_last kind.WhileStmt (a ∷ b ∷ c ∷ []) i e h g = takes_else_of_tree kind.WhileStmt (a ∷ b ∷ c ∷ []) ∙ ap takes_else (at_third a b c [] i e h g)
else_in_last kind.WithStmt (a ∷ b ∷ c ∷ []) i e h g = takes_else_of_tree kind.WithStmt (a ∷ b ∷ c ∷ []) ∙ ap takes_else (at_third a b c [] i e h g)
else_in_last kind.IfStmt (a ∷ b ∷ c ∷ d ∷ []) i e h g = takes_else_of_tree kind.IfStmt (a ∷ b ∷ c ∷ d ∷ []) ∙ ap takes_else (at_fourth a b c d [] i e h g)
else_in_last kind.ForInStmt (a ∷ b ∷ c ∷ d ∷ []) i e h g = takes_else_of_tree kind.ForInStmt (a ∷ b ∷ c ∷ d ∷ []) ∙ ap takes_else (at_fourth a b c d [] i e h g)
else_in_last kind.ForStmt (a ∷ b ∷ c ∷ d ∷ l ∷ []) i e h g = takes_else_of_tree kind.ForStmt (a ∷ b ∷ c ∷ d ∷ l ∷ []) ∙ ap takes_else (at_fifth a b c d l [] i e h g)
else_in_last kind.ForOfStmt (a ∷ b ∷ c ∷ d ∷ l ∷ []) i e h g = takes_else_of_tree kind.ForOfStmt (a ∷ b ∷ c ∷ d ∷ l ∷ []) ∙ ap takes_else (at_fifth a b c d l [] i e h g)
else_in_last k ts i e h g = no_field i h

pub no_else : (k : Kind) (ts : List Node) → last_statement k ts ≡ None → takes_else (Tree k ts) ≡ false
no_else kind.LabeledStmt (a ∷ b ∷ c ∷ []) h = absurd (cc)
no_else kind.WhileStmt (a ∷ b ∷ c ∷ []) h = absurd (cc)
no_else kind.WithStmt (a ∷ b ∷ c ∷ []) h = absurd (cc)
no_else kind.IfStmt (a ∷ b ∷ c ∷ d ∷ []) h = absurd (cc)
no_else kind.ForInStmt (a ∷ b ∷ c ∷ d ∷ []) h = absurd (cc)
no_else kind.ForStmt (a ∷ b ∷ c ∷ d ∷ l ∷ []) h = absurd (cc)
no_else kind.ForOfStmt (a ∷ b ∷ c ∷ d ∷ l ∷ []) h = absurd (cc)
no_else k ts h = takes_else_of_tree k ts

branched_at : (fields : List Node) (cons : Node) → length fields ≡ 4 → slice_get fields 2 ≡ Some cons
    → Tree kind.IfStmt (slice_set (slice_set fields 2 Absent) 2 (branch cons)) ≡ block_step (Node-F.Tree kind.IfStmt fields)
branched_at (a ∷ b ∷ c ∷ d ∷ []) cons h g = cc
branched_at [] cons h g = absurd (omega arith)
branched_at (a ∷ []) cons h g = absurd (omega arith)
branched_at (a ∷ b ∷ []) cons h g = absurd (omega arith)
branched_at (a ∷ b ∷ c ∷ []) cons h g = absurd (omega arith)
branched_at (a ∷ b ∷ c ∷ d ∷ e ∷ fs) cons h g = absurd (omega arith)

-- an `if` whose first branch was taken out, and put back with its block
pub branched : (fields out back : List Node) (cons new : Node) → length fields ≡ 4 → slice_get fields 2 ≡ Some cons → out ≡ slice_set fields 2 Absent → new ≡ branch cons → back ≡ slice_set out 2 new
    → Tree kind.IfStmt back ≡ block_step (Node-F.Tree kind.IfStmt fields)
branched fields out back cons new h g o n b = rw (b, n, o) (branched_at fields cons h g)

pub target_in_field : (k : Kind) (ts : List Node) (i : ℕ) (e : Node) → content_field k ts ≡ Some i → e ≡ get_or ts i e → is_target (Tree k ts) ≡ is_target e
target_in_field kind.ParenExpr (a ∷ b ∷ []) i e h g = target_of_tree kind.ParenExpr (a ∷ b ∷ []) ∙ ap is_target (at_second a b [] i e h g)
target_in_field kind.SeqExpr (a ∷ b ∷ []) i e h g = target_of_tree kind.SeqExpr (a ∷ b ∷ []) ∙ ap is_target (at_second a b [] i e h g)
target_in_field k ts i e h g = no_field i h

pub target_by_kind : (k : Kind) (ts : List Node) → content_field k ts ≡ None → is_target (Tree k ts) ≡ is_simple k
target_by_kind kind.ParenExpr (a ∷ b ∷ []) h = absurd (cc)
target_by_kind kind.SeqExpr (a ∷ b ∷ []) h = absurd (cc)
target_by_kind k ts h = target_of_tree k ts

pub only_target : (ts : List Node) (e : Node) → length ts ≡ 1 → e ≡ get_or ts 0 e → is_target (Many ts) ≡ is_target e
only_target [] e h g = absurd (omega arith)
only_target (t ∷ []) e h g = target_of_list (t ∷ []) ∙ ap is_target (cc)
only_target (t ∷ u ∷ ts) e h g = absurd (omega arith)

pub no_target : (ts : List Node) → length ts ≢ 1 → is_target (Many ts) ≡ false
no_target [] h = target_of_list []
no_target (t ∷ []) h = absurd (h refl)
no_target (t ∷ u ∷ ts) h = target_of_list (t ∷ u ∷ ts)
