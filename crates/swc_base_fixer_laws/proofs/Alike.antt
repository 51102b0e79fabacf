-- What stripping makes of trees that are the same but for the kinds of the names `async` is the same but for these.
use Rattle.std.proofs.Common.{◌≡◌, Bool, true, false, not, List, [], ◌∷◌, ◌++◌, refl, sym, ap, ◌∙◌, subst, rules}
use Rattle.std.specs.Prelude.{IsTrue, take, if◌then◌else◌}
use Rattle.std.specs.List.{flat_map, filter, list_all}
use Rattle.swc_tree_marks.specs.declared.ident.Ident.{Ident}
use Rattle.swc_tree_node.specs.declared.kind.Kind.{Kind}
use Rattle.swc_tree_node.specs.declared.kind.Kind.TheVariants as kind
use Rattle.swc_tree_node.specs.declared.node.Node.{Node, List as Many, Identifier, Tree, roll-Node, the_lemmas}
use Rattle.swc_tree_node.specs.declared.node.Node.TheVariants.{rolls-Tree}
use Rattle.swc_tree_node.specs.declared.node.Node.TheOpen.{Node-F}
use Rattle.swc_tree_grammar.specs.Shapes.{items_of}
use Rattle.swc_tree_grammar.specs.Grammar.{is_async_name}
use Rattle.swc_tree_grammar.specs.Stripped.{strip_step, parts, parts_in, effects, is_void, is_idle, is_idle_kind, busy, front, end, settled, sequence, target, target_in, is_member, is_empty_in}
use Rattle.swc_tree_grammar.proofs.Stripped.{effects_of_list, effects_of_tree, effects_of_sequence, effects_of_void, effects_of_other, effects_of_identifier}
use Rattle.swc_base_fixer_laws.specs.Alike.{Alike, AllAlike}
use Rattle.swc_base_fixer_laws.specs.Alike.Alike.{same, after, name, list, tree}
use Rattle.swc_base_fixer_laws.specs.Alike.AllAlike.{none, more}

-- lists
pub all_alike : (ts : List Node) → AllAlike ts ts
all_alike [] = none
all_alike (t ∷ ts) = more (same t) (all_alike ts)

pub all_then : {ts us vs : List Node} → AllAlike ts us → AllAlike us vs → AllAlike ts vs
all_then none none = none
all_then (more c x) (more d y) = more (after c d) (all_then x y)

append : {ts us vs ws : List Node} → AllAlike ts us → AllAlike vs ws → AllAlike (ts ++ vs) (us ++ ws)
append none y = y
append (more c x) y = more c (append x y)

-- the items of a list
no_items : (k : Kind) (ts : List Node) → items_of (Tree k ts) ≡ []
no_items k ts = search (rules, the_lemmas)

name_items : (k : Kind) (i : Ident) → items_of (Identifier k i) ≡ []
name_items k i = search (rules, the_lemmas)

list_items : (ts : List Node) → items_of (Many ts) ≡ ts
list_items ts = search (rules, the_lemmas)

pub items_alike : {t u : Node} → Alike t u → AllAlike (items_of t) (items_of u)
items_alike (same t) = all_alike (items_of t)
items_alike (after c d) = all_then (items_alike c) (items_alike d)
items_alike (name k l i called) = rw (name_items k i, name_items l i) none
items_alike (list ts us d) = rw (list_items ts, list_items us) d
items_alike (tree k ts us d) = rw (no_items k ts, no_items k us) none

-- words
word_row : (k : Kind) (ts : List Node) → is_void (Tree k ts) ≡ false
word_row k ts = search (rules, the_lemmas)

name_void : (k : Kind) (i : Ident) → is_void (Identifier k i) ≡ false
name_void k i = search (rules, the_lemmas)

list_void : (ts : List Node) → is_void (Many ts) ≡ false
list_void ts = search (rules, the_lemmas)

void_same : {t u : Node} → Alike t u → is_void u ≡ is_void t
void_same (same t) = refl
void_same (after c d) = void_same d ∙ void_same c
void_same (name k l i called) = name_void l i ∙ sym (name_void k i)
void_same (list ts us d) = list_void us ∙ sym (list_void ts)
void_same (tree k ts us d) = word_row k us ∙ sym (word_row k ts)

-- idle expressions, and members that are none
idle_tree : (k : Kind) (ts : List Node) → is_idle (Tree k ts) ≡ is_idle_kind k
idle_tree k ts = search (rules, the_lemmas)

idle_name : (k : Kind) (i : Ident) → is_idle (Identifier k i) ≡ false
idle_name k i = search (rules, the_lemmas)

idle_list : (ts : List Node) → is_idle (Many ts) ≡ false
idle_list ts = search (rules, the_lemmas)

idle_same : {t u : Node} → Alike t u → is_idle u ≡ is_idle t
idle_same (same t) = refl
idle_same (after c d) = idle_same d ∙ idle_same c
idle_same (name k l i called) = idle_name l i ∙ sym (idle_name k i)
idle_same (list ts us d) = idle_list us ∙ sym (idle_list ts)
idle_same (tree k ts us d) = idle_tree k us ∙ sym (idle_tree k ts)

member_row : (k : Kind) (ts us : List Node) → is_empty_in (Node-F.Tree k us) ≡ is_empty_in (Node-F.Tree k ts)
member_row kind.EmptyStmt ts us = refl
member_row k ts us = refl

member_tree : (k : Kind) (ts : List Node) → is_member (Tree k ts) ≡ not (is_empty_in (Node-F.Tree k ts))
member_tree k ts = search (rules, the_lemmas)

member_name : (k : Kind) (i : Ident) → is_member (Identifier k i) ≡ true
member_name k i = search (rules, the_lemmas)

member_list : (ts : List Node) → is_member (Many ts) ≡ true
member_list ts = search (rules, the_lemmas)

member_same : {t u : Node} → Alike t u → is_member u ≡ is_member t
member_same (same t) = refl
member_same (after c d) = member_same d ∙ member_same c
member_same (name k l i called) = member_name l i ∙ sym (member_name k i)
member_same (list ts us d) = member_list us ∙ sym (member_list ts)
member_same (tree k ts us d) = member_tree k us ∙ ap not (member_row k ts us) ∙ sym (member_tree k ts)

filter_if : (b c : Bool) {t u : Node} {ts us : List Node} → c ≡ b → Alike t u → AllAlike ts us → AllAlike (if b then t ∷ ts else ts) (if c then u ∷ us else us)
filter_if true true e c d = more c d
filter_if false false e c d = d
filter_if true false e c d = absurd (cc)
filter_if false true e c d = absurd (cc)

members_alike : {ts us : List Node} → AllAlike ts us → AllAlike (filter is_member ts) (filter is_member us)
members_alike none = none
members_alike (more {t = t} {u = u} c d) = filter_if (is_member t) (is_member u) (member_same c) c (members_alike d)

busy_alike : {ts us : List Node} → AllAlike ts us → AllAlike (filter (λ e. not (is_idle e)) ts) (filter (λ e. not (is_idle e)) us)
busy_alike none = none
busy_alike (more {t = t} {u = u} c d) = filter_if (not (is_idle t)) (not (is_idle u)) (ap not (idle_same c)) c (busy_alike d)

all_idle : {ts us : List Node} → AllAlike ts us → list_all is_idle us ≡ list_all is_idle ts
all_idle none = refl
all_idle (more c d) = rw (idle_same c, all_idle d) refl

take_alike : {ts us : List Node} → AllAlike ts us → AllAlike (take 1 ts) (take 1 us)
take_alike none = none
take_alike (more c d) = more c none

choose : (b c : Bool) {ts us vs ws : List Node} → c ≡ b → AllAlike ts us → AllAlike vs ws → AllAlike (if b then ts else vs) (if c then us else ws)
choose true true e x y = x
choose false false e x y = y
choose true false e x y = absurd (cc)
choose false true e x y = absurd (cc)

busy_are : {ts us : List Node} → AllAlike ts us → AllAlike (busy ts) (busy us)
busy_are {ts = ts} {us = us} d = choose (list_all is_idle ts) (list_all is_idle us) (all_idle d) (take_alike d) (busy_alike d)

-- the parts of a sequence
front_alike : {ts us : List Node} → AllAlike ts us → AllAlike (front ts) (front us)
front_alike none = none
front_alike (more c none) = none
front_alike (more c (more d x)) = more c (front_alike (more d x))

end_alike : {ts us : List Node} → AllAlike ts us → AllAlike (end ts) (end us)
end_alike none = none
end_alike (more c none) = more c none
end_alike (more c (more d x)) = end_alike (more d x)

parts_of_tree : (k : Kind) (ts : List Node) → parts (Tree k ts) ≡ parts_in (Tree k ts) (Node-F.Tree k ts)
parts_of_tree k ts = search (rules, the_lemmas)

parts_of_name : (k : Kind) (i : Ident) → parts (Identifier k i) ≡ Identifier k i ∷ []
parts_of_name k i = search (rules, the_lemmas)

parts_of_list : (ts : List Node) → parts (Many ts) ≡ Many ts ∷ []
parts_of_list ts = search (rules, the_lemmas)

parts_row : (k : Kind) {ts us : List Node} → AllAlike ts us → AllAlike (parts_in (Tree k ts) (Node-F.Tree k ts)) (parts_in (Tree k us) (Node-F.Tree k us))
parts_row kind.SeqExpr (more a (more b none)) = items_alike b
parts_row k {ts = ts} {us = us} d = more (tree k ts us d) none

parts_alike : {t u : Node} → Alike t u → AllAlike (parts t) (parts u)
parts_alike (same t) = all_alike (parts t)
parts_alike (after c d) = all_then (parts_alike c) (parts_alike d)
parts_alike (name k l i called) = rw (parts_of_name k i, parts_of_name l i) (more (name k l i called) none)
parts_alike (list ts us d) = rw (parts_of_list ts, parts_of_list us) (more (list ts us d) none)
parts_alike (tree k ts us d) = rw (parts_of_tree k ts, parts_of_tree k us) (parts_row k d)

all_parts : {ts us : List Node} → AllAlike ts us → AllAlike (flat_map parts ts) (flat_map parts us)
all_parts none = none
all_parts (more c d) = append (parts_alike c) (all_parts d)

-- what is left of a dropped expression

unary_if : (b c : Bool) (s o a s' o' a' : Node) → is_void o ≡ b → is_void o' ≡ c → c ≡ b → AllAlike (s ∷ o ∷ a ∷ []) (s' ∷ o' ∷ a' ∷ []) → AllAlike (effects a) (effects a')
    → AllAlike (effects (Tree kind.UnaryExpr (s ∷ o ∷ a ∷ []))) (effects (Tree kind.UnaryExpr (s' ∷ o' ∷ a' ∷ [])))
unary_if true true s o a s' o' a' e f g d x = rw (effects_of_void s o a e, effects_of_void s' o' a' f) x
unary_if false false s o a s' o' a' e f g d x = rw (effects_of_other s o a e, effects_of_other s' o' a' f) (more (tree kind.UnaryExpr (s ∷ o ∷ a ∷ []) (s' ∷ o' ∷ a' ∷ []) d) none)
unary_if true false s o a s' o' a' e f g d x = absurd (cc)
unary_if false true s o a s' o' a' e f g d x = absurd (cc)

whole_alike : (k : Kind) {ts us : List Node} → effects (Tree k ts) ≡ Tree k ts ∷ [] → effects (Tree k us) ≡ Tree k us ∷ [] → AllAlike ts us → AllAlike (effects (Tree k ts)) (effects (Tree k us))
whole_alike k {ts = ts} {us = us} e f d = rw (e, f) (more (tree k ts us d) none)

mutual
  effects_alike : {t u : Node} → Alike t u → AllAlike (effects t) (effects u)
  effects_alike (same t) = all_alike (effects t)
  effects_alike (after c d) = all_then (effects_alike c) (effects_alike d)
  effects_alike (name k l i called) = rw (effects_of_identifier k i, effects_of_identifier l i) (more (name k l i called) none)
  effects_alike (list ts us d) = rw (effects_of_list ts, effects_of_list us) (all_effects d)
  effects_alike (tree kind.SeqExpr ts us (more {t = s} {u = s'} a (more {t = e} {u = e'} b none))) = rw (effects_of_sequence s e, effects_of_sequence s' e') (effects_alike b)
  effects_alike (tree kind.UnaryExpr ts us (more {t = s} {u = s'} a (more {t = o} {u = o'} b (more {t = e} {u = e'} c none)))) =
      unary_if (is_void o) (is_void o') s o e s' o' e' refl refl (void_same b) (more a (more b (more c none))) (effects_alike c)
  effects_alike (tree k ts us d) = whole_alike k (effects_of_tree k ts) (effects_of_tree k us) d

  all_effects : {ts us : List Node} → AllAlike ts us → AllAlike (flat_map effects ts) (flat_map effects us)
  all_effects none = none
  all_effects (more c d) = append (effects_alike c) (all_effects d)

settled_alike : {ts us : List Node} → AllAlike ts us → AllAlike (settled ts) (settled us)
settled_alike d = append (busy_are (all_effects (front_alike d))) (end_alike d)

sequence_alike : {s r : Node} {ts us : List Node} → Alike s r → AllAlike ts us → Alike (sequence s ts) (sequence r us)
sequence_alike {s = s} {r = r} c none = tree kind.SeqExpr (s ∷ Many [] ∷ []) (r ∷ Many [] ∷ []) (more c (more (same (Many [])) none))
sequence_alike c (more d none) = d
sequence_alike {s = s} {r = r} c (more {t = t} {u = u} {ts = ts} {us = us} d (more e x)) =
    tree kind.SeqExpr (s ∷ Many (t ∷ ts) ∷ []) (r ∷ Many (u ∷ us) ∷ []) (more c (more (list (t ∷ ts) (u ∷ us) (more d (more e x))) none))

-- targets
target_tree : (k : Kind) (ts : List Node) → target (Tree k ts) ≡ Tree k ts
target_tree k ts = search (rules, the_lemmas)

target_list : (ts : List Node) → target (Many ts) ≡ Many ts
target_list ts = search (rules, the_lemmas)

target_name : (k : Kind) (i : Ident) → target (Identifier k i) ≡ target_in (Identifier k i) (Node-F.Identifier k i)
target_name k i = search (rules, the_lemmas)

-- by one kind at a time: both at once have some 10,000 cases
abbrev target_kind : Kind → Kind
target_kind kind.Ident = kind.BindingIdent
target_kind k = k

target_of : (k : Kind) (i : Ident) → target_in (Identifier k i) (Node-F.Identifier k i) ≡ Identifier (target_kind k) i
target_of kind.Ident i = refl
target_of _ i = refl

target_row : (k l : Kind) (i : Ident) → IsTrue (is_async_name (Identifier kind.Ident i)) → Alike (target_in (Identifier k i) (Node-F.Identifier k i)) (target_in (Identifier l i) (Node-F.Identifier l i))
target_row k l i called =
    subst (λ t. Alike t (target_in (Identifier l i) (Node-F.Identifier l i))) (sym (target_of k i))
    (subst (Alike (Identifier (target_kind k) i)) (sym (target_of l i)) (name (target_kind k) (target_kind l) i called))

target_alike : {t u : Node} → Alike t u → Alike (target t) (target u)
target_alike (same t) = same (target t)
target_alike (after c d) = after (target_alike c) (target_alike d)
target_alike (name k l i called) = rw (target_name k i, target_name l i) (target_row k l i called)
target_alike (list ts us d) = rw (target_list ts, target_list us) (list ts us d)
target_alike (tree k ts us d) = rw (target_tree k ts, target_tree k us) (tree k ts us d)

rolled : (k : Kind) (ts us : List Node) → AllAlike ts us → Alike (roll-Node (Node-F.Tree k ts)) (roll-Node (Node-F.Tree k us))
rolled k ts us d = rw (rolls-Tree k ts, rolls-Tree k us) (tree k ts us d)

pub strip_alike : (k : Kind) {ts us : List Node} → AllAlike ts us → Alike (strip_step (Node-F.Tree k ts)) (strip_step (Node-F.Tree k us))
strip_alike kind.ParenExpr (more a (more b none)) = b
strip_alike kind.SeqExpr (more a (more b none)) = sequence_alike a (settled_alike (all_parts (items_alike b)))
strip_alike kind.AssignExpr (more {t = s} {u = s'} a (more {t = o} {u = o'} b (more {t = l} {u = l'} c (more {t = e} {u = e'} d none)))) =
    tree kind.AssignExpr (s ∷ o ∷ target l ∷ e ∷ []) (s' ∷ o' ∷ target l' ∷ e' ∷ []) (more a (more b (more (target_alike c) (more d none))))
strip_alike kind.Class (more {t = s} {u = s'} a (more {t = o} {u = o'} b (more {t = l} {u = l'} c none))) =
    tree kind.Class (s ∷ o ∷ Many (filter is_member (items_of l)) ∷ []) (s' ∷ o' ∷ Many (filter is_member (items_of l')) ∷ [])
    (more a (more b (more (list (filter is_member (items_of l)) (filter is_member (items_of l')) (members_alike (items_alike c))) none)))
strip_alike k {ts = ts} {us = us} d = rolled k ts us d
