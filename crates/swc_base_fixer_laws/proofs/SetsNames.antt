-- What the reader's table names may get a pair.
use Rattle.std.proofs.Common.{◌≡◌, Bool, true, false, ◌&&◌, ◌||◌, IsTrue, List, [], ◌∷◌, refl, sym, ◌∙◌, rules, true≢false}
use Rattle.std.specs.Prelude.{Option}
use Rattle.swc_tree_node.specs.declared.kind.Kind.{Kind}
use Rattle.swc_tree_node.specs.declared.kind.Kind.TheVariants as kind
use Rattle.swc_tree_node.specs.declared.kind.Word.{Word as Word'}
use Rattle.swc_tree_node.specs.declared.node.Node.{Node, Absent, Flag, Word, Text, Span, List as Many, Identifier, Tree, out-Node, the_lemmas}
use Rattle.swc_tree_node.specs.declared.node.Node.TheOpen.{Node-F}
use Rattle.swc_tree_grammar.specs.Kinds.{has_kind, is_object, is_class, is_function, is_arrow, is_yield, is_await, is_literal, is_destructuring, is_object_pattern}
use Rattle.swc_tree_grammar.specs.Levels.{is_absent, word_of}
use Rattle.swc_tree_grammar.specs.Due.{Places, odd_items}
use Rattle.swc_tree_grammar.specs.Readers.{named_in, is_odd_item, is_odd_callee, is_odd_object, is_odd_left, odd_unary, unary_word_in, is_equality, is_instance, assigns_to, assigns_in}
use Rattle.swc_tree_grammar.proofs.Induction.{by_children}
use Rattle.swc_tree_grammar_laws.proofs.Levelled.{both}
use Rattle.swc_base_fixer_laws.specs.Sets.{AllSet, pairable, can_pair}
use Rattle.swc_base_fixer_laws.specs.Sets.Sets.{same}
use Rattle.swc_base_fixer_laws.specs.Sets.AllSet.{none, more}
use Rattle.swc_base_fixer_laws.proofs.Up.{kind_of_tree}
use Rattle.swc_base_fixer_laws.proofs.Kept.{off}
use Rattle.swc_base_fixer_laws.proofs.ElseKept.{pairable_tree}
use Rattle.swc_base_fixer_laws.proofs.SetsLevels.{AllName, nameless, pair_set}
use Rattle.swc_tree_node.specs.declared.kind.Class.TheVariants as class
use Rattle.swc_tree_node.specs.declared.slot.Content.TheVariants as content
use Rattle.swc_tree_node.specs.declared.slot.Slot.{Slot}
use Rattle.swc_tree_node.specs.declared.slot.Slot.TheVariants as slot
use Rattle.swc_tree_node.specs.Table.{slots_of}

-- by the kind
no_kind : (q : Kind → Bool) (t : Node) → has_kind q t ≡ false → has_kind q t ≡ true → IsTrue (pairable t)
no_kind q t e h = absurd (cc)

of_kind : (q : Kind → Bool) → ((k : Kind) → q k ≡ true → can_pair k ≡ true) → (t : Node) → has_kind q t ≡ true → IsTrue (pairable t)
of_kind q c t = by_children (λ t. has_kind q t ≡ true → IsTrue (pairable t))
    (no_kind q Absent (search (rules, the_lemmas)), λ x. no_kind q (Flag x) (search (rules, the_lemmas)), λ w. no_kind q (Word w) (search (rules, the_lemmas)), λ x. no_kind q (Text x) (search (rules, the_lemmas)), λ s. no_kind q (Span s) (search (rules, the_lemmas)), λ k i. no_kind q (Identifier k i) (search (rules, the_lemmas)))
    (λ ts l. no_kind q (Many ts) (search (rules, the_lemmas)))
    (λ k ts l h. pairable_tree k ts ∙ c k (sym (kind_of_tree q k ts) ∙ h)) t

odd_object : (k : Kind) → is_odd_object k ≡ true → can_pair k ≡ true
odd_object kind.FnExpr h = refl
odd_object kind.ClassExpr h = refl
odd_object k h = absurd (true≢false (sym h))

function_kind : (k : Kind) → is_function k ≡ true → can_pair k ≡ true
function_kind kind.FnExpr h = refl
function_kind k h = absurd (true≢false (sym h))

odd_callee : (k : Kind) → is_odd_callee k ≡ true → can_pair k ≡ true
odd_callee kind.Bool h = refl
odd_callee kind.Null h = refl
odd_callee kind.BigInt h = refl
odd_callee kind.Regex h = refl
odd_callee kind.ClassExpr h = refl
odd_callee kind.ObjectLit h = refl
odd_callee k h = absurd (true≢false (sym h))

literal_kind : (k : Kind) → is_literal k ≡ true → can_pair k ≡ true
literal_kind kind.Str h = refl
literal_kind kind.Bool h = refl
literal_kind kind.Null h = refl
literal_kind kind.Number h = refl
literal_kind kind.BigInt h = refl
literal_kind kind.Regex h = refl
literal_kind k h = absurd (true≢false (sym h))

object_kind : (k : Kind) → is_object k ≡ true → can_pair k ≡ true
object_kind kind.ObjectLit h = refl
object_kind k h = absurd (true≢false (sym h))

class_kind : (k : Kind) → is_class k ≡ true → can_pair k ≡ true
class_kind kind.ClassExpr h = refl
class_kind k h = absurd (true≢false (sym h))

yield_kind : (k : Kind) → is_yield k ≡ true → can_pair k ≡ true
yield_kind kind.YieldExpr h = refl
yield_kind k h = absurd (true≢false (sym h))

arrow_kind : (k : Kind) → is_arrow k ≡ true → can_pair k ≡ true
arrow_kind kind.ArrowExpr h = refl
arrow_kind k h = absurd (true≢false (sym h))

await_kind : (k : Kind) → is_await k ≡ true → can_pair k ≡ true
await_kind kind.AwaitExpr h = refl
await_kind k h = absurd (true≢false (sym h))

-- assignments to patterns
assigns_row : (q : Kind → Bool) (k : Kind) (ts : List Node) → assigns_in q (Node-F.Tree k ts) ≡ true → can_pair k ≡ true
assigns_row q kind.AssignExpr ts h = refl
assigns_row q k ts h = absurd (true≢false (sym h))

no_assigning : (q : Kind → Bool) (t : Node) → assigns_to q t ≡ false → assigns_to q t ≡ true → IsTrue (pairable t)
no_assigning q t e h = absurd (cc)

assigning : (q : Kind → Bool) (t : Node) → assigns_to q t ≡ true → IsTrue (pairable t)
assigning q t = by_children (λ t. assigns_to q t ≡ true → IsTrue (pairable t))
    (no_assigning q Absent (search (rules, the_lemmas)), λ x. no_assigning q (Flag x) (search (rules, the_lemmas)), λ w. no_assigning q (Word w) (search (rules, the_lemmas)), λ x. no_assigning q (Text x) (search (rules, the_lemmas)), λ s. no_assigning q (Span s) (search (rules, the_lemmas)), λ k i. no_assigning q (Identifier k i) (search (rules, the_lemmas)))
    (λ ts l. no_assigning q (Many ts) (search (rules, the_lemmas)))
    (λ k ts l h. (let e : assigns_to q (Tree k ts) ≡ assigns_in q (Node-F.Tree k ts) = search (rules, the_lemmas) in pairable_tree k ts ∙ assigns_row q k ts (sym e ∙ h))) t

-- `delete` and `void` on the left of an operator
unary_row : (op : Option Word') (k : Kind) (ts : List Node) → odd_unary op (unary_word_in (Node-F.Tree k ts)) ≡ true → can_pair k ≡ true
unary_row op kind.UnaryExpr ts h = refl
unary_row op k ts h = absurd (true≢false (sym h))

no_dropping : (op : Option Word') (t : Node) → odd_unary op (unary_word_in (out-Node t)) ≡ false → odd_unary op (unary_word_in (out-Node t)) ≡ true → IsTrue (pairable t)
no_dropping op t e h = absurd (cc)

dropping : (op : Option Word') (t : Node) → odd_unary op (unary_word_in (out-Node t)) ≡ true → IsTrue (pairable t)
dropping op t = by_children (λ t. odd_unary op (unary_word_in (out-Node t)) ≡ true → IsTrue (pairable t))
    (no_dropping op Absent (search (rules, the_lemmas)), λ x. no_dropping op (Flag x) (search (rules, the_lemmas)), λ w. no_dropping op (Word w) (search (rules, the_lemmas)), λ x. no_dropping op (Text x) (search (rules, the_lemmas)), λ s. no_dropping op (Span s) (search (rules, the_lemmas)), λ k i. no_dropping op (Identifier k i) (search (rules, the_lemmas)))
    (λ ts l. no_dropping op (Many ts) (search (rules, the_lemmas)))
    (λ k ts l h. (let e : odd_unary op (unary_word_in (out-Node (Tree k ts))) ≡ odd_unary op (unary_word_in (Node-F.Tree k ts)) = search (rules, the_lemmas) in pairable_tree k ts ∙ unary_row op k ts (sym e ∙ h))) t

and_right : (a b : Bool) → (a && b) ≡ true → b ≡ true
and_right a b h = (both a b h).1

odd_if : (x y z : Bool) {A : Type 0} → (x ≡ true → A) → (z ≡ true → A) → (x || (y && z)) ≡ true → A
odd_if true y z f g h = f refl
odd_if false y z f g h = g (and_right y z h)

odd_left : (op : Option Word') (e : Node) → is_odd_left op e ≡ true → IsTrue (pairable e)
odd_left op e h = odd_if (odd_unary op (unary_word_in (out-Node e))) (is_instance op || is_equality op) (has_kind is_object e) (dropping op e) (of_kind is_object object_kind e) h

-- the fields of each kind
pub names : (k : Kind) (ts : List Node) → AllName (slots_of k) (named_in (Node-F.Tree k ts)) ts
names kind.CallExpr (s ∷ e ∷ a ∷ []) = (λ h. off h, (λ h. (refl, of_kind is_odd_callee odd_callee e h), (λ h. off h, tt)))
names kind.OptCall (s ∷ e ∷ a ∷ []) = (λ h. off h, (λ h. (refl, of_kind is_odd_callee odd_callee e h), (λ h. off h, tt)))
names kind.MemberExpr (s ∷ e ∷ m ∷ []) = (λ h. off h, (λ h. (refl, of_kind is_odd_object odd_object e h), (λ h. off h, tt)))
names kind.TaggedTpl (s ∷ e ∷ m ∷ []) = (λ h. off h, (λ h. (refl, of_kind is_function function_kind e h), (λ h. off h, tt)))
names kind.NewExpr (s ∷ e ∷ a ∷ []) = (λ h. off h, (λ h. (refl, of_kind is_literal literal_kind e h), (λ h. off h, tt)))
names kind.BinExpr (s ∷ o ∷ l ∷ r ∷ []) = (λ h. off h, (λ h. off h, (λ h. (refl, odd_left (word_of o) l h), (λ h. off h, tt))))
names kind.ExprOrSpread (s ∷ e ∷ []) = (λ h. off h, (λ h. (refl, of_kind is_yield yield_kind e (and_right (is_absent s) (has_kind is_yield e) h)), tt))
names kind.ArrowExpr (s ∷ a ∷ e ∷ f ∷ []) = (λ h. off h, (λ h. off h, (λ h. (refl, assigning is_destructuring e h), (λ h. off h, tt))))
names kind.ExportDefaultExpr (s ∷ e ∷ []) = (λ h. off h, (λ h. (refl, of_kind is_arrow arrow_kind e h), tt))
names kind.ForOfStmt (s ∷ w ∷ l ∷ r ∷ e ∷ []) = (λ h. off h, (λ h. off h, (λ h. off h, (λ h. (refl, of_kind is_await await_kind r h), (λ h. off h, tt)))))
names k ts = nameless (slots_of k) ts

-- the items of a sequence that is a statement
item_ways : (a b c : Bool) {A : Type 0} → (a ≡ true → A) → (b ≡ true → A) → (c ≡ true → A) → (a || (b || c)) ≡ true → A
item_ways true b c f g i h = f refl
item_ways false true c f g i h = g refl
item_ways false false c f g i h = i h

odd_item : (t : Node) → is_odd_item t ≡ true → IsTrue (pairable t)
odd_item t h = item_ways (has_kind is_object t) (has_kind is_class t) (assigns_to is_object_pattern t) (of_kind is_object object_kind t) (of_kind is_class class_kind t) (assigning is_object_pattern t) h

abbrev an_expression : Slot
an_expression = slot.One (content.Node class.Expr)

pub odd_set : (p : Places) (ts : List Node) → AllSet an_expression ts (odd_items p ts)
odd_set p [] = none
odd_set p (t ∷ []) = more (same t) none
odd_set p (t ∷ u ∷ ts) = more (pair_set (is_odd_item t) p an_expression t (λ h. (refl, odd_item t h))) (odd_set p (u ∷ ts))
