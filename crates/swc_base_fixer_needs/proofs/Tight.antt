-- What binds at least as tightly as an assignment, and is none to a pattern, begins with no assignment to an object
-- pattern.
use Rattle.std.proofs.Common.{◌≡◌, ℕ, Bool, true, false, not, ◌&&◌, ◌||◌, Option, Some, None, List, [], ◌∷◌, map, refl, sym, ap, ◌∙◌, rules, arith, ◌≤◌, true≢false}
use Rattle.std.specs.Prelude.{nat_le, if◌then◌else◌}
use Rattle.std.specs.List.{list_all}
use Rattle.std.proofs.lemmas.Bool.{leb-true, le-leb}
use Rattle.swc_tree_node.specs.declared.kind.Kind.{Kind}
use Rattle.swc_tree_node.specs.declared.kind.Kind.TheVariants as kind
use Rattle.swc_tree_node.specs.declared.kind.Class.{Class}
use Rattle.swc_tree_node.specs.declared.kind.Class.TheVariants as class
use Rattle.swc_tree_node.specs.declared.kind.Word.{Word as Operator}
use Rattle.swc_tree_node.specs.declared.kind.Word.TheVariants as word
use Rattle.swc_tree_node.specs.declared.node.Node.{Node, Tree, the_lemmas}
use Rattle.swc_tree_node.specs.declared.node.Node.TheOpen.{Node-F}
use Rattle.swc_tree_node.specs.Table.{slots_of}
use Rattle.swc_tree_node.specs.Fits.{Fits, FieldsFit, belongs}
use Rattle.swc_tree_node.proofs.Fit.{fits-List, tree_opens}
use Rattle.swc_tree_grammar.specs.Kinds.{has_kind, is_block, is_opt_chain, is_destructuring, is_object_pattern}
use Rattle.swc_tree_grammar.specs.Levels.{operator_level, level_of_word, level, level_in, word_of, is_absent, is_called}
use Rattle.swc_tree_grammar.specs.Demands.{demands, meets, left_side, at_least, is_nullish, nullish_in, nullish_word}
use Rattle.swc_tree_grammar.specs.Demands.Demand.{Body, Operand, Link}
use Rattle.swc_tree_grammar.specs.Readers.{assigns_in, assigns_to}
use Rattle.swc_tree_grammar.proofs.Induction.{Each, by_children}
use Rattle.swc_tree_grammar.proofs.Places.{one}
use Rattle.swc_tree_grammar_laws.specs.Levelled.{levelled, each_meets}
use Rattle.swc_tree_grammar_laws.proofs.Levelled.{half, levelled_tree}
use Rattle.swc_base_fixer_laws.proofs.Up.{at_least_of_tree, kind_of_tree, nullish_of_tree}
use Rattle.swc_base_fixer_needs.proofs.FirstRows.{led, led_in, led_tree, lead_of, lead_whole}

-- levels
less : (m n l : ℕ) → nat_le m n ≡ true → nat_le n l ≡ true → nat_le m l ≡ true
less m n l e g = let a : m ≤ n = leb-true m n e in let b : n ≤ l = leb-true n l g in le-leb m l (omega arith)

or_if : (a b c : Bool) → (b ≡ true → c ≡ true) → (a || b) ≡ true → (a || c) ≡ true
or_if true b c f h = refl
or_if false b c f h = f h

lower : (m n : ℕ) (t : Node) → nat_le m n ≡ true → at_least n t ≡ true → at_least m t ≡ true
lower m n t e h = or_if (is_absent t) (nat_le n (level t)) (nat_le m (level t)) (less m n (level t) e) h

if_level : (b : Bool) → nat_le 3 (if b then 17 else 18) ≡ true
if_level true = refl
if_level false = refl

-- an assignment has level 2
assigns_row : (k : Kind) (ts : List Node) → nat_le 3 (level_in (Node-F.Tree k ts)) ≡ true → assigns_in is_destructuring (Node-F.Tree k ts) ≡ false
assigns_row kind.AssignExpr ts h = absurd (true≢false (sym h))
assigns_row k ts h = refl

assigns_tree : (k : Kind) (ts : List Node) → assigns_to is_destructuring (Tree k ts) ≡ assigns_in is_destructuring (Node-F.Tree k ts)
assigns_tree k ts = search (rules, the_lemmas)

not_assigned : (t : Node) → at_least 3 t ≡ true → assigns_to is_destructuring t ≡ false
not_assigned t = by_children (λ t. at_least 3 t ≡ true → assigns_to is_destructuring t ≡ false)
    (λ h. search (rules, the_lemmas), λ x h. search (rules, the_lemmas), λ w h. search (rules, the_lemmas), λ x h. search (rules, the_lemmas), λ s h. search (rules, the_lemmas), λ k i h. search (rules, the_lemmas))
    (λ ts l h. search (rules, the_lemmas))
    (λ k ts l h. assigns_tree k ts ∙ assigns_row k ts (sym (at_least_of_tree 3 k ts) ∙ h)) t

-- classes of which no node binds looser than level 3
abbrev Firm : Class → Type 0
Firm c = (belongs kind.SeqExpr c ≡ false) × (belongs kind.AssignExpr c ≡ false) × (belongs kind.ArrowExpr c ≡ false) × (belongs kind.YieldExpr c ≡ false) × (belongs kind.BinExpr c ≡ false)

firm_row : (c : Class) → Firm c → (k : Kind) (ts : List Node) → belongs k c ≡ true → nat_le 3 (level_in (Node-F.Tree k ts)) ≡ true
firm_row c f kind.SeqExpr ts h = absurd (cc (sym f.0 ∙ h))
firm_row c f kind.AssignExpr ts h = absurd (cc (sym f.1 ∙ h))
firm_row c f kind.ArrowExpr ts h = absurd (cc (sym f.2 ∙ h))
firm_row c f kind.YieldExpr ts h = absurd (cc (sym f.3 ∙ h))
firm_row c f kind.BinExpr ts h = absurd (cc (sym f.4 ∙ h))
firm_row c f kind.MemberExpr (s ∷ o ∷ m ∷ []) h = if_level (is_called o)
firm_row c f kind.TaggedTpl (s ∷ o ∷ m ∷ []) h = if_level (is_called o)
firm_row c f kind.NewExpr (s ∷ o ∷ a ∷ []) h = if_level (is_absent a)
firm_row c f k ts h = refl

firm : (c : Class) → Firm c → (t : Node) → Fits t (one c) → at_least 3 t ≡ true
firm c f t = by_children (λ t. Fits t (one c) → at_least 3 t ≡ true)
    (λ h. search (rules, the_lemmas), λ x h. search (rules, the_lemmas), λ w h. search (rules, the_lemmas), λ x h. search (rules, the_lemmas), λ s h. search (rules, the_lemmas), λ k i h. search (rules, the_lemmas))
    (λ ts l h. search (rules, the_lemmas))
    (λ k ts l h. at_least_of_tree 3 k ts ∙ firm_row c f k ts (tree_opens k ts c h).1) t

-- what is asked of the parts that lead
word_level : (w : Operator) → nat_le 2 (operator_level w) ≡ true → nat_le 3 (operator_level w) ≡ true
word_level word.LogicalOr h = h
word_level w h = h

nullish_level : (o : Option Operator) → nullish_word o ≡ true → nat_le 3 (level_of_word o) ≡ true
nullish_level (Some word.NullishCoalescing) h = refl
nullish_level (Some w) h = absurd (cc)
nullish_level None h = absurd (cc)

nullish_row : (k : Kind) (ts : List Node) → nullish_in (Node-F.Tree k ts) ≡ true → nat_le 3 (level_in (Node-F.Tree k ts)) ≡ true
nullish_row kind.BinExpr (s ∷ o ∷ f ∷ r ∷ []) h = nullish_level (word_of o) h
nullish_row kind.BinExpr [] h = refl
nullish_row k ts h = absurd (true≢false (sym h))

nullish_tight : (t : Node) → is_nullish t ≡ true → at_least 3 t ≡ true
nullish_tight t = by_children (λ t. is_nullish t ≡ true → at_least 3 t ≡ true)
    (λ h. search (rules, the_lemmas), λ x h. search (rules, the_lemmas), λ w h. search (rules, the_lemmas), λ x h. search (rules, the_lemmas), λ s h. search (rules, the_lemmas), λ k i h. search (rules, the_lemmas))
    (λ ts l h. search (rules, the_lemmas))
    (λ k ts l h. at_least_of_tree 3 k ts ∙ nullish_row k ts (sym (nullish_of_tree k ts) ∙ h)) t

either : (b c : Bool) (A : Type 0) → (b ≡ true → A) → (c ≡ true → A) → (b || c) ≡ true → A
either true c A f g h = f refl
either false c A f g h = g h

side : (o : Option Operator) (t : Node) → nat_le 2 (level_of_word o) ≡ true → meets (left_side o) t ≡ true → at_least 3 t ≡ true
side (Some word.LogicalOr) t e h = lower 3 4 t refl (half h).1
side (Some word.NullishCoalescing) t e h = either (at_least 6 t) (is_nullish t) (at_least 3 t ≡ true) (lower 3 6 t refl) (nullish_tight t) h
side (Some word.Exp) t e h = lower 3 16 t refl h
side (Some w) t e h = lower 3 (operator_level w) t (word_level w e) h
side None t e h = absurd (cc)

link : (t : Node) → meets Link t ≡ true → at_least 3 t ≡ true
link t h = lower 3 17 t refl (half h).1

operand : (t : Node) → meets Operand t ≡ true → at_least 3 t ≡ true
operand t h = link t (half h).1

fourth : (a b c d e : Bool) → (a && (b && (c && (d && e)))) ≡ true → d ≡ true
fourth true true true true e h = refl
fourth true true true false e h = absurd (cc)
fourth true true false d e h = absurd (cc)
fourth true false c d e h = absurd (cc)
fourth false b c d e h = absurd (cc)

-- by rows
abbrev Tight : Node → Type 0
Tight t = (c : Class) (b : Bool) → Fits t (one c) → levelled t b ≡ true → at_least 2 t ≡ true → assigns_to is_destructuring t ≡ false → led t ≡ false

leads_none : (t : Node) → Tight t → (c : Class) (b : Bool) → Fits t (one c) → levelled t b ≡ true → at_least 3 t ≡ true → led t ≡ false
leads_none t q c b f v h = q c b f v (lower 2 3 t refl h) (not_assigned t h)

object_row : (k : Kind) → is_destructuring k ≡ false → is_object_pattern k ≡ false
object_row kind.ObjectPat h = absurd (cc)
object_row k h = refl

pattern_of : (t : Node) → has_kind is_destructuring t ≡ false → has_kind is_object_pattern t ≡ false
pattern_of t = by_children (λ t. has_kind is_destructuring t ≡ false → has_kind is_object_pattern t ≡ false)
    (λ h. search (rules, the_lemmas), λ x h. search (rules, the_lemmas), λ w h. search (rules, the_lemmas), λ x h. search (rules, the_lemmas), λ s h. search (rules, the_lemmas), λ k i h. search (rules, the_lemmas))
    (λ ts l h. search (rules, the_lemmas))
    (λ k ts l h. kind_of_tree is_object_pattern k ts ∙ object_row k (sym (kind_of_tree is_destructuring k ts) ∙ h)) t

tight_row : (k : Kind) (ts : List Node) (b : Bool) → Each Tight ts → FieldsFit (slots_of k) ts → each_meets (demands b (Node-F.Tree k ts)) ts ≡ true → list_all (λ t. levelled t (is_opt_chain k)) ts ≡ true
    → nat_le 2 (level_in (Node-F.Tree k ts)) ≡ true → assigns_in is_destructuring (Node-F.Tree k ts) ≡ false → led_in (Node-F.Tree k (map lead_of ts)) ≡ false
tight_row kind.SeqExpr ts b l w m v h n = absurd (cc)
tight_row kind.AssignExpr (s ∷ o ∷ f ∷ r ∷ []) b l w m v h n =
    rw (lead_whole f, pattern_of f n) (leads_none f l.1.1.0 class.AssignTarget false w.1.1.0 (half (half (half v).1).1).0 (firm class.AssignTarget (refl, refl, refl, refl, refl) f w.1.1.0))
tight_row kind.CondExpr (s ∷ t ∷ c ∷ e ∷ []) b l w m v h n = leads_none t l.1.0 class.Expr false w.1.0 (half (half v).1).0 (lower 3 4 t refl (half m).0)
tight_row kind.BinExpr (s ∷ o ∷ f ∷ r ∷ []) b l w m v h n = leads_none f l.1.1.0 class.Expr false w.1.1.0 (half (half (half v).1).1).0 (side (word_of o) f h (half m).0)
tight_row kind.UpdateExpr (s ∷ o ∷ f ∷ r ∷ []) b l w m v h n = leads_none r l.1.1.1.0 class.Expr false w.1.1.1.0 (fourth (levelled s false) (levelled o false) (levelled f false) (levelled r false) true v) (lower 3 17 r refl (half m).0)
tight_row kind.MemberExpr (s ∷ o ∷ x ∷ []) true l w m v h n = leads_none o l.1.0 class.Expr false w.1.0 (half (half v).1).0 (link o (half m).0)
tight_row kind.MemberExpr (s ∷ o ∷ x ∷ []) false l w m v h n = leads_none o l.1.0 class.Expr false w.1.0 (half (half v).1).0 (operand o (half m).0)
tight_row kind.TaggedTpl (s ∷ o ∷ x ∷ []) b l w m v h n = leads_none o l.1.0 class.Expr false w.1.0 (half (half v).1).0 (operand o (half m).0)
tight_row kind.CallExpr (s ∷ o ∷ x ∷ []) b l w m v h n = leads_none o l.1.0 class.Callee false w.1.0 (half (half v).1).0 (operand o (half m).0)
tight_row kind.OptCall (s ∷ o ∷ x ∷ []) b l w m v h n = leads_none o l.1.0 class.Expr false w.1.0 (half (half v).1).0 (link o (half m).0)
tight_row kind.OptChainExpr (s ∷ o ∷ x ∷ []) b l w m v h n =
    leads_none x l.1.1.0 class.OptChainBase true w.1.1.0 (half (half (half v).1).1).0 (firm class.OptChainBase (refl, refl, refl, refl, refl) x w.1.1.0)
tight_row k ts b l w m v h n = refl

pub tight : (t : Node) → Tight t
tight t = by_children Tight
    (λ c b f v h n. search (rules, the_lemmas), λ x c b f v h n. search (rules, the_lemmas), λ w c b f v h n. search (rules, the_lemmas), λ x c b f v h n. search (rules, the_lemmas), λ s c b f v h n. search (rules, the_lemmas), λ k i c b f v h n. search (rules, the_lemmas))
    (λ ts l c b f v h n. absurd (cc (sym (fits-List ts (one c)) ∙ f)))
    (λ k ts l c b f v h n.
    let q = half (sym (levelled_tree k ts b) ∙ v) in
    led_tree k ts ∙ tight_row k ts b l (tree_opens k ts c f).2 q.0 q.1 (sym (at_least_of_tree 2 k ts) ∙ h) (sym (assigns_tree k ts) ∙ n)) t

-- an arrow's body
body_if : (b : Bool) (e : Node) → has_kind is_block e ≡ b → (b || at_least 2 e) ≡ true → (at_least 2 e ≡ true → led e ≡ false) → (b || not (led e)) ≡ true
body_if true e g h f = refl
body_if false e g h f = ap not (f h)

pub calm_body : (e : Node) → Fits e (one class.BlockStmtOrExpr) → levelled e false ≡ true → meets Body e ≡ true → assigns_to is_destructuring e ≡ false → (has_kind is_block e || not (led e)) ≡ true
calm_body e f v m n = body_if (has_kind is_block e) e refl m (λ h. tight e class.BlockStmtOrExpr false f v h n)
