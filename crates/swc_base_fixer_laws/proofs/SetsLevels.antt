-- What the first step makes of one place is the same with pairs.
use Rattle.std.proofs.Common.{◌≡◌, ℕ, Bool, true, false, not, ◌&&◌, ◌||◌, IsTrue, List, [], ◌∷◌, map, refl, sym, ap, ◌∙◌, rules, true≢false}
use Rattle.std.specs.Prelude.{nat_le, if◌then◌else◌}
use Rattle.std.specs.List.{list_all}
use Rattle.swc_tree_node.specs.declared.kind.Kind.{Kind}
use Rattle.swc_tree_node.specs.declared.kind.Kind.TheVariants as kind
use Rattle.swc_tree_node.specs.declared.node.Node.{Node, Absent, Flag, Word, Text, Span, List as Many, Identifier, Tree, out-Node, the_lemmas}
use Rattle.swc_tree_node.specs.declared.node.Node.TheOpen.{Node-F}
use Rattle.swc_tree_grammar.specs.Shapes.{items_of}
use Rattle.swc_tree_grammar.specs.Kinds.{is_chain, is_opt_chain}
use Rattle.swc_tree_grammar.specs.Levels.{level_in, is_called, called_step}
use Rattle.swc_tree_grammar.specs.Demands.{Demand, meets, at_least, is_bare_new, bare_new_in, is_nullish, nullish_in}
use Rattle.swc_tree_grammar.specs.Demands.Demand.{Any, AtLeast, Each as EachOf, Key, Body, Operand, Link, NewCallee, OrSide, NullishSide}
use Rattle.swc_tree_grammar.specs.Blocks.{span_of}
use Rattle.swc_tree_grammar.specs.Due.{Places, Callee, callee_step, callee_in, call_paired, pair, pair_if, to_level, key_in, settled, each_settled}
use Rattle.swc_tree_grammar.specs.Readers.{none as no_names}
use Rattle.swc_tree_grammar.proofs.Induction.{Each, by_children}
use Rattle.swc_tree_grammar_laws.proofs.Levelled.{both}
use Rattle.swc_tree_grammar_laws.proofs.Callees.{callee, paired_of}
use Rattle.swc_base_fixer_laws.specs.Sets.{Sets, AllSet, FieldsSet, pairable, can_pair, takes_pair}
use Rattle.swc_base_fixer_laws.specs.Sets.Sets.{same, around, items, tree}
use Rattle.swc_base_fixer_laws.specs.Sets.AllSet.{none, more}
use Rattle.swc_base_fixer_laws.specs.Sets.FieldsSet.{nil, field}
use Rattle.swc_tree_node.specs.declared.kind.Class.TheVariants as class
use Rattle.swc_tree_node.specs.declared.slot.Content.TheVariants as content
use Rattle.swc_tree_node.specs.declared.slot.Slot.{Slot}
use Rattle.swc_tree_node.specs.declared.slot.Slot.TheVariants as slot
use Rattle.swc_tree_node.specs.Fits.{Fits, FieldsFit}
use Rattle.swc_tree_node.proofs.Fit.{fits-Absent, fits-Flag, fits-Word, fits-Text, fits-Span, fits-Identifier, fits-Tree}
use Rattle.swc_tree_grammar.proofs.Wholes.{carried}
use Rattle.swc_tree_grammar_laws.proofs.Blocked.{no}
use Rattle.swc_base_fixer_laws.proofs.Up.{at_least_of_tree, called_of_tree, bare_of_tree, nullish_of_tree, kind_of_tree}
use Rattle.swc_base_fixer_laws.proofs.Kept.{is_single, asks_pair, all_ask, not_false}
use Rattle.swc_base_fixer_laws.proofs.ElseKept.{pairable_tree}

-- what gets no pair needs none
level_row : (k : Kind) (ts : List Node) → can_pair k ≡ false → level_in (Node-F.Tree k ts) ≡ 19
level_row kind.BinExpr ts h = absurd (cc)
level_row kind.MemberExpr ts h = absurd (cc)
level_row kind.TaggedTpl ts h = absurd (cc)
level_row kind.NewExpr ts h = absurd (cc)
level_row kind.SeqExpr ts h = absurd (cc)
level_row kind.AssignExpr ts h = absurd (cc)
level_row kind.ArrowExpr ts h = absurd (cc)
level_row kind.YieldExpr ts h = absurd (cc)
level_row kind.CondExpr ts h = absurd (cc)
level_row kind.UnaryExpr ts h = absurd (cc)
level_row kind.AwaitExpr ts h = absurd (cc)
level_row kind.UpdateExpr ts h = absurd (cc)
level_row kind.CallExpr ts h = absurd (cc)
level_row kind.OptChainExpr ts h = absurd (cc)
level_row kind.SuperPropExpr ts h = absurd (cc)
level_row kind.MetaPropExpr ts h = absurd (cc)
level_row k ts h = refl

bare_row : (k : Kind) (ts : List Node) → can_pair k ≡ false → bare_new_in (Node-F.Tree k ts) ≡ false
bare_row kind.NewExpr ts h = absurd (cc)
bare_row k ts h = refl

nullish_row : (k : Kind) (ts : List Node) → can_pair k ≡ false → nullish_in (Node-F.Tree k ts) ≡ false
nullish_row kind.BinExpr ts h = absurd (cc)
nullish_row k ts h = refl

chain_row : (k : Kind) → can_pair k ≡ false → is_opt_chain k ≡ false
chain_row kind.OptChainExpr h = absurd (cc)
chain_row k h = refl

record Tight (t : Node) : Type 0 where
  level_is : (n : ℕ) → nat_le n 19 ≡ true → at_least n t ≡ true
  no_bare : is_bare_new t ≡ false
  no_nullish : is_nullish t ≡ false
  no_chain : is_chain t ≡ false

least : (n : ℕ) (t : Node) → at_least n t ≡ (false || nat_le n 19) → nat_le n 19 ≡ true → at_least n t ≡ true
least n t e h = e ∙ h

tight_tree : (k : Kind) (ts : List Node) → can_pair k ≡ false → Tight (Tree k ts)
tight_tree k ts c = record {
  level_is = λ n h. at_least_of_tree n k ts ∙ ap (λ m. nat_le n m) (level_row k ts c) ∙ h;
  no_bare = bare_of_tree k ts ∙ bare_row k ts c;
  no_nullish = nullish_of_tree k ts ∙ nullish_row k ts c;
  no_chain = kind_of_tree is_opt_chain k ts ∙ chain_row k c;
}

tight : (t : Node) → pairable t ≡ false → Tight t
tight t = by_children (λ t. pairable t ≡ false → Tight t) (
  λ h. record { level_is = λ n m. search (rules, the_lemmas); no_bare = search (rules, the_lemmas); no_nullish = search (rules, the_lemmas); no_chain = search (rules, the_lemmas) },
  λ x h. record { level_is = λ n m. least n (Flag x) (search (rules, the_lemmas)) m; no_bare = search (rules, the_lemmas); no_nullish = search (rules, the_lemmas); no_chain = search (rules, the_lemmas) },
  λ w h. record { level_is = λ n m. least n (Word w) (search (rules, the_lemmas)) m; no_bare = search (rules, the_lemmas); no_nullish = search (rules, the_lemmas); no_chain = search (rules, the_lemmas) },
  λ x h. record { level_is = λ n m. least n (Text x) (search (rules, the_lemmas)) m; no_bare = search (rules, the_lemmas); no_nullish = search (rules, the_lemmas); no_chain = search (rules, the_lemmas) },
  λ s h. record { level_is = λ n m. least n (Span s) (search (rules, the_lemmas)) m; no_bare = search (rules, the_lemmas); no_nullish = search (rules, the_lemmas); no_chain = search (rules, the_lemmas) },
  λ k i h. record { level_is = λ n m. least n (Identifier k i) (search (rules, the_lemmas)) m; no_bare = search (rules, the_lemmas); no_nullish = search (rules, the_lemmas); no_chain = search (rules, the_lemmas) },
)
    (λ ts l h. record { level_is = λ n m. least n (Many ts) (search (rules, the_lemmas)) m; no_bare = search (rules, the_lemmas); no_nullish = search (rules, the_lemmas); no_chain = search (rules, the_lemmas) })
    (λ k ts l h. tight_tree k ts (sym (pairable_tree k ts) ∙ h)) t

-- keys and lists are no places of their own
abbrev is_place : Demand → Bool
is_place Key = false
is_place d = is_single d

tight_meets : (d : Demand) (t : Node) → is_place d ≡ true → Tight t → meets d t ≡ true
tight_meets Any t m w = refl
tight_meets (AtLeast n) t m w = w.level_is n m
tight_meets (EachOf n) t m w = absurd (cc)
tight_meets Key t m w = absurd (cc)
tight_meets Body t m w = let e = w.level_is 2 refl in rw e (search rules)
tight_meets Operand t m w = let e = w.level_is 17 refl in rw (w.no_chain, w.no_bare, e) refl
tight_meets Link t m w = let e = w.level_is 17 refl in rw (w.no_bare, e) refl
tight_meets (NewCallee b) t m w = let e = w.level_is 18 refl in rw e refl
tight_meets OrSide t m w = let e = w.level_is 4 refl in rw (w.no_nullish, e) refl
tight_meets NullishSide t m w = let e = w.level_is 6 refl in rw e refl

unmet_if : (b : Bool) (d : Demand) (t : Node) → pairable t ≡ b → is_place d ≡ true → meets d t ≡ false → IsTrue (pairable t)
unmet_if true d t e m h = e
unmet_if false d t e m h = absurd (cc (sym (tight_meets d t m (tight t e)) ∙ h))

pub unmet : (d : Demand) (t : Node) → is_place d ≡ true → meets d t ≡ false → IsTrue (pairable t)
unmet d t m h = unmet_if (pairable t) d t refl m h

-- a pair where a test says so
abbrev pub May : Slot → Node → Type 0
May s e = IsTrue (takes_pair s) × IsTrue (pairable e)

pub pair_set : (b : Bool) (p : Places) (s : Slot) (e : Node) → (b ≡ true → May s e) → Sets s e (pair_if b p e)
pair_set true p s e h = let q = h refl in around (p (span_of e)) e e q.0 q.1 (same e)
pair_set false p s e h = same e

either : (a b : Bool) {A : Type 0} → (a ≡ true → A) → (b ≡ false → A) → (a || not b) ≡ true → A
either true b f g h = f refl
either false false f g h = g refl
either false true f g h = absurd (cc)

abbrev pub Names : Slot → (Node → Bool) → Node → Type 0
Names s named e = named e ≡ true → May s e

asks_of : (d : Demand) (s : Slot) (e : Node) → is_place d ≡ true → asks_pair d s ≡ true → meets d e ≡ false → IsTrue (takes_pair s)
asks_of Any s e m a h = absurd (cc)
asks_of Key s e m a h = absurd (cc)
asks_of d s e m a h = a

one_set : (d : Demand) (p : Places) (named : Node → Bool) (s : Slot) (e : Node) → is_place d ≡ true → asks_pair d s ≡ true → Names s named e → Sets s e (pair_if (named e || not (meets d e)) p e)
one_set d p named s e m a f = pair_set (named e || not (meets d e)) p s e (either (named e) (meets d e) f (λ h. (asks_of d s e m a h, unmet d e m h)))

to_set : (n : ℕ) (p : Places) (s : Slot) (e : Node) → IsTrue (takes_pair s) → nat_le n 19 ≡ true → Sets s e (to_level n p e)
to_set n p s e w m = pair_set (not (at_least n e)) p s e (λ h. (w, unmet (AtLeast n) e m (not_false (at_least n e) h)))

-- keys
computed_set : (s : Slot) (k : Kind) (ts : List Node) (p : Places) → Sets s (Tree k ts) (key_in p (Tree k ts) (Node-F.Tree k ts))
computed_set s kind.ComputedPropName (a ∷ e ∷ []) p = tree kind.ComputedPropName (a ∷ e ∷ []) (a ∷ to_level 2 p e ∷ []) refl (field (same a) (field (to_set 2 p (slot.One (content.Node class.Expr)) e refl refl) nil))
computed_set s k ts p = same (Tree k ts)

key_leaf : (p : Places) (s : Slot) (t : Node) → key_in p t (out-Node t) ≡ t → Sets s t (key_in p t (out-Node t))
key_leaf p s t e = rw e (same t)

key_set : (p : Places) (s : Slot) (t : Node) → Sets s t (key_in p t (out-Node t))
key_set p s t = by_children (λ t. Sets s t (key_in p t (out-Node t)))
    (key_leaf p s Absent (search (rules, the_lemmas)), λ x. key_leaf p s (Flag x) (search (rules, the_lemmas)), λ w. key_leaf p s (Word w) (search (rules, the_lemmas)), λ x. key_leaf p s (Text x) (search (rules, the_lemmas)), λ r. key_leaf p s (Span r) (search (rules, the_lemmas)), λ k i. key_leaf p s (Identifier k i) (search (rules, the_lemmas)))
    (λ ts l. key_leaf p s (Many ts) (search (rules, the_lemmas)))
    (λ k ts l. (let e : key_in p (Tree k ts) (out-Node (Tree k ts)) ≡ key_in p (Tree k ts) (Node-F.Tree k ts) = search (rules, the_lemmas) in rw e (computed_set s k ts p))) t

-- what `new` calls: the pair stands at a call
called_row : (k : Kind) (ts : List Node) → called_step (Node-F.Tree k (map is_called ts)) ≡ true → nat_le 18 (level_in (Node-F.Tree k ts)) ≡ false
called_row kind.CallExpr ts h = refl
called_row kind.MemberExpr (s ∷ o ∷ m ∷ []) h = rw h refl
called_row kind.TaggedTpl (s ∷ o ∷ m ∷ []) h = rw h refl
called_row k ts h = absurd (true≢false (sym h))

no_call : (t : Node) → is_called t ≡ false → is_called t ≡ true → at_least 18 t ≡ false
no_call t e h = absurd (cc)

called_low : (t : Node) → is_called t ≡ true → at_least 18 t ≡ false
called_low t = by_children (λ t. is_called t ≡ true → at_least 18 t ≡ false)
    (no_call Absent (search (rules, the_lemmas)), λ x. no_call (Flag x) (search (rules, the_lemmas)), λ w. no_call (Word w) (search (rules, the_lemmas)), λ x. no_call (Text x) (search (rules, the_lemmas)), λ s. no_call (Span s) (search (rules, the_lemmas)), λ k i. no_call (Identifier k i) (search (rules, the_lemmas)))
    (λ ts l. no_call (Many ts) (search (rules, the_lemmas)))
    (λ k ts l h. at_least_of_tree 18 k ts ∙ called_row k ts (sym (called_of_tree k ts) ∙ h)) t

if_called : (b : Bool) → nat_le 18 (if b then 17 else 18) ≡ false → b ≡ true
if_called true h = refl
if_called false h = absurd (cc)

abbrev CallPaired : Places → Node → Type 0
CallPaired p t = (s : Slot) → IsTrue (takes_pair s) → at_least 18 t ≡ false → Sets s t (call_paired p t)

callee_whole : (p : Places) (t : Node) → (callee p t).whole ≡ t
callee_whole p t = carried Callee (callee_step p) (λ e. e.whole) (λ x. refl) t

callee_row : (p : Places) (k : Kind) (ts : List Node) → Each (CallPaired p) ts → (s : Slot) → IsTrue (takes_pair s) → nat_le 18 (level_in (Node-F.Tree k ts)) ≡ false → Sets s (Tree k ts) (callee_in p (Tree k ts) (Node-F.Tree k (map (callee p) ts)))
callee_row p kind.MemberExpr (a ∷ o ∷ m ∷ []) l s w h =
    rw (callee_whole p a, callee_whole p m)
    (tree kind.MemberExpr (a ∷ o ∷ m ∷ []) (a ∷ call_paired p o ∷ m ∷ []) refl (field (same a) (field (l.1.0 (slot.One (content.Node class.Expr)) refl (called_low o (if_called (is_called o) h))) (field (same m) nil))))
callee_row p kind.TaggedTpl (a ∷ o ∷ m ∷ []) l s w h =
    rw (callee_whole p a, callee_whole p m)
    (tree kind.TaggedTpl (a ∷ o ∷ m ∷ []) (a ∷ call_paired p o ∷ m ∷ []) refl (field (same a) (field (l.1.0 (slot.One (content.Node class.Expr)) refl (called_low o (if_called (is_called o) h))) (field (same m) nil))))
callee_row p k ts l s w h = around (p (span_of (Tree k ts))) (Tree k ts) (Tree k ts) w (unmet (AtLeast 18) (Tree k ts) refl (at_least_of_tree 18 k ts ∙ h)) (same (Tree k ts))

high : (p : Places) (t : Node) → at_least 18 t ≡ true → CallPaired p t
high p t e s w h = absurd (cc)

callee_set : (p : Places) (t : Node) → CallPaired p t
callee_set p t = by_children (CallPaired p)
    (high p Absent (search (rules, the_lemmas)), λ x. high p (Flag x) (search (rules, the_lemmas)), λ w. high p (Word w) (search (rules, the_lemmas)), λ x. high p (Text x) (search (rules, the_lemmas)), λ s. high p (Span s) (search (rules, the_lemmas)), λ k i. high p (Identifier k i) (search (rules, the_lemmas)))
    (λ ts l. high p (Many ts) (search (rules, the_lemmas)))
    (λ k ts l s w h. rw (paired_of p k ts) (callee_row p k ts l s w (sym (at_least_of_tree 18 k ts) ∙ h))) t

or_left : (a b : Bool) → (a || b) ≡ false → a ≡ false
or_left true b h = absurd (cc)
or_left false b h = refl

new_else : (x : Bool) (p : Places) (a : Bool) (s : Slot) (e : Node) → IsTrue (takes_pair s) → meets (NewCallee a) e ≡ x → Sets s e (if x then e else call_paired p e)
new_else true p a s e w h = same e
new_else false p a s e w h = callee_set p e s w (or_left (at_least 18 e) (a && is_bare_new e) h)

new_if : (c : Bool) (p : Places) (a : Bool) (named : Node → Bool) (s : Slot) (e : Node) → IsTrue (takes_pair s) → named e ≡ c → Names s named e → Sets s e (if c then pair p e else if meets (NewCallee a) e then e else call_paired p e)
new_if true p a named s e w h f = let q = f h in around (p (span_of e)) e e q.0 q.1 (same e)
new_if false p a named s e w h f = new_else (meets (NewCallee a) e) p a s e w refl

-- what a place gets
pub settled_set : (p : Places) (d : Demand) (named : Node → Bool) (s : Slot) (e : Node) → is_single d ≡ true → asks_pair d s ≡ true → Names s named e → Sets s e (settled p d named e)
settled_set p (EachOf n) named s e m a f = absurd (cc)
settled_set p Key named s e m a f = key_set p s e
settled_set p (NewCallee b) named s e m a f = new_if (named e) p b named s e a refl f
settled_set p Any named s e m a f = one_set Any p named s e m a f
settled_set p (AtLeast n) named s e m a f = one_set (AtLeast n) p named s e m a f
settled_set p Body named s e m a f = one_set Body p named s e m a f
settled_set p Operand named s e m a f = one_set Operand p named s e m a f
settled_set p Link named s e m a f = one_set Link p named s e m a f
settled_set p OrSide named s e m a f = one_set OrSide p named s e m a f
settled_set p NullishSide named s e m a f = one_set NullishSide p named s e m a f

-- all fields
abbrev pub AllName : List Slot → List (Node → Bool) → List Node → Type 0
AllName (s ∷ ss) (n ∷ ns) (t ∷ ts) = Names s n t × AllName ss ns ts
AllName _ _ _ = Unit {0}

pub unnamed : (s : Slot) (t : Node) → Names s no_names t
unnamed s t h = absurd (cc)

pub all_same : {s : Slot} (ts : List Node) → AllSet s ts ts
all_same [] = none
all_same (t ∷ ts) = more (same t) (all_same ts)

pub fields_same : (ss : List Slot) (ts : List Node) → FieldsFit ss ts → FieldsSet ss ts ts
fields_same [] [] f = nil
fields_same [] (t ∷ ts) f = absurd f
fields_same (s ∷ ss) [] f = absurd f
fields_same (s ∷ ss) (t ∷ ts) f = field (same t) (fields_same ss ts f.1)

pub nameless : (ss : List Slot) (ts : List Node) → AllName ss [] ts
nameless [] ts = tt
nameless (s ∷ ss) ts = tt

pub fields_set : (p : Places) (ss : List Slot) (ds : List Demand) (ns : List (Node → Bool)) (ts : List Node) → list_all is_single ds ≡ true → all_ask ds ss ≡ true → AllName ss ns ts → FieldsFit ss ts → FieldsSet ss ts (each_settled p ds ns ts)
fields_set p [] ds ns (t ∷ ts) m a f g = absurd g
fields_set p (s ∷ ss) ds ns [] m a f g = absurd g
fields_set p [] [] ns [] m a f g = nil
fields_set p [] (d ∷ ds) [] [] m a f g = nil
fields_set p [] (d ∷ ds) (n ∷ ns) [] m a f g = nil
fields_set p (s ∷ ss) [] ns (t ∷ ts) m a f g = fields_same (s ∷ ss) (t ∷ ts) g
fields_set p (s ∷ ss) (d ∷ ds) [] (t ∷ ts) m a f g =
    let q = both (is_single d) (list_all is_single ds) m in let r = both (asks_pair d s) (all_ask ds ss) a in field (settled_set p d no_names s t q.0 r.0 (unnamed s t)) (fields_set p ss ds [] ts q.1 r.1 (nameless ss ts) g.1)
fields_set p (s ∷ ss) (d ∷ ds) (n ∷ ns) (t ∷ ts) m a f g =
    let q = both (is_single d) (list_all is_single ds) m in let r = both (asks_pair d s) (all_ask ds ss) a in field (settled_set p d n s t q.0 r.0 f.0) (fields_set p ss ds ns ts q.1 r.1 f.1 g.1)

-- the items of a sequence
to_each : (n : ℕ) (p : Places) (ts : List Node) → nat_le n 19 ≡ true → AllSet (slot.One (content.Node class.Expr)) ts (map (to_level n p) ts)
to_each n p [] h = none
to_each n p (t ∷ ts) h = more (to_set n p (slot.One (content.Node class.Expr)) t refl h) (to_each n p ts h)

abbrev pub expressions : Slot
expressions = slot.List (content.Node class.Expr)

-- what is a list stands where one may
pub of_list : (P : Node → Type 0) → ((ts : List Node) → P (Many ts)) → (t : Node) → Fits t expressions → P t
of_list P f t = by_children (λ t. Fits t expressions → P t)
    (λ h. absurd (no (sym (fits-Absent expressions) ∙ h)), λ x h. absurd (no (sym (fits-Flag x expressions) ∙ h)), λ w h. absurd (no (sym (fits-Word w expressions) ∙ h)), λ x h. absurd (no (sym (fits-Text x expressions) ∙ h)), λ s h. absurd (no (sym (fits-Span s expressions) ∙ h)), λ k i h. absurd (no (sym (fits-Identifier k i expressions) ∙ h)))
    (λ ts l h. f ts)
    (λ k ts l h. absurd (no (sym (fits-Tree k ts expressions) ∙ h))) t

many_set : (n : ℕ) (p : Places) → nat_le n 19 ≡ true → (ts : List Node) → Sets expressions (Many ts) (Many (map (to_level n p) (items_of (Many ts))))
many_set n p h ts = let e : items_of (Many ts) ≡ ts = search (rules, the_lemmas) in rw e (items ts (map (to_level n p) ts) (to_each n p ts h))

pub each_set : (n : ℕ) (p : Places) (t : Node) → nat_le n 19 ≡ true → Fits t expressions → Sets expressions t (Many (map (to_level n p) (items_of t)))
each_set n p t h f = of_list (λ t. Sets expressions t (Many (map (to_level n p) (items_of t)))) (many_set n p h) t f
