-- What the first step of the due pairs leaves is levelled.
use Rattle.std.proofs.Common.{◌≡◌, Bool, true, false, ◌&&◌, IsTrue, List, [], ◌∷◌, map, refl, sym, ◌∙◌, rules}
use Rattle.std.specs.Prelude.{Option, Some, None}
use Rattle.std.specs.List.{list_all}
use Rattle.swc_tree_node.specs.declared.kind.Kind.{Kind}
use Rattle.swc_tree_node.specs.declared.kind.Kind.TheVariants as kind
use Rattle.swc_tree_node.specs.declared.kind.Word.{Word as Word'}
use Rattle.swc_tree_node.specs.declared.kind.Word.TheVariants as word
use Rattle.swc_tree_node.specs.declared.node.Node.{Node, List as Many, Tree, fold-Node, out-Node, the_lemmas}
use Rattle.swc_tree_node.specs.declared.node.Node.TheOpen.{Node-F}
use Rattle.swc_tree_grammar.specs.Shapes.{items_of}
use Rattle.swc_tree_grammar.specs.Kinds.{is_opt_chain}
use Rattle.swc_tree_grammar.specs.Levels.{word_of}
use Rattle.swc_tree_grammar.specs.Demands.{demands, left_side, right_side, at_least}
use Rattle.swc_tree_grammar.specs.Due.{Places, Pairing, alone, pair_if, odd_items, sequence_statement, each_settled, level_step, paired_in, paired_by_level}
use Rattle.swc_tree_grammar.specs.Readers.{named_in, is_odd_item}
use Rattle.swc_tree_grammar.proofs.Induction.{Each, by_children}
use Rattle.swc_tree_grammar_laws.specs.Levelled.{levelled}
use Rattle.swc_tree_grammar_laws.proofs.Levelled.{levelled_tree, levelled_list, fine, Fine, AllFine, both, half, also, fine_if, weaker_if, all_weaker}
use Rattle.swc_tree_grammar_laws.proofs.Settled.{is_met_by_pairs, all_met, all_stay_fine, items}

-- what the sides of an operator are asked, a pair is
sides : (op : Option Word') → (is_met_by_pairs (left_side op) ≡ true) × (is_met_by_pairs (right_side op) ≡ true)
sides (Some word.LogicalOr) = (refl, refl)
sides (Some w) = (refl, refl)
sides None = (refl, refl)

-- so are all fields, and the pairs change nothing that is asked
abbrev stepped : Places → Bool → Kind → List Node → List Node
stepped p b k ts = each_settled p (demands b (Node-F.Tree k ts)) (named_in (Node-F.Tree k ts)) ts

abbrev Asks : Places → Bool → Kind → List Node → Type 0
Asks p b k ts = (demands b (Node-F.Tree k (stepped p b k ts)) ≡ demands b (Node-F.Tree k ts)) × (list_all is_met_by_pairs (demands b (Node-F.Tree k ts)) ≡ true)

asks : (p : Places) (b : Bool) (k : Kind) (ts : List Node) → Asks p b k ts
asks p b kind.BinExpr (s ∷ o ∷ l ∷ r ∷ []) = let h = sides (word_of o) in (refl, rw (h.0, h.1) refl)
asks p true kind.MemberExpr (s ∷ o ∷ m ∷ []) = (refl, refl)
asks p false kind.MemberExpr (s ∷ o ∷ m ∷ []) = (refl, refl)
asks p b kind.SeqExpr (s ∷ e ∷ []) = (refl, refl)
asks p b kind.AssignExpr (s ∷ o ∷ l ∷ r ∷ []) = (refl, refl)
asks p b kind.CondExpr (s ∷ t ∷ c ∷ a ∷ []) = (refl, refl)
asks p b kind.UnaryExpr (s ∷ o ∷ e ∷ []) = (refl, refl)
asks p b kind.AwaitExpr (s ∷ e ∷ []) = (refl, refl)
asks p b kind.UpdateExpr (s ∷ o ∷ f ∷ e ∷ []) = (refl, refl)
asks p b kind.YieldExpr (s ∷ e ∷ d ∷ []) = (refl, refl)
asks p b kind.TaggedTpl (s ∷ e ∷ m ∷ []) = (refl, refl)
asks p b kind.CallExpr (s ∷ e ∷ a ∷ []) = (refl, refl)
asks p b kind.OptCall (s ∷ e ∷ a ∷ []) = (refl, refl)
asks p b kind.NewExpr (s ∷ e ∷ a ∷ []) = (refl, refl)
asks p b kind.ExprOrSpread (s ∷ e ∷ []) = (refl, refl)
asks p b kind.SpreadElement (s ∷ e ∷ []) = (refl, refl)
asks p b kind.KeyValueProp (k ∷ e ∷ []) = (refl, refl)
asks p b kind.MethodProp (k ∷ f ∷ []) = (refl, refl)
asks p b kind.GetterProp (s ∷ k ∷ e ∷ []) = (refl, refl)
asks p b kind.SetterProp (s ∷ k ∷ a ∷ e ∷ []) = (refl, refl)
asks p b kind.Constructor (s ∷ k ∷ a ∷ e ∷ []) = (refl, refl)
asks p b kind.ClassMethod (s ∷ k ∷ f ∷ w ∷ x ∷ []) = (refl, refl)
asks p b kind.ClassProp (s ∷ k ∷ e ∷ x ∷ []) = (refl, refl)
asks p b kind.PrivateProp (s ∷ k ∷ e ∷ x ∷ []) = (refl, refl)
asks p b kind.ArrowExpr (s ∷ a ∷ e ∷ x ∷ []) = (refl, refl)
asks p b kind.Class (s ∷ e ∷ c ∷ []) = (refl, refl)
asks p b kind.VarDeclarator (s ∷ n ∷ e ∷ []) = (refl, refl)
asks p b kind.AssignPat (s ∷ l ∷ e ∷ []) = (refl, refl)
asks p b kind.AssignPatProp (s ∷ k ∷ e ∷ []) = (refl, refl)
asks p b kind.KeyValuePatProp (k ∷ e ∷ []) = (refl, refl)
asks p b kind.ExportDefaultExpr (s ∷ e ∷ []) = (refl, refl)
asks p b kind.ForOfStmt (s ∷ w ∷ l ∷ r ∷ e ∷ []) = (refl, refl)
asks p b k ts = (refl, refl)

-- the items of a sequence that is a statement
odd_if : (b : Bool) (p : Places) (e : Node) → at_least 2 e ≡ true → at_least 2 (pair_if b p e) ≡ true
odd_if true p e h = search (rules, the_lemmas)
odd_if false p e h = h

odd_are : (p : Places) (ts : List Node) → list_all (at_least 2) ts ≡ true → list_all (at_least 2) (odd_items p ts) ≡ true
odd_are p [] h = refl
odd_are p (t ∷ []) h = h
odd_are p (t ∷ u ∷ ts) h = let q = half h in also (odd_if (is_odd_item t) p t q.0) (odd_are p (u ∷ ts) q.1)

odd_fine : (p : Places) (ts : List Node) → AllFine ts → AllFine (odd_items p ts)
odd_fine p [] h = refl
odd_fine p (t ∷ []) h = h
odd_fine p (t ∷ u ∷ ts) h = let q = half h in also (fine_if (is_odd_item t) p t ∙ q.0) (odd_fine p (u ∷ ts) q.1)

sequence_tree : (p : Places) (k : Kind) (ts : List Node) → Fine (Tree k ts) → Fine (sequence_statement p (Tree k ts) (Node-F.Tree k ts))
sequence_tree p kind.SeqExpr (s ∷ es ∷ []) h =
    let us = odd_items p (items_of es) in let i : items_of (Many us) ≡ us = search (rules, the_lemmas) in
    let q = half (sym (levelled_tree kind.SeqExpr (s ∷ es ∷ []) false) ∙ h) in let a = half q.0 in let f = half q.1 in
    let e = levelled_list us false ∙ odd_fine p (items_of es) (items es (half f.1).0) in
    levelled_tree kind.SeqExpr (s ∷ Many us ∷ []) false ∙ rw (i, odd_are p (items_of es) a.0, f.0, e) refl
sequence_tree p k ts h = h

statement : (p : Places) (t : Node) → Fine t → Fine (sequence_statement p t (out-Node t))
statement p t = by_children (λ t. Fine t → Fine (sequence_statement p t (out-Node t)))
    (λ h. search (rules, the_lemmas), λ x h. search (rules, the_lemmas), λ w h. search (rules, the_lemmas), λ x h. search (rules, the_lemmas), λ s h. search (rules, the_lemmas), λ k i h. search (rules, the_lemmas))
    (λ ts l h. (let e : sequence_statement p (Many ts) (out-Node (Many ts)) ≡ Many ts = search (rules, the_lemmas) in rw e h))
    (λ k ts l h. (let e : sequence_statement p (Tree k ts) (out-Node (Tree k ts)) ≡ sequence_statement p (Tree k ts) (Node-F.Tree k ts) = search (rules, the_lemmas) in rw e (sequence_tree p k ts h))) t

settled_tree : (p : Places) (b : Bool) (k : Kind) (ts : List Node) → AllFine ts → IsTrue (levelled (Tree k (stepped p b k ts)) b)
settled_tree p b k ts h =
    let a = asks p b k ts in let ds = demands b (Node-F.Tree k ts) in let ns = named_in (Node-F.Tree k ts) in
    levelled_tree k (stepped p b k ts) b ∙ rw a.0 (also (all_met p ds ns ts a.1 h) (all_weaker (is_opt_chain k) (stepped p b k ts) (all_stay_fine p ds ns ts h)))

row : (p : Places) (b : Bool) (k : Kind) (ts : List Node) → AllFine ts → IsTrue (levelled (paired_in p b (Node-F.Tree k ts)) b)
row p b kind.ExprStmt (s ∷ e ∷ []) h =
    let q = both (fine s) (fine e && true) h in let f = statement p e (both (fine e) true q.1).0 in
    levelled_tree kind.ExprStmt (s ∷ sequence_statement p e (out-Node e) ∷ []) b ∙ rw (q.0, f) refl
row p b k ts h = settled_tree p b k ts h

abbrev pub pairing : Places → Node → Pairing
pairing p = fold-Node Pairing (level_step p)

pub pairing_tree : (p : Places) (k : Kind) (ts : List Node) (b : Bool) → pairing p (Tree k ts) b ≡ level_step p (Node-F.Tree k (map (pairing p) ts)) b
pairing_tree p k ts b = search (rules, the_lemmas)

pub pairing_list : (p : Places) (ts : List Node) (b : Bool) → pairing p (Many ts) b ≡ Many (map alone (map (pairing p) ts))
pairing_list p ts b = search (rules, the_lemmas)

abbrev IsLevelled : Places → Node → Type 0
IsLevelled p t = (b : Bool) → IsTrue (levelled (pairing p t b) b)

all_fine : (p : Places) (ts : List Node) → Each (IsLevelled p) ts → AllFine (map alone (map (pairing p) ts))
all_fine p [] l = refl
all_fine p (t ∷ ts) l = also (l.0 false) (all_fine p ts l.1)

step : (p : Places) (k : Kind) (ts : List Node) (b : Bool) → Each (IsLevelled p) ts → IsTrue (levelled (level_step p (Node-F.Tree k (map (pairing p) ts)) b) b)
step p kind.OptChainExpr (s ∷ o ∷ e ∷ []) b l =
    levelled_tree kind.OptChainExpr (pairing p s false ∷ pairing p o false ∷ pairing p e true ∷ []) b
    ∙ rw (weaker_if true (pairing p s false) (l.0 false), weaker_if true (pairing p o false) (l.1.0 false), l.1.1.0 true) refl
step p k ts b l = row p b k (map alone (map (pairing p) ts)) (all_fine p ts l)

levelled_by_level : (p : Places) (t : Node) → IsLevelled p t
levelled_by_level p t = by_children (IsLevelled p)
    (λ b. search (rules, the_lemmas), λ x b. search (rules, the_lemmas), λ w b. search (rules, the_lemmas), λ x b. search (rules, the_lemmas), λ s b. search (rules, the_lemmas), λ k i b. search (rules, the_lemmas))
    (λ ts l b. rw (pairing_list p ts b) (levelled_list (map alone (map (pairing p) ts)) b ∙ all_fine p ts l))
    (λ k ts l b. rw (pairing_tree p k ts b) (step p k ts b l)) t

pub by_level : (p : Places) (t : Node) → levelled (paired_by_level p t) false ≡ true
by_level p t = levelled_by_level p t false
