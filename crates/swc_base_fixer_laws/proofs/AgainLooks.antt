-- What the due pairs are decided by stays where spans and names before `of` alone change.
use Rattle.std.proofs.Common.{◌≡◌, ℕ, Bool, true, false, ◌&&◌, List, [], ◌∷◌, map, refl, sym, ap, ◌∙◌, rules, true≢false}
use Rattle.std.specs.Prelude.{Option, if◌then◌else◌}
use Rattle.std.specs.List.{list_all}
use Rattle.swc_tree_node.specs.declared.kind.Kind.{Kind}
use Rattle.swc_tree_node.specs.declared.kind.Kind.TheVariants as kind
use Rattle.swc_tree_node.specs.declared.kind.Word.{Word as Word'}
use Rattle.swc_tree_node.specs.declared.node.Node.{Node, Tree, out-Node, the_lemmas}
use Rattle.swc_tree_node.specs.declared.node.Node.TheOpen.{Node-F}
use Rattle.swc_tree_scoping.specs.Places.{flag_in}
use Rattle.swc_tree_grammar.specs.Shapes.{items_of}
use Rattle.swc_tree_grammar.specs.Kinds.{has_kind, has_kind_in, is_opt_chain, is_block, is_object, is_class, is_function, is_arrow, is_yield, is_await, is_literal, is_destructuring, is_object_pattern}
use Rattle.swc_tree_grammar.specs.Forms.{holds}
use Rattle.swc_tree_grammar.specs.Levels.{level, level_in, level_of_word, word_of, word_in, is_absent, is_absent_in, is_called, called_step}
use Rattle.swc_tree_grammar.specs.Demands.{Demand, demands, meets, at_least, is_bare_new, bare_new_in, is_nullish, nullish_in, nullish_word, key_in, left_side, right_side}
use Rattle.swc_tree_grammar.specs.Demands.Demand.{Any, AtLeast, Each as EachOf, Key, Body, Operand, Link, NewCallee, OrSide, NullishSide}
use Rattle.swc_tree_grammar.specs.Readers.{named_in, none as nothing, is_odd_item, is_odd_callee, is_odd_object, is_odd_left, unary_word_in, assigns_to, assigns_in}
use Rattle.swc_tree_grammar.proofs.Induction.{Each, by_children}
use Rattle.swc_base_fixer_laws.proofs.Up.{called_of_tree}
use Rattle.swc_base_fixer_laws.proofs.NormalKeptBlocks.{each_same, map_after}
use Rattle.swc_base_fixer_laws.proofs.AgainMapped.{Mapped, look, is_changed, tree_other, items_mapped, all_mapped}

-- the tests of a node's fields, of which each says of a changed node what the other says of the node
pub data Tests (f : Node → Node) : List (Node → Bool) → List (Node → Bool) → Type 0 where
  nil : Tests f [] []
  cons : {x y : Node → Bool} {xs ys : List (Node → Bool)} → ((t : Node) → x (f t) ≡ y t) → Tests f xs ys → Tests f (x ∷ xs) (y ∷ ys)

module _ {f : Node → Node} {fs : Kind → List Node → List Node} (m : Mapped f fs) where
  pub word_mapped : (t : Node) → word_of (f t) ≡ word_of t
  word_mapped t = look m (Option Word') word_in (λ s r. refl) (λ k i. refl) (λ ts. refl) (λ k ts. refl) (λ k us ts e. refl) t

  pub absent_mapped : (t : Node) → is_absent (f t) ≡ is_absent t
  absent_mapped t = look m Bool is_absent_in (λ s r. refl) (λ k i. refl) (λ ts. refl) (λ k ts. refl) (λ k us ts e. refl) t

  pub kind_mapped : (x : Kind → Bool) (t : Node) → has_kind x (f t) ≡ has_kind x t
  kind_mapped x t = look m Bool (has_kind_in x) (λ s r. refl) (λ k i. refl) (λ ts. refl) (λ k ts. refl) (λ k us ts e. refl) t

  pub holds_mapped : (t : Node) → holds (f t) ≡ holds t
  holds_mapped t = look m Bool flag_in (λ s r. refl) (λ k i. refl) (λ ts. refl) (λ k ts. refl) (λ k us ts e. refl) t

  -- calls
  called_changed : (k : Kind) (us ts : List Node) → is_changed k ≡ true → is_called (Tree k us) ≡ is_called (Tree k ts)
  called_changed kind.IfStmt us ts e = called_of_tree kind.IfStmt us ∙ sym (called_of_tree kind.IfStmt ts)
  called_changed kind.ForOfStmt us ts e = called_of_tree kind.ForOfStmt us ∙ sym (called_of_tree kind.ForOfStmt ts)
  called_changed k us ts e = absurd (true≢false (sym e))

  called_tree : (b : Bool) (k : Kind) (ts : List Node) → is_changed k ≡ b → Each (λ t. is_called (f t) ≡ is_called t) ts → is_called (f (Tree k ts)) ≡ is_called (Tree k ts)
  called_tree true k ts e l = ap is_called (m.tree k ts) ∙ called_changed k (fs k (map f ts)) ts e
  called_tree false k ts e l =
      ap is_called (tree_other m k ts e) ∙ called_of_tree k (map f ts)
      ∙ ap (λ bs. called_step (Node-F.Tree k bs)) (map_after is_called f ts ∙ each_same (λ t. is_called (f t)) is_called ts l) ∙ sym (called_of_tree k ts)

  called_mapped : (t : Node) → is_called (f t) ≡ is_called t
  called_mapped t = by_children (λ t. is_called (f t) ≡ is_called t)
      (ap is_called m.absent, λ x. ap is_called (m.flag x), λ w. ap is_called (m.word w), λ x. ap is_called (m.text x), λ s. ap is_called (m.span s) ∙ search (rules, the_lemmas), λ k i. ap is_called (m.name k i) ∙ search (rules, the_lemmas))
      (λ ts l. ap is_called (m.list ts) ∙ search (rules, the_lemmas))
      (λ k ts l. called_tree (is_changed k) k ts refl l) t

  -- levels
  level_row : (k : Kind) (ts : List Node) → level_in (Node-F.Tree k (map f ts)) ≡ level_in (Node-F.Tree k ts)
  level_row kind.BinExpr (s ∷ o ∷ l ∷ r ∷ []) = ap level_of_word (word_mapped o)
  level_row kind.MemberExpr (s ∷ o ∷ r ∷ []) = ap (λ b. if b then 17 else 18) (called_mapped o)
  level_row kind.TaggedTpl (s ∷ o ∷ r ∷ []) = ap (λ b. if b then 17 else 18) (called_mapped o)
  level_row kind.NewExpr (s ∷ o ∷ r ∷ []) = ap (λ b. if b then 17 else 18) (absent_mapped r)
  level_row k ts = refl

  level_changed : (k : Kind) (us ts : List Node) → is_changed k ≡ true → level_in (Node-F.Tree k us) ≡ level_in (Node-F.Tree k ts)
  level_changed kind.IfStmt us ts e = refl
  level_changed kind.ForOfStmt us ts e = refl
  level_changed k us ts e = absurd (true≢false (sym e))

  level_mapped : (t : Node) → level (f t) ≡ level t
  level_mapped t = look m ℕ level_in (λ s r. refl) (λ k i. refl) (λ ts. refl) level_row level_changed t

  pub least_mapped : (n : ℕ) (t : Node) → at_least n (f t) ≡ at_least n t
  least_mapped n t = rw (absent_mapped t, level_mapped t) refl

  bare_row : (k : Kind) (ts : List Node) → bare_new_in (Node-F.Tree k (map f ts)) ≡ bare_new_in (Node-F.Tree k ts)
  bare_row kind.NewExpr (s ∷ o ∷ r ∷ []) = absent_mapped r
  bare_row k ts = refl

  bare_changed : (k : Kind) (us ts : List Node) → is_changed k ≡ true → bare_new_in (Node-F.Tree k us) ≡ bare_new_in (Node-F.Tree k ts)
  bare_changed kind.IfStmt us ts e = refl
  bare_changed kind.ForOfStmt us ts e = refl
  bare_changed k us ts e = absurd (true≢false (sym e))

  bare_mapped : (t : Node) → is_bare_new (f t) ≡ is_bare_new t
  bare_mapped t = look m Bool bare_new_in (λ s r. refl) (λ k i. refl) (λ ts. refl) bare_row bare_changed t

  nullish_row : (k : Kind) (ts : List Node) → nullish_in (Node-F.Tree k (map f ts)) ≡ nullish_in (Node-F.Tree k ts)
  nullish_row kind.BinExpr (s ∷ o ∷ l ∷ r ∷ []) = ap nullish_word (word_mapped o)
  nullish_row k ts = refl

  nullish_changed : (k : Kind) (us ts : List Node) → is_changed k ≡ true → nullish_in (Node-F.Tree k us) ≡ nullish_in (Node-F.Tree k ts)
  nullish_changed kind.IfStmt us ts e = refl
  nullish_changed kind.ForOfStmt us ts e = refl
  nullish_changed k us ts e = absurd (true≢false (sym e))

  nullish_mapped : (t : Node) → is_nullish (f t) ≡ is_nullish t
  nullish_mapped t = look m Bool nullish_in (λ s r. refl) (λ k i. refl) (λ ts. refl) nullish_row nullish_changed t

  key_row : (k : Kind) (ts : List Node) → key_in (Node-F.Tree k (map f ts)) ≡ key_in (Node-F.Tree k ts)
  key_row kind.ComputedPropName (s ∷ e ∷ []) = least_mapped 2 e
  key_row k ts = refl

  key_changed : (k : Kind) (us ts : List Node) → is_changed k ≡ true → key_in (Node-F.Tree k us) ≡ key_in (Node-F.Tree k ts)
  key_changed kind.IfStmt us ts e = refl
  key_changed kind.ForOfStmt us ts e = refl
  key_changed k us ts e = absurd (true≢false (sym e))

  pub meets_mapped : (d : Demand) (t : Node) → meets d (f t) ≡ meets d t
  meets_mapped Any t = refl
  meets_mapped (AtLeast n) t = least_mapped n t
  meets_mapped (EachOf n) t = ap (list_all (at_least n)) (items_mapped m t) ∙ all_mapped (at_least n) (least_mapped n) (items_of t)
  meets_mapped Key t = look m Bool key_in (λ s r. refl) (λ k i. refl) (λ ts. refl) key_row key_changed t
  meets_mapped Body t = rw (kind_mapped is_block t, least_mapped 2 t) refl
  meets_mapped Operand t = rw (kind_mapped is_opt_chain t, bare_mapped t, least_mapped 17 t) refl
  meets_mapped Link t = rw (bare_mapped t, least_mapped 17 t) refl
  meets_mapped (NewCallee bare) t = rw (least_mapped 18 t, bare_mapped t) refl
  meets_mapped OrSide t = rw (nullish_mapped t, least_mapped 4 t) refl
  meets_mapped NullishSide t = rw (least_mapped 6 t, nullish_mapped t) refl

  -- what is asked
  pub demands_mapped : (b : Bool) (k : Kind) (ts : List Node) → demands b (Node-F.Tree k (map f ts)) ≡ demands b (Node-F.Tree k ts)
  demands_mapped b kind.BinExpr (s ∷ o ∷ l ∷ r ∷ []) = ap (λ w. Any ∷ Any ∷ left_side w ∷ right_side w ∷ []) (word_mapped o)
  demands_mapped b kind.NewExpr (s ∷ c ∷ a ∷ []) = ap (λ x. Any ∷ NewCallee x ∷ Any ∷ []) (absent_mapped a)
  demands_mapped b kind.MemberExpr (s ∷ o ∷ r ∷ []) = refl
  demands_mapped b kind.SeqExpr (s ∷ e ∷ []) = refl
  demands_mapped b kind.AssignExpr (s ∷ o ∷ l ∷ r ∷ []) = refl
  demands_mapped b kind.CondExpr (s ∷ t ∷ c ∷ a ∷ []) = refl
  demands_mapped b kind.UnaryExpr (s ∷ o ∷ e ∷ []) = refl
  demands_mapped b kind.AwaitExpr (s ∷ e ∷ []) = refl
  demands_mapped b kind.UpdateExpr (s ∷ o ∷ x ∷ e ∷ []) = refl
  demands_mapped b kind.YieldExpr (s ∷ e ∷ d ∷ []) = refl
  demands_mapped b kind.TaggedTpl (s ∷ e ∷ r ∷ []) = refl
  demands_mapped b kind.CallExpr (s ∷ e ∷ a ∷ []) = refl
  demands_mapped b kind.OptCall (s ∷ e ∷ a ∷ []) = refl
  demands_mapped b kind.ExprOrSpread (s ∷ e ∷ []) = refl
  demands_mapped b kind.SpreadElement (s ∷ e ∷ []) = refl
  demands_mapped b kind.KeyValueProp (k ∷ e ∷ []) = refl
  demands_mapped b kind.MethodProp (k ∷ e ∷ []) = refl
  demands_mapped b kind.GetterProp (s ∷ k ∷ e ∷ []) = refl
  demands_mapped b kind.SetterProp (s ∷ k ∷ a ∷ e ∷ []) = refl
  demands_mapped b kind.Constructor (s ∷ k ∷ a ∷ e ∷ []) = refl
  demands_mapped b kind.ClassMethod (s ∷ k ∷ e ∷ w ∷ x ∷ []) = refl
  demands_mapped b kind.ClassProp (s ∷ k ∷ e ∷ x ∷ []) = refl
  demands_mapped b kind.PrivateProp (s ∷ k ∷ e ∷ x ∷ []) = refl
  demands_mapped b kind.ArrowExpr (s ∷ a ∷ e ∷ x ∷ []) = refl
  demands_mapped b kind.Class (s ∷ e ∷ c ∷ []) = refl
  demands_mapped b kind.VarDeclarator (s ∷ n ∷ e ∷ []) = refl
  demands_mapped b kind.AssignPat (s ∷ l ∷ e ∷ []) = refl
  demands_mapped b kind.AssignPatProp (s ∷ k ∷ e ∷ []) = refl
  demands_mapped b kind.KeyValuePatProp (k ∷ e ∷ []) = refl
  demands_mapped b kind.ExportDefaultExpr (s ∷ e ∷ []) = refl
  demands_mapped b kind.ForOfStmt (s ∷ w ∷ l ∷ r ∷ e ∷ []) = refl
  demands_mapped b k ts = refl

  -- what the reader's table names
  assigns_row : (x : Kind → Bool) (k : Kind) (ts : List Node) → assigns_in x (Node-F.Tree k (map f ts)) ≡ assigns_in x (Node-F.Tree k ts)
  assigns_row x kind.AssignExpr (s ∷ o ∷ l ∷ r ∷ []) = kind_mapped x l
  assigns_row x k ts = refl

  assigns_changed : (x : Kind → Bool) (k : Kind) (us ts : List Node) → is_changed k ≡ true → assigns_in x (Node-F.Tree k us) ≡ assigns_in x (Node-F.Tree k ts)
  assigns_changed x kind.IfStmt us ts e = refl
  assigns_changed x kind.ForOfStmt us ts e = refl
  assigns_changed x k us ts e = absurd (true≢false (sym e))

  assigns_mapped : (x : Kind → Bool) (t : Node) → assigns_to x (f t) ≡ assigns_to x t
  assigns_mapped x t = look m Bool (assigns_in x) (λ s r. refl) (λ k i. refl) (λ ts. refl) (assigns_row x) (assigns_changed x) t

  unary_row : (k : Kind) (ts : List Node) → unary_word_in (Node-F.Tree k (map f ts)) ≡ unary_word_in (Node-F.Tree k ts)
  unary_row kind.UnaryExpr (s ∷ o ∷ a ∷ []) = word_mapped o
  unary_row k ts = refl

  unary_changed : (k : Kind) (us ts : List Node) → is_changed k ≡ true → unary_word_in (Node-F.Tree k us) ≡ unary_word_in (Node-F.Tree k ts)
  unary_changed kind.IfStmt us ts e = refl
  unary_changed kind.ForOfStmt us ts e = refl
  unary_changed k us ts e = absurd (true≢false (sym e))

  unary_mapped : (t : Node) → unary_word_in (out-Node (f t)) ≡ unary_word_in (out-Node t)
  unary_mapped t = look m (Option Word') unary_word_in (λ s r. refl) (λ k i. refl) (λ ts. refl) unary_row unary_changed t

  left_mapped : (o : Node) (t : Node) → is_odd_left (word_of (f o)) (f t) ≡ is_odd_left (word_of o) t
  left_mapped o t = rw (word_mapped o, unary_mapped t, kind_mapped is_object t) refl

  argument_mapped : (a : Node) (t : Node) → (is_absent (f a) && has_kind is_yield (f t)) ≡ (is_absent a && has_kind is_yield t)
  argument_mapped a t = rw (absent_mapped a, kind_mapped is_yield t) refl

  pub odd_mapped : (t : Node) → is_odd_item (f t) ≡ is_odd_item t
  odd_mapped t = rw (kind_mapped is_object t, kind_mapped is_class t, assigns_mapped is_object_pattern t) refl

  nowhere : (t : Node) → nothing (f t) ≡ nothing t
  nowhere t = refl

  pub tests_mapped : (k : Kind) (ts : List Node) → Tests f (named_in (Node-F.Tree k (map f ts))) (named_in (Node-F.Tree k ts))
  tests_mapped kind.CallExpr (s ∷ c ∷ a ∷ []) = cons nowhere (cons (kind_mapped is_odd_callee) (cons nowhere nil))
  tests_mapped kind.OptCall (s ∷ c ∷ a ∷ []) = cons nowhere (cons (kind_mapped is_odd_callee) (cons nowhere nil))
  tests_mapped kind.MemberExpr (s ∷ o ∷ r ∷ []) = cons nowhere (cons (kind_mapped is_odd_object) (cons nowhere nil))
  tests_mapped kind.TaggedTpl (s ∷ o ∷ r ∷ []) = cons nowhere (cons (kind_mapped is_function) (cons nowhere nil))
  tests_mapped kind.NewExpr (s ∷ o ∷ r ∷ []) = cons nowhere (cons (kind_mapped is_literal) (cons nowhere nil))
  tests_mapped kind.BinExpr (s ∷ o ∷ l ∷ r ∷ []) = cons nowhere (cons nowhere (cons (left_mapped o) (cons nowhere nil)))
  tests_mapped kind.ExprOrSpread (a ∷ e ∷ []) = cons nowhere (cons (argument_mapped a) nil)
  tests_mapped kind.ArrowExpr (s ∷ a ∷ e ∷ x ∷ []) = cons nowhere (cons nowhere (cons (assigns_mapped is_destructuring) (cons nowhere nil)))
  tests_mapped kind.ExportDefaultExpr (s ∷ e ∷ []) = cons nowhere (cons (kind_mapped is_arrow) nil)
  tests_mapped kind.ForOfStmt (s ∷ w ∷ l ∷ r ∷ e ∷ []) = cons nowhere (cons nowhere (cons nowhere (cons (kind_mapped is_await) (cons nowhere nil))))
  tests_mapped k ts = nil
