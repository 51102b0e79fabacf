-- A tree and what is made of it: node by node the same kind with its parts made anew, or another expression in the
-- place of one. What a place sees of the one it sees of the other.
use Rattle.std.proofs.Common.{◌≡◌, Bool, true, false, ◌&&◌, List, [], ◌∷◌, map, refl, sym, ap, ◌∙◌, rules, true≢false}
use Rattle.std.specs.Prelude.{length, suc}
use Rattle.std.specs.List.{list_all}
use Rattle.swc_tree_marks.specs.declared.ident.Ident.{Ident}
use Rattle.swc_tree_node.specs.declared.kind.Kind.{Kind}
use Rattle.swc_tree_node.specs.declared.kind.Kind.TheVariants as kind
use Rattle.swc_tree_node.specs.declared.kind.Class.TheVariants as class
use Rattle.swc_tree_node.specs.declared.slot.Slot.{Slot}
use Rattle.swc_tree_node.specs.declared.node.Node.{Node, List as Many, Identifier, Tree, out-Node, the_lemmas}
use Rattle.swc_tree_node.specs.declared.node.Node.TheOpen.{Node-F}
use Rattle.swc_tree_node.specs.Table.{slots_of, is_identifier}
use Rattle.swc_tree_node.specs.Fits.{Fits, belongs}
use Rattle.swc_tree_node.proofs.Fit.{fits-Absent, fits-Flag, fits-Word, fits-Text, fits-Span, fits-List, fits-Identifier, tree_opens}
use Rattle.swc_tree_grammar.specs.Shapes.{items_in, items_of}
use Rattle.swc_tree_grammar.specs.Kinds.{has_kind, is_paren}
use Rattle.swc_tree_grammar.specs.Targets.{is_target, seen, target_in}
use Rattle.swc_tree_grammar.proofs.Induction.{by_children}
use Rattle.swc_tree_grammar.proofs.Places.{one}
use Rattle.swc_tree_grammar.proofs.Walks.{target_of_tree, target_of_list}
use Rattle.swc_tree_grammar_laws.proofs.Levelled.{half, also}
use Rattle.swc_tree_grammar_laws.proofs.Blocked.{no}
use Rattle.swc_base_fixer_laws.specs.Sets.{item}

-- kinds of which more may change than each part in its place
abbrev pub is_special : Kind → Bool
is_special kind.ParenExpr = true
is_special kind.SeqExpr = true
is_special kind.AssignExpr = true
is_special kind.Class = true
is_special kind.IfStmt = true
is_special _ = false

-- those of them that stay of their kind, and are no expressions
abbrev pub is_whole : Kind → Bool
is_whole kind.Class = true
is_whole kind.IfStmt = true
is_whole _ = false

mutual
  pub data Recasts : Slot → Node → Node → Type 0 where
    same : {s : Slot} (t : Node) → Recasts s t t
    items : {s : Slot} (ts us : List Node) → AllRecast (item s) ts us → Recasts s (Many ts) (Many us)
    tree : {s : Slot} (k : Kind) (ts us : List Node) → FieldsRecast (slots_of k) ts us → Recasts s (Tree k ts) (Tree k us)
    kind_kept : {s : Slot} (k : Kind) (ts us : List Node) → is_whole k ≡ true → Recasts s (Tree k ts) (Tree k us)
    expression : {s : Slot} (k : Kind) (ts : List Node) (u : Node) → is_special k ≡ true → Fits u (one class.Expr) → has_kind is_paren u ≡ false → (is_target (Tree k ts) ≡ true → is_target u ≡ true) → Recasts s (Tree k ts) u

  pub data AllRecast : Slot → List Node → List Node → Type 0 where
    none : {s : Slot} → AllRecast s [] []
    more : {s : Slot} {t u : Node} {ts us : List Node} → Recasts s t u → AllRecast s ts us → AllRecast s (t ∷ ts) (u ∷ us)

  pub data FieldsRecast : List Slot → List Node → List Node → Type 0 where
    nil : FieldsRecast [] [] []
    field : {s : Slot} {ss : List Slot} {t u : Node} {ts us : List Node} → Recasts s t u → FieldsRecast ss ts us → FieldsRecast (s ∷ ss) (t ∷ ts) (u ∷ us)

pub whole_special : (k : Kind) → is_whole k ≡ true → is_special k ≡ true
whole_special kind.Class h = refl
whole_special kind.IfStmt h = refl
whole_special k h = absurd (true≢false (sym h))

-- by a test of the node
module _ (X : Type 0) (look : Node-F Node → X) where
  pub tree_looks : (k : Kind) (ts : List Node) → look (out-Node (Tree k ts)) ≡ look (Node-F.Tree k ts)
  tree_looks k ts = search (rules, the_lemmas)

  pub list_looks : (ts : List Node) → look (out-Node (Many ts)) ≡ look (Node-F.List ts)
  list_looks ts = search (rules, the_lemmas)

  pub name_looks : (k : Kind) (i : Ident) → look (out-Node (Identifier k i)) ≡ look (Node-F.Identifier k i)
  name_looks k i = search (rules, the_lemmas)

  -- no expression meets it
  abbrev pub NoExpression : X → Type 0
  NoExpression off = (k : Kind) (ts : List Node) → belongs k class.Expr ≡ true → look (Node-F.Tree k ts) ≡ off

  abbrev pub NoName : X → Type 0
  NoName off = (k : Kind) (i : Ident) → (is_identifier k && belongs k class.Expr) ≡ true → look (Node-F.Identifier k i) ≡ off

  abbrev pub NoSpecial : X → Type 0
  NoSpecial off = (k : Kind) (ts : List Node) → is_special k ≡ true → look (Node-F.Tree k ts) ≡ off

  abbrev pub Rows : Type 0
  Rows = (k : Kind) (ts us : List Node) → FieldsRecast (slots_of k) ts us → look (Node-F.Tree k us) ≡ look (Node-F.Tree k ts)

  pub of_expression : (off : X) → NoExpression off → NoName off → (u : Node) → Fits u (one class.Expr) → look (out-Node u) ≡ off
  of_expression off e n u = by_children (λ u. Fits u (one class.Expr) → look (out-Node u) ≡ off) (
    λ h. absurd (no (sym (fits-Absent (one class.Expr)) ∙ h)),
    λ x h. absurd (no (sym (fits-Flag x (one class.Expr)) ∙ h)),
    λ w h. absurd (no (sym (fits-Word w (one class.Expr)) ∙ h)),
    λ x h. absurd (no (sym (fits-Text x (one class.Expr)) ∙ h)),
    λ r h. absurd (no (sym (fits-Span r (one class.Expr)) ∙ h)),
    λ k i h. name_looks k i ∙ n k i (sym (fits-Identifier k i (one class.Expr)) ∙ h),
  )
      (λ ts l h. absurd (no (sym (fits-List ts (one class.Expr)) ∙ h)))
      (λ k ts l h. tree_looks k ts ∙ e k ts ((tree_opens k ts class.Expr h).1)) u

  -- such a test stays
  pub seen_same : (off : X) → NoExpression off → NoName off → NoSpecial off → ((ts us : List Node) → look (Node-F.List us) ≡ look (Node-F.List ts)) → Rows → {s : Slot} {t u : Node} → Recasts s t u → look (out-Node u) ≡ look (out-Node t)
  seen_same off e n p l r (same t) = refl
  seen_same off e n p l r (items ts us d) = list_looks us ∙ l ts us ∙ sym (list_looks ts)
  seen_same off e n p l r (tree k ts us d) = tree_looks k us ∙ r k ts us d ∙ sym (tree_looks k ts)
  seen_same off e n p l r (kind_kept k ts us h) = tree_looks k us ∙ p k us (whole_special k h) ∙ sym (p k ts (whole_special k h)) ∙ sym (tree_looks k ts)
  seen_same off e n p l r (expression k ts u h f g x) = of_expression off e n u f ∙ sym (p k ts h) ∙ sym (tree_looks k ts)

-- a test that is met stays met
module _ (look : Node-F Node → Bool) where
  abbrev pub RowsUp : Type 0
  RowsUp = (k : Kind) (ts us : List Node) → FieldsRecast (slots_of k) ts us → look (Node-F.Tree k ts) ≡ true → look (Node-F.Tree k us) ≡ true

  pub seen_up : NoSpecial Bool look false → ((ts us : List Node) → look (Node-F.List us) ≡ look (Node-F.List ts)) → RowsUp → {s : Slot} {t u : Node} → Recasts s t u → look (out-Node t) ≡ true → look (out-Node u) ≡ true
  seen_up p l r (same t) h = h
  seen_up p l r (items ts us d) h = list_looks Bool look us ∙ l ts us ∙ sym (list_looks Bool look ts) ∙ h
  seen_up p l r (tree k ts us d) h = tree_looks Bool look k us ∙ r k ts us d (sym (tree_looks Bool look k ts) ∙ h)
  seen_up p l r (kind_kept k ts us x) h = absurd (no (sym (p k ts (whole_special k x)) ∙ sym (tree_looks Bool look k ts) ∙ h))
  seen_up p l r (expression k ts u x f g y) h = absurd (no (sym (p k ts x) ∙ sym (tree_looks Bool look k ts) ∙ h))

-- targets
bare_up : (k : Kind) (ts us : List Node) → is_whole k ≡ true → target_in (Node-F.Tree k (map seen us)) ≡ target_in (Node-F.Tree k (map seen ts))
bare_up kind.Class ts us h = refl
bare_up kind.IfStmt ts us h = refl
bare_up k ts us h = absurd (true≢false (sym h))

mutual
  pub target_up : {s : Slot} {t u : Node} → Recasts s t u → is_target t ≡ true → is_target u ≡ true
  target_up (same t) h = h
  target_up (items ts us d) h = target_of_list us ∙ only_target d (sym (target_of_list ts) ∙ h)
  target_up (tree kind.ParenExpr ts us (field a (field b nil))) h = target_of_tree kind.ParenExpr us ∙ target_up b (sym (target_of_tree kind.ParenExpr ts) ∙ h)
  target_up (tree kind.SeqExpr ts us (field a (field b nil))) h = target_of_tree kind.SeqExpr us ∙ target_up b (sym (target_of_tree kind.SeqExpr ts) ∙ h)
  target_up (tree k ts us d) h = target_of_tree k us ∙ sym (target_of_tree k ts) ∙ h
  target_up (kind_kept k ts us x) h = target_of_tree k us ∙ bare_up k ts us x ∙ sym (target_of_tree k ts) ∙ h
  target_up (expression k ts u x f g y) h = y h

  only_target : {s : Slot} {ts us : List Node} → AllRecast s ts us → target_in (Node-F.List (map seen ts)) ≡ true → target_in (Node-F.List (map seen us)) ≡ true
  only_target none h = h
  only_target (more c none) h = target_up c h
  only_target (more c (more d x)) h = h

-- the items of a list
items_many : (ts : List Node) → items_of (Many ts) ≡ ts
items_many ts = search (rules, the_lemmas)

no_items : (k : Kind) (ts : List Node) → items_of (Tree k ts) ≡ []
no_items k ts = search (rules, the_lemmas)

pub expression_items : (u : Node) → Fits u (one class.Expr) → items_of u ≡ []
expression_items u f = of_expression (List Node) items_in [] (λ k ts h. refl) (λ k i h. refl) u f

pub of_items : (X : Type 0) (f : List Node → X) {s : Slot} → ((ts us : List Node) → AllRecast (item s) ts us → f us ≡ f ts) → {t u : Node} → Recasts s t u → f (items_of u) ≡ f (items_of t)
of_items X f g (same t) = refl
of_items X f g (items ts us d) = ap f (items_many us) ∙ g ts us d ∙ sym (ap f (items_many ts))
of_items X f g (tree k ts us d) = ap f (no_items k us) ∙ sym (ap f (no_items k ts))
of_items X f g (kind_kept k ts us h) = ap f (no_items k us) ∙ sym (ap f (no_items k ts))
of_items X f g (expression k ts u h a b c) = ap f (expression_items u a) ∙ sym (ap f (no_items k ts))

pub items_up : (f : List Node → Bool) {s : Slot} → ((ts us : List Node) → AllRecast (item s) ts us → f ts ≡ true → f us ≡ true) → {t u : Node} → Recasts s t u → f (items_of t) ≡ true → f (items_of u) ≡ true
items_up f g (same t) e = e
items_up f g (items ts us d) e = ap f (items_many us) ∙ g ts us d (sym (ap f (items_many ts)) ∙ e)
items_up f g (tree k ts us d) e = ap f (no_items k us) ∙ sym (ap f (no_items k ts)) ∙ e
items_up f g (kind_kept k ts us h) e = ap f (no_items k us) ∙ sym (ap f (no_items k ts)) ∙ e
items_up f g (expression k ts u h a b c) e = ap f (expression_items u a) ∙ sym (ap f (no_items k ts)) ∙ e

pub same_length : {s : Slot} {ts us : List Node} → AllRecast s ts us → length us ≡ length ts
same_length none = refl
same_length (more c d) = ap suc (same_length d)

pub all_up : (q : Node → Bool) {s : Slot} → ((t u : Node) → Recasts s t u → q t ≡ true → q u ≡ true) → {ts us : List Node} → AllRecast s ts us → list_all q ts ≡ true → list_all q us ≡ true
all_up q f none h = refl
all_up q f (more {t = t} {u = u} c d) h = let p = half h in also (f t u c p.0) (all_up q f d p.1)

pub all_same : (q : Node → Bool) {s : Slot} → ((t u : Node) → Recasts s t u → q u ≡ q t) → {ts us : List Node} → AllRecast s ts us → list_all q us ≡ list_all q ts
all_same q f none = refl
all_same q f (more {t = t} {u = u} c d) = rw (f t u c, all_same q f d) refl
