-- What the rows of the grammar ask of the parts of a node, where its names are given anew.
use Rattle.std.proofs.Common.{◌≡◌, ℕ, Bool, true, false, not, IsTrue, Some, List, [], ◌∷◌, length, rules, refl, sym, ap, ◌∙◌, subst, inl, inr}
use Rattle.std.specs.Prelude.{if◌then◌else◌}
use Rattle.std.specs.List.{list_all, list_any}
use Rattle.swc_tree_marks.specs.declared.ident.Ident.{Ident}
use Rattle.swc_tree_node.specs.declared.kind.Kind.{Kind}
use Rattle.swc_tree_node.specs.declared.kind.Kind.TheVariants as kind
use Rattle.swc_tree_node.specs.declared.kind.Class.{Class}
use Rattle.swc_tree_node.specs.declared.slot.Content.TheVariants as content
use Rattle.swc_tree_node.specs.declared.slot.Slot.{Slot}
use Rattle.swc_tree_node.specs.declared.slot.Slot.TheVariants as slot
use Rattle.swc_tree_node.specs.declared.node.Node.{Node, Absent, Flag, Word, Text, Span, List as Many, Identifier, Tree, out-Node, roll-Node, roll-out-Node, the_lemmas}
use Rattle.swc_tree_node.specs.declared.node.Node.TheVariants.{outs-Identifier, outs-List, outs-Tree, rolls-Tree}
use Rattle.swc_tree_node.specs.declared.node.Node.TheOpen.{Node-F}
use Rattle.swc_tree_node.specs.Fits.{AllFit, Fits, belongs, single}
use Rattle.swc_tree_node.proofs.Fit.{holes_open, list_opens}
use Rattle.swc_tree_scoping.specs.Places.{block_in, has_use_strict}
use Rattle.swc_tree_grammar.specs.Shapes.{items_in, items_of}
use Rattle.swc_tree_grammar.specs.Forms.{is_body, is_branch, is_strict, is_using}
use Rattle.swc_tree_grammar.specs.Writable.{Round, assigning, branch, elements, head, is_bindable, loop_body, name_is, no_using, one_bare, strictly}
use Rattle.swc_tree_grammar.proofs.Asked.{of, in_head, sound, sound_list}
use Rattle.swc_tree_grammar.proofs.Induction.{by_children}
use Rattle.swc_base_rename_substitution.specs.declared.place.Place.{Place}
use Rattle.swc_base_rename_substitution.specs.declared.place.Place.TheVariants as place
use Rattle.swc_base_rename_substitution.specs.Identifiers.{Changes, changed}
use Rattle.swc_base_rename_substitution.specs.Substituted.{substituted}
use Rattle.swc_base_rename_substitution.specs.Walk.{is_exported_declaration, is_exported_in, items_substituted}
use Rattle.swc_base_rename_substitution.proofs.Equations.{substituted-Absent, substituted-Flag, substituted-Word, substituted-Text, substituted-Span, substituted_identifier, substituted_list}
use Rattle.swc_base_rename_substitution.proofs.Lists.{each_length}
use Rattle.swc_base_rename_substitution.proofs.Room.{is_short, left, tree_open}
use Rattle.swc_base_rename_laws.specs.Laws.{GivesNames}
use Rattle.swc_base_rename_laws.proofs.WritableStaysShape.{Even, IsNew, even_at, fields, renamed}
use Rattle.swc_base_rename_laws.proofs.WritableStaysForms.{declares_same, form_same, is_list_in, list_same}
use Rattle.swc_base_rename_laws.proofs.WritableStaysNames.{bindable_text, both_true}
use Rattle.swc_base_rename_laws.proofs.WritableStaysLists.{Le, items_each, no_using_items, unexported, use_strict_items}
use Rattle.swc_base_rename_laws.proofs.WritableStaysPatterns.{and_le, elements_le, one_bare_le, pattern_le, same_le}

-- ---- lists whose place takes no exported declaration

no_export : (c : Class) (t : Node) (s : Slot) → single s ≡ Some (content.Node c) → belongs kind.ExportDecl c ≡ false → Fits t s → is_exported_declaration t ≡ false
no_export c t s e b f = at (out-Node t) refl
  where
    at : (y : Node-F Node) → out-Node t ≡ y → is_exported_in y ≡ false
    at (Node-F.Tree kind.ExportDecl ts) o =
        let is : t ≡ Tree kind.ExportDecl ts = sym (roll-out-Node t) ∙ ap roll-Node o ∙ rolls-Tree kind.ExportDecl ts in
        let w = tree_open kind.ExportDecl ts s (subst (λ u. Fits u s) is f) in
        let same : w.0 ≡ c = let q = w.1 in cc in
        let never : IsTrue (belongs kind.ExportDecl c) = subst (λ d. IsTrue (belongs kind.ExportDecl d)) same w.3 in
        absurd (cc)
    at (Node-F.Tree k ts) o = refl
    at y o = refl

no_exports_in : (c : Class) (s : Slot) (ts : List Node) → single s ≡ Some (content.Node c) → belongs kind.ExportDecl c ≡ false → AllFit s ts → list_any is_exported_declaration ts ≡ false
no_exports_in c s [] e b f = refl
no_exports_in c s (t ∷ ts) e b f = rw (no_export c t s e b f.0, no_exports_in c s ts e b f.1) refl

not_listed : (t : Node) → items_of t ≡ [] → unexported t
not_listed t e = ap (list_any is_exported_declaration) e

pub list_unexported : (c : Class) → belongs kind.ExportDecl c ≡ false → (t : Node) → Fits t (slot.List (content.Node c)) → unexported t
list_unexported c b t = by_children (λ t. Fits t (slot.List (content.Node c)) → unexported t) (
  λ f. not_listed Absent (search (rules, the_lemmas)),
  λ x f. not_listed (Flag x) (search (rules, the_lemmas)),
  λ w f. not_listed (Word w) (search (rules, the_lemmas)),
  λ x f. not_listed (Text x) (search (rules, the_lemmas)),
  λ s f. not_listed (Span s) (search (rules, the_lemmas)),
  λ k i f. not_listed (Identifier k i) (ap items_in (outs-Identifier k i)),
)
    (λ ts l f. ap (λ y. list_any is_exported_declaration (items_in y)) (outs-List ts) ∙ no_exports_in c (slot.One (content.Node c)) ts refl b (list_opens ts (content.Node c) f))
    (λ k ts l f. not_listed (Tree k ts) (ap items_in (outs-Tree k ts))) t

pub holes_unexported : (c : Class) → belongs kind.ExportDecl c ≡ false → (t : Node) → Fits t (slot.Holes (content.Node c)) → unexported t
holes_unexported c b t = by_children (λ t. Fits t (slot.Holes (content.Node c)) → unexported t) (
  λ f. not_listed Absent (search (rules, the_lemmas)),
  λ x f. not_listed (Flag x) (search (rules, the_lemmas)),
  λ w f. not_listed (Word w) (search (rules, the_lemmas)),
  λ x f. not_listed (Text x) (search (rules, the_lemmas)),
  λ s f. not_listed (Span s) (search (rules, the_lemmas)),
  λ k i f. not_listed (Identifier k i) (ap items_in (outs-Identifier k i)),
)
    (λ ts l f. ap (λ y. list_any is_exported_declaration (items_in y)) (outs-List ts) ∙ no_exports_in c (slot.Optional (content.Node c)) ts refl b (holes_open ts (content.Node c) f))
    (λ k ts l f. not_listed (Tree k ts) (ap items_in (outs-Tree k ts))) t

-- what is asked in strict code, where a body stays strict or not
pub strict_le : {F G : Round → Bool} (b c : Bool) (r : Round) → c ≡ b → ((r : Round) → Le (F r) (G r)) → Le (F (strictly b r)) (G (strictly c r))
strict_le {G = G} b c r e h x = subst (λ c. G (strictly c r) ≡ true) (sym e) (h (strictly b r) x)

pub if_le : {x x' y y' : Bool} (b c : Bool) → c ≡ b → Le x x' → Le y y' → Le (if b then x else y) (if c then x' else y')
if_le true true e f g h = f h
if_le true false e f g h = absurd (cc)
if_le false true e f g h = absurd (cc)
if_le false false e f g h = g h

module _ (m : Changes) (g : GivesNames m) where
  pub length_same : (q : Place) (t : Node) → unexported t → length (items_of (substituted m false q t)) ≡ length (items_of t)
  length_same q t u = ap length (items_each m g q t u) ∙ each_length m false (λ i. q) (items_of t)

  pub elements_of_le : (q : Place) → is_short q ≡ false → (t : Node) → unexported t → (r : Round) → Le (elements r (items_of t)) (elements r (items_of (substituted m false q t)))
  elements_of_le q n t u r h = ap (elements r) (items_each m g q t u) ∙ elements_le m g q n (items_of t) r h

  pub one_bare_of_le : (q : Place) → is_short q ≡ false → (t : Node) → unexported t → Le (one_bare (items_of t)) (one_bare (items_of (substituted m false q t)))
  one_bare_of_le q n t u h = ap one_bare (items_each m g q t u) ∙ one_bare_le m g q n (items_of t) h

  -- ---- directives

  strict_lists : Even m (λ y. has_use_strict (items_in y))
  strict_lists = record { trees = λ p k ts. refl; properties = λ us vs. refl; imports = λ i us. refl; exports = λ i us. refl; names = λ k i j. refl; lists = use_strict_items m g }

  pub strict_list_same : (p : Place) → is_short p ≡ false → (t : Node) → has_use_strict (items_of (substituted m false p t)) ≡ has_use_strict (items_of t)
  strict_list_same = even_at m (λ y. has_use_strict (items_in y)) strict_lists g

  strict_trees : (p : Place) (k : Kind) (ts : List Node) → has_use_strict (block_in (Node-F.Tree k (fields m p k ts))) ≡ has_use_strict (block_in (Node-F.Tree k ts))
  strict_trees p kind.BlockStmt [] = refl
  strict_trees p kind.BlockStmt (a ∷ []) = refl
  strict_trees p kind.BlockStmt (a ∷ b ∷ ts) = strict_list_same place.Other refl b
  strict_trees p k ts = refl

  stricts : Even m (λ y. has_use_strict (block_in y))
  stricts = record { trees = strict_trees; properties = λ us vs. refl; imports = λ i us. refl; exports = λ i us. refl; names = λ k i j. refl; lists = λ p ts. refl }

  pub strict_same : (p : Place) → is_short p ≡ false → (t : Node) → is_strict (substituted m false p t) ≡ is_strict t
  strict_same = even_at m (λ y. has_use_strict (block_in y)) stricts g

  -- ---- bound names

  weaker : (b : Bool) (x : List ℕ) → is_bindable true x ≡ true → is_bindable b x ≡ true
  weaker true x h = h
  weaker false x h = both_true (left _ _ h) refl

  new_bound : (b : Bool) (i j : Ident) → IsNew i j → is_bindable b i.sym ≡ true → is_bindable b j.sym ≡ true
  new_bound b i j (inl e) h = ap (is_bindable b) e ∙ h
  new_bound b i j (inr e) h = weaker b j.sym (e (bindable_text b i.sym h))

  same_name : (b : Bool) (t u : Node) → u ≡ t → Le (name_is b (out-Node t)) (name_is b (out-Node u))
  same_name b t u e = same_le (ap (λ v. name_is b (out-Node v)) e)

  pub bound_le : (b : Bool) (t : Node) (p : Place) → is_short p ≡ false → Le (name_is b (out-Node t)) (name_is b (out-Node (substituted m false p t)))
  bound_le b t p n = by_children (λ t. Le (name_is b (out-Node t)) (name_is b (out-Node (substituted m false p t)))) (
    same_name b Absent _ (substituted-Absent m false p),
    λ x. same_name b (Flag x) _ (substituted-Flag m false p x),
    λ w. same_name b (Word w) _ (substituted-Word m false p w),
    λ x. same_name b (Text x) _ (substituted-Text m false p x),
    λ s. same_name b (Span s) _ (substituted-Span m false p s),
    λ k i h. (let w = renamed m g p k i (changed m p i) n refl in
        ap (λ v. name_is b (out-Node v)) (substituted_identifier m false p k i ∙ w.1) ∙ ap (name_is b) (outs-Identifier k w.0) ∙ new_bound b i w.0 w.2 (sym (ap (name_is b) (outs-Identifier k i)) ∙ h)),
  )
      (λ ts l h. (let never : name_is b (out-Node (Many ts)) ≡ false = ap (name_is b) (outs-List ts) in absurd (cc)))
      (λ k ts l h. (let never : name_is b (out-Node (Tree k ts)) ≡ false = ap (name_is b) (outs-Tree k ts) in absurd (cc))) t

  -- ---- statements

  pub loop_le : (p : Place) → is_short p ≡ false → (t : Node) (r : Round) → Le (sound t r) (sound (substituted m false p t) r) → Le (loop_body (of t) r) (loop_body (of (substituted m false p t)) r)
  loop_le p n t r h = and_le (same_le (ap is_body (form_same m g p n t))) h

  pub branch_le : (p : Place) → is_short p ≡ false → (t : Node) (r : Round) → Le (sound t r) (sound (substituted m false p t) r) → Le (branch (of t) r) (branch (of (substituted m false p t)) r)
  branch_le p n t r h = and_le (same_le (ap (is_branch r.strict) (form_same m g p n t))) h

  no_items_using : (t : Node) → items_of t ≡ [] → list_all (λ u. not (is_using u)) (items_of t) ≡ true
  no_items_using t e = ap (list_all (λ u. not (is_using u))) e

  unlisted : (q : Place) (t : Node) → is_list_in (out-Node t) ≡ false → items_of (substituted m false q t) ≡ []
  unlisted q t h = none (out-Node (substituted m false q t)) (list_same m g q t ∙ h)
    where
      none : (y : Node-F Node) → is_list_in y ≡ false → items_in y ≡ []
      none (Node-F.List ts) h = absurd (cc)
      none y h = refl

  pub no_using_le : (p : Place) → is_short p ≡ false → (t : Node) (r : Round) → sound t r ≡ true → Le (no_using (of t)) (no_using (of (substituted m false p t)))
  no_using_le p n t r = by_children (λ t. sound t r ≡ true → Le (list_all (λ u. not (is_using u)) (items_of t)) (list_all (λ u. not (is_using u)) (items_of (substituted m false p t)))) (
    λ s h. no_items_using (substituted m false p Absent) (unlisted p Absent (search (rules, the_lemmas))),
    λ x s h. no_items_using (substituted m false p (Flag x)) (unlisted p (Flag x) (search (rules, the_lemmas))),
    λ w s h. no_items_using (substituted m false p (Word w)) (unlisted p (Word w) (search (rules, the_lemmas))),
    λ x s h. no_items_using (substituted m false p (Text x)) (unlisted p (Text x) (search (rules, the_lemmas))),
    λ x s h. no_items_using (substituted m false p (Span x)) (unlisted p (Span x) (search (rules, the_lemmas))),
    λ k i s h. no_items_using (substituted m false p (Identifier k i)) (unlisted p (Identifier k i) (ap is_list_in (outs-Identifier k i))),
  )
      (λ ts l s h. ap (λ u. list_all (λ u. not (is_using u)) (items_of u)) (substituted_list m false p ts)
      ∙ ap (λ y. list_all (λ u. not (is_using u)) (items_in y)) (outs-List (items_substituted m false p ts))
      ∙ no_using_items m g p n ts r (sym (sound_list ts r) ∙ s) (sym (ap (λ y. list_all (λ u. not (is_using u)) (items_in y)) (outs-List ts)) ∙ h))
      (λ k ts l s h. no_items_using (substituted m false p (Tree k ts)) (unlisted p (Tree k ts) (ap is_list_in (outs-Tree k ts)))) t

  -- the head of a `for` in or of
  pub head_le : (p : Place) → is_short p ≡ false → (t : Node) (r : Round) → ((r : Round) → Le (sound t r) (sound (substituted m false p t) r)) → ((r : Round) → Le (in_head t r) (in_head (substituted m false p t) r))
      → Le (head (of t) r) (head (of (substituted m false p t)) r)
  head_le p n t r s h = if_le _ _ (declares_same m g p n t) (h r) (and_le (pattern_le m g p n t (assigning r)) (s (assigning r)))
