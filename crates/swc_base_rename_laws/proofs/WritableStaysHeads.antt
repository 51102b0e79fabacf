-- Whether an expression is an optional chain or a string, pairs taken off, stays when names are given anew.
use Rattle.std.proofs.Common.{◌≡◌, ℕ, Bool, true, false, IsTrue, Option, None, List, [], ◌∷◌, map, rules, refl, sym, ap, ◌∙◌}
use Rattle.std.specs.Prelude.{is_some}
use Rattle.swc_tree_marks.specs.declared.ident.Ident.{Ident}
use Rattle.swc_tree_node.specs.declared.kind.Kind.{Kind}
use Rattle.swc_tree_node.specs.declared.kind.Kind.TheVariants as kind
use Rattle.swc_tree_node.specs.declared.kind.Class.TheVariants as class
use Rattle.swc_tree_node.specs.declared.slot.Content.TheVariants as content
use Rattle.swc_tree_node.specs.declared.slot.Slot.{Slot}
use Rattle.swc_tree_node.specs.declared.slot.Slot.TheVariants as slot
use Rattle.swc_tree_node.specs.declared.node.Node.{Node, List as Many, Identifier, Tree, out-Node, the_lemmas}
use Rattle.swc_tree_node.specs.declared.node.Node.TheVariants.{outs-Identifier, outs-Tree, rolls-Tree}
use Rattle.swc_tree_node.specs.declared.node.Node.TheOpen.{Node-F}
use Rattle.swc_tree_node.specs.Table.{slots_of}
use Rattle.swc_tree_node.specs.Fits.{FieldsFit, Fits, belongs, fits}
use Rattle.swc_tree_node.proofs.Fit.{fits-List, fits-Tree, tree_opens}
use Rattle.swc_tree_scoping.specs.Places.{literal_in, text_in}
use Rattle.swc_tree_grammar.specs.Kinds.{has_kind_in, is_chain, is_opt_chain}
use Rattle.swc_tree_grammar.specs.Stripped.{settled, stripped}
use Rattle.swc_tree_grammar.specs.Writable.{Round, binding, is_string, sound_in}
use Rattle.swc_tree_grammar.proofs.Asked.{of, sound, sound_tree}
use Rattle.swc_tree_grammar.proofs.Induction.{Each, by_children}
use Rattle.swc_tree_grammar.proofs.Stripped.{stripped_of_tree}
use Rattle.swc_base_rename_substitution.specs.declared.place.Place.{Place}
use Rattle.swc_base_rename_substitution.specs.declared.place.Place.TheVariants as place
use Rattle.swc_base_rename_substitution.specs.Identifiers.{Changes, changed, writes_out}
use Rattle.swc_base_rename_substitution.specs.Substituted.{substituted}
use Rattle.swc_base_rename_substitution.proofs.Equations.{substituted-Absent, substituted-Flag, substituted-Word, substituted-Text, substituted-Span, substituted_identifier}
use Rattle.swc_base_rename_substitution.proofs.KeptFits.{keeps_fit}
use Rattle.swc_base_rename_substitution.proofs.Room.{is_short, left, right}
use Rattle.swc_base_rename_laws.specs.Laws.{GivesNames}
use Rattle.swc_base_rename_laws.proofs.WritableStaysShape.{fields, plain_tree, renamed}
use Rattle.swc_base_rename_laws.proofs.WritableStaysForms.{text_same}
use Rattle.swc_base_rename_laws.proofs.WritableStaysStripped.{first_sound, is_full, items, rest_sound, sequence_strips}
use Rattle.swc_base_rename_laws.proofs.Impossible.{impossible}

abbrev head_in : Node-F Node → Bool × Option (List ℕ)
head_in y = (has_kind_in is_opt_chain y, literal_in y)

-- whether a node is an optional chain, and the text of a string
abbrev head : Node → Bool × Option (List ℕ)
head t = head_in (out-Node t)

abbrev expr : Slot
expr = slot.One (content.Node class.Expr)

head_tree : (t : Node) (k : Kind) (us : List Node) → stripped t ≡ Tree k us → head (stripped t) ≡ head_in (Node-F.Tree k us)
head_tree t k us e = ap head e ∙ ap head_in (outs-Tree k us)

head_name : (k : Kind) (i : Ident) → head (stripped (Identifier k i)) ≡ (false, None)
head_name k i = let s : stripped (Identifier k i) ≡ Identifier k i = search (rules, the_lemmas) in ap head s ∙ ap head_in (outs-Identifier k i)

-- a sequence of expressions that can be written down
head_sequence : (a b : Node) (r : Round) → Fits b (slot.List (content.Node class.Expr)) → sound_in (Node-F.Tree kind.SeqExpr (of a ∷ of b ∷ [])) r ≡ true → head (stripped (Tree kind.SeqExpr (a ∷ b ∷ []))) ≡ (false, None)
head_sequence a b r f h =
    let w = (is_full b r (right _ _ h)).1 class.Expr f (left _ _ h) in
    head_tree (Tree kind.SeqExpr (a ∷ b ∷ [])) kind.SeqExpr (stripped a ∷ Many (settled (items b)) ∷ []) (sequence_strips a b w.0 w.1)

-- a text is as it was
text_of_text : (t : Node) → Fits t (slot.One content.Text) → text_in (out-Node (stripped t)) ≡ text_in (out-Node t)
text_of_text t = by_children (λ t. Fits t (slot.One content.Text) → text_in (out-Node (stripped t)) ≡ text_in (out-Node t)) (
  λ f. search (rules, the_lemmas),
  λ x f. search (rules, the_lemmas),
  λ w f. search (rules, the_lemmas),
  λ x f. search (rules, the_lemmas),
  λ s f. search (rules, the_lemmas),
  λ k i f. search (rules, the_lemmas),
)
    (λ ts l f. (let never : fits (Many ts) (slot.One content.Text) ≡ false = fits-List ts (slot.One content.Text) in absurd (cc)))
    (λ k ts l f. (let never : fits (Tree k ts) (slot.One content.Text) ≡ false = fits-Tree k ts (slot.One content.Text) in absurd (cc))) t

head_string : (a b c : Node) → Fits b (slot.One content.Text) → head (stripped (Tree kind.Str (a ∷ b ∷ c ∷ []))) ≡ (false, text_in (out-Node b))
head_string a b c f =
    let us : List Node = stripped a ∷ stripped b ∷ stripped c ∷ [] in
    head_tree (Tree kind.Str (a ∷ b ∷ c ∷ [])) kind.Str us (stripped_of_tree kind.Str (a ∷ b ∷ c ∷ []) ∙ rolls-Tree kind.Str us)
    ∙ ap (λ (x : Option (List ℕ)). let q : Bool × Option (List ℕ) = (false, x) in q) (text_of_text b f)

-- no expression writes a name out
expr_plain : (k : Kind) → IsTrue (belongs k class.Expr) → writes_out k ≡ false
expr_plain kind.AssignPatProp h = impossible h
expr_plain kind.ImportNamedSpecifier h = impossible h
expr_plain kind.ExportNamedSpecifier h = impossible h
expr_plain k h = refl

module _ (m : Changes) (g : GivesNames m) where
  pub expr_fits : (p : Place) → is_short p ≡ false → (t : Node) → Fits t expr → Fits (substituted m false p t) expr
  expr_fits p n t f = keeps_fit m false t p expr refl (λ s. absurd (cc)) f

  exprs_fit : (p : Place) → is_short p ≡ false → (t : Node) → Fits t (slot.List (content.Node class.Expr)) → Fits (substituted m false p t) (slot.List (content.Node class.Expr))
  exprs_fit p n t f = keeps_fit m false t p (slot.List (content.Node class.Expr)) refl (λ s. absurd (cc)) f

  text_fits : (p : Place) → is_short p ≡ false → (t : Node) → Fits t (slot.One content.Text) → Fits (substituted m false p t) (slot.One content.Text)
  text_fits p n t f = keeps_fit m false t p (slot.One content.Text) refl (λ s. absurd (cc)) f

  abbrev SameHead : Node → Type 0
  SameHead t = (p : Place) (r : Round) → is_short p ≡ false → Fits t expr → sound t r ≡ true → sound (substituted m false p t) r ≡ true → head (stripped (substituted m false p t)) ≡ head (stripped t)

  row : (p : Place) (k : Kind) (ts : List Node) (r : Round) → Each SameHead ts → Fits (Tree k ts) expr → FieldsFit (slots_of k) ts → sound_in (Node-F.Tree k (map of ts)) r ≡ true → sound_in (Node-F.Tree k (map of (fields m p k ts))) r ≡ true
      → head (stripped (substituted m false p (Tree k ts))) ≡ head (stripped (Tree k ts))
  row p kind.ParenExpr (a ∷ b ∷ []) r l w f h h' =
      ap (λ u. head (stripped u)) (plain_tree m p kind.ParenExpr (a ∷ b ∷ []) refl) ∙ ap head (stripped_of_tree kind.ParenExpr (fields m p kind.ParenExpr (a ∷ b ∷ [])))
      ∙ l.1.0 place.Name (binding r) refl f.1.0 (first_sound b [] (binding r) (rest_sound a (of b ∷ []) (binding r) h))
      (first_sound (substituted m false place.Name b) [] (binding r) (rest_sound (substituted m false place.Other a) (of (substituted m false place.Name b) ∷ []) (binding r) h'))
      ∙ sym (ap head (stripped_of_tree kind.ParenExpr (a ∷ b ∷ [])))
  row p kind.SeqExpr (a ∷ b ∷ []) r l w f h h' =
      ap (λ u. head (stripped u)) (plain_tree m p kind.SeqExpr (a ∷ b ∷ []) refl) ∙ head_sequence (substituted m false place.Other a) (substituted m false place.Name b) r (exprs_fit place.Name refl b f.1.0) h'
      ∙ sym (head_sequence a b r f.1.0 h)
  row p kind.Str (a ∷ b ∷ c ∷ []) r l w f h h' =
      ap (λ u. head (stripped u)) (plain_tree m p kind.Str (a ∷ b ∷ c ∷ []) refl)
      ∙ head_string (substituted m false place.Other a) (substituted m false place.Other b) (substituted m false place.Other c) (text_fits place.Other refl b f.1.0)
      ∙ ap (λ (x : Option (List ℕ)). let q : Bool × Option (List ℕ) = (false, x) in q) (text_same m g place.Other refl b)
      ∙ sym (head_string a b c f.1.0)
  row p kind.Str [] r l w f h h' = absurd f
  row p kind.Str (a ∷ []) r l w f h h' = absurd f.1
  row p kind.Str (a ∷ b ∷ []) r l w f h h' = absurd f.1.1
  row p kind.Str (a ∷ b ∷ c ∷ d ∷ ts) r l w f h h' = absurd f.1.1.1
  row p kind.AssignExpr (a ∷ b ∷ c ∷ d ∷ []) r l w f h h' =
      ap (λ u. head (stripped u)) (plain_tree m p kind.AssignExpr (a ∷ b ∷ c ∷ d ∷ []) refl)
      ∙ head_tree (Tree kind.AssignExpr (fields m p kind.AssignExpr (a ∷ b ∷ c ∷ d ∷ []))) kind.AssignExpr _ (stripped_of_tree kind.AssignExpr (fields m p kind.AssignExpr (a ∷ b ∷ c ∷ d ∷ [])))
      ∙ sym (head_tree (Tree kind.AssignExpr (a ∷ b ∷ c ∷ d ∷ [])) kind.AssignExpr _ (stripped_of_tree kind.AssignExpr (a ∷ b ∷ c ∷ d ∷ [])))
  row p kind.Class (a ∷ b ∷ c ∷ []) r l w f h h' = impossible (tree_opens kind.Class (a ∷ b ∷ c ∷ []) class.Expr w).1
  row p kind.AssignPatProp ts r l w f h h' = impossible (tree_opens kind.AssignPatProp ts class.Expr w).1
  row p kind.ImportNamedSpecifier ts r l w f h h' = impossible (tree_opens kind.ImportNamedSpecifier ts class.Expr w).1
  row p kind.ExportNamedSpecifier ts r l w f h h' = impossible (tree_opens kind.ExportNamedSpecifier ts class.Expr w).1
  row p k ts r l w f h h' =
      ap (λ u. head (stripped u)) (plain_tree m p k ts refl)
      ∙ head_tree (Tree k (fields m p k ts)) k (map stripped (fields m p k ts)) (stripped_of_tree k (fields m p k ts) ∙ rolls-Tree k (map stripped (fields m p k ts)))
      ∙ sym (head_tree (Tree k ts) k (map stripped ts) (stripped_of_tree k ts ∙ rolls-Tree k (map stripped ts)))

  tree_head : (k : Kind) (ts : List Node) → Each SameHead ts → SameHead (Tree k ts)
  tree_head k ts l p r n f h h' =
      let w = tree_opens k ts class.Expr f in
      let plain : substituted m false p (Tree k ts) ≡ Tree k (fields m p k ts) = plain_tree m p k ts (expr_plain k w.1) in
      row p k ts r l f w.2 (sym (sound_tree k ts r) ∙ h) (sym (ap (λ u. sound u r) plain ∙ sound_tree k (fields m p k ts) r) ∙ h')

  pub head_same : (t : Node) → SameHead t
  head_same t = by_children SameHead (
    λ p r n f h h'. ap (λ u. head (stripped u)) (substituted-Absent m false p),
    λ x p r n f h h'. ap (λ u. head (stripped u)) (substituted-Flag m false p x),
    λ w p r n f h h'. ap (λ u. head (stripped u)) (substituted-Word m false p w),
    λ x p r n f h h'. ap (λ u. head (stripped u)) (substituted-Text m false p x),
    λ s p r n f h h'. ap (λ u. head (stripped u)) (substituted-Span m false p s),
    λ k i p r n f h h'. (let w = renamed m g p k i (changed m p i) n refl in
        ap (λ u. head (stripped u)) (substituted_identifier m false p k i ∙ w.1) ∙ head_name k w.0 ∙ sym (head_name k i)),
  )
      (λ ts l p r n f h h'. (let never : fits (Many ts) expr ≡ false = fits-List ts expr in absurd (cc))) tree_head t

  pub chain_same : (p : Place) (r : Round) → is_short p ≡ false → (t : Node) → Fits t expr → sound t r ≡ true → sound (substituted m false p t) r ≡ true
      → is_chain (stripped (substituted m false p t)) ≡ is_chain (stripped t)
  chain_same p r n t f h h' = ap (λ x. x.0) (head_same t p r n f h h')

  pub string_same : (p : Place) (r : Round) → is_short p ≡ false → (t : Node) → Fits t expr → sound t r ≡ true → sound (substituted m false p t) r ≡ true
      → is_string (stripped (substituted m false p t)) ≡ is_string (stripped t)
  string_same p r n t f h h' = ap (λ x. is_some x.1) (head_same t p r n f h h')
