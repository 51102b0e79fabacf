-- What is left of a tree that is stripped: its names are among those of the tree, with the same round them.
use Rattle.std.proofs.Common.{◌≡◌, Bool, true, false, not, IsTrue, List, [], ◌∷◌, map, refl, sym, ap, ◌∙◌, rules, true≢false}
use Rattle.swc_tree_marks.specs.declared.ident.Ident.{Ident}
use Rattle.swc_tree_node.specs.declared.kind.Kind.{Kind}
use Rattle.swc_tree_node.specs.declared.kind.Kind.TheVariants as kind
use Rattle.swc_tree_node.specs.declared.kind.Class.TheVariants as class
use Rattle.swc_tree_node.specs.declared.slot.Slot.{Slot}
use Rattle.swc_tree_node.specs.declared.node.Node.{Node, Absent, Flag, Tree, out-Node, the_lemmas}
use Rattle.swc_tree_node.specs.declared.node.Node.TheOpen.{Node-F}
use Rattle.swc_tree_node.specs.declared.node.Node.TheVariants.{outs-List, outs-Tree, outs-Identifier, rolls-Tree}
use Rattle.swc_tree_node.specs.Table.{is_identifier, slots_of}
use Rattle.swc_tree_node.specs.Fits.{FieldsFit, Fits, belongs}
use Rattle.swc_tree_node.proofs.Fit.{fits-Absent, fits-Flag, fits-Word, fits-Text, fits-Span, fits-List, tree_closes}
use Rattle.swc_tree_grammar.specs.Stripped.{stripped}
use Rattle.swc_tree_grammar.specs.Targets.{all_bare}
use Rattle.swc_tree_grammar.proofs.Induction.{by_children}
use Rattle.swc_tree_grammar.proofs.Items.{expr}
use Rattle.swc_tree_grammar.proofs.Kept.{stripped_fits}
use Rattle.swc_tree_grammar.proofs.Places.{stands}
use Rattle.swc_tree_grammar.proofs.Stripped.{stripped_of_list, stripped_of_tree, stripped_other}

-- pairs and sequences become what is in them
abbrev pub is_pair_kind : Kind → Bool
is_pair_kind kind.ParenExpr = true
is_pair_kind kind.SeqExpr = true
is_pair_kind _ = false

abbrev pub pair_in : Node-F Node → Bool
pair_in (Node-F.Tree k ts) = is_pair_kind k
pair_in _ = false

abbrev pub is_pair : Node → Bool
is_pair t = pair_in (out-Node t)

-- any other node stays what it is, with other nodes below it
pub tree_stays : (k : Kind) (ts : List Node) → is_pair_kind k ≡ false → (us : List Node) × (stripped (Tree k ts) ≡ Tree k us)
tree_stays kind.ParenExpr ts h = absurd (cc)
tree_stays kind.SeqExpr ts h = absurd (cc)
tree_stays kind.AssignExpr (a ∷ b ∷ c ∷ d ∷ []) h = (_, stripped_of_tree kind.AssignExpr (a ∷ b ∷ c ∷ d ∷ []))
tree_stays kind.AssignExpr [] h = (_, stripped_of_tree kind.AssignExpr [] ∙ rolls-Tree kind.AssignExpr [])
tree_stays kind.AssignExpr (a ∷ []) h = (_, stripped_of_tree kind.AssignExpr (a ∷ []) ∙ rolls-Tree kind.AssignExpr (stripped a ∷ []))
tree_stays kind.AssignExpr (a ∷ b ∷ []) h = (_, stripped_of_tree kind.AssignExpr (a ∷ b ∷ []) ∙ rolls-Tree kind.AssignExpr (stripped a ∷ stripped b ∷ []))
tree_stays kind.AssignExpr (a ∷ b ∷ c ∷ []) h = (_, stripped_of_tree kind.AssignExpr (a ∷ b ∷ c ∷ []) ∙ rolls-Tree kind.AssignExpr (stripped a ∷ stripped b ∷ stripped c ∷ []))
tree_stays kind.AssignExpr (a ∷ b ∷ c ∷ d ∷ e ∷ ts) h =
    (_, stripped_of_tree kind.AssignExpr (a ∷ b ∷ c ∷ d ∷ e ∷ ts) ∙ rolls-Tree kind.AssignExpr (stripped a ∷ stripped b ∷ stripped c ∷ stripped d ∷ stripped e ∷ map stripped ts))
tree_stays kind.Class (a ∷ b ∷ c ∷ []) h = (_, stripped_of_tree kind.Class (a ∷ b ∷ c ∷ []))
tree_stays kind.Class [] h = (_, stripped_of_tree kind.Class [] ∙ rolls-Tree kind.Class [])
tree_stays kind.Class (a ∷ []) h = (_, stripped_of_tree kind.Class (a ∷ []) ∙ rolls-Tree kind.Class (stripped a ∷ []))
tree_stays kind.Class (a ∷ b ∷ []) h = (_, stripped_of_tree kind.Class (a ∷ b ∷ []) ∙ rolls-Tree kind.Class (stripped a ∷ stripped b ∷ []))
tree_stays kind.Class (a ∷ b ∷ c ∷ d ∷ ts) h = (_, stripped_of_tree kind.Class (a ∷ b ∷ c ∷ d ∷ ts) ∙ rolls-Tree kind.Class (stripped a ∷ stripped b ∷ stripped c ∷ stripped d ∷ map stripped ts))
tree_stays k ts h = (map stripped ts, stripped_other k ts refl)

-- what is read off a node alike, whatever tree, list or identifier it is
module _ {A : Type 0} (g : Node-F Node → A) (d : A) (trees : (k : Kind) (ts : List Node) → g (Node-F.Tree k ts) ≡ d) (lists : (ts : List Node) → g (Node-F.List ts) ≡ d) (names : (k : Kind) (i : Ident) → g (Node-F.Identifier k i) ≡ d) where
  of_expression : (u : Node) → Fits u expr → g (out-Node u) ≡ d
  of_expression u = by_children (λ u. Fits u expr → g (out-Node u) ≡ d) (
    λ f. absurd (cc (sym (fits-Absent expr) ∙ f)),
    λ x f. absurd (cc (sym (fits-Flag x expr) ∙ f)),
    λ w f. absurd (cc (sym (fits-Word w expr) ∙ f)),
    λ x f. absurd (cc (sym (fits-Text x expr) ∙ f)),
    λ r f. absurd (cc (sym (fits-Span r expr) ∙ f)),
    λ k i f. ap g (outs-Identifier k i) ∙ names k i,
  )
      (λ ts b f. absurd (cc (sym (fits-List ts expr) ∙ f)))
      (λ k ts b f. ap g (outs-Tree k ts) ∙ trees k ts) u

  own_expression : (k : Kind) (ts : List Node) (s : Slot) → is_pair_kind k ≡ true → Fits (Tree k ts) s → Fits (Tree k ts) expr
  own_expression kind.ParenExpr ts s e f = let w = stands kind.ParenExpr ts s f in as_expression kind.ParenExpr ts w.fields refl refl
    where
      as_expression : (k : Kind) (ts : List Node) → FieldsFit (slots_of k) ts → IsTrue (not (is_identifier k)) → IsTrue (belongs k class.Expr) → Fits (Tree k ts) expr
      as_expression k ts f i b = tree_closes k ts class.Expr i b f
  own_expression kind.SeqExpr ts s e f = let w = stands kind.SeqExpr ts s f in tree_closes kind.SeqExpr ts class.Expr refl refl w.fields
  own_expression _ ts s e f = absurd (true≢false (sym e))

  of_tree : (k : Kind) (ts : List Node) (s : Slot) (b : Bool) → is_pair_kind k ≡ b → Fits (Tree k ts) s → IsTrue (all_bare (Tree k ts)) → g (out-Node (stripped (Tree k ts))) ≡ g (out-Node (Tree k ts))
  of_tree k ts s false e f h = let (us, is) = tree_stays k ts e in ap (λ t. g (out-Node t)) is ∙ ap g (outs-Tree k us) ∙ trees k us ∙ sym (ap g (outs-Tree k ts) ∙ trees k ts)
  of_tree k ts s true e f h = of_expression (stripped (Tree k ts)) (stripped_fits (Tree k ts) expr h refl (own_expression k ts s e f)) ∙ sym (ap g (outs-Tree k ts) ∙ trees k ts)

  -- stripping keeps it
  pub looks : (t : Node) (s : Slot) → Fits t s → IsTrue (all_bare t) → g (out-Node (stripped t)) ≡ g (out-Node t)
  looks t = by_children (λ t. (s : Slot) → Fits t s → IsTrue (all_bare t) → g (out-Node (stripped t)) ≡ g (out-Node t)) (
    λ s f h. ap (λ t. g (out-Node t)) still_absent,
    λ x s f h. ap (λ t. g (out-Node t)) (still_flag x),
    λ w s f h. ap (λ t. g (out-Node t)) (search (rules, the_lemmas)),
    λ x s f h. ap (λ t. g (out-Node t)) (search (rules, the_lemmas)),
    λ r s f h. ap (λ t. g (out-Node t)) (search (rules, the_lemmas)),
    λ k i s f h. ap (λ t. g (out-Node t)) (search (rules, the_lemmas)),
  )
      (λ ts b s f h. ap (λ t. g (out-Node t)) (stripped_of_list ts) ∙ ap g (outs-List (map stripped ts)) ∙ lists (map stripped ts) ∙ sym (ap g (outs-List ts) ∙ lists ts))
      (λ k ts b s f h. of_tree k ts s (is_pair_kind k) refl f h) t
    where
      still_absent : stripped Absent ≡ Absent
      still_absent = search (rules, the_lemmas)

      still_flag : (x : Bool) → stripped (Flag x) ≡ Flag x
      still_flag x = search (rules, the_lemmas)
