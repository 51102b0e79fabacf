-- How what stripping leaves of an expression looks: no pair, and else as the expression did.
use Rattle.std.proofs.Common.{◌≡◌, Bool, true, false, List, [], ◌∷◌, map, refl, sym, ap, ◌∙◌, rules}
use Rattle.std.specs.Prelude.{is_some}
use Rattle.std.specs.List.{flat_map}
use Rattle.swc_tree_marks.specs.declared.ident.Ident.{Ident}
use Rattle.swc_tree_node.specs.declared.kind.Kind.{Kind}
use Rattle.swc_tree_node.specs.declared.kind.Kind.TheVariants as kind
use Rattle.swc_tree_node.specs.declared.kind.Class.TheVariants as class
use Rattle.swc_tree_node.specs.declared.slot.Content.TheVariants as content
use Rattle.swc_tree_node.specs.declared.slot.Slot.{Slot}
use Rattle.swc_tree_node.specs.declared.slot.Slot.TheVariants as slot
use Rattle.swc_tree_node.specs.declared.node.Node.{Node, List as Many, Identifier, Tree, out-Node, the_lemmas}
use Rattle.swc_tree_node.specs.declared.node.Node.TheOpen.{Node-F}
use Rattle.swc_tree_node.specs.Table.{slots_of}
use Rattle.swc_tree_node.specs.Fits.{Fits, FieldsFit, belongs}
use Rattle.swc_tree_node.proofs.Fit.{fits-Absent, fits-Flag, fits-Word, fits-Text, fits-Span, fits-List, fits-Identifier, fits-Tree, tree_opens}
use Rattle.swc_tree_scoping.specs.Places.{literal_in, text_in}
use Rattle.swc_tree_grammar.specs.Shapes.{items_of}
use Rattle.swc_tree_grammar.specs.Kinds.{has_kind, has_kind_in, is_paren, is_chain, is_opt_chain}
use Rattle.swc_tree_grammar.specs.Stripped.{stripped, target, parts, settled}
use Rattle.swc_tree_grammar.specs.Writable.{Round, is_string}
use Rattle.swc_tree_grammar.proofs.Asked.{sound}
use Rattle.swc_tree_grammar.proofs.Induction.{by_children}
use Rattle.swc_tree_grammar.proofs.Places.{one}
use Rattle.swc_tree_grammar.proofs.Stripped.{stripped_of_tree, stripped_other}
use Rattle.swc_tree_grammar_laws.proofs.Blocked.{no}
use Rattle.swc_base_fixer_laws.specs.Sets.{FieldsSet}
use Rattle.swc_base_fixer_laws.specs.Sets.FieldsSet.{nil, field}
use Rattle.swc_base_fixer_laws.proofs.Up.{kind_of_tree}
use Rattle.swc_base_fixer_laws.proofs.SetsLevels.{fields_same}
use Rattle.swc_base_fixer_laws.proofs.Recasts.{tree_looks}
use Rattle.swc_base_fixer_laws.proofs.Sequences.{sequence_stays}

module _ (look : Node-F Node → Bool) where
  -- a test of no sequence and no assignment, which sees of a node's parts what stripping leaves as it is
  record Plain : Type 0 where
    of_sequence : (ts : List Node) → look (Node-F.Tree kind.SeqExpr ts) ≡ false
    of_assignment : (ts : List Node) → look (Node-F.Tree kind.AssignExpr ts) ≡ false
    of_other : (k : Kind) (ts : List Node) → FieldsFit (slots_of k) ts → look (Node-F.Tree k (map stripped ts)) ≡ look (Node-F.Tree k ts)

  own_row : Plain → (k : Kind) {ts us : List Node} → FieldsSet (slots_of k) ts us → belongs k class.Expr ≡ true → is_paren k ≡ false → FieldsFit (slots_of k) ts → (r : Round) → sound (Tree k ts) r ≡ true → look (out-Node (stripped (Tree k ts))) ≡ look (out-Node (Tree k ts))
  own_row p kind.ParenExpr x b n f r h = absurd (no (sym n))
  own_row p kind.SeqExpr {ts = ts} (field {t = a} x (field {t = e} y nil)) b n f r h =
      let us = stripped a ∷ Many (settled (flat_map parts (items_of (stripped e)))) ∷ [] in
      ap (λ t. look (out-Node t)) (sequence_stays a e r f.1.0 h) ∙ tree_looks Bool look kind.SeqExpr us ∙ p.of_sequence us ∙ sym (p.of_sequence ts) ∙ sym (tree_looks Bool look kind.SeqExpr ts)
  own_row p kind.AssignExpr {ts = ts} (field {t = a} x (field {t = o} y (field {t = e} z (field {t = d} w nil)))) b n f r h =
      let us = stripped a ∷ stripped o ∷ target (stripped e) ∷ stripped d ∷ [] in
      ap (λ t. look (out-Node t)) (stripped_of_tree kind.AssignExpr ts) ∙ tree_looks Bool look kind.AssignExpr us ∙ p.of_assignment us ∙ sym (p.of_assignment ts) ∙ sym (tree_looks Bool look kind.AssignExpr ts)
  own_row p kind.Class x b n f r h = absurd (cc)
  own_row p k {ts = ts} x b n f r h = ap (λ t. look (out-Node t)) (stripped_other k ts refl) ∙ tree_looks Bool look k (map stripped ts) ∙ p.of_other k ts f ∙ sym (tree_looks Bool look k ts)

  own_name : (k : Kind) (i : Ident) → look (out-Node (stripped (Identifier k i))) ≡ look (out-Node (Identifier k i))
  own_name k i = let e : stripped (Identifier k i) ≡ Identifier k i = search (rules, the_lemmas) in ap (λ t. look (out-Node t)) e

  own : Plain → (t : Node) → Fits t (one class.Expr) → has_kind is_paren t ≡ false → (r : Round) → sound t r ≡ true → look (out-Node (stripped t)) ≡ look (out-Node t)
  own p t = by_children (λ t. Fits t (one class.Expr) → has_kind is_paren t ≡ false → (r : Round) → sound t r ≡ true → look (out-Node (stripped t)) ≡ look (out-Node t)) (
    λ h. absurd (no (sym (fits-Absent (one class.Expr)) ∙ h)),
    λ x h. absurd (no (sym (fits-Flag x (one class.Expr)) ∙ h)),
    λ w h. absurd (no (sym (fits-Word w (one class.Expr)) ∙ h)),
    λ x h. absurd (no (sym (fits-Text x (one class.Expr)) ∙ h)),
    λ s h. absurd (no (sym (fits-Span s (one class.Expr)) ∙ h)),
    λ k i h n r m. own_name k i,
  )
      (λ ts l h. absurd (no (sym (fits-List ts (one class.Expr)) ∙ h)))
      (λ k ts l h n r m. (let f = tree_opens k ts class.Expr h in own_row p k (fields_same (slots_of k) ts f.2) f.1 (sym (kind_of_tree is_paren k ts) ∙ n) f.2 r m)) t

-- chains
pub own_chain : (t : Node) → Fits t (one class.Expr) → has_kind is_paren t ≡ false → (r : Round) → sound t r ≡ true → is_chain (stripped t) ≡ is_chain t
own_chain t f n r h = own (has_kind_in is_opt_chain) (record { of_sequence = λ ts. refl; of_assignment = λ ts. refl; of_other = λ k ts f. refl }) t f n r h

-- strings
abbrev a_text : Slot
a_text = slot.One content.Text

text_stripped : (t : Node) → Fits t a_text → stripped t ≡ t
text_stripped t = by_children (λ t. Fits t a_text → stripped t ≡ t) (
  λ h. absurd (no (sym (fits-Absent a_text) ∙ h)),
  λ x h. absurd (no (sym (fits-Flag x a_text) ∙ h)),
  λ w h. absurd (no (sym (fits-Word w a_text) ∙ h)),
  λ x h. search (rules, the_lemmas),
  λ s h. absurd (no (sym (fits-Span s a_text) ∙ h)),
  λ k i h. absurd (no (sym (fits-Identifier k i a_text) ∙ h)),
)
    (λ ts l h. absurd (no (sym (fits-List ts a_text) ∙ h)))
    (λ k ts l h. absurd (no (sym (fits-Tree k ts a_text) ∙ h))) t

abbrev string_in : Node-F Node → Bool
string_in x = is_some (literal_in x)

string_row : (k : Kind) {ts us : List Node} → FieldsSet (slots_of k) ts us → FieldsFit (slots_of k) ts → string_in (Node-F.Tree k (map stripped ts)) ≡ string_in (Node-F.Tree k ts)
string_row kind.Str (field {t = a} x (field {t = b} y (field {t = c} z nil))) f = ap (λ t. is_some (text_in (out-Node t))) (text_stripped b f.1.0)
string_row k x f = refl

pub own_string : (t : Node) → Fits t (one class.Expr) → has_kind is_paren t ≡ false → (r : Round) → sound t r ≡ true → is_string (stripped t) ≡ is_string t
own_string t f n r h = own string_in (record { of_sequence = λ ts. refl; of_assignment = λ ts. refl; of_other = λ k ts f. string_row k (fields_same (slots_of k) ts f) f }) t f n r h
