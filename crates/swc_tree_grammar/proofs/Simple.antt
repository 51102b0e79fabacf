-- A target that can stand bare is simple once it is stripped.
use Rattle.std.proofs.Common.{◌≡◌, Bool, false, IsTrue, List, [], ◌∷◌, map, refl, sym, ◌∙◌, rules}
use Rattle.std.specs.List.{flat_map}
use Rattle.swc_tree_node.specs.Lower.swc_tree_marks.specs.declared.ident.Ident.{Ident}
use Rattle.swc_tree_node.specs.declared.kind.Kind.{Kind}
use Rattle.swc_tree_node.specs.declared.kind.Kind.TheVariants as kind
use Rattle.swc_tree_node.specs.declared.kind.Class.TheVariants as class
use Rattle.swc_tree_node.specs.declared.slot.Content.TheVariants as content
use Rattle.swc_tree_node.specs.declared.slot.Slot.{Slot}
use Rattle.swc_tree_node.specs.declared.slot.Slot.TheVariants as slot
use Rattle.swc_tree_node.specs.declared.node.Node.{Node, List as Many, Identifier, Tree, out-Node, the_lemmas}
use Rattle.swc_tree_node.specs.declared.node.Node.TheOpen.{Node-F}
use Rattle.swc_tree_node.specs.Fits.{Fits}
use Rattle.swc_tree_node.proofs.Fit.{fits-Absent, fits-Flag, fits-Word, fits-Text, fits-Span, fits-List, fits-Identifier, fits-Tree, tree_opens, list_opens}
use Rattle.swc_tree_grammar.specs.Shapes.{items_of}
use Rattle.swc_tree_grammar.specs.Stripped.{stripped, parts, parts_in, sequence, settled}
use Rattle.swc_tree_grammar.specs.Targets.{is_simple, is_target}
use Rattle.swc_tree_grammar.proofs.Induction.{Each, by_children}
use Rattle.swc_tree_grammar.proofs.Items.{expr, items_of_list}
use Rattle.swc_tree_grammar.proofs.Stripped.{stripped_of_list, stripped_of_tree, stripped_other}
use Rattle.swc_tree_grammar.proofs.Walks.{target_of_tree, target_of_list}

-- an identifier, a member or a property of `super`
abbrev pub simple_in : Node-F Node → Bool
simple_in (Node-F.Identifier k i) = is_simple k
simple_in (Node-F.Tree k ts) = is_simple k
simple_in _ = false

abbrev pub simple : Node → Bool
simple t = simple_in (out-Node t)

pub simple_tree : (k : Kind) (ts : List Node) → simple (Tree k ts) ≡ is_simple k
simple_tree k ts = search (rules, the_lemmas)

pub simple_identifier : (k : Kind) (i : Ident) → simple (Identifier k i) ≡ is_simple k
simple_identifier k i = search (rules, the_lemmas)

-- a list of one item, which is simple
abbrev OneSimple : List Node → Type 0
OneSimple ts = (t : Node) × (ts ≡ t ∷ []) × IsTrue (simple t)

abbrev exprs : Slot
exprs = slot.List (content.Node class.Expr)

abbrev Bare : Node → Type 0
Bare t = (IsTrue (is_target t) → Fits t expr → IsTrue (simple (stripped t))) × (IsTrue (is_target t) → Fits t exprs → OneSimple (items_of (stripped t)))

parts_of_tree : (k : Kind) (ts : List Node) → parts (Tree k ts) ≡ parts_in (Tree k ts) (Node-F.Tree k ts)
parts_of_tree k ts = search (rules, the_lemmas)

simple_parts : (k : Kind) (ts : List Node) → IsTrue (is_simple k) → parts_in (Tree k ts) (Node-F.Tree k ts) ≡ Tree k ts ∷ []
simple_parts kind.SeqExpr ts h = absurd (cc)
simple_parts k ts h = refl

-- a simple node is no sequence
parts_of_simple : (t : Node) → IsTrue (simple t) → parts t ≡ t ∷ []
parts_of_simple t = by_children (λ t. IsTrue (simple t) → parts t ≡ t ∷ [])
    (λ h. search (rules, the_lemmas), λ x h. search (rules, the_lemmas), λ w h. search (rules, the_lemmas), λ x h. search (rules, the_lemmas), λ r h. search (rules, the_lemmas), λ k i h. search (rules, the_lemmas))
    (λ ts l h. search (rules, the_lemmas))
    (λ k ts l h. parts_of_tree k ts ∙ simple_parts k ts (sym (simple_tree k ts) ∙ h)) t

stripped_sequence : (span : Node) (es : List Node) → OneSimple es → IsTrue (simple (sequence span (settled (flat_map parts es))))
stripped_sequence span es o = rw (o.1, parts_of_simple o.0 o.2) o.2

tree_bare : (k : Kind) (ts : List Node) → Each Bare ts → IsTrue (is_target (Tree k ts)) → Fits (Tree k ts) expr → IsTrue (simple (stripped (Tree k ts)))
tree_bare kind.ParenExpr (span ∷ e ∷ []) l h f =
    rw (stripped_of_tree kind.ParenExpr (span ∷ e ∷ [])) (l.1.0.0 (sym (target_of_tree kind.ParenExpr (span ∷ e ∷ [])) ∙ h) ((tree_opens kind.ParenExpr (span ∷ e ∷ []) class.Expr f).2.1.0))
tree_bare kind.SeqExpr (span ∷ e ∷ []) l h f =
    rw (stripped_of_tree kind.SeqExpr (span ∷ e ∷ []))
    (stripped_sequence (stripped span) (items_of (stripped e)) (l.1.0.1 (sym (target_of_tree kind.SeqExpr (span ∷ e ∷ [])) ∙ h) ((tree_opens kind.SeqExpr (span ∷ e ∷ []) class.Expr f).2.1.0)))
tree_bare kind.MemberExpr ts l h f = rw (stripped_other kind.MemberExpr ts refl) (simple_tree kind.MemberExpr (map stripped ts))
tree_bare kind.SuperPropExpr ts l h f = rw (stripped_other kind.SuperPropExpr ts refl) (simple_tree kind.SuperPropExpr (map stripped ts))
tree_bare kind.Ident ts l h f = rw (stripped_other kind.Ident ts refl) (simple_tree kind.Ident (map stripped ts))
tree_bare kind.ParenExpr [] l h f = absurd ((tree_opens kind.ParenExpr [] class.Expr f).2)
tree_bare kind.ParenExpr (a ∷ []) l h f = absurd ((tree_opens kind.ParenExpr (a ∷ []) class.Expr f).2.1)
tree_bare kind.ParenExpr (a ∷ b ∷ c ∷ ts) l h f = absurd ((tree_opens kind.ParenExpr (a ∷ b ∷ c ∷ ts) class.Expr f).2.1.1)
tree_bare kind.SeqExpr [] l h f = absurd ((tree_opens kind.SeqExpr [] class.Expr f).2)
tree_bare kind.SeqExpr (a ∷ []) l h f = absurd ((tree_opens kind.SeqExpr (a ∷ []) class.Expr f).2.1)
tree_bare kind.SeqExpr (a ∷ b ∷ c ∷ ts) l h f = absurd ((tree_opens kind.SeqExpr (a ∷ b ∷ c ∷ ts) class.Expr f).2.1.1)
tree_bare k ts l h f = absurd (cc (sym (target_of_tree k ts) ∙ h))

identifier_bare : (k : Kind) (i : Ident) → IsTrue (is_target (Identifier k i)) → IsTrue (simple (stripped (Identifier k i)))
identifier_bare k i h =
    let t : is_target (Identifier k i) ≡ is_simple k = search (rules, the_lemmas) in
    let s : stripped (Identifier k i) ≡ Identifier k i = search (rules, the_lemmas) in
    rw (s, simple_identifier k i) (sym t ∙ h)

list_bare : (ts : List Node) → Each Bare ts → IsTrue (is_target (Many ts)) → Fits (Many ts) exprs → OneSimple (items_of (stripped (Many ts)))
list_bare (t ∷ []) l h f =
    rw (stripped_of_list (t ∷ []), items_of_list (stripped t ∷ []))
    (stripped t, refl, l.0.0 (sym (target_of_list (t ∷ [])) ∙ h) ((list_opens (t ∷ []) (content.Node class.Expr) f).0))
list_bare [] l h f = absurd (cc (sym (target_of_list []) ∙ h))
list_bare (t ∷ u ∷ ts) l h f = absurd (cc (sym (target_of_list (t ∷ u ∷ ts)) ∙ h))

bare : (t : Node) → Bare t
bare t = by_children Bare (
  (λ b h. absurd (cc (sym (fits-Absent expr) ∙ h)), λ b h. absurd (cc (sym (fits-Absent exprs) ∙ h))),
  λ x. (λ b h. absurd (cc (sym (fits-Flag x expr) ∙ h)), λ b h. absurd (cc (sym (fits-Flag x exprs) ∙ h))),
  λ w. (λ b h. absurd (cc (sym (fits-Word w expr) ∙ h)), λ b h. absurd (cc (sym (fits-Word w exprs) ∙ h))),
  λ x. (λ b h. absurd (cc (sym (fits-Text x expr) ∙ h)), λ b h. absurd (cc (sym (fits-Text x exprs) ∙ h))),
  λ r. (λ b h. absurd (cc (sym (fits-Span r expr) ∙ h)), λ b h. absurd (cc (sym (fits-Span r exprs) ∙ h))),
  λ k i. (λ b h. identifier_bare k i b, λ b h. absurd (cc (sym (fits-Identifier k i exprs) ∙ h))),
)
    (λ ts l. (λ b h. absurd (cc (sym (fits-List ts expr) ∙ h)), list_bare ts l))
    (λ k ts l. (tree_bare k ts l, λ b h. absurd (cc (sym (fits-Tree k ts exprs) ∙ h)))) t

pub stripped_simple : (t : Node) → IsTrue (is_target t) → Fits t expr → IsTrue (simple (stripped t))
stripped_simple t = (bare t).0
