-- Where two nodes of one form are equal, their parts are, and the other way round.
use denote.Enum.Bare.{sameb, same_true, true_same}
use Rattle.std.proofs.Common.{◌≡◌, Bool, true, ◌&&◌, ◌==◌, nat_eq, List, [], IsTrue, sym, ap, ◌∙◌, rules}
use Rattle.std.specs.Bool.{Decides, one_answer}
use Rattle.std.specs.Cmp.{first_so, second_so, unsigned_Decides}
use Rattle.std.specs.Cmp.Lexicographic.{pointwise, bytes_decides}
use Rattle.swc_tree_node.specs.Sameness.{same, same_decides, all_same, all_same_decides}
use Rattle.swc_tree_marks.specs.declared.ident.Ident.{Ident}
use Rattle.swc_tree_node.specs.declared.kind.Kind.{Kind}
use Rattle.swc_tree_node.specs.declared.kind.Word.{Word as Word'}
use Rattle.swc_tree_node.specs.contracts.kind.Kind as kind_type
use Rattle.swc_tree_node.specs.contracts.kind.Word as word_type
use Rattle.swc_tree_node.specs.declared.node.Node.{Node, Word, Identifier, Tree, out-Node, the_lemmas}
use Rattle.swc_tree_node.specs.declared.node.Node.TheOpen.{Node-F}
use Rattle.swc_tree_node.specs.declared.node.Node.TheVariants.{outs-Identifier, outs-Tree}

words : (a b : Word') (r : Bool) → r ≡ sameb word_type.the_type a b → (IsTrue r → a ≡ b) × (a ≡ b → IsTrue r)
words a b r e = (λ h. same_true word_type.the_type tt a b (sym e ∙ h), λ p. e ∙ true_same word_type.the_type a b p)

same_kind : (k l : Kind) → true ≡ sameb kind_type.the_type k l → k ≡ l
same_kind k l e = same_true kind_type.the_type tt k l (sym e)

both_same : (a b : Bool) {X Y : Type 0} → Decides a X → Decides b Y → Decides (a && b) (X × Y)
both_same a b f g =
    (λ h. (f.0 (first_so a b h), g.0 (second_so a b h)), λ p. λ i. f.1 p.0 i && g.1 p.1 i)

-- the test of two identifiers
abbrev ident_test : Ident → Ident → Bool
ident_test x y = ((x.span.lo == y.span.lo) && (x.span.hi == y.span.hi)) && (pointwise nat_eq x.ctxt y.ctxt && pointwise nat_eq x.sym y.sym)

idents : (x y : Ident) (r : Bool) → r ≡ ident_test x y → (IsTrue r → x ≡ y) × (x ≡ y → IsTrue r)
idents x y r e =
    let d = both_same _ _ (both_same _ _ (unsigned_Decides x.span.lo y.span.lo) (unsigned_Decides x.span.hi y.span.hi))
    (both_same _ _ (bytes_decides x.ctxt y.ctxt) (bytes_decides x.sym y.sym)) in (
      λ h. let p = d.0 (sym e ∙ h) in λ i. record { span = record { lo = p.0.0 i; hi = p.0.1 i }; ctxt = p.1.0 i; sym = p.1.1 i },
      λ q. e ∙ d.1 ((ap (λ z. z.span.lo) q, ap (λ z. z.span.hi) q), (ap (λ z. z.ctxt) q, ap (λ z. z.sym) q)),
    )

kind_in : Kind → Node-F Node → Kind
kind_in k (Node-F.Identifier l x) = l
kind_in k (Node-F.Tree l ts) = l
kind_in k _ = k

ident_in : Ident → Node-F Node → Ident
ident_in x (Node-F.Identifier k y) = y
ident_in x _ = x

fields_in : Node-F Node → List Node
fields_in (Node-F.Tree k ts) = ts
fields_in _ = []

word_parts : (a b : Word') → Word a ≡ Word b → a ≡ b
word_parts a b e = search (rules, the_lemmas)

identifier_parts : (k l : Kind) (x y : Ident) → Identifier k x ≡ Identifier l y → (k ≡ l) × (x ≡ y)
unfolding kind_in ident_in
identifier_parts k l x y e =
    let forms = sym (outs-Identifier k x) ∙ ap out-Node e ∙ outs-Identifier l y in
    (ap (kind_in k) forms, ap (ident_in x) forms)

tree_parts : (k l : Kind) (ts us : List Node) → Tree k ts ≡ Tree l us → (k ≡ l) × (ts ≡ us)
unfolding kind_in fields_in
tree_parts k l ts us e =
    let forms = sym (outs-Tree k ts) ∙ ap out-Node e ∙ outs-Tree l us in
    (ap (kind_in k) forms, ap fields_in forms)

pub answers : (t u : Node) (r : Bool) → (IsTrue r → t ≡ u) × (t ≡ u → IsTrue r) → r ≡ same t u
answers t u r s = one_answer r (same t u) s (same_decides t u)

-- what the code answers of two nodes of one form, from what it answers of their parts
pub words_same : (a b : Word') (r : Bool) (t u : Node) → t ≡ Word a → u ≡ Word b → r ≡ sameb word_type.the_type a b → (IsTrue r → t ≡ u) × (t ≡ u → IsTrue r)
words_same a b r t u p q e =
    let s = words a b r e in
    (λ h. p ∙ ap Word (s.0 h) ∙ sym q, λ h. s.1 (word_parts a b (sym p ∙ h ∙ q)))

pub identifiers_same : (k l : Kind) (x y : Ident) (r : Bool) (t u : Node) → t ≡ Identifier k x → u ≡ Identifier l y → true ≡ sameb kind_type.the_type k l → r ≡ ident_test x y → (IsTrue r → t ≡ u) × (t ≡ u → IsTrue r)
identifiers_same k l x y r t u p q e f =
    let s = idents x y r f in
    (λ h. p ∙ (λ i. Identifier (same_kind k l e i) (s.0 h i)) ∙ sym q, λ h. s.1 (identifier_parts k l x y (sym p ∙ h ∙ q)).1)

pub trees_same : (k l : Kind) (ts us : List Node) (r : Bool) (t u : Node) → t ≡ Tree k ts → u ≡ Tree l us → true ≡ sameb kind_type.the_type k l → (IsTrue r → ts ≡ us) × (ts ≡ us → IsTrue r) → (IsTrue r → t ≡ u) × (t ≡ u → IsTrue r)
trees_same k l ts us r t u p q e s =
    (λ h. p ∙ (λ i. Tree (same_kind k l e i) (s.0 h i)) ∙ sym q, λ h. s.1 (tree_parts k l ts us (sym p ∙ h ∙ q)).1)

pub lists_same : (ts us : List Node) (r : Bool) → r ≡ all_same ts us → (IsTrue r → ts ≡ us) × (ts ≡ us → IsTrue r)
lists_same ts us r e =
    let d = all_same_decides ts us in
    (λ h. d.0 (sym e ∙ h), λ p. e ∙ d.1 p)
