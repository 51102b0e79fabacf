-- What holds of each leaf, holds of each node that has no parts, or that may hold no names.
use Rattle.std.proofs.Common.{◌≡◌, ℕ, Bool, true, false, List, refl, sym, subst}
use Rattle.swc_tree_marks.specs.declared.span.Span.{Span as Range}
use Rattle.swc_tree_marks.specs.declared.ident.Ident.{Ident}
use Rattle.swc_tree_node.specs.declared.kind.Kind.{Kind}
use Rattle.swc_tree_node.specs.declared.kind.Word.{Word as Word'}
use Rattle.swc_tree_node.specs.declared.node.Node.{Node, Absent, Flag, Word, Text, Span, Identifier, out-Node, roll-Node, roll-out-Node}
use Rattle.swc_tree_node.specs.declared.node.Node.TheVariants.{rolls-Absent, rolls-Flag, rolls-Word, rolls-Text, rolls-Span, rolls-Identifier}
use Rattle.swc_tree_node.specs.declared.node.Node.TheOpen.{Node-F}
use Rattle.swc_tree_node.specs.Parts.{has_parts, has_parts_in, may_hold_names, may_hold_names_in}

-- a node that is no list, no tree and no identifier
abbrev pub Nameless : (Node → Type 0) → Type 0
Nameless P = P Absent × ((x : Bool) → P (Flag x)) × ((w : Word') → P (Word w)) × ((x : List ℕ) → P (Text x)) × ((s : Range) → P (Span s))

nameless_at : (P : Node → Type 0) → Nameless P → (y : Node-F Node) → may_hold_names_in y ≡ false → P (roll-Node y)
nameless_at P l Node-F.Absent h = subst P (sym rolls-Absent) l.0
nameless_at P l (Node-F.Flag x) h = subst P (sym (rolls-Flag x)) (l.1 x)
nameless_at P l (Node-F.Word w) h = subst P (sym (rolls-Word w)) (l.2 w)
nameless_at P l (Node-F.Text x) h = subst P (sym (rolls-Text x)) (l.3 x)
nameless_at P l (Node-F.Span s) h = subst P (sym (rolls-Span s)) (l.4 s)
nameless_at P l (Node-F.List ts) h = absurd (cc)
nameless_at P l (Node-F.Identifier k i) h = absurd (cc)
nameless_at P l (Node-F.Tree k ts) h = absurd (cc)

pub without_names : (P : Node → Type 0) → Nameless P → (t : Node) → may_hold_names t ≡ false → P t
without_names P l t h = subst P (roll-out-Node t) (nameless_at P l (out-Node t) h)

partless_at : (P : Node → Type 0) → Nameless P → ((k : Kind) (i : Ident) → P (Identifier k i)) → (y : Node-F Node) → has_parts_in y ≡ false → P (roll-Node y)
partless_at P l one (Node-F.Identifier k i) h = subst P (sym (rolls-Identifier k i)) (one k i)
partless_at P l one Node-F.Absent h = nameless_at P l Node-F.Absent refl
partless_at P l one (Node-F.Flag x) h = nameless_at P l (Node-F.Flag x) refl
partless_at P l one (Node-F.Word w) h = nameless_at P l (Node-F.Word w) refl
partless_at P l one (Node-F.Text x) h = nameless_at P l (Node-F.Text x) refl
partless_at P l one (Node-F.Span s) h = nameless_at P l (Node-F.Span s) refl
partless_at P l one (Node-F.List ts) h = absurd (cc)
partless_at P l one (Node-F.Tree k ts) h = absurd (cc)

pub without_parts : (P : Node → Type 0) → Nameless P → ((k : Kind) (i : Ident) → P (Identifier k i)) → (t : Node) → has_parts t ≡ false → P t
without_parts P l one t h = subst P (roll-out-Node t) (partless_at P l one (out-Node t) h)
