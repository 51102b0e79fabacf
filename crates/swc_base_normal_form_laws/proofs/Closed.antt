-- What is said of a tree by its identifiers and the kinds of its nodes.
use Rattle.std.proofs.Common.{◌≡◌, ℕ, Bool, List, [], sym, ap, ◌∙◌}
use Rattle.swc_tree_marks.specs.declared.span.Span.{Span as Range}
use Rattle.swc_tree_marks.specs.declared.ident.Ident.{Ident}
use Rattle.swc_tree_node.specs.declared.kind.Kind.{Kind}
use Rattle.swc_tree_node.specs.declared.kind.Kind.TheVariants as kind
use Rattle.swc_tree_node.specs.declared.kind.Word.{Word as Word'}
use Rattle.swc_tree_node.specs.declared.node.Node.{Node, Absent, Flag, Word, Text, Span, List as Many, Identifier, Tree, out-Node, roll-Node, roll-out-Node}
use Rattle.swc_tree_node.specs.declared.node.Node.TheVariants.{rolls-List, rolls-Identifier, rolls-Tree}
use Rattle.swc_tree_node.specs.declared.node.Node.TheOpen.{Node-F}
use Rattle.swc_tree_grammar.proofs.Induction.{Each}

-- the kinds that writing out brings in
abbrev pub Brought : (Kind → Type 0) → Type 0
Brought Good = Good kind.IdentName × Good kind.Str × Good kind.ComputedPropName × Good kind.KeyValueProp × Good kind.KeyValuePatProp × Good kind.AssignPat × Good kind.ExportNamedSpecifier × Good kind.NamedExport

-- it holds of a node exactly if it holds of all below it, its kind is good and its identifier is named so; of a name with its
-- text alone the latter holds, and it rests on no span
pub record Closed (P : Node → Type 0) (Good : Kind → Type 0) (Named : Ident → Type 0) : Type 0 where
  pub absent : P Absent
  pub flag : (x : Bool) → P (Flag x)
  pub word : (w : Word') → P (Word w)
  pub text : (x : List ℕ) → P (Text x)
  pub span : (s : Range) → P (Span s)
  pub name : (k : Kind) (i : Ident) → Named i → P (Identifier k i)
  pub named : (k : Kind) (i : Ident) → P (Identifier k i) → Named i
  pub list : (ts : List Node) → Each P ts → P (Many ts)
  pub items : (ts : List Node) → P (Many ts) → Each P ts
  pub tree : (k : Kind) (ts : List Node) → Good k → Each P ts → P (Tree k ts)
  pub good : (k : Kind) (ts : List Node) → P (Tree k ts) → Good k
  pub fields : (k : Kind) (ts : List Node) → P (Tree k ts) → Each P ts
  pub plain : (s : Range) (x : List ℕ) → Named (record { span = s; ctxt = []; sym = x })
  pub moved : (i : Ident) (s : Range) → Named i → Named (record { span = s; ctxt = i.ctxt; sym = i.sym })
  pub brought : Brought Good

-- a node by what it is opened as
pub tree_is : (t : Node) (k : Kind) (ts : List Node) → out-Node t ≡ Node-F.Tree k ts → t ≡ Tree k ts
tree_is t k ts o = sym (roll-out-Node t) ∙ ap roll-Node o ∙ rolls-Tree k ts

pub list_is : (t : Node) (ts : List Node) → out-Node t ≡ Node-F.List ts → t ≡ Many ts
list_is t ts o = sym (roll-out-Node t) ∙ ap roll-Node o ∙ rolls-List ts

pub name_is : (t : Node) (k : Kind) (i : Ident) → out-Node t ≡ Node-F.Identifier k i → t ≡ Identifier k i
name_is t k i o = sym (roll-out-Node t) ∙ ap roll-Node o ∙ rolls-Identifier k i
