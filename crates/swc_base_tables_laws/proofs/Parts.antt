-- A program that fits, by its parts, and what it is with more statements.
use Rattle.std.proofs.Common.{◌≡◌, IsTrue, Some, List, [], ◌∷◌, ◌++◌, drop, map, take, refl, sym, ap, ◌∙◌}
use Rattle.std.specs.List.{prefix_len}
use Rattle.std.proofs.lemmas.List.{append_assoc, take-append-drop}
use Rattle.swc_tree_node.specs.declared.kind.Kind.{Kind}
use Rattle.swc_tree_node.specs.declared.kind.Kind.TheVariants as kind
use Rattle.swc_tree_node.specs.declared.kind.Class.{Class}
use Rattle.swc_tree_node.specs.declared.kind.Class.TheVariants as class
use Rattle.swc_tree_node.specs.declared.slot.Content.{Content}
use Rattle.swc_tree_node.specs.declared.slot.Content.TheVariants as content
use Rattle.swc_tree_node.specs.declared.slot.Slot.{Slot}
use Rattle.swc_tree_node.specs.declared.slot.Slot.TheVariants as slot
use Rattle.swc_tree_node.specs.declared.node.Node.{Node, List as Many, Tree, out-Node}
use Rattle.swc_tree_node.specs.declared.node.Node.TheOpen.{Node-F}
use Rattle.swc_tree_node.specs.declared.node.Node.TheVariants.{outs-List}
use Rattle.swc_tree_node.specs.Table.{slots_of}
use Rattle.swc_tree_node.specs.Fits.{FieldsFit, Fits, belongs, each_fits, fits}
use Rattle.swc_tree_node.proofs.Fit.{both, fields_open}
use Rattle.swc_tree_scoping.proofs.Remarked.{list_is, tree_is}
use Rattle.swc_tree_renaming.proofs.Global.{fits_module, fits_script}
use Rattle.swc_tree_renaming.proofs.Whole.{module_layer, script_layer}
use Rattle.swc_base_resolver_laws.proofs.Fitting.{layer_fits, module_fields}
use Rattle.swc_base_resolver_laws.proofs.Same.{impossible}
use Rattle.swc_base_tables_injection.specs.Alone.{is_strict_program}
use Rattle.swc_base_tables_injection.specs.Bodies.{body_in, fields_with, is_string, program_in, program_kind, program_kind_in, put_in}
use Rattle.swc_base_tables_laws.proofs.Programs.{HasNoNames, code_of, is_goal_kind, layer_is, program_of, strict_code}
use Rattle.swc_base_tables_laws.proofs.Readings.{no_names_leaf}

a_list : (t : Node) (x : Content) (y : Node-F Node) → out-Node t ≡ y → Fits t (slot.List x) → (ts : List Node) × (t ≡ Many ts)
a_list t x (Node-F.List ts) o f = (ts, list_is t ts o)
a_list t x (Node-F.Tree k ts) o f = impossible (layer_fits t (Node-F.Tree k ts) (slot.List x) o f)
a_list t x (Node-F.Identifier k i) o f = impossible (layer_fits t (Node-F.Identifier k i) (slot.List x) o f)
a_list t x Node-F.Absent o f = impossible (layer_fits t Node-F.Absent (slot.List x) o f)
a_list t x (Node-F.Flag z) o f = impossible (layer_fits t (Node-F.Flag z) (slot.List x) o f)
a_list t x (Node-F.Word z) o f = impossible (layer_fits t (Node-F.Word z) (slot.List x) o f)
a_list t x (Node-F.Text z) o f = impossible (layer_fits t (Node-F.Text z) (slot.List x) o f)
a_list t x (Node-F.Span z) o f = impossible (layer_fits t (Node-F.Span z) (slot.List x) o f)

a_span : (t : Node) (y : Node-F Node) → out-Node t ≡ y → Fits t (slot.One content.Span) → HasNoNames t
a_span t (Node-F.Span z) o f = no_names_leaf t (Node-F.Span z) o refl refl
a_span t (Node-F.Tree k ts) o f = impossible (layer_fits t (Node-F.Tree k ts) (slot.One content.Span) o f)
a_span t (Node-F.List ts) o f = impossible (layer_fits t (Node-F.List ts) (slot.One content.Span) o f)
a_span t (Node-F.Identifier k i) o f = impossible (layer_fits t (Node-F.Identifier k i) (slot.One content.Span) o f)
a_span t Node-F.Absent o f = no_names_leaf t Node-F.Absent o refl refl
a_span t (Node-F.Flag z) o f = no_names_leaf t (Node-F.Flag z) o refl refl
a_span t (Node-F.Word z) o f = no_names_leaf t (Node-F.Word z) o refl refl
a_span t (Node-F.Text z) o f = no_names_leaf t (Node-F.Text z) o refl refl

a_text : (t : Node) (y : Node-F Node) → out-Node t ≡ y → Fits t (slot.Optional content.Text) → HasNoNames t
a_text t (Node-F.Span z) o f = no_names_leaf t (Node-F.Span z) o refl refl
a_text t (Node-F.Tree k ts) o f = impossible (layer_fits t (Node-F.Tree k ts) (slot.Optional content.Text) o f)
a_text t (Node-F.List ts) o f = impossible (layer_fits t (Node-F.List ts) (slot.Optional content.Text) o f)
a_text t (Node-F.Identifier k i) o f = impossible (layer_fits t (Node-F.Identifier k i) (slot.Optional content.Text) o f)
a_text t Node-F.Absent o f = no_names_leaf t Node-F.Absent o refl refl
a_text t (Node-F.Flag z) o f = no_names_leaf t (Node-F.Flag z) o refl refl
a_text t (Node-F.Word z) o f = no_names_leaf t (Node-F.Word z) o refl refl
a_text t (Node-F.Text z) o f = no_names_leaf t (Node-F.Text z) o refl refl

pub record Parts (k : Kind) (t : Node) : Type 0 where
  pub span : Node
  pub body : List Node
  pub last : Node
  pub is : t ≡ program_of k span body last
  pub span_plain : HasNoNames span
  pub last_plain : HasNoNames last

-- the fields of a program, where its items are of a class
abbrev program_slots : Class → List Slot
program_slots c = slot.One content.Span ∷ slot.List (content.Node c) ∷ slot.Optional content.Text ∷ []

of_fields : (k : Kind) (c : Class) (t : Node) (ts : List Node) → t ≡ Tree k ts → FieldsFit (program_slots c) ts → Parts k t
of_fields k c t [] e h = absurd h
of_fields k c t (a ∷ []) e h = absurd h.1
of_fields k c t (a ∷ b ∷ []) e h = absurd h.1.1
of_fields k c t (a ∷ b ∷ z ∷ []) e h =
    let (body, is) = a_list b (content.Node c) (out-Node b) refl h.1.0 in
    record { span = a; body = body; last = z; is = e ∙ ap (λ b. Tree k (a ∷ b ∷ z ∷ [])) is; span_plain = a_span a (out-Node a) refl h.0; last_plain = a_text z (out-Node z) refl h.1.1.0 }
of_fields k c t (a ∷ b ∷ z ∷ y ∷ ts) e h = absurd h.1.1.1

pub parts_of : (t : Node) → Fits t (slot.One (content.Node class.Module)) → Parts kind.Module t
parts_of t h =
    let (ts, o) = module_layer t (fits_module t h) in
    of_fields kind.Module class.ModuleItem t ts (tree_is t kind.Module ts o) (module_fields t ts o h)

script_fields : (t : Node) (ts : List Node) → out-Node t ≡ Node-F.Tree kind.Script ts → Fits t (slot.One (content.Node class.Script)) → FieldsFit (slots_of kind.Script) ts
script_fields t ts o h = fields_open (slots_of kind.Script) ts (both (belongs kind.Script class.Script) (each_fits (slots_of kind.Script) (map fits ts)) (layer_fits t (Node-F.Tree kind.Script ts) (slot.One (content.Node class.Script)) o h)).1

pub script_parts : (t : Node) → Fits t (slot.One (content.Node class.Script)) → Parts kind.Script t
script_parts t h =
    let (ts, o) = script_layer t (fits_script t h) in
    of_fields kind.Script class.Stmt t ts (tree_is t kind.Script ts o) (script_fields t ts o h)

-- with more statements
program_with : (k : Kind) → IsTrue (is_goal_kind k) → (more : List Node) (t : Node) (ts : List Node) → program_in more t (Node-F.Tree k ts) ≡ Tree k (fields_with more ts)
program_with kind.Module g more t ts = refl
program_with kind.Script g more t ts = refl
program_with _ g more t ts = absurd (cc)

pub put_in_is : (k : Kind) → IsTrue (is_goal_kind k) → (a z : Node) (body more : List Node) → put_in more (program_of k a body z) ≡ program_of k a (take (prefix_len is_string body) body ++ (more ++ drop (prefix_len is_string body) body)) z
put_in_is k g a z body more = ap (program_in more (program_of k a body z)) (layer_is k a z body) ∙ program_with k g more (program_of k a body z) (a ∷ Many body ∷ z ∷ [])
    ∙ ap (λ y. Tree k (a ∷ body_in more (Many body) y ∷ z ∷ [])) (outs-List body)
    ∙ ap (λ l. program_of k a l z) (append_assoc (take (prefix_len is_string body) body) more (drop (prefix_len is_string body) body))

pub split_is : (k : Kind) (t : Node) (p : Parts k t) → t ≡ program_of k p.span (take (prefix_len is_string p.body) p.body ++ drop (prefix_len is_string p.body) p.body) p.last
split_is k t p = p.is ∙ ap (λ l. program_of k p.span l p.last) (sym (take-append-drop (prefix_len is_string p.body) p.body))

pub kind_is : (k : Kind) → IsTrue (is_goal_kind k) → (t : Node) → Parts k t → program_kind t ≡ Some k
kind_is k g t p = ap program_kind p.is ∙ ap program_kind_in (layer_is k p.span p.last p.body) ∙ by k g
  where
    by : (k : Kind) → IsTrue (is_goal_kind k) → program_kind_in (Node-F.Tree k (p.span ∷ Many p.body ∷ p.last ∷ [])) ≡ Some k
    by kind.Module g = refl
    by kind.Script g = refl
    by _ g = absurd (cc)

pub strict_is : (k : Kind) → IsTrue (is_goal_kind k) → (t : Node) (p : Parts k t) → is_strict_program t ≡ code_of k p.body
strict_is k g t p = ap is_strict_program p.is ∙ strict_code k g p.span p.last p.body
