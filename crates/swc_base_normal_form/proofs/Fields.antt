-- The field of a node that is written out.
use Rattle.std.proofs.Common.{◌≡◌, ℕ, Bool, true, false, Option, Some, None, List, [], ◌∷◌, length, slice_set, refl, sym, ap, ◌∙◌, arith}
use Rattle.std.specs.Prelude.{if◌then◌else◌}
use Rattle.std.specs.List.{slice_get}
use Rattle.swc_tree_marks.specs.declared.ident.Ident.{Ident}
use Rattle.swc_tree_node.specs.declared.kind.Kind.{Kind}
use Rattle.swc_tree_node.specs.declared.kind.Kind.TheVariants as kind
use Rattle.swc_tree_node.specs.declared.node.Node.{Node, Absent, Span, Identifier, Tree, out-Node}
use Rattle.swc_tree_node.specs.declared.node.Node.TheVariants.{outs-Identifier}
use Rattle.swc_tree_node.specs.declared.node.Node.TheOpen.{Node-F}
use Rattle.swc_tree_scoping.specs.Shorthands.{key_of}
use Rattle.swc_tree_grammar.specs.Levels.{is_absent}
use Rattle.swc_tree_grammar.specs.Normal.{pattern_property_in, with_default, written_step}
use Rattle.swc_base_normal_form.specs.declared.forms.Part.TheVariants as part
use Rattle.swc_base_normal_form.specs.declared.forms.Form.{Form}
use Rattle.swc_base_normal_form.specs.declared.forms.Form.TheVariants as form
use Rattle.swc_base_normal_form.specs.Forms.{in_form, is_shorthand, written_field}

-- said once for the kinds that a match leaves
no_field : {X : Type 0} {f : ℕ × Form} → None ≡ Some f → X
no_field h = absurd (cc)

other_kind : {X : Type 0} → false ≡ true → X
other_kind h = absurd (cc)

one : {X : Type 0} (x y : X) → Some x ≡ Some y → x ≡ y
one x y h = cc

-- the field at `n`, with `x` in it
row : (k : Kind) (ts : List Node) (n : ℕ) (f : Form) (x out : Node) → slice_get ts n ≡ Some x → Tree k (slice_set ts n (in_form f x)) ≡ out
    → (i : ℕ) (g : Form) (t : Node) → ◌≡◌ {A = Option (ℕ × Form)} (Some (n, f)) (Some (i, g)) → slice_get ts i ≡ Some t → Tree k (slice_set ts i (in_form g t)) ≡ out
row k ts n f x out here is i g t h there =
    let p : ◌≡◌ {A = ℕ × Form} (n, f) (i, g) = one (n, f) (i, g) h in
    let same : x ≡ t = one x t (sym here ∙ ap (λ (q : ℕ × Form). slice_get ts q.0) p ∙ there) in
    ap (λ (q : ℕ × Form). Tree k (slice_set ts q.0 (in_form q.1 t))) (sym p) ∙ ap (λ x. Tree k (slice_set ts n (in_form f x))) (sym same) ∙ is

abbrev Writes : Kind → List Node → ℕ → Form → Node → Type 0
Writes k ts i f t = Tree k (slice_set ts i (in_form f t)) ≡ written_step (Node-F.Tree k ts)

-- an export list is written out where it has no source
abbrev if_own : Bool → Option (ℕ × Form)
if_own b = if◌then◌else◌ {A = Option (ℕ × Form)} b (Some (1, form.Each part.Specifier)) None

exports_written : (b : Bool) (a l s w : Node) (i : ℕ) (f : Form) (t : Node) → is_absent s ≡ b → if_own b ≡ Some (i, f) → slice_get (a ∷ l ∷ s ∷ w ∷ []) i ≡ Some t
    → Writes kind.NamedExport (a ∷ l ∷ s ∷ w ∷ []) i f t
exports_written true a l s w i f t e h g =
    row kind.NamedExport (a ∷ l ∷ s ∷ w ∷ []) 1 (form.Each part.Specifier) l _ refl (ap (λ b. Tree kind.NamedExport (a ∷ (if b then in_form (form.Each part.Specifier) l else l) ∷ s ∷ w ∷ [])) (sym e)) i f t h g
exports_written false a l s w i f t e h g = no_field h

field_is : (k : Kind) (ts : List Node) (i : ℕ) (f : Form) (t : Node) → written_field k ts ≡ Some (i, f) → slice_get ts i ≡ Some t → Writes k ts i f t
field_is kind.IfStmt (a ∷ b ∷ c ∷ d ∷ []) i f t h g = row kind.IfStmt (a ∷ b ∷ c ∷ d ∷ []) 2 (form.One part.Statement) c _ refl refl i f t h g
field_is kind.ObjectLit (a ∷ b ∷ []) i f t h g = row kind.ObjectLit (a ∷ b ∷ []) 1 (form.Each part.Property) b _ refl refl i f t h g
field_is kind.NamedExport (a ∷ l ∷ s ∷ w ∷ []) i f t h g = exports_written (is_absent s) a l s w i f t refl h g
field_is kind.Module (a ∷ b ∷ c ∷ []) i f t h g = row kind.Module (a ∷ b ∷ c ∷ []) 1 form.Items b _ refl refl i f t h g
field_is kind.ArrayPat (a ∷ b ∷ []) i f t h g = row kind.ArrayPat (a ∷ b ∷ []) 1 (form.Each part.Pattern) b _ refl refl i f t h g
field_is kind.ArrowExpr (a ∷ b ∷ c ∷ d ∷ []) i f t h g = row kind.ArrowExpr (a ∷ b ∷ c ∷ d ∷ []) 1 (form.Each part.Pattern) b _ refl refl i f t h g
field_is kind.RestPat (a ∷ b ∷ []) i f t h g = row kind.RestPat (a ∷ b ∷ []) 1 (form.One part.Pattern) b _ refl refl i f t h g
field_is kind.KeyValuePatProp (a ∷ b ∷ []) i f t h g = row kind.KeyValuePatProp (a ∷ b ∷ []) 1 (form.One part.Pattern) b _ refl refl i f t h g
field_is kind.AssignPat (a ∷ b ∷ c ∷ []) i f t h g = row kind.AssignPat (a ∷ b ∷ c ∷ []) 1 (form.One part.Pattern) b _ refl refl i f t h g
field_is kind.Param (a ∷ b ∷ []) i f t h g = row kind.Param (a ∷ b ∷ []) 1 (form.One part.Pattern) b _ refl refl i f t h g
field_is kind.SetterProp (a ∷ b ∷ c ∷ d ∷ []) i f t h g = row kind.SetterProp (a ∷ b ∷ c ∷ d ∷ []) 2 (form.One part.Pattern) c _ refl refl i f t h g
field_is kind.VarDeclarator (a ∷ b ∷ c ∷ []) i f t h g = row kind.VarDeclarator (a ∷ b ∷ c ∷ []) 1 (form.One part.Pattern) b _ refl refl i f t h g
field_is kind.CatchClause (a ∷ b ∷ c ∷ []) i f t h g = row kind.CatchClause (a ∷ b ∷ c ∷ []) 1 (form.One part.Pattern) b _ refl refl i f t h g
field_is kind.ForInStmt (a ∷ b ∷ c ∷ d ∷ []) i f t h g = row kind.ForInStmt (a ∷ b ∷ c ∷ d ∷ []) 1 (form.One part.Pattern) b _ refl refl i f t h g
field_is kind.ForOfStmt (a ∷ b ∷ c ∷ d ∷ e ∷ []) i f t h g = row kind.ForOfStmt (a ∷ b ∷ c ∷ d ∷ e ∷ []) 2 (form.One part.Pattern) c _ refl refl i f t h g
field_is k ts i f t h g = no_field h

-- the fields were looked at in place
pub field_written : (k : Kind) (ts seen now : List Node) (i : ℕ) (f : Form) (t u : Node) → seen ≡ ts → ◌≡◌ {A = Option (ℕ × Form)} (Some (i, f)) (written_field k seen) → slice_get ts i ≡ Some t → u ≡ in_form f t → now ≡ slice_set ts i u
    → Tree k now ≡ written_step (Node-F.Tree k ts)
field_written k ts seen now i f t u same h g new is =
    ap (Tree k) (is ∙ ap (slice_set ts i) new) ∙ field_is k ts i f t (ap (written_field k) (sym same) ∙ sym h) g

pub shorthand_is : (k : Kind) (ts looked : List Node) → looked ≡ ts → is_shorthand k looked ≡ true → (k ≡ kind.AssignPatProp) × (length ts ≡ 3)
shorthand_is k ts looked same h = at k ts (ap (is_shorthand k) (sym same) ∙ h)
  where
    at : (k : Kind) (ts : List Node) → is_shorthand k ts ≡ true → (k ≡ kind.AssignPatProp) × (length ts ≡ 3)
    at kind.AssignPatProp (a ∷ b ∷ c ∷ []) h = (refl, refl)
    at k ts h = other_kind h

pub shorthand_written : (ts now : List Node) (k : Kind) (i : Ident) (name value key target out : Node) → length ts ≡ 3 → slice_get ts 1 ≡ Some name → now ≡ slice_set ts 1 Absent → name ≡ Identifier k i → slice_get now 2 ≡ Some value
    → key ≡ key_of i → target ≡ with_default (Span i.span) (Identifier k i) value → out ≡ Tree kind.KeyValuePatProp (key ∷ target ∷ []) → out ≡ written_step (Node-F.Tree kind.AssignPatProp ts)
shorthand_written (a ∷ b ∷ c ∷ []) now k i name value key target out h g n is there e d o =
    let named : b ≡ Identifier k i = one b name g ∙ is in
    let same : c ≡ value = one c value (sym (ap (λ ts. slice_get ts 2) n) ∙ there) in
    o
    ∙ (λ j. Tree kind.KeyValuePatProp (e j ∷ d j ∷ []))
    ∙ ap (λ v. Tree kind.KeyValuePatProp (key_of i ∷ with_default (Span i.span) (Identifier k i) v ∷ [])) (sym same)
    ∙ sym (ap (λ b. pattern_property_in a b c (out-Node b)) named ∙ ap (pattern_property_in a (Identifier k i) c) (outs-Identifier k i))
shorthand_written [] now k i name value key target out h g n is there e d o = absurd (omega arith)
shorthand_written (a ∷ []) now k i name value key target out h g n is there e d o = absurd (omega arith)
shorthand_written (a ∷ b ∷ []) now k i name value key target out h g n is there e d o = absurd (omega arith)
shorthand_written (a ∷ b ∷ c ∷ x ∷ ts) now k i name value key target out h g n is there e d o = absurd (omega arith)
