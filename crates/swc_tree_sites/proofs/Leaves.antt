-- As what the names stand that a node may leave to the scopes outside, by where it fits.
use Rattle.std.proofs.Common.{◌≡◌, ℕ, zero, suc, Bool, true, false, not, ◌&&◌, ◌||◌, ◌==◌, IsTrue, Some, List, [], ◌∷◌, refl, sym, ap, ◌∙◌, subst, cond, arith}
use Rattle.std.specs.List.{list_all, list_any, slice_get}
use Rattle.std.specs.Prelude.{nat_le}
use Rattle.swc_tree_node.specs.declared.kind.Kind.{Kind}
use Rattle.swc_tree_node.specs.declared.kind.Kind.TheVariants as kind
use Rattle.swc_tree_node.specs.declared.kind.Class.{Class}
use Rattle.swc_tree_node.specs.declared.slot.Content.{Content}
use Rattle.swc_tree_node.specs.declared.slot.Content.TheVariants as content
use Rattle.swc_tree_node.specs.declared.slot.Slot.{Slot}
use Rattle.swc_tree_node.specs.declared.slot.Slot.TheVariants as slot
use Rattle.swc_tree_node.specs.declared.slot.Role.{Role}
use Rattle.swc_tree_node.specs.declared.slot.Role.TheVariants as role
use Rattle.swc_tree_node.specs.Table.{fields_of, kinds_of, kind_number}
use Rattle.swc_tree_node.specs.Fits.{belongs}
use Rattle.swc_tree_scoping.specs.declared.places.Standing.{Standing}
use Rattle.swc_tree_scoping.specs.declared.places.Standing.TheVariants as standing
use Rattle.swc_tree_scoping.specs.declared.places.Scope.TheVariants as scope
use Rattle.swc_tree_scoping.specs.Places.{is_inside, view_from}
use Rattle.swc_tree_scoping.specs.Scopes.{is_binding, takes}

-- standings
abbrev pub same : Standing → Standing → Bool
same standing.Plain standing.Plain = true
same standing.Reference standing.Reference = true
same standing.Variable standing.Variable = true
same standing.Lexical standing.Lexical = true
same standing.Function standing.Function = true
same standing.BlockFunction standing.BlockFunction = true
same standing.SloppyFunction standing.SloppyFunction = true
same standing.Parameter standing.Parameter = true
same standing.CatchParameter standing.CatchParameter = true
same standing.Import standing.Import = true
same standing.FunctionName standing.FunctionName = true
same standing.ClassName standing.ClassName = true
same standing.Body standing.Body = true
same standing.Branch standing.Branch = true
same standing.DefaultExport standing.DefaultExport = true
same standing.Label standing.Label = true
same standing.Imported standing.Imported = true
same standing.Exported standing.Exported = true
same standing.TypeName standing.TypeName = true
same standing.TypeReference standing.TypeReference = true
same _ _ = false

pub same_refl : (r : Standing) → same r r ≡ true
same_refl standing.Plain = refl
same_refl _ = refl

-- names that statements declare
abbrev pub by_statement : Standing → Bool
by_statement standing.Variable = true
by_statement standing.Function = true
by_statement standing.Lexical = true
by_statement standing.BlockFunction = true
by_statement standing.SloppyFunction = true
by_statement _ = false

-- what a node may leave: what stands as the node does, what statements declare, parameters, or anything
pub record Leaves : Type 0 where
  pub own : Bool
  pub by_statements : Bool
  pub parameters : Bool
  pub any : Bool

abbrev pub leaves_none : Leaves
leaves_none = record { own = false; by_statements = false; parameters = false; any = false }

abbrev pub leaves_own : Leaves
leaves_own = record { own = true; by_statements = false; parameters = false; any = false }

abbrev pub leaves_statements : Leaves
leaves_statements = record { own = false; by_statements = true; parameters = false; any = false }

abbrev pub leaves_parameters : Leaves
leaves_parameters = record { own = false; by_statements = false; parameters = true; any = false }

abbrev pub leaves_any : Leaves
leaves_any = record { own = false; by_statements = false; parameters = false; any = true }

abbrev pub either : Leaves → Leaves → Leaves
either a b = record { own = a.own || b.own; by_statements = a.by_statements || b.by_statements; parameters = a.parameters || b.parameters; any = a.any || b.any }

-- whether a name may be left, if it stands as the node does, or if it does not
abbrev pub may : Leaves → Bool → Standing → Bool
may g own r = g.any || ((g.own && own) || ((g.by_statements && by_statement r) || (g.parameters && same standing.Parameter r)))

abbrev pub leaves_kind : Kind → Leaves
leaves_kind kind.Module = leaves_any
leaves_kind kind.Script = leaves_any
leaves_kind kind.ImportDecl = leaves_any
leaves_kind kind.ImportNamedSpecifier = leaves_any
leaves_kind kind.ImportDefaultSpecifier = leaves_any
leaves_kind kind.ImportStarAsSpecifier = leaves_any
leaves_kind kind.ExportDecl = leaves_any
leaves_kind kind.NamedExport = leaves_any
leaves_kind kind.ExportNamespaceSpecifier = leaves_any
leaves_kind kind.ExportNamedSpecifier = leaves_any
leaves_kind kind.ExportDefaultDecl = leaves_any
leaves_kind kind.ExportDefaultExpr = leaves_any
leaves_kind kind.ExportAll = leaves_any
leaves_kind kind.Ident = leaves_own
leaves_kind kind.BindingIdent = leaves_own
leaves_kind kind.ArrayPat = leaves_own
leaves_kind kind.RestPat = leaves_own
leaves_kind kind.ObjectPat = leaves_own
leaves_kind kind.AssignPat = leaves_own
leaves_kind kind.KeyValuePatProp = leaves_own
leaves_kind kind.AssignPatProp = leaves_own
leaves_kind kind.VarDeclarator = leaves_own
leaves_kind kind.Param = leaves_parameters
leaves_kind kind.ClassDecl = leaves_statements
leaves_kind kind.FnDecl = leaves_statements
leaves_kind kind.VarDecl = leaves_statements
leaves_kind kind.UsingDecl = leaves_statements
leaves_kind kind.BlockStmt = leaves_statements
leaves_kind kind.ExprStmt = leaves_statements
leaves_kind kind.WithStmt = leaves_statements
leaves_kind kind.ReturnStmt = leaves_statements
leaves_kind kind.ThrowStmt = leaves_statements
leaves_kind kind.LabeledStmt = leaves_statements
leaves_kind kind.IfStmt = leaves_statements
leaves_kind kind.SwitchStmt = leaves_statements
leaves_kind kind.SwitchCase = leaves_statements
leaves_kind kind.TryStmt = leaves_statements
leaves_kind kind.CatchClause = leaves_statements
leaves_kind kind.WhileStmt = leaves_statements
leaves_kind kind.DoWhileStmt = leaves_statements
leaves_kind kind.ForStmt = leaves_statements
leaves_kind kind.ForInStmt = leaves_statements
leaves_kind kind.ForOfStmt = leaves_statements
leaves_kind kind.TsEnumDecl = leaves_statements
leaves_kind kind.TsModuleDecl = leaves_statements
leaves_kind _ = leaves_none

abbrev leaves_kinds : List Kind → Leaves
leaves_kinds [] = leaves_none
leaves_kinds (k ∷ ks) = either (leaves_kind k) (leaves_kinds ks)

abbrev pub leaves_class : Class → Leaves
leaves_class c = leaves_kinds (kinds_of c)

abbrev pub leaves_content : Content → Leaves
leaves_content (content.Node c) = leaves_class c
leaves_content _ = leaves_none

abbrev pub leaves_slot : Slot → Leaves
leaves_slot (slot.One c) = leaves_content c
leaves_slot (slot.Optional c) = leaves_content c
leaves_slot (slot.List c) = leaves_content c
leaves_slot (slot.Holes c) = leaves_content c
leaves_slot (slot.OptionalList c) = leaves_content c
leaves_slot _ = leaves_none

-- a kind's number tells what it leaves
abbrev leaves_number : ℕ → Leaves
leaves_number n = record {
  own = (n == 13 || n == 14) || ((nat_le 48 n && nat_le n 53) || n == 80);
  by_statements = (nat_le 76 n && (nat_le n 96 && not (n == 80))) || (n == 100 || n == 102);
  parameters = n == 33;
  any = nat_le n 12;
}

by_number : (k : Kind) → leaves_kind k ≡ leaves_number (kind_number k)
by_number kind.Module = refl
by_number _ = refl

may_left : (a b : Leaves) (own : Bool) (r : Standing) → may a own r ≡ true → may (either a b) own r ≡ true
may_left a b own r h = at a.any a.own a.by_statements a.parameters h
  where
    at : (x y z v : Bool) → (x || ((y && own) || ((z && by_statement r) || (v && same standing.Parameter r)))) ≡ true
        → ((x || b.any) || (((y || b.own) && own) || (((z || b.by_statements) && by_statement r) || ((v || b.parameters) && same standing.Parameter r)))) ≡ true
    at x y z v h = grind arith

or_swap : (x y : Bool) → (x || y) ≡ (y || x)
or_swap true true = refl
or_swap true false = refl
or_swap false true = refl
or_swap false false = refl

either_swap : (a b : Leaves) → either a b ≡ either b a
either_swap a b = λ i. record { own = or_swap a.own b.own i; by_statements = or_swap a.by_statements b.by_statements i; parameters = or_swap a.parameters b.parameters i; any = or_swap a.any b.any i }

-- what a kind leaves, a class does that takes it
covers : (k : Kind) (ks : List Kind) (own : Bool) (r : Standing) → list_any (λ x. kind_number k == kind_number x) ks ≡ true → may (leaves_kind k) own r ≡ true → may (leaves_kinds ks) own r ≡ true
covers k [] own r h g = absurd (cc)
covers k (x ∷ ks) own r h g = next (kind_number k == kind_number x) refl h (λ e. covers k ks own r e g)
  where
    next : (b : Bool) → (kind_number k == kind_number x) ≡ b → (b || list_any (λ x. kind_number k == kind_number x) ks) ≡ true
        → (list_any (λ x. kind_number k == kind_number x) ks ≡ true → may (leaves_kinds ks) own r ≡ true) → may (either (leaves_kind x) (leaves_kinds ks)) own r ≡ true
    next true e h later =
        let number : kind_number k ≡ kind_number x = grind arith in
        let one : leaves_kind k ≡ leaves_kind x = by_number k ∙ ap leaves_number number ∙ sym (by_number x) in
        may_left (leaves_kind x) (leaves_kinds ks) own r (subst (λ a. may a own r ≡ true) one g)
    next false e h later = subst (λ a. may a own r ≡ true) (either_swap (leaves_kinds ks) (leaves_kind x)) (may_left (leaves_kinds ks) (leaves_kind x) own r (later h))

pub class_covers : (k : Kind) (c : Class) (own : Bool) (r : Standing) → IsTrue (belongs k c) → may (leaves_kind k) own r ≡ true → may (leaves_class c) own r ≡ true
class_covers k c own r h g = covers k (kinds_of c) own r h g

-- of each kind, what its fields leave and its scope does not take
abbrev pub Field : Type 0
Field = List ℕ × Slot × Role

-- whether a name may stand as the field does
abbrev pub own_below : Kind → Role → Bool → Standing → Bool
own_below k role.Inherited own r = own
own_below k role.Declared own r = same standing.Variable r || same standing.Lexical r
own_below k role.Function own r = same standing.Function r || (same standing.BlockFunction r || same standing.SloppyFunction r)
own_below k role.Class own r = same standing.Lexical r
own_below kind.FnExpr role.OwnName own r = same standing.FunctionName r
own_below k role.OwnName own r = same standing.ClassName r
own_below k role.Parameter own r = same standing.Parameter r
own_below k role.Catch own r = same standing.CatchParameter r
own_below k role.Import own r = same standing.Import r
own_below k role.Lexical own r = same standing.Lexical r
own_below k _ own r = false

-- what the scope of a node takes wherever the node stands; that of a name, where there is one
abbrev pub takes_surely : Kind → ℕ → Standing → Bool
takes_surely kind.Function i r = takes r scope.Function
takes_surely kind.ArrowExpr i r = takes r scope.Function
takes_surely kind.Constructor i r = takes r scope.Function
takes_surely kind.GetterProp i r = takes r scope.Function
takes_surely kind.SetterProp i r = takes r scope.Function
takes_surely kind.StaticBlock i r = takes r scope.StaticBlock
takes_surely kind.CatchClause i r = takes r scope.Catch
takes_surely kind.TsModuleDecl i r = takes r scope.Namespace
takes_surely kind.FnExpr zero r = takes r scope.FunctionName
takes_surely kind.ClassExpr zero r = takes r scope.ClassName
takes_surely _ i r = false

abbrev pub stays : Kind → ℕ → Standing → Bool
stays k i r = not (takes_surely k i r && is_inside (view_from k i))

abbrev field_may : Kind → ℕ → Field → Bool → Standing → Bool
field_may k i f own r = cond (may (leaves_slot f.1) (own_below k f.2 own r) r && stays k i r) (may (leaves_kind k) own r) true

abbrev bindings : List Standing
bindings = standing.Variable ∷ standing.Lexical ∷ standing.Function ∷ standing.BlockFunction ∷ standing.SloppyFunction ∷ standing.Parameter ∷ standing.CatchParameter ∷ standing.Import ∷ standing.FunctionName ∷ standing.ClassName ∷ []

abbrev field_fine : Kind → ℕ → Field → Bool
field_fine k i f = list_all (λ r. field_may k i f true r && field_may k i f false r) bindings

abbrev all_fine : (ℕ → Field → Bool) → List Field → Bool
all_fine g [] = true
all_fine g (f ∷ fs) = g zero f && all_fine (λ i. g (suc i)) fs

kind_fine : (k : Kind) → all_fine (field_fine k) (fields_of k) ≡ true
kind_fine kind.Module = refl
kind_fine _ = refl

fine_at : (g : ℕ → Field → Bool) (fs : List Field) (i : ℕ) (f : Field) → all_fine g fs ≡ true → slice_get fs i ≡ Some f → g i f ≡ true
fine_at g [] i f h e = absurd (cc)
fine_at g (x ∷ fs) zero f h e = let same : x ≡ f = cc in ap (g zero) (sym same) ∙ first (g zero x) (all_fine (λ i. g (suc i)) fs) h
  where
    first : (a b : Bool) → (a && b) ≡ true → a ≡ true
    first true b h = refl
    first false b h = absurd (cc)
fine_at g (x ∷ fs) (suc i) f h e = fine_at (λ i. g (suc i)) fs i f (later (g zero x) (all_fine (λ i. g (suc i)) fs) h) e
  where
    later : (a b : Bool) → (a && b) ≡ true → b ≡ true
    later true b h = h
    later false b h = absurd (cc)

each_binding : (g : Standing → Bool) → list_all g bindings ≡ true → (r : Standing) → is_binding r ≡ true → g r ≡ true
each_binding g h standing.Plain b = absurd (cc)
each_binding g h standing.Reference b = absurd (cc)
each_binding g h standing.Body b = absurd (cc)
each_binding g h standing.Branch b = absurd (cc)
each_binding g h standing.DefaultExport b = absurd (cc)
each_binding g h standing.Label b = absurd (cc)
each_binding g h standing.Imported b = absurd (cc)
each_binding g h standing.Exported b = absurd (cc)
each_binding g h standing.TypeName b = absurd (cc)
each_binding g h standing.TypeReference b = absurd (cc)
each_binding g h standing.Variable b = grind arith
each_binding g h standing.Lexical b = grind arith
each_binding g h standing.Function b = grind arith
each_binding g h standing.BlockFunction b = grind arith
each_binding g h standing.SloppyFunction b = grind arith
each_binding g h standing.Parameter b = grind arith
each_binding g h standing.CatchParameter b = grind arith
each_binding g h standing.Import b = grind arith
each_binding g h standing.FunctionName b = grind arith
each_binding g h standing.ClassName b = grind arith

-- what a field leaves and the scope does not take, the node may leave
pub field_leaves : (k : Kind) (i : ℕ) (f : Field) (own : Bool) (r : Standing) → slice_get (fields_of k) i ≡ Some f → is_binding r ≡ true → may (leaves_slot f.1) (own_below k f.2 own r) r ≡ true → stays k i r ≡ true → may (leaves_kind k) own r ≡ true
field_leaves k i f own r e b h s = by own (each_binding (λ r. field_may k i f true r && field_may k i f false r) (fine_at (field_fine k) (fields_of k) i f (kind_fine k) e) r b) h
  where
    out : (x y z : Bool) → cond (x && y) z true ≡ true → x ≡ true → y ≡ true → z ≡ true
    out true true z h g s = h
    out true false z h g s = absurd (cc)
    out false y z h g s = absurd (cc)

    both : (x y : Bool) → (x && y) ≡ true → (x ≡ true) × (y ≡ true)
    both true y h = (refl, h)
    both false y h = absurd (cc)

    by : (own : Bool) → (field_may k i f true r && field_may k i f false r) ≡ true → may (leaves_slot f.1) (own_below k f.2 own r) r ≡ true → may (leaves_kind k) own r ≡ true
    by true c h = out (may (leaves_slot f.1) (own_below k f.2 true r) r) (stays k i r) (may (leaves_kind k) true r) (both (field_may k i f true r) (field_may k i f false r) c).0 h s
    by false c h = out (may (leaves_slot f.1) (own_below k f.2 false r) r) (stays k i r) (may (leaves_kind k) false r) (both (field_may k i f true r) (field_may k i f false r) c).1 h s
