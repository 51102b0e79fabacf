-- A scope of the analysis that a node opens takes from below no more than the language's scope there does.
use Rattle.std.proofs.Common.{◌≡◌, ◌≢◌, ℕ, zero, suc, Bool, true, false, not, ◌&&◌, ◌||◌, ◌==◌, IsTrue, Some, None, List, [], ◌∷◌, map, refl, sym, ap, ◌∙◌, subst, cond, true≢false}
use Rattle.std.specs.List.{list_all, slice_get}
use Rattle.std.specs.Option.{is_some, option_and_then}
use Rattle.std.specs.Prelude.{unwrap_or, option_map}
use Rattle.swc_tree_node.specs.declared.kind.Kind.{Kind}
use Rattle.swc_tree_node.specs.declared.kind.Kind.TheVariants as kind
use Rattle.swc_tree_node.specs.declared.kind.Class.TheVariants as class
use Rattle.swc_tree_node.specs.declared.slot.Content.TheVariants as content
use Rattle.swc_tree_node.specs.declared.slot.Slot.{Slot}
use Rattle.swc_tree_node.specs.declared.slot.Slot.TheVariants as slot
use Rattle.swc_tree_node.specs.declared.slot.Role.{Role}
use Rattle.swc_tree_node.specs.declared.slot.Role.TheVariants as role
use Rattle.swc_tree_node.specs.declared.node.Node.{Node, out-Node}
use Rattle.swc_tree_node.specs.declared.node.Node.TheOpen.{Node-F}
use Rattle.swc_tree_node.specs.Table.{fields_of, slots_of, is_identifier}
use Rattle.swc_tree_node.specs.Fits.{Fits, belongs, each_fits, fits, tree_fits}
use Rattle.swc_tree_node.proofs.Fit.{both}
use Rattle.swc_tree_scoping.specs.declared.places.Standing.{Standing}
use Rattle.swc_tree_scoping.specs.declared.places.Standing.TheVariants as standing
use Rattle.swc_tree_scoping.specs.declared.places.Place.{Place}
use Rattle.swc_tree_scoping.specs.declared.places.Scope.{Scope}
use Rattle.swc_tree_scoping.specs.declared.places.Scope.TheVariants as scope
use Rattle.swc_tree_scoping.specs.declared.places.View.TheVariants as view
use Rattle.swc_tree_scoping.specs.Places.{absent_in, is_there, block_scope, child, children_in, has_own_name, is_at, is_identifier_expression, is_inside, name_scope, named, opened, opened_as, opened_in, own_name, place_below, place_in, plain_standing, standing_below, view_from}
use Rattle.swc_tree_scoping.specs.Scopes.{is_binding, is_taken, takes, view_in}
use Rattle.swc_tree_scoping.specs.BoundNames.{name_in, name_of}
use Rattle.swc_tree_sites.specs.Sites.{Binding}
use Rattle.swc_tree_sites.proofs.Loose.{Below, is_no_identifier, own, pends, to_child}
use Rattle.swc_tree_sites.proofs.Leaves.{Field, Leaves, leaves_slot, may, same}
use Rattle.swc_tree_sites.proofs.Pending.{apart, left_fits}
use Rattle.swc_base_rename_analysis.specs.declared.scopes.ScopeKind.{ScopeKind}
use Rattle.swc_base_rename_analysis.specs.declared.scopes.ScopeKind.TheVariants.{Block}
use Rattle.swc_base_rename_analysis.specs.Analysis.{has_identifier, is_default_export, is_outside, kind_of, own_kind, takes as takes_all}
use Rattle.swc_base_rename_scoped_laws.proofs.Fields.{field_at, layer}

-- what the analysis may take at a node of a kind
abbrev pub analysed : Kind → Standing → Bool
analysed kind.BlockStmt r = takes_all Block r
analysed kind.ForStmt r = takes_all Block r
analysed kind.ForInStmt r = takes_all Block r
analysed kind.ForOfStmt r = takes_all Block r
analysed kind.CatchClause r = takes_all Block r
analysed kind.Module r = true
analysed kind.Script r = true
analysed kind.Function r = true
analysed kind.ArrowExpr r = true
analysed kind.Constructor r = true
analysed kind.GetterProp r = true
analysed kind.SetterProp r = true
analysed kind.StaticBlock r = true
analysed kind.TsModuleDecl r = true
analysed kind.FnExpr r = true
analysed kind.ClassExpr r = true
analysed _ r = false

-- what the language takes there, of what stands in a field
abbrev pub taken_there : Kind → ℕ → Standing → Bool
taken_there kind.Module i r = takes r scope.Program
taken_there kind.Script i r = takes r scope.Program
taken_there kind.Function i r = takes r scope.Function
taken_there kind.ArrowExpr i r = takes r scope.Function
taken_there kind.Constructor i r = takes r scope.Function
taken_there kind.GetterProp i r = takes r scope.Function
taken_there kind.SetterProp i r = takes r scope.Function
taken_there kind.StaticBlock i r = takes r scope.StaticBlock
taken_there kind.TsModuleDecl i r = takes r scope.Namespace
taken_there kind.CatchClause i r = takes r scope.Catch
taken_there kind.BlockStmt i r = takes r scope.Block
taken_there kind.ForStmt i r = takes r scope.For
taken_there kind.ForInStmt i r = takes r scope.For
taken_there kind.ForOfStmt i r = takes r scope.For
taken_there kind.FnExpr zero r = takes r scope.FunctionName
taken_there kind.ClassExpr zero r = takes r scope.ClassName
taken_there _ i r = false

-- whether what stands as the field does may be bound so
abbrev pub bound_so : Kind → Role → Standing → Bool
bound_so k role.Plain r = false
bound_so k role.Reference r = false
bound_so k role.FunctionBody r = false
bound_so k role.Parameter r = same standing.Parameter r
bound_so k role.Catch r = same standing.CatchParameter r
bound_so kind.FnExpr role.OwnName r = same standing.FunctionName r
bound_so k role.OwnName r = same standing.ClassName r
bound_so k _ r = true

abbrev is_named : Kind → Bool
is_named kind.FnExpr = true
is_named kind.ClassExpr = true
is_named _ = false

abbrev is_space : Kind → Bool
is_space kind.TsModuleDecl = true
is_space _ = false

abbrev is_plain_role : Kind → Role → Bool
is_plain_role k role.Plain = true
is_plain_role k role.Reference = true
is_plain_role k role.FunctionBody = true
is_plain_role k role.Parameter = true
is_plain_role k role.Catch = true
is_plain_role k role.OwnName = is_named k
is_plain_role k role.Class = is_space k
is_plain_role k _ = false

abbrev implies : Bool → Bool → Bool
implies a b = cond a b true

abbrev field_test : Kind → ℕ → Standing → Field → Bool
field_test k i r f = implies (analysed k r && may (leaves_slot f.1) (bound_so k f.2 r) r) (taken_there k i r)

abbrev role_test : Kind → ℕ → Standing → Field → Bool
role_test k i r f = implies (analysed k r) (is_plain_role k f.2)

abbrev bindings : List Standing
bindings = standing.Variable ∷ standing.Lexical ∷ standing.Function ∷ standing.BlockFunction ∷ standing.SloppyFunction ∷ standing.Parameter ∷ standing.CatchParameter ∷ standing.Import ∷ standing.FunctionName ∷ standing.ClassName ∷ []

abbrev field_fine : Kind → ℕ → Field → Bool
field_fine k i f = list_all (λ r. field_test k i r f && role_test k i r f) bindings

abbrev all_fine : (ℕ → Field → Bool) → List Field → Bool
all_fine g [] = true
all_fine g (f ∷ fs) = g zero f && all_fine (λ i. g (suc i)) fs

kind_fine : (k : Kind) → all_fine (field_fine k) (fields_of k) ≡ true
kind_fine kind.Module = refl
kind_fine _ = refl

first_true : (a b : Bool) → (a && b) ≡ true → a ≡ true
first_true true b h = refl
first_true false b h = absurd (cc)

second_true : (a b : Bool) → (a && b) ≡ true → b ≡ true
second_true true b h = h
second_true false b h = absurd (cc)

fine_at : (g : ℕ → Field → Bool) (fs : List Field) (i : ℕ) (f : Field) → all_fine g fs ≡ true → slice_get fs i ≡ Some f → g i f ≡ true
fine_at g [] i f h e = absurd (cc)
fine_at g (x ∷ fs) zero f h e = let same : x ≡ f = cc in ap (g zero) (sym same) ∙ first_true (g zero x) (all_fine (λ i. g (suc i)) fs) h
fine_at g (x ∷ fs) (suc i) f h e = fine_at (λ i. g (suc i)) fs i f (second_true (g zero x) (all_fine (λ i. g (suc i)) fs) h) e

each_at : (g : Standing → Bool) (rs : List Standing) (i : ℕ) (r : Standing) → list_all g rs ≡ true → slice_get rs i ≡ Some r → g r ≡ true
each_at g [] i r h e = absurd (cc)
each_at g (x ∷ rs) zero r h e = let same : x ≡ r = cc in ap g (sym same) ∙ first_true (g x) (list_all g rs) h
each_at g (x ∷ rs) (suc i) r h e = each_at g rs i r (second_true (g x) (list_all g rs) h) e

each_binding : (g : Standing → Bool) → list_all g bindings ≡ true → (r : Standing) → is_binding r ≡ true → g r ≡ true
each_binding g h standing.Variable b = each_at g bindings 0 standing.Variable h refl
each_binding g h standing.Lexical b = each_at g bindings 1 standing.Lexical h refl
each_binding g h standing.Function b = each_at g bindings 2 standing.Function h refl
each_binding g h standing.BlockFunction b = each_at g bindings 3 standing.BlockFunction h refl
each_binding g h standing.SloppyFunction b = each_at g bindings 4 standing.SloppyFunction h refl
each_binding g h standing.Parameter b = each_at g bindings 5 standing.Parameter h refl
each_binding g h standing.CatchParameter b = each_at g bindings 6 standing.CatchParameter h refl
each_binding g h standing.Import b = each_at g bindings 7 standing.Import h refl
each_binding g h standing.FunctionName b = each_at g bindings 8 standing.FunctionName h refl
each_binding g h standing.ClassName b = each_at g bindings 9 standing.ClassName h refl
each_binding g h _ b = absurd (cc)

then_so : (a b : Bool) → implies a b ≡ true → a ≡ true → b ≡ true
then_so true b h e = h
then_so false b h e = absurd (cc)

both_tests : (k : Kind) (i : ℕ) (f : Field) (r : Standing) → slice_get (fields_of k) i ≡ Some f → is_binding r ≡ true → (field_test k i r f && role_test k i r f) ≡ true
both_tests k i f r e b = each_binding (λ r. field_test k i r f && role_test k i r f) (fine_at (field_fine k) (fields_of k) i f (kind_fine k) e) r b

both_so : (a b : Bool) → a ≡ true → b ≡ true → (a && b) ≡ true
both_so true b h g = g
both_so false b h g = absurd (cc)

pub field_taken : (k : Kind) (i : ℕ) (f : Field) (r : Standing) → slice_get (fields_of k) i ≡ Some f → is_binding r ≡ true → analysed k r ≡ true → may (leaves_slot f.1) (bound_so k f.2 r) r ≡ true → taken_there k i r ≡ true
field_taken k i f r e b a m =
    then_so (analysed k r && may (leaves_slot f.1) (bound_so k f.2 r) r) (taken_there k i r) (first_true (field_test k i r f) (role_test k i r f) (both_tests k i f r e b))
    (both_so (analysed k r) (may (leaves_slot f.1) (bound_so k f.2 r) r) a m)

field_plain : (k : Kind) (i : ℕ) (f : Field) (r : Standing) → slice_get (fields_of k) i ≡ Some f → is_binding r ≡ true → analysed k r ≡ true → is_plain_role k f.2 ≡ true
field_plain k i f r e b a = then_so (analysed k r) (is_plain_role k f.2) (second_true (field_test k i r f) (role_test k i r f) (both_tests k i f r e b)) a

-- as what the field stands
not_default : (r : Standing) → is_default_export r ≡ false → r ≢ standing.DefaultExport
not_default r h e = let z : true ≡ false = sym (ap is_default_export e) ∙ h in absurd (cc)

never : (s r : Standing) (b : Bool) → is_binding s ≡ false → is_binding r ≡ true → same s r ≡ true → b ≡ true
never s r b a c h = let z : true ≡ false = sym h ∙ apart s r a c in absurd (cc)

plain_binds_not : (k : Kind) (i : ℕ) → is_binding (plain_standing k i) ≡ false
plain_binds_not kind.IfStmt i = at (i == 2 || i == 3)
  where
    at : (b : Bool) → is_binding (cond b standing.Branch standing.Plain) ≡ false
    at true = refl
    at false = refl
plain_binds_not kind.ExportDefaultDecl i = at (i == 1)
  where
    at : (b : Bool) → is_binding (cond b standing.DefaultExport standing.Plain) ≡ false
    at true = refl
    at false = refl
plain_binds_not _ i = refl

parameter_so : (b : Bool) (r : Standing) → is_binding r ≡ true → same (cond b standing.Reference standing.Parameter) r ≡ true → same standing.Parameter r ≡ true
parameter_so true r b h = never standing.Reference r (same standing.Parameter r) refl b h
parameter_so false r b h = h

catch_so : (b : Bool) (r : Standing) → is_binding r ≡ true → same (cond b standing.Reference standing.CatchParameter) r ≡ true → same standing.CatchParameter r ≡ true
catch_so true r b h = never standing.Reference r (same standing.CatchParameter r) refl b h
catch_so false r b h = h

-- by the standing alone, then by the kind: both at once have some 2,500 cases
expression_so : (k : Kind) (r : Standing) → same (own_name standing.Plain k) r ≡ true → bound_so k role.OwnName r ≡ true
expression_so kind.FnExpr r h = h
expression_so _ r h = h

name_so : (k : Kind) (s r : Standing) → is_default_export s ≡ false → same (own_name s k) r ≡ true → bound_so k role.OwnName r ≡ true
name_so k standing.DefaultExport r d h = absurd (cc)
name_so k _ r d h = expression_so k r h

so : (w : Place) (k : Kind) (ts : List Node) (i : ℕ) (x : Role) (r : Standing) → (is_named k ≡ true → is_default_export w.standing ≡ false) → is_binding r ≡ true → is_plain_role k x ≡ true → same (standing_below w k ts i x) r ≡ true → bound_so k x r ≡ true
so w k ts i role.Plain r d b p h = never (plain_standing k i) r (bound_so k role.Plain r) (plain_binds_not k i) b h
so w k ts i role.Reference r d b p h = never standing.Reference r (bound_so k role.Reference r) refl b h
so w k ts i role.FunctionBody r d b p h = never standing.Body r (bound_so k role.FunctionBody r) refl b h
so w k ts i role.Parameter r d b p h = parameter_so (is_identifier_expression (slice_get ts i)) r b h
so w k ts i role.Catch r d b p h = catch_so (is_identifier_expression (slice_get ts i)) r b h
so w k ts i role.OwnName r d b p h = name_so k w.standing r (d p) h
so w k ts i role.Class r d b p h = refl
so w k ts i _ r d b p h = absurd (cc)

no_export : (k : Kind) (r : Standing) (i : ℕ) → analysed k r ≡ true → is_default_export (plain_standing k i) ≡ false
no_export kind.IfStmt r i h = absurd (true≢false (sym h))
no_export kind.ExportDefaultDecl r i h = absurd (true≢false (sym h))
no_export _ r i h = refl

chosen : (b : Bool) (s : Standing) → is_default_export s ≡ false → is_default_export (cond b standing.Reference s) ≡ false
chosen true s h = refl
chosen false s h = h

default_not_default : (k : Kind) → is_default_export (own_name standing.DefaultExport k) ≡ false
default_not_default kind.FnExpr = refl
default_not_default _ = refl

expression_not_default : (k : Kind) → is_default_export (own_name standing.Plain k) ≡ false
expression_not_default kind.FnExpr = refl
expression_not_default _ = refl

name_not_default : (k : Kind) (s : Standing) → is_default_export (own_name s k) ≡ false
name_not_default k standing.DefaultExport = default_not_default k
name_not_default k _ = expression_not_default k

field_not_default : (w : Place) (k : Kind) (ts : List Node) (i : ℕ) (x : Role) (r : Standing) → analysed k r ≡ true → is_plain_role k x ≡ true → is_default_export (standing_below w k ts i x) ≡ false
field_not_default w k ts i role.Plain r a p = no_export k r i a
field_not_default w k ts i role.Reference r a p = refl
field_not_default w k ts i role.FunctionBody r a p = refl
field_not_default w k ts i role.Parameter r a p = chosen (is_identifier_expression (slice_get ts i)) standing.Parameter refl
field_not_default w k ts i role.Catch r a p = chosen (is_identifier_expression (slice_get ts i)) standing.CatchParameter refl
field_not_default w k ts i role.OwnName r a p = name_not_default k w.standing
field_not_default w k ts i role.Class r a p = refl
field_not_default w k ts i _ r a p = absurd (cc)

pub may_more : (g : Leaves) (x y : Bool) (r : Standing) → (x ≡ true → y ≡ true) → may g x r ≡ true → may g y r ≡ true
may_more g true y r h e = subst (λ z. may g z r ≡ true) (sym (h refl)) e
may_more g false true r h e = at g.any g.own _ e
  where
    at : (a d c : Bool) → (a || ((d && false) || c)) ≡ true → (a || ((d && true) || c)) ≡ true
    at true d c h = refl
    at false true c h = refl
    at false false c h = h
may_more g false false r h e = e

no_scope : {a : ScopeKind} → None ≡ Some a → ⊥
no_scope e = absurd (cc)

-- what the node opens
pub opens_analysed : (w : Place) (k : Kind) (b : Bool) (a : ScopeKind) (r : Standing) → own_kind w k b ≡ Some a → takes_all a r ≡ true → analysed k r ≡ true
opens_analysed w kind.Module b a r e h = refl
opens_analysed w kind.Script b a r e h = refl
opens_analysed w kind.Function b a r e h = refl
opens_analysed w kind.ArrowExpr b a r e h = refl
opens_analysed w kind.Constructor b a r e h = refl
opens_analysed w kind.GetterProp b a r e h = refl
opens_analysed w kind.SetterProp b a r e h = refl
opens_analysed w kind.StaticBlock b a r e h = refl
opens_analysed w kind.TsModuleDecl b a r e h = refl
opens_analysed w kind.FnExpr b a r e h = refl
opens_analysed w kind.ClassExpr b a r e h = refl
opens_analysed w kind.ForStmt b a r e h = let z : Block ≡ a = cc in ap (λ a. takes_all a r) z ∙ h
opens_analysed w kind.ForInStmt b a r e h = let z : Block ≡ a = cc in ap (λ a. takes_all a r) z ∙ h
opens_analysed w kind.ForOfStmt b a r e h = let z : Block ≡ a = cc in ap (λ a. takes_all a r) z ∙ h
opens_analysed w kind.CatchClause b a r e h = let z : Block ≡ a = cc in ap (λ a. takes_all a r) z ∙ h
opens_analysed w kind.BlockStmt b a r e h = by w.standing e
  where
    by : (s : Standing) → option_and_then kind_of (block_scope s) ≡ Some a → takes_all Block r ≡ true
    by standing.Body e = absurd (cc)
    by _ e = let z : Block ≡ a = cc in ap (λ a. takes_all a r) z ∙ h
opens_analysed w kind.SwitchStmt b a r e h = absurd (no_scope e)
opens_analysed w kind.FnDecl b a r e h = absurd (no_scope e)
opens_analysed w _ b a r e h = absurd (no_scope e)

scope_named : (s : Standing) (b : Bool) (n : Scope) (r : Standing) (a : ScopeKind) → option_and_then kind_of (name_scope s b n) ≡ Some a → takes r n ≡ true → is_taken r (name_scope s b n) ≡ true
scope_named standing.DefaultExport b n r a e h = absurd (cc)
scope_named _ true n r a e h = h
scope_named _ false n r a e h = absurd (cc)

name_there : (s : Standing) (b : Bool) (n : Scope) (r : Standing) → is_default_export s ≡ false → b ≡ true → takes r n ≡ true → is_taken r (name_scope s b n) ≡ true
name_there standing.DefaultExport b n r d e h = absurd (cc)
name_there _ true n r d e h = h
name_there _ false n r d e h = absurd (cc)

block_there : (s : Standing) (r : Standing) (a : ScopeKind) → option_and_then kind_of (block_scope s) ≡ Some a → takes r scope.Block ≡ true → is_taken r (block_scope s) ≡ true
block_there standing.Body r a e h = absurd (cc)
block_there _ r a e h = h

opens_taken : (w : Place) (k : Kind) (ts : List Node) (i : ℕ) (r : Standing) (a : ScopeKind) → (is_named k ≡ true → is_default_export w.standing ≡ false) → (i ≡ 0 → has_own_name ts ≡ true) → own_kind w k (has_own_name ts) ≡ Some a → taken_there k i r ≡ true
    → is_taken r (opened_as w k (has_own_name ts)) ≡ true
opens_taken w kind.Module ts i r a d there e h = h
opens_taken w kind.Script ts i r a d there e h = h
opens_taken w kind.Function ts i r a d there e h = h
opens_taken w kind.ArrowExpr ts i r a d there e h = h
opens_taken w kind.Constructor ts i r a d there e h = h
opens_taken w kind.GetterProp ts i r a d there e h = h
opens_taken w kind.SetterProp ts i r a d there e h = h
opens_taken w kind.StaticBlock ts i r a d there e h = h
opens_taken w kind.TsModuleDecl ts i r a d there e h = h
opens_taken w kind.CatchClause ts i r a d there e h = h
opens_taken w kind.ForStmt ts i r a d there e h = h
opens_taken w kind.ForInStmt ts i r a d there e h = h
opens_taken w kind.ForOfStmt ts i r a d there e h = h
opens_taken w kind.BlockStmt ts i r a d there e h = block_there w.standing r a e h
opens_taken w kind.FnExpr ts zero r a d there e h = scope_named w.standing (has_own_name ts) scope.FunctionName r a e h
opens_taken w kind.FnExpr ts (suc i) r a d there e h = absurd (true≢false (sym h))
opens_taken w kind.ClassExpr ts zero r a d there e h = name_there w.standing (has_own_name ts) scope.ClassName r (d refl) (there refl) h
opens_taken w kind.ClassExpr ts (suc i) r a d there e h = absurd (true≢false (sym h))
opens_taken w _ ts i r a d there e h = absurd (true≢false (sym h))

parameters_inside : (o : Bool) → is_inside (cond o view.Parameters view.Whole) ≡ true
parameters_inside true = refl
parameters_inside false = refl

-- of what stands in a scope of the analysis the language sees a part too
pub seen_too : (w : Place) (k : Kind) (b named : Bool) (i : ℕ) (a : ScopeKind) → own_kind w k b ≡ Some a → is_outside w k named i ≡ false → is_inside (view_from k i) ≡ true
seen_too w kind.Constructor b named i a e n = ap (λ o. is_inside (cond o view.Outside (cond (is_at (Some 2) i) view.Parameters view.Whole))) n ∙ parameters_inside (is_at (Some 2) i)
seen_too w kind.GetterProp b named i a e n = ap (λ o. is_inside (cond o view.Outside view.Whole)) n
seen_too w kind.TsModuleDecl b named i a e n = ap (λ o. is_inside (cond o view.Outside view.Whole)) n
seen_too w kind.SetterProp b named i a e n = ap (λ o. is_inside (cond o view.Outside (cond (is_at (Some 2) i) view.Parameters view.Whole))) n ∙ parameters_inside (is_at (Some 2) i)
seen_too w kind.SwitchStmt b named i a e n = absurd (cc)
seen_too w kind.TsInterfaceDecl b named i a e n = absurd (cc)
seen_too w kind.TsTypeAliasDecl b named i a e n = absurd (cc)
seen_too w kind.TsEnumDecl b named i a e n = absurd (cc)
seen_too w kind.Function b named i a e n = parameters_inside (is_at (Some 1) i)
seen_too w kind.ArrowExpr b named i a e n = parameters_inside (is_at (Some 1) i)
seen_too w kind.CatchClause b named i a e n = parameters_inside (is_at (Some 1) i)
seen_too w _ b named i a e n = refl

abbrev is_class : Kind → Bool
is_class kind.ClassExpr = true
is_class _ = false

some_field : {f g : Field} → Some f ≡ Some g → f ≡ g
some_field e = cc

plain_apart : standing.Plain ≢ standing.DefaultExport
plain_apart e = absurd (cc)

no_field : {f : Field} → None ≡ Some f → ⊥
no_field e = absurd (cc)

no_node : {d : Node} → Some d ≡ None → ⊥
no_node e = absurd (cc)

none_left : (own : Bool) (r : Standing) → may (leaves_slot (slot.One (content.Node class.Class))) own r ≡ true → ⊥
none_left own r h = absurd (cc)

ident_alone : (k : Kind) → IsTrue (belongs k class.Ident) → is_identifier k ≡ true
ident_alone kind.Ident h = refl
ident_alone kind.Module h = absurd (true≢false (sym h))
ident_alone _ h = absurd (true≢false (sym h))

pub no_tree : (l : Kind) (us : List Node) → IsTrue (tree_fits l (map fits us) (Some (content.Node class.Ident))) → ⊥
no_tree l us h =
    let p = both (not (is_identifier l)) (belongs l class.Ident && each_fits (slots_of l) (map fits us)) h in
    let q = both (belongs l class.Ident) (each_fits (slots_of l) (map fits us)) p.1 in
    let z : IsTrue (not true) = subst (λ b. IsTrue (not b)) (ident_alone l q.0) p.0 in
    absurd (cc)

-- what has an identifier below it is there
present : (v : Place) (c : Node) (b : Binding) (y : Node-F Node) → out-Node c ≡ y → Below v c b None → absent_in y ≡ false
present v c b Node-F.Absent o g =
    let (j, d, z, h, e) = to_child v c b None tt (ap is_no_identifier o) g in
    let n : Some d ≡ None = sym z ∙ ap (λ y. slice_get (children_in y) j) o in
    absurd (cc)
present v c b (Node-F.Flag x) o g = refl
present v c b _ o g = refl

own_there : (v : Place) (c : Node) (b : Binding) (ts : List Node) (j : ℕ) → slice_get ts j ≡ Some c → Below v c b None → j ≡ 0 → has_own_name ts ≡ true
own_there v c b ts j e g z = ap is_there (ap (slice_get ts) (sym z) ∙ e) ∙ ap not (present v c b (out-Node c) refl g)

-- only a class that is the default export opens a scope, and stands as one
not_exported : (w : Place) (k : Kind) (b : Bool) (a : ScopeKind) → own_kind w k b ≡ Some a → (is_class k && is_default_export w.standing) ≡ false → is_named k ≡ true → is_default_export w.standing ≡ false
not_exported w kind.ClassExpr b a e n h = n
not_exported w kind.FnExpr b a e n h = by w.standing e
  where
    by : (s : Standing) → option_and_then kind_of (name_scope s b scope.FunctionName) ≡ Some a → is_default_export s ≡ false
    by standing.DefaultExport e = absurd (cc)
    by _ e = refl
not_exported w _ b a e n h = absurd (true≢false (sym h))

pub owned : (w : Place) (t : Node) (k : Kind) (ts : List Node) (j : ℕ) (r : Standing) → out-Node t ≡ Node-F.Tree k ts → is_taken r (opened_as w k (has_own_name ts)) ≡ true → is_inside (view_from k j) ≡ true
    → own (opened w t) (view_in (out-Node t) j) r ≡ Some []
owned w t k ts j r o taken inside =
    ap (λ y. own (opened_in w y) (view_in y j) r) o
    ∙ ap (λ b. cond (b && is_inside (view_from k j)) (Some []) None) taken
    ∙ ap (λ b. cond b (Some []) None) inside

-- the places of fields
pub field_stands : (w : Place) (t : Node) (k : Kind) (ts : List Node) (j : ℕ) (f : Field) → out-Node t ≡ Node-F.Tree k ts → slice_get (fields_of k) j ≡ Some f → (place_below w t j).standing ≡ standing_below w k ts j f.2
field_stands w t k ts j f o at = ap (λ y. (place_in w y j).standing) o ∙ ap (λ o. standing_below w k ts j (unwrap_or (option_map (λ f. f.2) o) role.Plain)) at

-- nothing is bound directly in a class, and its name stands outside where it is the default export
no_class : (w : Place) (t c : Node) (ts : List Node) (s : Slot) (j : ℕ) (b : Binding) → out-Node t ≡ Node-F.Tree kind.ClassExpr ts → Fits t s → child t j ≡ Some c → Below (place_below w t j) c b None → is_default_export w.standing ≡ true
    → is_outside w kind.ClassExpr (has_identifier ts) j ≡ false → ⊥
no_class w t c ts s j b o fit there g d n = let (f, at, fits_it) = field_at t c kind.ClassExpr ts s j o fit there in by j f at fits_it there g n
  where
    by : (j : ℕ) (f : Field) → slice_get (fields_of kind.ClassExpr) j ≡ Some f → Fits c f.1 → child t j ≡ Some c → Below (place_below w t j) c b None → is_outside w kind.ClassExpr (has_identifier ts) j ≡ false → ⊥
    by zero f at fits_it there g n = named_one (out-Node c) refl
      where
        slot_is : slot.Optional (content.Node class.Ident) ≡ f.1
        slot_is = ap (λ (f : Field). f.1) (some_field at)

        none_below : is_no_identifier (out-Node c) ≡ true → ((i : ℕ) → child c i ≡ None) → ⊥
        none_below i none = let (l, d, z, h, e) = to_child (place_below w t zero) c b None tt i g in no_node (sym z ∙ none l)

        named_one : (y : Node-F Node) → out-Node c ≡ y → ⊥
        named_one (Node-F.Identifier l i) o' =
            let there' : slice_get ts 0 ≡ Some c = sym (ap (λ y. slice_get (children_in y) 0) o) ∙ there in
            let has : has_identifier ts ≡ true = ap (λ o. is_some (name_of o)) there' ∙ ap (λ y. is_some (name_in y)) o' in
            true≢false (sym ((λ i. d i && (has i && true))) ∙ n)
        named_one (Node-F.List us) o' = true≢false (sym (layer c (Node-F.List us) (slot.Optional (content.Node class.Ident)) o' (subst (Fits c) (sym slot_is) fits_it)))
        named_one (Node-F.Tree l us) o' = no_tree l us (layer c (Node-F.Tree l us) (slot.Optional (content.Node class.Ident)) o' (subst (Fits c) (sym slot_is) fits_it))
        named_one Node-F.Absent o' = none_below (ap is_no_identifier o') (λ i. ap (λ y. slice_get (children_in y) i) o')
        named_one (Node-F.Flag x) o' = none_below (ap is_no_identifier o') (λ i. ap (λ y. slice_get (children_in y) i) o')
        named_one (Node-F.Word x) o' = none_below (ap is_no_identifier o') (λ i. ap (λ y. slice_get (children_in y) i) o')
        named_one (Node-F.Text x) o' = none_below (ap is_no_identifier o') (λ i. ap (λ y. slice_get (children_in y) i) o')
        named_one (Node-F.Span x) o' = none_below (ap is_no_identifier o') (λ i. ap (λ y. slice_get (children_in y) i) o')
    by (suc zero) f at fits_it there g n =
        let slot_is : slot.One (content.Node class.Class) ≡ f.1 = ap (λ (f : Field). f.1) (some_field at) in
        let plain : standing.Plain ≡ (place_below w t 1).standing = sym (field_stands w t kind.ClassExpr ts 1 f o at ∙ ap (λ (f : Field). standing_below w kind.ClassExpr ts 1 f.2) (sym (some_field at))) in
        let left = left_fits c (place_below w t 1) f.1 b fits_it (subst (λ r. r ≢ standing.DefaultExport) plain (λ e. plain_apart e)) ((pends c (place_below w t 1) b).1 g) in
        none_left (same (place_below w t 1).standing b.0) b.0 (subst (λ s. may (leaves_slot s) (same (place_below w t 1).standing b.0) b.0 ≡ true) (sym slot_is) left)
    by (suc (suc j)) f at fits_it there g n = no_field at

-- a scope of the analysis that is its node's own takes what that of the language does
pub held : (w : Place) (t c : Node) (k : Kind) (ts : List Node) (s : Slot) (j : ℕ) (b : Binding) (a : ScopeKind) → out-Node t ≡ Node-F.Tree k ts → Fits t s → child t j ≡ Some c → Below (place_below w t j) c b None
    → own_kind w k (has_own_name ts) ≡ Some a → takes_all a b.0 ≡ true → is_outside w k (has_identifier ts) j ≡ false → own (opened w t) (view_in (out-Node t) j) b.0 ≡ Some []
held w t c k ts s j b a o fit there g e h n = by (is_class k && is_default_export w.standing) refl
  where
    an : analysed k b.0 ≡ true
    an = opens_analysed w k (has_own_name ts) a b.0 e h

    general : (is_named k ≡ true → is_default_export w.standing ≡ false) → own (opened w t) (view_in (out-Node t) j) b.0 ≡ Some []
    general d =
        let (f, at, fits_it) = field_at t c k ts s j o fit there in
        let plain = field_plain k j f b.0 at g.binds an in
        let stands = field_stands w t k ts j f o at in
        let left = left_fits c (place_below w t j) f.1 b fits_it
        (not_default (place_below w t j).standing (ap is_default_export stands ∙ field_not_default w k ts j f.2 b.0 an plain)) ((pends c (place_below w t j) b).1 g) in
        let m = may_more (leaves_slot f.1) (same (standing_below w k ts j f.2) b.0) (bound_so k f.2 b.0) b.0 (so w k ts j f.2 b.0 d g.binds plain)
        (subst (λ r. may (leaves_slot f.1) (same r b.0) b.0 ≡ true) stands left) in
        owned w t k ts j b.0 o
        (opens_taken w k ts j b.0 a d (own_there (place_below w t j) c b ts j (sym (ap (λ y. slice_get (children_in y) j) o) ∙ there) g) e (field_taken k j f b.0 at g.binds an m))
        (seen_too w k (has_own_name ts) (has_identifier ts) j a e n)

    by : (x : Bool) → (is_class k && is_default_export w.standing) ≡ x → own (opened w t) (view_in (out-Node t) j) b.0 ≡ Some []
    by false x = general (not_exported w k (has_own_name ts) a e x)
    by true x = absurd (exported k o n x)
      where
        exported : (k : Kind) → out-Node t ≡ Node-F.Tree k ts → is_outside w k (has_identifier ts) j ≡ false → (is_class k && is_default_export w.standing) ≡ true → ⊥
        exported kind.ClassExpr o n x = no_class w t c ts s j b o fit there g x n
        exported _ o n x = true≢false (sym x)
