-- What can be written down has parts that can, but for names and other leaves.
use Rattle.std.proofs.Common.{◌≡◌, Bool, true, false, ◌&&◌, ◌||◌, ◌⊎◌, inl, inr, List, [], ◌∷◌, map, length, refl, arith, sym, true≢false}
use Rattle.std.specs.Prelude.{if◌then◌else◌}
use Rattle.swc_tree_node.specs.declared.kind.Kind.{Kind}
use Rattle.swc_tree_node.specs.declared.kind.Kind.TheVariants as kind
use Rattle.swc_tree_node.specs.declared.kind.Class.{Class}
use Rattle.swc_tree_node.specs.declared.kind.Class.TheVariants as class
use Rattle.swc_tree_node.specs.declared.slot.Content.TheVariants as content
use Rattle.swc_tree_node.specs.declared.slot.Slot.{Slot}
use Rattle.swc_tree_node.specs.declared.slot.Slot.TheVariants as slot
use Rattle.swc_tree_node.specs.declared.node.Node.{Node, out-Node}
use Rattle.swc_tree_node.specs.declared.node.Node.TheOpen.{Node-F}
use Rattle.swc_tree_node.specs.Table.{fields_of, slots_of}
use Rattle.swc_tree_node.specs.Fits.{FieldsFit}
use Rattle.swc_tree_scoping.specs.Places.{has_use_strict}
use Rattle.swc_tree_grammar.specs.Shapes.{items_of}
use Rattle.swc_tree_grammar.specs.Levels.{is_absent, is_absent_in}
use Rattle.swc_tree_grammar.specs.Forms.{form, is_branch, is_strict}
use Rattle.swc_tree_grammar.specs.Writable.{Asked, Round, all_sound, assigning, binding, constructor_key_in, declares_in, no_private, pattern, sound_in, strictly}
use Rattle.swc_tree_grammar.proofs.Asked.{in_head, of, sound}
use Rattle.swc_tree_sites.proofs.Leaves.{Field}

-- what holds no statement
abbrev pub is_quiet_class : Class → Bool
is_quiet_class class.Ident = true
is_quiet_class class.IdentName = true
is_quiet_class class.PrivateName = true
is_quiet_class class.Str = true
is_quiet_class class.TplElement = true
is_quiet_class class.ImportSpecifier = true
is_quiet_class class.ExportSpecifier = true
is_quiet_class class.ModuleExportName = true
is_quiet_class _ = false

abbrev pub is_quiet : Slot → Bool
is_quiet (slot.One (content.Node c)) = is_quiet_class c
is_quiet (slot.Optional (content.Node c)) = is_quiet_class c
is_quiet (slot.List (content.Node c)) = is_quiet_class c
is_quiet (slot.Holes (content.Node c)) = is_quiet_class c
is_quiet (slot.OptionalList (content.Node c)) = is_quiet_class c
is_quiet _ = true

abbrev pub is_quiet_kind : Kind → Bool
is_quiet_kind kind.ImportNamedSpecifier = true
is_quiet_kind kind.ImportDefaultSpecifier = true
is_quiet_kind kind.ImportStarAsSpecifier = true
is_quiet_kind kind.ExportNamespaceSpecifier = true
is_quiet_kind kind.ExportNamedSpecifier = true
is_quiet_kind kind.Ident = true
is_quiet_kind kind.IdentName = true
is_quiet_kind kind.PrivateName = true
is_quiet_kind kind.Str = true
is_quiet_kind kind.TplElement = true
is_quiet_kind _ = false

abbrev pub is_quiet_in : Node-F Node → Bool
is_quiet_in (Node-F.Tree k ts) = is_quiet_kind k
is_quiet_in (Node-F.List ts) = false
is_quiet_in _ = true

-- a node can be written down, or is a declaration in the head of a `for` statement that can, or holds no statement
abbrev pub Sounds : Node → Type 0
Sounds t = (r : Round) × (sound t r ≡ true)

abbrev pub Heads : Node → Type 0
Heads t = (r : Round) × (in_head t r ≡ true)

pub record Status (t : Node) (s : Slot) : Type 0 where
  pub how : Sounds t ⊎ (Heads t ⊎ ((is_quiet s ≡ true) ⊎ (is_quiet_in (out-Node t) ≡ true)))

abbrev pub EachStatus : List Field → List Node → Type 0
EachStatus [] ts = Unit {0}
EachStatus (f ∷ fs) [] = Unit {0}
EachStatus (f ∷ fs) (t ∷ ts) = Status t f.1 × EachStatus fs ts

pub still : {t : Node} {s : Slot} → is_quiet s ≡ true → Status t s
still h = record { how = inr (inr (inl h)) }

pub quiet : {t : Node} {s : Slot} → is_quiet_in (out-Node t) ≡ true → Status t s
quiet h = record { how = inr (inr (inr h)) }

pub heard : {t : Node} {s : Slot} (r : Round) → sound t r ≡ true → Status t s
heard r h = record { how = inl (r, h) }

pub half : {a b : Bool} → (a && b) ≡ true → (a ≡ true) × (b ≡ true)
half {a = true} h = (refl, h)
half {a = false} h = absurd (cc)

pub first_sound : (t : Node) (es : List Asked) (r : Round) → all_sound (of t ∷ es) r ≡ true → sound t r ≡ true
first_sound t es r h = (half {a = no_private (of t)} (half {a = no_private (of t) && sound t r} h).0).1

pub rest_sound : (t : Node) (es : List Asked) (r : Round) → all_sound (of t ∷ es) r ≡ true → all_sound es r ≡ true
rest_sound t es r h = (half {a = no_private (of t) && sound t r} h).1

pub second_sound : (t u : Node) (es : List Asked) (r : Round) → all_sound (of t ∷ of u ∷ es) r ≡ true → sound u r ≡ true
second_sound t u es r h = first_sound u es r (rest_sound t (of u ∷ es) r h)

each_sound : (fs : List Field) (ts : List Node) (r : Round) → FieldsFit (map (λ f. f.1) fs) ts → all_sound (map of ts) r ≡ true → EachStatus fs ts
each_sound [] ts r fit h = tt
each_sound (f ∷ fs) [] r fit h = tt
each_sound (f ∷ fs) (t ∷ ts) r fit h = (heard r (first_sound t (map of ts) r h), each_sound fs ts r fit.1 (rest_sound t (map of ts) r h))

constructor_quiet : (y : Node-F Node) → constructor_key_in y ≡ true → is_quiet_in y ≡ true
constructor_quiet (Node-F.Tree kind.IdentName ts) h = refl
constructor_quiet (Node-F.Tree kind.Str ts) h = refl
constructor_quiet (Node-F.Tree _ ts) h = absurd (cc)
constructor_quiet (Node-F.List ts) h = absurd (cc)
constructor_quiet _ h = refl

absent_quiet : (y : Node-F Node) → is_absent_in y ≡ true → is_quiet_in y ≡ true
absent_quiet (Node-F.Tree k ts) h = absurd (cc)
absent_quiet (Node-F.List ts) h = absurd (cc)
absent_quiet _ h = refl

either_so : {s : Slot} (t : Node) (r : Round) (x : Bool) → is_absent t ≡ x → (x || (is_branch r.strict (form t) && sound t r)) ≡ true → Status t s
either_so t r true e h = quiet (absent_quiet (out-Node t) e)
either_so t r false e h = heard r (half {a = is_branch r.strict (form t)} h).1

head_so : {s : Slot} (t : Node) (r : Round) (x : Bool) → (if x then in_head t r else (pattern t (assigning r) && sound t (assigning r))) ≡ true → Status t s
head_so t r true h = record { how = inr (inl (r, h)) }
head_so t r false h = heard (assigning r) (half {a = pattern t (assigning r)} h).1

exact2 : (P : List Node → Type 0) (ts : List Node) → length ts ≡ 2 → ((a b : Node) → P (a ∷ b ∷ [])) → P ts
exact2 P [] e f = absurd (omega (arith, e))
exact2 P (a ∷ []) e f = absurd (omega (arith, e))
exact2 P (a ∷ b ∷ []) e f = f a b
exact2 P (a ∷ b ∷ c ∷ ts) e f = absurd (omega (arith, e))

pub exact3 : (P : List Node → Type 0) (ts : List Node) → length ts ≡ 3 → ((a b c : Node) → P (a ∷ b ∷ c ∷ [])) → P ts
exact3 P [] e f = absurd (omega (arith, e))
exact3 P (a ∷ ts) e f = exact2 (λ ts. P (a ∷ ts)) ts (omega (arith, e)) (f a)

pub exact4 : (P : List Node → Type 0) (ts : List Node) → length ts ≡ 4 → ((a b c d : Node) → P (a ∷ b ∷ c ∷ d ∷ [])) → P ts
exact4 P [] e f = absurd (omega (arith, e))
exact4 P (a ∷ ts) e f = exact3 (λ ts. P (a ∷ ts)) ts (omega (arith, e)) (f a)

pub exact5 : (P : List Node → Type 0) (ts : List Node) → length ts ≡ 5 → ((a b c d e : Node) → P (a ∷ b ∷ c ∷ d ∷ e ∷ [])) → P ts
exact5 P [] e f = absurd (omega (arith, e))
exact5 P (a ∷ ts) e f = exact4 (λ ts. P (a ∷ ts)) ts (omega (arith, e)) (f a)

seq_expr_row : (span exprs : Node) (r : Round) → sound_in (Node-F.Tree kind.SeqExpr (of span ∷ of exprs ∷ [])) r ≡ true → EachStatus (fields_of kind.SeqExpr) (span ∷ exprs ∷ [])
seq_expr_row span exprs r h = let p = half h in (still refl, (heard r p.1, tt))

assign_expr_row : (span op left right : Node) (r : Round) → sound_in (Node-F.Tree kind.AssignExpr (of span ∷ of op ∷ of left ∷ of right ∷ [])) r ≡ true → EachStatus (fields_of kind.AssignExpr) (span ∷ op ∷ left ∷ right ∷ [])
assign_expr_row span op left right r h = let p = half h in let q = half p.1 in (still refl, (still refl, (heard (assigning r) q.0, (heard (binding r) (first_sound right [] (binding r) q.1), tt))))

update_expr_row : (span op prefix_ arg : Node) (r : Round) → sound_in (Node-F.Tree kind.UpdateExpr (of span ∷ of op ∷ of prefix_ ∷ of arg ∷ [])) r ≡ true → EachStatus (fields_of kind.UpdateExpr) (span ∷ op ∷ prefix_ ∷ arg ∷ [])
update_expr_row span op prefix_ arg r h = let p = half h in (still refl, (still refl, (still refl, (heard (binding r) p.1, tt))))

bin_expr_row : (span op left right : Node) (r : Round) → sound_in (Node-F.Tree kind.BinExpr (of span ∷ of op ∷ of left ∷ of right ∷ [])) r ≡ true → EachStatus (fields_of kind.BinExpr) (span ∷ op ∷ left ∷ right ∷ [])
bin_expr_row span op left right r h = let p = half h in let q = half p.1 in (still refl, (still refl, (heard (binding r) q.0, (heard (binding r) (first_sound right [] (binding r) q.1), tt))))

member_expr_row : (span obj prop : Node) (r : Round) → sound_in (Node-F.Tree kind.MemberExpr (of span ∷ of obj ∷ of prop ∷ [])) r ≡ true → EachStatus (fields_of kind.MemberExpr) (span ∷ obj ∷ prop ∷ [])
member_expr_row span obj prop r h = let p = half h in let q = half p.1 in (still refl, (heard (binding r) q.0, (heard (binding r) q.1, tt)))

tpl_row : (span exprs quasis : Node) (r : Round) → sound_in (Node-F.Tree kind.Tpl (of span ∷ of exprs ∷ of quasis ∷ [])) r ≡ true → EachStatus (fields_of kind.Tpl) (span ∷ exprs ∷ quasis ∷ [])
tpl_row span exprs quasis r h = let p = half h in (still refl, (heard (binding r) p.1, (still refl, tt)))

opt_chain_expr_row : (span optional base : Node) (r : Round) → sound_in (Node-F.Tree kind.OptChainExpr (of span ∷ of optional ∷ of base ∷ [])) r ≡ true → EachStatus (fields_of kind.OptChainExpr) (span ∷ optional ∷ base ∷ [])
opt_chain_expr_row span optional base r h = let p = half h in (still refl, (still refl, (heard (binding r) p.1, tt)))

array_pat_row : (span elems : Node) (r : Round) → sound_in (Node-F.Tree kind.ArrayPat (of span ∷ of elems ∷ [])) r ≡ true → EachStatus (fields_of kind.ArrayPat) (span ∷ elems ∷ [])
array_pat_row span elems r h = let p = half h in (still refl, (heard r p.1, tt))

object_pat_row : (span props : Node) (r : Round) → sound_in (Node-F.Tree kind.ObjectPat (of span ∷ of props ∷ [])) r ≡ true → EachStatus (fields_of kind.ObjectPat) (span ∷ props ∷ [])
object_pat_row span props r h = let p = half h in (still refl, (heard r p.1, tt))

rest_pat_row : (span arg : Node) (r : Round) → sound_in (Node-F.Tree kind.RestPat (of span ∷ of arg ∷ [])) r ≡ true → EachStatus (fields_of kind.RestPat) (span ∷ arg ∷ [])
rest_pat_row span arg r h = let p = half h in (still refl, (heard r p.1, tt))

key_value_pat_prop_row : (key value : Node) (r : Round) → sound_in (Node-F.Tree kind.KeyValuePatProp (of key ∷ of value ∷ [])) r ≡ true → EachStatus (fields_of kind.KeyValuePatProp) (key ∷ value ∷ [])
key_value_pat_prop_row key value r h = let p = half h in let q = half p.1 in (heard (binding r) q.0, (heard r q.1, tt))

assign_pat_row : (span left right : Node) (r : Round) → sound_in (Node-F.Tree kind.AssignPat (of span ∷ of left ∷ of right ∷ [])) r ≡ true → EachStatus (fields_of kind.AssignPat) (span ∷ left ∷ right ∷ [])
assign_pat_row span left right r h = let p = half h in let q = half p.1 in (still refl, (heard r q.0, (heard (binding r) (first_sound right [] (binding r) q.1), tt)))

assign_pat_prop_row : (span key value : Node) (r : Round) → sound_in (Node-F.Tree kind.AssignPatProp (of span ∷ of key ∷ of value ∷ [])) r ≡ true → EachStatus (fields_of kind.AssignPatProp) (span ∷ key ∷ value ∷ [])
assign_pat_prop_row span key value r h = let p = half h in (still refl, (heard r p.0, (heard (binding r) (first_sound value [] (binding r) p.1), tt)))

arrow_expr_row : (span params body is_async : Node) (r : Round) → sound_in (Node-F.Tree kind.ArrowExpr (of span ∷ of params ∷ of body ∷ of is_async ∷ [])) r ≡ true → EachStatus (fields_of kind.ArrowExpr) (span ∷ params ∷ body ∷ is_async ∷ [])
arrow_expr_row span params body is_async r h = let p = half h in (still refl, (heard (strictly (is_strict body) r) (first_sound params (of body ∷ []) (strictly (is_strict body) r) p.1), (heard (strictly (is_strict body) r) (second_sound params body [] (strictly (is_strict body) r) p.1), (still refl, tt))))

function_row : (span params body is_generator is_async : Node) (r : Round) → sound_in (Node-F.Tree kind.Function (of span ∷ of params ∷ of body ∷ of is_generator ∷ of is_async ∷ [])) r ≡ true → EachStatus (fields_of kind.Function) (span ∷ params ∷ body ∷ is_generator ∷ is_async ∷ [])
function_row span params body is_generator is_async r h = let p = half h in (still refl, (heard (strictly (is_strict body) r) (first_sound params (of body ∷ []) (strictly (is_strict body) r) p.1), (heard (strictly (is_strict body) r) (second_sound params body [] (strictly (is_strict body) r) p.1), (still refl, (still refl, tt)))))

constructor_row : (span key params body : Node) (r : Round) → sound_in (Node-F.Tree kind.Constructor (of span ∷ of key ∷ of params ∷ of body ∷ [])) r ≡ true → EachStatus (fields_of kind.Constructor) (span ∷ key ∷ params ∷ body ∷ [])
constructor_row span key params body r h = let p = half h in let q = half p.1 in (still refl, (quiet (constructor_quiet (out-Node key) p.0), (heard (binding r) (first_sound params (of body ∷ []) (binding r) q.1), (heard (binding r) (second_sound params body [] (binding r) q.1), tt))))

getter_prop_row : (span key body : Node) (r : Round) → sound_in (Node-F.Tree kind.GetterProp (of span ∷ of key ∷ of body ∷ [])) r ≡ true → EachStatus (fields_of kind.GetterProp) (span ∷ key ∷ body ∷ [])
getter_prop_row span key body r h = let p = half h in (still refl, (heard (binding r) (first_sound key [] (binding r) p.0), (heard (strictly (is_strict body) r) (first_sound body [] (strictly (is_strict body) r) p.1), tt)))

setter_prop_row : (span key param body : Node) (r : Round) → sound_in (Node-F.Tree kind.SetterProp (of span ∷ of key ∷ of param ∷ of body ∷ [])) r ≡ true → EachStatus (fields_of kind.SetterProp) (span ∷ key ∷ param ∷ body ∷ [])
setter_prop_row span key param body r h = let p = half h in let q = half p.1 in (still refl, (heard (binding r) (first_sound key [] (binding r) q.0), (heard (strictly (is_strict body) r) (first_sound param (of body ∷ []) (strictly (is_strict body) r) q.1), (heard (strictly (is_strict body) r) (second_sound param body [] (strictly (is_strict body) r) q.1), tt))))

class_method_row : (span key function keyword is_static : Node) (r : Round) → sound_in (Node-F.Tree kind.ClassMethod (of span ∷ of key ∷ of function ∷ of keyword ∷ of is_static ∷ [])) r ≡ true → EachStatus (fields_of kind.ClassMethod) (span ∷ key ∷ function ∷ keyword ∷ is_static ∷ [])
class_method_row span key function keyword is_static r h = let p = half h in let q = half p.1 in (still refl, (heard (binding r) q.0, (heard r q.1, (still refl, (still refl, tt)))))

private_method_row : (span key function keyword is_static : Node) (r : Round) → sound_in (Node-F.Tree kind.PrivateMethod (of span ∷ of key ∷ of function ∷ of keyword ∷ of is_static ∷ [])) r ≡ true → EachStatus (fields_of kind.PrivateMethod) (span ∷ key ∷ function ∷ keyword ∷ is_static ∷ [])
private_method_row span key function keyword is_static r h = let p = half h in (still refl, (still refl, (heard r p.1, (still refl, (still refl, tt)))))

private_prop_row : (span key value is_static : Node) (r : Round) → sound_in (Node-F.Tree kind.PrivateProp (of span ∷ of key ∷ of value ∷ of is_static ∷ [])) r ≡ true → EachStatus (fields_of kind.PrivateProp) (span ∷ key ∷ value ∷ is_static ∷ [])
private_prop_row span key value is_static r h = (still refl, (still refl, (heard (binding r) (first_sound value [] (binding r) h), (still refl, tt))))

class_row : (span super_class body : Node) (r : Round) → sound_in (Node-F.Tree kind.Class (of span ∷ of super_class ∷ of body ∷ [])) r ≡ true → EachStatus (fields_of kind.Class) (span ∷ super_class ∷ body ∷ [])
class_row span super_class body r h = (still refl, (heard (strictly true r) (first_sound super_class (of body ∷ []) (strictly true r) h), (heard (strictly true r) (second_sound super_class body [] (strictly true r) h), tt)))

fn_decl_row : (ident function : Node) (r : Round) → sound_in (Node-F.Tree kind.FnDecl (of ident ∷ of function ∷ [])) r ≡ true → EachStatus (fields_of kind.FnDecl) (ident ∷ function ∷ [])
fn_decl_row ident function r h = let p = half h in (still refl, (heard r p.1, tt))

fn_expr_row : (ident function : Node) (r : Round) → sound_in (Node-F.Tree kind.FnExpr (of ident ∷ of function ∷ [])) r ≡ true → EachStatus (fields_of kind.FnExpr) (ident ∷ function ∷ [])
fn_expr_row ident function r h = let p = half h in (still refl, (heard r p.1, tt))

class_decl_row : (ident class_ : Node) (r : Round) → sound_in (Node-F.Tree kind.ClassDecl (of ident ∷ of class_ ∷ [])) r ≡ true → EachStatus (fields_of kind.ClassDecl) (ident ∷ class_ ∷ [])
class_decl_row ident class_ r h = let p = half h in (still refl, (heard r p.1, tt))

class_expr_row : (ident class_ : Node) (r : Round) → sound_in (Node-F.Tree kind.ClassExpr (of ident ∷ of class_ ∷ [])) r ≡ true → EachStatus (fields_of kind.ClassExpr) (ident ∷ class_ ∷ [])
class_expr_row ident class_ r h = let p = half h in (still refl, (heard r p.1, tt))

var_declarator_row : (span name init : Node) (r : Round) → sound_in (Node-F.Tree kind.VarDeclarator (of span ∷ of name ∷ of init ∷ [])) r ≡ true → EachStatus (fields_of kind.VarDeclarator) (span ∷ name ∷ init ∷ [])
var_declarator_row span name init r h = let p = half h in let q = half p.1 in (still refl, (heard (binding r) q.0, (heard (binding r) (first_sound init [] (binding r) q.1), tt)))

var_decl_row : (span keyword decls : Node) (r : Round) → sound_in (Node-F.Tree kind.VarDecl (of span ∷ of keyword ∷ of decls ∷ [])) r ≡ true → EachStatus (fields_of kind.VarDecl) (span ∷ keyword ∷ decls ∷ [])
var_decl_row span keyword decls r h = let p = half h in (still refl, (still refl, (heard r p.1, tt)))

using_decl_row : (span is_await decls : Node) (r : Round) → sound_in (Node-F.Tree kind.UsingDecl (of span ∷ of is_await ∷ of decls ∷ [])) r ≡ true → EachStatus (fields_of kind.UsingDecl) (span ∷ is_await ∷ decls ∷ [])
using_decl_row span is_await decls r h = let p = half h in (still refl, (still refl, (heard r p.1, tt)))

expr_stmt_row : (span expr : Node) (r : Round) → sound_in (Node-F.Tree kind.ExprStmt (of span ∷ of expr ∷ [])) r ≡ true → EachStatus (fields_of kind.ExprStmt) (span ∷ expr ∷ [])
expr_stmt_row span expr r h = let p = half h in (still refl, (heard (binding r) (first_sound expr [] (binding r) p.1), tt))

catch_clause_row : (span param body : Node) (r : Round) → sound_in (Node-F.Tree kind.CatchClause (of span ∷ of param ∷ of body ∷ [])) r ≡ true → EachStatus (fields_of kind.CatchClause) (span ∷ param ∷ body ∷ [])
catch_clause_row span param body r h = let p = half h in let q = half p.1 in (still refl, (heard (binding r) q.0, (heard r q.1, tt)))

with_stmt_row : (span obj body : Node) (r : Round) → sound_in (Node-F.Tree kind.WithStmt (of span ∷ of obj ∷ of body ∷ [])) r ≡ true → EachStatus (fields_of kind.WithStmt) (span ∷ obj ∷ body ∷ [])
with_stmt_row span obj body r h = let p = half h in let q = half p.1 in (still refl, (heard (binding r) (first_sound obj [] (binding r) p.0), (heard r q.1, tt)))

labeled_stmt_row : (span label body : Node) (r : Round) → sound_in (Node-F.Tree kind.LabeledStmt (of span ∷ of label ∷ of body ∷ [])) r ≡ true → EachStatus (fields_of kind.LabeledStmt) (span ∷ label ∷ body ∷ [])
labeled_stmt_row span label body r h = let p = half h in let q = half p.1 in (still refl, (still refl, (heard r q.1, tt)))

if_stmt_row : (span test cons alt : Node) (r : Round) → sound_in (Node-F.Tree kind.IfStmt (of span ∷ of test ∷ of cons ∷ of alt ∷ [])) r ≡ true → EachStatus (fields_of kind.IfStmt) (span ∷ test ∷ cons ∷ alt ∷ [])
if_stmt_row span test cons alt r h = let p = half h in let q = half p.1 in let c = half q.0 in (still refl, (heard (binding r) (first_sound test [] (binding r) p.0), (heard r c.1, (either_so alt r (is_absent alt) refl q.1, tt))))

switch_case_row : (span test cons : Node) (r : Round) → sound_in (Node-F.Tree kind.SwitchCase (of span ∷ of test ∷ of cons ∷ [])) r ≡ true → EachStatus (fields_of kind.SwitchCase) (span ∷ test ∷ cons ∷ [])
switch_case_row span test cons r h = let p = half h in let q = half p.1 in (still refl, (heard (binding r) (first_sound test [] (binding r) p.0), (heard r q.1, tt)))

while_stmt_row : (span test body : Node) (r : Round) → sound_in (Node-F.Tree kind.WhileStmt (of span ∷ of test ∷ of body ∷ [])) r ≡ true → EachStatus (fields_of kind.WhileStmt) (span ∷ test ∷ body ∷ [])
while_stmt_row span test body r h = let p = half h in let q = half p.1 in (still refl, (heard (binding r) (first_sound test [] (binding r) p.0), (heard r q.1, tt)))

do_while_stmt_row : (span body test : Node) (r : Round) → sound_in (Node-F.Tree kind.DoWhileStmt (of span ∷ of body ∷ of test ∷ [])) r ≡ true → EachStatus (fields_of kind.DoWhileStmt) (span ∷ body ∷ test ∷ [])
do_while_stmt_row span body test r h = let p = half h in let q = half p.1 in (still refl, (heard r q.1, (heard (binding r) (first_sound test [] (binding r) p.0), tt)))

for_stmt_row : (span init test update body : Node) (r : Round) → sound_in (Node-F.Tree kind.ForStmt (of span ∷ of init ∷ of test ∷ of update ∷ of body ∷ [])) r ≡ true → EachStatus (fields_of kind.ForStmt) (span ∷ init ∷ test ∷ update ∷ body ∷ [])
for_stmt_row span init test update body r h = let p = half h in let q = half p.1 in (still refl, (heard (binding r) (first_sound init (of test ∷ of update ∷ []) (binding r) p.0), (heard (binding r) (second_sound init test (of update ∷ []) (binding r) p.0), (heard (binding r) (first_sound update [] (binding r) (rest_sound test (of update ∷ []) (binding r) (rest_sound init (of test ∷ of update ∷ []) (binding r) p.0))), (heard r q.1, tt)))))

for_in_stmt_row : (span left right body : Node) (r : Round) → sound_in (Node-F.Tree kind.ForInStmt (of span ∷ of left ∷ of right ∷ of body ∷ [])) r ≡ true → EachStatus (fields_of kind.ForInStmt) (span ∷ left ∷ right ∷ body ∷ [])
for_in_stmt_row span left right body r h = let p = half h in let q = half p.1 in let c = half q.1 in let d = half c.1 in (still refl, (head_so left r (declares_in (out-Node left)) q.0, (heard (binding r) (first_sound right [] (binding r) c.0), (heard r d.1, tt))))

for_of_stmt_row : (span is_await left right body : Node) (r : Round) → sound_in (Node-F.Tree kind.ForOfStmt (of span ∷ of is_await ∷ of left ∷ of right ∷ of body ∷ [])) r ≡ true → EachStatus (fields_of kind.ForOfStmt) (span ∷ is_await ∷ left ∷ right ∷ body ∷ [])
for_of_stmt_row span is_await left right body r h = let q = half h in let c = half q.1 in let d = half c.1 in (still refl, (still refl, (head_so left r (declares_in (out-Node left)) q.0, (heard (binding r) (first_sound right [] (binding r) c.0), (heard r d.1, tt)))))

import_named_specifier_row : (span local imported : Node) (r : Round) → sound_in (Node-F.Tree kind.ImportNamedSpecifier (of span ∷ of local ∷ of imported ∷ [])) r ≡ true → EachStatus (fields_of kind.ImportNamedSpecifier) (span ∷ local ∷ imported ∷ [])
import_named_specifier_row span local imported r h = (still refl, (still refl, (still refl, tt)))

import_default_specifier_row : (span local : Node) (r : Round) → sound_in (Node-F.Tree kind.ImportDefaultSpecifier (of span ∷ of local ∷ [])) r ≡ true → EachStatus (fields_of kind.ImportDefaultSpecifier) (span ∷ local ∷ [])
import_default_specifier_row span local r h = (still refl, (still refl, tt))

import_star_as_specifier_row : (span local : Node) (r : Round) → sound_in (Node-F.Tree kind.ImportStarAsSpecifier (of span ∷ of local ∷ [])) r ≡ true → EachStatus (fields_of kind.ImportStarAsSpecifier) (span ∷ local ∷ [])
import_star_as_specifier_row span local r h = (still refl, (still refl, tt))

named_export_row : (span specifiers src attributes : Node) (r : Round) → sound_in (Node-F.Tree kind.NamedExport (of span ∷ of specifiers ∷ of src ∷ of attributes ∷ [])) r ≡ true → EachStatus (fields_of kind.NamedExport) (span ∷ specifiers ∷ src ∷ attributes ∷ [])
named_export_row span specifiers src attributes r h = (still refl, (still refl, (still refl, (still refl, tt))))

export_named_specifier_row : (span orig exported : Node) (r : Round) → sound_in (Node-F.Tree kind.ExportNamedSpecifier (of span ∷ of orig ∷ of exported ∷ [])) r ≡ true → EachStatus (fields_of kind.ExportNamedSpecifier) (span ∷ orig ∷ exported ∷ [])
export_named_specifier_row span orig exported r h = (still refl, (still refl, (still refl, tt)))

export_namespace_specifier_row : (span name : Node) (r : Round) → sound_in (Node-F.Tree kind.ExportNamespaceSpecifier (of span ∷ of name ∷ [])) r ≡ true → EachStatus (fields_of kind.ExportNamespaceSpecifier) (span ∷ name ∷ [])
export_namespace_specifier_row span name r h = (still refl, (still refl, tt))

export_decl_row : (span decl : Node) (r : Round) → sound_in (Node-F.Tree kind.ExportDecl (of span ∷ of decl ∷ [])) r ≡ true → EachStatus (fields_of kind.ExportDecl) (span ∷ decl ∷ [])
export_decl_row span decl r h = let p = half h in (still refl, (heard r p.1, tt))

module_row : (span body shebang : Node) (r : Round) → sound_in (Node-F.Tree kind.Module (of span ∷ of body ∷ of shebang ∷ [])) r ≡ true → EachStatus (fields_of kind.Module) (span ∷ body ∷ shebang ∷ [])
module_row span body shebang r h = (still refl, (heard (strictly true r) h, (still refl, tt)))

script_row : (span body shebang : Node) (r : Round) → sound_in (Node-F.Tree kind.Script (of span ∷ of body ∷ of shebang ∷ [])) r ≡ true → EachStatus (fields_of kind.Script) (span ∷ body ∷ shebang ∷ [])
script_row span body shebang r h = let p = half h in (still refl, (heard (strictly (has_use_strict (items_of body)) r) p.1, (still refl, tt)))

pub row : (k : Kind) (ts : List Node) (r : Round) → length ts ≡ length (slots_of k) → FieldsFit (slots_of k) ts → sound_in (Node-F.Tree k (map of ts)) r ≡ true → EachStatus (fields_of k) ts
row kind.SeqExpr ts r n fit h = exact2 (λ ts. sound_in (Node-F.Tree kind.SeqExpr (map of ts)) r ≡ true → EachStatus (fields_of kind.SeqExpr) ts) ts n (λ span exprs h. seq_expr_row span exprs r h) h
row kind.AssignExpr ts r n fit h = exact4 (λ ts. sound_in (Node-F.Tree kind.AssignExpr (map of ts)) r ≡ true → EachStatus (fields_of kind.AssignExpr) ts) ts n (λ span op left right h. assign_expr_row span op left right r h) h
row kind.UpdateExpr ts r n fit h = exact4 (λ ts. sound_in (Node-F.Tree kind.UpdateExpr (map of ts)) r ≡ true → EachStatus (fields_of kind.UpdateExpr) ts) ts n (λ span op prefix_ arg h. update_expr_row span op prefix_ arg r h) h
row kind.BinExpr ts r n fit h = exact4 (λ ts. sound_in (Node-F.Tree kind.BinExpr (map of ts)) r ≡ true → EachStatus (fields_of kind.BinExpr) ts) ts n (λ span op left right h. bin_expr_row span op left right r h) h
row kind.MemberExpr ts r n fit h = exact3 (λ ts. sound_in (Node-F.Tree kind.MemberExpr (map of ts)) r ≡ true → EachStatus (fields_of kind.MemberExpr) ts) ts n (λ span obj prop h. member_expr_row span obj prop r h) h
row kind.Tpl ts r n fit h = exact3 (λ ts. sound_in (Node-F.Tree kind.Tpl (map of ts)) r ≡ true → EachStatus (fields_of kind.Tpl) ts) ts n (λ span exprs quasis h. tpl_row span exprs quasis r h) h
row kind.OptChainExpr ts r n fit h = exact3 (λ ts. sound_in (Node-F.Tree kind.OptChainExpr (map of ts)) r ≡ true → EachStatus (fields_of kind.OptChainExpr) ts) ts n (λ span optional base h. opt_chain_expr_row span optional base r h) h
row kind.ArrayPat ts r n fit h = exact2 (λ ts. sound_in (Node-F.Tree kind.ArrayPat (map of ts)) r ≡ true → EachStatus (fields_of kind.ArrayPat) ts) ts n (λ span elems h. array_pat_row span elems r h) h
row kind.ObjectPat ts r n fit h = exact2 (λ ts. sound_in (Node-F.Tree kind.ObjectPat (map of ts)) r ≡ true → EachStatus (fields_of kind.ObjectPat) ts) ts n (λ span props h. object_pat_row span props r h) h
row kind.RestPat ts r n fit h = exact2 (λ ts. sound_in (Node-F.Tree kind.RestPat (map of ts)) r ≡ true → EachStatus (fields_of kind.RestPat) ts) ts n (λ span arg h. rest_pat_row span arg r h) h
row kind.KeyValuePatProp ts r n fit h = exact2 (λ ts. sound_in (Node-F.Tree kind.KeyValuePatProp (map of ts)) r ≡ true → EachStatus (fields_of kind.KeyValuePatProp) ts) ts n (λ key value h. key_value_pat_prop_row key value r h) h
row kind.AssignPat ts r n fit h = exact3 (λ ts. sound_in (Node-F.Tree kind.AssignPat (map of ts)) r ≡ true → EachStatus (fields_of kind.AssignPat) ts) ts n (λ span left right h. assign_pat_row span left right r h) h
row kind.AssignPatProp ts r n fit h = exact3 (λ ts. sound_in (Node-F.Tree kind.AssignPatProp (map of ts)) r ≡ true → EachStatus (fields_of kind.AssignPatProp) ts) ts n (λ span key value h. assign_pat_prop_row span key value r h) h
row kind.ArrowExpr ts r n fit h = exact4 (λ ts. sound_in (Node-F.Tree kind.ArrowExpr (map of ts)) r ≡ true → EachStatus (fields_of kind.ArrowExpr) ts) ts n (λ span params body is_async h. arrow_expr_row span params body is_async r h) h
row kind.Function ts r n fit h = exact5 (λ ts. sound_in (Node-F.Tree kind.Function (map of ts)) r ≡ true → EachStatus (fields_of kind.Function) ts) ts n (λ span params body is_generator is_async h. function_row span params body is_generator is_async r h) h
row kind.Constructor ts r n fit h = exact4 (λ ts. sound_in (Node-F.Tree kind.Constructor (map of ts)) r ≡ true → EachStatus (fields_of kind.Constructor) ts) ts n (λ span key params body h. constructor_row span key params body r h) h
row kind.GetterProp ts r n fit h = exact3 (λ ts. sound_in (Node-F.Tree kind.GetterProp (map of ts)) r ≡ true → EachStatus (fields_of kind.GetterProp) ts) ts n (λ span key body h. getter_prop_row span key body r h) h
row kind.SetterProp ts r n fit h = exact4 (λ ts. sound_in (Node-F.Tree kind.SetterProp (map of ts)) r ≡ true → EachStatus (fields_of kind.SetterProp) ts) ts n (λ span key param body h. setter_prop_row span key param body r h) h
row kind.ClassMethod ts r n fit h = exact5 (λ ts. sound_in (Node-F.Tree kind.ClassMethod (map of ts)) r ≡ true → EachStatus (fields_of kind.ClassMethod) ts) ts n (λ span key function keyword is_static h. class_method_row span key function keyword is_static r h) h
row kind.PrivateMethod ts r n fit h = exact5 (λ ts. sound_in (Node-F.Tree kind.PrivateMethod (map of ts)) r ≡ true → EachStatus (fields_of kind.PrivateMethod) ts) ts n (λ span key function keyword is_static h. private_method_row span key function keyword is_static r h) h
row kind.PrivateProp ts r n fit h = exact4 (λ ts. sound_in (Node-F.Tree kind.PrivateProp (map of ts)) r ≡ true → EachStatus (fields_of kind.PrivateProp) ts) ts n (λ span key value is_static h. private_prop_row span key value is_static r h) h
row kind.Class ts r n fit h = exact3 (λ ts. sound_in (Node-F.Tree kind.Class (map of ts)) r ≡ true → EachStatus (fields_of kind.Class) ts) ts n (λ span super_class body h. class_row span super_class body r h) h
row kind.FnDecl ts r n fit h = exact2 (λ ts. sound_in (Node-F.Tree kind.FnDecl (map of ts)) r ≡ true → EachStatus (fields_of kind.FnDecl) ts) ts n (λ ident function h. fn_decl_row ident function r h) h
row kind.FnExpr ts r n fit h = exact2 (λ ts. sound_in (Node-F.Tree kind.FnExpr (map of ts)) r ≡ true → EachStatus (fields_of kind.FnExpr) ts) ts n (λ ident function h. fn_expr_row ident function r h) h
row kind.ClassDecl ts r n fit h = exact2 (λ ts. sound_in (Node-F.Tree kind.ClassDecl (map of ts)) r ≡ true → EachStatus (fields_of kind.ClassDecl) ts) ts n (λ ident class_ h. class_decl_row ident class_ r h) h
row kind.ClassExpr ts r n fit h = exact2 (λ ts. sound_in (Node-F.Tree kind.ClassExpr (map of ts)) r ≡ true → EachStatus (fields_of kind.ClassExpr) ts) ts n (λ ident class_ h. class_expr_row ident class_ r h) h
row kind.VarDeclarator ts r n fit h = exact3 (λ ts. sound_in (Node-F.Tree kind.VarDeclarator (map of ts)) r ≡ true → EachStatus (fields_of kind.VarDeclarator) ts) ts n (λ span name init h. var_declarator_row span name init r h) h
row kind.VarDecl ts r n fit h = exact3 (λ ts. sound_in (Node-F.Tree kind.VarDecl (map of ts)) r ≡ true → EachStatus (fields_of kind.VarDecl) ts) ts n (λ span keyword decls h. var_decl_row span keyword decls r h) h
row kind.UsingDecl ts r n fit h = exact3 (λ ts. sound_in (Node-F.Tree kind.UsingDecl (map of ts)) r ≡ true → EachStatus (fields_of kind.UsingDecl) ts) ts n (λ span is_await decls h. using_decl_row span is_await decls r h) h
row kind.ExprStmt ts r n fit h = exact2 (λ ts. sound_in (Node-F.Tree kind.ExprStmt (map of ts)) r ≡ true → EachStatus (fields_of kind.ExprStmt) ts) ts n (λ span expr h. expr_stmt_row span expr r h) h
row kind.CatchClause ts r n fit h = exact3 (λ ts. sound_in (Node-F.Tree kind.CatchClause (map of ts)) r ≡ true → EachStatus (fields_of kind.CatchClause) ts) ts n (λ span param body h. catch_clause_row span param body r h) h
row kind.WithStmt ts r n fit h = exact3 (λ ts. sound_in (Node-F.Tree kind.WithStmt (map of ts)) r ≡ true → EachStatus (fields_of kind.WithStmt) ts) ts n (λ span obj body h. with_stmt_row span obj body r h) h
row kind.LabeledStmt ts r n fit h = exact3 (λ ts. sound_in (Node-F.Tree kind.LabeledStmt (map of ts)) r ≡ true → EachStatus (fields_of kind.LabeledStmt) ts) ts n (λ span label body h. labeled_stmt_row span label body r h) h
row kind.IfStmt ts r n fit h = exact4 (λ ts. sound_in (Node-F.Tree kind.IfStmt (map of ts)) r ≡ true → EachStatus (fields_of kind.IfStmt) ts) ts n (λ span test cons alt h. if_stmt_row span test cons alt r h) h
row kind.SwitchCase ts r n fit h = exact3 (λ ts. sound_in (Node-F.Tree kind.SwitchCase (map of ts)) r ≡ true → EachStatus (fields_of kind.SwitchCase) ts) ts n (λ span test cons h. switch_case_row span test cons r h) h
row kind.WhileStmt ts r n fit h = exact3 (λ ts. sound_in (Node-F.Tree kind.WhileStmt (map of ts)) r ≡ true → EachStatus (fields_of kind.WhileStmt) ts) ts n (λ span test body h. while_stmt_row span test body r h) h
row kind.DoWhileStmt ts r n fit h = exact3 (λ ts. sound_in (Node-F.Tree kind.DoWhileStmt (map of ts)) r ≡ true → EachStatus (fields_of kind.DoWhileStmt) ts) ts n (λ span body test h. do_while_stmt_row span body test r h) h
row kind.ForStmt ts r n fit h = exact5 (λ ts. sound_in (Node-F.Tree kind.ForStmt (map of ts)) r ≡ true → EachStatus (fields_of kind.ForStmt) ts) ts n (λ span init test update body h. for_stmt_row span init test update body r h) h
row kind.ForInStmt ts r n fit h = exact4 (λ ts. sound_in (Node-F.Tree kind.ForInStmt (map of ts)) r ≡ true → EachStatus (fields_of kind.ForInStmt) ts) ts n (λ span left right body h. for_in_stmt_row span left right body r h) h
row kind.ForOfStmt ts r n fit h = exact5 (λ ts. sound_in (Node-F.Tree kind.ForOfStmt (map of ts)) r ≡ true → EachStatus (fields_of kind.ForOfStmt) ts) ts n (λ span is_await left right body h. for_of_stmt_row span is_await left right body r h) h
row kind.ImportNamedSpecifier ts r n fit h = exact3 (λ ts. sound_in (Node-F.Tree kind.ImportNamedSpecifier (map of ts)) r ≡ true → EachStatus (fields_of kind.ImportNamedSpecifier) ts) ts n (λ span local imported h. import_named_specifier_row span local imported r h) h
row kind.ImportDefaultSpecifier ts r n fit h = exact2 (λ ts. sound_in (Node-F.Tree kind.ImportDefaultSpecifier (map of ts)) r ≡ true → EachStatus (fields_of kind.ImportDefaultSpecifier) ts) ts n (λ span local h. import_default_specifier_row span local r h) h
row kind.ImportStarAsSpecifier ts r n fit h = exact2 (λ ts. sound_in (Node-F.Tree kind.ImportStarAsSpecifier (map of ts)) r ≡ true → EachStatus (fields_of kind.ImportStarAsSpecifier) ts) ts n (λ span local h. import_star_as_specifier_row span local r h) h
row kind.NamedExport ts r n fit h = exact4 (λ ts. sound_in (Node-F.Tree kind.NamedExport (map of ts)) r ≡ true → EachStatus (fields_of kind.NamedExport) ts) ts n (λ span specifiers src attributes h. named_export_row span specifiers src attributes r h) h
row kind.ExportNamedSpecifier ts r n fit h = exact3 (λ ts. sound_in (Node-F.Tree kind.ExportNamedSpecifier (map of ts)) r ≡ true → EachStatus (fields_of kind.ExportNamedSpecifier) ts) ts n (λ span orig exported h. export_named_specifier_row span orig exported r h) h
row kind.ExportNamespaceSpecifier ts r n fit h = exact2 (λ ts. sound_in (Node-F.Tree kind.ExportNamespaceSpecifier (map of ts)) r ≡ true → EachStatus (fields_of kind.ExportNamespaceSpecifier) ts) ts n (λ span name h. export_namespace_specifier_row span name r h) h
row kind.ExportDecl ts r n fit h = exact2 (λ ts. sound_in (Node-F.Tree kind.ExportDecl (map of ts)) r ≡ true → EachStatus (fields_of kind.ExportDecl) ts) ts n (λ span decl h. export_decl_row span decl r h) h
row kind.Module ts r n fit h = exact3 (λ ts. sound_in (Node-F.Tree kind.Module (map of ts)) r ≡ true → EachStatus (fields_of kind.Module) ts) ts n (λ span body shebang h. module_row span body shebang r h) h
row kind.Script ts r n fit h = exact3 (λ ts. sound_in (Node-F.Tree kind.Script (map of ts)) r ≡ true → EachStatus (fields_of kind.Script) ts) ts n (λ span body shebang h. script_row span body shebang r h) h
row kind.TsInterfaceDecl ts r n fit h = absurd (true≢false (sym h))
row kind.TsTypeAliasDecl ts r n fit h = absurd (true≢false (sym h))
row kind.TsEnumDecl ts r n fit h = absurd (true≢false (sym h))
row kind.TsModuleDecl ts r n fit h = absurd (true≢false (sym h))
row k ts r n fit h = each_sound (fields_of k) ts (binding r) fit h
