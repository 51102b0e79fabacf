-- Of an expression the same is asked where names are bound and where they are assigned to.
use Rattle.std.proofs.Common.{◌≡◌, Bool, true, false, ◌&&◌, List, [], ◌∷◌, map, refl, sym, ◌∙◌, rules, true≢false}
use Rattle.swc_tree_marks.specs.declared.ident.Ident.{Ident}
use Rattle.swc_tree_node.specs.declared.kind.Kind.{Kind}
use Rattle.swc_tree_node.specs.declared.kind.Kind.TheVariants as kind
use Rattle.swc_tree_node.specs.declared.kind.Class.TheVariants as class
use Rattle.swc_tree_node.specs.declared.slot.Content.TheVariants as content
use Rattle.swc_tree_node.specs.declared.node.Node.{Node, Identifier, the_lemmas}
use Rattle.swc_tree_node.specs.declared.node.Node.TheOpen.{Node-F}
use Rattle.swc_tree_node.specs.Table.{slots_of, is_identifier}
use Rattle.swc_tree_node.specs.Fits.{Fits, FieldsFit, AllFit, belongs}
use Rattle.swc_tree_node.proofs.Fit.{fits-Absent, fits-Flag, fits-Word, fits-Text, fits-Span, fits-List, fits-Identifier, fits-Tree, tree_opens, list_opens}
use Rattle.swc_tree_grammar.specs.Writable.{Round, sound_in, all_sound, binding}
use Rattle.swc_tree_grammar.proofs.Asked.{asked, sound}
use Rattle.swc_tree_grammar.proofs.Induction.{Each, by_children}
use Rattle.swc_tree_grammar.proofs.Places.{one}
use Rattle.swc_tree_grammar_laws.proofs.Levelled.{half, also}
use Rattle.swc_tree_grammar_laws.proofs.Blocked.{no}
use Rattle.swc_tree_grammar_laws.proofs.Derived.{sound_tree, sound_list}
use Rattle.swc_base_fixer_laws.proofs.SetsLevels.{expressions, fields_same}
use Rattle.swc_base_fixer_laws.specs.Sets.{FieldsSet}
use Rattle.swc_base_fixer_laws.specs.Sets.FieldsSet.{nil, field}

abbrev pub round : Bool → Bool → Round
round s a = record { strict = s; assigned = a }

abbrev pub Freed : Node → Type 0
Freed t = (q m n : Bool) → sound t (round q m) ≡ true → sound t (round q n) ≡ true

-- by the kind of what stands in a place of one kind
function_row : (k : Kind) (ts : List Node) → belongs k class.Function ≡ true → FieldsFit (slots_of k) ts → (q m n : Bool) → sound_in (Node-F.Tree k (map asked ts)) (round q m) ≡ true → sound_in (Node-F.Tree k (map asked ts)) (round q n) ≡ true
function_row kind.Function (s ∷ p ∷ b ∷ g ∷ a ∷ []) h f q m n w = w
function_row kind.Function [] h f q m n w = absurd f
function_row kind.Function (s ∷ []) h f q m n w = absurd f.1
function_row kind.Function (s ∷ p ∷ []) h f q m n w = absurd f.1.1
function_row kind.Function (s ∷ p ∷ b ∷ []) h f q m n w = absurd f.1.1.1
function_row kind.Function (s ∷ p ∷ b ∷ g ∷ []) h f q m n w = absurd f.1.1.1.1
function_row kind.Function (s ∷ p ∷ b ∷ g ∷ a ∷ e ∷ ts) h f q m n w = absurd f.1.1.1.1.1
function_row k ts h f q m n w = absurd (true≢false (sym h))

class_row : (k : Kind) (ts : List Node) → belongs k class.Class ≡ true → FieldsFit (slots_of k) ts → (q m n : Bool) → sound_in (Node-F.Tree k (map asked ts)) (round q m) ≡ true → sound_in (Node-F.Tree k (map asked ts)) (round q n) ≡ true
class_row kind.Class (s ∷ p ∷ b ∷ []) h f q m n w = w
class_row kind.Class [] h f q m n w = absurd f
class_row kind.Class (s ∷ []) h f q m n w = absurd f.1
class_row kind.Class (s ∷ p ∷ []) h f q m n w = absurd f.1.1
class_row kind.Class (s ∷ p ∷ b ∷ g ∷ ts) h f q m n w = absurd f.1.1.1
class_row k ts h f q m n w = absurd (true≢false (sym h))

name_only_function : (k : Kind) → (is_identifier k && belongs k class.Function) ≡ false
name_only_function kind.Ident = refl
name_only_function k = refl

name_only_class : (k : Kind) → (is_identifier k && belongs k class.Class) ≡ false
name_only_class kind.Ident = refl
name_only_class k = refl

pub function_freed : (t : Node) → Fits t (one class.Function) → Freed t
function_freed t = by_children (λ t. Fits t (one class.Function) → Freed t)
    (λ h. absurd (no (sym (fits-Absent (one class.Function)) ∙ h)), λ x h. absurd (no (sym (fits-Flag x (one class.Function)) ∙ h)), λ w h. absurd (no (sym (fits-Word w (one class.Function)) ∙ h)), λ x h. absurd (no (sym (fits-Text x (one class.Function)) ∙ h)), λ s h. absurd (no (sym (fits-Span s (one class.Function)) ∙ h)), λ k i h. absurd (no (sym (name_only_function k) ∙ sym (fits-Identifier k i (one class.Function)) ∙ h)))
    (λ ts l h. absurd (no (sym (fits-List ts (one class.Function)) ∙ h)))
    (λ k ts l h q m n w. (let f = tree_opens k ts class.Function h in sound_tree k ts (round q n) ∙ function_row k ts f.1 f.2 q m n (sym (sound_tree k ts (round q m)) ∙ w))) t

pub class_freed : (t : Node) → Fits t (one class.Class) → Freed t
class_freed t = by_children (λ t. Fits t (one class.Class) → Freed t)
    (λ h. absurd (no (sym (fits-Absent (one class.Class)) ∙ h)), λ x h. absurd (no (sym (fits-Flag x (one class.Class)) ∙ h)), λ w h. absurd (no (sym (fits-Word w (one class.Class)) ∙ h)), λ x h. absurd (no (sym (fits-Text x (one class.Class)) ∙ h)), λ s h. absurd (no (sym (fits-Span s (one class.Class)) ∙ h)), λ k i h. absurd (no (sym (name_only_class k) ∙ sym (fits-Identifier k i (one class.Class)) ∙ h)))
    (λ ts l h. absurd (no (sym (fits-List ts (one class.Class)) ∙ h)))
    (λ k ts l h q m n w. (let f = tree_opens k ts class.Class h in sound_tree k ts (round q n) ∙ class_row k ts f.1 f.2 q m n (sym (sound_tree k ts (round q m)) ∙ w))) t

-- expressions, and lists of them
abbrev Free : Node → Type 0
Free t = (Fits t (one class.Expr) → Freed t) × (Fits t expressions → Freed t)

all_freed : (ts : List Node) → Each Free ts → AllFit (one class.Expr) ts → (q m n : Bool) → all_sound (map asked ts) (round q m) ≡ true → all_sound (map asked ts) (round q n) ≡ true
all_freed [] l f q m n h = refl
all_freed (t ∷ ts) l f q m n h = let p = half h in let w = half p.0 in also (also w.0 (l.0.0 f.0 q m n w.1)) (all_freed ts l.1 f.1 q m n p.1)

row : (k : Kind) {ts us : List Node} → FieldsSet (slots_of k) ts us → Each Free ts → belongs k class.Expr ≡ true → FieldsFit (slots_of k) ts → (q m n : Bool) → sound_in (Node-F.Tree k (map asked ts)) (round q m) ≡ true → sound_in (Node-F.Tree k (map asked ts)) (round q n) ≡ true
row kind.SeqExpr (field a (field b nil)) l g f q m n h = let p = half h in also p.0 (l.1.0.1 f.1.0 q m n p.1)
row kind.FnExpr (field a (field {t = t} b nil)) l g f q m n h = let p = half h in also p.0 (function_freed t f.1.0 q m n p.1)
row kind.ClassExpr (field a (field {t = t} b nil)) l g f q m n h = let p = half h in also p.0 (class_freed t f.1.0 q m n p.1)
row kind.AssignExpr (field a (field b (field c (field d nil)))) l g f q m n h = h
row kind.UpdateExpr (field a (field b (field c (field d nil)))) l g f q m n h = h
row kind.BinExpr (field a (field b (field c (field d nil)))) l g f q m n h = h
row kind.MemberExpr (field a (field b (field c nil))) l g f q m n h = h
row kind.Tpl (field a (field b (field c nil))) l g f q m n h = h
row kind.OptChainExpr (field a (field b (field c nil))) l g f q m n h = h
row kind.ArrowExpr (field a (field b (field c (field d nil)))) l g f q m n h = h
row kind.Module x l g f q m n h = absurd (true≢false (sym g))
row kind.Script x l g f q m n h = absurd (true≢false (sym g))
row kind.ImportNamedSpecifier x l g f q m n h = absurd (true≢false (sym g))
row kind.ImportDefaultSpecifier x l g f q m n h = absurd (true≢false (sym g))
row kind.ImportStarAsSpecifier x l g f q m n h = absurd (true≢false (sym g))
row kind.ExportDecl x l g f q m n h = absurd (true≢false (sym g))
row kind.NamedExport x l g f q m n h = absurd (true≢false (sym g))
row kind.ExportNamedSpecifier x l g f q m n h = absurd (true≢false (sym g))
row kind.ExportNamespaceSpecifier x l g f q m n h = absurd (true≢false (sym g))
row kind.Function x l g f q m n h = absurd (true≢false (sym g))
row kind.Constructor x l g f q m n h = absurd (true≢false (sym g))
row kind.ClassMethod x l g f q m n h = absurd (true≢false (sym g))
row kind.PrivateMethod x l g f q m n h = absurd (true≢false (sym g))
row kind.PrivateProp x l g f q m n h = absurd (true≢false (sym g))
row kind.Class x l g f q m n h = absurd (true≢false (sym g))
row kind.GetterProp x l g f q m n h = absurd (true≢false (sym g))
row kind.SetterProp x l g f q m n h = absurd (true≢false (sym g))
row kind.FnDecl x l g f q m n h = absurd (true≢false (sym g))
row kind.ClassDecl x l g f q m n h = absurd (true≢false (sym g))
row kind.ArrayPat x l g f q m n h = absurd (true≢false (sym g))
row kind.ObjectPat x l g f q m n h = absurd (true≢false (sym g))
row kind.RestPat x l g f q m n h = absurd (true≢false (sym g))
row kind.KeyValuePatProp x l g f q m n h = absurd (true≢false (sym g))
row kind.AssignPat x l g f q m n h = absurd (true≢false (sym g))
row kind.AssignPatProp x l g f q m n h = absurd (true≢false (sym g))
row kind.VarDecl x l g f q m n h = absurd (true≢false (sym g))
row kind.UsingDecl x l g f q m n h = absurd (true≢false (sym g))
row kind.VarDeclarator x l g f q m n h = absurd (true≢false (sym g))
row kind.ExprStmt x l g f q m n h = absurd (true≢false (sym g))
row kind.CatchClause x l g f q m n h = absurd (true≢false (sym g))
row kind.WithStmt x l g f q m n h = absurd (true≢false (sym g))
row kind.LabeledStmt x l g f q m n h = absurd (true≢false (sym g))
row kind.IfStmt x l g f q m n h = absurd (true≢false (sym g))
row kind.SwitchCase x l g f q m n h = absurd (true≢false (sym g))
row kind.WhileStmt x l g f q m n h = absurd (true≢false (sym g))
row kind.DoWhileStmt x l g f q m n h = absurd (true≢false (sym g))
row kind.ForStmt x l g f q m n h = absurd (true≢false (sym g))
row kind.ForInStmt x l g f q m n h = absurd (true≢false (sym g))
row kind.ForOfStmt x l g f q m n h = absurd (true≢false (sym g))
row k x l g f q m n h = h

sound_name : (k : Kind) (i : Ident) (r : Round) → sound (Identifier k i) r ≡ sound_in (Node-F.Identifier k i) r
sound_name k i r = search (rules, the_lemmas)

name_row : (k : Kind) (i : Ident) (q m n : Bool) → (is_identifier k && belongs k class.Expr) ≡ true → sound_in (Node-F.Identifier k i) (round q m) ≡ true → sound_in (Node-F.Identifier k i) (round q n) ≡ true
name_row kind.BindingIdent i q m n g h = absurd (true≢false (sym g))
name_row k i q m n g h = h

free : (t : Node) → Free t
free t = by_children Free (
  (λ h. absurd (no (sym (fits-Absent (one class.Expr)) ∙ h)), λ h. absurd (no (sym (fits-Absent expressions) ∙ h))),
  λ x. (λ h. absurd (no (sym (fits-Flag x (one class.Expr)) ∙ h)), λ h. absurd (no (sym (fits-Flag x expressions) ∙ h))),
  λ w. (λ h. absurd (no (sym (fits-Word w (one class.Expr)) ∙ h)), λ h. absurd (no (sym (fits-Word w expressions) ∙ h))),
  λ x. (λ h. absurd (no (sym (fits-Text x (one class.Expr)) ∙ h)), λ h. absurd (no (sym (fits-Text x expressions) ∙ h))),
  λ s. (λ h. absurd (no (sym (fits-Span s (one class.Expr)) ∙ h)), λ h. absurd (no (sym (fits-Span s expressions) ∙ h))),
  λ k i. (λ h q m n w. sound_name k i (round q n) ∙ name_row k i q m n (sym (fits-Identifier k i (one class.Expr)) ∙ h) (sym (sound_name k i (round q m)) ∙ w), λ h. absurd (no (sym (fits-Identifier k i expressions) ∙ h))),
)
    (λ ts l. (λ h. absurd (no (sym (fits-List ts (one class.Expr)) ∙ h)), λ h q m n w. sound_list ts (round q n) ∙ all_freed ts l (list_opens ts (content.Node class.Expr) h) q m n (sym (sound_list ts (round q m)) ∙ w)))
    (λ k ts l. (λ h q m n w. (let f = tree_opens k ts class.Expr h in sound_tree k ts (round q n) ∙ row k (fields_same (slots_of k) ts f.2) l f.1 f.2 q m n (sym (sound_tree k ts (round q m)) ∙ w)), λ h. absurd (no (sym (fits-Tree k ts expressions) ∙ h)))) t

-- whether names are bound or assigned to, the same is asked of an expression
pub bound_or_assigned : (t : Node) → Fits t (one class.Expr) → (r : Round) → sound t (binding r) ≡ true → sound t r ≡ true
bound_or_assigned t f r h = (free t).0 f r.strict false r.assigned h

pub freed : (t : Node) → Fits t (one class.Expr) → (r : Round) → sound t r ≡ true → sound t (binding r) ≡ true
freed t f r h = (free t).0 f r.strict r.assigned false h
