-- Of a statement the same is asked where names are bound and where they are assigned to.
use Rattle.std.proofs.Common.{◌≡◌, true, false, not, ◌&&◌, List, [], ◌∷◌, map, refl, sym, ap, ◌∙◌, rules, true≢false}
use Rattle.std.specs.Prelude.{if◌then◌else◌}
use Rattle.swc_tree_marks.specs.declared.ident.Ident.{Ident}
use Rattle.swc_tree_node.specs.declared.kind.Kind.{Kind}
use Rattle.swc_tree_node.specs.declared.kind.Kind.TheVariants as kind
use Rattle.swc_tree_node.specs.declared.kind.Class.TheVariants as class
use Rattle.swc_tree_node.specs.declared.slot.Content.TheVariants as content
use Rattle.swc_tree_node.specs.declared.slot.Slot.{Slot}
use Rattle.swc_tree_node.specs.declared.slot.Slot.TheVariants as slot
use Rattle.swc_tree_node.specs.declared.node.Node.{Node, Absent, Identifier, Tree, out-Node, the_lemmas}
use Rattle.swc_tree_node.specs.declared.node.Node.TheOpen.{Node-F}
use Rattle.swc_tree_node.specs.Table.{slots_of, is_identifier}
use Rattle.swc_tree_node.specs.Fits.{Fits, FieldsFit, AllFit, belongs}
use Rattle.swc_tree_node.proofs.Fit.{fits-Absent, fits-Flag, fits-Word, fits-Text, fits-Span, fits-List, fits-Identifier, fits-Tree, tree_opens, list_opens}
use Rattle.swc_tree_grammar.specs.Levels.{is_absent}
use Rattle.swc_tree_grammar.specs.Writable.{Round, sound_in, in_head_in, all_sound, binding, assigning, branch, head, declares_in, pattern}
use Rattle.swc_tree_grammar.proofs.Asked.{asked, head_list, sound}
use Rattle.swc_tree_grammar.proofs.Induction.{Each, by_children}
use Rattle.swc_tree_grammar.proofs.Places.{one}
use Rattle.swc_tree_grammar_laws.proofs.Levelled.{half, also}
use Rattle.swc_tree_grammar_laws.proofs.Blocked.{no}
use Rattle.swc_tree_grammar_laws.proofs.Derived.{sound_tree, sound_list, in_head_tree}
use Rattle.swc_base_fixer_laws.proofs.Kept.{or_both}
use Rattle.swc_base_fixer_laws.proofs.SetsLevels.{fields_same}
use Rattle.swc_base_fixer_laws.specs.Sets.{FieldsSet}
use Rattle.swc_base_fixer_laws.specs.Sets.FieldsSet.{nil, field}
use Rattle.swc_base_fixer_laws.proofs.Rounds.{function_freed, class_freed}

abbrev Bound : Node → Type 0
Bound t = (r : Round) → sound t r ≡ true → sound t (binding r) ≡ true

-- declarators
declarator_row : (k : Kind) {ts us : List Node} → FieldsSet (slots_of k) ts us → belongs k class.VarDeclarator ≡ true → (r : Round) → sound_in (Node-F.Tree k (map asked ts)) r ≡ true → sound_in (Node-F.Tree k (map asked ts)) (binding r) ≡ true
declarator_row kind.VarDeclarator (field a (field b (field c nil))) g r h = h
declarator_row k x g r h = absurd (true≢false (sym g))

name_only_declarator : (k : Kind) → (is_identifier k && belongs k class.VarDeclarator) ≡ false
name_only_declarator kind.Ident = refl
name_only_declarator k = refl

abbrev declarators : Slot
declarators = slot.List (content.Node class.VarDeclarator)

abbrev Declared : Node → Type 0
Declared t = (Fits t (one class.VarDeclarator) → Bound t) × (Fits t declarators → Bound t)

all_declared : (ts : List Node) → Each Declared ts → AllFit (one class.VarDeclarator) ts → (r : Round) → all_sound (map asked ts) r ≡ true → all_sound (map asked ts) (binding r) ≡ true
all_declared [] l f r h = refl
all_declared (t ∷ ts) l f r h = let p = half h in let q = half p.0 in also (also q.0 (l.0.0 f.0 r q.1)) (all_declared ts l.1 f.1 r p.1)

declared : (t : Node) → Declared t
declared t = by_children Declared (
  (λ h. absurd (no (sym (fits-Absent (one class.VarDeclarator)) ∙ h)), λ h. absurd (no (sym (fits-Absent declarators) ∙ h))),
  λ x. (λ h. absurd (no (sym (fits-Flag x (one class.VarDeclarator)) ∙ h)), λ h. absurd (no (sym (fits-Flag x declarators) ∙ h))),
  λ w. (λ h. absurd (no (sym (fits-Word w (one class.VarDeclarator)) ∙ h)), λ h. absurd (no (sym (fits-Word w declarators) ∙ h))),
  λ x. (λ h. absurd (no (sym (fits-Text x (one class.VarDeclarator)) ∙ h)), λ h. absurd (no (sym (fits-Text x declarators) ∙ h))),
  λ s. (λ h. absurd (no (sym (fits-Span s (one class.VarDeclarator)) ∙ h)), λ h. absurd (no (sym (fits-Span s declarators) ∙ h))),
  λ k i. (λ h. absurd (no (sym (name_only_declarator k) ∙ sym (fits-Identifier k i (one class.VarDeclarator)) ∙ h)), λ h. absurd (no (sym (fits-Identifier k i declarators) ∙ h))),
)
    (λ ts l. (λ h. absurd (no (sym (fits-List ts (one class.VarDeclarator)) ∙ h)), λ h r w. sound_list ts (binding r) ∙ all_declared ts l (list_opens ts (content.Node class.VarDeclarator) h) r (sym (sound_list ts r) ∙ w)))
    (λ k ts l. (λ h r w. (let f = tree_opens k ts class.VarDeclarator h in sound_tree k ts (binding r) ∙ declarator_row k (fields_same (slots_of k) ts f.2) f.1 r (sym (sound_tree k ts r) ∙ w)), λ h. absurd (no (sym (fits-Tree k ts declarators) ∙ h)))) t

-- labels
sound_name : (k : Kind) (i : Ident) (r : Round) → sound (Identifier k i) r ≡ sound_in (Node-F.Identifier k i) r
sound_name k i r = search (rules, the_lemmas)

label_row : (k : Kind) (i : Ident) (r : Round) → (is_identifier k && belongs k class.Ident) ≡ true → sound_in (Node-F.Identifier k i) r ≡ true → sound_in (Node-F.Identifier k i) (binding r) ≡ true
label_row kind.BindingIdent i r g h = absurd (true≢false (sym g))
label_row k i r g h = h

label_tree : (k : Kind) → (not (is_identifier k) && belongs k class.Ident) ≡ false
label_tree kind.Ident = refl
label_tree k = refl

label_bound : (t : Node) → Fits t (one class.Ident) → Bound t
label_bound t = by_children (λ t. Fits t (one class.Ident) → Bound t) (
  λ h. absurd (no (sym (fits-Absent (one class.Ident)) ∙ h)),
  λ x h. absurd (no (sym (fits-Flag x (one class.Ident)) ∙ h)),
  λ w h. absurd (no (sym (fits-Word w (one class.Ident)) ∙ h)),
  λ x h. absurd (no (sym (fits-Text x (one class.Ident)) ∙ h)),
  λ s h. absurd (no (sym (fits-Span s (one class.Ident)) ∙ h)),
  λ k i h r w. sound_name k i (binding r) ∙ label_row k i r (sym (fits-Identifier k i (one class.Ident)) ∙ h) (sym (sound_name k i r) ∙ w),
)
    (λ ts l h. absurd (no (sym (fits-List ts (one class.Ident)) ∙ h)))
    (λ k ts l h. (let f = tree_opens k ts class.Ident h in absurd (no (sym (label_tree k) ∙ also f.0 f.1)))) t

-- heads of `for` in and of
head_row : (k : Kind) (ts : List Node) (r : Round) → in_head_in (Node-F.Tree k (map asked ts)) (binding r) ≡ in_head_in (Node-F.Tree k (map asked ts)) r
head_row kind.VarDecl (a ∷ b ∷ c ∷ []) r = refl
head_row kind.UsingDecl (a ∷ b ∷ c ∷ []) r = refl
head_row kind.VarDecl ts r = refl
head_row kind.UsingDecl ts r = refl
head_row k ts r = refl

in_head_bound : (t : Node) (r : Round) → (asked t).in_head (binding r) ≡ (asked t).in_head r
in_head_bound t = by_children (λ t. (r : Round) → (asked t).in_head (binding r) ≡ (asked t).in_head r)
    (λ r. search (rules, the_lemmas), λ x r. search (rules, the_lemmas), λ w r. search (rules, the_lemmas), λ x r. search (rules, the_lemmas), λ s r. search (rules, the_lemmas), λ k i r. search (rules, the_lemmas))
    (λ ts l r. head_list ts (binding r) ∙ sym (head_list ts r))
    (λ k ts l r. in_head_tree k ts (binding r) ∙ head_row k ts r ∙ sym (in_head_tree k ts r)) t

head_bound : (t : Node) (r : Round) → head (asked t) r ≡ true → head (asked t) (binding r) ≡ true
head_bound t r h = ap (λ x. if declares_in (out-Node (asked t).whole) then x else (pattern (asked t).whole (assigning r) && sound t (assigning r))) (in_head_bound t r) ∙ h

-- statements
abbrev Still : Node → Type 0
Still t = (Fits t (one class.Stmt) → Bound t) × (Fits t (slot.Optional (content.Node class.Stmt)) → Bound t)

row : (k : Kind) {ts us : List Node} → FieldsSet (slots_of k) ts us → Each Still ts → belongs k class.Stmt ≡ true → FieldsFit (slots_of k) ts → (r : Round) → sound_in (Node-F.Tree k (map asked ts)) r ≡ true → sound_in (Node-F.Tree k (map asked ts)) (binding r) ≡ true
row kind.WithStmt (field a (field b (field c nil))) l g f r h = let p = half h in let q = half p.1 in also p.0 (also q.0 (l.1.1.0.0 f.1.1.0 r q.1))
row kind.LabeledStmt (field a (field {t = t} b (field c nil))) l g f r h = let p = half h in let q = half p.1 in also (label_bound t f.1.0 r p.0) (also q.0 (l.1.1.0.0 f.1.1.0 r q.1))
row kind.IfStmt (field a (field b (field c (field {t = t} d nil)))) l g f r h =
    let p = half h in let q = half p.1 in let m = half q.0 in
    also p.0 (also (also m.0 (l.1.1.0.0 f.1.1.0 r m.1)) (or_both (is_absent (asked t).whole) (branch (asked t) r) (branch (asked t) (binding r)) (λ h. (let n = half h in also n.0 (l.1.1.1.0.1 f.1.1.1.0 r n.1))) q.1))
row kind.WhileStmt (field a (field b (field c nil))) l g f r h = let p = half h in let q = half p.1 in also p.0 (also q.0 (l.1.1.0.0 f.1.1.0 r q.1))
row kind.DoWhileStmt (field a (field b (field c nil))) l g f r h = let p = half h in let q = half p.1 in also p.0 (also q.0 (l.1.0.0 f.1.0 r q.1))
row kind.ForStmt (field a (field b (field c (field d (field e nil))))) l g f r h = let p = half h in let q = half p.1 in also p.0 (also q.0 (l.1.1.1.1.0.0 f.1.1.1.1.0 r q.1))
row kind.ForInStmt (field a (field {t = t} b (field c (field d nil)))) l g f r h =
    let p = half h in let q = half p.1 in let m = half q.1 in let n = half m.1 in also p.0 (also (head_bound t r q.0) (also m.0 (also n.0 (l.1.1.1.0.0 f.1.1.1.0 r n.1))))
row kind.ForOfStmt (field a (field w (field {t = t} b (field c (field d nil))))) l g f r h =
    let q = half h in let m = half q.1 in let n = half m.1 in also (head_bound t r q.0) (also m.0 (also n.0 (l.1.1.1.1.0.0 f.1.1.1.1.0 r n.1)))
row kind.FnDecl (field a (field {t = t} b nil)) l g f r h = let p = half h in also p.0 (function_freed t f.1.0 r.strict r.assigned false p.1)
row kind.ClassDecl (field a (field {t = t} b nil)) l g f r h = let p = half h in also p.0 (class_freed t f.1.0 r.strict r.assigned false p.1)
row kind.VarDecl (field a (field b (field {t = t} c nil))) l g f r h = let p = half h in also p.0 ((declared t).1 f.1.1.0 r p.1)
row kind.UsingDecl (field a (field b (field {t = t} c nil))) l g f r h = let p = half h in also p.0 ((declared t).1 f.1.1.0 r p.1)
row kind.ExprStmt (field a (field b nil)) l g f r h = h
row kind.BlockStmt x l g f r h = h
row kind.EmptyStmt x l g f r h = h
row kind.DebuggerStmt x l g f r h = h
row kind.ReturnStmt x l g f r h = h
row kind.BreakStmt x l g f r h = h
row kind.ContinueStmt x l g f r h = h
row kind.SwitchStmt x l g f r h = h
row kind.ThrowStmt x l g f r h = h
row kind.TryStmt x l g f r h = h
row kind.TsInterfaceDecl x l g f r h = absurd (true≢false (sym h))
row kind.TsTypeAliasDecl x l g f r h = absurd (true≢false (sym h))
row kind.TsEnumDecl x l g f r h = absurd (true≢false (sym h))
row kind.TsModuleDecl x l g f r h = absurd (true≢false (sym h))
row k x l g f r h = absurd (true≢false (sym g))

absent_bound : (r : Round) → sound Absent (binding r) ≡ true
absent_bound r = search (rules, the_lemmas)

name_only_statement : (k : Kind) → (is_identifier k && belongs k class.Stmt) ≡ false
name_only_statement kind.Ident = refl
name_only_statement k = refl

abbrev maybe : Slot
maybe = slot.Optional (content.Node class.Stmt)

tree_still : (k : Kind) (ts : List Node) → Each Still ts → Fits (Tree k ts) (one class.Stmt) → Bound (Tree k ts)
tree_still k ts l h r w = let f = tree_opens k ts class.Stmt h in sound_tree k ts (binding r) ∙ row k (fields_same (slots_of k) ts f.2) l f.1 f.2 r (sym (sound_tree k ts r) ∙ w)

still : (t : Node) → Still t
still t = by_children Still (
  (λ h r w. absent_bound r, λ h r w. absent_bound r),
  λ x. (λ h. absurd (no (sym (fits-Flag x (one class.Stmt)) ∙ h)), λ h. absurd (no (sym (fits-Flag x maybe) ∙ h))),
  λ w. (λ h. absurd (no (sym (fits-Word w (one class.Stmt)) ∙ h)), λ h. absurd (no (sym (fits-Word w maybe) ∙ h))),
  λ x. (λ h. absurd (no (sym (fits-Text x (one class.Stmt)) ∙ h)), λ h. absurd (no (sym (fits-Text x maybe) ∙ h))),
  λ s. (λ h. absurd (no (sym (fits-Span s (one class.Stmt)) ∙ h)), λ h. absurd (no (sym (fits-Span s maybe) ∙ h))),
  λ k i. (λ h. absurd (no (sym (name_only_statement k) ∙ sym (fits-Identifier k i (one class.Stmt)) ∙ h)), λ h. absurd (no (sym (name_only_statement k) ∙ sym (fits-Identifier k i maybe) ∙ h))),
)
    (λ ts l. (λ h. absurd (no (sym (fits-List ts (one class.Stmt)) ∙ h)), λ h. absurd (no (sym (fits-List ts maybe) ∙ h))))
    (λ k ts l. (tree_still k ts l, λ h. tree_still k ts l (fits-Tree k ts (one class.Stmt) ∙ sym (fits-Tree k ts maybe) ∙ h))) t

pub statement_bound : (t : Node) → Fits t (one class.Stmt) → (r : Round) → sound t r ≡ true → sound t (binding r) ≡ true
statement_bound t f r h = (still t).0 f r h
