-- Pieces of a tree whose pairs of parentheses are taken off.
use Rattle.std.proofs.Common.{◌≡◌, Bool, true, false, None, List, [], ◌∷◌, map, rules, refl, sym, ap, ◌∙◌, subst}
use Rattle.swc_tree_marks.specs.declared.ident.Ident.{Ident}
use Rattle.swc_tree_node.specs.declared.kind.Kind.{Kind}
use Rattle.swc_tree_node.specs.declared.kind.Kind.TheVariants as kind
use Rattle.swc_tree_node.specs.declared.kind.Class.TheVariants as class
use Rattle.swc_tree_node.specs.declared.slot.Content.TheVariants as content
use Rattle.swc_tree_node.specs.declared.slot.Slot.{Slot}
use Rattle.swc_tree_node.specs.declared.slot.Slot.TheVariants as slot
use Rattle.swc_tree_node.specs.declared.node.Node.{Node, Absent, Flag, Word, Text, Span, List as Many, Identifier, Tree, out-Node, the_lemmas}
use Rattle.swc_tree_node.specs.declared.node.Node.TheOpen.{Node-F}
use Rattle.swc_tree_node.specs.declared.node.Node.TheVariants.{outs-Identifier, rolls-Tree}
use Rattle.swc_tree_node.specs.Table.{is_identifier}
use Rattle.swc_tree_node.specs.Fits.{Fits, belongs, fits}
use Rattle.swc_tree_node.proofs.Fit.{both, fits-Absent, fits-Flag, fits-Identifier, fits-List, fits-Span, fits-Text, fits-Word, tree_opens}
use Rattle.swc_tree_scoping.proofs.Remarked.{identifier_is}
use Rattle.swc_tree_grammar.specs.Stripped.{target, target_in}
use Rattle.swc_tree_grammar.proofs.Induction.{Each, by_children}
use Rattle.swc_base_rename_substitution.proofs.Room.{tree_open}
use Rattle.text_pieces.specs.Leaves.{bound_name}
use Rattle.text_pieces.specs.Pieces.{written_with}
use Rattle.text_walk.proofs.Walked.{tree_pieces}
use Rattle.text_kept_laws.proofs.PiecesRows.{Kept, kept_same, tree_kept}
use Rattle.text_kept_laws.proofs.Plain.{Plain, is_seen, is_specifier, name_pieces, never, plain_name, plain_tree}
use Rattle.text_kept_laws.proofs.Then.{kept_then}
use Rattle.text_kept_laws.specs.Unpaired.{unpair_step, unpaired}
use Rattle.text_kept_laws.specs.Written.{in_pair}
use Rattle.text_kept_laws.specs.Written.AsWritten.{after, join, pair}
use Rattle.text_kept_laws.proofs.Steps.{R, equal, even, plain_kept, stated}
use Rattle.text_kept_laws.proofs.Places.{Any, Holds, all_below, all_leaf, all_list, all_tree, list_none, tree_none, wide, wide_there}

abbrev pub an_expression : Slot
an_expression = slot.One (content.Node class.Expr)

-- ---- expressions

abbrev pub Expression : Node → Type 0
Expression t = Plain false t × (bound_name (out-Node t) ≡ None)

misfit : {A : Type 0} (t : Node) → fits t an_expression ≡ false → Fits t an_expression → A
misfit t e h = never (sym h ∙ e)

unseen : (k : Kind) → belongs k class.Expr ≡ true → is_seen k ≡ false
unseen kind.RestPat h = never (sym h)
unseen kind.ImportDefaultSpecifier h = never (sym h)
unseen kind.VarDecl h = never (sym h)
unseen kind.UsingDecl h = never (sym h)
unseen kind.ExprStmt h = never (sym h)
unseen kind.ComputedPropName h = never (sym h)
unseen kind.BlockStmt h = never (sym h)
unseen kind.IdentName h = never (sym h)
unseen kind.TplElement h = never (sym h)
unseen kind.Param h = never (sym h)
unseen k h = refl

no_specifier : (k : Kind) → belongs k class.Expr ≡ true → is_specifier k ≡ false
no_specifier kind.ImportNamedSpecifier h = never (sym h)
no_specifier kind.ExportNamedSpecifier h = never (sym h)
no_specifier k h = refl

unbound : (k : Kind) (i : Ident) → belongs k class.Expr ≡ true → bound_name (Node-F.Identifier k i) ≡ None
unbound kind.BindingIdent i h = never (sym h)
unbound k i h = refl

pub expression : (t : Node) → Fits t an_expression → Expression t
expression t = by_children (λ t. Fits t an_expression → Expression t) (
  λ h. misfit Absent (fits-Absent an_expression) h,
  λ x h. misfit (Flag x) (fits-Flag x an_expression) h,
  λ w h. misfit (Word w) (fits-Word w an_expression) h,
  λ x h. misfit (Text x) (fits-Text x an_expression) h,
  λ r h. misfit (Span r) (fits-Span r an_expression) h,
  λ k i h. (plain_name k i, ap bound_name (outs-Identifier k i) ∙ unbound k i (both (is_identifier k) (belongs k class.Expr) (sym (fits-Identifier k i an_expression) ∙ h)).1),
)
    (λ ts l h. misfit (Many ts) (fits-List ts an_expression) h)
    (λ k ts l h. let b = (tree_opens k ts class.Expr h).1 in (subst (λ b. Plain b (Tree k ts)) (no_specifier k b) (plain_tree k ts (unseen k b)), tree_none k ts)) t

-- ---- layers

unpaired_list : (ts : List Node) → unpaired (Many ts) ≡ Many (map unpaired ts)
unpaired_list ts = search (rules, the_lemmas)

unpaired_tree : (k : Kind) (ts : List Node) → unpaired (Tree k ts) ≡ unpair_step (Node-F.Tree k (map unpaired ts))
unpaired_tree k ts = search (rules, the_lemmas)

-- what stands in a pair, and what is assigned to
abbrev Fields : List Node → Type 0
Fields ts = Each (λ t. (s : Slot) → Fits t s → bound_name (out-Node t) ≡ bound_name (out-Node (unpaired t))) ts

same_bound : (t : Node) → unpaired t ≡ t → bound_name (out-Node t) ≡ bound_name (out-Node (unpaired t))
same_bound t e = sym (ap (λ t. bound_name (out-Node t)) e)

both_none : (t u : Node) → bound_name (out-Node t) ≡ None → unpaired t ≡ u → bound_name (out-Node u) ≡ None → bound_name (out-Node t) ≡ bound_name (out-Node (unpaired t))
both_none t u n is m = n ∙ sym (ap (λ t. bound_name (out-Node t)) is ∙ m)

pair_bound : (ts : List Node) → Fields ts → (s : Slot) → Fits (Tree kind.ParenExpr ts) s → bound_name (out-Node (Tree kind.ParenExpr ts)) ≡ bound_name (out-Node (unpaired (Tree kind.ParenExpr ts)))
pair_bound (a ∷ e ∷ []) l s h =
    let f : Fits e an_expression = (tree_open kind.ParenExpr (a ∷ e ∷ []) s h).4.1.0 in
    both_none (Tree kind.ParenExpr (a ∷ e ∷ [])) (unpaired e) (tree_none kind.ParenExpr (a ∷ e ∷ [])) (unpaired_tree kind.ParenExpr (a ∷ e ∷ [])) (sym (l.1.0 an_expression f) ∙ (expression e f).1)
pair_bound [] l s h = absurd ((tree_open kind.ParenExpr [] s h).4)
pair_bound (a ∷ []) l s h = absurd ((tree_open kind.ParenExpr (a ∷ []) s h).4.1)
pair_bound (a ∷ e ∷ c ∷ ts) l s h = absurd ((tree_open kind.ParenExpr (a ∷ e ∷ c ∷ ts) s h).4.1.1)

assigned : (ts : List Node) → (us : List Node) × (unpair_step (Node-F.Tree kind.AssignExpr ts) ≡ Tree kind.AssignExpr us)
assigned (a ∷ o ∷ t ∷ v ∷ []) = (a ∷ o ∷ target t ∷ v ∷ [], refl)
assigned [] = ([], rolls-Tree kind.AssignExpr [])
assigned (a ∷ []) = (a ∷ [], rolls-Tree kind.AssignExpr (a ∷ []))
assigned (a ∷ o ∷ []) = (a ∷ o ∷ [], rolls-Tree kind.AssignExpr (a ∷ o ∷ []))
assigned (a ∷ o ∷ t ∷ []) = (a ∷ o ∷ t ∷ [], rolls-Tree kind.AssignExpr (a ∷ o ∷ t ∷ []))
assigned (a ∷ o ∷ t ∷ v ∷ w ∷ ts) = (a ∷ o ∷ t ∷ v ∷ w ∷ ts, rolls-Tree kind.AssignExpr (a ∷ o ∷ t ∷ v ∷ w ∷ ts))

tree_bound : (k : Kind) (ts : List Node) → Fields ts → (s : Slot) → Fits (Tree k ts) s → bound_name (out-Node (Tree k ts)) ≡ bound_name (out-Node (unpaired (Tree k ts)))
tree_bound kind.ParenExpr ts l s h = pair_bound ts l s h
tree_bound kind.AssignExpr ts l s h = let (us, is) = assigned (map unpaired ts) in both_none (Tree kind.AssignExpr ts) (Tree kind.AssignExpr us) (tree_none kind.AssignExpr ts) (unpaired_tree kind.AssignExpr ts ∙ is) (tree_none kind.AssignExpr us)
tree_bound k ts l s h = both_none (Tree k ts) (Tree k (map unpaired ts)) (tree_none k ts) (unpaired_tree k ts ∙ rolls-Tree k (map unpaired ts)) (tree_none k (map unpaired ts))

unpaired_bound : (t : Node) (s : Slot) → Fits t s → bound_name (out-Node t) ≡ bound_name (out-Node (unpaired t))
unpaired_bound t = by_children (λ t. (s : Slot) → Fits t s → bound_name (out-Node t) ≡ bound_name (out-Node (unpaired t))) (
  λ s h. same_bound Absent (search (rules, the_lemmas)),
  λ x s h. same_bound (Flag x) (search (rules, the_lemmas)),
  λ w s h. same_bound (Word w) (search (rules, the_lemmas)),
  λ x s h. same_bound (Text x) (search (rules, the_lemmas)),
  λ r s h. same_bound (Span r) (search (rules, the_lemmas)),
  λ k i s h. same_bound (Identifier k i) (search (rules, the_lemmas)),
)
    (λ ts l s h. both_none (Many ts) (Many (map unpaired ts)) (list_none ts) (unpaired_list ts) (list_none (map unpaired ts)))
    tree_bound t

pub bound : (t : Node) (s : Slot) → Any t → Fits t s → bound_name (out-Node t) ≡ bound_name (out-Node (unpaired t))
bound t s q h = unpaired_bound t s h

abbrev pub Stays : Node → Type 0
Stays t = Holds unpaired bound t

-- ---- targets

-- a name that is an expression and one that is bound
pub renamed : (i : Ident) → Kept R true (Identifier kind.Ident i) (Identifier kind.BindingIdent i)
renamed i =
    plain_kept false (Identifier kind.Ident i) (Identifier kind.BindingIdent i) (plain_name kind.Ident i) (plain_name kind.BindingIdent i)
    (equal (written_with false (Identifier kind.Ident i)) (written_with false (Identifier kind.BindingIdent i)) (name_pieces kind.Ident i ∙ sym (name_pieces kind.BindingIdent i)))

target_kept : (t : Node) → Kept R true t (target t)
target_kept t = by (out-Node t) refl
  where
    by : (y : Node-F Node) → out-Node t ≡ y → Kept R true t (target_in t y)
    by (Node-F.Identifier kind.Ident i) o = subst (λ t. Kept R true t (Identifier kind.BindingIdent i)) (sym (identifier_is t kind.Ident i o)) (renamed i)
    by (Node-F.Identifier k i) o = kept_same R even join true t
    by (Node-F.Tree k ts) o = kept_same R even join true t
    by (Node-F.List ts) o = kept_same R even join true t
    by Node-F.Absent o = kept_same R even join true t
    by (Node-F.Flag x) o = kept_same R even join true t
    by (Node-F.Word x) o = kept_same R even join true t
    by (Node-F.Text x) o = kept_same R even join true t
    by (Node-F.Span x) o = kept_same R even join true t

-- ---- pairs

pair_pieces : (a e : Node) → written_with false (Tree kind.ParenExpr (a ∷ e ∷ [])) ≡ in_pair (written_with false e)
pair_pieces a e = tree_pieces false kind.ParenExpr (a ∷ e ∷ [])

pub pair_off : (a e : Node) → Plain false e → Kept R true (Tree kind.ParenExpr (a ∷ e ∷ [])) e
pair_off a e p =
    plain_kept false (Tree kind.ParenExpr (a ∷ e ∷ [])) e (plain_tree kind.ParenExpr (a ∷ e ∷ []) refl) p
    (stated (written_with false (Tree kind.ParenExpr (a ∷ e ∷ []))) (written_with false e) (in_pair (written_with false e)) (written_with false e) (pair_pieces a e) refl (pair (written_with false e)))

pair_kept : (ts : List Node) → Each Stays ts → Stays (Tree kind.ParenExpr ts)
pair_kept (a ∷ e ∷ []) l s q h =
    let ts : List Node = a ∷ e ∷ [] in
    let f : Fits e an_expression = (tree_open kind.ParenExpr ts s h).4.1.0 in
    let all : Kept R true (Tree kind.ParenExpr ts) (unpaired e) = kept_then R after true (Tree kind.ParenExpr ts) e (unpaired e) (pair_off a e (expression e f).0) (l.1.0 an_expression tt f) in
    subst (λ (w : Bool). Kept R w (Tree kind.ParenExpr ts) (unpaired (Tree kind.ParenExpr ts))) (sym (wide_there kind.ParenExpr ts s refl h)) (subst (Kept R true (Tree kind.ParenExpr ts)) (sym (unpaired_tree kind.ParenExpr ts)) all)
pair_kept [] l s q h = absurd ((tree_open kind.ParenExpr [] s h).4)
pair_kept (a ∷ []) l s q h = absurd ((tree_open kind.ParenExpr (a ∷ []) s h).4.1)
pair_kept (a ∷ e ∷ c ∷ ts) l s q h = absurd ((tree_open kind.ParenExpr (a ∷ e ∷ c ∷ ts) s h).4.1.1)

-- ---- assignments

pub assigned_kept : (w : Bool) (a o t v : Node) → Kept R w (Tree kind.AssignExpr (a ∷ o ∷ t ∷ v ∷ [])) (Tree kind.AssignExpr (a ∷ o ∷ target t ∷ v ∷ []))
assigned_kept w a o t v =
    tree_kept R even join (λ n. true) w kind.AssignExpr (a ∷ o ∷ t ∷ v ∷ []) (a ∷ o ∷ target t ∷ v ∷ []) refl refl
    (kept_same R even join true a, (kept_same R even join true o, (target_kept t, (kept_same R even join true v, tt))))

assignment_kept : (ts : List Node) → Each Stays ts → Stays (Tree kind.AssignExpr ts)
assignment_kept (a ∷ o ∷ t ∷ v ∷ []) l s q h =
    let ts : List Node = a ∷ o ∷ t ∷ v ∷ [] in
    subst (Kept R (wide s) (Tree kind.AssignExpr ts)) (sym (unpaired_tree kind.AssignExpr ts))
    (kept_then R after (wide s) (Tree kind.AssignExpr ts) (Tree kind.AssignExpr (map unpaired ts)) (Tree kind.AssignExpr (unpaired a ∷ unpaired o ∷ target (unpaired t) ∷ unpaired v ∷ []))
    (all_below unpaired bound s kind.AssignExpr ts l h) (assigned_kept (wide s) (unpaired a) (unpaired o) (unpaired t) (unpaired v)))
assignment_kept [] l s q h = absurd ((tree_open kind.AssignExpr [] s h).4)
assignment_kept (a ∷ []) l s q h = absurd ((tree_open kind.AssignExpr (a ∷ []) s h).4.1)
assignment_kept (a ∷ o ∷ []) l s q h = absurd ((tree_open kind.AssignExpr (a ∷ o ∷ []) s h).4.1.1)
assignment_kept (a ∷ o ∷ t ∷ []) l s q h = absurd ((tree_open kind.AssignExpr (a ∷ o ∷ t ∷ []) s h).4.1.1.1)
assignment_kept (a ∷ o ∷ t ∷ v ∷ w ∷ ts) l s q h = absurd ((tree_open kind.AssignExpr (a ∷ o ∷ t ∷ v ∷ w ∷ ts) s h).4.1.1.1.1)

-- ---- each node

each_tree : (k : Kind) (ts : List Node) → Each Stays ts → Stays (Tree k ts)
each_tree kind.ParenExpr ts l = pair_kept ts l
each_tree kind.AssignExpr ts l = assignment_kept ts l
each_tree k ts l = all_tree unpaired bound k ts (unpaired_tree k ts ∙ rolls-Tree k (map unpaired ts)) l

pub unpaired_kept : (t : Node) → Stays t
unpaired_kept t = by_children Stays (
  all_leaf unpaired bound Absent (search (rules, the_lemmas)),
  λ x. all_leaf unpaired bound (Flag x) (search (rules, the_lemmas)),
  λ w. all_leaf unpaired bound (Word w) (search (rules, the_lemmas)),
  λ x. all_leaf unpaired bound (Text x) (search (rules, the_lemmas)),
  λ r. all_leaf unpaired bound (Span r) (search (rules, the_lemmas)),
  λ k i. all_leaf unpaired bound (Identifier k i) (search (rules, the_lemmas)),
)
    (λ ts l. all_list unpaired bound ts (unpaired_list ts) l) each_tree t
