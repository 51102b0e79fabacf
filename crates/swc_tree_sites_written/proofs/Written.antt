-- What writing a tree out and being tame say at each form of a node; and patterns.
use Rattle.std.proofs.Common.{◌≡◌, Bool, true, false, ◌&&◌, Option, Some, List, [], ◌∷◌, map, refl, sym, ap, ◌∙◌, cond, rules}
use Rattle.swc_tree_marks.specs.declared.ident.Ident.{Ident}
use Rattle.swc_tree_node.specs.declared.kind.Kind.{Kind}
use Rattle.swc_tree_node.specs.declared.node.Node.{Node, Absent, Flag, Word, Text, Span, List as Many, Identifier, Tree, out-Node, the_lemmas, fold-Node}
use Rattle.swc_tree_node.specs.declared.node.Node.TheOpen.{Node-F}
use Rattle.swc_tree_node.specs.declared.node.Node.TheVariants.{outs-List, outs-Tree, outs-Identifier, rolls-Tree}
use Rattle.swc_tree_scoping.specs.declared.places.Standing.{Standing}
use Rattle.swc_tree_scoping.specs.Places.{binds_patterns, is_expression_in, is_identifier_expression, part_standing}
use Rattle.swc_tree_grammar.specs.Normal.{as_pattern, pattern_in, pattern_property_in, written_out, written_step}
use Rattle.swc_tree_grammar.proofs.Induction.{Each, by_children}
use Rattle.swc_tree_sites_written.specs.Tame.{Tame, is_tame, items_tame, tame_in, tame_step}
use Rattle.swc_tree_sites.proofs.Kept.{S}
use Rattle.swc_tree_sites_laws.proofs.Expressions.{P, of_identifier}
use Rattle.swc_tree_node.specs.declared.kind.Kind.TheVariants as kind
use Rattle.swc_tree_scoping.specs.declared.places.Standing.TheVariants as standing

-- written out
pub written_list : (ts : List Node) → written_out (Many ts) ≡ Many (map written_out ts)
written_list ts = search (rules, the_lemmas)

pub written_tree : (k : Kind) (ts : List Node) → written_out (Tree k ts) ≡ written_step (Node-F.Tree k (map written_out ts))
written_tree k ts = search (rules, the_lemmas)

pub written_name : (k : Kind) (i : Ident) → written_out (Identifier k i) ≡ Identifier k i
written_name k i = search (rules, the_lemmas)

-- tame
abbrev told : Node → Tame
told = fold-Node Tame tame_step

abbrev Whole : Node → Type 0
Whole t = (told t).whole ≡ t

wholes : (ts : List Node) → Each Whole ts → map (λ e. e.whole) (map told ts) ≡ ts
wholes [] h = refl
wholes (t ∷ ts) h = rw (h.0, wholes ts h.1) refl

whole_many : (ts : List Node) → (told (Many ts)).whole ≡ Many (map (λ e. e.whole) (map told ts))
whole_many ts = search (rules, the_lemmas)

whole_tree : (k : Kind) (ts : List Node) → (told (Tree k ts)).whole ≡ Tree k (map (λ e. e.whole) (map told ts))
whole_tree k ts = search (rules, the_lemmas)

whole : (t : Node) → Whole t
whole t = by_children Whole
    (search (rules, the_lemmas), λ x. search (rules, the_lemmas), λ w. search (rules, the_lemmas), λ x. search (rules, the_lemmas), λ s. search (rules, the_lemmas), λ k i. search (rules, the_lemmas))
    (λ ts h. whole_many ts ∙ ap Many (wholes ts h))
    (λ k ts h. whole_tree k ts ∙ ap (Tree k) (wholes ts h)) t

abbrev pub of : Node → Tame
of t = record { whole = t; tame = is_tame t }

is_of : (t : Node) → told t ≡ of t
is_of t = ap (λ (w : Node). let e : Tame = record { whole = w; tame = is_tame t } in e) (whole t)

each_of_all : (ts : List Node) → map told ts ≡ map of ts
each_of_all [] = refl
each_of_all (t ∷ ts) = rw (is_of t, each_of_all ts) refl

tree_step : (k : Kind) (ts : List Node) → told (Tree k ts) ≡ tame_step (Node-F.Tree k (map told ts))
tree_step k ts = search (rules, the_lemmas)

list_step : (ts : List Node) → told (Many ts) ≡ tame_step (Node-F.List (map told ts))
list_step ts = search (rules, the_lemmas)

pub tame_tree : (k : Kind) (ts : List Node) (b : Bool) → is_tame (Tree k ts) b ≡ tame_in (Node-F.Tree k (map of ts)) b
tame_tree k ts b = ap (λ (e : Tame). e.tame b) (tree_step k ts) ∙ ap (λ es. tame_in (Node-F.Tree k es) b) (each_of_all ts)

pub tame_list : (ts : List Node) (b : Bool) → is_tame (Many ts) b ≡ items_tame b (map of ts)
tame_list ts b = ap (λ (e : Tame). e.tame b) (list_step ts) ∙ ap (λ es. tame_in (Node-F.List es) b) (each_of_all ts)

-- what is read off a node that is written out
abbrev pub is_block_kind : Kind → Bool
is_block_kind kind.BlockStmt = true
is_block_kind _ = false

-- the statements that may end in an `if`
abbrev pub is_ending : Kind → Bool
is_ending kind.IfStmt = true
is_ending kind.LabeledStmt = true
is_ending kind.WhileStmt = true
is_ending kind.WithStmt = true
is_ending kind.ForStmt = true
is_ending kind.ForInStmt = true
is_ending kind.ForOfStmt = true
is_ending _ = false

pub step_tree : (k : Kind) (ts : List Node) → (l : Kind) × (us : List Node) × (written_step (Node-F.Tree k ts) ≡ Tree l us) × (is_block_kind l ≡ is_block_kind k) × (is_ending l ≡ is_ending k)
step_tree kind.IfStmt (a ∷ b ∷ c ∷ d ∷ []) = (_, _, refl, refl, refl)
step_tree kind.ObjectLit (a ∷ b ∷ []) = (_, _, refl, refl, refl)
step_tree kind.AssignPatProp (a ∷ b ∷ c ∷ []) = property_tree a b c (out-Node b)
  where
    property_tree : (a b c : Node) (y : Node-F Node) → (l : Kind) × (us : List Node) × (pattern_property_in a b c y ≡ Tree l us) × (is_block_kind l ≡ false) × (is_ending l ≡ false)
    property_tree a b c (Node-F.Identifier k i) = (_, _, refl, refl, refl)
    property_tree a b c Node-F.Absent = (_, _, refl, refl, refl)
    property_tree a b c y = (_, _, refl, refl, refl)
step_tree kind.ArrayPat (a ∷ b ∷ []) = (_, _, refl, refl, refl)
step_tree kind.RestPat (a ∷ b ∷ []) = (_, _, refl, refl, refl)
step_tree kind.KeyValuePatProp (a ∷ b ∷ []) = (_, _, refl, refl, refl)
step_tree kind.AssignPat (a ∷ b ∷ c ∷ []) = (_, _, refl, refl, refl)
step_tree kind.Param (a ∷ b ∷ []) = (_, _, refl, refl, refl)
step_tree kind.ArrowExpr (a ∷ b ∷ c ∷ d ∷ []) = (_, _, refl, refl, refl)
step_tree kind.SetterProp (a ∷ b ∷ c ∷ d ∷ []) = (_, _, refl, refl, refl)
step_tree kind.VarDeclarator (a ∷ b ∷ c ∷ []) = (_, _, refl, refl, refl)
step_tree kind.CatchClause (a ∷ b ∷ c ∷ []) = (_, _, refl, refl, refl)
step_tree kind.ForInStmt (a ∷ b ∷ c ∷ d ∷ []) = (_, _, refl, refl, refl)
step_tree kind.ForOfStmt (a ∷ b ∷ c ∷ d ∷ e ∷ []) = (_, _, refl, refl, refl)
step_tree kind.ImportNamedSpecifier (a ∷ b ∷ c ∷ []) = (_, _, refl, refl, refl)
step_tree kind.NamedExport (a ∷ b ∷ c ∷ d ∷ []) = (_, _, refl, refl, refl)
step_tree kind.Module (a ∷ b ∷ c ∷ []) = (_, _, refl, refl, refl)
step_tree k ts = (k, ts, rolls-Tree k ts, refl, refl)

pub written_looks : {A : Type 0} (g : Node-F Node → A) (d : A) → ((k : Kind) (ts : List Node) → g (Node-F.Tree k ts) ≡ d) → ((ts : List Node) → g (Node-F.List ts) ≡ d) → (t : Node) → g (out-Node (written_out t)) ≡ g (out-Node t)
written_looks g d trees lists t = by_children (λ t. g (out-Node (written_out t)) ≡ g (out-Node t)) (
  ap (λ t. g (out-Node t)) still_absent,
  λ x. ap (λ t. g (out-Node t)) (still_flag x),
  λ w. ap (λ t. g (out-Node t)) (search (rules, the_lemmas)),
  λ x. ap (λ t. g (out-Node t)) (search (rules, the_lemmas)),
  λ r. ap (λ t. g (out-Node t)) (search (rules, the_lemmas)),
  λ k i. ap (λ t. g (out-Node t)) (written_name k i),
)
    (λ ts b. ap (λ t. g (out-Node t)) (written_list ts) ∙ ap g (outs-List (map written_out ts)) ∙ lists (map written_out ts) ∙ sym (ap g (outs-List ts) ∙ lists ts))
    (λ k ts b. let (l, us, is, block, ending) = step_tree k (map written_out ts) in ap (λ t. g (out-Node t)) (written_tree k ts ∙ is) ∙ ap g (outs-Tree l us) ∙ trees l us ∙ sym (ap g (outs-Tree k ts) ∙ trees k ts)) t
  where
    still_absent : written_out Absent ≡ Absent
    still_absent = search (rules, the_lemmas)

    still_flag : (x : Bool) → written_out (Flag x) ≡ Flag x
    still_flag x = search (rules, the_lemmas)

pub expression_written : (t : Node) → is_identifier_expression (Some (written_out t)) ≡ is_identifier_expression (Some t)
expression_written t = written_looks is_expression_in false (λ k ts. refl) (λ ts. refl) t

-- patterns
abbrev PatternSame : Node → Type 0
PatternSame c = (p : Standing) (n : Bool) → (binds_patterns p ≡ true → is_identifier_expression (Some c) ≡ false) → S (P (part_standing p (Some (as_pattern c))) n) (as_pattern c) ≡ S (P (part_standing p (Some c)) n) c

unbound : (p : Standing) (o : Option Node) → binds_patterns p ≡ false → part_standing p o ≡ p
unbound p o e = ap (λ b. cond (b && is_identifier_expression o) standing.Reference p) e

same_pattern : (c : Node) → as_pattern c ≡ c → PatternSame c
same_pattern c e p n h = ap (λ c. S (P (part_standing p (Some c)) n) c) e

name_pattern : (i : Ident) → PatternSame (Identifier kind.Ident i)
name_pattern i p n h = at (binds_patterns p) refl
  where
    is : as_pattern (Identifier kind.Ident i) ≡ Identifier kind.BindingIdent i
    is = ap (pattern_in (Identifier kind.Ident i)) (outs-Identifier kind.Ident i)

    at : (b : Bool) → binds_patterns p ≡ b → S (P (part_standing p (Some (as_pattern (Identifier kind.Ident i)))) n) (as_pattern (Identifier kind.Ident i)) ≡ S (P (part_standing p (Some (Identifier kind.Ident i))) n) (Identifier kind.Ident i)
    at true e = let z = sym (ap is_expression_in (outs-Identifier kind.Ident i)) ∙ h e in absurd (cc)
    at false e =
        ap (λ r. S (P r n) (as_pattern (Identifier kind.Ident i))) (unbound p (Some (as_pattern (Identifier kind.Ident i))) e) ∙ ap (S (P p n)) is
        ∙ of_identifier (P p n) kind.BindingIdent i ∙ sym (of_identifier (P p n) kind.Ident i) ∙ ap (λ r. S (P r n) (Identifier kind.Ident i)) (sym (unbound p (Some (Identifier kind.Ident i)) e))

named_pattern : (k : Kind) (i : Ident) → PatternSame (Identifier k i)
named_pattern kind.Ident i = name_pattern i
named_pattern kind.BindingIdent i = same_pattern (Identifier kind.BindingIdent i) (ap (pattern_in (Identifier kind.BindingIdent i)) (outs-Identifier kind.BindingIdent i))
named_pattern k i = same_pattern (Identifier k i) (ap (pattern_in (Identifier k i)) (outs-Identifier k i))

pub pattern_same : (c : Node) → PatternSame c
pattern_same c = by_children PatternSame (
  same_pattern Absent (search (rules, the_lemmas)),
  λ x. same_pattern (Flag x) (search (rules, the_lemmas)),
  λ w. same_pattern (Word w) (search (rules, the_lemmas)),
  λ x. same_pattern (Text x) (search (rules, the_lemmas)),
  λ r. same_pattern (Span r) (search (rules, the_lemmas)),
  named_pattern,
)
    (λ ts h. same_pattern (Many ts) (ap (pattern_in (Many ts)) (outs-List ts)))
    (λ k ts h. same_pattern (Tree k ts) (ap (pattern_in (Tree k ts)) (outs-Tree k ts))) c
