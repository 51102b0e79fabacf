-- The texts of a program at each form of a node: of a place only whether it is that of an outer name makes a difference.
use Rattle.std.proofs.Common.{◌≡◌, ℕ, zero, suc, Bool, true, false, ◌||◌, Option, Some, List, [], ◌∷◌, ◌++◌, append_assoc, refl, sym, ap, ◌∙◌, cond}
use Rattle.std.specs.Prelude.{if◌then◌else◌}
use Rattle.std.specs.List.{flat_map, slice_get}
use Rattle.swc_tree_marks.specs.declared.span.Span.{Span as Span'}
use Rattle.swc_tree_marks.specs.declared.ident.Ident.{Ident}
use Rattle.swc_tree_node.specs.declared.kind.Kind.{Kind}
use Rattle.swc_tree_node.specs.declared.kind.Kind.TheVariants as kind
use Rattle.swc_tree_node.specs.declared.kind.Word.{Word as Word'}
use Rattle.swc_tree_node.specs.declared.kind.Word.TheVariants as word
use Rattle.swc_tree_node.specs.declared.slot.Role.{Role}
use Rattle.swc_tree_node.specs.declared.slot.Role.TheVariants as role
use Rattle.swc_tree_node.specs.declared.node.Node.{Node, Absent, Flag, Word, Text, Span, List as Many, Identifier, Tree, out-Node}
use Rattle.swc_tree_node.specs.declared.node.Node.TheOpen.{Node-F}
use Rattle.swc_tree_node.specs.declared.node.Node.TheVariants.{outs-Absent, outs-Flag, outs-Word, outs-Text, outs-Span, outs-List, outs-Identifier, outs-Tree}
use Rattle.swc_tree_scoping.specs.declared.places.Standing.{Standing}
use Rattle.swc_tree_scoping.specs.declared.places.Standing.TheVariants as standing
use Rattle.swc_tree_scoping.specs.declared.places.Place.{Place}
use Rattle.swc_tree_scoping.specs.Places.{by_keyword, children_in, default_name, expression_name, field_role, function_standing, keyword_in, own_name, part_standing, place_in, plain_standing, standing_below, is_identifier_expression}
use Rattle.swc_tree_scoping.specs.Folds.{each_in, fold_in_place}
use Rattle.swc_tree_scoping.proofs.Under.{by_children, fold_in_place_out}
use Rattle.swc_base_rename_substitution.specs.Places.{has_source}
use Rattle.swc_base_rename_laws.specs.Texts.{is_object, is_outer, key_text, other_texts, texts_in, texts_step}

-- whether a field of that role holds outer names, where the whole node does or does not
abbrev pub outer_role : Bool → Bool → Role → Bool
outer_role outer sourced role.Inherited = outer
outer_role outer sourced role.ExportLocal = sourced
outer_role outer sourced role.Label = true
outer_role outer sourced role.Imported = true
outer_role outer sourced role.Exported = true
outer_role outer sourced r = false

plain_if : (b : Bool) (r : Standing) → is_outer r ≡ false → is_outer (cond b r standing.Plain) ≡ false
plain_if true r h = h
plain_if false r h = refl

plain_is : (k : Kind) (i : ℕ) → is_outer (plain_standing k i) ≡ false
plain_is kind.IfStmt i = plain_if _ standing.Branch refl
plain_is kind.ExportDefaultDecl i = plain_if _ standing.DefaultExport refl
plain_is k i = refl

keyword_is : (ts : List Node) → is_outer (by_keyword ts) ≡ false
keyword_is [] = refl
keyword_is (t ∷ ts) = at (out-Node t) (keyword_is ts)
  where
    at : (y : Node-F Node) → is_outer (by_keyword ts) ≡ false → is_outer (keyword_in y (by_keyword ts)) ≡ false
    at (Node-F.Word word.Var) h = refl
    at (Node-F.Word w) h = refl
    at Node-F.Absent h = h
    at (Node-F.Flag x) h = h
    at (Node-F.Text x) h = h
    at (Node-F.Span x) h = h
    at (Node-F.List x) h = h
    at (Node-F.Identifier k i) h = h
    at (Node-F.Tree k us) h = h

chosen : (a b : Bool) → is_outer (cond a standing.Function (cond b standing.SloppyFunction standing.BlockFunction)) ≡ false
chosen true b = refl
chosen false true = refl
chosen false false = refl

function_is : (w : Place) (plain : Bool) → is_outer (function_standing w plain) ≡ false
function_is w plain = chosen _ _

local : (b : Bool) → is_outer (cond b standing.Imported standing.Reference) ≡ b
local true = refl
local false = refl

default_is : (k : Kind) → is_outer (default_name k) ≡ false
default_is kind.FnExpr = refl
default_is k = refl

expression_is : (k : Kind) → is_outer (expression_name k) ≡ false
expression_is kind.FnExpr = refl
expression_is k = refl

own_name_is : (r : Standing) (k : Kind) → is_outer (own_name r k) ≡ false
own_name_is standing.DefaultExport k = default_is k
own_name_is r k = expression_is k

referred : (b : Bool) (r : Standing) → is_outer r ≡ false → is_outer (cond b standing.Reference r) ≡ is_outer r
referred true r h = sym h
referred false r h = refl

part_is : (r : Standing) (o : Option Node) → is_outer (part_standing r o) ≡ is_outer r
part_is standing.Variable o = referred (is_identifier_expression o) standing.Variable refl
part_is standing.Lexical o = referred (is_identifier_expression o) standing.Lexical refl
part_is standing.Parameter o = referred (is_identifier_expression o) standing.Parameter refl
part_is standing.CatchParameter o = referred (is_identifier_expression o) standing.CatchParameter refl
part_is r o = refl

role_is : (w : Place) (k : Kind) (ts : List Node) (i : ℕ) (r : Role) → is_outer (standing_below w k ts i r) ≡ outer_role (is_outer w.standing) (has_source ts) r
role_is w k ts i role.Plain = plain_is k i
role_is w k ts i role.Inherited = part_is w.standing (slice_get ts i)
role_is w k ts i role.Reference = refl
role_is w k ts i role.Declared = keyword_is ts
role_is w k ts i role.Function = function_is w _
role_is w k ts i role.Class = refl
role_is w k ts i role.OwnName = own_name_is w.standing k
role_is w k ts i role.Parameter = part_is standing.Parameter (slice_get ts i)
role_is w k ts i role.Catch = part_is standing.CatchParameter (slice_get ts i)
role_is w k ts i role.Import = refl
role_is w k ts i role.Lexical = refl
role_is w k ts i role.FunctionBody = refl
role_is w k ts i role.Label = refl
role_is w k ts i role.Imported = refl
role_is w k ts i role.Exported = refl
role_is w k ts i role.TypeName = refl
role_is w k ts i role.TypeReference = refl
role_is w k ts i role.ExportLocal = local _

-- the place of a child goes by that of the node
below_is : (w v : Place) (y : Node-F Node) (i : ℕ) → is_outer w.standing ≡ is_outer v.standing → is_outer (place_in w y i).standing ≡ is_outer (place_in v y i).standing
below_is w v (Node-F.Tree k ts) i h =
    role_is w k ts i (field_role k i) ∙ ap (λ o. outer_role o (has_source ts) (field_role k i)) h ∙ sym (role_is v k ts i (field_role k i))
below_is w v (Node-F.List ts) i h = part_is w.standing (slice_get ts i) ∙ h ∙ sym (part_is v.standing (slice_get ts i))
below_is w v y i h = refl

abbrev told : Place → Node → Bool → List (List ℕ)
told = fold_in_place texts_step

abbrev SameTold : Node → Type 0
SameTold t = (w v : Place) (short : Bool) → is_outer w.standing ≡ is_outer v.standing → told w t short ≡ told v t short

each_same : (short : Bool) (ws vs : ℕ → Place) (ts : List Node) → ((i : ℕ) → is_outer (ws i).standing ≡ is_outer (vs i).standing) → ((i : ℕ) (c : Node) → slice_get ts i ≡ Some c → SameTold c)
    → flat_map (λ texts. texts short) (each_in told ws ts) ≡ flat_map (λ texts. texts short) (each_in told vs ts)
each_same short ws vs [] h below = refl
each_same short ws vs (t ∷ ts) h below =
    ap (λ l. l ++ flat_map (λ texts. texts short) (each_in told (λ i. ws (suc i)) ts)) (below zero t refl (ws zero) (vs zero) short (h zero))
    ∙ ap (λ l. told (vs zero) t short ++ l) (each_same short (λ i. ws (suc i)) (λ i. vs (suc i)) ts (λ i. h (suc i)) (λ i. below (suc i)))

same_told : (t : Node) → SameTold t
same_told = by_children SameTold (λ t below w v short h.
    ap (λ f. f short) (fold_in_place_out texts_step w t) ∙ at t (out-Node t) w v short h below ∙ sym (ap (λ f. f short) (fold_in_place_out texts_step v t)))
  where
    at : (t : Node) (y : Node-F Node) (w v : Place) (short : Bool) → is_outer w.standing ≡ is_outer v.standing → ((i : ℕ) (c : Node) → slice_get (children_in y) i ≡ Some c → SameTold c)
        → texts_in w short t y (each_in told (place_in w y) (children_in y)) ≡ texts_in v short t y (each_in told (place_in v y) (children_in y))
    at t Node-F.Absent w v short h below = refl
    at t (Node-F.Flag x) w v short h below = refl
    at t (Node-F.Word x) w v short h below = refl
    at t (Node-F.Text x) w v short h below = refl
    at t (Node-F.Span x) w v short h below = refl
    at t (Node-F.Identifier k i) w v short h below = ap (λ o. if short || o then i.sym ∷ [] else []) h
    at t (Node-F.List ts) w v short h below = each_same short _ _ ts (λ i. below_is w v (Node-F.List ts) i h) below
    at t (Node-F.Tree k ts) w v short h below =
        ap (λ l. key_text k ts ++ (l ++ other_texts k ts t)) (each_same (is_object k) _ _ ts (λ i. below_is w v (Node-F.Tree k ts) i h) below)

abbrev standing_for : Bool → Standing
standing_for true = standing.Label
standing_for false = standing.Plain

outer_for : (o : Bool) → is_outer (standing_for o) ≡ o
outer_for true = refl
outer_for false = refl

abbrev place_for : Bool → Place
place_for outer = record { standing = standing_for outer; strict = false; nested = false }

-- the texts of a node, which holds outer names or not, and may be a shorthand property or not
abbrev pub texts : Bool → Bool → Node → List (List ℕ)
texts outer short t = told (place_for outer) t short

-- those of fields
abbrev pub all_texts : (ℕ → Bool) → Bool → List Node → List (List ℕ)
all_texts outer short [] = []
all_texts outer short (t ∷ ts) = texts (outer zero) short t ++ all_texts (λ i. outer (suc i)) short ts

each_for : (short : Bool) (ws : ℕ → Place) (outer : ℕ → Bool) (ts : List Node) → ((i : ℕ) → is_outer (ws i).standing ≡ outer i)
    → flat_map (λ texts. texts short) (each_in told ws ts) ≡ all_texts outer short ts
each_for short ws outer [] h = refl
each_for short ws outer (t ∷ ts) h =
    ap (λ l. l ++ flat_map (λ texts. texts short) (each_in told (λ i. ws (suc i)) ts)) (same_told t (ws zero) (place_for (outer zero)) short (h zero ∙ sym (outer_for (outer zero))))
    ∙ ap (λ l. texts (outer zero) short t ++ l) (each_for short (λ i. ws (suc i)) (λ i. outer (suc i)) ts (λ i. h (suc i)))

at_form : (o short : Bool) (t : Node) (y : Node-F Node) → out-Node t ≡ y → texts o short t ≡ texts_in (place_for o) short t y (each_in told (place_in (place_for o) y) (children_in y))
at_form o short t y e =
    ap (λ f. f short) (fold_in_place_out texts_step (place_for o) t)
    ∙ ap (λ y. texts_in (place_for o) short t y (each_in told (place_in (place_for o) y) (children_in y))) e

pub texts-Absent : (o short : Bool) → texts o short Absent ≡ []
texts-Absent o short = at_form o short Absent _ outs-Absent

pub texts-Flag : (o short : Bool) (x : Bool) → texts o short (Flag x) ≡ []
texts-Flag o short x = at_form o short (Flag x) _ (outs-Flag x)

pub texts-Word : (o short : Bool) (x : Word') → texts o short (Word x) ≡ []
texts-Word o short x = at_form o short (Word x) _ (outs-Word x)

pub texts-Text : (o short : Bool) (x : List ℕ) → texts o short (Text x) ≡ x ∷ []
texts-Text o short x = at_form o short (Text x) _ (outs-Text x)

pub texts-Span : (o short : Bool) (x : Span') → texts o short (Span x) ≡ []
texts-Span o short x = at_form o short (Span x) _ (outs-Span x)

pub texts_identifier : (o short : Bool) (k : Kind) (i : Ident) → texts o short (Identifier k i) ≡ (if short || o then i.sym ∷ [] else [])
texts_identifier o short k i = at_form o short (Identifier k i) _ (outs-Identifier k i) ∙ ap (λ o. if short || o then i.sym ∷ [] else []) (outer_for o)

pub texts_list : (o short : Bool) (ts : List Node) → texts o short (Many ts) ≡ all_texts (λ i. o) short ts
texts_list o short ts =
    at_form o short (Many ts) _ (outs-List ts)
    ∙ each_for short _ (λ i. o) ts (λ i. part_is (standing_for o) (slice_get ts i) ∙ outer_for o)

pub texts_tree : (o short : Bool) (k : Kind) (ts : List Node)
    → texts o short (Tree k ts) ≡ key_text k ts ++ (all_texts (λ i. outer_role o (has_source ts) (field_role k i)) (is_object k) ts ++ other_texts k ts (Tree k ts))
texts_tree o short k ts =
    at_form o short (Tree k ts) _ (outs-Tree k ts)
    ∙ ap (λ l. key_text k ts ++ (l ++ other_texts k ts (Tree k ts)))
    (each_for (is_object k) _ (λ i. outer_role o (has_source ts) (field_role k i)) ts
    (λ i. role_is (place_for o) k ts i (field_role k i) ∙ ap (λ o. outer_role o (has_source ts) (field_role k i)) (outer_for o)))

pub all_append : (o short : Bool) (ts us : List Node) → all_texts (λ i. o) short (ts ++ us) ≡ all_texts (λ i. o) short ts ++ all_texts (λ i. o) short us
all_append o short [] us = refl
all_append o short (t ∷ ts) us =
    ap (λ l. texts o short t ++ l) (all_append o short ts us) ∙ sym (append_assoc (texts o short t) (all_texts (λ i. o) short ts) (all_texts (λ i. o) short us))
