-- A tree with blocks round branches meets no more than the tree.
use Rattle.std.proofs.Common.{◌≡◌, ℕ, zero, suc, Bool, true, false, not, ◌&&◌, ◌||◌, ◌==◌, Option, Some, None, List, [], ◌∷◌, map, refl, sym, ap, ◌∙◌, subst, cond, rules}
use Rattle.std.specs.List.{list_any, slice_get}
use Rattle.std.specs.Option.{option_and_then, option_map, is_some}
use Rattle.std.proofs.lemmas.Option.{slice_get-map}
use Rattle.swc_tree_marks.specs.declared.ident.Ident.{Ident}
use Rattle.swc_tree_marks.specs.declared.span.Span.{Span as Range}
use Rattle.swc_tree_node.specs.declared.fields.statements.fn_decl.TheConstants as fn_decl
use Rattle.swc_tree_node.specs.declared.fields.functions.function.TheConstants as function
use Rattle.swc_tree_node.specs.declared.fields.functions.param.TheConstants as param
use Rattle.swc_tree_node.specs.declared.fields.modules.named_export.TheConstants as named_export
use Rattle.swc_tree_node.specs.declared.kind.Kind.{Kind}
use Rattle.swc_tree_node.specs.declared.kind.Kind.TheVariants as kind
use Rattle.swc_tree_node.specs.declared.slot.Role.{Role}
use Rattle.swc_tree_node.specs.declared.slot.Role.TheVariants as role
use Rattle.swc_tree_node.specs.declared.node.Node.{Node, Absent, Flag, Word, Text, Span, List as Many, Identifier, Tree, out-Node, the_lemmas}
use Rattle.swc_tree_node.specs.declared.node.Node.TheOpen.{Node-F}
use Rattle.swc_tree_node.specs.declared.node.Node.TheVariants.{outs-List, outs-Span, outs-Tree, rolls-Tree}
use Rattle.swc_tree_scoping.specs.declared.places.Standing.{Standing}
use Rattle.swc_tree_scoping.specs.declared.places.Standing.TheVariants as standing
use Rattle.swc_tree_scoping.specs.declared.places.Place.{Place}
use Rattle.swc_tree_scoping.specs.Places.{absent_in, binds_patterns, block_scope, by_keyword, field_role, function_standing, given, has_own_name, is_expression_in, is_identifier_expression, is_there, items_in, items_of, keyword_in, part_standing, place_in, program_place, standing_below}
use Rattle.swc_tree_scoping.specs.BoundNames.{name_in, name_of}
use Rattle.swc_base_rename_analysis.specs.declared.scopes.ScopeKind.TheVariants.{Block as InBlock}
use Rattle.swc_base_rename_analysis.specs.Analysis.{body_kind, function_has_rest_or_default, has_identifier, is_for_body, is_rest_or_default, kind_of, parameter_is_rest_or_default, uses_own_name}
use Rattle.swc_base_rename_analysis.specs.Walk.{own_name_below}
use Rattle.swc_tree_grammar.specs.Blocks.{block, block_step, branch, span_of, takes_else, with_blocks}
use Rattle.swc_tree_grammar.proofs.Induction.{Each, by_children}
use Rattle.swc_tree_grammar.proofs.Walks.{blocks_of_list, blocks_of_tree}
use Rattle.swc_base_renaming_laws.specs.Settled.{BlocksAddNoPairs}
use Rattle.swc_base_renaming_laws.specs.Meetings.{Meeting, Met, both, enclosed, in_scope, met, nothing}
use Rattle.swc_base_renaming_laws.proofs.Within.{Within, both_twice, both_within, nothing_within, pairs_within, put_round, within_is, within_through}
use Rattle.swc_base_renaming_laws.proofs.Less.{AllLess, FieldsLess, Less, StandAlike, list_less, no_body, no_own, tree_less}
use Rattle.swc_base_renaming_laws.proofs.Meets.{M, out_is}
use Rattle.swc_base_renaming_laws.proofs.Placed.{placed, sort}

-- ---- the fields of a tree with its blocks

abbrev block_fields : Kind → List Node → List Node
block_fields kind.IfStmt (span ∷ test ∷ cons ∷ alt ∷ []) = span ∷ test ∷ branch cons ∷ alt ∷ []
block_fields k ts = ts

block_row : (k : Kind) (us : List Node) → block_step (Node-F.Tree k us) ≡ Tree k (block_fields k us)
block_row kind.IfStmt (s ∷ t ∷ c ∷ a ∷ []) = refl
block_row k us = rolls-Tree k us

blocks_fields : (k : Kind) (ts : List Node) → with_blocks (Tree k ts) ≡ Tree k (block_fields k (map with_blocks ts))
blocks_fields k ts = blocks_of_tree k ts ∙ block_row k (map with_blocks ts)

-- what is read off a node, and is the same with its blocks
module _ {A : Type 0} (g : Node-F Node → A) (lists : (ts : List Node) → g (Node-F.List (map with_blocks ts)) ≡ g (Node-F.List ts)) (trees : (k : Kind) (ts : List Node) → g (Node-F.Tree k (block_fields k (map with_blocks ts))) ≡ g (Node-F.Tree k ts)) where
  reads : (t : Node) → g (out-Node (with_blocks t)) ≡ g (out-Node t)
  reads t = by_children (λ t. g (out-Node (with_blocks t)) ≡ g (out-Node t)) (
    ap (λ t. g (out-Node t)) (search (rules, the_lemmas)),
    λ x. ap (λ t. g (out-Node t)) (search (rules, the_lemmas)),
    λ w. ap (λ t. g (out-Node t)) (search (rules, the_lemmas)),
    λ x. ap (λ t. g (out-Node t)) (search (rules, the_lemmas)),
    λ s. ap (λ t. g (out-Node t)) (search (rules, the_lemmas)),
    λ k i. ap (λ t. g (out-Node t)) (search (rules, the_lemmas)),
  )
      (λ ts l. ap (λ t. g (out-Node t)) (blocks_of_list ts) ∙ ap g (outs-List (map with_blocks ts)) ∙ lists ts ∙ sym (ap g (outs-List ts)))
      (λ k ts l. ap (λ t. g (out-Node t)) (blocks_fields k ts) ∙ ap g (outs-Tree k (block_fields k (map with_blocks ts))) ∙ trees k ts ∙ sym (ap g (outs-Tree k ts))) t

abbrev B : Node → Node
B = with_blocks

expression_same : (o : Option Node) → is_identifier_expression (option_map B o) ≡ is_identifier_expression o
expression_same None = refl
expression_same (Some t) = reads is_expression_in (λ ts. refl) (λ k ts. refl) t

there_same : (o : Option Node) → is_there (option_map B o) ≡ is_there o
there_same None = refl
there_same (Some t) = ap not (reads absent_in (λ ts. refl) (λ k ts. refl) t)

name_same : (o : Option Node) → name_of (option_map B o) ≡ name_of o
name_same None = refl
name_same (Some t) = reads name_in (λ ts. refl) (λ k ts. refl) t

keyword_same : (ts : List Node) → by_keyword (map B ts) ≡ by_keyword ts
keyword_same [] = refl
keyword_same (t ∷ ts) = reads (λ y. keyword_in y (by_keyword (map B ts))) (λ us. refl) (λ k us. refl) t ∙ ap (keyword_in (out-Node t)) (keyword_same ts)

at_map : (ts : List Node) (i : ℕ) → slice_get (map B ts) i ≡ option_map B (slice_get ts i)
at_map ts i = slice_get-map B ts i

-- ---- functions that count as using their names

given_same : (g : Node → Bool) → ((t : Node) → g (B t) ≡ g t) → (o : Option Node) → given (option_map B o) false g ≡ given o false g
given_same g h None = refl
given_same g h (Some t) = h t

rest_same : (t : Node) → is_rest_or_default (out-Node (B t)) ≡ is_rest_or_default (out-Node t)
rest_same = reads is_rest_or_default (λ ts. refl) rows
  where
    rows : (k : Kind) (ts : List Node) → is_rest_or_default (Node-F.Tree k (block_fields k (map B ts))) ≡ is_rest_or_default (Node-F.Tree k ts)
    rows kind.RestPat ts = refl
    rows kind.AssignPat ts = refl
    rows k ts = refl

parameter_same : (t : Node) → parameter_is_rest_or_default (out-Node (B t)) ≡ parameter_is_rest_or_default (out-Node t)
parameter_same = reads parameter_is_rest_or_default (λ ts. refl) rows
  where
    rows : (k : Kind) (ts : List Node) → parameter_is_rest_or_default (Node-F.Tree k (block_fields k (map B ts))) ≡ parameter_is_rest_or_default (Node-F.Tree k ts)
    rows kind.Param ts = ap (λ o. given o false (λ c. is_rest_or_default (out-Node c))) (at_map ts param.PAT) ∙ given_same (λ c. is_rest_or_default (out-Node c)) rest_same (slice_get ts param.PAT)
    rows k ts = refl

any_same : (ts : List Node) → list_any (λ c. parameter_is_rest_or_default (out-Node c)) (map B ts) ≡ list_any (λ c. parameter_is_rest_or_default (out-Node c)) ts
any_same [] = refl
any_same (t ∷ ts) = λ j. parameter_same t j || any_same ts j

items_any : (o : Option Node) → list_any (λ c. parameter_is_rest_or_default (out-Node c)) (items_of (option_map B o)) ≡ list_any (λ c. parameter_is_rest_or_default (out-Node c)) (items_of o)
items_any None = refl
items_any (Some t) = reads (λ y. list_any (λ c. parameter_is_rest_or_default (out-Node c)) (items_in y)) any_same (λ k ts. refl) t

function_same : (t : Node) → function_has_rest_or_default (out-Node (B t)) ≡ function_has_rest_or_default (out-Node t)
function_same = reads function_has_rest_or_default (λ ts. refl) rows
  where
    rows : (k : Kind) (ts : List Node) → function_has_rest_or_default (Node-F.Tree k (block_fields k (map B ts))) ≡ function_has_rest_or_default (Node-F.Tree k ts)
    rows kind.Function ts = ap (λ o. list_any (λ c. parameter_is_rest_or_default (out-Node c)) (items_of o)) (at_map ts function.PARAMS) ∙ items_any (slice_get ts function.PARAMS)
    rows k ts = refl

uses_same : (k : Kind) (ts : List Node) → uses_own_name (Node-F.Tree k (block_fields k (map B ts))) ≡ uses_own_name (Node-F.Tree k ts)
uses_same kind.FnDecl ts = ap (λ o. given o false (λ c. function_has_rest_or_default (out-Node c))) (at_map ts fn_decl.FUNCTION) ∙ given_same (λ c. function_has_rest_or_default (out-Node c)) function_same (slice_get ts fn_decl.FUNCTION)
uses_same kind.FnExpr ts = ap (λ o. given o false (λ c. function_has_rest_or_default (out-Node c))) (at_map ts fn_decl.FUNCTION) ∙ given_same (λ c. function_has_rest_or_default (out-Node c)) function_same (slice_get ts fn_decl.FUNCTION)
uses_same k ts = refl

-- ---- the first field is never a branch

first_field : (k : Kind) (us : List Node) → slice_get (block_fields k us) 0 ≡ slice_get us 0
first_field kind.IfStmt (s ∷ t ∷ c ∷ a ∷ []) = refl
first_field k us = refl

first_is : (k : Kind) (ts : List Node) → slice_get (block_fields k (map B ts)) 0 ≡ option_map B (slice_get ts 0)
first_is k ts = first_field k (map B ts) ∙ at_map ts 0

own_is : (k : Kind) (ts : List Node) (i : ℕ) → own_name_below k (block_fields k (map B ts)) i ≡ own_name_below k ts i
own_is k ts i =
    ap (λ b. cond (i == fn_decl.FUNCTION && b) (name_of (slice_get (block_fields k (map B ts)) 0)) None) (uses_same k ts)
    ∙ ap (λ o. cond (i == fn_decl.FUNCTION && uses_own_name (Node-F.Tree k ts)) o None) (ap name_of (first_is k ts) ∙ name_same (slice_get ts 0))

-- ---- places

function_sorted : (a b : Bool) → sort (cond a standing.Function (cond b standing.SloppyFunction standing.BlockFunction)) ≡ standing.Function
function_sorted true b = refl
function_sorted false true = refl
function_sorted false false = refl

part_at : (r : Standing) (ts : List Node) (i : ℕ) → part_standing r (slice_get (map B ts) i) ≡ part_standing r (slice_get ts i)
part_at r ts i = ap (part_standing r) (at_map ts i) ∙ parts r (slice_get ts i)
  where
    parts : (r : Standing) (o : Option Node) → part_standing r (option_map B o) ≡ part_standing r o
    parts r o = ap (λ b. cond (binds_patterns r && b) standing.Reference r) (expression_same o)

role_is : (w : Place) (k : Kind) (ts : List Node) (i : ℕ) (r : Role) → sort (standing_below w k (map B ts) i r) ≡ sort (standing_below w k ts i r)
role_is w k ts i role.Inherited = ap sort (part_at w.standing ts i)
role_is w k ts i role.Parameter = ap sort (part_at standing.Parameter ts i)
role_is w k ts i role.Catch = ap sort (part_at standing.CatchParameter ts i)
role_is w k ts i role.Declared = ap sort (keyword_same ts)
role_is w k ts i role.Function = function_sorted _ _ ∙ sym (function_sorted _ _)
role_is w k ts i role.ExportLocal = ap (λ b. sort (cond b standing.Imported standing.Reference)) (ap is_there (at_map ts named_export.SRC) ∙ there_same (slice_get ts named_export.SRC))
role_is w k ts i role.Plain = refl
role_is w k ts i r = refl

field_is : (w : Place) (k : Kind) (ts : List Node) (i : ℕ) → sort (place_in w (Node-F.Tree k (block_fields k (map B ts))) i).standing ≡ sort (place_in w (Node-F.Tree k ts) i).standing
field_is w kind.IfStmt ts zero = refl
field_is w kind.IfStmt ts (suc zero) = refl
field_is w kind.IfStmt ts (suc (suc zero)) = refl
field_is w kind.IfStmt ts (suc (suc (suc zero))) = refl
field_is w kind.IfStmt ts (suc (suc (suc (suc i)))) = refl
field_is w k ts i = role_is w k ts i (field_role k i)

item_is : (w : Place) (ts : List Node) (i : ℕ) → sort (place_in w (Node-F.List (map B ts)) i).standing ≡ sort (place_in w (Node-F.List ts) i).standing
item_is w ts i = ap sort (part_at w.standing ts i)

alike : (w : Place) (k : Kind) (ts : List Node) → StandAlike w k (block_fields k (map B ts)) ts
alike w k ts = record {
  places = field_is w k ts;
  own_names = own_is k ts;
  identifier = ap is_some (ap name_of (first_is k ts) ∙ name_same (slice_get ts 0));
  own_name = ap is_there (first_is k ts) ∙ there_same (slice_get ts 0);
}

-- ---- a block round a statement

into : (a b c : Met) → Within a c → Within b c → Within (both a b) c
into a b c h g = within_through (both a b) (both c c) c (both_within a c b c h g) (both_twice c)

span_nothing : (w : Place) (s : Range) (f : Bool) (own : Option Ident) → M w (Span s) f own ≡ nothing
span_nothing w s f own = out_is w (Span s) (Node-F.Span s) f own (outs-Span s)

-- the places of a block and of the statements in it
abbrev in_block : Place → Node → ℕ → Place
in_block w u i = place_in w (Node-F.Tree kind.BlockStmt (Span (span_of u) ∷ Many (u ∷ []) ∷ [])) i

abbrev in_list : Place → Node → Place
in_list w u = place_in (in_block w u 1) (Node-F.List (u ∷ [])) 0

list_one : (w : Place) (u : Node) (f : Bool) (own : Option Ident) → M w (Many (u ∷ [])) f own ≡ both (M (place_in w (Node-F.List (u ∷ [])) 0) u false None) nothing
list_one w u f own = out_is w (Many (u ∷ [])) (Node-F.List (u ∷ [])) f own (outs-List (u ∷ []))

block_less : (w : Place) (u : Node) (m : Met) → w.standing ≡ standing.Branch → Within (M (in_list w u) u false None) m → Within (M w (block u) false None) m
block_less w u m e h = subst (λ (x : Met). Within x m) (sym whole) (into nothing (enclosed InBlock None inner) m (nothing_within m) (put_round InBlock inner m inner_less))
  where
    inner : Met
    inner = both (M (in_block w u 0) (Span (span_of u)) false None) (both (M (in_block w u 1) (Many (u ∷ [])) false None) nothing)

    inner_less : Within inner m
    inner_less = into (M (in_block w u 0) (Span (span_of u)) false None) (both (M (in_block w u 1) (Many (u ∷ [])) false None) nothing) m
        (subst (λ (x : Met). Within x m) (sym (span_nothing (in_block w u 0) (span_of u) false None)) (nothing_within m))
        (into (M (in_block w u 1) (Many (u ∷ [])) false None) nothing m
        (subst (λ (x : Met). Within x m) (sym (list_one (in_block w u 1) u false None)) (into (M (in_list w u) u false None) nothing m h (nothing_within m))) (nothing_within m))

    whole : M w (block u) false None ≡ both nothing (enclosed InBlock None inner)
    whole = out_is w (block u) (Node-F.Tree kind.BlockStmt (Span (span_of u) ∷ Many (u ∷ []) ∷ [])) false None (outs-Tree kind.BlockStmt (Span (span_of u) ∷ Many (u ∷ []) ∷ []))
        ∙ ap (λ r. both nothing (in_scope (body_kind false (option_and_then kind_of (block_scope r))) None inner)) e

abbrev Answers : Node → Type 0
Answers t = (w : Place) → Less w (B t) t

-- a branch
branch_less : (w : Place) (c : Node) → w.standing ≡ standing.Branch → Answers c → Within (M w (branch (B c)) false None) (M w c false None)
branch_less w c e h = by (takes_else (B c))
  where
    same : M (in_list w (B c)) c false None ≡ M w c false None
    same = ap (λ (m : Meeting). m false None) (placed c (in_list w (B c)) w (sym (ap sort e)))

    by : (b : Bool) → Within (M w (cond b (block (B c)) (B c)) false None) (M w c false None)
    by true = block_less w (B c) (M w c false None) e (subst (Within (M (in_list w (B c)) (B c) false None)) same (h (in_list w (B c)) false None))
    by false = h w false None

each_less : (ps : ℕ → Place) (b : ℕ → Bool) (r : ℕ → Option Ident) (ts : List Node) → Each Answers ts → AllLess ps b r (map B ts) ts
each_less ps b r [] l = tt
each_less ps b r (t ∷ ts) l = (l.0 (ps zero) (b zero) (r zero), each_less (λ i. ps (suc i)) (λ i. b (suc i)) (λ i. r (suc i)) ts l.1)

fields_each : (w : Place) (k : Kind) (ts : List Node) → Each Answers ts → FieldsLess w k (map B ts) ts
fields_each w k ts l = each_less (place_in w (Node-F.Tree k ts)) (λ i. is_for_body (Node-F.Tree k ts) i) (λ i. own_name_below k ts i) ts l

fields_less : (w : Place) (k : Kind) (ts : List Node) → Each Answers ts → FieldsLess w k (block_fields k (map B ts)) ts
fields_less w kind.IfStmt (s ∷ t ∷ c ∷ a ∷ []) l =
    let at = place_in w (Node-F.Tree kind.IfStmt (s ∷ t ∷ c ∷ a ∷ [])) in
    (l.0 (at 0) false None, (l.1.0 (at 1) false None, (branch_less (at 2) c refl l.1.1.0, (l.1.1.1.0 (at 3) false None, tt))))
fields_less w kind.IfStmt [] l = fields_each w kind.IfStmt [] l
fields_less w kind.IfStmt (s ∷ []) l = fields_each w kind.IfStmt (s ∷ []) l
fields_less w kind.IfStmt (s ∷ t ∷ []) l = fields_each w kind.IfStmt (s ∷ t ∷ []) l
fields_less w kind.IfStmt (s ∷ t ∷ c ∷ []) l = fields_each w kind.IfStmt (s ∷ t ∷ c ∷ []) l
fields_less w kind.IfStmt (s ∷ t ∷ c ∷ a ∷ b ∷ ts) l = fields_each w kind.IfStmt (s ∷ t ∷ c ∷ a ∷ b ∷ ts) l
fields_less w k ts l = fields_each w k ts l

pub blocks_less : (t : Node) → Answers t
blocks_less t = by_children Answers (
  λ w f own. within_is _ _ (ap (λ t. M w t f own) (search (rules, the_lemmas))),
  λ x w f own. within_is _ _ (ap (λ t. M w t f own) (search (rules, the_lemmas))),
  λ v w f own. within_is _ _ (ap (λ t. M w t f own) (search (rules, the_lemmas))),
  λ x w f own. within_is _ _ (ap (λ t. M w t f own) (search (rules, the_lemmas))),
  λ s w f own. within_is _ _ (ap (λ t. M w t f own) (search (rules, the_lemmas))),
  λ k i w f own. within_is _ _ (ap (λ t. M w t f own) (search (rules, the_lemmas))),
)
    (λ ts l w f own. subst (λ t. Within (M w t f own) (M w (Many ts) f own)) (sym (blocks_of_list ts)) (list_less w (map B ts) ts (item_is w ts) (each_less (place_in w (Node-F.List ts)) no_body no_own ts l) f own))
    (λ k ts l w f own. subst (λ t. Within (M w t f own) (M w (Tree k ts) f own)) (sym (blocks_fields k ts)) (tree_less w k (block_fields k (map B ts)) ts (alike w k ts) (fields_less w k ts l) f own)) t

pub blocks_add_no_pairs : BlocksAddNoPairs
blocks_add_no_pairs t none z h = pairs_within (met (with_blocks t)) (met t) (blocks_less t program_place false None) none z h
