-- Small trees on which the definitions of places and scopes compute: a drawing is a tree without texts, and what stands
-- where in the tree that it draws is found by plain recursion on the drawing.
use Rattle.std.proofs.Common.{◌≡◌, ℕ, zero, suc, Bool, true, false, not, ◌&&◌, Option, Some, None, List, [], ◌∷◌, ◌++◌, map, refl, sym, ap, ◌∙◌}
use Rattle.std.specs.Prelude.{if◌then◌else◌}
use Rattle.std.specs.List.{slice_get}
use Rattle.std.specs.Option.{option_and_then, option_map}
use Rattle.swc_tree_marks.specs.declared.ident.Ident.{Ident}
use Rattle.swc_tree_node.specs.declared.kind.Kind.{Kind}
use Rattle.swc_tree_node.specs.declared.kind.Kind.TheVariants as kind
use Rattle.swc_tree_node.specs.declared.kind.Word.{Word as Word'}
use Rattle.swc_tree_node.specs.declared.slot.Role.{Role}
use Rattle.swc_tree_node.specs.declared.slot.Role.TheVariants as role
use Rattle.swc_tree_node.specs.declared.node.Node.{Node, Absent, Flag, Word, Span, List as Many, Identifier, Tree, out-Node, map-Node, fold_out-Node}
use Rattle.swc_tree_node.specs.declared.node.Node.TheOpen.{Node-F}
use Rattle.swc_tree_node.specs.declared.node.Node.TheVariants.{rolls-Absent, rolls-Flag, rolls-Word, rolls-Span, rolls-List, rolls-Tree, outs-Absent, outs-Flag, outs-Word, outs-Span, outs-List, outs-Tree, outs-Identifier}
use Rattle.swc_tree_node.specs.declared.fields.functions.arrow_expr.TheConstants as arrow_expr
use Rattle.swc_tree_node.specs.declared.fields.functions.constructor.TheConstants as constructor
use Rattle.swc_tree_node.specs.declared.fields.functions.function.TheConstants as function
use Rattle.swc_tree_node.specs.declared.fields.functions.getter_prop.TheConstants as getter_prop
use Rattle.swc_tree_node.specs.declared.fields.functions.setter_prop.TheConstants as setter_prop
use Rattle.swc_tree_node.specs.declared.fields.leaves.str.TheConstants as str
use Rattle.swc_tree_node.specs.declared.fields.modules.script.TheConstants as script
use Rattle.swc_tree_node.specs.declared.fields.statements.block_stmt.TheConstants as block_stmt
use Rattle.swc_tree_node.specs.declared.fields.statements.expr_stmt.TheConstants as expr_stmt
use Rattle.swc_tree_scoping.specs.declared.places.Standing.{Standing}
use Rattle.swc_tree_scoping.specs.declared.places.Standing.TheVariants as standing
use Rattle.swc_tree_scoping.specs.declared.places.Place.{Place}
use Rattle.swc_tree_scoping.specs.declared.places.Scope.{Scope}
use Rattle.swc_tree_scoping.specs.declared.below.Fields.{Fields}
use Rattle.swc_tree_scoping.specs.Places.{Path, absent_in, binds_patterns, block_in, by_keyword, child, children_in, directive_or, field_role, flag_in, flag_of, function_standing, given, has_use_strict, is_expression_in, is_identifier_expression, is_plain_function, is_strict, is_there, items_in, items_of, keyword_in, literal_in, literal_of, opened, opened_as, opened_in, part_standing, place_at, place_below, place_in, plain_in, program_place, says, statement_in, statements_of, text_in, text_of}
use Rattle.swc_tree_scoping.specs.Below.{field_place, fields_are, standing_by}
use Rattle.swc_tree_scoping.specs.Scopes.{Round, first_that, is_taken, rounds, scope_at, seen_as, taker, view_in}
use Rattle.swc_tree_scoping.specs.Readings.{rename_step, with_identifiers}
use Rattle.swc_tree_scoping.proofs.Children.{fields_below}

mutual
  pub data Drawing : Type 0 where
    none : Drawing
    flag : Bool → Drawing
    word : Word' → Drawing
    span : Drawing
    many : Drawings → Drawing
    name : Kind → Ident → Drawing
    tree : Kind → Drawings → Drawing

  pub data Drawings : Type 0 where
    end : Drawings
    next : Drawing → Drawings → Drawings

abbrev mutual
  pub draw : Drawing → Node
  draw none = Absent
  draw (flag x) = Flag x
  draw (word x) = Word x
  draw span = Span (record { lo = 0; hi = 0 })
  draw (many ds) = Many (draws ds)
  draw (name k i) = Identifier k i
  draw (tree k ds) = Tree k (draws ds)

  pub draws : Drawings → List Node
  draws end = []
  draws (next d ds) = draw d ∷ draws ds

-- one layer of what is drawn
abbrev pub layer : Drawing → Node-F Node
layer none = Node-F.Absent
layer (flag x) = Node-F.Flag x
layer (word x) = Node-F.Word x
layer span = Node-F.Span (record { lo = 0; hi = 0 })
layer (many ds) = Node-F.List (draws ds)
layer (name k i) = Node-F.Identifier k i
layer (tree k ds) = Node-F.Tree k (draws ds)

pub out_draw : (d : Drawing) → out-Node (draw d) ≡ layer d
out_draw none = outs-Absent
out_draw (flag x) = outs-Flag x
out_draw (word x) = outs-Word x
out_draw span = outs-Span (record { lo = 0; hi = 0 })
out_draw (many ds) = outs-List (draws ds)
out_draw (name k i) = outs-Identifier k i
out_draw (tree k ds) = outs-Tree k (draws ds)

-- children
abbrev pub get : Drawings → ℕ → Option Drawing
get end i = None
get (next d ds) zero = Some d
get (next d ds) (suc i) = get ds i

pub get_is : (ds : Drawings) (i : ℕ) → slice_get (draws ds) i ≡ option_map draw (get ds i)
get_is end i = refl
get_is (next d ds) zero = refl
get_is (next d ds) (suc i) = get_is ds i

abbrev pub inner : Drawing → Drawings
inner (many ds) = ds
inner (tree k ds) = ds
inner _ = end

inner_is : (d : Drawing) → children_in (layer d) ≡ draws (inner d)
inner_is none = refl
inner_is (flag x) = refl
inner_is (word x) = refl
inner_is span = refl
inner_is (many ds) = refl
inner_is (name k i) = refl
inner_is (tree k ds) = refl

pub child_is : (d : Drawing) (i : ℕ) → child (draw d) i ≡ option_map draw (get (inner d) i)
child_is d i = ap (λ y. slice_get (children_in y) i) (out_draw d) ∙ ap (λ l. slice_get l i) (inner_is d) ∙ get_is (inner d) i

-- what fields say of one another
abbrev pub there : Option Drawing → Bool
there None = false
there (Some d) = not (absent_in (layer d))

there_is : (o : Option Drawing) → is_there (option_map draw o) ≡ there o
there_is None = refl
there_is (Some d) = ap (λ y. not (absent_in y)) (out_draw d)

pub there_at : (ds : Drawings) (i : ℕ) → is_there (slice_get (draws ds) i) ≡ there (get ds i)
there_at ds i = ap is_there (get_is ds i) ∙ there_is (get ds i)

abbrev flagged : Option Drawing → Bool
flagged None = false
flagged (Some d) = flag_in (layer d)

flagged_is : (o : Option Drawing) → flag_of (option_map draw o) ≡ flagged o
flagged_is None = refl
flagged_is (Some d) = ap flag_in (out_draw d)

flagged_at : (ds : Drawings) (i : ℕ) → flag_of (slice_get (draws ds) i) ≡ flagged (get ds i)
flagged_at ds i = ap flag_of (get_is ds i) ∙ flagged_is (get ds i)

abbrev plain_kind : Kind → Drawings → Bool
plain_kind kind.Function ds = not (flagged (get ds function.IS_GENERATOR)) && not (flagged (get ds function.IS_ASYNC))
plain_kind _ ds = false

plain_kind_is : (k : Kind) (ds : Drawings) → plain_in (Node-F.Tree k (draws ds)) ≡ plain_kind k ds
plain_kind_is kind.Function ds = λ j. not (flagged_at ds function.IS_GENERATOR j) && not (flagged_at ds function.IS_ASYNC j)
plain_kind_is _ ds = refl

abbrev plain_drawn : Drawing → Bool
plain_drawn (tree k ds) = plain_kind k ds
plain_drawn _ = false

plain_drawn_is : (d : Drawing) → plain_in (layer d) ≡ plain_drawn d
plain_drawn_is none = refl
plain_drawn_is (flag x) = refl
plain_drawn_is (word x) = refl
plain_drawn_is span = refl
plain_drawn_is (many ds) = refl
plain_drawn_is (name k i) = refl
plain_drawn_is (tree k ds) = plain_kind_is k ds

abbrev plain : Option Drawing → Bool
plain None = false
plain (Some d) = plain_drawn d

plain_is : (o : Option Drawing) → is_plain_function (option_map draw o) ≡ plain o
plain_is None = refl
plain_is (Some d) = ap plain_in (out_draw d) ∙ plain_drawn_is d

plain_at : (ds : Drawings) (i : ℕ) → is_plain_function (slice_get (draws ds) i) ≡ plain (get ds i)
plain_at ds i = ap is_plain_function (get_is ds i) ∙ plain_is (get ds i)

abbrev keyword : Drawings → Standing
keyword end = standing.Lexical
keyword (next d ds) = keyword_in (layer d) (keyword ds)

keyword_is : (ds : Drawings) → by_keyword (draws ds) ≡ keyword ds
keyword_is end = refl
keyword_is (next d ds) = λ j. keyword_in (out_draw d j) (keyword_is ds j)

-- nothing that is drawn is a directive, since there are no texts
no_text : (d : Drawing) → text_in (layer d) ≡ None
no_text none = refl
no_text (flag x) = refl
no_text (word x) = refl
no_text span = refl
no_text (many ds) = refl
no_text (name k i) = refl
no_text (tree k ds) = refl

no_text_of : (o : Option Drawing) → text_of (option_map draw o) ≡ None
no_text_of None = refl
no_text_of (Some d) = ap text_in (out_draw d) ∙ no_text d

no_literal_kind : (k : Kind) (ds : Drawings) → literal_in (Node-F.Tree k (draws ds)) ≡ None
no_literal_kind kind.Str ds = ap text_of (get_is ds str.VALUE) ∙ no_text_of (get ds str.VALUE)
no_literal_kind _ ds = refl

no_literal : (d : Drawing) → literal_in (layer d) ≡ None
no_literal none = refl
no_literal (flag x) = refl
no_literal (word x) = refl
no_literal span = refl
no_literal (many ds) = refl
no_literal (name k i) = refl
no_literal (tree k ds) = no_literal_kind k ds

no_literal_of : (o : Option Drawing) → literal_of (option_map draw o) ≡ None
no_literal_of None = refl
no_literal_of (Some d) = ap literal_in (out_draw d) ∙ no_literal d

no_string_kind : (k : Kind) (ds : Drawings) → statement_in (Node-F.Tree k (draws ds)) ≡ None
no_string_kind kind.ExprStmt ds = ap literal_of (get_is ds expr_stmt.EXPR) ∙ no_literal_of (get ds expr_stmt.EXPR)
no_string_kind _ ds = refl

no_string : (d : Drawing) → statement_in (layer d) ≡ None
no_string none = refl
no_string (flag x) = refl
no_string (word x) = refl
no_string span = refl
no_string (many ds) = refl
no_string (name k i) = refl
no_string (tree k ds) = no_string_kind k ds

no_directive : (ds : Drawings) → has_use_strict (draws ds) ≡ false
no_directive end = refl
no_directive (next d ds) = ap (λ s. directive_or (option_map says s) (has_use_strict (draws ds))) (ap statement_in (out_draw d) ∙ no_string d)

no_directive_in : (d : Drawing) → has_use_strict (items_in (layer d)) ≡ false
no_directive_in none = refl
no_directive_in (flag x) = refl
no_directive_in (word x) = refl
no_directive_in span = refl
no_directive_in (many ds) = no_directive ds
no_directive_in (name k i) = refl
no_directive_in (tree k ds) = refl

no_directive_of : (o : Option Drawing) → has_use_strict (items_of (option_map draw o)) ≡ false
no_directive_of None = refl
no_directive_of (Some d) = ap (λ y. has_use_strict (items_in y)) (out_draw d) ∙ no_directive_in d

no_directive_at : (ds : Drawings) (i : ℕ) → has_use_strict (items_of (slice_get (draws ds) i)) ≡ false
no_directive_at ds i = ap (λ o. has_use_strict (items_of o)) (get_is ds i) ∙ no_directive_of (get ds i)

block_kind : (k : Kind) (ds : Drawings) → has_use_strict (block_in (Node-F.Tree k (draws ds))) ≡ false
block_kind kind.BlockStmt ds = no_directive_at ds block_stmt.STMTS
block_kind _ ds = refl

block_drawn : (d : Drawing) → has_use_strict (block_in (layer d)) ≡ false
block_drawn none = refl
block_drawn (flag x) = refl
block_drawn (word x) = refl
block_drawn span = refl
block_drawn (many ds) = refl
block_drawn (name k i) = refl
block_drawn (tree k ds) = block_kind k ds

body_of : (o : Option Drawing) → has_use_strict (statements_of (option_map draw o)) ≡ false
body_of None = refl
body_of (Some d) = ap (λ y. has_use_strict (block_in y)) (out_draw d) ∙ block_drawn d

body_at : (ds : Drawings) (i : ℕ) → has_use_strict (statements_of (slice_get (draws ds) i)) ≡ false
body_at ds i = ap (λ o. has_use_strict (statements_of o)) (get_is ds i) ∙ body_of (get ds i)

abbrev strict_kind : Kind → Bool
strict_kind kind.Module = true
strict_kind kind.Class = true
strict_kind _ = false

strict_is : (k : Kind) (ds : Drawings) → is_strict k (draws ds) ≡ strict_kind k
strict_is kind.Script ds = no_directive_at ds script.BODY
strict_is kind.Function ds = body_at ds function.BODY
strict_is kind.ArrowExpr ds = body_at ds arrow_expr.BODY
strict_is kind.Constructor ds = body_at ds constructor.BODY
strict_is kind.GetterProp ds = body_at ds getter_prop.BODY
strict_is kind.SetterProp ds = body_at ds setter_prop.BODY
strict_is _ ds = refl

abbrev fields_drawn : Place → Kind → Drawings → Fields
fields_drawn w k ds = record {
  kind = k;
  whole = w;
  opened = opened_as w k (there (get ds 0));
  strict = strict_kind k;
  keyword = keyword ds;
  function = function_standing w (plain (get ds 1));
  exported = if there (get ds 2) then standing.Imported else standing.Reference;
}

fields_is : (w : Place) (k : Kind) (ds : Drawings) → fields_are w k (draws ds) ≡ fields_drawn w k ds
fields_is w k ds = λ j. record {
  kind = k;
  whole = w;
  opened = opened_as w k (there_at ds 0 j);
  strict = strict_is k ds j;
  keyword = keyword_is ds j;
  function = function_standing w (plain_at ds 1 j);
  exported = if there_at ds 2 j then standing.Imported else standing.Reference;
}

-- places and scopes
abbrev is_expression : Option Drawing → Bool
is_expression None = false
is_expression (Some d) = is_expression_in (layer d)

is_expression_is : (o : Option Drawing) → is_identifier_expression (option_map draw o) ≡ is_expression o
is_expression_is None = refl
is_expression_is (Some d) = ap is_expression_in (out_draw d)

abbrev part_drawn : Standing → Option Drawing → Standing
part_drawn r o = if binds_patterns r && is_expression o then standing.Reference else r

part_is : (r : Standing) (o : Option Drawing) → part_standing r (option_map draw o) ≡ part_drawn r o
part_is r o = ap (λ b. if binds_patterns r && b then standing.Reference else r) (is_expression_is o)

abbrev standing_drawn : Fields → ℕ → Option Drawing → Role → Standing
standing_drawn f i o role.Inherited = part_drawn f.whole.standing o
standing_drawn f i o role.Parameter = part_drawn standing.Parameter o
standing_drawn f i o role.Catch = part_drawn standing.CatchParameter o
standing_drawn f i o r = standing_by f i None r

standing_drawn_is : (f : Fields) (i : ℕ) (o : Option Drawing) (r : Role) → standing_by f i (option_map draw o) r ≡ standing_drawn f i o r
standing_drawn_is f i o role.Inherited = part_is f.whole.standing o
standing_drawn_is f i o role.Parameter = part_is standing.Parameter o
standing_drawn_is f i o role.Catch = part_is standing.CatchParameter o
standing_drawn_is f i o _ = refl

abbrev field_drawn : Fields → Drawings → ℕ → Place
field_drawn f ds i = record (field_place f i None) { standing = standing_drawn f i (get ds i) (field_role f.kind i) }

field_is : (f : Fields) (ds : Drawings) (i : ℕ) → field_place f i (slice_get (draws ds) i) ≡ field_drawn f ds i
field_is f ds i = λ j. record (field_place f i None) { standing = (ap (λ o. standing_by f i o (field_role f.kind i)) (get_is ds i) ∙ standing_drawn_is f i (get ds i) (field_role f.kind i)) j }

abbrev pub place_drawn : Place → Drawing → ℕ → Place
place_drawn w (many ds) i = record w { standing = part_drawn w.standing (get ds i) }
place_drawn w (tree k ds) i = field_drawn (fields_drawn w k ds) ds i
place_drawn w _ i = program_place

place_drawn_is : (w : Place) (d : Drawing) (i : ℕ) → place_in w (layer d) i ≡ place_drawn w d i
place_drawn_is w (many ds) i = ap (λ r. record w { standing = r }) (ap (part_standing w.standing) (get_is ds i) ∙ part_is w.standing (get ds i))
place_drawn_is w (tree k ds) i =
    ap (λ y. place_in w y i) (sym (outs-Tree k (draws ds)))
    ∙ sym (ap (λ f. f i) (fields_below w k (draws ds)))
    ∙ ap (λ f. field_place f i (slice_get (draws ds) i)) (fields_is w k ds)
    ∙ field_is (fields_drawn w k ds) ds i
place_drawn_is w none i = refl
place_drawn_is w (flag x) i = refl
place_drawn_is w (word x) i = refl
place_drawn_is w span i = refl
place_drawn_is w (name k j) i = refl

pub place_is : (w : Place) (d : Drawing) (i : ℕ) → place_below w (draw d) i ≡ place_drawn w d i
place_is w d i = ap (λ y. place_in w y i) (out_draw d) ∙ place_drawn_is w d i

abbrev pub opened_drawn : Place → Drawing → Option Scope
opened_drawn w (tree k ds) = opened_as w k (there (get ds 0))
opened_drawn w _ = None

opened_layer : (w : Place) (d : Drawing) → opened_in w (layer d) ≡ opened_drawn w d
opened_layer w none = refl
opened_layer w (flag x) = refl
opened_layer w (word x) = refl
opened_layer w span = refl
opened_layer w (many ds) = refl
opened_layer w (name k i) = refl
opened_layer w (tree k ds) = ap (opened_as w k) (there_at ds 0)

opened_is : (w : Place) (d : Drawing) → opened w (draw d) ≡ opened_drawn w d
opened_is w d = ap (opened_in w) (out_draw d) ∙ opened_layer w d

abbrev pub drawn_or : {B : Type 0} → Option Drawing → B → (Drawing → B) → B
drawn_or None b f = b
drawn_or (Some d) b f = f d

abbrev pub stands_drawn : Place → Drawing → Path → Option (Place × Drawing)
stands_drawn w d [] = Some (w, d)
stands_drawn w d (i ∷ p) = drawn_or (get (inner d) i) None (λ c. stands_drawn (place_drawn w d i) c p)

abbrev pub as_drawn : Place × Drawing → Place × Node
as_drawn q = (q.0, draw q.1)

pub stands_is : (p : Path) (w : Place) (d : Drawing) → place_at w (draw d) p ≡ option_map as_drawn (stands_drawn w d p)
stands_is [] w d = refl
stands_is (i ∷ p) w d =
    ap (λ o. given o None (λ c. place_at (place_below w (draw d) i) c p)) (child_is d i)
    ∙ ap (λ v. given (option_map draw (get (inner d) i)) None (λ c. place_at v c p)) (place_is w d i)
    ∙ at (place_drawn w d i) (get (inner d) i) (λ c. stands_is p (place_drawn w d i) c)
  where
    at : (v : Place) (o : Option Drawing) → ((c : Drawing) → place_at v (draw c) p ≡ option_map as_drawn (stands_drawn v c p))
        → given (option_map draw o) None (λ c. place_at v c p) ≡ option_map as_drawn (drawn_or o None (λ c. stands_drawn v c p))
    at v None h = refl
    at v (Some c) h = h c

abbrev pub rounds_drawn : Place → Drawing → Path → List Round
rounds_drawn w d [] = []
rounds_drawn w d (i ∷ p) = map (λ s. (i ∷ s.0, s.1)) (drawn_or (get (inner d) i) [] (λ c. rounds_drawn (place_drawn w d i) c p)) ++ seen_as (opened_drawn w d) (view_in (layer d) i)

pub rounds_is : (p : Path) (w : Place) (d : Drawing) → rounds w (draw d) p ≡ rounds_drawn w d p
rounds_is [] w d = refl
rounds_is (i ∷ p) w d =
    ap (λ l. map (λ s. (i ∷ s.0, s.1)) l ++ seen_as (opened w (draw d)) (view_in (out-Node (draw d)) i)) (
    ap (λ o. given o [] (λ c. rounds (place_below w (draw d) i) c p)) (child_is d i)
    ∙ ap (λ v. given (option_map draw (get (inner d) i)) [] (λ c. rounds v c p)) (place_is w d i)
    ∙ at (place_drawn w d i) (get (inner d) i) (λ c. rounds_is p (place_drawn w d i) c)
    )
    ∙ (λ j. map (λ s. (i ∷ s.0, s.1)) (drawn_or (get (inner d) i) [] (λ c. rounds_drawn (place_drawn w d i) c p)) ++ seen_as (opened_is w d j) (view_in (out_draw d j) i))
  where
    at : (v : Place) (o : Option Drawing) → ((c : Drawing) → rounds v (draw c) p ≡ rounds_drawn v c p)
        → given (option_map draw o) [] (λ c. rounds v c p) ≡ drawn_or o [] (λ c. rounds_drawn v c p)
    at v None h = refl
    at v (Some c) h = h c

abbrev pub scope_drawn : Place → Drawing → Path → Option Scope
scope_drawn w d s = option_and_then (λ (q : Place × Drawing). opened_drawn q.0 q.1) (stands_drawn w d s)

pub scope_is : (w : Place) (d : Drawing) (s : Path) → scope_at w (draw d) s ≡ scope_drawn w d s
scope_is w d s = ap (option_and_then (λ (q : Place × Node). opened q.0 q.1)) (stands_is s w d) ∙ at (stands_drawn w d s)
  where
    at : (o : Option (Place × Drawing)) → option_and_then (λ (q : Place × Node). opened q.0 q.1) (option_map as_drawn o) ≡ option_and_then (λ (q : Place × Drawing). opened_drawn q.0 q.1) o
    at None = refl
    at (Some q) = opened_is q.0 q.1

abbrev pub taker_drawn : Standing → Drawing → Path → Option Path
taker_drawn r d p = first_that (λ s. is_taken r (scope_drawn program_place d s.0)) (rounds_drawn program_place d p)

pub taker_is : (r : Standing) (d : Drawing) (p : Path) → taker r (draw d) p ≡ taker_drawn r d p
taker_is r d p = λ j. first_that (λ s. is_taken r (scope_is program_place d s.0 j)) (rounds_is p program_place d j)

-- the same drawing with other identifiers
abbrev mutual
  pub changed : (Ident → Ident) → Drawing → Drawing
  changed f none = none
  changed f (flag x) = flag x
  changed f (word x) = word x
  changed f span = span
  changed f (many ds) = many (all_changed f ds)
  changed f (name k i) = name k (f i)
  changed f (tree k ds) = tree k (all_changed f ds)

  pub all_changed : (Ident → Ident) → Drawings → Drawings
  all_changed f end = end
  all_changed f (next d ds) = next (changed f d) (all_changed f ds)

opens : (f : Ident → Ident) (d : Drawing) → with_identifiers f (draw d) ≡ rename_step f (map-Node Node Node (with_identifiers f) (layer d))
opens f d = fold_out-Node Node (rename_step f) (draw d) ∙ ap (λ y. rename_step f (map-Node Node Node (with_identifiers f) y)) (out_draw d)

mutual
  pub changed_is : (f : Ident → Ident) (d : Drawing) → with_identifiers f (draw d) ≡ draw (changed f d)
  changed_is f none = opens f none ∙ rolls-Absent
  changed_is f (flag x) = opens f (flag x) ∙ rolls-Flag x
  changed_is f (word x) = opens f (word x) ∙ rolls-Word x
  changed_is f span = opens f span ∙ rolls-Span (record { lo = 0; hi = 0 })
  changed_is f (many ds) = opens f (many ds) ∙ rolls-List (map (with_identifiers f) (draws ds)) ∙ ap Many (all_changed_is f ds)
  changed_is f (name k i) = opens f (name k i)
  changed_is f (tree k ds) = opens f (tree k ds) ∙ rolls-Tree k (map (with_identifiers f) (draws ds)) ∙ ap (Tree k) (all_changed_is f ds)

  all_changed_is : (f : Ident → Ident) (ds : Drawings) → map (with_identifiers f) (draws ds) ≡ draws (all_changed f ds)
  all_changed_is f end = refl
  all_changed_is f (next d ds) = λ j. changed_is f d j ∷ all_changed_is f ds j
