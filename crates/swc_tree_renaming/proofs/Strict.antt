-- In a module all code is strict, and no function is declared outside of its block.
use Rattle.std.proofs.Common.{◌≡◌, ◌≢◌, ℕ, zero, suc, Bool, true, false, ◌&&◌, ◌||◌, not, Option, Some, None, List, [], ◌∷◌, refl, sym, ap, ◌∙◌, subst, cond}
use Rattle.std.specs.List.{slice_get}
use Rattle.swc_tree_node.specs.declared.kind.Kind.{Kind}
use Rattle.swc_tree_node.specs.declared.kind.Kind.TheVariants as kind
use Rattle.swc_tree_node.specs.declared.slot.Role.{Role}
use Rattle.swc_tree_node.specs.declared.slot.Role.TheVariants as role
use Rattle.swc_tree_node.specs.declared.node.Node.{Node, out-Node}
use Rattle.swc_tree_node.specs.declared.node.Node.TheOpen.{Node-F}
use Rattle.swc_tree_scoping.specs.declared.places.Standing.{Standing}
use Rattle.swc_tree_scoping.specs.declared.places.Standing.TheVariants as standing
use Rattle.swc_tree_scoping.specs.declared.places.Place.{Place}
use Rattle.swc_tree_node.specs.declared.kind.Word.{Word}
use Rattle.swc_tree_node.specs.declared.kind.Word.TheVariants as word
use Rattle.swc_tree_scoping.specs.Places.{Path, children_in, child, program_place, by_word, keyword_in, by_keyword, own_block, function_standing, own_name, plain_standing, is_plain_function, is_there, field_role, standing_below, place_in, place_below, given, place_at, part_standing, binds_patterns, is_identifier_expression}
use Rattle.swc_tree_renaming.proofs.Shape.{some_same}

abbrev NotSloppy : Standing → Type 0
NotSloppy r = r ≢ standing.SloppyFunction

plain_apart : NotSloppy standing.Plain
plain_apart e = absurd (cc)

lexical_apart : NotSloppy standing.Lexical
lexical_apart e = absurd (cc)

-- a part of what stands so is a reference or stands so
chosen_apart : (b : Bool) (r : Standing) → NotSloppy r → NotSloppy (cond b standing.Reference r)
chosen_apart true r h = λ e. absurd (cc)
chosen_apart false r h = h

part_apart : (r : Standing) (o : Option Node) → NotSloppy r → NotSloppy (part_standing r o)
part_apart r o h = chosen_apart (binds_patterns r && is_identifier_expression o) r h

words_apart : (w : Word) → NotSloppy (by_word w)
words_apart word.Var e = absurd (cc)
words_apart _ e = absurd (cc)

keyword_apart : (y : Node-F Node) (rest : Standing) → NotSloppy rest → NotSloppy (keyword_in y rest)
keyword_apart (Node-F.Word w) rest h = words_apart w
keyword_apart Node-F.Absent rest h = h
keyword_apart _ rest h = h

keywords_apart : (ts : List Node) → NotSloppy (by_keyword ts)
keywords_apart [] = lexical_apart
keywords_apart (t ∷ ts) = keyword_apart (out-Node t) (by_keyword ts) (keywords_apart ts)

functions_apart : (b plain : Bool) → NotSloppy (cond b standing.Function (cond (false && plain) standing.SloppyFunction standing.BlockFunction))
functions_apart true plain e = absurd (cc)
functions_apart false plain e = absurd (cc)

function_apart : (w : Place) (plain : Bool) → w.strict ≡ true → NotSloppy (function_standing w plain)
function_apart w plain s =
    subst (λ b. NotSloppy (cond (not (w.nested || own_block w)) standing.Function (cond (not b && plain) standing.SloppyFunction standing.BlockFunction))) (sym s)
    (functions_apart (not (w.nested || own_block w)) plain)

-- by the standing alone, then by the kind: both at once have some 2,500 cases
default_apart : (k : Kind) → NotSloppy (own_name standing.DefaultExport k)
default_apart kind.FnExpr e = absurd (cc)
default_apart _ e = absurd (cc)

expression_apart : (k : Kind) → NotSloppy (own_name standing.Plain k)
expression_apart kind.FnExpr e = absurd (cc)
expression_apart _ e = absurd (cc)

own_apart : (r : Standing) (k : Kind) → NotSloppy (own_name r k)
own_apart standing.DefaultExport k = default_apart k
own_apart _ k = expression_apart k

branch_apart : (b : Bool) → NotSloppy (cond b standing.Branch standing.Plain)
branch_apart true e = absurd (cc)
branch_apart false e = absurd (cc)

export_apart : (b : Bool) → NotSloppy (cond b standing.DefaultExport standing.Plain)
export_apart true e = absurd (cc)
export_apart false e = absurd (cc)

plains_apart : (k : Kind) (i : ℕ) → NotSloppy (plain_standing k i)
plains_apart kind.IfStmt i = branch_apart _
plains_apart kind.ExportDefaultDecl i = export_apart _
plains_apart _ i = plain_apart

list_apart : (b : Bool) → NotSloppy (cond b standing.Imported standing.Reference)
list_apart true e = absurd (cc)
list_apart false e = absurd (cc)

below_apart : (w : Place) (k : Kind) (ts : List Node) (i : ℕ) (r : Role) → w.strict ≡ true → NotSloppy w.standing → NotSloppy (standing_below w k ts i r)
below_apart w k ts i role.Plain s h = plains_apart k i
below_apart w k ts i role.Inherited s h = part_apart w.standing (slice_get ts i) h
below_apart w k ts i role.Parameter s h = part_apart standing.Parameter (slice_get ts i) (λ e. absurd (cc))
below_apart w k ts i role.Catch s h = part_apart standing.CatchParameter (slice_get ts i) (λ e. absurd (cc))
below_apart w k ts i role.Declared s h = keywords_apart ts
below_apart w k ts i role.Function s h = function_apart w (is_plain_function (slice_get ts 1)) s
below_apart w k ts i role.OwnName s h = own_apart w.standing k
below_apart w k ts i role.ExportLocal s h = list_apart (is_there (slice_get ts 2))
below_apart w k ts i _ s h = λ e. absurd (cc)

or_true : (a b : Bool) → a ≡ true → (a || b) ≡ true
or_true true b h = refl
or_true false b h = absurd (cc)

-- below strict code all is strict
strict_below : (p : Path) (w v : Place) (t c : Node) → w.strict ≡ true → NotSloppy w.standing → place_at w t p ≡ Some (v, c) → NotSloppy v.standing
strict_below [] w v t c s h e = let same : w ≡ v = ap (λ (q : Place × Node). q.0) (some_same (w, t) (v, c) e) in subst (λ (z : Place). NotSloppy z.standing) same h
strict_below (i ∷ p) w v t c s h e = at (out-Node t) refl (child t i) refl e (λ u z. strict_below p u v z c)
  where
    at : (y : Node-F Node) → out-Node t ≡ y → (o : Option Node) → child t i ≡ o → given o None (λ d. place_at (place_below w t i) d p) ≡ Some (v, c)
        → ((u : Place) (z : Node) → u.strict ≡ true → NotSloppy u.standing → place_at u z p ≡ Some (v, c) → NotSloppy v.standing) → NotSloppy v.standing
    at y o None n g below = absurd (cc)
    at (Node-F.List ts) o (Some d) n g below = below (place_below w t i) d (ap (λ y. (place_in w y i).strict) o ∙ s) (subst (λ y. NotSloppy (place_in w y i).standing) (sym o) (part_apart w.standing (slice_get ts i) h)) g
    at (Node-F.Tree k ts) o (Some d) n g below =
        below (place_below w t i) d (ap (λ y. (place_in w y i).strict) o ∙ or_true w.strict _ s)
        (subst (λ y. NotSloppy (place_in w y i).standing) (sym o) (below_apart w k ts i (field_role k i) s h)) g
    at Node-F.Absent o (Some d) n g below = let z : Some d ≡ None = sym n ∙ ap (λ y. slice_get (children_in y) i) o in absurd (cc)
    at (Node-F.Flag x) o (Some d) n g below = let z : Some d ≡ None = sym n ∙ ap (λ y. slice_get (children_in y) i) o in absurd (cc)
    at (Node-F.Word x) o (Some d) n g below = let z : Some d ≡ None = sym n ∙ ap (λ y. slice_get (children_in y) i) o in absurd (cc)
    at (Node-F.Text x) o (Some d) n g below = let z : Some d ≡ None = sym n ∙ ap (λ y. slice_get (children_in y) i) o in absurd (cc)
    at (Node-F.Span x) o (Some d) n g below = let z : Some d ≡ None = sym n ∙ ap (λ y. slice_get (children_in y) i) o in absurd (cc)
    at (Node-F.Identifier k x) o (Some d) n g below = let z : Some d ≡ None = sym n ∙ ap (λ y. slice_get (children_in y) i) o in absurd (cc)

-- the parts of a module are plain
module_part : (ts : List Node) (i : ℕ) → NotSloppy (standing_below program_place kind.Module ts i (field_role kind.Module i))
module_part ts zero = λ e. absurd (cc)
module_part ts (suc zero) = λ e. absurd (cc)
module_part ts (suc (suc zero)) = λ e. absurd (cc)
module_part ts (suc (suc (suc i))) = λ e. absurd (cc)

pub no_sloppy_in_modules : (t : Node) (ts : List Node) → out-Node t ≡ Node-F.Tree kind.Module ts → (p : Path) (v : Place) (c : Node) → place_at program_place t p ≡ Some (v, c) → NotSloppy v.standing
no_sloppy_in_modules t ts o [] v c e = let same : program_place ≡ v = ap (λ (q : Place × Node). q.0) (some_same (program_place, t) (v, c) e) in subst (λ (z : Place). NotSloppy z.standing) same plain_apart
no_sloppy_in_modules t ts o (i ∷ p) v c e = at (child t i) refl e
  where
    at : (d : Option Node) → child t i ≡ d → given d None (λ d. place_at (place_below program_place t i) d p) ≡ Some (v, c) → NotSloppy v.standing
    at None n g = absurd (cc)
    at (Some d) n g =
        strict_below p (place_below program_place t i) v d c (ap (λ y. (place_in program_place y i).strict) o) (subst (λ y. NotSloppy (place_in program_place y i).standing) (sym o) (module_part ts i)) g
