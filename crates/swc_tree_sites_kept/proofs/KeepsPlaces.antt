-- Where a tree that is settled in one place is settled in another too, and what may stand in its stead.
use Rattle.std.proofs.Common.{◌≡◌, ℕ, zero, suc, Bool, true, false, not, ◌&&◌, ◌||◌, ⊎_elim, Option, Some, None, List, [], ◌∷◌, refl, sym, ap, ◌∙◌, subst, cond, true≢false}
use Rattle.std.specs.List.{list_all, list_any, slice_get}
use Rattle.std.specs.Prelude.{unwrap_or, option_map}
use Rattle.swc_tree_marks.specs.declared.ident.Ident.{Ident}
use Rattle.swc_tree_marks.specs.declared.span.Span.{Span as Range}
use Rattle.swc_tree_node.specs.declared.kind.Kind.{Kind}
use Rattle.swc_tree_node.specs.declared.kind.Kind.TheVariants as kind
use Rattle.swc_tree_node.specs.declared.kind.Word.{Word as Word'}
use Rattle.swc_tree_node.specs.declared.slot.Role.{Role}
use Rattle.swc_tree_node.specs.declared.slot.Role.TheVariants as role
use Rattle.swc_tree_node.specs.declared.node.Node.{Node, Absent, Flag, Word, Text, Span, List as Many, Identifier, Tree, out-Node}
use Rattle.swc_tree_node.specs.declared.node.Node.TheOpen.{Node-F}
use Rattle.swc_tree_node.specs.declared.node.Node.TheVariants.{outs-Absent, outs-Flag, outs-Word, outs-Text, outs-Span, outs-List, outs-Identifier, outs-Tree, rolls-List}
use Rattle.swc_tree_node.specs.declared.fields.statements.fn_decl.TheConstants as fn_decl
use Rattle.swc_tree_node.specs.Table.{fields_of}
use Rattle.swc_tree_scoping.specs.declared.places.Standing.{Standing}
use Rattle.swc_tree_scoping.specs.declared.places.Standing.TheVariants as standing
use Rattle.swc_tree_scoping.specs.declared.places.Place.{Place}
use Rattle.swc_tree_scoping.specs.declared.places.Scope.{Scope}
use Rattle.swc_tree_scoping.specs.declared.places.Scope.TheVariants as scope
use Rattle.swc_tree_scoping.specs.declared.places.View.{View}
use Rattle.swc_tree_scoping.specs.declared.places.View.TheVariants as view
use Rattle.swc_tree_scoping.specs.Places.{binds_patterns, block_scope, by_keyword, children_in, field_role, has_own_name, is_branch, is_identifier_expression, is_inside, is_plain_function, is_strict, is_there, name_scope, named, nested_below, nests, opened_as, own_block, own_name, part_standing, place_in, plain_standing, standing_below, view_from}
use Rattle.swc_tree_scoping.specs.Folds.{each_in}
use Rattle.swc_tree_scoping.proofs.Under.{fold_in_place_out}
use Rattle.swc_tree_scoping.proofs.Remarked.{rolled}
use Rattle.swc_tree_grammar.specs.Shapes.{items_in, items_of}
use Rattle.swc_tree_grammar.proofs.Induction.{Each, by_children}
use Rattle.swc_tree_grammar_laws.proofs.Levelled.{also, half}
use Rattle.swc_tree_sites.proofs.Leaves.{Field}
use Rattle.swc_tree_sites.proofs.Pending.{keyword_cases}
use Rattle.swc_tree_sites_kept.specs.Settled.{is_loose_in, is_settled, settled_step}

abbrev pub Z : Place → Node → Bool
Z = is_settled

-- ---- what of a standing matters: that of a branch, and that of a function's body

abbrev pub mark : Standing → Option Bool
mark standing.Branch = Some true
mark standing.Body = Some false
mark _ = None

-- what has the one mark is a branch only if what has the other is, and a body if that is
pub record Suits (a b : Option Bool) : Type 0 where
  pub branch : a ≡ Some true → b ≡ Some true
  pub body : b ≡ Some false → a ≡ Some false

pub suits_same : (a : Option Bool) → Suits a a
suits_same a = record { branch = λ e. e; body = λ e. e }

-- a place at least as strict as another, and nested only if that one is
pub record Calmer (v u : Place) : Type 0 where
  pub strict : u.strict ≡ true → v.strict ≡ true
  pub nested : v.nested ≡ true → u.nested ≡ true

pub calmer_same : (v : Place) → Calmer v v
calmer_same v = record { strict = λ e. e; nested = λ e. e }

abbrev is_inherited : Role → Bool
is_inherited role.Inherited = true
is_inherited _ = false

abbrev inherits : List Field → Bool
inherits fs = list_any (λ f. is_inherited f.2) fs

abbrev shows : Kind → Bool
shows kind.BlockStmt = true
shows kind.FnDecl = true
shows _ = false

-- the standing of the whole shows in the node or below it
abbrev pub is_shown : Kind → Bool
is_shown k = shows k || inherits (fields_of k)

or_right : (a b : Bool) → b ≡ true → (a || b) ≡ true
or_right true b h = refl
or_right false b h = h

pub or_left : (a b : Bool) → a ≡ true → (a || b) ≡ true
or_left true b h = refl
or_left false b h = absurd (cc)

inherited_at : (fs : List Field) (i : ℕ) → is_inherited (unwrap_or (option_map (λ f. f.2) (slice_get fs i)) role.Plain) ≡ true → inherits fs ≡ true
inherited_at [] i h = absurd (cc)
inherited_at (f ∷ fs) zero h = or_left (is_inherited f.2) (inherits fs) h
inherited_at (f ∷ fs) (suc i) h = or_right (is_inherited f.2) (inherits fs) (inherited_at fs i h)

pub hidden : (a b : Bool) → (not a || not b) ≡ true → a ≡ true → b ≡ false
hidden true true h e = absurd (cc)
hidden true false h e = refl
hidden false b h e = absurd (cc)

-- ---- the marks below a node

bound_mark : (p : Standing) → binds_patterns p ≡ true → mark p ≡ None
bound_mark standing.Branch h = absurd (cc)
bound_mark standing.Body h = absurd (cc)
bound_mark standing.Plain h = refl
bound_mark _ h = refl

pub part_mark : (p : Standing) (o : Option Node) → mark (part_standing p o) ≡ mark p
part_mark p o = at (binds_patterns p) (is_identifier_expression o) refl
  where
    at : (b c : Bool) → binds_patterns p ≡ b → mark (cond (b && c) standing.Reference p) ≡ mark p
    at true true e = sym (bound_mark p e)
    at true false e = refl
    at false c e = refl

keyword_mark : (ts : List Node) → mark (by_keyword ts) ≡ None
keyword_mark ts = ⊎_elim (λ e. ap mark e) (λ e. ap mark e) (keyword_cases ts)

function_mark : (a b : Bool) → mark (cond a standing.Function (cond b standing.SloppyFunction standing.BlockFunction)) ≡ None
function_mark true b = refl
function_mark false true = refl
function_mark false false = refl

-- by the standing alone, then by the kind: both at once have some 2,500 cases
name_mark_of_default : (k : Kind) → mark (own_name standing.DefaultExport k) ≡ None
name_mark_of_default kind.FnExpr = refl
name_mark_of_default _ = refl

name_mark_of_expression : (k : Kind) → mark (own_name standing.Plain k) ≡ None
name_mark_of_expression kind.FnExpr = refl
name_mark_of_expression _ = refl

name_mark : (p : Standing) (k : Kind) → mark (own_name p k) ≡ None
name_mark standing.DefaultExport k = name_mark_of_default k
name_mark _ k = name_mark_of_expression k

local_mark : (b : Bool) → mark (cond b standing.Imported standing.Reference) ≡ None
local_mark true = refl
local_mark false = refl

abbrev pub mark_by : Option Bool → Kind → ℕ → Role → Option Bool
mark_by m k i role.Plain = mark (plain_standing k i)
mark_by m k i role.Inherited = m
mark_by m k i role.FunctionBody = Some false
mark_by m k i _ = None

pub mark_below : (w : Place) (k : Kind) (ts : List Node) (i : ℕ) (x : Role) → mark (standing_below w k ts i x) ≡ mark_by (mark w.standing) k i x
mark_below w k ts i role.Plain = refl
mark_below w k ts i role.Inherited = part_mark w.standing (slice_get ts i)
mark_below w k ts i role.FunctionBody = refl
mark_below w k ts i role.Declared = keyword_mark ts
mark_below w k ts i role.Function = function_mark (not (w.nested || own_block w)) (not w.strict && is_plain_function (slice_get ts fn_decl.FUNCTION))
mark_below w k ts i role.OwnName = name_mark w.standing k
mark_below w k ts i role.Parameter = part_mark standing.Parameter (slice_get ts i)
mark_below w k ts i role.Catch = part_mark standing.CatchParameter (slice_get ts i)
mark_below w k ts i role.ExportLocal = local_mark (is_there (slice_get ts 2))
mark_below w k ts i role.Reference = refl
mark_below w k ts i _ = refl

suits_by : (a b : Option Bool) (k : Kind) (i : ℕ) (x : Role) → (is_inherited x ≡ true → Suits a b) → Suits (mark_by a k i x) (mark_by b k i x)
suits_by a b k i role.Inherited h = h refl
suits_by a b k i role.Plain h = suits_same (mark (plain_standing k i))
suits_by a b k i role.FunctionBody h = suits_same (Some false)
suits_by a b k i role.Reference h = suits_same None
suits_by a b k i _ h = suits_same None

-- two places in which a node may stand, where its standing matters only if it shows
abbrev pub Meets : Kind → Place → Place → Type 0
Meets k v u = is_shown k ≡ true → Suits (mark v.standing) (mark u.standing)

pub suits_below : (v u : Place) (k : Kind) (ts us : List Node) (i : ℕ) → Meets k v u → Suits (mark (place_in v (Node-F.Tree k us) i).standing) (mark (place_in u (Node-F.Tree k ts) i).standing)
suits_below v u k ts us i m =
    subst (λ a. Suits a (mark (standing_below u k ts i (field_role k i)))) (sym (mark_below v k us i (field_role k i)))
    (subst (λ b. Suits (mark_by (mark v.standing) k i (field_role k i)) b) (sym (mark_below u k ts i (field_role k i)))
    (suits_by (mark v.standing) (mark u.standing) k i (field_role k i) (λ e. m (or_right (shows k) (inherits (fields_of k)) (inherited_at (fields_of k) i e)))))

-- ---- what is nested below a node

nests_more : (s : Scope) (n m : Bool) → (n ≡ true → m ≡ true) → nests s n ≡ true → nests s m ≡ true
nests_more scope.Block n m h e = refl
nests_more scope.Switch n m h e = refl
nests_more scope.Catch n m h e = refl
nests_more scope.For n m h e = h e
nests_more scope.FunctionName n m h e = h e
nests_more scope.ClassName n m h e = h e
nests_more _ n m h e = absurd (cc)

below_more : (o : Option Scope) (v : View) (n m : Bool) → (n ≡ true → m ≡ true) → nested_below n o v ≡ true → nested_below m o v ≡ true
below_more None v n m h e = h e
below_more (Some s) view.Outside n m h e = h e
below_more (Some s) view.Parameters n m h e = nests_more s n m h e
below_more (Some s) view.Whole n m h e = nests_more s n m h e

name_nested : (p : Standing) (b n : Bool) (s : Scope) (v : View) → nests s n ≡ n → nested_below n (name_scope p b s) v ≡ n
name_nested standing.DefaultExport b n s v h = refl
name_nested standing.Plain false n s v h = refl
name_nested standing.Plain true n s view.Outside h = refl
name_nested standing.Plain true n s view.Parameters h = h
name_nested standing.Plain true n s view.Whole h = h
name_nested _ false n s v h = refl
name_nested _ true n s view.Outside h = refl
name_nested _ true n s view.Parameters h = h
name_nested _ true n s view.Whole h = h

abbrev pub block_by : Option Bool → Option Scope
block_by (Some false) = None
block_by _ = Some scope.Block

pub block_mark : (p : Standing) → block_scope p ≡ block_by (mark p)
block_mark standing.Body = refl
block_mark standing.Branch = refl
block_mark standing.Plain = refl
block_mark _ = refl

block_more : (a b : Option Bool) (v : View) (n m : Bool) → Suits a b → (n ≡ true → m ≡ true) → nested_below n (block_by a) v ≡ true → nested_below m (block_by b) v ≡ true
block_more a (Some false) v n m s h e = h (ap (λ a. nested_below n (block_by a) v) (sym (s.body refl)) ∙ e)
block_more a None view.Parameters n m s h e = refl
block_more a None view.Whole n m s h e = refl
block_more a (Some true) view.Parameters n m s h e = refl
block_more a (Some true) view.Whole n m s h e = refl
block_more (Some false) None view.Outside n m s h e = h e
block_more (Some true) None view.Outside n m s h e = h e
block_more None None view.Outside n m s h e = h e
block_more (Some false) (Some true) view.Outside n m s h e = h e
block_more (Some true) (Some true) view.Outside n m s h e = h e
block_more None (Some true) view.Outside n m s h e = h e

named_more : (a b : Bool) (v : View) (n m : Bool) → (a ≡ true → b ≡ true) → (n ≡ true → m ≡ true) → nested_below n (named a scope.Block) v ≡ true → nested_below m (named b scope.Block) v ≡ true
named_more false false v n m g h e = h e
named_more false true view.Outside n m g h e = h e
named_more false true view.Parameters n m g h e = refl
named_more false true view.Whole n m g h e = refl
named_more true true v n m g h e = below_more (Some scope.Block) v n m h e
named_more true false v n m g h e = absurd (cc (sym (g refl)))

branch_marked : (p : Standing) → is_branch p ≡ true → mark p ≡ Some true
branch_marked standing.Branch h = refl
branch_marked _ h = absurd (cc)

marked_branch : (p : Standing) → mark p ≡ Some true → is_branch p ≡ true
marked_branch standing.Branch h = refl
marked_branch standing.Body h = absurd (cc)
marked_branch standing.Plain h = absurd (cc)
marked_branch _ h = absurd (cc)

still_branch : (p q : Standing) → Suits (mark p) (mark q) → is_branch p ≡ true → is_branch q ≡ true
still_branch p q s h = marked_branch q (s.branch (branch_marked p h))

still_sloppy : (a b : Bool) → (b ≡ true → a ≡ true) → not a ≡ true → not b ≡ true
still_sloppy true b h e = absurd (cc)
still_sloppy false true h e = absurd (cc (sym (h refl)))
still_sloppy false false h e = refl

own_more : (v u : Place) → Calmer v u → Suits (mark v.standing) (mark u.standing) → own_block v ≡ true → own_block u ≡ true
own_more v u c s h = let p = half {a = is_branch v.standing} h in also (still_branch v.standing u.standing s p.0) (still_sloppy v.strict u.strict c.strict p.1)

abbrev pub is_own : Kind → Bool
is_own kind.FnExpr = true
is_own kind.ClassExpr = true
is_own kind.BlockStmt = true
is_own kind.FnDecl = true
is_own _ = false

pub opened_same : (v u : Place) (k : Kind) (a b : Bool) → is_own k ≡ false → opened_as v k a ≡ opened_as u k b
opened_same v u kind.FnExpr a b h = absurd (cc)
opened_same v u kind.ClassExpr a b h = absurd (cc)
opened_same v u kind.BlockStmt a b h = absurd (cc)
opened_same v u kind.FnDecl a b h = absurd (cc)
opened_same v u kind.Module a b h = refl
opened_same v u _ a b h = refl

nested_more : (v u : Place) (k : Kind) (a b : Bool) (x : View) → Calmer v u → Meets k v u → nested_below v.nested (opened_as v k a) x ≡ true → nested_below u.nested (opened_as u k b) x ≡ true
nested_more v u kind.FnExpr a b x c m e = name_nested u.standing b u.nested scope.FunctionName x refl ∙ c.nested (sym (name_nested v.standing a v.nested scope.FunctionName x refl) ∙ e)
nested_more v u kind.ClassExpr a b x c m e = name_nested u.standing b u.nested scope.ClassName x refl ∙ c.nested (sym (name_nested v.standing a v.nested scope.ClassName x refl) ∙ e)
nested_more v u kind.BlockStmt a b x c m e =
    ap (λ o. nested_below u.nested o x) (block_mark u.standing)
    ∙ block_more (mark v.standing) (mark u.standing) x v.nested u.nested (m refl) c.nested (sym (ap (λ o. nested_below v.nested o x) (block_mark v.standing)) ∙ e)
nested_more v u kind.FnDecl a b x c m e = named_more (own_block v) (own_block u) x v.nested u.nested (own_more v u c (m refl)) c.nested e
nested_more v u k a b x c m e = below_more (opened_as u k b) x v.nested u.nested c.nested (ap (λ o. nested_below v.nested o x) (sym (opened_same v u k a b refl)) ∙ e)

strict_more : (a b x c d : Bool) → (b ≡ true → a ≡ true) → (d ≡ true → c ≡ true) → (b || (x && d)) ≡ true → (a || (x && c)) ≡ true
strict_more true b x c d g h e = refl
strict_more false true x c d g h e = absurd (cc (sym (g refl)))
strict_more false false true c d g h e = h e
strict_more false false false c d g h e = absurd (cc)

calmer_below : (v u : Place) (k : Kind) (ts us : List Node) (i : ℕ) → Calmer v u → Meets k v u → (is_strict k ts ≡ true → is_strict k us ≡ true) → Calmer (place_in v (Node-F.Tree k us) i) (place_in u (Node-F.Tree k ts) i)
calmer_below v u k ts us i c m s = record {
  strict = strict_more v.strict u.strict (is_inside (view_from k i)) (is_strict k us) (is_strict k ts) c.strict s;
  nested = nested_more v u k (has_own_name us) (has_own_name ts) (view_from k i) c m;
}

-- ---- opened nodes

abbrev pub AllIn : (ℕ → Place) → List Node → Type 0
AllIn ps ts = list_all (λ b. b) (each_in Z ps ts) ≡ true

settled_out : (w : Place) (t : Node) (y : Node-F Node) → out-Node t ≡ y → Z w t ≡ (not (is_loose_in w y) && list_all (λ b. b) (each_in Z (place_in w y) (children_in y)))
settled_out w t y o = fold_in_place_out settled_step w t ∙ ap (λ y. not (is_loose_in w y) && list_all (λ b. b) (each_in Z (place_in w y) (children_in y))) o

pub not_true : (b : Bool) → not b ≡ true → b ≡ false
not_true true h = absurd (cc)
not_true false h = refl

pub settled_parts : (w : Place) (k : Kind) (ts : List Node) → Z w (Tree k ts) ≡ true → (is_loose_in w (Node-F.Tree k ts) ≡ false) × AllIn (place_in w (Node-F.Tree k ts)) ts
settled_parts w k ts h = let p = half {a = not (is_loose_in w (Node-F.Tree k ts))} (sym (settled_out w (Tree k ts) _ (outs-Tree k ts)) ∙ h) in (not_true (is_loose_in w (Node-F.Tree k ts)) p.0, p.1)

pub settled_from : (w : Place) (k : Kind) (ts : List Node) → is_loose_in w (Node-F.Tree k ts) ≡ false → AllIn (place_in w (Node-F.Tree k ts)) ts → Z w (Tree k ts) ≡ true
settled_from w k ts e h = settled_out w (Tree k ts) _ (outs-Tree k ts) ∙ also (ap not e) h

pub list_out : (w : Place) (ts : List Node) → Z w (Many ts) ≡ list_all (λ b. b) (each_in Z (place_in w (Node-F.List ts)) ts)
list_out w ts = settled_out w (Many ts) _ (outs-List ts)

pub absent_settled : (w : Place) → Z w Absent ≡ true
absent_settled w = settled_out w Absent _ outs-Absent

pub flag_settled : (w : Place) (x : Bool) → Z w (Flag x) ≡ true
flag_settled w x = settled_out w (Flag x) _ (outs-Flag x)

pub word_settled : (w : Place) (x : Word') → Z w (Word x) ≡ true
word_settled w x = settled_out w (Word x) _ (outs-Word x)

pub text_settled : (w : Place) (x : List ℕ) → Z w (Text x) ≡ true
text_settled w x = settled_out w (Text x) _ (outs-Text x)

pub span_settled : (w : Place) (s : Range) → Z w (Span s) ≡ true
span_settled w s = settled_out w (Span s) _ (outs-Span s)

pub name_settled : (w : Place) (k : Kind) (i : Ident) → Z w (Identifier k i) ≡ true
name_settled w k i = settled_out w (Identifier k i) _ (outs-Identifier k i)

-- ---- what keeps what is settled

abbrev pub Keeps : Node → Node → Type 0
Keeps t u = (w v : Place) → Calmer v w → Suits (mark v.standing) (mark w.standing) → Z w t ≡ true → Z v u ≡ true

pub keeps_then : (t u x : Node) → Keeps t u → Keeps u x → Keeps t x
keeps_then t u x f g w v c s h = g v v (calmer_same v) (suits_same (mark v.standing)) (f w v c s h)

abbrev pub AllKeep : List Node → List Node → Type 0
AllKeep [] [] = Unit {0}
AllKeep [] (u ∷ us) = ⊥
AllKeep (t ∷ ts) [] = ⊥
AllKeep (t ∷ ts) (u ∷ us) = Keeps t u × AllKeep ts us

all_keep : (ts us : List Node) → AllKeep ts us → (ps qs : ℕ → Place) → ((i : ℕ) → Calmer (qs i) (ps i)) → ((i : ℕ) → Suits (mark (qs i).standing) (mark (ps i).standing)) → AllIn ps ts → AllIn qs us
all_keep [] [] k ps qs c s h = refl
all_keep [] (u ∷ us) k ps qs c s h = absurd k
all_keep (t ∷ ts) [] k ps qs c s h = absurd k
all_keep (t ∷ ts) (u ∷ us) k ps qs c s h =
    let p = half {a = Z (ps zero) t} h in also (k.0 (ps zero) (qs zero) (c zero) (s zero) p.0) (all_keep ts us k.1 (λ i. ps (suc i)) (λ i. qs (suc i)) (λ i. c (suc i)) (λ i. s (suc i)) p.1)

-- the fields of a node show no function that did not show
abbrev pub Tight : Kind → List Node → List Node → Type 0
Tight k ts us = (w : Place) → is_loose_in w (Node-F.Tree k us) ≡ true → is_loose_in w (Node-F.Tree k ts) ≡ true

loose_more : (a b n m x s r : Bool) → (a ≡ true → b ≡ true) → (n ≡ true → m ≡ true) → (r ≡ true → s ≡ true) → (not s && (a || (n && x))) ≡ true → (not r && (b || (m && x))) ≡ true
loose_more a b n m x true r f g h e = absurd (cc)
loose_more a b n m x false true f g h e = absurd (cc (sym (h refl)))
loose_more true b n m x false false f g h e = or_left b (m && x) (f refl)
loose_more false b true m true false false f g h e = or_right b (m && true) (also (g refl) refl)
loose_more false b true m false false false f g h e = absurd (cc)
loose_more false b false m x false false f g h e = absurd (cc)

loose_calmer : (v u : Place) (k : Kind) (ts : List Node) → Calmer v u → Meets k v u → is_loose_in v (Node-F.Tree k ts) ≡ true → is_loose_in u (Node-F.Tree k ts) ≡ true
loose_calmer v u kind.FnDecl ts c m e =
    loose_more (is_branch v.standing) (is_branch u.standing) v.nested u.nested (is_plain_function (slice_get ts fn_decl.FUNCTION)) v.strict u.strict (still_branch v.standing u.standing (m refl)) c.nested c.strict e
loose_calmer v u kind.LabeledStmt ts c m e = e
loose_calmer v u _ ts c m e = absurd (true≢false (sym e))

not_false : (a b : Bool) → (a ≡ true → b ≡ true) → b ≡ false → a ≡ false
not_false true b f e = absurd (cc (sym e ∙ f refl))
not_false false b f e = refl

-- a node in place of another of its kind
pub tree_moved : (k : Kind) (ts us : List Node) → AllKeep ts us → (is_strict k ts ≡ true → is_strict k us ≡ true) → Tight k ts us → (w v : Place) → Calmer v w → Meets k v w → Z w (Tree k ts) ≡ true → Z v (Tree k us) ≡ true
tree_moved k ts us all s tight w v c m h =
    let p = settled_parts w k ts h in
    settled_from v k us (not_false (is_loose_in v (Node-F.Tree k us)) (is_loose_in w (Node-F.Tree k ts)) (λ e. loose_calmer v w k ts c m (tight v e)) p.0)
    (all_keep ts us all (place_in w (Node-F.Tree k ts)) (place_in v (Node-F.Tree k us)) (λ i. calmer_below v w k ts us i c m s) (λ i. suits_below v w k ts us i m) p.1)

pub tree_keeps : (k : Kind) (ts us : List Node) → AllKeep ts us → (is_strict k ts ≡ true → is_strict k us ≡ true) → Tight k ts us → Keeps (Tree k ts) (Tree k us)
tree_keeps k ts us all s tight w v c m h = tree_moved k ts us all s tight w v c (λ e. m) h

item_calmer : (v w : Place) (ts us : List Node) (i : ℕ) → Calmer v w → Calmer (place_in v (Node-F.List us) i) (place_in w (Node-F.List ts) i)
item_calmer v w ts us i c = record { strict = c.strict; nested = c.nested }

pub item_suits : (v w : Place) (ts us : List Node) (i : ℕ) → Suits (mark v.standing) (mark w.standing) → Suits (mark (place_in v (Node-F.List us) i).standing) (mark (place_in w (Node-F.List ts) i).standing)
item_suits v w ts us i s =
    subst (λ a. Suits a (mark (part_standing w.standing (slice_get ts i)))) (sym (part_mark v.standing (slice_get us i)))
    (subst (λ b. Suits (mark v.standing) b) (sym (part_mark w.standing (slice_get ts i))) s)

pub list_keeps : (ts us : List Node) → AllKeep ts us → Keeps (Many ts) (Many us)
list_keeps ts us all w v c s h =
    list_out v us ∙ all_keep ts us all (place_in w (Node-F.List ts)) (place_in v (Node-F.List us)) (λ i. item_calmer v w ts us i c) (λ i. item_suits v w ts us i s) (sym (list_out w ts) ∙ h)

-- ---- a node keeps itself

each_same : (ts : List Node) → Each (λ t. Keeps t t) ts → AllKeep ts ts
each_same [] h = tt
each_same (t ∷ ts) h = (h.0, each_same ts h.1)

pub same : (t : Node) → Keeps t t
same t = by_children (λ t. Keeps t t) (
  λ w v c s h. absent_settled v,
  λ x w v c s h. flag_settled v x,
  λ x w v c s h. word_settled v x,
  λ x w v c s h. text_settled v x,
  λ x w v c s h. span_settled v x,
  λ k i w v c s h. name_settled v k i,
)
    (λ ts l. list_keeps ts ts (each_same ts l))
    (λ k ts l. tree_keeps k ts ts (each_same ts l) (λ e. e) (λ w e. e)) t

pub all_same : (ts : List Node) → AllKeep ts ts
all_same [] = tt
all_same (t ∷ ts) = (same t, all_same ts)

pub keeps_is : (t u x : Node) → x ≡ u → Keeps t u → Keeps t x
keeps_is t u x e f = subst (λ x. Keeps t x) (sym e) f

-- ---- lists

each_from : (ts : List Node) (ps : ℕ → Place) (w : Place) → ((i : ℕ) → Calmer w (ps i)) → ((i : ℕ) → Suits (mark w.standing) (mark (ps i).standing)) → AllIn ps ts → Each (λ t. Z w t ≡ true) ts
each_from [] ps w c s h = tt
each_from (t ∷ ts) ps w c s h = let p = half {a = Z (ps zero) t} h in (same t (ps zero) w (c zero) (s zero) p.0, each_from ts (λ i. ps (suc i)) w (λ i. c (suc i)) (λ i. s (suc i)) p.1)

each_to : (ts : List Node) (ps : ℕ → Place) (w : Place) → ((i : ℕ) → Calmer (ps i) w) → ((i : ℕ) → Suits (mark (ps i).standing) (mark w.standing)) → Each (λ t. Z w t ≡ true) ts → AllIn ps ts
each_to [] ps w c s h = refl
each_to (t ∷ ts) ps w c s h = also (same t w (ps zero) (c zero) (s zero) h.0) (each_to ts (λ i. ps (suc i)) w (λ i. c (suc i)) (λ i. s (suc i)) h.1)

item_from : (v : Place) (ts : List Node) (i : ℕ) → Suits (mark v.standing) (mark (place_in v (Node-F.List ts) i).standing)
item_from v ts i = subst (λ b. Suits (mark v.standing) b) (sym (part_mark v.standing (slice_get ts i))) (suits_same (mark v.standing))

item_to : (v : Place) (ts : List Node) (i : ℕ) → Suits (mark (place_in v (Node-F.List ts) i).standing) (mark v.standing)
item_to v ts i = subst (λ a. Suits a (mark v.standing)) (sym (part_mark v.standing (slice_get ts i))) (suits_same (mark v.standing))

-- the items of a list stand as the list does
pub list_each : (w : Place) (ts : List Node) → Z w (Many ts) ≡ true → Each (λ t. Z w t ≡ true) ts
list_each w ts h = each_from ts (place_in w (Node-F.List ts)) w (λ i. record { strict = λ e. e; nested = λ e. e }) (item_from w ts) (sym (list_out w ts) ∙ h)

pub each_list : (w : Place) (ts : List Node) → Each (λ t. Z w t ≡ true) ts → Z w (Many ts) ≡ true
each_list w ts h = list_out w ts ∙ each_to ts (place_in w (Node-F.List ts)) w (λ i. record { strict = λ e. e; nested = λ e. e }) (item_to w ts) h

-- a list made of the items of another
pub items_keep : (f : List Node → List Node) → f [] ≡ [] → ((w : Place) (ts : List Node) → Each (λ t. Z w t ≡ true) ts → Each (λ t. Z w t ≡ true) (f ts)) → (t : Node) → Keeps t (Many (f (items_of t)))
items_keep f none each t w v c s h = at (out-Node t) refl
  where
    bare : Z v (Many (f [])) ≡ true
    bare = ap (λ ts. Z v (Many ts)) none ∙ list_out v []

    at : (y : Node-F Node) → out-Node t ≡ y → Z v (Many (f (items_in y))) ≡ true
    at (Node-F.List ts) o = each_list v (f ts) (each v ts (list_each v ts (sym (ap (Z v) (rolled t _ o ∙ rolls-List ts)) ∙ same t w v c s h)))
    at Node-F.Absent o = bare
    at _ o = bare

-- where the standing does not show, it may be any
pub standing_free : (k : Kind) (ts : List Node) → is_shown k ≡ false → (w v : Place) → Calmer v w → Z w (Tree k ts) ≡ true → Z v (Tree k ts) ≡ true
standing_free k ts n w v c h = tree_moved k ts ts (all_same ts) (λ e. e) (λ w e. e) w v c (λ e. absurd (cc (sym n ∙ e))) h
