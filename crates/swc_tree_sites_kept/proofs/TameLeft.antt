-- A statement that may be the body of a loop or a branch leaves nothing that a block takes.
use Rattle.std.proofs.Common.{◌≡◌, ◌≢◌, ℕ, zero, suc, ◌==◌, ◌⊎◌, Bool, true, false, not, ◌&&◌, ◌||◌, IsTrue, ⊎_elim, inl, inr, Some, None, Option, List, [], ◌∷◌, ◌++◌, map, refl, sym, ap, ◌∙◌, subst, cond, true≢false}
use Rattle.std.specs.List.{filter, list_all, slice_get}
use Rattle.swc_tree_marks.specs.declared.ident.Ident.{Ident}
use Rattle.swc_tree_node.specs.declared.kind.Kind.{Kind}
use Rattle.swc_tree_node.specs.declared.kind.Kind.TheVariants as kind
use Rattle.swc_tree_node.specs.declared.kind.Word.{Word as Word'}
use Rattle.swc_tree_node.specs.declared.kind.Word.TheVariants as word
use Rattle.swc_tree_node.specs.declared.kind.Class.{Class}
use Rattle.swc_tree_node.specs.declared.kind.Class.TheVariants as class
use Rattle.swc_tree_node.specs.declared.kind.WordClass.TheVariants as word_class
use Rattle.swc_tree_node.specs.declared.slot.Content.TheVariants as content
use Rattle.swc_tree_node.specs.declared.slot.Slot.{Slot}
use Rattle.swc_tree_node.specs.declared.slot.Slot.TheVariants as slot
use Rattle.swc_tree_node.specs.declared.node.Node.{Node, Absent, Flag, Word, Text, Span, List as Many, Identifier, Tree, out-Node}
use Rattle.swc_tree_node.specs.declared.node.Node.TheOpen.{Node-F}
use Rattle.swc_tree_node.specs.declared.node.Node.TheVariants.{outs-Absent, outs-Flag, outs-Word, outs-Text, outs-Span, outs-List, outs-Identifier, outs-Tree}
use Rattle.swc_tree_node.specs.Table.{is_identifier, slots_of}
use Rattle.swc_tree_node.specs.Fits.{FieldsFit, Fits, belongs}
use Rattle.swc_tree_node.proofs.Fit.{fits-Word, fits-List, fits-Tree, tree_closes, tree_opens}
use Rattle.swc_tree_scoping.specs.declared.places.Standing.{Standing}
use Rattle.swc_tree_scoping.specs.declared.places.Standing.TheVariants as standing
use Rattle.swc_tree_scoping.specs.declared.places.Place.{Place}
use Rattle.swc_tree_scoping.specs.declared.places.Scope.{Scope}
use Rattle.swc_tree_scoping.specs.declared.places.Scope.TheVariants as scope
use Rattle.swc_tree_scoping.specs.declared.places.View.{View}
use Rattle.swc_tree_scoping.specs.declared.places.View.TheVariants as view
use Rattle.swc_tree_scoping.specs.Places.{block_scope, by_keyword, by_word, has_own_name, is_inside, is_plain_function, keyword_in, opened_as, place_in, view_from}
use Rattle.swc_tree_scoping.specs.Scopes.{is_binding, takes}
use Rattle.swc_tree_scoping.specs.Folds.{each_in}
use Rattle.swc_tree_grammar.specs.Levels.{is_absent, is_absent_in, word_in}
use Rattle.swc_tree_grammar.specs.Forms.{Form, Ordinary, form, form_in, form_of_function, form_of_word, is_body, is_branch, is_using}
use Rattle.swc_tree_grammar.specs.Writable.{all_sound, branch, head, sound_in}
use Rattle.swc_tree_grammar.specs.Blocks.{takes_else, takes_else_step}
use Rattle.swc_tree_grammar.proofs.Asked.{of, sound, sound_tree}
use Rattle.swc_tree_grammar.proofs.Walks.{takes_else_of_tree}
use Rattle.swc_tree_grammar.proofs.Induction.{Each, by_children}
use Rattle.swc_tree_grammar.proofs.Places.{one, wider}
use Rattle.swc_tree_grammar_laws.proofs.Levelled.{also, both, half}
use Rattle.swc_tree_sites.specs.Sites.{Binding, Sites, in_scope, joined, name_sites, pending_where}
use Rattle.swc_tree_sites.specs.Smaller.{In}
use Rattle.swc_tree_sites.proofs.Kept.{S, out_step}
use Rattle.swc_tree_sites.proofs.Leaves.{leaves_slot, may, same}
use Rattle.swc_tree_sites.proofs.Loose.{pends}
use Rattle.swc_tree_sites.proofs.Pending.{apart, keyword_cases, left_fits}
use Rattle.swc_tree_sites_written.specs.Lower.swc_tree_sites_laws.proofs.Expressions.{P, of_identifier}
use Rattle.swc_tree_sites_written.specs.Tame.{is_loose}
use Rattle.swc_tree_sites_kept.proofs.Asked.{code}
use Rattle.swc_tree_sites_kept.proofs.TameSloppy.{Nested, is_around, nested_field, strict_branch}

-- nothing among them is what a block takes; or only what the scope takes too
abbrev loose : List Binding → Bool
loose = list_all (λ b. not (takes b.0 scope.Block))

abbrev kept_by : Scope → Standing → Bool
kept_by s r = not (takes r scope.Block) || takes r s

abbrev kept : Scope → List Binding → Bool
kept s = list_all (λ b. kept_by s b.0)

abbrev Loose : Sites → Type 0
Loose a = loose a.pending ≡ true

abbrev Kept : Scope → Sites → Type 0
Kept s a = kept s a.pending ≡ true

or_false : (a : Bool) → (a || false) ≡ true → a ≡ true
or_false true h = refl
or_false false h = h

not_or : (a : Bool) → (not a || a) ≡ true
not_or true = refl
not_or false = refl

or_right : (a b : Bool) → b ≡ true → (a || b) ≡ true
or_right true b h = refl
or_right false b h = h

or_left : (a b : Bool) → a ≡ true → (a || b) ≡ true
or_left true b h = refl
or_left false b h = absurd (cc)

no : {A : Type 0} → false ≡ true → A
no h = absurd (cc)

all_append : (f : Binding → Bool) (xs ys : List Binding) → list_all f xs ≡ true → list_all f ys ≡ true → list_all f (xs ++ ys) ≡ true
all_append f [] ys h g = g
all_append f (x ∷ xs) ys h g = let z = both (f x) (list_all f xs) h in also z.0 (all_append f xs ys z.1 g)

all_in : (f : Binding → Bool) (xs : List Binding) → ((b : Binding) → In b xs → f b ≡ true) → list_all f xs ≡ true
all_in f [] h = refl
all_in f (x ∷ xs) h = also (h x (inl refl)) (all_in f xs (λ b i. h b (inr i)))

all_more : (f g : Binding → Bool) (xs : List Binding) → ((b : Binding) → f b ≡ true → g b ≡ true) → list_all f xs ≡ true → list_all g xs ≡ true
all_more f g [] m h = refl
all_more f g (x ∷ xs) m h = let z = both (f x) (list_all f xs) h in also (m x z.0) (all_more f g xs m z.1)

keeps : (s : Scope) (a : Sites) → Loose a → Kept s a
keeps s a h = all_more (λ b. not (takes b.0 scope.Block)) (λ b. kept_by s b.0) a.pending (λ b h. or_left (not (takes b.0 scope.Block)) (takes b.0 s) h) h

-- what a scope does not take of what it keeps
filter_loose : (s : Scope) (xs : List Binding) → kept s xs ≡ true → loose (filter (λ b. not (takes b.0 s)) xs) ≡ true
filter_loose s [] h = refl
filter_loose s (b ∷ xs) h = let z = both (kept_by s b.0) (kept s xs) h in at (takes b.0 s) z.0 (filter_loose s xs z.1)
  where
    at : (x : Bool) → (not (takes b.0 scope.Block) || x) ≡ true → loose (filter (λ b. not (takes b.0 s)) xs) ≡ true → loose (cond (not x) (b ∷ filter (λ b. not (takes b.0 s)) xs) (filter (λ b. not (takes b.0 s)) xs)) ≡ true
    at true h e = e
    at false h e = also (or_false (not (takes b.0 scope.Block)) h) e

inside_kept : (s : Scope) (views : ℕ → View) (cs : List Sites) → kept s (joined cs).pending ≡ true → kept s (pending_where is_inside views cs) ≡ true
inside_kept s views [] h = refl
inside_kept s views (a ∷ cs) h =
    let z = parted a.pending h in
    all_append (λ b. kept_by s b.0) (cond (is_inside (views zero)) a.pending []) (pending_where is_inside (λ i. views (suc i)) cs) (at (is_inside (views zero)) z.0) (inside_kept s (λ i. views (suc i)) cs z.1)
  where
    parted : (xs : List Binding) → kept s (xs ++ (joined cs).pending) ≡ true → (kept s xs ≡ true) × (kept s (joined cs).pending ≡ true)
    parted [] h = (refl, h)
    parted (x ∷ xs) h = let z = both (kept_by s x.0) (kept s (xs ++ (joined cs).pending)) h in let y = parted xs z.1 in (also z.0 y.0, y.1)

    at : (x : Bool) → kept s a.pending ≡ true → kept s (cond x a.pending []) ≡ true
    at true h = h
    at false h = refl

-- what a node leaves that opens a scope, and one that opens none
scoped : (s : Scope) (views : ℕ → View) (cs : List Sites) → loose (pending_where (λ v. not (is_inside v)) views cs) ≡ true → kept s (joined cs).pending ≡ true → Loose (in_scope (Some s) views cs)
scoped s views cs h g =
    all_append (λ b. not (takes b.0 scope.Block)) (pending_where (λ v. not (is_inside v)) views cs) (filter (λ b. not (takes b.0 s)) (pending_where is_inside views cs)) h
    (filter_loose s (pending_where is_inside views cs) (inside_kept s views cs g))

abbrev AllLoose : List Sites → Type 0
AllLoose [] = Unit {0}
AllLoose (a ∷ cs) = Loose a × AllLoose cs

abbrev AllKept : Scope → List Sites → Type 0
AllKept s [] = Unit {0}
AllKept s (a ∷ cs) = Kept s a × AllKept s cs

unscoped : (cs : List Sites) → AllLoose cs → Loose (joined cs)
unscoped [] h = refl
unscoped (a ∷ cs) h = all_append (λ b. not (takes b.0 scope.Block)) a.pending (joined cs).pending h.0 (unscoped cs h.1)

all_kept : (s : Scope) (cs : List Sites) → AllKept s cs → kept s (joined cs).pending ≡ true
all_kept s [] h = refl
all_kept s (a ∷ cs) h = all_append (λ b. kept_by s b.0) a.pending (joined cs).pending h.0 (all_kept s cs h.1)

-- scopes that take all that a block does
abbrev takes_it : Scope → Type 0
takes_it s = (r : Standing) → kept_by s r ≡ true

surely : (s : Scope) → takes_it s → (xs : List Binding) → kept s xs ≡ true
surely s h xs = all_in (λ b. kept_by s b.0) xs (λ b i. h b.0)

block_takes : takes_it scope.Block
block_takes r = not_or (takes r scope.Block)

switch_takes : takes_it scope.Switch
switch_takes standing.Plain = refl
switch_takes _ = refl

catch_takes : takes_it scope.Catch
catch_takes standing.Plain = refl
catch_takes _ = refl

-- where nothing is bound
abbrev is_inert : Standing → Bool
is_inert standing.Plain = true
is_inert standing.Reference = true
is_inert standing.Branch = true
is_inert standing.Label = true
is_inert _ = false

inert_binds : (p : Standing) → is_inert p ≡ true → is_binding p ≡ false
inert_binds standing.Plain h = refl
inert_binds standing.Reference h = refl
inert_binds standing.Branch h = refl
inert_binds standing.Label h = refl
inert_binds _ h = absurd (cc)

inert_default : (p : Standing) → is_inert p ≡ true → p ≢ standing.DefaultExport
inert_default standing.Plain h e = absurd (cc)
inert_default standing.Reference h e = absurd (cc)
inert_default standing.Branch h e = absurd (cc)
inert_default standing.Label h e = absurd (cc)
inert_default _ h e = absurd (cc)

-- what leaves only what stands as it does
abbrev IsQuiet : Slot → Type 0
IsQuiet s = (r : Standing) → may (leaves_slot s) false r ≡ false

nothing_left : (s : Slot) → IsQuiet s → (p : Standing) (n : Bool) (t : Node) → is_inert p ≡ true → Fits t s → Loose (S (P p n) t)
nothing_left s q p n t h f = all_in (λ b. not (takes b.0 scope.Block)) (S (P p n) t).pending
    (λ b i. no (sym (ap (λ x. may (leaves_slot s) x b.0) (apart p b.0 (inert_binds p h) ((pends t (P p n) b).0 i).binds) ∙ q b.0) ∙ left_fits t (P p n) s b f (inert_default p h) i))

-- declarations
declared_left : (q : Standing) (n : Bool) (f : Standing → Bool) → q ≢ standing.DefaultExport → ((r : Standing) → same q r ≡ true → f r ≡ true) → (d : Node) → Fits d (slot.List (content.Node class.VarDeclarator)) → list_all (λ b. f b.0) (S (P q n) d).pending ≡ true
declared_left q n f m h d fit = all_in (λ b. f b.0) (S (P q n) d).pending
    (λ b i. h b.0 (or_false (same q b.0) (left_fits d (P q n) (slot.List (content.Node class.VarDeclarator)) b fit m i)))

variable_free : (r : Standing) → same standing.Variable r ≡ true → not (takes r scope.Block) ≡ true
variable_free standing.Variable h = refl
variable_free _ h = absurd (cc)

variable_kept : (r : Standing) → same standing.Variable r ≡ true → kept_by scope.For r ≡ true
variable_kept standing.Variable h = refl
variable_kept _ h = absurd (cc)

lexical_kept : (r : Standing) → same standing.Lexical r ≡ true → kept_by scope.For r ≡ true
lexical_kept standing.Lexical h = refl
lexical_kept _ h = absurd (cc)

declares_kept : (q : Standing) (n : Bool) → (q ≡ standing.Variable) ⊎ (q ≡ standing.Lexical) → (d : Node) → Fits d (slot.List (content.Node class.VarDeclarator)) → Kept scope.For (S (P q n) d)
declares_kept q n h d f = ⊎_elim
    (λ e. subst (λ q. Kept scope.For (S (P q n) d)) (sym e) (declared_left standing.Variable n (kept_by scope.For) (λ e. absurd (cc)) variable_kept d f))
    (λ e. subst (λ q. Kept scope.For (S (P q n) d)) (sym e) (declared_left standing.Lexical n (kept_by scope.For) (λ e. absurd (cc)) lexical_kept d f)) h

-- the keyword `var`
span_rest : (a : Node) (rest : Standing) → Fits a (slot.One content.Span) → keyword_in (out-Node a) rest ≡ rest
span_rest a rest = by_children (λ a. Fits a (slot.One content.Span) → keyword_in (out-Node a) rest ≡ rest) (
  λ f. ap (λ y. keyword_in y rest) outs-Absent,
  λ x f. ap (λ y. keyword_in y rest) (outs-Flag x),
  λ w f. absurd (cc (sym (fits-Word w (slot.One content.Span)) ∙ f)),
  λ x f. ap (λ y. keyword_in y rest) (outs-Text x),
  λ s f. ap (λ y. keyword_in y rest) (outs-Span s),
  λ k i f. ap (λ y. keyword_in y rest) (outs-Identifier k i),
)
    (λ ts b f. ap (λ y. keyword_in y rest) (outs-List ts))
    (λ k ts b f. ap (λ y. keyword_in y rest) (outs-Tree k ts)) a

var_words : (w : Word') → is_branch true (form_of_word (Some w)) ≡ true → by_word w ≡ standing.Variable
var_words word.Var h = refl
var_words _ h = absurd (cc)

var_said : (y : Node-F Node) (rest : Standing) → is_branch true (form_of_word (word_in y)) ≡ true → keyword_in y rest ≡ standing.Variable
var_said (Node-F.Word w) rest h = var_words w h
var_said Node-F.Absent rest h = absurd (cc)
var_said _ rest h = absurd (cc)

-- statements
abbrev statement : Slot
statement = slot.Optional (content.Node class.Stmt)

abbrev is_spot : Standing → Bool
is_spot standing.Plain = true
is_spot standing.Branch = true
is_spot _ = false

spot_inert : (p : Standing) → is_spot p ≡ true → is_inert p ≡ true
spot_inert standing.Plain h = refl
spot_inert standing.Branch h = refl
spot_inert _ h = absurd (cc)

spot_block : (p : Standing) → is_spot p ≡ true → block_scope p ≡ Some scope.Block
spot_block standing.Plain h = refl
spot_block standing.Branch h = refl
spot_block _ h = absurd (cc)

body_branch : (f : Form) → is_body f ≡ true → is_branch true f ≡ true
body_branch Ordinary h = refl
body_branch _ h = absurd (cc)

abbrev may_stand : Bool → Bool → Node → Bool
may_stand s a t = is_branch true (form t) && sound t (code s a)

abbrev Leaves : Node → Type 0
Leaves t = (p : Standing) (n s a : Bool) → is_spot p ≡ true → Fits t statement → (s ≡ false → Nested t) → (is_absent t || may_stand s a t) ≡ true → Loose (S (P p n) t)

data Parts : List Slot → List Node → Type 0 where
  none : Parts [] []
  more : {s : Slot} {ss : List Slot} {t : Node} {ts : List Node} → Fits t s → Leaves t → Parts ss ts → Parts (s ∷ ss) (t ∷ ts)

parts : (ss : List Slot) (ts : List Node) → Each Leaves ts → FieldsFit ss ts → Parts ss ts
parts [] [] h f = none
parts [] (t ∷ ts) h f = absurd f
parts (s ∷ ss) [] h f = absurd f
parts (s ∷ ss) (t ∷ ts) h f = more f.0 h.0 (parts ss ts h.1 f.1)

-- what is asked of the parts of a statement
maybe : (s a : Bool) (t : Node) → may_stand s a t ≡ true → (is_absent t || may_stand s a t) ≡ true
maybe s a t h = or_right (is_absent t) (may_stand s a t) h

in_loop : (s a : Bool) (t : Node) → (is_body (form t) && sound t (code s a)) ≡ true → (is_absent t || may_stand s a t) ≡ true
in_loop s a t h = let z = both (is_body (form t)) (sound t (code s a)) h in maybe s a t (also (body_branch (form t) z.0) z.1)

in_branch : (s a : Bool) (t : Node) → Fits t statement → (s ≡ false → Nested t) → (is_absent t || branch (of t) (code s a)) ≡ true → (is_absent t || may_stand s a t) ≡ true
in_branch s a t f m = at (is_absent t)
  where
    at : (b : Bool) → (b || branch (of t) (code s a)) ≡ true → (b || may_stand s a t) ≡ true
    at true h = refl
    at false h = let z = both (is_branch s (form t)) (sound t (code s a)) h in also (strict_branch s t class.Stmt f m z.0) z.1

stands_there : (t : Node) → Fits t (one class.Stmt) → Fits t statement
stands_there t f = wider class.Stmt class.Stmt statement refl refl t f

-- a field that stands plainly and may be left out of the count
span_left : (p : Standing) (n : Bool) (t : Node) → is_inert p ≡ true → Fits t (slot.One content.Span) → Loose (S (P p n) t)
span_left p n t h f = nothing_left (slot.One content.Span) (λ r. refl) p n t h f

flag_left : (p : Standing) (n : Bool) (t : Node) → is_inert p ≡ true → Fits t (slot.One content.Flag) → Loose (S (P p n) t)
flag_left p n t h f = nothing_left (slot.One content.Flag) (λ r. refl) p n t h f

expression_left : (n : Bool) (t : Node) → Fits t (one class.Expr) → Loose (S (P standing.Reference n) t)
expression_left n t f = nothing_left (one class.Expr) (λ r. refl) standing.Reference n t refl f

maybe_expression_left : (n : Bool) (t : Node) → Fits t (slot.Optional (content.Node class.Expr)) → Loose (S (P standing.Reference n) t)
maybe_expression_left n t f = nothing_left (slot.Optional (content.Node class.Expr)) (λ r. refl) standing.Reference n t refl f

-- a node by its form: all but names, lists and trees leave nothing
cases : (w : Place) (s : Slot) (Q : Node → Type 0) → ((t : Node) → S w t ≡ joined [] → Q t) → ((k : Kind) (i : Ident) → Fits (Identifier k i) s → Q (Identifier k i))
    → ((ts : List Node) → Fits (Many ts) s → Q (Many ts)) → ((k : Kind) (ts : List Node) → Fits (Tree k ts) s → Q (Tree k ts)) → (t : Node) → Fits t s → Q t
cases w s Q leaf name list tree t = by_children (λ t. Fits t s → Q t) (
  λ h. leaf Absent (out_step w Absent _ outs-Absent),
  λ x h. leaf (Flag x) (out_step w (Flag x) _ (outs-Flag x)),
  λ v h. leaf (Word v) (out_step w (Word v) _ (outs-Word v)),
  λ x h. leaf (Text x) (out_step w (Text x) _ (outs-Text x)),
  λ s h. leaf (Span s) (out_step w (Span s) _ (outs-Span s)),
  λ k i h. name k i h,
)
    (λ ts b h. list ts h)
    (λ k ts b h. tree k ts h) t

absent_list : (ts : List Node) (c : Class) → Fits (Many ts) (slot.Optional (content.Node c)) → ⊥
absent_list ts c f = absurd (cc (sym (fits-List ts (slot.Optional (content.Node c))) ∙ f))

opens : (k : Kind) (ts : List Node) (c : Class) → Fits (Tree k ts) (slot.Optional (content.Node c)) → IsTrue (not (is_identifier k)) × IsTrue (belongs k c) × FieldsFit (slots_of k) ts
opens k ts c f = tree_opens k ts c (fits-Tree k ts (one c) ∙ sym (fits-Tree k ts (slot.Optional (content.Node c))) ∙ f)

name_left : (p : Standing) (n : Bool) (k : Kind) (i : Ident) → is_inert p ≡ true → Loose (S (P p n) (Identifier k i))
name_left p n k i h = ap (λ (a : Sites). loose a.pending) (of_identifier (P p n) k i) ∙ at p h
  where
    at : (p : Standing) → is_inert p ≡ true → loose (name_sites p i).pending ≡ true
    at standing.Plain h = refl
    at standing.Reference h = refl
    at standing.Branch h = refl
    at standing.Label h = refl
    at _ h = absurd (cc)

-- by the fields of a node
abbrev field_sites : Standing → Bool → Kind → List Node → List Sites
field_sites p n k ts = each_in S (place_in (P p n) (Node-F.Tree k ts)) ts

by_fields : (k : Kind) (ts : List Node) (p : Standing) (n : Bool) (o : Option Scope) → opened_as (P p n) k (has_own_name ts) ≡ o → S (P p n) (Tree k ts) ≡ in_scope o (view_from k) (field_sites p n k ts)
by_fields k ts p n o e = out_step (P p n) (Tree k ts) _ (outs-Tree k ts) ∙ ap (λ o. in_scope o (view_from k) (field_sites p n k ts)) e

open_left : (k : Kind) (ts : List Node) (p : Standing) (n : Bool) → opened_as (P p n) k (has_own_name ts) ≡ None → AllLoose (field_sites p n k ts) → Loose (S (P p n) (Tree k ts))
open_left k ts p n e h = ap (λ (a : Sites). loose a.pending) (by_fields k ts p n None e) ∙ unscoped (field_sites p n k ts) h

open_kept : (s : Scope) (k : Kind) (ts : List Node) (p : Standing) (n : Bool) → opened_as (P p n) k (has_own_name ts) ≡ None → AllKept s (field_sites p n k ts) → Kept s (S (P p n) (Tree k ts))
open_kept s k ts p n e h = ap (λ (a : Sites). kept s a.pending) (by_fields k ts p n None e) ∙ all_kept s (field_sites p n k ts) h

outside_loose : (views : ℕ → View) (cs : List Sites) → ((i : ℕ) → is_inside (views i) ≡ true) → loose (pending_where (λ v. not (is_inside v)) views cs) ≡ true
outside_loose views [] h = refl
outside_loose views (a ∷ cs) h =
    all_append (λ b. not (takes b.0 scope.Block)) (cond (not (is_inside (views zero))) a.pending []) (pending_where (λ v. not (is_inside v)) (λ i. views (suc i)) cs)
    (ap (λ x. loose (cond (not x) a.pending [])) (h zero)) (outside_loose (λ i. views (suc i)) cs (λ i. h (suc i)))

scope_left : (s : Scope) (k : Kind) (ts : List Node) (p : Standing) (n : Bool) → opened_as (P p n) k (has_own_name ts) ≡ Some s → ((i : ℕ) → is_inside (view_from k i) ≡ true) → kept s (joined (field_sites p n k ts)).pending ≡ true → Loose (S (P p n) (Tree k ts))
scope_left s k ts p n e v h = ap (λ (a : Sites). loose a.pending) (by_fields k ts p n (Some s) e) ∙ scoped s (view_from k) (field_sites p n k ts) (outside_loose (view_from k) (field_sites p n k ts) v) h

-- blocks and catch clauses
block_left : (ts : List Node) (p : Standing) (n : Bool) → is_spot p ≡ true → Loose (S (P p n) (Tree kind.BlockStmt ts))
block_left ts p n h = scope_left scope.Block kind.BlockStmt ts p n (spot_block p h) (λ i. refl) (surely scope.Block block_takes (joined (field_sites p n kind.BlockStmt ts)).pending)

catch_view : (i : ℕ) → is_inside (view_from kind.CatchClause i) ≡ true
catch_view i = at (1 == i)
  where
    at : (b : Bool) → is_inside (cond b view.Parameters view.Whole) ≡ true
    at true = refl
    at false = refl

catch_left : (ts : List Node) (p : Standing) (n : Bool) → Loose (S (P p n) (Tree kind.CatchClause ts))
catch_left ts p n = scope_left scope.Catch kind.CatchClause ts p n refl catch_view (surely scope.Catch catch_takes (joined (field_sites p n kind.CatchClause ts)).pending)

block_kind : (k : Kind) (ts : List Node) (p : Standing) (n : Bool) → is_spot p ≡ true → IsTrue (belongs k class.BlockStmt) → Loose (S (P p n) (Tree k ts))
block_kind kind.BlockStmt ts p n h b = block_left ts p n h
block_kind _ ts p n h b = absurd (true≢false (sym b))

catch_kind : (k : Kind) (ts : List Node) (p : Standing) (n : Bool) → IsTrue (belongs k class.CatchClause) → Loose (S (P p n) (Tree k ts))
catch_kind kind.CatchClause ts p n b = catch_left ts p n
catch_kind _ ts p n b = absurd (true≢false (sym b))

some_block : (p : Standing) (n : Bool) (t : Node) → is_spot p ≡ true → Fits t (slot.Optional (content.Node class.BlockStmt)) → Loose (S (P p n) t)
some_block p n t h = cases (P p n) (slot.Optional (content.Node class.BlockStmt)) (λ t. Loose (S (P p n) t)) (λ t e. ap (λ (a : Sites). loose a.pending) e) (λ k i f. name_left p n k i (spot_inert p h))
    (λ ts f. absurd (absent_list ts class.BlockStmt f)) (λ k ts f. block_kind k ts p n h (opens k ts class.BlockStmt f).1) t

some_catch : (n : Bool) (t : Node) → Fits t (slot.Optional (content.Node class.CatchClause)) → Loose (S (P standing.Plain n) t)
some_catch n t = cases (P standing.Plain n) (slot.Optional (content.Node class.CatchClause)) (λ t. Loose (S (P standing.Plain n) t)) (λ t e. ap (λ (a : Sites). loose a.pending) e) (λ k i f. name_left standing.Plain n k i refl)
    (λ ts f. absurd (absent_list ts class.CatchClause f)) (λ k ts f. catch_kind k ts standing.Plain n (opens k ts class.CatchClause f).1) t

-- the head of a `for`
three : (x y z : Slot) (Q : List Node → Type 0) → ((a b c : Node) → Fits a x → Fits b y → Fits c z → Q (a ∷ b ∷ c ∷ [])) → (ts : List Node) → FieldsFit (x ∷ y ∷ z ∷ []) ts → Q ts
three x y z Q h [] f = absurd f
three x y z Q h (a ∷ []) f = absurd f.1
three x y z Q h (a ∷ b ∷ []) f = absurd f.1.1
three x y z Q h (a ∷ b ∷ c ∷ []) f = h a b c f.0 f.1.0 f.1.1.0
three x y z Q h (a ∷ b ∷ c ∷ d ∷ ts) f = absurd f.1.1.1

var_head : (n : Bool) (ts : List Node) → FieldsFit (slots_of kind.VarDecl) ts → Kept scope.For (S (P standing.Reference n) (Tree kind.VarDecl ts))
var_head n = three (slot.One content.Span) (slot.One (content.Word word_class.VarDeclKind)) (slot.List (content.Node class.VarDeclarator)) (λ ts. Kept scope.For (S (P standing.Reference n) (Tree kind.VarDecl ts)))
    (λ a b c f g h. open_kept scope.For kind.VarDecl (a ∷ b ∷ c ∷ []) standing.Reference n refl (
      keeps scope.For (S (P standing.Plain n) a) (span_left standing.Plain n a refl f),
      (
        keeps scope.For (S (P standing.Plain n) b) (nothing_left (slot.One (content.Word word_class.VarDeclKind)) (λ r. refl) standing.Plain n b refl g),
        (declares_kept (by_keyword (a ∷ b ∷ c ∷ [])) n (keyword_cases (a ∷ b ∷ c ∷ [])) c h, tt),
      ),
    ))

using_head : (n : Bool) (ts : List Node) → FieldsFit (slots_of kind.UsingDecl) ts → Kept scope.For (S (P standing.Reference n) (Tree kind.UsingDecl ts))
using_head n = three (slot.One content.Span) (slot.One content.Flag) (slot.List (content.Node class.VarDeclarator)) (λ ts. Kept scope.For (S (P standing.Reference n) (Tree kind.UsingDecl ts)))
    (λ a b c f g h. open_kept scope.For kind.UsingDecl (a ∷ b ∷ c ∷ []) standing.Reference n refl
    (keeps scope.For (S (P standing.Plain n) a) (span_left standing.Plain n a refl f), (keeps scope.For (S (P standing.Plain n) b) (flag_left standing.Plain n b refl g), (declares_kept standing.Lexical n (inr refl) c h, tt))))

init_kind : (n : Bool) (k : Kind) (ts : List Node) → IsTrue (not (is_identifier k)) → IsTrue (belongs k class.VarDeclOrExpr) → FieldsFit (slots_of k) ts → Kept scope.For (S (P standing.Reference n) (Tree k ts))
init_kind n kind.VarDecl ts i b f = var_head n ts f
init_kind n k ts i b f = keeps scope.For (S (P standing.Reference n) (Tree k ts)) (expression_left n (Tree k ts) (tree_closes k ts class.Expr i b f))

head_kind : (n : Bool) (k : Kind) (ts : List Node) → IsTrue (not (is_identifier k)) → IsTrue (belongs k class.ForHead) → FieldsFit (slots_of k) ts → Kept scope.For (S (P standing.Reference n) (Tree k ts))
head_kind n kind.VarDecl ts i b f = var_head n ts f
head_kind n kind.UsingDecl ts i b f = using_head n ts f
head_kind n k ts i b f = keeps scope.For (S (P standing.Reference n) (Tree k ts)) (nothing_left (one class.Pat) (λ r. refl) standing.Reference n (Tree k ts) refl (tree_closes k ts class.Pat i b f))

name_kept : (n : Bool) (k : Kind) (i : Ident) → Kept scope.For (S (P standing.Reference n) (Identifier k i))
name_kept n k i = keeps scope.For (S (P standing.Reference n) (Identifier k i)) (name_left standing.Reference n k i refl)

init_kept : (n : Bool) (t : Node) → Fits t (slot.Optional (content.Node class.VarDeclOrExpr)) → Kept scope.For (S (P standing.Reference n) t)
init_kept n = cases (P standing.Reference n) (slot.Optional (content.Node class.VarDeclOrExpr)) (λ t. Kept scope.For (S (P standing.Reference n) t)) (λ t e. ap (λ (a : Sites). kept scope.For a.pending) e) (λ k i f. name_kept n k i)
    (λ ts f. absurd (absent_list ts class.VarDeclOrExpr f)) (λ k ts f. (let o = opens k ts class.VarDeclOrExpr f in init_kind n k ts o.0 o.1 o.2))

head_kept : (n : Bool) (t : Node) → Fits t (one class.ForHead) → Kept scope.For (S (P standing.Reference n) t)
head_kept n = cases (P standing.Reference n) (one class.ForHead) (λ t. Kept scope.For (S (P standing.Reference n) t)) (λ t e. ap (λ (a : Sites). kept scope.For a.pending) e) (λ k i f. name_kept n k i)
    (λ ts f. absurd (cc (sym (fits-List ts (one class.ForHead)) ∙ f))) (λ k ts f. (let o = tree_opens k ts class.ForHead f in head_kind n k ts o.0 o.1 o.2))

no_function : (b : Bool) → is_branch true (form_of_function b) ≡ true → ⊥
no_function true h = absurd (cc)
no_function false h = absurd (cc)

-- a field of a statement round it
field : (k : Kind) (ts : List Node) (s : Bool) → is_around k ≡ true → (s ≡ false → Nested (Tree k ts)) → (i : ℕ) (c : Node) → slice_get ts i ≡ Some c → s ≡ false → Nested c
field k ts s a m i c e g = nested_field k ts a (m g) i c e

-- each kind of statement
row : (k : Kind) {ts : List Node} → Parts (slots_of k) ts → (p : Standing) (n s a : Bool) → is_spot p ≡ true → is_branch true (form_in (Node-F.Tree k ts)) ≡ true → sound_in (Node-F.Tree k (map of ts)) (code s a) ≡ true → IsTrue (belongs k class.Stmt)
    → (s ≡ false → Nested (Tree k ts)) → Loose (S (P p n) (Tree k ts))
row kind.BlockStmt {ts = ts} d p n s a q b h e m = block_left ts p n q
row kind.EmptyStmt (more {t = x} f _ none) p n s a q b h e m = open_left kind.EmptyStmt (x ∷ []) p n refl (span_left standing.Plain n x refl f, tt)
row kind.DebuggerStmt (more {t = x} f _ none) p n s a q b h e m = open_left kind.DebuggerStmt (x ∷ []) p n refl (span_left standing.Plain n x refl f, tt)
row kind.BreakStmt (more {t = x} f _ (more {t = y} g _ none)) p n s a q b h e m =
    open_left kind.BreakStmt (x ∷ y ∷ []) p n refl (span_left standing.Plain n x refl f, (nothing_left (slot.Optional (content.Node class.Ident)) (λ r. refl) standing.Label n y refl g, tt))
row kind.ContinueStmt (more {t = x} f _ (more {t = y} g _ none)) p n s a q b h e m =
    open_left kind.ContinueStmt (x ∷ y ∷ []) p n refl (span_left standing.Plain n x refl f, (nothing_left (slot.Optional (content.Node class.Ident)) (λ r. refl) standing.Label n y refl g, tt))
row kind.ReturnStmt (more {t = x} f _ (more {t = y} g _ none)) p n s a q b h e m = open_left kind.ReturnStmt (x ∷ y ∷ []) p n refl (span_left standing.Plain n x refl f, (maybe_expression_left n y g, tt))
row kind.ThrowStmt (more {t = x} f _ (more {t = y} g _ none)) p n s a q b h e m = open_left kind.ThrowStmt (x ∷ y ∷ []) p n refl (span_left standing.Plain n x refl f, (expression_left n y g, tt))
row kind.ExprStmt (more {t = x} f _ (more {t = y} g _ none)) p n s a q b h e m = open_left kind.ExprStmt (x ∷ y ∷ []) p n refl (span_left standing.Plain n x refl f, (expression_left n y g, tt))
row kind.WithStmt (more {t = x} f _ (more {t = y} g _ (more {t = z} i l none))) p n s a q b h e m =
    let u = half h in open_left kind.WithStmt (x ∷ y ∷ z ∷ []) p n refl (span_left standing.Plain n x refl f, (expression_left n y g, (l standing.Plain n s a refl (stands_there z i) (field kind.WithStmt (x ∷ y ∷ z ∷ []) s refl m 2 z refl) (in_loop s a z u.1), tt)))
row kind.LabeledStmt (more {t = x} f _ (more {t = y} g _ (more {t = z} i l none))) p n s a q b h e m =
    let u = half h in let o = field kind.LabeledStmt (x ∷ y ∷ z ∷ []) s refl m 2 z refl in open_left kind.LabeledStmt (x ∷ y ∷ z ∷ []) p n refl (
      span_left standing.Plain n x refl f,
      (nothing_left (one class.Ident) (λ r. refl) standing.Label n y refl g, (l standing.Plain n s a refl (stands_there z i) o (in_branch s a z (stands_there z i) o (or_right (is_absent z) _ u.1)), tt)),
    )
row kind.IfStmt (more {t = x} f _ (more {t = y} g _ (more {t = z} i l (more {t = v} j k none)))) p n s a q b h e m =
    let u = half h in let w = half u.1 in
    let o = field kind.IfStmt (x ∷ y ∷ z ∷ v ∷ []) s refl m 2 z refl in let c = field kind.IfStmt (x ∷ y ∷ z ∷ v ∷ []) s refl m 3 v refl in open_left kind.IfStmt (x ∷ y ∷ z ∷ v ∷ []) p n refl (
      span_left standing.Plain n x refl f,
      (
        expression_left n y g,
        (l standing.Branch n s a refl (stands_there z i) o (in_branch s a z (stands_there z i) o (or_right (is_absent z) _ w.0)), (k standing.Branch n s a refl j c (in_branch s a v j c w.1), tt)),
      ),
    )
row kind.SwitchStmt (more {t = x} f _ (more {t = y} g _ (more {t = z} i _ none))) p n s a q b h e m =
    ap (λ (s : Sites). loose s.pending) (by_fields kind.SwitchStmt (x ∷ y ∷ z ∷ []) p n (Some scope.Switch) refl)
    ∙ scoped scope.Switch (view_from kind.SwitchStmt) (field_sites p n kind.SwitchStmt (x ∷ y ∷ z ∷ []))
    (all_append (λ b. not (takes b.0 scope.Block)) (S (P standing.Reference n) y).pending [] (expression_left n y g) refl) (surely scope.Switch switch_takes (joined (field_sites p n kind.SwitchStmt (x ∷ y ∷ z ∷ []))).pending)
row kind.TryStmt (more {t = x} f _ (more {t = y} g _ (more {t = z} i _ (more {t = v} j _ none)))) p n s a q b h e m =
    open_left kind.TryStmt (x ∷ y ∷ z ∷ v ∷ []) p n refl
    (span_left standing.Plain n x refl f, (some_block standing.Plain n y refl (wider class.BlockStmt class.BlockStmt (slot.Optional (content.Node class.BlockStmt)) refl refl y g), (some_catch n z i, (some_block standing.Plain n v refl j, tt))))
row kind.WhileStmt (more {t = x} f _ (more {t = y} g _ (more {t = z} i l none))) p n s a q b h e m =
    let u = half h in open_left kind.WhileStmt (x ∷ y ∷ z ∷ []) p n refl (span_left standing.Plain n x refl f, (expression_left n y g, (l standing.Plain n s a refl (stands_there z i) (field kind.WhileStmt (x ∷ y ∷ z ∷ []) s refl m 2 z refl) (in_loop s a z u.1), tt)))
row kind.DoWhileStmt (more {t = x} f _ (more {t = z} i l (more {t = y} g _ none))) p n s a q b h e m =
    let u = half h in open_left kind.DoWhileStmt (x ∷ z ∷ y ∷ []) p n refl (span_left standing.Plain n x refl f, (l standing.Plain n s a refl (stands_there z i) (field kind.DoWhileStmt (x ∷ z ∷ y ∷ []) s refl m 1 z refl) (in_loop s a z u.1), (expression_left n y g, tt)))
row kind.ForStmt (more {t = x} f _ (more {t = y} g _ (more {t = z} i _ (more {t = v} j _ (more {t = w} k l none))))) p n s a q b h e m =
    let u = half h in scope_left scope.For kind.ForStmt (x ∷ y ∷ z ∷ v ∷ w ∷ []) p n refl (λ i. refl) (all_kept scope.For (field_sites p n kind.ForStmt (x ∷ y ∷ z ∷ v ∷ w ∷ [])) (
      keeps scope.For (S (P standing.Plain n) x) (span_left standing.Plain n x refl f),
      (
        init_kept n y g,
        (
          keeps scope.For (S (P standing.Reference n) z) (maybe_expression_left n z i),
          (
            keeps scope.For (S (P standing.Reference n) v) (maybe_expression_left n v j),
            (keeps scope.For (S (P standing.Plain n) w) (l standing.Plain n s a refl (stands_there w k) (field kind.ForStmt (x ∷ y ∷ z ∷ v ∷ w ∷ []) s refl m 4 w refl) (in_loop s a w u.1)), tt),
          ),
        ),
      ),
    ))
row kind.ForInStmt (more {t = x} f _ (more {t = y} g _ (more {t = z} i _ (more {t = w} k l none)))) p n s a q b h e m =
    let u = half {a = not (is_using y)} h in let v = half {a = head (of y) (code s a)} u.1 in let c = half {a = all_sound (of z ∷ []) (code s false)} v.1 in scope_left scope.For kind.ForInStmt (x ∷ y ∷ z ∷ w ∷ []) p n refl (λ i. refl) (all_kept scope.For (field_sites p n kind.ForInStmt (x ∷ y ∷ z ∷ w ∷ [])) (
      keeps scope.For (S (P standing.Plain n) x) (span_left standing.Plain n x refl f),
      (
        head_kept n y g,
        (
          keeps scope.For (S (P standing.Reference n) z) (expression_left n z i),
          (keeps scope.For (S (P standing.Plain n) w) (l standing.Plain n s a refl (stands_there w k) (field kind.ForInStmt (x ∷ y ∷ z ∷ w ∷ []) s refl m 3 w refl) (in_loop s a w c.1)), tt),
        ),
      ),
    ))
row kind.ForOfStmt (more {t = x} f _ (more {t = v} j _ (more {t = y} g _ (more {t = z} i _ (more {t = w} k l none))))) p n s a q b h e m =
    let u = half {a = head (of y) (code s a)} h in let c = half {a = all_sound (of z ∷ []) (code s false)} u.1 in scope_left scope.For kind.ForOfStmt (x ∷ v ∷ y ∷ z ∷ w ∷ []) p n refl (λ i. refl) (all_kept scope.For (field_sites p n kind.ForOfStmt (x ∷ v ∷ y ∷ z ∷ w ∷ [])) (
      keeps scope.For (S (P standing.Plain n) x) (span_left standing.Plain n x refl f),
      (
        keeps scope.For (S (P standing.Plain n) v) (flag_left standing.Plain n v refl j),
        (
          head_kept n y g,
          (
            keeps scope.For (S (P standing.Reference n) z) (expression_left n z i),
            (keeps scope.For (S (P standing.Plain n) w) (l standing.Plain n s a refl (stands_there w k) (field kind.ForOfStmt (x ∷ v ∷ y ∷ z ∷ w ∷ []) s refl m 4 w refl) (in_loop s a w c.1)), tt),
          ),
        ),
      ),
    ))
row kind.VarDecl (more {t = x} f _ (more {t = y} g _ (more {t = z} i _ none))) p n s a q b h e m =
    let var : by_keyword (x ∷ y ∷ z ∷ []) ≡ standing.Variable = span_rest x (by_keyword (y ∷ z ∷ [])) f ∙ var_said (out-Node y) (by_keyword (z ∷ [])) b in
    open_left kind.VarDecl (x ∷ y ∷ z ∷ []) p n refl (
      span_left standing.Plain n x refl f,
      (
        nothing_left (slot.One (content.Word word_class.VarDeclKind)) (λ r. refl) standing.Plain n y refl g,
        (subst (λ q. Loose (S (P q n) z)) (sym var) (declared_left standing.Variable n (λ r. not (takes r scope.Block)) (λ e. absurd (cc)) variable_free z i), tt),
      ),
    )
row kind.FnDecl (more _ _ (more {t = y} _ _ none)) p n s a q b h e m = absurd (no_function (is_plain_function (Some y)) b)
row kind.ClassDecl d p n s a q b h e m = absurd (cc)
row kind.UsingDecl d p n s a q b h e m = absurd (cc)
row kind.TsInterfaceDecl d p n s a q b h e m = absurd (cc)
row kind.TsTypeAliasDecl d p n s a q b h e m = absurd (cc)
row kind.TsEnumDecl d p n s a q b h e m = absurd (cc)
row kind.TsModuleDecl d p n s a q b h e m = absurd (cc)
-- no other kind is a statement: said by name, since `cc` would look at all that is known of each
row _ d p n s a q b h e m = absurd (true≢false (sym e))

tree_leaves : (k : Kind) (ts : List Node) → Each Leaves ts → Leaves (Tree k ts)
tree_leaves k ts l p n s a q f m h =
    let o = opens k ts class.Stmt f in
    let there : may_stand s a (Tree k ts) ≡ true = ap (λ b. b || may_stand s a (Tree k ts)) (sym (ap is_absent_in (outs-Tree k ts))) ∙ h in
    let z = both (is_branch true (form (Tree k ts))) (sound (Tree k ts) (code s a)) there in
    row k (parts (slots_of k) ts l o.2) p n s a q (ap (λ y. is_branch true (form_in y)) (sym (outs-Tree k ts)) ∙ z.0) (sym (sound_tree k ts (code s a)) ∙ z.1) o.1 m

leaf_leaves : (t : Node) → ((w : Place) → S w t ≡ joined []) → Leaves t
leaf_leaves t e p n s a q f m h = ap (λ (x : Sites). loose x.pending) (e (P p n))

leaves : (t : Node) → Leaves t
leaves t = by_children Leaves (
  leaf_leaves Absent (λ w. out_step w Absent _ outs-Absent),
  λ x. leaf_leaves (Flag x) (λ w. out_step w (Flag x) _ (outs-Flag x)),
  λ v. leaf_leaves (Word v) (λ w. out_step w (Word v) _ (outs-Word v)),
  λ x. leaf_leaves (Text x) (λ w. out_step w (Text x) _ (outs-Text x)),
  λ s. leaf_leaves (Span s) (λ w. out_step w (Span s) _ (outs-Span s)),
  λ k i p n s a q f m h. name_left p n k i (spot_inert p q),
)
    (λ ts l p n s a q f m h. absurd (absent_list ts class.Stmt f))
    tree_leaves t

-- a statement that ends in an `if` without `else` is no declaration
ending_kind : (k : Kind) (ts : List Node) (bs : List Bool) → takes_else_step (Node-F.Tree k bs) ≡ true → is_branch true (form_in (Node-F.Tree k ts)) ≡ true
ending_kind kind.VarDecl ts bs h = absurd (true≢false (sym h))
ending_kind kind.FnDecl ts bs h = absurd (true≢false (sym h))
ending_kind kind.ClassDecl ts bs h = absurd (true≢false (sym h))
ending_kind kind.UsingDecl ts bs h = absurd (true≢false (sym h))
ending_kind kind.TsInterfaceDecl ts bs h = absurd (true≢false (sym h))
ending_kind kind.TsTypeAliasDecl ts bs h = absurd (true≢false (sym h))
ending_kind kind.TsEnumDecl ts bs h = absurd (true≢false (sym h))
ending_kind kind.TsModuleDecl ts bs h = absurd (true≢false (sym h))
ending_kind _ ts bs h = refl

ending : (t : Node) → takes_else t ≡ true → is_branch true (form t) ≡ true
ending t = by_children (λ t. takes_else t ≡ true → is_branch true (form t) ≡ true) (
  λ h. ap (λ y. is_branch true (form_in y)) outs-Absent,
  λ x h. ap (λ y. is_branch true (form_in y)) (outs-Flag x),
  λ v h. ap (λ y. is_branch true (form_in y)) (outs-Word v),
  λ x h. ap (λ y. is_branch true (form_in y)) (outs-Text x),
  λ s h. ap (λ y. is_branch true (form_in y)) (outs-Span s),
  λ k i h. ap (λ y. is_branch true (form_in y)) (outs-Identifier k i),
)
    (λ ts b h. ap (λ y. is_branch true (form_in y)) (outs-List ts))
    (λ k ts b h. ap (λ y. is_branch true (form_in y)) (outs-Tree k ts) ∙ ending_kind k ts (map takes_else ts) (sym (takes_else_of_tree k ts) ∙ h)) t

-- such a statement leaves nothing that a block takes
pub ending_loose : (t : Node) (s a : Bool) → Fits t (one class.Stmt) → (s ≡ false → Nested t) → sound t (code s a) ≡ true → takes_else t ≡ true → is_loose t ≡ true
ending_loose t s a f m h e = leaves t standing.Plain true s a refl (stands_there t f) m (maybe s a t (also (ending t e) h))
