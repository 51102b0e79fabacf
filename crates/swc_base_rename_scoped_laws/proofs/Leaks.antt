-- A statement that may be the body of a loop or a branch leaves no lexical name to the scopes outside.
use Rattle.std.proofs.Common.{◌≡◌, ◌≢◌, ℕ, zero, suc, Bool, true, false, not, ◌&&◌, ◌||◌, ◌==◌, IsTrue, ◌⊎◌, inl, inr, ⊎_elim, Option, Some, None, List, [], ◌∷◌, map, length, refl, sym, ap, ◌∙◌, subst, cond, true≢false}
use Rattle.std.specs.List.{slice_get}
use Rattle.swc_tree_node.specs.declared.kind.Kind.{Kind}
use Rattle.swc_tree_node.specs.declared.kind.Kind.TheVariants as kind
use Rattle.swc_tree_node.specs.declared.kind.Word.{Word}
use Rattle.swc_tree_node.specs.declared.kind.Word.TheVariants as word
use Rattle.swc_tree_node.specs.declared.kind.Class.TheVariants as class
use Rattle.swc_tree_node.specs.declared.slot.Content.TheVariants as content
use Rattle.swc_tree_node.specs.declared.slot.Slot.{Slot}
use Rattle.swc_tree_node.specs.declared.slot.Slot.TheVariants as slot
use Rattle.swc_tree_node.specs.declared.slot.Role.{Role}
use Rattle.swc_tree_node.specs.declared.slot.Role.TheVariants as role
use Rattle.swc_tree_node.specs.declared.node.Node.{Node, out-Node}
use Rattle.swc_tree_node.specs.declared.node.Node.TheOpen.{Node-F}
use Rattle.swc_tree_node.specs.Table.{fields_of, is_identifier, slots_of}
use Rattle.swc_tree_node.specs.Fits.{FieldsFit, Fits, belongs, each_fits, fits, identifier_fits, list_fits, single, tree_fits}
use Rattle.swc_tree_node.proofs.Fit.{both, lengths}
use Rattle.swc_tree_scoping.specs.declared.places.Standing.{Standing}
use Rattle.swc_tree_scoping.specs.declared.places.Standing.TheVariants as standing
use Rattle.swc_tree_scoping.specs.declared.places.Place.{Place}
use Rattle.swc_tree_scoping.specs.declared.places.Scope.TheVariants as scope
use Rattle.swc_tree_scoping.specs.declared.places.View.TheVariants as view
use Rattle.swc_tree_scoping.specs.Places.{block_scope, by_keyword, by_word, child, children_in, function_standing, is_plain_function, keyword_in, opened_in, place_below, plain_standing, standing_below, view_from}
use Rattle.swc_tree_scoping.specs.Scopes.{view_in}
use Rattle.swc_tree_scoping.proofs.Under.{by_children}
use Rattle.swc_tree_grammar.specs.Levels.{is_absent, is_absent_in, word_in, word_of}
use Rattle.swc_tree_grammar.specs.Forms.{Form, Ordinary, form, form_in, form_of_word, is_body, is_branch}
use Rattle.swc_tree_grammar.specs.Writable.{Round, all_sound, binding, sound_in}
use Rattle.swc_tree_grammar.proofs.Asked.{of, sound, sound_tree}
use Rattle.swc_tree_sites.specs.Sites.{Binding}
use Rattle.swc_tree_sites.proofs.Loose.{Below, FromChild, is_no_identifier, own, pends, to_child}
use Rattle.swc_tree_sites.proofs.Leaves.{Field, leaves_slot, may, same}
use Rattle.swc_tree_sites.proofs.Pending.{left_fits}
use Rattle.swc_base_rename_scoped_laws.proofs.Fields.{field_at, fields_at, layer, same_number}
use Rattle.swc_base_rename_scoped_laws.proofs.Openings.{field_stands}
use Rattle.swc_base_rename_scoped_laws.proofs.Rows.{exact3, exact4, half}
use Rattle.swc_base_rename_scoped_laws.proofs.Written.{is_tree}

-- whether what stands as a field does may be lexical
abbrev could : Role → Bool
could role.Plain = false
could role.Reference = false
could role.Label = false
could role.FunctionBody = false
could role.Function = false
could role.TypeName = false
could _ = true

abbrev is_known : Role → Bool
is_known role.Plain = true
is_known role.Reference = true
is_known role.Label = true
is_known role.FunctionBody = true
is_known role.Function = true
is_known role.Declared = true
is_known role.Class = true
is_known role.Lexical = true
is_known role.TypeName = true
is_known _ = false

-- through which fields of a statement a lexical name may go
abbrev leaks : Kind → ℕ → Bool
leaks kind.BlockStmt i = true
leaks kind.ForStmt i = true
leaks kind.ForInStmt i = true
leaks kind.ForOfStmt i = true
leaks kind.SwitchStmt i = i == 2
leaks kind.TryStmt i = i == 1 || (i == 2 || i == 3)
leaks kind.WithStmt i = i == 2
leaks kind.LabeledStmt i = i == 2
leaks kind.IfStmt i = i == 2 || i == 3
leaks kind.WhileStmt i = i == 2
leaks kind.DoWhileStmt i = i == 1
leaks kind.VarDecl i = i == 2
leaks kind.ClassDecl i = true
leaks kind.UsingDecl i = true
leaks kind.TsEnumDecl i = true
leaks kind.TsModuleDecl i = true
leaks _ i = false

abbrev field_fine : Kind → ℕ → Field → Bool
field_fine k i f = cond (belongs k class.Stmt && may (leaves_slot f.1) (could f.2) standing.Lexical) (leaks k i) true && cond (belongs k class.Stmt && true) (is_known f.2) true

abbrev all_fine : (ℕ → Field → Bool) → List Field → Bool
all_fine g [] = true
all_fine g (f ∷ fs) = g zero f && all_fine (λ i. g (suc i)) fs

kind_fine : (k : Kind) → all_fine (field_fine k) (fields_of k) ≡ true
kind_fine kind.Module = refl
kind_fine _ = refl

fine_at : (g : ℕ → Field → Bool) (fs : List Field) (i : ℕ) (f : Field) → all_fine g fs ≡ true → slice_get fs i ≡ Some f → g i f ≡ true
fine_at g [] i f h e = absurd (cc)
fine_at g (x ∷ fs) zero f h e = let one : x ≡ f = cc in ap (g zero) (sym one) ∙ (half {a = g zero x} h).0
fine_at g (x ∷ fs) (suc i) f h e = fine_at (λ i. g (suc i)) fs i f (half {a = g zero x} h).1 e

then_so : (a b c : Bool) → cond (a && b) c true ≡ true → a ≡ true → b ≡ true → c ≡ true
then_so true true c h e g = h
then_so true false c h e g = absurd (cc)
then_so false b c h e g = absurd (cc)

never : (s : Standing) (b : Bool) → s ≢ standing.Lexical → same s standing.Lexical ≡ true → b ≡ true
never standing.Lexical b n h = absurd (n refl)
never standing.Plain b n h = absurd (cc)
never _ b n h = absurd (cc)

branch_not : (b : Bool) → cond b standing.Branch standing.Plain ≢ standing.Lexical
branch_not true e = absurd (cc)
branch_not false e = absurd (cc)

export_not : (b : Bool) → cond b standing.DefaultExport standing.Plain ≢ standing.Lexical
export_not true e = absurd (cc)
export_not false e = absurd (cc)

plain_not : (k : Kind) (i : ℕ) → plain_standing k i ≢ standing.Lexical
plain_not kind.IfStmt i = branch_not (i == 2 || i == 3)
plain_not kind.ExportDefaultDecl i = export_not (i == 1)
plain_not _ i = λ e. absurd (cc)

function_not : (a b : Bool) → cond a standing.Function (cond b standing.SloppyFunction standing.BlockFunction) ≢ standing.Lexical
function_not true b e = absurd (cc)
function_not false true e = absurd (cc)
function_not false false e = absurd (cc)

reference_not : standing.Reference ≢ standing.Lexical
reference_not e = absurd (cc)

label_not : standing.Label ≢ standing.Lexical
label_not e = absurd (cc)

type_not : standing.TypeName ≢ standing.Lexical
type_not e = absurd (cc)

body_not : standing.Body ≢ standing.Lexical
body_not e = absurd (cc)

could_so : (w : Place) (k : Kind) (ts : List Node) (i : ℕ) (x : Role) → same (standing_below w k ts i x) standing.Lexical ≡ true → could x ≡ true
could_so w k ts i role.Plain h = never (plain_standing k i) false (plain_not k i) h
could_so w k ts i role.Reference h = never standing.Reference false reference_not h
could_so w k ts i role.Label h = never standing.Label false label_not h
could_so w k ts i role.FunctionBody h = never standing.Body false body_not h
could_so w k ts i role.TypeName h = never standing.TypeName false type_not h
could_so w k ts i role.Function h = never (function_standing w (is_plain_function (slice_get ts 1))) false (function_not _ _) h
could_so w k ts i _ h = refl

may_more : (s : Slot) (x y : Bool) → (x ≡ true → y ≡ true) → may (leaves_slot s) x standing.Lexical ≡ true → may (leaves_slot s) y standing.Lexical ≡ true
may_more s true y h e = subst (λ z. may (leaves_slot s) z standing.Lexical ≡ true) (sym (h refl)) e
may_more s false true h e = at (leaves_slot s).any (leaves_slot s).own _ e
  where
    at : (a d c : Bool) → (a || ((d && false) || c)) ≡ true → (a || ((d && true) || c)) ≡ true
    at true d c h = refl
    at false true c h = refl
    at false false c h = h
may_more s false false h e = e

-- where statements stand
abbrev pub is_statement_place : Standing → Bool
is_statement_place standing.Plain = true
is_statement_place standing.Branch = true
is_statement_place _ = false

block_takes : (w : Place) (ts : List Node) (j : ℕ) → is_statement_place w.standing ≡ true → own (opened_in w (Node-F.Tree kind.BlockStmt ts)) (view_in (Node-F.Tree kind.BlockStmt ts) j) standing.Lexical ≡ Some []
block_takes w ts j h = by w.standing h
  where
    by : (s : Standing) → is_statement_place s ≡ true → own (block_scope s) (view_from kind.BlockStmt j) standing.Lexical ≡ Some []
    by standing.Plain h = refl
    by standing.Branch h = refl
    by _ h = absurd (cc)

catch_takes : (w : Place) (ts : List Node) (j : ℕ) → own (opened_in w (Node-F.Tree kind.CatchClause ts)) (view_in (Node-F.Tree kind.CatchClause ts) j) standing.Lexical ≡ Some []
catch_takes w ts j = by (1 == j)
  where
    by : (b : Bool) → own (Some scope.Catch) (cond b view.Parameters view.Whole) standing.Lexical ≡ Some []
    by true = refl
    by false = refl

taken_not : {A : Type 0} (o : Option (List ℕ)) → o ≡ Some [] → o ≡ None → A
taken_not o e h = let z : Some [] ≡ None = sym e ∙ h in absurd (cc)

-- no default export is a part of a statement; said once, since `cc` would look at each kind's classes too
plain_apart : standing.Plain ≢ standing.DefaultExport
plain_apart e = absurd (cc)

plain_default : (k : Kind) (i : ℕ) → IsTrue (belongs k class.Stmt) → plain_standing k i ≢ standing.DefaultExport
plain_default kind.IfStmt i h = at (i == 2 || i == 3)
  where
    at : (b : Bool) → cond b standing.Branch standing.Plain ≢ standing.DefaultExport
    at true e = absurd (cc)
    at false e = absurd (cc)
plain_default kind.ExportDefaultDecl i h = absurd (true≢false (sym h))
plain_default _ i h = plain_apart

word_default : (w : Word) → by_word w ≢ standing.DefaultExport
word_default word.Var e = absurd (cc)
word_default _ e = absurd (cc)

keyword_default : (ts : List Node) → by_keyword ts ≢ standing.DefaultExport
keyword_default [] = λ e. absurd (cc)
keyword_default (t ∷ ts) = at (out-Node t) (keyword_default ts)
  where
    at : (y : Node-F Node) → by_keyword ts ≢ standing.DefaultExport → keyword_in y (by_keyword ts) ≢ standing.DefaultExport
    at (Node-F.Word w) h = word_default w
    at Node-F.Absent h = h
    at _ h = h

function_default : (a b : Bool) → cond a standing.Function (cond b standing.SloppyFunction standing.BlockFunction) ≢ standing.DefaultExport
function_default true b e = absurd (cc)
function_default false true e = absurd (cc)
function_default false false e = absurd (cc)

default_not : (w : Place) (k : Kind) (ts : List Node) (i : ℕ) (x : Role) → IsTrue (belongs k class.Stmt) → is_known x ≡ true → standing_below w k ts i x ≢ standing.DefaultExport
default_not w k ts i role.Plain h q = plain_default k i h
default_not w k ts i role.Declared h q = keyword_default ts
default_not w k ts i role.Function h q = function_default _ _
default_not w k ts i role.Reference h q = λ e. absurd (cc)
default_not w k ts i role.Label h q = λ e. absurd (cc)
default_not w k ts i role.FunctionBody h q = λ e. absurd (cc)
default_not w k ts i role.Class h q = λ e. absurd (cc)
default_not w k ts i role.Lexical h q = λ e. absurd (cc)
default_not w k ts i role.TypeName h q = λ e. absurd (cc)
default_not w k ts i _ h q = absurd (cc)

-- blocks and catch clauses keep their lexical names
abbrev is_block_slot : Slot → Bool
is_block_slot (slot.One (content.Node class.BlockStmt)) = true
is_block_slot (slot.Optional (content.Node class.BlockStmt)) = true
is_block_slot (slot.Optional (content.Node class.CatchClause)) = true
is_block_slot _ = false

abbrev holds_names : Kind → Bool
holds_names kind.BlockStmt = true
holds_names kind.CatchClause = true
holds_names _ = false

block_alone : (k : Kind) → IsTrue (belongs k class.BlockStmt) → holds_names k ≡ true
block_alone kind.BlockStmt h = refl
block_alone _ h = absurd (true≢false (sym h))

catch_alone : (k : Kind) → IsTrue (belongs k class.CatchClause) → holds_names k ≡ true
catch_alone kind.CatchClause h = refl
catch_alone _ h = absurd (true≢false (sym h))

held_kind : (k : Kind) (ts : List Node) (s : Slot) → is_block_slot s ≡ true → IsTrue (tree_fits k (map fits ts) (single s)) → holds_names k ≡ true
held_kind k ts (slot.One (content.Node class.BlockStmt)) q h = block_alone k (both (belongs k class.BlockStmt) (each_fits (slots_of k) (map fits ts)) (both (not (is_identifier k)) (belongs k class.BlockStmt && each_fits (slots_of k) (map fits ts)) h).1).0
held_kind k ts (slot.Optional (content.Node class.BlockStmt)) q h = block_alone k (both (belongs k class.BlockStmt) (each_fits (slots_of k) (map fits ts)) (both (not (is_identifier k)) (belongs k class.BlockStmt && each_fits (slots_of k) (map fits ts)) h).1).0
held_kind k ts (slot.Optional (content.Node class.CatchClause)) q h = catch_alone k (both (belongs k class.CatchClause) (each_fits (slots_of k) (map fits ts)) (both (not (is_identifier k)) (belongs k class.CatchClause && each_fits (slots_of k) (map fits ts)) h).1).0
held_kind k ts _ q h = absurd (true≢false (sym q))

names_held : (w : Place) (k : Kind) (ts : List Node) (j : ℕ) → holds_names k ≡ true → is_statement_place w.standing ≡ true → own (opened_in w (Node-F.Tree k ts)) (view_in (Node-F.Tree k ts) j) standing.Lexical ≡ Some []
names_held w kind.BlockStmt ts j h p = block_takes w ts j p
names_held w kind.CatchClause ts j h p = catch_takes w ts j
names_held w _ ts j h p = absurd (cc)

no_child_of : (v : Place) (d : Node) (x : Binding) → is_no_identifier (out-Node d) ≡ true → ((i : ℕ) → child d i ≡ None) → Below v d x None → ⊥
no_child_of v d x n none g = let (i, c, z, h, e) = to_child v d x None tt n g in let y : Some c ≡ None = sym z ∙ none i in absurd (cc)

identifier_apart : (k : Kind) → IsTrue (is_identifier k) → holds_names k ≡ true → ⊥
identifier_apart kind.BlockStmt h q = absurd (cc)
identifier_apart kind.CatchClause h q = absurd (cc)
identifier_apart _ h q = absurd (cc)

no_identifier : (k : Kind) (s : Slot) → is_block_slot s ≡ true → IsTrue (identifier_fits k (single s)) → ⊥
no_identifier k (slot.One (content.Node class.BlockStmt)) q h = let p = both (is_identifier k) (belongs k class.BlockStmt) h in identifier_apart k p.0 (block_alone k p.1)
no_identifier k (slot.Optional (content.Node class.BlockStmt)) q h = let p = both (is_identifier k) (belongs k class.BlockStmt) h in identifier_apart k p.0 (block_alone k p.1)
no_identifier k (slot.Optional (content.Node class.CatchClause)) q h = let p = both (is_identifier k) (belongs k class.CatchClause) h in identifier_apart k p.0 (catch_alone k p.1)
no_identifier k _ q h = absurd (true≢false (sym q))

no_list : (ts : List Node) (s : Slot) → is_block_slot s ≡ true → IsTrue (list_fits (map fits ts) s) → ⊥
no_list ts (slot.One (content.Node class.BlockStmt)) q h = absurd (cc)
no_list ts (slot.Optional (content.Node class.BlockStmt)) q h = absurd (cc)
no_list ts (slot.Optional (content.Node class.CatchClause)) q h = absurd (cc)
no_list ts _ q h = absurd (true≢false (sym q))

block_held : (v : Place) (d : Node) (s : Slot) (x : Binding) (y : Node-F Node) → out-Node d ≡ y → Fits d s → is_block_slot s ≡ true → is_statement_place v.standing ≡ true → x.0 ≡ standing.Lexical → Below v d x None → ⊥
block_held v d s x (Node-F.Tree k ts) o fit q place l g =
    let (j, c, z, h, e) = to_child v d x None tt (ap is_no_identifier o) g in
    taken_not (own (opened_in v (Node-F.Tree k ts)) (view_in (Node-F.Tree k ts) j) standing.Lexical) (names_held v k ts j (held_kind k ts s q (layer d (Node-F.Tree k ts) s o fit)) place)
    (sym (λ i. own (opened_in v (o i)) (view_in (o i) j) (l i)) ∙ e)
block_held v d s x (Node-F.List ts) o fit q place l g = no_list ts s q (layer d (Node-F.List ts) s o fit)
block_held v d s x (Node-F.Identifier k i) o fit q place l g = no_identifier k s q (layer d (Node-F.Identifier k i) s o fit)
block_held v d s x Node-F.Absent o fit q place l g = no_child_of v d x (ap is_no_identifier o) (λ i. ap (λ y. slice_get (children_in y) i) o) g
block_held v d s x (Node-F.Flag b) o fit q place l g = no_child_of v d x (ap is_no_identifier o) (λ i. ap (λ y. slice_get (children_in y) i) o) g
block_held v d s x (Node-F.Word b) o fit q place l g = no_child_of v d x (ap is_no_identifier o) (λ i. ap (λ y. slice_get (children_in y) i) o) g
block_held v d s x (Node-F.Text b) o fit q place l g = no_child_of v d x (ap is_no_identifier o) (λ i. ap (λ y. slice_get (children_in y) i) o) g
block_held v d s x (Node-F.Span b) o fit q place l g = no_child_of v d x (ap is_no_identifier o) (λ i. ap (λ y. slice_get (children_in y) i) o) g

-- statements in statements
abbrev is_nest : Kind → Bool
is_nest kind.WithStmt = true
is_nest kind.LabeledStmt = true
is_nest kind.IfStmt = true
is_nest kind.WhileStmt = true
is_nest kind.DoWhileStmt = true
is_nest _ = false

abbrev is_try : Kind → Bool
is_try kind.TryStmt = true
is_try _ = false

abbrev pub is_statement_slot : Slot → Bool
is_statement_slot (slot.One (content.Node class.Stmt)) = true
is_statement_slot (slot.Optional (content.Node class.Stmt)) = true
is_statement_slot _ = false

abbrev is_plain : Role → Bool
is_plain role.Plain = true
is_plain _ = false

abbrev field_open : Kind → ℕ → Field → Bool
field_open k i f = cond (is_nest k && leaks k i) (is_statement_slot f.1 && is_plain f.2) true && cond (is_try k && leaks k i) (is_block_slot f.1 && is_plain f.2) true

kind_open : (k : Kind) → all_fine (field_open k) (fields_of k) ≡ true
kind_open kind.Module = refl
kind_open _ = refl

plain_is : (x : Role) → is_plain x ≡ true → x ≡ role.Plain
plain_is role.Plain h = refl
plain_is _ h = absurd (cc)

plain_place : (k : Kind) (i : ℕ) → (is_nest k || is_try k) ≡ true → is_statement_place (plain_standing k i) ≡ true
plain_place kind.IfStmt i h = at (i == 2 || i == 3)
  where
    at : (b : Bool) → is_statement_place (cond b standing.Branch standing.Plain) ≡ true
    at true = refl
    at false = refl
plain_place kind.ExportDefaultDecl i h = absurd (true≢false (sym h))
plain_place _ i h = refl

-- what is asked of a statement in a statement
abbrev Nested : Round → Node → Type 0
Nested r d = ((sound d r ≡ true) × (is_branch r.strict (form d) ≡ true)) ⊎ (is_absent d ≡ true)

pub body_branch : (strict : Bool) (f : Form) → is_body f ≡ true → is_branch strict f ≡ true
body_branch strict Ordinary h = refl
body_branch strict _ h = absurd (cc)

with_sound : (x o b : Node) (r : Round) → sound_in (Node-F.Tree kind.WithStmt (of x ∷ of o ∷ of b ∷ [])) r ≡ true → Nested r b
with_sound x o b r h = let p = half {a = all_sound (of o ∷ []) (binding r)} h in let q = half {a = is_body (form b)} p.1 in inl (q.1, body_branch r.strict (form b) q.0)

while_sound : (x o b : Node) (r : Round) → sound_in (Node-F.Tree kind.WhileStmt (of x ∷ of o ∷ of b ∷ [])) r ≡ true → Nested r b
while_sound x o b r h = let p = half {a = all_sound (of o ∷ []) (binding r)} h in let q = half {a = is_body (form b)} p.1 in inl (q.1, body_branch r.strict (form b) q.0)

do_sound : (x b o : Node) (r : Round) → sound_in (Node-F.Tree kind.DoWhileStmt (of x ∷ of b ∷ of o ∷ [])) r ≡ true → Nested r b
do_sound x b o r h = let p = half {a = all_sound (of o ∷ []) (binding r)} h in let q = half {a = is_body (form b)} p.1 in inl (q.1, body_branch r.strict (form b) q.0)

label_sound : (x n b : Node) (r : Round) → sound_in (Node-F.Tree kind.LabeledStmt (of x ∷ of n ∷ of b ∷ [])) r ≡ true → Nested r b
label_sound x n b r h = let p = half {a = sound n r} h in let q = half {a = is_branch r.strict (form b)} p.1 in inl (q.1, q.0)

cons_sound : (x o b a : Node) (r : Round) → sound_in (Node-F.Tree kind.IfStmt (of x ∷ of o ∷ of b ∷ of a ∷ [])) r ≡ true → Nested r b
cons_sound x o b a r h = let p = half {a = all_sound (of o ∷ []) (binding r)} h in let q = half {a = is_branch r.strict (form b) && sound b r} p.1 in let c = half {a = is_branch r.strict (form b)} q.0 in inl (c.1, c.0)

absent_or : (a : Node) (r : Round) (y : Bool) → is_absent a ≡ y → (y || (is_branch r.strict (form a) && sound a r)) ≡ true → Nested r a
absent_or a r true e h = inr e
absent_or a r false e h = let c = half {a = is_branch r.strict (form a)} h in inl (c.1, c.0)

alt_sound : (x o b a : Node) (r : Round) → sound_in (Node-F.Tree kind.IfStmt (of x ∷ of o ∷ of b ∷ of a ∷ [])) r ≡ true → Nested r a
alt_sound x o b a r h = let p = half {a = all_sound (of o ∷ []) (binding r)} h in let q = half {a = is_branch r.strict (form b) && sound b r} p.1 in absent_or a r (is_absent a) refl q.1

item_is : {c d : Node} → Some c ≡ Some d → c ≡ d
item_is e = cc

nest_sound : (k : Kind) (ts : List Node) (r : Round) (j : ℕ) (d : Node) → is_nest k ≡ true → leaks k j ≡ true → length ts ≡ length (slots_of k) → sound_in (Node-F.Tree k (map of ts)) r ≡ true → slice_get ts j ≡ Some d → Nested r d
nest_sound kind.WithStmt ts r j d q lk n h e = let two : j ≡ 2 = same_number j 2 lk in exact3 (λ ts. sound_in (Node-F.Tree kind.WithStmt (map of ts)) r ≡ true → slice_get ts 2 ≡ Some d → Nested r d) ts n (λ x o b h e. subst (Nested r) (item_is e) (with_sound x o b r h)) h (ap (slice_get ts) (sym two) ∙ e)
nest_sound kind.WhileStmt ts r j d q lk n h e = let two : j ≡ 2 = same_number j 2 lk in exact3 (λ ts. sound_in (Node-F.Tree kind.WhileStmt (map of ts)) r ≡ true → slice_get ts 2 ≡ Some d → Nested r d) ts n (λ x o b h e. subst (Nested r) (item_is e) (while_sound x o b r h)) h (ap (slice_get ts) (sym two) ∙ e)
nest_sound kind.DoWhileStmt ts r j d q lk n h e = let one : j ≡ 1 = same_number j 1 lk in exact3 (λ ts. sound_in (Node-F.Tree kind.DoWhileStmt (map of ts)) r ≡ true → slice_get ts 1 ≡ Some d → Nested r d) ts n (λ x b o h e. subst (Nested r) (item_is e) (do_sound x b o r h)) h (ap (slice_get ts) (sym one) ∙ e)
nest_sound kind.LabeledStmt ts r j d q lk n h e = let two : j ≡ 2 = same_number j 2 lk in exact3 (λ ts. sound_in (Node-F.Tree kind.LabeledStmt (map of ts)) r ≡ true → slice_get ts 2 ≡ Some d → Nested r d) ts n (λ x l b h e. subst (Nested r) (item_is e) (label_sound x l b r h)) h (ap (slice_get ts) (sym two) ∙ e)
nest_sound kind.IfStmt ts r j d q lk n h e = by (j == 2) refl
  where
    by : (b : Bool) → (j == 2) ≡ b → Nested r d
    by true z = let two : j ≡ 2 = same_number j 2 z in exact4 (λ ts. sound_in (Node-F.Tree kind.IfStmt (map of ts)) r ≡ true → slice_get ts 2 ≡ Some d → Nested r d) ts n (λ x o b a h e. subst (Nested r) (item_is e) (cons_sound x o b a r h)) h (ap (slice_get ts) (sym two) ∙ e)
    by false z =
        let later : (j == 3) ≡ true = sym (ap (λ b. b || j == 3) z) ∙ lk in
        let three : j ≡ 3 = same_number j 3 later in
        exact4 (λ ts. sound_in (Node-F.Tree kind.IfStmt (map of ts)) r ≡ true → slice_get ts 3 ≡ Some d → Nested r d) ts n (λ x o b a h e. subst (Nested r) (item_is e) (alt_sound x o b a r h)) h (ap (slice_get ts) (sym three) ∙ e)
nest_sound _ ts r j d q lk n h e = absurd (cc)

-- a declaration by `var` declares nothing lexical
var_form : (strict : Bool) (b : Node) → is_branch strict (form_of_word (word_of b)) ≡ true → (rest : Standing) → keyword_in (out-Node b) rest ≡ standing.Variable
var_form strict b h rest = by (out-Node b) h
  where
    words : (w : Word) → is_branch strict (form_of_word (Some w)) ≡ true → by_word w ≡ standing.Variable
    words word.Var h = refl
    words _ h = absurd (cc)

    by : (y : Node-F Node) → is_branch strict (form_of_word (word_in y)) ≡ true → keyword_in y rest ≡ standing.Variable
    by (Node-F.Word w) h = words w h
    by Node-F.Absent h = absurd (cc)
    by _ h = absurd (cc)

span_rest : (a : Node) (y : Node-F Node) (rest : Standing) → out-Node a ≡ y → Fits a (slot.One content.Span) → keyword_in y rest ≡ rest
span_rest a (Node-F.Word w) rest o fit = let z = layer a (Node-F.Word w) (slot.One content.Span) o fit in absurd (cc)
span_rest a Node-F.Absent rest o fit = refl
span_rest a _ rest o fit = refl

var_keyword : (strict : Bool) (ts : List Node) → FieldsFit (slots_of kind.VarDecl) ts → is_branch strict (form_in (Node-F.Tree kind.VarDecl ts)) ≡ true → by_keyword ts ≡ standing.Variable
var_keyword strict ts fit h = exact3 (λ ts. FieldsFit (slots_of kind.VarDecl) ts → is_branch strict (form_in (Node-F.Tree kind.VarDecl ts)) ≡ true → by_keyword ts ≡ standing.Variable) ts (lengths (slots_of kind.VarDecl) ts fit)
    (λ a b c fit h. span_rest a (out-Node a) (keyword_in (out-Node b) (by_keyword (c ∷ []))) refl fit.0 ∙ var_form strict b h (by_keyword (c ∷ []))) fit h

or_second : (a b : Bool) → b ≡ true → (a || b) ≡ true
or_second true b h = refl
or_second false b h = h

-- no statement that may stand in a statement leaves a lexical name
abbrev pub Closed : Node → Type 0
Closed c = (w : Place) (s : Slot) (x : Binding) (r : Round) → Fits c s → is_statement_slot s ≡ true → sound c r ≡ true → is_branch r.strict (form c) ≡ true → is_statement_place w.standing ≡ true → x.0 ≡ standing.Lexical → Below w c x None → ⊥

among_statements : (k : Kind) (ts : List Node) → IsTrue (not (is_identifier k) && (belongs k class.Stmt && each_fits (slots_of k) (map fits ts))) → IsTrue (belongs k class.Stmt)
among_statements k ts h = (both (belongs k class.Stmt) (each_fits (slots_of k) (map fits ts)) (both (not (is_identifier k)) (belongs k class.Stmt && each_fits (slots_of k) (map fits ts)) h).1).0

statement_kind : (k : Kind) (ts : List Node) (s : Slot) → is_statement_slot s ≡ true → IsTrue (tree_fits k (map fits ts) (single s)) → IsTrue (belongs k class.Stmt)
statement_kind k ts (slot.One (content.Node class.Stmt)) q h = among_statements k ts h
statement_kind k ts (slot.Optional (content.Node class.Stmt)) q h = among_statements k ts h
statement_kind k ts _ q h = absurd (true≢false (sym q))

switch_takes : (w : Place) (ts : List Node) (j : ℕ) → j ≡ 2 → own (opened_in w (Node-F.Tree kind.SwitchStmt ts)) (view_in (Node-F.Tree kind.SwitchStmt ts) j) standing.Lexical ≡ Some []
switch_takes w ts j e = ap (λ j. own (opened_in w (Node-F.Tree kind.SwitchStmt ts)) (view_in (Node-F.Tree kind.SwitchStmt ts) j) standing.Lexical) e

-- how a lexical name might leave a statement
abbrev Ways : Place → Kind → List Node → ℕ → Type 0
Ways w k ts j = (is_nest k ≡ true) ⊎ ((is_try k ≡ true) ⊎ ((own (opened_in w (Node-F.Tree k ts)) (view_in (Node-F.Tree k ts) j) standing.Lexical ≡ Some []) ⊎ (k ≡ kind.VarDecl)))

ways : (w : Place) (k : Kind) (ts : List Node) (j : ℕ) (strict : Bool) → IsTrue (belongs k class.Stmt) → leaks k j ≡ true → is_statement_place w.standing ≡ true → is_branch strict (form_in (Node-F.Tree k ts)) ≡ true → Ways w k ts j
ways w kind.BlockStmt ts j strict a lk p b = inr (inr (inl (block_takes w ts j p)))
ways w kind.ForStmt ts j strict a lk p b = inr (inr (inl refl))
ways w kind.ForInStmt ts j strict a lk p b = inr (inr (inl refl))
ways w kind.ForOfStmt ts j strict a lk p b = inr (inr (inl refl))
ways w kind.SwitchStmt ts j strict a lk p b = inr (inr (inl (switch_takes w ts j (same_number j 2 lk))))
ways w kind.TryStmt ts j strict a lk p b = inr (inl refl)
ways w kind.WithStmt ts j strict a lk p b = inl refl
ways w kind.LabeledStmt ts j strict a lk p b = inl refl
ways w kind.IfStmt ts j strict a lk p b = inl refl
ways w kind.WhileStmt ts j strict a lk p b = inl refl
ways w kind.DoWhileStmt ts j strict a lk p b = inl refl
ways w kind.VarDecl ts j strict a lk p b = inr (inr (inr refl))
ways w kind.ClassDecl ts j strict a lk p b = absurd (cc)
ways w kind.UsingDecl ts j strict a lk p b = absurd (cc)
ways w kind.TsEnumDecl ts j strict a lk p b = absurd (cc)
ways w kind.TsModuleDecl ts j strict a lk p b = absurd (cc)
ways w _ ts j strict a lk p b = absurd (true≢false (sym lk))

some_field : {f g : Field} → Some f ≡ Some g → f ≡ g
some_field e = cc

variable_left : (r : Standing) → r ≡ standing.Variable → may (leaves_slot (slot.List (content.Node class.VarDeclarator))) (same r standing.Lexical) standing.Lexical ≡ true → ⊥
variable_left r e m = let z : false ≡ true = (λ i. may (leaves_slot (slot.List (content.Node class.VarDeclarator))) (same (sym e i) standing.Lexical) standing.Lexical) ∙ m in absurd (cc)

abbrev VarCase : Place → List Node → ℕ → Field → Bool → Kind → Type 0
VarCase w ts j f strict k = slice_get (fields_of k) j ≡ Some f → leaks k j ≡ true → FieldsFit (slots_of k) ts → is_branch strict (form_in (Node-F.Tree k ts)) ≡ true
    → may (leaves_slot f.1) (same (standing_below w k ts j f.2) standing.Lexical) standing.Lexical ≡ true → ⊥

var_case : (w : Place) (ts : List Node) (j : ℕ) (f : Field) (strict : Bool) → VarCase w ts j f strict kind.VarDecl
var_case w ts j f strict number lk fit branch m =
    let two : j ≡ 2 = same_number j 2 lk in at (sym (ap (slice_get (fields_of kind.VarDecl)) two) ∙ number)
  where
    at : slice_get (fields_of kind.VarDecl) 2 ≡ Some f → ⊥
    at e = variable_left (by_keyword ts) (var_keyword strict ts fit branch)
        (subst (λ (g : Field). may (leaves_slot g.1) (same (standing_below w kind.VarDecl ts j g.2) standing.Lexical) standing.Lexical ≡ true) (sym (some_field e)) m)

absent_form : (d : Node) (v : Place) (x : Binding) (y : Node-F Node) → out-Node d ≡ y → is_absent_in y ≡ true → Below v d x None → ⊥
absent_form d v x Node-F.Absent o h g = no_child_of v d x (ap is_no_identifier o) (λ i. ap (λ y. slice_get (children_in y) i) o) g
absent_form d v x (Node-F.Flag b) o h g = absurd (cc)
absent_form d v x _ o h g = absurd (cc)

closed_tree : (t : Node) (k : Kind) (ts : List Node) → out-Node t ≡ Node-F.Tree k ts → ((j : ℕ) (c : Node) → child t j ≡ Some c → Closed c) → Closed t
closed_tree t k ts o below w s x r fit q h branch place l g0 = at (to_child w t x None tt (ap is_no_identifier o) g0)
  where
    among : IsTrue (belongs k class.Stmt)
    among = statement_kind k ts s q (layer t (Node-F.Tree k ts) s o fit)

    fields : FieldsFit (slots_of k) ts
    fields = fields_at t k ts s o fit

    sound_here : sound_in (Node-F.Tree k (map of ts)) r ≡ true
    sound_here = sym (sound_tree k ts r) ∙ ap (λ t. sound t r) (sym (is_tree t k ts o)) ∙ h

    form_here : is_branch r.strict (form_in (Node-F.Tree k ts)) ≡ true
    form_here = ap (λ y. is_branch r.strict (form_in y)) (sym o) ∙ branch

    at : FromChild w t x None → ⊥
    at (j, d, z, g, e) = with_field (field_at t d k ts s j o fit z)
      where
        taken : own (opened_in w (Node-F.Tree k ts)) (view_in (Node-F.Tree k ts) j) standing.Lexical ≡ None
        taken = sym (λ i. own (opened_in w (o i)) (view_in (o i) j) (l i)) ∙ e

        with_field : (f : Field) × (slice_get (fields_of k) j ≡ Some f) × Fits d f.1 → ⊥
        with_field (f, number, d_fits) = ⊎_elim nested (λ m. ⊎_elim tried (λ m. ⊎_elim (λ s. taken_not _ s taken) (λ v. subst (VarCase w ts j f r.strict) (sym v) (var_case w ts j f r.strict) number lk fields form_here left) m) m) (ways w k ts j r.strict among lk place form_here)
          where
            fine : field_fine k j f ≡ true
            fine = fine_at (field_fine k) (fields_of k) j f (kind_fine k) number

            known : is_known f.2 ≡ true
            known = then_so (belongs k class.Stmt) true (is_known f.2) (half {a = cond (belongs k class.Stmt && may (leaves_slot f.1) (could f.2) standing.Lexical) (leaks k j) true} fine).1 among refl

            stands : (place_below w t j).standing ≡ standing_below w k ts j f.2
            stands = field_stands w t k ts j f o number

            left : may (leaves_slot f.1) (same (standing_below w k ts j f.2) standing.Lexical) standing.Lexical ≡ true
            left = sym (λ i. may (leaves_slot f.1) (same (stands i) (l i)) (l i))
                ∙ left_fits d (place_below w t j) f.1 x d_fits (subst (λ r. r ≢ standing.DefaultExport) (sym stands) (default_not w k ts j f.2 among known)) ((pends d (place_below w t j) x).1 g)

            lk : leaks k j ≡ true
            lk = then_so (belongs k class.Stmt) (may (leaves_slot f.1) (could f.2) standing.Lexical) (leaks k j) (half {a = cond (belongs k class.Stmt && may (leaves_slot f.1) (could f.2) standing.Lexical) (leaks k j) true} fine).0 among
                (may_more f.1 (same (standing_below w k ts j f.2) standing.Lexical) (could f.2) (could_so w k ts j f.2) left)

            opens : field_open k j f ≡ true
            opens = fine_at (field_open k) (fields_of k) j f (kind_open k) number

            plain : (is_nest k || is_try k) ≡ true → is_plain f.2 ≡ true → is_statement_place (place_below w t j).standing ≡ true
            plain n p = ap is_statement_place (stands ∙ ap (standing_below w k ts j) (plain_is f.2 p)) ∙ plain_place k j n

            nested : is_nest k ≡ true → ⊥
            nested n = ⊎_elim (λ (p : (sound d r ≡ true) × (is_branch r.strict (form d) ≡ true)). below j d z (place_below w t j) f.1 x r d_fits parts.0 p.0 p.1 (plain (ap (λ b. b || is_try k) n) parts.1) l g) (λ (a : is_absent d ≡ true). absent_form d (place_below w t j) x (out-Node d) refl a g)
                (nest_sound k ts r j d n lk (lengths (slots_of k) ts fields) sound_here (sym (ap (λ y. slice_get (children_in y) j) o) ∙ z))
              where
                parts : (is_statement_slot f.1 ≡ true) × (is_plain f.2 ≡ true)
                parts = half (then_so (is_nest k) (leaks k j) (is_statement_slot f.1 && is_plain f.2) (half {a = cond (is_nest k && leaks k j) (is_statement_slot f.1 && is_plain f.2) true} opens).0 n lk)

            tried : is_try k ≡ true → ⊥
            tried n = block_held (place_below w t j) d f.1 x (out-Node d) refl d_fits parts.0 (plain (or_second (is_nest k) (is_try k) n) parts.1) l g
              where
                parts : (is_block_slot f.1 ≡ true) × (is_plain f.2 ≡ true)
                parts = half (then_so (is_try k) (leaks k j) (is_block_slot f.1 && is_plain f.2) (half {a = cond (is_nest k && leaks k j) (is_statement_slot f.1 && is_plain f.2) true} opens).1 n lk)

identifier_statement : (k : Kind) → IsTrue (is_identifier k) → IsTrue (belongs k class.Stmt) → ⊥
identifier_statement kind.Ident h q = absurd (cc)
identifier_statement kind.BindingIdent h q = absurd (cc)
identifier_statement _ h q = absurd (cc)

no_name : (k : Kind) (s : Slot) → is_statement_slot s ≡ true → IsTrue (identifier_fits k (single s)) → ⊥
no_name k (slot.One (content.Node class.Stmt)) q h = let p = both (is_identifier k) (belongs k class.Stmt) h in identifier_statement k p.0 p.1
no_name k (slot.Optional (content.Node class.Stmt)) q h = let p = both (is_identifier k) (belongs k class.Stmt) h in identifier_statement k p.0 p.1
no_name k _ q h = absurd (cc)

no_items : (ts : List Node) (s : Slot) → is_statement_slot s ≡ true → IsTrue (list_fits (map fits ts) s) → ⊥
no_items ts (slot.One (content.Node class.Stmt)) q h = absurd (cc)
no_items ts (slot.Optional (content.Node class.Stmt)) q h = absurd (cc)
no_items ts _ q h = absurd (cc)

closed_in : (t : Node) → ((j : ℕ) (c : Node) → child t j ≡ Some c → Closed c) → (y : Node-F Node) → out-Node t ≡ y → Closed t
closed_in t below (Node-F.Tree k ts) o = closed_tree t k ts o below
closed_in t below (Node-F.List ts) o = λ w s x r fit q h b p l g. no_items ts s q (layer t (Node-F.List ts) s o fit)
closed_in t below (Node-F.Identifier k i) o = λ w s x r fit q h b p l g. no_name k s q (layer t (Node-F.Identifier k i) s o fit)
closed_in t below Node-F.Absent o = λ w s x r fit q h b p l g. no_child_of w t x (ap is_no_identifier o) (λ i. ap (λ y. slice_get (children_in y) i) o) g
closed_in t below (Node-F.Flag v) o = λ w s x r fit q h b p l g. no_child_of w t x (ap is_no_identifier o) (λ i. ap (λ y. slice_get (children_in y) i) o) g
closed_in t below (Node-F.Word v) o = λ w s x r fit q h b p l g. no_child_of w t x (ap is_no_identifier o) (λ i. ap (λ y. slice_get (children_in y) i) o) g
closed_in t below (Node-F.Text v) o = λ w s x r fit q h b p l g. no_child_of w t x (ap is_no_identifier o) (λ i. ap (λ y. slice_get (children_in y) i) o) g
closed_in t below (Node-F.Span v) o = λ w s x r fit q h b p l g. no_child_of w t x (ap is_no_identifier o) (λ i. ap (λ y. slice_get (children_in y) i) o) g

pub closed : (t : Node) → Closed t
closed = by_children Closed (λ t below. closed_in t below (out-Node t) refl)
