-- A settled script has no plain function in a block of sloppy code; and a script that has none, nor a label that names a function,
-- is settled, if it can be written down.
use Rattle.std.proofs.Common.{◌≡◌, ◌≢◌, ℕ, zero, suc, Bool, true, false, not, ◌&&◌, ◌||◌, ◌⊎◌, inl, inr, ⊎_elim, Option, Some, None, List, [], ◌∷◌, map, refl, sym, ap, ◌∙◌, cond, rules, true≢false}
use Rattle.std.specs.List.{list_all, slice_get}
use Rattle.std.specs.Prelude.{unwrap_or, option_map}
use Rattle.swc_tree_marks.specs.declared.ident.Ident.{Ident}
use Rattle.swc_tree_node.specs.declared.kind.Kind.{Kind}
use Rattle.swc_tree_node.specs.declared.kind.Kind.TheVariants as kind
use Rattle.swc_tree_node.specs.declared.kind.Class.{Class}
use Rattle.swc_tree_node.specs.declared.kind.Class.TheVariants as class
use Rattle.swc_tree_node.specs.declared.slot.Content.TheVariants as content
use Rattle.swc_tree_node.specs.declared.slot.Role.{Role}
use Rattle.swc_tree_node.specs.declared.slot.Role.TheVariants as role
use Rattle.swc_tree_node.specs.declared.slot.Slot.{Slot}
use Rattle.swc_tree_node.specs.declared.slot.Slot.TheVariants as slot
use Rattle.swc_tree_node.specs.declared.node.Node.{Node, List as Many, Identifier, Tree, out-Node, the_lemmas}
use Rattle.swc_tree_node.specs.declared.node.Node.TheOpen.{Node-F}
use Rattle.swc_tree_node.specs.declared.node.Node.TheVariants.{outs-List, outs-Tree}
use Rattle.swc_tree_node.specs.Table.{fields_of, slots_of}
use Rattle.swc_tree_node.specs.Fits.{AllFit, FieldsFit, Fits, belongs, single}
use Rattle.swc_tree_node.proofs.Fit.{fits-List}
use Rattle.swc_tree_scoping.specs.declared.places.Standing.{Standing}
use Rattle.swc_tree_scoping.specs.declared.places.Standing.TheVariants as standing
use Rattle.swc_tree_scoping.specs.declared.places.Place.{Place}
use Rattle.swc_tree_scoping.specs.Places.{Path, binds_patterns, by_keyword, children_in, field_role, given, is_branch, is_identifier_expression, is_plain_function, own_name, part_standing, place_at, place_in, plain_standing, program_place, standing_below}
use Rattle.swc_tree_scoping.specs.Folds.{each_in}
use Rattle.swc_tree_scoping.proofs.Under.{place_under}
use Rattle.swc_tree_renaming.specs.Apart.{HasNoSloppy, IsSettled, labels_no_function}
use Rattle.swc_tree_renaming.proofs.Strict.{no_sloppy_in_modules}
use Rattle.swc_tree_grammar.specs.Forms.{Form, form, form_in, form_of_function, is_branch as may_stand}
use Rattle.swc_tree_grammar.specs.Forms.Form.{Ordinary, PlainFunction, Declaring, Using}
use Rattle.swc_tree_grammar.specs.Levels.{is_absent, is_absent_in}
use Rattle.swc_tree_grammar.specs.Shapes.{If}
use Rattle.swc_tree_grammar.specs.Writable.{Round, Writable, in_head_in, sound_in}
use Rattle.swc_tree_grammar.proofs.Asked.{asked, same}
use Rattle.swc_tree_grammar.proofs.Induction.{Each, by_children}
use Rattle.swc_tree_grammar.proofs.Places.{Stands, stands}
use Rattle.swc_tree_grammar_laws.specs.Every.{every}
use Rattle.swc_tree_grammar_laws.proofs.Every.{every_list, every_tree}
use Rattle.swc_tree_grammar_laws.proofs.Levelled.{also, both, half}
use Rattle.swc_tree_sites.proofs.Leaves.{Field}
use Rattle.swc_tree_sites.proofs.Pending.{keyword_cases}
use Rattle.swc_tree_sites_written.proofs.Branches.{identifier_class}
use Rattle.swc_tree_sites_written.proofs.Goes.{implied}
use Rattle.swc_base_fixer_laws.specs.Sets.{item}
use Rattle.swc_base_fixer_laws.proofs.Everywhere.{Everywhere, Parts, everywhere}
use Rattle.swc_base_fixer_laws.proofs.Everywhere.Parts.{none, more}
use Rattle.swc_base_fixer_laws.proofs.Quiet.{is_quiet, items_fit}
use Rattle.swc_tree_sites_kept.specs.Scripts.{script_place}
use Rattle.swc_tree_sites_kept.specs.Settled.{is_loose_in, is_settled}
use Rattle.swc_tree_sites_kept.proofs.Bridge.{all_at, settled_place, strictly}
use Rattle.swc_tree_sites_kept.proofs.KeepsPlaces.{absent_settled, flag_settled, list_out, name_settled, not_true, settled_from, span_settled, text_settled, word_settled}
use Rattle.swc_tree_sites_kept.proofs.Labels.{label_in, labels_out, settled_names_none}

-- ---- a settled script has none

-- the fields of a script stand in strict code as those of a module
module_place_in : (ts : List Node) (i : ℕ) → place_in (strictly program_place) (Node-F.Tree kind.Script ts) i ≡ place_in program_place (Node-F.Tree kind.Module ts) i
module_place_in ts zero = refl
module_place_in ts (suc zero) = refl
module_place_in ts (suc (suc zero)) = refl
module_place_in ts (suc (suc (suc i))) = refl

abbrev under : Place → List Node → ℕ → Path → Node-F Node → Option (Place × Node)
under w ts i p y = given (slice_get (children_in y) i) None (λ c. place_at (place_in w y i) c p)

place_of_module : (ts : List Node) (i : ℕ) (p : Path) → place_at (strictly program_place) (Tree kind.Script ts) (i ∷ p) ≡ place_at program_place (Tree kind.Module ts) (i ∷ p)
place_of_module ts i p =
    ap (under (strictly program_place) ts i p) (outs-Tree kind.Script ts) ∙ ap (λ v. given (slice_get ts i) None (λ c. place_at v c p)) (module_place_in ts i)
    ∙ sym (ap (under program_place ts i p) (outs-Tree kind.Module ts))

some_same : (a b : Place × Node) → Some a ≡ Some b → a ≡ b
some_same a b e = cc

settled_has_none : (ts : List Node) → is_settled program_place (Tree kind.Script ts) ≡ true → HasNoSloppy (Tree kind.Script ts)
settled_has_none ts h [] v k x e g =
    let same : program_place ≡ v = ap (λ (q : Place × Node). q.0) (some_same (program_place, Tree kind.Script ts) (v, Identifier k x) e) in
    let z : standing.Plain ≡ standing.SloppyFunction = ap (λ (v : Place). v.standing) same ∙ g in absurd (cc)
settled_has_none ts h (i ∷ p) v k x e g =
    no_sloppy_in_modules (Tree kind.Module ts) ts (outs-Tree kind.Module ts) (i ∷ p) (strictly v) (Identifier k x)
    (sym (place_of_module ts i p) ∙ settled_place (i ∷ p) program_place v (Tree kind.Script ts) (Identifier k x) h e) g

pub script_settled : (ts : List Node) → is_settled program_place (Tree kind.Script ts) ≡ true → IsSettled (Tree kind.Script ts)
script_settled ts h = (settled_has_none ts h, settled_names_none (Tree kind.Script ts) program_place h)

-- ---- in what can be written down, no branch is an async function or a generator

abbrev may_branch : Node → Bool
may_branch t = may_stand false (form t)

abbrev branches_in : Node-F Node → Bool
branches_in (If span test cons alt) = may_branch cons && may_branch alt
branches_in _ = true

abbrev branches : Node → Bool
branches = every branches_in

weaker : (s : Bool) (f : Form) → may_stand s f ≡ true → may_stand false f ≡ true
weaker s Ordinary h = refl
weaker s PlainFunction h = refl
weaker s Declaring h = absurd (cc)
weaker s Using h = absurd (cc)

absent_branch : (y : Node-F Node) → is_absent_in y ≡ true → may_stand false (form_in y) ≡ true
absent_branch Node-F.Absent h = refl
absent_branch _ h = absurd (cc)

either : (a b c : Bool) → (a ≡ true → c ≡ true) → (b ≡ true → c ≡ true) → (a || b) ≡ true → c ≡ true
either true b c f g h = f refl
either false b c f g h = g h

branch_of : (t : Node) (s : Bool) → may_stand s (form (asked t).whole) ≡ true → may_branch t ≡ true
branch_of t s h = weaker s (form t) (sym (ap (λ t. may_stand s (form t)) (same t)) ∙ h)

no_quiet : (k : Kind) (ts : List Node) → list_all is_quiet (slots_of k) ≡ true → branches_in (Node-F.Tree k ts) ≡ true
no_quiet kind.IfStmt ts q = absurd (true≢false (sym q))
no_quiet k ts q = refl

by_sound : (k : Kind) (ts : List Node) → Parts branches (slots_of k) ts → (r : Round) → sound_in (Node-F.Tree k (map asked ts)) r ≡ true → branches_in (Node-F.Tree k ts) ≡ true
by_sound kind.IfStmt ts (more _ _ (more _ _ (more {t = c} _ _ (more {t = d} _ _ none)))) r h =
    let p = half h in let q = half p.1 in let m = half q.0 in
    also (branch_of c r.strict m.0)
    (either (is_absent (asked d).whole) (may_stand r.strict (form (asked d).whole) && (asked d).sound r) (may_branch d) (λ e. absent_branch (out-Node d) (sym (ap is_absent (same d)) ∙ e)) (λ e. branch_of d r.strict (half e).0) q.1)
by_sound k ts x r h = refl

no_head : (k : Kind) (ts : List Node) (r : Round) → in_head_in (Node-F.Tree k (map asked ts)) r ≡ true → branches_in (Node-F.Tree k ts) ≡ true
no_head kind.IfStmt ts r h = absurd (true≢false (sym h))
no_head k ts r h = refl

branching : Everywhere branches (λ k ts. branches_in (Node-F.Tree k ts))
branching = record {
  of_leaves = (search (rules, the_lemmas), λ x. search (rules, the_lemmas), λ w. search (rules, the_lemmas), λ x. search (rules, the_lemmas), λ r. search (rules, the_lemmas), λ k i. search (rules, the_lemmas));
  of_list = every_list branches_in;
  of_tree = every_tree branches_in;
  own_quiet = no_quiet;
  own_sound = by_sound;
  own_head = no_head;
}

-- ---- where a field stands as a branch

abbrev takes_statement : Slot → Bool
takes_statement (slot.One (content.Node class.Stmt)) = true
takes_statement (slot.Optional (content.Node class.Stmt)) = true
takes_statement _ = false

-- what stands as a branch is a statement that may
abbrev Fine : Place → Node → Slot → Type 0
Fine w t s = is_branch w.standing ≡ true → (may_branch t ≡ true) × (takes_statement s ≡ true)

abbrev is_inherited : Role → Bool
is_inherited role.Inherited = true
is_inherited _ = false

no_inherited : (k : Kind) → (not (belongs k class.Stmt) || list_all (λ f. not (is_inherited f.2)) (fields_of k)) ≡ true
no_inherited kind.Module = refl
no_inherited _ = refl

statement_kind : (k : Kind) (s : Slot) (c : Class) → takes_statement s ≡ true → single s ≡ Some (content.Node c) → belongs k c ≡ true → belongs k class.Stmt ≡ true
statement_kind k (slot.One (content.Node class.Stmt)) c t e b = let is : c ≡ class.Stmt = cc in ap (belongs k) (sym is) ∙ b
statement_kind k (slot.Optional (content.Node class.Stmt)) c t e b = let is : c ≡ class.Stmt = cc in ap (belongs k) (sym is) ∙ b
statement_kind k s c t e b = absurd (cc)

no_list : (s : Slot) (ts : List Node) → takes_statement s ≡ true → Fits (Many ts) s → ⊥
no_list (slot.One (content.Node class.Stmt)) ts t f = let z : false ≡ true = sym (fits-List ts (slot.One (content.Node class.Stmt))) ∙ f in absurd (cc)
no_list (slot.Optional (content.Node class.Stmt)) ts t f = let z : false ≡ true = sym (fits-List ts (slot.Optional (content.Node class.Stmt))) ∙ f in absurd (cc)
no_list s ts t f = absurd (cc)

chosen_branch : (b : Bool) (r : Standing) → is_branch (cond b standing.Reference r) ≡ true → is_branch r ≡ true
chosen_branch true r h = absurd (cc)
chosen_branch false r h = h

part_branch : (r : Standing) (o : Option Node) → is_branch (part_standing r o) ≡ true → is_branch r ≡ true
part_branch r o h = chosen_branch (binds_patterns r && is_identifier_expression o) r h

keyword_branch : (ts : List Node) → is_branch (by_keyword ts) ≡ true → ⊥
keyword_branch ts h = ⊎_elim (λ e. let z = sym h ∙ ap is_branch e in absurd (cc)) (λ e. let z = sym h ∙ ap is_branch e in absurd (cc)) (keyword_cases ts)

function_branch : (a b : Bool) → is_branch (cond a standing.Function (cond b standing.SloppyFunction standing.BlockFunction)) ≡ true → ⊥
function_branch true b h = absurd (cc)
function_branch false true h = absurd (cc)
function_branch false false h = absurd (cc)

-- by the standing alone, then by the kind: both at once have some 2,500 cases
own_branch_of_default : (k : Kind) → is_branch (own_name standing.DefaultExport k) ≡ true → ⊥
own_branch_of_default kind.FnExpr h = absurd (true≢false (sym h))
own_branch_of_default _ h = absurd (true≢false (sym h))

own_branch_of_expression : (k : Kind) → is_branch (own_name standing.Plain k) ≡ true → ⊥
own_branch_of_expression kind.FnExpr h = absurd (true≢false (sym h))
own_branch_of_expression _ h = absurd (true≢false (sym h))

own_branch : (r : Standing) (k : Kind) → is_branch (own_name r k) ≡ true → ⊥
own_branch standing.DefaultExport k h = own_branch_of_default k h
own_branch _ k h = own_branch_of_expression k h

list_branch : (b : Bool) → is_branch (cond b standing.Imported standing.Reference) ≡ true → ⊥
list_branch true h = absurd (cc)
list_branch false h = absurd (cc)

-- by its role: a field without one, or what stands as the whole does
by_role : (w : Place) (k : Kind) (ts : List Node) (i : ℕ) (x : Role) → is_branch (standing_below w k ts i x) ≡ true → (is_branch (plain_standing k i) ≡ true) ⊎ ((is_inherited x ≡ true) × (is_branch w.standing ≡ true))
by_role w k ts i role.Plain h = inl h
by_role w k ts i role.Inherited h = inr (refl, part_branch w.standing (slice_get ts i) h)
by_role w k ts i role.Declared h = absurd (keyword_branch ts h)
by_role w k ts i role.Function h = absurd (function_branch _ _ h)
by_role w k ts i role.OwnName h = absurd (own_branch w.standing k h)
by_role w k ts i role.Parameter h = let z = part_branch standing.Parameter (slice_get ts i) h in absurd (cc)
by_role w k ts i role.Catch h = let z = part_branch standing.CatchParameter (slice_get ts i) h in absurd (cc)
by_role w k ts i role.ExportLocal h = absurd (list_branch _ h)
by_role w k ts i _ h = absurd (cc)

default_branch : (b : Bool) → is_branch (cond b standing.DefaultExport standing.Plain) ≡ true → ⊥
default_branch true h = absurd (cc)
default_branch false h = absurd (cc)

some_field : (a b : Field) → Some a ≡ Some b → a ≡ b
some_field a b e = cc

-- the branches of an `if`
plain_fine : (k : Kind) (ts : List Node) (i : ℕ) (x : Field) (c : Node) → is_branch (plain_standing k i) ≡ true → branches_in (Node-F.Tree k ts) ≡ true → FieldsFit (slots_of k) ts → slice_get (fields_of k) i ≡ Some x → slice_get ts i ≡ Some c
    → (may_branch c ≡ true) × (takes_statement x.1 ≡ true)
plain_fine kind.IfStmt ts zero x c h b f e g = absurd (cc)
plain_fine kind.IfStmt ts (suc zero) x c h b f e g = absurd (cc)
plain_fine kind.IfStmt (u ∷ v ∷ y ∷ z ∷ []) (suc (suc zero)) x c h b f e g =
    let is : y ≡ c = cc in (ap may_branch (sym is) ∙ (both (may_branch y) (may_branch z) b).0, sym (ap (λ (f : Field). takes_statement f.1) (some_field _ x e)))
plain_fine kind.IfStmt (u ∷ v ∷ y ∷ z ∷ []) (suc (suc (suc zero))) x c h b f e g =
    let is : z ≡ c = cc in (ap may_branch (sym is) ∙ (both (may_branch y) (may_branch z) b).1, sym (ap (λ (f : Field). takes_statement f.1) (some_field _ x e)))
plain_fine kind.IfStmt ts (suc (suc (suc (suc i)))) x c h b f e g = absurd (cc)
plain_fine kind.IfStmt [] (suc (suc i)) x c h b f e g = absurd f
plain_fine kind.IfStmt (u ∷ []) (suc (suc i)) x c h b f e g = absurd f.1
plain_fine kind.IfStmt (u ∷ v ∷ []) (suc (suc i)) x c h b f e g = absurd f.1.1
plain_fine kind.IfStmt (u ∷ v ∷ y ∷ []) (suc (suc i)) x c h b f e g = absurd f.1.1.1
plain_fine kind.IfStmt (u ∷ v ∷ y ∷ z ∷ a ∷ ts) (suc (suc i)) x c h b f e g = absurd f.1.1.1.1
plain_fine kind.ExportDefaultDecl ts i x c h b f e g = absurd (default_branch _ h)
plain_fine _ ts i x c h b f e g = absurd (cc)

field_fine : (w : Place) (k : Kind) (ts : List Node) (s : Slot) → Stands k ts s → Fine w (Tree k ts) s → branches_in (Node-F.Tree k ts) ≡ true → (i : ℕ) (x : Field) (c : Node) → slice_get (fields_of k) i ≡ Some x → slice_get ts i ≡ Some c
    → Fine (place_in w (Node-F.Tree k ts) i) c x.1
field_fine w k ts s st fine b i x c e g h =
    let role_is : field_role k i ≡ x.2 = ap (λ o. unwrap_or (option_map (λ f. f.2) o) role.Plain) e in
    ⊎_elim (λ p. plain_fine k ts i x c p b st.fields e g) (λ (q : (is_inherited x.2 ≡ true) × (is_branch w.standing ≡ true)). absurd (inherits q.0 (fine q.1).1)) (by_role w k ts i x.2 (ap (λ r. is_branch (standing_below w k ts i r)) (sym role_is) ∙ h))
  where
    inherits : is_inherited x.2 ≡ true → takes_statement s ≡ true → ⊥
    inherits q t =
        let without = implied (belongs k class.Stmt) (list_all (λ f. not (is_inherited f.2)) (fields_of k)) (no_inherited k) (statement_kind k s st.in_class t st.place st.belonging) in
        let z : not true ≡ true = ap not (sym q) ∙ all_at (λ f. not (is_inherited f.2)) (fields_of k) i x without e in absurd (cc)

-- ---- a tree without such functions is settled, where its branches may be ones

abbrev NoneBelow : Place → Node → Type 0
NoneBelow w t = (p : Path) (v : Place) (k : Kind) (x : Ident) → place_at w t p ≡ Some (v, Identifier k x) → v.standing ≢ standing.SloppyFunction

none_below : (w : Place) (t : Node) (y : Node-F Node) → out-Node t ≡ y → NoneBelow w t → (i : ℕ) (c : Node) → slice_get (children_in y) i ≡ Some c → NoneBelow (place_in w y i) c
none_below w t y o n i c h p v k x e = n (i ∷ p) v k x (place_under w t c i p (ap (λ y. slice_get (children_in y) i) o ∙ h) ∙ ap (λ y. place_at (place_in w y i) c p) o ∙ e)

plain_form : (p : Bool) → may_stand false (form_of_function p) ≡ true → p ≡ true
plain_form true h = refl
plain_form false h = absurd (cc)

loose_flags : (s b n p : Bool) → (b ≡ true → p ≡ true) → cond (not (n || (b && not s))) standing.Function (cond (not s && p) standing.SloppyFunction standing.BlockFunction) ≢ standing.SloppyFunction → (not s && (b || (n && p))) ≡ false
loose_flags true b n p h g = refl
loose_flags false true n false h g = let z = h refl in absurd (cc)
loose_flags false true true true h g = absurd (g refl)
loose_flags false true false true h g = absurd (g refl)
loose_flags false false true true h g = absurd (g refl)
loose_flags false false true false h g = refl
loose_flags false false false p h g = refl

not_loose : (w : Place) (k : Kind) (ts : List Node) → FieldsFit (slots_of k) ts → label_in (Node-F.Tree k ts) ≡ false → (is_branch w.standing ≡ true → may_branch (Tree k ts) ≡ true) → NoneBelow w (Tree k ts) → is_loose_in w (Node-F.Tree k ts) ≡ false
not_loose w kind.FnDecl [] f b fine n = absurd f
not_loose w kind.FnDecl (i ∷ []) f b fine n = absurd f.1
not_loose w kind.FnDecl (i ∷ g ∷ []) f b fine n =
    let (k, x, is) = identifier_class i f.0 in
    loose_flags w.strict (is_branch w.standing) w.nested (is_plain_function (Some g)) (λ h. plain_form (is_plain_function (Some g)) (sym (ap (λ y. may_stand false (form_in y)) (outs-Tree kind.FnDecl (i ∷ g ∷ []))) ∙ fine h))
    (none_below w (Tree kind.FnDecl (i ∷ g ∷ [])) _ (outs-Tree kind.FnDecl (i ∷ g ∷ [])) n zero i refl [] (place_in w (Node-F.Tree kind.FnDecl (i ∷ g ∷ [])) zero) k x (ap (λ c. Some (place_in w (Node-F.Tree kind.FnDecl (i ∷ g ∷ [])) zero, c)) is))
not_loose w kind.FnDecl (i ∷ g ∷ t ∷ ts) f b fine n = absurd f.1.1
not_loose w kind.LabeledStmt ts f b fine n = b
not_loose w k ts f b fine n = refl

abbrev Settles : Node → Type 0
Settles t = (w : Place) (s : Slot) → Fits t s → branches t ≡ true → labels_no_function t ≡ true → Fine w t s → NoneBelow w t → is_settled w t ≡ true

fields_settle : (fs : List Field) (ts : List Node) (ps : ℕ → Place) → Each Settles ts → FieldsFit (map (λ f. f.1) fs) ts → list_all branches ts ≡ true → list_all labels_no_function ts ≡ true
    → ((i : ℕ) (x : Field) (c : Node) → slice_get fs i ≡ Some x → slice_get ts i ≡ Some c → Fine (ps i) c x.1 × NoneBelow (ps i) c) → list_all (λ b. b) (each_in is_settled ps ts) ≡ true
fields_settle [] [] ps l f b d m = refl
fields_settle [] (t ∷ ts) ps l f b d m = absurd f
fields_settle (x ∷ fs) [] ps l f b d m = absurd f
fields_settle (x ∷ fs) (t ∷ ts) ps l f b d m =
    let z = m zero x t refl refl in let p = both (branches t) (list_all branches ts) b in let q = both (labels_no_function t) (list_all labels_no_function ts) d in
    also (l.0 (ps zero) x.1 f.0 p.0 q.0 z.0 z.1) (fields_settle fs ts (λ i. ps (suc i)) l.1 f.1 p.1 q.1 (λ i. m (suc i)))

items_settle : (s : Slot) (ts : List Node) (ps : ℕ → Place) → Each Settles ts → AllFit s ts → list_all branches ts ≡ true → list_all labels_no_function ts ≡ true
    → ((i : ℕ) (c : Node) → slice_get ts i ≡ Some c → Fine (ps i) c s × NoneBelow (ps i) c) → list_all (λ b. b) (each_in is_settled ps ts) ≡ true
items_settle s [] ps l f b d m = refl
items_settle s (t ∷ ts) ps l f b d m =
    let z = m zero t refl in let p = both (branches t) (list_all branches ts) b in let q = both (labels_no_function t) (list_all labels_no_function ts) d in
    also (l.0 (ps zero) s f.0 p.0 q.0 z.0 z.1) (items_settle s ts (λ i. ps (suc i)) l.1 f.1 p.1 q.1 (λ i. m (suc i)))

list_settles : (ts : List Node) → Each Settles ts → Settles (Many ts)
list_settles ts l w s f b d fine n =
    list_out w ts ∙ items_settle (item s) ts (place_in w (Node-F.List ts)) l (items_fit s ts f) (sym (every_list branches_in ts) ∙ b) (sym (labels_out (Many ts) _ (outs-List ts)) ∙ d)
    (λ i c g. (λ h. absurd (no_list s ts (fine (part_branch w.standing (slice_get ts i) h)).1 f), none_below w (Many ts) _ (outs-List ts) n i c g))

tree_settles : (k : Kind) (ts : List Node) → Each Settles ts → Settles (Tree k ts)
tree_settles k ts l w s f b d fine n =
    let st = stands k ts s f in let p = both (branches_in (Node-F.Tree k ts)) (list_all branches ts) (sym (every_tree branches_in k ts) ∙ b) in
    let q = both (not (label_in (Node-F.Tree k ts))) (list_all labels_no_function ts) (sym (labels_out (Tree k ts) _ (outs-Tree k ts)) ∙ d) in
    settled_from w k ts (not_loose w k ts st.fields (not_true (label_in (Node-F.Tree k ts)) q.0) (λ h. (fine h).0) n)
    (fields_settle (fields_of k) ts (place_in w (Node-F.Tree k ts)) l st.fields p.1 q.1
    (λ i x c e g. (field_fine w k ts s st fine p.0 i x c e g, none_below w (Tree k ts) _ (outs-Tree k ts) n i c g)))

settles : (t : Node) → Settles t
settles = by_children Settles (
  λ w s f b d fine n. absent_settled w,
  λ x w s f b d fine n. flag_settled w x,
  λ x w s f b d fine n. word_settled w x,
  λ x w s f b d fine n. text_settled w x,
  λ x w s f b d fine n. span_settled w x,
  λ k x w s f b d fine n. name_settled w k x,
)
    list_settles tree_settles

-- a script that can be written down is settled, where it has neither
pub settled_where_none : (t : Node) → Fits t script_place → Writable t → IsSettled t → is_settled program_place t ≡ true
settled_where_none t f w n = settles t program_place script_place f (everywhere branching t script_place f (record { strict = false; assigned = false }) w) n.1 (λ h. absurd (cc)) n.0
