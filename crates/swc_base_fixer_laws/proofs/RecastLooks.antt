-- What is asked of parts by their looks stays met where a tree is made anew.
use Rattle.std.proofs.Common.{◌≡◌, ℕ, Bool, true, false, not, ◌&&◌, ◌||◌, List, [], refl, ap, ◌∙◌, rules, sym, true≢false}
use Rattle.std.specs.Prelude.{Option, None, nat_eq, length, codes, unwrap_or, if◌then◌else◌}
use Rattle.std.specs.Cmp.Lexicographic.{pointwise}
use Rattle.std.specs.List.{list_all}
use Rattle.swc_tree_node.specs.declared.kind.Kind.{Kind}
use Rattle.swc_tree_node.specs.declared.kind.Kind.TheVariants as kind
use Rattle.swc_tree_node.specs.declared.kind.Class.TheVariants as class
use Rattle.swc_tree_node.specs.declared.kind.Word.{Word as Word'}
use Rattle.swc_tree_node.specs.declared.slot.Slot.{Slot}
use Rattle.swc_tree_node.specs.declared.node.Node.{Node, List as Many, Tree, out-Node, the_lemmas}
use Rattle.swc_tree_node.specs.declared.node.Node.TheOpen.{Node-F}
use Rattle.swc_tree_node.specs.Table.{slots_of}
use Rattle.swc_tree_node.specs.Fits.{Fits, belongs}
use Rattle.swc_tree_scoping.specs.Places.{text_in, flag_in, plain_in as plain_function_in}
use Rattle.swc_tree_grammar.specs.Kinds.{has_kind, has_kind_in, is_rest}
use Rattle.swc_tree_grammar.specs.Shapes.{items_of}
use Rattle.swc_tree_grammar.specs.Levels.{is_absent, is_absent_in, word_of, word_in}
use Rattle.swc_tree_grammar.specs.Targets.{is_target}
use Rattle.swc_tree_grammar.specs.Forms.{Form, form, form_in, form_of_word, form_of_function, is_using, is_using_form, is_name_in, is_named_in, are_named, holds}
use Rattle.swc_tree_grammar.specs.Forms.Form.{Ordinary}
use Rattle.swc_tree_grammar.specs.Writable.{Round, name_is, pattern, element, elements, is_element, is_plain_pattern_in, default_in, property_in, pattern_of, pattern_of_param_in, is_name_kind_in, initialised_in, one_bare, parameters_in, one_without_rest, accessor, constructor_key_in, local_specifier_in, declares_in}
use Rattle.swc_tree_grammar.proofs.Places.{one}
use Rattle.swc_tree_grammar_laws.proofs.Levelled.{half, also}
use Rattle.swc_tree_grammar_laws.proofs.Begins.{or_right}
use Rattle.swc_base_fixer_laws.proofs.Recasts.{Recasts, AllRecast, FieldsRecast, is_special, whole_special, seen_same, seen_up, of_expression, target_up, of_items, items_up, all_up, all_same, same_length}
use Rattle.swc_base_fixer_laws.proofs.Recasts.Recasts.{same, items, tree, kind_kept, expression}
use Rattle.swc_base_fixer_laws.proofs.Recasts.AllRecast.{none, more}
use Rattle.swc_base_fixer_laws.proofs.Recasts.FieldsRecast.{nil, field}

-- leaves
pub absent_same : {s : Slot} {t u : Node} → Recasts s t u → is_absent u ≡ is_absent t
absent_same d = seen_same Bool is_absent_in false (λ k ts h. refl) (λ k i h. refl) (λ k ts h. refl) (λ ts us. refl) (λ k ts us d. refl) d

pub word_same : {s : Slot} {t u : Node} → Recasts s t u → word_of u ≡ word_of t
word_same d = seen_same (Option Word') word_in None (λ k ts h. refl) (λ k i h. refl) (λ k ts h. refl) (λ ts us. refl) (λ k ts us d. refl) d

pub flag_same : {s : Slot} {t u : Node} → Recasts s t u → holds u ≡ holds t
flag_same d = seen_same Bool flag_in false (λ k ts h. refl) (λ k i h. refl) (λ k ts h. refl) (λ ts us. refl) (λ k ts us d. refl) d

pub text_same : {s : Slot} {t u : Node} → Recasts s t u → text_in (out-Node u) ≡ text_in (out-Node t)
text_same d = seen_same (Option (List ℕ)) text_in None (λ k ts h. refl) (λ k i h. refl) (λ k ts h. refl) (λ ts us. refl) (λ k ts us d. refl) d

-- forms of statements
plain_hidden : (k : Kind) (ts : List Node) → belongs k class.Expr ≡ true → plain_function_in (Node-F.Tree k ts) ≡ false
plain_hidden kind.Function ts h = absurd (true≢false (sym h))
plain_hidden k ts h = refl

plain_special : (k : Kind) (ts : List Node) → is_special k ≡ true → plain_function_in (Node-F.Tree k ts) ≡ false
plain_special kind.Function ts h = absurd (true≢false (sym h))
plain_special k ts h = refl

plain_rows : (k : Kind) (ts us : List Node) → FieldsRecast (slots_of k) ts us → plain_function_in (Node-F.Tree k us) ≡ plain_function_in (Node-F.Tree k ts)
plain_rows kind.Function ts us (field s (field p (field b (field x (field y nil))))) = rw (flag_same x, flag_same y) refl
plain_rows k ts us d = refl

plain_function_same : {s : Slot} {t u : Node} → Recasts s t u → plain_function_in (out-Node u) ≡ plain_function_in (out-Node t)
plain_function_same d = seen_same Bool plain_function_in false plain_hidden (λ k i h. refl) plain_special (λ ts us. refl) plain_rows d

form_hidden : (k : Kind) (ts : List Node) → belongs k class.Expr ≡ true → form_in (Node-F.Tree k ts) ≡ Ordinary
form_hidden kind.VarDecl ts h = absurd (true≢false (sym h))
form_hidden kind.FnDecl ts h = absurd (true≢false (sym h))
form_hidden kind.ClassDecl ts h = absurd (true≢false (sym h))
form_hidden kind.UsingDecl ts h = absurd (true≢false (sym h))
form_hidden kind.TsInterfaceDecl ts h = absurd (true≢false (sym h))
form_hidden kind.TsTypeAliasDecl ts h = absurd (true≢false (sym h))
form_hidden kind.TsEnumDecl ts h = absurd (true≢false (sym h))
form_hidden kind.TsModuleDecl ts h = absurd (true≢false (sym h))
form_hidden k ts h = refl

form_special : (k : Kind) (ts : List Node) → is_special k ≡ true → form_in (Node-F.Tree k ts) ≡ Ordinary
form_special kind.VarDecl ts h = absurd (true≢false (sym h))
form_special kind.FnDecl ts h = absurd (true≢false (sym h))
form_special kind.ClassDecl ts h = absurd (true≢false (sym h))
form_special kind.UsingDecl ts h = absurd (true≢false (sym h))
form_special kind.TsInterfaceDecl ts h = absurd (true≢false (sym h))
form_special kind.TsTypeAliasDecl ts h = absurd (true≢false (sym h))
form_special kind.TsEnumDecl ts h = absurd (true≢false (sym h))
form_special kind.TsModuleDecl ts h = absurd (true≢false (sym h))
form_special k ts h = refl

form_rows : (k : Kind) (ts us : List Node) → FieldsRecast (slots_of k) ts us → form_in (Node-F.Tree k us) ≡ form_in (Node-F.Tree k ts)
form_rows kind.VarDecl ts us (field s (field w (field d nil))) = ap form_of_word (word_same w)
form_rows kind.FnDecl ts us (field i (field f nil)) = ap form_of_function (plain_function_same f)
form_rows kind.ClassDecl ts us d = refl
form_rows kind.UsingDecl ts us d = refl
form_rows k ts us d = refl

pub form_same : {s : Slot} {t u : Node} → Recasts s t u → form u ≡ form t
form_same d = seen_same Form form_in Ordinary form_hidden (λ k i h. refl) form_special (λ ts us. refl) form_rows d

pub using_same : {s : Slot} {t u : Node} → Recasts s t u → is_using u ≡ is_using t
using_same d = ap is_using_form (form_same d)

pub no_using_same : {s : Slot} {t u : Node} → Recasts s t u → list_all (λ t. not (is_using t)) (items_of u) ≡ list_all (λ t. not (is_using t)) (items_of t)
no_using_same d = of_items Bool (list_all (λ t. not (is_using t))) (λ ts us c. all_same (λ t. not (is_using t)) (λ t u e. ap not (using_same e)) c) d

declares_hidden : (k : Kind) (ts : List Node) → belongs k class.Expr ≡ true → declares_in (Node-F.Tree k ts) ≡ false
declares_hidden kind.VarDecl ts h = absurd (true≢false (sym h))
declares_hidden kind.UsingDecl ts h = absurd (true≢false (sym h))
declares_hidden k ts h = refl

declares_special : (k : Kind) (ts : List Node) → is_special k ≡ true → declares_in (Node-F.Tree k ts) ≡ false
declares_special kind.VarDecl ts h = absurd (true≢false (sym h))
declares_special kind.UsingDecl ts h = absurd (true≢false (sym h))
declares_special k ts h = refl

declares_rows : (k : Kind) (ts us : List Node) → FieldsRecast (slots_of k) ts us → declares_in (Node-F.Tree k us) ≡ declares_in (Node-F.Tree k ts)
declares_rows kind.VarDecl ts us (field a (field b (field c nil))) = refl
declares_rows kind.UsingDecl ts us (field a (field b (field c nil))) = refl
declares_rows k ts us d = refl

pub declares_same : {s : Slot} {t u : Node} → Recasts s t u → declares_in (out-Node u) ≡ declares_in (out-Node t)
declares_same d = seen_same Bool declares_in false declares_hidden (λ k i h. refl) declares_special (λ ts us. refl) declares_rows d

-- patterns
plain_pattern_special : (k : Kind) (ts : List Node) → is_special k ≡ true → is_plain_pattern_in (Node-F.Tree k ts) ≡ false
plain_pattern_special kind.ArrayPat ts h = absurd (true≢false (sym h))
plain_pattern_special kind.ObjectPat ts h = absurd (true≢false (sym h))
plain_pattern_special k ts h = refl

plain_pattern_rows : (k : Kind) (ts us : List Node) → FieldsRecast (slots_of k) ts us → is_plain_pattern_in (Node-F.Tree k ts) ≡ true → is_plain_pattern_in (Node-F.Tree k us) ≡ true
plain_pattern_rows kind.ArrayPat ts us d h = refl
plain_pattern_rows kind.ObjectPat ts us d h = refl
plain_pattern_rows k ts us d h = h

plain_pattern_up : {s : Slot} {t u : Node} → Recasts s t u → is_plain_pattern_in (out-Node t) ≡ true → is_plain_pattern_in (out-Node u) ≡ true
plain_pattern_up d h = seen_up is_plain_pattern_in plain_pattern_special (λ ts us. refl) plain_pattern_rows d h

pub or_up : (a b c d : Bool) → (a ≡ true → c ≡ true) → (b ≡ true → d ≡ true) → (a || b) ≡ true → (c || d) ≡ true
or_up true b c d e f h = rw (e refl) refl
or_up false b c d e f h = or_right c d (f h)

and_up : (a b d : Bool) → (b ≡ true → d ≡ true) → (a && b) ≡ true → (a && d) ≡ true
and_up true b d f h = f h
and_up false b d f h = h

pub pattern_up : {s : Slot} {t u : Node} → Recasts s t u → (r : Round) → pattern t r ≡ true → pattern u r ≡ true
pattern_up {t = t} {u = u} d r h =
    or_up (is_plain_pattern_in (out-Node t)) (r.assigned && is_target t) (is_plain_pattern_in (out-Node u)) (r.assigned && is_target u) (plain_pattern_up d) (and_up r.assigned (is_target t) (is_target u) (target_up d)) h

default_special : (k : Kind) (ts : List Node) → is_special k ≡ true → default_in (Node-F.Tree k ts) ≡ false
default_special kind.AssignPat ts h = absurd (true≢false (sym h))
default_special k ts h = refl

default_rows : (k : Kind) (ts us : List Node) → FieldsRecast (slots_of k) ts us → default_in (Node-F.Tree k ts) ≡ true → default_in (Node-F.Tree k us) ≡ true
default_rows kind.AssignPat ts us (field a (field b (field c nil))) h = refl
default_rows k ts us d h = absurd (true≢false (sym h))

default_up : {s : Slot} {t u : Node} → Recasts s t u → default_in (out-Node t) ≡ true → default_in (out-Node u) ≡ true
default_up d h = seen_up default_in default_special (λ ts us. refl) default_rows d h

pub element_up : {s : Slot} {t u : Node} → Recasts s t u → (r : Round) → element t r ≡ true → element u r ≡ true
element_up {t = t} {u = u} d r h = or_up (default_in (out-Node t)) (pattern t r) (default_in (out-Node u)) (pattern u r) (default_up d) (pattern_up d r) h

property_special : (k : Kind) (ts : List Node) → is_special k ≡ true → property_in (Node-F.Tree k ts) ≡ false
property_special kind.KeyValuePatProp ts h = absurd (true≢false (sym h))
property_special kind.AssignPatProp ts h = absurd (true≢false (sym h))
property_special k ts h = refl

property_rows : (k : Kind) (ts us : List Node) → FieldsRecast (slots_of k) ts us → property_in (Node-F.Tree k ts) ≡ true → property_in (Node-F.Tree k us) ≡ true
property_rows kind.KeyValuePatProp ts us d h = refl
property_rows kind.AssignPatProp ts us d h = refl
property_rows k ts us d h = h

property_up : {s : Slot} {t u : Node} → Recasts s t u → property_in (out-Node t) ≡ true → property_in (out-Node u) ≡ true
property_up d h = seen_up property_in property_special (λ ts us. refl) property_rows d h

rest_hidden : (k : Kind) (ts : List Node) → belongs k class.Expr ≡ true → is_rest k ≡ false
rest_hidden kind.RestPat ts h = absurd (true≢false (sym h))
rest_hidden k ts h = refl

rest_special : (k : Kind) (ts : List Node) → is_special k ≡ true → is_rest k ≡ false
rest_special kind.RestPat ts h = absurd (true≢false (sym h))
rest_special k ts h = refl

rest_same : {s : Slot} {t u : Node} → Recasts s t u → has_kind is_rest u ≡ has_kind is_rest t
rest_same d = seen_same Bool (has_kind_in is_rest) false rest_hidden (λ k i h. refl) rest_special (λ ts us. refl) (λ k ts us d. refl) d

-- of a parameter its pattern is looked at
pattern_tree : (k : Kind) (ts : List Node) → pattern_of (Tree k ts) ≡ pattern_of_param_in (Tree k ts) (Node-F.Tree k ts)
pattern_tree k ts = search (rules, the_lemmas)

pattern_list : (ts : List Node) → pattern_of (Many ts) ≡ Many ts
pattern_list ts = search (rules, the_lemmas)

own_hidden : (u : Node) (k : Kind) (ts : List Node) → belongs k class.Expr ≡ true → pattern_of_param_in u (Node-F.Tree k ts) ≡ u
own_hidden u kind.Param ts h = absurd (true≢false (sym h))
own_hidden u k ts h = refl

own_special : (u : Node) (k : Kind) (ts : List Node) → is_special k ≡ true → pattern_of_param_in u (Node-F.Tree k ts) ≡ u
own_special u kind.Param ts h = absurd (true≢false (sym h))
own_special u k ts h = refl

own_pattern : (u : Node) → Fits u (one class.Expr) → pattern_of u ≡ u
own_pattern u f = of_expression Node (pattern_of_param_in u) u (own_hidden u) (λ k i h. refl) u f

abbrev Recast : Node → Node → Type 0
Recast t u = (s : Slot) × Recasts s t u

moved : (t u v w : Node) → v ≡ t → w ≡ u → Recast t u → Recast v w
moved t u v w e f d = rw (e, f) d

pattern_row : (s : Slot) (k : Kind) (ts us : List Node) → FieldsRecast (slots_of k) ts us → Recast (pattern_of_param_in (Tree k ts) (Node-F.Tree k ts)) (pattern_of_param_in (Tree k us) (Node-F.Tree k us))
pattern_row s kind.Param ts us (field a (field {s = x} b nil)) = (x, b)
pattern_row s k ts us d = (s, tree k ts us d)

pattern_recast : {s : Slot} {t u : Node} → Recasts s t u → Recast (pattern_of t) (pattern_of u)
pattern_recast {s = s} (same t) = (s, same (pattern_of t))
pattern_recast {s = s} (items ts us d) = moved (Many ts) (Many us) (pattern_of (Many ts)) (pattern_of (Many us)) (pattern_list ts) (pattern_list us) (s, items ts us d)
pattern_recast {s = s} (tree k ts us d) = moved (pattern_of_param_in (Tree k ts) (Node-F.Tree k ts)) (pattern_of_param_in (Tree k us) (Node-F.Tree k us)) (pattern_of (Tree k ts)) (pattern_of (Tree k us)) (pattern_tree k ts) (pattern_tree k us) (pattern_row s k ts us d)
pattern_recast {s = s} (kind_kept k ts us h) =
    let p = whole_special k h in
    moved (Tree k ts) (Tree k us) (pattern_of (Tree k ts)) (pattern_of (Tree k us)) (pattern_tree k ts ∙ own_special (Tree k ts) k ts p) (pattern_tree k us ∙ own_special (Tree k us) k us p) (s, kind_kept k ts us h)
pattern_recast {s = s} (expression k ts u h f g x) = moved (Tree k ts) u (pattern_of (Tree k ts)) (pattern_of u) (pattern_tree k ts ∙ own_special (Tree k ts) k ts h) (own_pattern u f) (s, expression k ts u h f g x)

pub rests_same : {s : Slot} {t u : Node} → Recasts s t u → has_kind is_rest (pattern_of u) ≡ has_kind is_rest (pattern_of t)
rests_same d = let p = pattern_recast d in rest_same p.1

is_element_up : {s : Slot} {t u : Node} → Recasts s t u → (r : Round) → is_element r t ≡ true → is_element r u ≡ true
is_element_up {t = t} {u = u} d r h =
    let p = pattern_recast d in
    or_up (is_absent t) (property_in (out-Node t) || element (pattern_of t) r) (is_absent u) (property_in (out-Node u) || element (pattern_of u) r) (λ e. absent_same d ∙ e)
    (or_up (property_in (out-Node t)) (element (pattern_of t) r) (property_in (out-Node u)) (element (pattern_of u) r) (property_up d) (element_up p.1 r)) h

elements_of : {s : Slot} {ts us : List Node} → AllRecast s ts us → (r : Round) → elements r ts ≡ true → elements r us ≡ true
elements_of none r h = refl
elements_of (more {t = t} {u = u} c none) r h = or_up (has_kind is_rest (pattern_of t)) (is_element r t) (has_kind is_rest (pattern_of u)) (is_element r u) (λ e. rests_same c ∙ e) (is_element_up c r) h
elements_of (more c (more d x)) r h = let p = half h in also (is_element_up c r p.0) (elements_of (more d x) r p.1)

pub elements_up : {s : Slot} {t u : Node} → Recasts s t u → (r : Round) → elements r (items_of t) ≡ true → elements r (items_of u) ≡ true
elements_up d r h = items_up (elements r) (λ ts us c e. elements_of c r e) d h

-- names
pub name_up : {s : Slot} {t u : Node} → Recasts s t u → is_name_kind_in (out-Node t) ≡ true → is_name_kind_in (out-Node u) ≡ true
name_up d h = seen_up is_name_kind_in (λ k ts h. refl) (λ ts us. refl) (λ k ts us d h. h) d h

binding_name_up : {s : Slot} {t u : Node} → Recasts s t u → is_name_in (out-Node t) ≡ true → is_name_in (out-Node u) ≡ true
binding_name_up d h = seen_up is_name_in (λ k ts h. refl) (λ ts us. refl) (λ k ts us d h. h) d h

pub bound_up : {s : Slot} {t u : Node} → Recasts s t u → (b : Bool) → name_is b (out-Node t) ≡ true → name_is b (out-Node u) ≡ true
bound_up d b h = seen_up (name_is b) (λ k ts h. refl) (λ ts us. refl) (λ k ts us d h. h) d h

-- numbers of items
pub length_same : {s : Slot} {t u : Node} → Recasts s t u → length (items_of u) ≡ length (items_of t)
length_same d = of_items ℕ (λ ts. length ts) (λ ts us x. same_length x) d

-- parameters
abbrev has_none : Node-F Node → Bool
has_none f = nat_eq (length (parameters_in f)) 0

none_hidden : (k : Kind) (ts : List Node) → belongs k class.Expr ≡ true → has_none (Node-F.Tree k ts) ≡ true
none_hidden kind.Function ts h = absurd (true≢false (sym h))
none_hidden k ts h = refl

none_special : (k : Kind) (ts : List Node) → is_special k ≡ true → has_none (Node-F.Tree k ts) ≡ true
none_special kind.Function ts h = absurd (true≢false (sym h))
none_special k ts h = refl

none_rows : (k : Kind) (ts us : List Node) → FieldsRecast (slots_of k) ts us → has_none (Node-F.Tree k us) ≡ has_none (Node-F.Tree k ts)
none_rows kind.Function ts us (field s (field p (field b (field x (field y nil))))) = ap (λ n. nat_eq n 0) (length_same p)
none_rows k ts us d = refl

none_same : {s : Slot} {t u : Node} → Recasts s t u → has_none (out-Node u) ≡ has_none (out-Node t)
none_same d = seen_same Bool has_none true none_hidden (λ k i h. refl) none_special (λ ts us. refl) none_rows d

one_items : {s : Slot} {ts us : List Node} → AllRecast s ts us → one_without_rest us ≡ one_without_rest ts
one_items none = refl
one_items (more c none) = ap not (rests_same c)
one_items (more c (more d x)) = refl

abbrev has_one : Node-F Node → Bool
has_one f = one_without_rest (parameters_in f)

one_hidden : (k : Kind) (ts : List Node) → belongs k class.Expr ≡ true → has_one (Node-F.Tree k ts) ≡ false
one_hidden kind.Function ts h = absurd (true≢false (sym h))
one_hidden k ts h = refl

one_special : (k : Kind) (ts : List Node) → is_special k ≡ true → has_one (Node-F.Tree k ts) ≡ false
one_special kind.Function ts h = absurd (true≢false (sym h))
one_special k ts h = refl

one_rows : (k : Kind) (ts us : List Node) → FieldsRecast (slots_of k) ts us → has_one (Node-F.Tree k us) ≡ has_one (Node-F.Tree k ts)
one_rows kind.Function ts us (field s (field p (field b (field x (field y nil))))) = of_items Bool one_without_rest (λ ts us x. one_items x) p
one_rows k ts us d = refl

one_same : {s : Slot} {t u : Node} → Recasts s t u → has_one (out-Node u) ≡ has_one (out-Node t)
one_same d = seen_same Bool has_one false one_hidden (λ k i h. refl) one_special (λ ts us. refl) one_rows d

pub accessor_same : {s r : Slot} {t u k l : Node} → Recasts s t u → Recasts r k l → accessor u l ≡ accessor t k
accessor_same c d = rw (word_same d, none_same c, one_same c) refl

-- declarators
initialised_special : (x : Bool) (k : Kind) (ts : List Node) → is_special k ≡ true → initialised_in x (Node-F.Tree k ts) ≡ false
initialised_special x kind.VarDeclarator ts h = absurd (true≢false (sym h))
initialised_special x k ts h = refl

initialised_hidden : (x : Bool) (k : Kind) (ts : List Node) → belongs k class.Expr ≡ true → initialised_in x (Node-F.Tree k ts) ≡ false
initialised_hidden x kind.VarDeclarator ts h = absurd (true≢false (sym h))
initialised_hidden x k ts h = refl

initialised_rows : (x : Bool) (k : Kind) (ts us : List Node) → FieldsRecast (slots_of k) ts us → initialised_in x (Node-F.Tree k ts) ≡ true → initialised_in x (Node-F.Tree k us) ≡ true
initialised_rows x kind.VarDeclarator ts us (field a (field {t = t} {u = u} b (field {t = i} {u = j} c nil))) h =
    or_up (not x && is_name_kind_in (out-Node t)) (not (is_absent i)) (not x && is_name_kind_in (out-Node u)) (not (is_absent j)) (and_up (not x) (is_name_kind_in (out-Node t)) (is_name_kind_in (out-Node u)) (name_up b)) (λ e. ap not (absent_same c) ∙ e) h
initialised_rows x k ts us d h = absurd (true≢false (sym h))

initialised_up : (x : Bool) {s : Slot} {t u : Node} → Recasts s t u → initialised_in x (out-Node t) ≡ true → initialised_in x (out-Node u) ≡ true
initialised_up x d h = seen_up (initialised_in x) (initialised_special x) (λ ts us. refl) (initialised_rows x) d h

constant_rows : (k : Kind) (ts us : List Node) → FieldsRecast (slots_of k) ts us → initialised_in true (Node-F.Tree k us) ≡ initialised_in true (Node-F.Tree k ts)
constant_rows kind.VarDeclarator ts us (field a (field b (field c nil))) = ap not (absent_same c)
constant_rows k ts us d = refl

constant_same : {s : Slot} {t u : Node} → Recasts s t u → initialised_in true (out-Node u) ≡ initialised_in true (out-Node t)
constant_same d = seen_same Bool (initialised_in true) false (initialised_hidden true) (λ k i h. refl) (initialised_special true) (λ ts us. refl) constant_rows d

pub all_initialised : (x : Bool) {s : Slot} {t u : Node} → Recasts s t u → list_all (λ d. initialised_in x (out-Node d)) (items_of t) ≡ true → list_all (λ d. initialised_in x (out-Node d)) (items_of u) ≡ true
all_initialised x d h = items_up (list_all (λ d. initialised_in x (out-Node d))) (λ ts us c e. all_up (λ d. initialised_in x (out-Node d)) (λ t u e. initialised_up x e) c e) d h

bare_items : {s : Slot} {ts us : List Node} → AllRecast s ts us → one_bare us ≡ one_bare ts
bare_items none = refl
bare_items (more c none) = ap not (constant_same c)
bare_items (more c (more d x)) = refl

pub one_bare_same : {s : Slot} {t u : Node} → Recasts s t u → one_bare (items_of u) ≡ one_bare (items_of t)
one_bare_same d = of_items Bool one_bare (λ ts us c. bare_items c) d

if_up : (x : Bool) (a b : Bool) → b ≡ a → (if x then not a else a) ≡ true → (if x then not b else b) ≡ true
if_up x a b e h = rw e h

named_special : (x : Bool) (k : Kind) (ts : List Node) → is_special k ≡ true → is_named_in x (Node-F.Tree k ts) ≡ false
named_special x kind.VarDeclarator ts h = absurd (true≢false (sym h))
named_special x k ts h = refl

named_rows : (x : Bool) (k : Kind) (ts us : List Node) → FieldsRecast (slots_of k) ts us → is_named_in x (Node-F.Tree k ts) ≡ true → is_named_in x (Node-F.Tree k us) ≡ true
named_rows x kind.VarDeclarator ts us (field a (field b (field {t = i} {u = j} c nil))) h = let p = half h in also (binding_name_up b p.0) (if_up x (is_absent i) (is_absent j) (absent_same c) p.1)
named_rows x k ts us d h = absurd (true≢false (sym h))

named_up : (x : Bool) {s : Slot} {t u : Node} → Recasts s t u → is_named_in x (out-Node t) ≡ true → is_named_in x (out-Node u) ≡ true
named_up x d h = seen_up (is_named_in x) (named_special x) (λ ts us. refl) (named_rows x) d h

pub all_named : (x : Bool) {s : Slot} {t u : Node} → Recasts s t u → are_named x (items_of t) ≡ true → are_named x (items_of u) ≡ true
all_named x d h = items_up (are_named x) (λ ts us c e. all_up (λ d. is_named_in x (out-Node d)) (λ t u e. named_up x e) c e) d h

-- specifiers
local_special : (k : Kind) (ts : List Node) → is_special k ≡ true → local_specifier_in (Node-F.Tree k ts) ≡ false
local_special kind.ExportNamedSpecifier ts h = absurd (true≢false (sym h))
local_special k ts h = refl

local_rows : (k : Kind) (ts us : List Node) → FieldsRecast (slots_of k) ts us → local_specifier_in (Node-F.Tree k ts) ≡ true → local_specifier_in (Node-F.Tree k us) ≡ true
local_rows kind.ExportNamedSpecifier ts us (field a (field b (field c nil))) h = name_up b h
local_rows k ts us d h = absurd (true≢false (sym h))

pub all_local : {s : Slot} {t u : Node} → Recasts s t u → list_all (λ t. local_specifier_in (out-Node t)) (items_of t) ≡ true → list_all (λ t. local_specifier_in (out-Node t)) (items_of u) ≡ true
all_local d h = items_up (list_all (λ t. local_specifier_in (out-Node t))) (λ ts us c e. all_up (λ t. local_specifier_in (out-Node t)) (λ t u e. seen_up local_specifier_in local_special (λ ts us. refl) local_rows e) c e) d h

-- keys of constructors
key_special : (k : Kind) (ts : List Node) → is_special k ≡ true → constructor_key_in (Node-F.Tree k ts) ≡ false
key_special kind.IdentName ts h = absurd (true≢false (sym h))
key_special kind.Str ts h = absurd (true≢false (sym h))
key_special k ts h = refl

key_rows : (k : Kind) (ts us : List Node) → FieldsRecast (slots_of k) ts us → constructor_key_in (Node-F.Tree k ts) ≡ true → constructor_key_in (Node-F.Tree k us) ≡ true
key_rows kind.IdentName ts us (field a (field b nil)) h = ap (λ x. pointwise nat_eq (unwrap_or x []) (codes "constructor")) (text_same b) ∙ h
key_rows kind.Str ts us (field a (field b (field c nil))) h = ap (λ x. pointwise nat_eq (unwrap_or x []) (codes "constructor")) (text_same b) ∙ h
key_rows k ts us d h = absurd (true≢false (sym h))

pub key_up : {s : Slot} {t u : Node} → Recasts s t u → constructor_key_in (out-Node t) ≡ true → constructor_key_in (out-Node u) ≡ true
key_up d h = seen_up constructor_key_in key_special (λ ts us. refl) key_rows d h
