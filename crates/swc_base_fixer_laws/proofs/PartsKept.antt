-- What is asked of declarators, accessors, chains and targets by their looks stays where pairs are set.
use Rattle.std.proofs.Common.{◌≡◌, ℕ, Bool, true, false, not, ◌||◌, IsTrue, List, [], ◌∷◌, map, refl, sym, ap, ◌∙◌, rules, true≢false}
use Rattle.std.specs.Prelude.{Option, None, length, nat_eq, is_some}
use Rattle.std.specs.List.{list_all}
use Rattle.swc_tree_marks.specs.declared.ident.Ident.{Ident}
use Rattle.swc_tree_node.specs.declared.kind.Kind.{Kind}
use Rattle.swc_tree_node.specs.declared.kind.Kind.TheVariants as kind
use Rattle.swc_tree_node.specs.declared.kind.Class.TheVariants as class
use Rattle.swc_tree_node.specs.declared.kind.Word.{Word as Word'}
use Rattle.swc_tree_node.specs.declared.slot.Content.TheVariants as content
use Rattle.swc_tree_node.specs.declared.slot.Slot.{Slot}
use Rattle.swc_tree_node.specs.declared.slot.Slot.TheVariants as slot
use Rattle.swc_tree_node.specs.declared.node.Node.{Node, Absent, Flag, Word, Text, Span, List as Many, Identifier, Tree, out-Node, the_lemmas}
use Rattle.swc_tree_node.specs.declared.node.Node.TheOpen.{Node-F}
use Rattle.swc_tree_node.specs.Table.{slots_of}
use Rattle.swc_tree_node.specs.Fits.{Fits, belongs}
use Rattle.swc_tree_node.proofs.Fit.{tree_opens}
use Rattle.swc_tree_scoping.specs.Places.{literal_in, text_in}
use Rattle.swc_tree_grammar.specs.Shapes.{items_of}
use Rattle.swc_tree_grammar.specs.Kinds.{has_kind, is_chain, is_opt_chain, is_paren}
use Rattle.swc_tree_grammar.specs.Stripped.{stripped}
use Rattle.swc_tree_grammar.specs.Targets.{seen, is_target, target_in}
use Rattle.swc_tree_grammar.specs.Forms.{is_using, is_using_form, is_named_in, are_named}
use Rattle.swc_tree_grammar.specs.Writable.{is_string, parameters_in, one_without_rest, accessor, initialised_in, one_bare, local_specifier_in, base_goes_on_in, left_side, is_pattern_target}
use Rattle.swc_tree_grammar.proofs.Induction.{by_children}
use Rattle.swc_tree_grammar.proofs.Places.{one}
use Rattle.swc_tree_grammar.proofs.Walks.{target_of_tree}
use Rattle.swc_base_fixer_laws.specs.Alike.{Alike, AllAlike}
use Rattle.swc_base_fixer_laws.specs.Alike.Alike.{same as alike, after as alike_after, name, list, tree as alike_tree}
use Rattle.swc_base_fixer_laws.specs.Alike.AllAlike.{none as no_alike, more as more_alike}
use Rattle.swc_base_fixer_laws.specs.Sets.{Sets, AllSet, FieldsSet, takes_pair, pairable, can_pair, is_directive_in}
use Rattle.swc_base_fixer_laws.specs.Sets.Sets.{same, after, around, items, tree}
use Rattle.swc_base_fixer_laws.specs.Sets.AllSet.{none, more}
use Rattle.swc_base_fixer_laws.specs.Sets.FieldsSet.{nil, field}
use Rattle.swc_base_fixer_laws.proofs.Up.{up, no_pair, kind_of_tree}
use Rattle.swc_base_fixer_laws.proofs.ElseKept.{pairable_tree}
use Rattle.swc_base_fixer_laws.proofs.FitsKept.{fits_kept, same_length}
use Rattle.swc_base_fixer_laws.proofs.Looks.{is_head, seen_closed, seen_anywhere, name_kept, bound_kept, target_kept}
use Rattle.swc_base_fixer_laws.proofs.Elements.{of_items, rests}
use Rattle.swc_base_fixer_laws.proofs.FormsKept.{all_items, form_kept}
use Rattle.swc_base_fixer_laws.proofs.Strings.{string_of_tree}
use Rattle.swc_base_fixer_laws.proofs.StrippedKept.{stripped_kept}

-- numbers of items
pub length_kept : {s : Slot} {t u : Node} → takes_pair s ≡ false → is_head s ≡ false → Sets s t u → length (items_of u) ≡ length (items_of t)
length_kept p h d = of_items ℕ (λ ts. length ts) (λ ts us x. same_length x) p h d

-- parameters
abbrev has_none : Node-F Node → Bool
has_none f = nat_eq (length (parameters_in f)) 0

none_hidden : (k : Kind) (ts : List Node) → can_pair k ≡ true → has_none (Node-F.Tree k ts) ≡ true
none_hidden kind.Function ts h = absurd (true≢false (sym h))
none_hidden k ts h = refl

none_rows : (k : Kind) (ts us : List Node) → FieldsSet (slots_of k) ts us → has_none (Node-F.Tree k us) ≡ has_none (Node-F.Tree k ts)
none_rows kind.Function ts us (field s (field p (field b (field x (field y nil))))) = ap (λ n. nat_eq n 0) (length_kept refl refl p)
none_rows k ts us d = refl

none_kept : {s : Slot} {t u : Node} → Sets s t u → has_none (out-Node u) ≡ has_none (out-Node t)
none_kept d = seen_anywhere Bool has_none true none_hidden (λ us. refl) (λ k i. refl) (λ ts us. refl) none_rows d

one_items : {s : Slot} (ts us : List Node) → is_head s ≡ false → AllSet s ts us → one_without_rest us ≡ one_without_rest ts
one_items ts us h none = refl
one_items ts us h (more c none) = ap not (rests c h)
one_items ts us h (more c (more d x)) = refl

abbrev has_one : Node-F Node → Bool
has_one f = one_without_rest (parameters_in f)

one_hidden : (k : Kind) (ts : List Node) → can_pair k ≡ true → has_one (Node-F.Tree k ts) ≡ false
one_hidden kind.Function ts h = absurd (true≢false (sym h))
one_hidden k ts h = refl

one_rows : (k : Kind) (ts us : List Node) → FieldsSet (slots_of k) ts us → has_one (Node-F.Tree k us) ≡ has_one (Node-F.Tree k ts)
one_rows kind.Function ts us (field s (field p (field b (field x (field y nil))))) = of_items Bool one_without_rest (λ ts us x. one_items ts us refl x) refl refl p
one_rows k ts us d = refl

one_kept : {s : Slot} {t u : Node} → Sets s t u → has_one (out-Node u) ≡ has_one (out-Node t)
one_kept d = seen_anywhere Bool has_one false one_hidden (λ us. refl) (λ k i. refl) (λ ts us. refl) one_rows d

pub accessor_kept : {s r : Slot} {t u k l : Node} → Sets s t u → Sets r k l → accessor u l ≡ accessor t k
accessor_kept c d = let w = up d in rw (w.word_same, none_kept c, one_kept c) refl

-- declarators
initialised_rows : (x : Bool) (k : Kind) (ts us : List Node) → FieldsSet (slots_of k) ts us → initialised_in x (Node-F.Tree k us) ≡ initialised_in x (Node-F.Tree k ts)
initialised_rows x kind.VarDeclarator ts us (field a (field b (field c nil))) = let w = up c in rw (name_kept b refl, w.absent) refl
initialised_rows x k ts us d = refl

initialised_kept : (x : Bool) {s : Slot} {t u : Node} → Sets s t u → takes_pair s ≡ false → initialised_in x (out-Node u) ≡ initialised_in x (out-Node t)
initialised_kept x d h = seen_closed Bool (initialised_in x) (λ ts us. refl) (initialised_rows x) d h

named_rows : (x : Bool) (k : Kind) (ts us : List Node) → FieldsSet (slots_of k) ts us → is_named_in x (Node-F.Tree k us) ≡ is_named_in x (Node-F.Tree k ts)
named_rows x kind.VarDeclarator ts us (field a (field b (field c nil))) = let w = up c in rw (bound_kept b refl, w.absent) refl
named_rows x k ts us d = refl

named_kept : (x : Bool) {s : Slot} {t u : Node} → Sets s t u → takes_pair s ≡ false → is_named_in x (out-Node u) ≡ is_named_in x (out-Node t)
named_kept x d h = seen_closed Bool (is_named_in x) (λ ts us. refl) (named_rows x) d h

all_of : {s : Slot} {ts us : List Node} (q : Node → Bool) → takes_pair s ≡ false → ((t u : Node) → Sets s t u → takes_pair s ≡ false → q u ≡ q t) → AllSet s ts us → list_all q us ≡ list_all q ts
all_of q h f d = all_items q (λ t u c. f t u c h) d

pub all_initialised : (x : Bool) {t u : Node} → Sets (slot.List (content.Node class.VarDeclarator)) t u → list_all (λ d. initialised_in x (out-Node d)) (items_of u) ≡ list_all (λ d. initialised_in x (out-Node d)) (items_of t)
all_initialised x d = of_items Bool (list_all (λ d. initialised_in x (out-Node d))) (λ ts us c. all_of (λ d. initialised_in x (out-Node d)) refl (λ t u e. initialised_kept x e) c) refl refl d

pub all_named : (x : Bool) {t u : Node} → Sets (slot.List (content.Node class.VarDeclarator)) t u → are_named x (items_of u) ≡ are_named x (items_of t)
all_named x d = of_items Bool (are_named x) (λ ts us c. all_of (λ d. is_named_in x (out-Node d)) refl (λ t u e. named_kept x e) c) refl refl d

bare_items : {s : Slot} (ts us : List Node) → takes_pair s ≡ false → AllSet s ts us → one_bare us ≡ one_bare ts
bare_items ts us h none = refl
bare_items ts us h (more c none) = ap not (initialised_kept true c h)
bare_items ts us h (more c (more d x)) = refl

pub one_bare_kept : {t u : Node} → Sets (slot.List (content.Node class.VarDeclarator)) t u → one_bare (items_of u) ≡ one_bare (items_of t)
one_bare_kept d = of_items Bool one_bare (λ ts us c. bare_items ts us refl c) refl refl d

-- statements and specifiers
pub using_kept : {s : Slot} {t u : Node} → Sets s t u → is_using u ≡ is_using t
using_kept d = ap is_using_form (form_kept d)

pub no_using_kept : {t u : Node} → Sets (slot.List (content.Node class.Stmt)) t u → list_all (λ t. not (is_using t)) (items_of u) ≡ list_all (λ t. not (is_using t)) (items_of t)
no_using_kept d = of_items Bool (list_all (λ t. not (is_using t))) (λ ts us c. all_items (λ t. not (is_using t)) (λ t u e. ap not (using_kept e)) c) refl refl d

specifier_rows : (k : Kind) (ts us : List Node) → FieldsSet (slots_of k) ts us → local_specifier_in (Node-F.Tree k us) ≡ local_specifier_in (Node-F.Tree k ts)
specifier_rows kind.ExportNamedSpecifier ts us (field a (field b (field c nil))) = name_kept b refl
specifier_rows k ts us d = refl

specifier_kept : {s : Slot} (t u : Node) → Sets s t u → takes_pair s ≡ false → local_specifier_in (out-Node u) ≡ local_specifier_in (out-Node t)
specifier_kept t u d h = seen_closed Bool local_specifier_in (λ ts us. refl) specifier_rows d h

pub all_local : {t u : Node} → Sets (slot.List (content.Node class.ExportSpecifier)) t u → list_all (λ t. local_specifier_in (out-Node t)) (items_of u) ≡ list_all (λ t. local_specifier_in (out-Node t)) (items_of t)
all_local d = of_items Bool (list_all (λ t. local_specifier_in (out-Node t))) (λ ts us c. all_of (λ t. local_specifier_in (out-Node t)) refl (λ t u e. specifier_kept t u e) c) refl refl d

-- what stripping leaves
chain_of_name : (k : Kind) (i : Ident) → is_chain (Identifier k i) ≡ false
chain_of_name k i = search (rules, the_lemmas)

chain_of_list : (ts : List Node) → is_chain (Many ts) ≡ false
chain_of_list ts = search (rules, the_lemmas)

chain_alike : {t u : Node} → Alike t u → is_chain u ≡ is_chain t
chain_alike (alike t) = refl
chain_alike (alike_after c d) = chain_alike d ∙ chain_alike c
chain_alike (name k l i called) = chain_of_name l i ∙ sym (chain_of_name k i)
chain_alike (list ts us d) = chain_of_list us ∙ sym (chain_of_list ts)
chain_alike (alike_tree k ts us d) = kind_of_tree is_opt_chain k us ∙ sym (kind_of_tree is_opt_chain k ts)

text_of_tree : (k : Kind) (ts : List Node) → text_in (out-Node (Tree k ts)) ≡ None
text_of_tree k ts = search (rules, the_lemmas)

text_of_list : (ts : List Node) → text_in (out-Node (Many ts)) ≡ None
text_of_list ts = search (rules, the_lemmas)

text_of_name : (k : Kind) (i : Ident) → text_in (out-Node (Identifier k i)) ≡ None
text_of_name k i = search (rules, the_lemmas)

text_alike : {t u : Node} → Alike t u → text_in (out-Node u) ≡ text_in (out-Node t)
text_alike (alike t) = refl
text_alike (alike_after c d) = text_alike d ∙ text_alike c
text_alike (name k l i called) = text_of_name l i ∙ sym (text_of_name k i)
text_alike (list ts us d) = text_of_list us ∙ sym (text_of_list ts)
text_alike (alike_tree k ts us d) = text_of_tree k us ∙ sym (text_of_tree k ts)

string_row : (k : Kind) {ts us : List Node} → AllAlike ts us → literal_in (Node-F.Tree k us) ≡ literal_in (Node-F.Tree k ts)
string_row kind.Str no_alike = refl
string_row kind.Str (more_alike a no_alike) = refl
string_row kind.Str (more_alike a (more_alike b d)) = text_alike b
string_row k d = refl

string_of_name : (k : Kind) (i : Ident) → is_string (Identifier k i) ≡ false
string_of_name k i = search (rules, the_lemmas)

string_of_list : (ts : List Node) → is_string (Many ts) ≡ false
string_of_list ts = search (rules, the_lemmas)

string_alike : {t u : Node} → Alike t u → is_string u ≡ is_string t
string_alike (alike t) = refl
string_alike (alike_after c d) = string_alike d ∙ string_alike c
string_alike (name k l i called) = string_of_name l i ∙ sym (string_of_name k i)
string_alike (list ts us d) = string_of_list us ∙ sym (string_of_list ts)
string_alike (alike_tree k ts us d) = string_of_tree k us ∙ ap is_some (string_row k d) ∙ sym (string_of_tree k ts)

pub stripped_string : {s : Slot} {t u : Node} → Sets s t u → is_string (stripped u) ≡ is_string (stripped t)
stripped_string d = string_alike (stripped_kept d)

base_rows : (k : Kind) (ts us : List Node) → FieldsSet (slots_of k) ts us → base_goes_on_in (Node-F.Tree k us) ≡ base_goes_on_in (Node-F.Tree k ts)
base_rows kind.MemberExpr ts us (field a (field b (field c nil))) = chain_alike (stripped_kept b)
base_rows kind.OptCall ts us (field a (field b (field c nil))) = chain_alike (stripped_kept b)
base_rows k ts us d = refl

pub base_kept : {s : Slot} {t u : Node} → Sets s t u → takes_pair s ≡ false → base_goes_on_in (out-Node u) ≡ base_goes_on_in (out-Node t)
base_kept d h = seen_closed Bool base_goes_on_in (λ ts us. refl) base_rows d h

-- the left side of an assignment
target_row : (k : Kind) (ts : List Node) → can_pair k ≡ true → belongs k class.AssignTarget ≡ true → target_in (Node-F.Tree k (map seen ts)) ≡ true
target_row kind.MemberExpr ts h g = refl
target_row kind.SuperPropExpr ts h g = refl
target_row kind.BindingIdent ts h g = absurd (cc)
target_row kind.ArrayPat ts h g = absurd (cc)
target_row kind.ObjectPat ts h g = absurd (cc)
target_row kind.ParenExpr ts h g = absurd (cc)
target_row k ts h g = absurd (true≢false (sym g))

pair_target : (t : Node) → IsTrue (pairable t) → Fits t (one class.AssignTarget) → is_target t ≡ true
pair_target t = by_children (λ t. IsTrue (pairable t) → Fits t (one class.AssignTarget) → is_target t ≡ true)
    (no_pair Absent (search (rules, the_lemmas)), λ x. no_pair (Flag x) (search (rules, the_lemmas)), λ w. no_pair (Word w) (search (rules, the_lemmas)), λ x. no_pair (Text x) (search (rules, the_lemmas)), λ s. no_pair (Span s) (search (rules, the_lemmas)), λ k i. no_pair (Identifier k i) (search (rules, the_lemmas)))
    (λ ts l. no_pair (Many ts) (search (rules, the_lemmas)))
    (λ k ts l h f. target_of_tree k ts ∙ target_row k ts (sym (pairable_tree k ts) ∙ h) ((tree_opens k ts class.AssignTarget f).1)) t

or_true : (b : Bool) → (not b || true) ≡ true
or_true true = refl
or_true false = refl

whole_target : (k : Kind) (ts us : List Node) → is_directive_in (Node-F.Tree k us) ≡ is_directive_in (Node-F.Tree k ts) → FieldsSet (slots_of k) ts us → is_target (Tree k us) ≡ is_target (Tree k ts)
whole_target k ts us e d = target_kept (tree {s = slot.One (content.Node class.AssignTarget)} k ts us e d) refl

of_pair : (op : Option Word') (u : Node) → has_kind is_pattern_target u ≡ false → is_target u ≡ true → left_side op u ≡ true
of_pair op u h g = rw (h, g) (or_true (has_kind is_paren u))

same_left : (op : Option Word') (k : Kind) (ts us : List Node) → is_target (Tree k us) ≡ is_target (Tree k ts) → left_side op (Tree k us) ≡ left_side op (Tree k ts)
same_left op k ts us e = rw (kind_of_tree is_pattern_target k us, kind_of_tree is_pattern_target k ts, kind_of_tree is_paren k us, kind_of_tree is_paren k ts, e) refl

pub left_kept : {t u : Node} → Sets (slot.One (content.Node class.AssignTarget)) t u → Fits t (one class.AssignTarget) → (op : Option Word') → left_side op t ≡ true → left_side op u ≡ true
left_kept (same t) f op h = h
left_kept (after c d) f op h = left_kept d (fits_kept c f) op (left_kept c f op h)
left_kept (around r t u p q d) f op h = of_pair op (Tree kind.ParenExpr (Span r ∷ u ∷ [])) (kind_of_tree is_pattern_target kind.ParenExpr (Span r ∷ u ∷ [])) (target_of_tree kind.ParenExpr (Span r ∷ u ∷ []) ∙ target_kept d refl ∙ pair_target t q f)
left_kept (items ts us d) f op h = let e : left_side op (Many us) ≡ true = search (rules, the_lemmas) in e
left_kept (tree k ts us e d) f op h = same_left op k ts us (whole_target k ts us e d) ∙ h
