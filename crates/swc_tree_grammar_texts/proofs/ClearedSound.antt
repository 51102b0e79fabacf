-- Whether a node can be written down does not rest on contexts.
use Rattle.std.proofs.Common.{◌≡◌, ℕ, zero, suc, Bool, true, false, not, ◌&&◌, ◌||◌, Option, List, [], ◌∷◌, map, refl, sym, ap, ◌∙◌, rules}
use Rattle.std.specs.Prelude.{length, nat_le, nat_eq, slice_get, is_some, unwrap_or}
use Rattle.std.specs.List.{list_all}
use Rattle.std.specs.Cmp.Lexicographic.{pointwise}
use Rattle.swc_tree_marks.specs.declared.ident.Ident.{Ident}
use Rattle.swc_tree_node.specs.declared.kind.Kind.{Kind}
use Rattle.swc_tree_node.specs.declared.kind.Kind.TheVariants as kind
use Rattle.swc_tree_node.specs.declared.fields.functions.function.TheConstants as function_fields
use Rattle.swc_tree_node.specs.declared.node.Node.{Node, List as Many, Identifier, Tree, out-Node, the_lemmas}
use Rattle.swc_tree_node.specs.declared.node.Node.TheOpen.{Node-F}
use Rattle.swc_tree_scoping.specs.Places.{has_use_strict, block_in, literal_in, literal_of, plain_in, statement_in, string_of}
use Rattle.swc_tree_scoping.specs.Places as scoping
use Rattle.swc_tree_scoping.specs.Readings.{by_texts}
use Rattle.swc_tree_grammar.specs.Shapes.{items_of}
use Rattle.swc_tree_grammar.specs.Stripped.{stripped}
use Rattle.swc_tree_grammar.specs.Kinds.{has_kind, is_private_name, is_chain, is_opt_chain, is_paren, is_rest}
use Rattle.swc_tree_grammar.specs.Forms.{Form, form, form_in, form_of_word, form_of_function, is_body, is_branch, is_using, is_using_form, is_strict, is_name_in, is_named_in, are_named}
use Rattle.swc_tree_grammar.specs.Levels.{word_of}
use Rattle.swc_tree_grammar.specs.Writable.{Asked, Round, accessor, all_sound, assigning, base_goes_on_in, binding, branch, bound, constructor_key_in, declares_in, default_in, element, elements, head, in_head_in, initialised_in, is_const, is_element, is_getter, is_name_kind_in, is_pattern_target, is_plain_pattern_in, is_setter, is_string, is_text, is_writable, left_side, local_specifier_in, loop_body, name_is, no_private, no_using, one_bare, one_without_rest, parameters_in, pattern, pattern_of, pattern_of_param_in, property_in, sound_in, strictly}
use Rattle.swc_tree_grammar.proofs.Asked.{head_list, head_name, head_tree, in_head, of, sound, sound_list, sound_name, sound_tree}
use Rattle.swc_tree_grammar.proofs.Induction.{Each, by_children}
use Rattle.swc_tree_grammar_texts.proofs.Cleared.{bare, text_absent, text_flag, text_word, text_text, text_span, text_name, text_list, text_tree, look, items_same, all_same, count_same, kind_same, word_same, absent_same, holds_same, words_same, flag_at, text_at, target_same}
use Rattle.swc_tree_grammar_texts.proofs.ClearedStripped.{stripped_texts}

-- ---- names and patterns

name_row : (b : Bool) (k : Kind) (i : Ident) → name_is b (Node-F.Identifier k (bare i)) ≡ name_is b (Node-F.Identifier k i)
name_row b k i = refl

name_same : (b : Bool) (t : Node) → name_is b (out-Node (by_texts t)) ≡ name_is b (out-Node t)
name_same b t = look Bool (name_is b) (name_row b) (λ ts. refl) (λ k ts. refl) t

name_kind_same : (t : Node) → is_name_kind_in (out-Node (by_texts t)) ≡ is_name_kind_in (out-Node t)
name_kind_same t = look Bool is_name_kind_in (λ k i. refl) (λ ts. refl) (λ k ts. refl) t

plain_name_row : (k : Kind) (i : Ident) → is_plain_pattern_in (Node-F.Identifier k (bare i)) ≡ is_plain_pattern_in (Node-F.Identifier k i)
plain_name_row kind.BindingIdent i = refl
plain_name_row k i = refl

plain_tree_row : (k : Kind) (ts : List Node) → is_plain_pattern_in (Node-F.Tree k (map by_texts ts)) ≡ is_plain_pattern_in (Node-F.Tree k ts)
plain_tree_row kind.ArrayPat ts = refl
plain_tree_row kind.ObjectPat ts = refl
plain_tree_row k ts = refl

plain_same : (t : Node) → is_plain_pattern_in (out-Node (by_texts t)) ≡ is_plain_pattern_in (out-Node t)
plain_same t = look Bool is_plain_pattern_in plain_name_row (λ ts. refl) plain_tree_row t

pattern_same : (t : Node) (r : Round) → pattern (by_texts t) r ≡ pattern t r
pattern_same t r = rw (plain_same t, target_same t) refl

default_row : (k : Kind) (ts : List Node) → default_in (Node-F.Tree k (map by_texts ts)) ≡ default_in (Node-F.Tree k ts)
default_row kind.AssignPat [] = refl
default_row kind.AssignPat (a ∷ []) = refl
default_row kind.AssignPat (a ∷ b ∷ []) = refl
default_row kind.AssignPat (a ∷ b ∷ c ∷ []) = refl
default_row kind.AssignPat (a ∷ b ∷ c ∷ d ∷ ts) = refl
default_row k ts = refl

default_same : (t : Node) → default_in (out-Node (by_texts t)) ≡ default_in (out-Node t)
default_same t = look Bool default_in (λ k i. refl) (λ ts. refl) default_row t

element_same : (t : Node) (r : Round) → element (by_texts t) r ≡ element t r
element_same t r = rw (default_same t, pattern_same t r) refl

property_row : (k : Kind) (ts : List Node) → property_in (Node-F.Tree k (map by_texts ts)) ≡ property_in (Node-F.Tree k ts)
property_row kind.KeyValuePatProp ts = refl
property_row kind.AssignPatProp ts = refl
property_row k ts = refl

property_same : (t : Node) → property_in (out-Node (by_texts t)) ≡ property_in (out-Node t)
property_same t = look Bool property_in (λ k i. refl) (λ ts. refl) property_row t

param_of_tree : (k : Kind) (ts : List Node) → pattern_of (Tree k ts) ≡ pattern_of_param_in (Tree k ts) (Node-F.Tree k ts)
param_of_tree k ts = search (rules, the_lemmas)

param_row : (k : Kind) (ts : List Node) → pattern_of_param_in (Tree k (map by_texts ts)) (Node-F.Tree k (map by_texts ts)) ≡ by_texts (pattern_of_param_in (Tree k ts) (Node-F.Tree k ts))
param_row kind.Param (s ∷ p ∷ []) = refl
param_row k ts = sym (text_tree k ts)

param_same : (t : Node) → pattern_of (by_texts t) ≡ by_texts (pattern_of t)
param_same t = by_children (λ t. pattern_of (by_texts t) ≡ by_texts (pattern_of t))
    (search (rules, the_lemmas), λ x. search (rules, the_lemmas), λ w. search (rules, the_lemmas), λ x. search (rules, the_lemmas), λ s. search (rules, the_lemmas), λ k i. search (rules, the_lemmas))
    (λ ts l. search (rules, the_lemmas))
    (λ k ts l. ap pattern_of (text_tree k ts) ∙ param_of_tree k (map by_texts ts) ∙ param_row k ts ∙ ap by_texts (sym (param_of_tree k ts))) t

is_element_same : (r : Round) (t : Node) → is_element r (by_texts t) ≡ is_element r t
is_element_same r t = rw (absent_same t, property_same t, param_same t, element_same (pattern_of t) r) refl

rest_same : (t : Node) → has_kind is_rest (pattern_of (by_texts t)) ≡ has_kind is_rest (pattern_of t)
rest_same t = ap (has_kind is_rest) (param_same t) ∙ kind_same is_rest (pattern_of t)

elements_same : (r : Round) (ts : List Node) → elements r (map by_texts ts) ≡ elements r ts
elements_same r [] = refl
elements_same r (t ∷ []) = rw (rest_same t, is_element_same r t) refl
elements_same r (t ∷ u ∷ ts) = rw (is_element_same r t) (ap (λ b. is_element r t && b) (elements_same r (u ∷ ts)))

elements_of : (r : Round) (t : Node) → elements r (items_of (by_texts t)) ≡ elements r (items_of t)
elements_of r t = ap (elements r) (items_same t) ∙ elements_same r (items_of t)

left_same : (o t : Node) → left_side (word_of (by_texts o)) (by_texts t) ≡ left_side (word_of o) t
left_same o t = rw (word_same o, kind_same is_pattern_target t, kind_same is_paren t, target_same t) refl

-- ---- chains and strings

chain_same : (t : Node) → is_chain (stripped (by_texts t)) ≡ is_chain (stripped t)
chain_same t = ap is_chain (stripped_texts t) ∙ kind_same is_opt_chain (stripped t)

base_row : (k : Kind) (ts : List Node) → base_goes_on_in (Node-F.Tree k (map by_texts ts)) ≡ base_goes_on_in (Node-F.Tree k ts)
base_row kind.MemberExpr [] = refl
base_row kind.MemberExpr (a ∷ []) = refl
base_row kind.MemberExpr (a ∷ b ∷ []) = refl
base_row kind.MemberExpr (a ∷ b ∷ c ∷ []) = chain_same b
base_row kind.MemberExpr (a ∷ b ∷ c ∷ d ∷ ts) = refl
base_row kind.OptCall [] = refl
base_row kind.OptCall (a ∷ []) = refl
base_row kind.OptCall (a ∷ b ∷ []) = refl
base_row kind.OptCall (a ∷ b ∷ c ∷ []) = chain_same b
base_row kind.OptCall (a ∷ b ∷ c ∷ d ∷ ts) = refl
base_row k ts = refl

base_same : (t : Node) → base_goes_on_in (out-Node (by_texts t)) ≡ base_goes_on_in (out-Node t)
base_same t = look Bool base_goes_on_in (λ k i. refl) (λ ts. refl) base_row t

literal_row : (k : Kind) (ts : List Node) → literal_in (Node-F.Tree k (map by_texts ts)) ≡ literal_in (Node-F.Tree k ts)
literal_row kind.Str ts = text_at _ ts
literal_row k ts = refl

literal_same : (t : Node) → literal_in (out-Node (by_texts t)) ≡ literal_in (out-Node t)
literal_same t = look (Option (List ℕ)) literal_in (λ k i. refl) (λ ts. refl) literal_row t

string_same : (t : Node) → is_string (by_texts t) ≡ is_string t
string_same t = ap is_some (literal_same t)

literal_at : (n : ℕ) (ts : List Node) → literal_of (slice_get (map by_texts ts) n) ≡ literal_of (slice_get ts n)
literal_at n [] = refl
literal_at zero (t ∷ ts) = literal_same t
literal_at (suc n) (t ∷ ts) = literal_at n ts

statement_row : (k : Kind) (ts : List Node) → statement_in (Node-F.Tree k (map by_texts ts)) ≡ statement_in (Node-F.Tree k ts)
statement_row kind.ExprStmt ts = literal_at _ ts
statement_row k ts = refl

directive_same : (t : Node) → string_of (by_texts t) ≡ string_of t
directive_same t = look (Option (List ℕ)) statement_in (λ k i. refl) (λ ts. refl) statement_row t

use_strict_same : (ts : List Node) → has_use_strict (map by_texts ts) ≡ has_use_strict ts
use_strict_same [] = refl
use_strict_same (t ∷ ts) = rw (directive_same t, use_strict_same ts) refl

abbrev items_at : List Node → ℕ → List Node
items_at ts n = scoping.items_of (slice_get ts n)

list_same : (t : Node) → scoping.items_in (out-Node (by_texts t)) ≡ map by_texts (scoping.items_in (out-Node t))
list_same t = by_children (λ t. scoping.items_in (out-Node (by_texts t)) ≡ map by_texts (scoping.items_in (out-Node t)))
    (search (rules, the_lemmas), λ x. search (rules, the_lemmas), λ w. search (rules, the_lemmas), λ x. search (rules, the_lemmas), λ s. search (rules, the_lemmas), λ k i. search (rules, the_lemmas))
    (λ ts l. search (rules, the_lemmas)) (λ k ts l. search (rules, the_lemmas)) t

list_at : (n : ℕ) (ts : List Node) → items_at (map by_texts ts) n ≡ map by_texts (items_at ts n)
list_at n [] = refl
list_at zero (t ∷ ts) = list_same t
list_at (suc n) (t ∷ ts) = list_at n ts

abbrev strict_in : Node-F Node → Bool
strict_in y = has_use_strict (block_in y)

strict_row : (k : Kind) (ts : List Node) → strict_in (Node-F.Tree k (map by_texts ts)) ≡ strict_in (Node-F.Tree k ts)
strict_row kind.BlockStmt ts = ap has_use_strict (list_at _ ts) ∙ use_strict_same (items_at ts _)
strict_row k ts = refl

strict_same : (t : Node) → is_strict (by_texts t) ≡ is_strict t
strict_same t = look Bool strict_in (λ k i. refl) (λ ts. refl) strict_row t

-- ---- declarators, functions and forms

initialised_row : (b : Bool) (k : Kind) (ts : List Node) → initialised_in b (Node-F.Tree k (map by_texts ts)) ≡ initialised_in b (Node-F.Tree k ts)
initialised_row b kind.VarDeclarator [] = refl
initialised_row b kind.VarDeclarator (s ∷ []) = refl
initialised_row b kind.VarDeclarator (s ∷ n ∷ []) = refl
initialised_row b kind.VarDeclarator (s ∷ n ∷ i ∷ []) = rw (name_kind_same n, absent_same i) refl
initialised_row b kind.VarDeclarator (s ∷ n ∷ i ∷ t ∷ ts) = refl
initialised_row b k ts = refl

initialised_same : (b : Bool) (t : Node) → initialised_in b (out-Node (by_texts t)) ≡ initialised_in b (out-Node t)
initialised_same b t = look Bool (initialised_in b) (λ k i. refl) (λ ts. refl) (initialised_row b) t

one_bare_same : (ts : List Node) → one_bare (map by_texts ts) ≡ one_bare ts
one_bare_same [] = refl
one_bare_same (t ∷ []) = ap not (initialised_same true t)
one_bare_same (t ∷ u ∷ ts) = refl

one_bare_of : (t : Node) → one_bare (items_of (by_texts t)) ≡ one_bare (items_of t)
one_bare_of t = ap one_bare (items_same t) ∙ one_bare_same (items_of t)

pattern_name_row : (k : Kind) (i : Ident) → is_name_in (Node-F.Identifier k (bare i)) ≡ is_name_in (Node-F.Identifier k i)
pattern_name_row kind.BindingIdent i = refl
pattern_name_row k i = refl

pattern_name_same : (t : Node) → is_name_in (out-Node (by_texts t)) ≡ is_name_in (out-Node t)
pattern_name_same t = look Bool is_name_in pattern_name_row (λ ts. refl) (λ k ts. refl) t

named_row : (b : Bool) (k : Kind) (ts : List Node) → is_named_in b (Node-F.Tree k (map by_texts ts)) ≡ is_named_in b (Node-F.Tree k ts)
named_row b kind.VarDeclarator [] = refl
named_row b kind.VarDeclarator (s ∷ []) = refl
named_row b kind.VarDeclarator (s ∷ n ∷ []) = refl
named_row b kind.VarDeclarator (s ∷ n ∷ i ∷ []) = rw (pattern_name_same n, absent_same i) refl
named_row b kind.VarDeclarator (s ∷ n ∷ i ∷ t ∷ ts) = refl
named_row b k ts = refl

named_same : (b : Bool) (t : Node) → are_named b (items_of (by_texts t)) ≡ are_named b (items_of t)
named_same b t = ap (are_named b) (items_same t) ∙ all_same (λ d. is_named_in b (out-Node d)) (λ t. look Bool (is_named_in b) (λ k i. refl) (λ ts. refl) (named_row b) t) (items_of t)

plain_function_row : (k : Kind) (ts : List Node) → plain_in (Node-F.Tree k (map by_texts ts)) ≡ plain_in (Node-F.Tree k ts)
plain_function_row kind.Function ts = rw (flag_at function_fields.IS_GENERATOR ts, flag_at function_fields.IS_ASYNC ts) refl
plain_function_row k ts = refl

plain_function_same : (t : Node) → plain_in (out-Node (by_texts t)) ≡ plain_in (out-Node t)
plain_function_same t = look Bool plain_in (λ k i. refl) (λ ts. refl) plain_function_row t

form_row : (k : Kind) (ts : List Node) → form_in (Node-F.Tree k (map by_texts ts)) ≡ form_in (Node-F.Tree k ts)
form_row kind.VarDecl [] = refl
form_row kind.VarDecl (a ∷ []) = refl
form_row kind.VarDecl (a ∷ b ∷ []) = refl
form_row kind.VarDecl (a ∷ b ∷ c ∷ []) = ap form_of_word (word_same b)
form_row kind.VarDecl (a ∷ b ∷ c ∷ d ∷ ts) = refl
form_row kind.FnDecl [] = refl
form_row kind.FnDecl (a ∷ []) = refl
form_row kind.FnDecl (a ∷ b ∷ []) = ap form_of_function (plain_function_same b)
form_row kind.FnDecl (a ∷ b ∷ c ∷ ts) = refl
form_row k ts = refl

form_same : (t : Node) → form (by_texts t) ≡ form t
form_same t = look Form form_in (λ k i. refl) (λ ts. refl) form_row t

using_same : (t : Node) → is_using (by_texts t) ≡ is_using t
using_same t = ap is_using_form (form_same t)

no_using_same : (ts : List Node) → list_all (λ t. not (is_using t)) (map by_texts ts) ≡ list_all (λ t. not (is_using t)) ts
no_using_same ts = all_same (λ t. not (is_using t)) (λ t. ap not (using_same t)) ts

declares_row : (k : Kind) (ts : List Node) → declares_in (Node-F.Tree k (map by_texts ts)) ≡ declares_in (Node-F.Tree k ts)
declares_row kind.VarDecl [] = refl
declares_row kind.VarDecl (a ∷ []) = refl
declares_row kind.VarDecl (a ∷ b ∷ []) = refl
declares_row kind.VarDecl (a ∷ b ∷ c ∷ []) = refl
declares_row kind.VarDecl (a ∷ b ∷ c ∷ d ∷ ts) = refl
declares_row kind.UsingDecl [] = refl
declares_row kind.UsingDecl (a ∷ []) = refl
declares_row kind.UsingDecl (a ∷ b ∷ []) = refl
declares_row kind.UsingDecl (a ∷ b ∷ c ∷ []) = refl
declares_row kind.UsingDecl (a ∷ b ∷ c ∷ d ∷ ts) = refl
declares_row k ts = refl

declares_same : (t : Node) → declares_in (out-Node (by_texts t)) ≡ declares_in (out-Node t)
declares_same t = look Bool declares_in (λ k i. refl) (λ ts. refl) declares_row t

parameters_row : (k : Kind) (ts : List Node) → parameters_in (Node-F.Tree k (map by_texts ts)) ≡ map by_texts (parameters_in (Node-F.Tree k ts))
parameters_row kind.Function [] = refl
parameters_row kind.Function (a ∷ []) = refl
parameters_row kind.Function (a ∷ b ∷ []) = refl
parameters_row kind.Function (a ∷ b ∷ c ∷ []) = refl
parameters_row kind.Function (a ∷ b ∷ c ∷ d ∷ []) = refl
parameters_row kind.Function (a ∷ b ∷ c ∷ d ∷ e ∷ []) = items_same b
parameters_row kind.Function (a ∷ b ∷ c ∷ d ∷ e ∷ f ∷ ts) = refl
parameters_row k ts = refl

parameters_of_tree : (k : Kind) (ts : List Node) → parameters_in (out-Node (Tree k ts)) ≡ parameters_in (Node-F.Tree k ts)
parameters_of_tree k ts = search (rules, the_lemmas)

parameters_same : (t : Node) → parameters_in (out-Node (by_texts t)) ≡ map by_texts (parameters_in (out-Node t))
parameters_same t = by_children (λ t. parameters_in (out-Node (by_texts t)) ≡ map by_texts (parameters_in (out-Node t)))
    (search (rules, the_lemmas), λ x. search (rules, the_lemmas), λ w. search (rules, the_lemmas), λ x. search (rules, the_lemmas), λ s. search (rules, the_lemmas), λ k i. search (rules, the_lemmas))
    (λ ts l. search (rules, the_lemmas))
    (λ k ts l. ap (λ t. parameters_in (out-Node t)) (text_tree k ts) ∙ parameters_of_tree k (map by_texts ts) ∙ parameters_row k ts ∙ ap (map by_texts) (sym (parameters_of_tree k ts))) t

none_rest_same : (ts : List Node) → one_without_rest (map by_texts ts) ≡ one_without_rest ts
none_rest_same [] = refl
none_rest_same (t ∷ []) = ap not (rest_same t)
none_rest_same (t ∷ u ∷ ts) = refl

accessor_same : (f k : Node) → accessor (by_texts f) (by_texts k) ≡ accessor f k
accessor_same f k =
    ap (λ w. (not (is_getter w) || nat_eq (length (parameters_in (out-Node (by_texts f)))) 0) && (not (is_setter w) || one_without_rest (parameters_in (out-Node (by_texts f))))) (word_same k)
    ∙ ap (λ ps. (not (is_getter (word_of k)) || nat_eq (length ps) 0) && (not (is_setter (word_of k)) || one_without_rest ps)) (parameters_same f)
    ∙ rw (count_same (parameters_in (out-Node f)), none_rest_same (parameters_in (out-Node f))) refl

text_same : (x : List ℕ) (t : Node) → is_text x (by_texts t) ≡ is_text x t
text_same x t = ap (λ o. pointwise nat_eq (unwrap_or o []) x) (words_same t)

key_row : (k : Kind) (ts : List Node) → constructor_key_in (Node-F.Tree k (map by_texts ts)) ≡ constructor_key_in (Node-F.Tree k ts)
key_row kind.IdentName [] = refl
key_row kind.IdentName (a ∷ []) = refl
key_row kind.IdentName (a ∷ b ∷ []) = text_same _ b
key_row kind.IdentName (a ∷ b ∷ c ∷ ts) = refl
key_row kind.Str [] = refl
key_row kind.Str (a ∷ []) = refl
key_row kind.Str (a ∷ b ∷ []) = refl
key_row kind.Str (a ∷ b ∷ c ∷ []) = text_same _ b
key_row kind.Str (a ∷ b ∷ c ∷ d ∷ ts) = refl
key_row k ts = refl

key_same : (t : Node) → constructor_key_in (out-Node (by_texts t)) ≡ constructor_key_in (out-Node t)
key_same t = look Bool constructor_key_in (λ k i. refl) (λ ts. refl) key_row t

specifier_row : (k : Kind) (ts : List Node) → local_specifier_in (Node-F.Tree k (map by_texts ts)) ≡ local_specifier_in (Node-F.Tree k ts)
specifier_row kind.ExportNamedSpecifier [] = refl
specifier_row kind.ExportNamedSpecifier (a ∷ []) = refl
specifier_row kind.ExportNamedSpecifier (a ∷ b ∷ []) = refl
specifier_row kind.ExportNamedSpecifier (a ∷ b ∷ c ∷ []) = name_kind_same b
specifier_row kind.ExportNamedSpecifier (a ∷ b ∷ c ∷ d ∷ ts) = refl
specifier_row k ts = refl

specifiers_same : (t : Node) → list_all (λ t. local_specifier_in (out-Node t)) (items_of (by_texts t)) ≡ list_all (λ t. local_specifier_in (out-Node t)) (items_of t)
specifiers_same t = ap (list_all (λ t. local_specifier_in (out-Node t))) (items_same t)
    ∙ all_same (λ t. local_specifier_in (out-Node t)) (λ t. look Bool local_specifier_in (λ k i. refl) (λ ts. refl) specifier_row t) (items_of t)

-- ---- what is asked of a node

-- the same with the contexts emptied, where that changes nothing
abbrev cleared : Node → Asked
cleared t = record { whole = by_texts t; sound = sound t; in_head = in_head t }

-- ---- rows: where the children are as sound, the node is

private_same : (t : Node) → no_private (cleared t) ≡ no_private (of t)
private_same t = ap not (kind_same is_private_name t)

all_cleared : (ts : List Node) (r : Round) → all_sound (map cleared ts) r ≡ all_sound (map of ts) r
all_cleared [] r = refl
all_cleared (t ∷ ts) r = rw (private_same t, all_cleared ts r) refl

body_same : (t : Node) (r : Round) → loop_body (cleared t) r ≡ loop_body (of t) r
body_same t r = ap (λ f. is_body f && sound t r) (form_same t)

branch_same : (t : Node) (r : Round) → branch (cleared t) r ≡ branch (of t) r
branch_same t r = ap (λ f. is_branch r.strict f && sound t r) (form_same t)

bound_same : (t : Node) (r : Round) → bound (cleared t) r ≡ bound (of t) r
bound_same t r = name_same r.strict t

head_same : (t : Node) (r : Round) → head (cleared t) r ≡ head (of t) r
head_same t r = rw (declares_same t, pattern_same t (assigning r)) refl

list_no_using : (t : Node) → no_using (cleared t) ≡ no_using (of t)
list_no_using t = ap (list_all (λ t. not (is_using t))) (items_same t) ∙ no_using_same (items_of t)

initialised_all : (b : Bool) (t : Node) → list_all (λ d. initialised_in b (out-Node d)) (items_of (by_texts t)) ≡ list_all (λ d. initialised_in b (out-Node d)) (items_of t)
initialised_all b t = ap (list_all (λ d. initialised_in b (out-Node d))) (items_same t) ∙ all_same (λ d. initialised_in b (out-Node d)) (initialised_same b) (items_of t)

count_of : (t : Node) → length (items_of (by_texts t)) ≡ length (items_of t)
count_of t = ap length (items_same t) ∙ count_same (items_of t)

abbrev Row : Kind → List Node → Round → Type 0
Row k ts r = sound_in (Node-F.Tree k (map cleared ts)) r ≡ sound_in (Node-F.Tree k (map of ts)) r

row : (k : Kind) (ts : List Node) (r : Round) → Row k ts r
row kind.SeqExpr (s ∷ e ∷ []) r = ap (λ n. nat_le 2 n && sound e r) (count_of e)
row kind.AssignExpr (s ∷ o ∷ a ∷ b ∷ []) r = rw (left_same o a, all_cleared (b ∷ []) (binding r)) refl
row kind.UpdateExpr (s ∷ o ∷ p ∷ a ∷ []) r = ap (λ b. b && sound a (binding r)) (target_same a)
row kind.BinExpr (s ∷ o ∷ a ∷ b ∷ []) r = rw (word_same o, private_same a, all_cleared (b ∷ []) (binding r)) refl
row kind.MemberExpr (s ∷ o ∷ p ∷ []) r = rw (private_same o) refl
row kind.Tpl (s ∷ e ∷ q ∷ []) r = rw (count_of q, count_of e) refl
row kind.OptChainExpr (s ∷ o ∷ b ∷ []) r = rw (holds_same o, base_same b) refl
row kind.ArrayPat (s ∷ e ∷ []) r = ap (λ b. b && sound e r) (elements_of r e)
row kind.ObjectPat (s ∷ e ∷ []) r = ap (λ b. b && sound e r) (elements_of r e)
row kind.RestPat (s ∷ a ∷ []) r = ap (λ b. b && sound a r) (pattern_same a r)
row kind.KeyValuePatProp (k ∷ v ∷ []) r = ap (λ b. b && (sound k (binding r) && sound v r)) (element_same v r)
row kind.AssignPat (s ∷ a ∷ b ∷ []) r = rw (pattern_same a r, all_cleared (b ∷ []) (binding r)) refl
row kind.AssignPatProp (s ∷ k ∷ v ∷ []) r = ap (λ b. sound k r && b) (all_cleared (v ∷ []) (binding r))
row kind.ArrowExpr (s ∷ p ∷ b ∷ a ∷ []) r = rw (elements_of (binding r) p, strict_same b) (ap (λ c. elements (binding r) (items_of p) && c) (all_cleared (p ∷ b ∷ []) (strictly (is_strict b) r)))
row kind.Function (s ∷ p ∷ b ∷ g ∷ a ∷ []) r = rw (elements_of (binding r) p, strict_same b) (ap (λ c. elements (binding r) (items_of p) && c) (all_cleared (p ∷ b ∷ []) (strictly (is_strict b) r)))
row kind.Constructor (s ∷ k ∷ p ∷ b ∷ []) r = rw (key_same k, elements_of (binding r) p) (ap (λ c. constructor_key_in (out-Node k) && (elements (binding r) (items_of p) && c)) (all_cleared (p ∷ b ∷ []) (binding r)))
row kind.GetterProp (s ∷ k ∷ b ∷ []) r = rw (strict_same b) (rw (all_cleared (k ∷ []) (binding r)) (ap (λ c. all_sound (of k ∷ []) (binding r) && c) (all_cleared (b ∷ []) (strictly (is_strict b) r))))
row kind.SetterProp (s ∷ k ∷ p ∷ b ∷ []) r = rw (element_same p (binding r), strict_same b) (rw (all_cleared (k ∷ []) (binding r)) (ap (λ c. element p (binding r) && (all_sound (of k ∷ []) (binding r) && c)) (all_cleared (p ∷ b ∷ []) (strictly (is_strict b) r))))
row kind.ClassMethod (s ∷ k ∷ f ∷ w ∷ a ∷ []) r = ap (λ b. b && (sound k (binding r) && sound f r)) (accessor_same f w)
row kind.PrivateMethod (s ∷ k ∷ f ∷ w ∷ a ∷ []) r = ap (λ b. b && sound f r) (accessor_same f w)
row kind.PrivateProp (s ∷ k ∷ v ∷ a ∷ []) r = all_cleared (v ∷ []) (binding r)
row kind.Class (s ∷ c ∷ b ∷ []) r = all_cleared (c ∷ b ∷ []) (strictly true r)
row kind.FnDecl (i ∷ f ∷ []) r = ap (λ b. b && sound f r) (bound_same i r)
row kind.FnExpr (i ∷ f ∷ []) r = ap (λ b. b && sound f r) (bound_same i r)
row kind.ClassDecl (i ∷ c ∷ []) r = ap (λ b. b && sound c r) (bound_same i (strictly true r))
row kind.ClassExpr (i ∷ c ∷ []) r = ap (λ b. b && sound c r) (bound_same i (strictly true r))
row kind.VarDeclarator (s ∷ n ∷ i ∷ []) r = rw (pattern_same n (binding r), all_cleared (i ∷ []) (binding r)) refl
row kind.VarDecl (s ∷ w ∷ d ∷ []) r = rw (word_same w) (ap (λ b. b && sound d r) (initialised_all (is_const (word_of w)) d))
row kind.UsingDecl (s ∷ a ∷ d ∷ []) r = ap (λ b. b && sound d r) (named_same true d)
row kind.ExprStmt (s ∷ e ∷ []) r = rw (stripped_texts e, string_same (stripped e), string_same e, all_cleared (e ∷ []) (binding r)) refl
row kind.CatchClause (s ∷ p ∷ b ∷ []) r = rw (absent_same p, pattern_same p (binding r)) refl
row kind.WithStmt (s ∷ o ∷ b ∷ []) r = rw (all_cleared (o ∷ []) (binding r), body_same b r) refl
row kind.LabeledStmt (s ∷ a ∷ b ∷ []) r = ap (λ c. sound a r && c) (branch_same b r)
row kind.IfStmt (s ∷ t ∷ c ∷ a ∷ []) r = rw (all_cleared (t ∷ []) (binding r), branch_same c r, absent_same a, branch_same a r) refl
row kind.SwitchCase (s ∷ t ∷ c ∷ []) r = rw (all_cleared (t ∷ []) (binding r), list_no_using c) refl
row kind.WhileStmt (s ∷ t ∷ b ∷ []) r = rw (all_cleared (t ∷ []) (binding r), body_same b r) refl
row kind.DoWhileStmt (s ∷ b ∷ t ∷ []) r = rw (all_cleared (t ∷ []) (binding r), body_same b r) refl
row kind.ForStmt (s ∷ i ∷ t ∷ u ∷ b ∷ []) r = rw (all_cleared (i ∷ t ∷ u ∷ []) (binding r), body_same b r) refl
row kind.ForInStmt (s ∷ a ∷ e ∷ b ∷ []) r = rw (using_same a, head_same a r, all_cleared (e ∷ []) (binding r), body_same b r) refl
row kind.ForOfStmt (s ∷ w ∷ a ∷ e ∷ b ∷ []) r = rw (head_same a r, all_cleared (e ∷ []) (binding r), body_same b r) refl
row kind.ImportNamedSpecifier (s ∷ a ∷ b ∷ []) r = bound_same a r
row kind.ImportDefaultSpecifier (s ∷ a ∷ []) r = bound_same a r
row kind.ImportStarAsSpecifier (s ∷ a ∷ []) r = bound_same a r
row kind.NamedExport (s ∷ l ∷ f ∷ a ∷ []) r = rw (absent_same f, specifiers_same l) refl
row kind.ExportNamedSpecifier (s ∷ o ∷ e ∷ []) r = refl
row kind.ExportNamespaceSpecifier ts r = refl
row kind.ExportDecl (s ∷ d ∷ []) r = ap (λ b. not b && sound d r) (using_same d)
row kind.Module (s ∷ b ∷ h ∷ []) r = refl
row kind.Script (s ∷ b ∷ h ∷ []) r = rw (list_no_using b, items_same b, use_strict_same (items_of b)) refl
row kind.TsInterfaceDecl ts r = refl
row kind.TsTypeAliasDecl ts r = refl
row kind.TsEnumDecl ts r = refl
row kind.TsModuleDecl ts r = refl
row k ts r = all_cleared ts (binding r)

heads : (k : Kind) (ts : List Node) (r : Round) → in_head_in (Node-F.Tree k (map cleared ts)) r ≡ in_head_in (Node-F.Tree k (map of ts)) r
heads kind.VarDecl [] r = refl
heads kind.VarDecl (s ∷ []) r = refl
heads kind.VarDecl (s ∷ w ∷ []) r = refl
heads kind.VarDecl (s ∷ w ∷ d ∷ []) r = ap (λ b. b && sound d (binding r)) (one_bare_of d)
heads kind.VarDecl (s ∷ w ∷ d ∷ e ∷ ts) r = refl
heads kind.UsingDecl [] r = refl
heads kind.UsingDecl (s ∷ []) r = refl
heads kind.UsingDecl (s ∷ w ∷ []) r = refl
heads kind.UsingDecl (s ∷ w ∷ d ∷ []) r = rw (one_bare_of d, named_same false d) refl
heads kind.UsingDecl (s ∷ w ∷ d ∷ e ∷ ts) r = refl
heads k ts r = refl

abbrev Same : Node → Type 0
Same t = (sound (by_texts t) ≡ sound t) × (in_head (by_texts t) ≡ in_head t)

asked_again : (t : Node) → Same t → of (by_texts t) ≡ cleared t
asked_again t h i = record { whole = by_texts t; sound = h.0 i; in_head = h.1 i }

each_again : (ts : List Node) → Each Same ts → map of (map by_texts ts) ≡ map cleared ts
each_again [] l = refl
each_again (t ∷ ts) l = rw (asked_again t l.0, each_again ts l.1) refl

name_sound : (k : Kind) (i : Ident) (r : Round) → sound_in (Node-F.Identifier k (bare i)) r ≡ sound_in (Node-F.Identifier k i) r
name_sound kind.BindingIdent i r = refl
name_sound k i r = refl

list_sounds : (ts : List Node) → Each Same ts → (r : Round) → sound (by_texts (Many ts)) r ≡ sound (Many ts) r
list_sounds ts l r = ap (λ t. sound t r) (text_list ts) ∙ sound_list (map by_texts ts) r ∙ ap (λ es. all_sound es r) (each_again ts l) ∙ all_cleared ts r ∙ sym (sound_list ts r)

tree_sounds : (k : Kind) (ts : List Node) → Each Same ts → (r : Round) → sound (by_texts (Tree k ts)) r ≡ sound (Tree k ts) r
tree_sounds k ts l r = ap (λ t. sound t r) (text_tree k ts) ∙ sound_tree k (map by_texts ts) r ∙ ap (λ es. sound_in (Node-F.Tree k es) r) (each_again ts l) ∙ row k ts r ∙ sym (sound_tree k ts r)

tree_heads : (k : Kind) (ts : List Node) → Each Same ts → (r : Round) → in_head (by_texts (Tree k ts)) r ≡ in_head (Tree k ts) r
tree_heads k ts l r = ap (λ t. in_head t r) (text_tree k ts) ∙ head_tree k (map by_texts ts) r ∙ ap (λ es. in_head_in (Node-F.Tree k es) r) (each_again ts l) ∙ heads k ts r ∙ sym (head_tree k ts r)

name_sounds : (k : Kind) (i : Ident) (r : Round) → sound (by_texts (Identifier k i)) r ≡ sound (Identifier k i) r
name_sounds k i r = ap (λ t. sound t r) (text_name k i) ∙ sound_name k (bare i) r ∙ name_sound k i r ∙ sym (sound_name k i r)

name_heads : (k : Kind) (i : Ident) (r : Round) → in_head (by_texts (Identifier k i)) r ≡ in_head (Identifier k i) r
name_heads k i r = ap (λ t. in_head t r) (text_name k i) ∙ head_name k (bare i) r ∙ sym (head_name k i r)

stays : (t : Node) → by_texts t ≡ t → Same t
stays t e = (ap sound e, ap in_head e)

pub sound_same : (t : Node) → Same t
sound_same t = by_children Same
    (stays _ text_absent, λ x. stays _ (text_flag x), λ w. stays _ (text_word w), λ x. stays _ (text_text x), λ s. stays _ (text_span s), λ k i. (λ j r. name_sounds k i r j, λ j r. name_heads k i r j))
    (λ ts l. (λ j r. list_sounds ts l r j, λ j r. (ap (λ t. in_head t r) (text_list ts) ∙ head_list (map by_texts ts) r ∙ sym (head_list ts r)) j))
    (λ k ts l. (λ j r. tree_sounds k ts l r j, λ j r. tree_heads k ts l r j)) t

pub writable_same : (t : Node) → is_writable (by_texts t) ≡ is_writable t
writable_same t = ap (λ f. f (record { strict = false; assigned = false })) (sound_same t).0
