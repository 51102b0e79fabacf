-- What is asked of leaves and of names rests on no context.
use Rattle.std.proofs.Common.{◌≡◌, ℕ, Bool, not, ◌&&◌, ◌||◌, Option, Some, None, List, [], ◌∷◌, map, refl, ap, ◌∙◌, rules}
use Rattle.std.specs.List.{list_any}
use Rattle.swc_tree_node.specs.declared.kind.Kind.{Kind}
use Rattle.swc_tree_node.specs.declared.kind.Kind.TheVariants as kind
use Rattle.swc_tree_node.specs.declared.node.Node.{Node, out-Node, the_lemmas}
use Rattle.swc_tree_node.specs.declared.node.Node.TheOpen.{Node-F}
use Rattle.swc_tree_node.specs.Parts.{text_of}
use Rattle.swc_tree_scoping.specs.Readings.{by_texts}
use Rattle.swc_tree_grammar.specs.Shapes.{items_of}
use Rattle.swc_tree_grammar.specs.Levels.{is_absent}
use Rattle.swc_tree_grammar.proofs.Induction.{by_children}
use Rattle.text_words.specs.Words.{is_big_integer, is_hashbang, is_name, is_number}
use Rattle.text_checks.specs.Spelled.{are_bad_flags, fails, fails_there, has_amiss, has_no_value, is_amiss, is_amiss_export, is_amiss_specifier, is_bad_leaf, is_bad_raw, is_bad_regex, is_bad_string, is_bad_template, is_misspelled, is_reserved_name, is_valueless}
use Rattle.text_words.specs.Words as words
use Rattle.text_kept_laws.proofs.Cleared.{absent_same, any_same, items_same, look, text_absent, text_flag, text_list, text_name, text_span, text_text, text_tree, text_word}

-- ---- leaves

text_same : (t : Node) → text_of (by_texts t) ≡ text_of t
text_same t = by_children (λ t. text_of (by_texts t) ≡ text_of t) (
  ap text_of text_absent,
  λ x. ap text_of (text_flag x),
  λ w. ap text_of (text_word w),
  λ x. ap text_of (text_text x),
  λ s. ap text_of (text_span s),
  λ k i. ap text_of (text_name k i) ∙ search (rules, the_lemmas),
)
    (λ ts h. ap text_of (text_list ts) ∙ search (rules, the_lemmas)) (λ k ts h. ap text_of (text_tree k ts) ∙ search (rules, the_lemmas)) t

there_same : (p : List ℕ → Bool) (t : Node) → fails_there p (by_texts t) ≡ fails_there p t
there_same p t = ap (λ b. not b && fails p (text_of (by_texts t))) (absent_same t) ∙ ap (λ o. not (is_absent t) && fails p o) (text_same t)

raw_same : (o : Option (List ℕ)) (t : Node) → is_bad_raw o (by_texts t) ≡ is_bad_raw o t
raw_same (Some x) t = there_same (words.is_string x) t
raw_same None t = refl

string_same : (v r : Node) → is_bad_string (by_texts v) (by_texts r) ≡ is_bad_string v r
string_same v r = ap (λ o. is_bad_raw o (by_texts r)) (text_same v) ∙ raw_same (text_of v) r

flags_same : (o : Option (List ℕ)) (t : Node) → are_bad_flags o (by_texts t) ≡ are_bad_flags o t
flags_same (Some x) t = ap (fails (words.is_regex x)) (text_same t)
flags_same None t = refl

regex_same : (p f : Node) → is_bad_regex (by_texts p) (by_texts f) ≡ is_bad_regex p f
regex_same p f = ap (λ o. are_bad_flags o (by_texts f)) (text_same p) ∙ flags_same (text_of p) f

template_same : (c r : Node) → is_bad_template (by_texts c) (by_texts r) ≡ is_bad_template c r
template_same c r = ap (λ o. fails (words.is_template o) (text_of (by_texts r))) (text_same c) ∙ ap (fails (words.is_template (text_of c))) (text_same r)

leaf_row : (k : Kind) (ts : List Node) → is_bad_leaf (Node-F.Tree k (map by_texts ts)) ≡ is_bad_leaf (Node-F.Tree k ts)
leaf_row kind.IdentName [] = refl
leaf_row kind.IdentName (a ∷ []) = refl
leaf_row kind.IdentName (a ∷ b ∷ []) = ap (fails is_name) (text_same b)
leaf_row kind.IdentName (a ∷ b ∷ c ∷ ts) = refl
leaf_row kind.PrivateName [] = refl
leaf_row kind.PrivateName (a ∷ []) = refl
leaf_row kind.PrivateName (a ∷ b ∷ []) = ap (fails is_name) (text_same b)
leaf_row kind.PrivateName (a ∷ b ∷ c ∷ ts) = refl
leaf_row kind.Number [] = refl
leaf_row kind.Number (a ∷ []) = refl
leaf_row kind.Number (a ∷ b ∷ []) = ap (fails is_number) (text_same b)
leaf_row kind.Number (a ∷ b ∷ c ∷ ts) = refl
leaf_row kind.BigInt [] = refl
leaf_row kind.BigInt (a ∷ []) = refl
leaf_row kind.BigInt (a ∷ b ∷ []) = ap (fails is_big_integer) (text_same b)
leaf_row kind.BigInt (a ∷ b ∷ c ∷ ts) = refl
leaf_row kind.Str [] = refl
leaf_row kind.Str (a ∷ []) = refl
leaf_row kind.Str (a ∷ b ∷ []) = refl
leaf_row kind.Str (a ∷ b ∷ c ∷ []) = string_same b c
leaf_row kind.Str (a ∷ b ∷ c ∷ d ∷ ts) = refl
leaf_row kind.Regex [] = refl
leaf_row kind.Regex (a ∷ []) = refl
leaf_row kind.Regex (a ∷ b ∷ []) = refl
leaf_row kind.Regex (a ∷ b ∷ c ∷ []) = regex_same b c
leaf_row kind.Regex (a ∷ b ∷ c ∷ d ∷ ts) = refl
leaf_row kind.TplElement [] = refl
leaf_row kind.TplElement (a ∷ []) = refl
leaf_row kind.TplElement (a ∷ b ∷ []) = refl
leaf_row kind.TplElement (a ∷ b ∷ c ∷ []) = refl
leaf_row kind.TplElement (a ∷ b ∷ c ∷ d ∷ []) = template_same c d
leaf_row kind.TplElement (a ∷ b ∷ c ∷ d ∷ e ∷ ts) = refl
leaf_row kind.Module [] = refl
leaf_row kind.Module (a ∷ []) = refl
leaf_row kind.Module (a ∷ b ∷ []) = refl
leaf_row kind.Module (a ∷ b ∷ c ∷ []) = there_same is_hashbang c
leaf_row kind.Module (a ∷ b ∷ c ∷ d ∷ ts) = refl
leaf_row kind.Script [] = refl
leaf_row kind.Script (a ∷ []) = refl
leaf_row kind.Script (a ∷ b ∷ []) = refl
leaf_row kind.Script (a ∷ b ∷ c ∷ []) = there_same is_hashbang c
leaf_row kind.Script (a ∷ b ∷ c ∷ d ∷ ts) = refl
leaf_row k ts = refl

leaf_same : (t : Node) → is_bad_leaf (out-Node (by_texts t)) ≡ is_bad_leaf (out-Node t)
leaf_same t = look Bool is_bad_leaf (λ k i. refl) (λ ts. refl) leaf_row t

-- ---- names, and templates without a tag

reserved_same : (t : Node) → is_reserved_name (out-Node (by_texts t)) ≡ is_reserved_name (out-Node t)
reserved_same t = look Bool is_reserved_name (λ k i. refl) (λ ts. refl) (λ k ts. refl) t

value_row : (k : Kind) (ts : List Node) → has_no_value (Node-F.Tree k (map by_texts ts)) ≡ has_no_value (Node-F.Tree k ts)
value_row kind.TplElement [] = refl
value_row kind.TplElement (a ∷ []) = refl
value_row kind.TplElement (a ∷ b ∷ []) = refl
value_row kind.TplElement (a ∷ b ∷ c ∷ []) = refl
value_row kind.TplElement (a ∷ b ∷ c ∷ d ∷ []) = absent_same c
value_row kind.TplElement (a ∷ b ∷ c ∷ d ∷ e ∷ ts) = refl
value_row k ts = refl

value_same : (t : Node) → has_no_value (out-Node (by_texts t)) ≡ has_no_value (out-Node t)
value_same t = look Bool has_no_value (λ k i. refl) (λ ts. refl) value_row t

values_same : (t : Node) → list_any (λ t. has_no_value (out-Node t)) (items_of (by_texts t)) ≡ list_any (λ t. has_no_value (out-Node t)) (items_of t)
values_same t = ap (list_any (λ t. has_no_value (out-Node t))) (items_same t) ∙ any_same (λ t. has_no_value (out-Node t)) value_same (items_of t)

valueless_row : (k : Kind) (ts : List Node) → is_valueless (Node-F.Tree k (map by_texts ts)) ≡ is_valueless (Node-F.Tree k ts)
valueless_row kind.Tpl [] = refl
valueless_row kind.Tpl (a ∷ []) = refl
valueless_row kind.Tpl (a ∷ b ∷ []) = refl
valueless_row kind.Tpl (a ∷ b ∷ c ∷ []) = values_same c
valueless_row kind.Tpl (a ∷ b ∷ c ∷ d ∷ ts) = refl
valueless_row k ts = refl

valueless_same : (t : Node) → is_valueless (out-Node (by_texts t)) ≡ is_valueless (out-Node t)
valueless_same t = look Bool is_valueless (λ k i. refl) (λ ts. refl) valueless_row t

amiss_same : (t : Node) → is_amiss (by_texts t) ≡ is_amiss t
amiss_same t = ap (λ b. b || is_valueless (out-Node (by_texts t))) (reserved_same t) ∙ ap (λ b. is_reserved_name (out-Node t) || b) (valueless_same t)

any_amiss : (ts : List Node) → list_any is_amiss (map by_texts ts) ≡ list_any is_amiss ts
any_amiss ts = any_same is_amiss amiss_same ts

specifier_row : (k : Kind) (ts : List Node) → is_amiss_specifier (Node-F.Tree k (map by_texts ts)) ≡ is_amiss_specifier (Node-F.Tree k ts)
specifier_row kind.ExportNamedSpecifier [] = refl
specifier_row kind.ExportNamedSpecifier (a ∷ []) = refl
specifier_row kind.ExportNamedSpecifier (a ∷ b ∷ []) = refl
specifier_row kind.ExportNamedSpecifier (a ∷ b ∷ c ∷ []) = amiss_same b
specifier_row kind.ExportNamedSpecifier (a ∷ b ∷ c ∷ d ∷ ts) = refl
specifier_row k ts = refl

specifier_same : (t : Node) → is_amiss_specifier (out-Node (by_texts t)) ≡ is_amiss_specifier (out-Node t)
specifier_same t = look Bool is_amiss_specifier (λ k i. refl) (λ ts. refl) specifier_row t

specifiers_same : (t : Node) → list_any (λ t. is_amiss_specifier (out-Node t)) (items_of (by_texts t)) ≡ list_any (λ t. is_amiss_specifier (out-Node t)) (items_of t)
specifiers_same t = ap (list_any (λ t. is_amiss_specifier (out-Node t))) (items_same t) ∙ any_same (λ t. is_amiss_specifier (out-Node t)) specifier_same (items_of t)

export_same : (t s : Node) → is_amiss_export (by_texts t) (by_texts s) ≡ is_amiss_export t s
export_same t s = ap (λ b. b && list_any (λ t. is_amiss_specifier (out-Node t)) (items_of (by_texts t))) (absent_same s) ∙ ap (λ b. is_absent s && b) (specifiers_same t)

amiss_row : (k : Kind) (ts : List Node) → has_amiss (Node-F.Tree k (map by_texts ts)) ≡ has_amiss (Node-F.Tree k ts)
amiss_row kind.ImportNamedSpecifier [] = refl
amiss_row kind.ImportNamedSpecifier (a ∷ []) = any_amiss (a ∷ [])
amiss_row kind.ImportNamedSpecifier (a ∷ b ∷ []) = any_amiss (a ∷ b ∷ [])
amiss_row kind.ImportNamedSpecifier (a ∷ b ∷ c ∷ []) = amiss_same b
amiss_row kind.ImportNamedSpecifier (a ∷ b ∷ c ∷ d ∷ ts) = any_amiss (a ∷ b ∷ c ∷ d ∷ ts)
amiss_row kind.ExportNamedSpecifier ts = refl
amiss_row kind.ExportNamespaceSpecifier ts = refl
amiss_row kind.NamedExport [] = refl
amiss_row kind.NamedExport (a ∷ []) = any_amiss (a ∷ [])
amiss_row kind.NamedExport (a ∷ b ∷ []) = any_amiss (a ∷ b ∷ [])
amiss_row kind.NamedExport (a ∷ b ∷ c ∷ []) = any_amiss (a ∷ b ∷ c ∷ [])
amiss_row kind.NamedExport (a ∷ b ∷ c ∷ d ∷ []) = export_same b c
amiss_row kind.NamedExport (a ∷ b ∷ c ∷ d ∷ e ∷ ts) = any_amiss (a ∷ b ∷ c ∷ d ∷ e ∷ ts)
amiss_row kind.TaggedTpl [] = refl
amiss_row kind.TaggedTpl (a ∷ []) = any_amiss (a ∷ [])
amiss_row kind.TaggedTpl (a ∷ b ∷ []) = any_amiss (a ∷ b ∷ [])
amiss_row kind.TaggedTpl (a ∷ b ∷ c ∷ []) = amiss_same b
amiss_row kind.TaggedTpl (a ∷ b ∷ c ∷ d ∷ ts) = any_amiss (a ∷ b ∷ c ∷ d ∷ ts)
amiss_row k ts = any_amiss ts

below_same : (t : Node) → has_amiss (out-Node (by_texts t)) ≡ has_amiss (out-Node t)
below_same t = look Bool has_amiss (λ k i. refl) any_amiss amiss_row t

-- ---- each node

pub misspelled_same : (t : Node) → is_misspelled (out-Node (by_texts t)) ≡ is_misspelled (out-Node t)
misspelled_same t = ap (λ b. b || has_amiss (out-Node (by_texts t))) (leaf_same t) ∙ ap (λ b. is_bad_leaf (out-Node t) || b) (below_same t)
