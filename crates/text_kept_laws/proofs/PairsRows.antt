-- What is asked of a node rests on what is seen of its fields.
use Rattle.std.proofs.Common.{◌≡◌, ℕ, Bool, true, false, not, ◌&&◌, ◌||◌, Option, Some, None, List, [], ◌∷◌, map, refl, sym, ap, ◌∙◌, subst}
use Rattle.std.specs.List.{list_any}
use Rattle.swc_tree_node.specs.declared.kind.Kind.{Kind}
use Rattle.swc_tree_node.specs.declared.kind.Kind.TheVariants as kind
use Rattle.swc_tree_node.specs.declared.node.Node.{Node, out-Node}
use Rattle.swc_tree_node.specs.declared.node.Node.TheOpen.{Node-F}
use Rattle.swc_tree_node.specs.Parts.{text_of}
use Rattle.swc_tree_grammar.specs.Shapes.{items_of}
use Rattle.swc_tree_grammar.specs.Levels.{is_absent}
use Rattle.swc_tree_grammar.specs.Writable.{constructor_key_in}
use Rattle.text_grammar.specs.Shaped.{is_misshapen}
use Rattle.text_words.specs.Words.{is_big_integer, is_hashbang, is_name, is_number}
use Rattle.text_words.specs.Words as words
use Rattle.text_checks.specs.Spelled.{are_bad_flags, fails, fails_there, has_amiss, has_no_value, is_amiss, is_amiss_specifier, is_bad_leaf, is_bad_raw, is_bad_regex, is_bad_string, is_bad_template, is_valueless}
use Rattle.text_kept_laws.proofs.Views.{Keyed, Listed, Of, View, afters, befores}
use Rattle.text_kept_laws.proofs.RenamesLengths.{has_items, has_key, row}
use Rattle.text_kept_laws.proofs.Calm.{both_false, neither}
use Rattle.text_kept_laws.proofs.PairsSeen.{Pairwise, Seen, views, views_after, views_before}

-- ---- lengths

-- the items of each field
abbrev pub Lists : List Node → List Node → Type 0
Lists [] [] = Unit {0}
Lists (t ∷ ts) (u ∷ us) = Pairwise (items_of t) (items_of u) × Lists ts us
Lists _ _ = ⊥

-- each field as a key
abbrev pub Keys : List Node → List Node → Type 0
Keys [] [] = Unit {0}
Keys (t ∷ ts) (u ∷ us) = (constructor_key_in (out-Node u) ≡ constructor_key_in (out-Node t)) × Keys ts us
Keys _ _ = ⊥

all_listed : (ts us : List Node) (s : Pairwise ts us) → Lists ts us → Of Listed (views ts us s)
all_listed [] [] s l = tt
all_listed (t ∷ ts) (u ∷ us) s l = (
  record {
    items = views (items_of t) (items_of u) l.0;
    were = sym (views_before (items_of t) (items_of u) l.0);
    are = sym (views_after (items_of t) (items_of u) l.0);
  },
  all_listed ts us s.1 l.1,
)
all_listed [] (u ∷ us) s l = absurd s
all_listed (t ∷ ts) [] s l = absurd s

all_keyed : (ts us : List Node) (s : Pairwise ts us) → Keys ts us → Of Keyed (views ts us s)
all_keyed [] [] s l = tt
all_keyed (t ∷ ts) (u ∷ us) s l = (l.0, all_keyed ts us s.1 l.1)
all_keyed [] (u ∷ us) s l = absurd s
all_keyed (t ∷ ts) [] s l = absurd s

pub shape_row : (k : Kind) (ts us : List Node) → Pairwise ts us → (has_items k ≡ true → Lists ts us) → (has_key k ≡ true → Keys ts us) → is_misshapen (Node-F.Tree k us) ≡ is_misshapen (Node-F.Tree k ts)
shape_row k ts us s l h =
    ap (λ l. is_misshapen (Node-F.Tree k l)) (sym (views_after ts us s))
    ∙ row k (views ts us s) (λ e. all_listed ts us s (l e)) (λ e. all_keyed ts us s (h e))
    ∙ ap (λ l. is_misshapen (Node-F.Tree k l)) (views_before ts us s)

-- ---- leaves

there_same : (q : List ℕ → Bool) (v : View) → fails_there q v.after ≡ fails_there q v.before
there_same q v = ap (λ b. not b && fails q (text_of v.after)) v.leaf.absent ∙ ap (λ o. not (is_absent v.before) && fails q o) v.leaf.text

raw_same : (o : Option (List ℕ)) (v : View) → is_bad_raw o v.after ≡ is_bad_raw o v.before
raw_same (Some x) v = there_same (words.is_string x) v
raw_same None v = refl

string_same : (v r : View) → is_bad_string v.after r.after ≡ is_bad_string v.before r.before
string_same v r = ap (λ o. is_bad_raw o r.after) v.leaf.text ∙ raw_same (text_of v.before) r

flags_same : (o : Option (List ℕ)) (v : View) → are_bad_flags o v.after ≡ are_bad_flags o v.before
flags_same (Some x) v = ap (fails (words.is_regex x)) v.leaf.text
flags_same None v = refl

regex_same : (p f : View) → is_bad_regex p.after f.after ≡ is_bad_regex p.before f.before
regex_same p f = ap (λ o. are_bad_flags o f.after) p.leaf.text ∙ flags_same (text_of p.before) f

template_same : (c r : View) → is_bad_template c.after r.after ≡ is_bad_template c.before r.before
template_same c r = ap (λ o. fails (words.is_template o) (text_of r.after)) c.leaf.text ∙ ap (fails (words.is_template (text_of c.before))) r.leaf.text

leaf_row : (k : Kind) (vs : List View) → is_bad_leaf (Node-F.Tree k (afters vs)) ≡ is_bad_leaf (Node-F.Tree k (befores vs))
leaf_row kind.IdentName [] = refl
leaf_row kind.IdentName (a ∷ []) = refl
leaf_row kind.IdentName (a ∷ b ∷ []) = ap (fails is_name) (b.leaf.text)
leaf_row kind.IdentName (a ∷ b ∷ c ∷ vs) = refl
leaf_row kind.PrivateName [] = refl
leaf_row kind.PrivateName (a ∷ []) = refl
leaf_row kind.PrivateName (a ∷ b ∷ []) = ap (fails is_name) (b.leaf.text)
leaf_row kind.PrivateName (a ∷ b ∷ c ∷ vs) = refl
leaf_row kind.Number [] = refl
leaf_row kind.Number (a ∷ []) = refl
leaf_row kind.Number (a ∷ b ∷ []) = ap (fails is_number) (b.leaf.text)
leaf_row kind.Number (a ∷ b ∷ c ∷ vs) = refl
leaf_row kind.BigInt [] = refl
leaf_row kind.BigInt (a ∷ []) = refl
leaf_row kind.BigInt (a ∷ b ∷ []) = ap (fails is_big_integer) (b.leaf.text)
leaf_row kind.BigInt (a ∷ b ∷ c ∷ vs) = refl
leaf_row kind.Str [] = refl
leaf_row kind.Str (a ∷ []) = refl
leaf_row kind.Str (a ∷ b ∷ []) = refl
leaf_row kind.Str (a ∷ b ∷ c ∷ []) = string_same b c
leaf_row kind.Str (a ∷ b ∷ c ∷ d ∷ vs) = refl
leaf_row kind.Regex [] = refl
leaf_row kind.Regex (a ∷ []) = refl
leaf_row kind.Regex (a ∷ b ∷ []) = refl
leaf_row kind.Regex (a ∷ b ∷ c ∷ []) = regex_same b c
leaf_row kind.Regex (a ∷ b ∷ c ∷ d ∷ vs) = refl
leaf_row kind.TplElement [] = refl
leaf_row kind.TplElement (a ∷ []) = refl
leaf_row kind.TplElement (a ∷ b ∷ []) = refl
leaf_row kind.TplElement (a ∷ b ∷ c ∷ []) = refl
leaf_row kind.TplElement (a ∷ b ∷ c ∷ d ∷ []) = template_same c d
leaf_row kind.TplElement (a ∷ b ∷ c ∷ d ∷ e ∷ vs) = refl
leaf_row kind.Module [] = refl
leaf_row kind.Module (a ∷ []) = refl
leaf_row kind.Module (a ∷ b ∷ []) = refl
leaf_row kind.Module (a ∷ b ∷ c ∷ []) = there_same is_hashbang c
leaf_row kind.Module (a ∷ b ∷ c ∷ d ∷ vs) = refl
leaf_row kind.Script [] = refl
leaf_row kind.Script (a ∷ []) = refl
leaf_row kind.Script (a ∷ b ∷ []) = refl
leaf_row kind.Script (a ∷ b ∷ c ∷ []) = there_same is_hashbang c
leaf_row kind.Script (a ∷ b ∷ c ∷ d ∷ vs) = refl
leaf_row k vs = refl

pub leaves_row : (k : Kind) (ts us : List Node) → Pairwise ts us → is_bad_leaf (Node-F.Tree k us) ≡ is_bad_leaf (Node-F.Tree k ts)
leaves_row k ts us s =
    ap (λ l. is_bad_leaf (Node-F.Tree k l)) (sym (views_after ts us s)) ∙ leaf_row k (views ts us s) ∙ ap (λ l. is_bad_leaf (Node-F.Tree k l)) (views_before ts us s)

-- ---- templates without a value

values_same : (ts us : List Node) → Pairwise ts us → list_any (λ t. has_no_value (out-Node t)) us ≡ list_any (λ t. has_no_value (out-Node t)) ts
values_same [] [] s = refl
values_same (t ∷ ts) (u ∷ us) s = rw (s.0.value, values_same ts us s.1) refl
values_same [] (u ∷ us) s = absurd s
values_same (t ∷ ts) [] s = absurd s

pub valueless_row : (k : Kind) (ts us : List Node) → Lists ts us → is_valueless (Node-F.Tree k us) ≡ is_valueless (Node-F.Tree k ts)
valueless_row kind.Tpl [] [] l = refl
valueless_row kind.Tpl [] (u ∷ us) l = absurd l
valueless_row kind.Tpl (a ∷ ts) [] l = absurd l
valueless_row kind.Tpl (a ∷ []) (x ∷ []) l = refl
valueless_row kind.Tpl (a ∷ []) (x ∷ y ∷ us) l = absurd l.1
valueless_row kind.Tpl (a ∷ b ∷ ts) (x ∷ []) l = absurd l.1
valueless_row kind.Tpl (a ∷ b ∷ []) (x ∷ y ∷ []) l = refl
valueless_row kind.Tpl (a ∷ b ∷ []) (x ∷ y ∷ z ∷ us) l = absurd l.1.1
valueless_row kind.Tpl (a ∷ b ∷ c ∷ ts) (x ∷ y ∷ []) l = absurd l.1.1
valueless_row kind.Tpl (a ∷ b ∷ c ∷ []) (x ∷ y ∷ z ∷ []) l = values_same (items_of c) (items_of z) l.1.1.0
valueless_row kind.Tpl (a ∷ b ∷ c ∷ []) (x ∷ y ∷ z ∷ w ∷ us) l = absurd l.1.1.1
valueless_row kind.Tpl (a ∷ b ∷ c ∷ d ∷ ts) (x ∷ y ∷ z ∷ []) l = absurd l.1.1.1
valueless_row kind.Tpl (a ∷ b ∷ c ∷ d ∷ ts) (x ∷ y ∷ z ∷ w ∷ us) l = refl
valueless_row k ts us l = refl

-- ---- what may stand right below a node

-- a field, with what may stand there before and after
pub record Held : Type 0 where
  pub old : Node
  pub new : Node
  pub absent : is_absent new ≡ is_absent old
  pub calm : is_amiss old ≡ false → is_amiss new ≡ false
  pub listed : list_any (λ t. is_amiss_specifier (out-Node t)) (items_of old) ≡ false → list_any (λ t. is_amiss_specifier (out-Node t)) (items_of new) ≡ false

abbrev pub olds : List Held → List Node
olds hs = map (λ h. h.old) hs

abbrev pub news : List Held → List Node
news hs = map (λ h. h.new) hs

pub all_calm : (hs : List Held) → list_any is_amiss (olds hs) ≡ false → list_any is_amiss (news hs) ≡ false
all_calm [] e = refl
all_calm (h ∷ hs) e = let n = neither (is_amiss h.old) (list_any is_amiss (olds hs)) e in both_false (is_amiss h.new) (list_any is_amiss (news hs)) (h.calm n.0) (all_calm hs n.1)

export_calm : (x y : Bool) → (x ≡ false → y ≡ false) → (b : Bool) → (b && x) ≡ false → (b && y) ≡ false
export_calm x y h true e = h e
export_calm x y h false e = refl

pub amiss_row : (k : Kind) (hs : List Held) → has_amiss (Node-F.Tree k (olds hs)) ≡ false → has_amiss (Node-F.Tree k (news hs)) ≡ false
amiss_row kind.ImportNamedSpecifier [] e = all_calm [] e
amiss_row kind.ImportNamedSpecifier (a ∷ []) e = all_calm (a ∷ []) e
amiss_row kind.ImportNamedSpecifier (a ∷ b ∷ []) e = all_calm (a ∷ b ∷ []) e
amiss_row kind.ImportNamedSpecifier (a ∷ b ∷ c ∷ []) e = b.calm e
amiss_row kind.ImportNamedSpecifier (a ∷ b ∷ c ∷ d ∷ hs) e = all_calm (a ∷ b ∷ c ∷ d ∷ hs) e
amiss_row kind.ExportNamedSpecifier hs e = refl
amiss_row kind.ExportNamespaceSpecifier hs e = refl
amiss_row kind.NamedExport [] e = all_calm [] e
amiss_row kind.NamedExport (a ∷ []) e = all_calm (a ∷ []) e
amiss_row kind.NamedExport (a ∷ b ∷ []) e = all_calm (a ∷ b ∷ []) e
amiss_row kind.NamedExport (a ∷ b ∷ c ∷ []) e = all_calm (a ∷ b ∷ c ∷ []) e
amiss_row kind.NamedExport (a ∷ b ∷ c ∷ d ∷ []) e =
    ap (λ x. x && list_any (λ t. is_amiss_specifier (out-Node t)) (items_of b.new)) c.absent
    ∙ export_calm (list_any (λ t. is_amiss_specifier (out-Node t)) (items_of b.old)) (list_any (λ t. is_amiss_specifier (out-Node t)) (items_of b.new)) b.listed (is_absent c.old) e
amiss_row kind.NamedExport (a ∷ b ∷ c ∷ d ∷ f ∷ hs) e = all_calm (a ∷ b ∷ c ∷ d ∷ f ∷ hs) e
amiss_row kind.TaggedTpl [] e = all_calm [] e
amiss_row kind.TaggedTpl (a ∷ []) e = all_calm (a ∷ []) e
amiss_row kind.TaggedTpl (a ∷ b ∷ []) e = all_calm (a ∷ b ∷ []) e
amiss_row kind.TaggedTpl (a ∷ b ∷ c ∷ []) e = b.calm e
amiss_row kind.TaggedTpl (a ∷ b ∷ c ∷ d ∷ hs) e = all_calm (a ∷ b ∷ c ∷ d ∷ hs) e
amiss_row k hs e = all_calm hs e
