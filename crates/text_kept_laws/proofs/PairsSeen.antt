-- What is seen of two nodes of which one stands for the other: the leaf that they are, kinds that are looked at, and fields of these.
use Rattle.std.proofs.Common.{◌≡◌, ℕ, zero, suc, Bool, true, false, not, ◌&&◌, Option, Some, None, List, [], ◌∷◌, map, rules, refl, sym, ap, ◌∙◌, subst}
use Rattle.std.specs.Prelude.{nat_eq, slice_get, unwrap_or}
use Rattle.std.specs.Cmp.Lexicographic.{pointwise}
use Rattle.swc_tree_node.specs.declared.kind.Kind.{Kind}
use Rattle.swc_tree_node.specs.declared.kind.Kind.TheVariants as kind
use Rattle.swc_tree_node.specs.declared.kind.Word.{Word as Word'}
use Rattle.swc_tree_node.specs.declared.fields.functions.function.TheConstants as function_fields
use Rattle.swc_tree_node.specs.declared.node.Node.{Node, List as Many, Tree, out-Node}
use Rattle.swc_tree_node.specs.declared.node.Node.TheOpen.{Node-F}
use Rattle.swc_tree_node.specs.declared.node.Node.TheVariants.{outs-List, outs-Tree}
use Rattle.swc_tree_node.specs.Parts.{text_of}
use Rattle.swc_tree_scoping.specs.Places.{flag_in, flag_of, plain_in, text_in}
use Rattle.swc_tree_grammar.specs.Shapes.{items_in, items_of}
use Rattle.swc_tree_grammar.specs.Kinds.{has_kind, has_kind_in, is_destructuring}
use Rattle.swc_tree_grammar.specs.Levels.{is_absent, is_absent_in, word_in, word_of}
use Rattle.swc_tree_grammar.specs.Forms.{holds}
use Rattle.swc_tree_grammar.specs.Writable.{constructor_key_in, is_text}
use Rattle.text_grammar.specs.Shaped.{constructor_kind, default_in, default_kind, import_kind, named_kind, odd_rest_in, spread_in, star_kind, tail_in}
use Rattle.text_checks.specs.Spelled.{has_no_value}
use Rattle.text_kept_laws.proofs.RenamesSeen.{text_there}
use Rattle.text_kept_laws.proofs.Views.{SameKind, SameLeaf, SameParts, View, afters, befores}

pub record Seen (t u : Node) : Type 0 where
  pub leaf : SameLeaf t u
  pub kind : SameKind t u
  pub parts : SameParts t u
  pub value : has_no_value (out-Node u) ≡ has_no_value (out-Node t)

pub seen_same : (t : Node) → Seen t t
seen_same t = record {
  leaf = record { absent = refl; word = refl; flag = refl; text = refl };
  kind = record { default = refl; star = refl; named = refl; constructor = refl; imports = refl; destructuring = refl };
  parts = record { tail = refl; spread = refl; rest = refl; case = refl; plain = refl };
  value = refl;
}

pub seen_then : {t u v : Node} → Seen t u → Seen u v → Seen t v
seen_then c d = record {
  leaf = record { absent = d.leaf.absent ∙ c.leaf.absent; word = d.leaf.word ∙ c.leaf.word; flag = d.leaf.flag ∙ c.leaf.flag; text = d.leaf.text ∙ c.leaf.text };
  kind = record {
    default = d.kind.default ∙ c.kind.default;
    star = d.kind.star ∙ c.kind.star;
    named = d.kind.named ∙ c.kind.named;
    constructor = d.kind.constructor ∙ c.kind.constructor;
    imports = d.kind.imports ∙ c.kind.imports;
    destructuring = d.kind.destructuring ∙ c.kind.destructuring;
  };
  parts = record {
    tail = d.parts.tail ∙ c.parts.tail;
    spread = d.parts.spread ∙ c.parts.spread;
    rest = d.parts.rest ∙ c.parts.rest;
    case = d.parts.case ∙ c.parts.case;
    plain = d.parts.plain ∙ c.parts.plain;
  };
  value = d.value ∙ c.value;
}

-- a node of which nothing is seen
pub record Plain (t : Node) : Type 0 where
  pub absent : is_absent t ≡ false
  pub word : word_of t ≡ None
  pub flag : holds t ≡ false
  pub text : text_of t ≡ None
  pub default : has_kind default_kind t ≡ false
  pub star : has_kind star_kind t ≡ false
  pub named : has_kind named_kind t ≡ false
  pub constructor : has_kind constructor_kind t ≡ false
  pub imports : has_kind import_kind t ≡ false
  pub destructuring : has_kind is_destructuring t ≡ false
  pub tail : tail_in (out-Node t) ≡ false
  pub spread : spread_in (out-Node t) ≡ false
  pub rest : odd_rest_in (out-Node t) ≡ false
  pub case : default_in (out-Node t) ≡ false
  pub plain : plain_in (out-Node t) ≡ false
  pub value : has_no_value (out-Node t) ≡ false
  pub items : items_of t ≡ []

pub seen_plain : (t u : Node) → Plain t → Plain u → Seen t u
seen_plain t u p q = record {
  leaf = record { absent = q.absent ∙ sym p.absent; word = q.word ∙ sym p.word; flag = q.flag ∙ sym p.flag; text = q.text ∙ sym p.text };
  kind = record {
    default = q.default ∙ sym p.default;
    star = q.star ∙ sym p.star;
    named = q.named ∙ sym p.named;
    constructor = q.constructor ∙ sym p.constructor;
    imports = q.imports ∙ sym p.imports;
    destructuring = q.destructuring ∙ sym p.destructuring;
  };
  parts = record { tail = q.tail ∙ sym p.tail; spread = q.spread ∙ sym p.spread; rest = q.rest ∙ sym p.rest; case = q.case ∙ sym p.case; plain = q.plain ∙ sym p.plain };
  value = q.value ∙ sym p.value;
}

-- the kinds of which something is seen
abbrev pub is_seen : Kind → Bool
is_seen kind.ImportDefaultSpecifier = true
is_seen kind.ImportStarAsSpecifier = true
is_seen kind.ExportNamespaceSpecifier = true
is_seen kind.ImportNamedSpecifier = true
is_seen kind.ExportNamedSpecifier = true
is_seen kind.Constructor = true
is_seen kind.Import = true
is_seen kind.ArrayPat = true
is_seen kind.ObjectPat = true
is_seen kind.TplElement = true
is_seen kind.ExprOrSpread = true
is_seen kind.RestPat = true
is_seen kind.SwitchCase = true
is_seen kind.Function = true
is_seen _ = false

record Unseen (k : Kind) (ts : List Node) : Type 0 where
  default : default_kind k ≡ false
  star : star_kind k ≡ false
  named : named_kind k ≡ false
  constructor : constructor_kind k ≡ false
  imports : import_kind k ≡ false
  destructuring : is_destructuring k ≡ false
  tail : tail_in (Node-F.Tree k ts) ≡ false
  spread : spread_in (Node-F.Tree k ts) ≡ false
  rest : odd_rest_in (Node-F.Tree k ts) ≡ false
  case : default_in (Node-F.Tree k ts) ≡ false
  plain : plain_in (Node-F.Tree k ts) ≡ false
  value : has_no_value (Node-F.Tree k ts) ≡ false

pub seen_never : {A : Type 0} → true ≡ false → A
seen_never h = absurd (cc)

unseen : (k : Kind) (ts : List Node) → is_seen k ≡ false → Unseen k ts
unseen kind.ImportDefaultSpecifier ts h = seen_never h
unseen kind.ImportStarAsSpecifier ts h = seen_never h
unseen kind.ExportNamespaceSpecifier ts h = seen_never h
unseen kind.ImportNamedSpecifier ts h = seen_never h
unseen kind.ExportNamedSpecifier ts h = seen_never h
unseen kind.Constructor ts h = seen_never h
unseen kind.Import ts h = seen_never h
unseen kind.ArrayPat ts h = seen_never h
unseen kind.ObjectPat ts h = seen_never h
unseen kind.TplElement ts h = seen_never h
unseen kind.ExprOrSpread ts h = seen_never h
unseen kind.RestPat ts h = seen_never h
unseen kind.SwitchCase ts h = seen_never h
unseen kind.Function ts h = seen_never h
unseen k ts h = record { default = refl; star = refl; named = refl; constructor = refl; imports = refl; destructuring = refl; tail = refl; spread = refl; rest = refl; case = refl; plain = refl; value = refl }

-- of a tree of another kind nothing is
pub plain_tree : (t : Node) (k : Kind) (ts : List Node) → out-Node t ≡ Node-F.Tree k ts → is_seen k ≡ false → Plain t
plain_tree t k ts o h =
    let u = unseen k ts h in
    record {
      absent = ap is_absent_in o;
      word = ap word_in o;
      flag = ap flag_in o;
      text = text_there t ∙ ap text_in o;
      default = ap (has_kind_in default_kind) o ∙ u.default;
      star = ap (has_kind_in star_kind) o ∙ u.star;
      named = ap (has_kind_in named_kind) o ∙ u.named;
      constructor = ap (has_kind_in constructor_kind) o ∙ u.constructor;
      imports = ap (has_kind_in import_kind) o ∙ u.imports;
      destructuring = ap (has_kind_in is_destructuring) o ∙ u.destructuring;
      tail = ap tail_in o ∙ u.tail;
      spread = ap spread_in o ∙ u.spread;
      rest = ap odd_rest_in o ∙ u.rest;
      case = ap default_in o ∙ u.case;
      plain = ap plain_in o ∙ u.plain;
      value = ap has_no_value o ∙ u.value;
      items = ap items_in o;
    }

pub plain_name : (t : Node) (k : Kind) (i : _) → out-Node t ≡ Node-F.Identifier k i → Plain t
plain_name t k i o = record {
  absent = ap is_absent_in o;
  word = ap word_in o;
  flag = ap flag_in o;
  text = text_there t ∙ ap text_in o;
  default = ap (has_kind_in default_kind) o;
  star = ap (has_kind_in star_kind) o;
  named = ap (has_kind_in named_kind) o;
  constructor = ap (has_kind_in constructor_kind) o;
  imports = ap (has_kind_in import_kind) o;
  destructuring = ap (has_kind_in is_destructuring) o;
  tail = ap tail_in o;
  spread = ap spread_in o;
  rest = ap odd_rest_in o;
  case = ap default_in o;
  plain = ap plain_in o;
  value = ap has_no_value o;
  items = ap items_in o;
}

-- ---- lists

abbrev pub Pairwise : List Node → List Node → Type 0
Pairwise [] [] = Unit {0}
Pairwise (t ∷ ts) (u ∷ us) = Seen t u × Pairwise ts us
Pairwise _ _ = ⊥

pub pairwise_same : (ts : List Node) → Pairwise ts ts
pairwise_same [] = tt
pairwise_same (t ∷ ts) = (seen_same t, pairwise_same ts)

pub pairwise_then : (ts us vs : List Node) → Pairwise ts us → Pairwise us vs → Pairwise ts vs
pairwise_then [] [] [] c d = tt
pairwise_then (t ∷ ts) (u ∷ us) (v ∷ vs) c d = (seen_then c.0 d.0, pairwise_then ts us vs c.1 d.1)
pairwise_then [] [] (v ∷ vs) c d = absurd d
pairwise_then [] (u ∷ us) vs c d = absurd c
pairwise_then (t ∷ ts) [] vs c d = absurd c
pairwise_then (t ∷ ts) (u ∷ us) [] c d = absurd d

pub no_items : (t u : Node) → items_of t ≡ [] → items_of u ≡ [] → Pairwise (items_of t) (items_of u)
no_items t u e f = subst (λ ts. Pairwise ts (items_of u)) (sym e) (subst (Pairwise []) (sym f) tt)

abbrev pub views : (ts us : List Node) → Pairwise ts us → List View
views [] [] s = []
views (t ∷ ts) (u ∷ us) s = record { before = t; after = u; leaf = s.0.leaf; kind = s.0.kind; parts = s.0.parts } ∷ views ts us s.1
views [] (u ∷ us) s = absurd s
views (t ∷ ts) [] s = absurd s

pub views_before : (ts us : List Node) (s : Pairwise ts us) → befores (views ts us s) ≡ ts
views_before [] [] s = refl
views_before (t ∷ ts) (u ∷ us) s = ap (λ l. t ∷ l) (views_before ts us s.1)
views_before [] (u ∷ us) s = absurd s
views_before (t ∷ ts) [] s = absurd s

pub views_after : (ts us : List Node) (s : Pairwise ts us) → afters (views ts us s) ≡ us
views_after [] [] s = refl
views_after (t ∷ ts) (u ∷ us) s = ap (λ l. u ∷ l) (views_after ts us s.1)
views_after [] (u ∷ us) s = absurd s
views_after (t ∷ ts) [] s = absurd s

-- ---- fields that are looked at

tail_row : (k : Kind) (vs : List View) → tail_in (Node-F.Tree k (afters vs)) ≡ tail_in (Node-F.Tree k (befores vs))
tail_row kind.TplElement [] = refl
tail_row kind.TplElement (a ∷ []) = refl
tail_row kind.TplElement (a ∷ b ∷ []) = refl
tail_row kind.TplElement (a ∷ b ∷ c ∷ []) = refl
tail_row kind.TplElement (a ∷ b ∷ c ∷ d ∷ []) = b.leaf.flag
tail_row kind.TplElement (a ∷ b ∷ c ∷ d ∷ e ∷ vs) = refl
tail_row k vs = refl

value_row : (k : Kind) (vs : List View) → has_no_value (Node-F.Tree k (afters vs)) ≡ has_no_value (Node-F.Tree k (befores vs))
value_row kind.TplElement [] = refl
value_row kind.TplElement (a ∷ []) = refl
value_row kind.TplElement (a ∷ b ∷ []) = refl
value_row kind.TplElement (a ∷ b ∷ c ∷ []) = refl
value_row kind.TplElement (a ∷ b ∷ c ∷ d ∷ []) = c.leaf.absent
value_row kind.TplElement (a ∷ b ∷ c ∷ d ∷ e ∷ vs) = refl
value_row k vs = refl

spread_row : (k : Kind) (vs : List View) → spread_in (Node-F.Tree k (afters vs)) ≡ spread_in (Node-F.Tree k (befores vs))
spread_row kind.ExprOrSpread [] = refl
spread_row kind.ExprOrSpread (a ∷ []) = refl
spread_row kind.ExprOrSpread (a ∷ b ∷ []) = ap not a.leaf.absent
spread_row kind.ExprOrSpread (a ∷ b ∷ c ∷ vs) = refl
spread_row k vs = refl

rest_row : (k : Kind) (vs : List View) → odd_rest_in (Node-F.Tree k (afters vs)) ≡ odd_rest_in (Node-F.Tree k (befores vs))
rest_row kind.RestPat [] = refl
rest_row kind.RestPat (a ∷ []) = refl
rest_row kind.RestPat (a ∷ b ∷ []) = b.kind.destructuring
rest_row kind.RestPat (a ∷ b ∷ c ∷ vs) = refl
rest_row k vs = refl

case_row : (k : Kind) (vs : List View) → default_in (Node-F.Tree k (afters vs)) ≡ default_in (Node-F.Tree k (befores vs))
case_row kind.SwitchCase [] = refl
case_row kind.SwitchCase (a ∷ []) = refl
case_row kind.SwitchCase (a ∷ b ∷ []) = refl
case_row kind.SwitchCase (a ∷ b ∷ c ∷ []) = b.leaf.absent
case_row kind.SwitchCase (a ∷ b ∷ c ∷ d ∷ vs) = refl
case_row k vs = refl

flag_at : (n : ℕ) (vs : List View) → flag_of (slice_get (afters vs) n) ≡ flag_of (slice_get (befores vs) n)
flag_at n [] = refl
flag_at zero (v ∷ vs) = v.leaf.flag
flag_at (suc n) (v ∷ vs) = flag_at n vs

plain_row : (k : Kind) (vs : List View) → plain_in (Node-F.Tree k (afters vs)) ≡ plain_in (Node-F.Tree k (befores vs))
plain_row kind.Function vs = rw (flag_at function_fields.IS_GENERATOR vs, flag_at function_fields.IS_ASYNC vs) refl
plain_row k vs = refl

text_same : (v : View) (x : List ℕ) → is_text x v.after ≡ is_text x v.before
text_same v x = ap (λ o. pointwise nat_eq (unwrap_or o []) x) (sym (text_there v.after) ∙ v.leaf.text ∙ text_there v.before)

key_row : (k : Kind) (vs : List View) → constructor_key_in (Node-F.Tree k (afters vs)) ≡ constructor_key_in (Node-F.Tree k (befores vs))
key_row kind.IdentName [] = refl
key_row kind.IdentName (a ∷ []) = refl
key_row kind.IdentName (a ∷ b ∷ []) = text_same b _
key_row kind.IdentName (a ∷ b ∷ c ∷ vs) = refl
key_row kind.Str [] = refl
key_row kind.Str (a ∷ []) = refl
key_row kind.Str (a ∷ b ∷ []) = refl
key_row kind.Str (a ∷ b ∷ c ∷ []) = text_same b _
key_row kind.Str (a ∷ b ∷ c ∷ d ∷ vs) = refl
key_row k vs = refl

-- two trees of one kind, by their fields
module _ (ts us : List Node) (s : Pairwise ts us) where
  abbrev vs : List View
  vs = views ts us s

  by_views : {A : Type 0} (g : Node-F Node → A) (k : Kind) → g (Node-F.Tree k (afters vs)) ≡ g (Node-F.Tree k (befores vs)) → g (Node-F.Tree k us) ≡ g (Node-F.Tree k ts)
  by_views g k h = ap (λ l. g (Node-F.Tree k l)) (sym (views_after ts us s)) ∙ h ∙ ap (λ l. g (Node-F.Tree k l)) (views_before ts us s)

  by_trees : {A : Type 0} (g : Node-F Node → A) (k : Kind) → g (Node-F.Tree k us) ≡ g (Node-F.Tree k ts) → g (out-Node (Tree k us)) ≡ g (out-Node (Tree k ts))
  by_trees g k h = ap g (outs-Tree k us) ∙ h ∙ sym (ap g (outs-Tree k ts))

  pub key_tree : (k : Kind) → constructor_key_in (out-Node (Tree k us)) ≡ constructor_key_in (out-Node (Tree k ts))
  key_tree k = by_trees constructor_key_in k (by_views constructor_key_in k (key_row k vs))

  pub seen_tree : (k : Kind) → Seen (Tree k ts) (Tree k us)
  seen_tree k = record {
    leaf = record {
      absent = by_trees is_absent_in k refl;
      word = by_trees word_in k refl;
      flag = by_trees flag_in k refl;
      text = text_there (Tree k us) ∙ by_trees text_in k refl ∙ sym (text_there (Tree k ts));
    };
    kind = record {
      default = by_trees (has_kind_in default_kind) k refl;
      star = by_trees (has_kind_in star_kind) k refl;
      named = by_trees (has_kind_in named_kind) k refl;
      constructor = by_trees (has_kind_in constructor_kind) k refl;
      imports = by_trees (has_kind_in import_kind) k refl;
      destructuring = by_trees (has_kind_in is_destructuring) k refl;
    };
    parts = record {
      tail = by_trees tail_in k (by_views tail_in k (tail_row k vs));
      spread = by_trees spread_in k (by_views spread_in k (spread_row k vs));
      rest = by_trees odd_rest_in k (by_views odd_rest_in k (rest_row k vs));
      case = by_trees default_in k (by_views default_in k (case_row k vs));
      plain = by_trees plain_in k (by_views plain_in k (plain_row k vs));
    };
    value = by_trees has_no_value k (by_views has_no_value k (value_row k vs));
  }

-- two lists
pub seen_list : (ts us : List Node) → Seen (Many ts) (Many us)
seen_list ts us = record {
  leaf = record { absent = same is_absent_in refl; word = same word_in refl; flag = same flag_in refl; text = text_there (Many us) ∙ same text_in refl ∙ sym (text_there (Many ts)) };
  kind = record {
    default = same (has_kind_in default_kind) refl;
    star = same (has_kind_in star_kind) refl;
    named = same (has_kind_in named_kind) refl;
    constructor = same (has_kind_in constructor_kind) refl;
    imports = same (has_kind_in import_kind) refl;
    destructuring = same (has_kind_in is_destructuring) refl;
  };
  parts = record { tail = same tail_in refl; spread = same spread_in refl; rest = same odd_rest_in refl; case = same default_in refl; plain = same plain_in refl };
  value = same has_no_value refl;
}
  where
    same : {A : Type 0} (g : Node-F Node → A) → g (Node-F.List us) ≡ g (Node-F.List ts) → g (out-Node (Many us)) ≡ g (out-Node (Many ts))
    same g h = ap g (outs-List us) ∙ h ∙ sym (ap g (outs-List ts))
