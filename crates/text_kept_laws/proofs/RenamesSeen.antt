-- Where names are given anew, a node is seen as it was.
use Rattle.std.proofs.Common.{◌≡◌, ℕ, zero, suc, Bool, true, false, not, ◌&&◌, Option, Some, None, List, [], ◌∷◌, map, rules, refl, sym, ap, ◌∙◌}
use Rattle.std.specs.Prelude.{nat_eq, slice_get, unwrap_or}
use Rattle.std.specs.List.{list_any}
use Rattle.std.specs.Cmp.Lexicographic.{pointwise}
use Rattle.swc_tree_node.specs.declared.kind.Kind.{Kind}
use Rattle.swc_tree_node.specs.declared.kind.Kind.TheVariants as kind
use Rattle.swc_tree_node.specs.declared.kind.Word.{Word}
use Rattle.swc_tree_node.specs.declared.fields.functions.function.TheConstants as function_fields
use Rattle.swc_tree_node.specs.declared.node.Node.{Node, List as Many, out-Node, the_lemmas}
use Rattle.swc_tree_node.specs.declared.node.Node.TheOpen.{Node-F}
use Rattle.swc_tree_node.specs.declared.node.Node.TheVariants.{outs-List}
use Rattle.swc_tree_node.specs.Parts.{text_of}
use Rattle.swc_tree_scoping.specs.Places.{flag_in, flag_of, plain_in, text_in}
use Rattle.swc_tree_scoping.proofs.Remarked.{list_is}
use Rattle.swc_tree_grammar.specs.Shapes.{items_in, items_of}
use Rattle.swc_tree_grammar.specs.Kinds.{has_kind, has_kind_in, is_destructuring}
use Rattle.swc_tree_grammar.specs.Levels.{is_absent, is_absent_in, word_in, word_of}
use Rattle.swc_tree_grammar.specs.Forms.{holds}
use Rattle.swc_tree_grammar.specs.Writable.{constructor_key_in, is_text}
use Rattle.swc_tree_grammar.proofs.Induction.{Each, by_children}
use Rattle.swc_base_rename_substitution.specs.declared.place.Place.{Place}
use Rattle.swc_base_rename_substitution.specs.Identifiers.{Changes}
use Rattle.swc_base_rename_substitution.specs.Substituted.{substituted}
use Rattle.swc_base_rename_substitution.specs.Walk.{each_substituted, is_exported_declaration, items_substituted}
use Rattle.swc_base_rename_substitution.proofs.Equations.{substituted_list}
use Rattle.swc_base_rename_substitution.proofs.Lists.{no_exports}
use Rattle.text_grammar.specs.Shaped.{constructor_kind, default_in, default_kind, import_kind, named_kind, odd_rest_in, spread_in, star_kind, tail_in}
use Rattle.text_kept_laws.proofs.Fitting.{Quiet}
use Rattle.text_kept_laws.proofs.Looks.{Blind, look}
use Rattle.text_kept_laws.proofs.Views.{Keyed, Listed, Of, SameKind, SameLeaf, SameParts, View, afters, befores}

-- nothing is seen of what is written out
blind-absent : Blind is_absent_in false
blind-absent = record { names = λ k i. refl; lists = λ us ts. refl; properties = λ us. refl; targets = λ us. refl; shorts = λ us. refl; classes = λ us. refl; declarations = λ us. refl; imports = λ us vs. refl; exports = λ us vs. refl }

blind-word : Blind word_in None
blind-word = record { names = λ k i. refl; lists = λ us ts. refl; properties = λ us. refl; targets = λ us. refl; shorts = λ us. refl; classes = λ us. refl; declarations = λ us. refl; imports = λ us vs. refl; exports = λ us vs. refl }

blind-flag : Blind flag_in false
blind-flag = record { names = λ k i. refl; lists = λ us ts. refl; properties = λ us. refl; targets = λ us. refl; shorts = λ us. refl; classes = λ us. refl; declarations = λ us. refl; imports = λ us vs. refl; exports = λ us vs. refl }

blind-text : Blind text_in None
blind-text = record { names = λ k i. refl; lists = λ us ts. refl; properties = λ us. refl; targets = λ us. refl; shorts = λ us. refl; classes = λ us. refl; declarations = λ us. refl; imports = λ us vs. refl; exports = λ us vs. refl }

-- a kind to which and from which nothing is written out
abbrev IsOwn : (Kind → Bool) → Type 0
IsOwn x = (x kind.KeyValueProp ≡ false) × (x kind.KeyValuePatProp ≡ false) × (x kind.AssignPatProp ≡ false) × (x kind.ClassDecl ≡ false) × (x kind.VarDecl ≡ false)

blind-kind : (x : Kind → Bool) → IsOwn x → Blind (has_kind_in x) false
blind-kind x h = record { names = λ k i. refl; lists = λ us ts. refl; properties = λ us. h.0; targets = λ us. h.1; shorts = λ us. h.2; classes = λ us. h.3; declarations = λ us. h.4; imports = λ us vs. refl; exports = λ us vs. refl }

blind-tail : Blind tail_in false
blind-tail = record { names = λ k i. refl; lists = λ us ts. refl; properties = λ us. refl; targets = λ us. refl; shorts = λ us. refl; classes = λ us. refl; declarations = λ us. refl; imports = λ us vs. refl; exports = λ us vs. refl }

blind-spread : Blind spread_in false
blind-spread = record { names = λ k i. refl; lists = λ us ts. refl; properties = λ us. refl; targets = λ us. refl; shorts = λ us. refl; classes = λ us. refl; declarations = λ us. refl; imports = λ us vs. refl; exports = λ us vs. refl }

blind-rest : Blind odd_rest_in false
blind-rest = record { names = λ k i. refl; lists = λ us ts. refl; properties = λ us. refl; targets = λ us. refl; shorts = λ us. refl; classes = λ us. refl; declarations = λ us. refl; imports = λ us vs. refl; exports = λ us vs. refl }

blind-case : Blind default_in false
blind-case = record { names = λ k i. refl; lists = λ us ts. refl; properties = λ us. refl; targets = λ us. refl; shorts = λ us. refl; classes = λ us. refl; declarations = λ us. refl; imports = λ us vs. refl; exports = λ us vs. refl }

blind-key : Blind constructor_key_in false
blind-key = record { names = λ k i. refl; lists = λ us ts. refl; properties = λ us. refl; targets = λ us. refl; shorts = λ us. refl; classes = λ us. refl; declarations = λ us. refl; imports = λ us vs. refl; exports = λ us vs. refl }

blind-plain : Blind plain_in false
blind-plain = record { names = λ k i. refl; lists = λ us ts. refl; properties = λ us. refl; targets = λ us. refl; shorts = λ us. refl; classes = λ us. refl; declarations = λ us. refl; imports = λ us vs. refl; exports = λ us vs. refl }

pub text_there : (t : Node) → text_of t ≡ text_in (out-Node t)
text_there = by_children (λ t. text_of t ≡ text_in (out-Node t)) (
  search (rules, the_lemmas),
  λ x. search (rules, the_lemmas),
  λ w. search (rules, the_lemmas),
  λ x. search (rules, the_lemmas),
  λ s. search (rules, the_lemmas),
  λ k i. search (rules, the_lemmas),
)
    (λ ts h. search (rules, the_lemmas)) (λ k ts h. search (rules, the_lemmas))

abbrev is_list_in : Node-F Node → Bool
is_list_in (Node-F.List ts) = true
is_list_in _ = false

blind-list : Blind is_list_in false
blind-list = record { names = λ k i. refl; lists = λ us ts. refl; properties = λ us. refl; targets = λ us. refl; shorts = λ us. refl; classes = λ us. refl; declarations = λ us. refl; imports = λ us vs. refl; exports = λ us vs. refl }

no_items : (y : Node-F Node) → is_list_in y ≡ false → items_in y ≡ []
no_items (Node-F.List ts) h = absurd (cc)
no_items (Node-F.Tree k ts) h = refl
no_items y h = refl

module _ (m : Changes) (keeps : Bool) where
  abbrev new : (ℕ → Place) → List Node → List Node
  new ps ts = each_substituted m keeps ps ts

  -- ---- leaves

  pub absent_same : (p : Place) (t : Node) → is_absent (substituted m keeps p t) ≡ is_absent t
  absent_same p t = look is_absent_in false blind-absent m keeps p (λ k ts. refl) t

  word_same : (p : Place) (t : Node) → word_of (substituted m keeps p t) ≡ word_of t
  word_same p t = look word_in None blind-word m keeps p (λ k ts. refl) t

  flag_same : (p : Place) (t : Node) → holds (substituted m keeps p t) ≡ holds t
  flag_same p t = look flag_in false blind-flag m keeps p (λ k ts. refl) t

  words_same : (p : Place) (t : Node) → text_in (out-Node (substituted m keeps p t)) ≡ text_in (out-Node t)
  words_same p t = look text_in None blind-text m keeps p (λ k ts. refl) t

  kind_same : (x : Kind → Bool) → IsOwn x → (p : Place) (t : Node) → has_kind x (substituted m keeps p t) ≡ has_kind x t
  kind_same x h p t = look (has_kind_in x) false (blind-kind x h) m keeps p (λ k ts. refl) t

  pub text_same : (p : Place) (t : Node) → text_of (substituted m keeps p t) ≡ text_of t
  text_same p t = text_there (substituted m keeps p t) ∙ words_same p t ∙ sym (text_there t)

  -- ---- what stands in its fields

  tail_row : (ps : ℕ → Place) (k : Kind) (ts : List Node) → tail_in (Node-F.Tree k (new ps ts)) ≡ tail_in (Node-F.Tree k ts)
  tail_row ps kind.TplElement [] = refl
  tail_row ps kind.TplElement (a ∷ []) = refl
  tail_row ps kind.TplElement (a ∷ b ∷ []) = refl
  tail_row ps kind.TplElement (a ∷ b ∷ c ∷ []) = refl
  tail_row ps kind.TplElement (a ∷ b ∷ c ∷ d ∷ []) = flag_same (ps 1) b
  tail_row ps kind.TplElement (a ∷ b ∷ c ∷ d ∷ e ∷ ts) = refl
  tail_row ps k ts = refl

  spread_row : (ps : ℕ → Place) (k : Kind) (ts : List Node) → spread_in (Node-F.Tree k (new ps ts)) ≡ spread_in (Node-F.Tree k ts)
  spread_row ps kind.ExprOrSpread [] = refl
  spread_row ps kind.ExprOrSpread (a ∷ []) = refl
  spread_row ps kind.ExprOrSpread (a ∷ b ∷ []) = ap not (absent_same (ps 0) a)
  spread_row ps kind.ExprOrSpread (a ∷ b ∷ c ∷ ts) = refl
  spread_row ps k ts = refl

  rest_row : (ps : ℕ → Place) (k : Kind) (ts : List Node) → odd_rest_in (Node-F.Tree k (new ps ts)) ≡ odd_rest_in (Node-F.Tree k ts)
  rest_row ps kind.RestPat [] = refl
  rest_row ps kind.RestPat (a ∷ []) = refl
  rest_row ps kind.RestPat (a ∷ b ∷ []) = kind_same is_destructuring (refl, refl, refl, refl, refl) (ps 1) b
  rest_row ps kind.RestPat (a ∷ b ∷ c ∷ ts) = refl
  rest_row ps k ts = refl

  case_row : (ps : ℕ → Place) (k : Kind) (ts : List Node) → default_in (Node-F.Tree k (new ps ts)) ≡ default_in (Node-F.Tree k ts)
  case_row ps kind.SwitchCase [] = refl
  case_row ps kind.SwitchCase (a ∷ []) = refl
  case_row ps kind.SwitchCase (a ∷ b ∷ []) = refl
  case_row ps kind.SwitchCase (a ∷ b ∷ c ∷ []) = absent_same (ps 1) b
  case_row ps kind.SwitchCase (a ∷ b ∷ c ∷ d ∷ ts) = refl
  case_row ps k ts = refl

  is_text_same : (p : Place) (x : List ℕ) (t : Node) → is_text x (substituted m keeps p t) ≡ is_text x t
  is_text_same p x t = ap (λ o. pointwise nat_eq (unwrap_or o []) x) (words_same p t)

  key_row : (ps : ℕ → Place) (k : Kind) (ts : List Node) → constructor_key_in (Node-F.Tree k (new ps ts)) ≡ constructor_key_in (Node-F.Tree k ts)
  key_row ps kind.IdentName [] = refl
  key_row ps kind.IdentName (a ∷ []) = refl
  key_row ps kind.IdentName (a ∷ b ∷ []) = is_text_same (ps 1) _ b
  key_row ps kind.IdentName (a ∷ b ∷ c ∷ ts) = refl
  key_row ps kind.Str [] = refl
  key_row ps kind.Str (a ∷ []) = refl
  key_row ps kind.Str (a ∷ b ∷ []) = refl
  key_row ps kind.Str (a ∷ b ∷ c ∷ []) = is_text_same (ps 1) _ b
  key_row ps kind.Str (a ∷ b ∷ c ∷ d ∷ ts) = refl
  key_row ps k ts = refl

  flag_at : (ps : ℕ → Place) (n : ℕ) (ts : List Node) → flag_of (slice_get (new ps ts) n) ≡ flag_of (slice_get ts n)
  flag_at ps n [] = refl
  flag_at ps zero (t ∷ ts) = flag_same (ps zero) t
  flag_at ps (suc n) (t ∷ ts) = flag_at (λ i. ps (suc i)) n ts

  plain_row : (ps : ℕ → Place) (k : Kind) (ts : List Node) → plain_in (Node-F.Tree k (new ps ts)) ≡ plain_in (Node-F.Tree k ts)
  plain_row ps kind.Function ts = rw (flag_at ps function_fields.IS_GENERATOR ts, flag_at ps function_fields.IS_ASYNC ts) refl
  plain_row ps k ts = refl

  -- ---- what is seen of a node

  pub leaf_of : (p : Place) (t : Node) → SameLeaf t (substituted m keeps p t)
  leaf_of p t = record { absent = absent_same p t; word = word_same p t; flag = flag_same p t; text = text_same p t }

  pub kind_of : (p : Place) (t : Node) → SameKind t (substituted m keeps p t)
  kind_of p t = record {
    default = kind_same default_kind (refl, refl, refl, refl, refl) p t;
    star = kind_same star_kind (refl, refl, refl, refl, refl) p t;
    named = kind_same named_kind (refl, refl, refl, refl, refl) p t;
    constructor = kind_same constructor_kind (refl, refl, refl, refl, refl) p t;
    imports = kind_same import_kind (refl, refl, refl, refl, refl) p t;
    destructuring = kind_same is_destructuring (refl, refl, refl, refl, refl) p t;
  }

  pub parts_of : (p : Place) (t : Node) → SameParts t (substituted m keeps p t)
  parts_of p t = record {
    tail = look tail_in false blind-tail m keeps p (λ k ts. tail_row _ k ts) t;
    spread = look spread_in false blind-spread m keeps p (λ k ts. spread_row _ k ts) t;
    rest = look odd_rest_in false blind-rest m keeps p (λ k ts. rest_row _ k ts) t;
    case = look default_in false blind-case m keeps p (λ k ts. case_row _ k ts) t;
    plain = look plain_in false blind-plain m keeps p (λ k ts. plain_row _ k ts) t;
  }

  abbrev pub view : Place → Node → View
  view p t = record { before = t; after = substituted m keeps p t; leaf = leaf_of p t; kind = kind_of p t; parts = parts_of p t }

  pub keyed : (p : Place) (t : Node) → Keyed (view p t)
  keyed p t = look constructor_key_in false blind-key m keeps p (λ k ts. key_row _ k ts) t

  -- each node at its place
  abbrev pub views : (ℕ → Place) → List Node → List View
  views ps [] = []
  views ps (t ∷ ts) = view (ps zero) t ∷ views (λ i. ps (suc i)) ts

  pub views_before : (ps : ℕ → Place) (ts : List Node) → befores (views ps ts) ≡ ts
  views_before ps [] = refl
  views_before ps (t ∷ ts) = ap (λ us. t ∷ us) (views_before (λ i. ps (suc i)) ts)

  pub views_after : (ps : ℕ → Place) (ts : List Node) → afters (views ps ts) ≡ new ps ts
  views_after ps [] = refl
  views_after ps (t ∷ ts) = ap (λ us. substituted m keeps (ps zero) t ∷ us) (views_after (λ i. ps (suc i)) ts)

  pub keyed_all : (ps : ℕ → Place) (ts : List Node) → Of Keyed (views ps ts)
  keyed_all ps [] = tt
  keyed_all ps (t ∷ ts) = (keyed (ps zero) t, keyed_all (λ i. ps (suc i)) ts)

  -- ---- lists

  unlisted : (p : Place) (t : Node) → is_list_in (out-Node t) ≡ false → items_of (substituted m keeps p t) ≡ new (λ i. p) (items_of t)
  unlisted p t h =
      no_items (out-Node (substituted m keeps p t)) (look is_list_in false blind-list m keeps p (λ k ts. refl) t ∙ h)
      ∙ sym (ap (new (λ i. p)) (no_items (out-Node t) h))

  in_list : (p : Place) (t : Node) (ts : List Node) → t ≡ Many ts → Quiet t → items_of (substituted m keeps p t) ≡ new (λ i. p) (items_of t)
  in_list p t ts e q =
      let same : items_of t ≡ ts = ap items_of e ∙ ap items_in (outs-List ts) in
      ap (λ t. items_of (substituted m keeps p t)) e
      ∙ ap items_of (substituted_list m keeps p ts)
      ∙ ap items_in (outs-List (items_substituted m keeps p ts))
      ∙ no_exports m keeps p ts (ap (list_any is_exported_declaration) (sym same) ∙ q)
      ∙ sym (ap (new (λ i. p)) same)

  -- the items of a list without exported declarations
  pub items_are : (p : Place) (t : Node) → Quiet t → items_of (substituted m keeps p t) ≡ new (λ i. p) (items_of t)
  items_are p t q = by (out-Node t) refl
    where
      by : (y : Node-F Node) → out-Node t ≡ y → items_of (substituted m keeps p t) ≡ new (λ i. p) (items_of t)
      by (Node-F.List ts) o = in_list p t ts (list_is t ts o) q
      by (Node-F.Tree k ts) o = unlisted p t (ap is_list_in o)
      by (Node-F.Identifier k i) o = unlisted p t (ap is_list_in o)
      by Node-F.Absent o = unlisted p t (ap is_list_in o)
      by (Node-F.Flag x) o = unlisted p t (ap is_list_in o)
      by (Node-F.Word x) o = unlisted p t (ap is_list_in o)
      by (Node-F.Text x) o = unlisted p t (ap is_list_in o)
      by (Node-F.Span x) o = unlisted p t (ap is_list_in o)

  listed : (p : Place) (t : Node) → Quiet t → Listed (view p t)
  listed p t q = record { items = views (λ i. p) (items_of t); were = sym (views_before (λ i. p) (items_of t)); are = items_are p t q ∙ sym (views_after (λ i. p) (items_of t)) }

  pub listed_all : (ps : ℕ → Place) (ts : List Node) → Each Quiet ts → Of Listed (views ps ts)
  listed_all ps [] q = tt
  listed_all ps (t ∷ ts) q = (listed (ps zero) t q.0, listed_all (λ i. ps (suc i)) ts q.1)
