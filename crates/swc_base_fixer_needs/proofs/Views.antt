-- What is seen of a node from above, where pairs are set in it and none round it.
use Rattle.std.proofs.Common.{◌≡◌, ℕ, Bool, true, false, ◌||◌, List, [], ◌∷◌, map, refl, sym, ap, ◌∙◌, rules}
use Rattle.std.specs.Prelude.{nat_le, if◌then◌else◌}
use Rattle.std.specs.List.{list_all}
use Rattle.swc_tree_node.specs.declared.kind.Kind.{Kind}
use Rattle.swc_tree_node.specs.declared.kind.Kind.TheVariants as kind
use Rattle.swc_tree_node.specs.declared.node.Node.{Node, List as Many, Tree, out-Node, the_lemmas}
use Rattle.swc_tree_node.specs.declared.node.Node.TheOpen.{Node-F}
use Rattle.swc_tree_grammar.specs.Shapes.{items_of}
use Rattle.swc_tree_grammar.specs.Kinds.{has_kind, is_opt_chain, is_block}
use Rattle.swc_tree_grammar.specs.Levels.{level_in, level_of_word, word_of, is_called, called_step, is_absent}
use Rattle.swc_tree_grammar.specs.Demands.{Demand, meets, at_least, is_bare_new, bare_new_in, is_nullish, nullish_in, nullish_word, key_in}
use Rattle.swc_tree_grammar.specs.Demands.Demand.{Any, AtLeast, Each as EachOf, Key, Body, Operand, Link, NewCallee, OrSide, NullishSide}
use Rattle.swc_tree_grammar.specs.Readers.{unary_word_in, assigns_in, assigns_to}
use Rattle.swc_base_fixer_laws.proofs.Up.{at_least_of_tree, called_of_tree, bare_of_tree, nullish_of_tree, kind_of_tree}
use Rattle.swc_base_fixer_needs.specs.Sites.{clue}
use Rattle.swc_base_fixer_needs.proofs.Paths.{clue_of_tree, clue_of_list}

pub record View (t u : Node) : Type 0 where
  pub clue_same : clue u ≡ clue t
  pub least : (n : ℕ) → at_least n u ≡ at_least n t
  pub kinds : (q : Kind → Bool) → has_kind q u ≡ has_kind q t
  pub bare : is_bare_new u ≡ is_bare_new t
  pub nullish : is_nullish u ≡ is_nullish t
  pub called : is_called u ≡ is_called t
  pub dropped : unary_word_in (out-Node u) ≡ unary_word_in (out-Node t)
  pub assigned : (q : Kind → Bool) → assigns_to q u ≡ assigns_to q t
  pub as_key : meets Key u ≡ meets Key t
  pub as_items : (n : ℕ) → meets (EachOf n) u ≡ meets (EachOf n) t

pub view_same : (t : Node) → View t t
view_same t = record { clue_same = refl; least = λ n. refl; kinds = λ q. refl; bare = refl; nullish = refl; called = refl; dropped = refl; assigned = λ q. refl; as_key = refl; as_items = λ n. refl }

pub same_meets : {t u : Node} → View t u → (d : Demand) → meets d u ≡ meets d t
same_meets v Any = refl
same_meets v (AtLeast n) = v.least n
same_meets v (EachOf n) = v.as_items n
same_meets v Key = v.as_key
same_meets v Body = rw (v.kinds is_block, v.least 2) refl
same_meets v Operand = rw (v.kinds is_opt_chain, v.bare, v.least 17) refl
same_meets v Link = rw (v.bare, v.least 17) refl
same_meets v (NewCallee b) = rw (v.least 18, v.bare) refl
same_meets v OrSide = rw (v.nullish, v.least 4) refl
same_meets v NullishSide = rw (v.least 6, v.nullish) refl

-- trees of one kind, where what their kind looks at is the same
pub record Parts (k : Kind) (ts us : List Node) : Type 0 where
  pub level : level_in (Node-F.Tree k us) ≡ level_in (Node-F.Tree k ts)
  pub bare : bare_new_in (Node-F.Tree k us) ≡ bare_new_in (Node-F.Tree k ts)
  pub nullish : nullish_in (Node-F.Tree k us) ≡ nullish_in (Node-F.Tree k ts)
  pub called : called_step (Node-F.Tree k (map is_called us)) ≡ called_step (Node-F.Tree k (map is_called ts))
  pub dropped : unary_word_in (Node-F.Tree k us) ≡ unary_word_in (Node-F.Tree k ts)
  pub assigned : (q : Kind → Bool) → assigns_in q (Node-F.Tree k us) ≡ assigns_in q (Node-F.Tree k ts)
  pub as_key : key_in (Node-F.Tree k us) ≡ key_in (Node-F.Tree k ts)

pub view_of_tree : (k : Kind) (ts us : List Node) → Parts k ts us → View (Tree k ts) (Tree k us)
view_of_tree k ts us x = record {
  clue_same = clue_of_tree k us ∙ sym (clue_of_tree k ts);
  least = λ n. at_least_of_tree n k us ∙ ap (nat_le n) x.level ∙ sym (at_least_of_tree n k ts);
  kinds = λ q. kind_of_tree q k us ∙ sym (kind_of_tree q k ts);
  bare = bare_of_tree k us ∙ x.bare ∙ sym (bare_of_tree k ts);
  nullish = nullish_of_tree k us ∙ x.nullish ∙ sym (nullish_of_tree k ts);
  called = called_of_tree k us ∙ x.called ∙ sym (called_of_tree k ts);
  dropped = (let e : (vs : List Node) → unary_word_in (out-Node (Tree k vs)) ≡ unary_word_in (Node-F.Tree k vs) = λ vs. search (rules, the_lemmas) in e us ∙ x.dropped ∙ sym (e ts));
  assigned = λ q. (let e : (vs : List Node) → assigns_to q (Tree k vs) ≡ assigns_in q (Node-F.Tree k vs) = λ vs. search (rules, the_lemmas) in e us ∙ x.assigned q ∙ sym (e ts));
  as_key = (let e : (vs : List Node) → meets Key (Tree k vs) ≡ key_in (Node-F.Tree k vs) = λ vs. search (rules, the_lemmas) in e us ∙ x.as_key ∙ sym (e ts));
  as_items = λ n. (let e : (vs : List Node) → items_of (Tree k vs) ≡ [] = λ vs. search (rules, the_lemmas) in rw (e us, e ts) refl);
}

pub parts_bin : (s o f x s' o' f' x' : Node) → word_of o' ≡ word_of o → Parts kind.BinExpr (s ∷ o ∷ f ∷ x ∷ []) (s' ∷ o' ∷ f' ∷ x' ∷ [])
parts_bin s o f x s' o' f' x' e = record { level = ap level_of_word e; bare = refl; nullish = ap nullish_word e; called = refl; dropped = refl; assigned = λ q. refl; as_key = refl }

pub parts_member : (s o m s' o' m' : Node) → is_called o' ≡ is_called o → Parts kind.MemberExpr (s ∷ o ∷ m ∷ []) (s' ∷ o' ∷ m' ∷ [])
parts_member s o m s' o' m' e = record { level = ap (λ b. if b then 17 else 18) e; bare = refl; nullish = refl; called = e; dropped = refl; assigned = λ q. refl; as_key = refl }

pub parts_tagged : (s o m s' o' m' : Node) → is_called o' ≡ is_called o → Parts kind.TaggedTpl (s ∷ o ∷ m ∷ []) (s' ∷ o' ∷ m' ∷ [])
parts_tagged s o m s' o' m' e = record { level = ap (λ b. if b then 17 else 18) e; bare = refl; nullish = refl; called = e; dropped = refl; assigned = λ q. refl; as_key = refl }

pub parts_new : (s o m s' o' m' : Node) → is_absent m' ≡ is_absent m → Parts kind.NewExpr (s ∷ o ∷ m ∷ []) (s' ∷ o' ∷ m' ∷ [])
parts_new s o m s' o' m' e = record { level = ap (λ b. if b then 17 else 18) e; bare = e; nullish = refl; called = refl; dropped = refl; assigned = λ q. refl; as_key = refl }

pub parts_unary : (s o x s' o' x' : Node) → word_of o' ≡ word_of o → Parts kind.UnaryExpr (s ∷ o ∷ x ∷ []) (s' ∷ o' ∷ x' ∷ [])
parts_unary s o x s' o' x' e = record { level = refl; bare = refl; nullish = refl; called = refl; dropped = e; assigned = λ q. refl; as_key = refl }

pub parts_assign : (s o f x s' o' f' x' : Node) → ((q : Kind → Bool) → has_kind q f' ≡ has_kind q f) → Parts kind.AssignExpr (s ∷ o ∷ f ∷ x ∷ []) (s' ∷ o' ∷ f' ∷ x' ∷ [])
parts_assign s o f x s' o' f' x' e = record { level = refl; bare = refl; nullish = refl; called = refl; dropped = refl; assigned = e; as_key = refl }

pub parts_computed : (s x s' x' : Node) → at_least 2 x' ≡ at_least 2 x → Parts kind.ComputedPropName (s ∷ x ∷ []) (s' ∷ x' ∷ [])
parts_computed s x s' x' e = record { level = refl; bare = refl; nullish = refl; called = refl; dropped = refl; assigned = λ q. refl; as_key = e }

-- of other kinds nothing below is looked at
abbrev pub looks_below : Kind → Bool
looks_below kind.BinExpr = true
looks_below kind.MemberExpr = true
looks_below kind.TaggedTpl = true
looks_below kind.NewExpr = true
looks_below kind.UnaryExpr = true
looks_below kind.AssignExpr = true
looks_below kind.ComputedPropName = true
looks_below _ = false

pub parts_other : (k : Kind) (ts us : List Node) → looks_below k ≡ false → Parts k ts us
parts_other kind.BinExpr ts us h = absurd (cc)
parts_other kind.MemberExpr ts us h = absurd (cc)
parts_other kind.TaggedTpl ts us h = absurd (cc)
parts_other kind.NewExpr ts us h = absurd (cc)
parts_other kind.UnaryExpr ts us h = absurd (cc)
parts_other kind.AssignExpr ts us h = absurd (cc)
parts_other kind.ComputedPropName ts us h = absurd (cc)
parts_other k ts us h = record { level = refl; bare = refl; nullish = refl; called = refl; dropped = refl; assigned = λ q. refl; as_key = refl }

-- lists
abbrev pub Views : List Node → List Node → Type 0
Views [] [] = Unit {0}
Views (t ∷ ts) (u ∷ us) = View t u × Views ts us
Views _ _ = ⊥

all_least : (n : ℕ) (ts us : List Node) → Views ts us → list_all (at_least n) us ≡ list_all (at_least n) ts
all_least n [] [] v = refl
all_least n [] (u ∷ us) v = absurd v
all_least n (t ∷ ts) [] v = absurd v
all_least n (t ∷ ts) (u ∷ us) v = rw (v.0.least n, all_least n ts us v.1) refl

pub view_of_list : (ts us : List Node) → Views ts us → View (Many ts) (Many us)
view_of_list ts us v = record {
  clue_same = clue_of_list us ts;
  least = λ n. (let e : (vs : List Node) → at_least n (Many vs) ≡ (false || nat_le n 19) = λ vs. search (rules, the_lemmas) in e us ∙ sym (e ts));
  kinds = λ q. (let e : (vs : List Node) → has_kind q (Many vs) ≡ false = λ vs. search (rules, the_lemmas) in e us ∙ sym (e ts));
  bare = (let e : (vs : List Node) → is_bare_new (Many vs) ≡ false = λ vs. search (rules, the_lemmas) in e us ∙ sym (e ts));
  nullish = (let e : (vs : List Node) → is_nullish (Many vs) ≡ false = λ vs. search (rules, the_lemmas) in e us ∙ sym (e ts));
  called = (let e : (vs : List Node) → is_called (Many vs) ≡ false = λ vs. search (rules, the_lemmas) in e us ∙ sym (e ts));
  dropped = (let e : (vs : List Node) → unary_word_in (out-Node (Many vs)) ≡ unary_word_in (Node-F.List vs) = λ vs. search (rules, the_lemmas) in e us ∙ sym (e ts));
  assigned = λ q. (let e : (vs : List Node) → assigns_to q (Many vs) ≡ false = λ vs. search (rules, the_lemmas) in e us ∙ sym (e ts));
  as_key = (let e : (vs : List Node) → meets Key (Many vs) ≡ true = λ vs. search (rules, the_lemmas) in e us ∙ sym (e ts));
  as_items = λ n. (let e : (vs : List Node) → items_of (Many vs) ≡ vs = λ vs. search (rules, the_lemmas) in rw (e us, e ts) (all_least n ts us v));
}
