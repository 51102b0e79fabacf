-- What the rules derive is what the grammar derives.
use Rattle.std.proofs.Common.{◌≡◌, ℕ, zero, suc, Bool, true, false, not, ◌&&◌, IsTrue, ◌↔◌, List, [], ◌∷◌, map, refl, sym, ap, ◌∙◌, rules}
use Rattle.std.specs.List.{list_all}
use Rattle.swc_tree_node.specs.declared.kind.Kind.{Kind}
use Rattle.swc_tree_node.specs.declared.node.Node.{Node, Absent, Flag, Word, Text, Span, List as Many, Identifier, Tree, the_lemmas}
use Rattle.swc_tree_node.specs.declared.node.Node.TheOpen.{Node-F}
use Rattle.swc_tree_grammar.specs.Demands.{Demand, demands}
use Rattle.swc_tree_grammar.specs.Grammar.{Context as Context', FitsGrammar, Judged, derives, derives_in, each_asked, in_chain_in}
use Rattle.swc_tree_grammar.proofs.Induction.{Each, by_children}
use Rattle.swc_tree_grammar_laws.proofs.Derived.{alone, chained, chained_tree, derives_list, derives_tree, judged, whole as carried}
use Rattle.text_derives.specs.declared.context.Context.{Context}
use Rattle.text_derives.specs.declared.ask.Ask.{Ask}
use Rattle.text_derives.specs.declared.ask.Ask.TheVariants as ask
use Rattle.text_derives.specs.declared.ask.Row.TheVariants as row
use Rattle.text_derives.specs.Asks.{ask_at, meets}
use Rattle.text_derives.specs.Contexts.{context_of, whole}
use Rattle.text_derives.specs.Rules.{rule_of}
use Rattle.text_derives.specs.Judged.{all_meet, derived}
use Rattle.text_derives.proofs.Judged.{derived_of_list, derived_of_tree}
use Rattle.text_derives.proofs.Rows.{all_want, chains, fields, given, rows, says, want}

-- ---- what the grammar says of a node, by what it says of the nodes below

is_given : (t : Node) → judged t ≡ given t
is_given t =
    ap (λ (w : Node). let e : Judged = record { whole = w; demand = (judged t).demand; derives = derives t; in_chain = chained t } in e) (carried t)
    ∙ ap (λ (d : Demand). let e : Judged = record { whole = t; demand = d; derives = derives t; in_chain = chained t } in e) (alone t)

each_given : (ts : List Node) → map judged ts ≡ map given ts
each_given [] = refl
each_given (t ∷ ts) = rw (is_given t, each_given ts) refl

derives_by : (k : Kind) (ts : List Node) (c : Context') → derives (Tree k ts) c ≡ derives_in (Node-F.Tree k (fields false k ts)) c
derives_by k ts c = derives_tree k ts c ∙ ap (λ es. derives_in (Node-F.Tree k (each_asked (demands false (Node-F.Tree k ts)) es)) c) (each_given ts)

chained_by : (k : Kind) (ts : List Node) (c : Context') → chained (Tree k ts) c ≡ in_chain_in (Node-F.Tree k (fields true k ts)) c
chained_by k ts c = chained_tree k ts c ∙ ap (λ es. in_chain_in (Node-F.Tree k (each_asked (demands true (Node-F.Tree k ts)) es)) c) (each_given ts)

-- ---- every node

abbrev Same : Node → Type 0
Same t = derived t ≡ want t

same_all : (asks : ℕ → Ask) (ts : List Node) → Each Same ts → all_meet asks ts ≡ all_want asks ts
same_all asks [] l = refl
same_all asks (t ∷ ts) l = ap (λ f. meets (asks zero) t f && all_meet (λ i. asks (suc i)) ts) l.0 ∙ ap (λ b. meets (asks zero) t (want t) && b) (same_all (λ i. asks (suc i)) ts l.1)

listed : (asks : ℕ → Ask) (c : Context) → ((i : ℕ) → asks i ≡ ask.Derived c) → (ts : List Node) → all_want asks ts ≡ list_all (λ e. e.derives (context_of c)) (map judged ts)
listed asks c h [] = refl
listed asks c h (t ∷ ts) =
    ap (λ a. meets a t (want t) && all_want (λ i. asks (suc i)) ts) (h zero) ∙ ap (λ b. derives t (context_of c) && b) (listed (λ i. asks (suc i)) c (λ i. h (suc i)) ts)

leaf_same : (t : Node) → ((h : Bool) (c : Context) → derived t h c ≡ not h) → ((c : Context') → derives t c ≡ true) → ((c : Context') → chained t c ≡ false) → Same t
leaf_same t a b d = λ j h c. (a h c ∙ by h c) j
  where
    by : (h : Bool) (c : Context) → not h ≡ want t h c
    by true c = sym (d (context_of c))
    by false c = sym (b (context_of c))

no_chain : (ts : List Node) (c : Context') → chained (Many ts) c ≡ false
no_chain ts c = search (rules, the_lemmas)

list_same : (ts : List Node) → Each Same ts → Same (Many ts)
list_same ts l = λ j h c. (derived_of_list ts h c ∙ by h c) j
  where
    by : (h : Bool) (c : Context) → (not h && all_meet (ask_at (row.Each (ask.Derived c))) ts) ≡ want (Many ts) h c
    by true c = sym (no_chain ts (context_of c))
    by false c = same_all (ask_at (row.Each (ask.Derived c))) ts l ∙ listed (ask_at (row.Each (ask.Derived c))) c (λ i. refl) ts ∙ sym (derives_list ts (context_of c))

tree_same : (k : Kind) (ts : List Node) → Each Same ts → Same (Tree k ts)
tree_same k ts l = λ j h c. (derived_of_tree k ts h c ∙ ap (λ b. (rule_of h c (Node-F.Tree k ts)).holds && b) (same_all (ask_at (rule_of h c (Node-F.Tree k ts)).row) ts l) ∙ by h c) j
  where
    by : (h : Bool) (c : Context) → says (rule_of h c (Node-F.Tree k ts)) ts ≡ want (Tree k ts) h c
    by true c = chains c k ts ∙ sym (chained_by k ts (context_of c))
    by false c = rows c k ts ∙ sym (derives_by k ts (context_of c))

pub agrees : (t : Node) → Same t
agrees t = by_children Same (
  leaf_same Absent (λ h c. search (rules, the_lemmas)) (λ c. search (rules, the_lemmas)) (λ c. search (rules, the_lemmas)),
  λ x. leaf_same (Flag x) (λ h c. search (rules, the_lemmas)) (λ c. search (rules, the_lemmas)) (λ c. search (rules, the_lemmas)),
  λ w. leaf_same (Word w) (λ h c. search (rules, the_lemmas)) (λ c. search (rules, the_lemmas)) (λ c. search (rules, the_lemmas)),
  λ x. leaf_same (Text x) (λ h c. search (rules, the_lemmas)) (λ c. search (rules, the_lemmas)) (λ c. search (rules, the_lemmas)),
  λ s. leaf_same (Span s) (λ h c. search (rules, the_lemmas)) (λ c. search (rules, the_lemmas)) (λ c. search (rules, the_lemmas)),
  λ k i. leaf_same (Identifier k i) (λ h c. search (rules, the_lemmas)) (λ c. search (rules, the_lemmas)) (λ c. search (rules, the_lemmas)),
)
    list_same tree_same t

pub decides : (t : Node) (b : Bool) → b ≡ derived t false whole → IsTrue b ↔ FitsGrammar t
decides t b e = (λ h. sym is ∙ h, λ h. is ∙ h)
  where
    is : b ≡ derives t (context_of whole)
    is = e ∙ ap (λ f. f false whole) (agrees t)
