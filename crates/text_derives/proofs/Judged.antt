-- What the rules say at each form of a node, in terms of the nodes below it.
use Rattle.std.proofs.Common.{◌≡◌, ℕ, zero, suc, ◌+◌, Bool, true, false, not, ◌&&◌, ◌||◌, List, [], ◌∷◌, map, take, Some, rules, refl, sym, ap, ◌∙◌, add-one}
use Rattle.std.specs.List.{slice_get}
use Rattle.swc_tree_node.specs.declared.kind.Kind.{Kind}
use Rattle.swc_tree_node.specs.declared.node.Node.{Node, List as Many, Tree, the_lemmas}
use Rattle.swc_tree_node.specs.declared.node.Node.TheOpen.{Node-F}
use Rattle.swc_tree_grammar.proofs.Wholes.{carried}
use Rattle.text_derives.specs.declared.context.Context.{Context}
use Rattle.text_derives.specs.declared.ask.Ask.{Ask}
use Rattle.text_derives.specs.declared.ask.Ask.TheVariants as ask
use Rattle.text_derives.specs.declared.ask.Look.{Look}
use Rattle.text_derives.specs.declared.ask.Row.TheVariants as row
use Rattle.text_derives.specs.declared.rule.Rule.{Rule}
use Rattle.text_derives.specs.Asks.{Judged, Derives, ask_at, meets, meets_each, seen}
use Rattle.text_derives.specs.Rules.{rule_of}
use Rattle.text_derives.specs.Judged.{all_meet, by_rule, derived, derived_in, judged, judged_step}

pub same : (t : Node) → (judged t).whole ≡ t
same t = carried Judged judged_step (λ e. e.whole) (λ x. refl) t

judged_tree : (k : Kind) (ts : List Node) → judged (Tree k ts) ≡ judged_step (Node-F.Tree k (map judged ts))
judged_tree k ts = search (rules, the_lemmas)

judged_list : (ts : List Node) → judged (Many ts) ≡ judged_step (Node-F.List (map judged ts))
judged_list ts = search (rules, the_lemmas)

-- a node that is given, with what is said of it
abbrev pub given : Node → Judged
given t = record { whole = t; derives = derived t }

is_given : (t : Node) → judged t ≡ given t
is_given t = ap (λ (w : Node). let e : Judged = record { whole = w; derives = derived t } in e) (same t)

each_given : (ts : List Node) → map judged ts ≡ map given ts
each_given [] = refl
each_given (t ∷ ts) = rw (is_given t, each_given ts) refl

wholes : (ts : List Node) → map (λ e. e.whole) (map given ts) ≡ ts
wholes [] = refl
wholes (t ∷ ts) = ap (λ us. t ∷ us) (wholes ts)

all_given : (asks : ℕ → Ask) (ts : List Node) → meets_each asks (map given ts) ≡ all_meet asks ts
all_given asks [] = refl
all_given asks (t ∷ ts) = ap (λ b. meets (asks zero) t (derived t) && b) (all_given (λ i. asks (suc i)) ts)

pub derived_of_tree : (k : Kind) (ts : List Node) (h : Bool) (q : Context) → derived (Tree k ts) h q ≡ ((rule_of h q (Node-F.Tree k ts)).holds && all_meet (ask_at (rule_of h q (Node-F.Tree k ts)).row) ts)
derived_of_tree k ts h q =
    ap (λ e. e.derives h q) (judged_tree k ts) ∙ ap (λ es. derived_in (Node-F.Tree k es) h q) (each_given ts)
    ∙ ap (λ us. by_rule (rule_of h q (Node-F.Tree k us)) (map given ts)) (wholes ts)
    ∙ ap (λ b. (rule_of h q (Node-F.Tree k ts)).holds && b) (all_given (ask_at (rule_of h q (Node-F.Tree k ts)).row) ts)

pub derived_of_list : (ts : List Node) (h : Bool) (q : Context) → derived (Many ts) h q ≡ (not h && all_meet (ask_at (row.Each (ask.Derived q))) ts)
derived_of_list ts h q =
    ap (λ e. e.derives h q) (judged_list ts) ∙ ap (λ es. derived_in (Node-F.List es) h q) (each_given ts) ∙ ap (λ b. not h && b) (all_given (ask_at (row.Each (ask.Derived q))) ts)

-- the same of a node that is known to be one
pub of_list : (t : Node) (ts : List Node) (h : Bool) (q : Context) → t ≡ Many ts → h ≡ false → derived t h q ≡ all_meet (ask_at (row.Each (ask.Derived q))) ts
of_list t ts h q is e = ap (λ u. derived u h q) is ∙ derived_of_list ts h q ∙ ap (λ b. not b && all_meet (ask_at (row.Each (ask.Derived q))) ts) e

module _ (t : Node) (k : Kind) (ts : List Node) (h : Bool) (q : Context) (u : Rule) (is : t ≡ Tree k ts) (same_rule : u ≡ rule_of h q (Node-F.Tree k ts)) where
  by_parts : derived t h q ≡ (u.holds && all_meet (ask_at u.row) ts)
  by_parts = ap (λ t. derived t h q) is ∙ derived_of_tree k ts h q ∙ ap (λ (u : Rule). u.holds && all_meet (ask_at u.row) ts) (sym same_rule)

  pub of_tree : u.holds ≡ true → derived t h q ≡ all_meet (ask_at u.row) ts
  of_tree e = by_parts ∙ ap (λ b. b && all_meet (ask_at u.row) ts) e

  pub none_of_tree : u.holds ≡ false → derived t h q ≡ false
  none_of_tree e = by_parts ∙ ap (λ b. b && all_meet (ask_at u.row) ts) e

-- one child more
pub met_next : (asks : ℕ → Ask) (ts : List Node) (i : ℕ) (c : Node) → slice_get ts i ≡ Some c → all_meet asks (take i ts) ≡ true → meets (asks i) c (derived c) ≡ true → all_meet asks (take (i + 1) ts) ≡ true
met_next asks ts i c here before now = rw add-one (next asks ts i here before now)
  where
    both : (a b : Bool) → (a && b) ≡ true → (a ≡ true) × (b ≡ true)
    both true b h = (refl, h)
    both false b h = absurd (cc)

    next : (asks : ℕ → Ask) (ts : List Node) (i : ℕ) → slice_get ts i ≡ Some c → all_meet asks (take i ts) ≡ true → meets (asks i) c (derived c) ≡ true → all_meet asks (take (suc i) ts) ≡ true
    next asks [] i here before now = absurd (cc)
    next asks (t ∷ ts) zero here before now =
        let is : t ≡ c = cc in
        ap (λ b. b && true) (ap (λ c. meets (asks zero) c (derived c)) is ∙ now)
    next asks (t ∷ ts) (suc i) here before now =
        let p = both (meets (asks zero) t (derived t)) _ before in
        ap (λ b. b && all_meet (λ j. asks (suc j)) (take (suc i) ts)) p.0 ∙ next (λ j. asks (suc j)) ts i here p.1 now

-- a child that is not what is asked of it
pub met_none : (asks : ℕ → Ask) (ts : List Node) (i : ℕ) (c : Node) → slice_get ts i ≡ Some c → meets (asks i) c (derived c) ≡ false → all_meet asks ts ≡ false
met_none asks [] i c here now = absurd (cc)
met_none asks (t ∷ ts) zero c here now =
    let is : t ≡ c = cc in
    ap (λ b. b && all_meet (λ j. asks (suc j)) ts) (ap (λ c. meets (asks zero) c (derived c)) is ∙ now)
met_none asks (t ∷ ts) (suc i) c here now = ap (λ b. meets (asks zero) t (derived t) && b) (met_none (λ j. asks (suc j)) ts i c here now) ∙ none (meets (asks zero) t (derived t))
  where
    none : (b : Bool) → (b && false) ≡ false
    none true = refl
    none false = refl

-- what a look says
pub seen_unmet : (l : Look) (f : Derives) → l.met ≡ false → seen l f ≡ false
seen_unmet l f e = ap (λ b. b && (not l.goes_on || f l.in_chain l.context)) e

pub seen_below : (l : Look) (f : Derives) → l.met ≡ true → l.goes_on ≡ true → seen l f ≡ f l.in_chain l.context
seen_below l f e g = ap (λ b. b && (not l.goes_on || f l.in_chain l.context)) e ∙ ap (λ b. not b || f l.in_chain l.context) g

pub seen_met : (l : Look) (f : Derives) → l.met ≡ true → l.goes_on ≡ false → seen l f ≡ true
seen_met l f e g = ap (λ b. b && (not l.goes_on || f l.in_chain l.context)) e ∙ ap (λ b. not b || f l.in_chain l.context) g
