-- What the rules say at each form of a node, in terms of the nodes below it.
use Rattle.std.proofs.Common.{◌≡◌, ℕ, zero, suc, ◌+◌, Bool, true, false, not, ◌&&◌, ◌||◌, List, [], ◌∷◌, map, take, Some, rules, refl, sym, ap, ◌∙◌, add-one}
use Rattle.std.specs.List.{slice_get}
use Rattle.swc_tree_marks.specs.declared.ident.Ident.{Ident}
use Rattle.swc_tree_node.specs.declared.kind.Kind.{Kind}
use Rattle.swc_tree_node.specs.declared.node.Node.{Node, List as Many, Identifier, Tree, the_lemmas}
use Rattle.swc_tree_node.specs.declared.node.Node.TheOpen.{Node-F}
use Rattle.swc_tree_grammar.proofs.Wholes.{carried}
use Rattle.swc_base_writable_rules.specs.declared.round.Round.{Round}
use Rattle.swc_base_writable_rules.specs.declared.ask.Ask.{Ask}
use Rattle.swc_base_writable_rules.specs.declared.ask.Ask.TheVariants as ask
use Rattle.swc_base_writable_rules.specs.declared.ask.Look.{Look}
use Rattle.swc_base_writable_rules.specs.declared.ask.Row.TheVariants as row
use Rattle.swc_base_writable_rules.specs.declared.rule.Rule.{Rule}
use Rattle.swc_base_writable_rules.specs.Rounds.{name_sound}
use Rattle.swc_base_writable_rules.specs.Asks.{Judged, Sounds, ask_at, meets, meets_each, seen}
use Rattle.swc_base_writable_rules.specs.Rules.{rule_of}
use Rattle.swc_base_writable_rules.specs.Judged.{all_meet, by_rule, judged, judged_step, sounds, sounds_in}

pub same : (t : Node) → (judged t).whole ≡ t
same t = carried Judged judged_step (λ e. e.whole) (λ x. refl) t

judged_tree : (k : Kind) (ts : List Node) → judged (Tree k ts) ≡ judged_step (Node-F.Tree k (map judged ts))
judged_tree k ts = search (rules, the_lemmas)

judged_list : (ts : List Node) → judged (Many ts) ≡ judged_step (Node-F.List (map judged ts))
judged_list ts = search (rules, the_lemmas)

judged_name : (k : Kind) (i : Ident) → judged (Identifier k i) ≡ judged_step (Node-F.Identifier k i)
judged_name k i = search (rules, the_lemmas)

-- a node that is given, with what is said of it
abbrev pub given : Node → Judged
given t = record { whole = t; sounds = sounds t }

is_given : (t : Node) → judged t ≡ given t
is_given t = ap (λ (w : Node). let e : Judged = record { whole = w; sounds = sounds t } in e) (same t)

each_given : (ts : List Node) → map judged ts ≡ map given ts
each_given [] = refl
each_given (t ∷ ts) = rw (is_given t, each_given ts) refl

wholes : (ts : List Node) → map (λ e. e.whole) (map given ts) ≡ ts
wholes [] = refl
wholes (t ∷ ts) = ap (λ us. t ∷ us) (wholes ts)

all_given : (asks : ℕ → Ask) (ts : List Node) → meets_each asks (map given ts) ≡ all_meet asks ts
all_given asks [] = refl
all_given asks (t ∷ ts) = ap (λ b. meets (asks zero) t (sounds t) && b) (all_given (λ i. asks (suc i)) ts)

pub sounds_of_tree : (k : Kind) (ts : List Node) (h : Bool) (q : Round) → sounds (Tree k ts) h q ≡ ((rule_of h q (Node-F.Tree k ts)).holds && all_meet (ask_at (rule_of h q (Node-F.Tree k ts)).row) ts)
sounds_of_tree k ts h q =
    ap (λ e. e.sounds h q) (judged_tree k ts) ∙ ap (λ es. sounds_in (Node-F.Tree k es) h q) (each_given ts)
    ∙ ap (λ us. by_rule (rule_of h q (Node-F.Tree k us)) (map given ts)) (wholes ts)
    ∙ ap (λ b. (rule_of h q (Node-F.Tree k ts)).holds && b) (all_given (ask_at (rule_of h q (Node-F.Tree k ts)).row) ts)

pub sounds_of_list : (ts : List Node) (h : Bool) (q : Round) → sounds (Many ts) h q ≡ (not h && all_meet (ask_at (row.Each (ask.Part q))) ts)
sounds_of_list ts h q =
    ap (λ e. e.sounds h q) (judged_list ts) ∙ ap (λ es. sounds_in (Node-F.List es) h q) (each_given ts) ∙ ap (λ b. not h && b) (all_given (ask_at (row.Each (ask.Part q))) ts)

pub sounds_of_name : (k : Kind) (i : Ident) (h : Bool) (q : Round) → sounds (Identifier k i) h q ≡ (not h && name_sound k i.sym q)
sounds_of_name k i h q = ap (λ e. e.sounds h q) (judged_name k i)

-- the same of a node that is known to be one
pub of_list : (t : Node) (ts : List Node) (h : Bool) (q : Round) → t ≡ Many ts → h ≡ false → sounds t h q ≡ all_meet (ask_at (row.Each (ask.Part q))) ts
of_list t ts h q is e = ap (λ u. sounds u h q) is ∙ sounds_of_list ts h q ∙ ap (λ b. not b && all_meet (ask_at (row.Each (ask.Part q))) ts) e

module _ (t : Node) (k : Kind) (ts : List Node) (h : Bool) (q : Round) (u : Rule) (is : t ≡ Tree k ts) (same_rule : u ≡ rule_of h q (Node-F.Tree k ts)) where
  by_parts : sounds t h q ≡ (u.holds && all_meet (ask_at u.row) ts)
  by_parts = ap (λ t. sounds t h q) is ∙ sounds_of_tree k ts h q ∙ ap (λ (u : Rule). u.holds && all_meet (ask_at u.row) ts) (sym same_rule)

  pub of_tree : u.holds ≡ true → sounds t h q ≡ all_meet (ask_at u.row) ts
  of_tree e = by_parts ∙ ap (λ b. b && all_meet (ask_at u.row) ts) e

  pub none_of_tree : u.holds ≡ false → sounds t h q ≡ false
  none_of_tree e = by_parts ∙ ap (λ b. b && all_meet (ask_at u.row) ts) e

-- one child more
pub met_next : (asks : ℕ → Ask) (ts : List Node) (i : ℕ) (c : Node) → slice_get ts i ≡ Some c → all_meet asks (take i ts) ≡ true → meets (asks i) c (sounds c) ≡ true → all_meet asks (take (i + 1) ts) ≡ true
met_next asks ts i c here before now = rw add-one (next asks ts i here before now)
  where
    both : (a b : Bool) → (a && b) ≡ true → (a ≡ true) × (b ≡ true)
    both true b h = (refl, h)
    both false b h = absurd (cc)

    next : (asks : ℕ → Ask) (ts : List Node) (i : ℕ) → slice_get ts i ≡ Some c → all_meet asks (take i ts) ≡ true → meets (asks i) c (sounds c) ≡ true → all_meet asks (take (suc i) ts) ≡ true
    next asks [] i here before now = absurd (cc)
    next asks (t ∷ ts) zero here before now =
        let is : t ≡ c = cc in
        ap (λ b. b && true) (ap (λ c. meets (asks zero) c (sounds c)) is ∙ now)
    next asks (t ∷ ts) (suc i) here before now =
        let p = both (meets (asks zero) t (sounds t)) _ before in
        ap (λ b. b && all_meet (λ j. asks (suc j)) (take (suc i) ts)) p.0 ∙ next (λ j. asks (suc j)) ts i here p.1 now

-- a child that is not what is asked of it
pub met_none : (asks : ℕ → Ask) (ts : List Node) (i : ℕ) (c : Node) → slice_get ts i ≡ Some c → meets (asks i) c (sounds c) ≡ false → all_meet asks ts ≡ false
met_none asks [] i c here now = absurd (cc)
met_none asks (t ∷ ts) zero c here now =
    let is : t ≡ c = cc in
    ap (λ b. b && all_meet (λ j. asks (suc j)) ts) (ap (λ c. meets (asks zero) c (sounds c)) is ∙ now)
met_none asks (t ∷ ts) (suc i) c here now = ap (λ b. meets (asks zero) t (sounds t) && b) (met_none (λ j. asks (suc j)) ts i c here now) ∙ none (meets (asks zero) t (sounds t))
  where
    none : (b : Bool) → (b && false) ≡ false
    none true = refl
    none false = refl

-- what a look says
pub seen_unmet : (l : Look) (f : Sounds) → l.met ≡ false → seen l f ≡ false
seen_unmet l f e = ap (λ b. b && (not l.goes_on || f l.in_head l.round)) e

pub seen_below : (l : Look) (f : Sounds) → l.met ≡ true → l.goes_on ≡ true → seen l f ≡ f l.in_head l.round
seen_below l f e g = ap (λ b. b && (not l.goes_on || f l.in_head l.round)) e ∙ ap (λ b. not b || f l.in_head l.round) g

pub seen_met : (l : Look) (f : Sounds) → l.met ≡ true → l.goes_on ≡ false → seen l f ≡ true
seen_met l f e g = ap (λ b. b && (not l.goes_on || f l.in_head l.round)) e ∙ ap (λ b. not b || f l.in_head l.round) g
