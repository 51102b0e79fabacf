-- Whether words are what they have to be, at each form of a node, in terms of the nodes below it.
use Rattle.std.proofs.Common.{◌≡◌, ℕ, zero, suc, ◌+◌, Bool, true, false, not, ◌&&◌, ◌||◌, List, [], ◌∷◌, map, take, Some, rules, refl, sym, ap, ◌∙◌, add-one}
use Rattle.std.specs.List.{slice_get}
use Rattle.swc_tree_marks.specs.declared.ident.Ident.{Ident}
use Rattle.swc_tree_node.specs.declared.kind.Kind.{Kind}
use Rattle.swc_tree_node.specs.declared.node.Node.{Node, List as Many, Identifier, Tree, the_lemmas}
use Rattle.swc_tree_node.specs.declared.node.Node.TheOpen.{Node-F}
use Rattle.swc_tree_grammar.proofs.Wholes.{carried}
use Rattle.text_checks.specs.declared.words.Ask.{Ask}
use Rattle.text_checks.specs.declared.words.Rule.{Rule}
use Rattle.text_checks.specs.declared.words.Words.{Words}
use Rattle.text_checks.specs.Words.{Read, all_meet, ask_at, by_rule, each_meets, fits, fits_in, is_name, meets, read, read_step, rule_of, throughout}

same : (t : Node) → (read t).whole ≡ t
same t = carried Read read_step (λ e. e.whole) (λ x. refl) t

read_tree : (k : Kind) (ts : List Node) → read (Tree k ts) ≡ read_step (Node-F.Tree k (map read ts))
read_tree k ts = search (rules, the_lemmas)

read_list : (ts : List Node) → read (Many ts) ≡ read_step (Node-F.List (map read ts))
read_list ts = search (rules, the_lemmas)

read_name : (k : Kind) (i : Ident) → read (Identifier k i) ≡ read_step (Node-F.Identifier k i)
read_name k i = search (rules, the_lemmas)

-- a node that is given, with what is said of it
abbrev given : Node → Read
given t = record { whole = t; fits = fits t }

is_given : (t : Node) → read t ≡ given t
is_given t = ap (λ (w : Node). let e : Read = record { whole = w; fits = fits t } in e) (same t)

each_given : (ts : List Node) → map read ts ≡ map given ts
each_given [] = refl
each_given (t ∷ ts) = rw (is_given t, each_given ts) refl

wholes : (ts : List Node) → map (λ e. e.whole) (map given ts) ≡ ts
wholes [] = refl
wholes (t ∷ ts) = ap (λ us. t ∷ us) (wholes ts)

all_given : (asks : ℕ → Ask) (ts : List Node) → each_meets asks (map given ts) ≡ all_meet asks ts
all_given asks [] = refl
all_given asks (t ∷ ts) = ap (λ b. meets (asks zero) (fits t) && b) (all_given (λ i. asks (suc i)) ts)

pub fits_of_tree : (k : Kind) (ts : List Node) (w : Words) → fits (Tree k ts) w ≡ ((rule_of w (Node-F.Tree k ts)).holds && all_meet (ask_at (rule_of w (Node-F.Tree k ts))) ts)
fits_of_tree k ts w =
    ap (λ e. e.fits w) (read_tree k ts) ∙ ap (λ es. fits_in (Node-F.Tree k es) w) (each_given ts)
    ∙ ap (λ us. by_rule (rule_of w (Node-F.Tree k us)) (map given ts)) (wholes ts)
    ∙ ap (λ b. (rule_of w (Node-F.Tree k ts)).holds && b) (all_given (ask_at (rule_of w (Node-F.Tree k ts))) ts)

pub fits_of_list : (ts : List Node) (w : Words) → fits (Many ts) w ≡ all_meet (ask_at (throughout w)) ts
fits_of_list ts w = ap (λ e. e.fits w) (read_list ts) ∙ ap (λ es. fits_in (Node-F.List es) w) (each_given ts) ∙ all_given (ask_at (throughout w)) ts

pub fits_of_name : (k : Kind) (i : Ident) (w : Words) → fits (Identifier k i) w ≡ is_name i.sym w
fits_of_name k i w = ap (λ e. e.fits w) (read_name k i)

-- the same of a node that is known to be one
pub of_list : (t : Node) (ts : List Node) (w : Words) (r : Rule) → t ≡ Many ts → r ≡ throughout w → fits t w ≡ all_meet (ask_at r) ts
of_list t ts w r is e = ap (λ u. fits u w) is ∙ fits_of_list ts w ∙ ap (λ (r : Rule). all_meet (ask_at r) ts) (sym e)

module _ (t : Node) (k : Kind) (ts : List Node) (w : Words) (u : Rule) (is : t ≡ Tree k ts) (same_rule : u ≡ rule_of w (Node-F.Tree k ts)) where
  by_parts : fits t w ≡ (u.holds && all_meet (ask_at u) ts)
  by_parts = ap (λ t. fits t w) is ∙ fits_of_tree k ts w ∙ ap (λ (u : Rule). u.holds && all_meet (ask_at u) ts) (sym same_rule)

  pub of_tree : u.holds ≡ true → fits t w ≡ all_meet (ask_at u) ts
  of_tree e = by_parts ∙ ap (λ b. b && all_meet (ask_at u) ts) e

  pub none_of_tree : u.holds ≡ false → fits t w ≡ false
  none_of_tree e = by_parts ∙ ap (λ b. b && all_meet (ask_at u) ts) e

-- one child more
pub met_next : (asks : ℕ → Ask) (ts : List Node) (i : ℕ) (c : Node) → slice_get ts i ≡ Some c → all_meet asks (take i ts) ≡ true → meets (asks i) (fits c) ≡ true → all_meet asks (take (i + 1) ts) ≡ true
met_next asks ts i c here before now = rw add-one (next asks ts i here before now)
  where
    both : (a b : Bool) → (a && b) ≡ true → (a ≡ true) × (b ≡ true)
    both true b h = (refl, h)
    both false b h = absurd (cc)

    next : (asks : ℕ → Ask) (ts : List Node) (i : ℕ) → slice_get ts i ≡ Some c → all_meet asks (take i ts) ≡ true → meets (asks i) (fits c) ≡ true → all_meet asks (take (suc i) ts) ≡ true
    next asks [] i here before now = absurd (cc)
    next asks (t ∷ ts) zero here before now =
        let is : t ≡ c = cc in
        ap (λ b. b && true) (ap (λ c. meets (asks zero) (fits c)) is ∙ now)
    next asks (t ∷ ts) (suc i) here before now =
        let p = both (meets (asks zero) (fits t)) _ before in
        ap (λ b. b && all_meet (λ j. asks (suc j)) (take (suc i) ts)) p.0 ∙ next (λ j. asks (suc j)) ts i here p.1 now

-- a child that is not what is asked of it
pub met_none : (asks : ℕ → Ask) (ts : List Node) (i : ℕ) (c : Node) → slice_get ts i ≡ Some c → meets (asks i) (fits c) ≡ false → all_meet asks ts ≡ false
met_none asks [] i c here now = absurd (cc)
met_none asks (t ∷ ts) zero c here now =
    let is : t ≡ c = cc in
    ap (λ b. b && all_meet (λ j. asks (suc j)) ts) (ap (λ c. meets (asks zero) (fits c)) is ∙ now)
met_none asks (t ∷ ts) (suc i) c here now = ap (λ b. meets (asks zero) (fits t) && b) (met_none (λ j. asks (suc j)) ts i c here now) ∙ none (meets (asks zero) (fits t))
  where
    none : (b : Bool) → (b && false) ≡ false
    none true = refl
    none false = refl

-- what is asked of a child, as the code looks at it
pub met_below : (a : Ask) (f : Words → Bool) → a.asks ≡ true → meets a f ≡ f a.words
met_below a f e = ap (λ b. not b || f a.words) e

pub met_unasked : (a : Ask) (f : Words → Bool) → a.asks ≡ false → meets a f ≡ true
met_unasked a f e = ap (λ b. not b || f a.words) e
