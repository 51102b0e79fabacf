-- What stands where it is asked has its parts stand where they are asked: the words that the rows share.
use Rattle.std.proofs.Common.{◌≡◌, Bool, true, false, ◌&&◌, ◌||◌, List, [], ◌∷◌, map, refl, sym, ap, ◌∙◌}
use Rattle.std.specs.List.{list_all}
use Rattle.swc_tree_node.specs.declared.kind.Kind.{Kind}
use Rattle.swc_tree_node.specs.declared.node.Node.{Node, Tree}
use Rattle.swc_tree_node.specs.declared.node.Node.TheOpen.{Node-F}
use Rattle.swc_tree_grammar.specs.Demands.{Demand, meets}
use Rattle.swc_tree_grammar.specs.Demands.Demand.{Any}
use Rattle.swc_tree_grammar.specs.Starts.{start, is_let_bracket}
use Rattle.swc_tree_grammar.specs.Grammar.{Context, derives, derives_in, fits, part}
use Rattle.swc_tree_grammar_laws.proofs.Levelled.{half}
use Rattle.swc_tree_grammar_laws.proofs.Derived.{judged, whole, fields}
use Rattle.swc_base_fixer_needs.specs.Sites.{may_open, Site, clue, asks, leads, spots, any, Stands, AllStand}

abbrev pub context : Bool → Bool → Context
context b s = record { with_in = b; strict = s }

pub code : (t : Node) (b s : Bool) → derives t (context b s) ≡ true → Stands (asks Any b) t
code t b s h = record { is_met = refl; leads_no_call = λ x. absurd (cc); no_async = λ x. absurd (cc); opens = refl; strict = s; derived = h }

pub asked : (d : Demand) (t : Node) (b s : Bool) → meets d t ≡ true → derives t (context b s) ≡ true → Stands (asks d b) t
asked d t b s m h = record { is_met = m; leads_no_call = λ x. absurd (cc); no_async = λ x. absurd (cc); opens = refl; strict = s; derived = h }

pub fit : (d : Demand) (t : Node) (b s : Bool) → fits (record (judged t) { demand = d }) (context b s) ≡ true → Stands (asks d b) t
fit d t b s h = let p = half h in asked d t b s (sym (ap (meets d) (whole t)) ∙ p.0) (half p.1).1

pub bare_fit : (t : Node) (b s : Bool) → fits (judged t) (context b s) ≡ true → Stands (asks Any b) t
bare_fit t b s h = code t b s (half (half h).1).1

pub piece : (d : Demand) (t : Node) (b s : Bool) → part (context b s) (record (judged t) { demand = d }) ≡ true → Stands (asks d true) t
piece d t b s h = let p = half h in asked d t true s (sym (ap (meets d) (whole t)) ∙ p.0) p.1

or_first : (a b : Bool) → a ≡ true → (a || b) ≡ true
or_first a b h = rw h refl

pub lead : (a : Site) (d : Demand) (t : Node) (b : Bool) → may_open a.opening (start t) ≡ true → Stands (asks d b) t → Stands (leads a (asks d b)) t
lead a d t b o x = record { is_met = x.is_met; leads_no_call = λ y. absurd (cc); no_async = λ y. absurd (cc); opens = or_first (may_open a.opening (start t)) (false && is_let_bracket t) o; strict = x.strict; derived = x.derived }

-- what a node of such a start may begin with, what it begins with may

no_other : (a b c : Bool) → c ≡ false → (a || (b && c)) ≡ true → a ≡ true
no_other true b c h g = refl
no_other false true c h g = absurd (cc)
no_other false false c h g = absurd (cc)

pub opened : (a : Site) (t : Node) → is_let_bracket t ≡ false → Stands a t → may_open a.opening (start t) ≡ true
opened a t h x = no_other (may_open a.opening (start t)) a.optional (is_let_bracket t) h x.opens

-- rows
abbrev pub Row : Kind → List Node → Type 0
Row k ts = (a : Site) → Stands a (Tree k ts) → (s : Bool) → derives_in (Node-F.Tree k (fields false k ts)) (context a.with_in s) ≡ true → AllStand (spots a (Node-F.Tree k (map clue ts))) ts

pub all_parts : (ts : List Node) (b s : Bool) → list_all (part (context b s)) (map judged ts) ≡ true → AllStand (map (λ c. any) (map clue ts)) ts
all_parts [] b s h = tt
all_parts (t ∷ ts) b s h = let p = half h in (code t true s (half p.0).1, all_parts ts b s p.1)
