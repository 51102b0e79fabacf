-- What stands in one place after the first step is what the place asks, and levelled if it was.
use Rattle.std.proofs.Common.{◌≡◌, ℕ, Bool, true, false, not, ◌||◌, List, [], ◌∷◌, map, refl, sym, ◌∙◌, rules}
use Rattle.std.specs.Prelude.{nat_le, if◌then◌else◌}
use Rattle.std.specs.List.{list_all}
use Rattle.swc_tree_node.specs.declared.kind.Kind.{Kind}
use Rattle.swc_tree_node.specs.declared.kind.Kind.TheVariants as kind
use Rattle.swc_tree_node.specs.declared.node.Node.{Node, List as Many, Tree, out-Node, the_lemmas}
use Rattle.swc_tree_node.specs.declared.node.Node.TheOpen.{Node-F}
use Rattle.swc_tree_grammar.specs.Shapes.{items_of}
use Rattle.swc_tree_grammar.specs.Demands.{Demand, meets, at_least, key_in as key_meets}
use Rattle.swc_tree_grammar.specs.Demands.Demand.{Any, AtLeast, Each as EachOf, Key, Body, Operand, Link, NewCallee, OrSide, NullishSide}
use Rattle.swc_tree_grammar.specs.Due.{Places, pair, pair_if, to_level, key_in, call_paired, settled, each_settled}
use Rattle.swc_tree_grammar.specs.Readers.{none}
use Rattle.swc_tree_grammar.proofs.Induction.{by_children}
use Rattle.swc_tree_grammar_laws.specs.Levelled.{each_meets}
use Rattle.swc_tree_grammar_laws.proofs.Levelled.{levelled_tree, levelled_list, Fine, AllFine, half, also, fine_pair, fine_if}
use Rattle.swc_tree_grammar_laws.proofs.Callees.{good}

-- no level is asked that a pair has not
abbrev pub is_met_by_pairs : Demand → Bool
is_met_by_pairs (AtLeast n) = nat_le n 19
is_met_by_pairs (EachOf n) = nat_le n 19
is_met_by_pairs _ = true

-- what a pair is, and the expression where it gets none, is what is left
paired_or : (q : Node → Bool) (b : Bool) (p : Places) (e : Node) → q (pair p e) ≡ true → (b ≡ false → q e ≡ true) → q (pair_if b p e) ≡ true
paired_or q true p e h g = h
paired_or q false p e h g = g refl

met_if_bare : (n m : Bool) → (n || not m) ≡ false → m ≡ true
met_if_bare n true h = refl
met_if_bare true false h = absurd (cc)
met_if_bare false false h = absurd (cc)

pair_is : (n : ℕ) (p : Places) (e : Node) → nat_le n 19 ≡ true → at_least n (pair p e) ≡ true
pair_is n p e h = let g : at_least n (pair p e) ≡ (false || nat_le n 19) = search (rules, the_lemmas) in g ∙ h

one : (d : Demand) (p : Places) (named : Node → Bool) (e : Node) → meets d (pair p e) ≡ true → meets d (pair_if (named e || not (meets d e)) p e) ≡ true
one d p named e h = paired_or (meets d) (named e || not (meets d e)) p e h (λ g. met_if_bare (named e) (meets d e) g)

-- lists
level_is : (n : ℕ) (p : Places) (e : Node) → nat_le n 19 ≡ true → at_least n (to_level n p e) ≡ true
level_is n p e h = paired_or (at_least n) (not (at_least n e)) p e (pair_is n p e h) (λ g. met_if_bare false (at_least n e) g)

items_are : (n : ℕ) (p : Places) (ts : List Node) → nat_le n 19 ≡ true → list_all (at_least n) (map (to_level n p) ts) ≡ true
items_are n p [] h = refl
items_are n p (t ∷ ts) h = also (level_is n p t h) (items_are n p ts h)

items_fine : (n : ℕ) (p : Places) (ts : List Node) → AllFine ts → AllFine (map (to_level n p) ts)
items_fine n p [] h = refl
items_fine n p (t ∷ ts) h = let q = half h in also (fine_if (not (at_least n t)) p t ∙ q.0) (items_fine n p ts q.1)

items_of_many : (ts : List Node) → items_of (Many ts) ≡ ts
items_of_many ts = search (rules, the_lemmas)

pub items : (t : Node) → Fine t → AllFine (items_of t)
items t = by_children (λ t. Fine t → AllFine (items_of t))
    (λ h. search (rules, the_lemmas), λ x h. search (rules, the_lemmas), λ w h. search (rules, the_lemmas), λ x h. search (rules, the_lemmas), λ s h. search (rules, the_lemmas), λ k i h. search (rules, the_lemmas))
    (λ ts l h. rw (items_of_many ts) (sym (levelled_list ts false) ∙ h))
    (λ k ts l h. search (rules, the_lemmas)) t

-- keys
key_tree : (k : Kind) (ts : List Node) (p : Places) → key_meets (out-Node (key_in p (Tree k ts) (Node-F.Tree k ts))) ≡ true
key_tree kind.ComputedPropName (s ∷ e ∷ []) p =
    let h : key_meets (out-Node (Tree kind.ComputedPropName (s ∷ to_level 2 p e ∷ []))) ≡ at_least 2 (to_level 2 p e) = search (rules, the_lemmas) in h ∙ level_is 2 p e refl
key_tree k ts p = search (rules, the_lemmas)

key_of_tree : (p : Places) (k : Kind) (ts : List Node) → key_in p (Tree k ts) (out-Node (Tree k ts)) ≡ key_in p (Tree k ts) (Node-F.Tree k ts)
key_of_tree p k ts = search (rules, the_lemmas)

key_is : (p : Places) (t : Node) → key_meets (out-Node (key_in p t (out-Node t))) ≡ true
key_is p t = by_children (λ t. key_meets (out-Node (key_in p t (out-Node t))) ≡ true)
    (search (rules, the_lemmas), λ x. search (rules, the_lemmas), λ w. search (rules, the_lemmas), λ x. search (rules, the_lemmas), λ s. search (rules, the_lemmas), λ k i. search (rules, the_lemmas))
    (λ ts h. search (rules, the_lemmas))
    (λ k ts h. rw (key_of_tree p k ts) (key_tree k ts p)) t

computed_fine : (k : Kind) (ts : List Node) (p : Places) → Fine (Tree k ts) → Fine (key_in p (Tree k ts) (Node-F.Tree k ts))
computed_fine kind.ComputedPropName (s ∷ e ∷ []) p h =
    levelled_tree kind.ComputedPropName (s ∷ to_level 2 p e ∷ []) false ∙ rw (fine_if (not (at_least 2 e)) p e) (sym (levelled_tree kind.ComputedPropName (s ∷ e ∷ []) false) ∙ h)
computed_fine k ts p h = h

key_fine : (p : Places) (t : Node) → Fine t → Fine (key_in p t (out-Node t))
key_fine p t = by_children (λ t. Fine t → Fine (key_in p t (out-Node t)))
    (λ h. search (rules, the_lemmas), λ x h. search (rules, the_lemmas), λ w h. search (rules, the_lemmas), λ x h. search (rules, the_lemmas), λ s h. search (rules, the_lemmas), λ k i h. search (rules, the_lemmas))
    (λ ts l h. (let e : key_in p (Many ts) (out-Node (Many ts)) ≡ Many ts = search (rules, the_lemmas) in rw e h))
    (λ k ts l h. rw (key_of_tree p k ts) (computed_fine k ts p h)) t

-- what `new` calls
callee_else : (b : Bool) (p : Places) (bare : Bool) (e : Node) → meets (NewCallee bare) e ≡ b → Fine e
    → (meets (NewCallee bare) (if b then e else call_paired p e) ≡ true) × Fine (if b then e else call_paired p e)
callee_else true p bare e g h = (g, h)
callee_else false p bare e g h = let q = good p e h in (rw q.0 (search rules), q.3)

callee_is : (c : Bool) (p : Places) (bare : Bool) (e : Node) → Fine e
    → (meets (NewCallee bare) (if c then pair p e else if meets (NewCallee bare) e then e else call_paired p e) ≡ true)
    × Fine (if c then pair p e else if meets (NewCallee bare) e then e else call_paired p e)
callee_is true p bare e h = (search (rules, the_lemmas), fine_pair p e false ∙ h)
callee_is false p bare e h = callee_else (meets (NewCallee bare) e) p bare e refl h

pub is_met : (d : Demand) (p : Places) (named : Node → Bool) (t : Node) → is_met_by_pairs d ≡ true → Fine t → meets d (settled p d named t) ≡ true
is_met Any p named t m h = refl
is_met (AtLeast n) p named t m h = one (AtLeast n) p named t (pair_is n p t m)
is_met (EachOf n) p named t m h = rw (items_of_many (map (to_level n p) (items_of t))) (items_are n p (items_of t) m)
is_met Key p named t m h = key_is p t
is_met Body p named t m h = one Body p named t (search (rules, the_lemmas))
is_met Operand p named t m h = one Operand p named t (search (rules, the_lemmas))
is_met Link p named t m h = one Link p named t (search (rules, the_lemmas))
is_met (NewCallee bare) p named t m h = (callee_is (named t) p bare t h).0
is_met OrSide p named t m h = one OrSide p named t (search (rules, the_lemmas))
is_met NullishSide p named t m h = one NullishSide p named t (search (rules, the_lemmas))

pub stays_fine : (d : Demand) (p : Places) (named : Node → Bool) (t : Node) → Fine t → Fine (settled p d named t)
stays_fine (EachOf n) p named t h = levelled_list (map (to_level n p) (items_of t)) false ∙ items_fine n p (items_of t) (items t h)
stays_fine Key p named t h = key_fine p t h
stays_fine (NewCallee bare) p named t h = (callee_is (named t) p bare t h).1
stays_fine d p named t h = fine_if (named t || not (meets d t)) p t ∙ h

-- all fields
pub all_met : (p : Places) (ds : List Demand) (names : List (Node → Bool)) (ts : List Node) → list_all is_met_by_pairs ds ≡ true → AllFine ts → each_meets ds (each_settled p ds names ts) ≡ true
all_met p [] names ts m h = refl
all_met p (d ∷ ds) [] [] m h = refl
all_met p (d ∷ ds) (n ∷ ns) [] m h = refl
all_met p (d ∷ ds) [] (t ∷ ts) m h = let a = half m in let q = half h in also (is_met d p none t a.0 q.0) (all_met p ds [] ts a.1 q.1)
all_met p (d ∷ ds) (n ∷ ns) (t ∷ ts) m h = let a = half m in let q = half h in also (is_met d p n t a.0 q.0) (all_met p ds ns ts a.1 q.1)

pub all_stay_fine : (p : Places) (ds : List Demand) (names : List (Node → Bool)) (ts : List Node) → AllFine ts → AllFine (each_settled p ds names ts)
all_stay_fine p [] names ts h = h
all_stay_fine p (d ∷ ds) [] [] h = refl
all_stay_fine p (d ∷ ds) (n ∷ ns) [] h = refl
all_stay_fine p (d ∷ ds) [] (t ∷ ts) h = let q = half h in also (stays_fine d p none t q.0) (all_stay_fine p ds [] ts q.1)
all_stay_fine p (d ∷ ds) (n ∷ ns) (t ∷ ts) h = let q = half h in also (stays_fine d p n t q.0) (all_stay_fine p ds ns ts q.1)
