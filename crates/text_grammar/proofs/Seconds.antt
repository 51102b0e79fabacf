-- At most one of some nodes passes a test exactly if none passes behind one that does.
use Rattle.std.proofs.Common.{◌≡◌, ℕ, suc, ◌+◌, Bool, true, false, not, ◌&&◌, List, [], ◌∷◌, length, cond, refl, sym, ap, ◌∙◌, arith}
use Rattle.std.specs.Prelude.{nat_le, if◌then◌else◌}
use Rattle.std.specs.List.{filter}
use Rattle.swc_tree_node.specs.declared.node.Node.{Node}
use Rattle.text_grammar.specs.Shaped.{at_most_one, no_second}

-- those that pass, with the one that is found
abbrev counted : Bool → ℕ → ℕ
counted true n = suc n
counted false n = n

two : (n : ℕ) → false ≡ nat_le (suc (suc n)) 1
two n = grind arith

passed : (found : Bool) (n : ℕ) (rest : Bool) → rest ≡ nat_le (suc n) 1 → (not found && rest) ≡ nat_le (counted found (suc n)) 1
passed true n rest h = two n
passed false n rest h = h

-- one node more
more : (found here : Bool) (p : Node → Bool) (t : Node) (ts : List Node)
    → no_second p true ts ≡ nat_le (suc (length (filter p ts))) 1 → no_second p found ts ≡ nat_le (counted found (length (filter p ts))) 1
    → (if here then (not found && no_second p true ts) else no_second p found ts) ≡ nat_le (counted found (length (if here then t ∷ filter p ts else filter p ts))) 1
more found true p t ts h g = passed found (length (filter p ts)) (no_second p true ts) h
more found false p t ts h g = g

none : (found : Bool) → true ≡ nat_le (counted found 0) 1
none true = refl
none false = refl

seconds : (found : Bool) (p : Node → Bool) (ts : List Node) → no_second p found ts ≡ nat_le (counted found (length (filter p ts))) 1
seconds found p [] = none found
seconds found p (t ∷ ts) = more found (p t) p t ts (seconds true p ts) (seconds found p ts)

pub at_most_one_is : (p : Node → Bool) (ts : List Node) → at_most_one p ts ≡ no_second p false ts
at_most_one_is p ts = sym (seconds false p ts)
