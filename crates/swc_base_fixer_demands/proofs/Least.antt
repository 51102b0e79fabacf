-- The level that an expression has at least says enough below level 18.
use Rattle.std.proofs.Common.{◌≡◌, ℕ, Bool, true, false, ◌&&◌, ◌||◌, refl, ap, arith}
use Rattle.std.specs.Prelude.{nat_le, nat_eq, not, if◌then◌else◌}
use Rattle.swc_tree_node.specs.declared.node.Node.{Node, out-Node}
use Rattle.swc_tree_node.specs.declared.node.Node.TheOpen.{Node-F}
use Rattle.swc_tree_grammar.specs.Shapes.{Member, TaggedTpl}
use Rattle.swc_tree_grammar.specs.Levels.{is_absent, level_in, is_called}
use Rattle.swc_tree_grammar.specs.Demands.{at_least}
use Rattle.swc_base_fixer_demands.specs.Least.{least, least_in, uncalled, uncalled_in}

one_more : (n : ℕ) → nat_le n 18 ≡ (nat_le n 17 || nat_eq n 18)
one_more n = grind arith

or_false : (b : Bool) → b ≡ (b || false)
or_false true = refl
or_false false = refl

and_false : (a b : Bool) → a ≡ (a || (b && false))
and_false true b = refl
and_false false true = refl
and_false false false = refl

and_true : (b : Bool) → (b && true) ≡ b
and_true true = refl
and_true false = refl

by_call : (n : ℕ) (c : Bool) → nat_le n (if c then 17 else 18) ≡ (nat_le n 17 || (nat_eq n 18 && not c))
by_call n true = and_false (nat_le n 17) (nat_eq n 18)
by_call n false = rw (and_true (nat_eq n 18)) (one_more n)

by_shape : (n : ℕ) (x : Node-F Node) → nat_le n (level_in x) ≡ (nat_le n (least_in x) || (nat_eq n 18 && uncalled_in x))
by_shape n (Member span obj prop) = by_call n (is_called obj)
by_shape n (TaggedTpl span tag tpl) = by_call n (is_called tag)
by_shape n x = and_false (nat_le n (level_in x)) (nat_eq n 18)

pub by_least : (n : ℕ) (e : Node) → at_least n e ≡ (is_absent e || (nat_le n (least e) || (nat_eq n 18 && uncalled e)))
by_least n e = ap (λ b. is_absent e || b) (by_shape n (out-Node e))
