-- What the steps say together.
use Rattle.std.proofs.Common.{◌≡◌, Bool, true, false, IsTrue, ◌↔◌, sym, refl, ◌∙◌}
use Rattle.swc_tree_node.specs.declared.node.Node.{Node}
use Rattle.swc_tree_grammar.specs.Writable.{Writable}
use Rattle.swc_tree_walk.specs.Nodes.{HasNode}
use Rattle.text_checks.specs.Pinned.{IsPinned, is_astray, is_lax}
use Rattle.text_checks.specs.Words.{Worded}

never : {P : Type 0} (b : Bool) → b ≡ true → b ≡ false → P
never b h g = let no : false ≡ true = sym g ∙ h in absurd (cc)

false_never : IsTrue false → ⊥
false_never h = absurd (cc)

-- a step that says no
pub bent : (t : Node) (b : Bool) → IsTrue b ↔ HasNode is_astray t → b ≡ true → IsTrue false ↔ IsPinned t
bent t b h e = ((λ n. absurd (cc)), (λ p. absurd (p.straight (h.0 e))))

pub unworded : (t : Node) (b : Bool) → IsTrue b ↔ Worded t → b ≡ false → IsTrue false ↔ IsPinned t
unworded t b h e = ((λ n. absurd (cc)), (λ p. never b (h.1 p.worded) e))

pub straight_by : (t : Node) (b : Bool) → IsTrue b ↔ HasNode is_astray t → b ≡ false → HasNode is_astray t → ⊥
straight_by t b h e n = never b (h.1 n) e

-- the others
module _ (t : Node) (w : Bool) (words : IsTrue w ↔ Worded t) (is_straight : HasNode is_astray t → ⊥) (worded : w ≡ true) where
  is_worded : Worded t
  is_worded = words.0 worded

  -- it can be written down
  pub written : (b : Bool) → IsTrue b ↔ Writable t → b ≡ true → IsTrue b ↔ IsPinned t
  written b h e = ((λ y. record { straight = is_straight; worded = is_worded; writable = λ n. h.0 e }), (λ p. e))

  -- it can't, and the last step says why
  pub lax_or_not : (b l : Bool) → IsTrue b ↔ Writable t → IsTrue l ↔ HasNode is_lax t → b ≡ false → IsTrue l ↔ IsPinned t
  lax_or_not b l h g e = (
    (λ y. record { straight = is_straight; worded = is_worded; writable = λ n. absurd (n (g.0 y)) }),
    (λ p. found l g (λ none. never b (h.1 (p.writable none)) e)),
  )
    where
      found : (l : Bool) → IsTrue l ↔ HasNode is_lax t → ((HasNode is_lax t → ⊥) → ⊥) → IsTrue l
      found true g some = refl
      found false g some = absurd (some (λ n. false_never (g.1 n)))
