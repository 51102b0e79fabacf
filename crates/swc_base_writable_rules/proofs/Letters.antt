-- A reserved word is looked for among those that begin with the same letter.
use Rattle.std.proofs.Common.{◌≡◌, ◌≢◌, ap, sym, ◌∙◌, ℕ, ◌==◌, true, false, List, [], get_or}
use Rattle.std.specs.Prelude.{nat_eq}
use Rattle.std.specs.List.{filter, list_any}
use Rattle.std.specs.Cmp.Lexicographic.{bytes_decides, pointwise}
use Rattle.std.proofs.lemmas.Bool.{eq-eqb, ne_eqb}
use Rattle.std.proofs.lemmas.Map.Views.{any-filter_same}
use Rattle.swc_tree_grammar.specs.Writable.{reserved}

-- those that begin with a byte
abbrev begun : ℕ → List (List ℕ)
begun c = filter (λ w. get_or w 0 0 == c) reserved

same_first : (c : ℕ) (text w : List ℕ) → get_or text 0 0 ≡ c → pointwise nat_eq text w ≡ true → (get_or w 0 0 == c) ≡ true
same_first c text w is same = eq-eqb (get_or w 0 0) c (ap (λ t. get_or t 0 0) (sym ((bytes_decides text w).0 same)) ∙ is)

pub among : (c : ℕ) (text : List ℕ) → get_or text 0 0 ≡ c → list_any (pointwise nat_eq text) (begun c) ≡ list_any (pointwise nat_eq text) reserved
among c text is = any-filter_same (pointwise nat_eq text) (λ w. get_or w 0 0 == c) true (λ w same. same_first c text w is same) reserved

none_begun : (c : ℕ) → c ≢ 97 → c ≢ 98 → c ≢ 99 → c ≢ 100 → c ≢ 101 → c ≢ 102 → c ≢ 105 → c ≢ 108 → c ≢ 110 → c ≢ 112 → c ≢ 114 → c ≢ 115 → c ≢ 116 → c ≢ 118 → c ≢ 119 → c ≢ 121 → begun c ≡ []
none_begun c not_a not_b not_c not_d not_e not_f not_i not_l not_n not_p not_r not_s not_t not_v not_w not_y = simp (
  ne_eqb 97 c (λ e. not_a (sym e)),
  ne_eqb 98 c (λ e. not_b (sym e)),
  ne_eqb 99 c (λ e. not_c (sym e)),
  ne_eqb 100 c (λ e. not_d (sym e)),
  ne_eqb 101 c (λ e. not_e (sym e)),
  ne_eqb 102 c (λ e. not_f (sym e)),
  ne_eqb 105 c (λ e. not_i (sym e)),
  ne_eqb 108 c (λ e. not_l (sym e)),
  ne_eqb 110 c (λ e. not_n (sym e)),
  ne_eqb 112 c (λ e. not_p (sym e)),
  ne_eqb 114 c (λ e. not_r (sym e)),
  ne_eqb 115 c (λ e. not_s (sym e)),
  ne_eqb 116 c (λ e. not_t (sym e)),
  ne_eqb 118 c (λ e. not_v (sym e)),
  ne_eqb 119 c (λ e. not_w (sym e)),
  ne_eqb 121 c (λ e. not_y (sym e)),
)

pub none : (c : ℕ) (text : List ℕ) → get_or text 0 0 ≡ c → c ≢ 97 → c ≢ 98 → c ≢ 99 → c ≢ 100 → c ≢ 101 → c ≢ 102 → c ≢ 105 → c ≢ 108 → c ≢ 110 → c ≢ 112 → c ≢ 114 → c ≢ 115 → c ≢ 116 → c ≢ 118 → c ≢ 119 → c ≢ 121 → false ≡ list_any (pointwise nat_eq text) reserved
none c text is not_a not_b not_c not_d not_e not_f not_i not_l not_n not_p not_r not_s not_t not_v not_w not_y =
    ap (list_any (pointwise nat_eq text)) (sym (none_begun c not_a not_b not_c not_d not_e not_f not_i not_l not_n not_p not_r not_s not_t not_v not_w not_y)) ∙ among c text is
