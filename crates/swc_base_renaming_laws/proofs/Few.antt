-- Few texts are tried for an id, since each that is passed over is a preserved one or that of an id named before.
use Rattle.std.proofs.Common.{◌≡◌, ℕ, suc, ◌+◌, ◌-◌, ◌≤◌, inl, inr, true, Option, List, ◌++◌, Contains, length, length-append, map, ap, ◌∙◌, subst, arith}
use Rattle.std.specs.List.{list_any}
use Rattle.std.specs.Str.{bytes_eq}
use Rattle.std.specs.Cmp.Lexicographic.{nat_list_eq_equiv}
use Rattle.std.proofs.lemmas.Bool.{cases_lt, true_from_ne_false}
use Rattle.std.proofs.lemmas.List.{get_or-map, length-map}
use Rattle.std.proofs.lemmas.List.Elements.{Contains-append_left, Contains-append_right}
use Rattle.std.proofs.lemmas.Map.Views.{list_any-from_Contains}
use Rattle.swc_tree_node.specs.declared.node.Node.{Node}
use Rattle.swc_tree_scoping.specs.BoundNames.{Id}
use Rattle.swc_base_rename_analysis.specs.Named.{Counting, IsFreeText, IsFromStart, IsLeast, IsSpent, Named, Renaming, all_count, outer_count}
use Rattle.swc_base_rename_analysis.specs.Order.{Site}
use Rattle.swc_base_rename_analysis.specs.Preserved.{IsPreserved}
use Rattle.swc_base_rename_naming.specs.Counters.{greatest}
use Rattle.swc_base_rename_naming.proofs.Tries.{tries}
use Rattle.swc_base_rename_naming_laws.specs.Rules.{counting}
use Rattle.swc_base_rename_program.specs.Renamed.{IsPreservedByTop, IsPreservedInUnit}
use Rattle.swc_base_renaming_laws.specs.Tries.{EachTakesFewTries, HasEarlier, HasPreserved, IsCrowded, LeastTakesFewTries, SpentAreCrowded, TellsApart, TriesAreFew, TriesByUnitsAreFew}

contains-map : {X Y : Type 0} (f : X → Y) (xs : List X) (x : X) → Contains xs x → Contains (map f xs) (f x)
contains-map f xs x (k, l, e) = (k, omega (arith, l, length-map xs f), get_or-map f xs k x (f x) l ∙ ap f e)

module _ (t : Node) (r : Renaming) (preserved : List ℕ → Type 0) (counts : Counting) (taken : Id → ℕ) (a : Site) (texts : List (List ℕ)) (ids : List Id) where
  abbrev text_of : Id → List ℕ
  text_of y = r.text y (taken y)

  -- the preserved texts, and those of the ids named before
  abbrev held : List (List ℕ)
  held = texts ++ map text_of ids

  length-held : length held ≡ length texts + length ids
  length-held = omega (arith, length-append texts (map text_of ids), length-map ids text_of)

  -- what is not free is one of them
  held_of : HasPreserved preserved texts → HasEarlier t r a ids → (text : List ℕ) → ¬ IsFreeText t r preserved counts taken a text → list_any (bytes_eq text) held ≡ true
  held_of all_preserved all_earlier text not_free = true_from_ne_false (list_any (bytes_eq text) held) (λ none.
      let apart : Contains held text → ⊥ = λ c. (let found = list_any-from_Contains nat_list_eq_equiv text held c in cc) in
      not_free (record {
        not_preserved = λ p. apart (Contains-append_left texts (map text_of ids) text (all_preserved text p));
        not_held = λ b y earlier counted occurs same. apart (subst (Contains held) same (Contains-append_right texts (map text_of ids) (text_of y) (contains-map text_of ids y (all_earlier b y earlier))));
      }))

  from_later : (m n : ℕ) → m ≤ n → IsFromStart t r taken a m → IsFromStart t r taken a n
  from_later m n later from goes_on b y earlier same = let below = from goes_on b y earlier same in omega (arith, later, below)

  -- of one counter more than are held, all passed over, two had one text
  within : (x : Id) → IsLeast t r preserved counts taken a x → (start : ℕ) → IsFromStart t r taken a start → HasPreserved preserved texts → HasEarlier t r a ids
      → TellsApart r (start + length texts + length ids) → taken x ≤ start + length texts + length ids
  within x least start from all_preserved all_earlier apart = elim (cases_lt (start + length texts + length ids) (taken x)) [
    | inl past ↦
        let bound = tries (r.text x) (λ z. list_any (bytes_eq z) held) start (suc (length texts + length ids)) held
        (λ m n below under same. apart x m n (omega (arith, below)) (omega (arith, under)) same)
        (λ k later below. held_of all_preserved all_earlier (r.text x k) (least.least k (omega (arith, below, past)) (from_later start k later from)))
        (λ z found. found) in
        omega (arith, bound, length-held)
    | inr few ↦ few
  ]

-- the least counter takes few tries
least_few : (t : Node) (r : Renaming) (preserved : List ℕ → Type 0) (counts : Counting) → LeastTakesFewTries t r preserved counts
least_few t r preserved counts taken a x least start texts ids = within t r preserved counts taken a texts ids x least start

pub tries_are_few : TriesAreFew
tries_are_few t r = (least_few t r (IsPreserved t r.preserves) all_count, least_few t r (IsPreserved t r.preserves) (outer_count t))

-- so does each id of a map that is named
pub named_few : (t : Node) (r : Renaming) (preserved : List ℕ → Type 0) (counts : Counting) (new_texts : Id → Option (List ℕ)) (named : Named t r preserved counts new_texts) → EachTakesFewTries t r preserved named.taken
named_few t r preserved counts new_texts named a x h = least_few t r preserved counts named.taken a x (named.each a x h).0

pub tries_by_units_are_few : TriesByUnitsAreFew
tries_by_units_are_few table top r keeps before after renamed = (
  named_few before renamed.kept (IsPreservedByTop top before r.preserves) (counting before r) renamed.new_texts renamed.named,
  λ p u o. (let names = (renamed.units.units p u o).2 in named_few u r (IsPreservedInUnit top before r.preserves u) (counting u r) names.new_texts names.named),
)

-- where the counters are spent, each from the start on has a text that is taken
pub spent_crowded : (t : Node) (r : Renaming) (preserved : List ℕ → Type 0) (counts : Counting) (s : IsSpent t r preserved counts greatest) → IsCrowded t r preserved counts s
spent_crowded t r preserved counts s start texts ids below from all_preserved all_earlier apart =
    let bound = tries (r.text s.id) (λ z. list_any (bytes_eq z) (held t r preserved counts s.taken s.site texts ids)) start (greatest - start) (held t r preserved counts s.taken s.site texts ids)
    (λ m n under over same. apart s.id m n (omega (arith, under, below)) (omega (arith, over, below)) same)
    (λ k later less. held_of t r preserved counts s.taken s.site texts ids all_preserved all_earlier (r.text s.id k) (s.none_free k (omega (arith, less, below)) (from_later t r preserved counts s.taken s.site texts ids start k later from)))
    (λ z found. found) in
    omega (arith, bound, below, length-held t r preserved counts s.taken s.site texts ids)

pub spent_are_crowded : SpentAreCrowded
spent_are_crowded t r = (spent_crowded t r (IsPreserved t r.preserves) all_count, spent_crowded t r (IsPreserved t r.preserves) (outer_count t))
