-- Where the texts of a well-scoped tree are apart where ids meet, hygiene gives each id its own.
use Rattle.std.proofs.Common.{◌≡◌, ℕ, zero, suc, ◌<◌, Bool, true, false, ◌||◌, ◌⊎◌, inl, inr, ⊎_elim, IsTrue, Option, Some, None, List, refl, sym, ap, ◌∙◌, subst, arith}
use Rattle.swc_tree_node.specs.declared.slot.Slot.{Slot}
use Rattle.swc_tree_node.specs.declared.node.Node.{Node}
use Rattle.swc_tree_node.specs.Fits.{Fits}
use Rattle.swc_tree_scoping.specs.declared.places.Standing.{Standing}
use Rattle.swc_tree_scoping.specs.Places.{Path}
use Rattle.swc_tree_scoping.specs.Scopes.{is_binding, is_name, is_reference}
use Rattle.swc_tree_scoping.specs.BoundNames.{Id}
use Rattle.swc_tree_scoping.specs.WellScoped.{WellScoped}
use Rattle.swc_base_rename_analysis.specs.Analysis.{Declares, IsAtOrAbove, IsRound, OccursIn}
use Rattle.swc_base_rename_analysis.specs.Named.{IsEarlier, IsFreeText, IsNamedAt, all_count}
use Rattle.swc_base_rename_analysis.specs.Order.{IsBefore, Site}
use Rattle.swc_base_rename_analysis.specs.Preserved.{IsLoose, IsPreserved}
use Rattle.swc_base_rename_analysis.proofs.InOrder.{by_earlier}
use Rattle.swc_base_rename_analysis_laws.proofs.Rounds.{round_through, taken_is_round}
use Rattle.swc_base_rename_scoped_laws.proofs.Chained.{CountsOutside, counts_outside}
use Rattle.swc_base_rename_naming.specs.Texts.{numbered}
use Rattle.swc_base_rename_program.specs.Renamed.{hygiene_renaming}
use Rattle.swc_base_renaming_laws.specs.Settled.{HygieneKeepsApart, IsHygieneMap, ApartWhereMet, own_text}

some_text : {x y : List ℕ} → Some x ≡ Some y → x ≡ y
some_text e = cc

binding_named : (r : Standing) → IsTrue (is_binding r) → IsTrue (is_name r)
binding_named r h = by (is_binding r) refl
  where
    by : (b : Bool) → is_binding r ≡ b → IsTrue (is_name r)
    by true e = ap (λ b. b || is_reference r) e
    by false e = let z : true ≡ false = sym h ∙ e in absurd (cc)

module _ (t : Node) (outside : CountsOutside t) (apart : ApartWhereMet t own_text) (new_texts : Id → Option (List ℕ)) (named : IsHygieneMap t new_texts) where
  -- each id takes counter 0, that of its own text
  abbrev TakesNone : Site → Type 0
  TakesNone a = (x : Id) → IsNamedAt t hygiene_renaming a x → named.taken x ≡ 0

  module _ (a : Site) (before : (b : Site) → IsBefore t b a → TakesNone b) (x : Id) (n : IsNamedAt t hygiene_renaming a x) where
    not_preserved : IsPreserved t hygiene_renaming.preserves x.0 → ⊥
    not_preserved (y, e, inl loose) = apart.loose a.0 a.1 x y n.declared loose (sym e)
    not_preserved (y, e, inr p) = absurd (cc)

    -- what is declared at a scope occurs at the scopes round it
    occurs_further : {u : Path} → IsAtOrAbove t u a.0 → OccursIn t u x
    occurs_further {u} above = record {
      path = a.1;
      standing = n.declared.standing;
      stands = n.declared.stands;
      names = binding_named n.declared.standing n.declared.binds;
      analysed = n.declared.analysed;
      inside = inl (⊎_elim (λ (same : u ≡ a.0). subst (λ u. IsRound t u a.1) (sym same) there) (λ (h : IsRound t u a.0). round_through t u a.0 a.1 h there) above);
    }
      where
        there : IsRound t a.0 a.1
        there = taken_is_round t n.declared.standing a.0 a.1 n.declared.taken

    not_held : (b : Site) (y : Id) → IsEarlier t hygiene_renaming a b y → OccursIn t a.0 y → numbered y.0 (named.taken y) ≡ x.0 → ⊥
    not_held b y e o same =
        let none : named.taken y ≡ 0 = before b e.before y e.named in
        let text : x.0 ≡ y.0 = sym same ∙ ap (numbered y.0) none in
        let one : x ≡ y = apart.declared a.0 a.1 b.0 b.1 x y n.declared e.named.declared o (occurs_further (outside a b y e.named.declared o e.before)) text in
        n.first b (subst (Declares t b.0 b.1) (sym one) e.named.declared) e.before

    free : IsFreeText t hygiene_renaming (IsPreserved t hygiene_renaming.preserves) all_count named.taken a x.0
    free = record { not_preserved = not_preserved; not_held = λ b y e c o same. not_held b y e o same }

    takes_none : named.taken x ≡ 0
    takes_none = by (named.taken x) refl
      where
        by : (k : ℕ) → named.taken x ≡ k → named.taken x ≡ 0
        by zero e = e
        by (suc k) e = absurd ((named.each a x n).0.least 0 (omega (arith, e)) (λ on. absurd (cc)) free)

  each_takes_none : (a : Site) → TakesNone a
  each_takes_none = by_earlier t TakesNone (λ a before x n. takes_none a before x n)

  keeps : (x : Id) (text : List ℕ) → new_texts x ≡ Some text → text ≡ x.0
  keeps x text e =
      let (a, n) = named.no_other x text e in
      some_text (sym e ∙ (named.each a x n).1) ∙ ap (numbered x.0) (each_takes_none a x n)

pub hygiene_keeps_apart : HygieneKeepsApart
hygiene_keeps_apart t s new_texts fit scoped apart named x text e = keeps t (counts_outside t s fit scoped) apart new_texts named x text e
