-- A tree, a renamer, preserved texts and whose names count leave one map: by the order of sites each id has one counter.
use Rattle.std.proofs.Common.{◌≡◌, ℕ, ◌<◌, Option, Some, None, List, refl, sym, ap, ◌∙◌, subst}
use Rattle.std.specs.Ordering.{MatchOrdering, nat_cmp}
use Rattle.std.specs.declared.cmp.Ordering.{Ordering}
use Rattle.std.specs.declared.cmp.Ordering.TheVariants.{Less, Equal, Greater}
use Rattle.std.specs.Cmp.{ranks}
use Rattle.swc_tree_node.specs.declared.node.Node.{Node}
use Rattle.swc_tree_scoping.specs.BoundNames.{Id}
use Rattle.swc_base_rename_analysis.specs.Laws.{FixesTheMap, NamedFixesTheMap}
use Rattle.swc_base_rename_analysis.specs.Named.{Counting, IsEarlier, IsFreeText, IsFromStart, IsLeast, IsNamedAt, Named, Renaming, all_count, outer_count}
use Rattle.swc_base_rename_analysis.specs.Preserved.{IsPreserved}
use Rattle.swc_base_rename_analysis.specs.Order.{Site}
use Rattle.swc_base_rename_analysis.proofs.InOrder.{by_earlier}

module _ (t : Node) (r : Renaming) (preserved : List ℕ → Type 0) (counts : Counting) where
  -- ids before a site took the same counters
  abbrev Agree : (Id → ℕ) → (Id → ℕ) → Site → Type 0
  Agree one other a = (b : Site) (y : Id) → IsEarlier t r a b y → one y ≡ other y

  module _ (one other : Id → ℕ) (a : Site) (agree : Agree one other a) where
    pub same_start : (n : ℕ) → IsFromStart t r one a n → IsFromStart t r other a n
    same_start n h on b y e s = subst (λ k. k < n) (agree b y e) (h on b y e s)

    pub same_free : (text : List ℕ) → IsFreeText t r preserved counts one a text → IsFreeText t r preserved counts other a text
    same_free text f = record { not_preserved = f.not_preserved; not_held = λ b y e c o same. f.not_held b y e c o (ap (r.text y) (agree b y e) ∙ same) }

    not_less : (x : Id) → IsLeast t r preserved counts one a x → IsLeast t r preserved counts other a x → one x < other x → ⊥
    not_less x h g l = g.least (one x) l (same_start (one x) h.from_start) (same_free (r.text x (one x)) h.free)

  back : (one other : Id → ℕ) (a : Site) → Agree one other a → Agree other one a
  back one other a agree b y e = sym (agree b y e)

  pub same_counter : (one other : Id → ℕ) (a : Site) (x : Id) → Agree one other a → IsLeast t r preserved counts one a x → IsLeast t r preserved counts other a x → one x ≡ other x
  same_counter one other a x agree h g = by (nat_cmp (one x) (other x)) (ranks (one x) (other x))
    where
      by : (o : Ordering) → MatchOrdering o (one x < other x) (one x ≡ other x) (other x < one x) → one x ≡ other x
      by Less l = absurd (not_less one other a agree x h g l)
      by Equal e = e
      by Greater l = absurd (not_less other one a (back one other a agree) x g h l)

  module _ (m n : Id → Option (List ℕ)) (one : Named t r preserved counts m) (other : Named t r preserved counts n) where
    same_taken : (a : Site) (x : Id) → IsNamedAt t r a x → one.taken x ≡ other.taken x
    same_taken = by_earlier t (λ a. (x : Id) → IsNamedAt t r a x → one.taken x ≡ other.taken x)
        (λ a before x h. same_counter one.taken other.taken a x (λ b y e. before b e.before y e.named) (one.each a x h).0 (other.each a x h).0)

    same_text : (x : Id) (a : Site) → IsNamedAt t r a x → m x ≡ n x
    same_text x a h = (one.each a x h).1 ∙ ap (λ k. Some (r.text x k)) (same_taken a x h) ∙ sym (other.each a x h).1

    same_map : (x : Id) → m x ≡ n x
    same_map x = by (m x) refl (n x) refl
      where
        by : (o : Option (List ℕ)) → m x ≡ o → (u : Option (List ℕ)) → n x ≡ u → m x ≡ n x
        by (Some text) e u f = let (a, h) = one.no_other x text e in same_text x a h
        by None e (Some text) f = let (a, h) = other.no_other x text f in same_text x a h
        by None e None f = e ∙ sym f

pub one_map : (t : Node) (r : Renaming) (preserved : List ℕ → Type 0) (counts : Counting) → FixesTheMap t r preserved counts
one_map t r preserved counts m n = same_map t r preserved counts m n

pub named_fixes_the_map : NamedFixesTheMap
named_fixes_the_map t r = (one_map t r (IsPreserved t r.preserves) all_count, one_map t r (IsPreserved t r.preserves) (outer_count t))
