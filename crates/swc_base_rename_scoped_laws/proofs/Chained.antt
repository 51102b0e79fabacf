-- On well-scoped trees the names that count at a scope are those of the scope and of the scopes round it.
use Rattle.std.proofs.Common.{◌≡◌, ◌↔◌, ℕ, Bool, false, IsTrue, ◌⊎◌, inl, inr, ⊎_elim, Option, Some, List, ◌++◌, Contains, refl, sym, ap, ◌∙◌, subst}
use Rattle.swc_tree_marks.specs.declared.ident.Ident.{Ident}
use Rattle.swc_tree_node.specs.declared.kind.Kind.TheVariants as kind
use Rattle.swc_tree_node.specs.declared.slot.Slot.{Slot}
use Rattle.swc_tree_node.specs.declared.fields.statements.fn_decl.TheConstants as fn_decl
use Rattle.swc_tree_node.specs.declared.node.Node.{Node, Identifier, out-Node}
use Rattle.swc_tree_node.specs.declared.node.Node.TheOpen.{Node-F}
use Rattle.swc_tree_node.specs.Fits.{Fits}
use Rattle.swc_tree_scoping.specs.declared.places.Standing.TheVariants as standing
use Rattle.swc_tree_scoping.specs.declared.places.Place.{Place}
use Rattle.swc_tree_scoping.specs.Places.{Path, program_place}
use Rattle.swc_tree_scoping.specs.Scopes.{taker}
use Rattle.swc_tree_scoping.specs.BoundNames.{Id}
use Rattle.swc_tree_scoping.specs.WellScoped.{WellScoped}
use Rattle.swc_base_rename_analysis.specs.Analysis.{Declares, IsAtOrAbove, IsOwnName, IsRound, OccursIn, first_taking, opened_round, scopes_round, uses_own_name}
use Rattle.swc_base_rename_analysis.specs.Laws.{is_body_at}
use Rattle.swc_base_rename_analysis.specs.Named.{IsFreeText, IsLeast, Named, Renaming, all_count, outer_count}
use Rattle.swc_base_rename_analysis.specs.Order.{IsBefore, Site}
use Rattle.swc_base_rename_analysis_laws.proofs.Paths.{opened_at, scopes_step}
use Rattle.swc_base_rename_analysis_laws.proofs.Rounds.{one_round_other, round_before, taken_is_round}
use Rattle.swc_base_rename_scoped_laws.proofs.Around.{IsSeen, surrounds}
use Rattle.swc_base_rename_scoped_laws.proofs.ByIds.{IsAt, from_id, id_of, one_name}
use Rattle.swc_base_rename_scoped_laws.proofs.Homes.{IsReached, IsSeenByAll, reached_home, taken_seen}
use Rattle.swc_base_rename_scoped_laws.proofs.Bodies.{body_comes_last, not_before}
use Rattle.swc_base_rename_scoped_laws.proofs.Takers.{IsHeld, takers_held}
use Rattle.swc_base_rename_scoped_laws.proofs.Reached.{as_variable, reaches_held, sloppy_so}

-- a name and the function that uses it stand in the same scopes
opened_alike : (f : Bool) (w : Place) (y : Node-F Node) (i j : ℕ) → IsTrue (uses_own_name y) → opened_round f w y i ≡ opened_round f w y j
opened_alike f w (Node-F.Tree kind.FnDecl ts) i j h = refl
opened_alike f w (Node-F.Tree kind.FnExpr ts) i j h = refl
opened_alike f w y i j h = absurd (cc)

own_alike : (t : Node) (s p : Path) → IsOwnName t s p → scopes_round t p ≡ scopes_round t s
own_alike t s p (q, w, f, at_p, at_s, there, uses) =
    ap (scopes_round t) at_p
    ∙ scopes_step q fn_decl.IDENT false program_place t w f there
    ∙ ap (λ l. opened_at q l ++ scopes_round t q) (opened_alike (is_body_at false t q) w (out-Node f) fn_decl.IDENT fn_decl.FUNCTION uses)
    ∙ sym (scopes_step q fn_decl.FUNCTION false program_place t w f there)
    ∙ ap (scopes_round t) (sym at_s)

no_variable : {A : Type 0} → standing.Variable ≡ standing.Lexical → A
no_variable e = absurd (cc)

-- of a tree: what occurs at a scope, and got its name earlier, got it there or further out
abbrev pub CountsOutside : Node → Type 0
CountsOutside t = (a b : Site) (y : Id) → Declares t b.0 b.1 y → OccursIn t a.0 y → IsBefore t b a → IsAtOrAbove t b.0 a.0

module _ (t : Node) (s : Slot) (fit : Fits t s) (scoped : WellScoped t) where
  -- what occurs at a scope, and got its name earlier, got it there or further out
  module _ (a b : Site) (y : Id) (d : Declares t b.0 b.1 y) (o : OccursIn t a.0 y) (before : IsBefore t b a) where
    by_round : IsRound t b.0 o.path → IsAtOrAbove t b.0 a.0
    by_round h = ⊎_elim around (λ (own : IsOwnName t a.0 o.path). inr (h.0, subst (λ l. Contains l (b.0, h.0)) (own_alike t a.0 o.path own) h.1)) o.inside
      where
        around : IsRound t a.0 o.path → IsAtOrAbove t b.0 a.0
        around g = ⊎_elim (λ (e : b.0 ≡ a.0). inl e) (λ (n : IsRound t b.0 a.0 ⊎ IsRound t a.0 b.0). ⊎_elim (λ (r : IsRound t b.0 a.0). inr r) (λ (r : IsRound t a.0 b.0). absurd (not_before t a b (round_before t a.0 b.0 r) before)) n)
            (one_round_other t b.0 a.0 o.path h g)

    pub counts : IsAtOrAbove t b.0 a.0
    counts = by (from_id t b.1 d.standing y d.stands) (from_id t o.path o.standing y o.stands)
      where
        by : (i : Ident) × IsAt t b.1 d.standing i × (id_of i ≡ y) → (j : Ident) × IsAt t o.path o.standing j × (id_of j ≡ y) → IsAtOrAbove t b.0 a.0
        by (i, at_i, name_i) (j, at_j, name_j) = from_home (reached_home t scoped b.1 d.standing i at_i d.binds)
          where
            from_home : (u : Path) × IsReached t d.standing b.1 u × IsSeenByAll t u i → IsAtOrAbove t b.0 a.0
            from_home (v, reach, sees) = ⊎_elim by_taker by_reach reach
              where
                there : IsSeen t v o.path
                there = sees o.path o.standing j (one_name j i (name_j ∙ sym name_i)) at_j o.names

                inner : (rest : Path) → v ≡ b.0 ++ rest → IsSeen t v b.1 → IsAtOrAbove t b.0 a.0
                inner rest e from = by_round (surrounds t b.0 rest b.1 o.path (taken_is_round t d.standing b.0 b.1 d.taken) (subst (λ v. IsSeen t v b.1) e from) (subst (λ v. IsSeen t v o.path) e there))

                by_taker : taker d.standing t b.1 ≡ Some v → IsAtOrAbove t b.0 a.0
                by_taker taken = at (subst (λ y. IsHeld t false d.standing (Some v) y) d.taken (subst (λ x. IsHeld t false d.standing x (first_taking d.standing (scopes_round t b.1))) taken (takers_held b.1 false program_place t s (d.standing, i) at_i.place at_i.kind fit (λ e. absurd (cc)) at_i.stands at_i.stands_so d.binds)))
                  where
                    at : IsHeld t false d.standing (Some v) (Some b.0) → IsAtOrAbove t b.0 a.0
                    at (inl (rest, e)) = inner rest e (taken_seen t d.standing b.1 v taken)
                    at (inr body) = body_comes_last t s fit v d.standing a b o.path o.standing j at_j body (taken_is_round t d.standing b.0 b.1 d.taken) there o.inside before

                by_reach : (d.standing ≡ standing.SloppyFunction) × (taker standing.Variable t b.1 ≡ Some v) → IsAtOrAbove t b.0 a.0
                by_reach (is, taken) = at (subst (λ y. IsHeld t false standing.Variable (Some v) y) found (subst (λ x. IsHeld t false standing.Variable x (first_taking standing.Variable (scopes_round t b.1))) taken held))
                  where
                    held : IsHeld t false standing.Variable (taker standing.Variable t b.1) (first_taking standing.Variable (scopes_round t b.1))
                    held = reaches_held b.1 false program_place t s fit (λ e. absurd (cc)) (record { place = at_i.place; node = Identifier at_i.kind i; stands = at_i.stands; stands_so = sloppy_so at_i.place.standing (at_i.stands_so ∙ is) })

                    found : first_taking standing.Variable (scopes_round t b.1) ≡ Some b.0
                    found = sym (as_variable (scopes_round t b.1)) ∙ subst (λ r. first_taking r (scopes_round t b.1) ≡ Some b.0) is d.taken

                    at : IsHeld t false standing.Variable (Some v) (Some b.0) → IsAtOrAbove t b.0 a.0
                    at (inl (rest, e)) = inner rest e (taken_seen t standing.Variable b.1 v taken)
                    at (inr (n, at_body, body, l)) = no_variable l

pub counts_outside : (t : Node) (s : Slot) → Fits t s → WellScoped t → CountsOutside t
counts_outside t s fit scoped a b y d o before = counts t s fit scoped a b y d o before

-- where it is so, it is one whether all names count
module _ (t : Node) (outside : CountsOutside t) (r : Renaming) (preserved : List ℕ → Type 0) where
  to_outer : (taken : Id → ℕ) (a : Site) (text : List ℕ) → IsFreeText t r preserved all_count taken a text → IsFreeText t r preserved (outer_count t) taken a text
  to_outer taken a text f = record { not_preserved = f.not_preserved; not_held = λ b y e c o. f.not_held b y e tt o }

  from_outer : (taken : Id → ℕ) (a : Site) (text : List ℕ) → IsFreeText t r preserved (outer_count t) taken a text → IsFreeText t r preserved all_count taken a text
  from_outer taken a text f = record { not_preserved = f.not_preserved; not_held = λ b y e c o. f.not_held b y e (outside a b y e.named.declared o e.before) o }

  least_outer : (taken : Id → ℕ) (a : Site) (x : Id) → IsLeast t r preserved all_count taken a x → IsLeast t r preserved (outer_count t) taken a x
  least_outer taken a x l = record { within = l.within; from_start = l.from_start; free = to_outer taken a (r.text x (taken x)) l.free; least = λ n less start free. l.least n less start (from_outer taken a (r.text x n) free) }

  least_all : (taken : Id → ℕ) (a : Site) (x : Id) → IsLeast t r preserved (outer_count t) taken a x → IsLeast t r preserved all_count taken a x
  least_all taken a x l = record { within = l.within; from_start = l.from_start; free = from_outer taken a (r.text x (taken x)) l.free; least = λ n less start free. l.least n less start (to_outer taken a (r.text x n) free) }

  pub flat_where_outside : (new_texts : Id → Option (List ℕ)) → Named t r preserved all_count new_texts ↔ Named t r preserved (outer_count t) new_texts
  flat_where_outside new_texts = (
    λ m. record { taken = m.taken; each = λ a x n. (least_outer m.taken a x (m.each a x n).0, (m.each a x n).1); no_other = m.no_other },
    λ m. record { taken = m.taken; each = λ a x n. (least_all m.taken a x (m.each a x n).0, (m.each a x n).1); no_other = m.no_other },
  )

pub chained_is_flat : (t : Node) (s : Slot) → Fits t s → WellScoped t → (r : Renaming) (preserved : List ℕ → Type 0) (new_texts : Id → Option (List ℕ)) → Named t r preserved all_count new_texts ↔ Named t r preserved (outer_count t) new_texts
chained_is_flat t s fit scoped r preserved new_texts = flat_where_outside t (counts_outside t s fit scoped) r preserved new_texts
