-- The scope of a node stands round what is below those of its children that stand in it, and round nothing else.
use Rattle.std.proofs.Common.{◌≡◌, ℕ, zero, Bool, Option, Some, None, [], ◌∷◌, ◌++◌, Contains, refl, sym, ap, ◌∙◌, subst, arith, false}
use Rattle.swc_tree_node.specs.declared.node.Node.{Node, out-Node}
use Rattle.swc_tree_scoping.specs.declared.places.Place.{Place}
use Rattle.swc_tree_scoping.specs.Places.{Path, child, given, place_at, place_below, program_place}
use Rattle.swc_base_rename_analysis.specs.declared.scopes.ScopeKind.{ScopeKind}
use Rattle.swc_base_rename_analysis.specs.Analysis.{IsRound, is_for_body, opened_round}
use Rattle.swc_base_rename_analysis.specs.Laws.{is_body_at}
use Rattle.swc_base_rename_analysis.proofs.Kept.{none_there}
use Rattle.swc_base_rename_analysis_laws.proofs.Items.{some_same}
use Rattle.swc_base_rename_analysis_laws.proofs.Paths.{IsAt}
use Rattle.swc_base_rename_analysis_laws.proofs.Rounds.{IsOpened, IsRoundIn, all_steps, step_by_step}

-- round what is below a child of the node at a path
round_at : (h : Path) (j : ℕ) (q : Path) (f : Bool) (v : Place) (t : Node) (w : Place) (n : Node) → IsAt v t h w n → IsOpened (is_body_at f t h) w n j → IsRoundIn f v t h (h ++ (j ∷ q))
round_at [] j q f v t w n e o = subst (λ (z : Place × Node). IsOpened f z.0 z.1 j) (sym (some_same {a = (v, t)} {b = (w, n)} e)) o
round_at (i ∷ h) j q f v t w n e o = at (child t i) refl e o (λ c. round_at h j q (is_for_body (out-Node t) i) (place_below v t i) c w n)
  where
    at : (d : Option Node) → child t i ≡ d → given d None (λ c. place_at (place_below v t i) c h) ≡ Some (w, n) → IsOpened (is_body_at f t (i ∷ h)) w n j
        → ((c : Node) → IsAt (place_below v t i) c h w n → IsOpened (is_body_at (is_for_body (out-Node t) i) c h) w n j → IsRoundIn (is_for_body (out-Node t) i) (place_below v t i) c h (h ++ (j ∷ q)))
        → IsRoundIn f v t (i ∷ h) (i ∷ (h ++ (j ∷ q)))
    at None s e o more = absurd (cc)
    at (Some c) s e o more = (refl, (c, s, more c e (subst (λ b. IsOpened b w n j) (ap (λ d. given d false (λ c. is_body_at (is_for_body (out-Node t) i) c h)) s) o)))

opened_there : (h : Path) (j : ℕ) (q : Path) (f : Bool) (v : Place) (t : Node) (w : Place) (n : Node) → IsAt v t h w n → IsRoundIn f v t h (h ++ (j ∷ q)) → IsOpened (is_body_at f t h) w n j
opened_there [] j q f v t w n e o = subst (λ (z : Place × Node). IsOpened f z.0 z.1 j) (some_same {a = (v, t)} {b = (w, n)} e) o
opened_there (i ∷ h) j q f v t w n e (_, (c, s, r)) = subst (λ b. IsOpened b w n j) (sym (ap (λ d. given d false (λ c. is_body_at (is_for_body (out-Node t) i) c h)) s))
    (opened_there h j q (is_for_body (out-Node t) i) (place_below v t i) c w n (ap (λ d. given d None (λ c. place_at (place_below v t i) c h)) (sym s) ∙ e) r)

-- what a scope stands round begins with its path
goes_on : (s p : Path) (f : Bool) (v : Place) (t : Node) → IsRoundIn f v t s p → (j : ℕ) × (q : Path) × (p ≡ s ++ (j ∷ q))
goes_on s [] f v t h = absurd h
goes_on [] (i ∷ p) f v t h = (i, p, refl)
goes_on (j ∷ s) (i ∷ p) f v t (e, (c, there, h)) =
    let (k, q, same) = goes_on s p (is_for_body (out-Node t) i) (place_below v t i) c h in (k, q, λ a. sym e a ∷ same a)

-- at a whole tree
pub round_inside_of : (t : Node) (h : Path) (w : Place) (n : Node) → IsAt program_place t h w n → (j : ℕ) (s : ScopeKind) → opened_round (is_body_at false t h) w (out-Node n) j ≡ ([], s) ∷ [] → (q : Path) → IsRound t h (h ++ (j ∷ q))
round_inside_of t h w n there j s e q = all_steps (h ++ (j ∷ q)) h false program_place t (round_at h j q false program_place t w n there (s, subst (λ l. Contains l ([], s)) (sym e) (zero, omega arith, refl)))

pub not_round_outside : (t : Node) (h : Path) (w : Place) (n : Node) → IsAt program_place t h w n → (j : ℕ) → opened_round (is_body_at false t h) w (out-Node n) j ≡ [] → (q : Path) → IsRound t h (h ++ (j ∷ q)) → ⊥
not_round_outside t h w n there j e q (k, c) =
    let (s, d) = opened_there h j q false program_place t w n there (step_by_step (h ++ (j ∷ q)) h false program_place t k c) in
    none_there (subst (λ l. Contains l ([], s)) e d)

pub round_goes_on : (t : Node) (s p : Path) → IsRound t s p → (j : ℕ) × (q : Path) × (p ≡ s ++ (j ∷ q))
round_goes_on t s p (k, c) = goes_on s p false program_place t (step_by_step p s false program_place t k c)
