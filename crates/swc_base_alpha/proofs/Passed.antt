-- Two lists that stand side by side, walked from the front until something fails.
use Rattle.std.proofs.Common.{◌≡◌, ◌++◌, Option, Some, None, List, [], ◌∷◌, map, MatchOption, append_assoc, append-nil, refl, sym, ap, ◌∙◌, subst}
use Rattle.std.proofs.lemmas.List.{map-append}
use Rattle.swc_tree_walk.specs.Sites.{site_of}
use Rattle.swc_tree_walk.specs.declared.identifiers.Site.{Site}
use Rattle.swc_base_alpha.specs.Pairs.{StaysOne, pairs}
use Rattle.swc_base_alpha.specs.Shown.{FailsAt, PairsAsk, turned}
use Rattle.swc_base_alpha.specs.declared.verdict.Why.TheVariants as why
use Rattle.swc_base_alpha.specs.Side.{Seen, side}

-- what was passed; a walk that began with that and anything after stands before the latter
pub record Passed (walks : List (Seen × Seen) → List (Seen × Seen) → Type 0) (ps rest : List (Seen × Seen)) : Type 0 where
  pub done : List (Seen × Seen)
  pub is_list : ps ≡ done ++ rest
  pub each : (later : List (Seen × Seen)) → walks (done ++ later) later

pub begun : (walks : List (Seen × Seen) → List (Seen × Seen) → Type 0) (ps : List (Seen × Seen)) → ((later : List (Seen × Seen)) → walks later later) → Passed walks ps ps
begun walks ps h = record { done = []; is_list = refl; each = h }

pub one_more : (walks new : List (Seen × Seen) → List (Seen × Seen) → Type 0) (ps rest left : List (Seen × Seen)) (x y : Seen) → rest ≡ (x, y) ∷ left
    → ((all later : List (Seen × Seen)) → walks all ((x, y) ∷ later) → new all later) → Passed walks ps rest → Passed new ps left
one_more walks new ps rest left x y is goes p = record {
  done = p.done ++ (x, y) ∷ [];
  is_list = p.is_list ∙ ap (λ r. p.done ++ r) is ∙ sym (append_assoc p.done ((x, y) ∷ []) left);
  each = λ later. subst (λ all. new all later) (sym (append_assoc p.done ((x, y) ∷ []) later)) (goes (p.done ++ (x, y) ∷ later) later (p.each ((x, y) ∷ later)));
}

module _ (asks : List (Seen × Seen) → Type 0) (walks : List (Seen × Seen) → List (Seen × Seen) → Type 0) (ends : (all : List (Seen × Seen)) → walks all [] → asks all) where
  holds_before : (ps rest : List (Seen × Seen)) → (p : Passed walks ps rest) → asks p.done
  holds_before ps rest p = subst asks (append-nil p.done) (ends (p.done ++ []) (p.each []))

  pub fails_there : (ps rest left : List (Seen × Seen)) (x y : Seen) → rest ≡ (x, y) ∷ left → ((all later : List (Seen × Seen)) → walks all ((x, y) ∷ later) → ¬ asks all) → Passed walks ps rest
      → FailsAt asks ps x y × ¬ asks ps
  fails_there ps rest left x y is breaks p = (
    record {
      before = p.done;
      after = left;
      is_list = p.is_list ∙ ap (λ r. p.done ++ r) is;
      holds = holds_before ps rest p;
      fails = breaks (p.done ++ (x, y) ∷ []) [] (p.each ((x, y) ∷ []));
    },
    subst (λ all. ¬ asks all) (sym (p.is_list ∙ ap (λ r. p.done ++ r) is)) (breaks (p.done ++ (x, y) ∷ left) left (p.each ((x, y) ∷ left))),
  )

  pub all_passed : (ps rest : List (Seen × Seen)) → rest ≡ [] → Passed walks ps rest → asks ps
  all_passed ps rest is p = subst asks (sym (p.is_list ∙ ap (λ r. p.done ++ r) is)) (ends (p.done ++ []) (p.each []))

-- the other way round
twice_turned : (ps : List (Seen × Seen)) → map turned (map turned ps) ≡ ps
twice_turned [] = refl
twice_turned (p ∷ ps) = ap (λ r. p ∷ r) (twice_turned ps)

pub side_turned : (xs ys : List Seen) → side ys xs ≡ map turned (side xs ys)
side_turned [] [] = refl
side_turned [] (y ∷ ys) = refl
side_turned (x ∷ xs) [] = refl
side_turned (x ∷ xs) (y ∷ ys) = ap (λ r. (y, x) ∷ r) (side_turned xs ys)

pairs_turned : (ones others : List Site) → pairs others ones ≡ map turned (pairs ones others)
pairs_turned ones others = side_turned (map site_of ones) (map site_of others)

pub fails_turned : (asks : List (Seen × Seen) → Type 0) (ps : List (Seen × Seen)) (x y : Seen) → FailsAt asks (map turned ps) x y → FailsAt (λ qs. asks (map turned qs)) ps y x
fails_turned asks ps x y f = record {
  before = map turned f.before;
  after = map turned f.after;
  is_list = sym (twice_turned ps) ∙ ap (map turned) f.is_list ∙ map-append turned f.before ((x, y) ∷ f.after);
  holds = subst asks (sym (twice_turned f.before)) f.holds;
  fails = subst (λ qs. ¬ asks qs) (sym (map-append turned (map turned f.before) ((y, x) ∷ []) ∙ ap (λ r. r ++ (x, y) ∷ []) (twice_turned f.before))) f.fails;
}

abbrev pub Told : List Site → List Site → Option (Site × Site) → Type 0
Told ones others o = MatchOption o (StaysOne (pairs ones others)) (λ f. FailsAt StaysOne (pairs ones others) (site_of f.0) (site_of f.1) × ¬ StaysOne (pairs ones others))

pub joined_there : (ones others : List Site) (o : Option (Site × Site)) (x y : Site) → o ≡ Some (y, x) → Told others ones o → FailsAt (PairsAsk why.Joined) (pairs ones others) (site_of x) (site_of y)
joined_there ones others o x y is told = fails_turned StaysOne (pairs ones others) (site_of y) (site_of x) (subst (λ ps. FailsAt StaysOne ps (site_of y) (site_of x)) (pairs_turned ones others) (subst (Told others ones) is told).0)

pub none_joined : (ones others : List Site) (o : Option (Site × Site)) → o ≡ None → Told others ones o → PairsAsk why.Joined (pairs ones others)
none_joined ones others o is told = subst StaysOne (pairs_turned ones others) (subst (Told others ones) is told)
