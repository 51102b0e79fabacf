-- Conditions in a row, of which the first that fails is told.
use Rattle.std.proofs.Common.{inl, inr, Option, Some, None, List, [], ◌∷◌, ◌++◌, map, ap, subst}
use Rattle.swc_base_early_errors.specs.Errors.{IsFirst}
use Rattle.swc_base_covers.specs.Causes.{AllHold, Decides}

module _ {C : Type 0} (asks : C → Type 0) where
  pub fails : (cs : List C) (c : C) → IsFirst asks cs c → ¬ asks c
  fails [] c h a = h
  fails (v ∷ vs) c (inl (none, is)) a = none (subst asks is a)
  fails (v ∷ vs) c (inr (here, rest)) a = fails vs c rest a

  pub within : (cs ds : List C) (c : C) → IsFirst asks cs c → IsFirst asks (cs ++ ds) c
  within [] ds c h = absurd h
  within (v ∷ vs) ds c (inl h) = inl h
  within (v ∷ vs) ds c (inr (here, rest)) = inr (here, within vs ds c rest)

  pub behind : (cs ds : List C) (o : Option C) → AllHold asks cs → Decides asks ds o → Decides asks (cs ++ ds) o
  behind [] ds o h d = d
  behind (v ∷ vs) ds None (here, rest) d = (here, behind vs ds None rest d)
  behind (v ∷ vs) ds (Some c) (here, rest) d = inr (here, behind vs ds (Some c) rest d)

module _ {E C : Type 0} (asks : E → Type 0) (others : C → Type 0) (f : E → C) (forth : (e : E) → asks e → others (f e)) (back : (e : E) → others (f e) → asks e) where
  pub mapped : (es : List E) (e : E) → IsFirst asks es e → IsFirst others (map f es) (f e)
  mapped [] e h = h
  mapped (v ∷ vs) e (inl (none, is)) = inl (λ a. none (back v a), ap f is)
  mapped (v ∷ vs) e (inr (here, rest)) = inr (forth v here, mapped vs e rest)
