-- One name more in a scope.
use Rattle.std.proofs.Common.{◌≡◌, ℕ, Bool, true, false, Option, Some, List, refl, ap, ◌∙◌, cond}
use Rattle.std.specs.Option.{unwrap_or}
use Rattle.std.specs.Str.{bytes_eq}
use Rattle.swc_base_resolver_program.specs.declared.names.Ways.{Ways}
use Rattle.swc_base_resolver_program.specs.Names.{no_ways}

pub inserted : (name key x : List ℕ) (old new : Option Ways) (ways more : Ways) → key ≡ name → ways ≡ more → new ≡ cond (bytes_eq key x) (Some ways) old → unwrap_or new no_ways ≡ cond (bytes_eq name x) more (unwrap_or old no_ways)
inserted name key x old new ways more k e h =
    ap (λ o. unwrap_or o no_ways) (h ∙ ap (λ k. cond (bytes_eq k x) (Some ways) old) k ∙ ap (λ w. cond (bytes_eq name x) (Some w) old) e) ∙ picked (bytes_eq name x)
  where
    picked : (b : Bool) → unwrap_or (cond b (Some more) old) no_ways ≡ cond b more (unwrap_or old no_ways)
    picked true = refl
    picked false = refl
