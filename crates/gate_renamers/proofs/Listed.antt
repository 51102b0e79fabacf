-- One id more of a list.
use Rattle.std.proofs.Common.{◌≡◌, ℕ, ◌+◌, ◌<◌, Bool, true, false, ◌||◌, List, length, take, get_or, cond, refl, sym, ap, ◌∙◌}
use Rattle.std.specs.List.{list_any}
use Rattle.std.proofs.lemmas.List.Folds.{list_any_more}
use Rattle.swc_base_rename_substitution.specs.Names.{Id}

either : (a b : Bool) → cond a true b ≡ (b || a)
either true true = refl
either true false = refl
either false true = refl
either false false = refl

pub any_next : (f : Id → Bool) (ids : List Id) (i : ℕ) (id : Id) (was is : Bool) → i < length ids → id ≡ get_or ids i id → was ≡ list_any f (take i ids) → is ≡ cond (f id) true was → is ≡ list_any f (take (i + 1) ids)
any_next f ids i id was is within here before now =
    now ∙ ap (cond (f id) true) before ∙ either (f id) (list_any f (take i ids)) ∙ ap (λ y. list_any f (take i ids) || f y) here ∙ sym (list_any_more f ids i id within)
