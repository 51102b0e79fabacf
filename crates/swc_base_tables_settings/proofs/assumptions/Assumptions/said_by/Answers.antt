use Rattle.std.proofs.Common.{◌≡◌, List, ◌∷◌, refl, ap, ◌∙◌}
use Rattle.swc_base_tables_settings.specs.Assumptions.{keys}
use Rattle.swc_base_tables_settings.proofs.assumptions.Assumptions.said_by.Goals as goal

and_then : {X : Type 0} {x y : X} {xs ys : List X} → x ≡ y → xs ≡ ys → (x ∷ xs) ≡ (y ∷ ys)
and_then {X} {x} {y} {xs} {ys} first rest = ap (λ z. z ∷ xs) first ∙ ap (λ zs. y ∷ zs) rest

pub returns : goal.returns
unfolding keys
returns c =
    and_then c.flag_of.ensures (
    and_then c.flag_of-2.ensures (
    and_then c.flag_of-3.ensures (
    and_then c.flag_of-4.ensures (
    and_then c.flag_of-5.ensures (
    and_then c.flag_of-6.ensures (
    and_then c.flag_of-7.ensures (
    and_then c.flag_of-8.ensures (
    and_then c.flag_of-9.ensures (
    and_then c.flag_of-10.ensures (
    and_then c.flag_of-11.ensures (
    and_then c.flag_of-12.ensures (
    and_then c.flag_of-13.ensures (
    and_then c.flag_of-14.ensures (
    and_then c.flag_of-15.ensures (
    and_then c.flag_of-16.ensures (
    and_then c.flag_of-17.ensures (
    and_then c.flag_of-18.ensures (
    and_then c.flag_of-19.ensures (
    and_then c.flag_of-20.ensures (
    and_then c.flag_of-21.ensures (
    and_then c.flag_of-22.ensures (
    and_then c.flag_of-23.ensures (
    refl)))))))))))))))))))))))
