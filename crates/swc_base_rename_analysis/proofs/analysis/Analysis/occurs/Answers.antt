use Rattle.std.proofs.Common.{◌↔◌, IsTrue, arith, slice_get, length, refl, sym, ap, ◌∙◌, subst}
use Rattle.std.proofs.lemmas.Bool.{ltb-false}
use Rattle.std.proofs.lemmas.Option.{slice_get_read, slice_get_within}
use Rattle.swc_base_rename_analysis.specs.Between.{AreAscending, OneBetween}
use Rattle.swc_base_rename_analysis.proofs.Betweens.{between_known}
use Rattle.swc_base_rename_analysis.proofs.analysis.Analysis.occurs.Goals as goal

pub one_between-requires : goal.one_between-requires
one_between-requires c =
    let there = slice_get_read c.deref-2.result.now _ c.args.id c.in-Some-Some.entry.now refl c.in-Some-Some.ensures'.lookup.3.0 c.in-Some-Some.ensures'.lookup.1 in
    subst AreAscending (sym c.as_slice.ensures.value) (c.requires c.args.id c.in-Some-Some.entry.now (ap (λ l. slice_get l c.args.id) (sym c.deref-2.ensures.value) ∙ there))

pub returns-in-Some-Some : goal.returns-in-Some-Some
returns-in-Some-Some c =
    let there = slice_get_read c.deref-2.result.now _ c.args.id c.in-Some-Some.entry.now refl c.in-Some-Some.ensures'.lookup.3.0 c.in-Some-Some.ensures'.lookup.1 in
    let region = slice_get_read c.deref.result.now _ c.args.scope c.in-Some-Some.region.now refl c.in-Some-Some.ensures.lookup.3.0 c.in-Some-Some.ensures.lookup.1 in
    between_known c.args.self.now c.args.scope c.args.id c.in-Some-Some.region.now c.in-Some-Some.entry.now
    (ap (λ l. slice_get l c.args.scope) (sym c.deref.ensures.value) ∙ region) (ap (λ l. slice_get l c.args.id) (sym c.deref-2.ensures.value) ∙ there)
    _ (subst (λ l. IsTrue c.one_between.result ↔ OneBetween l c.in-Some-Some.region.now.start c.in-Some-Some.region.now.end) c.as_slice.ensures.value c.one_between.ensures)

-- no entry of that number
pub returns-in_default : goal.returns-in_default
returns-in_default c =
    let past = ltb-false _ _ (sym c.in_default.ensures'.lookup.0) in
    let same = ap length c.deref-2.ensures.value in
    (λ h. absurd (cc), λ o. (let within = slice_get_within c.args.self.now.ids.items c.args.id o.1 o.3 in absurd (omega (arith, within, past, same))))

-- no scope of that number
pub returns-in_default-2 : goal.returns-in_default-2
returns-in_default-2 c =
    let past = ltb-false _ _ (sym c.in_default.ensures.lookup.0) in
    let same = ap length c.deref.ensures.value in
    (λ h. absurd (cc), λ o. (let within = slice_get_within c.args.self.now.regions.items c.args.scope o.0 o.2 in absurd (omega (arith, within, past, same))))
