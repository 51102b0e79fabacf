use Rattle.std.proofs.Common.{◌≡◌, ℕ, Bool, List, true, false, not, nat_cmp, IfOk, IfErr, refl, sym, ◌∙◌, subst}
use Rattle.std.specs.BTreeSet.{contains}
use Rattle.std.proofs.lemmas.Result.{IfErr-weaker, IfOk-weaker}
use Rattle.swc_base_rename_analysis.specs.declared.analysis.Analysis.{Analysis}
use Rattle.swc_base_rename_analysis.specs.declared.layout.Region.{Region}
use Rattle.swc_base_rename_analysis_laws.specs.Means.{surrounds as is_surrounding}
use Rattle.swc_base_rename_naming.specs.Inside.{IsInPreorder}
use Rattle.swc_base_rename_naming.specs.InOrder.{IsRefused, NamedInOrder, Rules, Site}
use Rattle.swc_base_rename_naming.specs.Steps.{counts_with, naming, rules, text_at}
use Rattle.swc_base_rename_naming_laws.specs.Rules.{id_in, numbered_sites, occurs_at}
use Rattle.swc_base_rename_program.specs.Asked.{is_preserved_text}
use Rattle.swc_base_rename_program.specs.Behind.{leaks}
use Rattle.swc_base_rename_program.specs.Kept.{is_kept}
use Rattle.swc_base_rename_program.specs.Spans.{spans}
use Rattle.swc_base_rename_program.proofs.Reach.{sites_reach}
use Rattle.swc_base_rename_program.proofs.Counting.{all_named_in_order, all_refused}
use Rattle.swc_base_rename_program.proofs.Ruled.{by_rules}
use Rattle.swc_base_rename_program.proofs.named.texts_by_number.Goals as goal

pub names_by_scope-requires : goal.names_by_scope-requires
names_by_scope-requires g c =
    let same : c.as_slice-sites.result.now ≡ numbered_sites c.args.program.now.analysis.now = c.as_slice-sites.ensures.value ∙ c.in_ok-sites.ensures in
    subst (IsInPreorder (is_surrounding c.args.program.now.analysis.now)) (sym same) c.requires.in_preorder

pub names_with_leaks-requires : goal.names_with_leaks-requires
names_with_leaks-requires g c =
    let same : c.as_slice-sites.result.now ≡ numbered_sites c.args.program.now.analysis.now = c.as_slice-sites.ensures.value ∙ c.in_ok-sites.ensures in
    subst (IsInPreorder (is_surrounding c.args.program.now.analysis.now)) (sym same) c.requires.in_preorder

pub returns-then-mode-clause-named : goal.returns-then-mode-clause-named
returns-then-mode-clause-named g c =
    let p = c.args.program.now in
    let same : c.as_slice-sites.result.now ≡ numbered_sites p.analysis.now = c.as_slice-sites.ensures.value ∙ c.in_ok-sites.ensures in
    by_rules (g.T.NewTexts.text c.args.texts.now) c.args.mode p.analysis.now (is_kept p.kept.now) p.left.now true c.if-mode.true
    (λ r sites. IfOk c.names_by_scope.result (λ found. NamedInOrder r sites (text_at found))) c.as_slice-sites.result.now same c.names_by_scope.ensures.named

pub returns-then-mode-clause-refused : goal.returns-then-mode-clause-refused
returns-then-mode-clause-refused g c =
    let p = c.args.program.now in
    let same : c.as_slice-sites.result.now ≡ numbered_sites p.analysis.now = c.as_slice-sites.ensures.value ∙ c.in_ok-sites.ensures in
    by_rules (g.T.NewTexts.text c.args.texts.now) c.args.mode p.analysis.now (is_kept p.kept.now) p.left.now true c.if-mode.true
    (λ r sites. IfErr c.names_by_scope.result (IsRefused r sites)) c.as_slice-sites.result.now same c.names_by_scope.ensures.refused

-- the scopes that were found are those that leak
module _ (a : Analysis) where
  same_leaks : (regions : List Region) (found : List (ℕ × ℕ)) (sites : List Site) → regions ≡ a.regions.items → found ≡ spans a.ids.items → sites ≡ numbered_sites a
      → (u : ℕ) → leaks regions found sites u ≡ leaks a.regions.items (spans a.ids.items) (numbered_sites a) u
  same_leaks regions found sites e f g u i = leaks (e i) (f i) (g i) u

pub returns-clause-named : goal.returns-clause-named
returns-clause-named g c =
    let p = c.args.program.now in
    let a = p.analysis.now in
    let same : c.as_slice-sites.result.now ≡ numbered_sites a = c.as_slice-sites.ensures.value ∙ c.in_ok-sites.ensures in
    let leaky : ℕ → Bool = contains nat_cmp c.in_ok-leaks.leaks in
    let told : (u : ℕ) → leaky u ≡ leaks a.regions.items (spans a.ids.items) (numbered_sites a) u = λ u. c.in_ok-leaks.ensures u ∙ same_leaks a _ _ _ c.as_slice.ensures.value p.spanned same u in
    let counting : (ℕ → ℕ → Bool) → Rules = λ counts. rules (naming (g.T.NewTexts.text c.args.texts.now) (not c.args.mode.resets) (is_kept p.kept.now) (is_preserved_text a p.left.now) (occurs_at a) counts (id_in a)) in
    let by_leaks = counting (counts_with leaky (is_surrounding a)) in
    let named = subst (λ sites. IfOk c.names_with_leaks.result (λ found. NamedInOrder by_leaks sites (text_at found))) same c.names_with_leaks.ensures.named in
    by_rules (g.T.NewTexts.text c.args.texts.now) c.args.mode a (is_kept p.kept.now) p.left.now false c.if-mode.false
    (λ r sites. IfOk c.names_with_leaks.result (λ found. NamedInOrder r sites (text_at found))) (numbered_sites a) refl
    (IfOk-weaker c.names_with_leaks.result _ _ (λ found. all_named_in_order by_leaks (numbered_sites a) (text_at found) (sites_reach a c.requires leaky told)) named)

pub returns-clause-refused : goal.returns-clause-refused
returns-clause-refused g c =
    let p = c.args.program.now in
    let a = p.analysis.now in
    let same : c.as_slice-sites.result.now ≡ numbered_sites a = c.as_slice-sites.ensures.value ∙ c.in_ok-sites.ensures in
    let leaky : ℕ → Bool = contains nat_cmp c.in_ok-leaks.leaks in
    let told : (u : ℕ) → leaky u ≡ leaks a.regions.items (spans a.ids.items) (numbered_sites a) u = λ u. c.in_ok-leaks.ensures u ∙ same_leaks a _ _ _ c.as_slice.ensures.value p.spanned same u in
    let counting : (ℕ → ℕ → Bool) → Rules = λ counts. rules (naming (g.T.NewTexts.text c.args.texts.now) (not c.args.mode.resets) (is_kept p.kept.now) (is_preserved_text a p.left.now) (occurs_at a) counts (id_in a)) in
    let by_leaks = counting (counts_with leaky (is_surrounding a)) in
    let refused = subst (λ sites. IfErr c.names_with_leaks.result (IsRefused by_leaks sites)) same c.names_with_leaks.ensures.refused in
    by_rules (g.T.NewTexts.text c.args.texts.now) c.args.mode a (is_kept p.kept.now) p.left.now false c.if-mode.false
    (λ r sites. IfErr c.names_with_leaks.result (IsRefused r sites)) (numbered_sites a) refl
    (IfErr-weaker c.names_with_leaks.result _ _ (all_refused by_leaks (numbered_sites a) (sites_reach a c.requires leaky told)) refused)
