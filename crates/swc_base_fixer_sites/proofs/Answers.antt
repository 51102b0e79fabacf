-- The fixer's answer, stripped, has all names of the answer.
use Rattle.std.proofs.Common.{◌≡◌, IsTrue, List, refl, sym, ap, ◌∙◌}
use Rattle.swc_tree_node.specs.declared.kind.Kind.{Kind}
use Rattle.swc_tree_node.specs.declared.kind.Kind.TheVariants as kind
use Rattle.swc_tree_node.specs.declared.kind.Class.TheVariants as class
use Rattle.swc_tree_node.specs.declared.node.Node.{Node, Tree}
use Rattle.swc_tree_node.specs.Table.{is_identifier}
use Rattle.swc_tree_node.specs.Fits.{Fits, belongs}
use Rattle.swc_tree_node.proofs.Fit.{both as both_are, fits-Absent, fits-Flag, fits-Word, fits-Text, fits-Span, fits-List, fits-Identifier, tree_opens}
use Rattle.swc_tree_scoping.specs.Places.{program_place}
use Rattle.swc_tree_scoping.specs.WellScoped.{is_module}
use Rattle.swc_tree_grammar.specs.Blocks.{with_blocks}
use Rattle.swc_tree_grammar.specs.Due.{with_due_pairs}
use Rattle.swc_tree_grammar.specs.Fixed.{fixed}
use Rattle.swc_tree_grammar.specs.Stripped.{stripped}
use Rattle.swc_tree_grammar.proofs.Induction.{by_children}
use Rattle.swc_tree_grammar.proofs.Kept.{stripped_fits}
use Rattle.swc_tree_grammar.proofs.Places.{one}
use Rattle.swc_tree_sites.proofs.Kept.{S}
use Rattle.swc_base_fixer_laws.specs.Named.{named}
use Rattle.swc_base_fixer_laws.proofs.AgainNormal.{stripped_fixed}
use Rattle.swc_base_fixer_laws.proofs.AgainStill.{fits_well}
use Rattle.swc_base_fixer_laws.proofs.AgainTwice.{due_named}
use Rattle.swc_base_fixer_laws.proofs.Answer.{answer_fits_table, due_set}
use Rattle.swc_base_fixer_laws.proofs.Fixed.{fixed_fits, targets_stand_bare}
use Rattle.swc_base_fixer_sites.specs.Laws.{DuePairsKeepNames, StrippingAnswersLosesNone}
use Rattle.swc_base_fixer_sites.proofs.Pairs.{module_is, top_keeps}

-- what stands where a module does is one
pub fits_module : (t : Node) → Fits t (one class.Module) → IsTrue (is_module t)
fits_module t = by_children (λ t. Fits t (one class.Module) → IsTrue (is_module t)) (
  λ f. absurd (cc (sym (fits-Absent (one class.Module)) ∙ f)),
  λ x f. absurd (cc (sym (fits-Flag x (one class.Module)) ∙ f)),
  λ v f. absurd (cc (sym (fits-Word v (one class.Module)) ∙ f)),
  λ x f. absurd (cc (sym (fits-Text x (one class.Module)) ∙ f)),
  λ r f. absurd (cc (sym (fits-Span r (one class.Module)) ∙ f)),
  λ k i f. absurd (no_name k (both_are (is_identifier k) (belongs k class.Module) (sym (fits-Identifier k i (one class.Module)) ∙ f)).0 (both_are (is_identifier k) (belongs k class.Module) (sym (fits-Identifier k i (one class.Module)) ∙ f)).1),
)
    (λ ts h f. absurd (cc (sym (fits-List ts (one class.Module)) ∙ f)))
    (λ k ts h f. at k ts (tree_opens k ts class.Module f).1) t
  where
    no_name : (k : Kind) → IsTrue (is_identifier k) → IsTrue (belongs k class.Module) → ⊥
    no_name kind.Ident a b = absurd (cc)
    no_name kind.BindingIdent a b = absurd (cc)
    no_name _ a b = absurd (cc)

    at : (k : Kind) (ts : List Node) → IsTrue (belongs k class.Module) → IsTrue (is_module (Tree k ts))
    at kind.Module ts b = module_is ts
    at _ ts b = absurd (cc)

pub due_pairs_keep_names : DuePairsKeepNames
due_pairs_keep_names place t f = (top_keeps (due_set place t (one class.Module) f) f (fits_module t f)).1

pub stripping_answers_loses_none : StrippingAnswersLosesNone
stripping_answers_loses_none place t f writable =
    let u = with_blocks (stripped t) in
    let bare = targets_stand_bare t (one class.Module) f writable in
    let answer_fits = answer_fits_table place (stripped t) (one class.Module) (stripped_fits t (one class.Module) bare refl f) in
    let answer_writable = (fixed_fits place t (one class.Module) refl f writable).0 in
    let is : stripped (fixed place t) ≡ named u = stripped_fixed place t (fits_well t (one class.Module) f) in
    let again = stripped_fits (fixed place t) (one class.Module) (targets_stand_bare (fixed place t) (one class.Module) answer_fits answer_writable) refl answer_fits in
    sym (due_pairs_keep_names place (stripped (fixed place t)) again) ∙ ap (λ v. S program_place (with_due_pairs place v)) is ∙ ap (S program_place) (due_named place u)
