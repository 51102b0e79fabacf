-- The normal form of a program that is hygienic has the spans that the program's has.
use Rattle.std.proofs.Common.{◌≡◌, false, List, map, refl, sym, ap, ◌∙◌, subst}
use Rattle.swc_tree_node.specs.declared.node.Node.{Node, List as Many, Tree}
use Rattle.swc_tree_scoping.specs.Readings.{by_texts}
use Rattle.swc_tree_grammar.specs.Normal.{normal_form}
use Rattle.swc_tree_grammar.proofs.Induction.{Each, by_children}
use Rattle.swc_tree_grammar_texts.proofs.Cleared.{bare, each_same, map_after, text_absent, text_flag, text_list, text_name, text_span, text_text, text_tree, text_word}
use Rattle.swc_base_rename_substitution.specs.declared.place.Place.TheVariants as place
use Rattle.swc_base_rename_substitution.specs.Substituted.{substituted}
use Rattle.swc_base_rename_program.specs.Renamed.{hygiene_renaming, new_id_by}
use Rattle.swc_base_rename_laws.specs.NewNames.{SameButForNames, nameless}
use Rattle.swc_base_rename_laws.proofs.NormalFormSpans.{nameless_identifier, nameless_list, nameless_tree, normal_form_keeps_spans}
use Rattle.swc_base_renaming_laws.proofs.Hygienic.{none_kept}
use Rattle.swc_base_renaming_laws.proofs.KeepsNormal.{is_program, program_goal}
use Rattle.swc_base_renaming_laws.proofs.StaysWritable.{plain_names}
use Rattle.swc_base_renaming_laws.specs.NewTexts.{HygieneKeepsSpans, RenamingKeepsSpans}
use Rattle.swc_base_renaming_laws.proofs.NewTexts.{substituted_given}

abbrev Same : Node → Type 0
Same t = nameless (by_texts t) ≡ nameless t

all_same : (ts : List Node) → Each Same ts → map nameless (map by_texts ts) ≡ map nameless ts
all_same ts l = map_after nameless by_texts ts ∙ each_same (λ t. nameless (by_texts t)) nameless ts l

nameless_texts : (t : Node) → Same t
nameless_texts t = by_children Same
    (ap nameless text_absent, λ x. ap nameless (text_flag x), λ w. ap nameless (text_word w), λ x. ap nameless (text_text x), λ s. ap nameless (text_span s), λ k i. ap nameless (text_name k i) ∙ nameless_identifier k (bare i) ∙ sym (nameless_identifier k i))
    (λ ts l. ap nameless (text_list ts) ∙ nameless_list (map by_texts ts) ∙ ap Many (all_same ts l) ∙ sym (nameless_list ts))
    (λ k ts l. ap nameless (text_tree k ts) ∙ nameless_tree k (map by_texts ts) ∙ ap (Tree k) (all_same ts l) ∙ sym (nameless_tree k ts)) t

pub renaming_keeps_spans : RenamingKeepsSpans
renaming_keeps_spans r table config goal before after apart g plain fits writable (given, renamed, cleared) =
    let names = plain_names r table config before given plain renamed in
    let answer = substituted (new_id_by names.new_texts) false place.Other before in
    let same : normal_form after ≡ by_texts (normal_form answer)
    = ap normal_form cleared ∙ ap (λ t. normal_form (by_texts t)) (substituted_given r before given names) ∙ program_goal r goal before apart names.new_texts g names.named fits writable in
    subst (SameButForNames (normal_form before)) (sym same)
    (normal_form_keeps_spans (new_id_by names.new_texts) before answer (is_program goal before g fits) writable refl ∙ sym (nameless_texts (normal_form answer)))

pub hygiene_keeps_spans : HygieneKeepsSpans
hygiene_keeps_spans table config goal before after = renaming_keeps_spans hygiene_renaming table config goal before after (none_kept before)
