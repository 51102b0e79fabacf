-- In a settled program that a lawful renamer named no function hoists, and no label names one.
use Rattle.std.proofs.Common.{◌≡◌, false, true, [], sym, ap, ◌∙◌}
use Rattle.swc_tree_node.specs.declared.node.Node.{Node}
use Rattle.swc_tree_scoping.specs.Places.{place_at, program_place}
use Rattle.swc_tree_scoping.specs.Readings.{by_texts}
use Rattle.swc_tree_renaming.specs.Apart.{HasNoSloppy, labels_no_function, nameless, no_name}
use Rattle.swc_tree_renaming.proofs.Labels.{same_labels}
use Rattle.swc_tree_renaming.proofs.Shape.{same_scopes, twice}
use Rattle.swc_base_rename_substitution.specs.declared.place.Place.TheVariants as place
use Rattle.swc_base_rename_program.specs.Renamed.{hygiene_renaming, new_id_by}
use Rattle.swc_base_renaming_laws.specs.Hygiene.{HygieneStaysSettled, RenamingStaysSettled}
use Rattle.swc_base_renaming_laws.proofs.HygieneChanged.{gives_names}
use Rattle.swc_base_renaming_laws.proofs.Hygienic.{hygiene_is_lawful}
use Rattle.swc_base_renaming_laws.proofs.LabelsStay.{labels_stay}
use Rattle.swc_base_renaming_laws.proofs.StaysSettled.{settled_stays}
use Rattle.swc_base_renaming_laws.proofs.StaysWritable.{by_test, plain_names}

texts_shape : (t : Node) → nameless (by_texts t) ≡ nameless t
texts_shape t = twice (λ i. record i { ctxt = [] }) (λ i. no_name) t

pub renaming_stays_settled : RenamingStaysSettled
renaming_stays_settled r table config goal before after lawful g plain fits (given, renamed, cleared) settled =
    let names = plain_names r table config before given plain renamed in
    let m = new_id_by names.new_texts in
    let gives = gives_names before r _ _ names.new_texts names.named lawful in
    let calm : HasNoSloppy after = λ p w k i e sloppy.
    let there = (same_scopes (by_texts given) given (texts_shape given)).forth p w k i (ap (λ t. place_at program_place t p) (sym cleared) ∙ e) in
    let never : false ≡ true = by_test r _ before given names (λ t. false) (λ s. absurd
    (settled_stays m gives goal before fits settled.0 p w there.0 there.1 (ap (λ t. place_at program_place t p) (sym s) ∙ there.2) sloppy)) in absurd (cc) in (
      calm,
      ap labels_no_function cleared ∙ same_labels (by_texts given) given (texts_shape given)
          ∙ by_test r _ before given names labels_no_function (λ s. ap labels_no_function s ∙ labels_stay m before place.Other settled.1),
    )

pub hygiene_stays_settled : HygieneStaysSettled
hygiene_stays_settled table config goal before after = renaming_stays_settled hygiene_renaming table config goal before after hygiene_is_lawful
