-- Where texts are apart where ids meet, hygiene leaves a tree as it is, but without contexts.
use Rattle.std.proofs.Common.{◌≡◌, ℕ, Option, Some, None, List, [], refl, ap, ◌∙◌}
use Rattle.std.specs.Prelude.{option_map, if◌then◌else◌}
use Rattle.std.proofs.lemmas.Slice.Eq.{bytes_eq-Decides}
use Rattle.swc_tree_scoping.specs.BoundNames.{Id}
use Rattle.swc_tree_scoping.specs.Readings.{by_texts}
use Rattle.swc_base_rename_substitution.specs.declared.place.Place.TheVariants as place
use Rattle.swc_base_rename_substitution.specs.Names.{if_other_text}
use Rattle.swc_base_rename_laws.proofs.Unchanged.{stays}
use Rattle.swc_base_rename_program.specs.Renamed.{hygiene_renaming, new_id_by}
use Rattle.swc_base_renaming_laws.proofs.StaysWritable.{plain_names}
use Rattle.swc_base_renaming_laws.proofs.NewTexts.{substituted_given}
use Rattle.swc_base_renaming_laws.specs.Settled.{HygieneKeepsApart}
use Rattle.swc_ecma_transforms_base_laws.specs.Settled.{HygieneLeavesApart}

-- where no text is another, no id changes
no_change : (new_texts : Id → Option (List ℕ)) → ((x : Id) (text : List ℕ) → new_texts x ≡ Some text → text ≡ x.0) → (x : Id) → new_id_by new_texts x ≡ None
no_change new_texts keeps x = by (new_texts x) refl
  where
    by : (o : Option (List ℕ)) → new_texts x ≡ o → if_other_text x (option_map (λ text. (text, [])) (new_texts x)) ≡ None
    by None e = ap (λ o. if_other_text x (option_map (λ text. (text, [])) o)) e
    by (Some text) e =
        ap (λ o. if_other_text x (option_map (λ text. (text, [])) o)) e
        ∙ ap (λ b. if b then None else Some (text, [])) ((bytes_eq-Decides text x.0).1 (keeps x text e))

pub hygiene_leaves_apart : HygieneKeepsApart → HygieneLeavesApart
hygiene_leaves_apart law table config t answer s plain fit scoped apart (given, renamed, cleared) =
    let names = plain_names hygiene_renaming table config t given plain renamed in
    let same = no_change names.new_texts (law t s names.new_texts fit scoped apart names.named) in
    cleared ∙ ap by_texts (substituted_given hygiene_renaming t given names ∙ stays (new_id_by names.new_texts) same t place.Other refl)
