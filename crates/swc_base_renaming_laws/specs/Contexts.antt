-- Substitution does not look into contexts, but for whether ids are one.
use Rattle.std.specs.Prelude.{◌≡◌, ℕ, Bool, Option, option_map, List, [], ◌∷◌, ◌++◌, length, take, drop}
use Rattle.swc_tree_node.specs.declared.node.Node.{Node}
use Rattle.swc_tree_scoping.specs.Readings.{by_texts, with_identifiers}
use Rattle.swc_base_rename_substitution.specs.declared.place.Place.{Place}
use Rattle.swc_base_rename_substitution.specs.Identifiers.{Changes, id_of}
use Rattle.swc_base_rename_substitution.specs.Names.{Id, if_other_text}
use Rattle.swc_base_rename_substitution.specs.Substituted.{substituted}

-- the text of an id, with a label for its context
abbrev pub with_label : (Id → List ℕ) → Id → Id
with_label label x = (x.0, label x)

-- the tree with the label of each identifier's id for its context
abbrev pub relabelled : (Id → List ℕ) → Node → Node
relabelled label t = with_identifiers (λ i. record i { ctxt = label (id_of i) }) t

abbrev pub new_text : Option Id → Option (List ℕ)
new_text x = option_map (λ (x : Id). x.0) x

-- labels tell ids of one text apart, and to an id with its label the second map gives the text that the first gives to the id
pub record CarriesTexts (label : Id → List ℕ) (m n : Changes) : Type 0 where
  pub apart : (x y : Id) → x.0 ≡ y.0 → label x ≡ label y → x ≡ y
  pub texts : (x : Id) → new_text (n (with_label label x)) ≡ new_text (m x)

-- so a tree with labels becomes what the tree does, but for contexts
abbrev pub SubstitutionNeedsNoContexts : Type 0
SubstitutionNeedsNoContexts = (label : Id → List ℕ) (m n : Changes) (keeps : Bool) (place : Place) (t : Node) → CarriesTexts label m n
    → by_texts (substituted n keeps place (relabelled label t)) ≡ by_texts (substituted m keeps place t)

-- and labels keep its texts
abbrev pub LabelsKeepTexts : Type 0
LabelsKeepTexts = (label : Id → List ℕ) (t : Node) → by_texts (relabelled label t) ≡ by_texts t

-- the label that is the id itself: `id_name` of an identifier
abbrev pub own_label : Id → List ℕ
own_label x = length x.0 ∷ (x.0 ++ x.1)

-- the id for which a label stands
abbrev pub id_of_label : List ℕ → Id
id_of_label [] = ([], [])
id_of_label (n ∷ x) = (take n x, drop n x)

-- the changes by a map of texts: a new text comes with the empty context
abbrev pub changes : (Id → Option (List ℕ)) → Changes
changes new_texts x = if_other_text x (option_map (λ text. (text, [])) (new_texts x))

-- ... of ids with their own labels: a new text comes with the label
abbrev pub labelled_changes : (Id → Option (List ℕ)) → Changes
labelled_changes new_texts x = if_other_text x (option_map (λ text. (text, x.1)) (new_texts (x.0, (id_of_label x.1).1)))

abbrev pub LabelsCarryTexts : Type 0
LabelsCarryTexts = (new_texts : Id → Option (List ℕ)) → CarriesTexts own_label (changes new_texts) (labelled_changes new_texts)
