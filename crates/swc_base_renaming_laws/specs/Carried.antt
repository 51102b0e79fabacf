-- Where what the fixer makes of a program with labels is resolved, its own texts are apart where ids meet.
use Rattle.std.specs.Prelude.{◌≡◌, unwrap_or}
use Rattle.swc_tree_node.specs.declared.slot.Slot.{Slot}
use Rattle.swc_tree_node.specs.declared.node.Node.{Node}
use Rattle.swc_tree_scoping.specs.BoundNames.{Id}
use Rattle.swc_tree_sites.specs.Smaller.{In}
use Rattle.swc_base_renaming_laws.specs.Settled.{ApartWhereMet, own_text}
use Rattle.swc_base_renaming_laws.specs.Meetings.{met}
use Rattle.swc_base_renaming_laws.specs.Contexts.{labelled_changes}
use Rattle.swc_base_renaming_laws.specs.LabelledLabels.{labelled}
use Rattle.swc_base_renaming_laws.specs.Labelled.{HasNewLabels, IsReady, IsResolvedSo}

-- ids that meet in what the fixer makes of a program with labels are the new ones of ids that met
abbrev pub LabelsMeetAsTheOld : Type 0
LabelsMeetAsTheOld = (goal : Slot) (before labels : Node) → IsReady goal before → (h : HasNewLabels goal before labels) → (x y : Id) → In {X = Id × Id} (x, y) (met labels).pairs
    → (z w : Id) × In {X = Id × Id} (z, w) (met (labelled before)).pairs × (unwrap_or (labelled_changes h.new_texts z) z ≡ x) × (unwrap_or (labelled_changes h.new_texts w) w ≡ y)

-- so, resolved without labels, it has texts apart where its ids meet
abbrev pub LabelledAnswersAreApart : Type 0
LabelledAnswersAreApart = (goal : Slot) (before labels u : Node) → IsReady goal before → HasNewLabels goal before labels → IsResolvedSo labels u → ApartWhereMet u own_text

abbrev pub LabelledAnswersAreApartGiven : Type 0
LabelledAnswersAreApartGiven = LabelsMeetAsTheOld → LabelledAnswersAreApart
