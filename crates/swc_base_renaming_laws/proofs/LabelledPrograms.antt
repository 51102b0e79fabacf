-- Programs of both goals that can be written down: what is left of them, and what the fixer makes of them.
use Rattle.std.proofs.Common.{◌≡◌, IsTrue, refl, sym, ◌∙◌}
use Rattle.swc_tree_marks.specs.declared.ident.Ident.{Ident}
use Rattle.swc_tree_node.specs.declared.slot.Slot.{Slot}
use Rattle.swc_tree_node.specs.declared.node.Node.{Node}
use Rattle.swc_tree_node.specs.Fits.{Fits}
use Rattle.swc_tree_scoping.specs.Readings.{with_identifiers}
use Rattle.swc_tree_renaming.specs.Apart.{HasNoSloppy, IsPlainIfScript, IsPlainProgram, is_goal, nameless}
use Rattle.swc_tree_renaming.proofs.Global.{fits_goal, fits_module, fits_script, no_module_is_script}
use Rattle.swc_tree_renaming.proofs.Labels.{same_labels}
use Rattle.swc_tree_renaming.proofs.Shape.{same_scopes}
use Rattle.swc_tree_renaming.proofs.Whole.{script_too}
use Rattle.swc_tree_grammar.specs.Due.{Places}
use Rattle.swc_tree_grammar.specs.Fixed.{fixed}
use Rattle.swc_tree_grammar.specs.Normal.{normal_form}
use Rattle.swc_tree_grammar.specs.Places.{is_open}
use Rattle.swc_tree_sites.specs.Smaller.{IsLeftOf}
use Rattle.swc_tree_sites_kept.specs.Tame.{WritableNormalFormIsLeft}
use Rattle.swc_tree_sites_kept.specs.Scripts.{FixedScriptsLoseNoName, PlainScriptsAreLeft}
use Rattle.swc_base_fixer_laws.specs.Laws.{FixedFitsTable, TargetsStandBare}
use Rattle.swc_base_renaming_laws.specs.Ids.{IsSettledIfScript}
use Rattle.swc_base_renaming_laws.proofs.Globals.{settled_alike}
use Rattle.swc_base_renaming_laws.proofs.IdsPrograms.{by_goal, settled_of_goal}
use Rattle.swc_base_renaming_laws.specs.Labelled.{IsWrittenOf}
use Rattle.swc_base_renaming_laws.proofs.LabelledChanged.{changed_scopes, fits_changed, nameless_changed}

-- ---- with other identifiers

-- a plain script is such a one
pub settled_of_plain : (t : Node) → IsPlainIfScript t → IsSettledIfScript t
settled_of_plain t plain s = let p = plain s in (p.settled, p.unlabelled)

-- what has its shape is one
pub settled_shape : (t u : Node) → nameless t ≡ nameless u → IsSettledIfScript t → IsSettledIfScript u
settled_shape t u shape settled s = let whole = settled (script_too u t (sym shape) s) in (settled_alike t u (same_scopes t u shape) whole.0, sym (same_labels t u shape) ∙ whole.1)

pub settled_changed : (f : Ident → Ident) (t : Node) → IsSettledIfScript t → IsSettledIfScript (with_identifiers f t)
settled_changed f t = settled_shape t (with_identifiers f t) (sym (nameless_changed f t))

pub plain_changed : (goal : Slot) → IsTrue (is_goal goal) → (f : Ident → Ident) (t : Node) → Fits t goal → HasNoSloppy t → IsPlainProgram (with_identifiers f t)
plain_changed goal is f t fits none = (fits_goal goal (with_identifiers f t) is (fits_changed f t goal ∙ fits), settled_alike t (with_identifiers f t) (changed_scopes f t) none)

-- ---- the normal form is left

pub normal_left : WritableNormalFormIsLeft → PlainScriptsAreLeft → (goal : Slot) → IsTrue (is_goal goal) → (t : Node) → IsWrittenOf goal t → IsLeftOf (normal_form t) t
normal_left modules scripts = by_goal (λ goal. (t : Node) → IsWrittenOf goal t → IsLeftOf (normal_form t) t)
    (λ t w. modules t w.fits w.writable) (λ t w. (scripts t w.fits w.writable (w.settled (fits_script t w.fits))).left)

-- ---- what the fixer makes of it

module _ (table : FixedFitsTable) (bare : TargetsStandBare) (place : Places) (goal : Slot) (is : IsTrue (is_goal goal)) (t : Node) (w : IsWrittenOf goal t) where
  pub fixed_fits : Fits (fixed place t) goal
  fixed_fits = table place t goal (by_goal (λ goal. IsTrue (is_open goal)) refl refl goal is) w.fits (bare t goal w.fits w.writable)

  fixed_settled : FixedScriptsLoseNoName → IsSettledIfScript (fixed place t)
  fixed_settled lose =
      by_goal (λ goal. IsWrittenOf goal t → Fits (fixed place t) goal → IsSettledIfScript (fixed place t))
      (λ w fits s. absurd (no_module_is_script (fixed place t) (fits_module (fixed place t) fits) s))
      (λ w fits s. (lose place t w.fits w.writable (w.settled (fits_script t w.fits))).settled)
      goal is w fixed_fits

  -- it has no plain function in a block of sloppy code
  pub fixed_is_plain : FixedScriptsLoseNoName → HasNoSloppy (fixed place t)
  fixed_is_plain lose = settled_of_goal goal is (fixed place t) fixed_fits (fixed_settled lose)
