-- A source, the program that it is resolved to, and the normal forms of both.
use Rattle.std.proofs.Common.{◌≡◌, IsTrue, inr, Some, [], refl, sym, ap, ◌∙◌}
use Rattle.swc_tree_marks.specs.declared.ident.Ident.{Ident}
use Rattle.swc_tree_node.specs.declared.kind.Kind.{Kind}
use Rattle.swc_tree_node.specs.declared.slot.Slot.{Slot}
use Rattle.swc_tree_node.specs.declared.node.Node.{Node, Identifier}
use Rattle.swc_tree_node.specs.Fits.{Fits, fits}
use Rattle.swc_tree_scoping.specs.declared.places.Place.{Place}
use Rattle.swc_tree_scoping.specs.Places.{Path, place_at, program_place}
use Rattle.swc_tree_scoping.specs.Readings.{by_texts}
use Rattle.swc_tree_scoping.specs.WellScoped.{IsClean}
use Rattle.swc_tree_scoping.proofs.Remarked.{fits-remarked}
use Rattle.swc_tree_renaming.specs.Apart.{DeclaresNoGlobalValue, HasNoSloppy, HasTexts, IsPlainIfScript, IsPlainProgram, MeansNoGlobalValue, SameScopes, is_goal, nameless, no_name}
use Rattle.swc_tree_renaming.proofs.Core.{takers_same}
use Rattle.swc_tree_renaming.proofs.Global.{fits_goal, fits_script, means_no_global_value, module_settled}
use Rattle.swc_tree_renaming.proofs.Labels.{same_labels}
use Rattle.swc_tree_renaming.proofs.Shape.{nameless_remarked, same_scopes, twice}
use Rattle.swc_tree_renaming.proofs.Whole.{script_too, stands_there}
use Rattle.swc_tree_grammar.specs.Normal.{normal_form}
use Rattle.swc_tree_grammar.specs.Stripped.{stripped}
use Rattle.swc_tree_grammar.specs.Writable.{Writable, is_writable}
use Rattle.swc_tree_grammar.proofs.Kept.{stripped_fits}
use Rattle.swc_tree_grammar_texts.specs.Laws.{TextsAreAsWritable}
use Rattle.swc_tree_grammar_texts.proofs.Cleared.{bare}
use Rattle.swc_tree_sites.specs.Sites.{taken_at}
use Rattle.swc_tree_sites.specs.Smaller.{IsLeftOf}
use Rattle.swc_tree_sites_laws.specs.Laws.{StrippedTakesTheSame}
use Rattle.swc_tree_sites_written.specs.Laws.{WrittenOutIsLeft}
use Rattle.swc_base_renaming_laws.specs.Lower.swc_tree_sites_kept.specs.Tame.{WritableModulesAreTame, WritableNormalFormIsLeft}
use Rattle.swc_base_renaming_laws.specs.Lower.swc_tree_sites_kept.specs.Scripts.{PlainScriptsAreLeft}
use Rattle.swc_base_fixer_laws.specs.Laws.{TargetsStandBare}
use Rattle.swc_base_renaming_laws.proofs.Cleared.{bare_there as text_there}
use Rattle.swc_base_renaming_laws.specs.Ids.{IsSettledIfScript}
use Rattle.swc_base_renaming_laws.proofs.Exported.{normal_cleared, texts_again}
use Rattle.swc_base_renaming_laws.proofs.Globals.{settled_alike, takes_none_too}
use Rattle.swc_base_renaming_laws.proofs.IdsPrograms.{by_goal, module_place, normal_is_module, normal_is_program, script_of_goal, settled_of_goal}
use Rattle.swc_base_alpha_laws.proofs.Equivalence.{one_there}
use Rattle.swc_ecma_transforms_base_laws.specs.SourceNames.{ComesFrom}

-- the laws that this rests on
pub record Laws : Type 0 where
  pub texts : TextsAreAsWritable
  pub modules : WritableNormalFormIsLeft
  pub scripts : PlainScriptsAreLeft
  pub targets : TargetsStandBare
  pub tame : WritableModulesAreTame
  pub written : WrittenOutIsLeft
  pub stripped_takes : StrippedTakesTheSame

-- ---- programs that can be written down, of both goals

module _ (laws : Laws) where
  pub left : (goal : Slot) → IsTrue (is_goal goal) → (t : Node) → Fits t goal → Writable t → IsSettledIfScript t → IsLeftOf (normal_form t) t
  left = by_goal (λ goal. (t : Node) → Fits t goal → Writable t → IsSettledIfScript t → IsLeftOf (normal_form t) t) (λ t f w s. laws.modules t f w) (λ t f w s. (laws.scripts t f w (s (fits_script t f))).left)

  normal_settled : (goal : Slot) → IsTrue (is_goal goal) → (t : Node) → Fits t goal → Writable t → IsSettledIfScript t → HasNoSloppy (normal_form t)
  normal_settled = by_goal (λ goal. (t : Node) → Fits t goal → Writable t → IsSettledIfScript t → HasNoSloppy (normal_form t))
      (λ t f w s. module_settled (normal_form t) (normal_is_module t f)) (λ t f w s. (laws.scripts t f w (s (fits_script t f))).settled.0)

  -- the normal form is such a program
  pub normal_plain : (goal : Slot) → IsTrue (is_goal goal) → (t : Node) → Fits t goal → Writable t → IsSettledIfScript t → IsPlainProgram (normal_form t)
  normal_plain goal is t f w s = (normal_is_program goal is t f, normal_settled goal is t f w s)

  -- and the program takes the same in it
  pub takes : (goal : Slot) → IsTrue (is_goal goal) → (t : Node) → Fits t goal → Writable t → IsSettledIfScript t → taken_at program_place (normal_form t) ≡ taken_at program_place t
  takes = by_goal (λ goal. (t : Node) → Fits t goal → Writable t → IsSettledIfScript t → taken_at program_place (normal_form t) ≡ taken_at program_place t)
      (λ t f w s. let b = laws.targets t module_place f w in (laws.written (stripped t) (stripped_fits t module_place b refl f) (laws.tame t f w)).1 ∙ laws.stripped_takes t f b)
      (λ t f w s. (laws.scripts t f w (s (fits_script t f))).takes)

  -- where the program declares none of the three, neither does it in the normal form
  pub normal_declares_none : (goal : Slot) → IsTrue (is_goal goal) → (t : Node) → Fits t goal → Writable t → IsSettledIfScript t → DeclaresNoGlobalValue t → DeclaresNoGlobalValue (normal_form t)
  normal_declares_none goal is t f w s none p v k i script =
      takes_none_too t (normal_form t) (takes goal is t f w s) (λ p w k i h. none p w k i (script_of_goal goal is t t f f (inr script)) h) p v k i

-- ---- a source and what it is resolved to

-- a program of the goal that can be written down, and that comes from the source
pub record Origin (source program : Node) : Type 0 where
  pub goal : Slot
  pub is : IsTrue (is_goal goal)
  pub fits_program : Fits program goal
  pub writable_program : Writable program
  pub plain : IsPlainIfScript program
  pub from : ComesFrom source program

module _ (laws : Laws) (source program : Node) (o : Origin source program) where
  shape : nameless source ≡ nameless program
  shape = sym (ap nameless o.from.resolved.only_contexts ∙ nameless_remarked o.from.resolved.contexts source)

  pub same_source : SameScopes source program
  same_source = same_scopes source program shape

  pub fits_source : Fits source o.goal
  fits_source = sym (ap (λ t. fits t o.goal) o.from.resolved.only_contexts ∙ fits-remarked o.from.resolved.contexts source o.goal) ∙ o.fits_program

  pub writable_source : Writable source
  writable_source = sym (ap is_writable (texts_again source program o.from.resolved.contexts o.from.resolved.only_contexts o.from.clean)) ∙ laws.texts program ∙ o.writable_program

  pub settled_source : IsSettledIfScript source
  settled_source s =
      let plain = o.plain (script_too source program shape s) in
      (settled_alike program source (same_scopes program source (sym shape)) plain.settled, same_labels source program shape ∙ plain.unlabelled)

  pub settled_program : IsSettledIfScript program
  settled_program s = let plain = o.plain s in (plain.settled, plain.unlabelled)

  pub plain_source : IsPlainProgram source
  plain_source = (fits_goal o.goal source o.is fits_source, settled_of_goal o.goal o.is source fits_source settled_source)

  pub plain_normal : IsPlainProgram (normal_form source)
  plain_normal = normal_plain laws o.goal o.is source fits_source writable_source settled_source

  pub left_source : IsLeftOf (normal_form source) source
  left_source = left laws o.goal o.is source fits_source writable_source settled_source

  pub left_program : IsLeftOf (normal_form program) program
  left_program = left laws o.goal o.is program o.fits_program o.writable_program settled_program

  -- the normal forms are one but for contexts
  pub cleared : normal_form source ≡ by_texts (normal_form program)
  cleared = normal_cleared o.goal o.is o.from.unresolved o.from.top o.from.old o.from.new source program o.from.clean fits_source o.from.resolved o.fits_program o.writable_program

  pub same_normal : SameScopes (normal_form source) (normal_form program)
  same_normal = same_scopes (normal_form source) (normal_form program) (ap nameless cleared ∙ twice (λ i. record i { ctxt = [] }) (λ i. no_name) (normal_form program))

  pub bare_there : (p : Path) (w v : Place) (k l : Kind) (i j : Ident) → place_at program_place (normal_form source) p ≡ Some (w, Identifier k i) → place_at program_place (normal_form program) p ≡ Some (v, Identifier l j) → i ≡ bare j
  bare_there p w v k l i j e h =
      (one_there (normal_form source) p w v k l i (bare j) e (ap (λ t. place_at program_place t p) cleared ∙ text_there p program_place v (normal_form program) l j h)).1

  pub clean_normal : IsClean (normal_form source)
  clean_normal p w k i h = let (l, j, e) = same_normal.forth p w k i h in ap (λ (i : Ident). i.ctxt) (bare_there p w w k l i j h e)

  pub kept_texts : HasTexts (normal_form source) (λ x. x) (normal_form program)
  kept_texts p w v k l i j e h names = ap (λ (i : Ident). i.sym) (sym (bare_there p w v k l i j e h))

  -- the program of the source declares neither `undefined` nor `NaN` nor `Infinity`, in a script
  declares_none : DeclaresNoGlobalValue source
  declares_none p w k i script h binds global taken =
      (o.plain (script_too source program shape script)).no_global_value p w k (record i { ctxt = o.from.resolved.contexts p }) (script_too source program shape script)
      (stands_there source program o.from.resolved.contexts o.from.resolved.only_contexts p w k i h) binds global (sym (takers_same source program same_source w.standing p) ∙ taken)

  pub means_none : MeansNoGlobalValue source
  means_none = means_no_global_value source plain_source.1 declares_none

  pub normal_means_none : MeansNoGlobalValue (normal_form source)
  normal_means_none = means_no_global_value (normal_form source) plain_normal.1 (normal_declares_none laws o.goal o.is source fits_source writable_source settled_source declares_none)
