-- Programs of a goal that can be written down: their roots, and what their normal forms keep.
use Rattle.std.proofs.Common.{◌≡◌, true, false, IsTrue, ◌⊎◌, inl, inr, List, [], ◌∷◌, map, refl, sym, ap, ◌∙◌, subst, true≢false}
use Rattle.swc_tree_node.specs.declared.kind.Kind.TheVariants as kind
use Rattle.swc_tree_node.specs.declared.kind.Class.TheVariants as class
use Rattle.swc_tree_node.specs.declared.slot.Content.TheVariants as content
use Rattle.swc_tree_node.specs.declared.slot.Slot.{Slot}
use Rattle.swc_tree_node.specs.declared.slot.Slot.TheVariants as slot
use Rattle.swc_tree_node.specs.declared.node.Node.{Node, Tree, out-Node}
use Rattle.swc_tree_node.specs.declared.node.Node.TheOpen.{Node-F}
use Rattle.swc_tree_node.specs.declared.node.Node.TheVariants.{outs-Tree, rolls-Tree}
use Rattle.swc_tree_node.specs.Fits.{Fits}
use Rattle.swc_tree_scoping.specs.declared.places.Standing.TheVariants as standing
use Rattle.swc_tree_scoping.specs.Places.{program_place}
use Rattle.swc_tree_scoping.specs.Resolved.{is_script}
use Rattle.swc_tree_scoping.specs.WellScoped.{is_module}
use Rattle.swc_tree_scoping.proofs.Remarked.{tree_is}
use Rattle.swc_tree_renaming.specs.Apart.{HasNoSloppy, IsPlainIfScript, IsPlainProgram, IsSettled, is_goal, nameless}
use Rattle.swc_tree_renaming.proofs.Global.{fits_module, fits_script, module_settled, no_module_is_script}
use Rattle.swc_tree_renaming.proofs.Whole.{module_too, script_layer, script_too as script_as}
use Rattle.swc_tree_grammar.specs.Due.{Places}
use Rattle.swc_tree_grammar.specs.Fixed.{fixed}
use Rattle.swc_tree_grammar.specs.Normal.{normal_form, written_out}
use Rattle.swc_tree_grammar.specs.Places.{is_open}
use Rattle.swc_tree_grammar.specs.Stripped.{stripped}
use Rattle.swc_tree_grammar.specs.Targets.{all_bare}
use Rattle.swc_tree_grammar.specs.Writable.{Writable}
use Rattle.swc_tree_grammar.proofs.Kept.{stripped_fits}
use Rattle.swc_tree_grammar.proofs.Stripped.{stripped_other}
use Rattle.swc_tree_sites.specs.Sites.{Site, Sites, taken_at}
use Rattle.swc_tree_sites.specs.Smaller.{In, IsLeftOf}
use Rattle.swc_tree_sites_laws.proofs.LeftStripped.{on_modules, stripped_takes}
use Rattle.swc_tree_sites_written.proofs.Modules.{module_whole}
use Rattle.swc_tree_sites_written.proofs.NormalForms.{normal_left}
use Rattle.swc_tree_sites_written.proofs.Written.{written_tree}
use Rattle.swc_tree_sites_kept.specs.Errors.{AreOfOneGoal, KeepsScopes}
use Rattle.swc_tree_sites_kept.proofs.TameModules.{modules_tame}
use Rattle.swc_tree_sites_kept.specs.Scripts.{FixedScriptsLoseNoName, PlainScriptsAreLeft, script_place}
use Rattle.swc_base_fixer_laws.proofs.Fixed.{targets_stand_bare}
use Rattle.swc_tree_sites_kept.specs.Lower.swc_base_fixer_sites.proofs.Answers.{stripping_answers_loses_none}

abbrev pub module_place : Slot
module_place = slot.One (content.Node class.Module)

-- what is asked of a script alone
abbrev pub IsSettledIn : Slot → Node → Type 0
IsSettledIn goal t = goal ≡ script_place → IsSettled t

pub settled_before : (goal : Slot) (t : Node) → Fits t goal → IsPlainIfScript t → IsSettledIn goal t
settled_before goal t fits plain e = let is = plain (fits_script t (subst (λ s. Fits t s) e fits)) in (is.settled, is.unlabelled)

-- a goal's place takes parentheses only where it takes all expressions, so that what is stripped fits it
pub goal_open : (goal : Slot) → IsTrue (is_goal goal) → IsTrue (is_open goal)
goal_open (slot.One (content.Node class.Module)) h = refl
goal_open (slot.One (content.Node class.Script)) h = refl
goal_open _ h = absurd (cc)

-- ---- programs of a goal

abbrev IsA : Slot → Node → Type 0
IsA (slot.One (content.Node class.Module)) t = IsTrue (is_module t)
IsA (slot.One (content.Node class.Script)) t = IsTrue (is_script t)
IsA _ t = ⊥

-- a program without plain functions in blocks of sloppy code
pub record IsOf (goal : Slot) (t : Node) : Type 0 where
  pub one : IsA goal t
  pub settled : HasNoSloppy t

program_of : (goal : Slot) (t : Node) → IsA goal t → IsTrue (is_module t) ⊎ IsTrue (is_script t)
program_of (slot.One (content.Node class.Module)) t h = inl h
program_of (slot.One (content.Node class.Script)) t h = inr h
program_of _ t h = absurd h

pub plain_of : (goal : Slot) (t : Node) → IsOf goal t → IsPlainProgram t
plain_of goal t is = (program_of goal t is.one, is.settled)

no_module : (t : Node) → IsTrue (is_script t) → is_module t ≡ false
no_module t h = let (ts, o) = script_layer t h in rw o refl

pub one_goal : (goal : Slot) (t u : Node) → IsOf goal t → IsOf goal u → AreOfOneGoal t u
one_goal goal t u a b = at goal a.one b.one
  where
    at : (goal : Slot) → IsA goal t → IsA goal u → AreOfOneGoal t u
    at (slot.One (content.Node class.Module)) a b = a ∙ sym b
    at (slot.One (content.Node class.Script)) a b = no_module t a ∙ sym (no_module u b)
    at _ a b = absurd a

pub script_too : (goal : Slot) (t u : Node) → IsOf goal t → IsOf goal u → IsTrue (is_script t) → IsTrue (is_script u)
script_too goal t u a b s = at goal a.one b.one
  where
    at : (goal : Slot) → IsA goal t → IsA goal u → IsTrue (is_script u)
    at (slot.One (content.Node class.Module)) a b = absurd (no_module_is_script t a s)
    at (slot.One (content.Node class.Script)) a b = b
    at _ a b = absurd a

-- what has its shape is one
pub shaped : (goal : Slot) (t u : Node) → nameless t ≡ nameless u → IsOf goal t → HasNoSloppy u → IsOf goal u
shaped goal t u same is none = record { one = at goal is.one; settled = none }
  where
    at : (goal : Slot) → IsA goal t → IsA goal u
    at (slot.One (content.Node class.Module)) a = module_too t u same a
    at (slot.One (content.Node class.Script)) a = script_as t u same a
    at _ a = absurd a

-- ---- normal forms

-- such a program whose normal form is one, too, of its names and scopes
pub record Formed (goal : Slot) (t : Node) : Type 0 where
  pub own : IsOf goal t
  pub normal : IsOf goal (normal_form t)
  pub left : IsLeftOf (normal_form t) t
  pub takes : taken_at program_place (normal_form t) ≡ taken_at program_place t

-- ... and that keeps the scopes of its normal form
pub record Answered (goal : Slot) (t : Node) : Type 0 where
  pub form : Formed goal t
  pub keeps : KeepsScopes t (normal_form t)

layer_module : (t : Node) (ts : List Node) → out-Node t ≡ Node-F.Tree kind.Module ts → IsTrue (is_module t)
layer_module t ts o = rw o refl

layer_script : (t : Node) (ts : List Node) → out-Node t ≡ Node-F.Tree kind.Script ts → IsTrue (is_script t)
layer_script t ts o = rw o refl

normal_module : (t : Node) → Fits t module_place → IsTrue (is_module (normal_form t))
normal_module = on_modules (λ t. IsTrue (is_module (normal_form t)))
    (λ x y z f. layer_module (normal_form (Tree kind.Module (x ∷ y ∷ z ∷ []))) _ (ap (λ t. out-Node (written_out t)) (stripped_other kind.Module (x ∷ y ∷ z ∷ []) refl) ∙ ap out-Node (written_tree kind.Module (stripped x ∷ stripped y ∷ stripped z ∷ [])) ∙ outs-Tree kind.Module _))

normal_script : (t : Node) → IsTrue (is_script t) → IsTrue (is_script (normal_form t))
normal_script t h =
    let (ts, o) = script_layer t h in
    let us = map written_out (map stripped ts) in
    layer_script (normal_form t) us (ap (λ t. out-Node (normal_form t)) (tree_is t kind.Script ts o) ∙ ap (λ t. out-Node (written_out t)) (stripped_other kind.Script ts refl)
    ∙ ap out-Node (written_tree kind.Script (map stripped ts) ∙ rolls-Tree kind.Script us) ∙ outs-Tree kind.Script us)

module _ (t : Node) (fits : Fits t module_place) (writable : Writable t) where
  pub bare : all_bare t ≡ true
  bare = targets_stand_bare t module_place fits writable

  pub module_formed : Formed module_place t
  module_formed = record {
    own = record { one = fits_module t fits; settled = module_settled t (fits_module t fits) };
    normal = record { one = normal_module t fits; settled = module_settled (normal_form t) (normal_module t fits) };
    left = normal_left t fits bare (modules_tame t fits writable);
    takes = (module_whole (stripped t) (stripped_fits t module_place bare refl fits) (modules_tame t fits writable)).takes ∙ stripped_takes t fits bare;
  }

module _ (left : PlainScriptsAreLeft) where
  script_formed : (t : Node) → Fits t script_place → Writable t → IsSettled t → Formed script_place t
  script_formed t fits writable settled =
      let one = fits_script t fits in
      let is = left t fits writable settled in record {
        own = record { one = one; settled = settled.0 };
        normal = record { one = normal_script t one; settled = is.settled.0 };
        left = is.left;
        takes = is.takes;
      }

  pub formed : (goal : Slot) (t : Node) → IsTrue (is_goal goal) → Fits t goal → Writable t → IsSettledIn goal t → Formed goal t
  formed (slot.One (content.Node class.Module)) t is fits writable settled = module_formed t fits writable
  formed (slot.One (content.Node class.Script)) t is fits writable settled = script_formed t fits writable (settled refl)
  formed _ t is fits writable settled = absurd (true≢false (sym is))

  module _ (whole : FixedScriptsLoseNoName) (place : Places) (middle : Node) where
    abbrev after : Node
    after = fixed place middle

    module_answered : Fits middle module_place → Writable middle → Fits after module_place → Writable after → Answered module_place after
    module_answered f w fits writable =
        let b = bare after fits writable in
        let written = module_whole (stripped after) (stripped_fits after module_place b refl fits) (modules_tame after fits writable) in
        let e = stripping_answers_loses_none place middle f w in
        let form = module_formed after fits writable in record {
          form = form;
          keeps = record {
            variables = λ i env h. written.names (standing.Variable, i, env) (subst (λ (a : Sites). In {X = Site} (standing.Variable, i, env) a.sites) (sym e) h);
            sets = λ bs h. subst (In bs) (sym written.sets) (subst (λ (a : Sites). In bs a.sets) (sym e) h);
            program = sym form.takes;
          };
        }

    script_answered : Fits middle script_place → Writable middle → IsSettled middle → Fits after script_place → Writable after → Answered script_place after
    script_answered f w settled fits writable =
        let kept = whole place middle f w settled in
        let form = script_formed after fits writable kept.settled in record {
          form = form;
          keeps = record {
            variables = λ i env h. kept.names (standing.Variable, i, env) h;
            sets = λ bs h. subst (In bs) (sym kept.sets) h;
            program = sym form.takes;
          };
        }

    pub answered : (goal : Slot) → IsTrue (is_goal goal) → Fits middle goal → Writable middle → IsSettledIn goal middle → Fits after goal → Writable after → Answered goal after
    answered (slot.One (content.Node class.Module)) is f w settled fits writable = module_answered f w fits writable
    answered (slot.One (content.Node class.Script)) is f w settled fits writable = script_answered f w (settled refl) fits writable
    answered _ is f w settled fits writable = absurd (true≢false (sym is))
