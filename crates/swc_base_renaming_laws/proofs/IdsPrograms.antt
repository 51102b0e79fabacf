-- Programs of both goals: the normal form of one is one of its goal.
use Rattle.std.proofs.Common.{◌≡◌, ◌⊎◌, inl, inr, IsTrue, List, [], ◌∷◌, map, refl, sym, ap, ◌∙◌, subst}
use Rattle.std.specs.List.{flat_map}
use Rattle.swc_tree_node.specs.declared.kind.Kind.TheVariants as kind
use Rattle.swc_tree_node.specs.declared.kind.Class.TheVariants as class
use Rattle.swc_tree_node.specs.declared.slot.Content.TheVariants as content
use Rattle.swc_tree_node.specs.declared.slot.Slot.{Slot}
use Rattle.swc_tree_node.specs.declared.slot.Slot.TheVariants as slot
use Rattle.swc_tree_node.specs.declared.node.Node.{Node, List as Many, Tree}
use Rattle.swc_tree_node.specs.declared.node.Node.TheVariants.{outs-Tree, rolls-Tree}
use Rattle.swc_tree_node.specs.Fits.{Fits}
use Rattle.swc_tree_scoping.specs.Resolved.{is_script}
use Rattle.swc_tree_scoping.specs.WellScoped.{is_module}
use Rattle.swc_tree_scoping.proofs.Remarked.{tree_is}
use Rattle.swc_tree_renaming.specs.Apart.{HasNoSloppy, is_goal}
use Rattle.swc_tree_renaming.proofs.Global.{fits_module, fits_script, module_settled, no_module_is_script}
use Rattle.swc_tree_renaming.proofs.Whole.{script_layer}
use Rattle.swc_tree_grammar.specs.Normal.{normal_form, split, written_out}
use Rattle.swc_tree_grammar.specs.Shapes.{items_of}
use Rattle.swc_tree_grammar.specs.Stripped.{stripped}
use Rattle.swc_tree_grammar.proofs.Stripped.{stripped_other}
use Rattle.swc_tree_grammar_texts.proofs.ClearedWritten.{written_of_tree}
use Rattle.swc_tree_sites_laws.proofs.LeftStripped.{on_modules}
use Rattle.swc_tree_sites_kept.specs.Scripts.{script_place}
use Rattle.swc_base_renaming_laws.specs.Ids.{IsSettledIfScript}

abbrev pub module_place : Slot
module_place = slot.One (content.Node class.Module)

-- what holds of modules and of scripts
pub by_goal : (P : Slot → Type 0) → P module_place → P script_place → (goal : Slot) → IsTrue (is_goal goal) → P goal
by_goal P m s (slot.One (content.Node class.Module)) h = m
by_goal P m s (slot.One (content.Node class.Script)) h = s
by_goal P m s _ h = absurd (cc)

-- ---- normal forms

tree_is_module : (ts : List Node) → IsTrue (is_module (Tree kind.Module ts))
tree_is_module ts = rw (outs-Tree kind.Module ts) refl

pub normal_is_module : (t : Node) → Fits t module_place → IsTrue (is_module (normal_form t))
normal_is_module = on_modules (λ t. IsTrue (is_module (normal_form t))) (λ x y z f.
    let is : normal_form (Tree kind.Module (x ∷ y ∷ z ∷ [])) ≡ Tree kind.Module (written_out (stripped x) ∷ Many (flat_map split (items_of (written_out (stripped y)))) ∷ written_out (stripped z) ∷ [])
    = ap written_out (stripped_other kind.Module (x ∷ y ∷ z ∷ []) refl) ∙ written_of_tree kind.Module (stripped x ∷ stripped y ∷ stripped z ∷ []) in
    subst (λ t. IsTrue (is_module t)) (sym is) (tree_is_module _))

tree_is_script : (ts : List Node) → IsTrue (is_script (Tree kind.Script ts))
tree_is_script ts = rw (outs-Tree kind.Script ts) refl

normal_is_script : (t : Node) → IsTrue (is_script t) → IsTrue (is_script (normal_form t))
normal_is_script t s =
    let (ts, o) = script_layer t s in
    let is : normal_form t ≡ Tree kind.Script (map written_out (map stripped ts))
    = ap normal_form (tree_is t kind.Script ts o) ∙ ap written_out (stripped_other kind.Script ts refl) ∙ written_of_tree kind.Script (map stripped ts) ∙ rolls-Tree kind.Script (map written_out (map stripped ts)) in
    subst (λ t. IsTrue (is_script t)) (sym is) (tree_is_script (map written_out (map stripped ts)))

pub normal_is_program : (goal : Slot) → IsTrue (is_goal goal) → (t : Node) → Fits t goal → IsTrue (is_module (normal_form t)) ⊎ IsTrue (is_script (normal_form t))
normal_is_program = by_goal (λ goal. (t : Node) → Fits t goal → IsTrue (is_module (normal_form t)) ⊎ IsTrue (is_script (normal_form t))) (λ t f. inl (normal_is_module t f)) (λ t f. inr (normal_is_script t (fits_script t f)))

-- no plain function stands in a block of sloppy code
pub settled_of_goal : (goal : Slot) → IsTrue (is_goal goal) → (t : Node) → Fits t goal → IsSettledIfScript t → HasNoSloppy t
settled_of_goal = by_goal (λ goal. (t : Node) → Fits t goal → IsSettledIfScript t → HasNoSloppy t) (λ t f s. module_settled t (fits_module t f)) (λ t f s. (s (fits_script t f)).0)

-- where one is a script, or its normal form is, so is another of its goal
pub script_of_goal : (goal : Slot) → IsTrue (is_goal goal) → (t u : Node) → Fits t goal → Fits u goal → IsTrue (is_script t) ⊎ IsTrue (is_script (normal_form t)) → IsTrue (is_script u)
script_of_goal = by_goal (λ goal. (t u : Node) → Fits t goal → Fits u goal → IsTrue (is_script t) ⊎ IsTrue (is_script (normal_form t)) → IsTrue (is_script u)) in_module (λ t u f g s. fits_script u g)
  where
    in_module : (t u : Node) → Fits t module_place → Fits u module_place → IsTrue (is_script t) ⊎ IsTrue (is_script (normal_form t)) → IsTrue (is_script u)
    in_module t u f g (inl s) = absurd (no_module_is_script t (fits_module t f) s)
    in_module t u f g (inr s) = absurd (no_module_is_script (normal_form t) (normal_is_module t f) s)
