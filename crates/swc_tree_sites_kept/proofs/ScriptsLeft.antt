-- What is left of a settled script, by what is left of the module of its items.
use Rattle.std.proofs.Common.{◌≡◌, true, false, [], ◌∷◌, refl, sym, ap, ◌∙◌, subst}
use Rattle.swc_tree_node.specs.declared.kind.Class.TheVariants as class
use Rattle.swc_tree_node.specs.declared.node.Node.{Node}
use Rattle.swc_tree_node.specs.Fits.{Fits}
use Rattle.swc_tree_scoping.specs.Places.{program_place}
use Rattle.swc_tree_renaming.specs.Apart.{IsSettled}
use Rattle.swc_tree_grammar.specs.Blocks.{with_blocks}
use Rattle.swc_tree_grammar.specs.Due.{Places, with_due_pairs}
use Rattle.swc_tree_grammar.specs.Fixed.{fixed}
use Rattle.swc_tree_grammar.specs.Normal.{normal_form, written_out}
use Rattle.swc_tree_grammar.specs.Stripped.{stripped}
use Rattle.swc_tree_grammar.specs.Targets.{all_bare}
use Rattle.swc_tree_grammar.specs.Writable.{Writable}
use Rattle.swc_tree_grammar.proofs.Kept.{stripped_fits}
use Rattle.swc_tree_grammar.proofs.Places.{one}
use Rattle.swc_tree_sites.specs.Sites.{Sites, taken_at}
use Rattle.swc_tree_sites.specs.Smaller.{AreKept, In, Sub}
use Rattle.swc_tree_sites.proofs.Kept.{S}
use Rattle.swc_base_fixer_sites.specs.Lower.swc_tree_sites_laws.proofs.LeftStripped.{stripped_takes}
use Rattle.swc_tree_sites_written.specs.Tame.{is_tame}
use Rattle.swc_tree_sites_written.proofs.Modules.{module_left, module_whole}
use Rattle.swc_tree_sites_written.proofs.NormalForms.{normal_left}
use Rattle.swc_tree_sites_kept.proofs.TameModules.{scripts_tame}
use Rattle.swc_base_fixer_laws.proofs.AgainNormal.{stripped_fixed}
use Rattle.swc_base_fixer_laws.proofs.AgainStill.{fits_well}
use Rattle.swc_base_fixer_laws.proofs.AgainTwice.{due_named}
use Rattle.swc_base_fixer_laws.proofs.Answer.{answer_fits_table, due_fits}
use Rattle.swc_base_fixer_laws.proofs.Fixed.{fixed_fits, targets_stand_bare}
use Rattle.swc_base_fixer_sites.proofs.Answers.{due_pairs_keep_names}
use Rattle.swc_tree_sites_kept.specs.Scripts.{FixedScriptsLoseNoName, IsPlainlyLeft, LosesNoName, PlainScriptsAreLeft, script_place}
use Rattle.swc_tree_sites_kept.proofs.Keeps.{due_settled, fixed_settled, normal_settled, stripped_settled}
use Rattle.swc_tree_sites_kept.proofs.Scripts.{IsScript, SettledScript, as_module, module_bare, module_fits, module_stripped, module_tame, module_with_due_pairs, module_written, script_is, script_sites, script_takes, written_is_script}
use Rattle.swc_tree_sites_kept.proofs.ScriptsSloppy.{script_settled, settled_where_none}

-- a settled script is, by its paths
settled : (t : Node) → IsScript t → SettledScript t → IsSettled t
settled t s h = subst IsSettled (sym s.is) (script_settled (s.span ∷ s.body ∷ s.shebang ∷ []) (subst SettledScript s.is h))

-- a script that is stripped, and the module of its items
module _ (t : Node) (f : Fits t script_place) (w : Writable t) (tame : is_tame (stripped t) false ≡ true) (n : SettledScript (normal_form t)) where
  bare : all_bare t ≡ true
  bare = targets_stand_bare t script_place f w

  stripped_place : Fits (stripped t) script_place
  stripped_place = stripped_fits t script_place bare refl f

  normal_script : IsScript (normal_form t)
  normal_script = written_is_script (stripped t) (script_is (stripped t) stripped_place)

  module_place : Fits (as_module (stripped t)) (one class.Module)
  module_place = module_fits (stripped t) stripped_place

  tame_module : is_tame (as_module (stripped t)) false ≡ true
  tame_module = module_tame (stripped t) (script_is (stripped t) stripped_place) ∙ tame

  normal_is : written_out (as_module (stripped t)) ≡ as_module (normal_form t)
  normal_is = module_written (stripped t) stripped_place

  normal_sites : S program_place (written_out (as_module (stripped t))) ≡ S program_place (normal_form t)
  normal_sites = ap (S program_place) normal_is ∙ sym (script_sites (normal_form t) normal_script n)

  plainly_left : SettledScript t → IsPlainlyLeft t
  plainly_left h =
      let m = as_module t in let script = script_is t f in let fits = module_fits t f in
      let is : stripped m ≡ as_module (stripped t) = module_stripped t script in
      let bare_module : all_bare m ≡ true = module_bare t script ∙ bare in
      let tame_stripped : is_tame (stripped m) false ≡ true = ap (λ u. is_tame u false) is ∙ tame_module in
      let left = normal_left m fits bare_module tame_stripped in
      let before : S program_place m ≡ S program_place t = sym (script_sites t script h) in
      let after : S program_place (normal_form m) ≡ S program_place (normal_form t) = ap (λ u. S program_place (written_out u)) is ∙ normal_sites in
      record {
        left = record {
          names = subst (λ (a : Sites). AreKept a.sites (S program_place t).sites) after (subst (λ (a : Sites). AreKept (S program_place (normal_form m)).sites a.sites) before left.names);
          scopes = subst (λ (a : Sites). Sub a.sets (S program_place t).sets) after (subst (λ (a : Sites). Sub (S program_place (normal_form m)).sets a.sets) before left.scopes);
        };
        takes = script_takes (normal_form t) normal_script n ∙ sym (ap (taken_at program_place) normal_is) ∙ (module_left (as_module (stripped t)) module_place tame_module).1
            ∙ sym (ap (taken_at program_place) is) ∙ stripped_takes m fits bare_module ∙ sym (script_takes t script h);
        settled = settled (normal_form t) normal_script n;
      }

  -- where stripping keeps all names
  loses_none : SettledScript t → SettledScript (stripped t) → S program_place (stripped t) ≡ S program_place t → LosesNoName t
  loses_none h g same =
      let whole = module_whole (as_module (stripped t)) module_place tame_module in
      let before : S program_place (as_module (stripped t)) ≡ S program_place t = sym (script_sites (stripped t) (script_is (stripped t) stripped_place) g) ∙ same in
      record {
        settled = settled t (script_is t f) h;
        names = λ s i. subst (λ (a : Sites). In s a.sites) normal_sites (whole.names s (subst (λ (a : Sites). In s a.sites) (sym before) i));
        sets = sym (ap (λ (a : Sites). a.sets) normal_sites) ∙ whole.sets ∙ ap (λ (a : Sites). a.sets) before;
      }

-- a settled script that is stripped is tame
stripped_tame : (t : Node) → Fits t script_place → Writable t → SettledScript t → is_tame (stripped t) false ≡ true
stripped_tame t f w h =
    let place = stripped_fits t script_place (targets_stand_bare t script_place f w) refl f in
    scripts_tame t f w ((settled (stripped t) (script_is (stripped t) place) (stripped_settled t f w h)).0)

pub plain_scripts_are_left : PlainScriptsAreLeft
plain_scripts_are_left t f w h = let g = settled_where_none t f w h in plainly_left t f w (stripped_tame t f w g) (normal_settled t f w g) g

-- a settled script with its due pairs has the names that it had
script_keeps : (p : Places) (t : Node) → Fits t script_place → SettledScript t → S program_place (with_due_pairs p t) ≡ S program_place t
script_keeps p t f h =
    let g = due_fits p t script_place f in
    script_sites (with_due_pairs p t) (script_is (with_due_pairs p t) g) (due_settled p t f h) ∙ sym (ap (S program_place) (module_with_due_pairs p t (script_is t f)))
    ∙ due_pairs_keep_names p (as_module t) (module_fits t f) ∙ sym (script_sites t (script_is t f) h)

pub fixed_scripts_lose_no_name : FixedScriptsLoseNoName
fixed_scripts_lose_no_name p t f w none =
    let a = fixed p t in
    let fits : Fits a script_place = answer_fits_table p (stripped t) script_place (stripped_fits t script_place (targets_stand_bare t script_place f w) refl f) in
    let writable : Writable a = (fixed_fits p t script_place refl f w).0 in
    let h : SettledScript a = fixed_settled p t f w (settled_where_none t f w none) in
    let g : SettledScript (stripped a) = stripped_settled a fits writable h in
    let place : Fits (stripped a) script_place = stripped_fits a script_place (targets_stand_bare a script_place fits writable) refl fits in
    let same : S program_place (stripped a) ≡ S program_place a
    = sym (script_keeps p (stripped a) place g) ∙ ap (λ u. S program_place (with_due_pairs p u)) (stripped_fixed p t (fits_well t script_place f)) ∙ ap (S program_place) (due_named p (with_blocks (stripped t))) in
    loses_none a fits writable (stripped_tame a fits writable h) (normal_settled a fits writable h) h g same
