-- Modules that can be written down are tame, and their normal form is left of them; so are scripts without plain functions
-- in blocks of sloppy code.
use Rattle.std.proofs.Common.{◌≡◌, true, false, IsTrue, List, [], ◌∷◌, map, refl, sym, ◌∙◌, true≢false}
use Rattle.swc_tree_node.specs.declared.kind.Kind.{Kind}
use Rattle.swc_tree_node.specs.declared.kind.Kind.TheVariants as kind
use Rattle.swc_tree_node.specs.declared.kind.Class.TheVariants as class
use Rattle.swc_tree_node.specs.declared.node.Node.{Node, Tree}
use Rattle.swc_tree_node.specs.declared.node.Node.TheOpen.{Node-F}
use Rattle.swc_tree_node.specs.Table.{is_identifier, slots_of}
use Rattle.swc_tree_node.specs.Fits.{FieldsFit, Fits, belongs}
use Rattle.swc_tree_scoping.specs.Places.{program_place}
use Rattle.swc_tree_renaming.specs.Apart.{HasNoSloppy}
use Rattle.swc_tree_grammar.specs.Normal.{normal_form}
use Rattle.swc_tree_grammar.specs.Stripped.{stripped}
use Rattle.swc_tree_grammar.specs.Writable.{Round, is_writable, sound_in}
use Rattle.swc_tree_grammar.proofs.Asked.{of, sound, sound_tree}
use Rattle.swc_tree_grammar.proofs.Kept.{stripped_fits}
use Rattle.swc_tree_grammar.proofs.Places.{one}
use Rattle.swc_tree_sites.specs.Smaller.{IsLeftOf}
use Rattle.swc_tree_sites_written.specs.Tame.{is_tame}
use Rattle.swc_tree_sites_written.proofs.NormalForms.{normal_left}
use Rattle.swc_base_fixer_laws.proofs.Fixed.{stripping_keeps_writable, targets_stand_bare}
use Rattle.swc_tree_sites_kept.proofs.Asked.{code}
use Rattle.swc_tree_sites_kept.proofs.Patterns.{only_node}
use Rattle.swc_tree_sites_kept.proofs.Tames.{sound_tame}

-- outside of a module code need not be strict
abbrev outside : Round
outside = code false false

no_module_name : (k : Kind) → IsTrue (is_identifier k) → IsTrue (belongs k class.Module) → ⊥
no_module_name kind.Ident h b = absurd (cc)
no_module_name kind.BindingIdent h b = absurd (cc)
no_module_name _ h b = absurd (cc)

-- a module is strict wherever it stands
module_strict : (k : Kind) (ts : List Node) → IsTrue (belongs k class.Module) → FieldsFit (slots_of k) ts → sound_in (Node-F.Tree k (map of ts)) outside ≡ sound_in (Node-F.Tree k (map of ts)) (code true false)
module_strict kind.Module [] b f = absurd f
module_strict kind.Module (x ∷ []) b f = absurd f.1
module_strict kind.Module (x ∷ y ∷ []) b f = absurd f.1.1
module_strict kind.Module (x ∷ y ∷ z ∷ []) b f = refl
module_strict kind.Module (x ∷ y ∷ z ∷ v ∷ ts) b f = absurd f.1.1.1
module_strict _ ts b f = absurd (true≢false (sym b))

tree_tame : (k : Kind) (ts : List Node) → IsTrue (belongs k class.Module) → FieldsFit (slots_of k) ts → Fits (Tree k ts) (one class.Module) → sound (Tree k ts) outside ≡ true → is_tame (Tree k ts) false ≡ true
tree_tame k ts b f g h = sound_tame (Tree k ts) class.Module true false program_place refl refl g (λ e. absurd (cc)) (sound_tree k ts (code true false) ∙ sym (module_strict k ts b f) ∙ sym (sound_tree k ts outside) ∙ h)

module_tame : (t : Node) → Fits t (one class.Module) → IsTrue (is_writable t) → is_tame t false ≡ true
module_tame t f w = only_node class.Module (λ t. sound t outside ≡ true → is_tame t false ≡ true) (λ k i h b. absurd (no_module_name k h b)) tree_tame t f w

pub modules_tame : (t : Node) → Fits t (one class.Module) → IsTrue (is_writable t) → IsTrue (is_tame (stripped t) false)
modules_tame t f w = module_tame (stripped t) (stripped_fits t (one class.Module) (targets_stand_bare t (one class.Module) f w) refl f) (stripping_keeps_writable t (one class.Module) f w)

-- in a script no plain function may stand in a block of sloppy code
pub scripts_tame : (t : Node) → Fits t (one class.Script) → IsTrue (is_writable t) → HasNoSloppy (stripped t) → IsTrue (is_tame (stripped t) false)
scripts_tame t f w m =
    sound_tame (stripped t) class.Script false false program_place refl refl (stripped_fits t (one class.Script) (targets_stand_bare t (one class.Script) f w) refl f) (λ e. (refl, m)) (stripping_keeps_writable t (one class.Script) f w)

pub normal_form_left : (t : Node) → Fits t (one class.Module) → IsTrue (is_writable t) → IsLeftOf (normal_form t) t
normal_form_left t f w = normal_left t f (targets_stand_bare t (one class.Module) f w) (modules_tame t f w)
