-- What is asked of a script alone, and what the program of a goal has by it: no plain function in a block of sloppy code, and no reference
-- by the name of a global value that means the program.
use Rattle.std.proofs.Common.{◌≡◌, ℕ, Bool, true, false, not, ◌&&◌, ◌⊎◌, inl, inr, IsTrue, Some, List, [], ◌∷◌, map, refl, sym, ap, ◌∙◌, subst}
use Rattle.swc_tree_node.specs.declared.kind.Kind.{Kind}
use Rattle.swc_tree_node.specs.declared.kind.Kind.TheVariants as kind
use Rattle.swc_tree_node.specs.declared.kind.Class.{Class}
use Rattle.swc_tree_node.specs.declared.kind.Class.TheVariants as class
use Rattle.swc_tree_node.specs.declared.slot.Content.TheVariants as content
use Rattle.swc_tree_node.specs.declared.slot.Slot.{Slot}
use Rattle.swc_tree_node.specs.declared.slot.Slot.TheVariants as slot
use Rattle.swc_tree_node.specs.declared.node.Node.{Node, Identifier, out-Node, map-Node, fold_out-Node}
use Rattle.swc_tree_node.specs.declared.node.Node.TheOpen.{Node-F}
use Rattle.swc_tree_node.specs.Table.{slots_of, is_identifier}
use Rattle.swc_tree_node.specs.Fits.{Fits, Test, belongs, each_fits, fit_step, fits}
use Rattle.swc_tree_node.proofs.Fit.{both}
use Rattle.swc_tree_scoping.specs.declared.places.Standing.{Standing}
use Rattle.swc_tree_scoping.specs.Places.{Path, program_place}
use Rattle.swc_tree_scoping.specs.Scopes.{Round, is_binding, is_taken, rounds, scope_at, taker}
use Rattle.swc_tree_scoping.specs.Declares.{Bound, DeclaresFor, First}
use Rattle.swc_tree_scoping.specs.Resolved.{is_global_value, is_script}
use Rattle.swc_tree_scoping.specs.WellScoped.{is_module}
use Rattle.swc_tree_renaming.specs.Apart.{DeclaresNoGlobalValue, HasNoSloppy, IsPlainIfScript, IsPlainProgram, MeansNoGlobalValue, is_goal}
use Rattle.swc_tree_renaming.proofs.Core.{first_in, taken_binds}
use Rattle.swc_tree_renaming.proofs.Strict.{no_sloppy_in_modules}
use Rattle.swc_tree_renaming.proofs.Whole.{module_layer, no_script}

impossible : {A : Type 0} → false ≡ true → A
impossible h = absurd (cc)

-- what fits the place of a program is one
abbrev is_program_class : Class → Bool
is_program_class class.Module = true
is_program_class class.Script = true
is_program_class _ = false

no_identifier : (c : Class) (k : Kind) → IsTrue (is_program_class c) → IsTrue (is_identifier k) → IsTrue (belongs k c) → ⊥
no_identifier class.Module kind.Module p h g = impossible h
no_identifier class.Module _ p h g = impossible g
no_identifier class.Script kind.Script p h g = impossible h
no_identifier class.Script _ p h g = impossible g
no_identifier _ k p h g = impossible p

program_tree : (c : Class) (t : Node) → IsTrue (is_program_class c) → Fits t (slot.One (content.Node c)) → (k : Kind) × (ts : List Node) × (out-Node t ≡ Node-F.Tree k ts) × IsTrue (belongs k c)
program_tree c t p h = at (out-Node t) refl
  where
    layer : (y : Node-F Node) → out-Node t ≡ y → IsTrue (fit_step (map-Node Node Test fits y) (slot.One (content.Node c)))
    layer y o = subst (λ (f : Test). IsTrue (f (slot.One (content.Node c)))) (fold_out-Node Test fit_step t ∙ ap (λ y. fit_step (map-Node Node Test fits y)) o) h

    at : (y : Node-F Node) → out-Node t ≡ y → (k : Kind) × (ts : List Node) × (out-Node t ≡ Node-F.Tree k ts) × IsTrue (belongs k c)
    at (Node-F.Tree k ts) o =
        let f = both (not (is_identifier k)) (belongs k c && each_fits (slots_of k) (map fits ts)) (layer (Node-F.Tree k ts) o) in
        (k, ts, o, (both (belongs k c) (each_fits (slots_of k) (map fits ts)) f.1).0)
    at (Node-F.Identifier k i) o = let f = both (is_identifier k) (belongs k c) (layer (Node-F.Identifier k i) o) in absurd (no_identifier c k p f.0 f.1)
    at Node-F.Absent o = impossible (layer Node-F.Absent o)
    at (Node-F.Flag x) o = impossible (layer (Node-F.Flag x) o)
    at (Node-F.Word x) o = impossible (layer (Node-F.Word x) o)
    at (Node-F.Text x) o = impossible (layer (Node-F.Text x) o)
    at (Node-F.Span x) o = impossible (layer (Node-F.Span x) o)
    at (Node-F.List x) o = impossible (layer (Node-F.List x) o)

module_kind : (t : Node) (k : Kind) (ts : List Node) → out-Node t ≡ Node-F.Tree k ts → IsTrue (belongs k class.Module) → IsTrue (is_module t)
module_kind t kind.Module ts o h = rw o refl
module_kind t _ ts o h = impossible h

script_kind : (t : Node) (k : Kind) (ts : List Node) → out-Node t ≡ Node-F.Tree k ts → IsTrue (belongs k class.Script) → IsTrue (is_script t)
script_kind t kind.Script ts o h = rw o refl
script_kind t _ ts o h = impossible h

pub fits_module : (t : Node) → Fits t (slot.One (content.Node class.Module)) → IsTrue (is_module t)
fits_module t h = let (k, ts, o, b) = program_tree class.Module t refl h in module_kind t k ts o b

pub fits_script : (t : Node) → Fits t (slot.One (content.Node class.Script)) → IsTrue (is_script t)
fits_script t h = let (k, ts, o, b) = program_tree class.Script t refl h in script_kind t k ts o b

pub fits_goal : (goal : Slot) (t : Node) → IsTrue (is_goal goal) → Fits t goal → IsTrue (is_module t) ⊎ IsTrue (is_script t)
fits_goal (slot.One (content.Node class.Module)) t g h = inl (fits_module t h)
fits_goal (slot.One (content.Node class.Script)) t g h = inr (fits_script t h)
fits_goal _ t g h = impossible g

-- of a module nothing is asked
pub no_module_is_script : (t : Node) → IsTrue (is_module t) → IsTrue (is_script t) → ⊥
no_module_is_script t m s = let (ts, o) = module_layer t m in impossible (sym (no_script t ts o) ∙ s)

pub plain_if_module : (t : Node) → IsTrue (is_module t) → IsPlainIfScript t
plain_if_module t m s = absurd (no_module_is_script t m s)

-- no plain function stands in a block of sloppy code
pub module_settled : (t : Node) → IsTrue (is_module t) → HasNoSloppy t
module_settled t m p w k i h = let (ts, o) = module_layer t m in no_sloppy_in_modules t ts o p w (Identifier k i) h

pub plain_program : (t : Node) → IsTrue (is_module t) ⊎ IsTrue (is_script t) → IsPlainIfScript t → IsPlainProgram t
plain_program t (inl m) plain = (inl m, module_settled t m)
plain_program t (inr s) plain = (inr s, (plain s).settled)

pub plain_of_goal : (goal : Slot) (t : Node) → IsTrue (is_goal goal) → Fits t goal → IsPlainIfScript t → IsPlainProgram t
plain_of_goal goal t g h plain = plain_program t (fits_goal goal t g h) plain

-- a scope that lacks a property is not the first with it
not_first : (P : Round → Type 0) (s : Path) → ((whole : Bool) → P (s, whole) → ⊥) → (ss : List Round) → First P ss (Some s) → ⊥
not_first P s none [] f = absurd (cc)
not_first P s none (u ∷ us) (inl (here, e)) = let is : u.0 ≡ s = cc in none u.1 (subst (λ q. P (q, u.1)) is here)
not_first P s none (u ∷ us) (inr (nor, f)) = not_first P s none us f

-- what the program doesn't declare no reference means by it
module _ (t : Node) (settled : HasNoSloppy t) (none : DeclaresNoGlobalValue t) (script : IsTrue (is_script t)) (x : List ℕ) (global : IsTrue (is_global_value x)) where
  not_bound : (r : Standing) → Bound t [] r x → ⊥
  not_bound r b =
      let (whole, there, takes) = first_in (λ s. is_taken r (scope_at program_place t s.0)) (rounds program_place t b.path) [] b.taken in
      let binds : IsTrue (is_binding b.place.standing) = subst (λ r. IsTrue (is_binding r)) (sym b.stands_so) (taken_binds r (scope_at program_place t []) takes) in
      none b.path b.place b.kind b.identifier script b.stands binds (subst (λ x. IsTrue (is_global_value x)) (sym b.named) global) (ap (λ r. taker r t b.path) b.stands_so ∙ b.taken)

  not_declared : (whole : Bool) → DeclaresFor t x ([], whole) → ⊥
  not_declared true (inl (r, ways, b)) = not_bound r b
  not_declared true (inr (inl (b, h))) = not_bound _ b
  not_declared true (inr (inr h)) = settled h.bound.path h.bound.place h.bound.kind h.bound.identifier h.bound.stands h.bound.stands_so
  not_declared false (r, ways, b) = not_bound r b

-- where the program of a script declares no name of a global value, no reference by such a name means it
pub means_no_global_value : (t : Node) → HasNoSloppy t → DeclaresNoGlobalValue t → MeansNoGlobalValue t
means_no_global_value t settled none p r x script at refers global means = not_first (DeclaresFor t x) [] (not_declared t settled none script x global) (rounds program_place t p) means

pub plain_means_no_global_value : (t : Node) → IsPlainIfScript t → MeansNoGlobalValue t
plain_means_no_global_value t plain p r x script = means_no_global_value t (plain script).settled (plain script).no_global_value p r x script
