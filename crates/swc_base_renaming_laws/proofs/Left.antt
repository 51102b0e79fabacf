-- What the fixer makes of a program with new names is left of the program, where names are told apart by their contexts.
use Rattle.std.proofs.Common.{◌≡◌, ◌⊎◌, ⊎_elim, inl, inr, ℕ, Bool, true, false, IsTrue, Option, Some, None, List, [], ◌∷◌, map, refl, sym, ap, ◌∙◌, subst}
use Rattle.std.specs.Prelude.{unwrap_or, if◌then◌else◌}
use Rattle.swc_tree_marks.specs.declared.ident.Ident.{Ident}
use Rattle.swc_tree_node.specs.declared.slot.Slot.{Slot}
use Rattle.swc_tree_node.specs.declared.node.Node.{Node, fold-Node}
use Rattle.swc_tree_node.specs.declared.node.Node.TheOpen.{Node-F}
use Rattle.swc_tree_node.specs.Fits.{Fits}
use Rattle.swc_tree_scoping.specs.Places.{place_at, program_place}
use Rattle.swc_tree_scoping.specs.Readings.{rename_step, with_identifiers}
use Rattle.swc_tree_scoping.specs.Scopes.{is_name}
use Rattle.swc_tree_renaming.specs.Apart.{IsSettled, is_goal, nameless, no_name}
use Rattle.swc_tree_renaming.proofs.Global.{fits_script}
use Rattle.swc_tree_renaming.proofs.Shape.{twice}
use Rattle.swc_tree_grammar.specs.Due.{Places}
use Rattle.swc_tree_grammar.specs.Fixed.{fixed}
use Rattle.swc_tree_grammar.specs.Normal.{normal_form, written_out}
use Rattle.swc_tree_grammar.specs.Stripped.{stripped}
use Rattle.swc_tree_grammar.specs.Writable.{is_writable}
use Rattle.swc_tree_grammar.proofs.Kept.{stripped_fits}
use Rattle.swc_tree_sites.specs.Sites.{Entry, Site, Sites}
use Rattle.swc_tree_sites.specs.Smaller.{AreKept, In, IsCopy, IsLeftOf, Sub}
use Rattle.swc_tree_sites.proofs.Found.{in_map, map_in}
use Rattle.swc_tree_sites.proofs.Kept.{S}
use Rattle.swc_tree_sites_laws.proofs.LeftByIds.{bound_by, site_by, sites_by}
use Rattle.swc_tree_sites_kept.specs.Scripts.{FixedScriptsLoseNoName, PlainScriptsAreLeft, script_place}
use Rattle.swc_tree_sites_kept.specs.Tame.{WritableModulesAreTame, WritableNormalFormIsLeft}
use Rattle.swc_tree_sites_written.specs.Laws.{WrittenOutLosesNone}
use Rattle.swc_base_fixer_laws.specs.Laws.{FixedFits, FixedFitsTable, NormalFormStays, TargetsStandBare}
use Rattle.swc_base_fixer_sites.specs.Laws.{StrippingAnswersLosesNone}
use Rattle.swc_base_rename_substitution.specs.Identifiers.{Changes, id_of}
use Rattle.swc_base_rename_substitution.specs.Names.{Id}
use Rattle.swc_base_rename_laws.specs.Laws.{NormalFormHasNewNames, NormalFormKeepsSpans}
use Rattle.swc_base_rename_laws.specs.NewNames.{HasNewNames, SameButForNames, nameless as unnamed, nameless_step}
use Rattle.swc_base_renaming_laws.proofs.KeepsNormal.{is_program}
use Rattle.swc_base_renaming_laws.proofs.IdsPrograms.{by_goal, module_place}
use Rattle.swc_base_renaming_laws.specs.LabelledLabels.{KeepsContexts, by_contexts, named_by}
use Rattle.swc_base_renaming_laws.specs.Labelled.{FixedNamesAreLeft, IsWrittenOf}
use Rattle.swc_base_renaming_laws.proofs.LabelledAlike.{Agree, alike_sites}
use Rattle.swc_base_renaming_laws.proofs.LabelledChanged.{changed_there, one_name}
use Rattle.swc_base_renaming_laws.proofs.LabelledPrograms.{normal_left}

-- ---- trees that are the same but for the texts and contexts of identifiers

abbrev blank : Ident → Ident
blank i = record i { ctxt = []; sym = [] }

one_step : (y : Node-F Node) → nameless_step y ≡ rename_step blank y
one_step (Node-F.Identifier k i) = refl
one_step Node-F.Absent = refl
one_step (Node-F.Flag x) = refl
one_step (Node-F.Word x) = refl
one_step (Node-F.Text x) = refl
one_step (Node-F.Span x) = refl
one_step (Node-F.List x) = refl
one_step (Node-F.Tree k x) = refl

blanked : (t : Node) → unnamed t ≡ with_identifiers blank t
blanked t = ap (λ (step : Node-F Node → Node). fold-Node Node step t) (λ j y. one_step y j)

same_blanked : (t u : Node) → SameButForNames t u → with_identifiers blank t ≡ with_identifiers blank u
same_blanked t u e = sym (blanked t) ∙ e ∙ blanked u

same_shape : (t u : Node) → SameButForNames t u → nameless t ≡ nameless u
same_shape t u e = sym (twice blank (λ i. no_name) t) ∙ ap nameless (same_blanked t u e) ∙ twice blank (λ i. no_name) u

-- ---- new names by the contexts

module _ (m : Changes) (keeps : KeepsContexts m) where
  new_context : (b : Bool) (x : Id) → (if b then unwrap_or (m x) x else x).1 ≡ x.1
  new_context true x = at (m x) refl
    where
      at : (o : Option Id) → m x ≡ o → (unwrap_or o x).1 ≡ x.1
      at None e = refl
      at (Some y) e = keeps x y e
  new_context false x = refl

  pub agree : (name : List ℕ → List ℕ) (n v : Node) → HasNewNames m n v → SameButForNames n v → Agree (named_by name) program_place n v
  agree name n v names spans p w k l i j h g z =
      let (x, there, is) = names.names p w k i h in
      let found : x ≡ j = one_name (place_at program_place v p) w w k l x j there g in
      let context : i.ctxt ≡ j.ctxt = sym (ap (λ (y : Id). y.1) is ∙ new_context (is_name w.standing) (id_of i)) ∙ ap (λ (i : Ident). i.ctxt) found in
      let blanks : blank i ≡ blank j
      = one_name (place_at program_place (with_identifiers blank v) p) w w k l (blank i) (blank j) (ap (λ t. place_at program_place t p) (sym (same_blanked n v spans)) ∙ changed_there blank n p w k i h) (changed_there blank v p w l j g) in
      (λ n. record { span = ap (λ (i : Ident). i.span) blanks n; ctxt = []; sym = name (context n) })

-- ---- lists

sub_map : {X Y : Type 0} (f : X → Y) (xs ys : List X) → Sub xs ys → Sub (map f xs) (map f ys)
sub_map f [] ys h = tt
sub_map f (x ∷ xs) [] h = absurd h
sub_map f (x ∷ xs) (y ∷ ys) (inl h) = inl (ap f h.0, sub_map f xs ys h.1)
sub_map f (x ∷ xs) (y ∷ ys) (inr h) = inr (sub_map f (x ∷ xs) ys h)

-- ---- the fixer's answer has the names of the normal form, and its scopes

pub record InNormal (f u : Node) : Type 0 where
  pub names : (s : Site) → In s (S program_place f).sites → In s (S program_place (normal_form u)).sites
  pub sets : (S program_place f).sets ≡ (S program_place (normal_form u)).sets

-- the laws of the fixer and of normal forms that it rests on
pub record Laws : Type 0 where
  pub loses : StrippingAnswersLosesNone
  pub written : WrittenOutLosesNone
  pub tame : WritableModulesAreTame
  pub stays : NormalFormStays
  pub fit : FixedFits
  pub fits_table : FixedFitsTable
  pub bare : TargetsStandBare
  pub scripts_lose : FixedScriptsLoseNoName
  pub modules_left : WritableNormalFormIsLeft
  pub scripts_left : PlainScriptsAreLeft
  pub new_names : NormalFormHasNewNames

module _ (laws : Laws) (place : Places) where
  module_in_normal : (u : Node) → Fits u module_place → IsTrue (is_writable u) → InNormal (fixed place u) u
  module_in_normal u fits_u writable_u =
      let fits_f = laws.fits_table place u module_place refl fits_u (laws.bare u module_place fits_u writable_u) in
      let writable_f = (laws.fit place u module_place refl fits_u writable_u).0 in
      let all_kept = laws.written (stripped (fixed place u)) (stripped_fits (fixed place u) module_place (laws.bare (fixed place u) module_place fits_f writable_f) refl fits_f) (laws.tame (fixed place u) fits_f writable_f) in
      let answers : S program_place (stripped (fixed place u)) ≡ S program_place (fixed place u) = laws.loses place u fits_u writable_u in
      let normal : written_out (stripped (fixed place u)) ≡ normal_form u = laws.stays place u module_place fits_u in
      record {
        names = λ s i. subst (λ t. In s (S program_place t).sites) normal (all_kept.0 s (subst (λ (a : Sites). In s a.sites) (sym answers) i));
        sets = ap (λ (a : Sites). a.sets) (sym answers) ∙ sym all_kept.1 ∙ ap (λ t. (S program_place t).sets) normal;
      }

  script_in_normal : (u : Node) → Fits u script_place → IsTrue (is_writable u) → IsSettled u → InNormal (fixed place u) u
  script_in_normal u fits_u writable_u settled =
      let kept = laws.scripts_lose place u fits_u writable_u settled in
      let normal : normal_form (fixed place u) ≡ normal_form u = laws.stays place u script_place fits_u in
      record {
        names = λ s i. subst (λ t. In s (S program_place t).sites) normal (kept.names s i);
        sets = sym kept.sets ∙ ap (λ t. (S program_place t).sets) normal;
      }

  pub answer_in_normal : (goal : Slot) → IsTrue (is_goal goal) → (u : Node) → IsWrittenOf goal u → InNormal (fixed place u) u
  answer_in_normal = by_goal (λ goal. (u : Node) → IsWrittenOf goal u → InNormal (fixed place u) u)
      (λ u w. module_in_normal u w.fits w.writable) (λ u w. script_in_normal u w.fits w.writable (w.settled (fits_script u w.fits)))

-- ---- what is left

copy_by : (name : List ℕ → List ℕ) (s : Site) → IsCopy s → IsCopy (site_by (named_by name) s)
copy_by name s c = record {
  taken = map (bound_by (named_by name)) c.taken;
  way = c.way;
  bound = named_by name c.bound;
  refers = c.refers;
  env = ap (map (λ (e : Entry). (map (bound_by (named_by name)) e.0, e.1))) c.env;
  within = map_in (bound_by (named_by name)) (c.way, c.bound) c.taken c.within;
  same = (ap name c.same.1, refl);
}

module _ (name : List ℕ → List ℕ) (t u f : Node) (inside : InNormal f u) (same : S program_place (by_contexts name (normal_form t)) ≡ S program_place (by_contexts name (normal_form u))) (left : IsLeftOf (normal_form t) t) where
  abbrev F : Ident → Ident
  F = named_by name

  named : (n : Node) → (S program_place (by_contexts name n)).sites ≡ map (site_by F) (S program_place n).sites
  named n = ap (λ (a : Sites). a.sites) (sites_by F n program_place)

  taken : (n : Node) → (S program_place (by_contexts name n)).sets ≡ map (map (bound_by F)) (S program_place n).sets
  taken n = ap (λ (a : Sites). a.sets) (sites_by F n program_place)

  names_kept : AreKept (S program_place (by_contexts name f)).sites (S program_place (by_contexts name t)).sites
  names_kept s i =
      let (x, j, e) = in_map (site_by F) s (S program_place f).sites (subst (In s) (named f) i) in
      let there : In (site_by F x) (S program_place (by_contexts name (normal_form u))).sites
      = subst (In (site_by F x)) (sym (named (normal_form u))) (map_in (site_by F) x (S program_place (normal_form u)).sites (inside.names x j)) in
      let here : In (site_by F x) (S program_place (by_contexts name (normal_form t))).sites = subst (λ (a : Sites). In (site_by F x) a.sites) (sym same) there in
      let (y, k, g) = in_map (site_by F) (site_by F x) (S program_place (normal_form t)).sites (subst (In (site_by F x)) (named (normal_form t)) here) in
      subst (λ s. In s (S program_place (by_contexts name t)).sites ⊎ IsCopy s) (g ∙ e)
      (⊎_elim (λ h. inl (subst (In (site_by F y)) (sym (named t)) (map_in (site_by F) y (S program_place t).sites h))) (λ c. inr (copy_by name y c)) (left.names y k))

  sets_kept : Sub (S program_place (by_contexts name f)).sets (S program_place (by_contexts name t)).sets
  sets_kept =
      let first : (S program_place (by_contexts name f)).sets ≡ map (map (bound_by F)) (S program_place (normal_form t)).sets
      = taken f ∙ ap (map (map (bound_by F))) inside.sets ∙ sym (taken (normal_form u)) ∙ ap (λ (a : Sites). a.sets) (sym same) ∙ taken (normal_form t) in
      subst (λ l. Sub l (S program_place (by_contexts name t)).sets) (sym first)
      (subst (Sub (map (map (bound_by F)) (S program_place (normal_form t)).sets)) (sym (taken t)) (sub_map (map (bound_by F)) (S program_place (normal_form t)).sets (S program_place t).sets left.scopes))

  pub is_left : IsLeftOf (by_contexts name f) (by_contexts name t)
  is_left = record { names = names_kept; scopes = sets_kept }

pub fixed_names_are_left : Laws → NormalFormKeepsSpans → FixedNamesAreLeft
fixed_names_are_left laws spans m name place goal t u keeps is first sub last =
    let program = is_program goal t is first.fits in
    let same_names = laws.new_names m t u program first.writable sub in
    let same_spans = spans m t u program first.writable sub in
    is_left name t u (fixed place u) (answer_in_normal laws place goal is u last)
    (alike_sites (named_by name) (normal_form t) (normal_form u) program_place (same_shape (normal_form t) (normal_form u) same_spans) (agree m keeps name (normal_form t) (normal_form u) same_names same_spans))
    (normal_left laws.modules_left laws.scripts_left goal is t first)
