-- What is asked clause by clause is what the code decides.
use Rattle.std.proofs.Common.{◌≡◌, ℕ, Bool, true, false, not, ◌&&◌, ◌||◌, IsTrue, ◌⊎◌, ◌↔◌, inl, inr, ⊎_elim, Option, Some, None, List, [], ◌∷◌, refl, sym, ap, ◌∙◌, subst}
use Rattle.std.specs.Prelude.{codes}
use Rattle.std.specs.List.{slice_get}
use Rattle.swc_tree_marks.specs.declared.ident.Ident.{Ident}
use Rattle.swc_tree_node.specs.declared.kind.Kind.{Kind}
use Rattle.swc_tree_node.specs.declared.kind.Kind.TheVariants as kind
use Rattle.swc_tree_node.specs.declared.node.Node.{Node, Identifier, out-Node}
use Rattle.swc_tree_node.specs.declared.node.Node.TheOpen.{Node-F}
use Rattle.swc_tree_scoping.specs.declared.places.Standing.TheVariants as standing
use Rattle.swc_tree_scoping.specs.declared.places.Scope.TheVariants as scope
use Rattle.swc_tree_scoping.specs.declared.places.Place.{Place}
use Rattle.swc_tree_scoping.specs.Places.{Path, child, children_in, has_own_name, is_inside, opened, opened_as, opened_in, place_at, place_below, place_in, program_place, view_from}
use Rattle.swc_tree_scoping.specs.Declares.{is_lexical}
use Rattle.swc_tree_scoping.specs.Readings.{by_ids, by_texts, id_name}
use Rattle.swc_tree_scoping.specs.Resolved.{is_script}
use Rattle.swc_tree_scoping.specs.WellScoped.{ExportsDeclared, IsClean, IsDeclared, NoParameterTwice, NoVariablePasses, NoneTwice, is_module}
use Rattle.swc_tree_scoping.proofs.Under.{no_place_under, place_under}
use Rattle.swc_tree_renaming.specs.Apart.{HasNoSloppy, IsPlainIfScript, NoParameterRepeated, SameScopes, labels_no_function}
use Rattle.swc_tree_renaming.proofs.Core.{takers_same}
use Rattle.swc_tree_renaming.proofs.Global.{module_settled}
use Rattle.swc_tree_renaming.proofs.Shape.{nameless_by_ids, same_scopes}
use Rattle.swc_tree_renaming.proofs.Whole.{by_id, from_ids, id_name_apart, id_name_same, module_layer, stands_by_id}
use Rattle.swc_base_resolver_laws.proofs.Same.{clean_stays}
use Rattle.swc_base_resolver_program.specs.declared.names.ScopeNames.{ScopeNames}
use Rattle.swc_base_resolver_program.specs.declared.collect.Stage.TheVariants as stage
use Rattle.swc_base_resolver_program.specs.Walks.{Reaches, Takes}
use Rattle.swc_base_scope_checks.specs.Asked.{Passes}
use Rattle.swc_base_early_errors.specs.declared.claims.Rule.TheVariants as rule
use Rattle.swc_base_early_errors.specs.declared.errors.NameError.TheVariants as error
use Rattle.swc_base_early_errors.specs.declared.scripts.ScriptFault.TheVariants as fault
use Rattle.swc_base_early_errors.specs.declared.sought.Sought.TheVariants as sought
use Rattle.swc_base_early_errors.specs.Claims.{ClaimsAt, Twice}
use Rattle.swc_base_early_errors.specs.Errors.{AsksOfNames, AsksOfScripts}
use Rattle.swc_base_early_errors.proofs.Found.{Sees, exports_are, no_eval_is}
use Rattle.swc_base_early_errors.proofs.Twice.{none_repeated_is, none_twice_is}

-- a clause that fails, and one that holds
pub fails : (b : Bool) (Q : Type 0) → b ≡ true → IsTrue (not b) ↔ Q → Q → ⊥
fails b Q e is q = let z = is.1 q in let y : false ≡ true = sym (ap not e) ∙ z in absurd (cc)

pub holds : (b : Bool) (Q : Type 0) → b ≡ false → IsTrue (not b) ↔ Q → Q
holds b Q e is = is.0 (ap not e)

-- a program is a module or a script
goal_kind : (k : Kind) (ts : List Node) (b : Bool) → opened_as program_place k b ≡ Some scope.Program → (k ≡ kind.Module) ⊎ (k ≡ kind.Script)
goal_kind kind.Module ts b h = inl refl
goal_kind kind.Script ts b h = inr refl
goal_kind kind.FnExpr ts true h = absurd (cc)
goal_kind kind.FnExpr ts false h = absurd (cc)
goal_kind kind.ClassExpr ts true h = absurd (cc)
goal_kind kind.ClassExpr ts false h = absurd (cc)
goal_kind _ ts b h = absurd (cc)

module_too : (t : Node) (k : Kind) (ts : List Node) → out-Node t ≡ Node-F.Tree k ts → k ≡ kind.Module → IsTrue (is_module t)
module_too t kind.Module ts o e = rw o refl
module_too t _ ts o e = absurd (cc)

script_too : (t : Node) (k : Kind) (ts : List Node) → out-Node t ≡ Node-F.Tree k ts → k ≡ kind.Script → IsTrue (is_script t)
script_too t kind.Script ts o e = rw o refl
script_too t _ ts o e = absurd (cc)

pub goal_of : (t : Node) → opened program_place t ≡ Some scope.Program → IsTrue (is_module t) ⊎ IsTrue (is_script t)
goal_of t opens = at (out-Node t) refl opens
  where
    at : (y : Node-F Node) → out-Node t ≡ y → opened_in program_place y ≡ Some scope.Program → IsTrue (is_module t) ⊎ IsTrue (is_script t)
    at (Node-F.Tree k ts) o h = ⊎_elim (λ e. inl (module_too t k ts o e)) (λ e. inr (script_too t k ts o e)) (goal_kind k ts (has_own_name ts) h)
    at _ o h = absurd (cc)

pub settled_of : (t : Node) → opened program_place t ≡ Some scope.Program → IsPlainIfScript t → HasNoSloppy t
settled_of t opens plain = ⊎_elim (module_settled t) (λ s. (plain s).settled) (goal_of t opens)

-- below strict code all is strict
or_strict : (a b : Bool) → IsTrue a → IsTrue (a || b)
or_strict true b h = refl
or_strict false b h = absurd (cc)

strict_child : (w : Place) (t c : Node) (i : ℕ) → child t i ≡ Some c → IsTrue w.strict → IsTrue (place_below w t i).strict
strict_child w t c i g s = at (out-Node t) refl
  where
    gone : (y : Node-F Node) → out-Node t ≡ y → children_in y ≡ [] → ⊥
    gone y o e = let z : Some c ≡ None = sym g ∙ ap (λ y. slice_get (children_in y) i) o ∙ ap (λ ts. slice_get ts i) e in absurd (cc)

    at : (y : Node-F Node) → out-Node t ≡ y → IsTrue (place_in w y i).strict
    at (Node-F.List ts) o = s
    at (Node-F.Tree k ts) o = or_strict w.strict _ s
    at Node-F.Absent o = absurd (gone Node-F.Absent o refl)
    at (Node-F.Flag x) o = absurd (gone (Node-F.Flag x) o refl)
    at (Node-F.Word x) o = absurd (gone (Node-F.Word x) o refl)
    at (Node-F.Text x) o = absurd (gone (Node-F.Text x) o refl)
    at (Node-F.Span x) o = absurd (gone (Node-F.Span x) o refl)
    at (Node-F.Identifier k x) o = absurd (gone (Node-F.Identifier k x) o refl)

one_pair : (a b : Place × Node) → Some a ≡ Some b → a ≡ b
one_pair a b e = cc

strict_below : (p : Path) (w v : Place) (t c : Node) → IsTrue w.strict → place_at w t p ≡ Some (v, c) → IsTrue v.strict
strict_below [] w v t c s e = subst (λ (q : Place × Node). IsTrue q.0.strict) (one_pair (w, t) (v, c) e) s
strict_below (i ∷ p) w v t c s e = at (child t i) refl (λ d. strict_below p (place_below w t i) v d c)
  where
    at : (o : Option Node) → child t i ≡ o → ((d : Node) → IsTrue (place_below w t i).strict → place_at (place_below w t i) d p ≡ Some (v, c) → IsTrue v.strict) → IsTrue v.strict
    at None g below = let z = sym (no_place_under w t i p g) ∙ e in absurd (cc)
    at (Some d) g below = below d (strict_child w t d i g s) (sym (place_under w t d i p g) ∙ e)

whole_view : (i : ℕ) → IsTrue (is_inside (view_from kind.Module i) && true)
whole_view i = refl

strict_in_module : (t : Node) (p : Path) (w : Place) (k : Kind) (x : Ident) → IsTrue (is_module t) → place_at program_place t p ≡ Some (w, Identifier k x) → w.standing ≡ standing.Parameter → IsTrue w.strict
strict_in_module t [] w k x m e parameter =
    let here : program_place ≡ w = ap (λ (q : Place × Node). q.0) (one_pair (program_place, t) (w, Identifier k x) e) in
    let z = ap (λ (w : Place). w.standing) here ∙ parameter in
    absurd (cc)
strict_in_module t (i ∷ p) w k x m e parameter = at (child t i) refl
  where
    top : IsTrue (place_below program_place t i).strict
    top = let (ts, o) = module_layer t m in ap (λ y. (place_in program_place y i).strict) o ∙ whole_view i

    at : (o : Option Node) → child t i ≡ o → IsTrue w.strict
    at None g = let z = sym (no_place_under program_place t i p g) ∙ e in absurd (cc)
    at (Some d) g = strict_below p (place_below program_place t i) w d (Identifier k x) top (sym (place_under program_place t d i p g) ∙ e)

-- parameters of one name
twice_fewer : (t : Node) → NoParameterRepeated t → NoParameterTwice t
twice_fewer t none name f p q a b ta tb _ = none name f p q a b ta tb

twice_in_module : (t : Node) → IsTrue (is_module t) → NoParameterTwice t → NoParameterRepeated t
twice_in_module t m none name f p q a b ta tb = none name f p q a b ta tb (inl (strict_in_module t p a.place a.kind a.identifier m a.stands a.stands_so))

module _ (t : Node) (clean : IsClean t) where
  same : SameScopes t (by_ids t)
  same = same_scopes t (by_ids t) (sym (nameless_by_ids t))

  from_texts : NoParameterRepeated t → NoParameterRepeated (by_ids t)
  from_texts none name f p q a b ta tb =
      let (k, i, there, is) = from_ids t p a.place a.kind a.identifier a.stands in
      let (l, j, other, his) = from_ids t q b.place b.kind b.identifier b.stands in
      let one : id_name i ≡ id_name j = sym (ap (λ (i : Ident). i.sym) is) ∙ a.named ∙ sym b.named ∙ ap (λ (i : Ident). i.sym) his in
      none i.sym f p q (record { place = a.place; kind = k; identifier = i; stands = there; stands_so = a.stands_so; named = refl })
      (record { place = b.place; kind = l; identifier = j; stands = other; stands_so = b.stands_so; named = sym (id_name_apart i j one).0 })
      (takers_same t (by_ids t) same standing.Parameter p ∙ ta) (takers_same t (by_ids t) same standing.Parameter q ∙ tb)

  to_texts : NoParameterRepeated (by_ids t) → NoParameterRepeated t
  to_texts none name f p q a b ta tb =
      let one : id_name b.identifier ≡ id_name a.identifier
      = id_name_same b.identifier a.identifier (b.named ∙ sym a.named, clean q b.place b.kind b.identifier b.stands ∙ sym (clean p a.place a.kind a.identifier a.stands)) in
      none (id_name a.identifier) f p q
      (record { place = a.place; kind = a.kind; identifier = by_id a.identifier; stands = stands_by_id t p a.place a.kind a.identifier a.stands; stands_so = a.stands_so; named = refl })
      (record { place = b.place; kind = b.kind; identifier = by_id b.identifier; stands = stands_by_id t q b.place b.kind b.identifier b.stands; stands_so = b.stands_so; named = one })
      (sym (takers_same t (by_ids t) same standing.Parameter p) ∙ ta) (sym (takers_same t (by_ids t) same standing.Parameter q) ∙ tb)

  pub repeated_asked : opened program_place t ≡ Some scope.Program → (b : Bool) → IsTrue b ↔ Twice (ClaimsAt rule.Parameters [] 0 program_place t) → IsTrue (not b) ↔ AsksOfScripts fault.RepeatedParameter t
  repeated_asked opens b is = let (forth, back) = none_repeated_is t opens b is in (λ h. from_texts (forth h), λ h. back (to_texts h))

  as_read : (P : Node → Type 0) (b : Bool) → IsTrue (not b) ↔ P t → IsTrue (not b) ↔ P (by_texts t)
  as_read P b is = subst (λ u. IsTrue (not b) ↔ P u) (sym (clean_stays t program_place clean)) is

  module _ (opens : opened program_place t ≡ Some scope.Program) (plain : IsPlainIfScript t) where
    pub export_asked : (tables : List ScopeNames) → Takes tables (Reaches stage.Bind [] 0 program_place t) → (b : Bool) → IsTrue b ↔ Passes (Sees tables t sought.UndeclaredExport) false [] 0 program_place t
        → IsTrue (not b) ↔ AsksOfNames error.Export t
    export_asked tables binds b is = as_read ExportsDeclared b (exports_are tables t opens binds (settled_of t opens plain) b is)

    pub twice_asked : (m b : Bool) → m ≡ is_module t → IsTrue b ↔ Twice (ClaimsAt (rule.Lexical m) [] 0 program_place t) → IsTrue (not b) ↔ AsksOfNames error.Twice t
    twice_asked m b e is = as_read NoneTwice b (none_twice_is t opens (settled_of t opens plain) b (subst (λ m. IsTrue b ↔ Twice (ClaimsAt (rule.Lexical m) [] 0 program_place t)) e is))

    pub variable_asked : (b : Bool) → IsTrue (not b) ↔ NoVariablePasses is_lexical t → IsTrue (not b) ↔ AsksOfNames error.Variable t
    variable_asked b is = as_read (NoVariablePasses is_lexical) b is

    repeats_none : NoParameterTwice t → NoParameterRepeated t
    repeats_none none = ⊎_elim (λ m. twice_in_module t m none) (λ s. to_texts (plain s).no_parameter_repeated) (goal_of t opens)

    pub parameter_asked : (b : Bool) → IsTrue b ↔ Twice (ClaimsAt rule.Parameters [] 0 program_place t) → IsTrue (not b) ↔ AsksOfNames error.Parameter t
    parameter_asked b is = let (forth, back) = none_repeated_is t opens b is in as_read NoParameterTwice b (λ h. twice_fewer t (forth h), λ h. back (repeats_none h))

  abbrev NoWords : Node → Type 0
  NoWords u = ¬ IsDeclared u (codes "eval") × ¬ IsDeclared u (codes "arguments")

  pub eval_asked : (tables : List ScopeNames) (b : Bool) → IsTrue b ↔ Passes (Sees tables t sought.EvalOrArguments) false [] 0 program_place t → IsTrue (not b) ↔ AsksOfNames error.EvalOrArguments t
  eval_asked tables b is = as_read NoWords b (no_eval_is tables t b is)

-- labels
pub unlabelled : (t : Node) (b : Bool) → b ≡ labels_no_function t → b ≡ true → IsTrue (labels_no_function t)
unlabelled t b e f = sym e ∙ f

pub unlabelled_not : (t : Node) (b : Bool) → b ≡ labels_no_function t → b ≡ false → IsTrue (labels_no_function t) → ⊥
unlabelled_not t b e f h = let z : false ≡ true = sym f ∙ e ∙ h in absurd (cc)
