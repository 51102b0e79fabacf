-- A unit that is named alone: the scopes round what stands in it are those that stand there where it is a part of a tree.
use Rattle.std.proofs.Common.{◌≡◌, ℕ, Bool, true, false, ◌⊎◌, inl, inr, Option, Some, None, List, [], ◌∷◌, ◌++◌, map, refl, sym, ap, ◌∙◌, option_and_then}
use Rattle.std.specs.List.{slice_get}
use Rattle.swc_tree_node.specs.declared.kind.Kind.{Kind}
use Rattle.swc_tree_node.specs.declared.kind.Kind.TheVariants as kind
use Rattle.swc_tree_node.specs.declared.slot.Role.{Role}
use Rattle.swc_tree_node.specs.declared.slot.Role.TheVariants as role
use Rattle.swc_tree_node.specs.declared.slot.Slot.{Slot}
use Rattle.swc_tree_node.specs.declared.node.Node.{Node, out-Node}
use Rattle.swc_tree_node.specs.declared.node.Node.TheOpen.{Node-F}
use Rattle.swc_tree_node.specs.declared.fields.statements.fn_decl.TheConstants as fn_decl
use Rattle.swc_tree_node.specs.Table.{fields_of}
use Rattle.swc_tree_node.specs.Fits.{Fits}
use Rattle.swc_tree_scoping.specs.declared.places.Standing.{Standing}
use Rattle.swc_tree_scoping.specs.declared.places.Standing.TheVariants as standing
use Rattle.swc_tree_scoping.specs.declared.places.Place.{Place}
use Rattle.swc_tree_scoping.specs.declared.places.Scope.{Scope}
use Rattle.swc_tree_scoping.specs.declared.places.Scope.TheVariants as scope
use Rattle.swc_tree_scoping.specs.Places.{Path, child, expression_name, given, has_own_name, is_plain_function, name_scope, named, own_name, place_at, place_below, program_place, standing_below}
use Rattle.swc_tree_scoping.proofs.Under.{no_place_under, place_under}
use Rattle.swc_base_rename_units.specs.Units.{is_unit_kind}
use Rattle.swc_base_rename_analysis.specs.Analysis.{is_default_export, is_for_body, kind_of, opened_here, opened_round, scopes_below}
use Rattle.swc_base_rename_analysis.proofs.Kept.{lower}
use Rattle.swc_base_rename_analysis_laws.proofs.Items.{some_same}
use Rattle.swc_base_rename_scoped_laws.proofs.Fields.{field_at}
use Rattle.swc_base_rename_scoped_laws.proofs.Openings.{field_stands}
use Rattle.swc_base_renaming_laws.proofs.UnitsAlike.{core, functions_alike, place_alike, scopes_alike}
use Rattle.swc_base_renaming_laws.proofs.UnitsFitting.{any_inherited, is_inherited, none_inherited}

-- the kinds of units, and what is one of a declaration
abbrev pub is_alone : Kind → Bool
is_alone kind.Function = true
is_alone kind.Class = true
is_alone k = is_unit_kind k

none_inherits : (k : Kind) → is_alone k ≡ true → any_inherited (fields_of k) ≡ false
none_inherits kind.Function h = refl
none_inherits kind.Class h = refl
none_inherits kind.ArrowExpr h = refl
none_inherits kind.FnExpr h = refl
none_inherits kind.MethodProp h = refl
none_inherits kind.GetterProp h = refl
none_inherits kind.SetterProp h = refl
none_inherits kind.ClassMethod h = refl
none_inherits kind.PrivateMethod h = refl
none_inherits kind.Constructor h = refl
none_inherits _ h = absurd (cc)

own_elsewhere : (r : Standing) (k : Kind) → is_default_export r ≡ false → own_name r k ≡ expression_name k
own_elsewhere standing.DefaultExport k h = absurd (cc)
own_elsewhere _ k h = refl

scope_elsewhere : (r : Standing) (n : Bool) (s : Scope) → is_default_export r ≡ false → name_scope r n s ≡ named n s
scope_elsewhere standing.DefaultExport n s h = absurd (cc)
scope_elsewhere _ n s h = refl

role_alike : (w : Place) (k : Kind) (ts : List Node) (i : ℕ) (a : Role) → is_inherited a ≡ false → is_default_export w.standing ≡ false → core (standing_below w k ts i a) ≡ core (standing_below program_place k ts i a)
role_alike w k ts i role.Inherited n d = absurd (cc)
role_alike w k ts i role.Function n d = functions_alike w program_place (is_plain_function (slice_get ts fn_decl.FUNCTION))
role_alike w k ts i role.OwnName n d = ap core (own_elsewhere w.standing k d)
role_alike w k ts i _ n d = refl

opens_alike : (w : Place) (k : Kind) (ts : List Node) (i : ℕ) → is_alone k ≡ true → is_default_export w.standing ≡ false → opened_round false w (Node-F.Tree k ts) i ≡ opened_round false program_place (Node-F.Tree k ts) i
opens_alike w kind.Function ts i h d = refl
opens_alike w kind.Class ts i h d = refl
opens_alike w kind.ArrowExpr ts i h d = refl
opens_alike w kind.FnExpr ts i h d = ap (λ o. opened_here (option_and_then kind_of o)) (scope_elsewhere w.standing (has_own_name ts) scope.FunctionName d)
opens_alike w kind.MethodProp ts i h d = refl
opens_alike w kind.GetterProp ts i h d = refl
opens_alike w kind.SetterProp ts i h d = refl
opens_alike w kind.ClassMethod ts i h d = refl
opens_alike w kind.PrivateMethod ts i h d = refl
opens_alike w kind.Constructor ts i h d = refl
opens_alike w _ ts i h d = absurd (cc)

-- what a node that is named alone is where it stands: of one of the kinds, and no default export
pub record IsAloneAt (w : Place) (v : Node) : Type 0 where
  pub kind : Kind
  pub fields : List Node
  pub form : out-Node v ≡ Node-F.Tree kind fields
  pub alone : is_alone kind ≡ true
  pub slot : Slot
  pub fits : Fits v slot
  pub elsewhere : is_default_export w.standing ≡ false

module _ (w : Place) (v : Node) (a : IsAloneAt w v) where
  below : (i : ℕ) (c : Node) → child v i ≡ Some c → core (place_below w v i).standing ≡ core (place_below program_place v i).standing
  below i c e =
      let (f, number, _) = field_at v c a.kind a.fields a.slot i a.form a.fits e in
      ap core (field_stands w v a.kind a.fields i f a.form number)
      ∙ role_alike w a.kind a.fields i f.2 (none_inherited (fields_of a.kind) i f (none_inherits a.kind a.alone) number) a.elsewhere
      ∙ sym (ap core (field_stands program_place v a.kind a.fields i f a.form number))

  opened : (i : ℕ) → opened_round false w (out-Node v) i ≡ opened_round false program_place (out-Node v) i
  opened i = ap (λ y. opened_round false w y i) a.form ∙ opens_alike w a.kind a.fields i a.alone a.elsewhere ∙ sym (ap (λ y. opened_round false program_place y i) a.form)

  pub same_scopes : (q : Path) → scopes_below false w v q ≡ scopes_below false program_place v q
  same_scopes [] = refl
  same_scopes (i ∷ q) = ap (λ l. map (lower i) l ++ opened_round false w (out-Node v) i) (at (child v i) refl) ∙ ap (λ l. map (lower i) (given (child v i) [] (λ c. scopes_below (is_for_body (out-Node v) i) (place_below program_place v i) c q)) ++ l) (opened i)
    where
      at : (o : Option Node) → child v i ≡ o
          → given (child v i) [] (λ c. scopes_below (is_for_body (out-Node v) i) (place_below w v i) c q) ≡ given (child v i) [] (λ c. scopes_below (is_for_body (out-Node v) i) (place_below program_place v i) c q)
      at None e = ap (λ o. given o [] (λ c. scopes_below (is_for_body (out-Node v) i) (place_below w v i) c q)) e ∙ sym (ap (λ o. given o [] (λ c. scopes_below (is_for_body (out-Node v) i) (place_below program_place v i) c q)) e)
      at (Some c) e =
          ap (λ o. given o [] (λ c. scopes_below (is_for_body (out-Node v) i) (place_below w v i) c q)) e
          ∙ scopes_alike q (is_for_body (out-Node v) i) (place_below w v i) (place_below program_place v i) c (below i c e)
          ∙ sym (ap (λ o. given o [] (λ c. scopes_below (is_for_body (out-Node v) i) (place_below program_place v i) c q)) e)

  -- what stands at a path of it alone stands there, and as it does, unless it is the whole
  pub same_place : (q : Path) (x : Place) (n : Node) → place_at program_place v q ≡ Some (x, n) → (u : Place) × (place_at w v q ≡ Some (u, n)) × ((q ≡ []) ⊎ (core x.standing ≡ core u.standing))
  same_place [] x n h = (w, ap (λ (z : Place × Node). Some (w, z.1)) (some_same h), inl refl)
  same_place (i ∷ q) x n h = at (child v i) refl
    where
      nothing : (z : Place × Node) → Some z ≡ None → ⊥
      nothing z e = absurd (cc)

      at : (o : Option Node) → child v i ≡ o → (u : Place) × (place_at w v (i ∷ q) ≡ Some (u, n)) × (((i ∷ q) ≡ []) ⊎ (core x.standing ≡ core u.standing))
      at None e = absurd (nothing (x, n) (sym h ∙ no_place_under program_place v i q e))
      at (Some c) e =
          let (u, there, same) = place_alike q (place_below program_place v i) (place_below w v i) x c n (sym (below i c e)) (sym (place_under program_place v c i q e) ∙ h) in
          (u, place_under w v c i q e ∙ there, inr same)
