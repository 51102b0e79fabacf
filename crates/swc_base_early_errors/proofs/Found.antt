-- What is looked for is what the definitions say.
use Rattle.std.proofs.Common.{◌≡◌, ℕ, ◌+◌, Bool, true, false, not, ◌&&◌, ◌||◌, IsTrue, ◌⊎◌, ◌↔◌, inl, inr, ⊎_elim, Option, Some, None, List, [], ◌∷◌, ◌++◌, refl, sym, ap, ◌∙◌, subst, arith}
use Rattle.std.specs.Prelude.{codes}
use Rattle.std.specs.Option.{option_map}
use Rattle.std.specs.Str.{bytes_eq}
use Rattle.std.proofs.lemmas.Bool.Decides.{nat_tests}
use Rattle.std.proofs.lemmas.Slice.Eq.{bytes_eq-Decides}
use Rattle.swc_tree_marks.specs.declared.ident.Ident.{Ident}
use Rattle.swc_tree_node.specs.declared.kind.Kind.{Kind}
use Rattle.swc_tree_node.specs.declared.slot.Role.{Role}
use Rattle.swc_tree_node.specs.declared.slot.Role.TheVariants as role
use Rattle.swc_tree_node.specs.declared.node.Node.{Node, Identifier, Tree, out-Node}
use Rattle.swc_tree_node.specs.declared.node.Node.TheOpen.{Node-F}
use Rattle.swc_tree_node.specs.declared.node.Node.TheVariants.{outs-Tree}
use Rattle.swc_tree_scoping.specs.declared.places.Standing.{Standing}
use Rattle.swc_tree_scoping.specs.declared.places.Standing.TheVariants as standing
use Rattle.swc_tree_scoping.specs.declared.places.Scope.TheVariants as scope
use Rattle.swc_tree_scoping.specs.declared.places.Place.{Place}
use Rattle.swc_tree_scoping.specs.Places.{Path, child, field_role, given, opened, place_at, place_below, program_place}
use Rattle.swc_tree_scoping.specs.Scopes.{is_binding, taker}
use Rattle.swc_tree_scoping.specs.Declares.{Bound, BoundAs, Declares, is_settled}
use Rattle.swc_tree_scoping.specs.Resolved.{is_global_value, is_script}
use Rattle.swc_tree_scoping.specs.WellScoped.{ExportsDeclared, IsDeclared, Stands}
use Rattle.swc_tree_scoping.proofs.Remarked.{tree_is}
use Rattle.swc_tree_scoping.proofs.Under.{no_place_under, place_under}
use Rattle.swc_tree_renaming.specs.Apart.{DeclaresNoGlobalValue, HasNoSloppy}
use Rattle.swc_base_resolver_program.specs.declared.names.ScopeNames.{ScopeNames}
use Rattle.swc_base_resolver_program.specs.declared.collect.Stage.TheVariants as stage
use Rattle.swc_base_resolver_program.specs.Lookup.{taker_in}
use Rattle.swc_base_resolver_program.specs.Names.{any_way, ways_in}
use Rattle.swc_base_resolver_program.specs.Walks.{Reaches, Takes, open_round}
use Rattle.swc_base_resolver_program.proofs.Declared.{any_is, nr, taker_open}
use Rattle.swc_base_resolver_program.proofs.Ways.{and_both, both, not_true, or_cases, or_left, or_right, true_not}
use Rattle.swc_base_scope_checks.specs.Asked.{Passes, Test, in_list, is_export_role, lists}
use Rattle.swc_base_scope_checks.proofs.Barriers.{found, passes_at}
use Rattle.swc_base_early_errors.specs.Asked.{is_eval_or_arguments, is_found, is_plain_reference, is_program, is_sloppy}
use Rattle.swc_base_early_errors.specs.declared.sought.Sought.{Sought}
use Rattle.swc_base_early_errors.specs.declared.sought.Sought.TheVariants as sought
use Rattle.swc_base_early_errors.proofs.Owned.{root_open, same_scope, taken_in}

-- an identifier of a program passes a test
abbrev pub IsThere : Test → Node → Type 0
IsThere test t = (p : Path) × (w : Place) × (k : Kind) × (i : Ident) × (place_at program_place t p ≡ Some (w, Identifier k i)) × IsTrue (test w i (in_list false t p) (open_round [] 0 program_place t p))

pub there_is : (test : Test) (t : Node) → Passes test false [] 0 program_place t ↔ IsThere test t
there_is test t = (
  λ h. let f = found test (in_list false t h.path) (open_round [] 0 program_place t h.path) h.place h.node h.passes in (h.path, h.place, f.kind, f.identifier, h.stands ∙ ap (λ d. Some (h.place, d)) f.is, f.passes),
  λ h. record { path = h.0; place = h.1; node = Identifier h.2 h.3; stands = h.4; passes = passes_at test (in_list false t h.0) (open_round [] 0 program_place t h.0) h.1 h.2 h.3 h.5 },
)

-- what is not found there holds everywhere
absent : (b : Bool) (test : Test) (t : Node) (Q : Type 0) → IsTrue b ↔ Passes test false [] 0 program_place t → ((IsThere test t → ⊥) → Q) → (Q → IsThere test t → ⊥) → IsTrue (not b) ↔ Q
absent b test t Q is forth back = (λ h. forth (λ p. not_true b h (is.1 ((there_is test t).1 p))), λ q. true_not b (λ h. back q ((there_is test t).0 (is.0 h))))

sloppy_is : (r : Standing) → IsTrue (is_sloppy r) → r ≡ standing.SloppyFunction
sloppy_is standing.SloppyFunction h = refl
sloppy_is _ h = absurd (cc)

reference_is : (r : Standing) → IsTrue (is_plain_reference r) → r ≡ standing.Reference
reference_is standing.Reference h = refl
reference_is _ h = absurd (cc)

-- by the number of the program
program_is : (o : Option ℕ) → IsTrue (is_program o) → o ≡ Some 0
program_is None h = absurd (cc)
program_is (Some k) h = let z : k ≡ 0 = grind (arith, nat_tests, h) in ap (λ k. Some k) z

mapped : (f : Path → ℕ) (o : Option Path) (k : ℕ) → option_map f o ≡ Some k → (u : Path) × (o ≡ Some u) × (f u ≡ k)
mapped f None k h = absurd (cc)
mapped f (Some u) k h = let same : f u ≡ k = cc in (u, refl, same)

-- an identifier in an export list, from any node
abbrev FromList : Place → Node → Path → Type 0
FromList w t p = (q below : Path) × (i : ℕ) × (v : Place) × (k : Kind) × (ts : List Node) × (p ≡ q ++ (i ∷ below)) × (place_at w t q ≡ Some (v, Tree k ts)) × (field_role k i ≡ role.ExportLocal)

export_is : (r : Role) → IsTrue (is_export_role r) → r ≡ role.ExportLocal
export_is role.ExportLocal h = refl
export_is _ h = absurd (cc)

list_at : (w : Place) (t : Node) (i : ℕ) (p : Path) → IsTrue (lists (out-Node t) i) → FromList w t (i ∷ p)
list_at w t i p h = at (out-Node t) refl h
  where
    at : (y : Node-F Node) → out-Node t ≡ y → IsTrue (lists y i) → FromList w t (i ∷ p)
    at (Node-F.Tree k ts) o h = ([], p, i, w, k, ts, refl, ap (λ t. Some (w, t)) (tree_is t k ts o), export_is (field_role k i) h)
    at _ o h = absurd (cc)

one_pair : (a b : Place × Node) → Some a ≡ Some b → a ≡ b
one_pair a b e = cc

list_here : (w : Place) (t : Node) (i : ℕ) (v : Place) (k : Kind) (ts : List Node) → ◌≡◌ {A = Option (Place × Node)} (Some (w, t)) (Some (v, Tree k ts)) → field_role k i ≡ role.ExportLocal → IsTrue (lists (out-Node t) i)
list_here w t i v k ts e r =
    let same : t ≡ Tree k ts = ap (λ (q : Place × Node). q.1) (one_pair (w, t) (v, Tree k ts) e) in
    ap (λ t. lists (out-Node t) i) same ∙ ap (λ y. lists y i) (outs-Tree k ts) ∙ ap is_export_role r

pub listed_is : (p : Path) (x : Bool) (w : Place) (t : Node) → IsTrue (in_list x t p) ↔ (IsTrue x ⊎ FromList w t p)
listed_is [] x w t = (inl, λ h. ⊎_elim (λ a. a) (λ a. absurd (no_path a.0 a.2 a.1 a.6)) h)
  where
    no_path : (q : Path) (i : ℕ) (below : Path) → [] ≡ q ++ (i ∷ below) → ⊥
    no_path [] i below e = absurd (cc)
    no_path (j ∷ q) i below e = absurd (cc)
listed_is (i ∷ p) x w t = at (child t i) refl (λ c. listed_is p (x || lists (out-Node t) i) (place_below w t i) c)
  where
    head : (j : ℕ) (q r : Path) → i ∷ p ≡ j ∷ q ++ r → (i ≡ j) × (p ≡ q ++ r)
    head j q r e = (cc, cc)

    from : (c : Node) → child t i ≡ Some c → FromList w t (i ∷ p) → IsTrue (lists (out-Node t) i) ⊎ FromList (place_below w t i) c p
    from c g ([], below, j, v, k, ts, is, at, r) = let same : j ≡ i = cc in inl (list_here w t i v k ts at (ap (field_role k) (sym same) ∙ r))
    from c g (j ∷ q, below, l, v, k, ts, is, at, r) =
        let (same, rest) = head j q (l ∷ below) is in
        inr (q, below, l, v, k, ts, rest, sym (place_under w t c i q g) ∙ ap (λ i. place_at w t (i ∷ q)) same ∙ at, r)

    gone : child t i ≡ None → FromList w t (i ∷ p) → IsTrue (lists (out-Node t) i)
    gone g ([], below, j, v, k, ts, is, at, r) = let same : j ≡ i = cc in list_here w t i v k ts at (ap (field_role k) (sym same) ∙ r)
    gone g (j ∷ q, below, l, v, k, ts, is, at, r) = let same : j ≡ i = cc in let z = sym (no_place_under w t i q g) ∙ ap (λ i. place_at w t (i ∷ q)) (sym same) ∙ at in absurd (cc)

    down : (c : Node) → child t i ≡ Some c → FromList (place_below w t i) c p → FromList w t (i ∷ p)
    down c g (q, below, l, v, k, ts, is, at, r) = (i ∷ q, below, l, v, k, ts, ap (λ p. i ∷ p) is, place_under w t c i q g ∙ at, r)

    at : (o : Option Node) → child t i ≡ o → ((c : Node) → IsTrue (in_list (x || lists (out-Node t) i) c p) ↔ (IsTrue (x || lists (out-Node t) i) ⊎ FromList (place_below w t i) c p))
        → IsTrue (given o (x || lists (out-Node t) i) (λ c. in_list (x || lists (out-Node t) i) c p)) ↔ (IsTrue x ⊎ FromList w t (i ∷ p))
    at None g below = (
      λ h. ⊎_elim inl (λ a. inr (list_at w t i p a)) (or_cases x (lists (out-Node t) i) h),
      λ h. ⊎_elim (λ a. or_left x (lists (out-Node t) i) a) (λ a. or_right x (lists (out-Node t) i) (gone g a)) h,
    )
    at (Some c) g below = (
      λ h. ⊎_elim (λ a. ⊎_elim inl (λ b. inr (list_at w t i p b)) (or_cases x (lists (out-Node t) i) a)) (λ a. inr (down c g a)) ((below c).0 h),
      λ h. (below c).1 (⊎_elim (λ a. inl (or_left x (lists (out-Node t) i) a)) (λ a. ⊎_elim (λ b. inl (or_right x (lists (out-Node t) i) b)) inr (from c g a)) h),
    )

module _ (tables : List ScopeNames) (t : Node) where
  abbrev pub Sees : Sought → Test
  Sees s w i listed env = is_found s (ways_in tables) w i listed env

  pub no_sloppy_is : (b : Bool) → IsTrue b ↔ Passes (Sees sought.SloppyFunction) false [] 0 program_place t → IsTrue (not b) ↔ HasNoSloppy t
  no_sloppy_is b is = absent b (Sees sought.SloppyFunction) t (HasNoSloppy t) is
      (λ none p w k i at e. none (p, w, k, i, at, ap is_sloppy e)) (λ none (p, w, k, i, at, h). none p w k i at (sloppy_is w.standing h))

  named_by : List ℕ → Path → Standing → Type 0
  named_by x p r = Stands t p r x

  word_in : (x : List ℕ) → IsTrue (is_eval_or_arguments x) → (x ≡ codes "eval") ⊎ (x ≡ codes "arguments")
  word_in x h = ⊎_elim (λ a. inl ((bytes_eq-Decides x (codes "eval")).0 a)) (λ a. inr ((bytes_eq-Decides x (codes "arguments")).0 a)) (or_cases (bytes_eq x (codes "eval")) (bytes_eq x (codes "arguments")) h)

  eval_is : (x : List ℕ) → x ≡ codes "eval" → IsTrue (is_eval_or_arguments x)
  eval_is x e = or_left (bytes_eq x (codes "eval")) (bytes_eq x (codes "arguments")) ((bytes_eq-Decides x (codes "eval")).1 e)

  arguments_is : (x : List ℕ) → x ≡ codes "arguments" → IsTrue (is_eval_or_arguments x)
  arguments_is x e = or_right (bytes_eq x (codes "eval")) (bytes_eq x (codes "arguments")) ((bytes_eq-Decides x (codes "arguments")).1 e)

  declared_word : (x : List ℕ) → IsTrue (is_eval_or_arguments x) → IsDeclared t x → IsThere (Sees sought.EvalOrArguments) t
  declared_word x word (p, r, b) = (
    p,
    b.at.place,
    b.at.kind,
    b.at.identifier,
    b.at.stands,
    and_both (is_binding b.at.place.standing) (is_eval_or_arguments b.at.identifier.sym) (subst (λ r. IsTrue (is_binding r)) (sym b.at.stands_so) b.binds) (subst (λ x. IsTrue (is_eval_or_arguments x)) (sym b.at.named) word),
  )

  pub no_eval_is : (b : Bool) → IsTrue b ↔ Passes (Sees sought.EvalOrArguments) false [] 0 program_place t → IsTrue (not b) ↔ (¬ IsDeclared t (codes "eval") × ¬ IsDeclared t (codes "arguments"))
  no_eval_is b is = absent b (Sees sought.EvalOrArguments) t (¬ IsDeclared t (codes "eval") × ¬ IsDeclared t (codes "arguments")) is
      (λ none. (λ d. none (declared_word (codes "eval") (eval_is (codes "eval") refl) d), λ d. none (declared_word (codes "arguments") (arguments_is (codes "arguments") refl) d)))
      (λ none (p, w, k, i, at, h).
      let a = both (is_binding w.standing) (is_eval_or_arguments i.sym) h in
      ⊎_elim
      (λ e. none.0 (p, w.standing, record { at = record { place = w; kind = k; identifier = i; stands = at; stands_so = refl; named = e }; binds = a.0 }))
      (λ e. none.1 (p, w.standing, record { at = record { place = w; kind = k; identifier = i; stands = at; stands_so = refl; named = e }; binds = a.0 }))
      (word_in i.sym a.1))

  module _ (opens : opened program_place t ≡ Some scope.Program) where
    pub no_global_is : (b : Bool) → IsTrue (is_script t) → IsTrue b ↔ Passes (Sees sought.GlobalValue) false [] 0 program_place t → IsTrue (not b) ↔ DeclaresNoGlobalValue t
    no_global_is b script is = absent b (Sees sought.GlobalValue) t (DeclaresNoGlobalValue t) is
        (λ none p w k i _ at binds global taken.
        none (
          p,
          w,
          k,
          i,
          at,
          and_both (is_binding w.standing) (is_global_value i.sym && is_program (taker_in w.standing (open_round [] 0 program_place t p))) binds
              (and_both (is_global_value i.sym) (is_program (taker_in w.standing (open_round [] 0 program_place t p))) global (ap is_program (taken_in t opens w.standing p ∙ ap (option_map (nr t opens)) taken))),
        ))
        (λ none (p, w, k, i, at, h).
        let a = both (is_binding w.standing) (is_global_value i.sym && is_program (taker_in w.standing (open_round [] 0 program_place t p))) h in
        let c = both (is_global_value i.sym) (is_program (taker_in w.standing (open_round [] 0 program_place t p))) a.1 in
        let (u, taken, number) = mapped (nr t opens) (taker w.standing t p) 0 (sym (taken_in t opens w.standing p) ∙ program_is (taker_in w.standing (open_round [] 0 program_place t p)) c.1) in
        let root : u ≡ [] = same_scope t opens u [] (taker_open t opens w.standing p u taken) (root_open t opens) number in
        none p w k i script at a.0 c.0 (taken ∙ ap (λ u. Some u) root))

    module _ (binds : Takes tables (Reaches stage.Bind [] 0 program_place t)) (settled : HasNoSloppy t) where
      -- where no plain function stands in a block the program declares what it takes
      no_sloppy_bound : (x : List ℕ) → Bound t [] standing.SloppyFunction x → ⊥
      no_sloppy_bound x b = settled b.path b.place b.kind b.identifier b.stands b.stands_so

      settled_declares : (x : List ℕ) → Declares t [] x → BoundAs is_settled t [] x
      settled_declares x (inl h) = h
      settled_declares x (inr (inl (b, h))) = absurd (no_sloppy_bound x b)
      settled_declares x (inr (inr h)) = absurd (settled h.bound.path h.bound.place h.bound.kind h.bound.identifier h.bound.stands h.bound.stands_so)

      declares_is : (x : List ℕ) → IsTrue (any_way is_settled (ways_in tables 0 x)) ↔ Declares t [] x
      declares_is x = let (forth, back) = any_is t opens tables binds is_settled [] x (root_open t opens) in (λ h. inl (forth h), λ h. back (settled_declares x h))

      decides : (b : Bool) (x : List ℕ) → any_way is_settled (ways_in tables 0 x) ≡ b → (IsTrue (not b) → ⊥) → Declares t [] x
      decides true x e h = (declares_is x).0 e
      decides false x e h = absurd (h refl)

      pub exports_are : (b : Bool) → IsTrue b ↔ Passes (Sees sought.UndeclaredExport) false [] 0 program_place t → IsTrue (not b) ↔ ExportsDeclared t
      exports_are b is = absent b (Sees sought.UndeclaredExport) t (ExportsDeclared t) is
          (λ none p x listed at.
          subst (Declares t []) at.named (decides (any_way is_settled (ways_in tables 0 at.identifier.sym)) at.identifier.sym refl
          (λ h. none (
            p,
            at.place,
            at.kind,
            at.identifier,
            at.stands,
            and_both (in_list false t p) (is_plain_reference at.place.standing && not (any_way is_settled (ways_in tables 0 at.identifier.sym))) ((listed_is p false program_place t).1 (inr listed))
                (and_both (is_plain_reference at.place.standing) (not (any_way is_settled (ways_in tables 0 at.identifier.sym))) (ap is_plain_reference at.stands_so) h),
          ))))
          (λ all (p, w, k, i, at, h).
          let a = both (in_list false t p) (is_plain_reference w.standing && not (any_way is_settled (ways_in tables 0 i.sym))) h in
          let c = both (is_plain_reference w.standing) (not (any_way is_settled (ways_in tables 0 i.sym))) a.1 in
          ⊎_elim (λ z. absurd (cc))
          (λ listed.
          let stands : Stands t p standing.Reference i.sym = record { place = w; kind = k; identifier = i; stands = at; stands_so = reference_is w.standing c.0; named = refl } in
          not_true (any_way is_settled (ways_in tables 0 i.sym)) c.1 ((declares_is i.sym).1 (all p i.sym listed stands)))
          ((listed_is p false program_place t).0 a.0))
