-- No name is declared twice, and no parameter, exactly if no two claims clash.
use Rattle.std.proofs.Common.{◌≡◌, ◌≢◌, ℕ, Bool, true, not, IsTrue, ◌⊎◌, ◌↔◌, inl, inr, ⊎_elim, Some, List, [], ◌∷◌, refl, sym, ap, ◌∙◌, subst}
use Rattle.swc_tree_node.specs.declared.node.Node.{Node}
use Rattle.swc_tree_scoping.specs.declared.places.Standing.{Standing}
use Rattle.swc_tree_scoping.specs.declared.places.Standing.TheVariants as standing
use Rattle.swc_tree_scoping.specs.declared.places.Scope.TheVariants as scope
use Rattle.swc_tree_scoping.specs.Places.{Path, opened, program_place}
use Rattle.swc_tree_scoping.specs.Scopes.{taker}
use Rattle.swc_tree_scoping.specs.WellScoped.{IsLexical, NoneTwice, Stands, is_module}
use Rattle.swc_tree_renaming.specs.Apart.{HasNoSloppy, NoParameterRepeated}
use Rattle.swc_tree_renaming.proofs.Core.{declared_taker, taker_declares}
use Rattle.swc_base_resolver_program.proofs.Declared.{nr, taker_open}
use Rattle.swc_base_resolver_program.proofs.Ways.{not_true, or_cases, or_left, true_not}
use Rattle.swc_base_early_errors.specs.declared.claims.Rule.TheVariants as rule
use Rattle.swc_base_early_errors.specs.Claims.{ClaimsAt, Twice, is_alone, is_function_parameter}
use Rattle.swc_base_early_errors.proofs.Noted.{same_or_not}
use Rattle.swc_base_early_errors.proofs.Owned.{alone_is, claims_it, owned, same_scope, taken_binds}

one_path : (p q : Path) → (p ≡ q) ⊎ (p ≢ q)
one_path [] [] = inl refl
one_path [] (j ∷ q) = inr (λ e. absurd (cc))
one_path (i ∷ p) [] = inr (λ e. absurd (cc))
one_path (i ∷ p) (j ∷ q) =
    ⊎_elim (λ e. ⊎_elim (λ f. inl (ap (λ i. i ∷ p) e ∙ ap (λ p. j ∷ p) f)) (λ ne. inr (λ f. ne (let z : p ≡ q = cc in z))) (one_path p q)) (λ ne. inr (λ f. ne (let z : i ≡ j = cc in z))) (same_or_not i j)

parameter_is : (r : Standing) → IsTrue (is_function_parameter r) → r ≡ standing.Parameter
parameter_is standing.Parameter h = refl
parameter_is _ h = absurd (cc)

-- a name is declared twice or not
pub decided : (b : Bool) (P Q : Type 0) → IsTrue b ↔ P → ((P → ⊥) → Q) → (Q → P → ⊥) → IsTrue (not b) ↔ Q
decided b P Q is forth back = (λ h. forth (λ p. not_true b h (is.1 p)), λ q. true_not b (λ h. back q (is.0 h)))

module _ (t : Node) (opens : opened program_place t ≡ Some scope.Program) (settled : HasNoSloppy t) where
  stands_settled : (p : Path) (r : Standing) (x : List ℕ) → Stands t p r x → r ≢ standing.SloppyFunction
  stands_settled p r x at = λ e. settled p at.place at.kind at.identifier at.stands (at.stands_so ∙ e)

  none_two : (Twice (ClaimsAt (rule.Lexical (is_module t)) [] 0 program_place t) → ⊥) → NoneTwice t
  none_two none name s p q r u a b da db lexical = ⊎_elim inl
      (λ ne.
      let ta : taker r t p ≡ Some s = declared_taker t r p s name (stands_settled p r name a.at) da in
      let tb : taker u t q ≡ Some s = declared_taker t u q s name (stands_settled q u name b.at) db in
      absurd (none (record {
        path = p;
        other = q;
        first = record { scope = nr t opens s; alone = is_alone (rule.Lexical (is_module t)) r (nr t opens s) };
        second = record { scope = nr t opens s; alone = is_alone (rule.Lexical (is_module t)) u (nr t opens s) };
        name = name;
        one = claims_it t opens (rule.Lexical (is_module t)) p name r s a.at refl ta;
        two = claims_it t opens (rule.Lexical (is_module t)) q name u s b.at refl tb;
        apart = ne;
        clash = (refl, or_left (is_alone (rule.Lexical (is_module t)) r (nr t opens s)) (is_alone (rule.Lexical (is_module t)) u (nr t opens s)) ((alone_is t opens r p s ta).1 lexical));
      })))
      (one_path p q)

  -- two claims of one scope, of which the first suffers no other
  same_twice : NoneTwice t → (name : List ℕ) (p q s : Path) (r u : Standing) → Stands t p r name → Stands t q u name → taker r t p ≡ Some s → taker u t q ≡ Some s → IsLexical t p r → p ≡ q
  same_twice none name p q s r u a b ta tb lexical = ⊎_elim (λ e. e) (λ f. absurd (stands_settled p r name a f.0))
      (none name s p q r u (record { at = a; binds = taken_binds t opens r p s ta }) (record { at = b; binds = taken_binds t opens u q s tb }) (taker_declares t r p s name (stands_settled p r name a) ta)
      (taker_declares t u q s name (stands_settled q u name b) tb) lexical)

  no_two : NoneTwice t → Twice (ClaimsAt (rule.Lexical (is_module t)) [] 0 program_place t) → ⊥
  no_two none w =
      let a = owned t opens (rule.Lexical (is_module t)) w.path w.first w.name w.one in
      let b = owned t opens (rule.Lexical (is_module t)) w.other w.second w.name w.two in
      let one : a.scope ≡ b.scope = same_scope t opens a.scope b.scope (taker_open t opens a.standing w.path a.scope a.taken) (taker_open t opens b.standing w.other b.scope b.taken) (a.number ∙ w.clash.0 ∙ sym b.number) in
      let flag_a : is_alone (rule.Lexical (is_module t)) a.standing (nr t opens a.scope) ≡ w.first.alone = ap (is_alone (rule.Lexical (is_module t)) a.standing) a.number ∙ a.alone in
      let flag_b : is_alone (rule.Lexical (is_module t)) b.standing (nr t opens b.scope) ≡ w.second.alone = ap (is_alone (rule.Lexical (is_module t)) b.standing) b.number ∙ b.alone in
      ⊎_elim
      (λ h. w.apart (same_twice none w.name w.path w.other b.scope a.standing b.standing a.at b.at (a.taken ∙ ap (λ s. Some s) one) b.taken ((alone_is t opens a.standing w.path a.scope a.taken).0 (subst IsTrue (sym flag_a) h))))
      (λ h. w.apart (sym (same_twice none w.name w.other w.path a.scope b.standing a.standing b.at a.at (b.taken ∙ ap (λ s. Some s) (sym one)) a.taken ((alone_is t opens b.standing w.other b.scope b.taken).0 (subst IsTrue (sym flag_b) h)))))
      (or_cases w.first.alone w.second.alone w.clash.1)

  pub none_twice_is : (b : Bool) → IsTrue b ↔ Twice (ClaimsAt (rule.Lexical (is_module t)) [] 0 program_place t) → IsTrue (not b) ↔ NoneTwice t
  none_twice_is b is = decided b (Twice (ClaimsAt (rule.Lexical (is_module t)) [] 0 program_place t)) (NoneTwice t) is none_two no_two

module _ (t : Node) (opens : opened program_place t ≡ Some scope.Program) where
  none_repeated : (Twice (ClaimsAt rule.Parameters [] 0 program_place t) → ⊥) → NoParameterRepeated t
  none_repeated none name f p q a b ta tb = ⊎_elim (λ e. e)
      (λ ne. absurd (none (record {
        path = p;
        other = q;
        first = record { scope = nr t opens f; alone = true };
        second = record { scope = nr t opens f; alone = true };
        name = name;
        one = claims_it t opens rule.Parameters p name standing.Parameter f a refl ta;
        two = claims_it t opens rule.Parameters q name standing.Parameter f b refl tb;
        apart = ne;
        clash = (refl, refl);
      })))
      (one_path p q)

  no_repeated : NoParameterRepeated t → Twice (ClaimsAt rule.Parameters [] 0 program_place t) → ⊥
  no_repeated none w =
      let a = owned t opens rule.Parameters w.path w.first w.name w.one in
      let b = owned t opens rule.Parameters w.other w.second w.name w.two in
      let one : b.scope ≡ a.scope = same_scope t opens b.scope a.scope (taker_open t opens b.standing w.other b.scope b.taken) (taker_open t opens a.standing w.path a.scope a.taken) (b.number ∙ sym w.clash.0 ∙ sym a.number) in
      let is_a = parameter_is a.standing a.counts in
      let is_b = parameter_is b.standing b.counts in
      w.apart (none w.name a.scope w.path w.other (subst (λ r. Stands t w.path r w.name) is_a a.at) (subst (λ r. Stands t w.other r w.name) is_b b.at) (ap (λ r. taker r t w.path) (sym is_a) ∙ a.taken)
      (ap (λ r. taker r t w.other) (sym is_b) ∙ b.taken ∙ ap (λ s. Some s) one))

  pub none_repeated_is : (b : Bool) → IsTrue b ↔ Twice (ClaimsAt rule.Parameters [] 0 program_place t) → IsTrue (not b) ↔ NoParameterRepeated t
  none_repeated_is b is = decided b (Twice (ClaimsAt rule.Parameters [] 0 program_place t)) (NoParameterRepeated t) is none_repeated no_repeated
