-- Ways in which names are bound.
use Rattle.std.proofs.Common.{◌≡◌, ℕ, zero, suc, Bool, true, false, not, ◌&&◌, ◌||◌, ◌==◌, IsTrue, ◌⊎◌, inl, inr, ⊎_elim, refl, sym, ap, ◌∙◌, subst, arith}
use Rattle.std.proofs.lemmas.Bool.Decides.{nat_tests}
use Rattle.swc_tree_scoping.specs.declared.places.Standing.{Standing}
use Rattle.swc_tree_scoping.specs.declared.places.Standing.TheVariants as standing
use Rattle.swc_base_resolver_program.specs.declared.names.Ways.{Ways}
use Rattle.swc_tree_node.specs.declared.kind.Kind.{Kind}
use Rattle.swc_tree_scoping.specs.Scopes.{is_binding}
use Rattle.swc_tree_spaces.specs.Spaces.{as_value, names_type}
use Rattle.swc_base_resolver_program.specs.Names.{Way, binding, both_ways, enum_member, has_way, is_way, member_ways, no_ways, takes_way, type_name, way_number, ways_by, with_way}
use Rattle.swc_base_resolver_program.specs.Walks.{gives}

pub or_cases : (a b : Bool) → IsTrue (a || b) → IsTrue a ⊎ IsTrue b
or_cases true b h = inl refl
or_cases false b h = inr h

pub or_left : (a b : Bool) → IsTrue a → IsTrue (a || b)
or_left true b h = refl
or_left false b h = absurd (grind arith)

pub or_right : (a b : Bool) → IsTrue b → IsTrue (a || b)
or_right true b h = refl
or_right false b h = h

pub both : (a b : Bool) → IsTrue (a && b) → IsTrue a × IsTrue b
both true b h = (refl, h)
both false b h = absurd (grind arith)

pub and_both : (a b : Bool) → IsTrue a → IsTrue b → IsTrue (a && b)
and_both true b h g = g
and_both false b h g = absurd (grind arith)

pub is_true : (b : Bool) → IsTrue b → b ≡ true
is_true true h = refl
is_true false h = absurd (grind arith)

pub not_true : (b : Bool) → IsTrue (not b) → ¬ IsTrue b
not_true true h g = grind arith
not_true false h g = grind arith

pub true_not : (b : Bool) → ¬ IsTrue b → IsTrue (not b)
true_not true h = absurd (h refl)
true_not false h = refl

-- one way more
no_number : (n : ℕ) → false ≡ (not (n == 0) && (0 == n))
no_number n = by_case (n == 0) refl
  where
    by_case : (b : Bool) → (n == 0) ≡ b → false ≡ (not (n == 0) && (0 == n))
    by_case true e = rw e refl
    by_case false e = let other : (0 == n) ≡ false = grind (arith, nat_tests, e) in rw (e, other) refl

none_way : (w : Ways) (q : Standing) → has_way w q ≡ ((not (way_number q == 0) && (0 == way_number q)) || has_way w q)
none_way w q = ap (λ b. b || has_way w q) (no_number (way_number q))

pub with_has : (w : Ways) (r q : Standing) → has_way (with_way w r) q ≡ (is_way r q || has_way w q)
with_has w standing.Variable q = variable q
  where
    variable : (q : Standing) → has_way (record w { variable = true }) q ≡ (is_way standing.Variable q || has_way w q)
    variable standing.Variable = refl
    variable _ = refl
with_has w standing.Lexical q = lexical q
  where
    lexical : (q : Standing) → has_way (record w { lexical = true }) q ≡ (is_way standing.Lexical q || has_way w q)
    lexical standing.Variable = refl
    lexical _ = refl
with_has w standing.Function q = function q
  where
    function : (q : Standing) → has_way (record w { function = true }) q ≡ (is_way standing.Function q || has_way w q)
    function standing.Variable = refl
    function _ = refl
with_has w standing.BlockFunction q = block_function q
  where
    block_function : (q : Standing) → has_way (record w { block_function = true }) q ≡ (is_way standing.BlockFunction q || has_way w q)
    block_function standing.Variable = refl
    block_function _ = refl
with_has w standing.SloppyFunction q = sloppy_function q
  where
    sloppy_function : (q : Standing) → has_way (record w { sloppy_function = true }) q ≡ (is_way standing.SloppyFunction q || has_way w q)
    sloppy_function standing.Variable = refl
    sloppy_function _ = refl
with_has w standing.Parameter q = parameter q
  where
    parameter : (q : Standing) → has_way (record w { parameter = true }) q ≡ (is_way standing.Parameter q || has_way w q)
    parameter standing.Variable = refl
    parameter _ = refl
with_has w standing.CatchParameter q = catch_parameter q
  where
    catch_parameter : (q : Standing) → has_way (record w { catch_parameter = true }) q ≡ (is_way standing.CatchParameter q || has_way w q)
    catch_parameter standing.Variable = refl
    catch_parameter _ = refl
with_has w standing.Import q = import q
  where
    import : (q : Standing) → has_way (record w { import = true }) q ≡ (is_way standing.Import q || has_way w q)
    import standing.Variable = refl
    import _ = refl
with_has w standing.FunctionName q = function_name q
  where
    function_name : (q : Standing) → has_way (record w { function_name = true }) q ≡ (is_way standing.FunctionName q || has_way w q)
    function_name standing.Variable = refl
    function_name _ = refl
with_has w standing.ClassName q = class_name q
  where
    class_name : (q : Standing) → has_way (record w { class_name = true }) q ≡ (is_way standing.ClassName q || has_way w q)
    class_name standing.Variable = refl
    class_name _ = refl
with_has w standing.Plain q = none_way w q
with_has w standing.Reference q = none_way w q
with_has w standing.Body q = none_way w q
with_has w standing.Branch q = none_way w q
with_has w standing.DefaultExport q = none_way w q
with_has w standing.Label q = none_way w q
with_has w standing.Imported q = none_way w q
with_has w standing.Exported q = none_way w q
with_has w standing.TypeName q = none_way w q
with_has w standing.TypeReference q = none_way w q

-- ways of one number are one
way_of : ℕ → Standing
way_of zero = standing.Plain
way_of (suc zero) = standing.Variable
way_of (suc (suc zero)) = standing.Lexical
way_of (suc (suc (suc zero))) = standing.Function
way_of (suc (suc (suc (suc zero)))) = standing.BlockFunction
way_of (suc (suc (suc (suc (suc zero))))) = standing.SloppyFunction
way_of (suc (suc (suc (suc (suc (suc zero)))))) = standing.Parameter
way_of (suc (suc (suc (suc (suc (suc (suc zero))))))) = standing.CatchParameter
way_of (suc (suc (suc (suc (suc (suc (suc (suc zero)))))))) = standing.Import
way_of (suc (suc (suc (suc (suc (suc (suc (suc (suc zero))))))))) = standing.FunctionName
way_of (suc (suc (suc (suc (suc (suc (suc (suc (suc (suc n)))))))))) = standing.ClassName

numbered : (r : Standing) → (way_number r ≡ 0) ⊎ (way_of (way_number r) ≡ r)
unfolding way_of
numbered standing.Variable = inr refl
numbered standing.Lexical = inr refl
numbered standing.Function = inr refl
numbered standing.BlockFunction = inr refl
numbered standing.SloppyFunction = inr refl
numbered standing.Parameter = inr refl
numbered standing.CatchParameter = inr refl
numbered standing.Import = inr refl
numbered standing.FunctionName = inr refl
numbered standing.ClassName = inr refl
numbered standing.Plain = inl refl
numbered standing.Reference = inl refl
numbered standing.Body = inl refl
numbered standing.Branch = inl refl
numbered standing.DefaultExport = inl refl
numbered standing.Label = inl refl
numbered standing.Imported = inl refl
numbered standing.Exported = inl refl
numbered standing.TypeName = inl refl
numbered standing.TypeReference = inl refl

pub one_way : (r q : Standing) → IsTrue (is_way r q) → r ≡ q
one_way r q h =
    let (some, same) = both (not (way_number q == 0)) (way_number r == way_number q) h in
    let e : way_number r ≡ way_number q = grind (arith, nat_tests, same) in
    let ne : way_number q ≡ 0 → ⊥ = λ z. grind (arith, nat_tests, some, z) in
    ⊎_elim (λ z. absurd (ne (sym e ∙ z))) (λ a. ⊎_elim (λ z. absurd (ne z)) (λ b. sym a ∙ ap way_of e ∙ b) (numbered q)) (numbered r)

-- no name is taken in no way
pub no_way : (r : Standing) → has_way no_ways r ≡ false
no_way standing.Variable = refl
no_way _ = refl

pub no_takes : (v : Way) → takes_way no_ways v ≡ false
no_takes (binding r) = no_way r
no_takes type_name = refl
no_takes enum_member = refl

-- ways of two
both_has : (a b : Ways) (r : Standing) → has_way (both_ways a b) r ≡ (has_way a r || has_way b r)
both_has a b standing.Variable = refl
both_has a b _ = refl

pub both_takes : (a b : Ways) (v : Way) → takes_way (both_ways a b) v ≡ (takes_way a v || takes_way b v)
both_takes a b (binding r) = both_has a b r
both_takes a b type_name = refl
both_takes a b enum_member = refl

-- those of an identifier, and those of a member
typed_has : (w : Ways) (n : Bool) (r : Standing) → has_way (record w { as_type = n }) r ≡ has_way w r
typed_has w n standing.Variable = refl
typed_has w n _ = refl

no_member : (r : Standing) → (with_way no_ways r).member ≡ false
no_member standing.Variable = refl
no_member _ = refl

or_none : (a b : Bool) → b ≡ false → (a || b) ≡ a
or_none true b e = refl
or_none false b e = e

pub by_takes : (r : Standing) (k : Kind) (v : Way) → takes_way (ways_by r (names_type r k)) v ≡ gives r k v
by_takes r k (binding q) = typed_has (with_way no_ways r) (names_type r k) q ∙ with_has no_ways r q ∙ or_none (is_way r q) (has_way no_ways q) (no_way q)
by_takes r k type_name = refl
by_takes r k enum_member = no_member r

member_has : (r : Standing) → has_way member_ways r ≡ false
member_has standing.Variable = refl
member_has _ = refl

pub member_takes : (v : Way) → IsTrue (takes_way member_ways v) → v ≡ enum_member
member_takes (binding r) h = let e : false ≡ true = sym (member_has r) ∙ is_true _ h in absurd (cc)
member_takes type_name h = absurd (grind arith)
member_takes enum_member h = refl

-- as what a name that is bound goes to its scope
pub way_self : (r : Standing) → is_binding r ≡ true → IsTrue (is_way r r)
way_self standing.Variable h = refl
way_self standing.Lexical h = refl
way_self standing.Function h = refl
way_self standing.BlockFunction h = refl
way_self standing.SloppyFunction h = refl
way_self standing.Parameter h = refl
way_self standing.CatchParameter h = refl
way_self standing.Import h = refl
way_self standing.FunctionName h = refl
way_self standing.ClassName h = refl
way_self _ h = absurd (cc)

pub bound_self : (r : Standing) → is_binding r ≡ true → as_value r ≡ r
bound_self standing.TypeName h = absurd (cc)
bound_self r h = refl

own_way : (r : Standing) → IsTrue (is_way r r) → is_binding r ≡ true
own_way standing.Variable h = refl
own_way standing.Lexical h = refl
own_way standing.Function h = refl
own_way standing.BlockFunction h = refl
own_way standing.SloppyFunction h = refl
own_way standing.Parameter h = refl
own_way standing.CatchParameter h = refl
own_way standing.Import h = refl
own_way standing.FunctionName h = refl
own_way standing.ClassName h = refl
own_way _ h = absurd (grind arith)

pub way_binds : (r q : Standing) → IsTrue (is_way r q) → is_binding q ≡ true
way_binds r q h = own_way q (subst (λ r. IsTrue (is_way r q)) (one_way r q h) h)
