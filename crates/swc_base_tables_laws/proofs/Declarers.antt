-- A binding has one scope that declares it, and this one declares its name.
use Rattle.std.proofs.Common.{◌≡◌, ℕ, inl, inr, IsTrue, Some, List, refl, sym, ap, ◌∙◌, subst}
use Rattle.swc_tree_node.specs.declared.node.Node.{Node}
use Rattle.swc_tree_scoping.specs.declared.places.Standing.{Standing}
use Rattle.swc_tree_scoping.specs.declared.places.Standing.TheVariants as standing
use Rattle.swc_tree_scoping.specs.Places.{Path, program_place}
use Rattle.swc_tree_scoping.specs.Scopes.{is_binding, is_taken, rounds, scope_at, taker}
use Rattle.swc_tree_scoping.specs.Declares.{Bound, DeclaredBy, Declares, Hoists}
use Rattle.swc_tree_scoping.specs.WellScoped.{IsClean, IsDeclared, Stands}
use Rattle.swc_tree_renaming.proofs.Core.{first_in, taken_binds}

pub some_same : {X : Type 0} (a b : X) → Some a ≡ Some b → a ≡ b
some_same a b e = cc

abbrev pub stands_of : (t : Node) (s : Path) (r : Standing) (x : List ℕ) (b : Bound t s r x) → Stands t b.path r x
stands_of t s r x b = record { place = b.place; kind = b.kind; identifier = b.identifier; stands = b.stands; stands_so = b.stands_so; named = b.named }

abbrev pub bound_by : (t : Node) → IsClean t → (p s : Path) (r : Standing) (x : List ℕ) → Stands t p r x → taker r t p ≡ Some s → Bound t s r x
bound_by t clean p s r x st e = record {
  path = p;
  place = st.place;
  kind = st.kind;
  identifier = st.identifier;
  stands = st.stands;
  stands_so = st.stands_so;
  named = st.named;
  unmarked = clean p st.place st.kind st.identifier st.stands;
  taken = e;
}

pub binding_at : (t : Node) (r : Standing) (p s : Path) → taker r t p ≡ Some s → IsTrue (is_binding r)
binding_at t r p s e = let (whole, there, h) = first_in (λ s. is_taken r (scope_at program_place t s.0)) (rounds program_place t p) s e in taken_binds r (scope_at program_place t s) h

-- what is taken is declared
pub bound_declared : (t : Node) (s : Path) (r : Standing) (x : List ℕ) → Bound t s r x → IsDeclared t x
bound_declared t s r x b = (b.path, r, record { at = stands_of t s r x b; binds = binding_at t r b.path s b.taken })

pub declares_declared : (t : Node) (s : Path) (x : List ℕ) → Declares t s x → IsDeclared t x
declares_declared t s x (inl (r, ways, b)) = bound_declared t s r x b
declares_declared t s x (inr (inl (b, h))) = bound_declared t s standing.SloppyFunction x b
declares_declared t s x (inr (inr h)) = bound_declared t h.block standing.SloppyFunction x h.bound

-- what declares a binding declares its name
pub declarer_declares : (t : Node) → IsClean t → (p s : Path) (r : Standing) (x : List ℕ) → Stands t p r x → DeclaredBy t p r x s → Declares t s x
declarer_declares t clean p s standing.SloppyFunction x st (b, taken, inl (h, reached)) = inr (inr (record { block = b; bound = bound_by t clean p b standing.SloppyFunction x st taken; hoists = h; reaches = reached }))
declarer_declares t clean p s standing.SloppyFunction x st (b, taken, inr (n, is)) =
    inr (inl (bound_by t clean p s standing.SloppyFunction x st (taken ∙ ap (λ b. Some b) is), subst (λ b. ¬ Hoists t b x) is n))
declarer_declares t clean p s r x st d = inl (r, refl, bound_by t clean p s r x st d)

-- and no other scope does
pub one_declarer : (t : Node) (p s z : Path) (r : Standing) (x : List ℕ) → DeclaredBy t p r x s → DeclaredBy t p r x z → s ≡ z
one_declarer t p s z standing.SloppyFunction x (b, taken, inl (h, reached)) (c, too, inl (g, other)) = some_same s z (sym reached ∙ other)
one_declarer t p s z standing.SloppyFunction x (b, taken, inl (h, reached)) (c, too, inr (n, is)) = absurd (n (subst (λ b. Hoists t b x) (some_same b c (sym taken ∙ too)) h))
one_declarer t p s z standing.SloppyFunction x (b, taken, inr (n, is)) (c, too, inl (h, reached)) = absurd (n (subst (λ b. Hoists t b x) (some_same c b (sym too ∙ taken)) h))
one_declarer t p s z standing.SloppyFunction x (b, taken, inr (n, is)) (c, too, inr (m, other)) = sym is ∙ some_same b c (sym taken ∙ too) ∙ other
one_declarer t p s z r x d e = some_same s z (sym d ∙ e)
