-- Ids and their scopes: trees that meet a clause of what is well-scoped, and trees that do not.
use Rattle.std.specs.Str.{bytes_eq}
use Rattle.std.proofs.Common.{◌≡◌, ℕ, true, IsTrue, ◌⊎◌, inl, inr, Some, List, [], ◌∷◌, Contains, codes, refl, sym, ap, ◌∙◌, subst, arith}
use Rattle.swc_tree_marks.specs.declared.ident.Ident.{Ident}
use Rattle.swc_tree_node.specs.declared.kind.Kind.TheVariants as kind
use Rattle.swc_tree_node.specs.declared.kind.Word.TheVariants as word
use Rattle.swc_tree_scoping.specs.declared.places.Standing.TheVariants as standing
use Rattle.swc_tree_scoping.specs.Places.{Path, program_place}
use Rattle.swc_tree_scoping.specs.Scopes.{Round, is_reference}
use Rattle.swc_tree_scoping.specs.Declares.{DeclaredBy, Declares}
use Rattle.swc_tree_scoping.specs.Readings.{by_ids, id_name}
use Rattle.swc_tree_scoping.specs.WellScoped.{EachInOneScope, FreeApart, InRegion, IsClean, IsDeclared, IsFree, OneScope}
use Rattle.swc_tree_scoping_rows.proofs.Drawn.{Drawing, Drawing.name, draw, rounds_is, stands_drawn}
use Rattle.swc_tree_scoping_rows.proofs.Names.{every_name, stands_there}
use Rattle.swc_tree_scoping_rows.proofs.Sites.{apart_by, at, binds, block, declaration, each_binds, each_stands, identifier, ids, ids_are, in_block, is_bound, module_of, one, taken, two, use_of}

abbrev pub a1 : Ident
a1 = identifier (codes "a") (1 ∷ [])

abbrev a2 : Ident
a2 = identifier (codes "a") (2 ∷ [])

abbrev b2 : Ident
b2 = identifier (codes "b") (2 ∷ [])

abbrev a : Ident
a = identifier (codes "a") []

-- as an id is read
abbrev as_name : Ident → Ident
as_name i = record i { sym = id_name i; ctxt = [] }

-- the declared name of `let` as the first statement; what stands in an expression statement, the second
abbrev pub declared_there : Path
declared_there = 1 ∷ 0 ∷ 2 ∷ 0 ∷ 1 ∷ []

abbrev pub used_there : Path
used_there = 1 ∷ 1 ∷ 1 ∷ []

-- `let a#1; a#1;`
abbrev pub declared_and_used : Drawing
declared_and_used = module_of (two (declaration word.Let a1) (use_of a1))

abbrev E : Drawing
E = ids declared_and_used

pub declares_it : Declares (draw E) [] (id_name a1)
declares_it = inl (standing.Lexical, refl, is_bound E [] declared_there (at standing.Lexical) kind.BindingIdent (as_name a1) refl refl refl)

in_region : InRegion (draw E) [] (id_name a1) used_there
in_region = (true, subst (λ (l : List Round). Contains l ([], true)) (sym (rounds_is used_there program_place E)) (0, omega arith, refl), declares_it)

one_scope_of_it : OneScope (draw E) (id_name a1)
one_scope_of_it = record {
  scope = [];
  bindings = λ p r b. each_binds E (λ p r x. DeclaredBy (draw E) p r (id_name a1) []) (λ b. taken E standing.Lexical declared_there (Some []) refl, (λ b. absurd (cc), tt)) p r (id_name a1) b;
  references = λ p r f s. each_stands E (λ p r x. IsTrue (is_reference r) → InRegion (draw E) [] (id_name a1) p) (λ f. absurd (cc), (λ f. in_region, tt)) p r (id_name a1) s f;
}

pub has_one_scope : EachInOneScope (by_ids (draw declared_and_used))
has_one_scope = subst EachInOneScope (sym (ids_are declared_and_used)) (λ x (p, r, b). each_binds E (λ p r x. OneScope (draw E) x) (λ b. one_scope_of_it, (λ b. absurd (cc), tt)) p r x b)

-- `let a#1; { let a#1; }` has it in two
abbrev declared_in_two : Drawing
declared_in_two = module_of (two (declaration word.Let a1) (block (one (declaration word.Let a1))))

abbrev F : Drawing
F = ids declared_in_two

two_scopes : EachInOneScope (draw F) → ⊥
two_scopes h =
    let b = binds F declared_there (at standing.Lexical) kind.BindingIdent (as_name a1) refl refl in
    let c = binds F (1 ∷ 1 ∷ 1 ∷ 0 ∷ 2 ∷ 0 ∷ 1 ∷ []) (in_block standing.Lexical) kind.BindingIdent (as_name a1) refl refl in
    let o = h (id_name a1) (declared_there, standing.Lexical, b) in
    let outer : Some [] ≡ Some o.scope = sym (taken F standing.Lexical declared_there (Some []) refl) ∙ o.bindings declared_there standing.Lexical b in
    let inner : Some (1 ∷ 1 ∷ []) ≡ Some o.scope = sym (taken F standing.Lexical (1 ∷ 1 ∷ 1 ∷ 0 ∷ 2 ∷ 0 ∷ 1 ∷ []) (Some (1 ∷ 1 ∷ [])) refl) ∙ o.bindings (1 ∷ 1 ∷ 1 ∷ 0 ∷ 2 ∷ 0 ∷ 1 ∷ []) standing.Lexical c in
    absurd (cc)

pub has_two_scopes : ¬ EachInOneScope (by_ids (draw declared_in_two))
has_two_scopes h = two_scopes (subst EachInOneScope (ids_are declared_in_two) h)

-- `a#1; b#2;`
abbrev pub two_free : Ident → Ident → Drawing
two_free i j = module_of (two (use_of i) (use_of j))

which : (i j k : Ident) → IsFree (draw (two_free i j)) k → (k ≡ i) ⊎ (k ≡ j)
which i j k f = every_name (two_free i j) (λ q. (q.identifier ≡ i) ⊎ (q.identifier ≡ j)) (inl refl, (inr refl, tt)) f.path f.place f.kind k f.stands

pub free_ones_apart : FreeApart (draw (two_free a1 b2))
free_ones_apart = record { apart = λ i j f g e. by_cases i j e (which a1 b2 i f) (which a1 b2 j g); marked = λ i f n. unmarked i n (which a1 b2 i f) }
  where
    by_cases : (i j : Ident) → i.sym ≡ j.sym → (i ≡ a1) ⊎ (i ≡ b2) → (j ≡ a1) ⊎ (j ≡ b2) → i.ctxt ≡ j.ctxt
    by_cases i j e (inl f) (inl g) = ap (λ i. i.ctxt) (f ∙ sym g)
    by_cases i j e (inr f) (inr g) = ap (λ i. i.ctxt) (f ∙ sym g)
    by_cases i j e (inl f) (inr g) = absurd (apart_by (λ l. bytes_eq l (codes "a")) (sym (ap (λ i. i.sym) f) ∙ e ∙ ap (λ i. i.sym) g) refl refl)
    by_cases i j e (inr f) (inl g) = absurd (apart_by (λ l. bytes_eq l (codes "b")) (sym (ap (λ i. i.sym) f) ∙ e ∙ ap (λ i. i.sym) g) refl refl)

    unmarked : (i : Ident) → i.ctxt ≡ [] → (i ≡ a1) ⊎ (i ≡ b2) → ⊥
    unmarked i n (inl f) = let z : a1.ctxt ≡ [] = sym (ap (λ i. i.ctxt) f) ∙ n in absurd (cc)
    unmarked i n (inr f) = let z : b2.ctxt ≡ [] = sym (ap (λ i. i.ctxt) f) ∙ n in absurd (cc)

-- nothing is declared there
none_declared : (i j : Ident) (x : List ℕ) → IsDeclared (by_ids (draw (two_free i j))) x → ⊥
none_declared i j x h = none (subst (λ t. IsDeclared t x) (ids_are (two_free i j)) h)
  where
    none : IsDeclared (draw (ids (two_free i j))) x → ⊥
    none (p, r, b) = each_binds (ids (two_free i j)) (λ p r x. ⊥) (λ b. absurd (cc), (λ b. absurd (cc), tt)) p r x b

is_free : (i j k : Ident) (p : Path) → stands_drawn program_place (two_free i j) p ≡ Some (at standing.Reference, name kind.Ident k) → IsFree (draw (two_free i j)) k
is_free i j k p h = record { path = p; place = at standing.Reference; kind = kind.Ident; stands = stands_there (two_free i j) p (at standing.Reference) kind.Ident k h; refers = refl; undeclared = none_declared i j (id_name k) }

-- `a#1; a#2;`
pub free_ones_of_one_text : ¬ FreeApart (draw (two_free a1 a2))
free_ones_of_one_text h =
    let z : a1.ctxt ≡ a2.ctxt = h.apart a1 a2 (is_free a1 a2 a1 (1 ∷ 0 ∷ 1 ∷ []) refl) (is_free a1 a2 a2 (1 ∷ 1 ∷ 1 ∷ []) refl) refl in
    absurd (cc)

-- `a; b#2;`
pub free_one_without_mark : ¬ FreeApart (draw (two_free a b2))
free_one_without_mark h = h.marked a (is_free a b2 a (1 ∷ 0 ∷ 1 ∷ []) refl) refl

-- `let a;` is clean, `let a#1; a#1;` is not
abbrev pub one_let : Drawing
one_let = module_of (one (declaration word.Let a))

pub no_contexts : IsClean (draw one_let)
no_contexts p w k i h = every_name one_let (λ q. q.identifier.ctxt ≡ []) (refl, tt) p w k i h

pub contexts_there : ¬ IsClean (draw declared_and_used)
contexts_there h = let z : a1.ctxt ≡ [] = h used_there (at standing.Reference) kind.Ident a1 (stands_there declared_and_used used_there (at standing.Reference) kind.Ident a1 refl) in absurd (cc)
