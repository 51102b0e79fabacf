-- In a tree that can be written down no body of a `for` statement declares.
use Rattle.std.proofs.Common.{◌≡◌, ℕ, Bool, true, false, IsTrue, Option, Some, None, [], ◌∷◌, ◌++◌, refl, sym, ap, ◌∙◌, cond}
use Rattle.swc_tree_node.specs.declared.slot.Slot.{Slot}
use Rattle.swc_tree_node.specs.declared.node.Node.{Node, Identifier, out-Node}
use Rattle.swc_tree_node.specs.Fits.{Fits}
use Rattle.swc_tree_scoping.specs.declared.places.Standing.{Standing}
use Rattle.swc_tree_scoping.specs.declared.places.Standing.TheVariants as standing
use Rattle.swc_tree_scoping.specs.declared.places.Place.{Place}
use Rattle.swc_tree_scoping.specs.Places.{Path, child, opened, place_at, place_below, program_place}
use Rattle.swc_tree_scoping.specs.Scopes.{view_in}
use Rattle.swc_tree_scoping.proofs.Under.{no_place_under, place_under}
use Rattle.swc_tree_grammar.specs.Forms.{form}
use Rattle.swc_tree_grammar.specs.Writable.{is_writable}
use Rattle.swc_tree_sites.proofs.Loose.{lowered, or_else, own, split_taken, taker_in, taker_under}
use Rattle.swc_base_rename_analysis.specs.Analysis.{is_for_body}
use Rattle.swc_base_rename_analysis_laws.proofs.Paths.{body_on}
use Rattle.swc_base_rename_scoped_laws.specs.Laws.{NoBodyDeclares}
use Rattle.swc_base_rename_scoped_laws.proofs.Bodies.{child_of, for_form}
use Rattle.swc_base_rename_scoped_laws.proofs.Exports.{part_fits}
use Rattle.swc_base_rename_scoped_laws.proofs.Fields.{field_at}
use Rattle.swc_base_rename_scoped_laws.proofs.Leaks.{body_branch, closed, is_statement_place, is_statement_slot}
use Rattle.swc_base_rename_scoped_laws.proofs.Openings.{field_stands}
use Rattle.swc_base_rename_scoped_laws.proofs.Rows.{heard}
use Rattle.swc_base_rename_scoped_laws.proofs.Takers.{body_number}
use Rattle.swc_base_rename_scoped_laws.proofs.Written.{body_there, status_there}

some_same : (a b : Place × Node) → Some a ≡ Some b → a ≡ b
some_same a b e = cc

no_place : (z : Place × Node) → Some z ≡ None → ⊥
no_place z e = absurd (cc)

rest_of : (j : ℕ) (y h : Path) → Some (j ∷ y) ≡ Some (j ∷ h) → y ≡ h
rest_of j y h e = cc

no_own : (b : Bool) (j : ℕ) (h : Path) → cond b (Some []) None ≡ Some (j ∷ h) → ⊥
no_own true j h e = absurd (cc)
no_own false j h e = absurd (cc)

-- what the scope at a path takes, no scope below it takes
taker_on : (h : Path) (v x : Place) (t n c : Node) (r : Standing) (i : ℕ) (q : Path) → place_at v t h ≡ Some (x, n) → child n i ≡ Some c → taker_in v t r (h ++ (i ∷ q)) ≡ Some h → taker_in (place_below x n i) c r q ≡ None
taker_on [] v x t n c r i q here its e =
    let same = some_same (v, t) (x, n) here in
    let its' : child t i ≡ Some c = ap (λ (z : Place × Node). child z.1 i) same ∙ its in
    ap (λ (z : Place × Node). taker_in (place_below z.0 z.1 i) c r q) (sym same)
    ∙ (split_taken i (taker_in (place_below v t i) c r q) (own (opened v t) (view_in (out-Node t) i) r) (Some []) tt (sym (taker_under v t c r i q its') ∙ e)).0
taker_on (l ∷ h) v x t n c r i q here its e = at (child t l) refl (λ d. taker_on h (place_below v t l) x d n c r i q)
  where
    at : (o : Option Node) → child t l ≡ o → ((d : Node) → place_at (place_below v t l) d h ≡ Some (x, n) → child n i ≡ Some c → taker_in (place_below v t l) d r (h ++ (i ∷ q)) ≡ Some h → taker_in (place_below x n i) c r q ≡ None)
        → taker_in (place_below x n i) c r q ≡ None
    at None z more = absurd (no_place (x, n) (sym here ∙ no_place_under v t l h z))
    at (Some d) z more = more d (sym (place_under v t d l h z) ∙ here) its (by (taker_in (place_below v t l) d r (h ++ (i ∷ q))) (sym (taker_under v t d r l (h ++ (i ∷ q)) z) ∙ e))
      where
        by : (y : Option Path) → or_else (lowered l y) (own (opened v t) (view_in (out-Node t) l) r) ≡ Some (l ∷ h) → y ≡ Some h
        by (Some y) e = ap (λ y. Some y) (rest_of l y h e)
        by None e = absurd (no_own _ l h e)

pub no_body_declares : (t : Node) (s : Slot) → Fits t s → IsTrue (is_writable t) → NoBodyDeclares t
no_body_declares t s fit writable p h below j i w k stands lexical taken path body =
    let (x, n, u, here, n_fits, on) = part_fits h (j ∷ below) program_place w t (Identifier k i) s fit (ap (place_at program_place t) (sym path) ∙ stands) in
    let (y, fits_too, status) = status_there h program_place x t n s fit (heard (record { strict = false; assigned = false }) writable) here in
    let (c, there, is) = child_of (child n j) (is_for_body (out-Node n) j) (sym (body_on h (j ∷ []) false program_place t x n here) ∙ body) in
    let (l, ts, o, field) = for_form (out-Node n) j is in
    let (r, its) = body_there n c l ts y j o fits_too status field there in
    let (f, number, c_fits) = field_at n c l ts y j o fits_too there in
    let (slot_is, plain) = body_number l j f x ts field number in
    let free = taker_on h program_place x t n c standing.Lexical j below here there (ap (taker_in program_place t standing.Lexical) (sym path) ∙ taken) in
    closed c (place_below x n j) f.1 (standing.Lexical, i) r c_fits (ap is_statement_slot slot_is) its.0 (body_branch r.strict (form c) its.1) (ap is_statement_place (field_stands x n l ts j f o number ∙ plain)) refl
    (record { path = below; place = w; kind = k; stands = sym (place_under x n c j below there) ∙ on; stands_so = lexical; binds = refl; taken = free })
