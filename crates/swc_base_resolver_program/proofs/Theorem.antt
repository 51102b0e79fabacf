-- What the walks write is right by the definitions.
use Rattle.std.proofs.Common.{◌≡◌, ◌≢◌, ℕ, zero, suc, ◌+◌, ◌-◌, ◌<◌, Bool, true, false, ◌&&◌, IsTrue, ◌⊎◌, ◌↔◌, inl, inr, ⊎_elim, Option, Some, None, List, [], ◌∷◌, ◌++◌, map, length, get_or, Contains, refl, sym, ap, ◌∙◌, subst, arith, cond}
use Rattle.std.specs.List.{slice_index_or, range_with_len}
use Rattle.std.specs.Option.{is_some, option_map}
use Rattle.std.proofs.lemmas.List.{length-map, get_or-map}
use Rattle.std.proofs.lemmas.List.Elements.{Contains-append_left, Contains-append_right, Contains-append_cases}
use Rattle.std.proofs.lemmas.List.FromFn.{get_or-range_with_len, get_or-map-range_with_len, length-range_with_len}
use Rattle.swc_tree_marks.specs.declared.ident.Ident.{Ident}
use Rattle.swc_tree_marks.specs.Globals.{Table, numbers, greatest, with_fresh_marks}
use Rattle.swc_tree_marks.proofs.Tables.{Contains-le-greatest}
use Rattle.swc_tree_marks.proofs.Fresh.{with_fresh_marks-known}
use Rattle.swc_tree_node.specs.declared.kind.Kind.{Kind}
use Rattle.swc_tree_node.specs.declared.node.Node.{Node, Identifier, out-Node}
use Rattle.swc_tree_node.specs.declared.node.Node.TheVariants.{outs-Identifier}
use Rattle.swc_tree_scoping.specs.declared.places.Standing.{Standing}
use Rattle.swc_tree_scoping.specs.declared.places.Standing.TheVariants as standing
use Rattle.swc_tree_scoping.specs.declared.places.Place.{Place}
use Rattle.swc_tree_scoping.specs.declared.places.Scope.{Scope}
use Rattle.swc_tree_scoping.specs.declared.places.Scope.TheVariants as scope
use Rattle.swc_tree_scoping.specs.Places.{Path, opened, place_at, program_place}
use Rattle.swc_tree_scoping.specs.Scopes.{Round, is_binding, one_if, rounds, scope_count, taker}
use Rattle.swc_tree_scoping.specs.Declares.{DeclaredBy, DeclaresOtherwise, Hoists, Meets}
use Rattle.swc_tree_scoping.specs.Resolved.{HasDeclarersMark, IsCaughtBy, is_global_value, is_script, mark_in, own_meaning, remarked}
use Rattle.swc_tree_spaces.specs.declared.space.Space.{Space}
use Rattle.swc_tree_spaces.specs.declared.space.Space.TheVariants as space
use Rattle.swc_tree_spaces.specs.Spaces.{HasContextBy, HasMeantMarkBy, HasTypesMark, MeansBy, MeansIn, ResolvedBy, is_any_reference, is_exported, own_in, spaces}
use Rattle.swc_tree_scoping.proofs.First.{Opens}
use Rattle.swc_base_resolver_program.specs.declared.names.ScopeNames.{ScopeNames}
use Rattle.swc_base_resolver_program.specs.declared.collect.Stage.TheVariants as stage
use Rattle.swc_base_resolver_program.specs.declared.lookup.TakenNames.{TakenNames}
use Rattle.swc_base_resolver_program.specs.Names.{ways_in}
use Rattle.swc_base_resolver_program.specs.Lookup.{Open, Tables, function_owner_in, hoists_in, meets_in, names_in, otherwise_in, owner_of_variable, taker_in, variable_owner_in}
use Rattle.swc_base_resolver_program.specs.Walks.{Marking, Reaches, Takes, context_at, context_in, context_of, fresh_context, kept_or, mark_at, marks_from, meant_by, meant_or, number, open_round, own_number, space_meaning_in, written}
use Rattle.swc_base_resolver_program.specs.Marked.{IsMark}
use Rattle.swc_base_resolver_program.proofs.Declared.{below_root, hoists_is, meaning_is, meets_some, otherwise_is, some_variable, taker_is, taker_open, type_below_root}
use Rattle.swc_base_resolver_program.proofs.Numbers.{number_less, one_number, scope_numbered}
use Rattle.swc_base_resolver_program.proofs.Rounds.{number_of, rounds_are, there}

-- the mark of the scope of a number
mark_of : ℕ → ℕ → ℕ → ℕ
mark_of top first zero = top
mark_of top first (suc k) = first + k

marks_at : (top first n k free : ℕ) → k < n → slice_index_or (marks_from top first n) k free ≡ mark_of top first k
unfolding mark_of
marks_at top first zero k free l = absurd (omega arith)
marks_at top first (suc n) zero free l = refl
marks_at top first (suc n) (suc k) free l = get_or-range_with_len first n k free (omega arith)

marks_apart : (top first j k : ℕ) → top < first → mark_of top first j ≡ mark_of top first k → j ≡ k
unfolding mark_of
marks_apart top first zero zero l e = refl
marks_apart top first zero (suc k) l e = absurd (omega (arith, l, e))
marks_apart top first (suc j) zero l e = absurd (omega (arith, l, e))
marks_apart top first (suc j) (suc k) l e = omega (arith, e)

later_mark : (top first k : ℕ) → 0 < k → mark_of top first k + 1 ≡ first + k
unfolding mark_of
later_mark top first zero l = absurd (omega arith)
later_mark top first (suc k) l = omega arith

first_mark : (top first : ℕ) → mark_of top first 0 ≡ top
unfolding mark_of
first_mark top first = refl

has_number : (t : Table) (m parent : ℕ) → Contains t (m, parent) → Contains (numbers t) m
has_number t m parent (k, l, e) =
    (k, rw (length-map t (λ row. row.0)) l, get_or-map (λ row. row.0) t k (m, parent) m l ∙ ap (λ (row : ℕ × ℕ). row.0) e)

-- the rows of fresh marks
abbrev fresh_rows : ℕ → ℕ → ℕ → Table
fresh_rows top first count = map (λ number. (number, top)) (range_with_len first count)

rows_length : (top first count : ℕ) → length (fresh_rows top first count) ≡ count
rows_length top first count = length-map (range_with_len first count) (λ number. (number, top)) ∙ length-range_with_len first count

row_at : (top first count k : ℕ) (d : ℕ × ℕ) → k < count → get_or (fresh_rows top first count) k d ≡ (first + k, top)
row_at top first count k d l = get_or-map-range_with_len (λ number. (number, top)) first count k (first + k) d l refl

from_rows : (top first count m parent : ℕ) → Contains (fresh_rows top first count) (m, parent) → (k : ℕ) × (k < count) × (m ≡ first + k) × (parent ≡ top)
from_rows top first count m parent (k, l, e) =
    let within : k < count = omega (arith, l, rows_length top first count) in
    let same : (first + k, top) ≡ (m, parent) = sym (row_at top first count k (m, parent) within) ∙ e in
    (k, within, ap (λ (r : ℕ × ℕ). r.0) (sym same), ap (λ (r : ℕ × ℕ). r.1) (sym same))

to_rows : (top first count m parent k : ℕ) → k < count → m ≡ first + k → parent ≡ top → Contains (fresh_rows top first count) (m, parent)
to_rows top first count m parent k l e f =
    (k, omega (arith, l, rows_length top first count), row_at top first count k (m, parent) l ∙ ap (λ n. (n, top)) (sym e) ∙ ap (λ q. (m, q)) (sym f))

abbrev O : Node → Round → Open
O = there program_place

abbrev nr : Node → Path → ℕ
nr = number_of program_place

-- the context of an identifier
keeps : (xs new : List ℕ) → xs ≢ [] → kept_or xs new ≡ xs
keeps [] new h = absurd (h refl)
keeps (x ∷ xs) new h = refl

module _ (a : Marking) (t : Node) where
  abbrev round : Path → List Open
  round p = map (O t) (rounds program_place t p) ++ []

  abbrev mark : Path → ℕ
  mark s = slice_index_or a.marks (nr t s) a.unresolved

  abbrev exported : Path → Bool
  exported p = is_exported false t p

  written_is : (p : Path) (w : Place) (k : Kind) (i : Ident) → place_at program_place t p ≡ Some (w, Identifier k i) → written a false [] 0 program_place t p ≡ context_of a (exported p) w.standing (round p) i
  written_is p w k i h =
      ap (λ o. context_at a (exported p) (open_round [] 0 program_place t p) o) h ∙ ap (λ env. context_in a (exported p) w.standing env (out-Node (Identifier k i))) (rounds_are p 0 program_place t [])
      ∙ ap (context_in a (exported p) w.standing (round p)) (outs-Identifier k i)

  pub contexts_kept : (p : Path) (w : Place) (k : Kind) (i : Ident) → place_at program_place t p ≡ Some (w, Identifier k i) → i.ctxt ≢ [] → written a false [] 0 program_place t p ≡ i.ctxt
  contexts_kept p w k i h some = written_is p w k i h ∙ keeps i.ctxt (fresh_context a (exported p) w.standing i.sym (round p)) some

  marked : (m : Option Path) → mark_at a (option_map (nr t) m) ≡ mark_in mark a.unresolved m
  marked None = refl
  marked (Some s) = refl

  module _ (opens : opened program_place t ≡ Some scope.Program) (bound reached : List ScopeNames) (names : TakenNames) (same_names : names_in names ≡ ways_in bound)
      (binds : Takes bound (Reaches stage.Bind [] 0 program_place t))
      (reaches : Takes reached (Reaches (stage.Settle names) [] 0 program_place t))
      (tables : a.tables ≡ record { bound = ways_in bound; reached = ways_in reached }) (script : a.is_script ≡ is_script t) where
    abbrev T : Tables
    T = record { bound = ways_in bound; reached = ways_in reached }

    -- what a script leaves free
    positive : (x : List ℕ) (n : ℕ) → 0 < n → own_number a x (Some n) ≡ Some n
    positive x zero l = absurd (omega arith)
    positive x (suc n) l = refl

    own_is : (x : List ℕ) (m : Option Path) → own_number a x (option_map (nr t) m) ≡ option_map (nr t) (own_meaning t x m)
    own_is x None = refl
    own_is x (Some []) = ap (λ s. cond (s && is_global_value x) None (Some 0)) script ∙ free (is_script t && is_global_value x)
      where
        free : (b : Bool) → cond b None (Some 0) ≡ option_map (nr t) (cond b None (Some []))
        free true = refl
        free false = refl
    own_is x (Some (i ∷ s)) = let one = ap (λ (o : Option Scope). one_if (is_some o)) opens in positive x (nr t (i ∷ s)) (omega (arith, one))

    -- what is meant, looking in one name space after another
    meant : (p : Path) (x : List ℕ) (ys : List Space) → (m : Option Path) × MeansBy ys t p x m × (meant_by a ys x (round p) ≡ option_map (nr t) m)
    meant p x [] = (None, refl, refl)
    meant p x (y ∷ ys) =
        let (m, q, e) = meaning_is t opens bound binds names same_names reached reaches y x p in
        first y m q (ap (λ d. space_meaning_in d y x (round p)) tables ∙ e) (meant p x ys)
      where
        found : (y : Space) (s : Path) → meant_or a y x (Some (nr t s)) (meant_by a ys x (round p)) ≡ option_map (nr t) (own_in y t x (Some s))
        found space.Values s = own_is x (Some s)
        found space.Types s = refl

        unfound : (y : Space) (rest : Option ℕ) → meant_or a y x None rest ≡ rest
        unfound space.Values rest = refl
        unfound space.Types rest = refl

        first : (y : Space) (m : Option Path) → MeansIn y t p x m → space_meaning_in a.tables y x (round p) ≡ option_map (nr t) m
            → (m : Option Path) × MeansBy ys t p x m × (meant_by a ys x (round p) ≡ option_map (nr t) m)
            → (m : Option Path) × MeansBy (y ∷ ys) t p x m × (meant_or a y x (space_meaning_in a.tables y x (round p)) (meant_by a ys x (round p)) ≡ option_map (nr t) m)
        first y (Some s) q e rest = (own_in y t x (Some s), inl (s, q, refl), ap (λ o. meant_or a y x o (meant_by a ys x (round p))) e ∙ found y s)
        first y None q e (m, r, f) = (m, inr (q, r), ap (λ o. meant_or a y x o (meant_by a ys x (round p))) e ∙ unfound y (meant_by a ys x (round p)) ∙ f)

    marked_meant : (p : Path) (x : List ℕ) (r : Standing) (ys : List Space) → ys ≡ spaces r (exported p) → HasMeantMarkBy mark a.unresolved t p x r (mark_at a (meant_by a ys x (round p)) ∷ [])
    marked_meant p x r ys same =
        let (m, q, e) = meant p x ys in
        (m, subst (λ ys. MeansBy ys t p x m) same q, ap (λ z. mark_at a z ∷ []) e ∙ ap (λ z. z ∷ []) (marked m))

    -- a binding
    taken : (p : Path) (w : Place) (k : Kind) (i : Ident) (r : Standing) → place_at program_place t p ≡ Some (w, Identifier k i) → w.standing ≡ r → is_binding r ≡ true → (s : Path) × (taker r t p ≡ Some s)
    taken p w k i r h e b = below_root t opens bound binds names same_names reached reaches p w k i r h e b

    -- but for variables it has the mark of the scope that declares it
    declared : (p : Path) (r : Standing) (x c : List ℕ) → r ≢ standing.Variable → (s : Path) × DeclaredBy t p r x s × (c ≡ mark s ∷ []) → HasDeclarersMark mark t p r x c
    declared p r x c other (s, d, e) = (s, d, inr (λ m caught. other caught.0, e))

    taken_by : (p : Path) (r : Standing) → (s : Path) × (taker r t p ≡ Some s) → (s : Path) × (taker r t p ≡ Some s) × (mark_at a (taker_in r (round p)) ∷ [] ≡ mark s ∷ [])
    taken_by p r (s, e) = (s, e, ap (λ z. mark_at a z ∷ []) (taker_is t opens r p ∙ ap (option_map (nr t)) e))

    variable : (p : Path) (x : List ℕ) → (s : Path) × (taker standing.Variable t p ≡ Some s) → HasDeclarersMark mark t p standing.Variable x (mark_at a (variable_owner_in a.tables x (round p)) ∷ [])
    variable p x (f, e) =
        let (m, q, there_too, met) = meets_some t opens bound binds x p f e in
        let o = otherwise_is t opens bound binds names same_names reached reaches x f (taker_open t opens standing.Variable p f e) in
        let owner : variable_owner_in a.tables x (round p) ≡ cond (otherwise_in T x (nr t f)) (meets_in T.bound x (round p)) (Some (nr t f))
        = ap (λ d. variable_owner_in d x (round p)) tables ∙ ap (λ z. owner_of_variable T x (round p) z) (taker_is t opens standing.Variable p ∙ ap (option_map (nr t)) e) in
        (f, e, by_case m q met o (otherwise_in T x (nr t f)) refl owner)
      where
        by_case : (m : Path) → Meets t p x (Some m) → meets_in T.bound x (round p) ≡ Some (nr t m) → IsTrue (otherwise_in T x (nr t f)) ↔ DeclaresOtherwise t f x → (b : Bool) → otherwise_in T x (nr t f) ≡ b
            → variable_owner_in a.tables x (round p) ≡ cond (otherwise_in T x (nr t f)) (meets_in T.bound x (round p)) (Some (nr t f))
            → ((m : Path) × IsCaughtBy t p standing.Variable x f m × (mark_at a (variable_owner_in a.tables x (round p)) ∷ [] ≡ mark m ∷ []))
            ⊎ (((m : Path) → ¬ IsCaughtBy t p standing.Variable x f m) × (mark_at a (variable_owner_in a.tables x (round p)) ∷ [] ≡ mark f ∷ []))
        by_case m q met o true g owner = inl (m, (refl, q, o.0 (rw g refl)), ap (λ z. mark_at a z ∷ []) (owner ∙ ap (λ b. cond b (meets_in T.bound x (round p)) (Some (nr t f))) g ∙ met))
        by_case m q met o false g owner =
            inr (λ u caught. let z = o.1 caught.2 in let y : true ≡ false = sym z ∙ g in absurd (cc), ap (λ z. mark_at a z ∷ []) (owner ∙ ap (λ b. cond b (meets_in T.bound x (round p)) (Some (nr t f))) g))

    function : (p : Path) (x : List ℕ) → (s : Path) × (taker standing.SloppyFunction t p ≡ Some s) → (s : Path) × (taker standing.Variable t p ≡ Some s)
        → (s : Path) × DeclaredBy t p standing.SloppyFunction x s × (mark_at a (function_owner_in a.tables x (round p)) ∷ [] ≡ mark s ∷ [])
    function p x (b, e) (f, g) =
        let h = hoists_is t opens bound binds x p b e in
        let owner : function_owner_in a.tables x (round p) ≡ cond (hoists_in T.bound x (round p)) (Some (nr t f)) (Some (nr t b))
        = ap (λ d. function_owner_in d x (round p)) tables ∙ ap (λ z. cond (hoists_in T.bound x (round p)) z (taker_in standing.SloppyFunction (round p))) (taker_is t opens standing.Variable p ∙ ap (option_map (nr t)) g)
        ∙ ap (λ z. cond (hoists_in T.bound x (round p)) (Some (nr t f)) z) (taker_is t opens standing.SloppyFunction p ∙ ap (option_map (nr t)) e) in
        by_case h (hoists_in T.bound x (round p)) refl owner
      where
        by_case : IsTrue (hoists_in T.bound x (round p)) ↔ Hoists t b x → (z : Bool) → hoists_in T.bound x (round p) ≡ z
            → function_owner_in a.tables x (round p) ≡ cond (hoists_in T.bound x (round p)) (Some (nr t f)) (Some (nr t b))
            → (s : Path) × DeclaredBy t p standing.SloppyFunction x s × (mark_at a (function_owner_in a.tables x (round p)) ∷ [] ≡ mark s ∷ [])
        by_case h true z owner = (f, (b, e, inl (h.0 (rw z refl), g)), ap (λ o. mark_at a o ∷ []) (owner ∙ ap (λ c. cond c (Some (nr t f)) (Some (nr t b))) z))
        by_case h false z owner = (b, (b, e, inr (λ d. let y = h.1 d in let v : true ≡ false = sym y ∙ z in absurd (cc), refl)), ap (λ o. mark_at a o ∷ []) (owner ∙ ap (λ c. cond c (Some (nr t f)) (Some (nr t b))) z))

    -- one of the four sorts
    of_reference : (p : Path) (x : List ℕ) (r : Standing) (c : List ℕ) → is_any_reference r ≡ true → is_binding r ≡ false → (r ≡ standing.TypeName → ⊥) → HasMeantMarkBy mark a.unresolved t p x r c → HasContextBy mark a.unresolved t p x r c
    of_reference p x r c b n o h = record { reference = λ z. h; binding = λ z. let y : true ≡ false = sym z ∙ n in absurd (cc); type_name = λ z. absurd (o z); other = λ z y u. absurd (z b) }

    of_binding : (p : Path) (x : List ℕ) (r : Standing) (c : List ℕ) → is_binding r ≡ true → is_any_reference r ≡ false → (r ≡ standing.TypeName → ⊥) → HasDeclarersMark mark t p r x c → HasContextBy mark a.unresolved t p x r c
    of_binding p x r c b n o h = record { reference = λ z. let y : true ≡ false = sym z ∙ n in absurd (cc); binding = λ z. h; type_name = λ z. absurd (o z); other = λ z y u. absurd (y b) }

    of_type_name : (p : Path) (x c : List ℕ) → HasTypesMark mark t p c → HasContextBy mark a.unresolved t p x standing.TypeName c
    of_type_name p x c h = record { reference = λ z. absurd (grind (arith, z)); binding = λ z. absurd (grind (arith, z)); type_name = λ z. h; other = λ z y u. absurd (u refl) }

    of_neither : (p : Path) (x : List ℕ) (r : Standing) → is_any_reference r ≡ false → is_binding r ≡ false → (r ≡ standing.TypeName → ⊥) → HasContextBy mark a.unresolved t p x r []
    of_neither p x r n m o = record { reference = λ z. let y : true ≡ false = sym z ∙ n in absurd (cc); binding = λ z. let y : true ≡ false = sym z ∙ m in absurd (cc); type_name = λ z. absurd (o z); other = λ z y u. refl }

    -- a reference to a value, in the body of a function or elsewhere
    of_body : (e : Bool) → spaces standing.Reference e ≡ spaces standing.Body e
    of_body true = refl
    of_body false = refl

    module _ (p : Path) (w : Place) (k : Kind) (i : Ident) (h : place_at program_place t p ≡ Some (w, Identifier k i)) where
      has_context : (r : Standing) → w.standing ≡ r → HasContextBy mark a.unresolved t p i.sym r (fresh_context a (exported p) r i.sym (round p))
      has_context standing.Reference e = of_reference p i.sym _ _ refl refl (λ z. absurd (cc)) (marked_meant p i.sym standing.Reference (spaces standing.Reference (exported p)) refl)
      has_context standing.Body e = of_reference p i.sym _ _ refl refl (λ z. absurd (cc)) (marked_meant p i.sym standing.Body (spaces standing.Reference (exported p)) (of_body (exported p)))
      has_context standing.TypeReference e = of_reference p i.sym _ _ refl refl (λ z. absurd (cc)) (marked_meant p i.sym standing.TypeReference (spaces standing.TypeReference false) refl)
      has_context standing.TypeName e =
          of_type_name p i.sym _ (let (s, at) = type_below_root t opens bound binds names same_names reached reaches p w k i h e in taken_by p standing.Lexical (s, at))
      has_context standing.Variable e = of_binding p i.sym _ _ refl refl (λ z. absurd (cc)) (variable p i.sym (taken p w k i standing.Variable h e refl))
      has_context standing.SloppyFunction e =
          of_binding p i.sym _ _ refl refl (λ z. absurd (cc)) (declared p standing.SloppyFunction i.sym _ (λ z. absurd (cc)) (function p i.sym (taken p w k i standing.SloppyFunction h e refl) (variables_too e)))
        where
          variables_too : w.standing ≡ standing.SloppyFunction → (s : Path) × (taker standing.Variable t p ≡ Some s)
          variables_too e = some_variable t opens bound binds names same_names reached reaches p w k i standing.SloppyFunction h e refl
      has_context standing.Lexical e = of_binding p i.sym _ _ refl refl (λ z. absurd (cc)) (declared p standing.Lexical i.sym _ (λ z. absurd (cc)) (taken_by p standing.Lexical (taken p w k i standing.Lexical h e refl)))
      has_context standing.Function e = of_binding p i.sym _ _ refl refl (λ z. absurd (cc)) (declared p standing.Function i.sym _ (λ z. absurd (cc)) (taken_by p standing.Function (taken p w k i standing.Function h e refl)))
      has_context standing.BlockFunction e = of_binding p i.sym _ _ refl refl (λ z. absurd (cc)) (declared p standing.BlockFunction i.sym _ (λ z. absurd (cc)) (taken_by p standing.BlockFunction (taken p w k i standing.BlockFunction h e refl)))
      has_context standing.Parameter e = of_binding p i.sym _ _ refl refl (λ z. absurd (cc)) (declared p standing.Parameter i.sym _ (λ z. absurd (cc)) (taken_by p standing.Parameter (taken p w k i standing.Parameter h e refl)))
      has_context standing.CatchParameter e = of_binding p i.sym _ _ refl refl (λ z. absurd (cc)) (declared p standing.CatchParameter i.sym _ (λ z. absurd (cc)) (taken_by p standing.CatchParameter (taken p w k i standing.CatchParameter h e refl)))
      has_context standing.Import e = of_binding p i.sym _ _ refl refl (λ z. absurd (cc)) (declared p standing.Import i.sym _ (λ z. absurd (cc)) (taken_by p standing.Import (taken p w k i standing.Import h e refl)))
      has_context standing.FunctionName e = of_binding p i.sym _ _ refl refl (λ z. absurd (cc)) (declared p standing.FunctionName i.sym _ (λ z. absurd (cc)) (taken_by p standing.FunctionName (taken p w k i standing.FunctionName h e refl)))
      has_context standing.ClassName e = of_binding p i.sym _ _ refl refl (λ z. absurd (cc)) (declared p standing.ClassName i.sym _ (λ z. absurd (cc)) (taken_by p standing.ClassName (taken p w k i standing.ClassName h e refl)))
      has_context standing.Plain e = of_neither p i.sym _ refl refl (λ z. absurd (cc))
      has_context standing.Branch e = of_neither p i.sym _ refl refl (λ z. absurd (cc))
      has_context standing.DefaultExport e = of_neither p i.sym _ refl refl (λ z. absurd (cc))
      has_context standing.Label e = of_neither p i.sym _ refl refl (λ z. absurd (cc))
      has_context standing.Imported e = of_neither p i.sym _ refl refl (λ z. absurd (cc))
      has_context standing.Exported e = of_neither p i.sym _ refl refl (λ z. absurd (cc))

    pub contexts_right : (p : Path) (w : Place) (k : Kind) (i : Ident) → place_at program_place t p ≡ Some (w, Identifier k i) → i.ctxt ≡ [] → HasContextBy mark a.unresolved t p i.sym w.standing (written a false [] 0 program_place t p)
    contexts_right p w k i h none =
        subst (HasContextBy mark a.unresolved t p i.sym w.standing) (sym (written_is p w k i h ∙ ap (λ c. kept_or c (fresh_context a (exported p) w.standing i.sym (round p))) none)) (has_context p w k i h w.standing refl)

    module _ (old new : Table) (top : ℕ) (known : IsMark old top) (marks : a.marks ≡ marks_from top (greatest old + 1) (scope_count program_place t))
        (gains : new ≡ with_fresh_marks old top (scope_count program_place t - 1)) where
      abbrev first : ℕ
      first = greatest old + 1

      root_opens : Opens program_place t []
      root_opens = ap is_some opens

      mark_is : (s : Path) → Opens program_place t s → mark s ≡ mark_of top first (number program_place t s)
      mark_is s o =
          let start : 0 + number program_place t s ≡ number program_place t s = omega arith in
          ap (λ ms. slice_index_or ms (0 + number program_place t s) a.unresolved) marks ∙ ap (λ n. slice_index_or (marks_from top first (scope_count program_place t)) n a.unresolved) start
          ∙ marks_at top first (scope_count program_place t) (number program_place t s) a.unresolved (number_less s program_place t o)

      top_below : top < first
      top_below = let below = Contains-le-greatest old top known.1 in omega (arith, below)

      one_to_one : (s u : Path) → Opens program_place t s → Opens program_place t u → mark s ≡ mark u → s ≡ u
      one_to_one s u o q e = one_number s u program_place t o q (marks_apart top first _ _ top_below (sym (mark_is s o) ∙ e ∙ mark_is u q))

      later : (s : Path) → s ≢ [] → 0 < number program_place t s
      later [] ne = absurd (ne refl)
      later (i ∷ s) ne = let one = ap (λ (o : Option Scope). one_if (is_some o)) opens in omega (arith, one)

      fresh : (s : Path) → Opens program_place t s → s ≢ [] → (parent : ℕ) → ¬ Contains old (mark s, parent)
      fresh s o ne parent h =
          let below = Contains-le-greatest old (mark s) (has_number old (mark s) parent h) in
          let at = later_mark top first (number program_place t s) (later s ne) in
          let is = mark_is s o in
          let some = later s ne in
          omega (arith, below, at, is, some)

      rows : new ≡ old ++ fresh_rows top first (scope_count program_place t - 1)
      rows = gains ∙ with_fresh_marks-known old top (scope_count program_place t - 1) (inr known.1)

      abbrev GivenTo : ℕ → Type 0
      GivenTo m = (s : Path) × Opens program_place t s × (s ≢ []) × (mark s ≡ m)

      given_to : (m k : ℕ) → k < scope_count program_place t - 1 → m ≡ first + k → GivenTo m
      given_to m k l e =
          let (s, o, n) = scope_numbered t program_place (suc k) (omega (arith, l)) in (
            s,
            o,
            (λ root. let zero_is : number program_place t s ≡ 0 = ap (number program_place t) root in omega (arith, n, zero_is)),
            (let some : 0 < number program_place t s = omega (arith, n) in let at = later_mark top first (number program_place t s) some in let is = mark_is s o in omega (arith, n, e, at, is)),
          )

      in_row : (m : ℕ) (s : Path) → Opens program_place t s → s ≢ [] → mark s ≡ m → Contains (fresh_rows top first (scope_count program_place t - 1)) (m, top)
      in_row m s o ne e =
          let some = later s ne in
          let less = number_less s program_place t o in
          let at = later_mark top first (number program_place t s) some in
          let is = mark_is s o in
          let k : ℕ = number program_place t s - 1 in
          to_rows top first (scope_count program_place t - 1) m top (number program_place t s - 1) (omega (arith, some, less)) (omega (arith, some, at, is, e)) refl

      gained : (m parent : ℕ) → Contains new (m, parent) ↔ (Contains old (m, parent) ⊎ ((parent ≡ top) × GivenTo m))
      gained m parent = (forth, back)
        where
          forth : Contains new (m, parent) → Contains old (m, parent) ⊎ ((parent ≡ top) × GivenTo m)
          forth h = ⊎_elim inl (λ a. let (k, l, e, f) = from_rows top first (scope_count program_place t - 1) m parent a in inr (f, given_to m k l e))
              (Contains-append_cases old (fresh_rows top first (scope_count program_place t - 1)) (m, parent) (subst (λ l. Contains l (m, parent)) rows h))

          back : Contains old (m, parent) ⊎ ((parent ≡ top) × GivenTo m) → Contains new (m, parent)
          back (inl h) = subst (λ l. Contains l (m, parent)) (sym rows) (Contains-append_left old (fresh_rows top first (scope_count program_place t - 1)) (m, parent) h)
          back (inr (f, (s, o, ne, e))) =
              subst (λ l. Contains l (m, parent)) (sym rows) (Contains-append_right old (fresh_rows top first (scope_count program_place t - 1)) (m, parent)
              (subst (λ q. Contains (fresh_rows top first (scope_count program_place t - 1)) (m, q)) (sym f) (in_row m s o ne e)))

      pub resolves : (answer : Node) → answer ≡ remarked (written a false [] 0 program_place t) t → ResolvedBy a.unresolved top old new t answer
      resolves answer e = record {
        marks = mark;
        one_to_one = one_to_one;
        program = mark_is [] root_opens ∙ first_mark top first;
        fresh = fresh;
        table = gains;
        gained = gained;
        contexts = written a false [] 0 program_place t;
        only_contexts = e;
        kept = contexts_kept;
        resolved = contexts_right;
      }
