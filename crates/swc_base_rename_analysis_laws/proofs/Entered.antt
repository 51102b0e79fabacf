-- What the walk over a tree that opens a scope adds: what stands outside of the scope, then the scope with what is in it.
use Rattle.std.proofs.Common.{◌≡◌, ℕ, ◌+◌, true, false, Option, Some, None, List, [], ◌∷◌, ◌++◌, length, length-append, map, refl, sym, ap, ◌∙◌, subst, arith, append_assoc, append-nil, nat_cmp}
use Rattle.std.specs.Prelude.{slice_set}
use Rattle.std.specs.List.{slice_get}
use Rattle.std.specs.Option.{option_or}
use Rattle.std.specs.Cmp.{unsigned_Decides}
use Rattle.std.specs.Cmp.Lexicographic.{slice_cmp}
use Rattle.std.proofs.lemmas.List.{map-append}
use Rattle.swc_tree_marks.specs.declared.ident.Ident.{Ident}
use Rattle.swc_tree_node.specs.declared.kind.Kind.{Kind}
use Rattle.swc_tree_node.specs.declared.node.Node.{Node, out-Node}
use Rattle.swc_tree_node.specs.declared.node.Node.TheOpen.{Node-F}
use Rattle.swc_tree_scoping.specs.declared.places.Place.{Place}
use Rattle.swc_tree_scoping.specs.Places.{Path, child, given, has_own_name, is_at, opened_as, program_place}
use Rattle.swc_base_rename_analysis.specs.declared.scopes.ScopeKind.{ScopeKind}
use Rattle.swc_base_rename_analysis.specs.declared.layout.Region.{Region}
use Rattle.swc_base_rename_analysis.specs.Analysis.{body_kind, has_identifier, key_field, opened_round}
use Rattle.swc_base_rename_analysis.specs.Laws.{is_body_at}
use Rattle.swc_base_rename_analysis.specs.Order.{entry, turn, turn_in, turns}
use Rattle.swc_base_rename_analysis.specs.Walk.{Outside, function_at, kind_opened, name_outside}
use Rattle.swc_base_rename_analysis_laws.proofs.Added.{Added, IsOwnHome, added_so, count_after, nothing_added, starts_under, uses_in, uses_on}
use Rattle.swc_base_rename_analysis_laws.proofs.Contexts.{HasOwnName, opens_inside, opens_outside, outside_is}
use Rattle.swc_base_rename_analysis_laws.proofs.Good.{IsUnder, EntersFirst, Good, Home, StartsWith, good_name, good_none, use_of}
use Rattle.swc_base_rename_analysis_laws.proofs.Lists.{All, all_joined, all_so}
use Rattle.swc_base_rename_analysis_laws.proofs.Marked.{Marked, MarkedScope, MarkedWalk, below, marked_begin, marked_changed, marked_end, marked_enter, marked_fields, marked_goes, marked_optional, marked_own_use, marked_scope, regions_of}
use Rattle.swc_base_rename_analysis_laws.proofs.Outsides.{entered_second, key_is_first, keyed_alone, outside_field, outside_first, shift, turn_shifted}
use Rattle.swc_base_rename_analysis_laws.proofs.Paths.{IsAt, turns_compare}
use Rattle.swc_base_rename_analysis_laws.proofs.Rounds.{not_key}
use Rattle.swc_base_rename_analysis_laws.proofs.Walks.{ChildAdds, field_adds, fields_add}
use Rattle.swc_base_rename_analysis_laws.proofs.Wrapped.{NamesIn, OwnUses, ScopesIn, outside_joined, wrapped}

-- one scope changed, by its number
set_behind : (xs ys : List MarkedScope) (e f : MarkedScope) → slice_set (xs ++ e ∷ ys) (length xs) f ≡ xs ++ f ∷ ys
set_behind [] ys e f = refl
set_behind (x ∷ xs) ys e f = ap (λ l. x ∷ l) (set_behind xs ys e f)

got_behind : (xs ys : List MarkedScope) (e : MarkedScope) → slice_get (xs ++ e ∷ ys) (length xs) ≡ Some e
got_behind [] ys e = refl
got_behind (x ∷ xs) ys e = got_behind xs ys e

changed_behind : (f : Region → Region) (ss xs ys : List MarkedScope) (e : MarkedScope) → ss ≡ xs ++ e ∷ ys → marked_changed f ss (length xs) (slice_get ss (length xs)) ≡ xs ++ record e { region = f e.region } ∷ ys
changed_behind f ss xs ys e same =
    (λ a. marked_changed f (same a) (length xs) (slice_get (same a) (length xs)))
    ∙ ap (marked_changed f (xs ++ e ∷ ys) (length xs)) (got_behind xs ys e)
    ∙ set_behind xs ys e (record e { region = f e.region })

-- the use of a function's own name
pub record OwnPart (t : Node) (h : Path) (m n : Marked) : Type 0 where
  names : List Home
  uses_come : uses_in n ≡ uses_in m ++ map use_of names
  same_scopes : n.scopes ≡ m.scopes
  good : Good t (length m.names) names []
  at_node : OwnUses h names
  owned : All (IsOwnHome t) names

own_part : (t : Node) (h : Path) (n : ℕ) (o : Outside) (x : Option Ident) (m : Marked) → HasOwnName t h x → OwnPart t h m (marked_own_use n h o x m)
own_part t h n o None m has = record { names = []; uses_come = sym (append-nil (uses_in m)); same_scopes = refl; good = good_none t (length m.names); at_node = tt; owned = tt }
own_part t h n o (Some x) m has = record {
  names = home ∷ [];
  uses_come = map-append (λ n. n.use_) m.names (_ ∷ []);
  same_scopes = refl;
  good = good_name t (length m.names) home;
  at_node = ((refl, refl), tt);
  owned = ((λ o. (x, has)), tt);
}
  where
    home : Home
    home = record { place = h; owned = true }

-- a tree that opens a scope
module _ (t : Node) (h : Path) (w : Place) (n : Node) (there : IsAt program_place t h w n) (k : Kind) (ts : List Node) (layer : out-Node n ≡ Node-F.Tree k ts) (walks : ℕ → Option MarkedWalk)
    (each : (i : ℕ) → ChildAdds t h n i (walks i)) (only_name : (i : ℕ) → name_outside w k (has_identifier ts) ≡ Some i → (o : Outside) (m : Marked) → (marked_goes (walks i) (below h i) o m).scopes ≡ m.scopes) where
  abbrev but : Option ℕ
  but = outside_field w k (has_identifier ts)

  abbrev IsBut : ℕ → Type 0
  IsBut j = is_at but j ≡ true

  optional_adds : (i : Option ℕ) (o : Outside) (m : Marked) → Added t (StartsWith (λ j. is_at i j ≡ true) h) m (marked_optional k ts walks i h o m)
  optional_adds None o m = nothing_added t (StartsWith (λ j. is_at None j ≡ true) h) m
  optional_adds (Some i) o m = added_so (λ p (j, q, e, same). (j, q, e, (unsigned_Decides i j).1 (sym same))) (field_adds t h w n there k ts layer walks each o m i)

  -- what comes before the names in the scope
  record Outer (m key named : Marked) (e : MarkedScope) : Type 0 where
    names : List Home
    scopes : List MarkedScope
    key_scopes : key.scopes ≡ m.scopes ++ scopes
    uses_come : uses_in named ≡ uses_in m ++ map use_of names
    scopes_come : named.scopes ≡ key.scopes ++ e ∷ []
    good : Good t (length m.names) names scopes
    names_in : NamesIn IsBut h names
    scopes_in : ScopesIn IsBut h scopes
    owned : All (IsOwnHome t) names
    first : (u : MarkedScope) → u.path ≡ h → All (λ r. EntersFirst t r u) scopes

  module _ (s : ScopeKind) (parent : Option ℕ) (o : Outside) (m : Marked) where
    abbrev key : Marked
    key = marked_optional k ts walks (key_field k) h o m

    abbrev new : Marked → MarkedScope
    new m = record { path = h; region = record { kind = s; function = function_at (regions_of m) s parent; start = length m.names; end = length m.names } }

    -- a scope below a key is entered before the scope of its node
    key_enters : (f : ℕ) → key_field k ≡ Some f → (r u : MarkedScope) → u.path ≡ h → StartsWith (λ j. is_at (key_field k) j ≡ true) h r.path → EntersFirst t r u
    key_enters f e r u here (j, q, at, same) =
        (λ a. slice_cmp nat_cmp (turns entry t (at a)) (turns entry t ((here ∙ sym (append-nil h)) a)))
        ∙ turns_compare entry h (j ∷ q) [] program_place t w n there
        ∙ ap (λ y. slice_cmp nat_cmp (turn y j ∷ given (child n j) [] (λ c. turns entry c q)) (entry y)) layer
        ∙ (λ a. slice_cmp nat_cmp (zero_turn a ∷ given (child n j) [] (λ c. turns entry c q)) (entered_second k ts f e a))
      where
        zero_turn : turn_in k j ≡ 0
        zero_turn = ap (turn_in k) (sym ((unsigned_Decides f j).0 (ap (λ o. is_at o j) (sym e) ∙ same))) ∙ key_is_first k f e

    outer_keyed : (f : ℕ) → key_field k ≡ Some f → Outer m key (marked_optional k ts walks (name_outside w k (has_identifier ts)) h o (marked_enter h s parent key)) (new key)
    outer_keyed f e = subst (λ z. Outer m key (marked_optional k ts walks z h o (marked_enter h s parent key)) (new key)) (sym (keyed_alone w k (has_identifier ts) f e)) (record {
      names = a.names;
      scopes = a.scopes;
      key_scopes = a.scopes_come;
      uses_come = a.uses_come;
      scopes_come = refl;
      good = a.good;
      names_in = all_so (λ x (j, q, at, same). (j, q, at, is_but j same)) a.names a.names_in;
      scopes_in = all_so (λ x (j, q, at, same). (j, q, at, is_but j same)) a.scopes a.scopes_in;
      owned = a.owned;
      first = λ u here. all_so (λ r p. key_enters f e r u here p) a.scopes a.scopes_in;
    })
      where
        a : Added t (StartsWith (λ j. is_at (key_field k) j ≡ true) h) m key
        a = optional_adds (key_field k) o m

        is_but : (j : ℕ) → is_at (key_field k) j ≡ true → IsBut j
        is_but j same = ap (λ (z : Option ℕ). is_at (option_or z (name_outside w k (has_identifier ts))) j) e ∙ sym (ap (λ z. is_at z j) e) ∙ same

    none_left : (xs ys : List MarkedScope) → xs ≡ xs ++ ys → ys ≡ []
    none_left xs [] e = refl
    none_left xs (y ∷ ys) e = absurd (omega (arith, ap length e, length-append xs (y ∷ ys)))

    names_only : (z : Option ℕ) → name_outside w k (has_identifier ts) ≡ z → (l : Marked) → (marked_optional k ts walks z h o l).scopes ≡ l.scopes
    names_only None e l = refl
    names_only (Some i) e l = only_name i e _ l

    outer_unkeyed : key_field k ≡ None → Outer m key (marked_optional k ts walks (name_outside w k (has_identifier ts)) h o (marked_enter h s parent key)) (new key)
    outer_unkeyed e = subst (λ l. Outer m l (marked_optional k ts walks (name_outside w k (has_identifier ts)) h o (marked_enter h s parent l)) (new l)) (sym (ap (λ z. marked_optional k ts walks z h o m) e)) (record {
      names = a.names;
      scopes = [];
      key_scopes = sym (append-nil m.scopes);
      uses_come = a.uses_come;
      scopes_come = names_only (name_outside w k (has_identifier ts)) refl (marked_enter h s parent m);
      good = subst (λ us. Good t (length m.names) a.names us) nothing a.good;
      names_in = all_so (λ x (j, q, at, same). (j, q, at, is_but j same)) a.names a.names_in;
      scopes_in = tt;
      owned = a.owned;
      first = λ u here. tt;
    })
      where
        entered : Marked
        entered = marked_enter h s parent m

        a : Added t (StartsWith (λ j. is_at (name_outside w k (has_identifier ts)) j ≡ true) h) (marked_enter h s parent m) (marked_optional k ts walks (name_outside w k (has_identifier ts)) h o (marked_enter h s parent m))
        a = optional_adds (name_outside w k (has_identifier ts)) o (marked_enter h s parent m)

        nothing : a.scopes ≡ []
        nothing = none_left (marked_enter h s parent m).scopes a.scopes (sym (names_only (name_outside w k (has_identifier ts)) refl (marked_enter h s parent m)) ∙ a.scopes_come)

        is_but : (j : ℕ) → is_at (name_outside w k (has_identifier ts)) j ≡ true → IsBut j
        is_but j same = ap (λ (z : Option ℕ). is_at (option_or z (name_outside w k (has_identifier ts))) j) e ∙ same

    outer : Outer m key (marked_optional k ts walks (name_outside w k (has_identifier ts)) h o (marked_enter h s parent key)) (new key)
    outer = by (key_field k) refl
      where
        by : (z : Option ℕ) → key_field k ≡ z → Outer m key (marked_optional k ts walks (name_outside w k (has_identifier ts)) h o (marked_enter h s parent key)) (new key)
        by None e = outer_unkeyed e
        by (Some f) e = outer_keyed f e

    -- the scope with what is in it, and what is outside of it
    module _ (opens : body_kind (is_body_at false t h) (kind_opened k (opened_as w k (has_own_name ts))) ≡ Some s) (own : HasOwnName t h o.own_name) where
      abbrev number : ℕ
      number = length key.scopes

      abbrev named : Marked
      named = marked_optional k ts walks (name_outside w k (has_identifier ts)) h o (marked_enter h s parent key)

      abbrev begun : Marked
      begun = marked_begin number named

      abbrev used : Marked
      used = marked_own_use number h o o.own_name begun

      abbrev walked : Marked
      walked = marked_fields k ts walks but h (record o { scope = Some number }) used

      abbrev InScope : ℕ → Type 0
      InScope j = is_at but j ≡ false

      fields : Added t (StartsWith InScope h) used walked
      fields = fields_add t h w n there k ts layer walks each but (shift k) (turn_shifted w k (has_identifier ts)) (record o { scope = Some number }) used

      own_use : OwnPart t h begun used
      own_use = own_part t h number o o.own_name begun own

      abbrev begun_scope : MarkedScope
      begun_scope = record (new key) { region = record (new key).region { start = length named.names } }

      abbrev ended_scope : MarkedScope
      ended_scope = record begun_scope { region = record begun_scope.region { end = length walked.names } }

      begun_scopes : begun.scopes ≡ key.scopes ++ begun_scope ∷ []
      begun_scopes = changed_behind (λ r. record r { start = length named.names }) named.scopes key.scopes [] (new key) outer.scopes_come

      walked_scopes : walked.scopes ≡ key.scopes ++ begun_scope ∷ fields.scopes
      walked_scopes =
          fields.scopes_come
          ∙ ap (λ l. l ++ fields.scopes) (own_use.same_scopes ∙ begun_scopes)
          ∙ append_assoc key.scopes (begun_scope ∷ []) fields.scopes

      ended_scopes : (marked_end number walked).scopes ≡ key.scopes ++ ended_scope ∷ fields.scopes
      ended_scopes = changed_behind (λ r. record r { end = length walked.names }) walked.scopes key.scopes fields.scopes begun_scope walked_scopes

      used_count : length used.names ≡ length named.names + length own_use.names
      used_count = count_after begun used own_use.names own_use.uses_come

      walked_count : length walked.names ≡ length used.names + length fields.names
      walked_count = count_after used walked fields.names fields.uses_come

      stands_in : (j : ℕ) → InScope j → opened_round (is_body_at false t h) w (Node-F.Tree k ts) j ≡ ([], s) ∷ []
      stands_in j f = opens_inside (is_body_at false t h) w k ts j s (outside_is w k (has_identifier ts) j ∙ f) opens

      no_key : (j : ℕ) → InScope j → is_at (key_field k) j ≡ false
      no_key j f = not_key w k (has_identifier ts) j (outside_is w k (has_identifier ts) j ∙ f)

      in_scope : Good t (length named.names) (own_use.names ++ fields.names) (ended_scope ∷ fields.scopes)
      in_scope = wrapped t h w n there k ts layer s InScope stands_in no_key (length named.names) own_use.names fields.names ended_scope fields.scopes refl refl (omega (arith, used_count, walked_count))
          own_use.good own_use.at_node (subst (λ a. Good t a fields.names fields.scopes) used_count fields.good) fields.names_in fields.scopes_in

      whole : Good t (length m.names) (outer.names ++ (own_use.names ++ fields.names)) (outer.scopes ++ (ended_scope ∷ fields.scopes))
      whole = outside_joined t h w n there k ts layer s InScope stands_in no_key IsBut
          (λ i j b f. let first = outside_first w k (has_identifier ts) i j b f in omega (arith, first, ap (λ y. turn y i) layer, ap (λ y. turn y j) layer))
          (λ j b. opens_outside (is_body_at false t h) w k ts j (outside_is w k (has_identifier ts) j ∙ b))
          (length m.names) outer.names own_use.names fields.names outer.scopes ended_scope fields.scopes refl outer.good
          (subst (λ a. Good t a (own_use.names ++ fields.names) (ended_scope ∷ fields.scopes)) (count_after m named outer.names outer.uses_come) in_scope)
          (outer.first ended_scope refl) outer.names_in outer.scopes_in own_use.at_node fields.names_in fields.scopes_in

      pub entered_adds : Added t (IsUnder h) m (marked_end number walked)
      entered_adds = record {
        names = outer.names ++ (own_use.names ++ fields.names);
        scopes = outer.scopes ++ (ended_scope ∷ fields.scopes);
        uses_come = uses_on (uses_in m) (uses_in named) (uses_in walked) outer.names (own_use.names ++ fields.names) outer.uses_come (uses_on (uses_in named) (uses_in used) (uses_in walked) own_use.names fields.names own_use.uses_come fields.uses_come);
        scopes_come = ended_scopes ∙ ap (λ l. l ++ ended_scope ∷ fields.scopes) outer.key_scopes ∙ append_assoc m.scopes outer.scopes (ended_scope ∷ fields.scopes);
        good = whole;
        names_in = all_joined (λ x. IsUnder h x.place) outer.names (own_use.names ++ fields.names) (all_so (λ x p. starts_under IsBut h x.place p) outer.names outer.names_in)
            (all_joined (λ x. IsUnder h x.place) own_use.names fields.names (all_so (λ x o. ([], o.1 ∙ sym (append-nil h))) own_use.names own_use.at_node) (all_so (λ x p. starts_under InScope h x.place p) fields.names fields.names_in));
        scopes_in = all_joined (λ s. IsUnder h s.path) outer.scopes (ended_scope ∷ fields.scopes) (all_so (λ s p. starts_under IsBut h s.path p) outer.scopes outer.scopes_in)
            (([], sym (append-nil h)), all_so (λ s p. starts_under InScope h s.path p) fields.scopes fields.scopes_in);
        owned = all_joined (IsOwnHome t) outer.names (own_use.names ++ fields.names) outer.owned (all_joined (IsOwnHome t) own_use.names fields.names own_use.owned fields.owned);
      }

  pub scope_adds : (s : ScopeKind) (o : Outside) (m : Marked) → body_kind (is_body_at false t h) (kind_opened k (opened_as w k (has_own_name ts))) ≡ Some s → HasOwnName t h o.own_name → Added t (IsUnder h) m (marked_scope s w k ts walks h o m)
  scope_adds s o m opens own = entered_adds s o.scope o m opens own
