-- A program is inside another that has its statements.
use Rattle.std.proofs.Common.{◌≡◌, ℕ, Bool, true, false, IsTrue, inl, inr, ⊎_elim, Option, Some, List, [], ◌∷◌, ◌++◌, Contains, map, refl, sym, ap, ◌∙◌, subst}
use Rattle.std.specs.List.{slice_get}
use Rattle.std.specs.Option.{option_and_then}
use Rattle.swc_tree_marks.specs.declared.ident.Ident.{Ident}
use Rattle.swc_tree_node.specs.declared.kind.Kind.{Kind}
use Rattle.swc_tree_node.specs.declared.kind.Kind.TheVariants as kind
use Rattle.swc_tree_node.specs.declared.slot.Role.TheVariants as role
use Rattle.swc_tree_node.specs.declared.node.Node.{Node, List as Many, Identifier, Tree, out-Node}
use Rattle.swc_tree_node.specs.declared.node.Node.TheOpen.{Node-F}
use Rattle.swc_tree_node.specs.declared.node.Node.TheVariants.{outs-List, outs-Tree}
use Rattle.swc_tree_scoping.specs.declared.places.Place.{Place}
use Rattle.swc_tree_scoping.specs.Places.{Path, field_role, opened, place_at, place_below, program_place}
use Rattle.swc_tree_scoping.specs.Scopes.{Round, rounds, scope_at}
use Rattle.swc_tree_scoping.specs.WellScoped.{InExportList, IsArrowOrMethod, IsAt, has_unique_parameters, is_method}
use Rattle.swc_tree_scoping.proofs.Under.{place_under}
use Rattle.swc_tree_renaming.proofs.Core.{cases_in, none_in}
use Rattle.swc_tree_renaming.proofs.Whole.{program_opens}
use Rattle.swc_base_tables_laws.proofs.Declarers.{some_same}
use Rattle.swc_base_tables_laws.proofs.Inside.{Alike, Inside, moved}
use Rattle.swc_base_tables_laws.proofs.Programs.{HasNoNames, In, Kept, child_is, code_of, is_goal_kind, item_place, layer_is, name_in, of_item, place_of_item, program_layer_is, program_of, rounds_of_item, shifted}

impossible : {A : Type 0} → false ≡ true → A
impossible h = absurd (cc)

-- what is no function and exports nothing
plain_program : (k : Kind) → IsTrue (is_goal_kind k) → (field_role k 1 ≡ role.Plain) × (has_unique_parameters k ≡ false)
plain_program kind.Module g = (refl, refl)
plain_program kind.Script g = (refl, refl)
plain_program _ g = absurd (cc)

module _ (l : Kind) (g : IsTrue (is_goal_kind l)) (a z b y : Node) (xs zs : List Node) (h : ℕ → ℕ) (Real : ℕ → Type 0) (na : HasNoNames a) (nz : HasNoNames z) (code : code_of l xs ≡ code_of l zs) (keeps : Kept xs zs h Real) where
  abbrev M : Node
  M = program_of l a xs z

  abbrev N : Node
  N = program_of l b zs y

  abbrev old : Place
  old = item_place (code_of l xs)

  -- what stands in an item stands there in the other list
  there_too : (j : ℕ) (c : Node) (q : Path) → Real j → slice_get xs j ≡ Some c → place_at program_place N (1 ∷ h j ∷ q) ≡ place_at old c q
  there_too j c q real at = place_of_item l g b y zs (h j) c q (keeps.same j c real at) ∙ ap (λ s. place_at (item_place s) c q) (sym code)

  placed : (p : Path) (w : Place) (k : Kind) (i : Ident) → place_at program_place M p ≡ Some (w, Identifier k i) → In xs Real p
  placed p w k i e =
      let (j, q, c, is, at, there) = name_in l g a z xs na nz p w k i e in
      ⊎_elim (λ (real : Real j). inr (j, q, c, is, real, at)) (λ (none : HasNoNames c). absurd (none q old w k i there)) (keeps.named j c at)

  same_place : (j : ℕ) (c : Node) (q : Path) → Real j → slice_get xs j ≡ Some c → place_at program_place N (1 ∷ h j ∷ q) ≡ place_at program_place M (1 ∷ j ∷ q)
  same_place j c q real at = there_too j c q real at ∙ sym (place_of_item l g a z xs j c q at)

  stays : (p : Path) (w : Place) (k : Kind) (i : Ident) → place_at program_place M p ≡ Some (w, Identifier k i) → place_at program_place N (shifted h p) ≡ Some (w, Identifier k i)
  stays p w k i e =
      let (j, q, c, is, at, there) = name_in l g a z xs na nz p w k i e in
      ⊎_elim
      (λ (real : Real j). ap (λ p. place_at program_place N (shifted h p)) is ∙ there_too j c q real at ∙ there)
      (λ (none : HasNoNames c). absurd (none q old w k i there))
      (keeps.named j c at)

  kept : (p : Path) (w : Place) (k : Kind) (i : Ident) → place_at program_place M p ≡ Some (w, Identifier k i) → (v : Place) × (place_at program_place N (shifted h p) ≡ Some (v, Identifier k i)) × Alike w v
  kept p w k i e = (w, stays p w k i e, inl refl)

  moved_items : (j : ℕ) (ss : List Round) → of_item (h j) ss ≡ map (moved (shifted h)) (of_item j ss)
  moved_items j [] = refl
  moved_items j (s ∷ ss) = ap (λ l. (1 ∷ h j ∷ s.0, s.1) ∷ l) (moved_items j ss)

  rounds_kept : (p : Path) → In xs Real p → rounds program_place N (shifted h p) ≡ map (moved (shifted h)) (rounds program_place M p)
  rounds_kept p (inl is) = subst (λ p. rounds program_place N (shifted h p) ≡ map (moved (shifted h)) (rounds program_place M p)) (sym is) refl
  rounds_kept p (inr (j, q, c, is, real, at)) =
      subst (λ p. rounds program_place N (shifted h p) ≡ map (moved (shifted h)) (rounds program_place M p)) (sym is)
      (rounds_of_item l g b y zs (h j) c q (keeps.same j c real at) ∙ ap (λ s. of_item (h j) (rounds (item_place s) c q)) (sym code) ∙ moved_items j (rounds old c q) ∙ ap (map (moved (shifted h))) (sym (rounds_of_item l g a z xs j c q at)))

  scopes_kept : (p : Path) → In xs Real p → scope_at program_place N (shifted h p) ≡ scope_at program_place M p
  scopes_kept p (inl is) = subst (λ p. scope_at program_place N (shifted h p) ≡ scope_at program_place M p) (sym is) (program_opens N (program_layer_is l g b y zs) ∙ sym (program_opens M (program_layer_is l g a z xs)))
  scopes_kept p (inr (j, q, c, is, real, at)) =
      subst (λ p. scope_at program_place N (shifted h p) ≡ scope_at program_place M p) (sym is) (ap (option_and_then (λ (q : Place × Node). opened q.0 q.1)) (same_place j c q real at))

  item_round : (j : ℕ) (c : Node) → Real j → slice_get xs j ≡ Some c → (ss : List Round) (s : Round) → Contains (of_item j ss) s → In xs Real s.0
  item_round j c real at [] s there = ⊎_elim (λ (is : ([], true) ≡ s). inl (sym (ap (λ (s : Round). s.0) is))) (λ later. absurd (none_in s later)) (cases_in ([], true) s [] there)
  item_round j c real at (u ∷ us) s there = ⊎_elim
      (λ (is : (1 ∷ j ∷ u.0, u.1) ≡ s). inr (j, u.0, c, sym (ap (λ (s : Round). s.0) is), real, at))
      (λ later. item_round j c real at us s later)
      (cases_in (1 ∷ j ∷ u.0, u.1) s (of_item j us) there)

  round_in : (p : Path) (s : Round) → In xs Real p → Contains (rounds program_place M p) s → In xs Real s.0
  round_in p s (inl is) there = absurd (none_in s (subst (λ p. Contains (rounds program_place M p) s) is there))
  round_in p s (inr (j, q, c, is, real, at)) there =
      item_round j c real at (rounds old c q) s (subst (λ l. Contains l s) (ap (rounds program_place M) is ∙ rounds_of_item l g a z xs j c q at) there)

  one : (p q : Path) → In xs Real p → In xs Real q → shifted h p ≡ shifted h q → p ≡ q
  one p q (inl is) (inl too) e = is ∙ sym too
  one p q (inl is) (inr (j, r, c, too, real, at)) e = let z : ◌≡◌ {A = Path} [] (1 ∷ h j ∷ r) = ap (shifted h) (sym is) ∙ e ∙ ap (shifted h) too in absurd (cc)
  one p q (inr (j, r, c, is, real, at)) (inl too) e = let z : ◌≡◌ {A = Path} (1 ∷ h j ∷ r) [] = ap (shifted h) (sym is) ∙ e ∙ ap (shifted h) too in absurd (cc)
  one p q (inr (j, r, c, is, real, at)) (inr (i, s, d, too, real_too, at_too)) e =
      let z : ◌≡◌ {A = Path} (1 ∷ h j ∷ r) (1 ∷ h i ∷ s) = ap (shifted h) (sym is) ∙ e ∙ ap (shifted h) too in
      let numbers : h j ≡ h i = cc in
      let rest : r ≡ s = cc in
      is ∙ ap (λ j. 1 ∷ j ∷ r) (keeps.apart j i real real_too numbers) ∙ ap (λ r. 1 ∷ i ∷ r) rest ∙ sym too

  -- the program itself, and its list
  top_kind : (w : Place) (k : Kind) (ts : List Node) → place_at program_place N [] ≡ Some (w, Tree k ts) → k ≡ l
  top_kind w k ts e =
      let same : Node-F.Tree k ts ≡ Node-F.Tree l (b ∷ Many zs ∷ y ∷ []) = sym (outs-Tree k ts) ∙ sym (ap (λ (q : Place × Node). out-Node q.1) (some_same (program_place, N) (w, Tree k ts) e)) ∙ layer_is l b y zs in
      cc

  list_no_tree : {A : Type 0} (w : Place) (k : Kind) (ts : List Node) → place_at program_place N (1 ∷ []) ≡ Some (w, Tree k ts) → A
  list_no_tree w k ts e =
      let here : ◌≡◌ {A = Option (Place × Node)} (Some (place_below program_place N 1, Many zs)) (Some (w, Tree k ts)) = sym (place_under program_place N (Many zs) 1 [] (child_is l b y zs 1)) ∙ e in
      let same : Node-F.Tree k ts ≡ Node-F.List zs = sym (outs-Tree k ts) ∙ sym (ap (λ (q : Place × Node). out-Node q.1) (some_same (place_below program_place N 1, Many zs) (w, Tree k ts) here)) ∙ outs-List zs in
      absurd (cc)

  no_path : {A : Type 0} (q r : Path) (i : ℕ) → ◌≡◌ {A = Path} [] (q ++ (i ∷ r)) → A
  no_path [] r i e = absurd (cc)
  no_path (j ∷ q) r i e = absurd (cc)

  listed_at : (j : ℕ) (q : Path) (c : Node) → Real j → slice_get xs j ≡ Some c → (r below : Path) (i : ℕ) (w : Place) (k : Kind) (ts : List Node) → ◌≡◌ {A = Path} (1 ∷ h j ∷ q) (r ++ (i ∷ below))
      → place_at program_place N r ≡ Some (w, Tree k ts) → field_role k i ≡ role.ExportLocal → InExportList M (1 ∷ j ∷ q)
  listed_at j q c real at [] below i w k ts e there exports =
      let first : i ≡ 1 = cc in
      let is : role.Plain ≡ role.ExportLocal = sym (ap (λ k. field_role k i) (top_kind w k ts there) ∙ ap (field_role l) first ∙ (plain_program l g).0) ∙ exports in
      absurd (cc)
  listed_at j q c real at (m ∷ []) below i w k ts e there exports =
      let first : m ≡ 1 = cc in
      list_no_tree w k ts (ap (λ m. place_at program_place N (m ∷ [])) (sym first) ∙ there)
  listed_at j q c real at (m ∷ n ∷ r) below i w k ts e there exports =
      let first : m ≡ 1 = cc in
      let second : n ≡ h j = cc in
      let rest : q ≡ r ++ (i ∷ below) = cc in
      let path : ◌≡◌ {A = Path} (1 ∷ h j ∷ r) (m ∷ n ∷ r) = ap (λ n. 1 ∷ n ∷ r) (sym second) ∙ ap (λ m. m ∷ n ∷ r) (sym first) in
      (1 ∷ j ∷ r, below, i, w, k, ts, ap (λ q. 1 ∷ j ∷ q) rest, sym (same_place j c r real at) ∙ ap (place_at program_place N) path ∙ there, exports)

  list_in : (p : Path) → In xs Real p → InExportList N (shifted h p) → InExportList M p
  list_in p (inl is) (r, below, i, w, k, ts, e, there, exports) = no_path r below i (ap (shifted h) (sym is) ∙ e)
  list_in p (inr (j, q, c, is, real, at)) (r, below, i, w, k, ts, e, there, exports) = subst (InExportList M) (sym is) (listed_at j q c real at r below i w k ts (ap (shifted h) (sym is) ∙ e) there exports)

  listed : (p : Path) (w : Place) (k : Kind) (i : Ident) → place_at program_place M p ≡ Some (w, Identifier k i) → InExportList N (shifted h p) → InExportList M p × (place_at program_place N (shifted h p) ≡ Some (w, Identifier k i))
  listed p w k i e list = (list_in p (placed p w k i e) list, stays p w k i e)

  at_top : {A : Type 0} (kinds : Kind → Bool) → kinds l ≡ false → IsAt kinds N [] → A
  at_top kinds none (w, k, ts, e, is) = impossible (sym none ∙ sym (ap kinds (top_kind w k ts e)) ∙ is)

  at_item : (kinds : Kind → Bool) (j : ℕ) (r : Path) (c : Node) → Real j → slice_get xs j ≡ Some c → IsAt kinds N (1 ∷ h j ∷ r) → IsAt kinds M (1 ∷ j ∷ r)
  at_item kinds j r c real at (w, k, ts, e, is) = (w, k, ts, sym (same_place j c r real at) ∙ e, is)

  method_at : (j : ℕ) (q : Path) (c : Node) → Real j → slice_get xs j ≡ Some c → (r : Path) (i : ℕ) → ◌≡◌ {A = Path} (1 ∷ h j ∷ q) (r ++ (i ∷ [])) → IsAt is_method N r → IsArrowOrMethod M (1 ∷ j ∷ q)
  method_at j q c real at [] i e method = absurd (cc)
  method_at j q c real at (m ∷ []) i e (w, k, ts, there, method) =
      let first : m ≡ 1 = cc in
      list_no_tree w k ts (ap (λ m. place_at program_place N (m ∷ [])) (sym first) ∙ there)
  method_at j q c real at (m ∷ n ∷ r) i e method =
      let first : m ≡ 1 = cc in
      let second : n ≡ h j = cc in
      let rest : q ≡ r ++ (i ∷ []) = cc in
      let path : ◌≡◌ {A = Path} (m ∷ n ∷ r) (1 ∷ h j ∷ r) = ap (λ m. m ∷ n ∷ r) first ∙ ap (λ n. 1 ∷ n ∷ r) second in
      inr (1 ∷ j ∷ r, i, ap (λ q. 1 ∷ j ∷ q) rest, at_item is_method j r c real at (subst (IsAt is_method N) path method))

  arrows_top : IsArrowOrMethod N [] → IsArrowOrMethod M []
  arrows_top (inl is) = at_top has_unique_parameters (plain_program l g).1 is
  arrows_top (inr (r, i, e, is)) = no_path r [] i e

  arrows_item : (j : ℕ) (q : Path) (c : Node) → Real j → slice_get xs j ≡ Some c → IsArrowOrMethod N (1 ∷ h j ∷ q) → IsArrowOrMethod M (1 ∷ j ∷ q)
  arrows_item j q c real at (inl is) = inl (at_item has_unique_parameters j q c real at is)
  arrows_item j q c real at (inr (r, i, e, is)) = method_at j q c real at r i e is

  arrows : (p : Path) → In xs Real p → IsArrowOrMethod N (shifted h p) → IsArrowOrMethod M p
  arrows p (inl is) arrow = subst (IsArrowOrMethod M) (sym is) (arrows_top (subst (λ p. IsArrowOrMethod N (shifted h p)) is arrow))
  arrows p (inr (j, q, c, is, real, at)) arrow = subst (IsArrowOrMethod M) (sym is) (arrows_item j q c real at (subst (λ p. IsArrowOrMethod N (shifted h p)) is arrow))

  pub inside_program : Inside M N (shifted h) (In xs Real)
  inside_program = record {
    placed = placed;
    kept = kept;
    rounds_kept = rounds_kept;
    scopes_kept = scopes_kept;
    round_in = round_in;
    one = one;
    top = refl;
    root = inl refl;
    listed = listed;
    arrows = arrows;
  }
