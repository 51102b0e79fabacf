-- References of a smaller tree have the marks of the scopes that they mean there, and those marks are one to one.
use Rattle.std.proofs.Common.{◌≡◌, ◌≢◌, ℕ, Bool, true, false, ◌&&◌, inl, ⊎_elim, Option, Some, None, List, [], ◌∷◌, refl, sym, ap, ◌∙◌, subst, cond}
use Rattle.std.specs.Prelude.{nat_eq}
use Rattle.std.specs.Cmp.Lexicographic.{pointwise, same_text, other_text}
use Rattle.swc_tree_marks.specs.declared.ident.Ident.{Ident}
use Rattle.swc_tree_node.specs.declared.kind.Kind.{Kind}
use Rattle.swc_tree_node.specs.declared.node.Node.{Node, Identifier}
use Rattle.swc_tree_scoping.specs.declared.places.Standing.{Standing}
use Rattle.swc_tree_scoping.specs.declared.places.Standing.TheVariants as standing
use Rattle.swc_tree_scoping.specs.declared.places.Place.{Place}
use Rattle.swc_tree_scoping.specs.Places.{Path, place_at, program_place}
use Rattle.swc_tree_scoping.specs.Scopes.{IsScope, is_binding, is_reference, rounds, taker}
use Rattle.swc_tree_scoping.specs.Declares.{DeclaresFor, First, IsUncaught, Means, is_settled}
use Rattle.swc_tree_scoping.specs.Resolved.{HasMeantMark, mark_in, own_meaning}
use Rattle.swc_tree_scoping.specs.WellScoped.{Stands}
use Rattle.swc_tree_renaming.specs.Apart.{HasTexts, MeansNoGlobalValue, SameScopes}
use Rattle.swc_tree_renaming.proofs.Core.{own_meaning_is}
use Rattle.swc_tree_sites.specs.Sites.{Binding, Entry, counted}
use Rattle.swc_tree_sites.proofs.Loose.{S}
use Rattle.swc_tree_sites.proofs.Found.{env_at, finds}
use Rattle.swc_tree_sites.proofs.Round.{entry_of, env_is, taken_by, taken_is}
use Rattle.swc_tree_sites.proofs.Transport.{entry_from, flat_from, reference_names, refers_so, settled_way}
use Rattle.swc_tree_sites.proofs.Apart.{AllApart, all_paths, scopes_apart, sets_are, sub_apart}
use Rattle.swc_tree_sites.proofs.Whole.{paths_apart, sets_apart}
use Rattle.swc_tree_sites.proofs.Entries.{FirstIn, Matches, first_has, from_entries, to_entries}
use Rattle.swc_tree_sites.proofs.Marked.{NamesIt, declares_tells, scope_of_set}
use Rattle.swc_tree_sites.proofs.Marks.{IsMarked, from_scope, mark_of, marks_of, only_mark, set_mark}
use Rattle.swc_tree_sites.specs.Smaller.{AreKept, In, IsPlain, Sub}

abbrev PP : Place
PP = program_place

module _ (v u n m : Node) (marks : Path → ℕ) (unresolved : ℕ) (is : IsMarked v u marks unresolved) (plain : IsPlain n) (same : SameScopes n m) (texts : HasTexts n (λ x. x) m)
    (kept : AreKept (S program_place m).sites (S program_place u).sites) (uncaught : (p : Path) (x : List ℕ) → Stands n p standing.Variable x → IsUncaught n p x) where
  -- the scope of the whole that has the binding's mark
  whole : (s : Path) (b : Binding) → In b (taken_by PP m s) → (f : Path) × (b.1.ctxt ≡ marks f ∷ []) × (taken_by PP u f ≡ taken_by PP m s)
  whole s b h =
      let d = (taken_is s PP m b).0 h in
      from_scope v u n m marks unresolved is plain same texts kept uncaught d.path s d.place d.kind b.1 d.stands (ap is_binding d.stands_so ∙ d.binds) (subst (λ r. taker r m d.path ≡ Some s) (sym d.stands_so) d.taken)

  mark_is : (s f : Path) (c : Binding) → In c (taken_by PP m s) → taken_by PP u f ≡ taken_by PP m s → marks f ≡ marks_of m s
  mark_is = set_mark v u n m marks unresolved is plain same texts kept uncaught

  told : (q : Path) (x : List ℕ) (o a : Option Path) (e : Option Entry) → FirstIn (NamesIt x) (env_at PP m q) e → Matches u o e → Matches m a e → mark_in marks unresolved o ≡ mark_in (marks_of m) unresolved a
  told q x None None e f y z = refl
  told q x None (Some s) None f y z = absurd z
  told q x None (Some s) (Some e) f y z = absurd y
  told q x (Some f) None None h y z = absurd y
  told q x (Some f) None (Some e) h y z = absurd z
  told q x (Some f) (Some s) None h y z = absurd y
  told q x (Some f) (Some s) (Some e) h y z = let (b, i, named, way) = first_has (NamesIt x) (env_at PP m q) e h in mark_is s f b (subst (In b) (sym z) i) (y ∙ sym z)

  -- the scope that an entry of a copy stands for
  beside : (q : Path) (x : List ℕ) (taken : List Binding) (way : Standing) (i : Ident) (a : Option Path) → Matches m a (Some (taken, true)) → In (way, i) taken → i.ctxt ≡ mark_in (marks_of m) unresolved a ∷ []
  beside q x taken way i None y h = absurd y
  beside q x taken way i (Some s) y h =
      let own = subst (In (way, i)) (sym y) h in
      let (f, z, sets) = whole s (way, i) own in
      z ∙ ap (λ d. d ∷ []) (mark_is s f (way, i) own sets)

  way_settled : (q : Path) (taken : List Binding) (way : Standing) (i : Ident) → env_at PP m q ≡ (taken, true) ∷ [] → In (way, i) taken → is_settled way ≡ true
  way_settled q taken way i env h =
      let (s, k, e) = flat_from (entry_of PP m) (taken, true) (rounds PP m q) (subst (In (taken, true)) (sym env ∙ env_is q PP m) (inl refl)) in
      let (sets, views) = entry_from (taken_by PP m s.0) taken s.1 true e in
      let d = (taken_is s.0 PP m (way, i)).0 (subst (In (way, i)) (sym sets) h) in
      let (l, j, there) = same.back d.path d.place d.kind i d.stands in
      settled_way way (λ e. plain.settled d.path d.place l j there (d.stands_so ∙ e))

  -- a reference has the mark of the scope that it means, or the unresolved mark
  pub reference_mark : MeansNoGlobalValue v → MeansNoGlobalValue n → (q : Path) (w : Place) (k : Kind) (i : Ident) → place_at PP m q ≡ Some (w, Identifier k i) → is_reference w.standing ≡ true → HasMeantMark (marks_of m) unresolved n q i.sym i.ctxt
  reference_mark whole_none none q w k i h refers =
      let (x, j, there) = same.back q w k i h in
      let stands : Stands n q w.standing i.sym = record { place = w; kind = x; identifier = j; stands = there; stands_so = refl; named = sym (texts q w w x k j i there h (reference_names w.standing refers)) } in
      ⊎_elim
      (λ z.
      let g = (finds u PP (counted w.standing, i, env_at PP m q)).0 z in
      let (y, b, own) = is.same.back g.path g.place g.kind i g.stands in
      let refers_there = refers_so g.place.standing w.standing g.stands_so refers in
      let stood : Stands v g.path g.place.standing i.sym
      = record { place = g.place; kind = y; identifier = b; stands = own; stands_so = refl; named = sym (is.texts g.path g.place g.place y g.kind b i own g.stands g.names) } in
      let (o, means, c) = (is.resolved g.path g.place g.kind i g.stands g.names).reference (refers_so g.place.standing w.standing g.stands_so refers) in
      let (e, f, there) = to_entries u (DeclaresFor v i.sym) (NamesIt i.sym) (declares_tells v u is.plain is.same is.texts i.sym) (rounds PP u g.path) o
      (subst (λ ss. First (DeclaresFor v i.sym) ss o) (is.same.rounds_same g.path) means) in
      let first : FirstIn (NamesIt i.sym) (env_at PP m q) e = subst (λ l. FirstIn (NamesIt i.sym) l e) (sym (env_is g.path PP u) ∙ g.env) f in
      let (a, d, here) = from_entries m (DeclaresFor n i.sym) (NamesIt i.sym) (declares_tells n m plain same texts i.sym) (rounds PP m q) e (subst (λ l. FirstIn (NamesIt i.sym) l e) (env_is q PP m) first) in
      let meant : Means n q i.sym a = subst (λ ss. First (DeclaresFor n i.sym) ss a) (sym (same.rounds_same q)) d in (
        a,
        meant,
        c ∙ ap (λ o. mark_in marks unresolved o ∷ []) (own_meaning_is v whole_none g.path g.place.standing i.sym stood refers_there o means) ∙ ap (λ d. d ∷ []) (told q i.sym o a e first there here)
            ∙ ap (λ o. mark_in (marks_of m) unresolved o ∷ []) (sym (own_meaning_is n none q w.standing i.sym stands refers a meant)),
      ))
      (λ z.
      let own : NamesIt i.sym (z.taken, true) = ((z.way, z.bound), z.within, z.same.0, way_settled q z.taken z.way z.bound z.env z.within) in
      let first : FirstIn (NamesIt i.sym) (env_at PP m q) (Some (z.taken, true)) = subst (λ l. FirstIn (NamesIt i.sym) l (Some (z.taken, true))) (sym z.env) (inl (own, refl)) in
      let (a, d, here) = from_entries m (DeclaresFor n i.sym) (NamesIt i.sym) (declares_tells n m plain same texts i.sym) (rounds PP m q) (Some (z.taken, true)) (subst (λ l. FirstIn (NamesIt i.sym) l (Some (z.taken, true))) (env_is q PP m) first) in
      let meant : Means n q i.sym a = subst (λ ss. First (DeclaresFor n i.sym) ss a) (sym (same.rounds_same q)) d in (
        a,
        meant,
        sym z.same.1 ∙ beside q i.sym z.taken z.way z.bound a here z.within ∙ ap (λ o. mark_in (marks_of m) unresolved o ∷ []) (sym (own_meaning_is n none q w.standing i.sym stands refers a meant)),
      ))
      (kept (counted w.standing, i, env_at PP m q)
      ((finds m PP (counted w.standing, i, env_at PP m q)).1 (record { path = q; place = w; kind = k; stands = h; stands_so = refl; names = reference_names w.standing refers; env = refl })))

  module _ (sets : Sub (S program_place m).sets (S program_place u).sets) where
    -- sets that are one of the whole, with its mark, are no two
    abbrev Two : List Binding → List Binding → Type 0
    Two xs ys = (f : Path) (b : Binding) → xs ≡ taken_by PP u f → ys ≡ taken_by PP u f → In b xs → b.1.ctxt ≡ marks f ∷ [] → ⊥

    none_two : AllApart Two (S PP m).sets
    none_two = sub_apart Two (S PP m).sets (S PP u).sets sets (subst (AllApart Two) (sym (sets_are u PP))
        (sets_apart Two (taken_by PP u)
        (λ s g b c ne i j f d x y h z.
        let first : s ≡ f = only_mark v u marks unresolved is s f d h (subst (In d) x h) z in
        let second : g ≡ f = only_mark v u marks unresolved is g f d (subst (In d) (x ∙ sym y) h) (subst (In d) x h) z in
        ne (first ∙ sym second))
        (all_paths u) (paths_apart u)))

    -- two scopes of one mark are one
    pub marks_apart : (s g : Path) (b c : Binding) → In b (taken_by PP m s) → In c (taken_by PP m g) → marks_of m s ≡ marks_of m g → s ≡ g
    marks_apart s g b c i j e = by (pointwise nat_eq s g) refl
      where
        by : (z : Bool) → pointwise nat_eq s g ≡ z → s ≡ g
        by true z = same_text s g (sym z)
        by false z =
            let (f, x, there) = whole s b i in
            let (h, y, beyond) = whole g c j in
            let one : f ≡ h = is.one_to_one f h (scope_of_set v u is.plain is.same is.texts f b (subst (In b) (sym there) i)) (scope_of_set v u is.plain is.same is.texts h c (subst (In c) (sym beyond) j))
            (mark_is s f b i there ∙ e ∙ sym (mark_is g h c j beyond)) in
            let second : taken_by PP m g ≡ taken_by PP u f = sym beyond ∙ ap (taken_by PP u) (sym one) in
            absurd (⊎_elim
            (λ q. q f b (sym there) second i x)
            (λ q. q f c second (sym there) j (y ∙ ap (λ f. marks f ∷ []) (sym one)))
            (scopes_apart Two PP m none_two s g b c (other_text s g (sym z)) i j))

    -- only the program may have the unresolved mark
    pub others_resolved : taken_by PP m [] ≡ taken_by PP u [] → ((s : Path) → IsScope v s → s ≢ [] → marks s ≢ unresolved) → (s : Path) (b : Binding) → In b (taken_by PP m s) → s ≢ [] → marks_of m s ≢ unresolved
    others_resolved roots others s b h ne e = let (f, x, there) = whole s b h in at f there
      where
        at : (f : Path) → taken_by PP u f ≡ taken_by PP m s → ⊥
        at [] there =
            let both : taken_by PP m s ≡ taken_by PP m [] = sym there ∙ sym roots in
            ne (marks_apart s [] b b h (subst (In b) both h) (ap (λ l. mark_of l) both))
        at (i ∷ f) there = others (i ∷ f) (scope_of_set v u is.plain is.same is.texts (i ∷ f) b (subst (In b) (sym there) h)) (λ z. absurd (cc)) (mark_is s (i ∷ f) b h there ∙ e)
