-- The children of one node, one after the other, and a scope that the node opens round them.
use Rattle.std.proofs.Common.{◌≡◌, ℕ, ◌+◌, ◌<◌, Bool, true, false, IsTrue, inl, inr, List, [], ◌∷◌, ◌++◌, length, length-append, sym, ap, ◌∙◌, subst, arith, append-nil, Less, nat_cmp}
use Rattle.std.specs.Cmp.Lexicographic.{slice_cmp}
use Rattle.swc_tree_node.specs.declared.kind.Kind.{Kind}
use Rattle.swc_tree_node.specs.declared.node.Node.{Node, out-Node}
use Rattle.swc_tree_node.specs.declared.node.Node.TheOpen.{Node-F}
use Rattle.swc_tree_scoping.specs.declared.places.Place.{Place}
use Rattle.swc_tree_scoping.specs.Places.{Path, child, given, is_at, program_place}
use Rattle.swc_base_rename_analysis.specs.declared.scopes.ScopeKind.{ScopeKind}
use Rattle.swc_base_rename_analysis.specs.Analysis.{IsRound, key_field, opened_round}
use Rattle.swc_base_rename_analysis.specs.Laws.{is_body_at}
use Rattle.swc_base_rename_analysis.specs.Order.{entry, turn, turns}
use Rattle.swc_base_rename_analysis_laws.proofs.Good.{EntersFirst, Good, Home, InHome, IsNotIn, NameFirst, StartsWith, joined, longer, not_in_below, not_in_other}
use Rattle.swc_base_rename_analysis_laws.proofs.Lists.{All, Cross, all_and, all_joined, all_so, cross_joined, cross_of, from_of}
use Rattle.swc_base_rename_analysis_laws.proofs.Marked.{MarkedScope}
use Rattle.swc_base_rename_analysis_laws.proofs.Paths.{IsAt, turns_compare, turns_part}
use Rattle.swc_base_rename_analysis_laws.proofs.Rounded.{not_round_outside, round_inside_of}
use Rattle.swc_base_rename_analysis_laws.proofs.Rounds.{entered_first}

-- names and scopes below some of the children
abbrev pub NamesIn : (ℕ → Type 0) → Path → List Home → Type 0
NamesIn F h xs = All (λ x. StartsWith F h x.place) xs

abbrev pub ScopesIn : (ℕ → Type 0) → Path → List MarkedScope → Type 0
ScopesIn F h ss = All (λ s. StartsWith F h s.path) ss

-- names that are met at the node itself, as uses of its own name
abbrev pub OwnUses : Path → List Home → Type 0
OwnUses h xs = All (λ x. IsTrue x.owned × (x.place ≡ h)) xs

not_owned : {A : Type 0} (b : Bool) → IsTrue b → b ≡ false → A
not_owned b h e = let both : false ≡ true = sym e ∙ h in absurd (cc)

module _ (t : Node) (h : Path) (w : Place) (n : Node) (there : IsAt program_place t h w n) where
  -- each of some children has its turn before each of some others
  abbrev pub Sooner : (ℕ → Type 0) → (ℕ → Type 0) → Type 0
  Sooner F G = (i j : ℕ) → F i → G j → turn (out-Node n) i < turn (out-Node n) j

  turn_first : (end : Node-F Node → List ℕ) (F G : ℕ → Type 0) → Sooner F G → (p q : Path) → StartsWith F h p → StartsWith G h q → slice_cmp nat_cmp (turns end t p) (turns end t q) ≡ Less
  turn_first end F G sooner p q (i, r, at, f) (j, s, to, g) = (λ a. slice_cmp nat_cmp (turns end t (at a)) (turns end t (to a))) ∙ turns_part end h i j r s program_place t w n there (sooner i j f g)

  differ : (F G : ℕ → Type 0) → Sooner F G → (i j : ℕ) → F i → G j → i ≡ j → ⊥
  differ F G sooner i j f g e = let less = sooner i j f g in omega (arith, less, ap (turn (out-Node n)) e)

  pub children_joined : (F G : ℕ → Type 0) → Sooner F G → (a : ℕ) (xs ys : List Home) (ss us : List MarkedScope) → Good t a xs ss → Good t (a + length xs) ys us
      → NamesIn F h xs → NamesIn G h ys → ScopesIn F h ss → ScopesIn G h us → Good t a (xs ++ ys) (ss ++ us)
  children_joined F G sooner a xs ys ss us g f in_xs in_ys in_ss in_us = joined t a xs ys ss us g f
      (cross_of (λ s u p q. turn_first entry F G sooner s.path u.path p q) ss us in_ss in_us)
      (cross_of (λ x y p q _ _. turn_first (λ _. []) F G sooner x.place y.place p q) xs ys in_xs in_ys)
      (cross_of (λ s y p q. not_in_other t h F G (differ F G sooner) s y p q) ss ys in_ss in_ys)
      (cross_of (λ u x p q. not_in_other t h G F (λ i j g f e. differ F G sooner j i f g (sym e)) u x p q) us xs in_us in_xs)

  module _ (k : Kind) (ts : List Node) (layer : out-Node n ≡ Node-F.Tree k ts) (s : ScopeKind) (F : ℕ → Type 0)
      (stands_in : (j : ℕ) → F j → opened_round (is_body_at false t h) w (Node-F.Tree k ts) j ≡ ([], s) ∷ []) (no_key : (j : ℕ) → F j → is_at (key_field k) j ≡ false) where
    entered : (opened u : MarkedScope) → opened.path ≡ h → StartsWith F h u.path → EntersFirst t opened u
    entered opened u here (j, q, at, f) =
        (λ a. slice_cmp nat_cmp (turns entry t ((here ∙ sym (append-nil h)) a)) (turns entry t (at a)))
        ∙ turns_compare entry h [] (j ∷ q) program_place t w n there
        ∙ ap (λ y. slice_cmp nat_cmp (entry y) (turn y j ∷ given (child n j) [] (λ c. turns entry c q))) layer
        ∙ entered_first k ts j (given (child n j) [] (λ c. turns entry c q)) (no_key j f)

    inside : (x : Home) → StartsWith F h x.place → InHome t h x
    inside x (j, q, at, f) = inl (subst (λ p. IsRound t h p) (sym at) (round_inside_of t h w n there j s (ap (λ y. opened_round (is_body_at false t h) w y j) layer ∙ stands_in j f) q))

    pub wrapped : (a : ℕ) (os xs : List Home) (opened : MarkedScope) (ss : List MarkedScope) → opened.path ≡ h → opened.region.start ≡ a → opened.region.end ≡ a + length os + length xs
        → Good t a os [] → OwnUses h os → Good t (a + length os) xs ss → NamesIn F h xs → ScopesIn F h ss → Good t a (os ++ xs) (opened ∷ ss)
    wrapped a os xs opened ss here starts ends own owned g in_xs in_ss = record {
      bounded = ((omega (arith, starts), omega (arith, starts, ends), omega (arith, ends, both)), inner.bounded);
      rising = (all_and (λ u b i. (entered opened u here i, (omega (arith, starts, b.0), inl (omega (arith, ends, both, b.2))))) ss inner.bounded in_ss, inner.rising);
      in_turn = inner.in_turn;
      fits = (from_of a (os ++ xs) (λ i x low high is_in. (λ _. is_in, λ _. (omega (arith, starts, low), omega (arith, ends, both, high)))) all_inside, inner.fits);
    }
      where
        both : length (os ++ xs) ≡ length os + length xs
        both = length-append os xs

        inner : Good t a (os ++ xs) ss
        inner = joined t a os xs [] ss own g tt
            (cross_of (λ x y o _ e _. not_owned x.owned o.0 e) os xs owned in_xs)
            tt
            (cross_of (λ u x p o. not_in_below t h F u x p o.1) ss os in_ss owned)

        all_inside : All (InHome t opened.path) (os ++ xs)
        all_inside = all_joined (InHome t opened.path) os xs
            (all_so (λ x o. inr (o.0, here ∙ sym o.1)) os owned)
            (all_so (λ x p. subst (λ p. InHome t p x) (sym here) (inside x p)) xs in_xs)

    -- what stands outside of the scope comes before it
    pub outside_joined : (B : ℕ → Type 0) → Sooner B F → ((j : ℕ) → B j → opened_round (is_body_at false t h) w (Node-F.Tree k ts) j ≡ [])
        → (a : ℕ) (zs os xs : List Home) (rs : List MarkedScope) (opened : MarkedScope) (ss : List MarkedScope) → opened.path ≡ h → Good t a zs rs → Good t (a + length zs) (os ++ xs) (opened ∷ ss)
        → All (λ r. EntersFirst t r opened) rs → NamesIn B h zs → ScopesIn B h rs → OwnUses h os → NamesIn F h xs → ScopesIn F h ss → Good t a (zs ++ (os ++ xs)) (rs ++ (opened ∷ ss))
    outside_joined B sooner outside a zs os xs rs opened ss here g f first in_zs in_rs owned in_xs in_ss = joined t a zs (os ++ xs) rs (opened ∷ ss) g f
        (cross_joined (EntersFirst t) rs (opened ∷ []) ss (one_cross rs first) (cross_of (λ r u p q. turn_first entry B F sooner r.path u.path p q) rs ss in_rs in_ss))
        (cross_joined (NameFirst t) zs os xs (cross_of (λ x y _ o _ e. not_owned y.owned o.0 e) zs os in_zs owned) (cross_of (λ x y p q _ _. turn_first (λ _. []) B F sooner x.place y.place p q) zs xs in_zs in_xs))
        (cross_joined (IsNotIn t) rs os xs (cross_of (λ r x p o. not_in_below t h B r x p o.1) rs os in_rs owned) (cross_of (λ r x p q. not_in_other t h B F (differ B F sooner) r x p q) rs xs in_rs in_xs))
        (all_so (λ z p. not_inside z p) zs in_zs, cross_of (λ u z p q. not_in_other t h F B (λ i j f b e. differ B F sooner j i b f (sym e)) u z p q) ss zs in_ss in_zs)
      where
        one_cross : (rs : List MarkedScope) → All (λ r. EntersFirst t r opened) rs → Cross (EntersFirst t) rs (opened ∷ [])
        one_cross [] h = tt
        one_cross (r ∷ rs) (e, h) = ((e, tt), one_cross rs h)

        not_inside : (z : Home) → StartsWith B h z.place → IsNotIn t opened z
        not_inside z (j, q, at, b) (inl round) = not_round_outside t h w n there j (ap (λ y. opened_round (is_body_at false t h) w y j) layer ∙ outside j b) q (subst (λ z. IsRound t h z) at (subst (λ s. IsRound t s z.place) here round))
        not_inside z (j, q, at, b) (inr (_, same)) = longer h h j q [] (sym here ∙ same ∙ at ∙ sym (append-nil (h ++ (j ∷ q))))
