-- The names that ids get in order, by the numbers that are read off a tree, are those that the definitions give them.
use Rattle.std.proofs.Common.{◌≡◌, ◌≢◌, ◌↔◌, ℕ, ◌<◌, ◌≤◌, Bool, true, false, IsTrue, ◌&&◌, nat_le, nat_lt, Option, Some, None, List, ◌∷◌, codes, length, map, get_or, take, refl, sym, ap, ◌∙◌, subst, arith}
use Rattle.std.specs.Prelude.{if◌then◌else◌}
use Rattle.std.specs.List.{list_any, slice_get}
use Rattle.std.specs.Str.{bytes_eq}
use Rattle.std.proofs.lemmas.Bool.{and_from, and_parts, le-leb, leb-true, lt-ltb, ltb-true, or_from, or_parts, false_from_ne_true}
use Rattle.std.proofs.lemmas.Option.{get_or_from_slice_get, slice_get-get_or}
use Rattle.std.proofs.lemmas.Slice.Eq.{bytes_eq-Decides}
use Rattle.swc_tree_node.specs.declared.node.Node.{Node}
use Rattle.swc_tree_scoping.specs.Places.{Path}
use Rattle.swc_tree_scoping.specs.BoundNames.{Id}
use Rattle.swc_base_rename_analysis.specs.declared.analysis.Analysis.{Analysis}
use Rattle.swc_base_rename_analysis.specs.declared.analysis.Site.{Site as Numbered}
use Rattle.swc_base_rename_analysis.specs.declared.layout.Region.{Region}
use Rattle.swc_base_rename_analysis.specs.declared.numbers.Entry.{Entry}
use Rattle.swc_base_rename_analysis.specs.Analysis.{Declares, IsAtOrAbove}
use Rattle.swc_base_rename_analysis.specs.Between.{OneBetween}
use Rattle.swc_base_rename_analysis.specs.Named.{IsFreeText, IsLeast, IsNamedAt, Named, Renaming, IsSpent as IsSpentAt}
use Rattle.swc_base_rename_analysis.specs.Numbers.{known_of, number_in}
use Rattle.swc_base_rename_analysis.specs.Order.{Site}
use Rattle.swc_base_rename_analysis.specs.Read.{Occurs}
use Rattle.swc_base_rename_analysis_laws.specs.Means.{IsIdOf, Means, surrounds}
use Rattle.swc_base_rename_naming.specs.Counters.{greatest}
use Rattle.swc_base_rename_naming.specs.InOrder.{AreChosen, IsSpent, NamedInOrder, Rules, is_named, is_taken, start}
use Rattle.swc_base_rename_naming_laws.specs.Rules.{IsAmong, IsByIds, counting, counting_by, numbered_sites, occurs_at, occurs_between, rules_of, stays_as, text_of}
use Rattle.swc_base_rename_naming_laws.proofs.Chosen.{NamedAt, choice_of, true_is_false}
use Rattle.swc_base_rename_naming_laws.proofs.Counted.{choice_named, name_is}
use Rattle.swc_base_rename_naming_laws.proofs.Least.{agree_by, each_least, free_from, start_to, taken_by}
use Rattle.swc_base_rename_naming_laws.proofs.Lists.{after_front, any_at, any_found, front_taken, none_is_some, whole_taken, within}
use Rattle.swc_base_rename_naming_laws.proofs.Sites.{Fits, IsAt, declared_at, index_before, index_of, named_from, none_numbered, number_found, numbers_of, one_of, renumbered, there}

-- positions between two
abbrev is_between : Region → ℕ → Bool
is_between r k = nat_le r.start k && nat_lt k r.end

between_to : (r : Region) (xs : List ℕ) → list_any (is_between r) xs ≡ true → OneBetween xs r.start r.end
between_to r xs h =
    let (i, k, at, h) = any_found (is_between r) xs h in
    let (from, to) = and_parts (nat_le r.start k) (nat_lt k r.end) h in
    let same = get_or_from_slice_get xs i k 0 at in
    let low = leb-true r.start k from in
    let high = ltb-true k r.end to in
    (i, within xs i k at, omega (arith, same, low), omega (arith, same, high))

between_from : (r : Region) (xs : List ℕ) → OneBetween xs r.start r.end → list_any (is_between r) xs ≡ true
between_from r xs (k, l, from, to) =
    any_at (is_between r) xs k (get_or xs k 0) (slice_get-get_or xs k 0 l) (and_from (nat_le r.start (get_or xs k 0)) (nat_lt (get_or xs k 0) r.end) (le-leb r.start (get_or xs k 0) from) (lt-ltb (get_or xs k 0) r.end to))

pub occurs_to : (a : Analysis) (m k : ℕ) → occurs_at a m k ≡ true → Occurs a m k
occurs_to a m k h = by (slice_get a.regions.items m) refl (slice_get a.ids.items k) refl h
  where
    by : (o : Option Region) → slice_get a.regions.items m ≡ o → (u : Option Entry) → slice_get a.ids.items k ≡ u → occurs_between o u ≡ true → Occurs a m k
    by None f u g h = true_is_false (sym h)
    by (Some r) f None g h = true_is_false (sym h)
    by (Some r) f (Some e) g h = (r, e, f, g, between_to r e.positions.items h)

occurs_from : (a : Analysis) (m k : ℕ) → Occurs a m k → occurs_at a m k ≡ true
occurs_from a m k (r, e, f, g, h) = (λ j. occurs_between (f j) (g j)) ∙ between_from r e.positions.items h

-- a test for whether an id occurs
pub occurs_is : (a : Analysis) (m k : ℕ) (b : Bool) → IsTrue b ↔ Occurs a m k → b ≡ occurs_at a m k
occurs_is a m k true h = sym (occurs_from a m k (h.0 refl))
occurs_is a m k false h = sym (false_from_ne_true (occurs_at a m k) (λ e. true_is_false (sym (h.1 (occurs_to a m k e)))))

-- ids that change
changes_to : (r : Renaming) (o : Option Entry) (x : Id) → (e : Entry) × (o ≡ Some e) × (e.id ≡ x) → stays_as r o ≡ false → (¬ IsTrue (r.preserves x)) × (x.0 ≢ codes "eval")
changes_to r o x (e, at, is) h =
    let (changes, other) = or_parts (r.preserves e.id) (bytes_eq e.id.0 (codes "eval")) (sym (ap (stays_as r) at) ∙ h) in
    ((λ p. true_is_false (sym p ∙ ap r.preserves (sym is) ∙ changes)), (λ p. true_is_false (sym ((bytes_eq-Decides e.id.0 (codes "eval")).1 (ap (λ x. x.0) is ∙ p)) ∙ other)))

changes_from : (r : Renaming) (o : Option Entry) (x : Id) → (e : Entry) × (o ≡ Some e) × (e.id ≡ x) → (¬ IsTrue (r.preserves x)) × (x.0 ≢ codes "eval") → stays_as r o ≡ false
changes_from r o x (e, at, is) (changes, other) =
    ap (stays_as r) at
    ∙ or_from (r.preserves e.id) (bytes_eq e.id.0 (codes "eval"))
    (false_from_ne_true (r.preserves e.id) (λ p. changes (ap r.preserves (sym is) ∙ p)))
    (false_from_ne_true (bytes_eq e.id.0 (codes "eval")) (λ p. other (sym (ap (λ x. x.0) is) ∙ (bytes_eq-Decides e.id.0 (codes "eval")).0 p)))

module _ (t : Node) (r : Renaming) (a : Analysis) (scopes places : List Path) (means : Means t a scopes places) (preserved : List ℕ → Bool) where
  abbrev Preserved : List ℕ → Type 0
  Preserved = IsAmong preserved

  counted_by : (b : Bool) (m n : ℕ) (s u : Path) → (IsTrue (surrounds a m n) ↔ IsAtOrAbove t s u) → ((if b then surrounds a m n else true) ≡ true) ↔ counting_by b t s u
  counted_by true m n s u h = h
  counted_by false m n s u h = ((λ _. tt), (λ _. refl))

  rules_fit : Fits t r a scopes Preserved (counting t r) (rules_of r a preserved)
  rules_fit = record {
    text = λ k x m is. (let (e, at, same) = is in ap (λ o. text_of r o m) at ∙ ap (λ x. r.text x m) same);
    counter_goes_on = refl;
    changes = λ k x is. (changes_to r (slice_get a.ids.items k) x is, changes_from r (slice_get a.ids.items k) x is);
    preserved_text = λ text. ((λ h. h), (λ h. h));
    occurs = λ m k s x at is. (
      (λ h. (means.occurs m k s x at is).0 (occurs_to a m k h)),
      (λ h. occurs_from a m k ((means.occurs m k s x at is).1 h)),
    );
    counted = λ i j one other s u f g h l. counted_by r.mangles one.scope other.scope s u (means.round one.scope j other s u h g l);
  }

  abbrev Wanted : Rules
  Wanted = rules_of r a preserved

  module _ (texts : ℕ → Option (List ℕ)) (named : NamedInOrder (rules_of r a preserved) (numbered_sites a) texts) (new_texts : Id → Option (List ℕ)) (by_ids : IsByIds a texts new_texts) where
    whole : AreChosen Wanted (take (length (numbered_sites a)) (numbered_sites a)) named.choices
    whole = subst (λ l. AreChosen Wanted l named.choices) (sym (whole_taken (numbered_sites a))) named.chosen

    each_named : (b : Site) (x : Id) → IsNamedAt t r b x → IsLeast t r Preserved (counting t r) (taken_by a named.choices) b x × (new_texts x ≡ Some (r.text x (taken_by a named.choices x)))
    each_named b x h =
        let (j, one, at) = index_of t a scopes places means b x h.declared in
        let l = within (numbered_sites a) j (numbers_of t a scopes places means one) (there t a scopes places means j one at.found) in
        let (c, is, same, least, took) = each_least t r a scopes places means Preserved (counting t r) Wanted rules_fit (length (numbered_sites a)) j one b x named.choices whole l at h in
        let id : IsIdOf a c.0.1 x = renumbered a one.id c.0.1 x (ap (λ z. z.1) (sym same)) at.is.id in (
          least,
          by_ids.each c.0.1 x id ∙ named.names c.0.1 ∙ name_is Wanted (numbered_sites a) named.choices j c is ∙ ap Some (rules_fit.text c.0.1 x c.1 id ∙ ap (r.text x) (sym took)),
        )

    one_named : (x : Id) (text : List ℕ) (k : ℕ) → IsIdOf a k x → new_texts x ≡ Some text → (b : Site) × IsNamedAt t r b x
    one_named x text k id h =
        let (c, at, same) = choice_named Wanted named.choices k text (sym (named.names k) ∙ sym (by_ids.each k x id) ∙ h) in
        let (j, l, is) = choice_of Wanted (numbered_sites a) (length (numbered_sites a)) named.choices c whole at in
        let (one, b, y, stands, d, e) = declared_at t a scopes places means j c.0 is.named.stands in
        let number : one.id ≡ k = ap (λ z. z.1) e ∙ same in
        let one_id : y ≡ x = one_of a k y x (renumbered a one.id k y number stands.is.id) id in
        (b, subst (IsNamedAt t r b) one_id (named_from t a scopes places means r Preserved (counting t r) Wanted rules_fit j one b y stands d (subst (NamedAt Wanted (numbered_sites a) j) (sym e) is.named)))

    no_other : (x : Id) (text : List ℕ) → new_texts x ≡ Some text → (b : Site) × IsNamedAt t r b x
    no_other x text h = by (number_in (map known_of a.ids.items) x) refl
      where
        by : (o : Option ℕ) → number_in (map known_of a.ids.items) x ≡ o → (b : Site) × IsNamedAt t r b x
        by None e = none_is_some (sym (by_ids.no_other x (λ k is. (let (f, at, same) = is in none_numbered a.ids.items x k f e at same))) ∙ h)
        by (Some k) e = one_named x text k (number_found a.ids.items x k e) h

    is_named_by : Named t r Preserved (counting t r) new_texts
    is_named_by = record { taken = taken_by a named.choices; each = each_named; no_other = no_other }

  module _ (spent : IsSpent (rules_of r a preserved) (numbered_sites a)) where
    abbrev Index : ℕ
    Index = length spent.before

    front : take Index (numbered_sites a) ≡ spent.before
    front = ap (take Index) spent.stands ∙ front_taken spent.before (spent.site ∷ spent.after)

    chosen : AreChosen Wanted (take Index (numbered_sites a)) spent.choices
    chosen = subst (λ l. AreChosen Wanted l spent.choices) (sym front) spent.chosen

    spent_there : slice_get (numbered_sites a) Index ≡ Some spent.site
    spent_there = ap (λ l. slice_get l Index) spent.stands ∙ after_front spent.before spent.site spent.after

    named_spent : NamedAt Wanted (numbered_sites a) Index spent.site
    named_spent = record { stands = spent_there; named = ap (λ l. is_named Wanted l spent.site) front ∙ spent.named }

    taken_all : (one : Numbered) → numbers_of t a scopes places means one ≡ spent.site → (m : ℕ) → start Wanted spent.choices one.scope ≤ m → m < greatest → is_taken Wanted spent.choices one.scope (Wanted.text one.id m) ≡ true
    taken_all one e m from below =
        subst (λ z. start Wanted spent.choices z.0 ≤ m → is_taken Wanted spent.choices z.0 (Wanted.text z.1 m) ≡ true) (sym e) (λ starts. spent.none_free m starts below) from

    is_spent_at : (one : Numbered) (b : Site) (x : Id) → IsAt t a scopes places means Index one b x → Declares t b.0 b.1 x → numbers_of t a scopes places means one ≡ spent.site → IsSpentAt t r Preserved (counting t r) greatest
    is_spent_at one b x at d e = let agree = agree_by t r a scopes places means Preserved (counting t r) Wanted rules_fit Index spent.choices chosen in record {
      taken = taken_by a spent.choices;
      site = b;
      id = x;
      named = named_from t a scopes places means r Preserved (counting t r) Wanted rules_fit Index one b x at d (subst (NamedAt Wanted (numbered_sites a) Index) (sym e) named_spent);
      earlier = λ c y h.
          let (j, other, g) = index_of t a scopes places means c y h.named.declared in
          let l = index_before t a scopes places means j Index other one c b y x g at h.before in
          let (z, is, same, least, took) = each_least t r a scopes places means Preserved (counting t r) Wanted rules_fit Index j other c y spent.choices chosen l g h.named in
          least;
      none_free = λ m below from free.
          let starts = start_to t r a scopes places means Preserved (counting t r) Wanted rules_fit Index one b x at spent.choices chosen (taken_by a spent.choices) agree m from in
          let is_free = free_from t r a scopes places means Preserved (counting t r) Wanted rules_fit Index one b x at spent.choices chosen (taken_by a spent.choices) agree (Wanted.text one.id m)
          (subst (IsFreeText t r Preserved (counting t r) (taken_by a spent.choices) b) (sym (rules_fit.text one.id x m at.is.id)) free) in
          true_is_false (sym (taken_all one e m starts below) ∙ is_free);
    }

    is_spent_by : IsSpentAt t r Preserved (counting t r) greatest
    is_spent_by = let (one, b, x, at, d, e) = declared_at t a scopes places means Index spent.site spent_there in is_spent_at one b x at d e

-- the map that names by numbers have is that of the definitions
pub names_in_order_are_named : (t : Node) (r : Renaming) (a : Analysis) (scopes places : List Path) → Means t a scopes places → (preserved : List ℕ → Bool)
    → (texts : ℕ → Option (List ℕ)) → NamedInOrder (rules_of r a preserved) (numbered_sites a) texts → (new_texts : Id → Option (List ℕ)) → IsByIds a texts new_texts → Named t r (IsAmong preserved) (counting t r) new_texts
names_in_order_are_named t r a scopes places means preserved texts named new_texts by_ids = is_named_by t r a scopes places means preserved texts named new_texts by_ids

-- where the counters are spent by numbers, they are by the definitions
pub spent_in_order_is_spent : (t : Node) (r : Renaming) (a : Analysis) (scopes places : List Path) → Means t a scopes places → (preserved : List ℕ → Bool)
    → IsSpent (rules_of r a preserved) (numbered_sites a) → IsSpentAt t r (IsAmong preserved) (counting t r) greatest
spent_in_order_is_spent t r a scopes places means preserved spent = is_spent_by t r a scopes places means preserved spent
