-- Sites by their indices and by their paths: they stand in one order, and ids get their names at the same ones.
use Rattle.std.proofs.Common.{◌≡◌, ◌≢◌, ◌↔◌, ℕ, zero, suc, ◌<◌, ◌==◌, inl, Bool, true, false, IsTrue, ◌&&◌, cond, Option, Some, None, List, [], ◌∷◌, codes, map, take, refl, sym, ap, eq-eqb, eqb-true, ◌∙◌, subst, arith, nat_cmp, Ordering, Less, Equal, Greater}
use Rattle.std.specs.Option.{option_map}
use Rattle.std.specs.Cmp.{ranks}
use Rattle.std.specs.List.{list_any, slice_get}
use Rattle.std.specs.Ordering.{MatchOrdering, ordering_reverse}
use Rattle.std.proofs.lemmas.Bool.{false_from_ne_true}
use Rattle.std.proofs.lemmas.Slice.Eq.{bytes_eq-Decides}
use Rattle.swc_tree_node.specs.declared.node.Node.{Node}
use Rattle.swc_tree_scoping.specs.Places.{Path}
use Rattle.swc_tree_scoping.specs.BoundNames.{Id}
use Rattle.swc_base_rename_analysis.specs.declared.analysis.Analysis.{Analysis}
use Rattle.swc_base_rename_analysis.specs.declared.analysis.Site.{Site as Numbered}
use Rattle.swc_base_rename_analysis.specs.declared.numbers.Entry.{Entry}
use Rattle.swc_base_rename_analysis.specs.Analysis.{Declares, OccursIn}
use Rattle.swc_base_rename_analysis.specs.Named.{Counting, IsNamedAt, Renaming, counts_on}
use Rattle.swc_base_rename_analysis.specs.Numbers.{known_of, number_in, same_id}
use Rattle.swc_base_rename_analysis.specs.Order.{IsBefore, Site}
use Rattle.swc_base_rename_analysis.proofs.Level.{sites_total}
use Rattle.swc_base_rename_analysis_laws.specs.Means.{IsIdOf, IsSiteOf, Means}
use Rattle.swc_base_rename_naming.specs.InOrder.{Rules, Site as At}
use Rattle.swc_base_rename_naming_laws.specs.Rules.{numbered_sites}
use Rattle.swc_base_rename_naming_laws.proofs.Chosen.{NamedAt, named_by, named_first, named_stays, true_is_false}
use Rattle.swc_base_rename_naming_laws.proofs.Counted.{StandTogether}
use Rattle.swc_base_rename_naming_laws.proofs.Lists.{any_at, any_found, from_mapped_at, from_taken, mapped_at, none_is_some, same_some, taken_at}
use Rattle.swc_base_rename_naming_laws.proofs.Scopes.{one_between}
use Rattle.swc_base_rename_naming_laws.proofs.Surrounds.{one_id, surrounds_same}

-- rules over numbers say what a renamer does with ids and scopes
pub record Fits (t : Node) (r : Renaming) (a : Analysis) (scopes : List Path) (preserved : List ℕ → Type 0) (counts : Counting) (n : Rules) : Type 0 where
  pub text : (k : ℕ) (x : Id) (m : ℕ) → IsIdOf a k x → n.text k m ≡ r.text x m
  pub counter_goes_on : n.counter_goes_on ≡ counts_on r
  pub changes : (k : ℕ) (x : Id) → IsIdOf a k x → (n.stays k ≡ false) ↔ ((¬ IsTrue (r.preserves x)) × (x.0 ≢ codes "eval"))
  pub preserved_text : (text : List ℕ) → (n.preserved text ≡ true) ↔ preserved text
  pub occurs : (m k : ℕ) (s : Path) (x : Id) → slice_get scopes m ≡ Some s → IsIdOf a k x → (n.occurs m k ≡ true) ↔ OccursIn t s x
  pub counted : (i j : ℕ) (one other : Numbered) (s u : Path) → slice_get a.sites.items i ≡ Some one → slice_get a.sites.items j ≡ Some other → slice_get scopes one.scope ≡ Some s → slice_get scopes other.scope ≡ Some u
      → (n.counts one.scope other.scope ≡ true) ↔ counts s u

-- before
not_before_itself : (t : Node) (b : Site) → IsBefore t b b → ⊥
not_before_itself t b h = let no : Less ≡ Greater = sym h ∙ (sites_total t).antisymm b b ∙ ap ordering_reverse h in absurd (cc)

not_both : (t : Node) (b c : Site) → IsBefore t b c → IsBefore t c b → ⊥
not_both t b c h g = let no : Less ≡ Greater = sym h ∙ (sites_total t).antisymm b c ∙ ap ordering_reverse g in absurd (cc)

-- numbers of ids
id_itself : (x y : Id) → x ≡ y → same_id x y ≡ true
id_itself x y e = λ j. (bytes_eq-Decides x.0 y.0).1 (ap (λ z. z.0) e) j && (bytes_eq-Decides x.1 y.1).1 (ap (λ z. z.1) e) j

is_next : (o : Option ℕ) (k : ℕ) → option_map (λ n. suc n) o ≡ Some k → (n : ℕ) × (o ≡ Some n) × (suc n ≡ k)
is_next None k e = none_is_some e
is_next (Some n) k e = (n, refl, same_some e)

is_none : (o : Option ℕ) → option_map (λ n. suc n) o ≡ None → o ≡ None
is_none None e = refl
is_none (Some n) e = none_is_some (sym e)

pub number_found : (es : List Entry) (x : Id) (k : ℕ) → number_in (map known_of es) x ≡ Some k → (e : Entry) × (slice_get es k ≡ Some e) × (e.id ≡ x)
number_found [] x k h = none_is_some h
number_found (e ∷ es) x k h = by (number_found es x) (same_id e.id x) refl h
  where
    by : ((k : ℕ) → number_in (map known_of es) x ≡ Some k → (f : Entry) × (slice_get es k ≡ Some f) × (f.id ≡ x))
        → (b : Bool) → same_id e.id x ≡ b → cond b (Some 0) (option_map (λ n. suc n) (number_in (map known_of es) x)) ≡ Some k → (f : Entry) × (slice_get (e ∷ es) k ≡ Some f) × (f.id ≡ x)
    by more true same h = (e, ap (slice_get (e ∷ es)) (sym (same_some h)), one_id e.id x same)
    by more false same h =
        let (n, g, next) = is_next (number_in (map known_of es) x) k h in
        let (f, there, is) = more n g in
        (f, ap (slice_get (e ∷ es)) (sym next) ∙ there, is)

pub none_numbered : (es : List Entry) (x : Id) (k : ℕ) (e : Entry) → number_in (map known_of es) x ≡ None → slice_get es k ≡ Some e → e.id ≡ x → ⊥
none_numbered [] x k e h there same = none_is_some there
none_numbered (d ∷ es) x k e h there same = by k there (same_id d.id x) refl h (λ k. none_numbered es x k e)
  where
    by : (k : ℕ) → slice_get (d ∷ es) k ≡ Some e → (b : Bool) → same_id d.id x ≡ b → cond b (Some 0) (option_map (λ n. suc n) (number_in (map known_of es) x)) ≡ None
        → ((k : ℕ) → number_in (map known_of es) x ≡ None → slice_get es k ≡ Some e → e.id ≡ x → ⊥) → ⊥
    by k there true is h more = none_is_some (sym h)
    by zero there false is h more = true_is_false (sym (id_itself d.id x (ap (λ e. e.id) (same_some there) ∙ same)) ∙ is)
    by (suc k) there false is h more = more k (is_none _ h) there same

pub one_of : (a : Analysis) (k : ℕ) (x y : Id) → IsIdOf a k x → IsIdOf a k y → x ≡ y
one_of a k x y (e, at, is) (f, there, same) = sym is ∙ ap (λ e. e.id) (same_some (sym at ∙ there)) ∙ same

pub renumbered : (a : Analysis) (j k : ℕ) (x : Id) → j ≡ k → IsIdOf a j x → IsIdOf a k x
renumbered a j k x e (f, at, is) = (f, ap (slice_get a.ids.items) (sym e) ∙ at, is)

module _ (t : Node) (a : Analysis) (scopes places : List Path) (means : Means t a scopes places) where
  pub numbered : (k : ℕ) (x : Id) → IsIdOf a k x → number_in (map known_of a.ids.items) x ≡ Some k
  numbered k x is = by (number_in (map known_of a.ids.items) x) refl
    where
      by : (o : Option ℕ) → number_in (map known_of a.ids.items) x ≡ o → o ≡ Some k
      by None h = let (e, there, same) = is in absurd (none_numbered a.ids.items x k e h there same)
      by (Some j) h = ap Some (means.apart j k x (number_found a.ids.items x j h) is)

  -- the site of an index
  pub record IsAt (i : ℕ) (one : Numbered) (b : Site) (x : Id) : Type 0 where
    pub found : slice_get a.sites.items i ≡ Some one
    pub is : IsSiteOf a scopes places one b.0 b.1 x

  abbrev pub numbers_of : Numbered → At
  numbers_of one = (one.scope, one.id)

  pub there : (i : ℕ) (one : Numbered) → slice_get a.sites.items i ≡ Some one → slice_get (numbered_sites a) i ≡ Some (numbers_of one)
  there i one e = mapped_at numbers_of a.sites.items i one e

  pub declared_at : (i : ℕ) (z : At) → slice_get (numbered_sites a) i ≡ Some z → (one : Numbered) × (b : Site) × (x : Id) × IsAt i one b x × Declares t b.0 b.1 x × (numbers_of one ≡ z)
  declared_at i z e =
      let (one, f, same) = from_mapped_at numbers_of a.sites.items i z e in
      let (s, p, x, is, d) = means.each_site i one f in
      (one, (s, p), x, record { found = f; is = is }, d, same)

  pub index_of : (b : Site) (x : Id) → Declares t b.0 b.1 x → (i : ℕ) × (one : Numbered) × IsAt i one b x
  index_of b x d = let (i, one, f, is) = means.all_sites b.0 b.1 x d in (i, one, record { found = f; is = is })

  one_site : (i : ℕ) (one other : Numbered) (b c : Site) (x y : Id) → IsAt i one b x → IsAt i other c y → b ≡ c
  one_site i one other b c x y h g =
      let same : one ≡ other = same_some (sym h.found ∙ g.found) in
      let scope : b.0 ≡ c.0 = same_some (sym h.is.scope ∙ ap (λ z. slice_get scopes z.scope) same ∙ g.is.scope) in
      let place : b.1 ≡ c.1 = same_some (sym h.is.place ∙ ap (λ z. slice_get places z.position) same ∙ g.is.place) in
      λ j. (scope j, place j)

  pub before_at : (i j : ℕ) (one other : Numbered) (b c : Site) (x y : Id) → IsAt i one b x → IsAt j other c y → i < j → IsBefore t b c
  before_at i j one other b c x y h g l = means.in_order i j one other b.0 b.1 c.0 c.1 x y l h.found g.found h.is g.is

  moved : (i j : ℕ) (one : Numbered) (b : Site) (x : Id) → i ≡ j → IsAt i one b x → IsAt j one b x
  moved i j one b x e h = record { found = ap (slice_get a.sites.items) (sym e) ∙ h.found; is = h.is }

  pub index_before : (i j : ℕ) (one other : Numbered) (b c : Site) (x y : Id) → IsAt i one b x → IsAt j other c y → IsBefore t b c → i < j
  index_before i j one other b c x y h g before = by (nat_cmp i j) (ranks i j)
    where
      by : (o : Ordering) → MatchOrdering o (i < j) (i ≡ j) (j < i) → i < j
      by Less l = l
      by Equal e = absurd (not_before_itself t c (subst (λ b. IsBefore t b c) (one_site j one other b c x y (moved i j one b x e h) g) before))
      by Greater l = absurd (not_both t b c before (before_at j i other one c b y x g h l))

  -- scopes are one where their paths are
  pub one_number : (i j : ℕ) (one other : Numbered) (b c : Site) (x y : Id) → IsAt i one b x → IsAt j other c y → b.0 ≡ c.0 → one.scope ≡ other.scope
  one_number i j one other b c x y h g e = surrounds_same a one.scope other.scope
      ((means.round one.scope j other b.0 c.0 h.is.scope g.found g.is.scope).1 (inl e))
      ((means.round other.scope i one c.0 b.0 g.is.scope h.found h.is.scope).1 (inl (sym e)))

  pub one_path : (i j : ℕ) (one other : Numbered) (b c : Site) (x y : Id) → IsAt i one b x → IsAt j other c y → one.scope ≡ other.scope → b.0 ≡ c.0
  one_path i j one other b c x y h g e = same_some (sym h.is.scope ∙ ap (slice_get scopes) e ∙ g.is.scope)

  pub stand_together : (n : Rules) → StandTogether n (numbered_sites a)
  stand_together n j m i z w v l k at_z at_w at_v same =
      let (one, b, x, h, d, e) = declared_at j z at_z in
      let (between, c, y, g, f, e1) = declared_at m w at_w in
      let (other, u, y1, h1, d1, e2) = declared_at i v at_v in
      by one b x h d e between c y g f e1 other u y1 h1 e2 (nat_cmp j m) (ranks j m) (nat_cmp m i) (ranks m i)
    where
      by : (one : Numbered) (b : Site) (x : Id) → IsAt j one b x → Declares t b.0 b.1 x → numbers_of one ≡ z → (between : Numbered) (c : Site) (y : Id) → IsAt m between c y → Declares t c.0 c.1 y → numbers_of between ≡ w
          → (other : Numbered) (u : Site) (v1 : Id) → IsAt i other u v1 → numbers_of other ≡ v → (o : Ordering) → MatchOrdering o (j < m) (j ≡ m) (m < j) → (q : Ordering) → MatchOrdering q (m < i) (m ≡ i) (i < m) → w.0 ≡ v.0
      by one b x h d e between c y g f e1 other u y1 h1 e2 Less less Less more =
          let ends : u.0 ≡ b.0 = one_path i j other one u b y1 x h1 h (ap (λ z. z.0) e2 ∙ sym same ∙ sym (ap (λ z. z.0) e)) in
          let path : c.0 ≡ b.0 = one_between t b c u x y d f (before_at j m one between b c x y h g less) (before_at m i between other c u y y1 g h1 more) ends in
          sym (ap (λ z. z.0) e1) ∙ one_number m i between other c u y y1 g h1 (path ∙ sym ends) ∙ ap (λ z. z.0) e2
      by one b x h d e between c y g f e1 other u y1 h1 e2 Less less Equal is = ap (λ z. z.0) (same_some (sym at_w ∙ ap (slice_get (numbered_sites a)) is ∙ at_v))
      by one b x h d e between c y g f e1 other u y1 h1 e2 Less less Greater more = absurd (omega (arith, k, more))
      by one b x h d e between c y g f e1 other u y1 h1 e2 Equal is q o = ap (λ z. z.0) (same_some (sym at_w ∙ ap (slice_get (numbered_sites a)) (sym is) ∙ at_z)) ∙ same
      by one b x h d e between c y g f e1 other u y1 h1 e2 Greater less q o = absurd (omega (arith, l, less))

  module _ (r : Renaming) (preserved : List ℕ → Type 0) (counts : Counting) (n : Rules) (fits : Fits t r a scopes preserved counts n) where
    -- ids get their names at the same sites
    pub named_from : (i : ℕ) (one : Numbered) (b : Site) (x : Id) → IsAt i one b x → Declares t b.0 b.1 x → NamedAt n (numbered_sites a) i (numbers_of one) → IsNamedAt t r b x
    named_from i one b x h d named = let changes = (fits.changes one.id x h.is.id).0 (named_stays n (take i (numbered_sites a)) (numbers_of one) named.named) in record {
      declared = d;
      first = λ c e before.
          let (j, other, g) = index_of c x e in
          let l = index_before j i other one c b x x g h before in
          let same : other.id ≡ one.id = means.apart other.id one.id x g.is.id h.is.id in
          true_is_false (sym (any_at (λ (b : At). b.1 == one.id) (take i (numbered_sites a)) j (numbers_of other) (taken_at (numbered_sites a) i j (numbers_of other) l (there j other g.found)) (eq-eqb other.id one.id same))
          ∙ named_first n (take i (numbered_sites a)) (numbers_of one) named.named);
      not_preserved = changes.0;
      not_eval = changes.1;
    }

    pub named_to : (i : ℕ) (one : Numbered) (b : Site) (x : Id) → IsAt i one b x → IsNamedAt t r b x → NamedAt n (numbered_sites a) i (numbers_of one)
    named_to i one b x h named = record {
      stands = there i one h.found;
      named = named_by n (take i (numbered_sites a)) (numbers_of one) ((fits.changes one.id x h.is.id).1 (named.not_preserved, named.not_eval))
          (false_from_ne_true (list_any (λ (b : At). b.1 == one.id) (take i (numbered_sites a))) (λ any.
          let (j, z, at, same) = any_found (λ (b : At). b.1 == one.id) (take i (numbered_sites a)) any in
          let (l, f) = from_taken (numbered_sites a) i j z at in
          let (other, c, y, g, d, e) = declared_at j z f in
          let id : other.id ≡ one.id = ap (λ z. z.1) e ∙ eqb-true z.1 one.id same in
          let is : y ≡ x = one_of a one.id y x (renumbered a other.id one.id y id g.is.id) h.is.id in
          named.first c (subst (Declares t c.0 c.1) is d) (before_at j i other one c b y x g h l)));
    }
