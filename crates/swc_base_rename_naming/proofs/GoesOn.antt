-- Texts that were tried in a scope stay taken there.
use Rattle.std.proofs.Common.{◌≡◌, ℕ, ◌<◌, ◌≤◌, ◌==◌, max, nat_lt, eqb-true, Bool, true, false, not, ◌&&◌, cond, Some, Global, String, string_bytes, ◌||◌, List, refl, sym, subst, ap, ◌∙◌, arith}
use Rattle.std.specs.Prelude.{if◌then◌else◌, unwrap_or}
use Rattle.std.specs.BTreeMap as tree
use Rattle.std.specs.BTreeMap.{BTreeMap, get_by_text}
use Rattle.std.specs.String.{string_cmp}
use Rattle.std.proofs.lemmas.Map.Text.{btree_map_updates_text}
use Rattle.std.specs.List.{list_any}
use Rattle.std.specs.Str.{bytes_eq}
use Rattle.std.proofs.lemmas.Slice.Eq.{bytes_eq-Decides}
use Rattle.std.proofs.Math.Bool.{or-true}
use Rattle.swc_tree_marks.specs.declared.error.PassError.{PassError}
use Rattle.swc_tree_marks.specs.declared.error.PassError.TheVariants as pass
use Rattle.swc_base_rename_substitution.specs.Names.{Id}
use Rattle.swc_base_rename_naming.specs.Chained.{ids_of}
use Rattle.swc_base_rename_naming.specs.Counters.{greatest}
use Rattle.swc_base_rename_naming.specs.Free.{AllTaken, FindsFree, IsSearchRefusal}
use Rattle.swc_base_rename_naming.specs.Steps.{HasAlso, HasMore, IsTextRecorded, Maps, any_holder, taken_at}
use Rattle.swc_base_rename_naming.specs.Tried.{IsTried, tried_at}
use Rattle.swc_base_rename_naming.specs.declared.reverse_map.ReverseMap.{ReverseMap}
use Rattle.swc_base_rename_naming.specs.declared.tried.Tried.{Tried}

-- what is taken stays so where the maps have more
more_or : (p a b : Bool) → (a ≡ true → b ≡ true) → (p || a) ≡ true → (p || b) ≡ true
more_or true a b more h = refl
more_or false a b more h = more h

both_more : (a b c d : Bool) → (a ≡ true → c ≡ true) → (b ≡ true → d ≡ true) → (a || b) ≡ true → (c || d) ≡ true
both_more true b c d first second h = ap (λ k. k || d) (first refl)
both_more false b c d first second h = ap (λ k. c || k) (second h) ∙ or-true c

with_also : (a b c : Bool) → b ≡ (a || c) → a ≡ true → b ≡ true
with_also a b c e h = e ∙ ap (λ k. k || c) h

pub has_more : (more : Bool) (text : List ℕ) (id : ℕ) (was is : ReverseMap) → HasAlso more text id was is → HasMore was is
has_more more text id was is also x f h = with_also (list_any f (ids_of was x)) (list_any f (ids_of is x)) (more && (bytes_eq text x && f id)) (also x f) h

pub no_less : (map : ReverseMap) → HasMore map map
no_less map x f h = h

either_side : {P : Type 0} (k m : ℕ) → (k < m → P) → (m ≤ k → P) → P
either_side {P} k m less more = told (nat_lt k m) refl
  where
    told : (b : Bool) → nat_lt k m ≡ b → P
    told true e = less (grind arith)
    told false e = more (grind arith)

module _ (text : Id → ℕ → List ℕ) (preserved : List ℕ → Bool) (occurs : ℕ → ℕ → Bool) where
  -- the maps have more
  pub tried_more_holders : (was is : Maps) (tried : Tried) → HasMore was.0 is.0 → HasMore was.1 is.1 → IsTried text preserved occurs was tried → IsTried text preserved occurs is tried
  tried_more_holders was is tried first second h s y k below =
      let x = text y k in
      more_or (preserved x) (any_holder (occurs s) was x) (any_holder (occurs s) is x)
      (both_more (list_any (occurs s) (ids_of was.0 x)) (list_any (occurs s) (ids_of was.1 x)) (list_any (occurs s) (ids_of is.0 x)) (list_any (occurs s) (ids_of is.1 x)) (first x (occurs s)) (second x (occurs s)))
      (h s y k below)

  pub tried_recorded : (was is : Maps) (tried : Tried) (leaks : Bool) (x : List ℕ) (id : ℕ) → IsTextRecorded leaks x id was is → IsTried text preserved occurs was tried → IsTried text preserved occurs is tried
  tried_recorded was is tried leaks x id recorded h = tried_more_holders was is tried (has_more (not leaks) x id was.0 is.0 recorded.holders) (has_more leaks x id was.1 is.1 recorded.leaked) h

  pub tried_first : (maps : Maps) (tried : Tried) → ((s : ℕ) (x : List ℕ) → tried_at tried s x ≡ 0) → IsTried text preserved occurs maps tried
  tried_first maps tried none s x k below = absurd (omega (arith, none s x.0, below))

  earlier : (maps : Maps) (tried : Tried) (s : ℕ) (x : Id) (start end : ℕ) → IsTried text preserved occurs maps tried → AllTaken (text x) (taken_at preserved occurs maps s) (max start (tried_at tried s x.0)) end
      → AllTaken (text x) (taken_at preserved occurs maps s) start end
  earlier maps tried s x start end h later k from below = either_side k (tried_at tried s x.0) (λ less. h s x k less) (λ more. later k (omega (arith, from, more)) below)

  -- a search that began past what was tried
  pub found_earlier : (maps : Maps) (tried : Tried) (s : ℕ) (x : Id) (start end : ℕ) (found : List ℕ) → IsTried text preserved occurs maps tried
      → FindsFree (text x) (taken_at preserved occurs maps s) (max start (tried_at tried s x.0)) end found → FindsFree (text x) (taken_at preserved occurs maps s) start end found
  found_earlier maps tried s x start end found h f =
      let from = f.least.from in
      record {
        counter = f.counter;
        least = record { from = omega (arith, from); below = f.least.below; free = f.least.free; least = earlier maps tried s x start f.counter h f.least.least };
        is_found = f.is_found;
        past = f.past;
      }

  pub refused_earlier : (maps : Maps) (tried : Tried) (s : ℕ) (x : Id) (start : ℕ) (e : PassError) → IsTried text preserved occurs maps tried
      → IsSearchRefusal (text x) (taken_at preserved occurs maps s) (max start (tried_at tried s x.0)) e → IsSearchRefusal (text x) (taken_at preserved occurs maps s) start e
  refused_earlier maps tried s x start pass.NoMemory h why = why
  refused_earlier maps tried s x start pass.CounterSpent h why = earlier maps tried s x start greatest h why
  refused_earlier maps tried s x start pass.MarksSpent h why = why
  refused_earlier maps tried s x start pass.NotAssignable h why = why
  refused_earlier maps tried s x start pass.TypesLeft h why = why

  -- what one id could not get, no other of its text can
  pub tried_more : (maps : Maps) (was is : Tried) (scope : ℕ) (x : Id) (word : List ℕ) (counter : ℕ) → ((y z : Id) → y.0 ≡ z.0 → (n : ℕ) → text y n ≡ text z n) → word ≡ x.0 → AllTaken (text x) (taken_at preserved occurs maps scope) 0 counter
      → ((s : ℕ) (t : List ℕ) → tried_at is s t ≡ (if scope == s then (if bytes_eq word t then counter else tried_at was s t) else 0)) → IsTried text preserved occurs maps was → IsTried text preserved occurs maps is
  tried_more maps was is scope x word counter alike named taken noted h s y k below = in_scope (scope == s) refl (rw (noted s y.0) at below)
    where
      of_text : (c : Bool) → bytes_eq word y.0 ≡ c → scope ≡ s → k < (if c then counter else tried_at was s y.0) → taken_at preserved occurs maps s (text y k) ≡ true
      of_text true same here less =
          let text_is : x.0 ≡ y.0 = sym named ∙ (bytes_eq-Decides word y.0).0 same in
          ap (taken_at preserved occurs maps s) (alike y x (sym text_is) k) ∙ subst (λ s. taken_at preserved occurs maps s (text x k) ≡ true) here (taken k (omega arith) less)
      of_text false other here less = h s y k less

      in_scope : (b : Bool) → (scope == s) ≡ b → k < (if b then (if bytes_eq word y.0 then counter else tried_at was s y.0) else 0) → taken_at preserved occurs maps s (text y k) ≡ true
      in_scope true here less = of_text (bytes_eq word y.0) refl (eqb-true scope s here) less
      in_scope false other less = absurd (omega (arith, less))

-- a counter that was put down
module _ (old entered : Tried) (n : BTreeMap (String Global) ℕ) (scope : ℕ) (key : String Global) (word : List ℕ) (counter : ℕ) (there : entered.scope ≡ scope) (kept : (x : List ℕ) → tried_at entered scope x ≡ tried_at old scope x)
    (updates : tree.Updates string_cmp entered.counters n key (Some counter)) (named : string_bytes key ≡ word) where
  was_there : (s : ℕ) (x : List ℕ) → (entered.scope == s) ≡ true → unwrap_or (get_by_text entered.counters x) 0 ≡ tried_at old s x
  was_there s x e =
      let same : scope ≡ s = sym there ∙ eqb-true entered.scope s e in
      ap (λ b. if b then unwrap_or (get_by_text entered.counters x) 0 else 0) (sym e) ∙ subst (λ s. tried_at entered s x ≡ tried_at old s x) same (kept x)

  at_text : (s : ℕ) (x : List ℕ) (c : Bool) → (entered.scope == s) ≡ true → bytes_eq word x ≡ c → unwrap_or (get_by_text n x) 0 ≡ (if c then counter else tried_at old s x)
  at_text s x true e same =
      ap (λ o. unwrap_or o 0) (btree_map_updates_text (string_bytes key) entered.counters n (Some counter) updates x ∙ ap (λ b. cond b (Some counter) (get_by_text entered.counters x)) (ap (λ w. bytes_eq w x) named ∙ same))
  at_text s x false e other =
      ap (λ o. unwrap_or o 0) (btree_map_updates_text (string_bytes key) entered.counters n (Some counter) updates x ∙ ap (λ b. cond b (Some counter) (get_by_text entered.counters x)) (ap (λ w. bytes_eq w x) named ∙ other))
      ∙ was_there s x e

  at_scope : (s : ℕ) (x : List ℕ) (b : Bool) → (entered.scope == s) ≡ b → (if b then unwrap_or (get_by_text n x) 0 else 0) ≡ (if b then (if bytes_eq word x then counter else tried_at old s x) else 0)
  at_scope s x true e = at_text s x (bytes_eq word x) e refl
  at_scope s x false e = refl

  pub put_at : (s : ℕ) (x : List ℕ) → (if entered.scope == s then unwrap_or (get_by_text n x) 0 else 0) ≡ (if scope == s then (if bytes_eq word x then counter else tried_at old s x) else 0)
  put_at s x = at_scope s x (entered.scope == s) refl ∙ ap (λ v. if v == s then (if bytes_eq word x then counter else tried_at old s x) else 0) there
