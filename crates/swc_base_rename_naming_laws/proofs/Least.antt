-- What is chosen by numbers is least by paths: starts and free texts are the same.
use Rattle.std.proofs.Common.{◌≡◌, ◌↔◌, ℕ, ◌<◌, ◌≤◌, Bool, true, false, ◌&&◌, Option, Some, None, List, ◌∷◌, Contains, map, take, sym, ap, ◌∙◌, subst, arith}
use Rattle.std.specs.List.{list_any}
use Rattle.std.specs.Str.{bytes_eq}
use Rattle.std.proofs.lemmas.Bool.{and_parts, false_from_ne_true, or_from, or_parts}
use Rattle.std.proofs.lemmas.List.Elements.{Contains-append_left}
use Rattle.std.proofs.lemmas.Slice.Eq.{bytes_eq-Decides}
use Rattle.swc_tree_node.specs.declared.node.Node.{Node}
use Rattle.swc_tree_scoping.specs.Places.{Path}
use Rattle.swc_tree_scoping.specs.BoundNames.{Id}
use Rattle.swc_base_rename_analysis.specs.declared.analysis.Analysis.{Analysis}
use Rattle.swc_base_rename_analysis.specs.declared.analysis.Site.{Site as Numbered}
use Rattle.swc_base_rename_analysis.specs.Named.{Counting, IsEarlier, IsFreeText, IsFromStart, IsLeast, IsNamedAt, Renaming}
use Rattle.swc_base_rename_analysis.specs.Numbers.{known_of, number_in}
use Rattle.swc_base_rename_analysis.specs.Order.{Site}
use Rattle.swc_base_rename_analysis_laws.specs.Means.{IsIdOf, Means}
use Rattle.swc_base_rename_naming.specs.InOrder.{AreChosen, Choice, IsChosen, Rules, chosen_text, holds, is_taken, start}
use Rattle.swc_base_rename_naming_laws.specs.Rules.{numbered_sites}
use Rattle.swc_base_rename_naming_laws.proofs.Chosen.{IsChoiceAt, NamedAt, choice_at, choice_of, true_is_false}
use Rattle.swc_base_rename_naming_laws.proofs.Counted.{below_start, counter_in, counter_is, start_below}
use Rattle.swc_base_rename_naming_laws.proofs.Lists.{any_contained, any_in}
use Rattle.swc_base_rename_naming_laws.proofs.Sites.{Fits, IsAt, before_at, declared_at, index_before, index_of, named_from, named_to, numbered, numbers_of, one_number, one_path, renumbered, stand_together, there}

abbrev counter_of : List Choice → Option ℕ → ℕ
counter_of choices None = 0
counter_of choices (Some k) = counter_in choices k

-- the counter that an id took, by its number, else 0
abbrev pub taken_by : Analysis → List Choice → Id → ℕ
taken_by a choices x = counter_of choices (number_in (map known_of a.ids.items) x)

three_so : (x y z : Bool) → x ≡ true → y ≡ true → z ≡ true → (x && (y && z)) ≡ true
three_so x y z e f g = ap (λ b. b && (y && z)) e ∙ ap (λ b. b && z) f ∙ g

module _ (t : Node) (r : Renaming) (a : Analysis) (scopes places : List Path) (means : Means t a scopes places) (preserved : List ℕ → Type 0) (counts : Counting) (n : Rules) (fits : Fits t r a scopes preserved counts n) where
  -- the counters are those of the choices
  abbrev pub Agree : (Id → ℕ) → List Choice → Type 0
  Agree taken choices = (c : Choice) → Contains choices c → (x : Id) → IsIdOf a c.0.1 x → taken x ≡ c.1

  pub agree_by : (i : ℕ) (choices : List Choice) → AreChosen n (take i (numbered_sites a)) choices → Agree (taken_by a choices) choices
  agree_by i choices chosen c at x is =
      let (j, l, choice) = choice_of n (numbered_sites a) i choices c chosen at in
      ap (counter_of choices) (numbered t a scopes places means c.0.1 x is) ∙ counter_is n (numbered_sites a) choices j c choice

  agree_before : (taken : Id → ℕ) (choices : List Choice) (j : ℕ) (c : Choice) (is : IsChoiceAt n (numbered_sites a) choices j c) → Agree taken choices → Agree taken is.before
  agree_before taken choices j c is agree d at = agree d (subst (λ l. Contains l d) (sym is.split) (Contains-append_left is.before (c ∷ is.after) d at))

  module _ (i : ℕ) (one : Numbered) (b : Site) (x : Id) (here : IsAt t a scopes places means i one b x) (choices : List Choice) (chosen : AreChosen n (take i (numbered_sites a)) choices) (taken : Id → ℕ) (agree : Agree taken choices) where
    -- the site of a choice
    pub record IsChoiceOf (c : Choice) (d : Site) (y : Id) : Type 0 where
      pub at : Contains choices c
      pub index : ℕ
      pub other : Numbered
      pub stands : IsAt t a scopes places means index other d y
      pub numbers : c.0 ≡ numbers_of t a scopes places means other

    -- an id that gets its name earlier has a choice, and a choice is of such an id
    earlier_choice : (d : Site) (y : Id) → IsEarlier t r b d y → (c : Choice) × IsChoiceOf c d y
    earlier_choice d y e =
        let (j, other, g) = index_of t a scopes places means d y e.named.declared in
        let l = index_before t a scopes places means j i other one d b y x g here e.before in
        let (c, at, same, is) = choice_at n (numbered_sites a) i choices j (numbers_of t a scopes places means other) chosen l (named_to t a scopes places means r preserved counts n fits j other d y g e.named) in
        (c, record { at = at; index = j; other = other; stands = g; numbers = same })

    choice_earlier : (c : Choice) → Contains choices c → (d : Site) × (y : Id) × IsEarlier t r b d y × IsChoiceOf c d y
    choice_earlier c at =
        let (j, l, is) = choice_of n (numbered_sites a) i choices c chosen at in
        let (other, d, y, g, declared, same) = declared_at t a scopes places means j c.0 is.named.stands in (
          d,
          y,
          record {
            named = named_from t a scopes places means r preserved counts n fits j other d y g declared (subst (NamedAt n (numbered_sites a) j) (sym same) is.named);
            before = before_at t a scopes places means j i other one d b y x g here l;
          },
          record { at = at; index = j; other = other; stands = g; numbers = sym same },
        )

    id_chosen : (c : Choice) (d : Site) (y : Id) → IsChoiceOf c d y → IsIdOf a c.0.1 y
    id_chosen c d y h = renumbered a h.other.id c.0.1 y (ap (λ z. z.1) (sym h.numbers)) h.stands.is.id

    taken_is : (c : Choice) (d : Site) (y : Id) → IsChoiceOf c d y → taken y ≡ c.1
    taken_is c d y h = agree c h.at y (id_chosen c d y h)

    in_scope : (c : Choice) (d : Site) (y : Id) → IsChoiceOf c d y → d.0 ≡ b.0 → c.0.0 ≡ one.scope
    in_scope c d y h e = ap (λ z. z.0) h.numbers ∙ one_number t a scopes places means h.index i h.other one d b y x h.stands here e

    at_scope : (c : Choice) (d : Site) (y : Id) → IsChoiceOf c d y → c.0.0 ≡ one.scope → d.0 ≡ b.0
    at_scope c d y h e = one_path t a scopes places means h.index i h.other one d b y x h.stands here (sym (ap (λ z. z.0) h.numbers) ∙ e)

    -- starts
    pub start_to : (m : ℕ) → IsFromStart t r taken b m → start n choices one.scope ≤ m
    start_to m h = start_below n (numbered_sites a) choices one.scope m (λ on c at same.
        let (d, y, e, is) = choice_earlier c at in
        let less = h (sym fits.counter_goes_on ∙ on) d y e (at_scope c d y is same) in
        let took = taken_is c d y is in
        omega (arith, less, took))

    pub start_from : (m : ℕ) → start n choices one.scope ≤ m → IsFromStart t r taken b m
    start_from m h on d y e same =
        let (c, is) = earlier_choice d y e in
        let less = below_start n (numbered_sites a) (stand_together t a scopes places means n) (fits.counter_goes_on ∙ on) i choices (numbers_of t a scopes places means one) c chosen (there t a scopes places means i one here.found) is.at (in_scope c d y is same) in
        let took = taken_is c d y is in
        omega (arith, less, h, took)

    -- a choice holds a text where its id has it, occurs and counts
    text_chosen : (c : Choice) (d : Site) (y : Id) → IsChoiceOf c d y → chosen_text n c ≡ r.text y (taken y)
    text_chosen c d y h = fits.text c.0.1 y c.1 (id_chosen c d y h) ∙ ap (r.text y) (sym (taken_is c d y h))

    counts_chosen : (c : Choice) (d : Site) (y : Id) → IsChoiceOf c d y → (n.counts c.0.0 one.scope ≡ true) ↔ counts d.0 b.0
    counts_chosen c d y h =
        let f = fits.counted h.index i h.other one d.0 b.0 h.stands.found here.found h.stands.is.scope here.is.scope in
        let same : n.counts c.0.0 one.scope ≡ n.counts h.other.scope one.scope = ap (λ z. n.counts z.0 one.scope) h.numbers in
        (λ e. f.0 (sym same ∙ e), λ e. same ∙ f.1 e)

    -- free texts
    pub free_to : (text : List ℕ) → is_taken n choices one.scope text ≡ false → IsFreeText t r preserved counts taken b text
    free_to text h = let (free, none) = or_parts (n.preserved text) (list_any (holds n one.scope text) choices) h in record {
      not_preserved = λ p. true_is_false (sym ((fits.preserved_text text).1 p) ∙ free);
      not_held = λ d y e counted occurs same.
          let (c, is) = earlier_choice d y e in
          true_is_false (sym (any_in (holds n one.scope text) choices c is.at (three_so (n.counts c.0.0 one.scope) (bytes_eq (chosen_text n c) text) (n.occurs one.scope c.0.1)
          ((counts_chosen c d y is).1 counted)
          ((bytes_eq-Decides (chosen_text n c) text).1 (text_chosen c d y is ∙ same))
          ((fits.occurs one.scope c.0.1 b.0 y here.is.scope (id_chosen c d y is)).1 occurs)))
          ∙ none);
    }

    pub free_from : (text : List ℕ) → IsFreeText t r preserved counts taken b text → is_taken n choices one.scope text ≡ false
    free_from text h = or_from (n.preserved text) (list_any (holds n one.scope text) choices)
        (false_from_ne_true (n.preserved text) (λ e. h.not_preserved ((fits.preserved_text text).0 e)))
        (false_from_ne_true (list_any (holds n one.scope text) choices) (λ any.
        let (c, at, held) = any_contained (holds n one.scope text) choices any in
        let (counted, rest) = and_parts (n.counts c.0.0 one.scope) (bytes_eq (chosen_text n c) text && n.occurs one.scope c.0.1) held in
        let (same, occurs) = and_parts (bytes_eq (chosen_text n c) text) (n.occurs one.scope c.0.1) rest in
        let (d, y, e, is) = choice_earlier c at in
        h.not_held d y e ((counts_chosen c d y is).0 counted) ((fits.occurs one.scope c.0.1 b.0 y here.is.scope (id_chosen c d y is)).0 occurs)
        (sym (text_chosen c d y is) ∙ (bytes_eq-Decides (chosen_text n c) text).0 same)))

    -- the least
    pub least_at : (m : ℕ) → IsChosen n choices (numbers_of t a scopes places means one, m) → taken x ≡ m → IsLeast t r preserved counts taken b x
    least_at m h took = record {
      within = (let below = h.below in omega (arith, below, took));
      from_start = start_from (taken x) (let from = h.from in omega (arith, from, took));
      free = subst (IsFreeText t r preserved counts taken b) (fits.text one.id x m here.is.id ∙ ap (r.text x) (sym took)) (free_to (n.text one.id m) h.free);
      least = λ k less from free. true_is_false (sym (h.least k (start_to k from) (omega (arith, less, took))) ∙ free_from (n.text one.id k) (subst (IsFreeText t r preserved counts taken b) (sym (fits.text one.id x k here.is.id)) free));
    }

  -- each id that gets its name has a choice, whose counter is the least
  pub each_least : (i j : ℕ) (one : Numbered) (b : Site) (x : Id) (choices : List Choice) → AreChosen n (take i (numbered_sites a)) choices → j < i → IsAt t a scopes places means j one b x → IsNamedAt t r b x
      → (c : Choice) × IsChoiceAt n (numbered_sites a) choices j c × (c.0 ≡ numbers_of t a scopes places means one) × IsLeast t r preserved counts (taken_by a choices) b x × (taken_by a choices x ≡ c.1)
  each_least i j one b x choices chosen l at named =
      let (c, contained, same, is) = choice_at n (numbered_sites a) i choices j (numbers_of t a scopes places means one) chosen l (named_to t a scopes places means r preserved counts n fits j one b x at named) in
      let agree = agree_by i choices chosen in
      let took : taken_by a choices x ≡ c.1 = agree c contained x (renumbered a one.id c.0.1 x (ap (λ z. z.1) (sym same)) at.is.id) in (
        c,
        is,
        same,
        least_at j one b x at is.before is.chosen (taken_by a choices) (agree_before (taken_by a choices) choices j c is agree) c.1 (subst (λ z. IsChosen n is.before (z, c.1)) same is.is_chosen) took,
        took,
      )
