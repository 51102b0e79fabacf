-- Names as they are given, site by site.
use Rattle.std.specs.Prelude.{◌≡◌, ℕ, ◌+◌, ◌==◌, ◌⊎◌, Bool, true, false, ◌&&◌, ◌||◌, not, Option, Some, None, is_some, List, ◌∷◌, ◌++◌, codes, MatchOption, unwrap_or, [], if◌then◌else◌}
use Rattle.std.specs.Borrow.{Bor}
use Rattle.std.specs.Ordering.{nat_cmp}
use Rattle.std.specs.List.{AllByRecursion, last_or, list_any}
use Rattle.std.specs.Option.{option_map_or}
use Rattle.std.specs.BTreeMap.{BTreeMap, get}
use Rattle.std.specs.Str.{bytes_eq}
use Rattle.swc_base_rename_substitution.specs.Names.{Id}
use Rattle.swc_base_rename_naming.specs.Chained.{ids_of}
use Rattle.swc_base_rename_naming.specs.Free.{IsLeastFree, Test, Texts}
use Rattle.swc_tree_marks.specs.declared.error.PassError.{PassError}
use Rattle.swc_base_rename_naming.specs.InOrder.{AreChosen, Choice, IsRefused, Rules, Site, chosen_text, name_in, past}
use Rattle.swc_base_rename_naming.specs.declared.reverse_map.ReverseMap.{ReverseMap}
use Rattle.swc_base_rename_naming.specs.declared.in_order.GivenTexts.{GivenTexts}

-- an id keeps its text if it is preserved, or is `eval`
abbrev pub keeps_text : (Id → Bool) → Id → Bool
keeps_text keeps id = keeps id || bytes_eq id.0 (codes "eval")

-- what has no id stays as well
abbrev pub stays : (Id → Bool) → Option Id → Bool
stays keeps id = option_map_or (keeps_text keeps) id true

abbrev pub id_or : Option Id → Id
id_or id = unwrap_or id ([], [])

-- all names count at each scope
abbrev pub all_count : ℕ → ℕ → Bool
all_count u s = true

-- names of scopes that leak count at each scope, those of the others at those scopes that theirs surround
abbrev pub counts_with : (ℕ → Bool) → (ℕ → ℕ → Bool) → ℕ → ℕ → Bool
counts_with leaks surrounds u s = leaks u || surrounds u s

-- what names go by: the texts of ids, whether the counter goes on within a scope, which ids keep their texts, which texts
-- nobody may get, which ids occur at a scope or below it, whether names of one scope count at another, and the id of a number
pub record Naming : Type 0 where
  pub text : Id → ℕ → List ℕ
  pub counter_goes_on : Bool
  pub keeps : Id → Bool
  pub preserved : List ℕ → Bool
  pub occurs : ℕ → ℕ → Bool
  pub counts : ℕ → ℕ → Bool
  pub id_of : ℕ → Option Id

abbrev pub naming : (Id → ℕ → List ℕ) → Bool → (Id → Bool) → (List ℕ → Bool) → (ℕ → ℕ → Bool) → (ℕ → ℕ → Bool) → (ℕ → Option Id) → Naming
naming text counter_goes_on keeps preserved occurs counts id_of = record {
  text = text;
  counter_goes_on = counter_goes_on;
  keeps = keeps;
  preserved = preserved;
  occurs = occurs;
  counts = counts;
  id_of = id_of;
}

abbrev pub id_at : Naming → ℕ → Id
id_at n x = id_or (n.id_of x)

-- the rules for the ids' numbers
abbrev pub rules : Naming → Rules
rules n = record {
  text = λ x k. n.text (id_at n x) k;
  counter_goes_on = n.counter_goes_on;
  stays = λ x. stays n.keeps (n.id_of x);
  preserved = n.preserved;
  occurs = n.occurs;
  counts = n.counts;
}

-- a table from numbers to texts, as a function
abbrev pub text_at : BTreeMap ℕ (List ℕ) → ℕ → Option (List ℕ)
text_at = get nat_cmp

-- an id is to get a name if it has none, and does not keep its text
abbrev pub IsNamable : (Id → Bool) → (ℕ → Option Id) → BTreeMap ℕ (List ℕ) → ℕ → Option (Bor Id) → Type 0
IsNamable keeps id_of texts number found = MatchOption found
    ((stays keeps (id_of number) ≡ true) ⊎ (is_some (text_at texts number) ≡ true))
    (λ id. (id_of number ≡ Some id.now) × ((keeps_text keeps id.now ≡ false) × (text_at texts number ≡ None)))

-- the map of a scope, and that of the scopes that leak
abbrev pub Maps : Type 0
Maps = ReverseMap × ReverseMap

-- one of the ids that a text was given to passes the test
abbrev pub any_holder : (ℕ → Bool) → Maps → List ℕ → Bool
any_holder f maps x = list_any f (ids_of maps.0 x) || list_any f (ids_of maps.1 x)

-- what is taken at a scope
abbrev pub taken_at : (List ℕ → Bool) → (ℕ → ℕ → Bool) → Maps → ℕ → Test
taken_at preserved occurs maps scope text = preserved text || any_holder (occurs scope) maps text

-- a text has in a map the ids that it had there, and maybe more
abbrev pub HasMore : ReverseMap → ReverseMap → Type 0
HasMore was is = (x : List ℕ) (f : ℕ → Bool) → list_any f (ids_of was x) ≡ true → list_any f (ids_of is x) ≡ true

-- a map has the ids that it had, and where it is so one id more
abbrev pub HasAlso : Bool → List ℕ → ℕ → ReverseMap → ReverseMap → Type 0
HasAlso more text id was is = (x : List ℕ) (f : ℕ → Bool) → list_any f (ids_of is x) ≡ (list_any f (ids_of was x) || (more && (bytes_eq text x && f id)))

-- an id that got a text is in the map of those that leak if its scope does, else in that of the scope
pub record IsTextRecorded (leaks : Bool) (text : List ℕ) (id : ℕ) (was is : Maps) : Type 0 where
  pub holders : HasAlso (not leaks) text id was.0 is.0
  pub leaked : HasAlso leaks text id was.1 is.1

-- the counter from which an id of a scope starts
abbrev pub next_at : Bool → GivenTexts → ℕ → ℕ
next_at counter_goes_on names scope = if counter_goes_on && (names.scope == scope) then names.next else 0

-- a text is recorded for the id of a number, and the counter after it
pub record IsChoiceRecorded (text : List ℕ) (site : Site) (after : ℕ) (was is : GivenTexts) : Type 0 where
  pub texts : (x : ℕ) → text_at is.texts x ≡ (if site.1 == x then Some text else text_at was.texts x)
  pub scope : is.scope ≡ site.0
  pub next : is.next ≡ after

-- an id got the text of the least counter from its start on that is free, and it was recorded
pub record IsNameGiven (text : Texts) (taken : Test) (start : ℕ) (leaks : Bool) (site : Site) (was is : GivenTexts) (maps_were maps_are : Maps) : Type 0 where
  pub counter : ℕ
  pub least : IsLeastFree text taken start counter
  pub choice_recorded : IsChoiceRecorded (text counter) site (counter + 1) was is
  pub text_recorded : IsTextRecorded leaks (text counter) site.1 maps_were maps_are

-- whether the scope of a choice is one of these, and it has the text and its id passes the test
abbrev pub is_held : Naming → (ℕ → Bool) → List ℕ → (ℕ → Bool) → Choice → Bool
is_held n scopes x f c = scopes c.0.0 && (bytes_eq (chosen_text (rules n) c) x && f c.0.1)

-- the map has the ids of the choices of these scopes
abbrev pub Holds : Naming → (ℕ → Bool) → List Choice → ReverseMap → Type 0
Holds n scopes choices map = (x : List ℕ) (f : ℕ → Bool) → list_any f (ids_of map x) ≡ list_any (is_held n scopes x f) choices

-- the maps have the ids of the choices whose scopes count at a scope
abbrev pub AreHeld : Naming → ℕ → List Choice → Maps → Type 0
AreHeld n s choices maps = (x : List ℕ) (f : ℕ → Bool) → any_holder f maps x ≡ list_any (is_held n (λ u. n.counts u s) x f) choices

-- the ids of the sites that are done were named in order, and texts and counter are those of the choices
pub record Stands (n : Naming) (done : List Site) (choices : List Choice) (names : GivenTexts) : Type 0 where
  pub chosen : AreChosen (rules n) done choices
  pub texts : (x : ℕ) → text_at names.texts x ≡ name_in (rules n) choices x
  pub counter : (u : ℕ) → (if names.scope == u then names.next else 0) ≡ past u (last_or None choices)

-- a map that had the ids of the choices of some scopes has those of more choices
abbrev pub HoldsOn : Naming → (ℕ → Bool) → List Choice → List Choice → ReverseMap → ReverseMap → Type 0
HoldsOn n scopes choices more was is = Holds n scopes choices was → Holds n scopes (choices ++ more) is

-- one site more is done, with a choice of its scope or none, whose id is in the map of those that leak if the scope does
pub record IsDone (n : Naming) (leaks : Bool) (done : List Site) (choices : List Choice) (site : Site) (is : GivenTexts) (maps_were maps_are : Maps) : Type 0 where
  pub more : List Choice
  pub own : AllByRecursion (λ c. c.0.0 ≡ site.0) more
  pub stands : Stands n (done ++ site ∷ []) (choices ++ more) is
  pub holders : (scopes : ℕ → Bool) → scopes site.0 ≡ not leaks → HoldsOn n scopes choices more maps_were.0 maps_are.0
  pub leaked : (scopes : ℕ → Bool) → scopes site.0 ≡ leaks → HoldsOn n scopes choices more maps_were.1 maps_are.1

abbrev pub IsSiteDone : Naming → Bool → Site → GivenTexts → GivenTexts → Maps → Maps → Type 0
IsSiteDone n leaks site was is maps_were maps_are = (done : List Site) (choices : List Choice) → Stands n done choices was → AreHeld n site.0 choices maps_were → IsDone n leaks done choices site is maps_were maps_are

abbrev pub IsSiteRefused : Naming → Site → GivenTexts → Maps → PassError → Type 0
IsSiteRefused n site was maps e = (done after : List Site) (choices : List Choice) → Stands n done choices was → AreHeld n site.0 choices maps → IsRefused (rules n) (done ++ site ∷ after) e
