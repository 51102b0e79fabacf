-- What stands behind a command's name, as a parse found it.
use Rattle.std.proofs.Common.{◌≡◌, ◌∙◌, ap, sym, refl, true, false, List, [], map, Option, Some, None}
use Rattle.std.specs.Borrow.{Bor}
use Rattle.std.specs.Str.{bytes_eq}
use Rattle.std.specs.Prelude.{codes, option_map, unwrap_or}
use Rattle.clap.proofs.WalkLemmas.{first_value-rows, raw_values-rows}
use Rattle.clap.specs.Words.{Row, Text, all_of, first_of, first_value, found_of, matched_of, raw_values, subcommand_name_of, subcommand_of, subcommand_rows, subcommand_rows_of, HasMatchesOf, is_simple, App}
use Rattle.clap.specs.declared.parser.ArgMatches.{ArgMatches}
use Rattle.clap.specs.declared.parser.ArgMatches.TheViews.{out-ArgMatches}
use Rattle.mucwathi_arguments.specs.Asked.{IsAskedBy, IsGiven, IsTaskOf, is_yes, rows, said}
use Rattle.mucwathi_arguments.specs.Offered.{offered}
use Rattle.mucwathi_arguments.specs.declared.task.Task.{Task}

module _ (m : ArgMatches) (id : Text) (value : Option (Bor Text)) (is : option_map (λ v. v.now) value ≡ first_value (found_of m) id) where
  pub value_found : IsGiven id (rows m) value
  value_found = is ∙ first_value-rows (found_of m) id

  pub is_value : (same : Option (Bor Text)) → value ≡ same → first_of id (rows m) ≡ option_map (λ v. v.now) same
  is_value same so = sym value_found ∙ ap (option_map (λ (v : Bor Text). v.now)) so

  pub said_some : (word : Bor Text) → value ≡ Some word → bytes_eq word.now (codes "true") ≡ said id (rows m)
  said_some word so = ap is_yes (ap (option_map (λ (v : Bor Text). v.now)) (sym so) ∙ value_found)

  pub said_none : value ≡ None → false ≡ said id (rows m)
  said_none so = ap is_yes (ap (option_map (λ (v : Bor Text). v.now)) (sym so) ∙ value_found)

value_or : (value : Option (Bor Text)) (none found : Bor Text) (first : Option Text) → option_map (λ v. v.now) value ≡ first → none.now ≡ [] → found ≡ unwrap_or value none → found.now ≡ unwrap_or first []
value_or None none found first is empty so = ap (λ (f : Bor Text). f.now) so ∙ empty ∙ ap (λ (o : Option Text). unwrap_or o []) is
value_or (Some v) none found first is empty so = ap (λ (f : Bor Text). f.now) so ∙ ap (λ (o : Option Text). unwrap_or o []) is

pub found_or : (m : ArgMatches) (id : Text) (value : Option (Bor Text)) (none found : Bor Text) → option_map (λ v. v.now) value ≡ first_value (found_of m) id → none.now ≡ [] → found ≡ unwrap_or value none → found.now ≡ unwrap_or (first_of id (rows m)) []
found_or m id value none found is empty so = value_or value none found (first_of id (rows m)) (value_found m id value is) empty so

module _ (m : ArgMatches) (id : Text) (values : Option (Bor (List (Bor Text)))) (is : option_map (λ s. map (λ v. v.now) s.now) values ≡ option_map raw_values (matched_of (found_of m) id)) where
  pub files_some : (words : Bor (List (Bor Text))) → values ≡ Some words → map (λ v. v.now) words.now ≡ unwrap_or (all_of id (rows m)) []
  files_some words so = ap (λ o. unwrap_or o []) (ap (option_map (λ (s : Bor (List (Bor Text))). map (λ v. v.now) s.now)) (sym so) ∙ (is ∙ raw_values-rows (found_of m) id))

  pub files_none : values ≡ None → [] ≡ unwrap_or (all_of id (rows m)) []
  files_none so = ap (λ o. unwrap_or o []) (ap (option_map (λ (s : Bor (List (Bor Text))). map (λ v. v.now) s.now)) (sym so) ∙ (is ∙ raw_values-rows (found_of m) id))

-- ---- the command that was named

module _ {X : Type 0} (f : X → Text) (g : X → List Row) where
  abbrev both : X → Text × List Row
  both b = (f b, g b)

  entered : (o : Option X) (name : Text) (rs : List Row) → option_map f o ≡ Some name → option_map (λ (p : Text × List Row). p.1) (option_map both o) ≡ Some rs → option_map both o ≡ Some (name, rs)
  entered None name rs one other = absurd (cc)
  entered (Some b) name rs one other = cc

named_rows : (m : ArgMatches) (name : Text) (rs : List Row) → subcommand_name_of m ≡ Some name → option_map (λ (p : Text × List Row). p.1) (subcommand_rows (out-ArgMatches m).subcommand) ≡ Some rs → subcommand_rows_of m ≡ Some (name, rs)
named_rows m name rs named behind = entered _ _ (out-ArgMatches m).subcommand name rs named behind

offered_simple : is_simple offered ≡ true
offered_simple = refl

pub asked_by : (app : App) (m : ArgMatches) (words : List Text) (name : Text) (rs : List Row) (task : Task) → app ≡ offered → HasMatchesOf app words m → subcommand_name_of m ≡ Some name
    → option_map (λ (p : Text × List Row). p.1) (subcommand_rows (out-ArgMatches m).subcommand) ≡ Some rs → IsTaskOf name rs task → IsAskedBy words task
asked_by app m words name rs task is has named behind asked =
    let found = has (ap is_simple is ∙ offered_simple) in
    (name, rs, sym (found.1 ∙ ap (λ a. subcommand_of a words) is) ∙ named_rows m name rs named behind, asked)
