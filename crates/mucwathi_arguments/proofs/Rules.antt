-- Options and commands, added one after another.
use Rattle.std.proofs.Common.{◌≡◌, ◌∙◌, ℕ, ◌+◌, ◌<◌, ◌≤◌, ◌++◌, ap, sym, true, List, [], ◌∷◌, drop, get_or, map, length, rules}
use Rattle.std.specs.Borrow.{Bor}
use Rattle.std.specs.Prelude.{fold}
use Rattle.std.proofs.lemmas.List.{append_assoc, append-nil, drop_all, drop_more}
use Rattle.clap.specs.Walk.{is_empty, is_free_arg}
use Rattle.clap.specs.Words.{AddsConflicts, App, Rule, Text, with_rule, with_subcommand}
use Rattle.clap.specs.declared.builder.Arg.{Arg}
use Rattle.mucwathi_arguments.specs.Rules.{command_for, rule_for, rules_in, with_rules}
use Rattle.mucwathi_arguments.specs.declared.offers.Choice.{Choice}
use Rattle.mucwathi_arguments.specs.declared.offers.Offer.{Offer}

pub rules_more : (a : App) (r : Rule) (rs : List Rule) → with_rules (with_rule a r) rs ≡ with_rules a (r ∷ rs)
rules_more a r rs = ap (λ rules. record a { top = record a.top { rules = rules } }) (append_assoc a.top.rules (r ∷ []) rs)

pub rules_none : (a : App) → with_rules a [] ≡ a
rules_none a = ap (λ rules. record a { top = record a.top { rules = rules } }) (append-nil a.top.rules)

pub rules_both : (a : App) (one other : List Rule) → with_rules (with_rules a one) other ≡ with_rules a (one ++ other)
rules_both a one other = ap (λ rules. record a { top = record a.top { rules = rules } }) (append_assoc a.top.rules one other)

-- ---- loops: what is left is added to what is there

module _ (all : App) where
  pub choices_more : (a new : App) (cs : List Choice) (i : ℕ) (d : Choice) → i < length cs → new ≡ with_rule a (rule_for (get_or cs i d)) → with_rules a (map rule_for (drop i cs)) ≡ all → with_rules new (map rule_for (drop (i + 1) cs)) ≡ all
  choices_more a new cs i d within made h =
      ap (λ n. with_rules n (map rule_for (drop (i + 1) cs))) made ∙ rules_more a (rule_for (get_or cs i d)) (map rule_for (drop (i + 1) cs))
      ∙ ap (λ l. with_rules a (map rule_for l)) (sym (drop_more cs i d within)) ∙ h

  pub choices_done : (a : App) (cs : List Choice) (i : ℕ) → length cs ≤ i → with_rules a (map rule_for (drop i cs)) ≡ all → a ≡ all
  choices_done a cs i ended h = sym (rules_none a) ∙ ap (λ l. with_rules a (map rule_for l)) (sym (drop_all i cs ended)) ∙ h

  pub tables_more : (a new : App) (ts : List (Bor (List Choice))) (i : ℕ) (d : Bor (List Choice)) → i < length ts → new ≡ with_rules a (map rule_for (get_or ts i d).now) → with_rules a (rules_in (drop i ts)) ≡ all → with_rules new (rules_in (drop (i + 1) ts)) ≡ all
  tables_more a new ts i d within made h =
      ap (λ n. with_rules n (rules_in (drop (i + 1) ts))) made ∙ rules_both a (map rule_for (get_or ts i d).now) (rules_in (drop (i + 1) ts))
      ∙ ap (λ l. with_rules a (rules_in l)) (sym (drop_more ts i d within)) ∙ h

  pub tables_done : (a : App) (ts : List (Bor (List Choice))) (i : ℕ) → length ts ≤ i → with_rules a (rules_in (drop i ts)) ≡ all → a ≡ all
  tables_done a ts i ended h = sym (rules_none a) ∙ ap (λ l. with_rules a (rules_in l)) (sym (drop_all i ts ended)) ∙ h

  pub offers_more : (a new : App) (os : List Offer) (i : ℕ) (d : Offer) → i < length os → new ≡ with_subcommand a (command_for (get_or os i d)) → fold with_subcommand a (map command_for (drop i os)) ≡ all → fold with_subcommand new (map command_for (drop (i + 1) os)) ≡ all
  offers_more a new os i d within made h =
      ap (λ n. fold with_subcommand n (map command_for (drop (i + 1) os))) made
      ∙ ap (λ l. fold with_subcommand a (map command_for l)) (sym (drop_more os i d within)) ∙ h

  pub offers_done : (a : App) (os : List Offer) (i : ℕ) → length os ≤ i → fold with_subcommand a (map command_for (drop i os)) ≡ all → a ≡ all
  offers_done a os i ended h = ap (λ l. fold with_subcommand a (map command_for l)) (sym (drop_all i os ended)) ∙ h

-- ---- options that do not go with others

pub free_with : (a r : Arg) (others : List (Bor Text)) → AddsConflicts a r others → a.conflicts.items ≡ [] → is_free_arg a ≡ true → is_free_arg r ≡ is_empty others
free_with a r others adds none free = search rules
