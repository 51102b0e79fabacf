-- What some command lines ask for, computed.
use Rattle.std.proofs.Common.{◌≡◌, true, false, refl, List, [], ◌∷◌, Option, Some}
use Rattle.std.specs.Prelude.{codes, option_map, unwrap_or}
use Rattle.clap.proofs.OnLiterals.{clap_on_literals}
use Rattle.clap.specs.Words.{Row, Text, all_of, first_of, subcommand_of}
use Rattle.text_parser.specs.declared.programs.Goal.TheVariants as goal
use Rattle.mucwathi_order.specs.declared.order.Style.TheVariants as style
use Rattle.mucwathi_arguments.specs.Asked.{goal_asked, said, source_asked, style_asked, top_asked}
use Rattle.mucwathi_arguments.specs.Offered.{offered}
use Rattle.mucwathi_arguments.specs.declared.task.Source.TheVariants as source

-- the name of the command, and what is asked behind it
abbrev asked : {A : Type 0} → (List Row → A) → List Text → Option (Text × A)
asked f words = option_map (λ (p : Text × List Row). (p.0, f p.1)) (subcommand_of offered (codes "mucwathi" ∷ words))

mangled : asked style_asked (codes "mangle" ∷ codes "--compact" ∷ codes "a.js" ∷ []) ≡ Some (codes "mangle", style.Compact)
unfolding clap_on_literals
mangled = refl

modules : asked goal_asked (codes "chain" ∷ codes "--in-place" ∷ codes "--module" ∷ codes "a.js" ∷ codes "b.js" ∷ []) ≡ Some (codes "chain", Some goal.Module)
unfolding clap_on_literals
modules = refl

two : asked (λ rs. unwrap_or (all_of (codes "file") rs) []) (codes "chain" ∷ codes "--in-place" ∷ codes "--module" ∷ codes "a.js" ∷ codes "b.js" ∷ []) ≡ Some (codes "chain", codes "a.js" ∷ codes "b.js" ∷ [])
unfolding clap_on_literals
two = refl

folder : asked (first_of (codes "out")) (codes "fix" ∷ codes "--out" ∷ codes "d" ∷ codes "a.js" ∷ []) ≡ Some (codes "fix", Some (codes "d"))
unfolding clap_on_literals
folder = refl

marked : asked source_asked (codes "resolve" ∷ codes "--marks" ∷ []) ≡ Some (codes "resolve", source.Marked)
unfolding clap_on_literals
marked = refl

kept : asked top_asked (codes "mangle" ∷ codes "--keep-top" ∷ []) ≡ Some (codes "mangle", Some true)
unfolding clap_on_literals
kept = refl

spelled : asked (said (codes "any-spelling")) (codes "judge" ∷ codes "a" ∷ codes "b" ∷ []) ≡ Some (codes "judge", false)
unfolding clap_on_literals
spelled = refl

after : asked (first_of (codes "after")) (codes "judge" ∷ codes "a" ∷ codes "b" ∷ []) ≡ Some (codes "judge", Some (codes "b"))
unfolding clap_on_literals
after = refl
