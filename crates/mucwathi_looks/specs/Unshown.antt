-- Why a text is not shown.
use Rattle.std.specs.Prelude.{◌⊎◌, ℕ, List, false}
use Rattle.text_parser.specs.declared.programs.Goal.{Goal}
use Rattle.mucwathi_settings.specs.declared.command.Command.TheVariants as command
use Rattle.mucwathi_order.specs.declared.order.Memory.TheVariants as memory
use Rattle.mucwathi_order.specs.declared.order.Order.{Order}
use Rattle.mucwathi_order.specs.declared.order.Style.TheVariants as style
use Rattle.mucwathi_commands.specs.Faults.{IsRunFault}
use Rattle.mucwathi_order.specs.declared.fault.RunFault.{RunFault}
use Rattle.mucwathi_looks.specs.Looks.{IsUnlooked}

-- a chain by which it is told what names are called anew
abbrev pub chain_order : Goal → (depth : ℕ) → Order
chain_order g depth = record { command = command.Chain; goal = g; depth = depth; settings = record { keep_class_names = false; ignore_eval = false; keep_top = false }; style = style.Kept; memory = memory.GivenBack }

-- that chain is refused, or the text is not read, or what is done with its program is refused
abbrev pub IsUnshown : Goal → (depth : ℕ) → List ℕ → RunFault → Type 0
IsUnshown g depth text f = IsRunFault (chain_order g depth) text f ⊎ IsUnlooked g text f
