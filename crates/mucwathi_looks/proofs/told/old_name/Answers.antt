use Rattle.std.proofs.Common.{Option, option_map, Bor, List, ℕ, ap, sym, ◌∙◌}
use Rattle.mucwathi_mappings.specs.Names.{text_of}
use Rattle.mucwathi_looks.specs.Spots.{names_in}
use Rattle.mucwathi_looks.proofs.MappedNaming.{no_name, no_old, other_old, same_old}
use Rattle.mucwathi_looks.proofs.told.old_name.Goals as goal

pub returns-in-None : goal.returns-in-None
returns-in-None c = no_name (names_in c.args.olds.now) c.args.new.now c.in-None.is

pub returns-in-None-get : goal.returns-in-None-get
returns-in-None-get c = no_old (names_in c.args.olds.now) c.args.new.now c.in-Some.name c.in-Some.is (ap (option_map text_of) (sym c.in-None-get.ensures.value))

pub returns-then-is_same : goal.returns-then-is_same
returns-then-is_same c =
    same_old (names_in c.args.olds.now) c.args.new.now c.in-Some.name c.in-Some-get.old.now.now c.in-Some.is (ap (option_map text_of) (sym c.in-Some-get.ensures.value)) (sym c.is_same.ensures ∙ c.if-is_same.true)

pub returns-else-is_same : goal.returns-else-is_same
returns-else-is_same c =
    other_old (names_in c.args.olds.now) c.args.new.now c.in-Some.name c.in-Some-get.old.now.now c.in-Some.is (ap (option_map text_of) (sym c.in-Some-get.ensures.value)) (sym c.is_same.ensures ∙ c.if-is_same.false)
