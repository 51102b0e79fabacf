use Rattle.std.proofs.Common.{◌++◌, ◌∷◌, []}
use Rattle.std.proofs.lemmas.List.Elements.{All-push, All-same}
use Rattle.mucwathi_mappings.specs.Positions.{IsMark}
use Rattle.mucwathi_mappings.specs.declared.positions.Mark.{Mark}
use Rattle.mucwathi_mappings.proofs.positions.add_mark.Goals as goal

pub returns-in_ok-push : goal.returns-in_ok-push
returns-in_ok-push c =
    let mark : Mark = record { at = c.args.at; position = c.args.position } in
    All-same (IsMark c.args.text.now) c.push.new.self.items (c.args.marks.now.items ++ mark ∷ []) c.in_ok-push.ensures.items
    (All-push (IsMark c.args.text.now) c.args.marks.now.items mark c.requires.before (record { within = c.requires.within; placed = c.requires.placed }))
