use Rattle.std.proofs.Common.{◌≡◌, ◌∷◌, []}
use Rattle.std.proofs.lemmas.Result.{IfOk-weaker}
use Rattle.mucwathi_mappings.specs.declared.encode.Told.{Told}
use Rattle.mucwathi_mappings.specs.Mappings.{Continues}
use Rattle.mucwathi_mappings.proofs.Telling.{continues_there}
use Rattle.mucwathi_mappings.proofs.encode.add_behind.Goals as goal

pub add_entry-requires : goal.add_entry-requires
add_entry-requires c = c.in_ok-here.ensures.1

pub returns : goal.returns
returns c =
    IfOk-weaker c.add_entry.result (λ (t : Told). Continues c.in_ok-here.here (c.args.entry ∷ []) c.go_to_line.new.out.items c.add_entry.new.out.items t × (t.line ≡ c.args.entry.line))
    (λ (t : Told). Continues c.args.told (c.args.entry ∷ []) c.args.out.now.items c.add_entry.new.out.items t × (t.line ≡ c.args.entry.line))
    (λ t h. (continues_there c.args.told c.in_ok-here.here t c.args.entry c.args.out.now.items c.go_to_line.new.out.items c.add_entry.new.out.items c.in_ok-here.ensures.0 h.0, h.1)) c.add_entry.ensures
