use Rattle.std.proofs.Common.{false, map, take, drop}
use Rattle.text_pieces.specs.Pieces.{layout_pieces, lines, specified, template_from, with_commas, written, written_with}
use Rattle.text_walk.specs.Sinks.{Gains}
use Rattle.text_walk.proofs.Gained.{Owes}
use Rattle.text_walk.proofs.walk.+add.Given as goal

abbrev pub invariant-add_lines-loop-i : goal.invariant-add_lines-loop-i
invariant-add_lines-loop-i l = Gains l.initial.found (lines (map (written_with l.framed) (take l.i l.items))) l.found

abbrev pub invariant-add_list-loop-i : goal.invariant-add_list-loop-i
invariant-add_list-loop-i l = Gains l.initial.found (with_commas (map (written_with l.framed) (take l.i l.items))) l.found

abbrev pub invariant-add_specifiers-loop-i : goal.invariant-add_specifiers-loop-i
invariant-add_specifiers-loop-i l =
    Owes l.initial.found (specified false false l.items (map (written_with l.framed) l.items))
    l.found (specified l.some l.inside (drop l.i l.items) (map (written_with l.framed) (drop l.i l.items)))

abbrev pub invariant-add_template-loop-i : goal.invariant-add_template-loop-i
invariant-add_template-loop-i l =
    Owes l.initial.found (template_from l.framed false l.texts (map (written_with l.framed) l.parts))
    l.found (template_from l.framed l.some (drop l.i l.texts) (map (written_with l.framed) (drop l.i l.parts)))

abbrev pub invariant-add_fields-loop-i : goal.invariant-add_fields-loop-i
invariant-add_fields-loop-i l = Gains l.initial.found (layout_pieces l.framed l.fields (map (written l.framed) l.fields) (take l.i l.layout)) l.found
