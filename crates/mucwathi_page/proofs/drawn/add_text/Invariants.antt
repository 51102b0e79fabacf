use Rattle.std.proofs.Common.{◌≡◌, ◌++◌, take}
use Rattle.mucwathi_page.specs.Drawn.{as_html}
use Rattle.mucwathi_page.proofs.drawn.add_text.Given as goal

abbrev pub invariant-loop-byte : goal.invariant-loop-byte
invariant-loop-byte l = l.out.items ≡ l.initial.out.items ++ as_html (take l.byte-index l.part)
