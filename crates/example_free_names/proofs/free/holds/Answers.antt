use Rattle.std.proofs.Common.{sym, ◌∙◌, refl, []}
use Rattle.std.specs.Str.{bytes_eq}
use Rattle.example_free_names.specs.Free.{text_of}
use Rattle.example_free_names.proofs.Once.{found_among}
use Rattle.example_free_names.proofs.free.holds.Goals as goal

pub returns-then-eq : goal.returns-then-eq
returns-then-eq c = sym (found_among (bytes_eq c.args.name.now) text_of c.args.names.now c.loop-other.other-index (record { ref_ptr = (0, 0); now = [] }) _ c.loop-other-test.true refl (sym c.eq.ensures ∙ c.if-eq.true))
