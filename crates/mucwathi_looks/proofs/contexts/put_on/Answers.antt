use Rattle.std.proofs.Common.{◌++◌, ap, ◌∙◌}
use Rattle.mucwathi_looks.specs.Given.{marks_at}
use Rattle.mucwathi_looks.proofs.contexts.put_on.Goals as goal

pub returns : goal.returns
returns c = λ rises.
    let i = c.args.ident.now in
    ap (λ x. record i { ctxt = x }) (c.in_ok-put_all.ensures ∙ ap (λ l. i.ctxt ++ l) (c.marks_behind-marks.ensures rises) ∙ ap (λ n. i.ctxt ++ marks_at c.args.signs.now n) c.saturating_sub-behind.ensures)
