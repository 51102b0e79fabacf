use Rattle.std.proofs.Common.{arith}
use Rattle.mucwathi_looks.proofs.MarkingTexts.{names_done, names_more}
use Rattle.mucwathi_looks.proofs.write.have_same_texts.Goals as goal

pub sites-preserved : goal.sites-preserved
sites-preserved c =
    let l = c.sites in
    names_more c.args.names.now c.args.places.now l.i _ _ (omega arith) (omega arith) (c.has_text_of.ensures c.if-not-has_text_of.false) l.invariant

pub returns : goal.returns
returns c = λ so. names_done c.args.names.now c.args.places.now c.sites.i (omega arith) (omega arith) c.sites.invariant
