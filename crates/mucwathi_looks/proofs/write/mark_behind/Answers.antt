use Rattle.mucwathi_looks.proofs.Writing.{written_behind}
use Rattle.mucwathi_looks.proofs.write.mark_behind.Goals as goal

pub returns : goal.returns
returns c =
    let texts = c.have_same_texts.ensures c.if-not-have_same_texts.false in
    written_behind c.args.names.now c.args.again.now c.in_ok-found.found.items c.as_slice-places.result.now c.in_ok-signs.signs.items c.as_slice.result.now c.args.plain.now c.in_ok-out.out.items c.as_slice-places.ensures.value c.in_ok-found.ensures.all texts c.in_ok-signs.ensures c.as_slice.ensures.value c.in_ok-out.ensures
