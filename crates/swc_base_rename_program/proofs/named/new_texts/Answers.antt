use Rattle.std.proofs.Common.{arith}
use Rattle.std.proofs.lemmas.Result.{err_from_is_err_and}
use Rattle.swc_base_rename_naming.specs.Steps.{text_at}
use Rattle.swc_base_rename_program.proofs.named.new_texts.Goals as goal

pub returns-in_err-texts-clause-refused : goal.returns-in_err-texts-clause-refused
returns-in_err-texts-clause-refused g c =
    let refused = err_from_is_err_and c.from_residual-in_err-texts.result c.from_residual-in_err-texts.ensures.1 in
    rw (refused.1, refused.2) c.in_err-texts.ensures.refused

pub returns-clause-named : goal.returns-clause-named
returns-clause-named g c = record {
  texts = text_at c.in_ok-texts.texts;
  named = c.in_ok-texts.ensures.named;
  count = c.len.result;
  enough = omega (arith, c.len.ensures);
  is_table = c.in_ok-texts-2.ensures;
}
