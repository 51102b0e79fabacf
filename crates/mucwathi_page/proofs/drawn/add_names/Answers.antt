use Rattle.std.proofs.Common.{◌++◌, get_or, arith, refl}
use Rattle.std.proofs.lemmas.Result.{on_ok_weaker}
use Rattle.mucwathi_page.specs.Drawn.{drawn}
use Rattle.mucwathi_page.proofs.Drawing.{inside_all, inside_step, no_use, rest_step}
use Rattle.mucwathi_page.proofs.drawn.add_names.Goals as goal

pub loop-each-preserved : goal.loop-each-preserved
loop-each-preserved c = record {
  within = c.in_ok-from.ensures.within;
  rest = rest_step c.args.text.now c.args.uses.now c.loop-each.each-index c.loop-each.from c.in_ok-from.from c.loop-each.out.items c.add_name.new.out.items (c.args.out.now.items ++ drawn c.args.text.now 0 c.args.uses.now) c.loop-each-test.true c.loop-each.invariant.rest
      c.in_ok-from.ensures.place c.in_ok-from.ensures.added;
  inside = inside_step c.args.uses.now c.loop-each.each-index (get_or c.args.uses.now c.loop-each.each-index no_use) no_use c.loop-each-test.true refl c.loop-each.invariant.inside c.in_ok-from.ensures.inside;
}

pub returns-clause-inside : goal.returns-clause-inside
returns-clause-inside c = on_ok_weaker c.add_text.result (λ h. inside_all c.args.uses.now c.loop-each.each-index (omega arith) c.loop-each.invariant.inside) c.add_text.ensures
