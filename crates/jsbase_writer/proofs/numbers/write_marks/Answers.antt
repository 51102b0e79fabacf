use Rattle.std.proofs.Common.{◌+◌, ◌∷◌, rules, map, drop, refl, sym, ap, ◌∙◌, arith}
use Rattle.std.proofs.lemmas.List.{drop_more, drop_all}
use Rattle.std.proofs.lemmas.Grind.{common_steps}
use Rattle.jsbase_form.specs.Writing.{natural}
use Rattle.jsbase_writer.proofs.Tokens.{array_opened, item_written, array_closed, number_written}
use Rattle.jsbase_writer.proofs.numbers.write_marks.Goals as goal

pub loop-mark-init : goal.loop-mark-init
loop-mark-init c = (array_opened (map natural c.args.marks.now) c.args.out.now.tokens c.begin_array.new.self.tokens c.in_ok-begin_array.ensures.ok, search rules, refl)

pub loop-mark-preserved : goal.loop-mark-preserved
loop-mark-preserved c =
    let ns = c.args.marks.now in
    let i = c.loop-mark.mark-index in
    let n = c.mark-item.result in
    let here = drop_more ns i n (omega arith) ∙ ap (λ n. n ∷ drop (i + 1) ns) (sym c.mark-item.is) in
    let number = number_written n _ _ _ c.in_ok-u64.ensures.ok (c.from.ensures ∙ c.as_u32.ensures) in (
      item_written (map natural (drop i ns)) (map natural (drop (i + 1) ns)) (natural n) _ _ _ c.loop-mark.invariant.0 (ap (map natural) here) number,
      search rules,
      grind (arith, common_steps),
    )

pub returns-clause-written : goal.returns-clause-written
returns-clause-written c =
    let ns = c.args.marks.now in
    let i = c.loop-mark.mark-index in
    array_closed (map natural (drop i ns)) _ _ _ c.loop-mark.invariant.0 (ap (map natural) (drop_all i ns (omega arith))) c.in_ok-end_array.ensures.ok
