use Rattle.std.proofs.Common.{refl, sym, subst, arith, ◌∙◌}
use Rattle.std.proofs.lemmas.List.Elements.{All-push}
use Rattle.std.specs.List.{All, slice_get}
use Rattle.text_commented.specs.Why.{IsTold}
use Rattle.text_commented.proofs.Steps.{left_more}
use Rattle.text_commented.proofs.left.left_by.Goals as goal

pub numbers-preserved : goal.numbers-preserved
numbers-preserved c =
    let l = c.numbers in
    record {
      each = left_more l.left.items _ _ c.args.numbers.now l.i _ (omega arith) refl c.in_ok-push.ensures ∙ l.invariant.each;
      told = λ ps all tight.
          subst (λ x. All (λ y. IsTold c.args.comments ps (slice_get c.args.remarks.now y.number) y.why) x) (sym c.in_ok-push.ensures)
          (All-push (λ y. IsTold c.args.comments ps (slice_get c.args.remarks.now y.number) y.why) l.left.items _ (l.invariant.told ps all tight) (c.in-Some.ensures ps all tight));
    }
