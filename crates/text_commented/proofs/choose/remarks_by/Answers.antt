use Rattle.std.proofs.Common.{[], subst, arith}
use Rattle.std.proofs.lemmas.List.{append-nil}
use Rattle.text_commented.specs.Chosen.{AreChosen}
use Rattle.text_commented.proofs.Steps.{chosen_end, remark_more}
use Rattle.text_commented.proofs.choose.remarks_by.Goals as goal

pub comments-preserved : goal.comments-preserved
comments-preserved c = λ ps more all tight after.
    let l = c.comments in
    remark_more c.args.text.now ps c.args.comments.now l.i _ l.remarks.items _ _ more (omega arith) c.in_ok-push.ensures.items c.text_of.ensures (c.place_of.ensures ps all tight)
    (λ m h. l.invariant ps m all tight h) after

pub returns : goal.returns
returns c = λ ps all tight.
    let l = c.comments in
    subst (λ x. AreChosen c.args.text.now ps c.args.comments.now x) (append-nil l.remarks.items) (l.invariant ps [] all tight (chosen_end c.args.text.now ps c.args.comments.now l.i (omega arith)))
