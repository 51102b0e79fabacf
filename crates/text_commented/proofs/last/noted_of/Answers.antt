use Rattle.std.proofs.Common.{arith}
use Rattle.text_commented.proofs.Lasting.{note_all, note_step}
use Rattle.text_commented.proofs.last.noted_of.Goals as goal

pub placed-preserved : goal.placed-preserved
placed-preserved c =
    let notes = c.in_ok-is_noted.ensures c.if-not-is_noted.false in
    record {
      listed = notes.listed c.placed.invariant.listed;
      noted = note_step c.args.remarks.now c.args.placed.now c.placed.i _ c.placed.noted c.note.new.noted (omega arith) c.placed.invariant.noted notes;
    }

pub returns : goal.returns
returns c = (
  c.in_ok-ready.ensures.ready,
  note_all c.args.remarks.now c.args.placed.now c.placed.i c.placed.noted.behind c.in_ok-ready.ready.behind (omega arith) c.in_ok-ready.ensures.same c.placed.invariant.noted,
)
