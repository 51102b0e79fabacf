use Rattle.std.proofs.Common.{◌≡◌, ◌↔◌, Contains, refl, subst, sym, arith}
use Rattle.std.proofs.lemmas.List.{take_all}
use Rattle.std.proofs.lemmas.List.Elements.{All-push}
use Rattle.std.specs.List.{All}
use Rattle.swc_tree_marks.specs.Globals.{Table, numbers}
use Rattle.mucwathi_looks.proofs.Rows.{row_again, row_more}
use Rattle.mucwathi_looks.proofs.table.rows_of.Goals as goal

pub marks-preserved-then-marks-i : goal.marks-preserved-then-marks-i
marks-preserved-then-marks-i c =
    let l = c.marks in
    record { below_root = l.invariant.below_root; marks = row_again l.rows.items c.args.marks.now l.i (omega arith) (omega arith) (omega arith) l.invariant.marks }

pub marks-preserved : goal.marks-preserved
marks-preserved c =
    let l = c.marks in
    record {
      below_root = subst (λ (x : Table). All (λ row. row.1 ≡ 0) x) (sym c.in_ok-push.ensures.items) (All-push (λ row. row.1 ≡ 0) l.rows.items _ l.invariant.below_root refl);
      marks = row_more l.rows.items _ c.args.marks.now l.i _ (omega arith) refl c.in_ok-push.ensures.items l.invariant.marks;
    }

pub returns : goal.returns
returns c = record {
  below_root = c.marks.invariant.below_root;
  marks = λ m. subst (λ l. Contains (numbers c.marks.rows.items) m ↔ Contains l m) (take_all c.marks.i c.args.marks.now (omega arith)) (c.marks.invariant.marks m);
}
