use Rattle.std.proofs.Common.{subst}
use Rattle.std.specs.Io.KnownBytes.{Appends}
use Rattle.jsbase_stream.specs.Bytes.{TakesBeginning}
use Rattle.jsbase_commands.proofs.Beginnings.{first_is_cut, second_is_cut, third_is_cut, none_is_cut}
use Rattle.jsbase_commands.proofs.fault.write_parts.Goals as goal

pub returns-in_err-write_counted : goal.returns-in_err-write_counted
returns-in_err-write_counted g c =
    let k = g.W.Write.contents in
    first_is_cut (k c.args.out.now) (k c.write_counted.new.writer) (k c.write_counted.new.writer) (k c.write_counted.new.writer) c.args.cause.now c.args.detail.now c.args.end.now c.in_err-write_counted.field-0.0
    (subst (λ xs. TakesBeginning (k c.args.out.now) (k c.write_counted.new.writer) xs c.in_err-write_counted.field-0.0) c.as_bytes.ensures.value c.in_err-write_counted.ensures.beginning)

pub returns-in_err-write_counted-2 : goal.returns-in_err-write_counted-2
returns-in_err-write_counted-2 g c =
    let k = g.W.Write.contents in
    second_is_cut (k c.args.out.now) (k c.write_counted.new.writer) (k c.write_counted-2.new.writer) (k c.write_counted-2.new.writer) c.args.cause.now c.args.detail.now c.args.end.now c.in_err-write_counted-2.field-0.0
    (subst (λ xs. Appends (k c.args.out.now) (k c.write_counted.new.writer) xs) c.as_bytes.ensures.value c.in_ok-write_counted.ensures.whole)
    (subst (λ xs. TakesBeginning (k c.write_counted.new.writer) (k c.write_counted-2.new.writer) xs c.in_err-write_counted-2.field-0.0) c.as_bytes-2.ensures.value c.in_err-write_counted-2.ensures.beginning)

pub returns-in_err-write_counted-3 : goal.returns-in_err-write_counted-3
returns-in_err-write_counted-3 g c =
    let k = g.W.Write.contents in
    third_is_cut (k c.args.out.now) (k c.write_counted.new.writer) (k c.write_counted-2.new.writer) (k c.write_counted-3.new.writer) c.args.cause.now c.args.detail.now c.args.end.now c.in_err-write_counted-3.field-0.0
    (subst (λ xs. Appends (k c.args.out.now) (k c.write_counted.new.writer) xs) c.as_bytes.ensures.value c.in_ok-write_counted.ensures.whole)
    (subst (λ xs. Appends (k c.write_counted.new.writer) (k c.write_counted-2.new.writer) xs) c.as_bytes-2.ensures.value c.in_ok-write_counted-2.ensures.whole)
    (subst (λ xs. TakesBeginning (k c.write_counted-2.new.writer) (k c.write_counted-3.new.writer) xs c.in_err-write_counted-3.field-0.0) c.as_bytes-3.ensures.value c.in_err-write_counted-3.ensures.beginning)

pub returns : goal.returns
returns g c =
    let k = g.W.Write.contents in
    none_is_cut (k c.args.out.now) (k c.write_counted.new.writer) (k c.write_counted-2.new.writer) (k c.write_counted-3.new.writer) c.args.cause.now c.args.detail.now c.args.end.now
    (subst (λ xs. Appends (k c.args.out.now) (k c.write_counted.new.writer) xs) c.as_bytes.ensures.value c.in_ok-write_counted.ensures.whole)
    (subst (λ xs. Appends (k c.write_counted.new.writer) (k c.write_counted-2.new.writer) xs) c.as_bytes-2.ensures.value c.in_ok-write_counted-2.ensures.whole)
    (subst (λ xs. Appends (k c.write_counted-2.new.writer) (k c.write_counted-3.new.writer) xs) c.as_bytes-3.ensures.value c.in_ok-write_counted-3.ensures.whole)
