use Rattle.std.proofs.Common.{inr, subst}
use Rattle.mucwathi_looks.specs.Answered.{HasSignsOf}
use Rattle.mucwathi_looks.proofs.Ready.{given_ready}
use Rattle.mucwathi_looks.proofs.resolved.resolve_marked.Goals as goal

pub resolve-requires : goal.resolve-requires
resolve-requires c = given_ready c.args.goal c.args.text.now c.in_ok-marked.marked c.in_ok-marked.ensures

pub returns-in-Ok : goal.returns-in-Ok
returns-in-Ok c =
    let given = c.in_ok-marked.marked in
    record { given = given; is_given = c.in_ok-marked.ensures; resolved = subst (λ l. HasSignsOf given.program l c.in-Ok.out.items) c.as_slice.ensures.value c.in-Ok.ensures }

pub returns : goal.returns
returns c = inr (record { given = c.in_ok-marked.marked; is_given = c.in_ok-marked.ensures; refused = c.in-Err.ensures })
