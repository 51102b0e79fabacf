use Rattle.std.proofs.Common.{inr, subst}
use Rattle.std.proofs.lemmas.Result.{MatchResult-weaker}
use Rattle.mucwathi_looks.specs.Answered.{IsRemade}
use Rattle.mucwathi_looks.proofs.Ready.{given_ready}
use Rattle.mucwathi_looks.proofs.write.rewrite_marked.Goals as goal

pub rewrite-requires : goal.rewrite-requires
rewrite-requires c = given_ready c.args.order.now.goal c.args.text.now c.in_ok-marked.marked c.in_ok-marked.ensures

pub returns : goal.returns
returns c =
    let order = c.args.order.now in
    let given = c.in_ok-marked.marked in
    MatchResult-weaker c.rewrite.result c.rewrite.ensures
    (λ out h. record { given = given; is_given = c.in_ok-marked.ensures; remade = subst (λ l. IsRemade order given.program l out.items) c.as_slice.ensures.value h })
    (λ f h. inr (record { given = given; is_given = c.in_ok-marked.ensures; refused = h }))
